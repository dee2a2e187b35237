-- Whether flags stand in a set of ports, in a list of LSPs and in a database.
use Rattle.std.specs.Prelude.{◌≡◌, ℕ, zero, suc, ◌+◌, ◌-◌, ◌*◌, ◌/◌, ◌%◌, ◌^◌, ◌<◌, Bool, true, false, not, ◌||◌, ◌&&◌, ◌==◌, nat_le, max, bit_or, cond, List, [], ◌∷◌, ◌++◌, map, filter, length, take, drop, Option, Some, None}
use Rattle.std.proofs.Common.{refl, sym, ap, subst, ◌∙◌, arith, get_or, ⊎_elim}
use Rattle.std.proofs.lemmas.Bool.{and_parts, cases_lt}
use Rattle.std.proofs.lemmas.Bool.Decides.{nat_tests}
use Rattle.std.proofs.lemmas.Nat.{mod_below}
use Rattle.std.proofs.lemmas.Nat.Bits.{bit_at_cat_low, bit_at_or, bit_at-lt}
use Rattle.std.proofs.lemmas.List.Folds.{list_any_more}
use Rattle.std.proofs.Math.Nat.{mod-eq_of_lt}
use Rattle.std.specs.Int.{bit_at}
use Rattle.std.specs.List.{list_any}
use Rattle.std.specs.declared.cmp.Ordering.{Ordering}
use Rattle.std.specs.declared.cmp.Ordering.TheVariants.{Less, Equal, Greater}
use Rattle.std.specs.Ordering.{is_eq, is_lt}
use Rattle.std.specs.FinMap.{find, is_sorted, entries, entries_sorted, from_sorted, get-entries}
use Rattle.std.specs.FinMap.Entries.{below_all}
use Rattle.spb_types.specs.declared.address.LspId.{LspId}
use Rattle.spb_types.specs.declared.ports.PortSet.{PortSet}
use Rattle.spb_types.specs.Ports.{has, no_ports}
use Rattle.spb_types.proofs.PortLemmas.{has_high, has-no_ports, same_ports}
use Rattle.lsdb.specs.declared.held.Held.{Held}
use Rattle.lsdb.specs.Entry.{Entry, entry_of, has_ports, has_flags}
use Rattle.lsdb.specs.Database.{Lsps, id_cmp, keyed, srm_in, ssn_in, any_flags, is_srm_at, is_ssn_at, each}
use Rattle.lsdb.specs.Place.{AreSorted, with_entry}
use Rattle.lsdb.specs.Laws.{WithoutFlagsNoneIsDue, WhereNoneIsDueNoFlags}
use Rattle.lsdb.proofs.Ids.{tied_same}
use Rattle.lsdb.proofs.LookupLemmas.{true_from_T, entries-each}
use Rattle.lsdb.proofs.Maps.{entries_map}
use Rattle.lsdb.proofs.LookupLemmas.{tied_is}

-- ---- a set of ports

-- a set of a program has a port where its number isn't 0
pub below_has_ports : (set : PortSet) → set.bits < 2 ^ 32 → has_ports set ≡ not (set.bits == 0)
unfolding has_ports
below_has_ports set below = ap (λ n. not (n == 0)) (mod-eq_of_lt below)

-- the ports of a set are those of its low 32 bits
low_bits : PortSet → PortSet
low_bits set = record { bits = set.bits % 2 ^ 32 }

bit_low : (n i : ℕ) → i < 32 → bit_at n i ≡ bit_at (n % 2 ^ 32) i
bit_low n i small =
    let split : n ≡ n / 2 ^ 32 * 2 ^ 32 + n % 2 ^ 32 = omega arith in
    ap (λ m. bit_at m i) split ∙ bit_at_cat_low (n / 2 ^ 32) 32 (n % 2 ^ 32) i small

has-low_bits : (set : PortSet) (q : ℕ) → has set q ≡ has (low_bits set) q
unfolding low_bits has
has-low_bits set zero = refl
has-low_bits set (suc q) =
    ⊎_elim
    (λ above. has_high set (suc q) above ∙ sym (has_high (low_bits set) (suc q) above))
    (λ small. let bit : suc q - 1 < 32 = omega arith in ap (λ b. (nat_le 1 (suc q) && nat_le (suc q) 32) && (b == 1)) (bit_low set.bits (suc q - 1) bit))
    (cases_lt 32 (suc q))

zero_from : (n : ℕ) → not (n == 0) ≡ false → n ≡ 0
zero_from n e = grind (arith, nat_tests)

pub none_in : (set : PortSet) → has_ports set ≡ false → (p : ℕ) → has set p ≡ false
unfolding has_ports low_bits no_ports
none_in set none p = has-low_bits set p ∙ ap (λ n. has (record { bits = n }) p) (zero_from (set.bits % 2 ^ 32) none) ∙ has-no_ports p

pub no_ports_from : (set : PortSet) → ((p : ℕ) → has set p ≡ false) → has_ports set ≡ false
unfolding has_ports low_bits no_ports
no_ports_from set none =
    ap (λ (s : PortSet). not (s.bits == 0)) (same_ports (low_bits set) no_ports (mod_below set.bits (2 ^ 32) (omega arith)) (omega arith) (λ q. sym (has-low_bits set q) ∙ none q ∙ sym (has-no_ports q)))

-- ---- the ports of two sets

either_bit : (x y : ℕ) → x < 2 → y < 2 → (max x y == 1) ≡ ((x == 1) || (y == 1))
either_bit x y lx ly = grind (arith, nat_tests)

and_or : (w x y : Bool) → (w && (x || y)) ≡ ((w && x) || (w && y))
and_or true x y = refl
and_or false x y = refl

pub has_either : (a b p : ℕ) → has (record { bits = bit_or a b }) p ≡ (has (record { bits = a }) p || has (record { bits = b }) p)
unfolding has
has_either a b p =
    ap (λ n. (nat_le 1 p && nat_le p 32) && (n == 1)) (bit_at_or a b (p - 1))
    ∙ ap (λ c. (nat_le 1 p && nat_le p 32) && c) (either_bit (bit_at a (p - 1)) (bit_at b (p - 1)) (bit_at-lt a (p - 1)) (bit_at-lt b (p - 1)))
    ∙ and_or (nat_le 1 p && nat_le p 32) (bit_at a (p - 1) == 1) (bit_at b (p - 1) == 1)

pub none_at_all : has_ports no_ports ≡ false
none_at_all = no_ports_from no_ports has-no_ports

either_false : (a b : Bool) → (a || b) ≡ false → (a ≡ false) × (b ≡ false)
either_false true b e = cc
either_false false b e = (refl, e)

-- a number's ports are some exactly where those of either part are
some_or : (a b : ℕ) (x y z : Bool) → has_ports (record { bits = a }) ≡ x → has_ports (record { bits = b }) ≡ y → has_ports (record { bits = bit_or a b }) ≡ z
    → z ≡ (x || y)
some_or a b true y true i j k = refl
some_or a b false true true i j k = refl
some_or a b false false false i j k = refl
some_or a b false false true i j k =
    sym k ∙ no_ports_from (record { bits = bit_or a b }) (λ p. has_either a b p ∙ ap (λ c. c || has (record { bits = b }) p) (none_in (record { bits = a }) i p) ∙ none_in (record { bits = b }) j p)
some_or a b true y false i j k =
    sym (sym i ∙ no_ports_from (record { bits = a }) (λ p. (either_false (has (record { bits = a }) p) _ (sym (has_either a b p) ∙ none_in (record { bits = bit_or a b }) k p)).0))
some_or a b false true false i j k =
    sym (sym j ∙ no_ports_from (record { bits = b }) (λ p. (either_false (has (record { bits = a }) p) _ (sym (has_either a b p) ∙ none_in (record { bits = bit_or a b }) k p)).1))

pub ports_or : (a b : ℕ) → has_ports (record { bits = bit_or a b }) ≡ (has_ports (record { bits = a }) || has_ports (record { bits = b }))
ports_or a b = some_or a b _ _ _ refl refl refl

pub flags_or : (a b c : ℕ) → has_ports (record { bits = bit_or a (bit_or b c) }) ≡ (has_ports (record { bits = a }) || (has_ports (record { bits = b }) || has_ports (record { bits = c })))
flags_or a b c = ports_or a (bit_or b c) ∙ ap (λ t. has_ports (record { bits = a }) || t) (ports_or b c)

-- ---- entries

or_parts : (a b : Bool) → (a || b) ≡ false → (a ≡ false) × (b ≡ false)
or_parts true b e = cc
or_parts false b e = (refl, e)

or_false : (a b : Bool) → a ≡ false → b ≡ false → (a || b) ≡ false
or_false a b e f = ap (λ c. c || b) e ∙ f

-- an entry, if there is one, isn't due at a port
abbrev IsClear : Option Entry → ℕ → Type 0
IsClear o p = (has (srm_in o) p ≡ false) × (has (ssn_in o) p ≡ false)

clear : (e : Entry) → has_flags e ≡ false → (p : ℕ) → IsClear (Some e) p
clear e none p = let parts = or_parts (has_ports e.srm) (has_ports e.ssn) none in (none_in e.srm parts.0 p, none_in e.ssn parts.1 p)

unflagged : (e : Entry) → ((p : ℕ) → IsClear (Some e) p) → has_flags e ≡ false
unflagged e all = or_false (has_ports e.srm) (has_ports e.ssn) (no_ports_from e.srm (λ p. (all p).0)) (no_ports_from e.ssn (λ p. (all p).1))

found_clear : (b : Bool) (e : Entry) (o : Option Entry) (p : ℕ) → IsClear (Some e) p → IsClear o p → IsClear (cond b (Some e) o) p
found_clear true e o p here rest = here
found_clear false e o p here rest = rest

find_clear : (es : List (LspId × Entry)) → list_any (λ e. has_flags e.1) es ≡ false → (id : LspId) (p : ℕ) → IsClear (find id_cmp id es) p
find_clear [] none id p = (has-no_ports p, has-no_ports p)
find_clear (e ∷ es) none id p =
    let parts = or_parts (has_flags e.1) (list_any (λ d. has_flags d.1) es) none in
    found_clear (is_eq (id_cmp id e.0)) e.1 (find id_cmp id es) p (clear e.1 parts.0 p) (find_clear es parts.1 id p)

not_tied_below : (o : Ordering) → is_lt o ≡ true → is_eq o ≡ false
not_tied_below Less e = refl
not_tied_below Equal e = cc
not_tied_below Greater e = refl

find_below : (id : LspId) (es : List (LspId × Entry)) → below_all id_cmp id es ≡ true → find id_cmp id es ≡ None
find_below id [] below = refl
find_below id (e ∷ es) below =
    let parts = and_parts (is_lt (id_cmp id e.0)) (below_all id_cmp id es) below in
    ap (λ b. cond b (Some e.1) (find id_cmp id es)) (not_tied_below (id_cmp id e.0) parts.0) ∙ find_below id es parts.1

-- what is found behind the first entry
rest_clear : (e : LspId × Entry) (es : List (LspId × Entry)) → below_all id_cmp e.0 es ≡ true → (id : LspId) (p : ℕ) → IsClear (find id_cmp id (e ∷ es)) p → IsClear (find id_cmp id es) p
rest_clear e es below id p whole = by_test (is_eq (id_cmp id e.0)) refl
  where
    by_test : (b : Bool) → is_eq (id_cmp id e.0) ≡ b → IsClear (find id_cmp id es) p
    by_test true t = subst (λ (x : LspId). IsClear (find id_cmp x es) p) (sym (tied_is id e.0 t)) (subst (λ (o : Option Entry). IsClear o p) (sym (find_below e.0 es below)) (has-no_ports p, has-no_ports p))
    by_test false t = subst (λ b. IsClear (cond b (Some e.1) (find id_cmp id es)) p) t whole

none_flagged : (es : List (LspId × Entry)) → is_sorted id_cmp es ≡ true → ((id : LspId) (p : ℕ) → IsClear (find id_cmp id es) p) → list_any (λ e. has_flags e.1) es ≡ false
none_flagged [] sorted all = refl
none_flagged (e ∷ es) sorted all =
    let parts = and_parts (below_all id_cmp e.0 es) (is_sorted id_cmp es) sorted in
    let first = λ (p : ℕ). subst (λ o. IsClear (cond (is_eq o) (Some e.1) (find id_cmp e.0 es)) p) (tied_same e.0 e.0 refl) (all e.0 p) in
    or_false (has_flags e.1) (list_any (λ d. has_flags d.1) es) (unflagged e.1 first) (none_flagged es parts.1 (λ id p. rest_clear e es parts.0 id p (all id p)))

-- ---- the map

pub without_flags : WithoutFlagsNoneIsDue
without_flags db none id p = subst (λ (o : Option Entry). IsClear o p) (sym (get-entries db id)) (find_clear (entries db) none id p)

pub without_due : WhereNoneIsDueNoFlags
without_due db all = none_flagged (entries db) (true_from_T _ (entries_sorted db)) (λ id p. subst (λ (o : Option Entry). IsClear o p) (get-entries db id) (all id p))

filter_srm : (p : ℕ) (es : List (LspId × Entry)) → list_any (λ e. has_flags e.1) es ≡ false → filter (λ e. has e.1.srm p) es ≡ []
filter_srm p [] none = refl
filter_srm p (e ∷ es) none =
    let parts = or_parts (has_flags e.1) (list_any (λ d. has_flags d.1) es) none in
    ap (λ b. cond b (e ∷ filter (λ d. has d.1.srm p) es) (filter (λ d. has d.1.srm p) es)) (clear e.1 parts.0 p).0 ∙ filter_srm p es parts.1

filter_ssn : (p : ℕ) (es : List (LspId × Entry)) → list_any (λ e. has_flags e.1) es ≡ false → filter (λ e. has e.1.ssn p) es ≡ []
filter_ssn p [] none = refl
filter_ssn p (e ∷ es) none =
    let parts = or_parts (has_flags e.1) (list_any (λ d. has_flags d.1) es) none in
    ap (λ b. cond b (e ∷ filter (λ d. has d.1.ssn p) es) (filter (λ d. has d.1.ssn p) es)) (clear e.1 parts.0 p).1 ∙ filter_ssn p es parts.1

-- where no flags stand, none is to be sent, and none to be acknowledged or asked for
pub none_to_send : (db : Lsps) → any_flags db ≡ false → (p : ℕ) → filter (λ e. has e.1.srm p) (entries db) ≡ []
none_to_send db none p = filter_srm p (entries db) none

pub none_to_ack : (db : Lsps) → any_flags db ≡ false → (p : ℕ) → filter (λ e. has e.1.ssn p) (entries db) ≡ []
none_to_ack db none p = filter_ssn p (entries db) none

-- ---- a list of LSPs

flags_keyed : (hs : List Held) → list_any (λ e. has_flags e.1) (map keyed hs) ≡ list_any (λ h. has_flags (entry_of h)) hs
flags_keyed [] = refl
flags_keyed (h ∷ hs) = ap (λ b. has_flags (entry_of h) || b) (flags_keyed hs)

pub flags_map : (hs : List Held) → AreSorted hs → any_flags (from_sorted (map keyed hs)) ≡ list_any (λ h. has_flags (entry_of h)) hs
flags_map hs s = ap (list_any (λ (e : LspId × Entry). has_flags e.1)) (entries_map hs s) ∙ flags_keyed hs

pub flags_mapped : (f : Entry → Entry) (hs : List Held) → list_any (λ h. has_flags (f (entry_of h))) hs ≡ list_any (λ h. has_flags (entry_of h)) (map (with_entry f) hs)
flags_mapped f [] = refl
flags_mapped f (h ∷ hs) = ap (λ b. has_flags (f (entry_of h)) || b) (flags_mapped f hs)

-- one more LSP of a list that is being changed
next_at : (f : Entry → Entry) (hs ys : List Held) (i : ℕ) (h : Held) → i < length hs → ys ≡ map (with_entry f) (take i hs) ++ drop i hs → h ≡ get_or ys i h → h ≡ get_or hs i h
next_at f [] ys i h within e here = absurd (omega arith)
next_at f (g ∷ hs) ys zero h within e here = here ∙ ap (λ (zs : List Held). get_or zs 0 h) e
next_at f (g ∷ hs) ys (suc i) h within e here = next_at f hs (map (with_entry f) (take i hs) ++ drop i hs) i h (omega arith) refl (here ∙ ap (λ (zs : List Held). get_or zs (suc i) h) e)

pub flags_more : (f : Entry → Entry) (hs ys : List Held) (i : ℕ) (h : Held) → i < length hs → ys ≡ map (with_entry f) (take i hs) ++ drop i hs → h ≡ get_or ys i h
    → (list_any (λ g. has_flags (f (entry_of g))) (take i hs) || has_flags (f (entry_of h))) ≡ list_any (λ g. has_flags (f (entry_of g))) (take (i + 1) hs)
flags_more f hs ys i h within e here =
    ap (λ (g : Held). list_any (λ x. has_flags (f (entry_of x))) (take i hs) || has_flags (f (entry_of g))) (next_at f hs ys i h within e here)
    ∙ sym (list_any_more (λ g. has_flags (f (entry_of g))) hs i h within)

-- ---- the ports in flags

srm_keyed : (p : ℕ) (hs : List Held) → list_any (λ e. has e.1.srm p) (map keyed hs) ≡ list_any (λ h. has h.srm p) hs
srm_keyed p [] = refl
srm_keyed p (h ∷ hs) = ap (λ b. has h.srm p || b) (srm_keyed p hs)

pub srm_map : (p : ℕ) (hs : List Held) → AreSorted hs → is_srm_at p (from_sorted (map keyed hs)) ≡ list_any (λ h. has h.srm p) hs
srm_map p hs s = ap (list_any (λ (e : LspId × Entry). has e.1.srm p)) (entries_map hs s) ∙ srm_keyed p hs

ssn_keyed : (p : ℕ) (hs : List Held) → list_any (λ e. has e.1.ssn p) (map keyed hs) ≡ list_any (λ h. has h.ssn p) hs
ssn_keyed p [] = refl
ssn_keyed p (h ∷ hs) = ap (λ b. has h.ssn p || b) (ssn_keyed p hs)

pub ssn_map : (p : ℕ) (hs : List Held) → AreSorted hs → is_ssn_at p (from_sorted (map keyed hs)) ≡ list_any (λ h. has h.ssn p) hs
ssn_map p hs s = ap (list_any (λ (e : LspId × Entry). has e.1.ssn p)) (entries_map hs s) ∙ ssn_keyed p hs

-- ---- a port at which no flags stand

none_pass : (test : LspId × Entry → Bool) (es : List (LspId × Entry)) → list_any test es ≡ false → filter test es ≡ []
none_pass test [] none = refl
none_pass test (e ∷ es) none =
    let parts = or_parts (test e) (list_any test es) none in
    ap (λ b. cond b (e ∷ filter test es) (filter test es)) parts.0 ∙ none_pass test es parts.1

pub none_to_send_at : (db : Lsps) (p : ℕ) → is_srm_at p db ≡ false → filter (λ e. has e.1.srm p) (entries db) ≡ []
none_to_send_at db p none = none_pass (λ e. has e.1.srm p) (entries db) none

pub none_to_ack_at : (db : Lsps) (p : ℕ) → is_ssn_at p db ≡ false → filter (λ e. has e.1.ssn p) (entries db) ≡ []
none_to_ack_at db p none = none_pass (λ e. has e.1.ssn p) (entries db) none

-- where no flags stand at all, and where entries were changed
unflagged_all : (test : Entry → Bool) → ((e : Entry) → has_flags e ≡ false → test e ≡ false) → (es : List (LspId × Entry)) → list_any (λ e. has_flags e.1) es ≡ false → list_any (λ (e : LspId × Entry). test e.1) es ≡ false
unflagged_all test off [] none = refl
unflagged_all test off (e ∷ es) none =
    let parts = or_parts (has_flags e.1) (list_any (λ d. has_flags d.1) es) none in
    or_false (test e.1) (list_any (λ (d : LspId × Entry). test d.1) es) (off e.1 parts.0) (unflagged_all test off es parts.1)

pub no_srm_at : (db : Lsps) → any_flags db ≡ false → (p : ℕ) → is_srm_at p db ≡ false
no_srm_at db none p = unflagged_all (λ e. has e.srm p) (λ e off. (clear e off p).0) (entries db) none

pub no_ssn_at : (db : Lsps) → any_flags db ≡ false → (p : ℕ) → is_ssn_at p db ≡ false
no_ssn_at db none p = unflagged_all (λ e. has e.ssn p) (λ e off. (clear e off p).1) (entries db) none

still_none : (test : Entry → Bool) (f : Entry → Entry) → ((e : Entry) → test e ≡ false → test (f e) ≡ false)
    → (es : List (LspId × Entry)) → list_any (λ (e : LspId × Entry). test e.1) es ≡ false → list_any (λ (e : LspId × Entry). test e.1) (map (λ (e : LspId × Entry). (e.0, f e.1)) es) ≡ false
still_none test f keeps [] none = refl
still_none test f keeps (e ∷ es) none =
    let parts = or_parts (test e.1) (list_any (λ (d : LspId × Entry). test d.1) es) none in
    or_false (test (f e.1)) (list_any (λ (d : LspId × Entry). test d.1) (map (λ (d : LspId × Entry). (d.0, f d.1)) es)) (keeps e.1 parts.0) (still_none test f keeps es parts.1)

pub none_each : (test : Entry → Bool) (f : Entry → Entry) → ((e : Entry) → test e ≡ false → test (f e) ≡ false)
    → (db : Lsps) → list_any (λ (e : LspId × Entry). test e.1) (entries db) ≡ false → list_any (λ (e : LspId × Entry). test e.1) (entries (each (λ _ e. f e) db)) ≡ false
none_each test f keeps db none = ap (list_any (λ (e : LspId × Entry). test e.1)) (entries-each (λ _ e. f e) db) ∙ still_none test f keeps (entries db) none

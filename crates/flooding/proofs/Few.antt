-- Few others stay few, whatever is heard and brought up.
use Rattle.std.specs.Prelude.{◌≡◌, ℕ, suc, ◌+◌, ◌≤◌, ◌<◌, List, [], ◌∷◌, length, map, take, slice_get, Bool, true, false, ◌||◌, not, cond, Option, Some, None, nat_lt, if◌then◌else◌}
use Rattle.std.proofs.Common.{zero, refl, sym, ap, subst, ◌∙◌, arith}
use Rattle.std.proofs.lemmas.Bool.{true≢false, lt-ltb, or_right}
use Rattle.std.proofs.lemmas.List.Sums.{length-filter, count_by-le-length}
use Rattle.std.specs.Option.{option_map}
use Rattle.std.specs.FinMap.{get, entries, contains_key, len, len-entries}
use Rattle.spb_types.specs.declared.address.SystemId.{SystemId}
use Rattle.spb_types.specs.declared.address.LspId.{LspId}
use Rattle.lsdb.specs.Version.{number_of}
use Rattle.lsdb.specs.Entry.{Entry, purged}
use Rattle.lsdb.specs.Database.{Lsps, version_in, changed_to}
use Rattle.lsdb.proofs.LookupLemmas.{entries-each}
use Rattle.flooding.specs.Own.{own_numbers, own_number, is_own_number}
use Rattle.flooding.specs.Room.{most_others, others, others_among, others_at, has_room}
use Rattle.flooding.specs.RoomLaws.{OthersAreHeld, ChangingKeepsOthers, HearingKeepsFew, BringingKeepsFew, SettlingKeepsFew}
use Rattle.flooding.specs.Hearing.{Holding, HasFewOthers, lacks_place, after_claim}
use Rattle.flooding.specs.Origination.{next_entry, brought_up}
use Rattle.flooding.proofs.Changed.{held_has_room}
use Rattle.flooding.proofs.OwnNumbers.{its_own}
use Rattle.flooding.proofs.Claimed.{heard_of, lacks, entered, db_after}
use Rattle.flooding.proofs.Owns.{own_stands}
use Rattle.flooding.proofs.Brought.{brought_keeps, bringing_leaves_own}
use Rattle.flooding.proofs.Settled.{settling_keeps}
use Rattle.flooding.proofs.Fits.{putting_keeps_few}

-- ---- how many there are

pub others_are_held : OthersAreHeld
others_are_held s db =
    let other : LspId × Entry → Bool = λ e. not (is_own_number s e.0) in
    let many : others s db ≡ _ = length-filter other (entries db) in
    omega (arith, many, count_by-le-length other (entries db), len-entries db)

pub room_below : (s : SystemId) (db : Lsps) (id : LspId) → len db < most_others → has_room s db id ≡ true
room_below s db id below =
    let few = others_are_held s db in
    or_right (contains_key db id) _ (or_right (is_own_number s id) _ (lt-ltb (others s db) most_others (omega (arith, few, below))))

-- of the first so many entries
one_more : (s : SystemId) (e : LspId × Entry) (es : List (LspId × Entry)) → length (others_among s (e ∷ es)) ≡ others_at s (Some e) + length (others_among s es)
one_more s e es = by (is_own_number s e.0)
  where
    by : (b : Bool) → length (cond (not b) (e ∷ others_among s es) (others_among s es)) ≡ (if b then 0 else 1) + length (others_among s es)
    by true = omega arith
    by false = omega arith

others_next : (s : SystemId) (es : List (LspId × Entry)) (k : ℕ) → length (others_among s (take (suc k) es)) ≡ length (others_among s (take k es)) + others_at s (slice_get es k)
others_next s [] zero = refl
others_next s [] (suc k) = refl
others_next s (e ∷ es) zero = omega (arith, one_more s e [])
others_next s (e ∷ es) (suc k) = omega (arith, one_more s e (take (suc k) es), one_more s e (take k es), others_next s es k)

pub one_at_most : (s : SystemId) (o : Option (LspId × Entry)) → others_at s o ≤ 1
one_at_most s None = omega arith
one_at_most s (Some e) = by (is_own_number s e.0)
  where
    by : (b : Bool) → (if b then 0 else 1) ≤ 1
    by true = omega arith
    by false = omega arith

pub counted_next : (s : SystemId) (es : List (LspId × Entry)) (k count more : ℕ) → count ≡ length (others_among s (take k es)) → more ≡ others_at s (slice_get es k) → count + more ≡ length (others_among s (take (k + 1) es))
counted_next s es k count more was here =
    let next : k + 1 ≡ suc k = omega arith in
    omega (arith, was, here, others_next s es k, ap (λ n. length (others_among s (take n es))) next)

-- ---- what changes how many

as_many : (s : SystemId) (f : LspId → Entry → Entry) (es : List (LspId × Entry)) → length (others_among s (map (λ (e : LspId × Entry). (e.0, f e.0 e.1)) es)) ≡ length (others_among s es)
as_many s f [] = refl
as_many s f (e ∷ es) =
    let next : LspId × Entry = (e.0, f e.0 e.1) in
    omega (arith, one_more s next (map (λ (d : LspId × Entry). (d.0, f d.0 d.1)) es), one_more s e es, as_many s f es)

pub changing_keeps_others : ChangingKeepsOthers
changing_keeps_others s f db = ap (λ es. length (others_among s es)) (entries-each f db) ∙ as_many s f (entries db)

has_room_if : (b : Bool) → not b ≡ false → b ≡ true
has_room_if true is = refl
has_room_if false is = absurd (true≢false is)

few_by : (h : Holding) (id : LspId) (new : Option Entry) (out : Bool) → lacks_place h id new ≡ out → HasFewOthers h → others h.own.system (entered out h.db id new) ≤ most_others
few_by h id new true is few = few
few_by h id None false is few = few
few_by h id (Some e) false is few = putting_keeps_few h.own.system h.db id e few (has_room_if (has_room h.own.system h.db id) is)

pub hearing_keeps_few : HearingKeepsFew
hearing_keeps_few rule up c h few =
    subst (λ (s : SystemId). others s (after_claim rule up c h).db ≤ most_others) (sym (own_stands rule up c h).0)
    (subst (λ (db : Lsps). others h.own.system db ≤ most_others) (sym (db_after rule up c h)) (few_by h c.id (heard_of rule up c h) (lacks rule up c h) refl few))

changed_few : (s : SystemId) (f : Entry → Entry) (db : Lsps) (id : LspId) (o : Option Entry) → get db id ≡ o → others s db ≤ most_others → others s (changed_to db id (option_map f o)) ≤ most_others
changed_few s f db id None is few = few
changed_few s f db id (Some e) is few = putting_keeps_few s db id (f e) few (held_has_room s db id e is)

pub number_has_room : (s : SystemId) (db : Lsps) (number : ℕ) → number < own_numbers → has_room s db (own_number s number) ≡ true
number_has_room s db number below =
    let id = own_number s number in
    or_right (contains_key db id) _ (ap (λ b. b || nat_lt (others s db) most_others) (its_own s number below))

pub bringing_keeps_few : BringingKeepsFew
bringing_keeps_few up number h below few =
    let s = h.own.system in
    let id = own_number s number in
    let held = get h.db id in
    subst (λ (x : SystemId). others x (brought_up up number h).db ≤ most_others) (sym (bringing_leaves_own up number h).0)
    (brought_keeps (λ g. others s g.db ≤ most_others) up number h few
    (λ body fresh has. putting_keeps_few s h.db id (next_entry up id body (number_of (version_in held)) held) few (number_has_room s h.db number below))
    (λ seq sum live. changed_few s (purged seq up) h.db id held refl few))

pub settling_keeps_few : SettlingKeepsFew
settling_keeps_few test up h few = settling_keeps HasFewOthers test up h (λ number g below was. bringing_keeps_few up number g below was) few

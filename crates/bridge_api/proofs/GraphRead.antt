-- A bridge reads its graph from the live LSPs that it holds, each system's once.
use Rattle.std.proofs.Common.{◌≡◌, inl, inr, ℕ, ◌<◌, Bool, true, false, List, [], ◌∷◌, cond, refl, sym, ap, ◌∙◌, subst, Option, Some, None, arith}
use Rattle.std.specs.Prelude.{◌&&◌, ◌==◌, T, nat_lt, if◌then◌else◌}
use Rattle.std.specs.Option.{option_map, option_and_then}
use Rattle.std.specs.List.{filter_map, cons_option}
use Rattle.std.specs.FinMap.{find, is_sorted, get, entries, entries_sorted, get-entries}
use Rattle.std.specs.FinMap.Entries.{below_all}
use Rattle.std.specs.Ordering.{is_eq, is_lt}
use Rattle.std.specs.declared.cmp.Ordering.{Ordering}
use Rattle.std.specs.declared.cmp.Ordering.TheVariants.{Less, Equal, Greater}
use Rattle.std.proofs.lemmas.Bool.{and_parts, eqb-true, lt-ltb, false≢true}
use Rattle.spb_types.specs.declared.address.SystemId.{SystemId}
use Rattle.spb_types.specs.declared.address.LspId.{LspId}
use Rattle.spb_types.specs.Graph.{IsAmong, IsDistinct}
use Rattle.lsdb.specs.declared.version.Version.{Version}
use Rattle.lsdb.specs.declared.version.Version.TheVariants.{Absent, Live, Dead}
use Rattle.lsdb.specs.Entry.{Entry}
use Rattle.lsdb.specs.Database.{Lsps, id_cmp, version_in, version_at}
use Rattle.lsdb.specs.Time.{is_live}
use Rattle.lsdb.proofs.Ids.{tied_same}
use Rattle.lsdb.proofs.LookupLemmas.{tied_is}
use Rattle.flooding.specs.Own.{own_id, own_numbers, own_number}
use Rattle.flooding.proofs.OwnNumbers.{some_number}
use Rattle.snp_sync.proofs.Ranges.{of_entries}
use Rattle.spb_content.specs.declared.content.Content.{Content}
use Rattle.spb_content.specs.Graph.{Contents, systems_in}
use Rattle.spb_content.proofs.Members.{Has, has_from_contains, contains_from_has, all_has}
use Rattle.bridge_api.specs.View.{BridgeView}
use Rattle.bridge_api.specs.Tables.{is_numbered, live_body, body_if_live, live_lsp, live_lsps, body_among, said_among, read_at, contents_among, contents_of}
use Rattle.bridge_api.specs.Graph.{content_held, ReadsWhatIsHeld, ReadsEachOnce}

-- ---- what is held under an id stands among the entries, and nothing else

find_has : (x : LspId) (es : List (LspId × Entry)) (e : Entry) → find id_cmp x es ≡ Some e → Has (x, e) es
find_has x [] e is = cc
find_has x (d ∷ es) e is = at (is_eq (id_cmp x d.0)) refl is (find_has x es e)
  where
    at : (b : Bool) → is_eq (id_cmp x d.0) ≡ b → cond b (Some d.1) (find id_cmp x es) ≡ Some e → (find id_cmp x es ≡ Some e → Has (x, e) es) → Has (x, e) (d ∷ es)
    at true t is rest =
        let key : x ≡ d.0 = tied_is x d.0 t in
        let value : e ≡ d.1 = cc in
        inl (λ i. (key i, value i))
    at false t is rest = inr (rest is)

pub get_has : (db : Lsps) (x : LspId) (e : Entry) → get db x ≡ Some e → Has (x, e) (entries db)
get_has db x e is = find_has x (entries db) e (sym (get-entries db x) ∙ is)

has_get : (db : Lsps) (x : LspId) (e : Entry) → Has (x, e) (entries db) → get db x ≡ Some e
has_get db x e has = all_has (λ (d : LspId × Entry). get db d.0 ≡ Some d.1) (x, e) (entries db) (of_entries (λ id f. get db id ≡ Some f) db (λ id f is. is)) has

-- ---- what is read of a list

has_read : {X Y : Type 0} (f : X → Option Y) (x : X) (y : Y) (xs : List X) → Has x xs → f x ≡ Some y → Has y (filter_map f xs)
has_read f x y [] has is = absurd has
has_read f x y (z ∷ xs) (inl e) is = subst (λ o. Has y (cons_option o (filter_map f xs))) (sym (sym (ap f e) ∙ is)) (inl refl)
has_read f x y (z ∷ xs) (inr has) is = later (f z) (has_read f x y xs has is)
  where
    later : (o : Option _) → Has y (filter_map f xs) → Has y (cons_option o (filter_map f xs))
    later None rest = rest
    later (Some w) rest = inr rest

read_has : {X Y : Type 0} (f : X → Option Y) (y : Y) (xs : List X) → Has y (filter_map f xs) → (x : X) × Has x xs × (f x ≡ Some y)
read_has f y [] has = absurd has
read_has f y (z ∷ xs) has = at (f z) refl has (read_has f y xs)
  where
    at : (o : Option _) → f z ≡ o → Has y (cons_option o (filter_map f xs)) → (Has y (filter_map f xs) → (x : _) × Has x xs × (f x ≡ Some y)) → (x : _) × Has x (z ∷ xs) × (f x ≡ Some y)
    at None is has rest = let r = rest has in (r.0, inr r.1, r.2)
    at (Some w) is (inl e) rest = (z, inl refl, is ∙ ap (λ v. Some v) (sym e))
    at (Some w) is (inr has) rest = let r = rest has in (r.0, inr r.1, r.2)

-- what is read of what was read of a list
cons_read : {X Y : Type 0} (f : X → Option Y) (o : Option X) (xs : List X) → filter_map f (cons_option o xs) ≡ cons_option (option_and_then f o) (filter_map f xs)
cons_read f None xs = refl
cons_read f (Some x) xs = refl

pub read_twice : {X Y Z : Type 0} (f : Y → Option Z) (g : X → Option Y) (xs : List X) → filter_map f (filter_map g xs) ≡ filter_map (λ x. option_and_then f (g x)) xs
read_twice f g [] = refl
read_twice f g (x ∷ xs) = cons_read f (g x) (filter_map g xs) ∙ ap (cons_option (option_and_then f (g x))) (read_twice f g xs)

-- ---- what is read of an entry, among the LSPs that are read

abbrev pub read_entry : List (LspId × List ℕ) → LspId × Entry → Option (SystemId × Content)
read_entry lsps held = option_and_then (read_at lsps) (live_lsp held)

pub entries_read : (lsps : List (LspId × List ℕ)) (db : Lsps) → filter_map (read_at lsps) (live_lsps db) ≡ filter_map (read_entry lsps) (entries db)
entries_read lsps db = read_twice (read_at lsps) live_lsp (entries db)

-- the entry is live and has number 0, and what was read is what its system says
record WasRead (lsps : List (LspId × List ℕ)) (held : LspId × Entry) (x : SystemId) (c : Content) : Type 0 where
  id : held.0 ≡ own_id x
  live : is_live held.1.version ≡ true
  said : said_among lsps x ≡ c

-- an id with pseudonode 0 and number 0 is that by which its system is known
first_id : (id : LspId) (x : SystemId) → is_numbered id ≡ true → (id.number == 0) ≡ true → id.system ≡ x → id ≡ own_id x
first_id id x numbered first system =
    let pseudonode : id.pseudonode ≡ 0 = eqb-true id.pseudonode 0 (and_parts (id.pseudonode == 0) (nat_lt id.number own_numbers) numbered).0 in
    let number : id.number ≡ 0 = eqb-true id.number 0 first in
    λ i. record { system = system i; pseudonode = pseudonode i; number = number i }

was_read : (lsps : List (LspId × List ℕ)) (held : LspId × Entry) (x : SystemId) (c : Content) → read_entry lsps held ≡ Some (x, c) → WasRead lsps held x c
was_read lsps held x c is = by (is_numbered held.0) held.1.version refl refl is
  where
    first : (d : Bool) → is_numbered held.0 ≡ true → is_live held.1.version ≡ true → (held.0.number == 0) ≡ d
        → ◌≡◌ {A = Option (SystemId × Content)} (if d then Some (held.0.system, said_among lsps held.0.system) else None) (Some (x, c)) → WasRead lsps held x c
    first true numbered live is e =
        let pair : ◌≡◌ {A = SystemId × Content} (held.0.system, said_among lsps held.0.system) (x, c) = cc in
        let system : held.0.system ≡ x = ap (λ (q : SystemId × Content). q.0) pair in
        record {
          id = first_id held.0 x numbered is system;
          live = live;
          said = ap (said_among lsps) (sym system) ∙ ap (λ (q : SystemId × Content). q.1) pair;
        }
    first false numbered live is e = cc

    by : (b : Bool) (a : Version) → is_numbered held.0 ≡ b → held.1.version ≡ a
        → option_and_then (read_at lsps) (if b then option_map {U = LspId × List ℕ} (λ body. (held.0, body)) (live_body a held.1.body) else None) ≡ Some (x, c)
        → WasRead lsps held x c
    by false a numbered version e = cc
    by true Absent numbered version e = cc
    by true (Live seq sum) numbered version e = first (held.0.number == 0) numbered (ap is_live version) refl e
    by true (Dead seq) numbered version e = cc

pub number_read : (x : SystemId) (number : ℕ) → number < own_numbers → is_numbered (own_number x number) ≡ true
number_read x number below = lt-ltb number own_numbers below

reads : (lsps : List (LspId × List ℕ)) (x : SystemId) (c : Content) (e : Entry) → (if is_live e.version then Some (said_among lsps x) else None) ≡ Some c → read_entry lsps (own_id x, e) ≡ Some (x, c)
reads lsps x c e says =
    ap (λ b. option_and_then (read_at lsps) (if b then option_map {U = LspId × List ℕ} (λ body. (own_id x, body)) (live_body e.version e.body) else None)) (number_read x 0 (omega (arith, some_number)))
    ∙ by e.version says
  where
    by : (a : Version) → (if is_live a then Some (said_among lsps x) else None) ≡ Some c
        → option_and_then (read_at lsps) (option_map {U = LspId × List ℕ} (λ body. (own_id x, body)) (live_body a e.body)) ≡ Some (x, c)
    by Absent e = cc
    by (Live seq sum) e = ap (option_map {U = SystemId × Content} (λ d. (x, d))) e
    by (Dead seq) e = cc

-- ---- it reads what is held

read_held : (db : Lsps) (x : SystemId) (c : Content) → Has (x, c) (filter_map (read_entry (live_lsps db)) (entries db)) → content_held db x ≡ Some c
read_held db x c has =
    let lsps : List (LspId × List ℕ) = live_lsps db in
    let r = read_has (read_entry lsps) (x, c) (entries db) has in
    let was : WasRead lsps r.0 x c = was_read lsps r.0 x c r.2 in
    let here : version_at db (own_id x) ≡ r.0.1.version = ap (version_at db) (sym was.id) ∙ ap version_in (has_get db r.0.0 r.0.1 r.1) in
    ap (λ b. if b then Some (said_among lsps x) else None) (ap is_live here ∙ was.live) ∙ ap (λ (d : Content). Some d) was.said

held_read_by : (db : Lsps) (x : SystemId) (c : Content) (o : Option Entry) → get db (own_id x) ≡ o → (if is_live (version_in o) then Some (said_among (live_lsps db) x) else None) ≡ Some c
    → Has (x, c) (filter_map (read_entry (live_lsps db)) (entries db))
held_read_by db x c None is says = cc
held_read_by db x c (Some e) is says =
    has_read (read_entry (live_lsps db)) (own_id x, e) (x, c) (entries db) (get_has db (own_id x) e is) (reads (live_lsps db) x c e says)

pub held_read : (db : Lsps) (x : SystemId) (c : Content) → content_held db x ≡ Some c → Has (x, c) (contents_among (live_lsps db))
held_read db x c says =
    subst (Has (x, c)) (sym (entries_read (live_lsps db) db)) (held_read_by db x c (get db (own_id x)) refl says)

pub reads_what_is_held : ReadsWhatIsHeld
reads_what_is_held v x c = (
  λ contains. read_held v.database x c (subst (Has (x, c)) (entries_read (live_lsps v.database) v.database) (has_from_contains (x, c) (contents_of v) contains)),
  λ says. contains_from_has (x, c) (contents_of v) (held_read v.database x c says),
)

-- ---- of each system once

among_has : (x : SystemId) (cs : Contents) → IsAmong x (systems_in cs) → (c : Content) × Has (x, c) cs
among_has x [] among = absurd among
among_has x (d ∷ cs) (inl e) = (d.1, inl (λ i. (e i, d.1)))
among_has x (d ∷ cs) (inr among) = let r = among_has x cs among in (r.0, inr r.1)

below_has : (x : LspId) (es : List (LspId × Entry)) (d : LspId × Entry) → below_all id_cmp x es ≡ true → Has d es → is_lt (id_cmp x d.0) ≡ true
below_has x [] d below has = absurd has
below_has x (e ∷ es) d below (inl same) = ap (λ (f : LspId × Entry). is_lt (id_cmp x f.0)) same ∙ (and_parts (is_lt (id_cmp x e.0)) (below_all id_cmp x es) below).0
below_has x (e ∷ es) d below (inr has) = below_has x es d (and_parts (is_lt (id_cmp x e.0)) (below_all id_cmp x es) below).1 has

-- a system that was read of an entry isn't read of those above it
not_again : (lsps : List (LspId × List ℕ)) (e : LspId × Entry) (es : List (LspId × Entry)) (x : SystemId) (c : Content) → read_entry lsps e ≡ Some (x, c)
    → below_all id_cmp e.0 es ≡ true → IsAmong x (systems_in (filter_map (read_entry lsps) es)) → ⊥
not_again lsps e es x c is below among =
    let other = among_has x (filter_map (read_entry lsps) es) among in
    let r = read_has (read_entry lsps) (x, other.0) es other.1 in
    let here : WasRead lsps e x c = was_read lsps e x c is in
    let there : WasRead lsps r.0 x other.0 = was_read lsps r.0 x other.0 r.2 in
    let same : e.0 ≡ r.0.0 = here.id ∙ sym there.id in
    false≢true (sym (ap is_lt (tied_same e.0 r.0.0 same)) ∙ below_has e.0 es r.0 below r.1)

distinct : (lsps : List (LspId × List ℕ)) (es : List (LspId × Entry)) → is_sorted id_cmp es ≡ true → IsDistinct (systems_in (filter_map (read_entry lsps) es))
distinct lsps [] sorted = tt
distinct lsps (e ∷ es) sorted =
    let parts = and_parts (below_all id_cmp e.0 es) (is_sorted id_cmp es) sorted in
    at (read_entry lsps e) refl parts.0 (distinct lsps es parts.1)
  where
    at : (o : Option (SystemId × Content)) → read_entry lsps e ≡ o → below_all id_cmp e.0 es ≡ true → IsDistinct (systems_in (filter_map (read_entry lsps) es))
        → IsDistinct (systems_in (cons_option o (filter_map (read_entry lsps) es)))
    at None is below rest = rest
    at (Some d) is below rest = (not_again lsps e es d.0 d.1 is below, rest)

true_from_T : (b : Bool) → T b → b ≡ true
true_from_T true h = refl
true_from_T false h = absurd h

pub reads_each_once : ReadsEachOnce
reads_each_once v =
    let lsps : List (LspId × List ℕ) = live_lsps v.database in
    subst (λ (cs : Contents). IsDistinct (systems_in cs)) (sym (entries_read lsps v.database))
    (distinct lsps (entries v.database) (true_from_T _ (entries_sorted v.database)))

-- ---- the body that is found among the live LSPs is that of what is held, if it is live

-- an id that is below all of a list isn't found there
less_no_eq : (o : Ordering) → is_lt o ≡ true → is_eq o ≡ false
less_no_eq Less e = refl
less_no_eq Equal e = absurd cc
less_no_eq Greater e = absurd cc

-- what is read of one entry
one_live : (id : LspId) (e : LspId × Entry) (rest : List (LspId × List ℕ)) (o : Option (List ℕ)) (b : Bool) → is_eq (id_cmp id e.0) ≡ false
    → body_among (cons_option (if b then option_map (λ body. (e.0, body)) o else None) rest) id ≡ body_among rest id
one_live id e rest None true apart = refl
one_live id e rest (Some body) true apart = ap (λ t. if t then Some body else body_among rest id) apart
one_live id e rest o false apart = refl

here_live : (id : LspId) (e : LspId × Entry) (rest : List (LspId × List ℕ)) (o : Option (List ℕ)) (b : Bool) → b ≡ true → is_eq (id_cmp id e.0) ≡ true → body_among rest id ≡ None
    → body_among (cons_option (if b then option_map (λ body. (e.0, body)) o else None) rest) id ≡ o
here_live id e rest None true numbered same none = none
here_live id e rest (Some body) true numbered same none = ap (λ t. if t then Some body else body_among rest id) same
here_live id e rest o false numbered same none = absurd cc

none_below : (id : LspId) (es : List (LspId × Entry)) → below_all id_cmp id es ≡ true → body_among (filter_map live_lsp es) id ≡ None
none_below id [] below = refl
none_below id (e ∷ es) below =
    let parts = and_parts (is_lt (id_cmp id e.0)) (below_all id_cmp id es) below in
    one_live id e (filter_map live_lsp es) (live_body e.1.version e.1.body) (is_numbered e.0) (less_no_eq (id_cmp id e.0) parts.0) ∙ none_below id es parts.1

found_live : (id : LspId) (es : List (LspId × Entry)) → is_numbered id ≡ true → is_sorted id_cmp es ≡ true → body_among (filter_map live_lsp es) id ≡ body_if_live (find id_cmp id es)
found_live id [] numbered sorted = refl
found_live id (e ∷ es) numbered sorted =
    let parts = and_parts (below_all id_cmp e.0 es) (is_sorted id_cmp es) sorted in
    by (is_eq (id_cmp id e.0)) refl parts.0 (found_live id es numbered parts.1)
  where
    by : (b : Bool) → is_eq (id_cmp id e.0) ≡ b → below_all id_cmp e.0 es ≡ true → body_among (filter_map live_lsp es) id ≡ body_if_live (find id_cmp id es)
        → body_among (filter_map live_lsp (e ∷ es)) id ≡ body_if_live (cond b (Some e.1) (find id_cmp id es))
    by true same below rest =
        let key : id ≡ e.0 = tied_is id e.0 same in
        here_live id e (filter_map live_lsp es) (live_body e.1.version e.1.body) (is_numbered e.0) (ap is_numbered (sym key) ∙ numbered) same
        (none_below id es (ap (λ (x : LspId). below_all id_cmp x es) key ∙ below))
    by false apart below rest = one_live id e (filter_map live_lsp es) (live_body e.1.version e.1.body) (is_numbered e.0) apart ∙ rest

pub among_is_held : (db : Lsps) (id : LspId) → is_numbered id ≡ true → body_among (live_lsps db) id ≡ body_if_live (get db id)
among_is_held db id numbered =
    found_live id (entries db) numbered (true_from_T _ (entries_sorted db)) ∙ ap body_if_live (sym (get-entries db id))

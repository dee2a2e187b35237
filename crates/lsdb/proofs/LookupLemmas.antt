-- What stands under an id after a change of the map.
use Rattle.std.specs.Prelude.{◌≡◌, ℕ, zero, suc, slice_get, Bool, true, false, ◌&&◌, ◌||◌, cond, T, List, [], ◌∷◌, map, Option, Some, None, length, nat_lt, is_some, if◌then◌else◌}
use Rattle.std.proofs.Common.{refl, sym, ap, subst, ◌∙◌, ◌⊎◌, inl, inr, ⊎_elim}
use Rattle.std.proofs.lemmas.Bool.{false≢true, and_parts}
use Rattle.std.proofs.lemmas.List.{length-map}
use Rattle.std.specs.declared.cmp.Ordering.{Ordering}
use Rattle.std.specs.declared.cmp.Ordering.TheVariants.{Less, Equal, Greater}
use Rattle.std.specs.Ordering.{is_eq, is_lt}
use Rattle.std.specs.Option.{option_map}
use Rattle.std.specs.FinMap.{find, is_sorted, get, insert, entries, entries_sorted, entries-from_sorted, get-from_sorted, get-entries, get-insert, len, len-entries, same_map}
use Rattle.std.specs.FinMap.Entries.{below_all}
use Rattle.spb_types.specs.declared.address.LspId.{LspId}
use Rattle.lsdb.specs.Entry.{Entry}
use Rattle.lsdb.specs.Database.{Lsps, id_cmp, fits, changed, changed_to, changed_under, changed_at_place, changed_if_held, StandsAt, each}
use Rattle.lsdb.proofs.Ids.{ids_total, ids_tied, tied_same, turned_less, less_is}
use Rattle.spb_types.specs.declared.limits.TheConstants.{MOST_LSPS}

pub tied_is : (x y : LspId) → is_eq (id_cmp x y) ≡ true → x ≡ y
tied_is x y e = ids_tied x y (equal_from (id_cmp x y) e)
  where
    equal_from : (o : Ordering) → is_eq o ≡ true → o ≡ Equal
    equal_from Less e = cc
    equal_from Equal e = refl
    equal_from Greater e = cc

-- an entry put in is under its id, and every other id has what it had
pub get-insert_same : (db : Lsps) (id : LspId) (e : Entry) → get (insert db id e) id ≡ Some e
get-insert_same db id e = get-insert ids_total db id e id ∙ ap (λ o. cond (is_eq o) (Some e) (get db id)) (tied_same id id refl)

pub get-insert_other : (db : Lsps) (id : LspId) (e : Entry) (x : LspId) → (x ≡ id → ⊥) → get (insert db id e) x ≡ get db x
get-insert_other db id e x apart = get-insert ids_total db id e x ∙ other (is_eq (id_cmp x id)) refl
  where
    other : (b : Bool) → is_eq (id_cmp x id) ≡ b → cond b (Some e) (get db x) ≡ get db x
    other true t = absurd (apart (tied_is x id t))
    other false t = refl

-- two ids are one or not
pub same_or_not : (x y : LspId) → (x ≡ y) ⊎ (x ≡ y → ⊥)
same_or_not x y = by_test (is_eq (id_cmp x y)) refl
  where
    by_test : (b : Bool) → is_eq (id_cmp x y) ≡ b → (x ≡ y) ⊎ (x ≡ y → ⊥)
    by_test true t = inl (tied_is x y t)
    by_test false t = inr (λ e. false≢true (sym t ∙ ap is_eq (tied_same x y e)))

-- the entry under an id after every entry was changed
below_each : (x : LspId) (f : LspId → Entry → Entry) (es : List (LspId × Entry)) → below_all id_cmp x (map (λ e. (e.0, f e.0 e.1)) es) ≡ below_all id_cmp x es
below_each x f [] = refl
below_each x f (e ∷ es) = ap (λ b. is_lt (id_cmp x e.0) && b) (below_each x f es)

sorted_each : (f : LspId → Entry → Entry) (es : List (LspId × Entry)) → is_sorted id_cmp (map (λ e. (e.0, f e.0 e.1)) es) ≡ is_sorted id_cmp es
sorted_each f [] = refl
sorted_each f (e ∷ es) = λ i. below_each e.0 f es i && sorted_each f es i

find_each_at : (f : LspId → Entry → Entry) (e : LspId × Entry) (x : LspId) (m o : Option Entry) → m ≡ option_map (f x) o → (b : Bool) → is_eq (id_cmp x e.0) ≡ b → cond b (Some (f e.0 e.1)) m ≡ option_map (f x) (cond b (Some e.1) o)
find_each_at f e x m o rest true t = ap (λ (y : LspId). Some (f y e.1)) (sym (tied_is x e.0 t))
find_each_at f e x m o rest false t = rest

find_each : (f : LspId → Entry → Entry) (es : List (LspId × Entry)) (x : LspId) → find id_cmp x (map (λ e. (e.0, f e.0 e.1)) es) ≡ option_map (f x) (find id_cmp x es)
find_each f [] x = refl
find_each f (e ∷ es) x = find_each_at f e x (find id_cmp x (map (λ d. (d.0, f d.0 d.1)) es)) (find id_cmp x es) (find_each f es x) (is_eq (id_cmp x e.0)) refl

pub entries-each : (f : LspId → Entry → Entry) (db : Lsps) → entries (each f db) ≡ map (λ (e : LspId × Entry). (e.0, f e.0 e.1)) (entries db)
unfolding each
entries-each f db =
    entries-from_sorted id_cmp (map (λ (e : LspId × Entry). (e.0, f e.0 e.1)) (entries db)) (subst T (sym (sorted_each f (entries db))) (entries_sorted db))

pub get-each : (f : LspId → Entry → Entry) (db : Lsps) (x : LspId) → get (each f db) x ≡ option_map (f x) (get db x)
unfolding each
get-each f db x =
    let es = entries db in
    get-from_sorted id_cmp (map (λ (e : LspId × Entry). (e.0, f e.0 e.1)) es) x (subst T (sym (sorted_each f es)) (entries_sorted db))
    ∙ find_each f es x ∙ ap (option_map (f x)) (sym (get-entries db x))

pub is_some-option_map : {X Y : Type 0} (f : X → Y) (o : Option X) → is_some (option_map f o) ≡ is_some o
is_some-option_map f None = refl
is_some-option_map f (Some x) = refl

-- a map has as many entries, and as much place, after every entry was changed
len-each : (f : LspId → Entry → Entry) (db : Lsps) → len (each f db) ≡ len db
unfolding each
len-each f db =
    let es = entries db in
    len-entries (each f db)
    ∙ (ap length (entries-from_sorted id_cmp (map (λ (e : LspId × Entry). (e.0, f e.0 e.1)) es) (subst T (sym (sorted_each f es)) (entries_sorted db)))
    ∙ (length-map es (λ (e : LspId × Entry). (e.0, f e.0 e.1)) ∙ sym (len-entries db)))

pub fits-each : (f : LspId → Entry → Entry) (db : Lsps) (id : LspId) → fits (each f db) id ≡ fits db id
fits-each f db id =
    let is : is_some (get (each f db) id) ≡ is_some (get db id) = ap is_some (get-each f db id) ∙ is_some-option_map (f id) (get db id) in
    λ i. is i || nat_lt (len-each f db i) MOST_LSPS

-- an entry changed twice, and an entry that is put where the id is held
pub insert-insert : (db : Lsps) (id : LspId) (e f : Entry) → insert (insert db id e) id f ≡ insert db id f
insert-insert db id e f = same_map ids_total ids_tied (insert (insert db id e) id f) (insert db id f) (λ x. ⊎_elim
    (λ here. subst (λ (y : LspId). get (insert (insert db id e) id f) y ≡ get (insert db id f) y) (sym here) (get-insert_same (insert db id e) id f ∙ sym (get-insert_same db id f)))
    (λ elsewhere. get-insert_other (insert db id e) id f x elsewhere ∙ get-insert_other db id e x elsewhere ∙ sym (get-insert_other db id f x elsewhere))
    (same_or_not x id))

changed_twice : (f g : Entry → Entry) (db : Lsps) (id : LspId) (o : Option Entry) → get db id ≡ o → changed g (changed_to db id (option_map f o)) id ≡ changed_to db id (option_map (λ e. g (f e)) o)
changed_twice f g db id None is = ap (λ o. changed_to db id (option_map g o)) is
changed_twice f g db id (Some e) is =
    ap (λ o. changed_to (insert db id (f e)) id (option_map g o)) (get-insert_same db id (f e)) ∙ insert-insert db id (f e) (g (f e))

pub changed-changed : (f g : Entry → Entry) (db : Lsps) (id : LspId) → changed g (changed f db id) id ≡ changed (λ e. g (f e)) db id
changed-changed f g db id = changed_twice f g db id (get db id) refl

-- the entry under an id after it was changed, and that under every other
changed_to_same : (f : Entry → Entry) (db : Lsps) (id : LspId) (o : Option Entry) → get db id ≡ o → get (changed_to db id (option_map f o)) id ≡ option_map f o
changed_to_same f db id None is = is
changed_to_same f db id (Some e) is = get-insert_same db id (f e)

pub get-changed_same : (f : Entry → Entry) (db : Lsps) (id : LspId) → get (changed f db id) id ≡ option_map f (get db id)
get-changed_same f db id = changed_to_same f db id (get db id) refl

pub changed_to_other : (db : Lsps) (id x : LspId) (o : Option Entry) → (x ≡ id → ⊥) → get (changed_to db id o) x ≡ get db x
changed_to_other db id x None apart = refl
changed_to_other db id x (Some e) apart = get-insert_other db id e x apart

pub get-changed_other : (f : Entry → Entry) (db : Lsps) (id x : LspId) → (x ≡ id → ⊥) → get (changed f db id) x ≡ get db x
get-changed_other f db id x apart = changed_to_other db id x (option_map f (get db id)) apart

pub changed_held : (f : Entry → Entry) (db : Lsps) (id : LspId) (e : Entry) → get db id ≡ Some e → changed f db id ≡ insert db id (f e)
changed_held f db id e is = ap (λ o. changed_to db id (option_map f o)) is

pub changed_missing : (f : Entry → Entry) (db : Lsps) (id : LspId) → get db id ≡ None → changed f db id ≡ db
changed_missing f db id is = ap (λ o. changed_to db id (option_map f o)) is

pub fits_held : (db : Lsps) (id : LspId) (e : Entry) → get db id ≡ Some e → fits db id ≡ true
fits_held db id e is = ap (λ o. is_some o || nat_lt (len db) MOST_LSPS) is

-- ---- the entry at a place is that under its id

pub true_from_T : (b : Bool) → T b → b ≡ true
true_from_T true h = refl
true_from_T false h = absurd h

pub below_at : (x : LspId) (es : List (LspId × Entry)) (k : ℕ) (e : LspId × Entry) → below_all id_cmp x es ≡ true → slice_get es k ≡ Some e → id_cmp x e.0 ≡ Less
below_at x [] k e below at = absurd (cc)
below_at x (f ∷ es) zero e below at =
    let here : f ≡ e = cc in
    subst (λ (g : LspId × Entry). id_cmp x g.0 ≡ Less) here (less_is _ (and_parts (is_lt (id_cmp x f.0)) _ below).0)
below_at x (f ∷ es) (suc k) e below at = below_at x es k e (and_parts (is_lt (id_cmp x f.0)) _ below).1 at

find_at : (es : List (LspId × Entry)) (k : ℕ) (e : LspId × Entry) → is_sorted id_cmp es ≡ true → slice_get es k ≡ Some e → find id_cmp e.0 es ≡ Some e.1
find_at [] k e sorted at = absurd (cc)
find_at (f ∷ es) zero e sorted at =
    let here : f ≡ e = cc in
    subst (λ (g : LspId × Entry). find id_cmp g.0 (f ∷ es) ≡ Some g.1) here (ap (λ r. cond (is_eq r) (Some f.1) (find id_cmp f.0 es)) (tied_same f.0 f.0 refl))
find_at (f ∷ es) (suc k) e sorted at =
    let chunks = and_parts (below_all id_cmp f.0 es) (is_sorted id_cmp es) sorted in
    ap (λ r. cond (is_eq r) (Some f.1) (find id_cmp e.0 es)) (turned_less f.0 e.0 (below_at f.0 es k e chunks.0 at)) ∙ find_at es k e chunks.1 at

pub get_place : (db : Lsps) (k : ℕ) (e : LspId × Entry) → slice_get (entries db) k ≡ Some e → get db e.0 ≡ Some e.1
get_place db k e at = get-entries db e.0 ∙ find_at (entries db) k e (true_from_T _ (entries_sorted db)) at

-- an entry at a place changed is that under its id
pub changed_place : (f : Entry → Entry) (db : Lsps) (k : ℕ) (e : LspId × Entry) → slice_get (entries db) k ≡ Some e → changed_at_place f db k ≡ changed f db e.0
changed_place f db k e at = ap (changed_under f db) at

pub changed_standing : (f : Entry → Entry) (db : Lsps) (id : LspId) (o : Option ℕ) → StandsAt db id o → changed_if_held f db o ≡ changed f db id
changed_standing f db id None is = sym (changed_missing f db id is)
changed_standing f db id (Some place) is = changed_place f db place (id, is.entry) is.stands

-- The map that a list of LSPs in order of id stands for, and what an edit of the list does to it.
use Rattle.std.specs.Prelude.{◌≡◌, ℕ, zero, suc, ◌-◌, ◌<◌, ◌≤◌, Bool, true, false, ◌&&◌, ◌||◌, cond, List, [], ◌∷◌, ◌++◌, map, length, take, drop, Some, None, nat_lt, nat_le, if◌then◌else◌, is_some, slice_get}
use Rattle.std.proofs.Common.{refl, sym, ap, subst, ◌∙◌, arith, get_or, set, inl, inr}
use Rattle.std.specs.List.{insert as inserted, AllByRecursion}
use Rattle.std.specs.declared.cmp.Ordering.{Ordering}
use Rattle.std.specs.declared.cmp.Ordering.TheVariants.{Less, Greater}
use Rattle.std.specs.Ordering.{is_lt, is_eq}
use Rattle.std.specs.Option.{option_map}
use Rattle.std.specs.FinMap.{find, put, is_sorted, get, insert, entries, from_sorted, len, empty, entries-from_sorted, entries-insert, same_entries_map, get-from_sorted, get-empty, len-entries, same_map}
use Rattle.std.specs.FinMap.Entries.{below_all, by_order, is_sorted-put}
use Rattle.std.proofs.lemmas.Bool.{and_parts, cases_lt, leb-false}
use Rattle.std.proofs.lemmas.Float.{T_from_true}
use Rattle.std.proofs.lemmas.List.{map-set, length-set}
use Rattle.std.proofs.lemmas.List.Edits.{length-insert}
use Rattle.spb_types.specs.declared.address.LspId.{LspId}
use Rattle.lsdb.specs.declared.held.Held.{Held}
use Rattle.spb_types.specs.declared.ports.PortSet.{PortSet}
use Rattle.lsdb.specs.declared.version.Version.{Version}
use Rattle.lsdb.specs.declared.version.Version.TheVariants.{Absent, Live, Dead}
use Rattle.lsdb.specs.Version.{is_absent}
use Rattle.lsdb.specs.Entry.{Entry, made, cleaned, aged, CanBeHeld, AreKept, entry_of, IsClean}
use Rattle.lsdb.specs.Database.{Lsps, id_cmp, keyed, version_at, version_in, fits, changed, changed_to, changed_under, changed_at_place, IsHeldAt, each}
use Rattle.lsdb.specs.Place.{AreSorted, IsSound, IsAt, IsGap, with_entry}
use Rattle.lsdb.proofs.Ids.{ids_total, ids_tied, tied_same, turned_less, turned_greater}
use Rattle.lsdb.proofs.LookupLemmas.{true_from_T}
use Rattle.lsdb.proofs.Searched.{ids_rise}
use Rattle.spb_types.specs.declared.limits.TheConstants.{MOST_LSPS}

-- ---- what a search and an edit find in the list of entries

tail_sorted : (h : Held) (hs : List Held) → AreSorted (h ∷ hs) → AreSorted hs
tail_sorted h hs s = (and_parts (below_all id_cmp h.id (map keyed hs)) (is_sorted id_cmp (map keyed hs)) s).1

-- an id that stands further behind is above the first
passed : (h : Held) (hs : List Held) → AreSorted (h ∷ hs) → (id : LspId) (i : ℕ) (d : Held) → i < length hs → (get_or hs i d).id ≡ id → id_cmp id h.id ≡ Greater
passed h hs s id i d within same =
    let up : id_cmp h.id (get_or hs i d).id ≡ Less = ids_rise (h ∷ hs) s 0 (suc i) d (omega arith) (omega arith) in
    turned_less h.id id (subst (λ (x : LspId). id_cmp h.id x ≡ Less) same up)

find_at : (hs : List Held) → AreSorted hs → (id : LspId) (i : ℕ) (d : Held) → i < length hs → (get_or hs i d).id ≡ id → find id_cmp id (map keyed hs) ≡ Some (entry_of (get_or hs i d))
find_at [] s id i d within same = absurd (omega arith)
find_at (h ∷ hs) s id zero d within same =
    ap (λ r. cond (is_eq r) (Some (entry_of h)) (find id_cmp id (map keyed hs))) (tied_same id h.id (sym same))
find_at (h ∷ hs) s id (suc i) d within same =
    ap (λ r. cond (is_eq r) (Some (entry_of h)) (find id_cmp id (map keyed hs))) (passed h hs s id i d (omega arith) same)
    ∙ find_at hs (tail_sorted h hs s) id i d (omega arith) same

put_at : (hs : List Held) → AreSorted hs → (id : LspId) (v : Entry) (i : ℕ) (d : Held) → i < length hs → (get_or hs i d).id ≡ id → put id_cmp id v (map keyed hs) ≡ set (map keyed hs) i (id, v)
put_at [] s id v i d within same = absurd (omega arith)
put_at (h ∷ hs) s id v zero d within same =
    ap (λ r. by_order r ((id, v) ∷ keyed h ∷ map keyed hs) ((h.id, v) ∷ map keyed hs) (keyed h ∷ put id_cmp id v (map keyed hs))) (tied_same id h.id (sym same))
    ∙ ap (λ (x : LspId). (x, v) ∷ map keyed hs) same
put_at (h ∷ hs) s id v (suc i) d within same =
    ap (λ r. by_order r ((id, v) ∷ keyed h ∷ map keyed hs) ((h.id, v) ∷ map keyed hs) (keyed h ∷ put id_cmp id v (map keyed hs))) (passed h hs s id i d (omega arith) same)
    ∙ ap (λ es. keyed h ∷ es) (put_at hs (tail_sorted h hs s) id v i d (omega arith) same)

find_none : (hs : List Held) (id : LspId) → ((k : ℕ) (d : Held) → k < length hs → is_eq (id_cmp id (get_or hs k d).id) ≡ false) → find id_cmp id (map keyed hs) ≡ None
find_none [] id none = refl
find_none (h ∷ hs) id none =
    ap (λ b. cond b (Some (entry_of h)) (find id_cmp id (map keyed hs))) (none 0 h (omega arith)) ∙ find_none hs id (λ k d lt. none (suc k) d (omega arith))

put_gap : (hs : List Held) (id : LspId) (v : Entry) (i : ℕ) → i ≤ length hs → ((k : ℕ) (d : Held) → k < i → id_cmp id (get_or hs k d).id ≡ Greater) → ((d : Held) → i < length hs → id_cmp id (get_or hs i d).id ≡ Less) → put id_cmp id v (map keyed hs) ≡ inserted (map keyed hs) i (id, v)
put_gap [] id v zero within below above = refl
put_gap [] id v (suc i) within below above = absurd (omega arith)
put_gap (h ∷ hs) id v zero within below above =
    ap (λ r. by_order r ((id, v) ∷ keyed h ∷ map keyed hs) ((h.id, v) ∷ map keyed hs) (keyed h ∷ put id_cmp id v (map keyed hs))) (above h (omega arith))
put_gap (h ∷ hs) id v (suc i) within below above =
    ap (λ r. by_order r ((id, v) ∷ keyed h ∷ map keyed hs) ((h.id, v) ∷ map keyed hs) (keyed h ∷ put id_cmp id v (map keyed hs))) (below 0 h (omega arith))
    ∙ ap (λ es. keyed h ∷ es) (put_gap hs id v i (omega arith) (λ k d lt. below (suc k) d (omega arith)) (λ d lt. above d (omega arith)))

map_inserted : (hs : List Held) (i : ℕ) (h : Held) → map keyed (inserted hs i h) ≡ inserted (map keyed hs) i (keyed h)
map_inserted hs zero h = refl
map_inserted [] (suc i) h = refl
map_inserted (g ∷ hs) (suc i) h = ap (λ es. keyed g ∷ es) (map_inserted hs i h)

not_tied : (o : Ordering) → o ≡ Greater → is_eq o ≡ false
not_tied o e = ap is_eq e

not_tied_less : (o : Ordering) → o ≡ Less → is_eq o ≡ false
not_tied_less o e = ap is_eq e

-- ---- the map

pub entries_map : (hs : List Held) → AreSorted hs → entries (from_sorted {R = id_cmp} (map keyed hs)) ≡ map keyed hs
entries_map hs s = entries-from_sorted id_cmp (map keyed hs) (T_from_true _ s)

pub get_map : (hs : List Held) → AreSorted hs → (id : LspId) → get (from_sorted {R = id_cmp} (map keyed hs)) id ≡ find id_cmp id (map keyed hs)
get_map hs s id = get-from_sorted id_cmp (map keyed hs) id (T_from_true _ s)

length_keyed : (hs : List Held) → length (map keyed hs) ≡ length hs
length_keyed [] = refl
length_keyed (h ∷ hs) = ap (λ n. suc n) (length_keyed hs)

pub len_map : (hs : List Held) → AreSorted hs → len (from_sorted {R = id_cmp} (map keyed hs)) ≡ length hs
len_map hs s = len-entries (from_sorted (map keyed hs)) ∙ ap length (entries_map hs s) ∙ length_keyed hs

pub get_at : (hs : List Held) → AreSorted hs → (id : LspId) (i : ℕ) → IsAt hs id i → (d : Held) → get (from_sorted {R = id_cmp} (map keyed hs)) id ≡ Some (entry_of (get_or hs i d))
get_at hs s id i at d = get_map hs s id ∙ find_at hs s id i d at.within (at.same d)

pub get_gap : (hs : List Held) → AreSorted hs → (id : LspId) (i : ℕ) → IsGap hs id i → get (from_sorted {R = id_cmp} (map keyed hs)) id ≡ None
get_gap hs s id i gap = get_map hs s id ∙ find_none hs id none
  where
    none : (k : ℕ) (d : Held) → k < length hs → is_eq (id_cmp id (get_or hs k d).id) ≡ false
    none k d lt = elim (cases_lt k i) [
      | inl before ↦ not_tied _ (turned_less (get_or hs k d).id id (gap.below k d before))
      | inr behind ↦ not_tied_less _ (turned_greater (get_or hs k d).id id (gap.above k d behind lt))
    ]

-- a list whose entries are the old ones with one put in stands for the map with it inserted
module _ (hs : List Held) (s : AreSorted hs) (id : LspId) (v : Entry) (new : List Held) (e : map keyed new ≡ put id_cmp id v (map keyed hs)) where
  pub put_sorted : AreSorted new
  put_sorted = ap (is_sorted id_cmp) e ∙ true_from_T _ (is_sorted-put id_cmp ids_total id v (map keyed hs) (T_from_true _ s))

  pub put_map : from_sorted {R = id_cmp} (map keyed new) ≡ insert (from_sorted {R = id_cmp} (map keyed hs)) id v
  put_map = same_entries_map _ _ (entries_map new put_sorted ∙ e ∙ sym (entries-insert ids_total (from_sorted (map keyed hs)) id v ∙ ap (put id_cmp id v) (entries_map hs s)))

-- ---- an LSP written over

pub set_put : (hs : List Held) → AreSorted hs → (id : LspId) (i : ℕ) → IsAt hs id i → (h : Held) → h.id ≡ id → map keyed (set hs i h) ≡ put id_cmp id (entry_of h) (map keyed hs)
set_put hs s id i at h same =
    map-set keyed hs i h ∙ ap (λ (x : LspId). set (map keyed hs) i (x, entry_of h)) same ∙ sym (put_at hs s id (entry_of h) i h at.within (at.same h))

pub changed_at : (hs : List Held) → AreSorted hs → (id : LspId) (i : ℕ) → IsAt hs id i → (f : Entry → Entry) (h : Held) → h ≡ get_or hs i h → from_sorted {R = id_cmp} (map keyed (set hs i (with_entry f h))) ≡ changed f (from_sorted (map keyed hs)) id
changed_at hs s id i at f h here =
    let same : h.id ≡ id = ap (λ (g : Held). g.id) here ∙ at.same h in
    put_map hs s id (f (entry_of h)) (set hs i (with_entry f h)) (set_put hs s id i at (with_entry f h) same)
    ∙ sym (ap (λ o. changed_to (from_sorted (map keyed hs)) id (option_map f o)) (get_at hs s id i at h ∙ ap (λ (g : Held). Some (entry_of g)) (sym here)))

pub changed_gap : (hs : List Held) → AreSorted hs → (id : LspId) (i : ℕ) → IsGap hs id i → (f : Entry → Entry) → from_sorted {R = id_cmp} (map keyed hs) ≡ changed f (from_sorted (map keyed hs)) id
changed_gap hs s id i gap f = sym (ap (λ o. changed_to (from_sorted (map keyed hs)) id (option_map f o)) (get_gap hs s id i gap))

set_clean : (hs : List Held) (i : ℕ) (h : Held) → AllByRecursion (λ g. IsClean (entry_of g)) hs → IsClean (entry_of h) → AllByRecursion (λ g. IsClean (entry_of g)) (set hs i h)
set_clean [] i h all one = all
set_clean (g ∷ hs) zero h all one = (one, all.1)
set_clean (g ∷ hs) (suc i) h all one = (all.0, set_clean hs i h all.1 one)

pub set_sound : (hs : List Held) → IsSound hs → (id : LspId) (i : ℕ) → IsAt hs id i → (h : Held) → h.id ≡ id → IsClean (entry_of h) → IsSound (set hs i h)
set_sound hs sound id i at h same clean = record {
  sorted = put_sorted hs sound.sorted id (entry_of h) (set hs i h) (set_put hs sound.sorted id i at h same);
  few = simp length-set sound.few;
  clean = set_clean hs i h sound.clean clean;
}

-- the LSP at a place is clean
pub clean_at : (hs : List Held) → AllByRecursion (λ g. IsClean (entry_of g)) hs → (i : ℕ) (h : Held) → i < length hs → h ≡ get_or hs i h → IsClean (entry_of h)
clean_at [] all i h within here = absurd (omega arith)
clean_at (g ∷ hs) all zero h within here = subst (λ (x : Held). IsClean (entry_of x)) (sym here) all.0
clean_at (g ∷ hs) all (suc i) h within here = clean_at hs all.1 i h (omega arith) here

pub changed_sound : (hs : List Held) → IsSound hs → (id : LspId) (i : ℕ) → IsAt hs id i → (f : Entry → Entry) (h : Held) → h ≡ get_or hs i h → (IsClean (entry_of h) → IsClean (f (entry_of h))) → IsSound (set hs i (with_entry f h))
changed_sound hs sound id i at f h here keeps =
    set_sound hs sound id i at (with_entry f h) (ap (λ (g : Held). g.id) here ∙ at.same h) (keeps (clean_at hs sound.clean i h at.within here))

-- ---- a new LSP

pub insert_put : (hs : List Held) (h : Held) (i : ℕ) → IsGap hs h.id i → map keyed (inserted hs i h) ≡ put id_cmp h.id (entry_of h) (map keyed hs)
insert_put hs h i gap =
    map_inserted hs i h
    ∙ sym (put_gap hs h.id (entry_of h) i gap.within (λ k d lt. turned_less (get_or hs k d).id h.id (gap.below k d lt)) (λ d lt. turned_greater (get_or hs i d).id h.id (gap.above i d (omega arith) lt)))

insert_clean : (hs : List Held) (i : ℕ) (h : Held) → AllByRecursion (λ g. IsClean (entry_of g)) hs → IsClean (entry_of h) → AllByRecursion (λ g. IsClean (entry_of g)) (inserted hs i h)
insert_clean hs zero h all one = (one, all)
insert_clean [] (suc i) h all one = (one, all)
insert_clean (g ∷ hs) (suc i) h all one = (all.0, insert_clean hs i h all.1 one)

pub insert_sound : (hs : List Held) → IsSound hs → (h : Held) (i : ℕ) → IsGap hs h.id i → length hs < MOST_LSPS → IsClean (entry_of h) → IsSound (inserted hs i h)
insert_sound hs sound h i gap room clean = record {
  sorted = put_sorted hs sound.sorted h.id (entry_of h) (inserted hs i h) (insert_put hs h i gap);
  few = rw (length-insert hs i h gap.within) (omega arith);
  clean = insert_clean hs i h sound.clean clean;
}

-- whether there is a place
pub fits_at : (hs : List Held) → AreSorted hs → (id : LspId) (i : ℕ) → IsAt hs id i → (d : Held) → fits (from_sorted (map keyed hs)) id ≡ true
fits_at hs s id i at d = ap (λ o. is_some o || nat_lt (len (from_sorted {R = id_cmp} (map keyed hs))) MOST_LSPS) (get_at hs s id i at d)

pub fits_gap : (hs : List Held) → AreSorted hs → (id : LspId) (i : ℕ) → IsGap hs id i → fits (from_sorted (map keyed hs)) id ≡ nat_lt (length hs) MOST_LSPS
fits_gap hs s id i gap =
    ap (λ o. is_some o || nat_lt (len (from_sorted {R = id_cmp} (map keyed hs))) MOST_LSPS) (get_gap hs s id i gap) ∙ ap (λ n. nat_lt n MOST_LSPS) (len_map hs s)

-- ---- every LSP changed

-- what stands at the place to which a loop has come
pub next_clean : (f : Entry → Entry) (hs ys : List Held) (i : ℕ) (h : Held) → AllByRecursion (λ g. IsClean (entry_of g)) hs → i < length hs → ys ≡ map (with_entry f) (take i hs) ++ drop i hs → h ≡ get_or ys i h → IsClean (entry_of h)
next_clean f [] ys i h all within e here = absurd (omega arith)
next_clean f (g ∷ hs) ys zero h all within e here = subst (λ (x : Held). IsClean (entry_of x)) (sym (here ∙ ap (λ (zs : List Held). get_or zs 0 h) e)) all.0
next_clean f (g ∷ hs) ys (suc i) h all within e here =
    next_clean f hs (map (with_entry f) (take i hs) ++ drop i hs) i h all.1 (omega arith) refl (here ∙ ap (λ (zs : List Held). get_or zs (suc i) h) e)

below_mapped : (x : LspId) (f : Entry → Entry) (hs : List Held) → below_all id_cmp x (map keyed (map (with_entry f) hs)) ≡ below_all id_cmp x (map keyed hs)
below_mapped x f [] = refl
below_mapped x f (h ∷ hs) = ap (λ b. is_lt (id_cmp x h.id) && b) (below_mapped x f hs)

sorted_mapped : (f : Entry → Entry) (hs : List Held) → is_sorted id_cmp (map keyed (map (with_entry f) hs)) ≡ is_sorted id_cmp (map keyed hs)
sorted_mapped f [] = refl
sorted_mapped f (h ∷ hs) = λ i. below_mapped h.id f hs i && sorted_mapped f hs i

mapped : (f : Entry → Entry) (hs : List Held) → map keyed (map (with_entry f) hs) ≡ map (λ e. (e.0, f e.1)) (map keyed hs)
mapped f [] = refl
mapped f (h ∷ hs) = ap (λ es. (h.id, f (entry_of h)) ∷ es) (mapped f hs)

pub each_map : (f : Entry → Entry) (hs : List Held) → AreSorted hs → from_sorted {R = id_cmp} (map keyed (map (with_entry f) hs)) ≡ each (λ _ e. f e) (from_sorted (map keyed hs))
unfolding each
each_map f hs s = ap (λ es. from_sorted {R = id_cmp} es) (mapped f hs ∙ sym (ap (λ es. map (λ (e : LspId × Entry). (e.0, f e.1)) es) (entries_map hs s)))

mapped_clean : (f : Entry → Entry) (hs : List Held) → ((e : Entry) → IsClean e → IsClean (f e)) → AllByRecursion (λ g. IsClean (entry_of g)) hs → AllByRecursion (λ g. IsClean (entry_of g)) (map (with_entry f) hs)
mapped_clean f [] keeps all = all
mapped_clean f (h ∷ hs) keeps all = (keeps (entry_of h) all.0, mapped_clean f hs keeps all.1)

length_mapped : (f : Entry → Entry) (hs : List Held) → length (map (with_entry f) hs) ≡ length hs
length_mapped f [] = refl
length_mapped f (h ∷ hs) = ap (λ n. suc n) (length_mapped f hs)

pub mapped_sound : (f : Entry → Entry) (hs : List Held) → AllByRecursion (λ g. IsClean (entry_of g)) (map (with_entry f) hs) → IsSound hs → IsSound (map (with_entry f) hs)
mapped_sound f hs clean sound = record { sorted = sorted_mapped f hs ∙ sound.sorted; few = rw (length_mapped f hs) sound.few; clean = clean }

pub each_sound : (f : Entry → Entry) (hs : List Held) → ((e : Entry) → IsClean e → IsClean (f e)) → IsSound hs → IsSound (map (with_entry f) hs)
each_sound f hs keeps sound = mapped_sound f hs (mapped_clean f hs keeps sound.clean) sound

-- ---- in the shape of the code: the slice that was searched, the LSP there as it was and as it is, and the map

at_in : (hs ls : List Held) → ls ≡ hs → (id : LspId) (i : ℕ) → IsAt ls id i → IsAt hs id i
at_in hs ls same id i at = subst (λ (l : List Held). IsAt l id i) same at

gap_in : (hs ls : List Held) → ls ≡ hs → (id : LspId) (i : ℕ) → IsGap ls id i → IsGap hs id i
gap_in hs ls same id i gap = subst (λ (l : List Held). IsGap l id i) same gap

pub write_sound : (hs ls : List Held) → ls ≡ hs → (id : LspId) (i : ℕ) → IsAt ls id i → IsSound hs → (f : Entry → Entry) (h new : Held) → h ≡ get_or hs i h → new ≡ with_entry f h → (IsClean (entry_of h) → IsClean (f (entry_of h))) → IsSound (set hs i new)
write_sound hs ls same id i at sound f h new here is keeps =
    subst (λ (g : Held). IsSound (set hs i g)) (sym is) (changed_sound hs sound id i (at_in hs ls same id i at) f h here keeps)

pub write_map : (hs ls : List Held) → ls ≡ hs → (id : LspId) (i : ℕ) → IsAt ls id i → IsSound hs → (f : Entry → Entry) (h new : Held) → h ≡ get_or hs i h → new ≡ with_entry f h → (db : Lsps) → from_sorted (map keyed hs) ≡ db → from_sorted {R = id_cmp} (map keyed (set hs i new)) ≡ changed f db id
write_map hs ls same id i at sound f h new here is db view =
    ap (λ (g : Held). from_sorted {R = id_cmp} (map keyed (set hs i g))) is ∙ changed_at hs sound.sorted id i (at_in hs ls same id i at) f h here ∙ ap (λ (m : Lsps). changed f m id) view

pub place_clean : (hs ls : List Held) → ls ≡ hs → (id : LspId) (i : ℕ) → IsAt ls id i → IsSound hs → (h : Held) → h ≡ get_or hs i h → IsClean (entry_of h)
place_clean hs ls same id i at sound h here =
    let there : IsAt hs id i = at_in hs ls same id i at in clean_at hs sound.clean i h there.within here

pub skip_map : (hs ls : List Held) → ls ≡ hs → (id : LspId) (i : ℕ) → IsGap ls id i → IsSound hs → (f : Entry → Entry) (db : Lsps) → from_sorted (map keyed hs) ≡ db → db ≡ changed f db id
skip_map hs ls same id i gap sound f db view =
    sym view ∙ changed_gap hs sound.sorted id i (gap_in hs ls same id i gap) f ∙ ap (λ (m : Lsps). changed f m id) view

pub found_map : (hs ls : List Held) → ls ≡ hs → (id : LspId) (i : ℕ) → IsAt ls id i → IsSound hs → (h : Held) → h ≡ get_or hs i h → (db : Lsps) → from_sorted (map keyed hs) ≡ db → get db id ≡ Some (entry_of h)
found_map hs ls same id i at sound h here db view =
    ap (λ (m : Lsps). get m id) (sym view) ∙ get_at hs sound.sorted id i (at_in hs ls same id i at) h ∙ ap (λ (g : Held). Some (entry_of g)) (sym here)

pub missing_map : (hs ls : List Held) → ls ≡ hs → (id : LspId) (i : ℕ) → IsGap ls id i → IsSound hs → (db : Lsps) → from_sorted (map keyed hs) ≡ db → get db id ≡ None
missing_map hs ls same id i gap sound db view = ap (λ (m : Lsps). get m id) (sym view) ∙ get_gap hs sound.sorted id i (gap_in hs ls same id i gap)

-- ---- what stays clean

pub made_clean : (v : Version) (lifetime : ℕ) (body : List ℕ) (srm ssn : PortSet) → CanBeHeld v lifetime body → IsClean (made v lifetime body srm ssn)
made_clean Absent lifetime body srm ssn can = (refl, refl)
made_clean (Live seq sum) lifetime body srm ssn can = can
made_clean (Dead seq) lifetime body srm ssn can = (refl, refl)

aged_clean_at : (up : PortSet) (v : Version) (lifetime : ℕ) (body : List ℕ) (srm ssn : PortSet) → AreKept v lifetime body → IsClean (aged up (record { version = v; lifetime = lifetime; body = body; srm = srm; ssn = ssn }))
aged_clean_at up Absent lifetime body srm ssn kept = kept
aged_clean_at up (Live seq sum) lifetime body srm ssn kept = by_test (nat_le lifetime 1) refl
  where
    by_test : (b : Bool) → nat_le lifetime 1 ≡ b → IsClean (if b then made (Dead seq) 0 [] up ssn else record { version = Live seq sum; lifetime = lifetime - 1; body = body; srm = srm; ssn = ssn })
    by_test true t = (refl, refl)
    by_test false t = let more : 1 < lifetime = leb-false lifetime 1 t in (omega arith, kept.1)
aged_clean_at up (Dead seq) lifetime body srm ssn kept = kept

pub aged_clean : (up : PortSet) (e : Entry) → IsClean e → IsClean (aged up e)
aged_clean up e clean = aged_clean_at up e.version e.lifetime e.body e.srm e.ssn clean

has_body_at : (v : Version) (lifetime : ℕ) (body : List ℕ) → AreKept v lifetime body → is_absent v ≡ false → 1 ≤ length body
has_body_at Absent lifetime body kept there = absurd (cc)
has_body_at (Live seq sum) lifetime body kept there = kept.1
has_body_at (Dead seq) lifetime body kept there = subst (λ (b : List ℕ). 1 ≤ length b) (sym kept.1) (omega arith)

pub has_body : (e : Entry) → IsClean e → is_absent e.version ≡ false → 1 ≤ length e.body
has_body e clean there = has_body_at e.version e.lifetime e.body clean there

-- ---- an LSP put in, cleaned before

cleaned_clean : (h held : Held) → h ≡ with_entry cleaned held → CanBeHeld held.version held.lifetime held.body → IsClean (entry_of h)
cleaned_clean h held is can =
    subst (λ (g : Held). IsClean (entry_of g)) (sym is) (made_clean held.version held.lifetime held.body held.srm held.ssn can)

pub put_over_sound : (hs ls : List Held) → ls ≡ hs → (h : Held) (i : ℕ) → IsAt ls h.id i → IsSound hs → (held : Held) → h ≡ with_entry cleaned held → CanBeHeld held.version held.lifetime held.body → IsSound (set hs i h)
put_over_sound hs ls same h i at sound held is can = set_sound hs sound h.id i (at_in hs ls same h.id i at) h refl (cleaned_clean h held is can)

pub put_new_sound : (hs ls : List Held) → ls ≡ hs → (h : Held) (i : ℕ) → IsGap ls h.id i → IsSound hs → length hs < MOST_LSPS → (held : Held) → h ≡ with_entry cleaned held → CanBeHeld held.version held.lifetime held.body → IsSound (inserted hs i h)
put_new_sound hs ls same h i gap sound room held is can = insert_sound hs sound h i (gap_in hs ls same h.id i gap) room (cleaned_clean h held is can)

as_put : (m : Lsps) (h held : Held) → h ≡ with_entry cleaned held → (db : Lsps) → m ≡ db → insert m h.id (entry_of h) ≡ insert db held.id (cleaned (entry_of held))
as_put m h held is db view = λ j. insert (view j) (is j).id (entry_of (is j))

pub put_over_map : (hs ls : List Held) → ls ≡ hs → (h : Held) (i : ℕ) → IsAt ls h.id i → IsSound hs → (held : Held) → h ≡ with_entry cleaned held → (db : Lsps) → from_sorted (map keyed hs) ≡ db → from_sorted {R = id_cmp} (map keyed (set hs i h)) ≡ insert db held.id (cleaned (entry_of held))
put_over_map hs ls same h i at sound held is db view =
    put_map hs sound.sorted h.id (entry_of h) (set hs i h) (set_put hs sound.sorted h.id i (at_in hs ls same h.id i at) h refl) ∙ as_put (from_sorted (map keyed hs)) h held is db view

pub put_new_map : (hs ls : List Held) → ls ≡ hs → (h : Held) (i : ℕ) → IsGap ls h.id i → IsSound hs → (held : Held) → h ≡ with_entry cleaned held → (db : Lsps) → from_sorted (map keyed hs) ≡ db → from_sorted {R = id_cmp} (map keyed (inserted hs i h)) ≡ insert db held.id (cleaned (entry_of held))
put_new_map hs ls same h i gap sound held is db view =
    put_map hs sound.sorted h.id (entry_of h) (inserted hs i h) (insert_put hs h i (gap_in hs ls same h.id i gap)) ∙ as_put (from_sorted (map keyed hs)) h held is db view

fits_as : (m : Lsps) (h held : Held) → h ≡ with_entry cleaned held → (db : Lsps) → m ≡ db → fits m h.id ≡ fits db held.id
fits_as m h held is db view = λ j. fits (view j) (is j).id

pub put_over_fits : (hs ls : List Held) → ls ≡ hs → (h : Held) (i : ℕ) → IsAt ls h.id i → IsSound hs → (held : Held) → h ≡ with_entry cleaned held → (db : Lsps) → from_sorted (map keyed hs) ≡ db → fits db held.id ≡ true
put_over_fits hs ls same h i at sound held is db view =
    sym (fits_as (from_sorted (map keyed hs)) h held is db view) ∙ fits_at hs sound.sorted h.id i (at_in hs ls same h.id i at) h

pub put_new_fits : (hs ls : List Held) → ls ≡ hs → (h : Held) (i : ℕ) → IsGap ls h.id i → IsSound hs → (held : Held) → h ≡ with_entry cleaned held → (db : Lsps) → from_sorted (map keyed hs) ≡ db → fits db held.id ≡ nat_lt (length hs) MOST_LSPS
put_new_fits hs ls same h i gap sound held is db view =
    sym (fits_as (from_sorted (map keyed hs)) h held is db view) ∙ fits_gap hs sound.sorted h.id i (gap_in hs ls same h.id i gap)

-- ---- by place

pub get_keyed : (hs : List Held) (i : ℕ) (h : Held) → i < length hs → h ≡ get_or hs i h → slice_get (map keyed hs) i ≡ Some (keyed h)
get_keyed [] i h within here = absurd (omega arith)
get_keyed (g ∷ hs) zero h within here = ap (λ (x : Held). Some (keyed x)) (sym here)
get_keyed (g ∷ hs) (suc i) h within here = get_keyed hs i h (omega arith) here

pub past_keyed : (hs : List Held) (i : ℕ) → length hs ≤ i → slice_get (map keyed hs) i ≡ None
past_keyed [] i past = refl
past_keyed (g ∷ hs) zero past = absurd (omega arith)
past_keyed (g ∷ hs) (suc i) past = past_keyed hs i (omega arith)

-- what stands at a place
keyed_there : (hs : List Held) → AreSorted hs → (i : ℕ) (h : Held) → i < length hs → h ≡ get_or hs i h → (db : Lsps) → from_sorted (map keyed hs) ≡ db → slice_get (entries db) i ≡ Some (keyed h)
keyed_there hs s i h within here db view =
    ap (λ (m : Lsps). slice_get (entries m) i) (sym view) ∙ ap (λ es. slice_get es i) (entries_map hs s) ∙ get_keyed hs i h within here

pub held_at : (hs ls : List Held) → ls ≡ hs → (id : LspId) (i : ℕ) → IsAt ls id i → IsSound hs → (h : Held) → h ≡ get_or hs i h → (db : Lsps) → from_sorted (map keyed hs) ≡ db → IsHeldAt db id i
held_at hs ls same id i at sound h here db view =
    let there : IsAt hs id i = at_in hs ls same id i at in
    let named : h.id ≡ id = ap (λ (g : Held). g.id) here ∙ there.same h in
    record {
      entry = entry_of h;
      held = found_map hs ls same id i at sound h here db view;
      stands = keyed_there hs sound.sorted i h there.within here db view ∙ ap (λ (x : LspId). Some (x, entry_of h)) named;
    }

pub version_held : (hs ls : List Held) → ls ≡ hs → (id : LspId) (i : ℕ) → IsAt ls id i → IsSound hs → (h : Held) → h ≡ get_or hs i h → (db : Lsps) → from_sorted (map keyed hs) ≡ db → h.version ≡ version_at db id
version_held hs ls same id i at sound h here db view = sym (ap version_in (found_map hs ls same id i at sound h here db view))

pub version_missing : (hs ls : List Held) → ls ≡ hs → (id : LspId) (i : ℕ) → IsGap ls id i → IsSound hs → (db : Lsps) → from_sorted (map keyed hs) ≡ db → Absent ≡ version_at db id
version_missing hs ls same id i gap sound db view = sym (ap version_in (missing_map hs ls same id i gap sound db view))

-- the LSP at a place changed
same_at : (hs : List Held) (i : ℕ) (h d : Held) → i < length hs → h ≡ get_or hs i h → (get_or hs i d).id ≡ h.id
same_at [] i h d within here = absurd (omega arith)
same_at (g ∷ hs) zero h d within here = ap (λ (x : Held). x.id) (sym here)
same_at (g ∷ hs) (suc i) h d within here = same_at hs i h d (omega arith) here

pub at_itself : (hs : List Held) (i : ℕ) (h : Held) → i < length hs → h ≡ get_or hs i h → IsAt hs h.id i
at_itself hs i h within here = record { within = within; same = λ d. same_at hs i h d within here }

pub place_sound : (hs : List Held) (i : ℕ) → i < length hs → IsSound hs → (f : Entry → Entry) (h new : Held) → h ≡ get_or hs i h → new ≡ with_entry f h → (IsClean (entry_of h) → IsClean (f (entry_of h))) → IsSound (set hs i new)
place_sound hs i within sound f h new here is keeps = write_sound hs hs refl h.id i (at_itself hs i h within here) sound f h new here is keeps

pub place_map : (hs : List Held) (i : ℕ) → i < length hs → IsSound hs → (f : Entry → Entry) (h new : Held) → h ≡ get_or hs i h → new ≡ with_entry f h → (db : Lsps) → from_sorted (map keyed hs) ≡ db → from_sorted {R = id_cmp} (map keyed (set hs i new)) ≡ changed_at_place f db i
place_map hs i within sound f h new here is db view =
    write_map hs hs refl h.id i (at_itself hs i h within here) sound f h new here is db view ∙ sym (ap (changed_under f db) (keyed_there hs sound.sorted i h within here db view))

pub past_map : (hs : List Held) (i : ℕ) → length hs ≤ i → IsSound hs → (f : Entry → Entry) (db : Lsps) → from_sorted (map keyed hs) ≡ db → db ≡ changed_at_place f db i
past_map hs i past sound f db view =
    sym (ap (changed_under f db) (ap (λ (m : Lsps). slice_get (entries m) i) (sym view) ∙ ap (λ es. slice_get es i) (entries_map hs sound.sorted) ∙ past_keyed hs i past))

pub empty_map : (hs : List Held) → hs ≡ [] → from_sorted {R = id_cmp} (map keyed hs) ≡ empty
empty_map hs none =
    ap (λ (l : List Held). from_sorted {R = id_cmp} (map keyed l)) none
    ∙ same_map ids_total ids_tied (from_sorted (map keyed [])) empty (λ q. get-from_sorted id_cmp (map keyed []) q tt ∙ sym (get-empty id_cmp q))

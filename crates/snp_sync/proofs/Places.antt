-- Every entry of a database changed, place by place.
use Rattle.std.specs.Prelude.{◌≡◌, ℕ, zero, suc, ◌+◌, ◌<◌, ◌≤◌, true, T, List, [], ◌∷◌, ◌++◌, map, length, take, drop, Some, None, slice_get}
use Rattle.std.proofs.Common.{refl, sym, ap, subst, ◌∙◌, arith, append-nil, set}
use Rattle.std.specs.FinMap.{put, is_sorted, entries, entries_sorted, from_sorted, len, len-entries, entries-from_sorted, entries-insert, same_entries_map}
use Rattle.std.specs.FinMap.Entries.{below_all, by_order}
use Rattle.std.proofs.lemmas.Bool.{and_parts}
use Rattle.std.proofs.lemmas.List.{set-get_or, take_all, length-append, length-take, length-drop, length-map}
use Rattle.std.proofs.Math.ListN.{drop_of_length-le}
use Rattle.std.proofs.lemmas.List.Edits.{map_over_more}
use Rattle.std.proofs.lemmas.Option.{get_or_from_slice_get}
use Rattle.spb_types.specs.declared.address.LspId.{LspId}
use Rattle.lsdb.specs.Entry.{Entry}
use Rattle.lsdb.specs.Database.{Lsps, id_cmp, changed, changed_at_place, each}
use Rattle.lsdb.proofs.Ids.{ids_total, tied_same, turned_less}
use Rattle.lsdb.proofs.LookupLemmas.{changed_held, true_from_T, below_at, get_place, changed_place}

-- an entry with its id, changed
abbrev pub changed_pair : (LspId → Entry → Entry) → LspId × Entry → LspId × Entry
changed_pair f e = (e.0, f e.0 e.1)

-- ---- the entry at a place is that under its id

put_at : (es : List (LspId × Entry)) (k : ℕ) (e : LspId × Entry) (v : Entry) → is_sorted id_cmp es ≡ true → slice_get es k ≡ Some e → put id_cmp e.0 v es ≡ set es k (e.0, v)
put_at [] k e v sorted at = absurd (cc)
put_at (f ∷ es) zero e v sorted at =
    let here : f ≡ e = cc in
    subst (λ (g : LspId × Entry). put id_cmp g.0 v (f ∷ es) ≡ (g.0, v) ∷ es) here (ap (λ r. by_order r ((f.0, v) ∷ f ∷ es) ((f.0, v) ∷ es) (f ∷ put id_cmp f.0 v es)) (tied_same f.0 f.0 refl))
put_at (f ∷ es) (suc k) e v sorted at =
    let chunks = and_parts (below_all id_cmp f.0 es) (is_sorted id_cmp es) sorted in
    ap (λ r. by_order r ((e.0, v) ∷ f ∷ es) ((f.0, v) ∷ es) (f ∷ put id_cmp e.0 v es)) (turned_less f.0 e.0 (below_at f.0 es k e chunks.0 at))
    ∙ ap (λ (gs : List (LspId × Entry)). f ∷ gs) (put_at es k e v chunks.1 at)

pub entries-changed : (f : Entry → Entry) (db : Lsps) (k : ℕ) (e : LspId × Entry) → slice_get (entries db) k ≡ Some e → entries (changed f db e.0) ≡ set (entries db) k (e.0, f e.1)
entries-changed f db k e at =
    ap entries (changed_held f db e.0 e.1 (get_place db k e at)) ∙ entries-insert ids_total db e.0 (f e.1) ∙ put_at (entries db) k e (f e.1) (true_from_T _ (entries_sorted db)) at

-- ---- the entries before a place changed

pub record ChangedTo (f : LspId → Entry → Entry) (old : Lsps) (k : ℕ) (new : Lsps) : Type 0 where
  pub are : entries new ≡ map (changed_pair f) (take k (entries old)) ++ drop k (entries old)

pub changed_none : (f : LspId → Entry → Entry) (db : Lsps) → ChangedTo f db 0 db
changed_none f db = record { are = refl }

pub changed_from : (f : LspId → Entry → Entry) (old : Lsps) (k : ℕ) (new : Lsps) → entries new ≡ map (changed_pair f) (take k (entries old)) ++ drop k (entries old) → ChangedTo f old k new
changed_from f old k new are = record { are = are }

changed_next : (f : LspId → Entry → Entry) (old now new : Lsps) (k : ℕ) (e : LspId × Entry) → ChangedTo f old k now → k < len old → slice_get (entries now) k ≡ Some e → entries new ≡ set (entries now) k (changed_pair f e) → ChangedTo f old (k + 1) new
changed_next f old now new k e so_far within at is = record {
  are = is ∙ map_over_more (changed_pair f) (entries old) (entries now) k e (subst (λ n. k < n) (len-entries old) within) so_far.are (sym (get_or_from_slice_get (entries now) k e e at));
}

-- the next entry is changed, or is as it is to be
pub changed_more : (f : LspId → Entry → Entry) (g : Entry → Entry) (old now new : Lsps) (k : ℕ) (e : LspId × Entry) → ChangedTo f old k now → k < len old → Some e ≡ slice_get (entries now) k → f e.0 e.1 ≡ g e.1 → new ≡ changed_at_place g now k → ChangedTo f old (k + 1) new
changed_more f g old now new k e so_far within at same is =
    changed_next f old now new k e so_far within (sym at)
    (ap entries (is ∙ changed_place g now k e (sym at)) ∙ entries-changed g now k e (sym at) ∙ ap (λ (v : Entry). set (entries now) k (e.0, v)) (sym same))

pub changed_kept : (f : LspId → Entry → Entry) (old now new : Lsps) (k : ℕ) (e : LspId × Entry) → ChangedTo f old k now → k < len old → Some e ≡ slice_get (entries now) k → f e.0 e.1 ≡ e.1 → new ≡ now → ChangedTo f old (k + 1) new
changed_kept f old now new k e so_far within at same is =
    changed_next f old now new k e so_far within (sym at)
    (ap entries is ∙ sym (set-get_or (entries now) k e) ∙ ap (λ (p : LspId × Entry). set (entries now) k p) (get_or_from_slice_get (entries now) k e e (sym at) ∙ λ i. (e.0, sym same i)))

-- there is a next entry
pub changed_some : (f : LspId → Entry → Entry) (old now : Lsps) (k : ℕ) → ChangedTo f old k now → k < len old → None ≡ slice_get (entries now) k → ⊥
changed_some f old now k so_far within at =
    let xs = entries old in
    let n : len old ≡ length xs = len-entries old in
    let all : length (entries now) ≡ length (take k xs) + length (drop k xs) = ap length so_far.are ∙ length-append (map (changed_pair f) (take k xs)) (drop k xs) ∙ ap (λ m. m + length (drop k xs)) (simp length-map) in
    past_none (entries now) k (omega (arith, length-take k xs, length-drop k xs)) (sym at)
  where
    past_none : (es : List (LspId × Entry)) (j : ℕ) → j < length es → slice_get es j ≡ None → ⊥
    past_none [] j inside none = absurd (omega arith)
    past_none (e ∷ es) zero inside none = cc
    past_none (e ∷ es) (suc j) inside none = past_none es j (omega arith) none

-- every entry was changed
pub changed_all : (f : LspId → Entry → Entry) (old new : Lsps) (k : ℕ) → ChangedTo f old k new → len old ≤ k → new ≡ each f old
unfolding each
changed_all f old new k so_far past =
    let xs = entries old in
    let n : length xs ≤ k = subst (λ m. m ≤ k) (len-entries old) past in
    let all : entries new ≡ map (changed_pair f) xs = so_far.are ∙ (λ i. map (changed_pair f) (take_all k xs n i) ++ drop_of_length-le xs n i) ∙ append-nil (map (changed_pair f) xs) in
    same_entries_map new (from_sorted (map (changed_pair f) xs)) (all ∙ sym (entries-from_sorted id_cmp (map (changed_pair f) xs) (subst (λ es. T (is_sorted id_cmp es)) all (entries_sorted new))))

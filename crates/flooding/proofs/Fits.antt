-- An id that has room fits, and putting it in leaves few others.
use Rattle.std.specs.Prelude.{◌≡◌, ℕ, suc, ◌+◌, ◌≤◌, ◌<◌, List, [], ◌∷◌, length, Bool, true, false, ◌&&◌, ◌||◌, not, cond, is_some, Some, nat_lt, if◌then◌else◌}
use Rattle.std.proofs.Common.{refl, sym, ap, ◌∙◌, arith}
use Rattle.std.proofs.lemmas.Bool.{and_parts, true≢false, ltb-true, lt-ltb}
use Rattle.std.specs.declared.cmp.Ordering.{Ordering}
use Rattle.std.specs.declared.cmp.Ordering.TheVariants.{Less, Equal, Greater}
use Rattle.std.specs.Ordering.{is_eq, is_lt}
use Rattle.std.specs.FinMap.{find, put, insert, entries, entries_sorted, entries-insert, get-entries, contains_key, len, len-insert, is_sorted}
use Rattle.std.specs.FinMap.Entries.{below_all, by_order}
use Rattle.spb_types.specs.declared.address.SystemId.{SystemId}
use Rattle.spb_types.specs.declared.address.LspId.{LspId}
use Rattle.spb_types.specs.declared.limits.TheConstants.{MOST_LSPS}
use Rattle.lsdb.specs.Entry.{Entry}
use Rattle.lsdb.specs.Database.{Lsps, id_cmp}
use Rattle.lsdb.proofs.Ids.{ids_total}
use Rattle.lsdb.proofs.LookupLemmas.{true_from_T}
use Rattle.flooding.specs.Own.{own_numbers, is_own_number}
use Rattle.flooding.specs.Room.{most_others, others, others_among}
use Rattle.flooding.specs.RoomLaws.{RoomFits, PuttingKeepsFew}
use Rattle.flooding.proofs.Room.{few_own}

numbers_and_others : own_numbers + most_others ≡ MOST_LSPS
unfolding own_numbers
numbers_and_others = refl

pub room_for_many : most_others ≡ 4080
unfolding own_numbers
room_for_many = refl

-- how many more others there are with this id
abbrev counted : SystemId → LspId → ℕ
counted s id = if is_own_number s id then 0 else 1

one : (s : SystemId) (e : LspId × Entry) (es : List (LspId × Entry)) (b : Bool) → is_own_number s e.0 ≡ b
    → length (others_among s (e ∷ es)) ≡ (if b then 0 else 1) + length (others_among s es)
one s e es true is =
    let same : length (others_among s (e ∷ es)) ≡ length (others_among s es) = ap (λ b. length (cond (not b) (e ∷ others_among s es) (others_among s es))) is in
    omega (arith, same)
one s e es false is =
    let same : length (others_among s (e ∷ es)) ≡ suc (length (others_among s es)) = ap (λ b. length (cond (not b) (e ∷ others_among s es) (others_among s es))) is in
    omega (arith, same)

head : (s : SystemId) (e : LspId × Entry) (es : List (LspId × Entry)) → length (others_among s (e ∷ es)) ≡ counted s e.0 + length (others_among s es)
head s e es = one s e es (is_own_number s e.0) refl

abbrev At : SystemId → LspId → Entry → LspId × Entry → List (LspId × Entry) → Ordering → List (LspId × Entry)
At s id v e es r = by_order r ((id, v) ∷ e ∷ es) ((e.0, v) ∷ es) (e ∷ put id_cmp id v es)

-- at most one more
more_at_most : (s : SystemId) (id : LspId) (v : Entry) (es : List (LspId × Entry)) → length (others_among s (put id_cmp id v es)) ≤ counted s id + length (others_among s es)
more_at_most s id v [] = let h = head s (id, v) [] in omega (arith, h)
more_at_most s id v (e ∷ es) = by (id_cmp id e.0) (more_at_most s id v es)
  where
    by : (r : Ordering) → length (others_among s (put id_cmp id v es)) ≤ counted s id + length (others_among s es)
        → length (others_among s (At s id v e es r)) ≤ counted s id + length (others_among s (e ∷ es))
    by Less rest = let h = head s (id, v) (e ∷ es) in omega (arith, h)
    by Equal rest = let h = head s (e.0, v) es in let g = head s e es in omega (arith, h, g)
    by Greater rest = let h = head s e (put id_cmp id v es) in let g = head s e es in omega (arith, h, g, rest)

-- below what is in order it isn't found
less_no_eq : (o : Ordering) → is_lt o ≡ true → is_eq o ≡ false
less_no_eq Less e = refl
less_no_eq Equal e = absurd (cc)
less_no_eq Greater e = absurd (cc)

absent_below : (id : LspId) (es : List (LspId × Entry)) → below_all id_cmp id es ≡ true → is_some (find id_cmp id es) ≡ false
absent_below id [] below = refl
absent_below id (e ∷ es) below =
    let parts = and_parts (is_lt (id_cmp id e.0)) (below_all id_cmp id es) below in
    ap (λ b. is_some (cond b (Some e.1) (find id_cmp id es))) (less_no_eq (id_cmp id e.0) parts.0) ∙ absent_below id es parts.1

below_further : (id x : LspId) (es : List (LspId × Entry)) → id_cmp id x ≡ Less → below_all id_cmp x es ≡ true → below_all id_cmp id es ≡ true
below_further id x [] less below = refl
below_further id x (e ∷ es) less below =
    let parts = and_parts (is_lt (id_cmp x e.0)) (below_all id_cmp x es) below in
    ap (λ b. b && below_all id_cmp id es) (ap is_lt (ids_total.trans id x e.0 less (less_from (id_cmp x e.0) parts.0))) ∙ below_further id x es less parts.1
  where
    less_from : (o : Ordering) → is_lt o ≡ true → o ≡ Less
    less_from Less e = refl
    less_from Equal e = absurd (cc)
    less_from Greater e = absurd (cc)

-- as many where it is held
held_as_many : (s : SystemId) (id : LspId) (v : Entry) (es : List (LspId × Entry)) → is_sorted id_cmp es ≡ true → is_some (find id_cmp id es) ≡ true
    → length (others_among s (put id_cmp id v es)) ≡ length (others_among s es)
held_as_many s id v [] sorted held = absurd (cc)
held_as_many s id v (e ∷ es) sorted held =
    let parts = and_parts (below_all id_cmp e.0 es) (is_sorted id_cmp es) sorted in by (id_cmp id e.0) refl parts.0 (held_as_many s id v es parts.1)
  where
    by : (r : Ordering) → id_cmp id e.0 ≡ r → below_all id_cmp e.0 es ≡ true → (is_some (find id_cmp id es) ≡ true → length (others_among s (put id_cmp id v es)) ≡ length (others_among s es))
        → length (others_among s (At s id v e es (id_cmp id e.0))) ≡ length (others_among s (e ∷ es))
    by Less is below rest =
        let none = ap (λ r. is_some (cond (is_eq r) (Some e.1) (find id_cmp id es))) is ∙ absent_below id es (below_further id e.0 es is below) in
        absurd (true≢false (sym held ∙ none))
    by Equal is below rest =
        ap (λ r. length (others_among s (At s id v e es r))) is ∙ (head s (e.0, v) es ∙ sym (head s e es))
    by Greater is below rest =
        let found = sym (ap (λ r. is_some (cond (is_eq r) (Some e.1) (find id_cmp id es))) is) ∙ held in
        ap (λ r. length (others_among s (At s id v e es r))) is
        ∙ (head s e (put id_cmp id v es) ∙ (ap (λ n. counted s e.0 + n) (rest found) ∙ sym (head s e es)))

-- ---- of databases

inserted_more : (s : SystemId) (db : Lsps) (id : LspId) (v : Entry) → others s (insert db id v) ≤ counted s id + others s db
inserted_more s db id v =
    let same : others s (insert db id v) ≡ length (others_among s (put id_cmp id v (entries db))) = ap (λ es. length (others_among s es)) (entries-insert ids_total db id v) in
    let few = more_at_most s id v (entries db) in
    omega (arith, same, few)

inserted_held : (s : SystemId) (db : Lsps) (id : LspId) (v : Entry) → contains_key db id ≡ true → others s (insert db id v) ≡ others s db
inserted_held s db id v held =
    ap (λ es. length (others_among s es)) (entries-insert ids_total db id v)
    ∙ held_as_many s id v (entries db) (true_from_T _ (entries_sorted db)) (sym (ap is_some (get-entries db id)) ∙ held)

inserted_few : (s : SystemId) (db : Lsps) (id : LspId) (v : Entry) (held own : Bool) → contains_key db id ≡ held → is_own_number s id ≡ own → others s db ≤ most_others
    → (held || (own || nat_lt (others s db) most_others)) ≡ true → others s (insert db id v) ≤ most_others
inserted_few s db id v true own is mine few room = let same = inserted_held s db id v is in omega (arith, same, few)
inserted_few s db id v false true is mine few room = let more = inserted_more s db id v in let none : counted s id ≡ 0 = ap (λ b. if b then 0 else 1) mine in omega (arith, more, none, few)
inserted_few s db id v false false is mine few room =
    let more = inserted_more s db id v in let one : counted s id ≡ 1 = ap (λ b. if b then 0 else 1) mine in let less = ltb-true (others s db) most_others room in omega (arith, more, one, less)

pub putting_keeps_few : PuttingKeepsFew
putting_keeps_few s db id v few room = inserted_few s db id v (contains_key db id) (is_own_number s id) refl refl few room

fits_by : (s : SystemId) (db : Lsps) (id : LspId) (v : Entry) (held : Bool) → contains_key db id ≡ held → others s (insert db id v) ≤ most_others → (held || nat_lt (len db) MOST_LSPS) ≡ true
fits_by s db id v true is few = refl
fits_by s db id v false is few =
    let longer : len (insert db id v) ≡ len db + 1 = len-insert ids_total db id v ∙ ap (λ b. cond b (len db) (len db + 1)) is in
    let all = few_own s (insert db id v) in
    less (len db) MOST_LSPS (omega (arith, longer, all, few, numbers_and_others))
  where
    less : (a b : ℕ) → a < b → nat_lt a b ≡ true
    less a b lt = lt-ltb a b lt

pub room_fits : RoomFits
room_fits s db id v few room = fits_by s db id v (contains_key db id) refl (putting_keeps_few s db id v few room)

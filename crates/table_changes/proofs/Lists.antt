-- The rows of both tables by place.
use Rattle.std.proofs.Common.{◌≡◌, ℕ, zero, suc, flat_map, ◌+◌, ◌-◌, ◌<◌, ◌≤◌, List, [], ◌∷◌, ◌++◌, length, map, drop, get_or, ap, ◌∙◌, arith, add-one, drop-cons, length-append, append-nil}
use Rattle.std.proofs.lemmas.List.{get_or_append_left, get_or-append_right, get_or-map}
use Rattle.std.proofs.lemmas.List.{length-map}
use Rattle.std.specs.List.{range_with_len}
use Rattle.std.proofs.lemmas.Grind.{flat_map-append}
use Rattle.spb_types.specs.declared.tables.UnicastRow.{UnicastRow}
use Rattle.spb_types.specs.declared.tables.GroupRow.{GroupRow}
use Rattle.spb_types.specs.declared.tables.TableRow.{TableRow}
use Rattle.spb_types.specs.declared.tables.TableRow.TheVariants.{Unicast, Group}
use Rattle.spb_types.specs.declared.tables.Tables.{Tables}
use Rattle.table_changes.specs.Changes.{all_rows}

from_place : (rows : List TableRow) (k : ℕ) (r d : TableRow) → k < length rows → get_or rows k d ≡ r → drop k rows ≡ r ∷ drop (k + 1) rows
from_place rows k r d h e = rw (add-one, drop-cons rows k d) (ap (λ (s : TableRow). s ∷ drop (suc k) rows) e)

pub unicast_from : (t : Tables) (k : ℕ) (d : UnicastRow) → k < length t.unicast → drop k (all_rows t) ≡ Unicast (get_or t.unicast k d) ∷ drop (k + 1) (all_rows t)
unicast_from t k d h =
    let us : List TableRow = map Unicast t.unicast in
    let gs : List TableRow = map Group t.group in
    let count : length us ≡ length t.unicast = length-map {A = UnicastRow} {B = TableRow} t.unicast Unicast in
    let within : k < length us = omega arith in
    let both : length (us ++ gs) ≡ length us + length gs = length-append us gs in
    from_place (us ++ gs) k _ (Unicast d) (omega arith) (get_or_append_left us gs (Unicast d) k within ∙ get_or-map {X = UnicastRow} {Y = TableRow} Unicast t.unicast k d (Unicast d) h)

pub group_from : (t : Tables) (k : ℕ) (d : GroupRow) → length t.unicast ≤ k → k < length (all_rows t) → drop k (all_rows t) ≡ Group (get_or t.group (k - length t.unicast) d) ∷ drop (k + 1) (all_rows t)
group_from t k d h within =
    let us : List TableRow = map Unicast t.unicast in
    let gs : List TableRow = map Group t.group in
    let count : length us ≡ length t.unicast = length-map {A = UnicastRow} {B = TableRow} t.unicast Unicast in
    let counts : length gs ≡ length t.group = length-map {A = GroupRow} {B = TableRow} t.group Group in
    let both : length (us ++ gs) ≡ length us + length gs = length-append us gs in
    let inside : k - length t.unicast < length t.group = omega arith in
    from_place (us ++ gs) k _ (Group d) within (get_or-append_right us gs (length t.unicast) k (Group d) count h ∙ get_or-map {X = GroupRow} {Y = TableRow} Group t.group (k - length t.unicast) d (Group d) inside)

range_more : (a n : ℕ) → range_with_len a (suc n) ≡ range_with_len a n ++ (a + n) ∷ []
range_more a zero = ap (λ (k : ℕ). k ∷ []) (let e : a ≡ a + 0 = omega arith in e)
range_more a (suc n) =
    let e : a + 1 + n ≡ a + suc n = omega arith in
    ap (λ (r : List ℕ). a ∷ r) (range_more (a + 1) n ∙ ap (λ (k : ℕ). range_with_len (a + 1) n ++ k ∷ []) e)

-- what is made of one place more
pub one_more : {X : Type 0} (f : ℕ → List X) (n : ℕ) → flat_map f (range_with_len 0 (n + 1)) ≡ flat_map f (range_with_len 0 n) ++ f n
one_more f n =
    let next : n + 1 ≡ suc n = omega arith in
    let last : 0 + n ≡ n = omega arith in
    ap (λ k. flat_map f (range_with_len 0 k)) next
    ∙ (ap (flat_map f) (range_more 0 n ∙ ap (λ (k : ℕ). range_with_len 0 n ++ k ∷ []) last)
    ∙ (flat_map-append f (range_with_len 0 n) (n ∷ []) ∙ ap (λ l. flat_map f (range_with_len 0 n) ++ l) (append-nil (f n))))

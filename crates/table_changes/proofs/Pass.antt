-- One pass over two lists of rows in their order finds those that the second lacks.
use Rattle.std.proofs.Common.{◌≡◌, Bool, cond, ap₂, true, false, true≢false, not, List, [], ◌∷◌, ◌++◌, map, filter, if◌then◌else◌, refl, sym, ap, ◌∙◌, subst, Ordering, Less, Equal, Greater, append_assoc}
use Rattle.std.specs.List.{AllByRecursion}
use Rattle.std.specs.Ordering.{is_lt}
use Rattle.std.specs.Prelude.{◌||◌}
use Rattle.spb_types.specs.declared.tables.TableRow.{TableRow}
use Rattle.fdb_build.specs.Tables.{AscendsBy}
use Rattle.table_changes.specs.Changes.{same_row, is_row_in}
use Rattle.table_changes.specs.Passing.{table_cmp, drop_before, begins_with}
use Rattle.table_changes.proofs.Same.{same_is}
use Rattle.table_changes.proofs.Order.{not_before_itself, before_both}

-- the rows of a list that others lack
abbrev pub lacked : List TableRow → List TableRow → List TableRow
lacked rows others = filter (λ r. not (is_row_in r others)) rows

less : (o : Ordering) → is_lt o ≡ true → o ≡ Less
less Less h = refl
less Equal h = cc
less Greater h = cc

-- a row isn't the same as one before it
apart : (r s : TableRow) → table_cmp s r ≡ Less → same_row r s ≡ false
apart r s h = by (same_row r s) refl
  where
    by : (b : Bool) → same_row r s ≡ b → b ≡ false
    by true e = absurd (not_before_itself r (subst (λ t. table_cmp t r ≡ Less) (sym (same_is r s e)) h))
    by false e = refl

-- a row that doesn't stand behind the first of rows that ascend isn't among the others
none_there : (r s : TableRow) (rows : List TableRow) → is_lt (table_cmp s r) ≡ false → AllByRecursion (λ t. table_cmp s t ≡ Less) rows → is_row_in r rows ≡ false
none_there r s [] h all = refl
none_there r s (t ∷ rows) h all = by (same_row r t) refl (none_there r s rows h all.1)
  where
    here : same_row r t ≡ true → is_lt (table_cmp s r) ≡ true
    here e = ap (λ u. is_lt (table_cmp s u)) (same_is r t e) ∙ ap is_lt all.0

    by : (b : Bool) → same_row r t ≡ b → is_row_in r rows ≡ false → (same_row r t || is_row_in r rows) ≡ false
    by true e rest = absurd (true≢false (sym (here e) ∙ h))
    by false e rest = ap (λ b. b || is_row_in r rows) e ∙ rest

or-false : (b : Bool) → (b || false) ≡ b
or-false true = refl
or-false false = refl

-- a row is among rows that ascend just where it is the first of those that don't stand before it
pub begins : (r : TableRow) (rows : List TableRow) → AscendsBy table_cmp rows → is_row_in r rows ≡ begins_with r (drop_before r rows)
begins r [] h = refl
begins r (s ∷ rows) h = by (is_lt (table_cmp s r)) refl (begins r rows h.1)
  where
    by : (b : Bool) → is_lt (table_cmp s r) ≡ b → is_row_in r rows ≡ begins_with r (drop_before r rows) → (same_row r s || is_row_in r rows) ≡ begins_with r (if b then drop_before r rows else s ∷ rows)
    by true e rest = ap (λ b. b || is_row_in r rows) (apart r s (less _ e)) ∙ rest
    by false e rest = ap (λ b. same_row r s || b) (none_there r s rows e h.0) ∙ or-false (same_row r s)

-- what stands before a row isn't a later one
pub still_in : (r t : TableRow) (rows : List TableRow) → table_cmp r t ≡ Less → is_row_in t rows ≡ is_row_in t (drop_before r rows)
still_in r t [] h = refl
still_in r t (s ∷ rows) h = by (is_lt (table_cmp s r)) refl (still_in r t rows h)
  where
    by : (b : Bool) → is_lt (table_cmp s r) ≡ b → is_row_in t rows ≡ is_row_in t (drop_before r rows) → (same_row t s || is_row_in t rows) ≡ is_row_in t (if b then drop_before r rows else s ∷ rows)
    by true e rest = ap (λ b. b || is_row_in t rows) (apart t s (before_both s r t (less _ e) h)) ∙ rest
    by false e rest = refl

-- so the rows behind it find the same
lacked_later : (r : TableRow) (rows others : List TableRow) → AllByRecursion (λ t. table_cmp r t ≡ Less) rows → lacked rows others ≡ lacked rows (drop_before r others)
lacked_later r [] others h = refl
lacked_later r (t ∷ rows) others h = ap₂ (λ b l. cond (not b) (t ∷ l) l) (still_in r t others h.0) (lacked_later r rows others h.1)

first_or_not : (b : Bool) (r : TableRow) (rows : List TableRow) → cond (not b) (r ∷ rows) rows ≡ (if b then [] else r ∷ []) ++ rows
first_or_not true r rows = refl
first_or_not false r rows = refl

-- the first row by itself, and the others among those that don't stand before it
lacked_first : (r : TableRow) (rows others : List TableRow) → AscendsBy table_cmp (r ∷ rows) → AscendsBy table_cmp others → lacked (r ∷ rows) others ≡ (if begins_with r (drop_before r others) then [] else r ∷ []) ++ lacked rows (drop_before r others)
lacked_first r rows others h k =
    ap₂ (λ b l. cond (not b) (r ∷ l) l) (begins r others k) (lacked_later r rows others h.0) ∙ first_or_not (begins_with r (drop_before r others)) r (lacked rows (drop_before r others))

put_each : {C : Type 0} (make : TableRow → C) (b : Bool) (r : TableRow) (rows : List TableRow) → map make ((if b then [] else r ∷ []) ++ rows) ≡ (if b then [] else make r ∷ []) ++ map make rows
put_each make true r rows = refl
put_each make false r rows = refl

-- one turn of the pass leaves what is put in the end as it was
pub turn : {C : Type 0} (make : TableRow → C) (old new end : List C) (r : TableRow) (here rows others left : List TableRow) (is_there : Bool)
    → AscendsBy table_cmp here → AscendsBy table_cmp others → here ≡ r ∷ rows → left ≡ drop_before r others
    → is_there ≡ begins_with r left → new ≡ old ++ (if is_there then [] else make r ∷ [])
    → old ++ map make (lacked here others) ≡ end → new ++ map make (lacked rows left) ≡ end
turn make old new end r here rows others left is_there h k at passed begun put so_far =
    let b : is_there ≡ begins_with r (drop_before r others) = begun ∙ ap (begins_with r) passed in
    let ascends : AscendsBy table_cmp (r ∷ rows) = subst (AscendsBy table_cmp) at h in
    let test = begins_with r (drop_before r others) in
    ap₂ (λ l m. l ++ map make (lacked rows m)) (put ∙ ap (λ t. old ++ (if t then [] else make r ∷ [])) b) passed
    ∙ (append_assoc old _ _
    ∙ (ap (λ l. old ++ l) (sym (put_each make test r (lacked rows (drop_before r others))) ∙ ap (map make) (sym (lacked_first r rows others ascends k)))
    ∙ (ap (λ l. old ++ map make (lacked l others)) (sym at) ∙ so_far)))

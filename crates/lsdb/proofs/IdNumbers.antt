-- LSP ids are ordered as numbers of eight bytes.
use Rattle.std.specs.Prelude.{◌≡◌, ℕ, ◌+◌, ◌*◌, ◌<◌, List, [], ◌∷◌, ◌++◌, length}
use Rattle.std.proofs.Common.{refl, sym, ap, ◌∙◌, arith, inl, inr}
use Rattle.std.specs.declared.cmp.Ordering.{Ordering}
use Rattle.std.specs.declared.cmp.Ordering.TheVariants.{Less, Equal, Greater}
use Rattle.std.specs.Ordering.{nat_cmp, ordering_then}
use Rattle.std.specs.Cmp.{nat_cmp_is}
use Rattle.std.specs.Cmp.Lexicographic.{slice_cmp}
use Rattle.std.specs.Int.{w64, from_be_bytes}
use Rattle.std.specs.List.{AllByRecursion}
use Rattle.std.proofs.lemmas.Bool.{cases_order}
use Rattle.std.proofs.lemmas.List.{length-append}
use Rattle.spb_types.specs.declared.address.LspId.{LspId}
use Rattle.spb_types.specs.Bytes.{lsp_id_bytes}
use Rattle.lsdb.specs.Database.{id_cmp}
use Rattle.lsdb.specs.Ids.{id_number, HasEightBytes}

-- ---- bytes as a number, digit by digit

unfoldable pub digits : ℕ → List ℕ → ℕ
digits n [] = n
digits n (b ∷ bs) = digits (n * 256 + b) bs

pub then_same : (o : Ordering) → ordering_then o Equal ≡ o
then_same Less = refl
then_same Equal = refl
then_same Greater = refl

pub then_then : (o p q : Ordering) → ordering_then (ordering_then o p) q ≡ ordering_then o (ordering_then p q)
then_then Less p q = refl
then_then Equal p q = refl
then_then Greater p q = refl

pub cmp_less : (a b : ℕ) → a < b → nat_cmp a b ≡ Less
cmp_less a b h = sym (nat_cmp_is a b Less h)

pub cmp_equal : (a b : ℕ) → a ≡ b → nat_cmp a b ≡ Equal
cmp_equal a b h = sym (nat_cmp_is a b Equal h)

pub cmp_greater : (a b : ℕ) → b < a → nat_cmp a b ≡ Greater
cmp_greater a b h = sym (nat_cmp_is a b Greater h)

digit_cmp : (p q x y : ℕ) → x < 256 → y < 256 → nat_cmp (p * 256 + x) (q * 256 + y) ≡ ordering_then (nat_cmp p q) (nat_cmp x y)
digit_cmp p q x y lx ly =
    elim (cases_order p q) [
      | inl same ↦ elim (cases_order x y) [
        | inl tied ↦ cmp_equal (p * 256 + x) (q * 256 + y) (omega arith) ∙ sym (λ i. ordering_then (cmp_equal p q same i) (cmp_equal x y tied i))
        | inr (inl less) ↦ cmp_less (p * 256 + x) (q * 256 + y) (omega arith) ∙ sym (λ i. ordering_then (cmp_equal p q same i) (cmp_less x y less i))
        | inr (inr more) ↦ cmp_greater (p * 256 + x) (q * 256 + y) (omega arith) ∙ sym (λ i. ordering_then (cmp_equal p q same i) (cmp_greater x y more i))
      ]
      | inr (inl less) ↦ cmp_less (p * 256 + x) (q * 256 + y) (omega arith) ∙ sym (ap (λ o. ordering_then o (nat_cmp x y)) (cmp_less p q less))
      | inr (inr more) ↦ cmp_greater (p * 256 + x) (q * 256 + y) (omega arith) ∙ sym (ap (λ o. ordering_then o (nat_cmp x y)) (cmp_greater p q more))
    ]

abbrev pub Small : List ℕ → Type 0
Small bs = AllByRecursion (λ b. b < 256) bs

pub digits_cmp : (xs ys : List ℕ) (p q : ℕ) → length xs ≡ length ys → Small xs → Small ys → nat_cmp (digits p xs) (digits q ys) ≡ ordering_then (nat_cmp p q) (slice_cmp nat_cmp xs ys)
unfolding digits
digits_cmp [] [] p q len sx sy = sym (then_same (nat_cmp p q))
digits_cmp [] (y ∷ ys) p q len sx sy = absurd (omega arith)
digits_cmp (x ∷ xs) [] p q len sx sy = absurd (omega arith)
digits_cmp (x ∷ xs) (y ∷ ys) p q len sx sy =
    digits_cmp xs ys (p * 256 + x) (q * 256 + y) (omega arith) sx.1 sy.1
    ∙ ap (λ o. ordering_then o (slice_cmp nat_cmp xs ys)) (digit_cmp p q x y sx.0 sy.0)
    ∙ then_then (nat_cmp p q) (nat_cmp x y) (slice_cmp nat_cmp xs ys)

-- the eight bytes compare as the system ids and then the last two
pub last_two : (xs ys : List ℕ) (a b c d : ℕ) → length xs ≡ length ys → slice_cmp nat_cmp (xs ++ a ∷ b ∷ []) (ys ++ c ∷ d ∷ []) ≡ ordering_then (slice_cmp nat_cmp xs ys) (ordering_then (nat_cmp a c) (nat_cmp b d))
last_two [] [] a b c d len = ap (λ o. ordering_then (nat_cmp a c) o) (then_same (nat_cmp b d))
last_two [] (y ∷ ys) a b c d len = absurd (omega arith)
last_two (x ∷ xs) [] a b c d len = absurd (omega arith)
last_two (x ∷ xs) (y ∷ ys) a b c d len =
    ap (λ o. ordering_then (nat_cmp x y) o) (last_two xs ys a b c d (omega arith))
    ∙ sym (then_then (nat_cmp x y) (slice_cmp nat_cmp xs ys) (ordering_then (nat_cmp a c) (nat_cmp b d)))

-- ---- ids

six : (P : List ℕ → Type 0) (m : List ℕ) → length m ≡ 6 → ((a b c d e f : ℕ) → P (a ∷ b ∷ c ∷ d ∷ e ∷ f ∷ [])) → P m
six P (a ∷ b ∷ c ∷ d ∷ e ∷ f ∷ []) h k = k a b c d e f
six P _ h k = absurd (omega arith)

-- an id's number, digit by digit
pub number_digits : (x : LspId) → HasEightBytes x → id_number x ≡ digits 0 (lsp_id_bytes x)
unfolding digits id_number
number_digits x id =
    six (λ (m : List ℕ). from_be_bytes w64 (m ++ x.pseudonode ∷ x.number ∷ []) ≡ digits 0 (m ++ x.pseudonode ∷ x.number ∷ [])) x.system.mac.bytes id.six (λ a b c d e f. omega arith)

pub length_two : (xs ys : List ℕ) → length xs ≡ length ys → (a b c d : ℕ) → length (xs ++ a ∷ b ∷ []) ≡ length (ys ++ c ∷ d ∷ [])
length_two xs ys e a b c d = omega (arith, length-append xs (a ∷ b ∷ []), length-append ys (c ∷ d ∷ []))

-- ids compare as their numbers
pub ids_as_numbers : (x y : LspId) → HasEightBytes x → HasEightBytes y → id_cmp x y ≡ nat_cmp (id_number x) (id_number y)
ids_as_numbers x y ix iy =
    let same : length x.system.mac.bytes ≡ length y.system.mac.bytes = ix.six ∙ sym iy.six in
    sym ((λ i. nat_cmp (number_digits x ix i) (number_digits y iy i))
    ∙ digits_cmp (lsp_id_bytes x) (lsp_id_bytes y) 0 0 (length_two _ _ same x.pseudonode x.number y.pseudonode y.number) ix.bytes iy.bytes
    ∙ last_two x.system.mac.bytes y.system.mac.bytes x.pseudonode x.number y.pseudonode y.number same)

pub lower_id : (x y : LspId) → HasEightBytes x → HasEightBytes y → id_number x < id_number y → id_cmp x y ≡ Less
lower_id x y ix iy lower = ids_as_numbers x y ix iy ∙ cmp_less (id_number x) (id_number y) lower

pub higher_id : (x y : LspId) → HasEightBytes x → HasEightBytes y → id_number y < id_number x → id_cmp x y ≡ Greater
higher_id x y ix iy higher = ids_as_numbers x y ix iy ∙ cmp_greater (id_number x) (id_number y) higher

pub same_id : (x y : LspId) → HasEightBytes x → HasEightBytes y → id_number x ≡ id_number y → id_cmp x y ≡ Equal
same_id x y ix iy same = ids_as_numbers x y ix iy ∙ cmp_equal (id_number x) (id_number y) same

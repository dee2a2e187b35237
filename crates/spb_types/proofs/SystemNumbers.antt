-- System ids are the same where they are the same as numbers.
use Rattle.std.proofs.Common.{◌≡◌, ℕ, ◌+◌, ◌*◌, ◌<◌, Bool, true, false, List, [], ◌∷◌, length, refl, sym, ◌∙◌, arith}
use Rattle.std.specs.Prelude.{◌==◌}
use Rattle.std.specs.List.{AllByRecursion}
use Rattle.std.specs.Int.{w64, from_be_bytes}
use Rattle.std.proofs.lemmas.Bool.{eqb-true, eq-eqb}
use Rattle.std.proofs.lemmas.Slice.Eq.{bytes_eq-Decides}
use Rattle.spb_types.specs.declared.address.SystemId.{SystemId}
use Rattle.spb_types.specs.Address.{same_system, system_number, HasSixBytes}

abbrev digits : ℕ → List ℕ → ℕ
digits n [] = n
digits n (b ∷ bs) = digits (n * 256 + b) bs

pub last_digit : (p q x y : ℕ) → x < 256 → y < 256 → p * 256 + x ≡ q * 256 + y → (p ≡ q) × (x ≡ y)
last_digit p q x y lx ly e = (omega (arith, e), omega (arith, e))

-- equal numbers of as many digits have equal digits
same_digits : (xs ys : List ℕ) (p q : ℕ) → length xs ≡ length ys → AllByRecursion (λ b. b < 256) xs → AllByRecursion (λ b. b < 256) ys → digits p xs ≡ digits q ys → (p ≡ q) × (xs ≡ ys)
same_digits [] [] p q len sx sy e = (e, refl)
same_digits [] (y ∷ ys) p q len sx sy e = absurd (omega arith)
same_digits (x ∷ xs) [] p q len sx sy e = absurd (omega arith)
same_digits (x ∷ xs) (y ∷ ys) p q len sx sy e =
    let rest = same_digits xs ys (p * 256 + x) (q * 256 + y) (omega arith) sx.1 sy.1 e in
    let here = last_digit p q x y sx.0 sy.0 rest.0 in
    (here.0, λ i. here.1 i ∷ rest.1 i)

pub six : (P : List ℕ → Type 0) (m : List ℕ) → length m ≡ 6 → ((a b c d e f : ℕ) → P (a ∷ b ∷ c ∷ d ∷ e ∷ f ∷ [])) → P m
six P (a ∷ b ∷ c ∷ d ∷ e ∷ f ∷ []) h k = k a b c d e f
six P _ h k = absurd (omega arith)

number_digits : (x : SystemId) → HasSixBytes x → system_number x ≡ digits 0 x.mac.bytes
unfolding system_number
number_digits x id = six (λ (m : List ℕ). from_be_bytes w64 (0 ∷ 0 ∷ m) ≡ digits 0 m) x.mac.bytes id.len (λ a b c d e f. omega arith)

bytes_of : (x y : SystemId) → HasSixBytes x → HasSixBytes y → system_number x ≡ system_number y → x.mac.bytes ≡ y.mac.bytes
bytes_of x y ix iy e =
    (same_digits x.mac.bytes y.mac.bytes 0 0 (ix.len ∙ sym iy.len) ix.bytes iy.bytes (sym (number_digits x ix) ∙ (e ∙ number_digits y iy))).1

number_of_bytes : (x y : SystemId) → x.mac.bytes ≡ y.mac.bytes → system_number x ≡ system_number y
number_of_bytes x y e = λ i. system_number (record { mac = record { bytes = e i } })

pub same_numbers : (x y : SystemId) → HasSixBytes x → HasSixBytes y → (system_number x == system_number y) ≡ same_system x y
same_numbers x y ix iy = by_number (system_number x == system_number y) (same_system x y) refl refl
  where
    by_number : (a b : Bool) → (system_number x == system_number y) ≡ a → same_system x y ≡ b → a ≡ b
    by_number true true p q = refl
    by_number false false p q = refl
    by_number true false p q = let t = (bytes_eq-Decides x.mac.bytes y.mac.bytes).1 (bytes_of x y ix iy (eqb-true _ _ p)) in absurd cc
    by_number false true p q = let t = eq-eqb _ _ (number_of_bytes x y ((bytes_eq-Decides x.mac.bytes y.mac.bytes).0 q)) in absurd cc

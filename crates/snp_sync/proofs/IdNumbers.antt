-- LSP ids are ordered as numbers of eight bytes.
use Rattle.std.specs.Prelude.{◌≡◌, ℕ, zero, suc, ◌+◌, ◌-◌, ◌%◌, ◌^◌, ◌<◌, ◌&&◌, List, [], ◌∷◌, ◌++◌, length, nat_lt, nat_le}
use Rattle.std.proofs.Common.{refl, sym, ap, ◌∙◌, arith, lit<, inl, inr}
use Rattle.std.specs.declared.cmp.Ordering.TheVariants.{Less}
use Rattle.std.specs.Ordering.{nat_cmp, is_lt, is_le}
use Rattle.std.specs.Int.{w64, from_be_bytes}
use Rattle.std.proofs.lemmas.Bool.{cases_order, le-leb, lt-leb, lt-ltb, le-ltb, ltb-true}
use Rattle.std.proofs.lemmas.Bool.Decides.{nat_tests}
use Rattle.std.proofs.lemmas.Nat.{from_be_bytes-to_be_bytes_8}
use Rattle.spb_types.specs.declared.address.LspId.{LspId}
use Rattle.isis_pdu.specs.Grammar.{IsBytes}
use Rattle.spb_types.specs.Bytes.{lsp_id_bytes}
use Rattle.spb_tlvs.proofs.Numbers.{six}
use Rattle.lsdb.specs.Database.{id_cmp}
use Rattle.lsdb.specs.Ids.{HasEightBytes}
use Rattle.lsdb.proofs.IdNumbers.{Small, cmp_less, cmp_equal, cmp_greater, ids_as_numbers as as_numbers}
use Rattle.snp_sync.specs.Ids.{id_number, id_of, successor, first_id, last_id, is_between}
use Rattle.snp_sync.specs.Sized.{IsLspId}
use Rattle.snp_sync.specs.SendingLaws.{SuccessorIsNext, SuccessorIsId}

-- ---- ids

small_from : (bs : List ℕ) → IsBytes bs → Small bs
small_from [] h = tt
small_from (b ∷ bs) h = (h 0, small_from bs (λ i. h (suc i)))

small_both : (xs ys : List ℕ) → Small xs → Small ys → Small (xs ++ ys)
small_both [] ys p q = q
small_both (x ∷ xs) ys p q = (p.0, small_both xs ys p.1 q)

small_id : (x : LspId) → IsLspId x → Small (lsp_id_bytes x)
small_id x id = small_both x.system.mac.bytes (x.pseudonode ∷ x.number ∷ []) (small_from x.system.mac.bytes id.bytes.0) (id.bytes.1, (id.bytes.2, tt))

eight : (x : LspId) → IsLspId x → HasEightBytes x
eight x id = record { six = id.system; bytes = small_id x id }

-- ids compare as their numbers
pub ids_as_numbers : (x y : LspId) → IsLspId x → IsLspId y → id_cmp x y ≡ nat_cmp (id_number x) (id_number y)
ids_as_numbers x y ix iy = as_numbers x y (eight x ix) (eight y iy)

-- an id's number has eight bytes
bound_at : (m : List ℕ) (y z : ℕ) → length m ≡ 6 → Small (m ++ y ∷ z ∷ []) → from_be_bytes w64 (m ++ y ∷ z ∷ []) < 2 ^ 64
bound_at m y z len = six (λ (l : List ℕ). Small (l ++ y ∷ z ∷ []) → from_be_bytes w64 (l ++ y ∷ z ∷ []) < 2 ^ 64) m len (λ a b c d e f s. omega arith)

pub number_bound : (x : LspId) → IsLspId x → id_number x < 2 ^ 64
unfolding id_number
number_bound x id = bound_at x.system.mac.bytes x.pseudonode x.number id.system (small_id x id)

-- the id of a number
number-of : (n : ℕ) → n < 2 ^ 64 → id_number (id_of n) ≡ n
unfolding id_number
number-of n h = from_be_bytes-to_be_bytes_8 n h

bytes_from : (bs : List ℕ) → Small bs → IsBytes bs
bytes_from [] s i = omega arith
bytes_from (b ∷ bs) s zero = s.0
bytes_from (b ∷ bs) s (suc i) = bytes_from bs s.1 i

of_is_id : (n : ℕ) → IsLspId (id_of n)
of_is_id n = record {
  system = refl;
  bytes = (bytes_from (id_of n).system.mac.bytes (omega arith, (omega arith, (omega arith, (omega arith, (omega arith, (omega arith, tt)))))), omega arith, omega arith);
}

pub successor_is_id : SuccessorIsId
unfolding successor
successor_is_id x = of_is_id ((id_number x + 1) % 2 ^ 64)

-- the number of the next id
pub successor_number : (x : LspId) → id_number x + 1 < 2 ^ 64 → id_number (successor x) ≡ id_number x + 1
unfolding successor
successor_number x h =
    let n : ℕ = id_number x in
    let small : (n + 1) % 2 ^ 64 ≡ n + 1 = omega arith in
    number-of ((n + 1) % 2 ^ 64) (omega arith) ∙ small

pub first_is_id : IsLspId first_id
first_is_id = record { system = refl; bytes = (bytes_from first_id.system.mac.bytes (lit< tt, (lit< tt, (lit< tt, (lit< tt, (lit< tt, (lit< tt, tt)))))), lit< tt, lit< tt) }

pub last_is_id : IsLspId last_id
last_is_id = record { system = refl; bytes = (bytes_from last_id.system.mac.bytes (lit< tt, (lit< tt, (lit< tt, (lit< tt, (lit< tt, (lit< tt, tt)))))), lit< tt, lit< tt) }

pub number-first : id_number first_id ≡ 0
unfolding id_number
number-first = refl

pub number-last : id_number last_id ≡ 2 ^ 64 - 1
unfolding id_number
number-last = refl

-- ---- tests of ids are tests of their numbers

le_as_test : (a b : ℕ) → is_le (nat_cmp a b) ≡ nat_le a b
le_as_test a b =
    elim (cases_order a b) [
      | inl same ↦ ap is_le (cmp_equal a b same) ∙ sym (le-leb a b (omega arith))
      | inr (inl less) ↦ ap is_le (cmp_less a b less) ∙ sym (le-leb a b (omega arith))
      | inr (inr more) ↦ ap is_le (cmp_greater a b more) ∙ sym (lt-leb a b more)
    ]

lt_as_test : (a b : ℕ) → is_lt (nat_cmp a b) ≡ nat_lt a b
lt_as_test a b =
    elim (cases_order a b) [
      | inl same ↦ ap is_lt (cmp_equal a b same) ∙ sym (le-ltb a b (omega arith))
      | inr (inl less) ↦ ap is_lt (cmp_less a b less) ∙ sym (lt-ltb a b less)
      | inr (inr more) ↦ ap is_lt (cmp_greater a b more) ∙ sym (le-ltb a b (omega arith))
    ]

pub between_as_numbers : (s e x : LspId) → IsLspId s → IsLspId e → IsLspId x → is_between s e x ≡ (nat_le (id_number s) (id_number x) && nat_le (id_number x) (id_number e))
between_as_numbers s e x is ie ix =
    λ i. (ap is_le (ids_as_numbers s x is ix) ∙ le_as_test (id_number s) (id_number x)) i && (ap is_le (ids_as_numbers x e ix ie) ∙ le_as_test (id_number x) (id_number e)) i

less_number : (a b : ℕ) → nat_cmp a b ≡ Less → a < b
less_number a b e = ltb-true a b (sym (lt_as_test a b) ∙ ap is_lt e)

pub less_numbers : (x y : LspId) → IsLspId x → IsLspId y → id_cmp x y ≡ Less → id_number x < id_number y
less_numbers x y ix iy e = less_number (id_number x) (id_number y) (sym (ids_as_numbers x y ix iy) ∙ e)

pub successor_is_next : SuccessorIsNext
successor_is_next x y ix iy below =
    let top = less_numbers x last_id ix last_is_id below in
    let next = successor_number x (omega (arith, top, number-last)) in
    ap is_lt (ids_as_numbers x y ix iy) ∙ lt_as_test (id_number x) (id_number y)
    ∙ one_more (id_number x) (id_number y)
    ∙ sym (ap is_le (ids_as_numbers (successor x) y (successor_is_id x) iy) ∙ le_as_test (id_number (successor x)) (id_number y) ∙ ap (λ n. nat_le n (id_number y)) next)
  where
    one_more : (a b : ℕ) → nat_lt a b ≡ nat_le (a + 1) b
    one_more a b = grind (arith, nat_tests)

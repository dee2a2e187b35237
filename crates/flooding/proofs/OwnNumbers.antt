-- Which ids are own numbers, and what body the system has for each.
use Rattle.std.specs.Prelude.{◌≡◌, ◌≢◌, ℕ, ◌≤◌, ◌<◌, Bool, true, false, ◌&&◌, ◌==◌, None, nat_lt, if◌then◌else◌}
use Rattle.std.proofs.Common.{refl, sym, ap, ◌∙◌, arith}
use Rattle.std.proofs.lemmas.Bool.{true≢false, and_parts, lt-ltb, ltb-true, eqb-true}
use Rattle.std.proofs.lemmas.Slice.Eq.{bytes_eq-Decides}
use Rattle.spb_types.specs.declared.address.SystemId.{SystemId}
use Rattle.spb_types.specs.declared.address.LspId.{LspId}
use Rattle.spb_types.specs.Address.{same_system}
use Rattle.flooding.specs.declared.own.Own.{Own}
use Rattle.flooding.specs.Own.{own_id, own_numbers, own_number, IsOwnNumber, is_own_number, body_of_number, body_for}

-- ---- how many there are: number 0, and as many as an octet tells

pub some_number : 1 ≤ own_numbers
unfolding own_numbers
some_number = omega arith

pub few_numbers : own_numbers ≤ 256
unfolding own_numbers
few_numbers = omega arith

-- ---- which they are

pub same_self : (s : SystemId) → same_system s s ≡ true
same_self s = (bytes_eq-Decides s.mac.bytes s.mac.bytes).1 refl

pub same_is : (s t : SystemId) → same_system s t ≡ true → s ≡ t
same_is s t same =
    let bytes : s.mac.bytes ≡ t.mac.bytes = (bytes_eq-Decides s.mac.bytes t.mac.bytes).0 same in
    ap (λ b. record { mac = record { bytes = b } }) bytes

-- the test finds own numbers, and no others
pub number_is_own : (system : SystemId) (id : LspId) → IsOwnNumber system id → is_own_number system id ≡ true
number_is_own system id own =
    ap (is_own_number system) own.is
    ∙ (ap (λ b. b && nat_lt own.number own_numbers) (same_self system) ∙ lt-ltb own.number own_numbers own.below)

pub own_is_number : (system : SystemId) (id : LspId) → is_own_number system id ≡ true → IsOwnNumber system id
own_is_number system id is =
    let parts = and_parts (same_system id.system system) ((id.pseudonode == 0) && nat_lt id.number own_numbers) is in
    let rest = and_parts (id.pseudonode == 0) (nat_lt id.number own_numbers) parts.1 in
    record {
      number = id.number;
      below = ltb-true id.number own_numbers rest.1;
      is = λ i. record { system = same_is id.system system parts.0 i; pseudonode = eqb-true id.pseudonode 0 rest.0 i; number = id.number };
    }

pub its_own : (system : SystemId) (number : ℕ) → number < own_numbers → is_own_number system (own_number system number) ≡ true
its_own system number below = number_is_own system (own_number system number) (record { number = number; below = below; is = refl })

pub other_than : (system : SystemId) (id : LspId) (number : ℕ) → number < own_numbers → is_own_number system id ≡ false → id ≢ own_number system number
other_than system id number below other is = true≢false (sym (its_own system number below) ∙ (ap (is_own_number system) (sym is) ∙ other))

pub other_number : (system : SystemId) (number other : ℕ) → number ≢ other → own_number system number ≢ own_number system other
other_number system number other apart is = apart (ap (λ (x : LspId). x.number) is)

-- the body that answers a claim of an own number
pub its_body : (own : Own) (number : ℕ) → number < own_numbers → own.spent ≡ false → body_for own (own_number own.system number) ≡ body_of_number own number
its_body own number below fresh =
    ap (λ b. if b then None else (if is_own_number own.system (own_number own.system number) then body_of_number own number else None)) fresh
    ∙ ap (λ b. if b then body_of_number own number else None) (its_own own.system number below)

-- number 0 is one of them
pub first_is_own : (system : SystemId) → is_own_number system (own_id system) ≡ true
first_is_own system = number_is_own system (own_id system) (record { number = 0; below = omega (arith, some_number); is = refl })

pub other_than_first : (system : SystemId) (id : LspId) → is_own_number system id ≡ false → id ≢ own_id system
other_than_first system id other is = true≢false (sym (first_is_own system) ∙ (ap (is_own_number system) (sym is) ∙ other))

-- no id of another system is
pub not_own : (system : SystemId) (id : LspId) → id.system ≢ system → is_own_number system id ≡ false
not_own system id apart = by_test (is_own_number system id) refl
  where
    by_test : (b : Bool) → is_own_number system id ≡ b → b ≡ false
    by_test true is = absurd (apart (ap (λ (x : LspId). x.system) (own_is_number system id is).is))
    by_test false is = refl

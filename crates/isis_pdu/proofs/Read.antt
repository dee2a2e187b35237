-- What is read as a PDU is spelled as it, but for what is ignored.
use Rattle.std.proofs.Common.{◌≡◌, ℕ, zero, suc, ◌+◌, ◌*◌, ◌-◌, ◌/◌, ◌%◌, ◌<◌, ◌≤◌, List, [], ◌∷◌, ◌++◌, length, drop, Bool, true, false, Option, Some, None, Result, Ok, refl, sym, ap, ◌∙◌, subst, arith, drop-cons, inl, inr, take}
use Rattle.std.specs.Prelude.{IsTrue, ◌&&◌, ◌||◌, ◌==◌, nat_le, slice_range, if◌then◌else◌}
use Rattle.std.proofs.lemmas.Bool.{leb-true, eqb-true, cases_lt}
use Rattle.std.proofs.lemmas.List.{length-take, length-drop, get_or-drop, get_or-take, get_or_past}
use Rattle.std.proofs.lemmas.List.Folds.{drop_split}
use Rattle.spb_types.specs.Bytes.{u8_at, u16_at, u32_at, system_at, lsp_id_at}
use Rattle.spb_types.specs.declared.address.SystemId.{SystemId}
use Rattle.isis_pdu.specs.declared.kind.Kind.{Kind}
use Rattle.isis_pdu.specs.declared.kind.Kind.TheVariants as kinds
use Rattle.isis_pdu.specs.declared.pdu.PduError.{PduError}
use Rattle.isis_pdu.specs.Header.{kind_of, type_of, fixed_length}
use Rattle.isis_pdu.specs.Pdu.{PduValue, LspValue, hello, lsp, csnp, psnp}
use Rattle.isis_pdu.specs.Tlvs.{is_whole}
use Rattle.isis_pdu.specs.Spelling.{Ignored, AreIgnored, pdu_with}
use Rattle.isis_pdu.specs.Reading.{is_isis, kind_at, pdu_length, has_length, has_sum, tlvs_of_pdu, value_in, unless, read_as, read}
use Rattle.isis_pdu.proofs.Written.{lsp_laid}
use Rattle.isis_pdu.specs.Grammar.{length_of, IsId, is_sound_lsp, ignored_in, IsBytes, IsLspIdOfBytes, HasFields, IsReadFrom}

-- ---- what the tests say

unless_ok : (e : PduError) (t : Bool) (r : Result PduValue PduError) (p : PduValue) → unless e t r ≡ Ok p → (t ≡ true) × (r ≡ Ok p)
unless_ok e true r p h = (refl, h)
unless_ok e false r p h = absurd cc

and_true : (a b : Bool) → (a && b) ≡ true → (a ≡ true) × (b ≡ true)
and_true true b h = (refl, h)
and_true false b h = absurd cc

abbrev done : PduValue → Result PduValue PduError
done p = Ok p

ok_is : (v p : PduValue) → done v ≡ done p → v ≡ p
ok_is v p h = cc

abbrev found : Kind → Option Kind
found k = Some k

found_is : (a b : Kind) → found a ≡ found b → a ≡ b
found_is a b e = cc

-- what holds of bytes that are read
pub record IsAccepted (bytes : List ℕ) (k : Kind) : Type 0 where
  pub isis : is_isis bytes ≡ true
  pub number : u8_at bytes 4 % 32 ≡ type_of k
  pub header : u8_at bytes 1 ≡ fixed_length k
  pub long : fixed_length k ≤ length bytes
  pub low : fixed_length k ≤ pdu_length k bytes
  pub high : pdu_length k bytes ≤ length bytes
  pub whole : is_whole (tlvs_of_pdu k bytes) ≡ true
  pub sum : has_sum k bytes ≡ true

kind_number : (n : ℕ) (k : Kind) → kind_of n ≡ Some k → n ≡ type_of k
kind_number n k h = first (n == 17) (n == 18) (n == 24) (n == 26) refl refl refl refl h
  where
    first : (a b c d : Bool) → (n == 17) ≡ a → (n == 18) ≡ b → (n == 24) ≡ c → (n == 26) ≡ d
        → (if a then Some kinds.Hello else if b then Some kinds.Lsp else if c then Some kinds.Csnp else if d then Some kinds.Psnp else None) ≡ Some k → n ≡ type_of k
    first true b c d p q r s e = eqb-true n 17 p ∙ ap type_of (found_is _ _ e)
    first false true c d p q r s e = eqb-true n 18 q ∙ ap type_of (found_is _ _ e)
    first false false true d p q r s e = eqb-true n 24 r ∙ ap type_of (found_is _ _ e)
    first false false false true p q r s e = eqb-true n 26 s ∙ ap type_of (found_is _ _ e)
    first false false false false p q r s e = absurd cc

accepted : (bytes : List ℕ) (p : PduValue) → read bytes ≡ Ok p → (k : Kind) × IsAccepted bytes k × (value_in k bytes ≡ p)
unfolding read read_as
accepted bytes p h =
    let a = unless_ok _ (nat_le 8 (length bytes)) _ p h in
    let b = unless_ok _ (is_isis bytes) _ p a.1 in
    of_kind (kind_at bytes) refl b.0 b.1
  where
    of_kind : (o : Option Kind) → kind_at bytes ≡ o → is_isis bytes ≡ true → read_as o bytes ≡ Ok p → (k : Kind) × IsAccepted bytes k × (value_in k bytes ≡ p)
    of_kind None e isis h = absurd cc
    of_kind (Some k) e isis h =
        let a = unless_ok _ (u8_at bytes 1 == fixed_length k) _ p h in
        let b = unless_ok _ (has_length k bytes) _ p a.1 in
        let c = unless_ok _ (is_whole (tlvs_of_pdu k bytes)) _ p b.1 in
        let d = unless_ok _ (has_sum k bytes) _ p c.1 in
        let high = and_true _ _ b.0 in
        let low = and_true _ _ high.0 in (
          k,
          record {
            isis = isis;
            number = kind_number _ k e;
            header = eqb-true _ _ a.0;
            long = leb-true _ _ low.0;
            low = leb-true _ _ low.1;
            high = leb-true _ _ high.1;
            whole = c.0;
            sum = d.0;
          },
          ok_is _ _ d.1,
        )

-- ---- the bytes one by one

cells : ℕ → ℕ → List ℕ → List ℕ
cells zero i bytes = []
cells (suc n) i bytes = u8_at bytes i ∷ cells n (suc i) bytes

drop-cells : (n i : ℕ) (bytes : List ℕ) → i + n ≤ length bytes → drop i bytes ≡ cells n i bytes ++ drop (i + n) bytes
unfolding cells
drop-cells zero i bytes h = ap (λ (j : ℕ). drop j bytes) (omega arith)
drop-cells (suc n) i bytes h =
    let next : suc i + n ≡ i + suc n = omega arith in
    drop-cons bytes i 0 (omega arith) ∙ ap (λ (xs : List ℕ). u8_at bytes i ∷ xs) (drop-cells n (suc i) bytes (omega arith) ∙ ap (λ (j : ℕ). cells n (suc i) bytes ++ drop j bytes) next)

-- the six bytes of an id
six_cells : (bytes : List ℕ) (i : ℕ) → i + 6 ≤ length bytes → take 6 (drop i bytes) ≡ cells 6 i bytes
unfolding cells
six_cells bytes i h = ap (λ (xs : List ℕ). take 6 xs) (drop-cells 6 i bytes h)

six_long : (bytes : List ℕ) (i : ℕ) → i + 6 ≤ length bytes → IsId (system_at bytes i)
six_long bytes i h = omega (arith, length-take 6 (drop i bytes), length-drop i bytes, h)

-- the fixed part, the TLVs, and what follows the PDU
in_parts : (n end : ℕ) (bytes : List ℕ) → n ≤ end → end ≤ length bytes → bytes ≡ cells n 0 bytes ++ (slice_range bytes n end ++ drop end bytes)
in_parts n end bytes low high =
    let start : 0 + n ≡ n = omega arith in
    drop-cells n 0 bytes (omega arith) ∙ rw start (ap (λ (xs : List ℕ). cells n 0 bytes ++ xs) (drop_split bytes n end low))

-- a number of two bytes and one of four, byte by byte
high_byte : (a b : ℕ) → b < 256 → (a * 256 + b) / 256 ≡ a
high_byte a b h = omega arith

low_byte : (a b : ℕ) → b < 256 → (a * 256 + b) % 256 ≡ b
low_byte a b h = omega arith

first_byte : (a b c d : ℕ) → b < 256 → c < 256 → d < 256 → (((a * 256 + b) * 256 + c) * 256 + d) / 16777216 ≡ a
first_byte a b c d hb hc hd = omega arith

second_byte : (a b c d : ℕ) → b < 256 → c < 256 → d < 256 → (((a * 256 + b) * 256 + c) * 256 + d) / 65536 % 256 ≡ b
second_byte a b c d hb hc hd = omega arith

third_byte : (a b c d : ℕ) → c < 256 → d < 256 → (((a * 256 + b) * 256 + c) * 256 + d) / 256 % 256 ≡ c
third_byte a b c d hc hd = omega arith

-- the bytes that every header has
pub record IsHeader (bytes : List ℕ) (k : Kind) : Type 0 where
  pub discriminator : u8_at bytes 0 ≡ 0x83
  pub length_octet : u8_at bytes 1 ≡ fixed_length k
  pub version : u8_at bytes 2 ≡ 1
  pub id_length : IsTrue ((u8_at bytes 3 == 0) || (u8_at bytes 3 == 6))
  pub type : u8_at bytes 4 / 32 * 32 + type_of k ≡ u8_at bytes 4
  pub second_version : u8_at bytes 5 ≡ 1
  pub max_areas : IsTrue ((u8_at bytes 7 == 0) || (u8_at bytes 7 == 3))

header_of : (bytes : List ℕ) (k : Kind) → IsAccepted bytes k → IsHeader bytes k
header_of bytes k h =
    let a = and_true _ _ h.isis in
    let b = and_true _ _ a.0 in
    let c = and_true _ _ b.0 in
    let d = and_true _ _ c.0 in
    record {
      discriminator = eqb-true _ _ d.0;
      length_octet = h.header;
      version = eqb-true _ _ d.1;
      id_length = c.1;
      type = rw (← h.number) (omega arith);
      second_version = eqb-true _ _ b.1;
      max_areas = a.1;
    }

-- the TLVs end at the PDU length
tlvs_end : (k : Kind) (bytes : List ℕ) → IsAccepted bytes k → fixed_length k + length (tlvs_of_pdu k bytes) ≡ pdu_length k bytes
tlvs_end k bytes h = omega (arith, length-take (pdu_length k bytes - fixed_length k) (drop (fixed_length k) bytes), length-drop (fixed_length k) bytes, h.low, h.high)

-- the bytes are the PDU, and what follows it
abbrev AreParts : List ℕ → PduValue → Type 0
AreParts bytes p = bytes ≡ pdu_with (ignored_in p bytes) p ++ drop (length_of p) bytes

-- a system id of these bytes
abbrev id_of : List ℕ → SystemId
id_of xs = record { mac = record { bytes = xs } }

-- the values in the bytes, but for the bytes of their ids
abbrev hello_in : List ℕ → List ℕ → PduValue
hello_in bytes xs = hello (record {
  circuit_type = u8_at bytes 8;
  source = id_of xs;
  holding = u16_at bytes 15;
  circuit = u8_at bytes 19;
  tlvs = tlvs_of_pdu kinds.Hello bytes;
})

abbrev lsp_in : List ℕ → List ℕ → PduValue
lsp_in bytes xs = lsp (record {
  lifetime = u16_at bytes 10;
  id = record { system = id_of xs; pseudonode = u8_at bytes 18; number = u8_at bytes 19 };
  seq = u32_at bytes 20;
  sum = u16_at bytes 24;
  flags = u8_at bytes 26;
  tlvs = tlvs_of_pdu kinds.Lsp bytes;
})

abbrev csnp_in : List ℕ → List ℕ → List ℕ → List ℕ → PduValue
csnp_in bytes xs ys zs = csnp (record {
  source = id_of xs;
  start = record { system = id_of ys; pseudonode = u8_at bytes 23; number = u8_at bytes 24 };
  end = record { system = id_of zs; pseudonode = u8_at bytes 31; number = u8_at bytes 32 };
  tlvs = tlvs_of_pdu kinds.Csnp bytes;
})

abbrev psnp_in : List ℕ → List ℕ → PduValue
psnp_in bytes xs = psnp (record { source = id_of xs; tlvs = tlvs_of_pdu kinds.Psnp bytes })

hello_cells : (bytes : List ℕ) → IsBytes bytes → IsAccepted bytes kinds.Hello → AreParts bytes (hello_in bytes (cells 6 9 bytes))
unfolding pdu_with cells
hello_cells bytes fits h =
    let head = header_of bytes kinds.Hello h in
    let len : 20 + length (tlvs_of_pdu kinds.Hello bytes) ≡ pdu_length kinds.Hello bytes = tlvs_end kinds.Hello bytes h in
    let e15 : u16_at bytes 15 / 256 ≡ u8_at bytes 15 = high_byte _ _ (fits 16) in
    let e16 : u16_at bytes 15 % 256 ≡ u8_at bytes 16 = low_byte _ _ (fits 16) in
    let e17 : (20 + length (tlvs_of_pdu kinds.Hello bytes)) / 256 ≡ u8_at bytes 17 = rw len (high_byte _ _ (fits 18)) in
    let e18 : (20 + length (tlvs_of_pdu kinds.Hello bytes)) % 256 ≡ u8_at bytes 18 = rw len (low_byte _ _ (fits 18)) in
    in_parts 20 (pdu_length kinds.Hello bytes) bytes h.low h.high ∙ cc

lsp_cells : (bytes : List ℕ) → IsBytes bytes → IsAccepted bytes kinds.Lsp → AreParts bytes (lsp_in bytes (cells 6 12 bytes))
unfolding pdu_with cells
lsp_cells bytes fits h =
    let head = header_of bytes kinds.Lsp h in
    let len : 27 + length (tlvs_of_pdu kinds.Lsp bytes) ≡ pdu_length kinds.Lsp bytes = tlvs_end kinds.Lsp bytes h in
    let e10 : u16_at bytes 10 / 256 ≡ u8_at bytes 10 = high_byte _ _ (fits 11) in
    let e11 : u16_at bytes 10 % 256 ≡ u8_at bytes 11 = low_byte _ _ (fits 11) in
    let e24 : u16_at bytes 24 / 256 ≡ u8_at bytes 24 = high_byte _ _ (fits 25) in
    let e25 : u16_at bytes 24 % 256 ≡ u8_at bytes 25 = low_byte _ _ (fits 25) in
    let e20 : u32_at bytes 20 / 16777216 ≡ u8_at bytes 20 = first_byte (u8_at bytes 20) (u8_at bytes 21) (u8_at bytes 22) (u8_at bytes 23) (fits 21) (fits 22) (fits 23) in
    let e21 : u32_at bytes 20 / 65536 % 256 ≡ u8_at bytes 21 = second_byte (u8_at bytes 20) (u8_at bytes 21) (u8_at bytes 22) (u8_at bytes 23) (fits 21) (fits 22) (fits 23) in
    let e22 : u32_at bytes 20 / 256 % 256 ≡ u8_at bytes 22 = third_byte (u8_at bytes 20) (u8_at bytes 21) (u8_at bytes 22) (u8_at bytes 23) (fits 22) (fits 23) in
    let e23 : u32_at bytes 20 % 256 ≡ u8_at bytes 23 = low_byte _ _ (fits 23) in
    let e8 : (27 + length (tlvs_of_pdu kinds.Lsp bytes)) / 256 ≡ u8_at bytes 8 = rw len (high_byte _ _ (fits 9)) in
    let e9 : (27 + length (tlvs_of_pdu kinds.Lsp bytes)) % 256 ≡ u8_at bytes 9 = rw len (low_byte _ _ (fits 9)) in
    in_parts 27 (pdu_length kinds.Lsp bytes) bytes h.low h.high ∙ cc

csnp_cells : (bytes : List ℕ) → IsBytes bytes → IsAccepted bytes kinds.Csnp → AreParts bytes (csnp_in bytes (cells 6 10 bytes) (cells 6 17 bytes) (cells 6 25 bytes))
unfolding pdu_with cells
csnp_cells bytes fits h =
    let head = header_of bytes kinds.Csnp h in
    let len : 33 + length (tlvs_of_pdu kinds.Csnp bytes) ≡ pdu_length kinds.Csnp bytes = tlvs_end kinds.Csnp bytes h in
    let e8 : (33 + length (tlvs_of_pdu kinds.Csnp bytes)) / 256 ≡ u8_at bytes 8 = rw len (high_byte _ _ (fits 9)) in
    let e9 : (33 + length (tlvs_of_pdu kinds.Csnp bytes)) % 256 ≡ u8_at bytes 9 = rw len (low_byte _ _ (fits 9)) in
    in_parts 33 (pdu_length kinds.Csnp bytes) bytes h.low h.high ∙ cc

psnp_cells : (bytes : List ℕ) → IsBytes bytes → IsAccepted bytes kinds.Psnp → AreParts bytes (psnp_in bytes (cells 6 10 bytes))
unfolding pdu_with cells
psnp_cells bytes fits h =
    let head = header_of bytes kinds.Psnp h in
    let len : 17 + length (tlvs_of_pdu kinds.Psnp bytes) ≡ pdu_length kinds.Psnp bytes = tlvs_end kinds.Psnp bytes h in
    let e8 : (17 + length (tlvs_of_pdu kinds.Psnp bytes)) / 256 ≡ u8_at bytes 8 = rw len (high_byte _ _ (fits 9)) in
    let e9 : (17 + length (tlvs_of_pdu kinds.Psnp bytes)) % 256 ≡ u8_at bytes 9 = rw len (low_byte _ _ (fits 9)) in
    in_parts 17 (pdu_length kinds.Psnp bytes) bytes h.low h.high ∙ cc

hello_parts : (bytes : List ℕ) → IsBytes bytes → IsAccepted bytes kinds.Hello → AreParts bytes (value_in kinds.Hello bytes)
unfolding value_in
hello_parts bytes fits h =
    subst (λ (xs : List ℕ). AreParts bytes (hello_in bytes xs)) (sym (six_cells bytes 9 (omega (arith, h.long)))) (hello_cells bytes fits h)

lsp_parts : (bytes : List ℕ) → IsBytes bytes → IsAccepted bytes kinds.Lsp → AreParts bytes (value_in kinds.Lsp bytes)
unfolding value_in
lsp_parts bytes fits h =
    subst (λ (xs : List ℕ). AreParts bytes (lsp_in bytes xs)) (sym (six_cells bytes 12 (omega (arith, h.long)))) (lsp_cells bytes fits h)

csnp_parts : (bytes : List ℕ) → IsBytes bytes → IsAccepted bytes kinds.Csnp → AreParts bytes (value_in kinds.Csnp bytes)
unfolding value_in
csnp_parts bytes fits h =
    subst (λ (xs : List ℕ). AreParts bytes (csnp_in bytes xs (take 6 (drop 17 bytes)) (take 6 (drop 25 bytes)))) (sym (six_cells bytes 10 (omega (arith, h.long))))
    (subst (λ (ys : List ℕ). AreParts bytes (csnp_in bytes (cells 6 10 bytes) ys (take 6 (drop 25 bytes)))) (sym (six_cells bytes 17 (omega (arith, h.long))))
    (subst (λ (zs : List ℕ). AreParts bytes (csnp_in bytes (cells 6 10 bytes) (cells 6 17 bytes) zs)) (sym (six_cells bytes 25 (omega (arith, h.long))))
    (csnp_cells bytes fits h)))

psnp_parts : (bytes : List ℕ) → IsBytes bytes → IsAccepted bytes kinds.Psnp → AreParts bytes (value_in kinds.Psnp bytes)
unfolding value_in
psnp_parts bytes fits h =
    subst (λ (xs : List ℕ). AreParts bytes (psnp_in bytes xs)) (sym (six_cells bytes 10 (omega (arith, h.long)))) (psnp_cells bytes fits h)

-- ---- the ranges of the fields

u16_fits : (bytes : List ℕ) (i : ℕ) → IsBytes bytes → u16_at bytes i < 65536
u16_fits bytes i fits = omega (arith, fits i, fits (i + 1))

u32_fits : (bytes : List ℕ) (i : ℕ) → IsBytes bytes → u32_at bytes i < 4294967296
u32_fits bytes i fits = omega (arith, fits i, fits (i + 1), fits (i + 2), fits (i + 3))

IsBytes-drop : (n : ℕ) (bytes : List ℕ) → IsBytes bytes → IsBytes (drop n bytes)
IsBytes-drop n bytes fits i = rw get_or-drop (fits (n + i))

IsBytes-take : (n : ℕ) (bytes : List ℕ) → IsBytes bytes → IsBytes (take n bytes)
IsBytes-take n bytes fits i =
    elim (cases_lt i n) [
      | inl lt ↦ rw (get_or-take n bytes i 0 lt) (fits i)
      | inr le ↦ rw (get_or_past (take n bytes) i 0 (omega (arith, length-take n bytes))) (omega arith)
    ]

tlvs_fit : (k : Kind) (bytes : List ℕ) → IsBytes bytes → IsBytes (tlvs_of_pdu k bytes)
tlvs_fit k bytes fits = IsBytes-take _ _ (IsBytes-drop (fixed_length k) bytes fits)

system_fits : (bytes : List ℕ) (i : ℕ) → IsBytes bytes → IsBytes (system_at bytes i).mac.bytes
system_fits bytes i fits = IsBytes-take 6 _ (IsBytes-drop i bytes fits)

lsp_id_fits : (bytes : List ℕ) (i : ℕ) → IsBytes bytes → IsLspIdOfBytes (lsp_id_at bytes i)
lsp_id_fits bytes i fits = (system_fits bytes i fits, fits (i + 6), fits (i + 7))

fields_of : (k : Kind) (bytes : List ℕ) → IsBytes bytes → HasFields (value_in k bytes)
unfolding value_in
fields_of kinds.Hello bytes fits = (fits 8, system_fits bytes 9 fits, u16_fits bytes 15 fits, fits 19, tlvs_fit kinds.Hello bytes fits)
fields_of kinds.Lsp bytes fits = (u16_fits bytes 10 fits, lsp_id_fits bytes 12 fits, u32_fits bytes 20 fits, u16_fits bytes 24 fits, fits 26, tlvs_fit kinds.Lsp bytes fits)
fields_of kinds.Csnp bytes fits = (system_fits bytes 10 fits, lsp_id_fits bytes 17 fits, lsp_id_fits bytes 25 fits, tlvs_fit kinds.Csnp bytes fits)
fields_of kinds.Psnp bytes fits = (system_fits bytes 10 fits, tlvs_fit kinds.Psnp bytes fits)

-- ---- the law

lsp_sound : (o : Ignored) (l : LspValue) (after bytes : List ℕ) → AreIgnored o → IsId l.id.system → bytes ≡ pdu_with o (lsp l) ++ after → has_sum kinds.Lsp bytes ≡ true → IsTrue (is_sound_lsp l)
unfolding pdu_with
lsp_sound o l after bytes over id parts h = sym (lsp_laid o l after over id).1 ∙ subst (λ (xs : List ℕ). has_sum kinds.Lsp xs ≡ true) parts h

read_from : (k : Kind) (bytes : List ℕ) → IsBytes bytes → IsAccepted bytes k → IsReadFrom bytes (value_in k bytes)
unfolding value_in
read_from kinds.Hello bytes fits h =
    let head = header_of bytes kinds.Hello h in
    record {
      allowed = record { id_length = head.id_length; max_areas = head.max_areas };
      parts = hello_parts bytes fits h;
      within = rw (tlvs_end kinds.Hello bytes h) h.high;
      pdu = record { ids = six_long bytes 9 (omega (arith, h.long)); whole = h.whole };
      sound = refl;
      fields = fields_of kinds.Hello bytes fits;
    }
read_from kinds.Lsp bytes fits h =
    let head = header_of bytes kinds.Lsp h in
    let l : LspValue = record { lifetime = u16_at bytes 10; id = lsp_id_at bytes 12; seq = u32_at bytes 20; sum = u16_at bytes 24; flags = u8_at bytes 26; tlvs = tlvs_of_pdu kinds.Lsp bytes } in
    let o : Ignored = ignored_in (lsp l) bytes in
    let over : AreIgnored o = record { id_length = head.id_length; max_areas = head.max_areas } in
    let parts : bytes ≡ pdu_with o (lsp l) ++ drop (length_of (lsp l)) bytes = lsp_parts bytes fits h in
    let six : IsId l.id.system = six_long bytes 12 (omega (arith, h.long)) in
    record {
      allowed = over;
      parts = parts;
      within = rw (tlvs_end kinds.Lsp bytes h) h.high;
      pdu = record { ids = six; whole = h.whole };
      sound = lsp_sound o l (drop (length_of (lsp l)) bytes) bytes over six parts h.sum;
      fields = fields_of kinds.Lsp bytes fits;
    }
read_from kinds.Csnp bytes fits h =
    let head = header_of bytes kinds.Csnp h in
    record {
      allowed = record { id_length = head.id_length; max_areas = head.max_areas };
      parts = csnp_parts bytes fits h;
      within = rw (tlvs_end kinds.Csnp bytes h) h.high;
      pdu = record { ids = (six_long bytes 10 (omega (arith, h.long)), six_long bytes 17 (omega (arith, h.long)), six_long bytes 25 (omega (arith, h.long))); whole = h.whole };
      sound = refl;
      fields = fields_of kinds.Csnp bytes fits;
    }
read_from kinds.Psnp bytes fits h =
    let head = header_of bytes kinds.Psnp h in
    record {
      allowed = record { id_length = head.id_length; max_areas = head.max_areas };
      parts = psnp_parts bytes fits h;
      within = rw (tlvs_end kinds.Psnp bytes h) h.high;
      pdu = record { ids = six_long bytes 10 (omega (arith, h.long)); whole = h.whole };
      sound = refl;
      fields = fields_of kinds.Psnp bytes fits;
    }

-- what is read is spelled so
pub read_is_spelled : (bytes : List ℕ) (p : PduValue) → IsBytes bytes → read bytes ≡ Ok p → IsReadFrom bytes p
read_is_spelled bytes p fits h =
    let a = accepted bytes p h in
    subst (λ (v : PduValue). IsReadFrom bytes v) a.2 (read_from a.0 bytes fits a.1)

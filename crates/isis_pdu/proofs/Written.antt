-- What is spelled as a PDU is read as it.
use Rattle.std.proofs.Common.{◌≡◌, ℕ, ◌+◌, ◌*◌, ◌-◌, ◌/◌, ◌%◌, ◌<◌, ◌≤◌, List, [], ◌∷◌, ◌++◌, length, take, true, Some, Ok, Err, refl, sym, ◌∙◌, subst, arith}
use Rattle.std.specs.Prelude.{IsTrue, ◌==◌, nat_le, slice_range, slice_index, if◌then◌else◌}
use Rattle.std.proofs.lemmas.Bool.{le-leb}
use Rattle.std.proofs.lemmas.List.{take_at, length-append}
use Rattle.spb_types.specs.declared.address.SystemId.{SystemId}
use Rattle.spb_types.specs.declared.address.LspId.{LspId}
use Rattle.spb_types.specs.Bytes.{u8_at}
use Rattle.isis_pdu.specs.declared.kind.Kind.{Kind}
use Rattle.isis_pdu.specs.declared.kind.Kind.TheVariants as kinds
use Rattle.isis_pdu.specs.declared.pdu.PduError.TheVariants as refusals
use Rattle.isis_pdu.specs.Header.{fixed_length}
use Rattle.isis_pdu.specs.Pdu.{PduValue, HelloValue, LspValue, CsnpValue, PsnpValue, hello, lsp, csnp, psnp}
use Rattle.isis_pdu.specs.Tlvs.{is_whole}
use Rattle.isis_pdu.specs.Checksum.{covered}
use Rattle.isis_pdu.specs.Spelling.{Ignored, AreIgnored, hello_with, lsp_with, csnp_with, psnp_with, pdu_with}
use Rattle.isis_pdu.specs.Reading.{is_isis, kind_at, pdu_length, has_length, has_sum, tlvs_of_pdu, value_in, read_as, read}
use Rattle.isis_pdu.specs.Grammar.{kind_of_pdu, tlvs_of, length_of, IsId, IsPdu, is_sound_lsp, is_sound}

-- bytes that begin with a PDU, up to the check of its sum
pub record IsLaidOut (bytes : List ℕ) (p : PduValue) : Type 0 where
  pub long : length_of p ≤ length bytes
  pub isis : is_isis bytes ≡ true
  pub kind : kind_at bytes ≡ Some (kind_of_pdu p)
  pub header : u8_at bytes 1 ≡ fixed_length (kind_of_pdu p)
  pub len : pdu_length (kind_of_pdu p) bytes ≡ length_of p
  pub tlvs : slice_range bytes (fixed_length (kind_of_pdu p)) (length_of p) ≡ tlvs_of p
  pub value : value_in (kind_of_pdu p) bytes ≡ p

eqb_same : (n : ℕ) → (n == n) ≡ true
eqb_same n = grind (arith)

fixed_above : (k : Kind) → 8 ≤ fixed_length k
fixed_above kinds.Hello = omega arith
fixed_above kinds.Lsp = omega arith
fixed_above kinds.Csnp = omega arith
fixed_above kinds.Psnp = omega arith

has_length-true : (k : Kind) (bytes : List ℕ) (n : ℕ) → pdu_length k bytes ≡ n → fixed_length k ≤ n → n ≤ length bytes → has_length k bytes ≡ true
has_length-true k bytes n e low high = rw (e, le-leb (fixed_length k) (length bytes) (omega arith), le-leb (fixed_length k) n low, le-leb n (length bytes) high) refl

pub laid_out_is_read : (bytes : List ℕ) (p : PduValue) → IsLaidOut bytes p → IsTrue (is_whole (tlvs_of p)) → read bytes ≡ (if has_sum (kind_of_pdu p) bytes then Ok p else Err refusals.Sum)
unfolding read read_as
laid_out_is_read bytes p h whole =
    let k : Kind = kind_of_pdu p in
    let long : nat_le 8 (length bytes) ≡ true = le-leb 8 (length bytes) (omega (arith, fixed_above k, h.long)) in
    let header : (u8_at bytes 1 == fixed_length k) ≡ true = rw h.header (eqb_same _) in
    let len : has_length k bytes ≡ true = has_length-true k bytes (length_of p) h.len (omega arith) h.long in
    let tlvs : is_whole (tlvs_of_pdu k bytes) ≡ true = rw (h.len, h.tlvs) whole in
    rw (long, h.isis, h.kind, header, len, tlvs, h.value) refl

-- ---- cells

-- the system id of six bytes
abbrev id_of : ℕ → ℕ → ℕ → ℕ → ℕ → ℕ → SystemId
id_of a b c d e f = record { mac = record { bytes = a ∷ b ∷ c ∷ d ∷ e ∷ f ∷ [] } }

-- six bytes are the list of them
abbrev pub six_of : List ℕ → List ℕ
six_of xs = slice_index xs 0 ∷ slice_index xs 1 ∷ slice_index xs 2 ∷ slice_index xs 3 ∷ slice_index xs 4 ∷ slice_index xs 5 ∷ []

pub six : (xs : List ℕ) → length xs ≡ 6 → xs ≡ six_of xs
six [] h = absurd (omega arith)
six (a ∷ []) h = absurd (omega arith)
six (a ∷ b ∷ []) h = absurd (omega arith)
six (a ∷ b ∷ c ∷ []) h = absurd (omega arith)
six (a ∷ b ∷ c ∷ d ∷ []) h = absurd (omega arith)
six (a ∷ b ∷ c ∷ d ∷ e ∷ []) h = absurd (omega arith)
six (a ∷ b ∷ c ∷ d ∷ e ∷ f ∷ []) h = refl
six (a ∷ b ∷ c ∷ d ∷ e ∷ f ∷ g ∷ xs) h = absurd (omega arith)

u16_back : (n : ℕ) → n / 256 * 256 + n % 256 ≡ n
u16_back n = omega arith

u32_back : (n : ℕ) → ((n / 16777216 * 256 + n / 65536 % 256) * 256 + n / 256 % 256) * 256 + n % 256 ≡ n
u32_back n = omega arith

-- the three bits above the type don't change it
kind_back : (bits n : ℕ) → n < 32 → (bits * 32 + n) % 32 ≡ n
kind_back bits n h = omega arith

-- the TLVs behind a fixed part of k bytes
tlvs_back : (k : ℕ) (tlvs after : List ℕ) → take (k + length tlvs - k) (tlvs ++ after) ≡ tlvs
tlvs_back k tlvs after = take_at tlvs after (k + length tlvs - k) (omega arith)

hello_cells : (o : Ignored) (ct hold circ a b c d e f : ℕ) (tlvs after : List ℕ) → AreIgnored o
    → let v : HelloValue = record { circuit_type = ct; source = id_of a b c d e f; holding = hold; circuit = circ; tlvs = tlvs } in IsLaidOut (hello_with o v ++ after) (hello v)
unfolding value_in
hello_cells o ct hold circ a b c d e f tlvs after ok = record {
  long = omega (arith, length-append tlvs after);
  isis = rw (ok.id_length, ok.max_areas) refl;
  kind = rw (kind_back o.type_bits 17 (omega arith)) refl;
  header = refl;
  len = u16_back (20 + length tlvs);
  tlvs = tlvs_back 20 tlvs after;
  value = rw (u16_back hold, u16_back (20 + length tlvs), tlvs_back 20 tlvs after) refl;
}

abbrev lsp_id_of : ℕ → ℕ → ℕ → ℕ → ℕ → ℕ → ℕ → ℕ → LspId
lsp_id_of a b c d e f n m = record { system = id_of a b c d e f; pseudonode = n; number = m }

lsp_cells : (o : Ignored) (life a b c d e f n m seq sum flags : ℕ) (tlvs after : List ℕ) → AreIgnored o
    → let v : LspValue = record { lifetime = life; id = lsp_id_of a b c d e f n m; seq = seq; sum = sum; flags = flags; tlvs = tlvs } in
    IsLaidOut (lsp_with o v ++ after) (lsp v) × (has_sum kinds.Lsp (lsp_with o v ++ after) ≡ is_sound_lsp v)
unfolding value_in is_sound_lsp
lsp_cells o life a b c d e f n m seq sum flags tlvs after ok = (
  record {
    long = omega (arith, length-append tlvs after);
    isis = rw (ok.id_length, ok.max_areas) refl;
    kind = rw (kind_back o.type_bits 18 (omega arith)) refl;
    header = refl;
    len = u16_back (27 + length tlvs);
    tlvs = tlvs_back 27 tlvs after;
    value = rw (u16_back life, u32_back seq, u16_back sum, u16_back (27 + length tlvs), tlvs_back 27 tlvs after) refl;
  },
  rw (
    u16_back life,
    u32_back seq,
    u16_back sum,
    u16_back (27 + length tlvs),
    take_at (covered (lsp_id_of a b c d e f n m) seq sum flags tlvs) after (27 + length tlvs - 12) (omega arith),
  ) refl,
)

csnp_cells : (o : Ignored) (a b c d e f : ℕ) (a' b' c' d' e' f' n' m' : ℕ) (a'' b'' c'' d'' e'' f'' n'' m'' : ℕ) (tlvs after : List ℕ) → AreIgnored o
    → let v : CsnpValue = record { source = id_of a b c d e f; start = lsp_id_of a' b' c' d' e' f' n' m'; end = lsp_id_of a'' b'' c'' d'' e'' f'' n'' m''; tlvs = tlvs } in
    IsLaidOut (csnp_with o v ++ after) (csnp v)
unfolding value_in
csnp_cells o a b c d e f a' b' c' d' e' f' n' m' a'' b'' c'' d'' e'' f'' n'' m'' tlvs after ok = record {
  long = omega (arith, length-append tlvs after);
  isis = rw (ok.id_length, ok.max_areas) refl;
  kind = rw (kind_back o.type_bits 24 (omega arith)) refl;
  header = refl;
  len = u16_back (33 + length tlvs);
  tlvs = tlvs_back 33 tlvs after;
  value = rw (u16_back (33 + length tlvs), tlvs_back 33 tlvs after) refl;
}

psnp_cells : (o : Ignored) (a b c d e f : ℕ) (tlvs after : List ℕ) → AreIgnored o
    → let v : PsnpValue = record { source = id_of a b c d e f; tlvs = tlvs } in IsLaidOut (psnp_with o v ++ after) (psnp v)
unfolding value_in
psnp_cells o a b c d e f tlvs after ok = record {
  long = omega (arith, length-append tlvs after);
  isis = rw (ok.id_length, ok.max_areas) refl;
  kind = rw (kind_back o.type_bits 26 (omega arith)) refl;
  header = refl;
  len = u16_back (17 + length tlvs);
  tlvs = tlvs_back 17 tlvs after;
  value = rw (u16_back (17 + length tlvs), tlvs_back 17 tlvs after) refl;
}

-- ---- any ids of six bytes

abbrev with_bytes : List ℕ → SystemId
with_bytes bytes = record { mac = record { bytes = bytes } }

hello_laid : (o : Ignored) (h : HelloValue) (after : List ℕ) → AreIgnored o → IsId h.source → IsLaidOut (hello_with o h ++ after) (hello h)
hello_laid o h after ok id =
    let xs : List ℕ = h.source.mac.bytes in
    subst (λ (ys : List ℕ). IsLaidOut (hello_with o (record h { source = with_bytes ys }) ++ after) (hello (record h { source = with_bytes ys }))) (sym (six xs id))
    (hello_cells o h.circuit_type h.holding h.circuit _ _ _ _ _ _ h.tlvs after ok)

abbrev pub LspLaid : Ignored → LspValue → List ℕ → Type 0
LspLaid o l after = IsLaidOut (lsp_with o l ++ after) (lsp l) × (has_sum kinds.Lsp (lsp_with o l ++ after) ≡ is_sound_lsp l)

pub lsp_laid : (o : Ignored) (l : LspValue) (after : List ℕ) → AreIgnored o → IsId l.id.system → LspLaid o l after
lsp_laid o l after ok id =
    let xs : List ℕ = l.id.system.mac.bytes in
    subst (λ (ys : List ℕ). LspLaid o (record l { id = record l.id { system = with_bytes ys } }) after) (sym (six xs id))
    (lsp_cells o l.lifetime _ _ _ _ _ _ l.id.pseudonode l.id.number l.seq l.sum l.flags l.tlvs after ok)

csnp_laid : (o : Ignored) (c : CsnpValue) (after : List ℕ) → AreIgnored o → IsId c.source → IsId c.start.system → IsId c.end.system → IsLaidOut (csnp_with o c ++ after) (csnp c)
csnp_laid o c after ok i j k =
    let xs : List ℕ = c.source.mac.bytes in
    let ys : List ℕ = c.start.system.mac.bytes in
    let zs : List ℕ = c.end.system.mac.bytes in
    let made : List ℕ → List ℕ → List ℕ → CsnpValue = λ x y z. record {
      source = with_bytes x;
      start = record c.start { system = with_bytes y };
      end = record c.end { system = with_bytes z };
      tlvs = c.tlvs;
    } in
    let laid : List ℕ → List ℕ → List ℕ → Type 0 = λ x y z. IsLaidOut (csnp_with o (made x y z) ++ after) (csnp (made x y z)) in
    let cells : laid (six_of xs) (six_of ys) (six_of zs) =
    csnp_cells o (slice_index xs 0) (slice_index xs 1) (slice_index xs 2) (slice_index xs 3) (slice_index xs 4) (slice_index xs 5)
    (slice_index ys 0) (slice_index ys 1) (slice_index ys 2) (slice_index ys 3) (slice_index ys 4) (slice_index ys 5) c.start.pseudonode c.start.number
    (slice_index zs 0) (slice_index zs 1) (slice_index zs 2) (slice_index zs 3) (slice_index zs 4) (slice_index zs 5) c.end.pseudonode c.end.number c.tlvs after ok in
    let third : laid (six_of xs) (six_of ys) zs = subst (λ (w : List ℕ). laid (six_of xs) (six_of ys) w) (sym (six zs k)) cells in
    let second : laid (six_of xs) ys zs = subst (λ (w : List ℕ). laid (six_of xs) w zs) (sym (six ys j)) third in
    subst (λ (w : List ℕ). laid w ys zs) (sym (six xs i)) second

psnp_laid : (o : Ignored) (p : PsnpValue) (after : List ℕ) → AreIgnored o → IsId p.source → IsLaidOut (psnp_with o p ++ after) (psnp p)
psnp_laid o p after ok id =
    let xs : List ℕ = p.source.mac.bytes in
    subst (λ (ys : List ℕ). IsLaidOut (psnp_with o (record p { source = with_bytes ys }) ++ after) (psnp (record p { source = with_bytes ys }))) (sym (six xs id))
    (psnp_cells o _ _ _ _ _ _ p.tlvs after ok)

-- what is spelled is read, or its sum is wrong
pub spelled_is_read : (o : Ignored) (p : PduValue) (after : List ℕ) → AreIgnored o → IsPdu p → read (pdu_with o p ++ after) ≡ (if is_sound p then Ok p else Err refusals.Sum)
unfolding pdu_with
spelled_is_read o (hello h) after ok fits = laid_out_is_read _ (hello h) (hello_laid o h after ok fits.ids) fits.whole
spelled_is_read o (lsp l) after ok fits =
    let laid = lsp_laid o l after ok fits.ids in
    laid_out_is_read (lsp_with o l ++ after) (lsp l) laid.0 fits.whole ∙ rw laid.1 refl
spelled_is_read o (csnp c) after ok fits = laid_out_is_read _ (csnp c) (csnp_laid o c after ok fits.ids.0 fits.ids.1 fits.ids.2) fits.whole
spelled_is_read o (psnp p) after ok fits = laid_out_is_read _ (psnp p) (psnp_laid o p after ok fits.ids) fits.whole

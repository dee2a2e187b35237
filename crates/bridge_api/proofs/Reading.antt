-- What is read from a frame of octets has the size that its fields can say.
use Rattle.std.proofs.Common.{◌≡◌, ◌≤◌, ◌-◌, ◌*◌, ◌/◌, ◌%◌, ℕ, zero, suc, Bool, true, false, List, [], ◌∷◌, ◌++◌, length, map, take, drop, refl, ap, subst, Result, Ok, Err, arith}
use Rattle.std.specs.Prelude.{min, nat_le, ◌&&◌, ◌==◌, if◌then◌else◌}
use Rattle.std.specs.Str.{bytes_eq}
use Rattle.std.specs.List.{AllByRecursion, filter}
use Rattle.std.specs.Simd.{first_chunks}
use Rattle.std.proofs.lemmas.Bool.{and_parts, leb-true, eqb-true}
use Rattle.std.proofs.lemmas.List.{length-take, length-drop, length-take-le}
use Rattle.isis_pdu.specs.Pdu.{LspValue, CsnpValue, PsnpValue, lsp, csnp, psnp}
use Rattle.isis_pdu.specs.Grammar.{IsId, IsBytes, HasFields}
use Rattle.spb_tlvs.specs.declared.error.TlvError.{TlvError}
use Rattle.spb_tlvs.specs.declared.error.TlvError.TheVariants.{Cut}
use Rattle.spb_tlvs.specs.declared.entries.SnpEntry.{SnpEntry}
use Rattle.spb_tlvs.specs.Piece.{starts_whole, first_piece, after_first, piece_len, pieces, pieces_within}
use Rattle.spb_tlvs.specs.Tlv.{tlv_of, values_with}
use Rattle.spb_tlvs.specs.Entry.{entry_at, entries_of}
use Rattle.itag_frames.specs.Frame.{has_pdu, llc, length_of, pdu_of}
use Rattle.itag_frames.specs.Classify.{content_in}
use Rattle.itag_frames.specs.Frame as frames
use Rattle.flooding.specs.Laws.{IsWhole}
use Rattle.flooding.proofs.SendableEntries.{read_is_whole}
use Rattle.snp_sync.specs.Sized.{IsSizedEntry}
use Rattle.snp_sync.specs.Reading.{before_others, entries_in_all, entries_in}
use Rattle.bridge_api.specs.Parsing.{parsed}
use Rattle.bridge_api.specs.Parsing as parsing
use Rattle.bridge_api.proofs.Octets.{bytes_small, small_bytes, small_take, small_drop}
use Rattle.bridge_api.proofs.Heard.{pdu_in, IsHeardPdu, heard_pdu, is_control_pdu}

octets_drop : (n : ℕ) (bytes : List ℕ) → IsBytes bytes → IsBytes (drop n bytes)
octets_drop n bytes octets = small_bytes (drop n bytes) (small_drop n bytes (bytes_small bytes octets))

octets_take : (n : ℕ) (bytes : List ℕ) → IsBytes bytes → IsBytes (take n bytes)
octets_take n bytes octets = small_bytes (take n bytes) (small_take n bytes (bytes_small bytes octets))

-- ---- an LSP

-- a control frame has a PDU of at most 1,497 bytes
short_pdu : (frame : List ℕ) → has_pdu frame ≡ true → length (pdu_of frame) ≤ 1497
short_pdu frame has =
    let low : Bool = nat_le 3 (length_of frame) in
    let high : Bool = nat_le (length_of frame) 1500 in
    let within : Bool = nat_le (length_of frame) (length frame - 14) in
    let outer = and_parts (low && high && within) (bytes_eq (take 3 (drop 14 frame)) llc) has in
    let few : length_of frame ≤ 1500 = leb-true (length_of frame) 1500 (and_parts low high (and_parts (low && high) within outer.0).0).1 in
    let taken : length (pdu_of frame) ≡ min (length_of frame - 3) (length (drop 17 frame)) = length-take (length_of frame - 3) (drop 17 frame) in
    omega (arith, few, taken)

pub pdu_is_short : (frame pdu : List ℕ) → content_in frame ≡ Ok (frames.Pdu pdu) → length pdu ≤ 1497
pdu_is_short frame pdu e =
    let control = is_control_pdu frame pdu e in
    subst (λ (p : List ℕ). length p ≤ 1497) control.1 (short_pdu frame control.0)

-- so an LSP that is heard can be written again, and its fields are of the right size
pub record IsHeardLsp (l : LspValue) : Type 0 where
  pub whole : IsWhole l
  pub id : IsId l.id.system
  pub fields : HasFields (lsp l)

pub lsp_heard_at : (frame : List ℕ) (l : LspValue) → parsed frame ≡ parsing.lsp l → IsHeardLsp l
lsp_heard_at frame l is =
    let heard : IsHeardPdu frame (lsp l) = heard_pdu frame (lsp l) (ap pdu_in is) in
    record {
      whole = read_is_whole heard.pdu l heard.octets (pdu_is_short frame heard.pdu heard.is) heard.read_as;
      id = heard.from.pdu.ids;
      fields = heard.from.fields;
    }

-- ---- the entries of a sequence numbers PDU

entry_sized : (bytes : List ℕ) → length bytes ≡ 16 → IsBytes bytes → IsSizedEntry (entry_at bytes)
entry_sized bytes whole octets =
    let six : length (take 6 (drop 2 bytes)) ≡ 6 = length-take-le 6 (drop 2 bytes) (omega (arith, whole, length-drop 2 bytes)) in
    record {
      named = record { system = six; bytes = (octets_take 6 (drop 2 bytes) (octets_drop 2 bytes octets), octets 8, octets 9) };
      entry = record {
        lifetime = omega (arith, octets 0, octets 1);
        system = six;
        seq = omega (arith, octets 10, octets 11, octets 12, octets 13);
        sum = omega (arith, octets 14, octets 15);
      };
    }

chunks_sized : (k : ℕ) (bytes : List ℕ) → length bytes ≡ 16 * k → IsBytes bytes → AllByRecursion IsSizedEntry (map entry_at (first_chunks 16 k bytes))
chunks_sized zero bytes whole octets = tt
chunks_sized (suc k) bytes whole octets = (
  entry_sized (take 16 bytes) (length-take-le 16 bytes (omega (arith, whole))) (octets_take 16 bytes octets),
  chunks_sized k (drop 16 bytes) (omega (arith, whole, length-drop 16 bytes)) (octets_drop 16 bytes octets),
)

abbrev done : List SnpEntry → Result (List SnpEntry) TlvError
done es = Ok es

entries_chosen : (b : Bool) (es fs : List SnpEntry) → (if b then done fs else Err Cut) ≡ Ok es → (b ≡ true) × (fs ≡ es)
entries_chosen true es fs e = (refl, cc)
entries_chosen false es fs e = absurd cc

value_sized : (value : List ℕ) (es : List SnpEntry) → IsBytes value → entries_of value ≡ Ok es → AllByRecursion IsSizedEntry es
value_sized value es octets e =
    let chosen = entries_chosen (length value % 16 == 0) es (map entry_at (first_chunks 16 (length value / 16) value)) e in
    let even : length value % 16 ≡ 0 = eqb-true _ _ chosen.0 in
    subst (AllByRecursion IsSizedEntry) chosen.1 (chunks_sized (length value / 16) value (omega (arith, even)) octets)

all_appended : (es fs : List SnpEntry) → AllByRecursion IsSizedEntry es → AllByRecursion IsSizedEntry fs → AllByRecursion IsSizedEntry (es ++ fs)
all_appended [] fs all rest = rest
all_appended (e ∷ es) fs all rest = (all.0, all_appended es fs all.1 rest)

srm_set_sized : (r others : Result (List SnpEntry) TlvError) (es : List SnpEntry) → ((fs : List SnpEntry) → r ≡ Ok fs → AllByRecursion IsSizedEntry fs) → ((fs : List SnpEntry) → others ≡ Ok fs → AllByRecursion IsSizedEntry fs) → before_others r others ≡ Ok es → AllByRecursion IsSizedEntry es
srm_set_sized (Err t) others es first rest e = absurd cc
srm_set_sized (Ok fs) (Err t) es first rest e = absurd cc
srm_set_sized (Ok fs) (Ok gs) es first rest e =
    let same : fs ++ gs ≡ es = cc in
    subst (AllByRecursion IsSizedEntry) same (all_appended fs gs (first fs refl) (rest gs refl))

values_sized : (values : List (List ℕ)) (es : List SnpEntry) → AllByRecursion IsBytes values → entries_in_all values ≡ Ok es → AllByRecursion IsSizedEntry es
values_sized [] es octets e = let same : [] ≡ es = cc in subst (AllByRecursion IsSizedEntry) same tt
values_sized (value ∷ values) es octets e =
    srm_set_sized (entries_of value) (entries_in_all values) es (λ fs is. value_sized value fs octets.0 is) (λ fs is. values_sized values fs octets.1 is) e

-- the values of TLVs of octets
pieces_octets : (n : ℕ) (bytes : List ℕ) → IsBytes bytes → AllByRecursion IsBytes (pieces_within n 2 bytes)
unfolding pieces_within
pieces_octets zero bytes octets = tt
pieces_octets (suc n) bytes octets = by_test (starts_whole 2 bytes) (pieces_octets n (after_first 2 bytes) (octets_drop (piece_len 2 bytes) bytes octets))
  where
    by_test : (b : Bool) → AllByRecursion IsBytes (pieces_within n 2 (after_first 2 bytes)) → AllByRecursion IsBytes (if b then first_piece 2 bytes ∷ pieces_within n 2 (after_first 2 bytes) else [])
    by_test true rest = (octets_take (piece_len 2 bytes) bytes octets, rest)
    by_test false rest = tt

chosen_octets : (code : ℕ) (ps : List (List ℕ)) → AllByRecursion IsBytes ps → AllByRecursion IsBytes (map (λ t. t.value) (filter (λ t. t.code == code) (map tlv_of ps)))
chosen_octets code [] all = tt
chosen_octets code (p ∷ ps) all = by_test ((tlv_of p).code == code) (chosen_octets code ps all.1)
  where
    by_test : (b : Bool) → AllByRecursion IsBytes (map (λ t. t.value) (filter (λ t. t.code == code) (map tlv_of ps)))
        → AllByRecursion IsBytes (map (λ t. t.value) (if b then tlv_of p ∷ filter (λ t. t.code == code) (map tlv_of ps) else filter (λ t. t.code == code) (map tlv_of ps)))
    by_test true rest = (octets_drop 2 p all.0, rest)
    by_test false rest = rest

values_octets : (code : ℕ) (bytes : List ℕ) → IsBytes bytes → AllByRecursion IsBytes (values_with code bytes)
unfolding pieces
values_octets code bytes octets = chosen_octets code (pieces_within (length bytes) 2 bytes) (pieces_octets (length bytes) bytes octets)

pub entries_sized : (tlvs : List ℕ) (es : List SnpEntry) → IsBytes tlvs → entries_in tlvs ≡ Ok es → AllByRecursion IsSizedEntry es
entries_sized tlvs es octets e = values_sized (values_with 9 tlvs) es (values_octets 9 tlvs octets) e

pub csnp_heard_at : (frame : List ℕ) (c : CsnpValue) (es : List SnpEntry) → parsed frame ≡ parsing.csnp c → entries_in c.tlvs ≡ Ok es → AllByRecursion IsSizedEntry es
csnp_heard_at frame c es is e = entries_sized c.tlvs es (heard_pdu frame (csnp c) (ap pdu_in is)).from.fields.3 e

pub psnp_heard_at : (frame : List ℕ) (s : PsnpValue) (es : List SnpEntry) → parsed frame ≡ parsing.psnp s → entries_in s.tlvs ≡ Ok es → AllByRecursion IsSizedEntry es
psnp_heard_at frame s es is e = entries_sized s.tlvs es (heard_pdu frame (psnp s) (ap pdu_in is)).from.fields.1 e

-- How long the TLVs of entries are, and PSNPs.
use Rattle.std.proofs.Common.{◌≡◌, inl, inr, ◌≤◌, ◌+◌, ◌-◌, ◌*◌, ℕ, zero, suc, List, [], ◌∷◌, ◌++◌, length, min, take, drop, sym, ap, ◌∙◌, subst, arith, length-append}
use Rattle.std.specs.List.{AllByRecursion}
use Rattle.std.proofs.lemmas.List.{take-append-drop, length-take, length-drop, nil_from_length}
use Rattle.std.proofs.lemmas.Bool.{cases_lt}
use Rattle.spb_types.specs.declared.address.SystemId.{SystemId}
use Rattle.spb_tlvs.specs.declared.entries.SnpEntry.{SnpEntry}
use Rattle.spb_tlvs.specs.RoundTrip.{IsEntry}
use Rattle.spb_tlvs.specs.Entry.{entry_bytes, entries_value}
use Rattle.spb_tlvs.specs.Tlv.{tlv}
use Rattle.spb_tlvs.proofs.EntryLaws.{entry_len}
use Rattle.spb_tlvs.proofs.Numbers.{length_of_joined, weaker}
use Rattle.isis_pdu.specs.Grammar.{IsId}
use Rattle.isis_pdu.specs.Spelling.{psnp_bytes}
use Rattle.snp_sync.specs.Chunks.{entry_tlvs, tlvs_length}
use Rattle.snp_sync.specs.Sending.{psnp_for, psnp_length}
use Rattle.snp_sync.proofs.Cuts.{tlvs_none, tlvs_first}
use Rattle.snp_sync.proofs.Said.{all_both}

entries_long : (entries : List SnpEntry) → AllByRecursion IsEntry entries → length (entries_value entries) ≡ 16 * length entries
entries_long entries all = length_of_joined entry_bytes 16 entries (weaker IsEntry (λ (e : SnpEntry). length (entry_bytes e) ≡ 16) entries entry_len all)

-- the TLVs of at most so many entries: of 15 entries in each, the last with the rest
within : (n : ℕ) (entries : List SnpEntry) → length entries ≤ n → AllByRecursion IsEntry entries → 15 * length (entry_tlvs entries) ≤ 242 * length entries + 28
within n [] few all = let none : length (entry_tlvs []) ≡ 0 = ap length tlvs_none in omega (arith, none)
within zero (x ∷ xs) few all = absurd (omega (arith, few))
within (suc n) (x ∷ xs) few all =
    let entries : List SnpEntry = x ∷ xs in
    let chunk : List SnpEntry = take 15 entries in
    let rest : List SnpEntry = drop 15 entries in
    let joined : chunk ++ rest ≡ entries = take-append-drop 15 entries in
    let both = all_both IsEntry chunk rest (subst (λ (ls : List SnpEntry). AllByRecursion IsEntry ls) (sym joined) all) in
    let first : length (entry_tlvs entries) ≡ 2 + (length (entries_value chunk) + length (entry_tlvs rest)) =
    ap length (tlvs_first entries chunk rest (sym joined) (length-take 15 entries) (omega arith)) ∙ length-append (tlv 9 (entries_value chunk)) (entry_tlvs rest) ∙ omega arith in
    let taken : length chunk ≡ min 15 (length entries) = length-take 15 entries in
    let left : length rest ≡ length entries - 15 = length-drop 15 entries in
    let bytes : length (entries_value chunk) ≡ 16 * length chunk = entries_long chunk both.0 in
    elim (cases_lt (length entries) 15) [
      | inl last ↦
          let none : rest ≡ [] = nil_from_length rest (omega (arith, left, last)) in
          let nothing : length (entry_tlvs rest) ≡ 0 = ap (λ (ls : List SnpEntry). length (entry_tlvs ls)) none ∙ ap length tlvs_none in
          omega (arith, first, taken, bytes, nothing, last)
      | inr more ↦
          let further = within n rest (omega (arith, left, few)) both.1 in
          omega (arith, first, taken, left, bytes, further, more)
    ]

pub entries_within : (entries : List SnpEntry) → AllByRecursion IsEntry entries → 15 * length (entry_tlvs entries) ≤ 242 * length entries + 28
entries_within entries all = within (length entries) entries (omega arith) all

pub psnp_sized : (me : SystemId) (entries : List SnpEntry) → IsId me
    → length (entry_tlvs entries) ≡ tlvs_length (length entries)
    → length (psnp_bytes (psnp_for me entries)) ≡ psnp_length (length entries)
unfolding psnp_bytes
psnp_sized me entries six sized = simp length-append (omega (arith, six, sized))

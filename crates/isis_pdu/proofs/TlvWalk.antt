-- Going from one TLV to the next.
use Rattle.std.proofs.Common.{◌≡◌, ℕ, zero, suc, ◌≤◌, ◌<◌, List, [], ◌∷◌, length, get_or, take, drop, ◌+◌, ◌-◌, sym, false, refl, ap, ◌∙◌, arith}
use Rattle.std.specs.Prelude.{◌==◌}
use Rattle.std.proofs.lemmas.List.{take_rest}
use Rattle.isis_pdu.specs.Tlvs.{is_whole_after, is_whole}

-- past a value that is there, whole TLVs follow or they don't
pub past_value : (left : ℕ) (bytes : List ℕ) → left ≤ length bytes → is_whole_after left bytes ≡ is_whole (drop left bytes)
unfolding is_whole_after
past_value zero bytes h = refl
past_value (suc left) [] h = absurd (omega arith)
past_value (suc left) (byte ∷ bytes) h = past_value left bytes (omega arith)

-- a value that passes the end
pub cut_value : (left : ℕ) (bytes : List ℕ) → length bytes < left → is_whole_after left bytes ≡ false
unfolding is_whole_after
cut_value zero bytes h = absurd (omega arith)
cut_value (suc left) [] h = refl
cut_value (suc left) (byte ∷ bytes) h = cut_value left bytes (omega arith)

-- the first TLV, whose value is there or not
pub next_tlv : (bytes : List ℕ) → 2 ≤ length bytes → 2 + get_or bytes 1 0 ≤ length bytes → is_whole bytes ≡ is_whole (drop (2 + get_or bytes 1 0) bytes)
unfolding is_whole_after
next_tlv [] h k = absurd (omega arith)
next_tlv (code ∷ []) h k = absurd (omega arith)
next_tlv (code ∷ len ∷ bytes) h k =
    let past : 2 + len ≡ suc (suc len) = omega arith in
    rw past (past_value len bytes (omega arith))

pub next_slice : (bytes : List ℕ) (end : ℕ) → 2 ≤ length bytes → end ≡ 2 + get_or bytes 1 0 → end ≤ length bytes → is_whole (take (length bytes - end) (drop end bytes)) ≡ is_whole bytes
next_slice bytes end h e k = ap is_whole (take_rest bytes end) ∙ rw e (sym (next_tlv bytes h (omega arith)))

pub cut_tlv : (bytes : List ℕ) → 2 ≤ length bytes → length bytes < 2 + get_or bytes 1 0 → is_whole bytes ≡ false
unfolding is_whole_after
cut_tlv [] h k = absurd (omega arith)
cut_tlv (code ∷ []) h k = absurd (omega arith)
cut_tlv (code ∷ len ∷ bytes) h k = cut_value len bytes (omega arith)

-- bytes too few for a code and a length
pub no_tlv : (bytes : List ℕ) → length bytes < 2 → is_whole bytes ≡ (length bytes == 0)
unfolding is_whole_after
no_tlv [] h = refl
no_tlv (code ∷ []) h = refl
no_tlv (code ∷ len ∷ bytes) h = absurd (omega arith)

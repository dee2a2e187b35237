-- A control frame that was written is read as its PDU.
use Rattle.std.proofs.Common.{◌≡◌, ℕ, ◌+◌, ◌-◌, ◌*◌, ◌/◌, ◌%◌, ◌≤◌, true, false, ltb, leb, List, [], ◌∷◌, ◌++◌, length, Ok, refl, sym, ap, ◌∙◌, arith}
use Rattle.std.specs.Int.{w16, to_be_bytes}
use Rattle.std.proofs.lemmas.Bool.{le-leb, le-ltb}
use Rattle.std.proofs.lemmas.List.{append-nil, length-append, take_at}
use Rattle.spb_types.specs.declared.address.Mac.{Mac}
use Rattle.itag_frames.specs.Frame.{Pdu, control_address, llc, control_bytes}
use Rattle.itag_frames.specs.Classify.{content_in, ControlAgain}

-- six bytes, one by one
pub six : (P : List ℕ → Type 0) (m : List ℕ) → length m ≡ 6 → ((a b c d e f : ℕ) → P (a ∷ b ∷ c ∷ d ∷ e ∷ f ∷ [])) → P m
six P (a ∷ b ∷ c ∷ d ∷ e ∷ f ∷ []) h k = k a b c d e f
six P _ h k = absurd (omega arith)

pub control_again : ControlAgain
control_again sa pdu more is_mac few =
    let n : ℕ = length pdu in
    let total : length (pdu ++ more) ≡ n + length more = length-append pdu more in
    let spelled : (3 + n) / 256 % 256 * 256 + (3 + n) % 256 ≡ 3 + n = omega arith in
    let low : leb 3 (3 + n) ≡ true = le-leb _ _ (omega arith) in
    let high : leb (3 + n) 1500 ≡ true = le-leb _ _ (omega arith) in
    let rest : 3 + n - 3 ≡ n = omega arith in
    six (λ (m : List ℕ). content_in (control_address ++ m ++ to_be_bytes w16 (3 + n) ++ llc ++ pdu ++ more) ≡ Ok (Pdu pdu)) sa.bytes is_mac (λ a b c d e f.
    let frame : List ℕ = control_address ++ (a ∷ b ∷ c ∷ d ∷ e ∷ f ∷ []) ++ to_be_bytes w16 (3 + n) ++ llc ++ pdu ++ more in
    let long : ltb (length frame) 17 ≡ false = le-ltb _ _ (omega arith) in
    let room : leb (3 + n) (length frame - 14) ≡ true = le-leb _ _ (omega arith) in
    rw (long, spelled, low, high, room, rest, take_at pdu more n refl) refl)

-- the same where nothing follows
pub control_frame_again : (sa : Mac) (pdu frame : List ℕ) → length sa.bytes ≡ 6 → length pdu ≤ 1497 → frame ≡ control_bytes sa pdu → content_in frame ≡ Ok (Pdu pdu)
control_frame_again sa pdu frame is_mac few is = ap content_in (is ∙ sym (append-nil (control_bytes sa pdu))) ∙ control_again sa pdu [] is_mac few

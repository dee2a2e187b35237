use Rattle.std.proofs.Common.{◌≡◌, ◌++◌, ◌∷◌, ℕ, List, length, slice_index_or, refl, rules, ap, ◌∙◌}
use Rattle.std.specs.Int.{w16, to_be_bytes}
use Rattle.itag_frames.specs.Frame.{control_address, llc}
use Rattle.itag_frames.proofs.ControlLaws.{six}
use Rattle.itag_frames.proofs.control.head_of.Goals as goal

-- the sender's address and the length field, read byte by byte
abbrev by_bytes : List ℕ → List ℕ → List ℕ
by_bytes mac field =
    slice_index_or mac 0 0 ∷ slice_index_or mac 1 0 ∷ slice_index_or mac 2 0 ∷ slice_index_or mac 3 0 ∷ slice_index_or mac 4 0 ∷ slice_index_or mac 5 0
    ∷ slice_index_or field 0 0 ∷ slice_index_or field 1 0 ∷ llc

pub returns : goal.returns
returns c =
    let counted : ℕ = c.args.counted in
    let size : length c.args.sa.bytes ≡ 6 = search rules in
    ap (λ (field : List ℕ). control_address ++ by_bytes c.args.sa.bytes field) c.to_be_bytes.ensures
    ∙ six (λ (mac : List ℕ). control_address ++ by_bytes mac (to_be_bytes w16 counted) ≡ control_address ++ mac ++ to_be_bytes w16 counted ++ llc) c.args.sa.bytes size (λ a b c d e f. refl)

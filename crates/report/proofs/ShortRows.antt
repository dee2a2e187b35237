-- The line of a unicast row whose VID has two digits and whose port has one.
use Rattle.std.proofs.Common.{◌≡◌, ℕ, ◌+◌, ◌/◌, ◌%◌, ◌<◌, ◌≤◌, List, [], ◌∷◌, ◌++◌, codes, sym, ◌∙◌}
use Rattle.std.proofs.lemmas.Fmt.{decimal_digit}
use Rattle.hex.specs.Hex.{encode_lower}
use Rattle.spb_types.specs.declared.tables.UnicastRow.{UnicastRow}
use Rattle.report.specs.Tables.{unicast_line}
use Rattle.report.specs.Words.{line}
use Rattle.report.proofs.DecimalText.{two_digits_are}

-- the bytes of the line are its text
pub short_row : (old new : List ℕ) (row : UnicastRow) (a b c d e f g h i j k l : ℕ) → 10 ≤ row.vid.value → row.vid.value < 100 → row.port < 10
    → a ∷ b ∷ c ∷ d ∷ e ∷ f ∷ g ∷ h ∷ i ∷ j ∷ k ∷ l ∷ [] ≡ encode_lower row.mac.bytes
    → new ≡ old ++ 117 ∷ 32 ∷ (48 + row.vid.value / 10) ∷ (48 + row.vid.value % 10) ∷ 32 ∷ a ∷ b ∷ c ∷ d ∷ e ∷ f ∷ g ∷ h ∷ i ∷ j ∷ k ∷ l ∷ 32 ∷ (48 + row.port) ∷ 10 ∷ []
    → new ≡ old ++ unicast_line row
unfolding unicast_line
short_row old new row a b c d e f g h i j k l low high port digits wrote =
    wrote ∙ (λ t. old ++ line (codes "u") (sym (two_digits_are row.vid.value low high) t ∷ digits t ∷ sym (decimal_digit row.port port) t ∷ []))

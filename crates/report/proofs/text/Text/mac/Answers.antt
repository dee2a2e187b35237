use Rattle.std.proofs.Common.{◌≡◌, ◌++◌, ◌∷◌, length, sym, ap, ◌∙◌, rules}
use Rattle.std.proofs.lemmas.Result.{on_ok_weaker}
use Rattle.report.proofs.HexText.{twelve_digits}
use Rattle.report.proofs.text.Text.mac.Goals as goal

pub returns : goal.returns
returns c =
    let digits = c.hex_digits.result in
    let len : length digits ≡ 12 = search rules in
    let all = sym (twelve_digits digits len) ∙ c.hex_digits.ensures in
    on_ok_weaker c.push.result (λ h. h ∙ ap (λ t. c.args.self.now ++ 32 ∷ t) all) c.push.ensures

use Rattle.std.proofs.Common.{◌≡◌, length, sym, ◌∙◌, rules}
use Rattle.std.proofs.lemmas.Result.{on_ok_weaker}
use Rattle.report.proofs.HexText.{twelve_digits}
use Rattle.report.proofs.ShortRows.{short_row}
use Rattle.report.proofs.tables.put_short_row.Goals as goal

pub returns : goal.returns
returns c =
    let digits = c.hex_digits.result in
    let len : length digits ≡ 12 = search rules in
    let all = sym (twelve_digits digits len) ∙ c.hex_digits.ensures in
    on_ok_weaker c.push.result
    (short_row c.args.text.now c.push.new.self c.args.row.now _ _ _ _ _ _ _ _ _ _ _ _ c.requires.low c.requires.high c.requires.port all)
    c.push.ensures

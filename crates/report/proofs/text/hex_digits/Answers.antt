use Rattle.std.proofs.Common.{◌≡◌, length, rules}
use Rattle.report.proofs.HexText.{six_digits}
use Rattle.report.proofs.text.hex_digits.Goals as goal

pub returns : goal.returns
returns c =
    let m = c.args.mac.bytes in
    let len : length m ≡ 6 = search rules in
    six_digits m _ _ _ _ _ _ _ _ _ _ _ _ len c.hex_digit.ensures c.hex_digit-2.ensures c.hex_digit-3.ensures c.hex_digit-4.ensures c.hex_digit-5.ensures c.hex_digit-6.ensures c.hex_digit-7.ensures c.hex_digit-8.ensures c.hex_digit-9.ensures c.hex_digit-10.ensures c.hex_digit-11.ensures c.hex_digit-12.ensures

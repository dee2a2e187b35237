use Rattle.std.proofs.lemmas.Result.{on_ok_weaker}
use Rattle.report.proofs.DecimalText.{one_digit, two_digits}
use Rattle.report.proofs.text.Text.decimal.Goals as goal

pub returns-then-number-lt10 : goal.returns-then-number-lt10
returns-then-number-lt10 c =
    on_ok_weaker c.byte.result (one_digit c.args.self.now c.byte.new.self c.args.number c.if-number-lt10.true) c.byte.ensures

pub returns-then-number-lt100 : goal.returns-then-number-lt100
returns-then-number-lt100 c =
    on_ok_weaker c.byte-then-number-lt100-2.result
    (two_digits c.args.self.now c.byte-then-number-lt100.new.self c.byte-then-number-lt100-2.new.self c.args.number c.if-number-lt10.false c.if-number-lt100.true c.in_ok-byte.ensures)
    c.byte-then-number-lt100-2.ensures

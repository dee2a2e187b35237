use Rattle.report.proofs.HexText.{hex_none, hex_more}
use Rattle.report.proofs.text.Text.hex.Goals as goal

pub loop-byte-init : goal.loop-byte-init
loop-byte-init c = hex_none _ _ c.args.bytes.now c.in_ok-byte.ensures

pub loop-byte-preserved : goal.loop-byte-preserved
loop-byte-preserved c =
    hex_more _ _ _ _ _ c.loop-byte-test.true c.loop-byte.invariant c.in_ok-hex_byte.ensures

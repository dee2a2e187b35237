use Rattle.report.proofs.PortLines.{port_lines_none, port_lines_more}
use Rattle.report.proofs.adjacencies.put_ports.Goals as goal

pub loop-place-init : goal.loop-place-init
loop-place-init c = port_lines_none c.args.text.now

pub loop-place-preserved : goal.loop-place-preserved
loop-place-preserved c =
    port_lines_more _ _ _ _ _ _ c.loop-place-test.true c.loop-place.invariant c.in_ok-put_port.ensures

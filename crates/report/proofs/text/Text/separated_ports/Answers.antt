use Rattle.report.proofs.PortText.{separates_none, separates_more}
use Rattle.report.proofs.text.Text.separated_ports.Goals as goal

pub loop-port-init : goal.loop-port-init
loop-port-init c = separates_none c.args.ports c.args.self.now

pub loop-port-preserved : goal.loop-port-preserved
loop-port-preserved c =
    separates_more _ _ _ _ _ _ _ c.loop-port.auto.port c.loop-port.invariant c.in_ok-separator.ensures.text c.in_ok-separator.ensures.next

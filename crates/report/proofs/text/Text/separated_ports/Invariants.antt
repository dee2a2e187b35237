use Rattle.std.proofs.Common.{◌-◌}
use Rattle.report.proofs.PortText.{Separates}
use Rattle.report.proofs.text.Text.separated_ports.Given as goal

abbrev pub invariant-loop-port : goal.invariant-loop-port
invariant-loop-port l = Separates l.ports (l.port - 1) l.fn.self l.separator l.self

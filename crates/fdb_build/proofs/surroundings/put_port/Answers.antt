use Rattle.std.proofs.Common.{sym, arith}
use Rattle.fdb_build.proofs.PortLemmas.{port_put, port_left_out, port_within}
use Rattle.fdb_build.proofs.surroundings.put_port.Goals as goal

pub returns-in_default : goal.returns-in_default
returns-in_default c = λ others h.
    port_left_out c.args.roads.now c.args.neighbour others c.args.ports.now.items (sym c.in_default.ensures) h

pub returns-then-place-len : goal.returns-then-place-len
returns-then-place-len c = λ others h.
    port_put c.args.roads.now c.args.neighbour others c.in-Some.place c.args.ports.now.items c.requires (sym c.in-Some.ensures) h

pub returns-else-place-len : goal.returns-else-place-len
returns-else-place-len c = λ others h.
    let within = port_within c.args.roads.now c.args.neighbour.system others c.in-Some.place c.args.ports.now.items (sym c.in-Some.ensures) h in
    absurd (omega (arith, within, c.if-place-len.false, c.len.ensures))

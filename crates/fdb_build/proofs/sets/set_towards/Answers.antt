use Rattle.std.proofs.Common.{sym, ◌∙◌, arith}
use Rattle.fdb_build.proofs.FollowerLemmas.{port_is_low, port_is_high}
use Rattle.fdb_build.proofs.sets.set_towards.Goals as goal

pub overflow_cast-port : goal.overflow_cast-port
overflow_cast-port c =
    let around = c.args.around.now in
    let high = port_is_high around.roads.now around.me around.ports.items c.args.place c.in-Some.port c.requires.valid.ports c.requires.ports (sym c.port_at.ensures ∙ c.in-Some.is) in
    omega (arith, high)

pub with-requires-clause-low : goal.with-requires-clause-low
with-requires-clause-low c =
    let around = c.args.around.now in
    port_is_low around.roads.now around.me around.ports.items c.args.place c.in-Some.port c.requires.valid.ports c.requires.ports (sym c.port_at.ensures ∙ c.in-Some.is)

pub with-requires-clause-high : goal.with-requires-clause-high
with-requires-clause-high c =
    let around = c.args.around.now in
    port_is_high around.roads.now around.me around.ports.items c.args.place c.in-Some.port c.requires.valid.ports c.requires.ports (sym c.port_at.ensures ∙ c.in-Some.is)

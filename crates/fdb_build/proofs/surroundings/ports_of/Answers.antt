use Rattle.std.proofs.Common.{ap, refl, ◌∙◌, ◌≡◌, ◌-◌, length, drop, arith}
use Rattle.spb_types.specs.declared.graph.Graph.{Graph}
use Rattle.fdb_build.specs.Surroundings.{ports_by}
use Rattle.fdb_build.proofs.PortLemmas.{ports_none, port_before}
use Rattle.fdb_build.proofs.surroundings.ports_of.Goals as goal

pub loop-left-init : goal.loop-left-init
loop-left-init c =
    let ns = c.args.neighbours.now in
    let places = c.len-places.ensures ∙ ap (λ (h : Graph). length h.bridges) c.graph.ensures in (
      omega arith,
      ports_none c.args.roads.now ns c.in_ok-ports.ports.items c.len-places.result (length ns) places refl c.in_ok-ports.ensures,
    )

pub loop-left-preserved : goal.loop-left-preserved
loop-left-preserved c =
    let left = c.loop-left.left in (
      omega (arith, c.loop-left.invariant.0),
      port_before c.args.roads.now c.args.neighbours.now left (left - 1) _ c.loop-left.ports.items c.put_port.new.ports.items (omega (arith, c.loop-left-test.true))
          (omega (arith, c.loop-left-test.true, c.loop-left.invariant.0)) c.loop-left.invariant.1 c.put_port.ensures,
    )

pub returns : goal.returns
returns c =
    let none : c.loop-left.left ≡ 0 = omega (arith, c.loop-left-test.false) in
    c.loop-left.invariant.1 ∙ ap (λ t. ports_by (drop t c.args.neighbours.now) c.args.roads.now.bridges) none

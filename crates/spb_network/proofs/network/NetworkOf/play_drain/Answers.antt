use Rattle.std.proofs.Common.{◌+◌, ◌-◌, sym, ap, ◌∙◌, arith}
use Rattle.network_model.specs.Captured.{seen_at, seen_drained}
use Rattle.network_model.specs.Events.{delivered, drained}
use Rattle.spb_network.specs.Network.{state_of}
use Rattle.spb_network.specs.Watching.{noted}
use Rattle.spb_network.proofs.SeenLemmas.{noted-on, seen_drained-found, seen_drained-idle}
use Rattle.spb_network.proofs.RoundLemmas.{drained-found, drained-idle}
use Rattle.spb_network.proofs.network.NetworkOf.play_drain.Goals as goal

pub loop-preserved : goal.loop-preserved
loop-preserved g c =
    let left = c.args.n - (c.loop.counter + 1) in
    let before = state_of g.B.Bridge.shown c.loop.self in
    let lane = c.in-Some.lane in
    let found = drained-found before c.args.n c.loop.counter lane (omega (arith, c.loop-test.true)) (sym c.first_full.ensures.lane ∙ c.in-Some.is) in
    let now = c.in_ok-deliver.ensures.state ∙ ap (λ s. delivered s lane.link lane.dir) c.first_full.ensures.state in
    let seen = seen_drained-found before c.args.n c.loop.counter lane (omega (arith, c.loop-test.true)) (sym c.first_full.ensures.lane ∙ c.in-Some.is) in
    let noting = c.in_ok-deliver.ensures.seen ∙ ap (λ s. noted c.loop.seen (seen_at s lane.link lane.dir)) c.first_full.ensures.state in (
      c.in_ok-deliver.ensures.order,
      omega (arith, c.loop-test.true),
      ap (drained left) now ∙ (sym found ∙ c.loop.invariant.2),
      ap (λ t. noted c.deliver.new.seen (seen_drained left t)) now ∙ noted-on c.loop.seen c.deliver.new.seen (seen_at before lane.link lane.dir) _ _ noting seen ∙ c.loop.invariant.3,
    )

pub returns-in_default-clause-state : goal.returns-in_default-clause-state
returns-in_default-clause-state g c =
    let before = state_of g.B.Bridge.shown c.loop.self in
    let idle = drained-idle (c.args.n - c.loop.counter) before (sym c.first_full.ensures.lane ∙ c.in_default.is) in
    c.first_full.ensures.state ∙ (sym idle ∙ c.loop.invariant.2)

pub returns-in_default-clause-seen : goal.returns-in_default-clause-seen
returns-in_default-clause-seen g c =
    let before = state_of g.B.Bridge.shown c.loop.self in
    let idle = seen_drained-idle (c.args.n - c.loop.counter) before (sym c.first_full.ensures.lane ∙ c.in_default.is) in
    ap (noted c.loop.seen) (sym idle) ∙ c.loop.invariant.3

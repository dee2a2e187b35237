use Rattle.std.proofs.Common.{◌≡◌, map, sym, ◌∙◌, subst, arith, true}
use Rattle.network_model.specs.State.{next_box}
use Rattle.spb_network.specs.Network.{spare}
use Rattle.spb_world.proofs.BoxLemmas.{get-map, got}
use Rattle.spb_world.proofs.ListLemmas.{and-left}
use Rattle.network_model.proofs.PortLemmas.{box-found, box-passed, some-is}
use Rattle.spb_network.proofs.rack.next_box.Goals as goal

pub returns-then-serves-clause-place : goal.returns-then-serves-clause-place
unfolding next_box
returns-then-serves-clause-place g c =
    let at = got c.args.rack.now.items c.loop-place.place c.index.result.now (omega (arith, c.loop-place-test.true, c.len-place-end.ensures)) c.index.ensures in
    sym (c.loop-place.invariant.1 ∙ box-found c.args.wanted (map (spare g.B.Bridge.shown) c.args.rack.now.items) c.loop-place.place (spare g.B.Bridge.shown c.index.result.now) (get-map (spare g.B.Bridge.shown) c.args.rack.now.items c.loop-place.place c.index.result.now at) (sym c.if-serves.ensures))

pub returns-then-serves-clause-blank : goal.returns-then-serves-clause-blank
returns-then-serves-clause-blank g c = λ b found.
    let at = got c.args.rack.now.items c.loop-place.place c.index.result.now (omega (arith, c.loop-place-test.true, c.len-place-end.ensures)) c.index.ensures in
    subst (λ x. (g.B.Bridge.shown x).blank ≡ true) (some-is _ _ (sym at ∙ found)) (and-left _ _ (sym c.if-serves.ensures))

pub loop-place-preserved : goal.loop-place-preserved
loop-place-preserved g c =
    let at = got c.args.rack.now.items c.loop-place.place c.index.result.now (omega (arith, c.loop-place-test.true, c.len-place-end.ensures)) c.index.ensures in
    (omega (arith, c.loop-place-test.true, c.len-place-end.ensures), c.loop-place.invariant.1 ∙ box-passed c.args.wanted (map (spare g.B.Bridge.shown) c.args.rack.now.items) c.loop-place.place (spare g.B.Bridge.shown c.index.result.now) (get-map (spare g.B.Bridge.shown) c.args.rack.now.items c.loop-place.place c.index.result.now at) (sym c.if-serves.ensures))

use Rattle.std.proofs.Common.{◌<◌, length, sym, ap, ◌∙◌, subst, arith}
use Rattle.std.proofs.lemmas.List.{length-map}
use Rattle.bridge_api.specs.Calm.{IsCalmFor, aged_by}
use Rattle.bridge_api.specs.Shown.{view_in, views_of}
use Rattle.spb_world.proofs.BoxLemmas.{All-set}
use Rattle.spb_network.proofs.CalmLemmas.{here-calm, changed-more}
use Rattle.spb_network.proofs.calm.pass_calm.Goals as goal

pub pass_calm-requires-clause-calm : goal.pass_calm-requires-clause-calm
pass_calm-requires-clause-calm g c =
    let within : c.loop-bridge.bridge-index < length c.loop-bridge.bridge-items = omega arith in
    subst (λ b. IsCalmFor c.args.seconds (view_in g.B.Bridge.shown b)) c.bridge-item.is
    (here-calm (view_in g.B.Bridge.shown) (aged_by c.args.seconds) c.args.seconds (views_of g.B.Bridge.shown c.args.boxes.now.items) c.loop-bridge.bridge-items c.loop-bridge.bridge-index c.bridge-item.result within c.bridge-item.is c.loop-bridge.invariant.1 c.requires.calm)

pub loop-bridge-preserved : goal.loop-bridge-preserved
loop-bridge-preserved g c =
    let within : c.loop-bridge.bridge-index < length c.loop-bridge.bridge-items = omega arith in
    let inside : c.loop-bridge.bridge-index < length (views_of g.B.Bridge.shown c.args.boxes.now.items) =
    omega (arith, c.loop-bridge-test.true, ap (λ l. length l) c.deref_mut-bridge-items.ensures.value, length-map c.args.boxes.now.items (view_in g.B.Bridge.shown)) in (
      All-set _ c.loop-bridge.bridge-items c.loop-bridge.bridge-index c.pass_calm.new.self c.loop-bridge.invariant.0 c.in_ok-pass_calm.ensures.still_made,
      changed-more (view_in g.B.Bridge.shown) (aged_by c.args.seconds) (views_of g.B.Bridge.shown c.args.boxes.now.items) c.loop-bridge.bridge-items c.loop-bridge.bridge-index c.bridge-item.result c.pass_calm.new.self within inside c.bridge-item.is c.loop-bridge.invariant.1
          (c.in_ok-pass_calm.ensures.view ∙ ap (λ b. aged_by c.args.seconds (view_in g.B.Bridge.shown b)) (sym c.bridge-item.is)),
    )

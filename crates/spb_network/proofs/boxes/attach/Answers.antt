use Rattle.bridge_api.specs.Step as comes
use Rattle.bridge_api.specs.Step.{step}
use Rattle.bridge_api.specs.Shown.{view_in}
use Rattle.spb_types.proofs.Places.{lent, lent-none}
use Rattle.spb_world.proofs.BoxLemmas.{map-set, changed-none, get-map, on_ok}
use Rattle.spb_network.proofs.boxes.attach.Goals as goal

pub returns-in-None-clause-views : goal.returns-in-None-clause-views
returns-in-None-clause-views g c =
    changed-none (view_in g.B.Bridge.shown) (step (comes.attach c.args.attachment)) c.args.boxes.now.items c.args.i (lent-none _ _ _ c.get_mut.ensures.item c.in-None.is)

pub returns-in-Some-clause-views : goal.returns-in-Some-clause-views
returns-in-Some-clause-views g c =
    on_ok c.attach.result (map-set (view_in g.B.Bridge.shown) (step (comes.attach c.args.attachment)) c.args.boxes.now.items c.args.i c.in-Some.bridge.now c.attach.new.self (lent _ _ _ _ c.get_mut.ensures.item c.in-Some.is)) c.attach.ensures.view

pub attach-requires-clause-can : goal.attach-requires-clause-can
attach-requires-clause-can g c not_failed =
    c.requires.can ((view_in g.B.Bridge.shown) c.in-Some.bridge.now) (get-map (view_in g.B.Bridge.shown) c.args.boxes.now.items c.args.i c.in-Some.bridge.now (lent _ _ _ _ c.get_mut.ensures.item c.in-Some.is))

use Rattle.std.proofs.Common.{ap, sym, ◌∙◌, []}
use Rattle.std.specs.Option.{option_map_or}
use Rattle.bridge_api.specs.Step as comes
use Rattle.bridge_api.specs.Step.{sent, step, with_wire}
use Rattle.bridge_api.specs.Shown.{view_in}
use Rattle.spb_types.proofs.Places.{lent, lent-none}
use Rattle.spb_world.proofs.BoxLemmas.{map-set, changed-none, get-map, get-map-none, on_ok, with_wire-none}
use Rattle.spb_network.proofs.boxes.tick.Goals as goal

pub returns-in-None-clause-views : goal.returns-in-None-clause-views
returns-in-None-clause-views g c =
    changed-none (view_in g.B.Bridge.shown) (step comes.second) c.args.boxes.now.items c.args.i (lent-none _ _ _ c.get_mut.ensures.item c.in-None.is)

pub returns-in-Some-clause-views : goal.returns-in-Some-clause-views
returns-in-Some-clause-views g c =
    on_ok c.tick.result (map-set (view_in g.B.Bridge.shown) (step comes.second) c.args.boxes.now.items c.args.i c.in-Some.bridge.now c.tick.new.self (lent _ _ _ _ c.get_mut.ensures.item c.in-Some.is)) c.tick.ensures.view

pub returns-in-None-clause-sent : goal.returns-in-None-clause-sent
returns-in-None-clause-sent g c =
    with_wire-none c.args.outbox.now ∙ ap (λ o. with_wire (option_map_or (sent comes.second) o []) c.args.outbox.now) (sym (get-map-none (view_in g.B.Bridge.shown) c.args.boxes.now.items c.args.i (lent-none _ _ _ c.get_mut.ensures.item c.in-None.is)))

pub returns-in-Some-clause-sent : goal.returns-in-Some-clause-sent
returns-in-Some-clause-sent g c =
    on_ok c.tick.result (λ e. e ∙ ap (λ o. with_wire (option_map_or (sent comes.second) o []) c.args.outbox.now) (sym (get-map (view_in g.B.Bridge.shown) c.args.boxes.now.items c.args.i c.in-Some.bridge.now (lent _ _ _ _ c.get_mut.ensures.item c.in-Some.is)))) c.tick.ensures.sent

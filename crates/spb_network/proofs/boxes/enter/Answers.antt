use Rattle.std.proofs.Common.{ap}
use Rattle.bridge_api.specs.Step as comes
use Rattle.bridge_api.specs.Step.{step, sent, left_by}
use Rattle.bridge_api.specs.Shown.{view_in, views_of}
use Rattle.spb_types.proofs.Places.{lent, lent-none}
use Rattle.spb_world.proofs.BoxLemmas.{map-set, changed-none, get-map, get-map-none, on_ok, none_more, some_more}
use Rattle.spb_network.proofs.boxes.enter.Goals as goal

pub returns-in-None-clause-views : goal.returns-in-None-clause-views
returns-in-None-clause-views g c =
    changed-none (view_in g.B.Bridge.shown) (step (comes.customer c.args.port c.args.frame.now)) c.args.boxes.now.items c.args.i (lent-none _ _ _ c.get_mut.ensures.item c.in-None.is)

pub returns-in-Some-clause-views : goal.returns-in-Some-clause-views
returns-in-Some-clause-views g c =
    on_ok c.customer.result (map-set (view_in g.B.Bridge.shown) (step (comes.customer c.args.port c.args.frame.now)) c.args.boxes.now.items c.args.i c.in-Some.bridge.now c.customer.new.self (lent _ _ _ _ c.get_mut.ensures.item c.in-Some.is)) c.customer.ensures.view

pub returns-in-None-clause-sent : goal.returns-in-None-clause-sent
returns-in-None-clause-sent g c =
    none_more (sent (comes.customer c.args.port c.args.frame.now)) c.args.outbox.now.wire (views_of g.B.Bridge.shown c.args.boxes.now.items) c.args.i (get-map-none (view_in g.B.Bridge.shown) c.args.boxes.now.items c.args.i (lent-none _ _ _ c.get_mut.ensures.item c.in-None.is))

pub returns-in-None-clause-left : goal.returns-in-None-clause-left
returns-in-None-clause-left g c =
    none_more (left_by (comes.customer c.args.port c.args.frame.now)) c.args.outbox.now.left (views_of g.B.Bridge.shown c.args.boxes.now.items) c.args.i (get-map-none (view_in g.B.Bridge.shown) c.args.boxes.now.items c.args.i (lent-none _ _ _ c.get_mut.ensures.item c.in-None.is))

pub returns-in-Some-clause-sent : goal.returns-in-Some-clause-sent
returns-in-Some-clause-sent g c =
    on_ok c.customer.result (λ e. some_more (sent (comes.customer c.args.port c.args.frame.now)) c.args.outbox.now.wire _ (views_of g.B.Bridge.shown c.args.boxes.now.items) c.args.i (view_in g.B.Bridge.shown c.in-Some.bridge.now)
    (get-map (view_in g.B.Bridge.shown) c.args.boxes.now.items c.args.i c.in-Some.bridge.now (lent _ _ _ _ c.get_mut.ensures.item c.in-Some.is)) (ap (λ outbox. outbox.wire) e)) c.customer.ensures.sent

pub returns-in-Some-clause-left : goal.returns-in-Some-clause-left
returns-in-Some-clause-left g c =
    on_ok c.customer.result (λ e. some_more (left_by (comes.customer c.args.port c.args.frame.now)) c.args.outbox.now.left _ (views_of g.B.Bridge.shown c.args.boxes.now.items) c.args.i (view_in g.B.Bridge.shown c.in-Some.bridge.now)
    (get-map (view_in g.B.Bridge.shown) c.args.boxes.now.items c.args.i c.in-Some.bridge.now (lent _ _ _ _ c.get_mut.ensures.item c.in-Some.is)) (ap (λ outbox. outbox.left) e)) c.customer.ensures.sent

pub customer-requires-clause-sending : goal.customer-requires-clause-sending
customer-requires-clause-sending g c not_failed =
    c.requires.sending (view_in g.B.Bridge.shown c.in-Some.bridge.now) (get-map (view_in g.B.Bridge.shown) c.args.boxes.now.items c.args.i c.in-Some.bridge.now (lent _ _ _ _ c.get_mut.ensures.item c.in-Some.is))

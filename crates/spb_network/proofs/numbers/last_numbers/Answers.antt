use Rattle.std.proofs.Common.{sym, ap, ◌∙◌}
use Rattle.bridge_api.specs.Shown.{view_in}
use Rattle.network_model.specs.Restarting.{last_of}
use Rattle.spb_world.proofs.BoxLemmas.{get-map, get-map-none, seen, seen-none}
use Rattle.spb_network.proofs.Keeping.{if_ok}
use Rattle.spb_network.proofs.numbers.last_numbers.Goals as goal

pub read_numbers-requires-clause-system : goal.read_numbers-requires-clause-system
read_numbers-requires-clause-system g c =
    let shown = view_in g.B.Bridge.shown in
    c.requires.system (shown c.in-Some.bridge.now) (get-map shown _ c.args.i c.in-Some.bridge.now (seen _ c.args.i c.get.result c.in-Some.bridge c.get.ensures.lookup c.in-Some.is))

pub returns-in-None : goal.returns-in-None
returns-in-None g c =
    let at = get-map-none (view_in g.B.Bridge.shown) _ c.args.i (seen-none _ c.args.i c.get.result c.get.ensures.lookup c.in-None.is) in
    if_ok c.first_life.result (λ last e. e ∙ sym (ap last_of at)) c.first_life.ensures.last

pub returns-in-Some : goal.returns-in-Some
returns-in-Some g c =
    let at = get-map (view_in g.B.Bridge.shown) _ c.args.i c.in-Some.bridge.now (seen _ c.args.i c.get.result c.in-Some.bridge c.get.ensures.lookup c.in-Some.is) in
    if_ok c.read_numbers.result (λ last e. e ∙ sym (ap last_of at)) c.read_numbers.ensures

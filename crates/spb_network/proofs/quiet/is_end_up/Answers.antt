use Rattle.std.proofs.Common.{false, sym, ap, ◌∙◌}
use Rattle.std.specs.Option.{option_map_or}
use Rattle.bridge_api.specs.Shown.{view_in}
use Rattle.bridge_api.specs.View.{is_up_at}
use Rattle.spb_world.proofs.BoxLemmas.{get-map, get-map-none, seen, seen-none}
use Rattle.network_model.proofs.QuietStates.{up_by_adjacency}
use Rattle.spb_network.proofs.quiet.is_end_up.Goals as goal

pub adjacent-requires-clause-port : goal.adjacent-requires-clause-port
adjacent-requires-clause-port g c =
    let shown = view_in g.B.Bridge.shown in
    c.requires.port (shown c.in-Some.bridge.now) (get-map shown _ c.args.end.bridge c.in-Some.bridge.now (seen _ c.args.end.bridge c.get.result c.in-Some.bridge c.get.ensures.lookup c.in-Some.is))

pub returns-in-None : goal.returns-in-None
returns-in-None g c =
    let shown = view_in g.B.Bridge.shown in
    let at = get-map-none shown _ c.args.end.bridge (seen-none _ c.args.end.bridge c.get.result c.get.ensures.lookup c.in-None.is) in
    sym (ap (λ o. option_map_or (λ v. is_up_at v c.args.end.port) o false) at)

pub returns-in-Some : goal.returns-in-Some
returns-in-Some g c =
    let shown = view_in g.B.Bridge.shown in
    let at = get-map shown _ c.args.end.bridge c.in-Some.bridge.now (seen _ c.args.end.bridge c.get.result c.in-Some.bridge c.get.ensures.lookup c.in-Some.is) in
    c.is_up.ensures
    ∙ (up_by_adjacency (shown c.in-Some.bridge.now) c.args.end.port c.adjacent.result c.adjacent.ensures
    ∙ sym (ap (λ o. option_map_or (λ v. is_up_at v c.args.end.port) o false) at))

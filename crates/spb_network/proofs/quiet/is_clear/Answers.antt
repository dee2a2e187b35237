use Rattle.std.proofs.Common.{true, not, sym, ap, ◌∙◌}
use Rattle.std.specs.Option.{option_map_or}
use Rattle.bridge_api.specs.Shown.{view_in}
use Rattle.bridge_api.specs.View.{has_flags}
use Rattle.spb_world.proofs.BoxLemmas.{get-map, get-map-none, seen, seen-none}
use Rattle.spb_network.proofs.quiet.is_clear.Goals as goal

pub returns-in-None : goal.returns-in-None
returns-in-None g c =
    let at = get-map-none (view_in g.B.Bridge.shown) _ c.args.place (seen-none _ c.args.place c.get.result c.get.ensures.lookup c.in-None.is) in
    sym (ap (λ o. option_map_or (λ v. not (has_flags v)) o true) at)

pub returns-in-Some : goal.returns-in-Some
returns-in-Some g c =
    let at = get-map (view_in g.B.Bridge.shown) _ c.args.place c.in-Some.bridge.now (seen _ c.args.place c.get.result c.in-Some.bridge c.get.ensures.lookup c.in-Some.is) in
    ap not c.has_flag.ensures ∙ sym (ap (λ o. option_map_or (λ v. not (has_flags v)) o true) at)

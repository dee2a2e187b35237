use Rattle.std.proofs.Common.{◌≡◌, slice_get, Some, None, sym, ap, ◌∙◌, [], subst}
use Rattle.std.specs.Option.{option_map_or}
use Rattle.bridge_api.specs.Shown.{view_in, views_of}
use Rattle.network_model.specs.State.{State}
use Rattle.network_model.specs.Questions.{adjacencies_of}
use Rattle.spb_network.specs.Network.{state_of}
use Rattle.spb_world.proofs.BoxLemmas.{get-map, get-map-none, seen, seen-none}
use Rattle.network_model.proofs.PortLemmas.{ports-count, shown-ok}
use Rattle.spb_network.proofs.network.NetworkOf.adjacencies.Goals as goal

pub adjacencies_of-requires-clause-count : goal.adjacencies_of-requires-clause-count
adjacencies_of-requires-clause-count g c =
    let s : State = state_of g.B.Bridge.shown c.args.self.now in
    let at = get-map (view_in g.B.Bridge.shown) _ c.args.place c.in-Some.bridge.now (seen _ c.args.place c.get.result c.in-Some.bridge c.get.ensures.lookup c.in-Some.is) in
    ports-count s c.args.place ((view_in g.B.Bridge.shown) c.in-Some.bridge.now) c.requires.fits (subst (λ bs. slice_get (views_of g.B.Bridge.shown bs) c.args.place ≡ Some ((view_in g.B.Bridge.shown) c.in-Some.bridge.now)) c.deref.ensures.value at) ∙ sym c.ports-count.ensures.ports

pub returns-in-None : goal.returns-in-None
returns-in-None g c =
    let at = get-map-none (view_in g.B.Bridge.shown) _ c.args.place (seen-none _ c.args.place c.get.result c.get.ensures.lookup c.in-None.is) in
    c.new.ensures.items ∙ ap (λ o. option_map_or (λ v. adjacencies_of v.ports) o []) (sym (subst (λ bs. slice_get (views_of g.B.Bridge.shown bs) c.args.place ≡ None) c.deref.ensures.value at))

pub returns-in-Some : goal.returns-in-Some
returns-in-Some g c =
    let at = get-map (view_in g.B.Bridge.shown) _ c.args.place c.in-Some.bridge.now (seen _ c.args.place c.get.result c.in-Some.bridge c.get.ensures.lookup c.in-Some.is) in
    shown-ok c.adjacencies_of.result (λ x e. e ∙ ap (λ o. option_map_or (λ v. adjacencies_of v.ports) o []) (sym (subst (λ bs. slice_get (views_of g.B.Bridge.shown bs) c.args.place ≡ Some ((view_in g.B.Bridge.shown) c.in-Some.bridge.now)) c.deref.ensures.value at))) c.adjacencies_of.ensures

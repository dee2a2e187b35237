use Rattle.std.proofs.Common.{◌≡◌, ◌∷◌, [], ◌++◌, map, false, subst, sym, ap, ◌∙◌, arith}
use Rattle.bridge_api.specs.Config.{configured}
use Rattle.bridge_api.specs.Shown.{view_in, views_of}
use Rattle.network_model.specs.State.{State}
use Rattle.spb_network.specs.Network.{state_of, spare, AreConfigured}
use Rattle.spb_world.proofs.BoxLemmas.{on_ok, got}
use Rattle.spb_network.proofs.CommandFits.{map-remove, map-push}
use Rattle.spb_world.proofs.ListLemmas.{All-push}
use Rattle.spb_world.proofs.RefusalLemmas.{bridge_refusal_none}
use Rattle.spb_network.proofs.network.NetworkOf.take_box.Goals as goal

pub overflow_cast-id : goal.overflow_cast-id
overflow_cast-id g c =
    let new = bridge_refusal_none _ _ _ _ _ _ c.requires.accepted in
    omega (arith, new.priority_high)

pub overflow_cast-ports : goal.overflow_cast-ports
overflow_cast-ports g c =
    let new = bridge_refusal_none _ _ _ _ _ _ c.requires.accepted in
    omega (arith, new.ports_high)

pub config-requires-clause-ports : goal.config-requires-clause-ports
config-requires-clause-ports g c = (bridge_refusal_none _ _ _ _ _ _ c.requires.accepted).ports_high

pub config-requires-clause-source : goal.config-requires-clause-source
config-requires-clause-source g c = (bridge_refusal_none _ _ _ _ _ _ c.requires.accepted).source_high

pub config-requires-clause-address : goal.config-requires-clause-address
config-requires-clause-address g c = (bridge_refusal_none _ _ _ _ _ _ c.requires.accepted).address

pub configure-requires-clause-blank : goal.configure-requires-clause-blank
configure-requires-clause-blank g c = c.requires.blank c.remove-bridge.result (got c.args.self.now.rack.items c.args.place c.remove-bridge.result c.requires.place c.remove-bridge.ensures.value)

pub returns-clause-state : goal.returns-clause-state
returns-clause-state g c =
    let s : State = state_of g.B.Bridge.shown c.args.self.now in
    on_ok c.declare_bridge.result (λ e. λ i. record s {
      rack = (ap (map (spare g.B.Bridge.shown)) c.remove-bridge.ensures.items ∙ map-remove (spare g.B.Bridge.shown) c.args.self.now.rack.items c.args.place) i;
      world = e i;
      views = (ap (views_of g.B.Bridge.shown) c.in_ok-push.ensures.items ∙ map-push (view_in g.B.Bridge.shown) c.args.self.now.boxes.items c.configure.new.self ∙ ap (λ v. s.views ++ v ∷ []) (c.in_ok-configure.ensures.view ∙ ap configured c.in_ok-config.ensures.config)) i;
      ticks = c.in_ok-push-2.ensures.items i;
    }) c.declare_bridge.ensures.ok

pub returns-clause-made : goal.returns-clause-made
returns-clause-made g c =
    on_ok c.declare_bridge.result (λ e. subst (AreConfigured g.B.Bridge.shown) (sym c.in_ok-push.ensures.items) (All-push (λ b. (g.B.Bridge.shown b).blank ≡ false) c.args.self.now.boxes.items c.configure.new.self c.requires.made c.in_ok-configure.ensures.made)) c.declare_bridge.ensures.ok

-- The bridges that are declared once a declaration was accepted.
use Rattle.std.proofs.Common.{◌≡◌, ℕ, zero, suc, true, List, [], ◌∷◌, ◌++◌, length, Option, Some, None, slice_get, refl, ap, ◌∙◌, arith}
use Rattle.std.proofs.lemmas.Option.{slice_get_within}
use Rattle.std.specs.Prelude.{is_some}
use Rattle.spb_types.specs.declared.address.Mac.{Mac}
use Rattle.spb_types.specs.declared.service.SourceId.{SourceId}
use Rattle.scenario.specs.declared.command.Command.TheVariants as command
use Rattle.spb_world.specs.declared.declaration.DeclaredBridge.{DeclaredBridge}
use Rattle.spb_world.specs.declared.declaration.DeclaredLink.{DeclaredLink}
use Rattle.spb_world.specs.World.{place_of, things_of}
use Rattle.link_model.specs.Lanes.{no_frames}
use Rattle.spb_world.specs.Declaring.{bridge_of, link_of, with_bridge, with_link}
use Rattle.network_model.specs.State.{State, Fits, IsPortAt}
use Rattle.network_model.specs.Events.{with_metric_at_end, with_metrics_over}
use Rattle.network_model.specs.Refusing.{box_for, declared_refusal, refusal_of}
use Rattle.network_model.specs.Play.{boxed, declared, linked, link_between_found, named_link, next_state}
use Rattle.network_model.proofs.FitsLemmas.{IsAlike, alike_then, alike_with_metric, alike_switched_on}
use Rattle.network_model.proofs.SoundNames.{last_none, passes}

boxed_bridges : (s : State) (name : List ℕ) (b : DeclaredBridge) (place : Option ℕ) → is_some place ≡ true → (boxed s name b place).world.bridges ≡ s.world.bridges ++ (name, b) ∷ []
unfolding with_bridge
boxed_bridges s name b None found = absurd cc
boxed_bridges s name b (Some place) found = refl

-- a bridge that is accepted is declared behind the others
pub bridge_declared : (s : State) (name : List ℕ) (priority : ℕ) (system : Mac) (source : SourceId) (ports : ℕ) → refusal_of s (command.Bridge name priority system source ports) ≡ None → (next_state s (command.Bridge name priority system source ports)).world.bridges ≡ s.world.bridges ++ (name, bridge_of priority system source ports) ∷ []
unfolding next_state declared declared_refusal
bridge_declared s name priority system source ports none =
    boxed_bridges s name (bridge_of priority system source ports) (box_for s) (passes (is_some (box_for s)) _ (last_none _ _ none))

linked_bridges : (s : State) (name : List ℕ) (l : DeclaredLink) → (linked s name l).world.bridges ≡ s.world.bridges
unfolding linked with_link
linked_bridges s name l =
    let t : State = record s { world = with_link s.world name l; lanes = s.lanes ++ no_frames ∷ [] } in
    let alike : IsAlike t (with_metrics_over t l) = alike_then t (with_metric_at_end t l.a) (with_metrics_over t l) (alike_with_metric t l.a) (alike_with_metric (with_metric_at_end t l.a) l.b) in
    (alike_switched_on (with_metrics_over t l) (length s.lanes)).bridges ∙ alike.bridges

bridges_at_found : (s : State) (name : List ℕ) (a b : Option ℕ) (port_a port_b cost : ℕ) → (link_between_found s name a port_a b port_b cost).world.bridges ≡ s.world.bridges
bridges_at_found s name None b port_a port_b cost = refl
bridges_at_found s name (Some i) None port_a port_b cost = refl
bridges_at_found s name (Some i) (Some j) port_a port_b cost = linked_bridges s name (link_of i port_a j port_b cost)

-- a link leaves the bridges as they were declared
pub link_declared : (s : State) (name a b : List ℕ) (port_a port_b cost : ℕ) → (next_state s (command.Link name a port_a b port_b cost)).world.bridges ≡ s.world.bridges
unfolding next_state named_link
link_declared s name a b port_a port_b cost = bridges_at_found s name (place_of a s.world.bridges) (place_of b s.world.bridges) port_a port_b cost

-- each of two bridges has a port where one was declared of each
pub two_have_port : (s : State) (n m : List ℕ) (b c : DeclaredBridge) → s.world.bridges ≡ (n, b) ∷ (m, c) ∷ [] → b.ports ≡ 1 → c.ports ≡ 1 → Fits s → (i : ℕ) → IsPortAt s.views i 1
two_have_port s n m b c is one_b one_c fits zero v at =
    record { low = omega arith; high = omega (arith, (fits.ports 0 v b at (ap (λ bs. slice_get (things_of bs) 0) is)).ports, one_b) }
two_have_port s n m b c is one_b one_c fits (suc zero) v at =
    record { low = omega arith; high = omega (arith, (fits.ports 1 v c at (ap (λ bs. slice_get (things_of bs) 1) is)).ports, one_c) }
two_have_port s n m b c is one_b one_c fits (suc (suc i)) v at =
    absurd (omega (arith, slice_get_within s.views (suc (suc i)) v at, fits.bridges, ap length is))

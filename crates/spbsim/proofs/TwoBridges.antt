-- Two bridges of one port each that are declared in a network, and then linked.
use Rattle.std.proofs.Common.{◌≡◌, ℕ, List, [], ◌∷◌, ◌++◌, refl, ap, ◌∙◌}
use Rattle.spb_types.specs.declared.address.Mac.{Mac}
use Rattle.spb_types.specs.declared.service.SourceId.{SourceId}
use Rattle.scenario.specs.declared.command.Command.TheVariants as command
use Rattle.network_model.specs.declared.answer.Answer.{Answer}
use Rattle.spb_world.specs.World.{Bridges}
use Rattle.spb_world.specs.Declaring.{bridge_of}
use Rattle.network_model.specs.State.{State, Fits, IsPortAt}
use Rattle.spb_network.specs.Applying.{Plays}
use Rattle.network_model.proofs.DeclaredLemmas.{bridge_declared, link_declared, two_have_port}

-- they have that port
pub linked_ports : (s t u w : State) (n m l a b : List ℕ) (p q : ℕ) (x y : Mac) (i j : SourceId) (port_a port_b cost : ℕ) (c d e : Answer) → s.world.bridges ≡ [] → Plays s (command.Bridge n p x i 1) c t → Plays t (command.Bridge m q y j 1) d u → Plays u (command.Link l a port_a b port_b cost) e w → Fits w → (k : ℕ) → IsPortAt w.views k 1
linked_ports s t u w n m l a b p q x y i j port_a port_b cost c d e none first second third fits =
    let one : t.world.bridges ≡ (n, bridge_of p x i 1) ∷ [] = ap (λ (v : State). v.world.bridges) first.state ∙ (bridge_declared s n p x i 1 first.accepted ∙ ap (λ (bs : Bridges). bs ++ (n, bridge_of p x i 1) ∷ []) none) in
    let two : u.world.bridges ≡ (n, bridge_of p x i 1) ∷ (m, bridge_of q y j 1) ∷ [] = ap (λ (v : State). v.world.bridges) second.state ∙ (bridge_declared t m q y j 1 second.accepted ∙ ap (λ (bs : Bridges). bs ++ (m, bridge_of q y j 1) ∷ []) one) in
    two_have_port w n m (bridge_of p x i 1) (bridge_of q y j 1) (ap (λ (v : State). v.world.bridges) third.state ∙ (link_declared u l a b port_a port_b cost ∙ two)) refl refl fits

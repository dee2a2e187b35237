-- What is so after all frames of a round through which each port with carrier stays Up with one neighbour: the bridge has
-- the same to say, and CSNPs are due where they were.
use Rattle.std.proofs.Common.{◌≡◌, ◌⊎◌, inl, inr, ℕ, ◌-◌, ◌≤◌, true, List, [], ◌∷◌, refl, sym, ap, ◌∙◌, subst, Option, Some, None, arith}
use Rattle.std.specs.Prelude.{slice_set}
use Rattle.std.proofs.lemmas.Option.{slice_get_within}
use Rattle.adjacency.specs.declared.state.AdjacencyChange.{AdjacencyChange}
use Rattle.adjacency.specs.declared.state.AdjacencyChange.TheVariants.{Kept, Discarded}
use Rattle.adjacency.specs.Hearing.{End}
use Rattle.adjacency.specs.Adjacency.{after_hello, change_by_hello}
use Rattle.bridge_api.specs.declared.port.BridgePort.{BridgePort}
use Rattle.bridge_api.specs.View.{BridgeView, IsPort, port_in, port_at, has_carrier_in, has_carrier_at, is_csnp_due_in, is_csnp_due_at}
use Rattle.bridge_api.specs.Own.{body_at}
use Rattle.bridge_api.specs.Hearing.{with_adjacency}
use Rattle.bridge_api.specs.Ports.{noted}
use Rattle.bridge_api.specs.Step.{frame, step}
use Rattle.bridge_api.proofs.Carriers.{steps_keep_carrier}
use Rattle.bridge_api.proofs.Certified.{steps_keep_bridge}
use Rattle.bridge_api.proofs.Changes.{HelloStep, found, one_port, frame_ports, heard_hello_ports}
use Rattle.bridge_rounds.specs.Inbox.{Inbox, heard_all, StaysUp, SaysTheSameOn}
use Rattle.bridge_rounds.proofs.FlagHellos.{IsUpWith, no_change}

pub says_after : (fs : Inbox) (v : BridgeView) → SaysTheSameOn fs v → (number : ℕ) → body_at (heard_all fs v) number ≡ body_at v number
says_after [] v says number = refl
says_after (f ∷ fs) v says number = says_after fs (step (frame f.0 f.1) v) says.1 number ∙ says.0 number

-- each port with carrier stays Up with one neighbour
abbrev pub AllStayUp : Inbox → BridgeView → Type 0
AllStayUp fs v = (p : ℕ) → IsPort v p → has_carrier_at v p ≡ true → (n : End) × StaysUp p n fs v

-- a port with carrier is there
pub carrier_port : (v : BridgeView) (p : ℕ) → has_carrier_at v p ≡ true → IsPort v p
unfolding has_carrier_at
carrier_port v p carrier = by (port_at v p) refl carrier
  where
    by : (o : Option BridgePort) → port_at v p ≡ o → has_carrier_in o ≡ true → IsPort v p
    by None there is = absurd cc
    by (Some port) there is =
        let at = found v.ports p port there in
        let within = slice_get_within v.ports (p - 1) port at.1 in
        record { low = at.0; high = omega (arith, within, at.0) }

noted_due : (change : AdjacencyChange) (port : BridgePort) → (change ≡ Discarded) ⊎ (change ≡ Kept) → (noted change port).csnp_due ≡ port.csnp_due
noted_due change port (inl is) = ap (λ (c : AdjacencyChange). (noted c port).csnp_due) is
noted_due change port (inr is) = ap (λ (c : AdjacencyChange). (noted c port).csnp_due) is

carrier_there : (v : BridgeView) (q : ℕ) (port : BridgePort) → port_at v q ≡ Some port → port.adjacency.carrier ≡ true → has_carrier_at v q ≡ true
unfolding has_carrier_at
carrier_there v q port there carrier = ap has_carrier_in there ∙ carrier

-- a hello at a port that stays Up
hello_due : (v w : BridgeView) (q : ℕ) (bytes : List ℕ) (g : HelloStep v q bytes w) (n : End) → IsUpWith q n v → IsUpWith q n w → (p : ℕ) → is_csnp_due_at w p ≡ is_csnp_due_at v p
unfolding is_csnp_due_at
hello_due v w q bytes g n before after p =
    let at = found v.ports q g.port g.there in
    let change : AdjacencyChange = change_by_hello v.id.system q g.hello g.way g.port.adjacency in
    let next : BridgePort = with_adjacency (after_hello v.id.system q g.hello g.way g.port.adjacency) g.port in
    let ports : w.ports ≡ slice_set v.ports (q - 1) (noted change next) = ap (λ (u : BridgeView). u.ports) g.after ∙ heard_hello_ports g.hello g.way q g.port v g.there in
    let none = no_change g.hello g.way q g.port v n w at.0 at.1 ports before after in
    ap (λ (list : List BridgePort). is_csnp_due_in (port_in list p)) ports
    ∙ elim (one_port v.ports q g.port (noted change next) p at.0 at.1) [
      | inl here ↦ ap is_csnp_due_in here.1 ∙ (noted_due change next none ∙ sym (ap (λ (k : ℕ). is_csnp_due_in (port_at v k)) here.0 ∙ ap is_csnp_due_in g.there))
      | inr other ↦ ap is_csnp_due_in other
    ]

same_due : (v w : BridgeView) → w.ports ≡ v.ports → (p : ℕ) → is_csnp_due_at w p ≡ is_csnp_due_at v p
unfolding is_csnp_due_at
same_due v w is p = ap (λ (list : List BridgePort). is_csnp_due_in (port_in list p)) is

frame_due : (v : BridgeView) (q : ℕ) (bytes : List ℕ) → (has_carrier_at v q ≡ true → (n : End) × (IsUpWith q n v × IsUpWith q n (step (frame q bytes) v))) → (p : ℕ) → is_csnp_due_at (step (frame q bytes) v) p ≡ is_csnp_due_at v p
frame_due v q bytes kept p =
    elim (frame_ports v q bytes) [
      | inl is ↦ same_due v (step (frame q bytes) v) is p
      | inr g ↦ let k = kept (carrier_there v q g.port g.there g.carrier) in hello_due v (step (frame q bytes) v) q bytes g k.0 k.1.0 k.1.1 p
    ]

first_up : (p : ℕ) (n : End) (fs : Inbox) (v : BridgeView) → StaysUp p n fs v → IsUpWith p n v
first_up p n [] v up = record { up = up.0; neighbour = up.1 }
first_up p n (f ∷ fs) v up = record { up = up.0; neighbour = up.1 }

pub due_after : (fs : Inbox) (v : BridgeView) → AllStayUp fs v → (p : ℕ) → is_csnp_due_at (heard_all fs v) p ≡ is_csnp_due_at v p
due_after [] v stay p = refl
due_after (f ∷ fs) v stay p =
    let u : BridgeView = step (frame f.0 f.1) v in
    let ports = (steps_keep_bridge (frame f.0 f.1) v).ports in
    let here : has_carrier_at v f.0 ≡ true → (n : End) × (IsUpWith f.0 n v × IsUpWith f.0 n u) = λ carrier.
    let k = stay f.0 (carrier_port v f.0 carrier) carrier in
    (k.0, (record { up = k.1.0; neighbour = k.1.1 }, first_up f.0 k.0 fs u k.1.2)) in
    due_after fs u (λ r port carrier.
    let was : IsPort v r = record { low = port.low; high = subst (λ n. r ≤ n) ports port.high } in
    let k = stay r was (sym (steps_keep_carrier (frame f.0 f.1) v r was) ∙ carrier) in
    (k.0, k.1.2)) p
    ∙ frame_due v f.0 f.1 here p

-- Carrier that comes to a port of a sound bridge changes nothing of what the bridge holds: the bridge has the same to say.
use Rattle.std.proofs.Common.{◌≡◌, inl, inr, ℕ, Bool, true, false, List, [], ◌∷◌, refl, ap, ◌∙◌}
use Rattle.std.specs.Prelude.{if◌then◌else◌}
use Rattle.bridge_api.specs.View.{BridgeView}
use Rattle.bridge_api.specs.Step.{carrier, step}
use Rattle.bridge_api.specs.Laws.{IsSoundView}
use Rattle.bridge_api.proofs.Changes.{carrier_step, found}
use Rattle.bridge_api.proofs.OwnLspSteps.{was_saying}
use Rattle.bridge_laws.proofs.Originating.{given_carrier_stands}
use Rattle.spb_world.specs.declared.declaration.DeclaredLink.{DeclaredLink}
use Rattle.spb_world.specs.Links.{ends_here, end_here}
use Rattle.network_model.specs.RestartLaws.{with_carriers}
use Rattle.network_model.proofs.BridgeLaws.{steps_stay_sound, steps_keep_bridge}

pub carrier_comes : (v : BridgeView) (q : ℕ) → IsSoundView v → (step (carrier q true) v).database ≡ v.database
carrier_comes v q sound =
    elim (carrier_step v q true) [
      | inl e ↦ ap (λ (w : BridgeView). w.database) e
      | inr g ↦ ap (λ (w : BridgeView). w.database) (g.after ∙ given_carrier_stands v q g.port (was_saying v sound) (found v.ports q g.port g.there).1)
    ]

comes_if : (v : BridgeView) (q : ℕ) (b : Bool) → IsSoundView v → IsSoundView (if b then step (carrier q true) v else v) × ((if b then step (carrier q true) v else v).database ≡ v.database)
comes_if v q true sound = (steps_stay_sound (carrier q true) v tt sound, carrier_comes v q sound)
comes_if v q false sound = (sound, refl)

-- nor does carrier over all links of a bridge
pub carriers_come : (ls : List DeclaredLink) (i : ℕ) (v : BridgeView) → IsSoundView v → (with_carriers ls i v).database ≡ v.database
carriers_come [] i v sound = refl
carriers_come (l ∷ ls) i v sound =
    let q : ℕ = (end_here l i).port in
    let next = comes_if v q (ends_here l i) sound in
    carriers_come ls i (if ends_here l i then step (carrier q true) v else v) next.0 ∙ next.1

id_if : (v : BridgeView) (q : ℕ) (b : Bool) → (if b then step (carrier q true) v else v).id ≡ v.id
id_if v q true = (steps_keep_bridge (carrier q true) v).id
id_if v q false = refl

pub carriers_keep_id : (ls : List DeclaredLink) (i : ℕ) (v : BridgeView) → (with_carriers ls i v).id ≡ v.id
carriers_keep_id [] i v = refl
carriers_keep_id (l ∷ ls) i v =
    let q : ℕ = (end_here l i).port in
    carriers_keep_id ls i (if ends_here l i then step (carrier q true) v else v) ∙ id_if v q (ends_here l i)

-- Carrier stands at the ends of the links that are up.
use Rattle.std.proofs.Common.{◌≡◌, ◌≢◌, ◌⊎◌, inl, inr, ◌≤◌, ◌+◌, ℕ, zero, suc, Bool, true, false, true≢false, List, [], ◌∷◌, refl, sym, ap, ◌∙◌, subst, Option, Some, None, slice_get, arith}
use Rattle.std.specs.Prelude.{◌==◌, ◌&&◌, if◌then◌else◌}
use Rattle.std.specs.Option.{option_map, option_map_or, option_or}
use Rattle.std.proofs.lemmas.Bool.{cases_eq, ne_eqb}
use Rattle.spb_types.specs.declared.link.Dir.{Dir}
use Rattle.spb_types.specs.declared.link.Dir.TheVariants.{Ab, Ba}
use Rattle.bridge_api.specs.View.{BridgeView, IsPort, has_carrier_at}
use Rattle.bridge_api.specs.Step.{Input, carrier, step}
use Rattle.spb_world.specs.declared.declaration.DeclaredLink.{DeclaredLink}
use Rattle.spb_world.specs.declared.declaration.LinkEnd.{LinkEnd}
use Rattle.link_model.specs.declared.lanes.LaneId.{LaneId}
use Rattle.spb_world.specs.World.{Links, things_of, AllApart}
use Rattle.spb_world.specs.Declaring.{switched}
use Rattle.spb_types.specs.Places.{changed_at}
use Rattle.spb_world.specs.Links.{is_live, near_end, is_at, direction, lane_out_from, lane_out}
use Rattle.network_model.specs.Sound.{ends_live_link}
use Rattle.network_model.proofs.BridgeLaws.{steps_keep_bridge}
use Rattle.network_model.proofs.SoundLaws.{is_carrier, carrier_kept, carrier_is_set, carrier_beside}
use Rattle.network_model.proofs.SoundLane.{some-is}
use Rattle.spb_world.proofs.SoundLaneIds.{at_itself, at_parts, away, lane_of_end, LeadsFrom, lane_leads}
use Rattle.network_model.proofs.SoundSteps.{live-switched}

-- ---- one item of a list was changed

-- an item afterwards is that of the changed place, or one that stood there before
pub record WasChanged {X : Type 0} (f : X → X) (xs : List X) (i j : ℕ) (y : X) : Type 0 where
  pub was : X
  pub there : slice_get xs j ≡ Some was
  pub is : ((j ≡ i) × (y ≡ f was)) ⊎ ((j ≢ i) × (y ≡ was))

pub got_changed : {X : Type 0} (f : X → X) (xs : List X) (i j : ℕ) (y : X) → slice_get (changed_at f xs i) j ≡ Some y → WasChanged f xs i j y
got_changed f [] i j y at = absurd cc
got_changed f (x ∷ xs) zero zero y at = record { was = x; there = refl; is = inl (refl, sym (some-is (f x) y at)) }
got_changed f (x ∷ xs) zero (suc j) y at = record { was = y; there = at; is = inr ((λ e. absurd (omega (arith, e))), refl) }
got_changed f (x ∷ xs) (suc i) zero y at = record { was = x; there = refl; is = inr ((λ e. absurd (omega (arith, e))), sym (some-is x y at)) }
got_changed f (x ∷ xs) (suc i) (suc j) y at =
    let rest = got_changed f xs i j y at in
    record {
      was = rest.was;
      there = rest.there;
      is = elim rest.is [
        | inl here ↦ inl (ap suc here.0, here.1)
        | inr other ↦ inr ((λ e. other.0 (omega (arith, e))), other.1)
      ];
    }

-- ---- which ports have carrier

-- each port has carrier as told
abbrev pub HaveCarrier : List BridgeView → (ℕ → ℕ → Bool) → Type 0
HaveCarrier views carriers = (i : ℕ) (v : BridgeView) (p : ℕ) → slice_get views i ≡ Some v → IsPort v p → has_carrier_at v p ≡ carriers i p

port_before : (x : Input) (v : BridgeView) (p : ℕ) → IsPort (step x v) p → IsPort v p
port_before x v p port = record { low = port.low; high = subst (λ (n : ℕ). p ≤ n) (steps_keep_bridge x v).ports port.high }

-- only a change of carrier changes it
pub carriers_stepped : (x : Input) (views : List BridgeView) (i : ℕ) (carriers : ℕ → ℕ → Bool) → is_carrier x ≡ false → HaveCarrier views carriers → HaveCarrier (changed_at (step x) views i) carriers
carriers_stepped x views i carriers other have j v p at port =
    let was = got_changed (step x) views i j v at in
    elim was.is [
      | inl here ↦
          let before : IsPort was.was p = port_before x was.was p (subst (λ (u : BridgeView). IsPort u p) here.1 port) in
          ap (λ (u : BridgeView). has_carrier_at u p) here.1 ∙ (carrier_kept x was.was p before other ∙ have j was.was p was.there before)
      | inr same ↦
          ap (λ (u : BridgeView). has_carrier_at u p) same.1 ∙ have j was.was p was.there (subst (λ (u : BridgeView). IsPort u p) same.1 port)
    ]

and-false : (b : Bool) → (b && false) ≡ false
and-false true = refl
and-false false = refl

away_port : (e : LinkEnd) (i p : ℕ) → e.port ≢ p → is_at e i p ≡ false
away_port e i p apart = ap (λ (b : Bool). (e.bridge == i) && b) (ne_eqb e.port p apart) ∙ and-false (e.bridge == i)

when_at : (b : Bool) (on other : Bool) → b ≡ true → on ≡ (if b then on else other)
when_at true on other e = refl
when_at false on other e = absurd cc

when_away : (b : Bool) (on other : Bool) → b ≡ false → other ≡ (if b then on else other)
when_away true on other e = absurd cc
when_away false on other e = refl

-- carrier comes to an end of a link, or goes
pub carriers_with_carrier : (on : Bool) (views : List BridgeView) (e : LinkEnd) (carriers : ℕ → ℕ → Bool) → HaveCarrier views carriers → HaveCarrier (changed_at (step (carrier e.port on)) views e.bridge) (λ i p. if is_at e i p then on else carriers i p)
carriers_with_carrier on views e carriers have j v p at port =
    let was = got_changed (step (carrier e.port on)) views e.bridge j v at in
    elim was.is [
      | inl here ↦ ap (λ (u : BridgeView). has_carrier_at u p) here.1 ∙ changed was.was was.there here.0 (port_before (carrier e.port on) was.was p (subst (λ (u : BridgeView). IsPort u p) here.1 port))
      | inr same ↦
          ap (λ (u : BridgeView). has_carrier_at u p) same.1
          ∙ (have j was.was p was.there (subst (λ (u : BridgeView). IsPort u p) same.1 port)
          ∙ when_away (is_at e j p) on (carriers j p) (away e j p (λ is. same.0 (sym is))))
    ]
  where
    changed : (u : BridgeView) → slice_get views j ≡ Some u → j ≡ e.bridge → IsPort u p → has_carrier_at (step (carrier e.port on) u) p ≡ (if is_at e j p then on else carriers j p)
    changed u there place is =
        elim (cases_eq p e.port) [
          | inl here ↦
              ap (λ (q : ℕ). has_carrier_at (step (carrier e.port on) u) q) here
              ∙ (carrier_is_set u e.port on (subst (λ (q : ℕ). IsPort u q) here is)
              ∙ when_at (is_at e j p) on (carriers j p) (at_itself e j p (sym place) (sym here)))
          | inr beside ↦
              carrier_beside u e.port on p is beside
              ∙ (have j u p there is
              ∙ when_away (is_at e j p) on (carriers j p) (away_port e j p (λ same. beside (sym same))))
        ]

-- ---- which ports are ends of links that are up

out-switched_from : (n : ℕ) (on : Bool) (ls : Links) (k i p : ℕ) → lane_out_from n (things_of (switched on ls k)) i p ≡ lane_out_from n (things_of ls) i p
out-switched_from n on [] k i p = refl
out-switched_from n on (l ∷ ls) zero i p = refl
out-switched_from n on (l ∷ ls) (suc k) i p = ap (λ (o : Option LaneId). option_or (option_map (λ dir. record { link = n; dir = dir }) (direction l.1 i p)) o) (out-switched_from (n + 1) on ls k i p)

out-switched : (on : Bool) (ls : Links) (k i p : ℕ) → lane_out (things_of (switched on ls k)) i p ≡ lane_out (things_of ls) i p
unfolding lane_out
out-switched on ls k i p = out-switched_from 0 on ls k i p

live-here : (on : Bool) (ls : Links) (k : ℕ) (l : DeclaredLink) → slice_get (things_of ls) k ≡ Some l → is_live (things_of (switched on ls k)) k ≡ on
live-here on [] k l at = absurd cc
live-here on (h ∷ ls) zero l at = refl
live-here on (h ∷ ls) (suc k) l at = live-here on ls k l at

abbrev pub carriers_by : List DeclaredLink → Option LaneId → Bool
carriers_by links lane = option_map_or (λ w. is_live links w.link) lane false

-- the ends of a link that is switched, and every other port
pub carrier-switched : (on : Bool) (ls : Links) (k : ℕ) (l : DeclaredLink) → AllApart (things_of ls) → l.a.bridge ≢ l.b.bridge → slice_get (things_of ls) k ≡ Some l → (i p : ℕ) → (if is_at l.b i p then on else (if is_at l.a i p then on else ends_live_link (things_of ls) i p)) ≡ ends_live_link (things_of (switched on ls k)) i p
carrier-switched on ls k l apart ends at i p =
    by (is_at l.b i p) (is_at l.a i p) refl refl ∙ sym (ap (carriers_by (things_of (switched on ls k))) (out-switched on ls k i p))
  where
    end : (dir : Dir) → is_at (near_end dir l) i p ≡ true → on ≡ carriers_by (things_of (switched on ls k)) (lane_out (things_of ls) i p)
    end dir is =
        let parts = at_parts (near_end dir l) i p is in
        let out : lane_out (things_of ls) i p ≡ Some (record { link = k; dir = dir }) =
        sym (λ j. lane_out (things_of ls) (parts.0 j) (parts.1 j)) ∙ lane_of_end (things_of ls) k l dir apart ends at in
        sym (ap (carriers_by (things_of (switched on ls k))) out ∙ live-here on ls k l at)

    not_here : (dir : Dir) → is_at l.a i p ≡ false → is_at l.b i p ≡ false → is_at (near_end dir l) i p ≡ false
    not_here Ab a b = a
    not_here Ba a b = b

    other : (o : Option LaneId) → lane_out (things_of ls) i p ≡ o → is_at l.a i p ≡ false → is_at l.b i p ≡ false → carriers_by (things_of ls) o ≡ carriers_by (things_of (switched on ls k)) o
    other None out a b = refl
    other (Some lane) out a b =
        elim (live-switched on ls k lane.link) [
          | inl here ↦
              let leads : LeadsFrom (things_of ls) i p lane.link lane.dir = lane_leads (things_of ls) i p lane out in
              let link : leads.link ≡ l = some-is leads.link l (sym leads.there ∙ (ap (slice_get (things_of ls)) here.0 ∙ at)) in
              let is : is_at (near_end lane.dir l) i p ≡ true = subst (λ (h : DeclaredLink). is_at (near_end lane.dir h) i p ≡ true) link (at_itself (near_end lane.dir leads.link) i p leads.bridge leads.port) in
              absurd (true≢false (sym is ∙ not_here lane.dir a b))
          | inr same ↦ sym same
        ]

    by : (b a : Bool) → is_at l.b i p ≡ b → is_at l.a i p ≡ a → (if b then on else (if a then on else ends_live_link (things_of ls) i p)) ≡ carriers_by (things_of (switched on ls k)) (lane_out (things_of ls) i p)
    by true a is_b is_a = end Ba is_b
    by false true is_b is_a = end Ab is_a
    by false false is_b is_a = other (lane_out (things_of ls) i p) refl is_a is_b

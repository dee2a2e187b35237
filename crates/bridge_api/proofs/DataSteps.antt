-- The database of a bridge stays sound in every step.
use Rattle.std.proofs.Common.{◌≡◌, inl, inr, ◌≤◌, ◌-◌, ℕ, Bool, true, false, List, [], ◌∷◌, length, refl, sym, ap, ◌∙◌, subst, Some, arith}
use Rattle.std.specs.Prelude.{◌==◌, slice_set, if◌then◌else◌, ◌++◌}
use Rattle.std.proofs.lemmas.Bool.{le-leb}
use Rattle.std.proofs.lemmas.List.{length-map, length-set}
use Rattle.std.proofs.lemmas.Option.{slice_get_within}
use Rattle.spb_types.specs.Ports.{has}
use Rattle.isis_pdu.specs.Pdu.{HelloValue}
use Rattle.spb_tlvs.specs.declared.three_way.ThreeWay.{ThreeWay}
use Rattle.customer_learning.specs.Known.{Addresses}
use Rattle.adjacency.specs.declared.state.AdjacencyChange.{AdjacencyChange}
use Rattle.adjacency.specs.declared.state.AdjacencyChange.TheVariants.{Kept, CameUp, LeftUp, Discarded}
use Rattle.adjacency.specs.declared.port.Adjacency.{Adjacency}
use Rattle.adjacency.specs.Hearing.{is_discarded, sender}
use Rattle.adjacency.specs.States.{next_state, state_numbered}
use Rattle.adjacency.specs.Adjacency.{IsSound, state_towards, after_hello_heard, after_carrier, change_of}
use Rattle.spb_types.specs.declared.service.Attachment.{Attachment}
use Rattle.bridge_api.specs.declared.port.BridgePort.{BridgePort}
use Rattle.bridge_api.specs.View.{BridgeView, port_in, port_at, with_port_at, is_port_up, is_up_in, up_ports}
use Rattle.bridge_api.specs.Own.{originated_if_changed}
use Rattle.bridge_api.specs.Config.{IsMetric}
use Rattle.bridge_api.specs.Hearing.{with_csnp_due, with_adjacency, left_up, all_srm_set_at, changed_at, heard_lsp, heard_csnp, heard_psnp, heard_hello, after_receive, with_carrier_at, with_carrier, with_port_metric, with_metric}
use Rattle.bridge_api.specs.Ticking.{later, counts_lowered, expired, readied, after_tick}
use Rattle.bridge_api.specs.Customers.{with_learned, after_entry}
use Rattle.bridge_api.specs.Services.{with_attached, without_customer_port, with_port_forgotten}
use Rattle.bridge_api.specs.Step.{Input, second, frame, carrier, metric, attach, detach, customer, step}
use Rattle.bridge_api.specs.Laws.{IsSoundPort, HasConfig, IsSoundView, IsInput}
use Rattle.bridge_api.proofs.Places.{got_at}
use Rattle.bridge_api.proofs.Adjacent.{came_up, stayed_up, hello_sound, carrier_sound}
use Rattle.bridge_api.proofs.Changes.{KeepsRest, found, LspStep, CsnpStep, PsnpStep, frame_step, idle, by_hello, by_lsp, by_csnp, by_psnp, carrier_step, metric_step, originated_if_changed_ports, tick_is, attached_to, with_attached_is}
use Rattle.bridge_api.proofs.Attached.{config_after}
use Rattle.bridge_api.proofs.SoundPorts.{IsSix, six_of, AreSoundPorts, all_set, heard_six, carrier_six, with_metric_sound, sound_at, source_six, all_later, config_kept}
use Rattle.bridge_api.proofs.Saying.{has_body, says_octets, can_say}
use Rattle.bridge_api.proofs.OwnPorts.{bodies_text}
use Rattle.bridge_api.proofs.Data.{Holds, lsps_of, CanOriginate, own_named, up_at, originated_if_changed_keeps, refreshed_keeps, lsp_keeps, csnp_keeps, psnp_keeps, moved_keeps, left_keeps, srm_set_at_keeps, counts_lowered_keeps, expired_keeps, after_sending_keeps}
use Rattle.bridge_api.proofs.Reading.{lsp_heard_at, csnp_heard_at, psnp_heard_at}

-- a configured bridge with sound ports can originate
pub can_originate : (v : BridgeView) → HasConfig v → length v.ports ≤ 32 → AreSoundPorts v.ports → CanOriginate v
can_originate v config few ports = record {
  body = has_body v config few ports;
  octets = says_octets v config few ports;
  named = own_named v.id.system config.system;
  text = bodies_text v few (can_say v config few ports);
}

-- ---- something came to pass at a port of a sound bridge

module _ (v : BridgeView) (was : IsSoundView v) where
  before_holds : Holds v
  before_holds = lsps_of v was.database was.own

  -- a bridge that differs in what a step changes
  can_after : (w : BridgeView) → KeepsRest v w → length w.ports ≤ 32 → AreSoundPorts w.ports → CanOriginate w
  can_after w rest few ports = can_originate w (config_kept v w rest was.config) few ports

  module _ (p : ℕ) (old : BridgePort) (there : port_at v p ≡ Some old) where
    few_set : (to : BridgePort) → length (slice_set v.ports (p - 1) to) ≤ 32
    few_set to = omega (arith, length-set v.ports (p - 1) to, was.few)

    can_set : (w : BridgeView) (to : BridgePort) → KeepsRest v w → w.ports ≡ slice_set v.ports (p - 1) to → IsSoundPort to → CanOriginate w
    can_set w to rest is sound =
        can_after w rest (subst (λ (ports : List BridgePort). length ports ≤ 32) (sym is) (few_set to)) (subst AreSoundPorts (sym is) (all_set v.ports (p - 1) to was.ports sound))

    module _ (a : Adjacency) (sound : IsSound a) (six : IsSix a.neighbour) where
      kept_sound : change_of old.adjacency a ≡ Kept → IsSoundPort (with_adjacency a old)
      kept_sound e =
          let before : IsSoundPort old = sound_at v p old was.ports there in
          record { adjacency = sound; neighbour = six.0; octets = six.1; csnp_due = λ due. stayed_up old.adjacency a e (before.csnp_due due); metric = before.metric }

      left_sound : IsSoundPort (with_csnp_due false (with_adjacency a old))
      left_sound = let before : IsSoundPort old = sound_at v p old was.ports there in record { adjacency = sound; neighbour = six.0; octets = six.1; csnp_due = λ e. absurd cc; metric = before.metric }

      left_holds : Holds (originated_if_changed (left_up p (with_adjacency a old) v))
      left_holds =
          let w : BridgeView = left_up p (with_adjacency a old) v in
          originated_if_changed_keeps w (can_set w (with_csnp_due false (with_adjacency a old)) refl refl left_sound) (left_keeps v p old (with_adjacency a old) was.few there before_holds)

      came_holds : is_port_up (with_adjacency a old) ≡ true → Holds (all_srm_set_at p (with_adjacency a old) (originated_if_changed (left_up p (with_adjacency a old) v)))
      came_holds up =
          let w : BridgeView = left_up p (with_adjacency a old) v in
          let u : BridgeView = originated_if_changed w in
          let at = found v.ports p old there in
          let undue : BridgePort = with_csnp_due false (with_adjacency a old) in
          let few : length u.ports ≤ 32 = subst (λ (ports : List BridgePort). length ports ≤ 32) (sym (originated_if_changed_ports w)) (few_set undue) in
          let got : port_in (slice_set v.ports (p - 1) undue) p ≡ Some undue = rw (le-leb 1 p at.0) (got_at v.ports (p - 1) undue (slice_get_within v.ports (p - 1) old at.1)) in
          let now : port_at u p ≡ Some undue = ap (λ (ports : List BridgePort). port_in ports p) (originated_if_changed_ports w) ∙ got in
          srm_set_at_keeps u p undue (with_adjacency a old) few now up left_holds

      changed_holds : (heard : AdjacencyChange) → change_of old.adjacency a ≡ heard → Holds (changed_at heard p (with_adjacency a old) v)
      changed_holds Discarded e = before_holds
      changed_holds Kept e =
          let w : BridgeView = with_port_at p (with_adjacency a old) v in
          originated_if_changed_keeps w (can_set w (with_adjacency a old) refl refl (kept_sound e)) (moved_keeps v p old (with_adjacency a old) was.few there (stayed_up old.adjacency a e) before_holds)
      changed_holds LeftUp e = left_holds
      changed_holds CameUp e = came_holds (came_up old.adjacency a e)

    -- a hello
    hello_holds : (discarded : Bool) (h : HelloValue) (way : ThreeWay) → IsSix h.source → IsSound (if discarded then old.adjacency else after_hello_heard h way old.adjacency)
        → Holds (changed_at (if discarded then Discarded else change_of old.adjacency (after_hello_heard h way old.adjacency)) p (with_adjacency (if discarded then old.adjacency else after_hello_heard h way old.adjacency) old) v)
    hello_holds true h way six sound = before_holds
    hello_holds false h way six sound =
        let a : Adjacency = after_hello_heard h way old.adjacency in
        changed_holds a sound (heard_six (h.holding == 0) (next_state (state_towards (sender h way) old.adjacency) (state_numbered way.state)) h way six) (change_of old.adjacency a) refl

    heard_hello_holds : (h : HelloValue) (way : ThreeWay) → IsSix h.source → Holds (heard_hello h way p old v)
    heard_hello_holds h way six =
        let before : IsSoundPort old = sound_at v p old was.ports there in
        hello_holds (is_discarded v.id.system p h way) h way six (hello_sound v.id.system p h way old.adjacency before.adjacency)

    with_carrier_holds : (on : Bool) → Holds (with_carrier_at p on (Some old) v)
    with_carrier_holds on =
        let before : IsSoundPort old = sound_at v p old was.ports there in
        let a : Adjacency = after_carrier on old.adjacency in
        changed_holds a (carrier_sound on old.adjacency before.adjacency) (carrier_six on old.adjacency (six_of old before)) (change_of old.adjacency a) refl

    with_metric_holds : (m : ℕ) → IsMetric m → Holds (originated_if_changed (with_port_at p (with_port_metric m old) v))
    with_metric_holds m is =
        let w : BridgeView = with_port_at p (with_port_metric m old) v in
        originated_if_changed_keeps w (can_set w (with_port_metric m old) refl refl (with_metric_sound m old is (sound_at v p old was.ports there))) (moved_keeps v p old (with_port_metric m old) was.few there (λ up. up) before_holds)

    -- the port is among the Up ones
    among_up : is_port_up old ≡ true → has (up_ports v) p ≡ true
    among_up up = up_at v.ports p was.few ∙ (ap is_up_in there ∙ up)

  can : CanOriginate v
  can = can_originate v was.config was.few was.ports

  heard_lsp_holds : (q : ℕ) (bytes : List ℕ) (w : BridgeView) → LspStep v q bytes w → Holds w
  heard_lsp_holds q bytes w g =
      let l = lsp_heard_at bytes g.lsp g.is in
      let u : BridgeView = heard_lsp g.lsp q v in
      subst Holds (sym g.after)
      (originated_if_changed_keeps u (can_after u refl was.few was.ports) (lsp_keeps g.lsp q v (among_up q g.port g.there g.up) l.whole l.id l.fields can before_holds))

  heard_csnp_holds : (q : ℕ) (bytes : List ℕ) (w : BridgeView) → CsnpStep v q bytes w → Holds w
  heard_csnp_holds q bytes w g =
      let u : BridgeView = heard_csnp g.csnp g.entries q v in
      subst Holds (sym g.after)
      (originated_if_changed_keeps u (can_after u refl was.few was.ports) (csnp_keeps g.csnp g.entries q v (among_up q g.port g.there g.up) (csnp_heard_at bytes g.csnp g.entries g.is g.read) can before_holds))

  heard_psnp_holds : (q : ℕ) (bytes : List ℕ) (w : BridgeView) → PsnpStep v q bytes w → Holds w
  heard_psnp_holds q bytes w g =
      let u : BridgeView = heard_psnp g.entries q v in
      subst Holds (sym g.after)
      (originated_if_changed_keeps u (can_after u refl was.few was.ports) (psnp_keeps g.entries q v (among_up q g.port g.there g.up) (psnp_heard_at bytes g.psnp g.entries g.is g.read) can before_holds))

  pub frame_holds : (q : ℕ) (bytes : List ℕ) → Holds (after_receive q bytes v)
  frame_holds q bytes =
      elim (frame_step v q bytes) [
        | idle learned how e ↦ subst Holds (sym e) before_holds
        | by_hello g ↦ subst Holds (sym g.after) (heard_hello_holds q g.port g.there g.hello g.way (source_six bytes g.hello g.way g.is))
        | by_lsp g ↦ heard_lsp_holds q bytes (after_receive q bytes v) g
        | by_csnp g ↦ heard_csnp_holds q bytes (after_receive q bytes v) g
        | by_psnp g ↦ heard_psnp_holds q bytes (after_receive q bytes v) g
      ]

  pub carrier_holds : (q : ℕ) (on : Bool) → Holds (with_carrier q on v)
  carrier_holds q on =
      elim (carrier_step v q on) [
        | inl e ↦ subst Holds (sym e) before_holds
        | inr g ↦ subst Holds (sym g.after) (with_carrier_holds q g.port g.there on)
      ]

  pub metric_holds : (q m : ℕ) → IsMetric m → Holds (with_metric q m v)
  metric_holds q m is =
      elim (metric_step v q m) [
        | inl e ↦ subst Holds (sym e) before_holds
        | inr g ↦ subst Holds (sym g.after) (with_metric_holds q g.port g.there m is)
      ]

  pub attached_holds : (learned : Addresses) (attached : List Attachment) → HasConfig (attached_to attached (with_learned learned v)) → Holds (with_attached attached (with_learned learned v))
  attached_holds learned attached config =
      let w : BridgeView = attached_to attached (with_learned learned v) in
      subst Holds (sym (with_attached_is attached (with_learned learned v))) (originated_if_changed_keeps w (can_originate w config was.few was.ports) before_holds)

  -- a second
  pub readied_holds : Holds (readied v)
  readied_holds =
      let u : BridgeView = counts_lowered v in
      let w : BridgeView = expired u in
      refreshed_keeps w (can_after w refl (omega (arith, length-map v.ports later, was.few)) (all_later v.ports was.ports)) (expired_keeps u (counts_lowered_keeps v was.few before_holds))

  pub tick_holds : Holds (after_tick v)
  tick_holds = subst Holds (sym (tick_is v)) (after_sending_keeps (readied v) readied_holds)

pub step_holds : (input : Input) (v : BridgeView) → IsInput v input → IsSoundView v → Holds (step input v)
unfolding with_port_forgotten after_entry
step_holds second v is was = tick_holds v was
step_holds (frame q bytes) v is was = frame_holds v was q bytes
step_holds (carrier q on) v is was = carrier_holds v was q on
step_holds (metric q m) v is was = metric_holds v was q m is
step_holds (attach a) v is was = attached_holds v was v.learned (v.attached ++ a ∷ []) (config_after (attach a) v is was.config)
step_holds (detach p) v is was = attached_holds v was (with_port_forgotten p v).learned (without_customer_port p v.attached) (config_after (detach p) v is was.config)
step_holds (customer p bytes) v is was = lsps_of v was.database was.own

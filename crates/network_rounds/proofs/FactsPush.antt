-- What is held at one end of a link that is up is at most what is held at the other end after a steady round: it is held
-- there already, or its LSP is sent, comes and is taken.
use Rattle.std.proofs.Common.{◌≡◌, inl, inr, ℕ, true, true≢false, List, refl, sym, ap, ◌∙◌, subst, Option, Some, None, slice_get}
use Rattle.std.specs.Prelude.{Contains}
use Rattle.std.specs.Option.{option_map}
use Rattle.std.specs.FinMap.{get}
use Rattle.spb_types.specs.declared.address.LspId.{LspId}
use Rattle.spb_types.specs.declared.link.Dir.{Dir}
use Rattle.spb_types.specs.Ports.{has}
use Rattle.spb_types.proofs.PortLemmas.{has-no_ports}
use Rattle.link_model.specs.Lane.{Frame}
use Rattle.lsdb.specs.declared.version.Version.{Version}
use Rattle.lsdb.specs.Version.{IsAtMost}
use Rattle.lsdb.specs.Entry.{Entry}
use Rattle.lsdb.specs.Calm.{lowered}
use Rattle.lsdb.specs.Certificate.{Claim}
use Rattle.lsdb.specs.Database.{version_in, srm_in, version_at}
use Rattle.lsdb.proofs.Order.{through}
use Rattle.flooding.specs.Hearing.{claim_of}
use Rattle.flooding.specs.Sending.{lsp_in}
use Rattle.flooding.proofs.SendableEntries.{sent_is_held}
use Rattle.bridge_api.specs.View.{BridgeView}
use Rattle.bridge_api.specs.Ticking.{readied, lsp_frame}
use Rattle.bridge_api.specs.Step.{second, step, sent, frames_at}
use Rattle.bridge_api.specs.Laws.{IsSent}
use Rattle.bridge_api.proofs.DataSteps.{readied_holds}
use Rattle.bridge_api.proofs.Serving.{seconds_serve}
use Rattle.bridge_api.proofs.Sound.{steps_stay_sound}
use Rattle.bridge_rounds.specs.Inbox.{Inbox, heard_all}
use Rattle.bridge_rounds.proofs.LspHeld.{lsp_is_held}
use Rattle.spb_world.specs.declared.declaration.DeclaredLink.{DeclaredLink}
use Rattle.spb_world.specs.Links.{near_end, far_end}
use Rattle.network_model.specs.State.{State, links_of}
use Rattle.network_model.specs.Sound.{end_at}
use Rattle.network_model.specs.Truth.{AreLinked}
use Rattle.network_model.proofs.BridgeLaws.{lsps_are_heard}
use Rattle.network_model.proofs.Linked.{far_view}
use Rattle.network_rounds.specs.Steady.{inbox_of, IsSteadyOver}
use Rattle.network_rounds.proofs.Coming.{sent_contained}
use Rattle.network_rounds.proofs.Facts.{held_at, IsSteadyStep, kept_up, sound_at, held_before, held_after}
use Rattle.network_rounds.proofs.FactsRise.{rises}
use Rattle.network_rounds.proofs.Passing.{near_view}

module _ (ids : List LspId) (m allowance : ℕ) (s t : State) (one : IsSteadyStep ids m allowance s t) where
  module _ (k : ℕ) (dir : Dir) (l : DeclaredLink) (u w : BridgeView) (there : slice_get (links_of s) k ≡ Some l) (live : l.live ≡ true)
      (at_u : slice_get s.views (near_end dir l).bridge ≡ Some u) (at_w : slice_get s.views (far_end dir l).bridge ≡ Some w) where
    over : IsSteadyOver s dir l u w
    over = one.round.links k dir l u w there live at_u at_w

    abbrev fs : Inbox
    fs = inbox_of s (far_end dir l).bridge

    -- the LSP that is to be sent comes
    comes : (id : LspId) (e : Entry) → get u.database id ≡ Some e → has e.srm (near_end dir l).port ≡ true
        → Contains (frames_at (far_end dir l).port fs) (lsp_frame (readied u).id.system (lsp_in id (lowered e)))
    comes id e held set =
        let q : ℕ = (near_end dir l).port in
        let bytes : Frame = lsp_frame (readied u).id.system (lsp_in id (lowered e)) in
        let ready : get (readied u).database id ≡ Some (lowered e) = (one.round.bridges (near_end dir l).bridge u at_u).calm.held id ∙ ap (option_map lowered) held in
        let was : IsSent (sent second u) q bytes = (seconds_serve u q (sound_at ids m allowance s t one (near_end dir l).bridge u at_u) over.sends).lsps id (lowered e) ready set in
        subst (λ (frames : List Frame). Contains frames bytes) (sym (one.state.loses.hear k dir l u there live at_u)) (sent_contained q (sent second u) bytes was)

    -- and is taken
    taken : (id : LspId) (e : Entry) → get u.database id ≡ Some e → has e.srm (near_end dir l).port ≡ true
        → IsAtMost e.version (version_at (heard_all fs (step second w)).database id)
    taken id e held set =
        let x : Entry = lowered e in
        let sound_u = sound_at ids m allowance s t one (near_end dir l).bridge u at_u in
        let for_w = one.round.bridges (far_end dir l).bridge w at_w in
        let ready : get (readied u).database id ≡ Some x = (one.round.bridges (near_end dir l).bridge u at_u).calm.held id ∙ ap (option_map lowered) held in
        let is : claim_of (lsp_in id x) ≡ record { id = id; version = x.version } = sent_is_held id x ((readied_holds u sound_u).sendable id x ready) in
        subst (λ (a : Version). IsAtMost a (version_at (heard_all fs (step second w)).database id)) (ap (λ (c : Claim). c.version) is)
        (lsp_is_held ids (step second w) fs (far_end dir l).port (end_at u (near_end dir l).port) (lsp_frame (readied u).id.system (lsp_in id x)) (lsp_in id x)
        (steps_stay_sound second w tt (sound_at ids m allowance s t one (far_end dir l).bridge w at_w)) for_w.mail for_w.within one.state.few over.hears
        (comes id e held set) (lsps_are_heard u id x sound_u ready))

    flagged : (id : LspId) (o : Option Entry) → get u.database id ≡ o → has (srm_in o) (near_end dir l).port ≡ true → IsAtMost (version_in o) (version_at (heard_all fs (step second w)).database id)
    flagged id None held set = absurd (true≢false (sym set ∙ has-no_ports (near_end dir l).port))
    flagged id (Some e) held set = taken id e held set

    over_link : (id : LspId) → IsAtMost (held_at s (near_end dir l).bridge id) (held_at t (far_end dir l).bridge id)
    over_link id =
        let before_u = held_before ids m allowance s t one (near_end dir l).bridge u id at_u in
        let before_w = held_before ids m allowance s t one (far_end dir l).bridge w id at_w in
        let up = kept_up u (near_end dir l).port _ (one.state.up k dir l u w there live at_u at_w) in
        subst (λ (a : Version). IsAtMost a (held_at t (far_end dir l).bridge id)) (sym before_u)
        (elim ((one.state.sound.agree k dir l u w there at_u at_w).ready id up) [
          | inl set ↦ subst (IsAtMost (version_at u.database id)) (sym (held_after ids m allowance s t one (far_end dir l).bridge w id at_w)) (flagged id (get u.database id) refl set)
          | inr low ↦ through (version_at u.database id) (version_at w.database id) (held_at t (far_end dir l).bridge id) low
              (subst (λ (a : Version). IsAtMost a (held_at t (far_end dir l).bridge id)) before_w (rises ids m allowance s t one (far_end dir l).bridge id))
        ])

  pub pushes : (i j : ℕ) (id : LspId) → AreLinked (links_of s) i j → IsAtMost (held_at s i id) (held_at t j id)
  pushes i j id link =
      let near = near_view s link.place link.dir link.link one.state.sound link.there in
      let far = far_view s link.place link.dir link.link one.state.sound link.there in
      subst (λ (n : ℕ). IsAtMost (held_at s n id) (held_at t j id)) link.near
      (subst (λ (n : ℕ). IsAtMost (held_at s (near_end link.dir link.link).bridge id) (held_at t n id)) link.far
      (over_link link.place link.dir link.link near.0 far.0 link.there link.live near.1 far.1 id))

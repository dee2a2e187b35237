-- Where both ends of a link come to hold the same, the flags at its ports go down in two rounds.
use Rattle.std.proofs.Common.{◌≡◌, ◌≢◌, ◌⊎◌, inl, inr, ◌≤◌, ℕ, Bool, true, false, List, [], ◌∷◌, length, refl, sym, ap, ◌∙◌, subst, Option, Some, None}
use Rattle.std.specs.FinMap.{get}
use Rattle.std.proofs.lemmas.Bool.{true≢false}
use Rattle.spb_types.specs.declared.address.BridgeId.{BridgeId}
use Rattle.spb_types.specs.declared.address.LspId.{LspId}
use Rattle.spb_types.specs.Ports.{has}
use Rattle.spb_types.proofs.PortLemmas.{has-no_ports}
use Rattle.lsdb.specs.declared.version.Version.{Version}
use Rattle.lsdb.specs.declared.version.Version.TheVariants.{Absent, Live, Dead}
use Rattle.lsdb.specs.Version.{IsAtMost}
use Rattle.lsdb.specs.Entry.{Entry}
use Rattle.lsdb.specs.Database.{version_in, srm_in, version_at}
use Rattle.lsdb.specs.Certificate.{IsClaimed}
use Rattle.lsdb.proofs.Order.{both_ways}
use Rattle.flooding.specs.Hearing.{claim_of}
use Rattle.flooding.specs.Entries.{HaveFlagsAt}
use Rattle.adjacency.specs.Hearing.{End}
use Rattle.bridge_api.specs.View.{BridgeView, is_up_at, up_ports}
use Rattle.bridge_api.specs.Parsing.{Parsed}
use Rattle.bridge_api.specs.Step.{second, frame, step}
use Rattle.bridge_api.specs.Laws.{claims_said}
use Rattle.bridge_api.proofs.Certified.{steps_keep_bridge}
use Rattle.bridge_api.proofs.Serving.{seconds_leave_nothing_due}
use Rattle.bridge_rounds.specs.Inbox.{Inbox, heard_all, after_round, claims_at, StaysUp, IsMail, HoldsWithin}
use Rattle.bridge_rounds.specs.Versions.{KeptAt, is_flagged, is_absent, is_as_before, is_claimed}
use Rattle.bridge_rounds.specs.FlagLaws.{HasSrm, HasNoSrm, HasSsn, HasNoSsn, ClaimsOnly, ClaimsAgree}
use Rattle.bridge_rounds.specs.LinkFlags.{HasLspOf, IsSentOver, ComesToAgree, NeighbourAnswers, Agrees, AnsweredIsCleared, SilenceFollows, CanAnswer, LinksFallSilent}
use Rattle.bridge_rounds.proofs.Folds.{at_port, claim_at}
use Rattle.bridge_rounds.proofs.KeptPorts.{round_is_kept}
use Rattle.bridge_rounds.proofs.LspHeld.{mail_rises}
use Rattle.bridge_rounds.proofs.MailSound.{mail_is_sound}
use Rattle.bridge_rounds.proofs.FlagFolds.{nothing_is_offered, equal_is_cleared, nothing_is_asked}
use Rattle.bridge_rounds.proofs.FlagAcked.{lsp_is_acked}

-- ---- one end

-- a port that stays Up is Up in the end
up_last : (p : ℕ) (n : End) (fs : Inbox) (v : BridgeView) → StaysUp p n fs v → is_up_at (heard_all fs v) p ≡ true
up_last p n [] v stays = stays.0
up_last p n (f ∷ fs) v stays = up_last p n fs (step (frame f.0 f.1) v) stays.2

-- a version that is not lower after the round than it was
risen : (id : LspId) (u : BridgeView) (q : ℕ) (v : BridgeView) (p : ℕ) (fs : Inbox) → IsSentOver id u q v p fs → IsAtMost (version_at v.database id) (version_at (after_round fs v).database id)
risen id u q v p fs over = subst (λ (a : Version). IsAtMost a (version_at (after_round fs v).database id)) over.still.version (mail_rises (step second v) fs id over.hears.sound)

-- where the version of the other end is the own one before and after, nothing else is claimed
agree_there : (id : LspId) (u : BridgeView) (q : ℕ) (v : BridgeView) (p : ℕ) (fs : Inbox) → IsSentOver id u q v p fs → version_at u.database id ≡ version_at v.database id → version_at (after_round fs v).database id ≡ version_at v.database id → ClaimsAgree p id fs (step second v)
agree_there id u q v p fs over same stays = record {
  stays = stays ∙ sym over.still.version;
  claims = λ b claimed. over.claims b claimed ∙ (same ∙ sym over.still.version);
}

-- ---- the neighbour answers

module _ (ids : List LspId) (id : LspId) (u v : BridgeView) (q p : ℕ) (us vs : Inbox) (a : Version) (at : ComesToAgree id u q us v p vs a) (mail : IsMail ids (step second v) vs) (within : HoldsWithin ids (step second v)) (few : length ids ≤ 900)
    (some : a ≢ Absent) (ahead : id.system ≡ v.id.system → IsAtMost (version_at u.database id) (version_at v.database id)) (on : HasSrm (after_round us u) id q) where
  there_below : IsAtMost (version_at u.database id) a
  there_below = subst (IsAtMost (version_at u.database id)) at.held_there (risen id v p u q us at.round.back)

  back_below : IsAtMost (version_at v.database id) a
  back_below = subst (IsAtMost (version_at v.database id)) at.held_back (risen id u q v p vs at.round.there)

  -- u held it and sent it
  own_holds : version_at u.database id ≡ a → id.system ≡ (step second v).id.system → version_at (step second v).database id ≡ a
  own_holds held own =
      let above : IsAtMost a (version_at v.database id) = subst (λ (b : Version). IsAtMost b (version_at v.database id)) held (ahead (own ∙ ap (λ (i : BridgeId). i.system) (steps_keep_bridge second v).id)) in
      at.round.there.still.version ∙ both_ways (version_at v.database id) a back_below above

  acked_as : (lsp : HasLspOf id p vs) → version_at u.database id ≡ a → HasSsn (after_round vs v) lsp.lsp.id p
  acked_as lsp held =
      let same : id ≡ lsp.lsp.id = sym lsp.named in
      lsp_is_acked ids p at.round.there.neighbour (step second v) vs lsp.bytes lsp.lsp a at.round.there.hears mail within few lsp.comes lsp.is
      (subst (λ (x : LspId). ClaimsOnly p x a vs) same (λ b claimed. at.round.there.claims b claimed ∙ held))
      (subst (λ (x : LspId). version_at (heard_all vs (step second v)).database x ≡ a) same at.held_back) some
      (λ own. subst (λ (x : LspId). version_at (step second v).database x ≡ a) same (own_holds held (ap (λ (x : LspId). x.system) same ∙ own)))

  -- or u held it and wouldn't have it to send
  unoffered : version_at u.database id ≡ a → HasNoSrm u id q → ⊥
  unoffered held off =
      let behind : IsAtMost (version_at u.database id) (version_at v.database id) = elim at.ready_there [
        | inl set ↦ absurd (true≢false (sym set ∙ off))
        | inr below ↦ below
      ] in
      let same : version_at v.database id ≡ a = both_ways (version_at v.database id) a back_below (subst (λ (b : Version). IsAtMost b (version_at v.database id)) held behind) in
      true≢false (sym on ∙ nothing_is_offered q at.round.back.neighbour (step second u) us id at.round.back.hears
      (agree_there id v p u q us at.round.back (same ∙ sym held) (at.held_there ∙ sym held)) at.round.back.no_csnp (at.round.back.still.srm q ∙ off))

  by_flag : (b : Bool) → has (srm_in (get u.database id)) q ≡ b → version_at u.database id ≡ a → HasSsn (after_round vs v) id p
  by_flag true set held = let lsp = at.round.there.sent set in subst (λ (x : LspId). HasSsn (after_round vs v) x p) lsp.named (acked_as lsp held)
  by_flag false off held = absurd (unoffered held off)

  holding : IsAtMost a (version_at u.database id) → HasSrm (after_round vs v) id p ⊎ HasSsn (after_round vs v) id p
  holding above = inr (by_flag (has (srm_in (get u.database id)) q) refl (both_ways (version_at u.database id) a there_below above))

  by_kept : KeptAt p (claims_at p vs) id (get v.database id) (get (after_round vs v).database id) → HasSrm (after_round vs v) id p ⊎ HasSsn (after_round vs v) id p
  by_kept (is_flagged set) = inl set
  by_kept (is_absent none) = absurd (some (sym at.held_back ∙ none))
  by_kept (is_as_before off same) =
      elim at.ready_back [
        | inl set ↦ absurd (true≢false (sym set ∙ off))
        | inr below ↦ holding (subst (λ (b : Version). IsAtMost b (version_at u.database id)) (sym same ∙ at.held_back) below)
      ]
  by_kept (is_claimed b claimed above) =
      holding (subst (λ (x : Version). IsAtMost x (version_at u.database id)) at.held_back (subst (IsAtMost (version_at (after_round vs v).database id)) (at.round.there.claims b claimed) above))

pub neighbour_answers : NeighbourAnswers
neighbour_answers ids id u v q p us vs a at mail within few some ahead on =
    by_kept ids id u v q p us vs a at mail within few some ahead on
    (round_is_kept v vs p id at.round.there.sound (up_last p at.round.there.neighbour vs (step second v) at.round.there.hears.up))

-- ---- a round later

-- nothing absent is to be sent
absent_in : (v : BridgeView) (id : LspId) (q : ℕ) (o : Option Entry) → HaveFlagsAt (up_ports v) v.database → get v.database id ≡ o → version_in o ≡ Absent → has (srm_in o) q ≡ false
absent_in v id q None flags is none = has-no_ports q
absent_in v id q (Some e) flags is none = (flags id e is).absent none q

module _ (id : LspId) (u v : BridgeView) (q p : ℕ) (us : Inbox) (over : IsSentOver id v p u q us) (agrees : Agrees id u us v) where
  agree : ClaimsAgree q id us (step second u)
  agree = agree_there id v p u q us over agrees.same agrees.stays

  stays_unset : HasNoSrm u id q → HasNoSrm (after_round us u) id q
  stays_unset off = nothing_is_offered q over.neighbour (step second u) us id over.hears agree over.no_csnp (over.still.srm q ∙ off)

  -- where something is claimed
  claimed_clears : version_at u.database id ≢ Absent → (b : Version) → IsClaimed (claims_at q us) id b → HasNoSrm (after_round us u) id q
  claimed_clears some b claimed =
      equal_is_cleared q over.neighbour (step second u) us id b over.hears agree over.no_csnp claimed
      (λ none. some (sym agrees.same ∙ (sym (over.claims b claimed) ∙ none)))

  lsp_claims : (lsp : HasLspOf id q us) → IsClaimed (claims_at q us) id (claim_of lsp.lsp).version
  lsp_claims lsp = claim_at us q lsp.bytes id (claim_of lsp.lsp).version (at_port q us lsp.bytes lsp.comes) (subst (λ (j : Parsed). IsClaimed (claims_said j) id (claim_of lsp.lsp).version) (sym lsp.is) (inl (lsp.named, refl)))

  answered : version_at u.database id ≢ Absent → HasSrm v id p ⊎ HasSsn v id p → HasNoSrm (after_round us u) id q
  answered some (inl set) = let lsp = over.sent set in claimed_clears some (claim_of lsp.lsp).version (lsp_claims lsp)
  answered some (inr set) = claimed_clears some (version_at v.database id) (over.told set)

  cleared_by : (b : Bool) → has (srm_in (get u.database id)) q ≡ b → version_at u.database id ≢ Absent → (HasSrm u id q → HasSrm v id p ⊎ HasSsn v id p) → HasNoSrm (after_round us u) id q
  cleared_by true set some answers = answered some (answers set)
  cleared_by false off some answers = stays_unset off

  cleared_at : (a : Version) → version_at u.database id ≡ a → (version_at u.database id ≢ Absent → HasSrm u id q → HasSrm v id p ⊎ HasSsn v id p) → HasNoSrm (after_round us u) id q
  cleared_at Absent is answers =
      absent_in (after_round us u) id q (get (after_round us u).database id) (mail_is_sound (step second u) us over.hears.sound).1.database.flags refl (agrees.stays ∙ is)
  cleared_at (Live n s) is answers = let some : version_at u.database id ≢ Absent = λ none. let wrong : Live n s ≡ Absent = sym is ∙ none in absurd cc in cleared_by (has (srm_in (get u.database id)) q) refl some (answers some)
  cleared_at (Dead n) is answers = let some : version_at u.database id ≢ Absent = λ none. let wrong : Dead n ≡ Absent = sym is ∙ none in absurd cc in cleared_by (has (srm_in (get u.database id)) q) refl some (answers some)

  silent : HasNoSrm v id p → HasNoSsn (after_round us u) id q
  silent off = nothing_is_asked q over.neighbour (step second u) us id over.hears agree (over.unsent off) ((seconds_leave_nothing_due u over.sound).ssn q id)

pub answered_is_cleared : AnsweredIsCleared
answered_is_cleared id u v q p us over agrees answers = cleared_at id u v q p us over agrees (version_at u.database id) refl answers

pub silence_follows : SilenceFollows
silence_follows id u v q p us over agrees off other = (stays_unset id u v q p us over agrees off, silent id u v q p us over agrees other)

-- ---- three rounds

-- the other way round
turned : (id : LspId) (u v : BridgeView) (q p : ℕ) (us vs : Inbox) (a : Version) → ComesToAgree id u q us v p vs a → ComesToAgree id v p vs u q us a
turned id u v q p us vs a at = record {
  round = record { there = at.round.back; back = at.round.there };
  ready_there = at.ready_back;
  ready_back = at.ready_there;
  held_there = at.held_back;
  held_back = at.held_there;
}

-- after the second round
second_clears : (id : LspId) (u v : BridgeView) (q p : ℕ) (us vs next_us next_vs : Inbox) (a : Version) → ComesToAgree id u q us v p vs a → CanAnswer id u v vs
    → ComesToAgree id (after_round us u) q next_us (after_round vs v) p next_vs a → HasNoSrm (after_round next_us (after_round us u)) id q
second_clears id u v q p us vs next_us next_vs a first can next =
    answered_is_cleared id (after_round us u) (after_round vs v) q p next_us next.round.back
    (record { same = first.held_back ∙ sym first.held_there; stays = next.held_there ∙ sym first.held_there })
    (λ some set. neighbour_answers can.ids id u v q p us vs a first can.mail can.within can.few (λ none. some (first.held_there ∙ none)) can.ahead set)

pub links_fall_silent : LinksFallSilent
links_fall_silent id u v q p us vs next_us next_vs last_us last_vs a first can turn next last =
    silence_follows id (after_round next_us (after_round us u)) (after_round next_vs (after_round vs v)) q p last_us last.round.back
    (record { same = next.held_back ∙ sym next.held_there; stays = last.held_there ∙ sym next.held_there })
    (second_clears id u v q p us vs next_us next_vs a first can next)
    (second_clears id v u p q vs us next_vs next_us a (turned id u v q p us vs a first) turn (turned id (after_round us u) (after_round vs v) q p next_us next_vs a next))

-- No version falls in a round, and an LSP that comes at a port that stays Up is at most what is held after all.
use Rattle.std.proofs.Common.{◌≡◌, ℕ, Bool, true, List, [], ◌∷◌, refl, sym, ap, ◌∙◌, subst, Option, Some, None}
use Rattle.std.specs.Prelude.{if◌then◌else◌}
use Rattle.spb_types.specs.declared.address.LspId.{LspId}
use Rattle.spb_types.specs.declared.drop_reason.DropReason.TheVariants as drop
use Rattle.isis_pdu.specs.Pdu.{LspValue}
use Rattle.lsdb.specs.Version.{IsAtMost}
use Rattle.lsdb.specs.Database.{version_at}
use Rattle.lsdb.proofs.Order.{itself, through}
use Rattle.flooding.specs.Hearing.{claim_of, lsp_rule}
use Rattle.flooding.proofs.AtMostHeld.{heard_is_at_most_held}
use Rattle.flooding.proofs.Claimed.{fitting_is_not_full}
use Rattle.adjacency.specs.declared.state.AdjState.{AdjState}
use Rattle.adjacency.specs.declared.state.AdjState.TheVariants.{Down, Initializing, Up}
use Rattle.adjacency.specs.declared.port.Adjacency.{Adjacency}
use Rattle.adjacency.specs.Hearing.{End}
use Rattle.adjacency.specs.Adjacency.{SoundIn, is_up}
use Rattle.bridge_api.specs.declared.port.BridgePort.{BridgePort}
use Rattle.bridge_api.specs.View.{BridgeView, port_at, is_up_in, is_up_at, up_ports}
use Rattle.bridge_api.specs.Own.{holding_of, originated_if_changed}
use Rattle.bridge_api.specs.Parsing.{Parsed, parsed}
use Rattle.bridge_api.specs.Parsing as parsing
use Rattle.bridge_api.specs.Hearing.{after_drop, heard_lsp, heard_as, heard_at, after_receive}
use Rattle.bridge_api.specs.Step.{frame, step}
use Rattle.bridge_api.specs.Laws.{IsSoundView}
use Rattle.bridge_api.proofs.OwnLspSteps.{lsp_settles_nothing}
use Rattle.bridge_api.proofs.Sound.{steps_stay_sound}
use Rattle.bridge_api.proofs.SoundPorts.{sound_at}
use Rattle.bridge_laws.proofs.StepsCarry.{steps_carry_database}
use Rattle.bridge_rounds.specs.Inbox.{Inbox, StaysUp}
use Rattle.bridge_rounds.specs.Mail.{HoldsOn, HasRoom}
use Rattle.bridge_rounds.specs.Versions.{MailRises, LspIsHeld}
use Rattle.bridge_rounds.proofs.Folds.{mail_keeps, mail_brings, both_hold, at_port}
use Rattle.bridge_rounds.proofs.MailFits.{mail_fits}
use Rattle.bridge_rounds.proofs.MailSound.{mail_is_sound}

-- ---- no version falls

frame_rises : (p : ℕ) (bytes : List ℕ) (u : BridgeView) (id : LspId) → IsSoundView u → IsAtMost (version_at u.database id) (version_at (step (frame p bytes) u).database id)
frame_rises p bytes u id was = (steps_carry_database (frame p bytes) u was).rises id

pub mail_rises : MailRises
mail_rises v fs id was =
    let first = version_at v.database id in
    (mail_keeps (λ (u : BridgeView). IsSoundView u × IsAtMost first (version_at u.database id)) fs v
    (λ p bytes u sent kept.
    (steps_stay_sound (frame p bytes) u tt kept.0, through first (version_at u.database id) (version_at (step (frame p bytes) u).database id) kept.1 (frame_rises p bytes u id kept.0)))
    (was, itself first)).1

-- ---- an LSP at a port that is Up

pub up_carrier : (s : AdjState) (a : Adjacency) → is_up s ≡ true → SoundIn s a → a.carrier ≡ true
up_carrier Down a up sound = absurd cc
up_carrier Initializing a up sound = absurd cc
up_carrier Up a up sound = sound.1

module _ (p : ℕ) (bytes : List ℕ) (l : LspValue) (is : parsed bytes ≡ parsing.lsp l) where
  heard_by : (v : BridgeView) (o : Option BridgePort) → IsSoundView v → port_at v p ≡ o → is_up_in o ≡ true → step (frame p bytes) v ≡ originated_if_changed (heard_lsp l p v)
  unfolding after_receive
  heard_by v None was there up = absurd cc
  heard_by v (Some port) was there up =
      ap (λ (o : Option BridgePort). heard_at p bytes o v) there
      ∙ (ap (λ (b : Bool). if b then heard_as (parsed bytes) p port v else after_drop drop.NotAdjacent v) (up_carrier port.adjacency.state port.adjacency up (sound_at v p port was.ports there).adjacency)
      ∙ (ap (λ (j : Parsed). heard_as j p port v) is
      ∙ ap (λ (b : Bool). if b then originated_if_changed (heard_lsp l p v) else after_drop drop.NotAdjacent v) up))

  lsp_heard : (v : BridgeView) → IsSoundView v → is_up_at v p ≡ true → step (frame p bytes) v ≡ heard_lsp l p v
  unfolding is_up_at
  lsp_heard v was up = heard_by v (port_at v p) was refl up ∙ lsp_settles_nothing v l p was

  lsp_comes : (v : BridgeView) → IsSoundView v → is_up_at v p ≡ true → HasRoom v → IsAtMost (claim_of l).version (version_at (step (frame p bytes) v).database l.id)
  lsp_comes v was up room =
      let rule = lsp_rule (up_ports v) p l in
      let there = fitting_is_not_full rule (up_ports v) (claim_of l) (holding_of v) (room l.id) in
      subst (λ (u : BridgeView). IsAtMost (claim_of l).version (version_at u.database l.id)) (sym (lsp_heard v was up))
      (heard_is_at_most_held (up_ports v) p l (holding_of v) there)

-- ---- after all

stays_up : (p : ℕ) (n : End) (fs : Inbox) (v : BridgeView) → StaysUp p n fs v → HoldsOn (λ u. is_up_at u p ≡ true) fs v
stays_up p n [] v up = up.0
stays_up p n (f ∷ fs) v up = (up.0, stays_up p n fs (step (frame f.0 f.1) v) up.2)

pub lsp_is_held : LspIsHeld
lsp_is_held ids v fs p n bytes l was mail within few up among is =
    let IsOpen : BridgeView → Type 0 = λ u. (is_up_at u p ≡ true) × HasRoom u in
    let open_throughout : HoldsOn IsOpen fs v = both_hold (λ u. is_up_at u p ≡ true) HasRoom fs v (stays_up p n fs v up) (mail_fits ids v fs was mail within few).0 in
    let Heard : BridgeView → Type 0 = λ u. IsAtMost (claim_of l).version (version_at u.database l.id) in
    mail_brings (λ u. IsSoundView u × IsOpen u) Heard fs v p bytes (at_port p fs bytes among)
    (both_hold IsSoundView IsOpen fs v (mail_is_sound v fs was).0 open_throughout)
    (λ u holds. lsp_comes p bytes l is u holds.0 holds.1.0 holds.1.1)
    (λ q other u sent holds before. through (claim_of l).version (version_at u.database l.id) (version_at (step (frame q other) u).database l.id) before (frame_rises q other u l.id holds.0))

-- The neighbour at a port that is Up in the end is no further behind, by what each step of a round keeps there.
use Rattle.std.proofs.Common.{◌≡◌, ℕ, true, false, List, [], ◌∷◌, refl, sym, ◌∙◌, subst, Option}
use Rattle.std.specs.FinMap.{get}
use Rattle.std.proofs.lemmas.Bool.{true≢false}
use Rattle.spb_types.specs.declared.address.LspId.{LspId}
use Rattle.spb_types.specs.declared.ports.PortSet.{PortSet}
use Rattle.spb_types.specs.Ports.{has}
use Rattle.lsdb.specs.declared.version.Version.{Version}
use Rattle.lsdb.specs.Version.{IsAtMost}
use Rattle.lsdb.specs.Entry.{Entry}
use Rattle.lsdb.specs.Database.{version_in, srm_in}
use Rattle.lsdb.specs.Certificate.{Claim, IsClaimed, Kept, is_flagged, is_absent, is_as_before, is_claimed}
use Rattle.lsdb.proofs.Certified.{standing}
use Rattle.bridge_api.specs.View.{BridgeView, up_ports, control_of}
use Rattle.bridge_api.specs.Parsing.{parsed}
use Rattle.bridge_api.specs.Step.{second, frame, step}
use Rattle.bridge_api.specs.Laws.{IsSoundView, claims_said}
use Rattle.bridge_api.proofs.Sound.{steps_stay_sound}
use Rattle.bridge_api.proofs.UpPorts.{up_ports_are_up}
use Rattle.bridge_laws.proofs.StepsCarry.{steps_carry_database}
use Rattle.bridge_rounds.specs.Inbox.{Inbox, heard_all, claims_at}
use Rattle.bridge_rounds.specs.Versions.{KeptAt, PortIsKept, RoundIsKept}
use Rattle.bridge_rounds.specs.Versions as ends
use Rattle.bridge_rounds.proofs.Folds.{claim_first, claim_later}
use Rattle.bridge_rounds.proofs.MailSound.{mail_is_sound}

module _ (p : ℕ) (id : LspId) where
  -- a second step left version and SRM as the first step made them
  kept_after : (port : ℕ) (says all : List Claim) (before : PortSet) (o m n : Option Entry) → ((a : Version) → p ≡ port → IsClaimed says id a → IsClaimed all id a)
      → Kept port says before id p o m → has (srm_in m) p ≡ false → version_in n ≡ version_in m → Kept p all before id p o n
  kept_after port says all before o m n first (is_flagged flag) off same = absurd (true≢false (sym flag ∙ off))
  kept_after port says all before o m n first (is_absent gone) off same = is_absent (same ∙ gone)
  kept_after port says all before o m n first (is_as_before up none was) off same = is_as_before up none (same ∙ was)
  kept_after port says all before o m n first (is_claimed here a claimed low) off same = is_claimed refl a (first a here claimed) (subst (λ (b : Version). IsAtMost b a) (sym same) low)

  -- one step behind another
  kept_then : (port : ℕ) (says claims all : List Claim) (before mid : PortSet) (o m n : Option Entry) → ((a : Version) → p ≡ port → IsClaimed says id a → IsClaimed all id a)
      → ((a : Version) → IsClaimed claims id a → IsClaimed all id a) → (has mid p ≡ true → Kept port says before id p o m) → Kept p claims mid id p m n → Kept p all before id p o n
  kept_then port says claims all before mid o m n first more was (is_flagged flag) = is_flagged flag
  kept_then port says claims all before mid o m n first more was (is_absent gone) = is_absent gone
  kept_then port says claims all before mid o m n first more was (is_as_before up off same) = kept_after port says all before o m n first (was up) off same
  kept_then port says claims all before mid o m n first more was (is_claimed here a claimed low) = is_claimed refl a (more a claimed) low

  kept_through : (fs : Inbox) (v : BridgeView) → IsSoundView v → has (up_ports (heard_all fs v)) p ≡ true
      → Kept p (claims_at p fs) (up_ports v) id p (get v.database id) (get (heard_all fs v).database id)
  kept_through [] v was up = (standing p [] (control_of v)).kept id p up
  kept_through (f ∷ fs) v was up =
      let u : BridgeView = step (frame f.0 f.1) v in
      kept_then f.0 (claims_said (parsed f.1)) (claims_at p fs) (claims_at p (f ∷ fs)) (up_ports v) (up_ports u) (get v.database id) (get u.database id) (get (heard_all fs u).database id)
      (λ a here claimed. claim_first f fs p id a (sym here) claimed) (λ a claimed. claim_later f fs p id a claimed)
      (λ mid. (steps_carry_database (frame f.0 f.1) v was).kept id p mid) (kept_through fs u (steps_stay_sound (frame f.0 f.1) v tt was) up)

  at_port_kept : (claims : List Claim) (up : PortSet) (o n : Option Entry) → Kept p claims up id p o n → KeptAt p claims id o n
  at_port_kept claims up o n (is_flagged flag) = ends.is_flagged flag
  at_port_kept claims up o n (is_absent gone) = ends.is_absent gone
  at_port_kept claims up o n (is_as_before was off same) = ends.is_as_before off same
  at_port_kept claims up o n (is_claimed here a claimed low) = ends.is_claimed a claimed low

pub port_is_kept : PortIsKept
port_is_kept v fs p id was up =
    let w : BridgeView = heard_all fs v in
    at_port_kept p id (claims_at p fs) (up_ports v) (get v.database id) (get w.database id) (kept_through p id fs v was (up_ports_are_up w p (mail_is_sound v fs was).1 ∙ up))

pub round_is_kept : RoundIsKept
round_is_kept v fs p id was up =
    let u : BridgeView = step second v in
    let w : BridgeView = heard_all fs u in
    let sound = steps_stay_sound second v tt was in
    at_port_kept p id (claims_at p fs) (up_ports v) (get v.database id) (get w.database id)
    (kept_then p id 0 [] (claims_at p fs) (claims_at p fs) (up_ports v) (up_ports u) (get v.database id) (get u.database id) (get w.database id)
    (λ a here claimed. absurd claimed) (λ a claimed. claimed) (λ mid. (steps_carry_database second v was).kept id p mid)
    (kept_through p id fs u sound (up_ports_are_up w p (mail_is_sound u fs sound).1 ∙ up)))

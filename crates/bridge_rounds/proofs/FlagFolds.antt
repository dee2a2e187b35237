-- The flags at a port after all frames of a round, where the version under an id stays and nothing else is claimed there.
use Rattle.std.proofs.Common.{◌≡◌, ◌≢◌, ◌⊎◌, inl, inr, ℕ, Bool, true, false, List, [], ◌∷◌, sym, ◌∙◌, subst, Option}
use Rattle.std.specs.Prelude.{◌==◌, if◌then◌else◌}
use Rattle.std.specs.List.{AllByRecursion}
use Rattle.std.specs.FinMap.{get}
use Rattle.std.proofs.lemmas.Bool.{cases_eq, eq-eqb}
use Rattle.spb_types.specs.declared.address.LspId.{LspId}
use Rattle.spb_types.specs.Ports.{has}
use Rattle.isis_pdu.specs.Pdu.{LspValue, CsnpValue}
use Rattle.lsdb.specs.declared.version.Version.{Version}
use Rattle.lsdb.specs.declared.version.Version.TheVariants.{Absent}
use Rattle.lsdb.specs.Version.{IsAtMost}
use Rattle.lsdb.specs.Entry.{Entry}
use Rattle.lsdb.specs.Database.{version_in, srm_in, ssn_in, version_at}
use Rattle.lsdb.specs.Certificate.{IsClaimed}
use Rattle.adjacency.specs.Hearing.{End}
use Rattle.bridge_api.specs.View.{BridgeView}
use Rattle.bridge_api.specs.Parsing.{parsed}
use Rattle.bridge_api.specs.Parsing as parsing
use Rattle.bridge_api.specs.Step.{frame, step, frames_at}
use Rattle.bridge_api.specs.Laws.{IsSoundView, claims_said}
use Rattle.bridge_api.proofs.Sound.{steps_stay_sound}
use Rattle.bridge_laws.proofs.StepsCarry.{steps_carry_database}
use Rattle.bridge_rounds.specs.Inbox.{Inbox, heard_all, claims_at, StaysUp}
use Rattle.bridge_rounds.specs.FlagLaws.{HasSsn, ClaimsOnly, HearsAt, ClaimsAgree, NothingIsOffered, EqualIsCleared, NothingIsAsked}
use Rattle.bridge_rounds.proofs.Folds.{claim_first, claim_later, claim_at, Claims, claim_comes}
use Rattle.bridge_rounds.proofs.LspHeld.{mail_rises}
use Rattle.bridge_rounds.proofs.FlagClaims.{AreSame}
use Rattle.bridge_rounds.proofs.FlagFrames.{between, LeavesAt}
use Rattle.bridge_rounds.proofs.FlagHellos.{IsUpWith}
use Rattle.bridge_rounds.proofs.FlagSteps.{IsSteadyFrame, frame_beside, frame_here}

-- ---- what comes at a port, first and later

all_first : (P : List ℕ → Type 0) (b : Bool) (bytes : List ℕ) (frames : List (List ℕ)) → b ≡ true → AllByRecursion P (if b then bytes ∷ frames else frames) → P bytes
all_first P true bytes frames is all = all.0
all_first P false bytes frames is all = absurd cc

all_later : (P : List ℕ → Type 0) (b : Bool) (bytes : List ℕ) (frames : List (List ℕ)) → AllByRecursion P (if b then bytes ∷ frames else frames) → AllByRecursion P frames
all_later P true bytes frames all = all.1
all_later P false bytes frames all = all

-- a claim is of the first frame, if that comes at the port, or of a later one
either_claims : (f : ℕ × List ℕ) (fs : Inbox) (p : ℕ) (x : LspId) (a : Version) → IsClaimed (claims_at p (f ∷ fs)) x a → ((f.0 ≡ p) × IsClaimed (claims_said (parsed f.1)) x a) ⊎ IsClaimed (claims_at p fs) x a
either_claims f fs p x a claimed = by (claim_comes (f ∷ fs) p x a claimed)
  where
    by : Claims (f ∷ fs) p x a → ((f.0 ≡ p) × IsClaimed (claims_said (parsed f.1)) x a) ⊎ IsClaimed (claims_at p fs) x a
    by at = elim at.sent [
      | inl here ↦ inl (here.0, subst (λ (bytes : List ℕ). IsClaimed (claims_said (parsed bytes)) x a) (sym here.1) at.claimed)
      | inr there ↦ inr (claim_at fs p at.bytes x a there at.claimed)
    ]

-- ---- a bridge that hears frames while a port stays Up

pub up_now : (p : ℕ) (n : End) (fs : Inbox) (v : BridgeView) → StaysUp p n fs v → IsUpWith p n v
up_now p n [] v stays = record { up = stays.0; neighbour = stays.1 }
up_now p n (f ∷ fs) v stays = record { up = stays.0; neighbour = stays.1 }

pub next_hears : (p : ℕ) (n : End) (f : ℕ × List ℕ) (fs : Inbox) (v : BridgeView) → HearsAt p n (f ∷ fs) v → HearsAt p n fs (step (frame f.0 f.1) v)
next_hears p n f fs v at = record { sound = steps_stay_sound (frame f.0 f.1) v tt at.sound; up = at.up.2; says = at.says.1 }

pub first_rises : (f : ℕ × List ℕ) (v : BridgeView) (x : LspId) → IsSoundView v → IsAtMost (version_at v.database x) (version_at (step (frame f.0 f.1) v).database x)
first_rises f v x sound = (steps_carry_database (frame f.0 f.1) v sound).rises x

-- where a version stays in the end, it does so at the first frame
pub first_stays : (f : ℕ × List ℕ) (fs : Inbox) (v : BridgeView) (x : LspId) → IsSoundView v → version_at (heard_all (f ∷ fs) v).database x ≡ version_at v.database x → version_at (step (frame f.0 f.1) v).database x ≡ version_at v.database x
first_stays f fs v x sound stays =
    let w : BridgeView = step (frame f.0 f.1) v in
    between (version_at v.database x) (version_at w.database x) (version_at (heard_all fs w).database x) (first_rises f v x sound) (mail_rises w fs x (steps_stay_sound (frame f.0 f.1) v tt sound)) stays

pub later_only : (p : ℕ) (x : LspId) (a : Version) (f : ℕ × List ℕ) (fs : Inbox) → ClaimsOnly p x a (f ∷ fs) → ClaimsOnly p x a fs
later_only p x a f fs only b claimed = only b (claim_later f fs p x b claimed)

pub first_only : (p : ℕ) (x : LspId) (a : Version) (f : ℕ × List ℕ) (fs : Inbox) → ClaimsOnly p x a (f ∷ fs) → f.0 ≡ p → (b : Version) → IsClaimed (claims_said (parsed f.1)) x b → b ≡ a
first_only p x a f fs only here b claimed = only b (claim_first f fs p x b here claimed)

next_agree : (p : ℕ) (x : LspId) (f : ℕ × List ℕ) (fs : Inbox) (v : BridgeView) → IsSoundView v → ClaimsAgree p x (f ∷ fs) v → ClaimsAgree p x fs (step (frame f.0 f.1) v)
next_agree p x f fs v sound agree =
    let first = first_stays f fs v x sound agree.stays in
    record { stays = agree.stays ∙ sym first; claims = λ b claimed. later_only p x (version_at v.database x) f fs agree.claims b claimed ∙ sym first }

-- what a frame leaves: one at another port, and one at this one
data FirstLeaves (p : ℕ) (x : LspId) (f : ℕ × List ℕ) (o n : Option Entry) : Type 0 where
  beside : f.0 ≢ p → AreSame p o n → FirstLeaves p x f o n
  here : f.0 ≡ p → LeavesAt p x (parsed f.1) o n → FirstLeaves p x f o n

module _ (p : ℕ) (n : End) (x : LspId) (f : ℕ × List ℕ) (fs : Inbox) (v : BridgeView) (hears : HearsAt p n (f ∷ fs) v) (agree : ClaimsAgree p x (f ∷ fs) v) where
  steady : IsSteadyFrame p f.0 n f.1 x v (step (frame f.0 f.1) v)
  steady = record {
    sound = hears.sound;
    before = up_now p n (f ∷ fs) v hears.up;
    after = up_now p n fs (step (frame f.0 f.1) v) hears.up.2;
    says = hears.says.0;
    stays = first_stays f fs v x hears.sound agree.stays;
  }

  first_leaves : FirstLeaves p x f (get v.database x) (get (step (frame f.0 f.1) v).database x)
  first_leaves =
      elim (cases_eq p f.0) [
        | inl is ↦ here (sym is) (subst (λ (q : ℕ). LeavesAt p x (parsed f.1) (get v.database x) (get (step (frame q f.1) v).database x)) is
            (frame_here p n f.1 x v (subst (λ (q : ℕ). IsSteadyFrame p q n f.1 x v (step (frame q f.1) v)) (sym is) steady) (first_only p x (version_at v.database x) f fs agree.claims (sym is))))
        | inr apart ↦ beside (λ is. apart (sym is)) (frame_beside p f.0 n f.1 x v steady apart)
      ]

-- ---- the folds

srm_first : (p : ℕ) (x : LspId) (f : ℕ × List ℕ) (o n : Option Entry) → FirstLeaves p x f o n → (f.0 ≡ p → (c : CsnpValue) → parsed f.1 ≢ parsing.csnp c) → has (srm_in o) p ≡ false → has (srm_in n) p ≡ false
srm_first p x f o n (beside apart same) lacking off = same.srm ∙ off
srm_first p x f o n (here is leaves) lacking off = leaves.srm_stays (lacking is) off

pub nothing_is_offered : NothingIsOffered
nothing_is_offered p n v [] x hears agree lacking off = off
nothing_is_offered p n v (f ∷ fs) x hears agree lacking off =
    let w : BridgeView = step (frame f.0 f.1) v in
    nothing_is_offered p n w fs x (next_hears p n f fs v hears) (next_agree p x f fs v hears.sound agree) (all_later (λ bytes. (c : CsnpValue) → parsed bytes ≢ parsing.csnp c) (f.0 == p) f.1 (frames_at p fs) lacking)
    (srm_first p x f (get v.database x) (get w.database x) (first_leaves p n x f fs v hears agree)
    (λ is. all_first (λ bytes. (c : CsnpValue) → parsed bytes ≢ parsing.csnp c) (f.0 == p) f.1 (frames_at p fs) (eq-eqb f.0 p is) lacking) off)

cleared_first : (p : ℕ) (x : LspId) (f : ℕ × List ℕ) (a : Version) (o n : Option Entry) → FirstLeaves p x f o n → (f.0 ≡ p → (c : CsnpValue) → parsed f.1 ≢ parsing.csnp c)
    → f.0 ≡ p → IsClaimed (claims_said (parsed f.1)) x a → version_in o ≢ Absent → has (srm_in n) p ≡ false
cleared_first p x f a o n (beside apart same) lacking is claimed some = absurd (apart is)
cleared_first p x f a o n (here at leaves) lacking is claimed some = leaves.srm (lacking is) a claimed some

pub equal_is_cleared : EqualIsCleared
equal_is_cleared p n v [] x a hears agree lacking claimed some = absurd claimed
equal_is_cleared p n v (f ∷ fs) x a hears agree lacking claimed some =
    let w : BridgeView = step (frame f.0 f.1) v in
    let rest = all_later (λ bytes. (c : CsnpValue) → parsed bytes ≢ parsing.csnp c) (f.0 == p) f.1 (frames_at p fs) lacking in
    let hears' : HearsAt p n fs w = next_hears p n f fs v hears in
    let agree' : ClaimsAgree p x fs w = next_agree p x f fs v hears.sound agree in
    elim (either_claims f fs p x a claimed) [
      | inl first ↦
          nothing_is_offered p n w fs x hears' agree' rest
          (cleared_first p x f a (get v.database x) (get w.database x) (first_leaves p n x f fs v hears agree)
          (λ is. all_first (λ bytes. (c : CsnpValue) → parsed bytes ≢ parsing.csnp c) (f.0 == p) f.1 (frames_at p fs) (eq-eqb f.0 p is) lacking)
          first.0 first.1 (λ none. some (agree.claims a claimed ∙ none)))
      | inr later ↦ equal_is_cleared p n w fs x a hears' agree' rest later some
    ]

silent_first : (p : ℕ) (x : LspId) (f : ℕ × List ℕ) (o n : Option Entry) → FirstLeaves p x f o n → (f.0 ≡ p → (l : LspValue) → parsed f.1 ≡ parsing.lsp l → l.id ≢ x) → has (ssn_in o) p ≡ false → has (ssn_in n) p ≡ false
silent_first p x f o n (beside apart same) lacking off = same.ssn ∙ off
silent_first p x f o n (here is leaves) lacking off = leaves.silent (lacking is) off

pub nothing_is_asked : NothingIsAsked
nothing_is_asked p n v [] x hears agree lacking off = off
nothing_is_asked p n v (f ∷ fs) x hears agree lacking off =
    let w : BridgeView = step (frame f.0 f.1) v in
    nothing_is_asked p n w fs x (next_hears p n f fs v hears) (next_agree p x f fs v hears.sound agree) (all_later (λ bytes. (l : LspValue) → parsed bytes ≡ parsing.lsp l → l.id ≢ x) (f.0 == p) f.1 (frames_at p fs) lacking)
    (silent_first p x f (get v.database x) (get w.database x) (first_leaves p n x f fs v hears agree)
    (λ is. all_first (λ bytes. (l : LspValue) → parsed bytes ≡ parsing.lsp l → l.id ≢ x) (f.0 == p) f.1 (frames_at p fs) (eq-eqb f.0 p is) lacking) off)

-- what is to be acknowledged stays so
ssn_first : (p : ℕ) (x : LspId) (f : ℕ × List ℕ) (o n : Option Entry) → FirstLeaves p x f o n → has (ssn_in o) p ≡ true → has (ssn_in n) p ≡ true
ssn_first p x f o n (beside apart same) on = same.ssn ∙ on
ssn_first p x f o n (here is leaves) on = leaves.ssn_stays on

pub stays_acked : (p : ℕ) (n : End) (v : BridgeView) (fs : Inbox) (x : LspId) → HearsAt p n fs v → ClaimsAgree p x fs v → HasSsn v x p → HasSsn (heard_all fs v) x p
stays_acked p n v [] x hears agree on = on
stays_acked p n v (f ∷ fs) x hears agree on =
    let w : BridgeView = step (frame f.0 f.1) v in
    stays_acked p n w fs x (next_hears p n f fs v hears) (next_agree p x f fs v hears.sound agree) (ssn_first p x f (get v.database x) (get w.database x) (first_leaves p n x f fs v hears agree) on)

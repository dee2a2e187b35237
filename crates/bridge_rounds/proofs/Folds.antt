-- What holds of a bridge after all frames of a round: what each of them keeps, and what one of them brings. And which
-- claims come at a port.
use Rattle.std.proofs.Common.{◌≡◌, ◌⊎◌, inl, inr, ℕ, zero, suc, Bool, true, false, List, [], ◌∷◌, refl, sym, subst, arith}
use Rattle.std.specs.Prelude.{◌++◌, ◌==◌, flat_map, Contains, if◌then◌else◌}
use Rattle.std.proofs.lemmas.Bool.{eq-eqb, eqb-true}
use Rattle.spb_types.specs.declared.address.LspId.{LspId}
use Rattle.lsdb.specs.declared.version.Version.{Version}
use Rattle.lsdb.specs.Certificate.{Claim, IsClaimed}
use Rattle.bridge_api.specs.View.{BridgeView}
use Rattle.bridge_api.specs.Parsing.{parsed}
use Rattle.bridge_api.specs.Step.{frame, step, frames_at}
use Rattle.bridge_api.specs.Laws.{IsSent, claims_said}
use Rattle.bridge_rounds.specs.Inbox.{Inbox, heard_all, claims_at}
use Rattle.bridge_rounds.specs.Mail.{HoldsOn}

-- ---- the two folds

-- what each of the frames keeps holds throughout, and so after all
pub mail_holds : (P : BridgeView → Type 0) (fs : Inbox) (v : BridgeView) → ((p : ℕ) (bytes : List ℕ) (u : BridgeView) → IsSent fs p bytes → P u → P (step (frame p bytes) u)) → P v → HoldsOn P fs v × P (heard_all fs v)
mail_holds P [] v keeps was = (was, was)
mail_holds P (f ∷ fs) v keeps was =
    let rest = mail_holds P fs (step (frame f.0 f.1) v) (λ p bytes u sent. keeps p bytes u (inr sent)) (keeps f.0 f.1 v (inl (refl, refl)) was) in
    ((was, rest.0), rest.1)

pub mail_keeps : (P : BridgeView → Type 0) (fs : Inbox) (v : BridgeView) → ((p : ℕ) (bytes : List ℕ) (u : BridgeView) → IsSent fs p bytes → P u → P (step (frame p bytes) u)) → P v → P (heard_all fs v)
mail_keeps P fs v keeps was = (mail_holds P fs v keeps was).1

-- what follows from what holds at each moment, and two things that hold at each
pub holds_so : (P Q : BridgeView → Type 0) (fs : Inbox) (v : BridgeView) → ((u : BridgeView) → P u → Q u) → HoldsOn P fs v → HoldsOn Q fs v
holds_so P Q [] v so holds = so v holds
holds_so P Q (f ∷ fs) v so holds = (so v holds.0, holds_so P Q fs (step (frame f.0 f.1) v) so holds.1)

pub both_hold : (P Q : BridgeView → Type 0) (fs : Inbox) (v : BridgeView) → HoldsOn P fs v → HoldsOn Q fs v → HoldsOn (λ u. P u × Q u) fs v
both_hold P Q [] v first second = (first, second)
both_hold P Q (f ∷ fs) v first second = ((first.0, second.0), both_hold P Q fs (step (frame f.0 f.1) v) first.1 second.1)

-- what one of the frames brings, where something else holds throughout, and what each frame keeps then, holds after all
pub mail_brings : (Q P : BridgeView → Type 0) (fs : Inbox) (v : BridgeView) (p : ℕ) (bytes : List ℕ) → IsSent fs p bytes → HoldsOn Q fs v
    → ((u : BridgeView) → Q u → P (step (frame p bytes) u))
    → ((q : ℕ) (other : List ℕ) (u : BridgeView) → IsSent fs q other → Q u → P u → P (step (frame q other) u)) → P (heard_all fs v)
mail_brings Q P [] v p bytes sent holds brings keeps = absurd sent
mail_brings Q P (f ∷ fs) v p bytes (inr sent) holds brings keeps =
    mail_brings Q P fs (step (frame f.0 f.1) v) p bytes sent holds.1 brings (λ q other u there. keeps q other u (inr there))
mail_brings Q P (f ∷ fs) v p bytes (inl here) holds brings keeps =
    let brought : P (step (frame f.0 f.1) v) = subst (λ (q : ℕ). P (step (frame q f.1) v)) (sym here.0) (subst (λ (b : List ℕ). P (step (frame p b) v)) (sym here.1) (brings v holds.0)) in
    mail_then fs (step (frame f.0 f.1) v) holds.1 (λ q other u there. keeps q other u (inr there)) brought
  where
    mail_then : (gs : Inbox) (u : BridgeView) → HoldsOn Q gs u → ((q : ℕ) (other : List ℕ) (x : BridgeView) → IsSent gs q other → Q x → P x → P (step (frame q other) x)) → P u → P (heard_all gs u)
    mail_then [] u holds keeps was = was
    mail_then (g ∷ gs) u holds keeps was = mail_then gs (step (frame g.0 g.1) u) holds.1 (λ q other x there. keeps q other x (inr there)) (keeps g.0 g.1 u (inl (refl, refl)) holds.0 was)

-- ---- the frames at a port

first_at : (b : Bool) (bytes : List ℕ) (fs : List (List ℕ)) (f : List ℕ) → Contains (if b then f ∷ fs else fs) bytes → ((b ≡ true) × (f ≡ bytes)) ⊎ Contains fs bytes
first_at false bytes fs f there = inr there
first_at true bytes fs f (zero, low, is) = inl (refl, is)
first_at true bytes fs f (suc k, low, is) = inr (k, omega (arith, low), is)

-- a frame at a port is one of the frames
pub at_port : (p : ℕ) (fs : Inbox) (bytes : List ℕ) → Contains (frames_at p fs) bytes → IsSent fs p bytes
at_port p [] bytes (k, low, is) = absurd (omega (arith, low))
at_port p (f ∷ fs) bytes there =
    elim (first_at (f.0 == p) bytes (frames_at p fs) f.1 there) [
      | inl here ↦ inl (eqb-true f.0 p here.0, here.1)
      | inr later ↦ inr (at_port p fs bytes later)
    ]

-- ---- claims

claimed_left : (claims more : List Claim) (id : LspId) (a : Version) → IsClaimed claims id a → IsClaimed (claims ++ more) id a
claimed_left [] more id a claimed = absurd claimed
claimed_left (c ∷ claims) more id a (inl here) = inl here
claimed_left (c ∷ claims) more id a (inr there) = inr (claimed_left claims more id a there)

claimed_right : (claims more : List Claim) (id : LspId) (a : Version) → IsClaimed more id a → IsClaimed (claims ++ more) id a
claimed_right [] more id a claimed = claimed
claimed_right (c ∷ claims) more id a claimed = inr (claimed_right claims more id a claimed)

claimed_either : (claims more : List Claim) (id : LspId) (a : Version) → IsClaimed (claims ++ more) id a → IsClaimed claims id a ⊎ IsClaimed more id a
claimed_either [] more id a claimed = inr claimed
claimed_either (c ∷ claims) more id a (inl here) = inl (inl here)
claimed_either (c ∷ claims) more id a (inr there) =
    elim (claimed_either claims more id a there) [
      | inl left ↦ inl (inr left)
      | inr right ↦ inr right
    ]

abbrev claims_in_all : List (List ℕ) → List Claim
claims_in_all frames = flat_map (λ bytes. claims_said (parsed bytes)) frames

-- what a frame claims is claimed at its port, and so is what later ones claim
first_said : (b : Bool) (bytes : List ℕ) (frames : List (List ℕ)) (id : LspId) (a : Version) → b ≡ true → IsClaimed (claims_said (parsed bytes)) id a → IsClaimed (claims_in_all (if b then bytes ∷ frames else frames)) id a
first_said true bytes frames id a is claimed = claimed_left (claims_said (parsed bytes)) (claims_in_all frames) id a claimed
first_said false bytes frames id a is claimed = absurd cc

later_said : (b : Bool) (bytes : List ℕ) (frames : List (List ℕ)) (id : LspId) (a : Version) → IsClaimed (claims_in_all frames) id a → IsClaimed (claims_in_all (if b then bytes ∷ frames else frames)) id a
later_said true bytes frames id a claimed = claimed_right (claims_said (parsed bytes)) (claims_in_all frames) id a claimed
later_said false bytes frames id a claimed = claimed

pub claim_first : (f : ℕ × List ℕ) (fs : Inbox) (p : ℕ) (id : LspId) (a : Version) → f.0 ≡ p → IsClaimed (claims_said (parsed f.1)) id a → IsClaimed (claims_at p (f ∷ fs)) id a
claim_first f fs p id a here claimed = first_said (f.0 == p) f.1 (frames_at p fs) id a (eq-eqb f.0 p here) claimed

pub claim_later : (f : ℕ × List ℕ) (fs : Inbox) (p : ℕ) (id : LspId) (a : Version) → IsClaimed (claims_at p fs) id a → IsClaimed (claims_at p (f ∷ fs)) id a
claim_later f fs p id a claimed = later_said (f.0 == p) f.1 (frames_at p fs) id a claimed

pub claim_at : (fs : Inbox) (p : ℕ) (bytes : List ℕ) (id : LspId) (a : Version) → IsSent fs p bytes → IsClaimed (claims_said (parsed bytes)) id a → IsClaimed (claims_at p fs) id a
claim_at [] p bytes id a sent claimed = absurd sent
claim_at (f ∷ fs) p bytes id a (inl here) claimed = claim_first f fs p id a here.0 (subst (λ (b : List ℕ). IsClaimed (claims_said (parsed b)) id a) (sym here.1) claimed)
claim_at (f ∷ fs) p bytes id a (inr there) claimed = claim_later f fs p id a (claim_at fs p bytes id a there claimed)

-- what is claimed at a port is claimed in a frame there
pub record Claims (fs : Inbox) (p : ℕ) (id : LspId) (a : Version) : Type 0 where
  pub bytes : List ℕ
  pub sent : IsSent fs p bytes
  pub claimed : IsClaimed (claims_said (parsed bytes)) id a

claims_of : (b : Bool) (f : ℕ × List ℕ) (fs : Inbox) (p : ℕ) (id : LspId) (a : Version) → (f.0 == p) ≡ b → (IsClaimed (claims_at p fs) id a → Claims fs p id a) → IsClaimed (claims_in_all (if b then f.1 ∷ frames_at p fs else frames_at p fs)) id a
    → Claims (f ∷ fs) p id a
claims_of false f fs p id a is rest claimed = let there = rest claimed in record { bytes = there.bytes; sent = inr there.sent; claimed = there.claimed }
claims_of true f fs p id a is rest claimed =
    elim (claimed_either (claims_said (parsed f.1)) (claims_at p fs) id a claimed) [
      | inl here ↦ record { bytes = f.1; sent = inl (eqb-true f.0 p is, refl); claimed = here }
      | inr later ↦ let there = rest later in record { bytes = there.bytes; sent = inr there.sent; claimed = there.claimed }
    ]

pub claim_comes : (fs : Inbox) (p : ℕ) (id : LspId) (a : Version) → IsClaimed (claims_at p fs) id a → Claims fs p id a
claim_comes [] p id a claimed = absurd claimed
claim_comes (f ∷ fs) p id a claimed = claims_of (f.0 == p) f fs p id a refl (λ later. claim_comes fs p id a later) claimed

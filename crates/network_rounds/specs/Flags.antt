-- What three rounds make of the flags of a network whose bridges come to hold the same: nobody has anything to send or
-- to acknowledge any more.
use Rattle.std.specs.Prelude.{◌≡◌, ℕ, ◌≤◌, List, length, true, Some, slice_get}
use Rattle.spb_types.specs.declared.address.LspId.{LspId}
use Rattle.spb_types.specs.declared.link.Dir.{Dir}
use Rattle.lsdb.specs.Version.{IsAtMost}
use Rattle.lsdb.specs.Database.{version_at}
use Rattle.bridge_api.specs.View.{BridgeView}
use Rattle.bridge_api.specs.Step.{second, step}
use Rattle.bridge_rounds.specs.Inbox.{Inbox, IsMail, HoldsWithin}
use Rattle.bridge_rounds.specs.LinkFrames.{ComesOver}
use Rattle.spb_world.specs.declared.declaration.DeclaredLink.{DeclaredLink}
use Rattle.spb_world.specs.Links.{near_end, far_end}
use Rattle.network_model.specs.State.{State, links_of}
use Rattle.network_model.specs.Sound.{IsSoundState}
use Rattle.network_model.specs.Quiet.{HaveNoFlags}
use Rattle.network_rounds.specs.Rounds.{IsHeardRound}
use Rattle.network_rounds.specs.Steady.{inbox_of, HaveNoneDue}

-- something holds of the bridges at the two ends of each direction of each link that is up
abbrev pub OverLinks : (DeclaredLink → Dir → BridgeView → BridgeView → Type 0) → State → Type 0
OverLinks P s = (k : ℕ) (dir : Dir) (l : DeclaredLink) (v w : BridgeView) → slice_get (links_of s) k ≡ Some l
    → l.live ≡ true → slice_get s.views (near_end dir l).bridge ≡ Some v
    → slice_get s.views (far_end dir l).bridge ≡ Some w → P l dir v w

-- in the next round all comes over each link that is sent there, and seconds change lifetimes alone
abbrev pub AllComesOver : State → Type 0
AllComesOver s = OverLinks (λ l dir v w. ComesOver v (near_end dir l).port w (far_end dir l).port
    (inbox_of s (far_end dir l).bridge)) s

-- both ends of each link hold the same, and of its own system no bridge holds an older LSP than its neighbours
abbrev pub NeighboursAgree : State → Type 0
NeighboursAgree s = OverLinks (λ l dir v w. (id : LspId) → version_at v.database id ≡ version_at w.database id) s

abbrev pub NeighboursAreBehind : State → Type 0
NeighboursAreBehind s = OverLinks (λ l dir v w. (id : LspId) → id.system ≡ w.id.system
    → IsAtMost (version_at v.database id) (version_at w.database id)) s

-- a bridge holds, and hears in the next round, of few ids alone
pub record HearsOfFew (v : BridgeView) (fs : Inbox) : Type 0 where
  pub ids : List LspId
  pub few : length ids ≤ 900
  pub within : HoldsWithin ids (step second v)
  pub mail : IsMail ids (step second v) fs

abbrev pub AllHearOfFew : State → Type 0
AllHearOfFew s = (i : ℕ) (v : BridgeView) → slice_get s.views i ≡ Some v → HearsOfFew v (inbox_of s i)

-- no bridge holds another version than before
abbrev pub VersionsStand : State → State → Type 0
VersionsStand s t = (i : ℕ) (v w : BridgeView) (id : LspId) → slice_get s.views i ≡ Some v
    → slice_get t.views i ≡ Some w → version_at w.database id ≡ version_at v.database id

-- a round in which all comes over the links, between sound states
pub record IsWholeRound (s t : State) : Type 0 where
  pub sound : IsSoundState s
  pub heard : IsHeardRound s t
  pub comes : AllComesOver s

-- three such rounds: after the first, neighbours hold the same, and the others leave it; and CSNPs are due nowhere
pub record FallSilent (s r t u : State) : Type 0 where
  pub first : IsWholeRound s r
  pub next : IsWholeRound r t
  pub last : IsWholeRound t u
  pub sound : IsSoundState u
  pub few : AllHearOfFew s
  pub behind : NeighboursAreBehind s
  pub agree : NeighboursAgree r
  pub stand : VersionsStand r t
  pub stand_still : VersionsStand t u
  pub undue : HaveNoneDue u

-- then no bridge has a flag
abbrev pub FlagsFall : Type 0
FlagsFall = (s r t u : State) → FallSilent s r t u → HaveNoFlags u

-- What a round is for one bridge: a second, and then the frames that come to it, one after another.
use Rattle.std.specs.Prelude.{◌≡◌, ◌≢◌, ℕ, List, [], ◌∷◌, flat_map, true, false, Some, Contains, ⊤}
use Rattle.std.specs.List.{AllByRecursion}
use Rattle.std.specs.FinMap.{get}
use Rattle.spb_types.specs.declared.address.LspId.{LspId}
use Rattle.lsdb.specs.declared.version.Version.{Version}
use Rattle.lsdb.specs.declared.version.Version.TheVariants.{Absent}
use Rattle.lsdb.specs.Entry.{Entry}
use Rattle.lsdb.specs.Certificate.{Claim, IsClaimed}
use Rattle.adjacency.specs.Hearing.{End}
use Rattle.bridge_api.specs.View.{BridgeView, IsPort, neighbour_at, is_up_at}
use Rattle.bridge_api.specs.Own.{body_at}
use Rattle.bridge_api.specs.Parsing.{parsed, is_carrying}
use Rattle.bridge_api.specs.Laws.{claims_said}
use Rattle.bridge_api.specs.Step.{second, frame, step, frames_at}

-- the frames that come to a bridge in a round, each with the number of its port, in order
abbrev pub Inbox : Type 0
Inbox = List (ℕ × List ℕ)

-- a bridge after them
abbrev pub heard_all : Inbox → BridgeView → BridgeView
heard_all [] v = v
heard_all (f ∷ fs) v = heard_all fs (step (frame f.0 f.1) v)

-- a bridge after a round: a second, and then what comes
abbrev pub after_round : Inbox → BridgeView → BridgeView
after_round fs v = heard_all fs (step second v)

-- what is claimed in those of the frames that come at a port
abbrev pub claims_at : ℕ → Inbox → List Claim
claims_at p fs = flat_map (λ bytes. claims_said (parsed bytes)) (frames_at p fs)

-- a port is Up with this neighbour, and stays so after each of the frames. (That it is Up alone wouldn't do: a hello of
-- another neighbour leaves Up and enters it again in one step)
abbrev pub StaysUp : ℕ → End → Inbox → BridgeView → Type 0
StaysUp p n [] v = (is_up_at v p ≡ true) × (neighbour_at v p ≡ Some n)
StaysUp p n (f ∷ fs) v = (is_up_at v p ≡ true) × (neighbour_at v p ≡ Some n) × StaysUp p n fs (step (frame f.0 f.1) v)

-- what the bridge has to say in each of its LSPs stays the same
abbrev pub SaysTheSameOn : Inbox → BridgeView → Type 0
SaysTheSameOn [] v = ⊤
SaysTheSameOn (f ∷ fs) v = ((number : ℕ) → body_at (step (frame f.0 f.1) v) number ≡ body_at v number)
    × SaysTheSameOn fs (step (frame f.0 f.1) v)

-- the frames come at ports of the bridge, carry no customer's frame, and tell of ids of a list alone
pub record IsMail (ids : List LspId) (v : BridgeView) (fs : Inbox) : Type 0 where
  pub ports : AllByRecursion (λ f. IsPort v f.0) fs
  pub control : AllByRecursion (λ f. is_carrying (parsed f.1) ≡ false) fs
  pub known : (p : ℕ) (id : LspId) (a : Version) → IsClaimed (claims_at p fs) id a → a ≢ Absent → Contains ids id

-- a bridge holds LSPs of these ids alone
abbrev pub HoldsWithin : List LspId → BridgeView → Type 0
HoldsWithin ids v = (id : LspId) (e : Entry) → get v.database id ≡ Some e → Contains ids id

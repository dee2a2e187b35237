-- How far the sequence numbers of LSPs rise in a network (ISO/IEC 10589, 7.3.16). They are within an allowance, which
-- each round and each command raises a little, and nothing else does. It has room too for each hello on its way, by
-- which a number may rise when it is heard, however many commands later.
use Rattle.std.specs.Prelude.{◌≡◌, ◌⊎◌, ℕ, ◌+◌, ◌*◌, ◌≤◌, ◌<◌, List, [], ◌∷◌, false, ◌==◌, if◌then◌else◌, Some, slice_get}
use Rattle.std.specs.List.{AllByRecursion}
use Rattle.std.specs.FinMap.{get}
use Rattle.spb_types.specs.declared.address.LspId.{LspId}
use Rattle.spb_types.specs.declared.limits.TheConstants.{MOST_ROUNDS}
use Rattle.spb_types.specs.declared.link.Dir.{Dir}
use Rattle.spb_types.specs.declared.link.Dir.TheVariants.{Ab, Ba}
use Rattle.link_model.specs.declared.lanes.LinkLanes.{LinkLanes}
use Rattle.link_model.specs.Lane.{Frame, IsIn}
use Rattle.link_model.specs.Lanes.{lane_in, lane_of}
use Rattle.lsdb.specs.declared.version.Version.{Version}
use Rattle.lsdb.specs.Entry.{Entry}
use Rattle.lsdb.specs.Version.{number_of}
use Rattle.lsdb.specs.Database.{version_at}
use Rattle.lsdb.specs.Certificate.{IsClaimed}
use Rattle.flooding.specs.Own.{IsOwnNumber}
use Rattle.bridge_api.specs.View.{BridgeView}
use Rattle.bridge_api.specs.Parsing.{parsed, is_hello}
use Rattle.bridge_api.specs.Laws.{claims_said}
use Rattle.spb_world.specs.declared.declaration.DeclaredBridge.{DeclaredBridge}
use Rattle.spb_world.specs.declared.declaration.DeclaredLink.{DeclaredLink}
use Rattle.spb_world.specs.World.{Bridges, things_of}
use Rattle.network_model.specs.State.{State, links_of}
pub use Rattle.network_model.specs.Copies.{IsCopy, is_held, is_said}
use Rattle.network_model.specs.Copies.{HaveOrigins}
use Rattle.spb_world.specs.Links.{far_end}

-- ---- bounds on the copies of an LSP

-- no copy has a number above this one
abbrev pub IsWeak : List BridgeView → List LinkLanes → LspId → ℕ → Type 0
IsWeak views lanes id most = (a : Version) → IsCopy views lanes id a → number_of a ≤ most

-- and each copy that has it is of the version that this bridge holds
abbrev pub IsBound : List BridgeView → List LinkLanes → BridgeView → LspId → ℕ → Type 0
IsBound views lanes v id most = (a : Version) → IsCopy views lanes id a
    → (number_of a < most) ⊎ ((number_of a ≡ most) × (a ≡ version_at v.database id))

-- ---- the hellos on their way

abbrev pub hellos_in : List Frame → ℕ
hellos_in [] = 0
hellos_in (f ∷ fs) = (if is_hello f then 1 else 0) + hellos_in fs

-- to the bridge at place i, in a direction of a link
abbrev pub hellos_along : Dir → DeclaredLink → LinkLanes → ℕ → ℕ
hellos_along dir l lanes i = if (far_end dir l).bridge == i then hellos_in (lane_in dir lanes) else 0

abbrev pub hellos_over : DeclaredLink → LinkLanes → ℕ → ℕ
hellos_over l lanes i = hellos_along Ab l lanes i + hellos_along Ba l lanes i

-- over all links
abbrev pub hellos_to : List DeclaredLink → List LinkLanes → ℕ → ℕ
hellos_to [] lanes i = 0
hellos_to (l ∷ ls) [] i = 0
hellos_to (l ∷ ls) (x ∷ xs) i = hellos_over l x i + hellos_to ls xs i

-- ---- what holds at every moment

-- an id that a declared bridge originates
pub record IsOwnOf (bridges : Bridges) (id : LspId) : Type 0 where
  pub place : ℕ
  pub bridge : DeclaredBridge
  pub there : slice_get (things_of bridges) place ≡ Some bridge
  pub own : IsOwnNumber bridge.bridge.id.system id

-- the numbers of an id that the bridge at place i originates are bound, so that together with the hellos that are on
-- their way there, each of which may make it originate once more, they are within an allowance
pub record IsWithin (s : State) (i : ℕ) (v : BridgeView) (id : LspId) (allowance : ℕ) : Type 0 where
  pub most : ℕ
  pub bound : IsBound s.views s.lanes v id most
  pub room : most + hellos_to (links_of s) s.lanes i ≤ allowance

-- no bridge has spent its numbers, none but declared bridges' ids are held or claimed, what is held or on its way of
-- each stems from the one that originates it, and the numbers of each are within an allowance
pub record IsCountedBy (allowance : ℕ) (s : State) : Type 0 where
  pub fresh : AllByRecursion (λ v. v.spent ≡ false) s.views
  pub held : (i : ℕ) (v : BridgeView) (id : LspId) (e : Entry) → slice_get s.views i ≡ Some v
      → get v.database id ≡ Some e → IsOwnOf s.world.bridges id
  pub said : (k : ℕ) (dir : Dir) (bytes : Frame) (id : LspId) (a : Version) → IsIn bytes (lane_of s.lanes k dir)
      → IsClaimed (claims_said (parsed bytes)) id a → IsOwnOf s.world.bridges id
  pub origins : HaveOrigins s
  pub bound : (i : ℕ) (v : BridgeView) (id : LspId) → slice_get s.views i ≡ Some v → IsOwnNumber v.id.system id
      → IsWithin s i v id allowance

-- so many accepted commands are counted; a script has at most 100,000 lines
abbrev pub most_commands : ℕ
most_commands = 120000

-- the allowance of all rounds and commands so far: no number is above 128 for each round and 2 for each command. That
-- bounds the sum, and not what one command does: in one `drain` a number can rise once for each hello that is heard,
-- which earlier commands sent
abbrev pub allowance_of : State → ℕ
allowance_of s = 128 * s.rounds + 2 * s.accepted

-- no more rounds were asked for than a script may ask for, and the numbers are within what these and the commands allow
pub record IsCounted (s : State) : Type 0 where
  pub rounds : s.rounds ≤ MOST_ROUNDS
  pub by : IsCountedBy (allowance_of s) s

-- What one frame that comes to a bridge does: it moves nothing on where it carries no customer's frame, changes no
-- adjacency but by a hello, and leaves lifetimes but of what it brings. And what each step keeps.
use Rattle.std.specs.Prelude.{◌≡◌, ◌≢◌, ◌⊎◌, ℕ, List, [], Bool, true, false, Option, Some, IsSome}
use Rattle.std.specs.FinMap.{get}
use Rattle.spb_types.specs.declared.address.LspId.{LspId}
use Rattle.isis_pdu.specs.Pdu.{LspValue}
use Rattle.lsdb.specs.declared.version.Version.{Version}
use Rattle.lsdb.specs.declared.version.Version.TheVariants.{Absent}
use Rattle.lsdb.specs.Entry.{Entry}
use Rattle.lsdb.specs.Database.{version_in}
use Rattle.lsdb.specs.Time.{lifetime_in, is_live}
use Rattle.lsdb.specs.Certificate.{IsClaimed}
use Rattle.flooding.specs.Hearing.{claim_of}
use Rattle.flooding.specs.declared.origination.TheConstants.{MAX_AGE}
use Rattle.bridge_api.specs.View.{BridgeView, adjacency_at}
use Rattle.bridge_api.specs.Parsing.{parsed, is_carrying}
use Rattle.bridge_api.specs.Step.{Input, second, frame, carrier, metric, attach, detach, customer, step, sent, left_by}
use Rattle.bridge_api.specs.Laws.{IsSoundView, claims_of}
use Rattle.bridge_api.specs.Time.{IsSilentAt}
use Rattle.bridge_laws.specs.Counting.{lsp_said}

-- ---- one frame

-- a frame that carries no customer's frame makes the bridge send nothing at once, and lets nothing out
abbrev pub ControlIsSilent : Type 0
ControlIsSilent = (v : BridgeView) (p : ℕ) (bytes : List ℕ) → is_carrying (parsed bytes) ≡ false
    → (sent (frame p bytes) v ≡ []) × (left_by (frame p bytes) v ≡ [])

-- a frame at another port, or that isn't taken for a hello, leaves the adjacency at a port
abbrev pub FramesAreSilent : Type 0
FramesAreSilent = (v : BridgeView) (p q : ℕ) (bytes : List ℕ) → IsSilentAt p (frame q bytes)
    → adjacency_at (step (frame q bytes) v) p ≡ adjacency_at v p

-- what stands under an id after a frame: version and lifetime stay, or are those of the LSP that came in; or it is an
-- own LSP that was just originated, or isn't live (ISO/IEC 10589, 7.3.15.1, 7.3.16.1 and 7.3.16.2)
pub data LivedAt (lsp : Option LspValue) (id : LspId) (old new : Option Entry) : Type 0 where
  keeps : version_in new ≡ version_in old → lifetime_in new ≡ lifetime_in old → LivedAt lsp id old new
  stores : (l : LspValue) → lsp ≡ Some l → l.id ≡ id → version_in new ≡ (claim_of l).version
      → lifetime_in new ≡ l.lifetime → LivedAt lsp id old new
  renews : lifetime_in new ≡ MAX_AGE → LivedAt lsp id old new
  ends : is_live (version_in new) ≡ false → LivedAt lsp id old new

-- so it is under each id
abbrev pub FramesKeepLiving : Type 0
FramesKeepLiving = (v : BridgeView) (p : ℕ) (bytes : List ℕ) (id : LspId)
    → LivedAt (lsp_said (parsed bytes)) id (get v.database id) (get (step (frame p bytes) v).database id)

-- ---- each step

-- a second, or a frame at a backbone port: what a round is made of
abbrev pub is_of_round : Input → Bool
is_of_round second = true
is_of_round (frame p bytes) = true
is_of_round (carrier p on) = false
is_of_round (metric p m) = false
is_of_round (attach a) = false
is_of_round (detach p) = false
is_of_round (customer p bytes) = false

-- what is held after such a step was held before, or a version of it was claimed in what came in. What is claimed as
-- absent brings no id
abbrev pub RoundsHoldIds : Type 0
RoundsHoldIds = (input : Input) (v : BridgeView) (id : LspId) (e : Entry) → IsSoundView v → is_of_round input ≡ true
    → get (step input v).database id ≡ Some e
    → IsSome (get v.database id) ⊎ ((a : Version) × (IsClaimed (claims_of input) id a × (a ≢ Absent)))

-- where the sequence numbers of a bridge are spent, they stay so, whatever comes to it
abbrev pub SpentStays : Type 0
SpentStays = (input : Input) (v : BridgeView) → v.spent ≡ true → (step input v).spent ≡ true

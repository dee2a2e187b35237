-- How far sequence numbers rise in a step of a bridge: of what other systems originate, no further than is heard; of
-- what it originates itself, by what it answers and by what it has to say (ISO/IEC 10589, 7.3.7, 7.3.15 and 7.3.16).
use Rattle.std.specs.Prelude.{◌≡◌, ◌≢◌, ◌⊎◌, ℕ, ◌+◌, ◌≤◌, ◌<◌, List, Bool, true, false, not, if◌then◌else◌, Option, Some, None, IsSome}
use Rattle.std.specs.FinMap.{get}
use Rattle.spb_types.specs.declared.address.LspId.{LspId}
use Rattle.isis_pdu.specs.Pdu.{LspValue}
use Rattle.lsdb.specs.declared.version.Version.{Version}
use Rattle.lsdb.specs.declared.version.Version.TheVariants.{Dead}
use Rattle.lsdb.specs.Version.{number_of}
use Rattle.lsdb.specs.Entry.{Entry, body_at}
use Rattle.lsdb.specs.Database.{version_in, version_at}
use Rattle.lsdb.specs.Certificate.{Claim, IsClaimed}
use Rattle.flooding.specs.Own.{last_number, body_in, IsOwnNumber}
use Rattle.flooding.specs.Hearing.{claim_of, body_of}
use Rattle.bridge_api.specs.declared.config.BridgeConfig.{BridgeConfig}
use Rattle.bridge_api.specs.View.{BridgeView}
use Rattle.bridge_api.specs.Config.{IsWhole, first_life, configured}
use Rattle.bridge_api.specs.Parsing.{Parsed, parsed, is_hello}
use Rattle.bridge_api.specs.Parsing as parsing
use Rattle.bridge_api.specs.Step.{Input, second, frame, carrier, metric, attach, detach, customer, step}
use Rattle.bridge_api.specs.Laws.{IsSoundView, claims_of}

-- ---- which ids are held

-- an id that is held after a step was held before, was claimed in what came in, or is an own one
abbrev pub StepsHoldIds : Type 0
StepsHoldIds = (input : Input) (v : BridgeView) (id : LspId) (e : Entry) → get (step input v).database id ≡ Some e
    → IsSome (get v.database id) ⊎ (((a : Version) × IsClaimed (claims_of input) id a) ⊎ IsOwnNumber v.id.system id)

-- ---- LSPs of other systems

-- the LSP that a frame was taken for
abbrev pub lsp_said : Parsed → Option LspValue
lsp_said (parsing.dropped reason) = None
lsp_said (parsing.hello h way) = None
lsp_said (parsing.lsp l) = Some l
lsp_said (parsing.csnp c) = None
lsp_said (parsing.psnp s) = None
lsp_said (parsing.customer da sa vid isid payload) = None

abbrev pub lsp_of : Input → Option LspValue
lsp_of second = None
lsp_of (frame p bytes) = lsp_said (parsed bytes)
lsp_of (carrier p on) = None
lsp_of (metric p m) = None
lsp_of (attach a) = None
lsp_of (detach p) = None
lsp_of (customer p bytes) = None

-- what stands under an id after these claims, and this LSP if one came in: version and body stay; or those of the LSP
-- are stored; or a version with the number of what was held is claimed that is another one, and it is dead at that
-- number. An entry of an SNP alone brings no version (ISO/IEC 10589, 7.3.15.1, 7.3.15.2 and 7.3.16.2)
pub data LearnedAt (claims : List Claim) (lsp : Option LspValue) (id : LspId) (old new : Option Entry) : Type 0 where
  stays : version_in new ≡ version_in old → body_in new ≡ body_in old → LearnedAt claims lsp id old new
  stores : (l : LspValue) → lsp ≡ Some l → l.id ≡ id → version_in new ≡ (claim_of l).version
      → body_in new ≡ body_at (claim_of l).version (body_of l) → LearnedAt claims lsp id old new
  joins : (a : Version) → IsClaimed claims id a → a ≢ version_in old → number_of a ≡ number_of (version_in old)
      → version_in new ≡ Dead (number_of a) → LearnedAt claims lsp id old new

-- so it is under each id of another system, whatever comes in but a second, of which `SecondsAge` tells
abbrev pub StepsLearn : Type 0
StepsLearn = (input : Input) (v : BridgeView) (id : LspId) → id.system ≢ v.id.system → input ≢ second
    → LearnedAt (claims_of input) (lsp_of input) id (get v.database id) (get (step input v).database id)

-- a version that is held under an id, or claimed of it
pub data IsKnown (held : Version) (claims : List Claim) (id : LspId) (a : Version) : Type 0 where
  is_held : a ≡ held → IsKnown held claims id a
  is_claimed : IsClaimed claims id a → IsKnown held claims id a

-- of versions alone: afterwards a known one stands, or the dead one at the number of two known ones that differ
pub data Learned (held : Version) (claims : List Claim) (id : LspId) (new : Version) : Type 0 where
  takes : IsKnown held claims id new → Learned held claims id new
  ends : (a b : Version) → IsKnown held claims id a → IsKnown held claims id b → a ≢ b → number_of a ≡ number_of b
      → new ≡ Dead (number_of a) → Learned held claims id new

abbrev pub StepsLearnVersions : Type 0
StepsLearnVersions = (input : Input) (v : BridgeView) (id : LspId) → id.system ≢ v.id.system → input ≢ second
    → Learned (version_at v.database id) (claims_of input) id (version_at (step input v).database id)

-- ---- the own LSPs

-- a bridge that isn't spent, with its own numbers and those that are claimed below the last one
pub record IsFar (input : Input) (v : BridgeView) : Type 0 where
  pub fresh : v.spent ≡ false
  pub own : (id : LspId) → IsOwnNumber v.id.system id → number_of (version_at v.database id) < last_number
  pub claims : (id : LspId) (a : Version) → IsClaimed (claims_of input) id a → number_of a < last_number

-- a frame that isn't taken for a hello. Nothing else claims anything
abbrev pub is_claiming : Input → Bool
is_claiming second = false
is_claiming (frame p bytes) = not (is_hello bytes)
is_claiming (carrier p on) = false
is_claiming (metric p m) = false
is_claiming (attach a) = false
is_claiming (detach p) = false
is_claiming (customer p bytes) = false

-- an own LSP after such a frame: its version stays; or a claim of it was answered that differs from what was held and
-- has no lower number, and it stands one number further than the claim at most (ISO/IEC 10589, 7.3.16.1)
pub data Answered (held : Version) (claims : List Claim) (id : LspId) (new : Version) : Type 0 where
  keeps : new ≡ held → Answered held claims id new
  answers : (a : Version) → IsClaimed claims id a → a ≢ held → number_of held ≤ number_of a
      → number_of new ≤ number_of a + 1 → Answered held claims id new

abbrev pub StepsAnswer : Type 0
StepsAnswer = (input : Input) (v : BridgeView) (id : LspId) → IsOwnNumber v.id.system id → IsSoundView v
    → IsFar input v → is_claiming input ≡ true
    → Answered (version_at v.database id) (claims_of input) id (version_at (step input v).database id)

-- how many numbers an own LSP goes further by anything else: it is originated once at most, and not by carrier that
-- comes, since that changes nothing of what the bridge has to say (ISO/IEC 10589, 7.3.7)
abbrev pub gain_of : Input → ℕ
gain_of second = 1
gain_of (frame p bytes) = if is_hello bytes then 1 else 0
gain_of (carrier p on) = if on then 0 else 1
gain_of (metric p m) = 1
gain_of (attach a) = 1
gain_of (detach p) = 1
gain_of (customer p bytes) = 0

abbrev pub StepsOriginate : Type 0
StepsOriginate = (input : Input) (v : BridgeView) (id : LspId) → IsOwnNumber v.id.system id → IsSoundView v
    → IsFar input v → is_claiming input ≡ false
    → number_of (version_at (step input v).database id) ≤ number_of (version_at v.database id) + gain_of input

-- and its sequence numbers aren't spent by anything
abbrev pub StepsDontSpend : Type 0
StepsDontSpend = (input : Input) (v : BridgeView) → IsSoundView v → IsFar input v → (step input v).spent ≡ false

-- a configured bridge in its first life is far from the last number, whatever comes in that claims none
abbrev pub ConfiguredIsFar : Type 0
ConfiguredIsFar = (c : BridgeConfig) (input : Input) → c.last ≡ first_life
    → ((id : LspId) (a : Version) → IsClaimed (claims_of input) id a → number_of a < last_number)
    → IsFar input (configured c)

-- and there is such a bridge, which is sound
pub record SomeIsFar : Type 0 where
  pub config : BridgeConfig
  pub whole : IsWhole config
  pub sound : IsSoundView (configured config)
  pub far : IsFar second (configured config)

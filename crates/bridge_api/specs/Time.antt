-- What time makes of a bridge: of its neighbours, of the LSPs that it holds, and of its own LSPs.
use Rattle.std.specs.Prelude.{◌≡◌, ◌≢◌, ◌⊎◌, ℕ, zero, suc, ◌+◌, ◌*◌, ◌≤◌, ◌<◌, true, false, ⊤, List, [], ◌∷◌, Option, Some, None}
use Rattle.std.specs.List.{AllByRecursion}
use Rattle.std.specs.FinMap.{get}
use Rattle.spb_types.specs.declared.address.LspId.{LspId}
use Rattle.spb_types.specs.declared.ports.PortSet.{PortSet}
use Rattle.lsdb.specs.declared.version.Version.TheVariants.{Live, Dead}
use Rattle.lsdb.specs.Version.{number_of}
use Rattle.lsdb.specs.Entry.{Entry}
use Rattle.lsdb.specs.Database.{version_in, version_at, srm_in}
use Rattle.lsdb.specs.Time.{lifetime_in, is_live}
use Rattle.flooding.specs.Own.{last_number, own_numbers, own_number, is_own_number, renewed}
use Rattle.adjacency.specs.declared.port.Adjacency.{Adjacency}
use Rattle.adjacency.specs.Hearing.{End}
use Rattle.adjacency.specs.Adjacency.{down, neighbour_of}
use Rattle.bridge_api.specs.declared.config.BridgeConfig.{BridgeConfig}
use Rattle.bridge_api.specs.View.{BridgeView, adjacency_at, neighbour_at, is_up_at, up_ports}
use Rattle.bridge_api.specs.Own.{body_at, own_entry, body_in}
use Rattle.bridge_api.specs.Config.{IsWhole, first_life, configured}
use Rattle.bridge_api.specs.Parsing.{parsed, hello_in}
use Rattle.bridge_api.specs.Step.{Input, second, frame, carrier, metric, attach, detach, customer, step}
use Rattle.bridge_api.specs.Laws.{IsSoundView}

-- a bridge so many seconds later, where nothing else comes to it
unfoldable pub seconds : ℕ → BridgeView → BridgeView
seconds zero v = v
seconds (suc n) v = step second (seconds n v)

-- ---- neighbours

-- nothing comes to the adjacency at a port: no frame there that is taken for a hello, and no change of carrier there
abbrev pub IsSilentAt : ℕ → Input → Type 0
IsSilentAt p second = ⊤
IsSilentAt p (frame q bytes) = q ≡ p → hello_in (parsed bytes) ≡ None
IsSilentAt p (carrier q on) = q ≢ p
IsSilentAt p (metric q m) = ⊤
IsSilentAt p (attach a) = ⊤
IsSilentAt p (detach q) = ⊤
IsSilentAt p (customer q bytes) = ⊤

-- a bridge after such inputs, of which the first comes first, and how many of them are seconds
abbrev pub steps : List Input → BridgeView → BridgeView
steps [] v = v
steps (input ∷ inputs) v = steps inputs (step input v)

abbrev pub seconds_in : List Input → ℕ
seconds_in [] = 0
seconds_in (second ∷ inputs) = seconds_in inputs + 1
seconds_in (frame q bytes ∷ inputs) = seconds_in inputs
seconds_in (carrier q on ∷ inputs) = seconds_in inputs
seconds_in (metric q m ∷ inputs) = seconds_in inputs
seconds_in (attach a ∷ inputs) = seconds_in inputs
seconds_in (detach q ∷ inputs) = seconds_in inputs
seconds_in (customer q bytes ∷ inputs) = seconds_in inputs

-- where nothing comes to it, a neighbour is kept, in the state that it is in, while some of its holding count is left
abbrev pub NeighboursAreKept : Type 0
NeighboursAreKept = (v : BridgeView) (p : ℕ) (a : Adjacency) (n : End) (inputs : List Input) (left : ℕ)
    → adjacency_at v p ≡ Some a → neighbour_of a ≡ Some n → AllByRecursion (IsSilentAt p) inputs
    → a.hold ≡ left + seconds_in inputs → 1 ≤ left → adjacency_at (steps inputs v) p ≡ Some (record a { hold = left })

-- a port that is Down, and so keeps nobody
pub record IsDown (v : BridgeView) (p : ℕ) : Type 0 where
  pub adjacency : adjacency_at v p ≡ Some (down true)
  pub neighbour : neighbour_at v p ≡ None
  pub state : is_up_at v p ≡ false

-- and is lost with the end of the count: from then on the port is Down
abbrev pub NeighboursAreLost : Type 0
NeighboursAreLost = (v : BridgeView) (p : ℕ) (a : Adjacency) (n : End) (inputs : List Input)
    → IsSoundView v → adjacency_at v p ≡ Some a → neighbour_of a ≡ Some n → AllByRecursion (IsSilentAt p) inputs
    → a.hold ≤ seconds_in inputs → IsDown (steps inputs v) p

-- a sound bridge that keeps a neighbour, so that this is said of something
pub record KeepsSomebody : Type 0 where
  pub view : BridgeView
  pub port : ℕ
  pub adjacency : Adjacency
  pub neighbour : End
  pub sound : IsSoundView view
  pub there : adjacency_at view port ≡ Some adjacency
  pub kept : neighbour_of adjacency ≡ Some neighbour

-- ---- LSPs

-- what stands under an id a second later: the same version and body, with a lifetime that is at most one lower; or, of
-- a live LSP in its last second, one that is dead at its number, its body the flags octet of level 1
pub data AgedFrom (old new : Option Entry) : Type 0 where
  stays : version_in new ≡ version_in old → body_in new ≡ body_in old
      → lifetime_in new ≤ lifetime_in old → lifetime_in old ≤ lifetime_in new + 1 → AgedFrom old new
  dies : is_live (version_in old) ≡ true → lifetime_in old ≤ 1
      → version_in new ≡ Dead (number_of (version_in old)) → body_in new ≡ 1 ∷ [] → AgedFrom old new

-- so it is under each id but the own numbers
abbrev pub SecondsAge : Type 0
SecondsAge = (v : BridgeView) (id : LspId) → is_own_number v.id.system id ≡ false
    → AgedFrom (get v.database id) (get (step second v).database id)

-- as it was, with so much of its lifetime left
pub record IsLasting (left : ℕ) (old new : Option Entry) : Type 0 where
  pub version : version_in new ≡ version_in old
  pub body : body_in new ≡ body_in old
  pub lifetime : lifetime_in new ≡ left

-- a live LSP that is no own one stays as it is while some of its lifetime is left
abbrev pub LspsLast : Type 0
LspsLast = (v : BridgeView) (id : LspId) (k left : ℕ) → is_own_number v.id.system id ≡ false
    → is_live (version_at v.database id) ≡ true → lifetime_in (get v.database id) ≡ left + k → 1 ≤ left
    → IsLasting left (get v.database id) (get (seconds k v).database id)

-- dead at a number: with no lifetime, its body the flags octet of level 1, and to be sent at every port of a set
pub record IsDead (seq : ℕ) (up : PortSet) (o : Option Entry) : Type 0 where
  pub version : version_in o ≡ Dead seq
  pub lifetime : lifetime_in o ≡ 0
  pub body : body_in o ≡ 1 ∷ []
  pub srm : srm_in o ≡ up

-- and is dead after its lifetime, to be sent at every port that is Up then
abbrev pub LspsExpire : Type 0
LspsExpire = (v : BridgeView) (id : LspId) (seq sum k : ℕ) → is_own_number v.id.system id ≡ false
    → version_at v.database id ≡ Live seq sum → lifetime_in (get v.database id) ≡ k + 1
    → IsDead seq (up_ports (seconds (k + 1) v)) (get (seconds (k + 1) v).database id)

-- ---- own LSPs

-- the sequence number of an own LSP
abbrev pub own_sequence_number : BridgeView → ℕ → ℕ
own_sequence_number v number = number_of (version_in (own_entry v number))

-- an own LSP was originated: it stands one number further, says this for 1,200 seconds, and is to be sent at every Up
-- port
abbrev pub IsRenewed : ℕ → List ℕ → BridgeView → BridgeView → Type 0
IsRenewed number body v w = own_entry w number
    ≡ Some (renewed (up_ports w) (own_number w.id.system number) body (own_sequence_number v number + 1))

-- a second after which the bridge has the same to say in an own LSP leaves it as it is while its lifetime is above 301
abbrev pub SecondsStandStill : Type 0
SecondsStandStill = (v : BridgeView) (number left : ℕ) (body : List ℕ) → IsSoundView v → v.spent ≡ false
    → number < own_numbers → body_at v number ≡ Some body → body_at (step second v) number ≡ Some body
    → lifetime_in (own_entry v number) ≡ left + 1 → 301 ≤ left
    → IsLasting left (own_entry v number) (own_entry (step second v) number)

-- an own LSP that is to be originated in the next second: the bridge then has this to say in it, and by now something
-- else, or 301 seconds of its lifetime are left, or less
pub record IsDue (v : BridgeView) (number : ℕ) (body : List ℕ) : Type 0 where
  pub below : number < own_numbers
  pub says : body_at (step second v) number ≡ Some body
  pub why : (lifetime_in (own_entry v number) ≤ 301) ⊎ (body_at v number ≢ Some body)

-- those of numbers below this one that are to be originated can go a number further
abbrev pub CanGoOn : BridgeView → ℕ → Type 0
CanGoOn v end = (number : ℕ) (body : List ℕ) → number < end → IsDue v number body
    → own_sequence_number v number < last_number

-- one that is to be originated is so, if it can go a number further, and those of lower numbers can
abbrev pub SecondsRenew : Type 0
SecondsRenew = (v : BridgeView) (number : ℕ) (body : List ℕ) → IsSoundView v → v.spent ≡ false
    → IsDue v number body → CanGoOn v (number + 1) → IsRenewed number body v (step second v)

-- and if all can, the sequence numbers aren't spent
abbrev pub SecondsStayUnspent : Type 0
SecondsStayUnspent = (v : BridgeView) → IsSoundView v → v.spent ≡ false → CanGoOn v own_numbers
    → (step second v).spent ≡ false

-- else they are, and the own LSP of the lowest number that can't is dead instead
pub record IsSpent (number : ℕ) (v w : BridgeView) : Type 0 where
  pub spent : w.spent ≡ true
  pub first : CanGoOn v number → IsDead (own_sequence_number v number) (up_ports w) (own_entry w number)

abbrev pub SecondsSpend : Type 0
SecondsSpend = (v : BridgeView) (number : ℕ) (body : List ℕ) → IsSoundView v → v.spent ≡ false
    → IsDue v number body → last_number ≤ own_sequence_number v number → IsSpent number v (step second v)

-- and from then on no second originates
abbrev pub SpentStandsStill : Type 0
SpentStandsStill = (v : BridgeView) (number : ℕ) → v.spent ≡ true
    → AgedFrom (own_entry v number) (own_entry (step second v) number) × ((step second v).spent ≡ true)

-- a bridge that has the same to say in an own LSP in each of so many seconds
abbrev pub SaysTheSame : ℕ → ℕ → BridgeView → Type 0
SaysTheSame k number v = (j : ℕ) → j ≤ k → body_at (seconds j v) number ≡ body_at v number

-- so that one stays as it is down to a lifetime of 301
abbrev pub OwnLspLasts : Type 0
OwnLspLasts = (v : BridgeView) (number k left : ℕ) (body : List ℕ) → IsSoundView v → v.spent ≡ false
    → number < own_numbers → body_at v number ≡ Some body → SaysTheSame k number v
    → lifetime_in (own_entry v number) ≡ left + k → 301 ≤ left
    → IsLasting left (own_entry v number) (own_entry (seconds k v) number)

-- and is originated anew in the second after, unless the sequence numbers are then spent
abbrev pub OwnLspIsRenewed : Type 0
OwnLspIsRenewed = (v : BridgeView) (number k : ℕ) (body new : List ℕ) → IsSoundView v → v.spent ≡ false
    → number < own_numbers → body_at v number ≡ Some body → SaysTheSame k number v
    → lifetime_in (own_entry v number) ≡ 301 + k → body_at (seconds (k + 1) v) number ≡ Some new
    → (seconds (k + 1) v).spent ≡ false → IsRenewed number new v (seconds (k + 1) v)

-- a bridge of which no port is Up
abbrev pub IsAlone : BridgeView → Type 0
IsAlone v = (p : ℕ) → is_up_at v p ≡ false

-- stays so by time alone, and has the same to say in each own LSP
abbrev pub AloneStaysAlone : Type 0
AloneStaysAlone = (v : BridgeView) (k : ℕ) → IsAlone v
    → IsAlone (seconds k v) × ((number : ℕ) → SaysTheSame k number v)

-- so a bridge just configured, in its first life, and left to itself originates every 900 seconds: after 900 j and
-- fewer than 900 seconds more, each own LSP in which it has something to say is at number j + 1, and what is left of
-- its lifetime is 1,200 less those seconds
pub record IsAtNumber (number seq left : ℕ) (v : BridgeView) : Type 0 where
  pub at : own_sequence_number v number ≡ seq
  pub lifetime : lifetime_in (own_entry v number) ≡ left
  pub spent : v.spent ≡ false

abbrev pub EveryNineHundred : Type 0
EveryNineHundred = (c : BridgeConfig) (number j k left : ℕ) (body : List ℕ) → IsWhole c → c.last ≡ first_life
    → number < own_numbers → body_at (configured c) number ≡ Some body → j < last_number → left + k ≡ 1200
    → 301 ≤ left
    → IsAtNumber number (j + 1) left (seconds (k + 900 * j) (configured c))

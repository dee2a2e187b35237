-- The own LSPs of a system: what the system originates, and how it answers a claim of one of its ids.
use Rattle.std.specs.Prelude.{◌≡◌, ◌<◌, ◌≤◌, ℕ, ◌+◌, List, [], ◌∷◌, length, Bool, true, ◌&&◌, not, ◌==◌, Option, Some, None, is_some, nat_lt, slice_get, if◌then◌else◌}
use Rattle.std.specs.Option.{option_and_then}
use Rattle.spb_types.specs.declared.address.SystemId.{SystemId}
use Rattle.spb_types.specs.declared.address.LspId.{LspId}
use Rattle.spb_types.specs.declared.ports.PortSet.{PortSet}
use Rattle.spb_types.specs.Address.{same_system}
use Rattle.isis_pdu.specs.Checksum.{lsp_sum_of}
use Rattle.lsdb.specs.declared.version.Version.TheVariants.{Live, Dead}
use Rattle.lsdb.specs.Entry.{Entry, flooded}
use Rattle.flooding.specs.declared.own.Own.{Own}
use Rattle.spb_types.specs.declared.level.TheConstants.{LEVEL_1}
use Rattle.flooding.specs.declared.origination.TheConstants.{MAX_AGE}

-- the greatest sequence number (ISO/IEC 10589, 7.3.16.1)
abbrev pub last_number : ℕ
last_number = 4294967295

-- the id by which a system is known: that of its LSP of number 0
abbrev pub own_id : SystemId → LspId
own_id system = record { system = system; pseudonode = 0; number = 0 }

-- the numbers of the LSPs that a system originates are those below this one (ISO/IEC 10589, 7.3.7)
unfoldable pub own_numbers : ℕ
own_numbers = 16

-- the id of a system's own LSP of a number: its pseudonode is 0
abbrev pub own_number : SystemId → ℕ → LspId
own_number system number = record { system = system; pseudonode = 0; number = number }

-- an id that a system originates
pub record IsOwnNumber (system : SystemId) (id : LspId) : Type 0 where
  pub number : ℕ
  pub below : number < own_numbers
  pub is : id ≡ own_number system number

-- whether an id is one of those
abbrev pub is_own_number : SystemId → LspId → Bool
is_own_number system id =
    same_system id.system system && ((id.pseudonode == 0) && nat_lt id.number own_numbers)

-- whether an id is the one by which a system is known
abbrev pub is_originated : SystemId → LspId → Bool
is_originated system id = same_system id.system system && ((id.pseudonode == 0) && (id.number == 0))

-- a body is the flags octet and then the TLVs; the flags of level 1 stand for a missing octet
abbrev pub flags_in : List ℕ → ℕ
flags_in [] = LEVEL_1
flags_in (flags ∷ tlvs) = flags

abbrev pub tlvs_of_body : List ℕ → List ℕ
tlvs_of_body [] = []
tlvs_of_body (flags ∷ tlvs) = tlvs

-- the body of what is held under an id, and of nothing none
abbrev pub body_in : Option Entry → List ℕ
body_in None = []
body_in (Some e) = e.body

-- the body of a number, if the system has one for it
abbrev pub body_of_number : Own → ℕ → Option (List ℕ)
body_of_number own number = option_and_then (λ body. body) (slice_get own.bodies number)

-- each body has a byte
abbrev pub HaveBytes : Own → Type 0
HaveBytes own = (number : ℕ) (body : List ℕ) → body_of_number own number ≡ Some body → 1 ≤ length body

-- where the system has no body for a number, it has none for a greater one
abbrev pub HasFirstNumbers : Own → Type 0
HasFirstNumbers own = (number later : ℕ) → number ≤ later → body_of_number own number ≡ None
    → body_of_number own later ≡ None

-- the body that answers a claim of an id: a spent system has none
abbrev pub body_for : Own → LspId → Option (List ℕ)
body_for own id =
    if own.spent then None else (if is_own_number own.system id then body_of_number own id.number else None)

-- an own LSP at a sequence number: live with its body for 1,200 seconds, to be sent at every Up port
abbrev pub renewed : PortSet → LspId → List ℕ → ℕ → Entry
renewed up id body seq = flooded up (Live seq (lsp_sum_of id seq (flags_in body) (tlvs_of_body body))) MAX_AGE body

-- an LSP that is dead at a number, to be sent at every Up port
abbrev pub dead_at : PortSet → ℕ → Entry
dead_at up seq = flooded up (Dead seq) 0 []

-- the entry that answers a claim of an own id at a sequence number: an LSP that the system has a body for goes one
-- number further, and at the last number it is dead; every other is dead at the claim's number (ISO/IEC 10589,
-- 7.3.16.1)
abbrev pub answered_by : PortSet → LspId → ℕ → Option (List ℕ) → Entry
answered_by up id seq None = dead_at up seq
answered_by up id seq (Some body) = if nat_lt seq last_number then renewed up id body (seq + 1) else dead_at up seq

abbrev pub answered : PortSet → Own → LspId → ℕ → Entry
answered up own id seq = answered_by up id seq (body_for own id)

-- a system of which an LSP had to go past the last number is spent
abbrev pub answering : Own → LspId → ℕ → Own
answering own id seq =
    if is_some (body_for own id) && not (nat_lt seq last_number) then record own { spent = true } else own

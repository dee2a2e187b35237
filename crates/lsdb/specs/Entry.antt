use Rattle.std.specs.Prelude.{◌≡◌, ℕ, ◌-◌, ◌%◌, ◌^◌, ◌≤◌, Bool, not, ◌||◌, ◌==◌, List, [], ◌∷◌, length, nat_le, if◌then◌else◌}
use Rattle.spb_types.specs.declared.ports.PortSet.{PortSet}
use Rattle.spb_types.specs.Ports.{no_ports, with_port, without_port}
use Rattle.lsdb.specs.declared.version.Version.{Version}
use Rattle.lsdb.specs.declared.version.Version.TheVariants.{Absent, Live, Dead}
use Rattle.lsdb.specs.declared.held.Held.{Held}
use Rattle.lsdb.specs.declared.held.DbRow.{DbRow}
use Rattle.lsdb.specs.Version.{is_absent}
use Rattle.spb_types.specs.declared.address.LspId.{LspId}
use Rattle.spb_types.specs.declared.level.TheConstants.{LEVEL_1}

-- what a database holds under an id: a version, its remaining lifetime and its body (the flags octet and the TLVs), and
-- the ports at which it is to be sent (SRM) and to be acknowledged (SSN) (ISO/IEC 10589, 7.3.15)
pub record Entry : Type 0 where
  pub version : Version
  pub lifetime : ℕ
  pub body : List ℕ
  pub srm : PortSet
  pub ssn : PortSet

-- only a live LSP has a lifetime
abbrev pub lifetime_at : Version → ℕ → ℕ
lifetime_at Absent lifetime = 0
lifetime_at (Live seq sum) lifetime = lifetime
lifetime_at (Dead seq) lifetime = 0

-- a dead LSP is the flags octet of level 1 alone, and an absent one has no body
abbrev pub body_at : Version → List ℕ → List ℕ
body_at Absent body = []
body_at (Live seq sum) body = body
body_at (Dead seq) body = LEVEL_1 ∷ []

-- the entry of a version with this lifetime, body and flags
abbrev pub made : Version → ℕ → List ℕ → PortSet → PortSet → Entry
made version lifetime body srm ssn = record {
  version = version;
  lifetime = lifetime_at version lifetime;
  body = body_at version body;
  srm = srm;
  ssn = ssn;
}

-- what can be held: a live LSP has a lifetime left, and all but an absent one have a body
abbrev pub CanBeHeld : Version → ℕ → List ℕ → Type 0
CanBeHeld Absent lifetime body = Unit {0}
CanBeHeld (Live seq sum) lifetime body = (1 ≤ lifetime) × (1 ≤ length body)
CanBeHeld (Dead seq) lifetime body = 1 ≤ length body

-- lifetime and body are those that a version like this one is kept with
abbrev pub AreKept : Version → ℕ → List ℕ → Type 0
AreKept Absent lifetime body = (lifetime ≡ 0) × (body ≡ [])
AreKept (Live seq sum) lifetime body = (1 ≤ lifetime) × (1 ≤ length body)
AreKept (Dead seq) lifetime body = (lifetime ≡ 0) × (body ≡ LEVEL_1 ∷ [])

-- the entry has the lifetime and the body that its version is kept with
abbrev pub IsClean : Entry → Type 0
IsClean e = AreKept e.version e.lifetime e.body

-- the entry of a held LSP
abbrev pub entry_of : Held → Entry
entry_of h = record { version = h.version; lifetime = h.lifetime; body = h.body; srm = h.srm; ssn = h.ssn }

-- an entry with the lifetime and the body that its version is kept with
abbrev pub cleaned : Entry → Entry
cleaned e = made e.version e.lifetime e.body e.srm e.ssn

-- the id of a held LSP, and all of its entry but the body
abbrev pub row_of : LspId → Entry → DbRow
row_of id e = record { id = id; version = e.version; lifetime = e.lifetime; srm = e.srm; ssn = e.ssn }

-- whether some port is in the set: one of its 32 bits is 1
unfoldable pub has_ports : PortSet → Bool
has_ports set = not (set.bits % 2 ^ 32 == 0)

-- whether the LSP is to be sent, or to be acknowledged or asked for, at some port
abbrev pub has_flags : Entry → Bool
has_flags e = has_ports e.srm || has_ports e.ssn

-- a set of ports with this port put in or taken out
abbrev pub switched : Bool → PortSet → ℕ → PortSet
switched on set port = if on then with_port set port else without_port set port

-- other flags
abbrev pub with_flags : PortSet → PortSet → Entry → Entry
with_flags srm ssn e = record e { srm = srm; ssn = ssn }

-- a port put into the ports at which the LSP is to be sent, or taken out of them
abbrev pub with_srm : ℕ → Bool → Entry → Entry
with_srm port on e = record e { srm = switched on e.srm port }

-- a port put into the ports at which the LSP is to be acknowledged, or taken out of them
abbrev pub with_ssn : ℕ → Bool → Entry → Entry
with_ssn port on e = record e { ssn = switched on e.ssn port }

-- a port put into, or taken out of, the ports at which the LSP is to be sent and those at which it is to be
-- acknowledged
abbrev pub with_flags_at : ℕ → Bool → Bool → Entry → Entry
with_flags_at port srm ssn e = record e { srm = switched srm e.srm port; ssn = switched ssn e.ssn port }

-- another version with its lifetime and body, at the flags that stand
abbrev pub raised : Version → ℕ → List ℕ → Entry → Entry
raised version lifetime body e = made version lifetime body e.srm e.ssn

-- a newer LSP heard at a port is stored: sent at the other Up ports, and acknowledged at this one
-- (ISO/IEC 10589, 7.3.15.1)
abbrev pub stored : PortSet → ℕ → Version → ℕ → List ℕ → Entry
stored up port version lifetime body = made version lifetime body (without_port up port) (with_port no_ports port)

-- a version that goes to every Up port
abbrev pub flooded : PortSet → Version → ℕ → List ℕ → Entry
flooded up version lifetime body = made version lifetime body up no_ports

-- an id is entered as absent, and asked for at a port
abbrev pub absent_with_ssn : ℕ → Entry
absent_with_ssn port = made Absent 0 [] no_ports (with_port no_ports port)

-- the neighbour at a port has the LSP, and gets an acknowledgement
abbrev pub acked : ℕ → Entry → Entry
acked port e = record e { srm = without_port e.srm port; ssn = with_port e.ssn port }

-- the neighbour at a port has the LSP
abbrev pub cleared : ℕ → Entry → Entry
cleared port e = record e { srm = without_port e.srm port }

-- the neighbour at a port has an older one, and gets this one
abbrev pub offered : ℕ → Entry → Entry
offered port e = record e { srm = with_port e.srm port; ssn = without_port e.ssn port }

-- the LSP is to be sent at a port
abbrev pub flagged : ℕ → Entry → Entry
flagged port e = record e { srm = with_port e.srm port }

-- the LSP is to be sent at a port that has come up, unless it is absent
abbrev pub srm_set_at : ℕ → Entry → Entry
srm_set_at port e = if is_absent e.version then e else flagged port e

-- an LSP that is dead at this number, and goes to every port of a set
abbrev pub purged : ℕ → PortSet → Entry → Entry
purged seq ports e = flooded ports (Dead seq) 0 []

-- the flags of a port that is no longer Up are cleared
abbrev pub flags_cleared_at : ℕ → Entry → Entry
flags_cleared_at port e = record e { srm = without_port e.srm port; ssn = without_port e.ssn port }

-- an entry of this version after a second: a live one's lifetime falls by one, and at 0 it is dead and goes to every Up
-- port, its SSN flags as they were (ISO/IEC 10589, 7.3.16.4)
abbrev pub aged_at : PortSet → Entry → Version → Entry
aged_at up e Absent = e
aged_at up e (Live seq sum) =
    if nat_le e.lifetime 1 then made (Dead seq) 0 [] up e.ssn else record e { lifetime = e.lifetime - 1 }
aged_at up e (Dead seq) = e

abbrev pub aged : PortSet → Entry → Entry
aged up e = aged_at up e e.version

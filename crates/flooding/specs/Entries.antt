-- What is so of every entry of a bridge's database, however it was flooded.
use Rattle.std.specs.Prelude.{◌≡◌, ℕ, ◌≤◌, true, false, Some, IsTrue}
use Rattle.std.specs.FinMap.{get}
use Rattle.spb_types.specs.declared.address.LspId.{LspId}
use Rattle.spb_types.specs.declared.ports.PortSet.{PortSet}
use Rattle.spb_types.specs.Ports.{has}
use Rattle.isis_pdu.specs.declared.kind.Kind.TheVariants as kinds
use Rattle.isis_pdu.specs.Spelling.{CanWrite}
use Rattle.isis_pdu.specs.Grammar.{IsBytes, is_sound_lsp}
use Rattle.lsdb.specs.declared.version.Version.{Version}
use Rattle.lsdb.specs.declared.version.Version.TheVariants.{Absent, Live, Dead}
use Rattle.lsdb.specs.Entry.{Entry, IsClean}
use Rattle.lsdb.specs.Database.{Lsps}
use Rattle.flooding.specs.Own.{tlvs_of_body}
use Rattle.flooding.specs.Sending.{lsp_in}

-- a version that a PDU can say: any but an absent one has a number of at least 1
abbrev pub IsNumbered : Version → Type 0
IsNumbered Absent = Unit {0}
IsNumbered (Live seq sum) = 1 ≤ seq
IsNumbered (Dead seq) = 1 ≤ seq

-- the LSP of an entry can be written, and is read again as what is held
pub record IsSendable (id : LspId) (e : Entry) : Type 0 where
  pub numbered : IsNumbered e.version
  pub clean : IsClean e
  pub written : CanWrite kinds.Lsp (tlvs_of_body e.body)
  pub sound : IsTrue (is_sound_lsp (lsp_in id e))

-- flags stand only at Up ports, and nothing is to be sent of an absent entry
pub record HasFlagsAt (up : PortSet) (e : Entry) : Type 0 where
  pub srm : (p : ℕ) → has e.srm p ≡ true → has up p ≡ true
  pub ssn : (p : ℕ) → has e.ssn p ≡ true → has up p ≡ true
  pub absent : e.version ≡ Absent → (p : ℕ) → has e.srm p ≡ false

-- every entry is so
abbrev pub AllEntries : (LspId → Entry → Type 0) → Lsps → Type 0
AllEntries P db = (id : LspId) (e : Entry) → get db id ≡ Some e → P id e

abbrev pub AreSendable : Lsps → Type 0
AreSendable db = AllEntries IsSendable db

abbrev pub HaveFlagsAt : PortSet → Lsps → Type 0
HaveFlagsAt up db = AllEntries (λ id e. HasFlagsAt up e) db

-- every body that is held is octets
abbrev pub HaveOctets : Lsps → Type 0
HaveOctets db = AllEntries (λ id e. IsBytes e.body) db

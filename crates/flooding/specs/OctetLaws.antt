-- Bodies are octets, whatever a life begins with and is heard, originated or aged in it.
use Rattle.std.specs.Prelude.{◌≡◌, ℕ, List, Some}
use Rattle.spb_types.specs.declared.ports.PortSet.{PortSet}
use Rattle.isis_pdu.specs.Pdu.{LspValue}
use Rattle.isis_pdu.specs.Grammar.{IsBytes}
use Rattle.lsdb.specs.Certificate.{Claim}
use Rattle.lsdb.specs.Entry.{Entry, aged}
use Rattle.flooding.specs.declared.own.Own.{Own}
use Rattle.flooding.specs.Own.{body_of_number}
use Rattle.flooding.specs.Hearing.{Holding, body_of, hear_lsp_of, hear_entry_of}
use Rattle.flooding.specs.Settling.{Test, settled_by}
use Rattle.flooding.specs.Starting.{started_all}
use Rattle.flooding.specs.Entries.{HaveOctets}

-- each body that a system has is octets
abbrev pub SaysOctets : Own → Type 0
SaysOctets own = (number : ℕ) (body : List ℕ) → body_of_number own number ≡ Some body → IsBytes body

-- every body that is held stays so: after an LSP of octets was heard
abbrev pub LspKeepsOctets : Type 0
LspKeepsOctets = (up : PortSet) (port : ℕ) (l : LspValue) (h : Holding) → IsBytes (body_of l) → SaysOctets h.own
    → HaveOctets h.db → HaveOctets (hear_lsp_of up port l h).db

-- after an entry of an SNP was heard
abbrev pub EntryKeepsOctets : Type 0
EntryKeepsOctets = (up : PortSet) (port : ℕ) (c : Claim) (h : Holding) → SaysOctets h.own
    → HaveOctets h.db → HaveOctets (hear_entry_of up port c h).db

-- after own LSPs were brought up to date
abbrev pub SettlingKeepsOctets : Type 0
SettlingKeepsOctets = (test : Test) (up : PortSet) (h : Holding) → SaysOctets h.own
    → HaveOctets h.db → HaveOctets (settled_by test up h).db

-- after a life began
abbrev pub StartingKeepsOctets : Type 0
StartingKeepsOctets = (last : List ℕ) (h : Holding) → SaysOctets h.own
    → HaveOctets h.db → HaveOctets (started_all last 0 h).db

-- and after a second
abbrev pub AgeingKeepsOctets : Type 0
AgeingKeepsOctets = (up : PortSet) (e : Entry) → IsBytes e.body → IsBytes (aged up e).body

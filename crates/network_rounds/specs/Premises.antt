-- What a network must be like so that rounds make it quiet: four premises, each as a test.
use Rattle.std.specs.Prelude.{ℕ, ◌+◌, List, [], ◌∷◌, length, map, Bool, true, not, ◌&&◌, ◌||◌, nat_lt, nat_le, Result, Ok, Err, if◌then◌else◌}
use Rattle.std.specs.List.{list_all, flat_map}
use Rattle.std.specs.FinMap.{entries}
use Rattle.spb_types.specs.declared.address.LspId.{LspId}
use Rattle.spb_types.specs.declared.address.SystemId.{SystemId}
use Rattle.spb_tlvs.specs.declared.entries.SnpEntry.{SnpEntry}
use Rattle.spb_tlvs.specs.declared.error.TlvError.{TlvError}
use Rattle.link_model.specs.declared.lanes.LinkLanes.{LinkLanes}
use Rattle.link_model.specs.Lane.{Frame}
use Rattle.lsdb.specs.declared.version.Version.{Version}
use Rattle.lsdb.specs.declared.version.Version.TheVariants.{Absent, Live, Dead}
use Rattle.lsdb.specs.Entry.{Entry}
use Rattle.lsdb.specs.Database.{Lsps}
use Rattle.flooding.specs.Own.{is_own_number}
use Rattle.flooding.specs.Hearing.{claim_of}
use Rattle.snp_sync.specs.Hearing.{claim_in, is_among}
use Rattle.snp_sync.specs.Reading.{entries_in}
use Rattle.bridge_api.specs.View.{BridgeView}
use Rattle.bridge_api.specs.Parsing.{Parsed, parsed, is_carrying}
use Rattle.bridge_api.specs.Parsing as parsing
use Rattle.network_model.specs.State.{State}

-- ---- what is on its way, and what is held

-- each frame in a lane passes a test
abbrev pub passes : (Frame → Bool) → List LinkLanes → Bool
passes test lanes = list_all (λ x. list_all test x.ab && list_all test x.ba) lanes

-- and each LSP in a database
abbrev pub holds_only : (LspId → Entry → Bool) → Lsps → Bool
holds_only test db = list_all (λ e. test e.0 e.1) (entries db)

-- ---- no customer's frame is on its way

abbrev pub is_plain : Frame → Bool
is_plain bytes = not (is_carrying (parsed bytes))

unfoldable pub has_no_customers : State → Bool
has_no_customers s = passes is_plain s.lanes

-- ---- more than so many seconds are left of what is live

-- an LSP of a version and a remaining lifetime (ISO/IEC 10589, 7.3.16.4); one that is dead or absent has none
abbrev pub outlives : ℕ → Version → ℕ → Bool
outlives m Absent lifetime = true
outlives m (Live seq sum) lifetime = nat_lt m lifetime
outlives m (Dead seq) lifetime = true

-- an LSP that is held
abbrev pub entry_outlives : ℕ → Entry → Bool
entry_outlives m e = outlives m e.version e.lifetime

-- an LSP of which an entry of a sequence numbers PDU tells
abbrev pub told_outlives : ℕ → SnpEntry → Bool
told_outlives m e = outlives m (claim_in e).version e.lifetime

-- the LSPs of which a sequence numbers PDU tells, if its entries can be read
abbrev pub entries_outlive : ℕ → Result (List SnpEntry) TlvError → Bool
entries_outlive m (Ok told) = list_all (told_outlives m) told
entries_outlive m (Err e) = true

-- an LSP on its way, or what a sequence numbers PDU on its way tells of
abbrev pub is_lasting : ℕ → Parsed → Bool
is_lasting m (parsing.dropped reason) = true
is_lasting m (parsing.hello h way) = true
is_lasting m (parsing.lsp l) = outlives m (claim_of l).version l.lifetime
is_lasting m (parsing.csnp c) = entries_outlive m (entries_in c.tlvs)
is_lasting m (parsing.psnp s) = entries_outlive m (entries_in s.tlvs)
is_lasting m (parsing.customer da sa vid isid payload) = true

-- what is held or on its way outlives so many seconds
unfoldable pub outlive : ℕ → State → Bool
outlive m s = list_all (λ v. holds_only (λ id e. entry_outlives m e) v.database) s.views
    && passes (λ bytes. is_lasting m (parsed bytes)) s.lanes

-- ---- no bridge originates an LSP anew for its age in so many seconds

-- an LSP that a system holds, if it is one of its own
abbrev pub own_outlives : ℕ → SystemId → LspId → Entry → Bool
own_outlives m system id e = not (is_own_number system id) || entry_outlives m e

-- an own LSP is originated anew where 300 seconds are left of it (ISO/IEC 10589, 7.3.2)
unfoldable pub owns_outlive : ℕ → State → Bool
owns_outlive m s = list_all (λ v. holds_only (own_outlives (m + 300) v.id.system) v.database) s.views

-- ---- what a bridge sends in a second has room in a lane

-- the ids that a bridge holds, of absent LSPs too, and those of all bridges
abbrev pub ids_of : BridgeView → List LspId
ids_of v = map (λ e. e.0) (entries v.database)

abbrev pub ids_held : List BridgeView → List LspId
ids_held views = flat_map ids_of views

-- each id of a list once
abbrev pub different_ids : List LspId → List LspId
different_ids [] = []
different_ids (x ∷ xs) = if is_among xs x then different_ids xs else x ∷ different_ids xs

-- the most that all bridges together may hold
abbrev pub most_ids : ℕ
most_ids = 900

unfoldable pub has_few_ids : State → Bool
has_few_ids s = nat_le (length (different_ids (ids_held s.views))) most_ids

-- ---- all of them

-- a network is ready for so many rounds
unfoldable pub is_ready : ℕ → State → Bool
is_ready m s = has_no_customers s && (outlive m s && (owns_outlive m s && has_few_ids s))

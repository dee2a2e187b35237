-- What the sequence numbers PDUs that a bridge sends say.
use Rattle.std.specs.Prelude.{◌≡◌, ℕ, ◌≤◌, List, length, filter, count_by, ◌&&◌, not, ◌==◌, Option, Some, None, Ok}
use Rattle.std.specs.List.{AllByRecursion, flat_map}
use Rattle.std.specs.FinMap.{get}
use Rattle.std.specs.Ordering.{is_lt, is_le}
use Rattle.std.specs.declared.cmp.Ordering.TheVariants.{Less}
use Rattle.spb_types.specs.declared.address.SystemId.{SystemId}
use Rattle.spb_types.specs.declared.address.LspId.{LspId}
use Rattle.spb_types.specs.declared.ports.PortSet.{PortSet}
use Rattle.spb_types.specs.Ports.{has}
use Rattle.isis_pdu.specs.Pdu.{csnp, psnp}
use Rattle.isis_pdu.specs.Grammar.{IsId}
use Rattle.isis_pdu.specs.Reading.{read}
use Rattle.isis_pdu.specs.Spelling.{csnp_bytes, psnp_bytes}
use Rattle.spb_tlvs.specs.declared.entries.SnpEntry.{SnpEntry}
use Rattle.spb_tlvs.specs.RoundTrip.{IsEntry}
use Rattle.lsdb.specs.Entry.{Entry, IsClean}
use Rattle.lsdb.specs.Database.{Lsps, id_cmp, version_at}
use Rattle.lsdb.specs.Certificate.{Claim, Certificate}
use Rattle.flooding.specs.Entries.{IsNumbered, AreSendable}
use Rattle.snp_sync.specs.SnpEntries.{snp_entry_of, snp_entries_where, is_listed, has_ssn_at}
use Rattle.snp_sync.specs.Chunks.{entry_tlvs}
use Rattle.snp_sync.specs.Ids.{successor, last_id, is_between}
use Rattle.snp_sync.specs.Sending.{CsnpChunk, csnp_for, psnp_for, csnp_chunks, psnp_chunks, all_ssn_cleared}
use Rattle.snp_sync.specs.Sized.{IsLspId, HaveIds, AreSized, IsSizedEntry}
use Rattle.snp_sync.specs.Reading.{entries_in}
use Rattle.snp_sync.specs.Hearing.{claim_in}

-- ---- ids

-- no id lies between an id and its successor
abbrev pub SuccessorIsNext : Type 0
SuccessorIsNext = (x y : LspId) → IsLspId x → IsLspId y → id_cmp x last_id ≡ Less
    → is_lt (id_cmp x y) ≡ is_le (id_cmp (successor x) y)

abbrev pub SuccessorIsId : Type 0
SuccessorIsId = (x : LspId) → IsLspId (successor x)

-- ---- what is said of what is held

-- what is said of what is held claims it
abbrev pub EntryClaimsWhatIsHeld : Type 0
EntryClaimsWhatIsHeld = (id : LspId) (e : Entry) → IsNumbered e.version → IsClean e
    → claim_in (snp_entry_of id e) ≡ record { id = id; version = e.version }

abbrev pub ClaimsWhatIsHeld : Lsps → SnpEntry → Type 0
ClaimsWhatIsHeld db entry = (claim_in entry).version ≡ version_at db entry.id

-- an entry of a PDU that is of what is held: its id is held, and it says what is held there
abbrev pub IsEntryOfHeld : Lsps → SnpEntry → Type 0
IsEntryOfHeld db entry = (e : Entry) × (get db entry.id ≡ Some e) × (entry ≡ snp_entry_of entry.id e)

-- ---- CSNPs

-- each id lies in the range of one CSNP, and of no other
abbrev pub RangesCoverOnce : Type 0
RangesCoverOnce = (db : Lsps) → HaveIds db → (x : LspId) → IsLspId x
    → count_by (λ chunk. is_between chunk.start chunk.end x) (csnp_chunks db) ≡ 1

-- each CSNP lists all LSPs but the absent ones whose ids lie in its range
abbrev pub CsnpChunksListTheirRanges : Type 0
CsnpChunksListTheirRanges = (db : Lsps) → HaveIds db
    → AllByRecursion (λ chunk. chunk.entries
    ≡ filter (λ entry. is_between chunk.start chunk.end entry.id) (snp_entries_where is_listed db)) (csnp_chunks db)

-- and so at most 90
abbrev pub CsnpChunksAreShort : Type 0
CsnpChunksAreShort = (db : Lsps) → AllByRecursion (λ chunk. length chunk.entries ≤ 90) (csnp_chunks db)

-- its ends are ids
abbrev pub CsnpChunksEndAtIds : Type 0
CsnpChunksEndAtIds = (db : Lsps) → HaveIds db
    → AllByRecursion (λ chunk. IsLspId chunk.start × IsLspId chunk.end) (csnp_chunks db)

-- what it claims is what is held
abbrev pub CsnpChunksClaimWhatIsHeld : Type 0
CsnpChunksClaimWhatIsHeld = (db : Lsps) → AreSendable db
    → AllByRecursion (λ chunk. AllByRecursion (ClaimsWhatIsHeld db) chunk.entries) (csnp_chunks db)

-- it lists nothing but what is held
abbrev pub CsnpChunksListWhatIsHeld : Type 0
CsnpChunksListWhatIsHeld = (db : Lsps) → AllByRecursion (λ chunk. AllByRecursion (IsEntryOfHeld db) chunk.entries)
    (csnp_chunks db)

abbrev pub CsnpEntriesAreSized : Type 0
CsnpEntriesAreSized = (db : Lsps) → AreSized db
    → AllByRecursion (λ chunk. AllByRecursion IsSizedEntry chunk.entries) (csnp_chunks db)

-- it is read as it was written, with its entries
abbrev pub CsnpIsRead : Type 0
CsnpIsRead = (me : SystemId) (chunk : CsnpChunk) → IsId me → IsLspId chunk.start → IsLspId chunk.end
    → read (csnp_bytes (csnp_for me chunk)) ≡ Ok (csnp (csnp_for me chunk))

abbrev pub EntriesAreRead : Type 0
EntriesAreRead = (entries : List SnpEntry) → AllByRecursion IsEntry entries
    → entries_in (entry_tlvs entries) ≡ Ok entries

abbrev pub CsnpEntriesAreRead : Type 0
CsnpEntriesAreRead = (db : Lsps) → AreSized db
    → AllByRecursion (λ chunk. entries_in (entry_tlvs chunk.entries) ≡ Ok chunk.entries) (csnp_chunks db)

-- ---- PSNPs

-- the PSNPs at a port together list what has SSN there, each of them at least one LSP and at most 90
abbrev pub PsnpChunksAreWhole : Type 0
PsnpChunksAreWhole = (port : ℕ) (db : Lsps)
    → flat_map (λ chunk. chunk) (psnp_chunks port db) ≡ snp_entries_where (has_ssn_at port) db

abbrev pub PsnpChunksAreShort : Type 0
PsnpChunksAreShort = (port : ℕ) (db : Lsps)
    → AllByRecursion (λ chunk. (1 ≤ length chunk) × (length chunk ≤ 90)) (psnp_chunks port db)

abbrev pub PsnpChunksClaimWhatIsHeld : Type 0
PsnpChunksClaimWhatIsHeld = (port : ℕ) (db : Lsps) → AreSendable db
    → AllByRecursion (λ chunk. AllByRecursion (ClaimsWhatIsHeld db) chunk) (psnp_chunks port db)

abbrev pub PsnpChunksListWhatIsHeld : Type 0
PsnpChunksListWhatIsHeld = (port : ℕ) (db : Lsps)
    → AllByRecursion (AllByRecursion (IsEntryOfHeld db)) (psnp_chunks port db)

abbrev pub PsnpEntriesAreSized : Type 0
PsnpEntriesAreSized = (port : ℕ) (db : Lsps) → AreSized db
    → AllByRecursion (AllByRecursion IsSizedEntry) (psnp_chunks port db)

abbrev pub PsnpIsRead : Type 0
PsnpIsRead = (me : SystemId) (chunk : List SnpEntry) → IsId me
    → read (psnp_bytes (psnp_for me chunk)) ≡ Ok (psnp (psnp_for me chunk))

abbrev pub PsnpEntriesAreRead : Type 0
PsnpEntriesAreRead = (port : ℕ) (db : Lsps) → AreSized db
    → AllByRecursion (λ chunk. entries_in (entry_tlvs chunk) ≡ Ok chunk) (psnp_chunks port db)

-- what is held under an id, and afterwards: it isn't to be acknowledged or asked for at the port, and all else of it
-- stands
pub record IsSsnClearedEntry (port : ℕ) (e new : Entry) : Type 0 where
  pub version : new.version ≡ e.version
  pub lifetime : new.lifetime ≡ e.lifetime
  pub body : new.body ≡ e.body
  pub srm : new.srm ≡ e.srm
  pub ssn : (q : ℕ) → has new.ssn q ≡ (has e.ssn q && not (q == port))

-- an id that isn't held stays so
abbrev pub IsSsnClearedUnder : ℕ → Option Entry → Option Entry → Type 0
IsSsnClearedUnder port None new = new ≡ None
IsSsnClearedUnder port (Some e) None = ⊥
IsSsnClearedUnder port (Some e) (Some new) = IsSsnClearedEntry port e new

-- afterwards nothing has SSN there, and all else stands
abbrev pub SsnIsCleared : Type 0
SsnIsCleared = (port : ℕ) (db : Lsps) → 1 ≤ port → port ≤ 32 → (id : LspId)
    → IsSsnClearedUnder port (get db id) (get (all_ssn_cleared port db) id)

abbrev pub ClearingSsnIsCertified : Type 0
ClearingSsnIsCertified = (up : PortSet) (port at : ℕ) (claims : List Claim) (db : Lsps)
    → Certificate at claims (record { up = up; db = db }) (record { up = up; db = all_ssn_cleared port db })

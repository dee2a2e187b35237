-- What a sequence numbers PDU changes where it is heard (ISO/IEC 10589, 7.3.15.2).
use Rattle.std.specs.Prelude.{◌≡◌, ℕ, ◌+◌, List, [], ◌∷◌, Bool, ◌&&◌, not, map, take, if◌then◌else◌}
use Rattle.std.specs.List.{list_any}
use Rattle.std.specs.Ordering.{is_eq}
use Rattle.spb_types.specs.declared.address.LspId.{LspId}
use Rattle.spb_types.specs.declared.ports.PortSet.{PortSet}
use Rattle.spb_tlvs.specs.declared.entries.SnpEntry.{SnpEntry}
use Rattle.lsdb.specs.Version.{is_absent, claimed}
use Rattle.lsdb.specs.Entry.{Entry, flagged}
use Rattle.lsdb.specs.Database.{Lsps, id_cmp, each}
use Rattle.lsdb.specs.Certificate.{Claim}
use Rattle.flooding.specs.Hearing.{Holding, hear_entry_of, is_full_for_entry}
use Rattle.snp_sync.specs.Ids.{is_between}

-- what an entry says of its sender: it holds this version of this id
abbrev pub claim_in : SnpEntry → Claim
claim_in e = record { id = e.id; version = claimed e.seq e.lifetime e.sum }

abbrev pub claims_in : List SnpEntry → List Claim
claims_in es = map claim_in es

-- after claims heard at a port, one after another
abbrev pub hear_entries_of : PortSet → ℕ → List Claim → Holding → Holding
hear_entries_of up port [] h = h
hear_entries_of up port (c ∷ claims) h = hear_entries_of up port claims (hear_entry_of up port c h)

-- and how many of them needed a place that there wasn't
abbrev pub full_count : PortSet → ℕ → List Claim → Holding → ℕ
full_count up port [] h = 0
full_count up port (c ∷ claims) h = (if is_full_for_entry up port c h then 1 else 0)
    + full_count up port claims (hear_entry_of up port c h)

-- the first of them were heard
abbrev pub HeardSome : PortSet → ℕ → List Claim → Holding → Holding → Type 0
HeardSome up port claims old new = (k : ℕ) × (new ≡ hear_entries_of up port (take k claims) old)

-- the ids that claims name, and whether an id is among them
abbrev pub ids_of : List Claim → List LspId
ids_of claims = map (λ c. c.id) claims

abbrev pub is_among : List LspId → LspId → Bool
is_among ids id = list_any (λ x. is_eq (id_cmp x id)) ids

-- whether the sender of a CSNP of a range, which names ids, lacks an LSP: its id lies in the range and isn't named, and
-- it isn't absent
abbrev pub is_missed : LspId → LspId → List LspId → LspId → Entry → Bool
is_missed start end ids id e = is_between start end id && not (is_among ids id) && not (is_absent e.version)

-- what it lacks is to be sent at the port
abbrev pub flag_if : Bool → ℕ → Entry → Entry
flag_if missed port e = if missed then flagged port e else e

abbrev pub flag_missed : ℕ → LspId → LspId → List LspId → Lsps → Lsps
flag_missed port start end ids db = each (λ id e. flag_if (is_missed start end ids id e) port e) db

-- after a CSNP of a range heard at a port: its claims, and then what its sender lacks
abbrev pub hear_csnp_of : PortSet → ℕ → LspId → LspId → List Claim → Holding → Holding
hear_csnp_of up port start end claims h =
    let heard = hear_entries_of up port claims h in
    record { db = flag_missed port start end (ids_of claims) heard.db; own = heard.own }

-- What an LSP, or an entry of an SNP, changes where it is heard (ISO/IEC 10589, 7.3.15.1 and 7.3.15.2).
use Rattle.std.specs.Prelude.{ℕ, ◌≤◌, List, ◌∷◌, Bool, true, false, ◌&&◌, not, Option, Some, None, if◌then◌else◌}
use Rattle.std.specs.Option.{option_map}
use Rattle.std.specs.FinMap.{get}
use Rattle.spb_types.specs.declared.address.LspId.{LspId}
use Rattle.spb_types.specs.declared.ports.PortSet.{PortSet}
use Rattle.spb_types.specs.Address.{same_system}
use Rattle.isis_pdu.specs.Pdu.{LspValue}
use Rattle.lsdb.specs.declared.version.Version.{Version}
use Rattle.lsdb.specs.declared.version.Relation.{Relation}
use Rattle.lsdb.specs.declared.version.Relation.TheVariants.{Older, Equal, Newer, Confused}
use Rattle.lsdb.specs.Version.{number_of, is_absent, relation, claimed}
use Rattle.lsdb.specs.Entry.{Entry, stored, absent_with_ssn, acked, cleared, offered}
use Rattle.lsdb.specs.Database.{Lsps, version_in, changed_to}
use Rattle.lsdb.specs.Certificate.{Claim}
use Rattle.flooding.specs.declared.own.Own.{Own}
use Rattle.flooding.specs.Own.{dead_at, answered, answering}
use Rattle.flooding.specs.Room.{most_others, others, has_room}

-- what an LSP says of its sender: it holds this version of this id
abbrev pub claim_of : LspValue → Claim
claim_of l = record { id = l.id; version = claimed l.seq l.lifetime l.sum }

-- its body: the flags octet and then the TLVs
abbrev pub body_of : LspValue → List ℕ
body_of l = l.flags ∷ l.tlvs

-- what is held changed, unless it is absent
abbrev pub unless_absent : (Entry → Entry) → Entry → Entry
unless_absent f e = if is_absent e.version then e else f e

-- what an LSP heard at a port makes of what is held under its id, by the relation of its version to the held one: a
-- newer one is stored, also a dead one of an id that isn't held (*profile*); the same one is acknowledged; of an older
-- one the neighbour gets what is held; and confused ones can't stand, so the dead one of their number goes to every Up
-- port
abbrev pub lsp_rule : PortSet → ℕ → LspValue → Relation → Option Entry → Option Entry
lsp_rule up port l Newer held = Some (stored up port (claimed l.seq l.lifetime l.sum) l.lifetime (body_of l))
lsp_rule up port l Equal held = option_map (unless_absent (acked port)) held
lsp_rule up port l Older held = option_map (offered port) held
lsp_rule up port l Confused held = Some (dead_at up l.seq)

-- a newer version that a neighbour has is asked for at its port; an id that isn't held is entered as absent for it,
-- also where the neighbour's is dead (*profile*)
abbrev pub wanted : ℕ → Option Entry → Entry
wanted port None = absent_with_ssn port
wanted port (Some e) = acked port e

-- what an entry of an SNP heard at a port makes of what is held under its id: a newer version is asked for; the same
-- one needn't be sent there; of an older one the neighbour gets what is held; and confused ones end as above
abbrev pub snp_rule : PortSet → ℕ → Version → Relation → Option Entry → Option Entry
snp_rule up port a Newer held = Some (wanted port held)
snp_rule up port a Equal held = option_map (unless_absent (cleared port)) held
snp_rule up port a Older held = option_map (offered port) held
snp_rule up port a Confused held = Some (dead_at up (number_of a))

-- a claim that isn't equal to what is held, nor older
abbrev pub is_beyond : Relation → Bool
is_beyond Older = false
is_beyond Equal = false
is_beyond Newer = true
is_beyond Confused = true

-- such a claim of one of the system's own ids comes from an earlier life of it, or from a copy that ran out elsewhere,
-- and is answered
abbrev pub is_answered : Own → LspId → Relation → Bool
is_answered own id r = same_system id.system own.system && is_beyond r

-- what a claim makes of what is held under its id: the answer to it, or what its rule says
abbrev pub heard_by : (Relation → Option Entry → Option Entry) → PortSet → Own → LspId → Version → Relation
    → Option Entry → Option Entry
heard_by rule up own id a r held = if is_answered own id r then Some (answered up own id (number_of a)) else rule r held

-- the part of a bridge that hearing changes
pub record Holding : Type 0 where
  pub db : Lsps
  pub own : Own

-- it holds as many ids that aren't own numbers as have room, or fewer
abbrev pub HasFewOthers : Holding → Type 0
HasFewOthers h = others h.own.system h.db ≤ most_others

-- an entry goes in, and its id has no room
abbrev pub lacks_place : Holding → LspId → Option Entry → Bool
lacks_place h id None = false
lacks_place h id (Some e) = not (has_room h.own.system h.db id)

-- after a claim: the entry under its id is what was heard, and no other changes. Where there is no place, nothing does
abbrev pub after_entry : Holding → LspId → Option Entry → Own → Holding
after_entry h id new own = if lacks_place h id new then h else record { db = changed_to h.db id new; own = own }

abbrev pub own_after : Own → LspId → Version → Relation → Own
own_after own id a r = if is_answered own id r then answering own id (number_of a) else own

unfoldable pub after_claim : (Relation → Option Entry → Option Entry) → PortSet → Claim → Holding → Holding
after_claim rule up c h =
    let held = get h.db c.id in
    let r = relation c.version (version_in held) in
    after_entry h c.id (heard_by rule up h.own c.id c.version r held) (own_after h.own c.id c.version r)

-- whether a claim needs a place for its id, and there is none
unfoldable pub is_full : (Relation → Option Entry → Option Entry) → PortSet → Claim → Holding → Bool
is_full rule up c h =
    let held = get h.db c.id in
    lacks_place h c.id (heard_by rule up h.own c.id c.version (relation c.version (version_in held)) held)

-- after an LSP heard at a port, and whether it needed a place that there wasn't
abbrev pub hear_lsp_of : PortSet → ℕ → LspValue → Holding → Holding
hear_lsp_of up port l h = after_claim (lsp_rule up port l) up (claim_of l) h

abbrev pub is_full_for_lsp : PortSet → ℕ → LspValue → Holding → Bool
is_full_for_lsp up port l h = is_full (lsp_rule up port l) up (claim_of l) h

-- after an entry of an SNP heard at a port, and whether it needed a place that there wasn't
abbrev pub hear_entry_of : PortSet → ℕ → Claim → Holding → Holding
hear_entry_of up port c h = after_claim (snp_rule up port c.version) up c h

abbrev pub is_full_for_entry : PortSet → ℕ → Claim → Holding → Bool
is_full_for_entry up port c h = is_full (snp_rule up port c.version) up c h

-- What an origination and a purge make of a database (ISO/IEC 10589, 7.3.7 and 7.3.16.4).
use Rattle.std.specs.Prelude.{ℕ, ◌+◌, List, [], true, Option, Some, None, is_some, nat_lt, if◌then◌else◌}
use Rattle.std.specs.FinMap.{get, insert}
use Rattle.spb_types.specs.declared.address.LspId.{LspId}
use Rattle.spb_types.specs.declared.ports.PortSet.{PortSet}
use Rattle.lsdb.specs.declared.version.Version.{Version}
use Rattle.lsdb.specs.declared.version.Version.TheVariants.{Absent, Live, Dead}
use Rattle.lsdb.specs.Version.{number_of}
use Rattle.lsdb.specs.Entry.{Entry, made, purged}
use Rattle.lsdb.specs.Database.{Lsps, version_in, version_at, ssn_in, changed}
use Rattle.flooding.specs.declared.own.Own.{Own}
use Rattle.flooding.specs.Own.{last_number, own_number, body_of_number, renewed}
use Rattle.flooding.specs.Hearing.{Holding}

-- ---- an origination

-- an own LSP dead at its number, to be sent at every Up port, its SSN flags as they were
abbrev pub spent_entry : PortSet → ℕ → Option Entry → Entry
spent_entry up seq held = made (Dead seq) 0 [] up (ssn_in held)

-- an own LSP after an origination goes one number further; at the last one it is dead, and the system spent
abbrev pub next_entry : PortSet → LspId → List ℕ → ℕ → Option Entry → Entry
next_entry up id body seq held =
    if nat_lt seq last_number then renewed up id body (seq + 1) else spent_entry up seq held

abbrev pub next_own : Own → ℕ → Own
next_own own seq = if nat_lt seq last_number then own else record own { spent = true }

-- an origination of an id with this body, from what is held under it
abbrev pub originated_as : PortSet → LspId → List ℕ → Option Entry → Holding → Holding
originated_as up id body held h = record {
  db = insert h.db id (next_entry up id body (number_of (version_in held)) held);
  own = next_own h.own (number_of (version_in held));
}

abbrev pub originated_by : PortSet → ℕ → Option (List ℕ) → Holding → Holding
originated_by up number None h = h
originated_by up number (Some body) h =
    let id = own_number h.own.system number in
    originated_as up id body (get h.db id) h

-- after an origination of a number, if the system has a body for it; a spent system originates no more
unfoldable pub originated : PortSet → ℕ → Holding → Holding
originated up number h = if h.own.spent then h else originated_by up number (body_of_number h.own number) h

-- ---- a purge

-- what is live under an id, with this version, becomes dead at its number, to be sent at every Up port
abbrev pub purged_at : PortSet → LspId → Version → Lsps → Lsps
purged_at up id Absent db = db
purged_at up id (Live seq sum) db = changed (purged seq up) db id
purged_at up id (Dead seq) db = db

-- after a purge of the own LSP of a number
abbrev pub number_purged : PortSet → ℕ → Holding → Holding
number_purged up number h =
    let id = own_number h.own.system number in
    record h { db = purged_at up id (version_at h.db id) h.db }

-- ---- either

-- a number brought up to what the system says: originated where the system has a body for it, and else purged
abbrev pub brought_up : PortSet → ℕ → Holding → Holding
brought_up up number h =
    if is_some (body_of_number h.own number) then originated up number h else number_purged up number h

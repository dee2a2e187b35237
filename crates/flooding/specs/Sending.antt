-- Which LSPs are to be sent at a port, and how each is sent (ISO/IEC 10589, 7.3.15.5 and 9.8).
use Rattle.std.specs.Prelude.{ℕ, List, map, filter}
use Rattle.std.specs.FinMap.{entries}
use Rattle.spb_types.specs.declared.address.LspId.{LspId}
use Rattle.spb_types.specs.Ports.{has}
use Rattle.isis_pdu.specs.Pdu.{LspValue}
use Rattle.lsdb.specs.Version.{number_of, sum_of}
use Rattle.lsdb.specs.Entry.{Entry}
use Rattle.lsdb.specs.Database.{Lsps}
use Rattle.flooding.specs.Own.{flags_in, tlvs_of_body}

-- the ids of the entries that are to be sent at a port, in the order of the entries
abbrev pub ids_among : ℕ → List (LspId × Entry) → List LspId
ids_among port es = map (λ e. e.0) (filter (λ e. has e.1.srm port) es)

-- the ids that are to be sent at a port, in order of id
abbrev pub ids_to_send : Lsps → ℕ → List LspId
ids_to_send db port = ids_among port (entries db)

-- the LSP of an entry. A dead one is the header alone, since its body is the flags octet
abbrev pub lsp_in : LspId → Entry → LspValue
lsp_in id e = record {
  lifetime = e.lifetime;
  id = id;
  seq = number_of e.version;
  sum = sum_of e.version;
  flags = flags_in e.body;
  tlvs = tlvs_of_body e.body;
}

-- the LSPs that are to be sent at a port, in order of id
abbrev pub lsps_to_send : Lsps → ℕ → List LspValue
lsps_to_send db port = map (λ e. lsp_in e.0 e.1) (filter (λ e. has e.1.srm port) (entries db))

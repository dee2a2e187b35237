-- The tables that a bridge makes of the LSPs that it holds (RFC 6329, 15 and 16; IEEE 802.1aq, 8.8 and 28.10).
use Rattle.std.specs.Prelude.{ℕ, zero, suc, ◌+◌, List, [], ◌∷◌, ◌++◌, Bool, ◌&&◌, ◌==◌, nat_lt, Option, Some, None, if◌then◌else◌}
use Rattle.std.specs.Option.{option_map, unwrap_or}
use Rattle.std.specs.List.{filter_map}
use Rattle.std.specs.FinMap.{entries}
use Rattle.std.specs.Ordering.{is_eq}
use Rattle.spb_types.specs.declared.address.SystemId.{SystemId}
use Rattle.spb_types.specs.declared.address.LspId.{LspId}
use Rattle.spb_types.specs.declared.graph.Graph.{Graph}
use Rattle.spb_types.specs.declared.tables.Tables.{Tables}
use Rattle.lsdb.specs.declared.version.Version.{Version}
use Rattle.lsdb.specs.declared.version.Version.TheVariants.{Absent, Live, Dead}
use Rattle.lsdb.specs.Entry.{Entry}
use Rattle.lsdb.specs.Database.{Lsps, id_cmp}
use Rattle.flooding.specs.Own.{own_numbers, own_number, tlvs_of_body}
use Rattle.spb_content.specs.declared.content.Content.{Content}
use Rattle.spb_content.specs.Content.{content_in}
use Rattle.spb_content.specs.Graph.{Contents}
use Rattle.spb_content.specs.Building.{said_graph}
use Rattle.fdb_build.specs.Tables.{unicast_rows}
use Rattle.fdb_build.specs.Groups.{group_rows}
use Rattle.bridge_api.specs.View.{BridgeView}

-- ---- the LSPs that are read

-- an id under which a system originates an LSP: its pseudonode is 0, and its number one of those that systems use
abbrev pub is_numbered : LspId → Bool
is_numbered id = (id.pseudonode == 0) && nat_lt id.number own_numbers

-- the body of an LSP of this version, if it is live
abbrev pub live_body : Version → List ℕ → Option (List ℕ)
live_body Absent body = None
live_body (Live seq sum) body = Some body
live_body (Dead seq) body = None

-- the body of what is held under an id, if it is live
abbrev pub body_if_live : Option Entry → Option (List ℕ)
body_if_live None = None
body_if_live (Some e) = live_body e.version e.body

-- what is held under an id, with its body, if it is live and a system originates it
abbrev pub live_lsp : LspId × Entry → Option (LspId × List ℕ)
live_lsp held =
    if is_numbered held.0
    then option_map (λ body. (held.0, body)) (live_body held.1.version held.1.body)
    else None

-- the live LSPs that systems originate, of all that is held, in order of their ids: nothing else is read
abbrev pub live_lsps : Lsps → List (LspId × List ℕ)
live_lsps db = filter_map live_lsp (entries db)

-- ---- what they say

-- the body of the first of these LSPs that has an id
abbrev pub body_among : List (LspId × List ℕ) → LspId → Option (List ℕ)
body_among [] id = None
body_among (lsp ∷ lsps) id = if is_eq (id_cmp id lsp.0) then Some lsp.1 else body_among lsps id

-- the TLVs of the LSP under an id, and where there is none no TLVs
abbrev pub tlvs_under : List (LspId × List ℕ) → LspId → List ℕ
tlvs_under lsps id = tlvs_of_body (unwrap_or (body_among lsps id) [])

-- the TLVs of the LSPs of a system with so many numbers, from number k on, put together
abbrev pub tlvs_among : List (LspId × List ℕ) → SystemId → ℕ → ℕ → List ℕ
tlvs_among lsps x zero k = []
tlvs_among lsps x (suc n) k = tlvs_under lsps (own_number x k) ++ tlvs_among lsps x n (k + 1)

-- what a system says: its LSPs are fragments of one, and read together (ISO/IEC 10589, 7.3.7)
abbrev pub said_among : List (LspId × List ℕ) → SystemId → Content
said_among lsps x = content_in (tlvs_among lsps x own_numbers 0)

-- what is read at an LSP: all that its system says, if the LSP has number 0. So nothing is read of a system without
-- that one (ISO/IEC 10589, 7.2.5)
abbrev pub read_at : List (LspId × List ℕ) → LspId × List ℕ → Option (SystemId × Content)
read_at lsps lsp = if lsp.0.number == 0 then Some (lsp.0.system, said_among lsps lsp.0.system) else None

-- what is read of all systems, in order of these LSPs
abbrev pub contents_among : List (LspId × List ℕ) → Contents
contents_among lsps = filter_map (read_at lsps) lsps

-- what a bridge reads
abbrev pub contents_of : BridgeView → Contents
contents_of v = contents_among (live_lsps v.database)

-- the graph of all that it reads, reached or not
abbrev pub read_graph : BridgeView → Graph
read_graph v = said_graph (contents_of v)

-- ---- its tables

-- the tables of a bridge: its unicast rows and its group rows in that graph
unfoldable pub own_tables : BridgeView → Tables
own_tables v = record {
  unicast = unicast_rows (read_graph v) v.id.system v.vids;
  group = group_rows (read_graph v) v.id.system v.vids;
}

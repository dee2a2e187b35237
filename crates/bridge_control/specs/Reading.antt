-- What a graph was read of.
use Rattle.std.specs.Prelude.{◌≡◌, ℕ, List, Option, map}
use Rattle.std.specs.Option.{option_and_then}
use Rattle.std.specs.List.{AllByRecursion}
use Rattle.spb_types.specs.declared.address.LspId.{LspId}
use Rattle.spb_types.specs.declared.address.SystemId.{SystemId}
use Rattle.spb_types.specs.declared.graph.Graph.{Graph}
use Rattle.spb_types.specs.Graph.{IsValidFor}
use Rattle.lsdb.specs.Entry.{Entry}
use Rattle.spb_content.specs.declared.content.Content.{Content}
use Rattle.spb_content.specs.Building.{said_graph}
use Rattle.spb_content.specs.Graph.{HasOwnPorts}
use Rattle.bridge_api.specs.Tables.{live_lsp, read_at, contents_among}
use Rattle.bridge_control.specs.declared.shared_reading.LiveLsp.{LiveLsp}

-- what is read at an entry that is held, among the LSPs that are read
abbrev pub read_entry : List (LspId × List ℕ) → LspId × Entry → Option (SystemId × Content)
read_entry lsps held = option_and_then (read_at lsps) (live_lsp held)

-- all these LSPs have number 0
abbrev pub AreFirst : List (LspId × List ℕ) → Type 0
AreFirst lsps = AllByRecursion (λ lsp. lsp.0.number ≡ 0) lsps

-- an LSP that was copied, with its id
abbrev pub copied : LiveLsp → LspId × List ℕ
copied lsp = (lsp.id, lsp.body.items)

-- the graph of all that these LSPs say; it is valid for each bridge that says its ports to be apart
pub record IsReadOf (lsps : List LiveLsp) (g : Graph) : Type 0 where
  pub graph_is : g ≡ said_graph (contents_among (map copied lsps))
  pub valid_for : (x : SystemId) → HasOwnPorts (contents_among (map copied lsps)) x → IsValidFor g x

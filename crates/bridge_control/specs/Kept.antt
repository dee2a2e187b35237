-- What is kept between two calls: tables, and what was read from the LSPs.
use Rattle.std.specs.Prelude.{◌≡◌, Option, Some, None, ⊤}
use Rattle.spb_types.specs.declared.tables.Tables.{Tables}
use Rattle.fdb_build.specs.Fabric.{FabricView}
use Rattle.bridge_api.specs.View.{BridgeView}
use Rattle.bridge_api.specs.Tables.{own_tables}
use Rattle.bridge_api.specs.Graph.{read_graph}

-- where some are kept, they are those of the bridge
abbrev pub AreOwn : BridgeView → Option Tables → Type 0
AreOwn v None = ⊤
AreOwn v (Some tables) = tables ≡ own_tables v

-- a graph with base VIDs is what a bridge reads
abbrev pub IsOwnReading : BridgeView → FabricView → Type 0
IsOwnReading v r = r ≡ record { graph = read_graph v; vids = v.vids }

-- where something is kept that was read, it is so
abbrev pub IsOwnIfKept : BridgeView → Option FabricView → Type 0
IsOwnIfKept v None = ⊤
IsOwnIfKept v (Some r) = IsOwnReading v r

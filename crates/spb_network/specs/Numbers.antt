-- The sequence numbers with which a bridge's life ends, as they are read from what it holds, LSP by LSP.
use Rattle.std.specs.Prelude.{◌≡◌, ℕ, List, Bool, ◌&&◌, ◌==◌, Some, slice_get, slice_set, if◌then◌else◌}
use Rattle.spb_types.specs.declared.address.SystemId.{SystemId}
use Rattle.spb_types.specs.declared.address.LspId.{LspId}
use Rattle.spb_types.specs.Address.{same_system}
use Rattle.lsdb.specs.Entry.{Entry}
use Rattle.lsdb.specs.Version.{number_of}
use Rattle.bridge_api.specs.View.{BridgeView}

-- the bridge at a place is that of a system, if there is one
abbrev pub IsSystemAt : List BridgeView → ℕ → SystemId → Type 0
IsSystemAt views i system = (v : BridgeView) → slice_get views i ≡ Some v → v.id.system ≡ system

-- whether an id is that of one of a system's own LSPs, whatever its number
abbrev pub is_of : SystemId → LspId → Bool
is_of system id = same_system id.system system && (id.pseudonode == 0)

-- the numbers after one more LSP was read: an own one has its sequence number noted at the place of its number, if
-- there is such a place
abbrev pub with_number_of : SystemId → LspId × Entry → List ℕ → List ℕ
with_number_of system e numbers =
    if is_of system e.0 then slice_set numbers e.0.number (number_of e.1.version) else numbers

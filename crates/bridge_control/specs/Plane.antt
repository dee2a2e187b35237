-- A control plane that may be blank or failed.
use Rattle.std.specs.Prelude.{◌≡◌, Bool, true, false, Option}
use Rattle.spb_types.specs.declared.tables.Tables.{Tables}
use Rattle.fdb_build.specs.Fabric.{FabricView}
use Rattle.bridge_api.specs.View.{BridgeView}
use Rattle.bridge_control.specs.declared.machine.Machine.{Machine}
use Rattle.bridge_control.specs.Machine.{view_of, IsReady}
use Rattle.bridge_control.specs.Kept.{AreOwn, IsOwnIfKept}

-- what is seen of it: whether it wasn't configured yet, and the bridge that it controls. Of a blank one the bridge says
-- nothing but that it isn't failed
pub record Plane : Type 0 where
  pub blank : Bool
  pub view : BridgeView

abbrev pub plane_of : Bool → Bool → Machine → Plane
plane_of blank failed m = record { blank = blank; view = record (view_of m) { failed = failed } }

-- a blank one isn't failed; one that is neither is ready for the next call, and keeps no tables but its own, nor what
-- another read
pub record IsKept (blank failed : Bool) (m : Machine) (kept : Option Tables) (read : Option FabricView) : Type 0 where
  pub unfailed : blank ≡ true → failed ≡ false
  pub ready : blank ≡ false → failed ≡ false → IsReady m
  pub tables : blank ≡ false → failed ≡ false → AreOwn (view_of m) kept
  pub reading : blank ≡ false → failed ≡ false → IsOwnIfKept (view_of m) read

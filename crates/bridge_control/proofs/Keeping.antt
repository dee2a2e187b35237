-- A control plane between two calls.
use Rattle.std.proofs.Common.{◌≡◌, ℕ, Bool, true, false, List, refl, sym, ap, ◌∙◌, subst, Option, Some, None, Result, Ok, Err}
use Rattle.std.specs.Prelude.{OnOk, ◌||◌}
use Rattle.std.specs.Option.{option_map}
use Rattle.std.specs.List.{list_any}
use Rattle.std.specs.Result.{is_err}
use Rattle.spb_types.specs.declared.memory.NoMemory.{NoMemory}
use Rattle.lsdb.specs.Database.{any_flags}
use Rattle.bridge_api.specs.declared.port.BridgePort.{BridgePort}
use Rattle.bridge_api.specs.declared.config.BridgeConfig.{BridgeConfig}
use Rattle.bridge_api.specs.View.{BridgeView, port_in, has_carrier_in, has_carrier_at, adjacency_at, is_csnp_due_in, is_csnp_due_at, has_flags}
use Rattle.bridge_api.specs.Config.{IsWhole, configured}
use Rattle.bridge_api.specs.Step.{Input, step}
use Rattle.bridge_api.specs.Laws.{IsInput, IsSoundView}
use Rattle.bridge_api.proofs.Sound.{configured_is_sound, steps_stay_sound}
use Rattle.bridge_control.specs.declared.machine.Machine.{Machine}
use Rattle.bridge_control.specs.Machine.{view_of, IsReady, IsAfter}
use Rattle.bridge_control.specs.Plane.{Plane, plane_of, IsKept}
use Rattle.bridge_control.specs.Kept.{AreOwn, IsOwnIfKept}
use Rattle.fdb_build.specs.Fabric.{FabricView}
use Rattle.spb_types.specs.declared.tables.Tables.{Tables}

ready_after : (v : BridgeView) (m : Machine) → IsSoundView v → IsAfter v m → IsReady m
ready_after v m sound is = record { sound = subst IsSoundView (sym is.view) sound; current = is.current }

stepped : {T : Type 0} (r : Result T NoMemory) (input : Input) (old m : Machine) → IsReady old → IsInput (view_of old) input → OnOk r (IsAfter (step input (view_of old)) m) → is_err r ≡ false → IsReady m
stepped (Ok x) input old m ready is after e = ready_after (step input (view_of old)) m (steps_stay_sound input (view_of old) is ready.sound) after
stepped (Err x) input old m ready is after e = absurd cc

on_ok_is : {T P : Type 0} (r : Result T NoMemory) → OnOk r P → is_err r ≡ false → P
on_ok_is (Ok x) is e = is
on_ok_is (Err x) is e = absurd cc

-- where nothing is kept that was read, it is its own
none_read : (v : BridgeView) (read : Option FabricView) → read ≡ None → IsOwnIfKept v read
none_read v read none = subst (IsOwnIfKept v) (sym none) tt

-- after a step that keeps tables of its own, and nothing that was read
pub kept_with : {T : Type 0} (r : Result T NoMemory) (input : Input) (blank failed : Bool) (old m : Machine) (kept : Option Tables) (read : Option FabricView) → blank ≡ false → IsReady old → IsInput (view_of old) input → failed ≡ is_err r → OnOk r (IsAfter (step input (view_of old)) m)
    → OnOk r (AreOwn (view_of m) kept) → read ≡ None → IsKept blank failed m kept read
kept_with r input blank failed old m kept read made ready is after_sending after own none = record {
  unfailed = λ e. absurd (let no : true ≡ false = sym e ∙ made in cc);
  ready = λ e f. stepped r input old m ready is after (sym after_sending ∙ f);
  tables = λ e f. on_ok_is r own (sym after_sending ∙ f);
  reading = λ e f. none_read (view_of m) read none;
}

-- after a step that keeps none
pub kept_step : {T : Type 0} (r : Result T NoMemory) (input : Input) (blank failed : Bool) (old m : Machine) (read : Option FabricView) → blank ≡ false → IsReady old → IsInput (view_of old) input → failed ≡ is_err r → OnOk r (IsAfter (step input (view_of old)) m)
    → read ≡ None → IsKept blank failed m None read
kept_step r input blank failed old m read made ready is after_sending after none = record {
  unfailed = λ e. absurd (let no : true ≡ false = sym e ∙ made in cc);
  ready = λ e f. stepped r input old m ready is after (sym after_sending ∙ f);
  tables = λ e f. tt;
  reading = λ e f. none_read (view_of m) read none;
}

-- after a change that keeps none
pub kept_after : (v : BridgeView) (blank failed : Bool) (m : Machine) (read : Option FabricView) → blank ≡ false → IsSoundView v → IsAfter v m → read ≡ None → IsKept blank failed m None read
kept_after v blank failed m read made sound is none = record {
  unfailed = λ e. absurd (let no : true ≡ false = sym e ∙ made in cc);
  ready = λ e f. ready_after v m sound is;
  tables = λ e f. tt;
  reading = λ e f. none_read (view_of m) read none;
}

pub kept_configured : (c : BridgeConfig) (failed : Bool) (m : Machine) → IsWhole c → IsAfter (configured c) m → IsKept false failed m None None
kept_configured c failed m whole is = record {
  unfailed = λ e. absurd cc;
  ready = λ e f. ready_after (configured c) m (configured_is_sound c whole) is;
  tables = λ e f. tt;
  reading = λ e f. tt;
}

-- ---- questions

pub adjacent_is : (blank failed : Bool) (m : Machine) (plane : Plane) (p : ℕ) (ports : List BridgePort) (port : BridgePort) → plane_of blank failed m ≡ plane → ports ≡ m.ports.items → port_in ports p ≡ Some port → Some port.adjacency ≡ adjacency_at plane.view p
unfolding adjacency_at
adjacent_is blank failed m plane p ports port same are there =
    sym (ap (option_map (λ (x : BridgePort). x.adjacency)) (sym (ap (λ (ps : List BridgePort). port_in ps p) (are ∙ ap (λ (x : Plane). x.view.ports) same)) ∙ there))

pub due_is : (blank failed : Bool) (m : Machine) (plane : Plane) (p : ℕ) (ports : List BridgePort) (port : BridgePort) → plane_of blank failed m ≡ plane → ports ≡ m.ports.items → port_in ports p ≡ Some port → port.csnp_due ≡ is_csnp_due_at plane.view p
unfolding is_csnp_due_at
due_is blank failed m plane p ports port same are there =
    sym (ap is_csnp_due_in (sym (ap (λ (ps : List BridgePort). port_in ps p) (are ∙ ap (λ (x : Plane). x.view.ports) same)) ∙ there))

pub carrier_is : (blank failed : Bool) (m : Machine) (plane : Plane) (p : ℕ) (ports : List BridgePort) (port : BridgePort) → plane_of blank failed m ≡ plane → ports ≡ m.ports.items → port_in ports p ≡ Some port → port.adjacency.carrier ≡ has_carrier_at plane.view p
unfolding has_carrier_at
carrier_is blank failed m plane p ports port same are there =
    sym (ap has_carrier_in (sym (ap (λ (ps : List BridgePort). port_in ps p) (are ∙ ap (λ (x : Plane). x.view.ports) same)) ∙ there))

flags_by : (a b c : Bool) → a ≡ b → a ≡ true → a ≡ (b || c)
flags_by a true c e t = t
flags_by a false c e t = absurd (let no : true ≡ false = sym t ∙ e in cc)

or_by : (a b : Bool) → a ≡ false → b ≡ (a || b)
or_by true b e = absurd cc
or_by false b e = refl

pub flags_stand : (blank failed : Bool) (m : Machine) (plane : Plane) (flags : Bool) → plane_of blank failed m ≡ plane → flags ≡ any_flags m.db → flags ≡ true → flags ≡ has_flags plane.view
unfolding has_flags
flags_stand blank failed m plane flags same is stand =
    flags_by flags (any_flags m.db) (list_any (λ port. port.csnp_due) m.ports.items) is stand
    ∙ ap (λ (x : Plane). any_flags x.view.database || list_any (λ port. port.csnp_due) x.view.ports) same

pub due_stands : (blank failed : Bool) (m : Machine) (plane : Plane) (flags due : Bool) → plane_of blank failed m ≡ plane → flags ≡ any_flags m.db → flags ≡ false → due ≡ list_any (λ port. port.csnp_due) m.ports.items → due ≡ has_flags plane.view
unfolding has_flags
due_stands blank failed m plane flags due same is none after_sending =
    (after_sending ∙ or_by (any_flags m.db) (list_any (λ port. port.csnp_due) m.ports.items) (sym is ∙ none))
    ∙ ap (λ (x : Plane). any_flags x.view.database || list_any (λ port. port.csnp_due) x.view.ports) same

use Rattle.std.proofs.Common.{◌≡◌, length, take}
use Rattle.std.specs.FinMap.{entries}
use Rattle.bridge_control.specs.Made.{AreMadeOf}
use Rattle.bridge_control.proofs.made.frames_to_send.Given as goal

abbrev pub invariant-make : goal.invariant-make
invariant-make l = (length l.frames.items ≡ l.k) × AreMadeOf l.system (entries l.db) (take l.k l.places) l.frames.items

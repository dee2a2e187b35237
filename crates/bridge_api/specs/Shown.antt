-- What a box shows.
use Rattle.std.specs.Prelude.{List, map, Bool}
use Rattle.bridge_api.specs.declared.kind.Kind.{Kind}
use Rattle.bridge_api.specs.View.{BridgeView}

-- a box: its kind, which never changes; whether its bridge wasn't configured yet; and the bridge as it is seen from
-- outside, which of a blank one says nothing but that it isn't failed
pub record Shown : Type 0 where
  pub kind : Kind
  pub blank : Bool
  pub view : BridgeView

-- the bridge in a box
abbrev pub view_in : {B : Type 0} → (B → Shown) → B → BridgeView
view_in shown b = (shown b).view

-- the bridges in a list of boxes
abbrev pub views_of : {B : Type 0} → (B → Shown) → List B → List BridgeView
views_of shown boxes = map (view_in shown) boxes

-- What becomes of the LSPs under the ids of a bridge's own system in a step (ISO/IEC 10589, 7.3.7 and 7.3.16).
use Rattle.std.specs.Prelude.{◌≡◌}
use Rattle.std.specs.FinMap.{get}
use Rattle.spb_types.specs.declared.address.LspId.{LspId}
use Rattle.flooding.specs.Advancing.{Advanced}
use Rattle.bridge_api.specs.View.{BridgeView}
use Rattle.bridge_api.specs.Step.{Input, step}

-- version and body stay, or the number becomes greater, or the LSP is dead at a number that isn't lower, whatever comes
-- to the bridge. So no live version comes to stand with a second body
abbrev pub StepsAdvance : Type 0
StepsAdvance = (input : Input) (v : BridgeView) (id : LspId) → id.system ≡ v.id.system
    → Advanced (get v.database id) (get (step input v).database id)

-- A configured bridge is sound, and stays so.
use Rattle.std.proofs.Common.{arith}
use Rattle.flooding.proofs.OwnNumbers.{some_number}
use Rattle.bridge_api.specs.View.{BridgeView}
use Rattle.bridge_api.specs.Own.{IsOwnLspCurrent}
use Rattle.bridge_api.specs.Config.{configured}
use Rattle.bridge_api.specs.Step.{step}
use Rattle.bridge_api.specs.Laws.{ConfiguredIsSound, StepsStaySound}
use Rattle.bridge_api.proofs.Attached.{with_attached_after, config_after}
use Rattle.bridge_api.proofs.Certified.{steps_keep_bridge, step_rest}
use Rattle.bridge_api.proofs.Data.{Holds, has_lsps}
use Rattle.bridge_api.proofs.SoundPorts.{ports_stay_sound, config_kept, configured_config, configured_sound, configured_has_no_carrier}
use Rattle.bridge_api.proofs.DataSteps.{step_holds}
use Rattle.bridge_api.proofs.Configured.{configured_holds, configured_is_saying}
use Rattle.bridge_api.proofs.OwnPorts.{others_of}
use Rattle.bridge_api.proofs.Learned.{configured_learned, steps_stay_learned}
use Rattle.bridge_api.proofs.OwnLspSteps.{IsSaying, was_saying, steps_stay_saying}

own_lsp_current_by : (v : BridgeView) → IsSaying v → Holds v → IsOwnLspCurrent v
own_lsp_current_by v saying held = record { current = saying; text = held.text 0 (omega (arith, some_number)); others = others_of v held.text }

pub configured_is_sound : ConfiguredIsSound
configured_is_sound c whole = record {
  config = configured_config c whole;
  few = omega (arith, (configured_has_no_carrier c whole).ports, whole.ports);
  ports = configured_sound c whole;
  database = has_lsps (configured c) (configured_holds c whole);
  own = own_lsp_current_by (configured c) (configured_is_saying c whole) (configured_holds c whole);
  learned = configured_learned c;
}

pub steps_stay_sound : StepsStaySound
steps_stay_sound input v is was =
    let held : Holds (step input v) = step_holds input v is was in
    record {
      config = config_kept (with_attached_after input v) (step input v) (step_rest input v) (config_after input v is was.config);
      few = omega (arith, (steps_keep_bridge input v).ports, was.few);
      ports = ports_stay_sound input v is was.ports;
      database = has_lsps (step input v) held;
      own = own_lsp_current_by (step input v) (steps_stay_saying input v (was_saying v was)) held;
      learned = steps_stay_learned input v was.learned;
    }

-- What one change would make of what is declared: a link that fails or comes back, or an end of one that gets a metric.
use Rattle.std.specs.Prelude.{ℕ, List, true, false, Option, None}
use Rattle.std.specs.Option.{option_map_or}
use Rattle.scenario.specs.declared.command.Command.{Command}
use Rattle.scenario.specs.declared.command.Command.TheVariants as command
pub use Rattle.scenario.specs.Extras.{is_change}
use Rattle.spb_world.specs.declared.reason.Reason.{Reason}
use Rattle.spb_world.specs.World.{World, place_of}
use Rattle.spb_world.specs.Declaring.{with_live, with_end_metric}
use Rattle.spb_world.specs.Naming.{down_refusal, up_refusal, metric_refusal}

-- why it can't be made, if it can't
abbrev pub change_refusal : World → Command → Option Reason
change_refusal w (command.Down link) = down_refusal w link
change_refusal w (command.Up link) = up_refusal w link
change_refusal w (command.Metric link side metric) = metric_refusal w link metric
change_refusal w c = None

-- what becomes of the link of a name
abbrev pub with_link_changed : (ℕ → World) → World → List ℕ → World
with_link_changed change w link = option_map_or change (place_of link w.links) w

-- the world after it
unfoldable pub with_change : World → Command → World
with_change w (command.Down link) = with_link_changed (with_live false w) w link
with_change w (command.Up link) = with_link_changed (with_live true w) w link
with_change w (command.Metric link side metric) = with_link_changed (with_end_metric side metric w) w link
with_change w c = w

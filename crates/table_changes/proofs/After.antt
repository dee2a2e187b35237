-- A sound world is sound after a change that isn't refused.
use Rattle.std.proofs.Common.{◌≡◌, ℕ, true, false, Option, None, Some, refl}
use Rattle.std.specs.Option.{option_map_or}
use Rattle.scenario.specs.declared.command.Command.{Command}
use Rattle.scenario.specs.declared.command.Command.TheVariants as command
use Rattle.spb_world.specs.World.{World, Sound, place_of}
use Rattle.spb_world.specs.Changing.{change_refusal, with_change}
use Rattle.spb_world.specs.Declaring.{with_live, with_end_metric}
use Rattle.spb_world.proofs.WorldLemmas.{Sound-with_live, Sound-with_end_metric}
use Rattle.spb_world.proofs.RefusalLemmas.{metric_refusal_none}

sound_where : (w : World) (change : ℕ → World) (o : Option ℕ) → Sound w → ((k : ℕ) → o ≡ Some k → Sound (change k)) → Sound (option_map_or change o w)
sound_where w change None sound changed = sound
sound_where w change (Some k) sound changed = changed k refl

pub sound_after : (w : World) (c : Command) → Sound w → change_refusal w c ≡ None → Sound (with_change w c)
unfolding with_change
sound_after w (command.Down link) sound h = sound_where w (with_live false w) (place_of link w.links) sound (λ k at. Sound-with_live false w k sound)
sound_after w (command.Up link) sound h = sound_where w (with_live true w) (place_of link w.links) sound (λ k at. Sound-with_live true w k sound)
sound_after w (command.Metric link side m) sound h = sound_where w (with_end_metric side m w) (place_of link w.links) sound (λ k at. Sound-with_end_metric side m w k (metric_refusal_none w link m k at h) sound)
sound_after w c sound h = sound

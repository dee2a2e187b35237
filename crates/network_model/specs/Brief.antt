-- How long the frames are that come to bridges.
use Rattle.std.specs.Prelude.{◌≤◌, length}
use Rattle.std.specs.List.{AllByRecursion}
use Rattle.scenario.specs.declared.command.Command.{Command}
use Rattle.bridge_laws.specs.Brief.{most_frame_bytes}
use Rattle.network_model.specs.declared.delivered.Delivered.{Delivered}
use Rattle.network_model.specs.State.{State}
use Rattle.network_model.specs.Captured.{seen_of}
use Rattle.network_model.specs.Sound.{IsSoundState}

-- a frame that comes to a bridge has no more bytes than a bridge makes
abbrev pub IsBrief : Delivered → Type 0
IsBrief d = length d.frame ≤ most_frame_bytes

-- so is each that a command delivers in a sound network
abbrev pub SeenIsBrief : Type 0
SeenIsBrief = (s : State) (c : Command) → IsSoundState s → AllByRecursion IsBrief (seen_of s c)

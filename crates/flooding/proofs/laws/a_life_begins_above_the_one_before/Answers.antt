use Rattle.flooding.proofs.Begun.{starting_is_alone}
use Rattle.flooding.proofs.Started.{starting_keeps_sendable, starting_keeps_flags, starting_keeps_few, starting_brings_few, starting_keeps_silence, starting_leaves_own_body}
use Rattle.flooding.proofs.laws.a_life_begins_above_the_one_before.Goals as goal

pub returns : goal.returns
returns c = record {
  alone = starting_is_alone;
  sendable = starting_keeps_sendable;
  flags = starting_keeps_flags;
  few = starting_keeps_few;
  brings = starting_brings_few;
  silence = starting_keeps_silence;
  body = starting_leaves_own_body;
}

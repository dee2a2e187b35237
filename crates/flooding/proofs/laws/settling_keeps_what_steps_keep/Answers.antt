use Rattle.flooding.proofs.Settled.{settling_is_certified, settling_leaves_own_body, settling_keeps_sendable, settling_keeps_flags, settling_keeps_silence}
use Rattle.flooding.proofs.laws.settling_keeps_what_steps_keep.Goals as goal

pub returns : goal.returns
returns c = record {
  certified = settling_is_certified;
  body = settling_leaves_own_body;
  sendable = settling_keeps_sendable;
  flags = settling_keeps_flags;
  silence = settling_keeps_silence;
}

use Rattle.flooding.proofs.Flags.{stored_flags, flooded_flags, asked_flags, acked_flags, cleared_flags, offered_flags, flagged_flags, srm_set_flags, port_cleared_flags, aged_flags, expired_flags, spent_flags}
use Rattle.flooding.proofs.laws.flags_are_read_port_by_port.Goals as goal

pub returns : goal.returns
returns c = record {
  stored = stored_flags;
  flooded = flooded_flags;
  asked = asked_flags;
  acked = acked_flags;
  cleared = cleared_flags;
  offered = offered_flags;
  flagged = flagged_flags;
  srm_set = srm_set_flags;
  port_cleared = port_cleared_flags;
  aged = aged_flags;
  expired = expired_flags;
  spent = spent_flags;
}

use Rattle.lsdb.proofs.Certified.{standing, steps_compose, silence_serves_all, entry_steps_compose}
use Rattle.lsdb.proofs.laws.certified_steps_compose.Goals as goal

pub returns : goal.returns
returns c = record { standing = standing; through = steps_compose; silence = silence_serves_all; entries = entry_steps_compose }

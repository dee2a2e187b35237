use Rattle.scenario.proofs.ExtraLaws.{extras_are_no_commands}
use Rattle.scenario.proofs.laws.extras_are_no_commands.Goals as goal

pub returns : goal.returns
returns c = extras_are_no_commands

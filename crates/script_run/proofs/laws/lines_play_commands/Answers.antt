use Rattle.script_run.proofs.Commands.{lines_play_commands}
use Rattle.script_run.proofs.laws.lines_play_commands.Goals as goal

pub returns : goal.returns
returns c = lines_play_commands

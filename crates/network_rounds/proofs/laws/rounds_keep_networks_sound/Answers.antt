use Rattle.network_rounds.proofs.Along.{rounds_are_rounds, commands_are_rounds, single_commands_are_rounds, rounds_stay_sound, rounds_stay_counted, rounds_split, rounds_have_last}
use Rattle.network_rounds.proofs.laws.rounds_keep_networks_sound.Goals as goal

pub returns-clause-rounds : goal.returns-clause-rounds
returns-clause-rounds c = rounds_are_rounds

pub returns-clause-sound : goal.returns-clause-sound
returns-clause-sound c = rounds_stay_sound

pub returns-clause-counted : goal.returns-clause-counted
returns-clause-counted c = rounds_stay_counted

pub returns-clause-last : goal.returns-clause-last
returns-clause-last c = rounds_have_last

pub returns-clause-command : goal.returns-clause-command
returns-clause-command c = commands_are_rounds

pub returns-clause-single : goal.returns-clause-single
returns-clause-single c = single_commands_are_rounds

pub returns-clause-split : goal.returns-clause-split
returns-clause-split c = rounds_split

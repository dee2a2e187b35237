use Rattle.itag_frames.proofs.BackboneLaws.{encapsulated_again, encapsulated_is_no_control}
use Rattle.itag_frames.proofs.laws.encapsulated_again.Goals as goal

pub returns-clause-opened : goal.returns-clause-opened
returns-clause-opened c = encapsulated_again

pub returns-clause-no_control : goal.returns-clause-no_control
returns-clause-no_control c = encapsulated_is_no_control

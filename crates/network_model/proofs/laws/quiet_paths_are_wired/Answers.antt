use Rattle.network_model.proofs.QuietPaths.{frames_go_one_path, path_is_true}
use Rattle.network_model.proofs.laws.quiet_paths_are_wired.Goals as goal

pub returns-clause-frames : goal.returns-clause-frames
returns-clause-frames c = frames_go_one_path

pub returns-clause-answer : goal.returns-clause-answer
returns-clause-answer c = path_is_true

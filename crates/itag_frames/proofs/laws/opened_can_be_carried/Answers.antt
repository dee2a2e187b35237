use Rattle.itag_frames.proofs.BackboneLaws.{opened_can_be_carried, opened_is_whole}
use Rattle.itag_frames.proofs.laws.opened_can_be_carried.Goals as goal

pub returns-clause-bytes : goal.returns-clause-bytes
returns-clause-bytes c = opened_can_be_carried

pub returns-clause-whole : goal.returns-clause-whole
returns-clause-whole c = opened_is_whole

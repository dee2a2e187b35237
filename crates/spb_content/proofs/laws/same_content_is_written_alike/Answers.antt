use Rattle.spb_content.proofs.Groups.{same_is_written, written_is_same}
use Rattle.spb_content.proofs.laws.same_content_is_written_alike.Goals as goal

pub returns : goal.returns
returns c = record { written = same_is_written; said = written_is_same }

use Rattle.spb_content.proofs.SaidMembers.{said_members}
use Rattle.spb_content.proofs.laws.members_are_read.Goals as goal

pub returns : goal.returns
returns c = λ l is active. said_members l is.attached active

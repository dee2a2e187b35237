use Rattle.bridge_laws.proofs.Brief.{sent_is_brief}
use Rattle.bridge_laws.proofs.laws.frames_are_brief.Goals as goal

pub returns : goal.returns
returns c = sent_is_brief

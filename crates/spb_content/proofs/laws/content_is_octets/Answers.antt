use Rattle.spb_content.proofs.Octets.{content_is_octets, fragments_are_octets}
use Rattle.spb_content.proofs.laws.content_is_octets.Goals as goal

pub returns : goal.returns
returns c = record { one = content_is_octets; fragments = fragments_are_octets }

use Rattle.spb_content.proofs.Lengths.{own_fits}
use Rattle.spb_content.proofs.laws.content_fits.Goals as goal

pub returns : goal.returns
returns c = own_fits

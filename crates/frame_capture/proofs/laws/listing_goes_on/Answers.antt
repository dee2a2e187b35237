use Rattle.frame_capture.proofs.Listings.{listing_goes_on}
use Rattle.frame_capture.proofs.laws.listing_goes_on.Goals as goal

pub returns : goal.returns
returns c = listing_goes_on

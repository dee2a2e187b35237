use Rattle.frame_capture.proofs.Listings.{captures_are_listed, listings_are_captures}
use Rattle.frame_capture.proofs.laws.captures_are_listed.Goals as goal

pub returns-clause-listed : goal.returns-clause-listed
returns-clause-listed c = captures_are_listed

pub returns-clause-captures : goal.returns-clause-captures
returns-clause-captures c = listings_are_captures

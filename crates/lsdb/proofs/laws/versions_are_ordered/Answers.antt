use Rattle.lsdb.proofs.Order.{itself, both_ways, through, least}
use Rattle.lsdb.proofs.laws.versions_are_ordered.Goals as goal

pub returns : goal.returns
returns c = record { reflexive = itself; antisymmetric = both_ways; transitive = through; least = least }

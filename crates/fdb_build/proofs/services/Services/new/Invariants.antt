use Rattle.std.proofs.Common.{take}
use Rattle.fdb_build.specs.Making.{AreServicesOf}
use Rattle.fdb_build.proofs.services.Services.new.Given as goal

abbrev pub invariant-loop-member : goal.invariant-loop-member
invariant-loop-member l = AreServicesOf l.roads (take l.member-index l.member-items) l.vid l.services

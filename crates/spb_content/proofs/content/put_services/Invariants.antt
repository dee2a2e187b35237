use Rattle.std.proofs.Common.{◌≡◌, ◌++◌, take, map}
use Rattle.spb_content.proofs.content.put_services.Given as goal

abbrev pub invariant-loop-service : goal.invariant-loop-service
invariant-loop-service l = l.services.items ≡ l.fn.services.items ++ map (λ s. (l.mac, l.vid, s)) (take l.service-index l.more)

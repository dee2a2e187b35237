use Rattle.std.proofs.Common.{◌≡◌, ◌++◌, take}
use Rattle.std.specs.List.{flat_map}
use Rattle.spb_tlvs.specs.Capability.{service_bytes}
use Rattle.spb_tlvs.proofs.capability.put_isids.Given as goal

abbrev pub invariant-loop-service : goal.invariant-loop-service
invariant-loop-service l = l.out.items ≡ l.fn.out.items ++ flat_map service_bytes (take l.service-index l.services)

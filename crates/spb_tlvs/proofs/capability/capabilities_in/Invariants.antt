use Rattle.std.proofs.Common.{◌≡◌, true, length}
use Rattle.std.specs.List.{list_all}
use Rattle.spb_tlvs.specs.Tlv.{tlvs_in}
use Rattle.spb_tlvs.specs.Capability.{is_sub_whole, sub_capabilities_of}
use Rattle.spb_tlvs.proofs.CapabilitySteps.{said_after}
use Rattle.spb_tlvs.proofs.capability.capabilities_in.Given as goal

abbrev pub invariant-loop-sub : goal.invariant-loop-sub
invariant-loop-sub l =
    (list_all is_sub_whole (tlvs_in l.rest) ≡ true) × (said_after l.capabilities.items l.rest ≡ sub_capabilities_of l.subs)

abbrev pub decreases-loop-sub : goal.decreases-loop-sub
decreases-loop-sub l = length l.rest

use Rattle.std.proofs.Common.{◌≡◌, ◌++◌, take}
use Rattle.std.specs.List.{flat_map}
use Rattle.spb_tlvs.specs.Capability.{tree_bytes}
use Rattle.spb_tlvs.proofs.capability.put_trees.Given as goal

abbrev pub invariant-loop-plan : goal.invariant-loop-plan
invariant-loop-plan l = l.out.items ≡ l.fn.out.items ++ flat_map tree_bytes (take l.plan-index l.trees)

use Rattle.std.proofs.Common.{◌≡◌, ◌++◌, length}
use Rattle.spb_content.specs.Content as spec
use Rattle.spb_content.proofs.content.capabilities_in.Given as goal

-- what was read, and then what the rest says, is all of it
abbrev pub invariant-loop-code : goal.invariant-loop-code
invariant-loop-code l = l.capabilities.items ++ spec.capabilities_in l.rest ≡ spec.capabilities_in l.tlvs

abbrev pub decreases-loop-code : goal.decreases-loop-code
decreases-loop-code l = length l.rest

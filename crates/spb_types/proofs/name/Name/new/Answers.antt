use Rattle.spb_types.specs.Padding.{IsPadded-made}
use Rattle.spb_types.proofs.name.Name.new.Goals as goal

pub invariant_of-result : goal.invariant_of-result
invariant_of-result c = rw c.copy_from_slice.ensures.after (IsPadded-made c.args.bytes.now (cc))

use Rattle.std.proofs.Common.{◌*◌, arith}
use Rattle.spb_content.proofs.Fitting.{sliced}
use Rattle.spb_content.proofs.fragments.part_of.Goals as goal

pub returns : goal.returns
returns c = sliced _ _ (60 * c.args.number) c.args.services.now (omega arith) (omega arith)

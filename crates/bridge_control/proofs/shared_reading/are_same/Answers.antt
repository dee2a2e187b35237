use Rattle.std.proofs.lemmas.Slice.Eq.{slice_eq-Decides}
use Rattle.bridge_control.proofs.Compared.{same_plan}
use Rattle.bridge_control.proofs.shared_reading.are_same.Goals as goal

pub returns : goal.returns
returns c = slice_eq-Decides same_plan c.args.vids.now c.args.others.now c.eq.result c.eq.ensures

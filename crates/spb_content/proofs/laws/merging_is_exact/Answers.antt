use Rattle.spb_content.proofs.Merged.{merged_says, merged_again}
use Rattle.spb_content.proofs.laws.merging_is_exact.Goals as goal

pub returns : goal.returns
returns c = record { says = merged_says; again = merged_again }

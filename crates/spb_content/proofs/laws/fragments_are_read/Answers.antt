use Rattle.spb_content.proofs.Parts.{few_services}
use Rattle.spb_content.proofs.Told.{fragments_are_read, others_say_services}
use Rattle.spb_content.proofs.laws.fragments_are_read.Goals as goal

pub returns : goal.returns
returns c = record { few = few_services; read = fragments_are_read; others = others_say_services }

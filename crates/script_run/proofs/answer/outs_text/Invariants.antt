use Rattle.std.proofs.Common.{◌≡◌, take}
use Rattle.std.specs.List.{flat_map}
use Rattle.script_run.specs.Answer.{text_of_out}
use Rattle.script_run.proofs.answer.outs_text.Given as goal

abbrev pub invariant-loop-out : goal.invariant-loop-out
invariant-loop-out l = l.text.items ≡ flat_map text_of_out (take l.out-index l.frames)

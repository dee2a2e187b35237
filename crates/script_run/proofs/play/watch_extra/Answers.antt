use Rattle.std.proofs.Common.{sym, subst}
use Rattle.spb_network.specs.Network.{state_of}
use Rattle.extra_answers.specs.Refusing.{extra_refusal}
use Rattle.script_run.specs.Play.{judged_extra}
use Rattle.script_run.specs.Replying.{Watched}
use Rattle.script_run.proofs.Asked.{question_is}
use Rattle.script_run.proofs.play.watch_extra.Goals as goal

pub returns-in-WhatIf-clause-ok : goal.returns-in-WhatIf-clause-ok
returns-in-WhatIf-clause-ok g c =
    let s = state_of g.B.Bridge.shown c.args.network.now in
    let number = c.args.number in
    let extra = c.args.extra.now in
    subst (λ j. Watched j c.watch_question.result c.args.seen.now.items s) (sym (question_is s number extra c.in-WhatIf.is))
    (subst (λ seen. Watched (judged_extra s number extra (extra_refusal s.world extra)) c.watch_question.result seen s) (sym c.requires.none)
    (c.watch_question.ensures number))

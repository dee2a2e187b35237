use Rattle.std.proofs.Common.{◌≡◌, [], IfOk, ap, sym, subst, ◌∙◌}
use Rattle.network_model.specs.declared.answer.Answer.{Answer}
use Rattle.spb_network.specs.Network.{state_of}
use Rattle.network_model.specs.Play.{answer_to_asked}
use Rattle.network_model.specs.State.{State}
use Rattle.spb_network.proofs.Keeping.{asked_answer, question_plays, on_ok}
use Rattle.spb_network.proofs.network.NetworkOf.ask.Goals as goal

pub returns-clause-answer : goal.returns-clause-answer
returns-clause-answer g c =
    subst (λ (a : Answer). IfOk c.answer.result (λ answer. answer ≡ a)) (sym (asked_answer (state_of g.B.Bridge.shown c.args.self.now) c.args.command.now c.requires.question))
    (subst (λ (s : State). IfOk c.answer.result (λ answer. answer ≡ answer_to_asked s c.args.command.now)) (c.keep_if_asked.ensures.state ∙ c.in_ok-prepare.ensures.state) c.answer.ensures)

pub returns-clause-state : goal.returns-clause-state
returns-clause-state g c =
    let s : State = state_of g.B.Bridge.shown c.args.self.now in
    let same : s ≡ record s { outs = [] } = λ i. record s { outs = c.requires.sound.outs i } in
    on_ok c.answer.result (c.keep_if_asked.ensures.state ∙ (c.in_ok-prepare.ensures.state ∙ (same ∙ ap (λ (t : State). record t { outs = [] }) (sym (question_plays s c.args.command.now c.requires.question)))))

pub returns-clause-made : goal.returns-clause-made
returns-clause-made g c = on_ok c.answer.result c.keep_if_asked.ensures.sound.made

pub returns-clause-kept : goal.returns-clause-kept
returns-clause-kept g c = on_ok c.answer.result c.keep_if_asked.ensures.sound.kept

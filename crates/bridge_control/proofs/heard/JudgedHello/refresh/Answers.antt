use Rattle.std.proofs.Common.{◌≤◌, sym, ap, ◌∙◌, subst}
use Rattle.std.specs.Prelude.{if◌then◌else◌}
use Rattle.isis_pdu.specs.Pdu.{HelloValue}
use Rattle.adjacency.specs.Hearing.{keeps_up}
use Rattle.adjacency.specs.Adjacency.{after_hello, change_by_hello}
use Rattle.bridge_control.proofs.heard.JudgedHello.refresh.Goals as goal

pub refresh-requires-clause-holding : goal.refresh-requires-clause-holding
refresh-requires-clause-holding c =
    subst (λ (h : HelloValue). 1 ≤ h.holding) (sym c.hello.ensures) (c.requires.holding c.if-not-self.false)

pub returns-clause-new : goal.returns-clause-new
returns-clause-new c =
    c.refresh.ensures.new ∙ ap (λ (h : HelloValue). if c.refresh.result then record c.args.adjacency.now { hold = h.holding } else c.args.adjacency.now) c.hello.ensures

pub returns-clause-heard : goal.returns-clause-heard
returns-clause-heard c = λ done me port judged.
    let way = c.args.self.now.said.way in
    c.refresh.ensures.heard done me port (ap (λ (h : HelloValue). keeps_up me port h way) c.hello.ensures ∙ judged c.if-not-self.false)
    ∙ ap (λ (h : HelloValue). after_hello me port h way c.args.adjacency.now) c.hello.ensures

pub returns-clause-kept : goal.returns-clause-kept
returns-clause-kept c = λ done me port judged.
    let way = c.args.self.now.said.way in
    sym (ap (λ (h : HelloValue). change_by_hello me port h way c.args.adjacency.now) c.hello.ensures)
    ∙ c.refresh.ensures.kept done me port (ap (λ (h : HelloValue). keeps_up me port h way) c.hello.ensures ∙ judged c.if-not-self.false)

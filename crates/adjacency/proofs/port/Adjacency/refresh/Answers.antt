use Rattle.std.proofs.Common.{sym, ◌∙◌}
use Rattle.isis_pdu.specs.Pdu.{hello_of}
use Rattle.adjacency.proofs.Refreshing.{refreshes, refreshed_is}
use Rattle.adjacency.proofs.port.Adjacency.refresh.Goals as goal

pub returns-then-not-is_up_with-clause-exact : goal.returns-then-not-is_up_with-clause-exact
returns-then-not-is_up_with-clause-exact c = λ me port keeps.
    sym c.if-not-is_up_with.true ∙ (c.is_up_with.ensures ∙ refreshed_is me port (hello_of c.args.hello.now) c.args.way.now c.args.self.now keeps)

pub returns-clause-exact : goal.returns-clause-exact
returns-clause-exact c = λ me port keeps.
    sym c.if-not-is_up_with.false ∙ (c.is_up_with.ensures ∙ refreshed_is me port (hello_of c.args.hello.now) c.args.way.now c.args.self.now keeps)

pub returns-clause-heard : goal.returns-clause-heard
returns-clause-heard c = λ done me port keeps.
    let up = sym c.is_up_with.ensures ∙ c.if-not-is_up_with.false in
    (refreshes me port (hello_of c.args.hello.now) c.args.way.now c.args.self.now c.requires.sound
    (sym (refreshed_is me port (hello_of c.args.hello.now) c.args.way.now c.args.self.now keeps) ∙ up)).new

pub returns-clause-kept : goal.returns-clause-kept
returns-clause-kept c = λ done me port keeps.
    let up = sym c.is_up_with.ensures ∙ c.if-not-is_up_with.false in
    (refreshes me port (hello_of c.args.hello.now) c.args.way.now c.args.self.now c.requires.sound
    (sym (refreshed_is me port (hello_of c.args.hello.now) c.args.way.now c.args.self.now keeps) ∙ up)).kept

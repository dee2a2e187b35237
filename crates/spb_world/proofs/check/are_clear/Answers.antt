use Rattle.std.proofs.Common.{sym, ◌∙◌, refl}
use Rattle.spb_world.specs.World.{things_of, is_at_port, is_between}
use Rattle.spb_world.specs.Declaring.{is_free_port, is_unlinked}
use Rattle.spb_world.proofs.ListLemmas.{none_of}
use Rattle.spb_world.proofs.check.are_clear.Goals as goal

pub returns-clause-free : goal.returns-clause-free
unfolding is_free_port
returns-clause-free c =
    let none = none_of (λ l. is_at_port l c.args.i c.args.port_a) (λ l. is_at_port l c.args.j c.args.port_b) (λ l. is_between l c.args.i c.args.j) (things_of c.args.links.now.entries) (sym c.is_any_near.ensures ∙ c.if-is_any_near.false) in
    rw (none.0, none.1) refl

pub returns-clause-unlinked : goal.returns-clause-unlinked
unfolding is_unlinked
returns-clause-unlinked c =
    let none = none_of (λ l. is_at_port l c.args.i c.args.port_a) (λ l. is_at_port l c.args.j c.args.port_b) (λ l. is_between l c.args.i c.args.j) (things_of c.args.links.now.entries) (sym c.is_any_near.ensures ∙ c.if-is_any_near.false) in
    rw none.2 refl

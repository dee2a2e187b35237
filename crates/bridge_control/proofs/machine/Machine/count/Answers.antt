use Rattle.std.proofs.Common.{sym, ◌∙◌}
use Rattle.bridge_control.proofs.Seconds.{counts_lowered_few, counts_lowered_same, counts_lowered_view_anew, counts_lowered_few_anew, counts_lowered_system_anew, counts_lowered_local_anew, counts_lowered_anew}
use Rattle.bridge_control.proofs.machine.Machine.count.Goals as goal

pub returns-then-not-count_down-clause-after : goal.returns-then-not-count_down-clause-after
returns-then-not-count_down-clause-after c =
    counts_lowered_same c.args.self.now c.count_down.new.ports c.count_down.new.db c.requires.ready c.count_down.ensures.ports c.count_down.ensures.db (sym c.count_down.ensures.lost ∙ c.if-not-count_down.true)

pub renew_hellos-requires-clause-few : goal.renew_hellos-requires-clause-few
renew_hellos-requires-clause-few c = counts_lowered_few c.args.self.now c.count_down.new.ports c.requires.ready c.count_down.ensures.ports

pub renew_hellos-requires-clause-me : goal.renew_hellos-requires-clause-me
renew_hellos-requires-clause-me c = c.requires.ready.current.ports.me

pub renew_hellos-requires-clause-heard : goal.renew_hellos-requires-clause-heard
renew_hellos-requires-clause-heard c = c.requires.ready.current.ports.heard

pub renew_bodies-requires-clause-few : goal.renew_bodies-requires-clause-few
renew_bodies-requires-clause-few c =
    let m = c.args.self.now in
    let is = counts_lowered_view_anew m c.renew_hellos.new.self c.count_down.new.ports c.count_down.new.db c.count_down.ensures.ports c.count_down.ensures.db c.in_ok-renew_hellos.ensures.view in
    counts_lowered_few_anew m c.renew_hellos.new.self c.requires.ready is

pub renew_bodies-requires-clause-system : goal.renew_bodies-requires-clause-system
renew_bodies-requires-clause-system c =
    let m = c.args.self.now in
    let is = counts_lowered_view_anew m c.renew_hellos.new.self c.count_down.new.ports c.count_down.new.db c.count_down.ensures.ports c.count_down.ensures.db c.in_ok-renew_hellos.ensures.view in
    counts_lowered_system_anew m c.renew_hellos.new.self c.requires.ready is c.in_ok-renew_hellos.ensures.own

pub renew_bodies-requires-clause-local : goal.renew_bodies-requires-clause-local
renew_bodies-requires-clause-local c =
    let m = c.args.self.now in
    let is = counts_lowered_view_anew m c.renew_hellos.new.self c.count_down.new.ports c.count_down.new.db c.count_down.ensures.ports c.count_down.ensures.db c.in_ok-renew_hellos.ensures.view in
    counts_lowered_local_anew m c.renew_hellos.new.self c.requires.ready is

pub returns-clause-after : goal.returns-clause-after
returns-clause-after c =
    let m = c.args.self.now in
    let is = counts_lowered_view_anew m c.renew_hellos.new.self c.count_down.new.ports c.count_down.new.db c.count_down.ensures.ports c.count_down.ensures.db c.in_ok-renew_hellos.ensures.view in
    counts_lowered_anew m c.renew_hellos.new.self c.renew_bodies.new.self c.in_ok-renew_hellos.ensures.ports is c.in_ok-renew_bodies.ensures

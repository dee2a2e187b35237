use Rattle.std.proofs.Common.{sym, ◌∙◌}
use Rattle.bridge_api.specs.Ticking.{counts_lowered}
use Rattle.bridge_control.specs.Machine.{view_of}
use Rattle.bridge_control.proofs.Seconds.{expired_after, expired_can, idle_said}
use Rattle.bridge_control.proofs.machine.Machine.prepare.Goals as goal

pub refresh-requires-clause-can : goal.refresh-requires-clause-can
refresh-requires-clause-can c =
    let n = c.count.new.self in
    let is = expired_after (counts_lowered (view_of c.args.self.now)) n n.up c.age_one-flags.new.self c.in_ok-lost.ensures.after c.in_ok-lost.ensures.after.current.ports.up c.age_one-flags.ensures.aged in
    expired_can c.args.self.now (record n { db = c.age_one-flags.new.self }) c.requires.ready is

pub refresh-requires-clause-current : goal.refresh-requires-clause-current
refresh-requires-clause-current c =
    let n = c.count.new.self in
    let is = expired_after (counts_lowered (view_of c.args.self.now)) n n.up c.age_one-flags.new.self c.in_ok-lost.ensures.after c.in_ok-lost.ensures.after.current.ports.up c.age_one-flags.ensures.aged in
    is.current

pub refresh-requires-clause-said : goal.refresh-requires-clause-said
refresh-requires-clause-said c = λ none fresh number below.
    let n = c.count.new.self in
    let is = expired_after (counts_lowered (view_of c.args.self.now)) n n.up c.age_one-flags.new.self c.in_ok-lost.ensures.after c.in_ok-lost.ensures.after.current.ports.up c.age_one-flags.ensures.aged in
    idle_said c.args.self.now (record n { db = c.age_one-flags.new.self }) c.requires.ready is (sym c.in_ok-lost.ensures.lost ∙ none) fresh number below

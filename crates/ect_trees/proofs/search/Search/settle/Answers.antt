use Rattle.std.proofs.Common.{◌+◌, ◌≤◌, length, arith}
use Rattle.ect_trees.specs.Search.{graph_of}
use Rattle.ect_trees.proofs.Settled.{settling_none, taken_first, settled_within, settling_more, settled_all, settled_few}
use Rattle.ect_trees.proofs.search.Search.settle.Goals as goal

pub loop-first-init : goal.loop-first-init
loop-first-init c = settling_none c.args.self.now c.args.labels.now.items c.args.front.now c.requires.state c.requires.front

pub relax_all-requires-clause-within : goal.relax_all-requires-clause-within
relax_all-requires-clause-within c =
    (taken_first c.args.self.now c.loop-first.settled c.loop-first.labels.items c.loop-first.front c.take_first.new.self c.in-Some.first c.requires.ready c.loop-first.invariant c.in-Some.ensures.first c.in-Some.ensures.least c.in-Some.ensures.others).within

pub relax_all-requires-clause-state : goal.relax_all-requires-clause-state
relax_all-requires-clause-state c =
    (taken_first c.args.self.now c.loop-first.settled c.loop-first.labels.items c.loop-first.front c.take_first.new.self c.in-Some.first c.requires.ready c.loop-first.invariant c.in-Some.ensures.first c.in-Some.ensures.least c.in-Some.ensures.others).state

pub overflow_add-settled : goal.overflow_add-settled
overflow_add-settled c =
    let s = c.args.self.now in
    let first = taken_first s c.loop-first.settled c.loop-first.labels.items c.loop-first.front c.take_first.new.self c.in-Some.first c.requires.ready c.loop-first.invariant c.in-Some.ensures.first c.in-Some.ensures.least c.in-Some.ensures.others in
    let within : c.loop-first.settled + 1 ≤ length (graph_of s).bridges = settled_within s c.loop-first.settled c.loop-first.labels.items c.relax_all.new.labels.items c.take_first.new.self c.relax_all.new.front c.in-Some.first first c.in_ok-relax_all.ensures.done in
    omega (arith, within, c.requires.ready.valid.few)

pub loop-first-preserved : goal.loop-first-preserved
loop-first-preserved c =
    let s = c.args.self.now in
    let first = taken_first s c.loop-first.settled c.loop-first.labels.items c.loop-first.front c.take_first.new.self c.in-Some.first c.requires.ready c.loop-first.invariant c.in-Some.ensures.first c.in-Some.ensures.least c.in-Some.ensures.others in
    settling_more s c.loop-first.settled c.loop-first.labels.items c.relax_all.new.labels.items c.take_first.new.self c.relax_all.new.front c.in-Some.first first c.in_ok-relax_all.ensures.state c.in_ok-relax_all.ensures.done

pub loop-first-smaller : goal.loop-first-smaller
loop-first-smaller c =
    let s = c.args.self.now in
    let first = taken_first s c.loop-first.settled c.loop-first.labels.items c.loop-first.front c.take_first.new.self c.in-Some.first c.requires.ready c.loop-first.invariant c.in-Some.ensures.first c.in-Some.ensures.least c.in-Some.ensures.others in
    let within : c.loop-first.settled + 1 ≤ length (graph_of s).bridges = settled_within s c.loop-first.settled c.loop-first.labels.items c.relax_all.new.labels.items c.take_first.new.self c.relax_all.new.front c.in-Some.first first c.in_ok-relax_all.ensures.done in
    omega (arith, within)

pub returns-clause-best : goal.returns-clause-best
returns-clause-best c = settled_all c.args.self.now c.loop-first.settled c.loop-first.labels.items c.loop-first.front c.requires.ready c.loop-first.invariant c.in_default.ensures.none

pub returns-clause-few : goal.returns-clause-few
returns-clause-few c = settled_few c.args.self.now c.loop-first.settled c.loop-first.labels.items c.loop-first.front c.loop-first.invariant

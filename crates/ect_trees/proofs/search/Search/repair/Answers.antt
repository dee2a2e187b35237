use Rattle.ect_trees.proofs.Repairing.{forgotten_state, forgotten_reaching}
use Rattle.ect_trees.proofs.search.Search.repair.Goals as goal

pub reach-requires-clause-state : goal.reach-requires-clause-state
reach-requires-clause-state c =
    forgotten_state c.args.self.now c.args.edge.now.a c.args.edge.now.b c.args.labels.now.items c.forget.new.labels.items c.new-front.result c.requires.before c.forget.ensures c.new-front.ensures

pub settle-requires-clause-front : goal.settle-requires-clause-front
settle-requires-clause-front c =
    c.in_ok-reach.ensures.reached
    (forgotten_reaching c.args.self.now c.args.edge.now.a c.args.edge.now.b c.args.labels.now.items c.forget.new.labels.items c.new-front.result c.requires.ready c.requires.before c.forget.ensures c.new-front.ensures)

use Rattle.std.proofs.Common.{sym, subst}
use Rattle.std.proofs.lemmas.Result.{on_ok_weaker}
use Rattle.ect_trees.specs.Arcs.{CanGo}
use Rattle.ect_trees.specs.Search.{graph_of, IsState, IsRelaxed}
use Rattle.ect_trees.proofs.Relaxed.{relaxed_state}
use Rattle.ect_trees.proofs.Repairing.{turned_goes, edge_none, edge_reached}
use Rattle.ect_trees.proofs.search.Search.reach_edge.Goals as goal

pub returns-in_default-clause-reached : goal.returns-in_default-clause-reached
returns-in_default-clause-reached c = λ a b at there.
    edge_none c.args.self.now a b c.args.labels.now.items c.args.front.now (c.in_default.ensures.none a b at there)

pub relax-requires-2-clause-arc : goal.relax-requires-2-clause-arc
relax-requires-2-clause-arc c =
    let g = graph_of c.args.self.now in
    subst (CanGo g) (sym c.turned.ensures) (turned_goes g c.in-Some.arc c.in-Some.ensures.some.leads)

pub relax-requires-2-clause-state : goal.relax-requires-2-clause-state
relax-requires-2-clause-state c =
    relaxed_state c.args.self.now c.in-Some.arc c.args.labels.now.items c.relax.new.labels.items c.args.front.now c.relax.new.front c.in-Some.ensures.some.leads c.requires.state c.in_ok-relax.ensures

pub returns-clause-state : goal.returns-clause-state
returns-clause-state c =
    let s = c.args.self.now in
    let arc = c.in-Some.arc in
    let leads = c.in-Some.ensures.some.leads in
    let half : IsState s c.relax.new.labels.items c.relax.new.front = relaxed_state s arc c.args.labels.now.items c.relax.new.labels.items c.args.front.now c.relax.new.front leads c.requires.state c.in_ok-relax.ensures in
    let back : CanGo (graph_of s) c.turned.result = subst (CanGo (graph_of s)) (sym c.turned.ensures) (turned_goes (graph_of s) arc leads) in
    on_ok_weaker c.relax-2.result (λ done. relaxed_state s c.turned.result c.relax.new.labels.items c.relax-2.new.labels.items c.relax.new.front c.relax-2.new.front back half done) c.relax-2.ensures

pub returns-clause-reached : goal.returns-clause-reached
returns-clause-reached c =
    let s = c.args.self.now in
    on_ok_weaker c.relax-2.result
    (λ done. edge_reached s c.args.from c.args.to c.in-Some.arc c.args.labels.now.items c.relax.new.labels.items c.relax-2.new.labels.items c.args.front.now c.relax.new.front c.relax-2.new.front c.requires.ready c.in-Some.ensures.some c.requires.state c.in_ok-relax.ensures
    (subst (λ t. IsRelaxed s t c.relax.new.labels.items c.relax-2.new.labels.items c.relax.new.front c.relax-2.new.front) c.turned.ensures done)) c.relax-2.ensures

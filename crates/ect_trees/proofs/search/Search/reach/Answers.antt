use Rattle.std.proofs.Common.{true≢false, sym, ◌∙◌, ap, is_some}
use Rattle.std.proofs.lemmas.Result.{on_ok_weaker}
use Rattle.ect_trees.specs.Search.{graph_of}
use Rattle.ect_trees.proofs.Places.{found_place, place_found}
use Rattle.ect_trees.proofs.Steps.{joined_bridges}
use Rattle.ect_trees.proofs.Repairing.{edge_none}
use Rattle.ect_trees.proofs.search.Search.reach.Goals as goal

pub returns-in-Some-Some-clause-reached : goal.returns-in-Some-Some-clause-reached
returns-in-Some-Some-clause-reached c =
    let g = graph_of c.args.self.now in
    let a = c.args.a in
    let b = c.args.b in
    let from = found_place g a c.in-Some-Some.from (sym c.place_of.ensures ∙ c.in-Some-Some.is-0) in
    let to = found_place g b c.in-Some-Some.to (sym c.place_of-2.ensures ∙ c.in-Some-Some.is-1) in
    on_ok_weaker c.reach_edge.result (λ done r. done a b from to (c.in_ok-reach_lost.ensures.reached a b r)) c.reach_edge.ensures.reached

pub returns-in_default-clause-reached : goal.returns-in_default-clause-reached
returns-in_default-clause-reached c = λ r.
    let s = c.args.self.now in
    let g = graph_of s in
    let a = c.args.a in
    let b = c.args.b in
    edge_none s a b c.reach_lost.new.labels.items c.reach_lost.new.front
    (λ joined. true≢false (sym (place_found g b (joined_bridges g a b c.requires.ready.valid joined).1) ∙ ap is_some (sym c.place_of-2.ensures ∙ c.in_default.is-1))) (c.in_ok-reach_lost.ensures.reached a b r)

pub returns-in_default-2-clause-reached : goal.returns-in_default-2-clause-reached
returns-in_default-2-clause-reached c = λ r.
    let s = c.args.self.now in
    let g = graph_of s in
    let a = c.args.a in
    let b = c.args.b in
    edge_none s a b c.reach_lost.new.labels.items c.reach_lost.new.front
    (λ joined. true≢false (sym (place_found g a (joined_bridges g a b c.requires.ready.valid joined).0) ∙ ap is_some (sym c.place_of.ensures ∙ c.in_default.is-0))) (c.in_ok-reach_lost.ensures.reached a b r)

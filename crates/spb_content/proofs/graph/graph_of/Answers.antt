use Rattle.spb_content.proofs.Whole.{built, graph_is, graph_valid, graph_valid_for}
use Rattle.spb_content.proofs.graph.graph_of.Goals as goal

pub returns-clause-graph : goal.returns-clause-graph
returns-clause-graph c =
    let b = built c.args.list.now _ c.args.me _ _ c.graph_among.result c.in_ok-backbone.ensures.list c.as_slice.ensures.value c.in_ok-walk.ensures c.graph_among.ensures in
    graph_is c.args.list.now c.args.me c.graph_among.result c.requires.apart b

pub returns-clause-valid : goal.returns-clause-valid
returns-clause-valid c =
    let b = built c.args.list.now _ c.args.me _ _ c.graph_among.result c.in_ok-backbone.ensures.list c.as_slice.ensures.value c.in_ok-walk.ensures c.graph_among.ensures in
    graph_valid c.args.list.now c.args.me c.graph_among.result c.requires.apart c.requires.few b

pub returns-clause-valid_for : goal.returns-clause-valid_for
returns-clause-valid_for c =
    let b = built c.args.list.now _ c.args.me _ _ c.graph_among.result c.in_ok-backbone.ensures.list c.as_slice.ensures.value c.in_ok-walk.ensures c.graph_among.ensures in
    graph_valid_for c.args.list.now c.args.me c.graph_among.result c.requires.apart c.requires.few b

use Rattle.spb_content.proofs.Uncut.{said_built, said_valid, said_valid_for}
use Rattle.spb_content.proofs.graph.said_graph_of.Goals as goal

pub returns-clause-graph : goal.returns-clause-graph
returns-clause-graph c = said_built c.args.list.now _ _ _ c.graph_among.result c.in_ok-backbone.ensures.list c.as_slice.ensures.value c.in_ok-marks.ensures c.graph_among.ensures

pub returns-clause-valid : goal.returns-clause-valid
returns-clause-valid c =
    said_valid c.args.list.now c.graph_among.result c.requires.apart c.requires.few
    (said_built c.args.list.now _ _ _ c.graph_among.result c.in_ok-backbone.ensures.list c.as_slice.ensures.value c.in_ok-marks.ensures c.graph_among.ensures)

pub returns-clause-valid_for : goal.returns-clause-valid_for
returns-clause-valid_for c =
    said_valid_for c.args.list.now c.graph_among.result c.requires.apart c.requires.few
    (said_built c.args.list.now _ _ _ c.graph_among.result c.in_ok-backbone.ensures.list c.as_slice.ensures.value c.in_ok-marks.ensures c.graph_among.ensures)

use Rattle.std.proofs.Common.{length, ap, ◌∙◌, arith}
use Rattle.bridge_control.specs.Machine.{view_of}
use Rattle.bridge_control.proofs.OwnTables.{read_apart, read_own_ports, graph_is, graph_valid}
use Rattle.bridge_control.proofs.machine.Machine.graph.Goals as goal

pub said_graph_of-requires-clause-apart : goal.said_graph_of-requires-clause-apart
said_graph_of-requires-clause-apart c = read_apart (view_of c.args.self.now) _ (c.as_slice.ensures.value ∙ c.in_ok-list.ensures.read)

pub said_graph_of-requires-clause-few : goal.said_graph_of-requires-clause-few
said_graph_of-requires-clause-few c = omega (arith, ap length c.as_slice.ensures.value, c.in_ok-list.ensures.few)

pub returns-clause-graph : goal.returns-clause-graph
returns-clause-graph c = graph_is (view_of c.args.self.now) _ c.said_graph_of.result (c.as_slice.ensures.value ∙ c.in_ok-list.ensures.read) c.said_graph_of.ensures.graph

pub returns-clause-valid : goal.returns-clause-valid
returns-clause-valid c =
    graph_valid (view_of c.args.self.now) c.as_slice.result.now c.said_graph_of.result (read_own_ports (view_of c.args.self.now) _ c.requires (c.as_slice.ensures.value ∙ c.in_ok-list.ensures.read)) c.said_graph_of.ensures.valid_for

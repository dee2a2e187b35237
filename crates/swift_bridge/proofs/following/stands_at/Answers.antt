use Rattle.std.proofs.Common.{sym, ◌∙◌, get_or, []}
use Rattle.spb_types.specs.declared.graph.Edge.{Edge}
use Rattle.swift_bridge.proofs.Edges.{same_edge, within_is}
use Rattle.swift_bridge.proofs.following.stands_at.Goals as goal

abbrev none : Edge
none = record { a = record { mac = record { bytes = [] } }; port_a = 0; b = record { mac = record { bytes = [] } }; port_b = 0; cost = 0 }

pub returns-then-place-edges : goal.returns-then-place-edges
returns-then-place-edges c t =
    let edges = c.args.edges.now in
    let low = c.if-place-edges.true in
    (c.args.place, low, within_is edges c.args.place c.args.edge.now none low ∙ same_edge (get_or edges c.args.place none) c.args.edge.now (sym c.eq.ensures ∙ t))

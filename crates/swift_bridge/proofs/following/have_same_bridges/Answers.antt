use Rattle.std.proofs.Common.{sym, ◌∙◌}
use Rattle.std.proofs.lemmas.Slice.Eq.{slice_eq-Decides}
use Rattle.swift_bridge.proofs.Edges.{same_bridge}
use Rattle.swift_bridge.proofs.following.have_same_bridges.Goals as goal

pub returns : goal.returns
returns c = λ is.
    sym c.as_slice.ensures ∙ ((slice_eq-Decides same_bridge c.as_slice.result.now c.as_slice-2.result.now c.eq.result c.eq.ensures).0 is ∙ c.as_slice-2.ensures)

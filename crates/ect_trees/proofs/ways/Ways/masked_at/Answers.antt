use Rattle.std.proofs.Common.{length, sym, ap, ◌∙◌, arith}
use Rattle.spb_types.specs.Address.{masked}
use Rattle.ect_trees.proofs.Places.{at_within, read_bridge}
use Rattle.ect_trees.proofs.ways.Ways.masked_at.Goals as goal

pub returns-then-place-bridges : goal.returns-then-place-bridges
returns-then-place-bridges c = λ x valid here.
    let g = c.args.self.now.mesh.now.graph in
    c.masked_id.ensures ∙ ap (masked c.args.self.now.mask) (sym (read_bridge g c.as_slice-bridges.result.now c.args.place x valid c.as_slice-bridges.ensures here).1)

pub returns-else-place-bridges : goal.returns-else-place-bridges
returns-else-place-bridges c = λ x valid here.
    let within = at_within c.args.self.now.mesh.now.graph c.args.place x here in
    absurd (omega (arith, within, c.if-place-bridges.false, ap length c.as_slice-bridges.ensures))

use Rattle.std.proofs.Common.{◌≡◌, ◌<◌, true, length, sym, ◌∙◌, subst, take, arith}
use Rattle.spb_types.specs.declared.graph.Graph.{Graph}
use Rattle.ect_trees.specs.Forest.{keeps}
use Rattle.fdb_build.specs.Fabric.{KeepsFrom}
use Rattle.fdb_build.proofs.RowLemmas.{All-map}
use Rattle.fdb_build.proofs.KeptLemmas.{one_more, from_still}
use Rattle.fdb_build.proofs.fabric.grow_under.Goals as goal

pub loop-planned-preserved : goal.loop-planned-preserved
loop-planned-preserved c =
    let before = c.loop-planned.forest in
    let after = c.grow.new.self in (
      c.in_ok-grow.ensures.graph ∙ c.loop-planned.invariant.0,
      (
        (λ from mask was. c.in_ok-grow.ensures.still from mask (c.loop-planned.invariant.1.0 from mask was)),
        λ within. one_more (KeepsFrom after c.args.place) c.args.plans.now c.loop-planned.planned-index c.planned-item.result (omega (arith, c.loop-planned-test.true)) c.planned-item.is
            (All-map (KeepsFrom before c.args.place) (KeepsFrom after c.args.place) (take c.loop-planned.planned-index c.args.plans.now) (from_still before after c.args.place c.in_ok-grow.ensures.still) (c.loop-planned.invariant.1.1 within))
            (subst (λ m. keeps after c.args.place m ≡ true) c.ect_mask.ensures
            (c.in_ok-grow.ensures.kept (subst (λ (g : Graph). c.args.place < length g.bridges) (sym c.loop-planned.invariant.0) within))),
      ),
    )

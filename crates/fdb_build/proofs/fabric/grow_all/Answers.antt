use Rattle.std.proofs.Common.{◌∙◌, take, arith}
use Rattle.fdb_build.specs.Fabric.{KeepsSenders}
use Rattle.fdb_build.proofs.RowLemmas.{All-map}
use Rattle.fdb_build.proofs.KeptLemmas.{one_more, senders_still}
use Rattle.fdb_build.proofs.fabric.grow_all.Goals as goal

pub loop-planned-preserved : goal.loop-planned-preserved
loop-planned-preserved c =
    let before = c.loop-planned.forest in
    let after = c.grow_senders.new.forest in (
      c.in_ok-grow_senders.ensures.graph ∙ c.loop-planned.invariant.0,
      one_more (KeepsSenders after) c.args.plans.now c.loop-planned.planned-index c.planned-item.result (omega (arith, c.loop-planned-test.true)) c.planned-item.is
          (All-map (KeepsSenders before) (KeepsSenders after) (take c.loop-planned.planned-index c.args.plans.now) (senders_still before after c.in_ok-grow_senders.ensures.still) c.loop-planned.invariant.1)
          c.in_ok-grow_senders.ensures.kept,
    )

use Rattle.ect_trees.specs.Followers.{NoneBefore}
use Rattle.ect_trees.proofs.followers.leads_on.Given as goal

abbrev pub invariant-loop-arc : goal.invariant-loop-arc
invariant-loop-arc l = NoneBefore l.mesh l.steps l.me l.arc-index

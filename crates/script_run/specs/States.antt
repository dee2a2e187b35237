-- The state that a script begins with, and what holds of each one that an accepted line leaves.
use Rattle.network_model.specs.declared.kind_rule.KindRule.{KindRule}
use Rattle.network_model.specs.Counted.{IsCounted}
use Rattle.network_model.specs.Sound.{IsSoundState}
use Rattle.network_model.specs.State.{State}
use Rattle.network_model.specs.Convergence.{QuietIsConverged}

-- the state of a network whose bridges take boxes by this rule
abbrev pub ruled : KindRule → State → State
ruled rule s = record s { rule = rule }

-- the network is sound, with its sequence numbers far from the last one, and where it is quiet, it tells what is there
pub record IsTrusted (s : State) : Type 0 where
  pub sound : IsSoundState s
  pub counted : IsCounted s
  pub converged : QuietIsConverged s

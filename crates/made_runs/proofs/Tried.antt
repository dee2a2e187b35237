-- A script that is made is played to its end, where the rack has boxes enough.
use Rattle.std.proofs.Common.{◌≡◌, ◌≤◌, ℕ, ap, ◌∙◌}
use Rattle.scenario_maker.specs.Made.{made}
use Rattle.network_model.specs.Sound.{opening}
use Rattle.network_model.specs.State.{State}
use Rattle.script_run.specs.declared.status.Status.TheVariants.{Done}
use Rattle.made_runs.specs.Applied.{applied}
use Rattle.made_runs.specs.MadeLaws.{HasBoxes}
use Rattle.made_runs.specs.Trying.{outcome_of, tried}
use Rattle.made_runs.proofs.MadeEvents.{made_is_applied}

pub tried_done : (s : State) (n : ℕ) → 4 ≤ n → n ≤ 96 → s ≡ opening s.rule s.rack → HasBoxes s.rule s.rack n
    → outcome_of (tried s n).refused ≡ Done
tried_done s n low high new boxes =
    ap outcome_of (ap (λ (t : State). (applied t 1 (made n)).refused) new ∙ made_is_applied s.rule s.rack n low high boxes)

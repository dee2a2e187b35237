-- Every script that is made is played to its end, where the rack has boxes enough.
use Rattle.std.specs.Prelude.{◌≡◌, ℕ, ◌+◌, ◌≤◌, List, None}
use Rattle.std.specs.List.{count_by}
use Rattle.scenario_maker.specs.Made.{made}
use Rattle.network_model.specs.declared.kind_rule.KindRule.{KindRule}
use Rattle.network_model.specs.State.{Spare, kind_at, serves}
use Rattle.network_model.specs.Sound.{opening}
use Rattle.network_model.specs.SoundLaws.{AreAccepted}
use Rattle.made_runs.specs.Applied.{applied}

-- of each kind that the rule gives a bridge at some place, the rack has a blank box for each of n bridges, and one more
-- for the bridge that restarts
abbrev pub HasBoxes : KindRule → List Spare → ℕ → Type 0
HasBoxes rule rack n = (place : ℕ) → n + 1 ≤ count_by (serves (kind_at rule place)) rack

-- each command of the script that is made for 4 to 96 bridges is accepted, by a network in which nothing is declared
abbrev pub MadeIsAccepted : Type 0
MadeIsAccepted =
    (rule : KindRule) (rack : List Spare) (n : ℕ) → 4 ≤ n → n ≤ 96 → HasBoxes rule rack n
    → AreAccepted (opening rule rack) (made n)

-- so none is refused when they are applied one after another
abbrev pub MadeIsApplied : Type 0
MadeIsApplied =
    (rule : KindRule) (rack : List Spare) (n : ℕ) → 4 ≤ n → n ≤ 96 → HasBoxes rule rack n
    → (applied (opening rule rack) 1 (made n)).refused ≡ None

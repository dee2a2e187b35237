-- What comes true of the questions of a script that change nothing and aren't refused.
use Rattle.std.specs.Prelude.{◌≡◌, ℕ, ◌+◌, List, [], ◌∷◌, Option, Some, None, Result, Ok, Err, ⊤}
use Rattle.spb_types.specs.declared.service.VidPlan.{VidPlan}
use Rattle.scenario.specs.declared.extra.Extra.{Extra}
use Rattle.scenario.specs.declared.extra.Extra.TheVariants.{WhatIf, Proof, Check}
use Rattle.scenario.specs.Extras.{extra_of}
use Rattle.spb_world.specs.World.{World}
use Rattle.extra_answers.specs.Answers.{planned_for}
use Rattle.extra_answers.specs.Laws.{IsRight, IsBestAnswer, PassesCheck}
use Rattle.network_model.specs.State.{State}
use Rattle.script_run.specs.Foretold.{ForetellsOf}
use Rattle.script_run.specs.Play.{judged}
use Rattle.script_run.specs.Text.{IfAccepted, AllStates}

-- where a line asks a question, this holds of it
abbrev pub IfAsks : Result (Option Extra) ℕ → (Extra → Type 0) → Type 0
IfAsks (Err column) holds = ⊤
IfAsks (Ok None) holds = ⊤
IfAsks (Ok (Some question)) holds = holds question

-- ---- what changes would do

-- a `whatif` in one state, where the other comes of its change alone, foretells the rows of all bridges there
abbrev pub Foretells : State → Extra → State → Type 0
Foretells s (WhatIf change) t = ForetellsOf s change t
Foretells s question t = ⊤

-- so it is of each question of lines, and of each state that an accepted line behind it leaves, from a state on, where
-- the first line has this number
abbrev pub AllForetell : State → ℕ → List (List ℕ) → Type 0
AllForetell s number [] = ⊤
AllForetell s number (line ∷ rest) = IfAccepted (judged s number line).refused
    (IfAsks (extra_of line) (λ question.
    AllStates (Foretells s question) (judged s number line).state (number + 1) rest)
    × AllForetell (judged s number line).state (number + 1) rest)

-- ---- proofs of paths

-- a `check` that no bridge fails is answered with the best path, and its entries are those of the best paths; and what
-- `proof` answers passes a check in the same world
abbrev pub IsProven : World → Extra → Type 0
IsProven w (Proof from to vid) =
    (plan : VidPlan) → planned_for w.vids vid ≡ Some plan → PassesCheck w from to vid plan
IsProven w (Check from to vid entries) = (plan : VidPlan) → planned_for w.vids vid ≡ Some plan
    → IsRight w plan from entries → IsBestAnswer w from to vid plan entries
IsProven w question = ⊤

-- so it is of each question of lines
abbrev pub AllAreProven : State → ℕ → List (List ℕ) → Type 0
AllAreProven s number [] = ⊤
AllAreProven s number (line ∷ rest) = IfAccepted (judged s number line).refused
    (IfAsks (extra_of line) (IsProven s.world) × AllAreProven (judged s number line).state (number + 1) rest)

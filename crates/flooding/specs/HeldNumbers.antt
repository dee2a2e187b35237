-- Which own numbers are held.
use Rattle.std.specs.Prelude.{◌≡◌, ℕ, ◌<◌, None}
use Rattle.flooding.specs.Own.{own_numbers}
use Rattle.flooding.specs.Hearing.{Holding}
use Rattle.flooding.specs.Settling.{own_held}

-- no own number above this one is
abbrev pub NoneAbove : ℕ → Holding → Type 0
NoneAbove last h = (number : ℕ) → last < number → number < own_numbers → own_held h number ≡ None

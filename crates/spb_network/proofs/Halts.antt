-- A network halts where a command runs out of memory, and nowhere else.
use Rattle.std.proofs.Common.{Result, Ok, Err, ◌≡◌, ◌⊎◌, inl, inr, ⊎_elim, true, false, true≢false, List, [], ◌∷◌, ◌++◌, refl, sym, ap, ◌∙◌}
use Rattle.scenario.specs.declared.command.Command.{Command}
use Rattle.bridge_api.specs.Shown.{Shown}
use Rattle.network_model.specs.declared.answer.Answer.{Answer}
use Rattle.spb_network.specs.declared.network.NetworkOf.{NetworkOf}
use Rattle.spb_network.specs.declared.apply_error.ApplyError.{ApplyError}
use Rattle.spb_network.specs.declared.apply_error.ApplyError.TheVariants as error
use Rattle.spb_network.specs.Applying.{Applies}
use Rattle.spb_network.specs.Halting.{Call, HasRunOut, AreCalls, HaltsWithoutMemory}

module _ {B : Type 0} (shown : B → Shown) where
  -- ---- one call

  apart : {P : Type 0} (n : NetworkOf B) → n.halted ≡ true → n.halted ≡ false → P
  apart n on off = absurd (true≢false (sym on ∙ off))

  why_halted : (n m : NetworkOf B) (c : Command) (r : Result Answer ApplyError) → Applies shown n c r m → m.halted ≡ true → (n.halted ≡ true) ⊎ (r ≡ Err error.NoMemory)
  why_halted n m c (Ok answer) is on = apart m on is.2
  why_halted n m c (Err (error.Refused reason)) is on = inl (ap (λ (x : NetworkOf B). x.halted) (sym is.2) ∙ on)
  why_halted n m c (Err error.NoMemory) is on = inr refl
  why_halted n m c (Err error.Halted) is on = inl is.0

  had_halted : (n m : NetworkOf B) (c : Command) (r : Result Answer ApplyError) → Applies shown n c r m → r ≡ Err error.Halted → n.halted ≡ true
  had_halted n m c (Ok answer) is says = absurd cc
  had_halted n m c (Err (error.Refused reason)) is says = absurd cc
  had_halted n m c (Err error.NoMemory) is says = absurd cc
  had_halted n m c (Err error.Halted) is says = is.0

  then_halted : (n m : NetworkOf B) (c : Command) (r : Result Answer ApplyError) → Applies shown n c r m → r ≡ Err error.NoMemory → m.halted ≡ true
  then_halted n m c (Ok answer) is says = absurd cc
  then_halted n m c (Err (error.Refused reason)) is says = absurd cc
  then_halted n m c (Err error.NoMemory) is says = is.2
  then_halted n m c (Err error.Halted) is says = absurd cc

  stays_halted : (n m : NetworkOf B) (c : Command) (r : Result Answer ApplyError) → Applies shown n c r m → n.halted ≡ true → (r ≡ Err error.Halted) × (m.halted ≡ true)
  stays_halted n m c (Ok answer) is on = apart n on is.0
  stays_halted n m c (Err (error.Refused reason)) is on = apart n on is.0
  stays_halted n m c (Err error.NoMemory) is on = apart n on is.0
  stays_halted n m c (Err error.Halted) is on = (refl, ap (λ (x : NetworkOf B). x.halted) is.1 ∙ on)

  -- ---- calls

  last_halts : (n : NetworkOf B) (before : List (Call B)) (last : Call B) → AreCalls shown n (before ++ last ∷ []) → last.result ≡ Err error.Halted → (n.halted ≡ true) ⊎ HasRunOut before
  last_halts n [] last calls says = inl (had_halted n last.network last.command last.result calls.0 says)
  last_halts n (c ∷ before) last calls says =
      ⊎_elim (λ on. ⊎_elim (λ was. inl was) (λ out. inr (inl out)) (why_halted n c.network c.command c.result calls.0 on)) (λ out. inr (inr out))
      (last_halts c.network before last calls.1 says)

  halts_last : (n : NetworkOf B) (before : List (Call B)) (last : Call B) → AreCalls shown n (before ++ last ∷ []) → (n.halted ≡ true) ⊎ HasRunOut before → last.result ≡ Err error.Halted
  halts_last n [] last calls (inl on) = (stays_halted n last.network last.command last.result calls.0 on).0
  halts_last n [] last calls (inr none) = absurd none
  halts_last n (c ∷ before) last calls (inl on) =
      halts_last c.network before last calls.1 (inl (stays_halted n c.network c.command c.result calls.0 on).1)
  halts_last n (c ∷ before) last calls (inr (inl out)) =
      halts_last c.network before last calls.1 (inl (then_halted n c.network c.command c.result calls.0 out))
  halts_last n (c ∷ before) last calls (inr (inr out)) = halts_last c.network before last calls.1 (inr out)

  pub halts_without_memory : HaltsWithoutMemory shown
  halts_without_memory n before last fresh calls = (
    λ says. ⊎_elim (λ on. apart n on fresh) (λ out. out) (last_halts n before last calls says),
    λ out. halts_last n before last calls (inr out),
  )

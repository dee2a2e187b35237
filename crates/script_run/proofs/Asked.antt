-- What asks for something and is no settling is a question that changes nothing.
use Rattle.std.proofs.Common.{◌≡◌, ◌⊎◌, ℕ, refl, sym, subst, inl, inr}
use Rattle.spb_types.specs.declared.entry_word.EntryWord.{EntryWord}
use Rattle.spb_types.specs.declared.name.Name.{Name}
use Rattle.spb_types.specs.declared.seq.Seq.{Seq}
use Rattle.scenario.specs.declared.command.Command.{Command}
use Rattle.scenario.specs.declared.extra.Extra.{Extra}
use Rattle.scenario.specs.declared.extra.Extra.TheVariants.{WhatIf, Proof, Check}
use Rattle.extra_answers.specs.Refusing.{extra_refusal}
use Rattle.network_model.specs.State.{State}
use Rattle.script_run.specs.Play.{judged_asked, judged_extra}

-- it is one of the three
abbrev IsQuestion : Extra → Type 0
IsQuestion extra = ((change : Command) × (extra ≡ WhatIf change))
    ⊎ (((from : Name) × (to : Name) × (vid : ℕ) × (extra ≡ Proof from to vid))
    ⊎ ((from : Name) × (to : Name) × (vid : ℕ) × (entries : Seq EntryWord) × (extra ≡ Check from to vid entries)))

module _ (s : State) (number : ℕ) where
  abbrev pub IsJudged : Extra → Type 0
  IsJudged extra = judged_asked s number extra ≡ judged_extra s number extra (extra_refusal s.world extra)

  pub question_is : (extra : Extra) → IsQuestion extra → IsJudged extra
  question_is extra (inl (change, is)) = subst IsJudged (sym is) refl
  question_is extra (inr (inl (from, to, vid, is))) = subst IsJudged (sym is) refl
  question_is extra (inr (inr (from, to, vid, entries, is))) = subst IsJudged (sym is) refl

-- The entries of a check, one after another.
use Rattle.std.proofs.Common.{◌≡◌, ℕ, zero, suc, ◌<◌, List, [], ◌∷◌, ◌++◌, Some, None, Result, Ok, Err, refl, sym, ap, ◌∙◌, arith}
use Rattle.spb_types.specs.declared.entry_word.EntryWord.{EntryWord}
use Rattle.scenario.specs.declared.error.LineError.{LineError}
use Rattle.scenario.specs.declared.error.LineError.TheVariants.{Words, NoMemory}
use Rattle.scenario.specs.Words.{Rest, next_more, at_end}
use Rattle.scenario.specs.WordForms.{entry}
use Rattle.scenario.specs.Grammar.{read, ◌giving◌}
use Rattle.scenario.specs.Answers.{Refuses}
use Rattle.scenario.specs.Extras.{more_entries}

-- one more was there
pub entry-more : {A : Type 0} (n m : ℕ) (given : List EntryWord → A) (es : List EntryWord) (e : EntryWord) (rest left : Rest) → n ≡ suc m
    → next_more entry rest ≡ Ok (Some e, left) → read (more_entries n given es) rest ≡ read (more_entries m given (es ++ (e ∷ []))) left
unfolding more_entries
entry-more n m given es e rest left same h = ap (λ (k : ℕ). read (more_entries k given es) rest) same ∙ by_one
  where
    by_one : read (more_entries (suc m) given es) rest ≡ read (more_entries m given (es ++ (e ∷ []))) left
    by_one = rw h refl

-- none was
pub entries-end : {A : Type 0} (n : ℕ) (given : List EntryWord → A) (es : List EntryWord) (rest left : Rest) → 0 < n
    → next_more entry rest ≡ Ok (None, left) → read (more_entries n given es) rest ≡ (at_end left giving given es)
unfolding more_entries
entries-end zero given es rest left low h = absurd (omega (arith, low))
entries-end (suc n) given es rest left low h = rw h refl

-- a word didn't fit
entry-wrong : {A : Type 0} (n : ℕ) (given : List EntryWord → A) (es : List EntryWord) (rest : Rest) (column : ℕ) → 0 < n
    → next_more entry rest ≡ Err column → read (more_entries n given es) rest ≡ Err column
unfolding more_entries
entry-wrong zero given es rest column low h = absurd (omega (arith, low))
entry-wrong (suc n) given es rest column low h = rw h refl

pub entry-refused : {A : Type 0} (e : LineError) (n : ℕ) (given : List EntryWord → A) (es : List EntryWord) (rest : Rest) (all : Result A ℕ) → 0 < n
    → Refuses e (next_more entry rest) → read (more_entries n given es) rest ≡ all → Refuses e all
entry-refused (Words column) n given es rest all low h same = sym same ∙ entry-wrong n given es rest column low h
entry-refused NoMemory n given es rest all low h same = absurd h

-- no more may follow
pub entries-full : {A : Type 0} (n : ℕ) (given : List EntryWord → A) (es : List EntryWord) (rest : Rest) → n ≡ 0
    → read (more_entries n given es) rest ≡ (at_end rest giving given es)
unfolding more_entries
entries-full n given es rest full = ap (λ (k : ℕ). read (more_entries k given es) rest) full

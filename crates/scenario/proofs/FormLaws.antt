use Rattle.std.proofs.Common.{◌≡◌, ℕ, List, [], ◌∷◌, Option, Some, None, Ok, refl, sym, ap, ◌∙◌}
use Rattle.scenario.specs.Words.{Word, Rest, next, next_more, some_read, at_end, meant}
use Rattle.scenario.specs.Grammar.{Kind, Value, meaning, Form, gives, takes, may_take, with_more, read, ◌giving◌, ◌then◌}
use Rattle.scenario.specs.Spelling.{SpellsForm, bytes_of}
use Rattle.scenario.proofs.Values.{spells-meaning, meaning-spelled}

abbrev pub rest : List Word → ℕ → Rest
rest words end = record { words = words; end = end }

-- the form behind a word that was read
taken : {A : Type 0} (k : Kind) (more : Value k → Form A) (command : A) (word : Word) (words : List Word) (end : ℕ)
    → ((v : Value k) → read (more v) (rest words end) ≡ Ok command → SpellsForm (more v) command (bytes_of words))
    → (o : Option (Value k)) → meaning k word.bytes ≡ o
    → (meant o word.column (rest words end) then (λ v left. read (more v) left)) ≡ Ok command
    → SpellsForm (takes k more) command (word.bytes ∷ bytes_of words)
taken k more command word words end ih None e h = cc
taken k more command word words end ih (Some v) e h = (v, spells-meaning k v word.bytes e, ih v h)

-- a word more that is there is read as the next word is
pub more-read : {A : Type 0} (k : Kind) (more : Value k → Form A) (given : A) (column : ℕ) (left : Rest) (o : Option (Value k))
    → (some_read (meant o column left) then (λ found left. with_more found (at_end left giving given) (λ value. read (more value) left)))
    ≡ (meant o column left then (λ v left. read (more v) left))
more-read k more given column left None = refl
more-read k more given column left (Some v) = refl

-- what a form reads as a command spells it
pub spells-read : {A : Type 0} (f : Form A) (command : A) (words : List Word) (end : ℕ)
    → read f (rest words end) ≡ Ok command → SpellsForm f command (bytes_of words)
unfolding next next_more at_end
spells-read (gives given) command [] end h = cc
spells-read (gives given) command (word ∷ words) end h = cc
spells-read (takes k more) command [] end h = cc
spells-read (takes k more) command (word ∷ words) end h =
    taken k more command word words end (λ v. spells-read (more v) command words end) (meaning k word.bytes) refl h
spells-read (may_take given k more) command [] end h = cc
spells-read (may_take given k more) command (word ∷ words) end h =
    taken k more command word words end (λ v. spells-read (more v) command words end) (meaning k word.bytes) refl
    (sym (more-read k more given word.column (rest words end) (meaning k word.bytes)) ∙ h)

-- what spells a command of a form is read so
pub read-spelled : {A : Type 0} (f : Form A) (command : A) (words : List Word) (end : ℕ)
    → SpellsForm f command (bytes_of words) → read f (rest words end) ≡ Ok command
unfolding next next_more at_end
read-spelled (gives given) command [] end h = ap Ok h
read-spelled (gives given) command (word ∷ words) end h = absurd h
read-spelled (takes k more) command [] end h = absurd h
read-spelled (takes k more) command (word ∷ words) end h =
    rw (meaning-spelled k h.0 word.bytes h.1) (read-spelled (more h.0) command words end h.2)
read-spelled (may_take given k more) command [] end h = ap Ok h
read-spelled (may_take given k more) command (word ∷ words) end h =
    rw (meaning-spelled k h.0 word.bytes h.1) (read-spelled (more h.0) command words end h.2)

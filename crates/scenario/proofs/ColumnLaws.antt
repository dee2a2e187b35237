use Rattle.std.proofs.Common.{◌≡◌, ℕ, ◌+◌, ◌≤◌, List, [], ◌∷◌, ◌++◌, length, false, nat_lt, codes, Option, Some, None, Ok, Err, Result, ◌⊎◌, refl, sym, ap, ◌∙◌, subst, inl, inr, arith}
use Rattle.std.proofs.lemmas.Bool.{cases_Bool}
use Rattle.std.proofs.lemmas.Bool.Decides.{nat_tests}
use Rattle.spb_types.specs.declared.link.Side.TheVariants.{A}
use Rattle.spb_types.specs.declared.link.Dir.TheVariants.{Ab}
use Rattle.scenario.specs.declared.command.Command.{Command}
use Rattle.spb_types.specs.declared.service.Mode.TheVariants.{Both}
use Rattle.spb_types.specs.declared.entry_word.EntryWord.TheVariants.{Start}
use Rattle.scenario.specs.declared.extra.ExtraKeyword.TheVariants.{Proof}
use Rattle.scenario.specs.declared.extra.Change.TheVariants.{Up}
use Rattle.scenario.specs.declared.keyword.Keyword.{Keyword}
use Rattle.scenario.specs.declared.keyword.Keyword.TheVariants.{State}
use Rattle.scenario.specs.Words.{is_blank, Word, words_in, rest_from, next, next_more, at_end, meant}
use Rattle.scenario.specs.WordForms.{decoded, hexadecimal}
use Rattle.scenario.specs.Keywords.{text_of, keyword}
use Rattle.scenario.specs.Grammar.{Kind, a_name, a_number, a_system, a_source, a_frame, a_dir, a_side, a_mode, an_extra, a_change, an_entry, Value, meaning, Form, gives, takes, may_take, read, form_of, is_comment, some, unless_blank, line_of, ◌then◌}
use Rattle.scenario.specs.Spelling.{SpellsValue, SpellsForm, SpellsWords, CanGoOn, bytes_of, Misfits, Misses, IsRefusedAt, too_long, misfits, misses}
use Rattle.scenario.specs.Extras.{GoesOn, FormMisfits, FormMisses}
use Rattle.scenario.proofs.Values.{spells-meaning, meaning-spelled}
use Rattle.scenario.proofs.FormLaws.{rest, more-read}
use Rattle.scenario.proofs.LineLaws.{keyword-text, text-keyword}
use Rattle.scenario.specs.declared.line.TheConstants.{LINE_LIMIT}

-- a word of each kind
example : (k : Kind) → (word : List ℕ) × (value : Value k) × SpellsValue k value word
example a_name = (codes "a", codes "a", (refl, refl))
example a_number = (codes "0", 0, (omega arith, omega arith, refl, refl))
example a_system = (codes "000000000000", record { bytes = decoded (codes "000000000000") }, (refl, refl, refl))
example a_source = (codes "00000", record { value = hexadecimal (codes "00000") }, (refl, refl, refl))
example a_frame = (codes "00", decoded (codes "00"), (omega arith, refl, refl, refl))
example a_dir = (codes "ab", Ab, refl)
example a_side = (codes "a", A, refl)
example a_mode = (codes "both", Both, refl)
example an_extra = (codes "proof", Proof, refl)
example a_change = (codes "up", Up, refl)
example an_entry = (codes "-", Start, refl)

-- each form has a command
any-command : {A : Type 0} (f : Form A) → GoesOn f []
any-command (gives command) = ([], command, refl)
any-command (takes k more) =
    let first = example k in
    let others = any-command (more first.1) in
    (first.0 ∷ others.0, others.1, (first.1, first.2, others.2))
any-command (may_take given k more) = ([], given, refl)

-- one more word in front, of this value
goes-on : {A : Type 0} (k : Kind) (more : Value k → Form A) (value : Value k) (word : List ℕ) (words : List (List ℕ)) → meaning k word ≡ Some value
    → GoesOn (more value) words → GoesOn (takes k more) (word ∷ words)
goes-on k more value word words e h = (h.0, h.1, (value, spells-meaning k value word e, h.2))

-- and back
went-on : {A : Type 0} (k : Kind) (more : Value k → Form A) (value : Value k) (word : List ℕ) (words : List (List ℕ)) → meaning k word ≡ Some value
    → GoesOn (takes k more) (word ∷ words) → GoesOn (more value) words
went-on k more value word words e h =
    let again = meaning-spelled k h.2.0 word h.2.1 in
    let same : h.2.0 ≡ value = cc (sym again ∙ e) in
    (h.0, h.1, subst (λ (v : Value k). SpellsForm (more v) h.1 (words ++ h.0)) same h.2.2)

-- where a form's words go wrong
abbrev pub GoesWrong : {A : Type 0} → Form A → List Word → ℕ → ℕ → Type 0
GoesWrong f words end column = FormMisfits f words column ⊎ (FormMisses f words × (column ≡ end))

-- a word that fits in front of words that go wrong
wrong-behind : {A : Type 0} (k : Kind) (more : Value k → Form A) (value : Value k) (word : Word) (words : List Word) (end column : ℕ)
    → meaning k word.bytes ≡ Some value → GoesWrong (more value) words end column → GoesWrong (takes k more) (word ∷ words) end column
wrong-behind k more value word words end column e (inl h) =
    inl (record {
      before = word ∷ h.before;
      word = h.word;
      after = h.after;
      words_are = ap (λ ws. word ∷ ws) h.words_are;
      column_is = h.column_is;
      fit = goes-on k more value word.bytes (bytes_of h.before) e h.fit;
      misfit = λ on. h.misfit (went-on k more value word.bytes (bytes_of h.before ++ (h.word.bytes ∷ [])) e on);
    })
wrong-behind k more value word words end column e (inr h) =
    inr (
      record {
        fit = goes-on k more value word.bytes (bytes_of words) e h.0.fit;
        missing = λ command s.
            let again = meaning-spelled k s.0 word.bytes s.1 in
            let same : s.0 ≡ value = cc (sym again ∙ e) in
            h.0.missing command (subst (λ (v : Value k). SpellsForm (more v) command (bytes_of words)) same s.2);
      },
      h.1,
    )

-- a word that doesn't fit
wrong-here : {A : Type 0} (k : Kind) (more : Value k → Form A) (word : Word) (words : List Word) (end column : ℕ)
    → meaning k word.bytes ≡ None → column ≡ word.column → GoesWrong (takes k more) (word ∷ words) end column
wrong-here k more word words end column e c =
    inl (record {
      before = [];
      word = word;
      after = words;
      words_are = refl;
      column_is = c;
      fit = any-command (takes k more);
      misfit = λ on. cc (sym (meaning-spelled k on.2.0 word.bytes on.2.1) ∙ e);
    })

-- the word that a form takes first
wrong-first : {A : Type 0} (k : Kind) (more : Value k → Form A) (word : Word) (words : List Word) (end column : ℕ)
    → ((v : Value k) → read (more v) (rest words end) ≡ Err column → GoesWrong (more v) words end column)
    → (o : Option (Value k)) → meaning k word.bytes ≡ o
    → (meant o word.column (rest words end) then (λ v left. read (more v) left)) ≡ Err column
    → GoesWrong (takes k more) (word ∷ words) end column
wrong-first k more word words end column ih None e h = wrong-here k more word words end column e cc
wrong-first k more word words end column ih (Some v) e h = wrong-behind k more v word words end column e (ih v h)

-- where a word more follows, a form goes wrong as if it had to
fit-more : {A : Type 0} (given : A) (k : Kind) (more : Value k → Form A) (words : List (List ℕ)) → GoesOn (takes k more) words → GoesOn (may_take given k more) words
fit-more given k more [] h = any-command (may_take given k more)
fit-more given k more (word ∷ words) h = h

fit-less : {A : Type 0} (given : A) (k : Kind) (more : Value k → Form A) (before : List (List ℕ)) (word : List ℕ)
    → GoesOn (may_take given k more) (before ++ (word ∷ [])) → GoesOn (takes k more) (before ++ (word ∷ []))
fit-less given k more [] word h = h
fit-less given k more (first ∷ before) word h = h

wrong-more : {A : Type 0} (given : A) (k : Kind) (more : Value k → Form A) (word : Word) (words : List Word) (end column : ℕ)
    → GoesWrong (takes k more) (word ∷ words) end column → GoesWrong (may_take given k more) (word ∷ words) end column
wrong-more given k more word words end column (inl h) =
    inl (record {
      before = h.before;
      word = h.word;
      after = h.after;
      words_are = h.words_are;
      column_is = h.column_is;
      fit = fit-more given k more (bytes_of h.before) h.fit;
      misfit = λ on. h.misfit (fit-less given k more (bytes_of h.before) h.word.bytes on);
    })
wrong-more given k more word words end column (inr h) = inr (record { fit = h.0.fit; missing = h.0.missing }, h.1)

-- words that a form refuses go wrong at the column
pub refused-words : {A : Type 0} (f : Form A) (words : List Word) (end column : ℕ) → read f (rest words end) ≡ Err column → GoesWrong f words end column
unfolding next next_more at_end
refused-words (gives command) [] end column h = cc
refused-words (gives command) (word ∷ words) end column h =
    inl (record {
      before = [];
      word = word;
      after = words;
      words_are = refl;
      column_is = cc;
      fit = ([], command, refl);
      misfit = λ on. on.2;
    })
refused-words (takes k more) [] end column h =
    inr (record { fit = any-command (takes k more); missing = λ command s. s }, cc)
refused-words (takes k more) (word ∷ words) end column h =
    wrong-first k more word words end column (λ v. refused-words (more v) words end column) (meaning k word.bytes) refl h
refused-words (may_take given k more) [] end column h = cc
refused-words (may_take given k more) (word ∷ words) end column h =
    wrong-more given k more word words end column
    (wrong-first k more word words end column (λ v. refused-words (more v) words end column) (meaning k word.bytes) refl
    (sym (more-read k more given word.column (rest words end) (meaning k word.bytes)) ∙ h))

-- ---- a line

with-keyword : (k : Keyword) (word : List ℕ) (words : List (List ℕ)) (command : Command) → word ≡ text_of k
    → SpellsForm (form_of k) command words → SpellsWords (word ∷ words) command
with-keyword k word words command e h = record { keyword = k; others = words; words_are = ap (λ w. w ∷ words) e; form = h }

behind-keyword : (k : Keyword) (word : List ℕ) (words : List (List ℕ)) (command : Command) → word ≡ text_of k
    → SpellsWords (word ∷ words) command → SpellsForm (form_of k) command words
behind-keyword k word words command e h =
    let spelled : text_of h.keyword ≡ text_of k = cc (h.words_are, e) in
    let same : h.keyword ≡ k = cc (text-keyword h.keyword, text-keyword k, spelled) in
    let others : h.others ≡ words = cc (h.words_are) in
    subst (λ (ws : List (List ℕ)). SpellsForm (form_of k) command ws) others
    (subst (λ (key : Keyword). SpellsForm (form_of key) command h.others) same h.form)

no-keyword : (word : List ℕ) (words : List (List ℕ)) (command : Command) → keyword word ≡ None → SpellsWords (word ∷ words) command → ⊥
no-keyword word words command none h =
    let spelled : word ≡ text_of h.keyword = cc (h.words_are) in
    cc (text-keyword h.keyword, spelled, none)

-- any line can begin
begins : CanGoOn []
begins =
    let r = any-command (form_of State) in
    (text_of State ∷ r.0, r.1, with-keyword State (text_of State) r.0 r.1 refl r.2)

abbrev LineGoesWrong : List Word → ℕ → ℕ → Type 0
LineGoesWrong words end column = Misfits words column ⊎ (Misses words × (column ≡ end))

behind-wrong : (k : Keyword) (word : Word) (words : List Word) (end column : ℕ) → word.bytes ≡ text_of k
    → GoesWrong (form_of k) words end column → LineGoesWrong (word ∷ words) end column
behind-wrong k word words end column e (inl h) =
    inl (record {
      before = word ∷ h.before;
      word = h.word;
      after = h.after;
      words_are = ap (λ ws. word ∷ ws) h.words_are;
      column_is = h.column_is;
      fit = (h.fit.0, h.fit.1, with-keyword k word.bytes (bytes_of h.before ++ h.fit.0) h.fit.1 e h.fit.2);
      misfit = λ on. h.misfit (on.0, on.1, behind-keyword k word.bytes ((bytes_of h.before ++ (h.word.bytes ∷ [])) ++ on.0) on.1 e on.2);
    })
behind-wrong k word words end column e (inr h) =
    inr (
      record {
        fit = (h.0.fit.0, h.0.fit.1, with-keyword k word.bytes (bytes_of words ++ h.0.fit.0) h.0.fit.1 e h.0.fit.2);
        missing = λ command s. h.0.missing command (behind-keyword k word.bytes (bytes_of words) command e s);
      },
      h.1,
    )

line-wrong : (word : Word) (words : List Word) (end column : ℕ) (o : Option Keyword) → keyword word.bytes ≡ o
    → (meant o word.column (rest words end) then (λ k left. read (form_of k) left)) ≡ Err column
    → LineGoesWrong (word ∷ words) end column
line-wrong word words end column None e h =
    inl (record {
      before = [];
      word = word;
      after = words;
      words_are = refl;
      column_is = cc;
      fit = begins;
      misfit = λ on. no-keyword word.bytes on.0 on.1 e on.2;
    })
line-wrong word words end column (Some k) e h =
    behind-wrong k word words end column (keyword-text word.bytes k e) (refused-words (form_of k) words end column h)

pub some-Err : {A : Type 0} (r : Result A ℕ) (column : ℕ) → some r ≡ Err column → r ≡ Err column
some-Err (Ok value) column h = cc
some-Err (Err other) column h = cc

words-wrong : (line : List ℕ) (column : ℕ) (words : List Word) → length line ≤ LINE_LIMIT → words_in is_blank false 1 line ≡ words
    → unless_blank words (rest words (1 + length line)) ≡ Err column → IsRefusedAt line column
unfolding next
words-wrong line column [] short e h = cc
words-wrong line column (word ∷ words) short e h =
    elim (line-wrong word words (1 + length line) column (keyword word.bytes) refl (some-Err _ column h)) [
      | inl wrong ↦ misfits short (rw e wrong)
      | inr wrong ↦ misses short (rw e wrong.0) (omega (arith, wrong.1))
    ]

-- where a line is refused
pub refused-line : (line : List ℕ) (column : ℕ) → line_of line ≡ Err column → IsRefusedAt line column
unfolding line_of rest_from
refused-line line column h =
    elim (cases_Bool (nat_lt LINE_LIMIT (length line))) [
      | inl long ↦
          let is : column ≡ LINE_LIMIT + 1 = cc (rw long at h) in
          too_long (grind (arith, nat_tests)) is
      | inr short ↦
          let few : length line ≤ LINE_LIMIT = grind (arith, nat_tests) in
          elim (cases_Bool (is_comment line)) [
            | inl comment ↦ cc (rw (short, comment) at h)
            | inr plain ↦ words-wrong line column (words_in is_blank false 1 line) few refl (rw (short, plain) at h)
          ]
    ]

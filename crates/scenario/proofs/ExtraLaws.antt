-- A line gives an extra exactly where it spells it, and is one only where it begins with its keyword.
use Rattle.std.proofs.Common.{◌≡◌, ℕ, zero, suc, ◌+◌, ◌-◌, ◌≤◌, List, [], ◌∷◌, ◌++◌, length, length-append, true, false, nat_lt, Option, Some, None, Ok, Err, refl, sym, ap, ◌∙◌, subst, inl, inr, arith, Bool, ◌||◌, ◌==◌, true≢false, slice_get}
use Rattle.std.specs.Option.{is_some}
use Rattle.std.proofs.lemmas.Bool.{cases_Bool, and_parts, eq-eqb}
use Rattle.std.specs.List.{list_all}
use Rattle.std.proofs.lemmas.Bool.Decides.{nat_tests}
use Rattle.scenario.specs.declared.command.Command.{Command}
use Rattle.spb_types.specs.declared.entry_word.EntryWord.{EntryWord}
use Rattle.spb_types.specs.declared.limits.TheConstants.{MOST_BRIDGES}
use Rattle.scenario.specs.declared.extra.Extra.{Extra}
use Rattle.scenario.specs.declared.extra.Extra.TheVariants as extra
use Rattle.scenario.specs.declared.extra.Change.{Change}
use Rattle.scenario.specs.declared.extra.Change.TheVariants.{Down, Up, Metric}
use Rattle.scenario.specs.declared.extra.ExtraKeyword.{ExtraKeyword}
use Rattle.scenario.specs.declared.extra.ExtraKeyword.TheVariants.{WhatIf, Proof, Check, Settle}
use Rattle.scenario.specs.declared.keyword.Keyword.{Keyword}
use Rattle.scenario.specs.declared.keyword.Keyword.TheVariants.{Vid}
use Rattle.scenario.specs.declared.line.TheConstants.{LINE_LIMIT}
use Rattle.scenario.specs.Words.{is_blank, Word, words_in, rest_from}
use Rattle.scenario.specs.Keywords.{text_of, extra_text, extra_keyword}
use Rattle.scenario.specs.Grammar.{an_extra, Value, Form, gives, takes, may_take, read, is_comment, some}
use Rattle.scenario.specs.Spelling.{SpellsForm, AreWords, Spells, IsBlankOrComment, bytes_of, AreBlank}
use Rattle.scenario.specs.Extras.{may_begin_extra, more_entries, all_entries, change_form, extra_form, extra_line, IsSoundExtra, begins_extra, extra_of, SpellsExtra, BeginsExtra, IsExtraRefusedAt, too_long, misfits, misses}
use Rattle.scenario.specs.Laws.{ExtrasAreNoCommands}
use Rattle.scenario.proofs.Values.{spells-meaning, meaning-spelled}
use Rattle.scenario.proofs.FormLaws.{rest, spells-read, read-spelled}
use Rattle.scenario.proofs.WordLaws.{words-apart, words-same, words_in-none}
use Rattle.scenario.proofs.LineLaws.{plain-comment, some-Ok, some-None, Spells-line_of, IsBlankOrComment-line_of}
use Rattle.scenario.proofs.ColumnLaws.{some-Err, refused-words}

-- ---- how a line begins

-- the words of a line, as they are read
abbrev words_of_line : List ℕ → List Word
words_of_line line = words_in is_blank false 1 line

text-begins : (words : List Word) (k : ExtraKeyword) (texts : List (List ℕ)) → bytes_of words ≡ extra_text k ∷ texts → begins_extra words ≡ true
text-begins [] k texts e = cc
text-begins (word ∷ words) k texts e =
    let first : word.bytes ≡ extra_text k = cc in
    rw (first, meaning-spelled an_extra k (extra_text k) refl) refl

keyword-begins : (line : List ℕ) → BeginsExtra line → begins_extra (words_of_line line) ≡ true
keyword-begins line h = text-begins (words_of_line line) h.0 h.1 (words-same (extra_text h.0 ∷ h.1) line 1 h.2)

first-keyword : (line : List ℕ) (word : Word) (words : List Word) (o : Option ExtraKeyword) → words_of_line line ≡ word ∷ words
    → extra_keyword word.bytes ≡ o → is_some o ≡ true → BeginsExtra line
first-keyword line word words None e is h = cc
first-keyword line word words (Some k) e is h =
    let apart : AreWords (word.bytes ∷ bytes_of words) line = rw e at (words-apart line 1).0 in
    (k, bytes_of words, subst (λ (text : List ℕ). AreWords (text ∷ bytes_of words) line) (spells-meaning an_extra k word.bytes is) apart)

begins-words : (line : List ℕ) (words : List Word) → words_of_line line ≡ words → begins_extra words ≡ true → BeginsExtra line
begins-words line [] e h = cc
begins-words line (word ∷ words) e h = first-keyword line word words (extra_keyword word.bytes) e refl h

-- a line that begins otherwise is no extra
begins-none : (line : List ℕ) → (BeginsExtra line → ⊥) → extra_of line ≡ Ok None
unfolding extra_of rest_from
begins-none line not_begun =
    elim (cases_Bool (begins_extra (words_of_line line))) [
      | inl begins ↦ absurd (not_begun (begins-words line (words_of_line line) refl begins))
      | inr other ↦ rw other refl
    ]

-- ---- lines that begin with another byte

neither : (a b : Bool) → (a || b) ≡ false → (a ≡ false) × (b ≡ false)
neither true b e = absurd cc
neither false b e = (refl, e)

front : List ℕ → ℕ
front [] = 0
front (x ∷ xs) = x

apart-from : (b x : ℕ) → b ≡ x → (b == x) ≡ false → ⊥
apart-from b x is not = true≢false (sym (eq-eqb b x is) ∙ not)

-- no line that begins with such a byte begins with the keyword of an extra
otherwise : (b : ℕ) (bytes : List ℕ) → may_begin_extra b ≡ false → BeginsExtra (b ∷ bytes) → ⊥
unfolding front
otherwise b bytes none h =
    let four = neither (((is_blank b || (b == 119)) || (b == 112)) || (b == 99)) (b == 115) none in
    let three = neither ((is_blank b || (b == 119)) || (b == 112)) (b == 99) four.0 in
    let two = neither (is_blank b || (b == 119)) (b == 112) three.0 in
    let one = neither (is_blank b) (b == 119) two.0 in
    at one.0 one.1 two.1 three.1 four.1 h.0 h.2.0 h.2.1 h.2.2 h.2.5
  where
    at : is_blank b ≡ false → (b == 119) ≡ false → (b == 112) ≡ false → (b == 99) ≡ false → (b == 115) ≡ false → (k : ExtraKeyword) (before after : List ℕ) → AreBlank before → b ∷ bytes ≡ before ++ (extra_text k ++ after) → ⊥
    at blank w p c s k (x ∷ xs) after all is = true≢false (sym (ap is_blank (ap front is) ∙ (and_parts (is_blank x) (list_all is_blank xs) all).0) ∙ blank)
    at blank w p c s WhatIf [] after all is = apart-from b 119 (ap front is) w
    at blank w p c s Proof [] after all is = apart-from b 112 (ap front is) p
    at blank w p c s Check [] after all is = apart-from b 99 (ap front is) c
    at blank w p c s Settle [] after all is = apart-from b 115 (ap front is) s

held : Option ℕ → ℕ
held None = 0
held (Some b) = b

pub otherwise-none : (line : List ℕ) (b : ℕ) → Some b ≡ slice_get line 0 → may_begin_extra b ≡ false → extra_of line ≡ Ok None
unfolding held
otherwise-none [] b first none = absurd cc
otherwise-none (byte ∷ bytes) b first none =
    let same : byte ≡ b = ap held (sym first) in
    begins-none (byte ∷ bytes) (otherwise byte bytes (ap may_begin_extra same ∙ none))

none-begins : (line : List ℕ) → extra_of line ≡ Ok None → BeginsExtra line → ⊥
unfolding extra_of rest_from
none-begins line h b =
    let begins = keyword-begins line b in
    elim (cases_Bool (nat_lt LINE_LIMIT (length line))) [
      | inl long ↦ cc (rw (begins, long) at h)
      | inr short ↦ some-None (read extra_line (rest (words_of_line line) (1 + length line))) (rw (begins, short) at h)
    ]

pub none-others : (line : List ℕ) → (extra_of line ≡ Ok None → BeginsExtra line → ⊥) × ((BeginsExtra line → ⊥) → extra_of line ≡ Ok None)
none-others line = (none-begins line, begins-none line)

-- ---- an extra

words-spell : (line : List ℕ) (given : Extra) (words : List Word) → length line ≤ LINE_LIMIT → words_of_line line ≡ words
    → SpellsForm extra_line given (bytes_of words) → SpellsExtra line given
words-spell line given [] short e h = absurd h
words-spell line given (word ∷ words) short e h =
    let apart : AreWords (word.bytes ∷ bytes_of words) line = rw e at (words-apart line 1).0 in
    record {
      keyword = h.0;
      words = bytes_of words;
      short = short;
      apart = subst (λ (text : List ℕ). AreWords (text ∷ bytes_of words) line) h.1 apart;
      form = h.2;
    }

-- what is read as an extra spells it
pub Spells-extra_of : (line : List ℕ) (given : Extra) → extra_of line ≡ Ok (Some given) → SpellsExtra line given
unfolding extra_of rest_from
Spells-extra_of line given h =
    elim (cases_Bool (begins_extra (words_of_line line))) [
      | inl begins ↦
          elim (cases_Bool (nat_lt LINE_LIMIT (length line))) [
            | inl long ↦ cc (rw (begins, long) at h)
            | inr short ↦
                let few : length line ≤ LINE_LIMIT = grind (arith, nat_tests) in
                let gives : read extra_line (rest (words_of_line line) (1 + length line)) ≡ Ok given = some-Ok _ given (rw (begins, short) at h) in
                words-spell line given (words_of_line line) few refl (spells-read extra_line given (words_of_line line) (1 + length line) gives)
          ]
      | inr other ↦ cc (rw other at h)
    ]

-- what spells an extra is read as it
pub extra_of-spelled : (line : List ℕ) (given : Extra) → SpellsExtra line given → extra_of line ≡ Ok (Some given)
unfolding extra_of rest_from
extra_of-spelled line given h =
    let short : nat_lt LINE_LIMIT (length line) ≡ false = grind (arith, nat_tests, h.short) in
    let begins = keyword-begins line (h.keyword, h.words, h.apart) in
    let words : bytes_of (words_of_line line) ≡ extra_text h.keyword ∷ h.words = words-same (extra_text h.keyword ∷ h.words) line 1 h.apart in
    let form : SpellsForm extra_line given (bytes_of (words_of_line line)) = subst (λ (texts : List (List ℕ)). SpellsForm extra_line given texts) (sym words) (h.keyword, refl, h.form) in
    rw (begins, short) (ap some (read-spelled extra_line given (words_of_line line) (1 + length line) form))

-- one line spells one extra at most
pub one-extra : (line : List ℕ) (a b : Extra) → SpellsExtra line a → SpellsExtra line b → a ≡ b
one-extra line a b ha hb =
    let ea = extra_of-spelled line a ha in
    let eb = extra_of-spelled line b hb in
    cc (sym ea ∙ eb)

-- ---- what extras hold

-- all that a form gives is so
abbrev AllAreSo : {A : Type 0} → (A → Type 0) → Form A → Type 0
AllAreSo so (gives given) = so given
AllAreSo so (takes k more) = (value : Value k) → AllAreSo so (more value)
AllAreSo so (may_take given k more) = so given × ((value : Value k) → AllAreSo so (more value))

-- and so is what words spell by it
spelled-so : {A : Type 0} (so : A → Type 0) (f : Form A) (given : A) (words : List (List ℕ)) → AllAreSo so f → SpellsForm f given words → so given
spelled-so so (gives other) given [] all h = subst so h all
spelled-so so (gives other) given (word ∷ words) all h = absurd h
spelled-so so (takes k more) given [] all h = absurd h
spelled-so so (takes k more) given (word ∷ words) all h = spelled-so so (more h.0) given words (all h.0) h.2
spelled-so so (may_take other k more) given [] all h = subst so h all.0
spelled-so so (may_take other k more) given (word ∷ words) all h = spelled-so so (more h.0) given words (all.1 h.0) h.2

-- so many entries, and up to n more
entries-few : (n : ℕ) (from to : List ℕ) (vid : ℕ) (entries : List EntryWord) → 1 ≤ length entries → length entries + n ≤ MOST_BRIDGES
    → AllAreSo IsSoundExtra (more_entries n (extra.Check from to vid) entries)
unfolding more_entries
entries-few zero from to vid entries some few = (some, omega (arith, few))
entries-few (suc n) from to vid entries some few = (
  (some, omega (arith, few)),
  λ entry.
      let grown : length (entries ++ (entry ∷ [])) ≡ suc (length entries) = simp (length-append) (omega arith) in
      entries-few n from to vid (entries ++ (entry ∷ [])) (omega (arith, grown)) (omega (arith, grown, few)),
)

changes-sound : (change : Change) → AllAreSo IsSoundExtra (change_form change)
unfolding change_form
changes-sound Down = λ link. refl
changes-sound Up = λ link. refl
changes-sound Metric = λ link side metric. refl

forms-sound : (k : ExtraKeyword) → AllAreSo IsSoundExtra (extra_form k)
unfolding extra_form all_entries
forms-sound WhatIf = λ change. changes-sound change
forms-sound Proof = λ from to vid. tt
forms-sound Check = λ from to vid first. entries-few (MOST_BRIDGES - 1) from to vid (first ∷ []) (omega arith) (omega arith)
forms-sound Settle = tt

pub sound-extra : (line : List ℕ) (given : Extra) → SpellsExtra line given → IsSoundExtra given
sound-extra line given h = spelled-so IsSoundExtra (extra_form h.keyword) given h.words (forms-sound h.keyword) h.form

-- ---- commands, blank lines and comments are no extras

no-extra : (k : Keyword) → extra_keyword (text_of k) ≡ None
unfolding extra_keyword
no-extra Vid = refl
no-extra _ = refl

pub command-none : (line : List ℕ) (command : Command) → Spells line command → extra_of line ≡ Ok None
command-none line command h = begins-none line other
  where
    other : BeginsExtra line → ⊥
    other b =
        let a = words-same (text_of h.keyword ∷ h.words) line 1 h.apart in
        let e = words-same (extra_text b.0 ∷ b.1) line 1 b.2 in
        let same : text_of h.keyword ≡ extra_text b.0 = cc (sym a ∙ e) in
        cc (no-extra h.keyword, same, meaning-spelled an_extra b.0 (extra_text b.0) refl)

extra-comment : (k : ExtraKeyword) (after : List ℕ) → is_comment (extra_text k ++ after) ≡ false
extra-comment WhatIf after = refl
extra-comment Proof after = refl
extra-comment Check after = refl
extra-comment Settle after = refl

pub ignored-none : (line : List ℕ) → IsBlankOrComment line → extra_of line ≡ Ok None
ignored-none line h = begins-none line other
  where
    other : BeginsExtra line → ⊥
    other b =
        elim h.1 [
          | inl blank ↦
              let begins : begins_extra (words_of_line line) ≡ true = keyword-begins line b in
              cc (rw (words_in-none line 1 blank) at begins)
          | inr comment ↦
              let plain : is_comment line ≡ false = rw b.2.5 (plain-comment b.2.0 (extra_text b.0 ++ b.2.1) b.2.2 (extra-comment b.0 b.2.1)) in
              cc (sym plain ∙ comment)
        ]

pub extras_are_no_commands : ExtrasAreNoCommands
extras_are_no_commands line None h = ignored-none line (IsBlankOrComment-line_of line h)
extras_are_no_commands line (Some command) h = command-none line command (Spells-line_of line command h)

-- ---- where the line of an extra is refused

pub refused-extra : (line : List ℕ) (column : ℕ) → extra_of line ≡ Err column → IsExtraRefusedAt line column
unfolding extra_of rest_from
refused-extra line column h =
    elim (cases_Bool (begins_extra (words_of_line line))) [
      | inl begins ↦
          elim (cases_Bool (nat_lt LINE_LIMIT (length line))) [
            | inl long ↦
                let is : column ≡ LINE_LIMIT + 1 = cc (rw (begins, long) at h) in
                too_long (grind (arith, nat_tests)) is
            | inr short ↦
                let few : length line ≤ LINE_LIMIT = grind (arith, nat_tests) in
                elim (refused-words extra_line (words_of_line line) (1 + length line) column (some-Err _ column (rw (begins, short) at h))) [
                  | inl wrong ↦ misfits few wrong
                  | inr wrong ↦ misses few wrong.0 (omega (arith, wrong.1))
                ]
          ]
      | inr other ↦ cc (rw other at h)
    ]

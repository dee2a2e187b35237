-- The line that is printed for a command spells it.
use Rattle.std.proofs.Common.{◌≡◌, ℕ, ◌+◌, ◌≤◌, List, [], ◌∷◌, ◌++◌, length, length-append, not, decimal, codes, Bool, true, false, ◌==◌, Option, Some, None, refl, sym, ap, ◌∙◌, arith}
use Rattle.std.specs.Prelude.{⊤}
use Rattle.std.specs.List.{flat_map, list_all}
use Rattle.std.proofs.lemmas.Bool.{and_parts}
use Rattle.scenario.specs.declared.command.Command.{Command}
use Rattle.scenario.specs.declared.command.Command.TheVariants as variants
use Rattle.spb_types.specs.declared.service.Mode.{Mode}
use Rattle.spb_types.specs.declared.service.Mode.TheVariants.{Both, Send, Recv}
use Rattle.scenario.specs.declared.keyword.Keyword.{Keyword}
use Rattle.scenario.specs.declared.keyword.Keyword.TheVariants.{Vid, Attach}
use Rattle.scenario.specs.Words.{is_blank}
use Rattle.scenario.specs.Keywords.{text_of}
use Rattle.scenario.specs.Grammar.{Value, Form, gives, takes, may_take, form_of}
use Rattle.scenario.specs.Spelling.{mode_text, SpellsForm, IsWord, EndsWord, AreWords}
use Rattle.scenario.specs.Printing.{words_of, spaced, joined}
use Rattle.scenario.specs.Laws.{PrintedSpells}
use Rattle.scenario.proofs.ValueTexts.{value_text, value-printed, value-word}

-- ---- the values of a form

-- a value for each word that a form takes
abbrev Values : Form Command → Type 0
Values (gives command) = ⊤
Values (takes k more) = (value : Value k) × Values (more value)
Values (may_take command k more) = Option ((value : Value k) × Values (more value))

-- the command that they give
abbrev given : (f : Form Command) → Values f → Command
given (gives command) values = command
given (takes k more) values = given (more values.0) values.1
given (may_take command k more) None = command
given (may_take command k more) (Some values) = given (more values.0) values.1

-- what is printed for them
abbrev texts_of : (f : Form Command) → Values f → List (List ℕ)
texts_of (gives command) values = []
texts_of (takes k more) values = value_text k values.0 ∷ texts_of (more values.0) values.1
texts_of (may_take command k more) None = []
texts_of (may_take command k more) (Some values) = value_text k values.0 ∷ texts_of (more values.0) values.1

abbrev AllWords : List (List ℕ) → Type 0
AllWords [] = ⊤
AllWords (word ∷ words) = IsWord word × AllWords words

-- as many words or fewer, none longer than the other in its place
abbrev AreNoLonger : List (List ℕ) → List (List ℕ) → Type 0
AreNoLonger [] words = ⊤
AreNoLonger (text ∷ texts) [] = ⊥
AreNoLonger (text ∷ texts) (word ∷ words) = (length text ≤ length word) × AreNoLonger texts words

-- the values that words spell, and what is printed for them
record Valued (f : Form Command) (command : Command) (words : List (List ℕ)) : Type 0 where
  pub values : Values f
  pub gives_it : given f values ≡ command
  pub spell : SpellsForm f command (texts_of f values)
  pub are_words : AllWords (texts_of f values)
  pub short : AreNoLonger (texts_of f values) words

form-printed : (f : Form Command) (command : Command) (words : List (List ℕ)) → SpellsForm f command words → Valued f command words
form-printed (gives command) other [] h = record { values = tt; gives_it = h; spell = h; are_words = tt; short = tt }
form-printed (gives command) other (word ∷ words) h = absurd h
form-printed (takes k more) command [] h = absurd h
form-printed (takes k more) command (word ∷ words) h =
    let rest = form-printed (more h.0) command words h.2 in
    let first = value-printed k h.0 word h.1 in
    record {
      values = (h.0, rest.values);
      gives_it = rest.gives_it;
      spell = (h.0, first.0, rest.spell);
      are_words = (value-word k h.0 (value_text k h.0) first.0, rest.are_words);
      short = (first.1, rest.short);
    }
form-printed (may_take default k more) command [] h = record { values = None; gives_it = h; spell = h; are_words = tt; short = tt }
form-printed (may_take default k more) command (word ∷ words) h =
    let rest = form-printed (more h.0) command words h.2 in
    let first = value-printed k h.0 word h.1 in
    record {
      values = Some (h.0, rest.values);
      gives_it = rest.gives_it;
      spell = (h.0, first.0, rest.spell);
      are_words = (value-word k h.0 (value_text k h.0) first.0, rest.are_words);
      short = (first.1, rest.short);
    }

-- the words that are printed behind a keyword for a command
record Printed (k : Keyword) (command : Command) (words : List (List ℕ)) : Type 0 where
  pub texts : List (List ℕ)
  pub are : words_of command ≡ text_of k ∷ texts
  pub spell : SpellsForm (form_of k) command texts
  pub are_words : AllWords texts
  pub short : AreNoLonger texts words

as-valued : (k : Keyword) (command : Command) (words : List (List ℕ)) (v : Valued (form_of k) command words)
    → words_of (given (form_of k) v.values) ≡ text_of k ∷ texts_of (form_of k) v.values → Printed k command words
as-valued k command words v e =
    record { texts = texts_of (form_of k) v.values; are = ap words_of (sym v.gives_it) ∙ e; spell = v.spell; are_words = v.are_words; short = v.short }

-- a word begins as `both` does
abbrev begins : List ℕ → Bool
begins [] = false
begins (byte ∷ bytes) = byte == 98

other_text : (word : List ℕ) → begins word ≡ false → codes "both" ≡ word → ⊥
other_text word other same = let b : true ≡ begins word = ap begins same in cc (b ∙ other)

both-spelled : (c : Mode → Command) (m : Mode) (command : Command) → codes "both" ≡ mode_text m → c m ≡ command → c Both ≡ command
both-spelled c Both command word e = e
both-spelled c Send command word e = absurd (other_text (mode_text Send) refl word)
both-spelled c Recv command word e = absurd (other_text (mode_text Recv) refl word)

fewer : (a b c d : List ℕ) (words : List (List ℕ)) → AreNoLonger (a ∷ b ∷ c ∷ d ∷ []) words → AreNoLonger (a ∷ b ∷ c ∷ []) words
fewer a b c d [] h = absurd h
fewer a b c d (first ∷ []) h = absurd h.1
fewer a b c d (first ∷ second ∷ []) h = absurd h.1.1
fewer a b c d (first ∷ second ∷ third ∷ words) h = (h.0, (h.1.0, (h.1.1.0, tt)))

-- without the mode, where it is `both`
without : (command : Command) (words : List (List ℕ)) (values : Values (form_of Attach)) → given (form_of Attach) values ≡ command
    → SpellsForm (form_of Attach) command (texts_of (form_of Attach) values) → AllWords (texts_of (form_of Attach) values)
    → AreNoLonger (texts_of (form_of Attach) values) words → Printed Attach command words
unfolding form_of words_of
without command words (bridge, (port, (isid, None))) gives_it spell are_words short =
    record { texts = bridge ∷ decimal port ∷ decimal isid ∷ []; are = ap words_of (sym gives_it); spell = spell; are_words = are_words; short = short }
without command words (bridge, (port, (isid, Some (Send, t)))) gives_it spell are_words short =
    record { texts = bridge ∷ decimal port ∷ decimal isid ∷ mode_text Send ∷ []; are = ap words_of (sym gives_it); spell = spell; are_words = are_words; short = short }
without command words (bridge, (port, (isid, Some (Recv, t)))) gives_it spell are_words short =
    record { texts = bridge ∷ decimal port ∷ decimal isid ∷ mode_text Recv ∷ []; are = ap words_of (sym gives_it); spell = spell; are_words = are_words; short = short }
without command words (bridge, (port, (isid, Some (Both, t)))) gives_it spell are_words short =
    record {
      texts = bridge ∷ decimal port ∷ decimal isid ∷ [];
      are = ap words_of (sym gives_it);
      spell = (spell.0, spell.1, (spell.2.0, spell.2.1, (spell.2.2.0, spell.2.2.1, both-spelled (variants.Attach spell.0 spell.2.0 spell.2.2.0) spell.2.2.2.0 command spell.2.2.2.1 spell.2.2.2.2)));
      are_words = (are_words.0, (are_words.1.0, (are_words.1.1.0, tt)));
      short = fewer bridge (decimal port) (decimal isid) (mode_text Both) words short;
    }

words-printed : (k : Keyword) (command : Command) (words : List (List ℕ)) → Valued (form_of k) command words → Printed k command words
unfolding form_of words_of
words-printed Attach command words v = without command words v.values v.gives_it v.spell v.are_words v.short
words-printed Vid command words v = as-valued Vid command words v refl
words-printed k command words v = as-valued k command words v refl

-- ---- the words stand apart

spaced-ends : (words : List (List ℕ)) → EndsWord (flat_map spaced words)
unfolding is_blank
spaced-ends [] = tt
spaced-ends (word ∷ words) = refl

spaced-apart : (words : List (List ℕ)) → AllWords words → AreWords words (flat_map spaced words)
unfolding is_blank
spaced-apart [] h = refl
spaced-apart (word ∷ words) h = (32 ∷ [], flat_map spaced words, refl, h.0, spaced-ends words, refl, spaced-apart words h.1)

-- ---- no line that spells the same is shorter

-- bytes that end a word begin with a blank
blank-first : (before word after : List ℕ) → IsWord word → EndsWord (before ++ (word ++ after)) → 1 ≤ length before
blank-first [] [] after h ends = absurd h
blank-first [] (byte ∷ word) after h ends =
    let plain = (and_parts (not (is_blank byte)) (list_all (λ b. not (is_blank b)) word) h).0 in
    cc (rw ends at plain)
blank-first (byte ∷ before) word after h ends = omega arith

spaced-short : (texts words : List (List ℕ)) (bytes : List ℕ) → AreNoLonger texts words → AreWords words bytes → EndsWord bytes
    → length (flat_map spaced texts) ≤ length bytes
spaced-short [] words bytes short h ends = omega arith
spaced-short (text ∷ texts) [] bytes short h ends = absurd short
spaced-short (text ∷ texts) (word ∷ words) bytes short h ends =
    let before : List ℕ = h.0 in
    let after : List ℕ = h.1 in
    let rest : length (flat_map spaced texts) ≤ length after = spaced-short texts words after short.1 h.6 h.4 in
    let blank : 1 ≤ length before = blank-first before word after h.3 (rw h.5 at ends) in
    let long : length bytes ≡ length before + length (word ++ after) = ap length h.5 ∙ length-append before (word ++ after) in
    let behind : length (word ++ after) ≡ length word + length after = length-append word after in
    let printed : length (text ++ flat_map spaced texts) ≡ length text + length (flat_map spaced texts) = length-append text (flat_map spaced texts) in
    omega (arith, rest, blank, long, behind, printed, short.0)

joined-short : (first : List ℕ) (texts words : List (List ℕ)) (line : List ℕ) → AreNoLonger texts words → AreWords (first ∷ words) line
    → length (joined (first ∷ texts)) ≤ length line
joined-short first texts words line short h =
    let before : List ℕ = h.0 in
    let after : List ℕ = h.1 in
    let rest : length (flat_map spaced texts) ≤ length after = spaced-short texts words after short h.6 h.4 in
    let long : length line ≡ length before + length (first ++ after) = ap length h.5 ∙ length-append before (first ++ after) in
    let behind : length (first ++ after) ≡ length first + length after = length-append first after in
    let printed : length (first ++ flat_map spaced texts) ≡ length first + length (flat_map spaced texts) = length-append first (flat_map spaced texts) in
    omega (arith, rest, long, behind, printed)

-- ---- the law

pub printed_spells : PrintedSpells
printed_spells line command h =
    let k : Keyword = h.keyword in
    let printed = words-printed k command h.words (form-printed (form_of k) command h.words h.form) in
    let words : List (List ℕ) = printed.texts in
    let same : words_of command ≡ text_of k ∷ words = printed.are in
    let short : length (joined (text_of k ∷ words)) ≤ length line = joined-short (text_of k) words h.words line printed.short h.apart in
    let apart : AreWords (text_of k ∷ words) (joined (text_of k ∷ words)) = ([], flat_map spaced words, refl, h.apart.3, spaced-ends words, refl, spaced-apart words printed.are_words) in
    record {
      keyword = k;
      words = words;
      short = rw same (omega (arith, short, h.short));
      apart = rw same apart;
      form = printed.spell;
    }

-- A frame that a line lets enter is octets.
use Rattle.std.proofs.Common.{◌≡◌, ℕ, suc, ◌<◌, List, [], ◌∷◌, Some, Ok, sym, ap, ◌∙◌, subst}
use Rattle.std.specs.Bool.{⊤}
use Rattle.std.specs.List.{AllByRecursion}
use Rattle.std.proofs.lemmas.List.Sums.{AllPass-from_list_all}
use Rattle.hex.specs.Hex.{IsBytes, is_hex_digit}
use Rattle.hex.proofs.HexLemmas.{decode_of-ok, decode_of-digits}
use Rattle.scenario.specs.declared.command.Command.{Command}
use Rattle.scenario.specs.declared.command.Command.TheVariants as command
use Rattle.scenario.specs.declared.keyword.Keyword.{Keyword}
use Rattle.scenario.specs.declared.keyword.Keyword.TheVariants as keyword
use Rattle.scenario.specs.Grammar.{a_frame, Value, Form, gives, takes, may_take, form_of, line_of}
use Rattle.scenario.specs.WordForms.{bytes_in}
use Rattle.scenario.specs.Spelling.{SpellsValue, SpellsForm, Spells}
use Rattle.scenario.proofs.LineLaws.{Spells-line_of}

-- the bytes of a frame that enters are octets
abbrev pub HasOctets : Command → Type 0
HasOctets (command.Frame name port bytes) = AllByRecursion (λ b. b < 256) bytes
HasOctets c = ⊤

all_octets : (bytes : List ℕ) → IsBytes bytes → AllByRecursion (λ b. b < 256) bytes
all_octets [] each = tt
all_octets (b ∷ bytes) each = (each 0, all_octets bytes (λ i. each (suc i)))

octets_of : (word bytes : List ℕ) → SpellsValue a_frame bytes word → AllByRecursion (λ b. b < 256) bytes
octets_of word bytes spelled =
    let read = decode_of-digits word spelled.1 (AllPass-from_list_all is_hex_digit word spelled.2) in
    let ok = decode_of-ok word read.0 read.1 in
    let same : read.0 ≡ bytes = sym (ap bytes_in read.1) ∙ spelled.3 in
    all_octets bytes (subst (λ (b : List ℕ). IsBytes b) same ok.3)

-- whatever words are read by the form, the command that it gives is so
abbrev GivesOctets : Form Command → Type 0
GivesOctets (gives given) = HasOctets given
GivesOctets (takes kind more) = (value : Value kind) (word : List ℕ) → SpellsValue kind value word → GivesOctets (more value)
GivesOctets (may_take given kind more) =
    HasOctets given × ((value : Value kind) (word : List ℕ) → SpellsValue kind value word → GivesOctets (more value))

spelled_octets : (f : Form Command) (c : Command) (words : List (List ℕ)) → GivesOctets f → SpellsForm f c words → HasOctets c
spelled_octets (gives given) c [] each form = subst HasOctets form each
spelled_octets (gives given) c (word ∷ words) each form = absurd form
spelled_octets (takes kind more) c [] each form = absurd form
spelled_octets (takes kind more) c (word ∷ words) each form = spelled_octets (more form.0) c words (each form.0 word form.1) form.2
spelled_octets (may_take given kind more) c [] each form = subst HasOctets form each.0
spelled_octets (may_take given kind more) c (word ∷ words) each form = spelled_octets (more form.0) c words (each.1 form.0 word form.1) form.2

forms_octets : (k : Keyword) → GivesOctets (form_of k)
unfolding form_of
forms_octets keyword.Vid = λ a p x b q y. tt
forms_octets keyword.Bridge = λ a p x b q y c r z d s u e t v. tt
forms_octets keyword.Link = λ a p x b q y c r z d s u e t v f g w. tt
forms_octets keyword.Isid = λ a p x b q y. tt
forms_octets keyword.Attach = λ a p x b q y c r z. (tt, λ d s u. tt)
forms_octets keyword.Detach = λ a p x b q y. tt
forms_octets keyword.Metric = λ a p x b q y c r z. tt
forms_octets keyword.Down = λ a p x. tt
forms_octets keyword.Up = λ a p x. tt
forms_octets keyword.Restart = λ a p x. tt
forms_octets keyword.Tick = λ a p x. tt
forms_octets keyword.Deliver = λ a p x b q y. tt
forms_octets keyword.Lose = λ a p x b q y c r z. tt
forms_octets keyword.Double = λ a p x b q y c r z. tt
forms_octets keyword.Round = λ a p x. tt
forms_octets keyword.Drain = λ a p x. tt
forms_octets keyword.Frame = λ a p x b q y c r z. octets_of r c z
forms_octets keyword.State = tt
forms_octets keyword.Show = λ a p x. tt
forms_octets keyword.Wiring = λ a p x. tt
forms_octets keyword.Db = λ a p x. tt
forms_octets keyword.Adj = λ a p x. tt
forms_octets keyword.Path = λ a p x b q y c r z. tt
forms_octets keyword.Drops = λ a p x. tt

pub line_octets : (line : List ℕ) (c : Command) → line_of line ≡ Ok (Some c) → HasOctets c
line_octets line c read =
    let spells : Spells line c = Spells-line_of line c read in
    spelled_octets (form_of spells.keyword) c spells.words (forms_octets spells.keyword) spells.form

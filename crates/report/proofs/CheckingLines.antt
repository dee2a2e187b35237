-- How many lines the answers have that tell what a change would do, and what becomes of proofs of paths.
use Rattle.std.proofs.Common.{◌≡◌, ℕ, ◌+◌, Bool, true, false, List, [], ◌∷◌, ◌++◌, length, map, refl, subst, arith, codes, decimal, append-nil, append_assoc}
use Rattle.std.specs.List.{flat_map, AllByRecursion}
use Rattle.std.proofs.lemmas.List.Elements.{recursion_from_All}
use Rattle.spb_types.specs.declared.entry_word.EntryWord.{EntryWord}
use Rattle.spb_types.specs.declared.entry_word.EntryWord.TheVariants.{Start, Before, Unreached}
use Rattle.spb_types.specs.declared.tables.TableRow.{TableRow}
use Rattle.spb_types.specs.declared.tables.TableRow.TheVariants.{Unicast, Group}
use Rattle.report.specs.Words.{line}
use Rattle.report.specs.Lines as lines
use Rattle.report.specs.Changes.{row_words, sign, change_line, whatif_text}
use Rattle.report.specs.Checking.{entry_text, proof_text, check_yes_text, check_no_text}
use Rattle.report.specs.Laws.{LacksNewline, IsName, HasLines, ChangesHaveLines, NamesBefore, ProofIsLine, YesIsLine, NoIsLine}
use Rattle.report.proofs.Newlines.{decimal_lacks, hex_lacks, name_lacks, ports_lack}
use Rattle.report.proofs.LineCounts.{is_line, followed, names_lack, way_lacks}

sign_lacks : (added : Bool) → LacksNewline (sign added)
sign_lacks true = refl
sign_lacks false = refl

row_lacks : (row : TableRow) → AllByRecursion LacksNewline (row_words row)
row_lacks (Unicast r) = (refl, (decimal_lacks r.vid.value, (hex_lacks r.mac.bytes, (decimal_lacks r.port, tt))))
row_lacks (Group r) = (refl, (decimal_lacks r.vid.value, (hex_lacks r.mac.bytes, (ports_lack r.ports, tt))))

change_is_line : (c : List ℕ × Bool × TableRow) → IsName c.0 → HasLines 1 (change_line c)
unfolding change_line
change_is_line c h = is_line (sign c.1) (c.0 ∷ row_words c.2) (sign_lacks c.1) (name_lacks c.0 h, row_lacks c.2)

with_changes : (n : ℕ) (a : List ℕ) (cs : List (List ℕ × Bool × TableRow)) → AllByRecursion (λ c. IsName c.0) cs → HasLines n a → HasLines (n + length cs) (a ++ flat_map change_line cs)
with_changes n a [] names h =
    let e : n ≡ n + 0 = omega arith in
    subst (λ m. HasLines m (a ++ [])) e (rw append-nil h)
with_changes n a (c ∷ cs) names h =
    let e : n + 1 + length cs ≡ n + length (c ∷ cs) = omega arith in
    subst (λ m. HasLines m (a ++ (change_line c ++ flat_map change_line cs))) e (subst (λ t. HasLines (n + 1 + length cs) t) (append_assoc a (change_line c) (flat_map change_line cs)) (with_changes (n + 1) (a ++ change_line c) cs names.1 (followed n a (change_line c) h (change_is_line c names.0))))

pub changes_have_lines : ChangesHaveLines
unfolding whatif_text
changes_have_lines changes h =
    with_changes 1 (line (codes "whatif") (decimal (length changes) ∷ [])) changes
    (recursion_from_All (λ (c : List ℕ × Bool × TableRow). IsName c.0) changes h)
    (is_line (codes "whatif") (decimal (length changes) ∷ []) refl (decimal_lacks (length changes), tt))

entry_lacks : (e : EntryWord) → NamesBefore e → LacksNewline (entry_text e)
entry_lacks Start h = refl
entry_lacks (Before name) h = name_lacks name h
entry_lacks Unreached h = refl

entries_lack : (entries : List EntryWord) → AllByRecursion NamesBefore entries → AllByRecursion LacksNewline (map entry_text entries)
entries_lack [] h = tt
entries_lack (e ∷ es) h = (entry_lacks e h.0, entries_lack es h.1)

pub proof_is_line : ProofIsLine
unfolding proof_text
proof_is_line from to vid entries f g h =
    is_line (codes "proof") (from ∷ to ∷ decimal vid ∷ map entry_text entries) refl
    (name_lacks from f, (name_lacks to g, (decimal_lacks vid, entries_lack entries (recursion_from_All NamesBefore entries h))))

pub yes_is_line : YesIsLine
unfolding check_yes_text
yes_is_line cost names h =
    is_line (codes "check") (codes "yes" ∷ lines.way_words cost names) refl
    (refl, way_lacks cost names (names_lack names (recursion_from_All IsName names h)))

pub no_is_line : NoIsLine
unfolding check_no_text
no_is_line number = is_line (codes "check") (codes "no" ∷ decimal number ∷ []) refl (refl, (decimal_lacks number, tt))

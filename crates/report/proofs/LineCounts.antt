-- How many lines the answers have.
use Rattle.std.proofs.Common.{◌≡◌, ℕ, ◌+◌, Bool, true, false, List, [], ◌∷◌, ◌++◌, length, map, refl, sym, ap, subst, ◌∙◌, arith, if◌then◌else◌, codes, decimal, append-nil, append_assoc, Option, Some, None}
use Rattle.std.specs.Int.{w16, to_be_bytes}
use Rattle.std.specs.List.{flat_map, enumerate_from, AllByRecursion}
use Rattle.std.proofs.lemmas.List.Elements.{recursion_from_All}
use Rattle.std.proofs.lemmas.List.FromFn.{length-enumerate_from}
use Rattle.spb_types.specs.declared.tables.GroupRow.{GroupRow}
use Rattle.spb_types.specs.declared.tables.Tables.{Tables}
use Rattle.spb_types.specs.declared.tables.UnicastRow.{UnicastRow}
use Rattle.lsdb.specs.declared.held.DbRow.{DbRow}
use Rattle.lsdb.specs.declared.version.Version.{Version}
use Rattle.lsdb.specs.declared.version.Version.TheVariants.{Absent, Live, Dead}
use Rattle.adjacency.specs.declared.state.AdjState.{AdjState}
use Rattle.adjacency.specs.declared.state.AdjState.TheVariants.{Down, Initializing, Up}
use Rattle.adjacency.specs.declared.port.Adjacency.{Adjacency}
use Rattle.hex.specs.Hex.{encode_lower}
use Rattle.report.specs.Words.{spaced, line}
use Rattle.report.specs.Ports.{ports_text}
use Rattle.report.specs.Tables.{unicast_line, group_line, quiet_words, tables_head, tables_text}
use Rattle.report.specs.Database.{id_text, version_words, held_line, db_text}
use Rattle.report.specs.Adjacencies.{due_text, neighbour_words, state_words, adjacency_words, port_line, port_lines, adj_text}
use Rattle.report.specs.Lines as lines
use Rattle.report.specs.Laws.{LacksNewline, IsName, HasLines, TablesHaveLines, DatabaseHasLines, AdjacenciesHaveLines, PathIsLine, DropsIsLine, OutIsLine, StateIsLine, SettleIsLine, ErrorIsLine}
use Rattle.report.proofs.Newlines.{newlines-append, append_lacks, spaced_lack, decimal_lacks, hex_lacks, name_lacks, ports_lack}

-- words without LF, one list after another
pub words-append : (xs ys : List (List ℕ)) → AllByRecursion LacksNewline xs → AllByRecursion LacksNewline ys → AllByRecursion LacksNewline (xs ++ ys)
words-append [] ys f g = g
words-append (x ∷ xs) ys f g = (f.0, words-append xs ys f.1 g)

-- words without LF are one line
pub is_line : (first : List ℕ) (words : List (List ℕ)) → LacksNewline first → AllByRecursion LacksNewline words → HasLines 1 (line first words)
is_line first words f g =
    let front = first ++ flat_map spaced words in
    record {
      last = (front, refl);
      number = newlines-append front (codes "\n") ∙ ap (λ n. n + 1) (append_lacks first (flat_map spaced words) f (spaced_lack words g)) ∙ refl;
    }

pub followed : (n : ℕ) (a b : List ℕ) → HasLines n a → HasLines 1 b → HasLines (n + 1) (a ++ b)
followed n a b f g = record {
  last = (a ++ (g.last).0, ap (λ t. a ++ t) (g.last).1 ∙ sym (append_assoc a (g.last).0 (codes "\n")));
  number = omega (arith, newlines-append a b, f.number, g.number);
}

-- lines, and then a line for each item
with_rows : {X : Type 0} (f : X → List ℕ) → ((x : X) → HasLines 1 (f x)) → (n : ℕ) (a : List ℕ) (xs : List X) → HasLines n a → HasLines (n + length xs) (a ++ flat_map f xs)
with_rows f each n a [] h =
    let e : n ≡ n + 0 = omega arith in
    subst (λ m. HasLines m (a ++ [])) e (rw append-nil h)
with_rows f each n a (x ∷ xs) h =
    let e : n + 1 + length xs ≡ n + length (x ∷ xs) = omega arith in
    subst (λ m. HasLines m (a ++ (f x ++ flat_map f xs))) e (subst (λ t. HasLines (n + 1 + length xs) t) (append_assoc a (f x) (flat_map f xs)) (with_rows f each (n + 1) (a ++ f x) xs (followed n a (f x) h (each x))))

-- ---- tables

unicast_is_line : (r : UnicastRow) → HasLines 1 (unicast_line r)
unfolding unicast_line
unicast_is_line r =
    is_line (codes "u") (decimal r.vid.value ∷ encode_lower r.mac.bytes ∷ decimal r.port ∷ []) refl
    (decimal_lacks r.vid.value, (hex_lacks r.mac.bytes, (decimal_lacks r.port, tt)))

group_is_line : (r : GroupRow) → HasLines 1 (group_line r)
unfolding group_line
group_is_line r =
    is_line (codes "g") (decimal r.vid.value ∷ encode_lower r.mac.bytes ∷ ports_text r.ports ∷ []) refl
    (decimal_lacks r.vid.value, (hex_lacks r.mac.bytes, (ports_lack r.ports, tt)))

quiet_lacks : (quiet : Option Bool) → AllByRecursion LacksNewline (quiet_words quiet)
quiet_lacks None = tt
quiet_lacks (Some true) = (refl, tt)
quiet_lacks (Some false) = (refl, tt)

head_is_line : (word name : List ℕ) (quiet : Option Bool) (tables : Tables) → LacksNewline word → LacksNewline name → HasLines 1 (tables_head word name quiet tables)
unfolding tables_head
head_is_line word name quiet tables f g =
    let counts = decimal (length tables.unicast) ∷ decimal (length tables.group) ∷ [] in
    is_line word (name ∷ quiet_words quiet ++ counts) f
    (g, words-append (quiet_words quiet) counts (quiet_lacks quiet) (decimal_lacks (length tables.unicast), (decimal_lacks (length tables.group), tt)))

pub tables_have_lines : TablesHaveLines
unfolding tables_text
tables_have_lines word name quiet tables f g =
    let head = head_is_line word name quiet tables f (name_lacks name g) in
    with_rows group_line group_is_line (1 + length tables.unicast) (tables_head word name quiet tables ++ flat_map unicast_line tables.unicast) tables.group
    (with_rows unicast_line unicast_is_line 1 (tables_head word name quiet tables) tables.unicast head)

-- ---- databases

version_lacks : (version : Version) (lifetime : ℕ) → AllByRecursion LacksNewline (version_words version lifetime)
version_lacks Absent lifetime = (refl, tt)
version_lacks (Live seq sum) lifetime = (refl, (decimal_lacks lifetime, (decimal_lacks seq, (hex_lacks (to_be_bytes w16 sum), tt))))
version_lacks (Dead seq) lifetime = (refl, (decimal_lacks seq, tt))

held_is_line : (r : DbRow) → HasLines 1 (held_line r)
unfolding held_line
held_is_line r =
    let flags = codes "srm" ∷ ports_text r.srm ∷ codes "ssn" ∷ ports_text r.ssn ∷ [] in
    is_line (codes "l") (id_text r.id ∷ version_words r.version r.lifetime ++ flags) refl (
      hex_lacks (r.id.system.mac.bytes ++ r.id.pseudonode ∷ r.id.number ∷ []),
      words-append (version_words r.version r.lifetime) flags (version_lacks r.version r.lifetime) (refl, (ports_lack r.srm, (refl, (ports_lack r.ssn, tt)))),
    )

pub database_has_lines : DatabaseHasLines
unfolding db_text
database_has_lines name rows h =
    with_rows held_line held_is_line 1 (line (codes "db") (name ∷ decimal (length rows) ∷ [])) rows
    (is_line (codes "db") (name ∷ decimal (length rows) ∷ []) refl (name_lacks name h, (decimal_lacks (length rows), tt)))

-- ---- adjacencies

due_lacks : (due : Bool) → LacksNewline (due_text due)
due_lacks true = refl
due_lacks false = refl

neighbour_lacks : (a : Adjacency) → AllByRecursion LacksNewline (neighbour_words a)
neighbour_lacks a = (hex_lacks a.neighbour.mac.bytes, (decimal_lacks a.circuit, (decimal_lacks a.hold, tt)))

state_lacks : (state : AdjState) (a : Adjacency) (due : Bool) → AllByRecursion LacksNewline (state_words state a due)
state_lacks Down a due = (refl, tt)
state_lacks Initializing a due = (refl, words-append (neighbour_words a) (codes "-" ∷ []) (neighbour_lacks a) (refl, tt))
state_lacks Up a due = (refl, words-append (neighbour_words a) (due_text due ∷ []) (neighbour_lacks a) (due_lacks due, tt))

adjacency_lacks : (carrier : Bool) (a : Adjacency) (due : Bool) → AllByRecursion LacksNewline (if carrier then state_words a.state a due else codes "off" ∷ [])
adjacency_lacks true a due = state_lacks a.state a due
adjacency_lacks false a due = (refl, tt)

port_is_line : (p : ℕ × (Adjacency × Bool)) → HasLines 1 (port_line p.0 p.1)
unfolding port_line
port_is_line p =
    is_line (codes "p") (decimal p.0 ∷ adjacency_words p.1.0 p.1.1) refl (decimal_lacks p.0, adjacency_lacks p.1.0.carrier p.1.0 p.1.1)

pub adjacencies_have_lines : AdjacenciesHaveLines
unfolding adj_text port_lines
adjacencies_have_lines name ports h =
    let head = line (codes "adj") (name ∷ decimal (length ports) ∷ []) in
    let all : HasLines (1 + length (enumerate_from 1 ports)) (head ++ flat_map (λ p. port_line p.0 p.1) (enumerate_from 1 ports)) =
    with_rows (λ p. port_line p.0 p.1) port_is_line 1 head (enumerate_from 1 ports)
    (is_line (codes "adj") (name ∷ decimal (length ports) ∷ []) refl (name_lacks name h, (decimal_lacks (length ports), tt)))
    in
    subst (λ n. HasLines (1 + n) (head ++ flat_map (λ p. port_line p.0 p.1) (enumerate_from 1 ports))) (length-enumerate_from 1 ports) all

-- ---- answers of one line

pub names_lack : (names : List (List ℕ)) → AllByRecursion IsName names → AllByRecursion LacksNewline names
names_lack [] h = tt
names_lack (name ∷ names) h = (name_lacks name h.0, names_lack names h.1)

pub way_lacks : (cost : ℕ) (names : List (List ℕ)) → AllByRecursion LacksNewline names → AllByRecursion LacksNewline (lines.way_words cost names)
way_lacks cost [] h = (refl, tt)
way_lacks cost (name ∷ names) h = (decimal_lacks cost, (decimal_lacks (length names), (h.0, h.1)))

pub path_is_line : PathIsLine
unfolding lines.path_text
path_is_line from to vid cost names f g h =
    is_line (codes "path") (from ∷ to ∷ decimal vid ∷ lines.way_words cost names) refl
    (name_lacks from f, (name_lacks to g, (decimal_lacks vid, way_lacks cost names (names_lack names (recursion_from_All IsName names h)))))

numbers_lack : (numbers : List ℕ) → AllByRecursion LacksNewline (map decimal numbers)
numbers_lack [] = tt
numbers_lack (n ∷ ns) = (decimal_lacks n, numbers_lack ns)

pub drops_is_line : DropsIsLine
unfolding lines.drops_text
drops_is_line name counts h = is_line (codes "drops") (name ∷ map decimal counts) refl (name_lacks name h, numbers_lack counts)

pub out_is_line : OutIsLine
unfolding lines.out_text
out_is_line name port frame h =
    is_line (codes "out") (name ∷ decimal port ∷ encode_lower frame ∷ []) refl (name_lacks name h, (decimal_lacks port, (hex_lacks frame, tt)))

conditions_lack : (failing : List ℕ) → AllByRecursion LacksNewline (map (λ n. codes "q" ++ decimal n) failing)
conditions_lack [] = tt
conditions_lack (q ∷ qs) = (append_lacks (codes "q") (decimal q) refl (decimal_lacks q), conditions_lack qs)

state_words_lack : (failing : List ℕ) → AllByRecursion LacksNewline (lines.state_words failing)
state_words_lack [] = (refl, tt)
state_words_lack (q ∷ qs) = (refl, conditions_lack (q ∷ qs))

pub state_is_line : StateIsLine
unfolding lines.state_text
state_is_line failing = is_line (codes "state") (lines.state_words failing) refl (state_words_lack failing)

settle_words_lack : (why : Option (List ℕ)) → ((word : List ℕ) → why ≡ Some word → LacksNewline word) → AllByRecursion LacksNewline (lines.settle_words why)
settle_words_lack None h = (refl, tt)
settle_words_lack (Some why) h = (refl, (h why refl, tt))

pub settle_is_line : SettleIsLine
unfolding lines.settle_text
settle_is_line rounds why h =
    is_line (codes "settle") (decimal rounds ∷ lines.settle_words why) refl (decimal_lacks rounds, settle_words_lack why h)

column_lacks : (column : Option ℕ) → AllByRecursion LacksNewline (lines.column_words column)
column_lacks None = tt
column_lacks (Some column) = (decimal_lacks column, tt)

pub error_is_line : ErrorIsLine
unfolding lines.error_text
error_is_line at number name column h =
    is_line (codes "error") (decimal at ∷ decimal number ∷ name ∷ lines.column_words column) refl
    (decimal_lacks at, (decimal_lacks number, (h, column_lacks column)))

-- The database of a bridge as a text.
use Rattle.std.specs.Prelude.{ℕ, List, [], ◌∷◌, ◌++◌, length, codes, decimal}
use Rattle.std.specs.Int.{w16, to_be_bytes}
use Rattle.std.specs.List.{flat_map}
use Rattle.hex.specs.Hex.{encode_lower}
use Rattle.spb_types.specs.declared.address.LspId.{LspId}
use Rattle.lsdb.specs.declared.held.DbRow.{DbRow}
use Rattle.lsdb.specs.declared.version.Version.{Version}
use Rattle.lsdb.specs.declared.version.Version.TheVariants.{Absent, Live, Dead}
use Rattle.report.specs.Words.{line}
use Rattle.report.specs.Ports.{ports_text}

-- an LSP id: the system id, the pseudonode and the number of the fragment, 16 digits (ISO/IEC 10589, 9.8)
abbrev pub id_text : LspId → List ℕ
id_text id = encode_lower (id.system.mac.bytes ++ id.pseudonode ∷ id.number ∷ [])

-- a checksum: its two bytes, 4 digits
abbrev pub sum_text : ℕ → List ℕ
sum_text sum = encode_lower (to_be_bytes w16 sum)

-- a version: `live LIFETIME SEQ SUM`, `dead SEQ`, or `none` where there is no LSP
abbrev pub version_words : Version → ℕ → List (List ℕ)
version_words Absent lifetime = codes "none" ∷ []
version_words (Live seq sum) lifetime = codes "live" ∷ decimal lifetime ∷ decimal seq ∷ sum_text sum ∷ []
version_words (Dead seq) lifetime = codes "dead" ∷ decimal seq ∷ []

-- what is held under an id: `l ID`, the version, and the ports with SRM and with SSN
unfoldable pub held_line : DbRow → List ℕ
held_line r = line (codes "l") (id_text r.id ∷ version_words r.version r.lifetime
    ++ codes "srm" ∷ ports_text r.srm ∷ codes "ssn" ∷ ports_text r.ssn ∷ [])

-- the text of a database: the bridge's name and the number of ids, and a line for each id, in order
unfoldable pub db_text : List ℕ → List DbRow → List ℕ
db_text name rows = line (codes "db") (name ∷ decimal (length rows) ∷ []) ++ flat_map held_line rows

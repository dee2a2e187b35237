-- How long an LSP is held of which nothing more is heard: as long as its lifetime says (ISO/IEC 10589, 7.3.16.4).
use Rattle.std.specs.Prelude.{◌≡◌, ℕ, ◌+◌, ◌≤◌, List, [], ◌∷◌, ◌++◌, length, Bool, true, false, Option, Some, None}
use Rattle.spb_types.specs.declared.ports.PortSet.{PortSet}
use Rattle.lsdb.specs.declared.version.Version.{Version}
use Rattle.lsdb.specs.declared.version.Version.TheVariants.{Absent, Live, Dead}
use Rattle.lsdb.specs.Entry.{Entry, made, aged}

-- whether a version is live, so that it ages
abbrev pub is_live : Version → Bool
is_live Absent = false
is_live (Live seq sum) = true
is_live (Dead seq) = false

-- the lifetime of an entry, and of no entry 0
abbrev pub lifetime_in : Option Entry → ℕ
lifetime_in None = 0
lifetime_in (Some e) = e.lifetime

-- an entry after seconds in which these were the Up ports, one set for each second
abbrev pub aged_through : List PortSet → Entry → Entry
aged_through [] e = e
aged_through (up ∷ ups) e = aged_through ups (aged up e)

-- a live LSP stays as it is, but that its lifetime falls, while some of it is left
abbrev pub LivesForItsLifetime : Type 0
LivesForItsLifetime = (ups : List PortSet) (e : Entry) (left : ℕ)
    → is_live e.version ≡ true → e.lifetime ≡ left + length ups → 1 ≤ left
    → aged_through ups e ≡ record e { lifetime = left }

-- in the second in which none is left, it dies at its number, and is to be sent at every port that is Up then
abbrev pub DiesAfterIt : Type 0
DiesAfterIt = (ups : List PortSet) (up : PortSet) (e : Entry) (seq sum : ℕ)
    → e.version ≡ Live seq sum → e.lifetime ≡ length ups + 1
    → aged_through (ups ++ up ∷ []) e ≡ made (Dead seq) 0 [] up e.ssn

-- an LSP that isn't live doesn't age
abbrev pub OthersDontAge : Type 0
OthersDontAge = (ups : List PortSet) (e : Entry) → is_live e.version ≡ false → aged_through ups e ≡ e

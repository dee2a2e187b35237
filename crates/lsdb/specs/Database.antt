use Rattle.std.specs.Prelude.{◌≡◌, ◌≤◌, ◌<◌, ℕ, suc, List, [], ◌∷◌, length, Bool, false, ◌||◌, map, take, drop, Option, Some, None, if◌then◌else◌, nat_lt, slice_get}
use Rattle.std.specs.declared.cmp.Ordering.{Ordering}
use Rattle.std.specs.Ordering.{nat_cmp, ordering_then}
use Rattle.std.specs.Cmp.Lexicographic.{slice_cmp}
use Rattle.std.specs.Option.{option_map}
use Rattle.std.specs.List.{list_any}
use Rattle.std.specs.FinMap.{FinMap, get, insert, entries, from_sorted, contains_key, len}
use Rattle.spb_types.specs.declared.address.LspId.{LspId}
use Rattle.spb_types.specs.declared.ports.PortSet.{PortSet}
use Rattle.spb_types.specs.Ports.{no_ports, has}
use Rattle.lsdb.specs.declared.version.Version.{Version}
use Rattle.lsdb.specs.declared.version.Version.TheVariants.{Absent}
use Rattle.lsdb.specs.declared.held.Held.{Held}
use Rattle.lsdb.specs.Entry.{Entry, entry_of, has_flags}
use Rattle.spb_types.specs.declared.limits.TheConstants.{MOST_LSPS}

-- the order of LSP ids: that of their eight bytes (ISO/IEC 10589, 9.8)
abbrev pub id_cmp : LspId → LspId → Ordering
id_cmp x y =
    ordering_then (slice_cmp nat_cmp x.system.mac.bytes y.system.mac.bytes)
    (ordering_then (nat_cmp x.pseudonode y.pseudonode) (nat_cmp x.number y.number))

-- what a database holds: under each id at most one entry
abbrev pub Lsps : Type 0
Lsps = FinMap id_cmp Entry

-- a held LSP as its id and its entry
abbrev pub keyed : Held → LspId × Entry
keyed h = (h.id, entry_of h)

-- the version of an entry, if there is one; of no entry it is absent
abbrev pub version_in : Option Entry → Version
version_in None = Absent
version_in (Some e) = e.version

-- the ports at which an entry is to be sent, and of no entry none
abbrev pub srm_in : Option Entry → PortSet
srm_in None = no_ports
srm_in (Some e) = e.srm

-- the ports at which an entry is to be acknowledged or asked for, and of no entry none
abbrev pub ssn_in : Option Entry → PortSet
ssn_in None = no_ports
ssn_in (Some e) = e.ssn

-- the version under an id; where the id isn't held it is absent
abbrev pub version_at : Lsps → LspId → Version
version_at db id = version_in (get db id)

-- whether there is a place for the id: it is held, or fewer ids than a database can hold are
abbrev pub fits : Lsps → LspId → Bool
fits db id = contains_key db id || nat_lt (len db) MOST_LSPS

-- this entry under the id, if there is one; else the database as it was
abbrev pub changed_to : Lsps → LspId → Option Entry → Lsps
changed_to db id None = db
changed_to db id (Some e) = insert db id e

abbrev pub changed : (Entry → Entry) → Lsps → LspId → Lsps
changed f db id = changed_to db id (option_map f (get db id))

-- the entry at a place, counted from 0 in order of id, changed, if there is one
abbrev pub changed_under : (Entry → Entry) → Lsps → Option (LspId × Entry) → Lsps
changed_under f db None = db
changed_under f db (Some e) = changed f db e.0

abbrev pub changed_at_place : (Entry → Entry) → Lsps → ℕ → Lsps
changed_at_place f db place = changed_under f db (slice_get (entries db) place)

abbrev pub changed_if_held : (Entry → Entry) → Lsps → Option ℕ → Lsps
changed_if_held f db None = db
changed_if_held f db (Some place) = changed_at_place f db place

-- the version of the entry at a place, and where there is none absent
abbrev pub version_at_place : Lsps → ℕ → Version
version_at_place db place = version_in (option_map (λ e. e.1) (slice_get (entries db) place))

abbrev pub version_if_held : Lsps → Option ℕ → Version
version_if_held db None = Absent
version_if_held db (Some place) = version_at_place db place

-- an id is held, at this place
pub record IsHeldAt (db : Lsps) (id : LspId) (place : ℕ) : Type 0 where
  pub entry : Entry
  pub held : get db id ≡ Some entry
  pub stands : slice_get (entries db) place ≡ Some (id, entry)

-- where an id is held, if it is
abbrev pub StandsAt : Lsps → LspId → Option ℕ → Type 0
StandsAt db id None = get db id ≡ None
StandsAt db id (Some place) = IsHeldAt db id place

-- every entry changed
unfoldable pub each : (LspId → Entry → Entry) → Lsps → Lsps
each f db = from_sorted (map (λ e. (e.0, f e.0 e.1)) (entries db))

-- whether an SRM or SSN flag stands anywhere: some LSP is to be sent, or to be acknowledged or asked for, at some port
abbrev pub any_flags : Lsps → Bool
any_flags db = list_any (λ e. has_flags e.1) (entries db)

-- the places of the entries that have flags, where the first entry stands at place n
abbrev pub flagged_from : ℕ → List (LspId × Entry) → List ℕ
flagged_from n [] = []
flagged_from n (e ∷ es) = if has_flags e.1 then n ∷ flagged_from (suc n) es else flagged_from (suc n) es

abbrev pub flagged_places : Lsps → List ℕ
flagged_places db = flagged_from 0 (entries db)

-- from place n on no flags stand but at these places, which ascend and are places of entries
abbrev pub AreFlagsAt : ℕ → List ℕ → List (LspId × Entry) → Type 0
AreFlagsAt n [] es = list_any (λ e. has_flags e.1) (drop n es) ≡ false
AreFlagsAt n (p ∷ ps) es =
    (n ≤ p) × (p < length es) × (list_any (λ e. has_flags e.1) (drop n (take p es)) ≡ false) × AreFlagsAt (suc p) ps es

-- whether some LSP is to be sent at a port, and whether some is to be acknowledged or asked for there
abbrev pub is_srm_at : ℕ → Lsps → Bool
is_srm_at port db = list_any (λ e. has e.1.srm port) (entries db)

abbrev pub is_ssn_at : ℕ → Lsps → Bool
is_ssn_at port db = list_any (λ e. has e.1.ssn port) (entries db)

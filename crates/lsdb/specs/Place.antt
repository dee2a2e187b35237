use Rattle.std.specs.Prelude.{◌≡◌, ℕ, ◌<◌, ◌≤◌, List, map, length, slice_index_or, IsTrue}
use Rattle.std.specs.declared.cmp.Ordering.TheVariants.{Less, Greater}
use Rattle.std.specs.List.{AllByRecursion}
use Rattle.std.specs.FinMap.{is_sorted}
use Rattle.spb_types.specs.declared.address.LspId.{LspId}
use Rattle.lsdb.specs.declared.held.Held.{Held}
use Rattle.lsdb.specs.Entry.{Entry, entry_of, IsClean}
use Rattle.lsdb.specs.Database.{id_cmp, keyed}
use Rattle.spb_types.specs.declared.limits.TheConstants.{MOST_LSPS}

-- the ids rise, so that each stands once
abbrev pub AreSorted : List Held → Type 0
AreSorted held = IsTrue (is_sorted id_cmp (map keyed held))

-- how a database keeps its LSPs
pub record IsSound (held : List Held) : Type 0 where
  pub sorted : AreSorted held
  pub few : length held ≤ MOST_LSPS
  pub clean : AllByRecursion (λ h. IsClean (entry_of h)) held

-- the id stands at this place
pub record IsAt (held : List Held) (id : LspId) (place : ℕ) : Type 0 where
  pub within : place < length held
  pub same : (d : Held) → (slice_index_or held place d).id ≡ id

-- the id stands nowhere, and would go to this place
pub record IsGap (held : List Held) (id : LspId) (place : ℕ) : Type 0 where
  pub within : place ≤ length held
  pub below : (k : ℕ) (d : Held) → k < place → id_cmp (slice_index_or held k d).id id ≡ Less
  pub above : (k : ℕ) (d : Held) → place ≤ k → k < length held → id_cmp (slice_index_or held k d).id id ≡ Greater

-- a held LSP with another entry under its id
abbrev pub with_entry : (Entry → Entry) → Held → Held
with_entry f h = let e = f (entry_of h) in
    record { id = h.id; version = e.version; lifetime = e.lifetime; body = e.body; srm = e.srm; ssn = e.ssn }

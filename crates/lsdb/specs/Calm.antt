-- Seconds in which nothing but lifetimes changes by age.
use Rattle.std.specs.Prelude.{◌≡◌, ℕ, ◌-◌, ◌≤◌, ◌<◌, List, true, false}
use Rattle.std.specs.List.{AllByRecursion}
use Rattle.std.specs.FinMap.{get}
use Rattle.spb_types.specs.declared.address.LspId.{LspId}
use Rattle.lsdb.specs.declared.held.Held.{Held}
use Rattle.lsdb.specs.Entry.{Entry, entry_of, has_flags}
use Rattle.lsdb.specs.Database.{Lsps, version_at}
use Rattle.lsdb.specs.Time.{is_live, lifetime_in}

-- a live LSP doesn't die for so many seconds
abbrev pub LivesFor : ℕ → Entry → Type 0
LivesFor seconds e = 1 ≤ e.lifetime → seconds < e.lifetime

-- for so many seconds nothing but the lifetime of an entry changes by age, and none of its flags stands
pub record IsCalm (seconds : ℕ) (e : Entry) : Type 0 where
  pub flags : has_flags e ≡ false
  pub lives : LivesFor seconds e

-- so it is with all
abbrev pub AreCalm : ℕ → List Held → Type 0
AreCalm seconds held = AllByRecursion (λ h. IsCalm seconds (entry_of h)) held

-- an entry after a second in which nothing but the lifetime changes
abbrev pub lowered : Entry → Entry
lowered e = record e { lifetime = e.lifetime - 1 }

-- and after so many of them
abbrev pub lowered_by : ℕ → Entry → Entry
lowered_by seconds e = record e { lifetime = e.lifetime - seconds }

-- of each live LSP of a database more than so many seconds are left
abbrev pub HaveLeft : ℕ → Lsps → Type 0
HaveLeft seconds db = (id : LspId) → is_live (version_at db id) ≡ true → seconds < lifetime_in (get db id)

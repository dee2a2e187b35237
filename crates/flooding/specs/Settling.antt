-- Own LSPs brought up to date: when they stand as they are, and what becomes of them where they don't (ISO/IEC 10589,
-- 7.3.7 and 7.3.16).
use Rattle.std.specs.Prelude.{◌≡◌, ℕ, zero, suc, ◌+◌, ◌≤◌, ◌<◌, List, Bool, true, false, ◌&&◌, not, nat_le, Option, Some, None, is_some, if◌then◌else◌}
use Rattle.std.specs.Str.{bytes_eq}
use Rattle.std.specs.FinMap.{get}
use Rattle.spb_types.specs.declared.ports.PortSet.{PortSet}
use Rattle.lsdb.specs.declared.version.Version.{Version}
use Rattle.lsdb.specs.declared.version.Version.TheVariants.{Absent, Live, Dead}
use Rattle.lsdb.specs.Entry.{Entry}
use Rattle.lsdb.specs.Database.{version_in}
use Rattle.lsdb.specs.Time.{is_live, lifetime_in}
use Rattle.flooding.specs.Own.{own_numbers, own_number, body_of_number, body_in}
use Rattle.flooding.specs.Hearing.{Holding}
use Rattle.flooding.specs.Origination.{brought_up}
use Rattle.flooding.specs.declared.origination.TheConstants.{MAX_AGE}

-- what is held under an own number
abbrev pub own_held : Holding → ℕ → Option Entry
own_held h number = get h.db (own_number h.own.system number)

-- ---- tests of an own LSP

-- by a test of the body that the system has for a number, and of what is held under it, the number stands or doesn't
abbrev pub Test : Type 0
Test = Option (List ℕ) → Option Entry → Bool

-- whether an own LSP is as it has to be: live with the body of its number, or not live where there is none
abbrev pub says : Test
says None held = not (is_live (version_in held))
says (Some body) held = is_live (version_in held) && bytes_eq (body_in held) body

-- whether it has to be originated anew: its lifetime is 300 or less
abbrev pub is_old : Option Entry → Bool
is_old None = false
is_old (Some e) = nat_le e.lifetime 300

-- whether it is as it has to be, and isn't to be originated anew
abbrev pub is_new : Test
is_new body held = says body held && not (is_some body && is_old held)

-- a number stands by a test
abbrev pub stands : Test → Holding → ℕ → Bool
stands test h number = test (body_of_number h.own number) (own_held h number)

abbrev pub is_said : Holding → ℕ → Bool
is_said h number = stands says h number

abbrev pub is_fresh : Holding → ℕ → Bool
is_fresh h number = stands is_new h number

-- ---- brought up to date

-- at each number from k on, so many: nothing where it stands, and else this
abbrev pub each_from : {X : Type 0} → (X → ℕ → Bool) → (ℕ → X → X) → ℕ → ℕ → X → X
each_from stands act zero k x = x
each_from stands act (suc n) k x = each_from stands act n (k + 1) (if stands x k then x else act k x)

-- each number that doesn't stand is brought up to what the system says. A spent system leaves them
unfoldable pub settled_by : Test → PortSet → Holding → Holding
settled_by test up h = if h.own.spent then h else each_from (stands test) (brought_up up) own_numbers 0 h

-- after a change of what the system has to say
abbrev pub settled : PortSet → Holding → Holding
settled up h = settled_by says up h

-- after a second in which the lifetimes fell, for both reasons at once
abbrev pub kept_fresh : PortSet → Holding → Holding
kept_fresh up h = settled_by is_new up h

-- ---- current

-- an LSP that is live for 301 to 1,200 seconds more
abbrev pub Lasts : Version → ℕ → Type 0
Lasts Absent lifetime = ⊥
Lasts (Live seq sum) lifetime = (301 ≤ lifetime) × (lifetime ≤ MAX_AGE)
Lasts (Dead seq) lifetime = ⊥

abbrev pub IsAlive : Option Entry → Type 0
IsAlive None = ⊥
IsAlive (Some e) = Lasts e.version e.lifetime

-- an own LSP that says the body of its number and is alive; or isn't live where there is none
abbrev pub IsLspCurrent : Option (List ℕ) → Option Entry → Type 0
IsLspCurrent None held = is_live (version_in held) ≡ false
IsLspCurrent (Some body) held = (body_in held ≡ body) × IsAlive held

-- unless the system is spent, each of its LSPs is so
abbrev pub AreCurrent : Holding → Type 0
AreCurrent h = h.own.spent ≡ false → (number : ℕ) → number < own_numbers
    → IsLspCurrent (body_of_number h.own number) (own_held h number)

-- each own LSP that is live is so for this many seconds more, and 1,200 at most
abbrev pub LastIfLive : ℕ → Holding → Type 0
LastIfLive least h = (number : ℕ) → number < own_numbers → is_live (version_in (own_held h number)) ≡ true
    → (least ≤ lifetime_in (own_held h number)) × (lifetime_in (own_held h number) ≤ MAX_AGE)

-- ---- fresh

-- what is held, if it is live, isn't to be originated anew for its age in so many seconds
abbrev pub IsFreshFor : ℕ → Option Entry → Type 0
IsFreshFor seconds held = is_live (version_in held) ≡ true → seconds + 300 < lifetime_in held

-- so it is with each own LSP
abbrev pub AreFreshFor : ℕ → Holding → Type 0
AreFreshFor seconds h = (number : ℕ) → number < own_numbers → IsFreshFor seconds (own_held h number)

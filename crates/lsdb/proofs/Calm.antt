-- Seconds in which nothing but lifetimes changes by age.
use Rattle.std.specs.Prelude.{◌≡◌, ℕ, zero, suc, ◌+◌, ◌-◌, ◌≤◌, ◌<◌, Bool, true, false, ◌||◌, nat_le, cond, List, [], ◌∷◌, map, take, length, Option, Some, None, IfSome, if◌then◌else◌}
use Rattle.std.proofs.Common.{refl, sym, ap, subst, ◌∙◌, arith, get_or}
use Rattle.std.proofs.lemmas.Bool.{lt-leb}
use Rattle.std.specs.List.{AllByRecursion, list_any}
use Rattle.std.specs.Ordering.{is_eq}
use Rattle.std.specs.FinMap.{find, from_sorted}
use Rattle.spb_types.specs.declared.address.LspId.{LspId}
use Rattle.spb_types.specs.declared.ports.PortSet.{PortSet}
use Rattle.lsdb.specs.declared.version.Version.{Version}
use Rattle.lsdb.specs.declared.version.Version.TheVariants.{Absent, Live, Dead}
use Rattle.lsdb.specs.declared.held.Held.{Held}
use Rattle.lsdb.specs.Entry.{Entry, entry_of, has_flags, made, aged, IsClean, AreKept}
use Rattle.lsdb.specs.Database.{id_cmp, keyed, version_in}
use Rattle.lsdb.specs.Place.{IsSound, with_entry}
use Rattle.lsdb.specs.Time.{is_live, lifetime_in}
use Rattle.lsdb.specs.Calm.{LivesFor, AreCalm, HaveLeft, lowered, lowered_by}
use Rattle.lsdb.proofs.Maps.{get_map, get_at, at_itself, mapped_sound}

-- ---- lifetimes

abbrev pub AllLive : ℕ → List Held → Type 0
AllLive n hs = AllByRecursion (λ h. LivesFor n (entry_of h)) hs

pub for_fewer : (n m : ℕ) (hs : List Held) → m ≤ n → AllLive n hs → AllLive m hs
for_fewer n m [] fewer all = all
for_fewer n m (h ∷ hs) fewer all = (λ some. let left : n < h.lifetime = all.0 some in omega (arith, fewer, left), for_fewer n m hs fewer all.1)

next_one : (n : ℕ) (hs : List Held) (i : ℕ) (h : Held) → i < length hs → h ≡ get_or hs i h → AllLive n (take i hs) → LivesFor n (entry_of h) → AllLive n (take (suc i) hs)
next_one n [] i h within is all here = absurd (omega arith)
next_one n (g ∷ hs) zero h within is all here = (subst (λ (x : Held). LivesFor n (entry_of x)) is here, cc)
next_one n (g ∷ hs) (suc i) h within is all here = (all.0, next_one n hs i h (omega arith) is all.1 here)

pub one_more : (n : ℕ) (hs : List Held) (i : ℕ) (h : Held) → i < length hs → h ≡ get_or hs i h → AllLive n (take i hs) → LivesFor n (entry_of h) → AllLive n (take (i + 1) hs)
one_more n hs i h within is all here = let next : suc i ≡ i + 1 = omega arith in subst (λ k. AllLive n (take k hs)) next (next_one n hs i h within is all here)

-- ---- flags

or_parts : (a b : Bool) → (a || b) ≡ false → (a ≡ false) × (b ≡ false)
or_parts true b e = cc
or_parts false b e = (refl, e)

pub calm_from : (n : ℕ) (hs : List Held) → list_any (λ h. has_flags (entry_of h)) hs ≡ false → AllLive n hs → AreCalm n hs
calm_from n [] none all = all
calm_from n (h ∷ hs) none all =
    let parts = or_parts (has_flags (entry_of h)) (list_any (λ g. has_flags (entry_of g)) hs) none in
    (record { flags = parts.0; lives = all.0 }, calm_from n hs parts.1 all.1)

pub calm_flags : (n : ℕ) (hs : List Held) → AreCalm n hs → list_any (λ h. has_flags (entry_of h)) hs ≡ false
calm_flags n [] all = refl
calm_flags n (h ∷ hs) all = ap (λ b. b || list_any (λ g. has_flags (entry_of g)) hs) all.0.flags ∙ calm_flags n hs all.1

-- ---- a second

same_at : (up : PortSet) (n : ℕ) (v : Version) (lifetime : ℕ) (body : List ℕ) (srm ssn : PortSet) → AreKept v lifetime body → (1 ≤ lifetime → n < lifetime) → 1 ≤ n
    → lowered (record { version = v; lifetime = lifetime; body = body; srm = srm; ssn = ssn }) ≡ aged up (record { version = v; lifetime = lifetime; body = body; srm = srm; ssn = ssn })
same_at up n Absent lifetime body srm ssn kept lives some = let none : lifetime ≡ 0 = kept.0 in ap (λ (l : ℕ). record { version = Absent; lifetime = l; body = body; srm = srm; ssn = ssn }) (omega (arith, none))
same_at up n (Live seq sum) lifetime body srm ssn kept lives some =
    let left : n < lifetime = lives kept.0 in
    let more : nat_le lifetime 1 ≡ false = lt-leb lifetime 1 (omega (arith, left, some)) in
    sym (ap (λ b. if b then made (Dead seq) 0 [] up ssn else record { version = Live seq sum; lifetime = lifetime - 1; body = body; srm = srm; ssn = ssn }) more)
same_at up n (Dead seq) lifetime body srm ssn kept lives some = let none : lifetime ≡ 0 = kept.0 in ap (λ (l : ℕ). record { version = Dead seq; lifetime = l; body = body; srm = srm; ssn = ssn }) (omega (arith, none))

same_of : (up : PortSet) (n : ℕ) (h : Held) → IsClean (entry_of h) → LivesFor n (entry_of h) → 1 ≤ n → with_entry lowered h ≡ with_entry (aged up) h
same_of up n h clean lives some = ap (λ (e : Entry). with_entry (λ _. e) h) (same_at up n h.version h.lifetime h.body h.srm h.ssn clean lives some)

-- a calm second is one of age, whichever ports are Up
pub calm_second : (up : PortSet) (n : ℕ) (hs : List Held) → 1 ≤ n → AllByRecursion (λ h. IsClean (entry_of h)) hs → AreCalm n hs → map (with_entry lowered) hs ≡ map (with_entry (aged up)) hs
calm_second up n [] some clean all = refl
calm_second up n (h ∷ hs) some clean all =
    ap (λ (g : Held). g ∷ map (with_entry lowered) hs) (same_of up n h clean.0 all.0.lives some)
    ∙ ap (λ (gs : List Held). with_entry (aged up) h ∷ gs) (calm_second up n hs some clean.1 all.1)

-- ---- many seconds

-- as many fewer are left after them
pub calm_left : (n s : ℕ) (hs : List Held) → AreCalm (n + s) hs → AreCalm n (map (with_entry (lowered_by s)) hs)
calm_left n s [] all = all
calm_left n s (h ∷ hs) all = (
  record {
    flags = all.0.flags;
    lives = λ (left : 1 ≤ h.lifetime - s). let more : n + s < h.lifetime = all.0.lives (omega (arith, left)) in omega (arith, more);
  },
  calm_left n s hs all.1,
)

pub known_left : (s : ℕ) (known left : Option ℕ) (hs : List Held) → IfSome left (λ n. known ≡ Some (n + s)) → IfSome known (λ n. AreCalm n hs) → IfSome left (λ n. AreCalm n (map (with_entry (lowered_by s)) hs))
known_left s known None hs more calm = tt
known_left s known (Some n) hs more calm = calm_left n s hs (subst (λ (o : Option ℕ). IfSome o (λ m. AreCalm m hs)) more calm)

abbrev AllClean : List Held → Type 0
AllClean hs = AllByRecursion (λ h. IsClean (entry_of h)) hs

live_left : (n : ℕ) (v : Version) (lifetime : ℕ) (body : List ℕ) → AreKept v lifetime body → (1 ≤ lifetime → n < lifetime) → is_live v ≡ true → n < lifetime
live_left n Absent lifetime body kept lives live = absurd cc
live_left n (Live seq sum) lifetime body kept lives live = lives kept.0
live_left n (Dead seq) lifetime body kept lives live = absurd cc

found_left : (n : ℕ) (hs : List Held) → AllClean hs → AreCalm n hs → (id : LspId) → is_live (version_in (find id_cmp id (map keyed hs))) ≡ true → n < lifetime_in (find id_cmp id (map keyed hs))
found_left n [] clean all id live = absurd cc
found_left n (h ∷ hs) clean all id live =
    elim (is_eq (id_cmp id h.id))
    as (λ b. is_live (version_in (cond b (Some (entry_of h)) (find id_cmp id (map keyed hs)))) ≡ true → n < lifetime_in (cond b (Some (entry_of h)) (find id_cmp id (map keyed hs)))) [
      | true ↦ live_left n h.version h.lifetime h.body clean.0 all.0.lives
      | false ↦ found_left n hs clean.1 all.1 id
    ]
    live

-- of each live LSP more is left than the seconds for which all are calm
pub calm_lives : (n : ℕ) (hs : List Held) → IsSound hs → AreCalm n hs → HaveLeft n (from_sorted (map keyed hs))
calm_lives n hs sound all id = subst (λ (o : Option Entry). is_live (version_in o) ≡ true → n < lifetime_in o) (sym (get_map hs sound.sorted id)) (found_left n hs sound.clean all id)

-- which no live LSP outlives
kept_left : (s : ℕ) (v : Version) (lifetime : ℕ) (body : List ℕ) → AreKept v lifetime body → (is_live v ≡ true → s < lifetime) → AreKept v (lifetime - s) body
kept_left s Absent lifetime body kept lives = let none : lifetime ≡ 0 = kept.0 in (omega (arith, none), kept.1)
kept_left s (Live seq sum) lifetime body kept lives = let left : s < lifetime = lives refl in (omega (arith, left), kept.1)
kept_left s (Dead seq) lifetime body kept lives = let none : lifetime ≡ 0 = kept.0 in (omega (arith, none), kept.1)

clean_left : (s : ℕ) (hs : List Held) → AllClean hs → ((i : ℕ) (h : Held) → i < length hs → h ≡ get_or hs i h → is_live h.version ≡ true → s < h.lifetime) → AllClean (map (with_entry (lowered_by s)) hs)
clean_left s [] clean left = clean
clean_left s (h ∷ hs) clean left = (
  kept_left s h.version h.lifetime h.body clean.0 (left 0 h (omega arith) refl),
  clean_left s hs clean.1 (λ i g within here. left (suc i) g (omega (arith, within)) here),
)

-- what is held stays sound over seconds that are left of each live LSP
pub left_sound : (s : ℕ) (hs : List Held) → IsSound hs → HaveLeft s (from_sorted (map keyed hs)) → IsSound (map (with_entry (lowered_by s)) hs)
left_sound s hs sound left = mapped_sound (lowered_by s) hs (clean_left s hs sound.clean at) sound
  where
    at : (i : ℕ) (h : Held) → i < length hs → h ≡ get_or hs i h → is_live h.version ≡ true → s < h.lifetime
    at i h within here =
        subst (λ (o : Option Entry). is_live (version_in o) ≡ true → s < lifetime_in o) (get_at hs sound.sorted h.id i (at_itself hs i h within here) h ∙ ap (λ (g : Held). Some (entry_of g)) (sym here)) (left h.id)

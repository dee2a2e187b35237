-- After they were brought up to date own LSPs are current, unless the system is spent, and then they stand.
use Rattle.std.specs.Prelude.{◌≡◌, ◌≢◌, ℕ, ◌+◌, ◌≤◌, ◌<◌, List, Bool, true, false, ◌&&◌, not, nat_lt, nat_le, slice_get, Option, Some, None, is_some, if◌then◌else◌}
use Rattle.std.specs.Option.{option_and_then, option_map}
use Rattle.std.proofs.Common.{refl, sym, ap, subst, ◌∙◌, arith}
use Rattle.std.proofs.lemmas.Bool.{true≢false, and_parts, leb-false}
use Rattle.std.proofs.lemmas.Slice.Eq.{bytes_eq-Decides}
use Rattle.std.specs.Str.{bytes_eq}
use Rattle.std.specs.FinMap.{get}
use Rattle.spb_types.specs.declared.address.SystemId.{SystemId}
use Rattle.spb_types.specs.declared.address.LspId.{LspId}
use Rattle.spb_types.specs.declared.ports.PortSet.{PortSet}
use Rattle.lsdb.specs.declared.version.Version.{Version}
use Rattle.lsdb.specs.declared.version.Version.TheVariants.{Absent, Live, Dead}
use Rattle.lsdb.specs.Version.{number_of}
use Rattle.lsdb.specs.Entry.{Entry, purged}
use Rattle.lsdb.specs.Database.{Lsps, version_in, version_at}
use Rattle.lsdb.specs.Time.{is_live, lifetime_in}
use Rattle.lsdb.proofs.LookupLemmas.{get-changed_same}
use Rattle.flooding.specs.declared.own.Own.{Own}
use Rattle.flooding.specs.Own.{last_number, own_numbers, own_number, body_of_number, body_in, renewed}
use Rattle.flooding.specs.Hearing.{Holding}
use Rattle.flooding.specs.Origination.{spent_entry, purged_at, number_purged, originated, brought_up}
use Rattle.flooding.specs.Settling.{Test, own_held, says, is_old, is_new, stands, each_from, settled_by, Lasts, IsAlive, IsLspCurrent, AreCurrent}
use Rattle.flooding.specs.SettlingLaws.{SettledIsCurrent, FreshIsCurrent, CurrentIsSettled}
use Rattle.flooding.proofs.Brought.{originated_keeps, originated_is, next_stands, brought_fresh, bringing_leaves_others, bringing_leaves_own}
use Rattle.flooding.proofs.Folds.{folds_reach}
use Rattle.flooding.proofs.OwnNumbers.{other_number}
use Rattle.flooding.proofs.Owns.{SameOwn}
use Rattle.flooding.proofs.Settled.{settling_stands, settled_fresh, settling_keeps}

-- ---- what bringing up makes of its number

next_current : (up : PortSet) (id : LspId) (body : List ℕ) (seq : ℕ) (held : Option Entry) (own : Own) (b : Bool) → (if b then own else record own { spent = true }).spent ≡ false
    → IsLspCurrent (Some body) (Some (if b then renewed up id body (seq + 1) else spent_entry up seq held))
next_current up id body seq held own true fresh = (refl, (omega arith, omega arith))
next_current up id body seq held own false fresh = absurd (true≢false fresh)

purged_current : (up : PortSet) (id : LspId) (a : Version) (db : Lsps) → version_at db id ≡ a → is_live (version_in (get (purged_at up id a db) id)) ≡ false
purged_current up id Absent db is = ap is_live is
purged_current up id (Live seq sum) db is = ap (λ (o : Option Entry). is_live (version_in o)) (get-changed_same (purged seq up) db id) ∙ dead (get db id)
  where
    dead : (o : Option Entry) → is_live (version_in (option_map (purged seq up) o)) ≡ false
    dead None = refl
    dead (Some e) = refl
purged_current up id (Dead seq) db is = ap is_live is

originated_fresh : (up : PortSet) (number : ℕ) (h : Holding) → (originated up number h).own.spent ≡ false → h.own.spent ≡ false
originated_fresh up number h = originated_keeps (λ g. g.own.spent ≡ false → h.own.spent ≡ false) up number h (λ is. is) (λ body fresh has is. fresh)

originated_current : (up : PortSet) (number : ℕ) (h : Holding) (body : List ℕ) → body_of_number h.own number ≡ Some body → (originated up number h).own.spent ≡ false
    → IsLspCurrent (Some body) (get (originated up number h).db (own_number h.own.system number))
originated_current up number h body has fresh =
    let id = own_number h.own.system number in
    let held = get h.db id in
    let seq = number_of (version_in held) in
    let is = originated_is up number h body (originated_fresh up number h fresh) has in
    subst (λ (g : Holding). IsLspCurrent (Some body) (get g.db id)) (sym is)
    (subst (IsLspCurrent (Some body)) (sym (next_stands up number h body))
    (next_current up id body seq held h.own (nat_lt seq last_number) (ap (λ (g : Holding). g.own.spent) (sym is) ∙ fresh)))

-- by the body that there is
made_current : (up : PortSet) (number : ℕ) (h : Holding) (text : Option (List ℕ)) → body_of_number h.own number ≡ text
    → (if is_some text then originated up number h else number_purged up number h).own.spent ≡ false
    → IsLspCurrent text (get (if is_some text then originated up number h else number_purged up number h).db (own_number h.own.system number))
made_current up number h None is fresh = purged_current up (own_number h.own.system number) (version_at h.db (own_number h.own.system number)) h.db refl
made_current up number h (Some body) is fresh = originated_current up number h body is fresh

brought_current : (up : PortSet) (number : ℕ) (h : Holding) → (brought_up up number h).own.spent ≡ false → IsLspCurrent (body_of_number h.own number) (get (brought_up up number h).db (own_number h.own.system number))
brought_current up number h fresh = made_current up number h (body_of_number h.own number) refl fresh

-- ---- the fold

-- the same system with the same bodies, and what is known of a number
record Same (h : Holding) (number : ℕ) (P : Option Entry → Type 0) (g : Holding) : Type 0 where
  own : SameOwn h.own g.own
  held : P (get g.db (own_number h.own.system number))

abbrev text_in : List (Option (List ℕ)) → ℕ → Option (List ℕ)
text_in bodies number = option_and_then (λ body. body) (slice_get bodies number)

-- whatever the test of one number is, and whatever is known of it before, if what passes is current
module _ (test : Test) (Known : Option Entry → Type 0) (passes : (text : Option (List ℕ)) (o : Option Entry) → test text o ≡ true → Known o → IsLspCurrent text o) (up : PortSet) (h : Holding) (number : ℕ) where
  abbrev IsBehind : Holding → Type 0
  IsBehind g = SameOwn h.own g.own × (g.own.spent ≡ false → IsLspCurrent (body_of_number h.own number) (get g.db (own_number h.own.system number)))

  other_at : (i : ℕ) (g : Holding) → number ≢ i → SameOwn h.own g.own → get (brought_up up i g).db (own_number h.own.system number) ≡ get g.db (own_number h.own.system number)
  other_at i g apart same =
      bringing_leaves_others up i g (own_number h.own.system number) (subst (λ (s : SystemId). own_number h.own.system number ≢ own_number s i) (sym same.0) (other_number h.own.system number i apart))

  own_then : (i : ℕ) (g : Holding) → SameOwn h.own g.own → SameOwn h.own (brought_up up i g).own
  own_then i g same = let next = bringing_leaves_own up i g in (next.0 ∙ same.0, next.1 ∙ same.1)

  before : (i : ℕ) (g : Holding) (b : Bool) → i < number → Same h number Known g → Same h number Known (if b then g else brought_up up i g)
  before i g true lower s = s
  before i g false lower s = record {
    own = own_then i g s.own;
    held = subst Known (sym (other_at i g (λ e. absurd (omega (arith, lower, e))) s.own)) s.held;
  }

  behind : (i : ℕ) (g : Holding) → number < i → IsBehind g → IsBehind (brought_up up i g)
  behind i g above b = (
    own_then i g b.0,
    λ fresh. subst (IsLspCurrent (body_of_number h.own number)) (sym (other_at i g (λ e. absurd (omega (arith, above, e))) b.0)) (b.1 (brought_fresh up i g fresh)),
  )

  done : (g : Holding) (b : Bool) → stands test g number ≡ b → Same h number Known g → IsBehind (if b then g else brought_up up number g)
  done g true said s = (
    s.own,
    λ fresh. passes (body_of_number h.own number) (get g.db (own_number h.own.system number))
        (sym (λ i. test (text_in (s.own.1 i) number) (get g.db (own_number (s.own.0 i) number))) ∙ said) s.held,
  )
  done g false said s = (
    own_then number g s.own,
    λ fresh.
        subst (λ (x : SystemId). IsLspCurrent (body_of_number h.own number) (get (brought_up up number g).db (own_number x number))) s.own.0
        (subst (λ (bs : List (Option (List ℕ))). IsLspCurrent (text_in bs number) (get (brought_up up number g).db (own_number g.own.system number))) s.own.1 (brought_current up number g fresh)),
  )

  folded : number < own_numbers → Known (own_held h number) → IsBehind (each_from (stands test) (brought_up up) own_numbers 0 h)
  folded below known =
      folds_reach Holding (λ i g. Same h number Known g) IsBehind (stands test) (brought_up up) own_numbers 0 h number
      (λ i g lower s. before i g (stands test g i) lower s) (λ g s. done g (stands test g number) refl s) (λ i g above high b. behind i g above b)
      (record { own = (refl, refl); held = known }) (omega arith) (omega (arith, below))

  reached : (g : Holding) → IsBehind g → g.own.spent ≡ false → IsLspCurrent (body_of_number g.own number) (own_held g number)
  reached g b fresh =
      subst (λ (x : SystemId). IsLspCurrent (body_of_number g.own number) (get g.db (own_number x number))) (sym b.0.0)
      (subst (λ (bs : List (Option (List ℕ))). IsLspCurrent (text_in bs number) (get g.db (own_number h.own.system number))) (sym b.0.1) (b.1 fresh))

was_fresh : (test : Test) (up : PortSet) (h : Holding) → (settled_by test up h).own.spent ≡ false → h.own.spent ≡ false
was_fresh test up h =
    settling_keeps (λ g. g.own.spent ≡ false → h.own.spent ≡ false) test up h (λ number g below before is. before (brought_fresh up number g is)) (λ is. is)

settling_makes_current : (test : Test) (Known : Option Entry → Type 0) (passes : (text : Option (List ℕ)) (o : Option Entry) → test text o ≡ true → Known o → IsLspCurrent text o) (up : PortSet) (h : Holding)
    → (h.own.spent ≡ false → (number : ℕ) → number < own_numbers → Known (own_held h number)) → AreCurrent (settled_by test up h)
settling_makes_current test Known passes up h known fresh number below =
    let unspent = was_fresh test up h fresh in
    let is = settled_fresh test up h unspent in
    subst (λ (g : Holding). IsLspCurrent (body_of_number g.own number) (own_held g number)) (sym is)
    (reached test Known passes up h number (each_from (stands test) (brought_up up) own_numbers 0 h) (folded test Known passes up h number below (known unspent number below))
    (ap (λ (g : Holding). g.own.spent) (sym is) ∙ fresh))

-- ---- what passes is current

-- a live one has so many seconds left
abbrev Ages : ℕ → Option Entry → Type 0
Ages least o = is_live (version_in o) ≡ true → (least ≤ lifetime_in o) × (lifetime_in o ≤ 1200)

not_true : (b : Bool) → not b ≡ true → b ≡ false
not_true true e = sym e
not_true false e = refl

alive_by : (a : Version) (n : ℕ) → is_live a ≡ true → 301 ≤ n → n ≤ 1200 → Lasts a n
alive_by Absent n live low high = absurd (true≢false (sym live))
alive_by (Live seq sum) n live low high = (low, high)
alive_by (Dead seq) n live low high = absurd (true≢false (sym live))

alive_in : (held : Option Entry) → is_live (version_in held) ≡ true → 301 ≤ lifetime_in held → lifetime_in held ≤ 1200 → IsAlive held
alive_in None live low high = absurd (true≢false (sym live))
alive_in (Some e) live low high = alive_by e.version e.lifetime live low high

said_current : (text : Option (List ℕ)) (o : Option Entry) → says text o ≡ true → Ages 301 o → IsLspCurrent text o
said_current None o said ages = not_true (is_live (version_in o)) said
said_current (Some body) o said ages =
    let parts = and_parts (is_live (version_in o)) (bytes_eq (body_in o) body) said in
    let range = ages parts.0 in
    ((bytes_eq-Decides (body_in o) body).0 parts.1, alive_in o parts.0 range.0 range.1)

young_by : (held : Option Entry) → is_live (version_in held) ≡ true → not (is_old held) ≡ true → 301 ≤ lifetime_in held
young_by None live young = absurd (true≢false (sym live))
young_by (Some e) live young = let more : nat_le e.lifetime 300 ≡ false = not_true (nat_le e.lifetime 300) young in omega (arith, leb-false e.lifetime 300 more)

new_current : (text : Option (List ℕ)) (o : Option Entry) → is_new text o ≡ true → Ages 300 o → IsLspCurrent text o
new_current None o is ages = not_true (is_live (version_in o)) (and_parts (not (is_live (version_in o))) true is).0
new_current (Some body) o is ages =
    let parts = and_parts (says (Some body) o) (not (is_old o)) is in
    said_current (Some body) o parts.0 (λ live. (young_by o live parts.1, (ages live).1))

pub settled_is_current : SettledIsCurrent
settled_is_current up h was = settling_makes_current says (Ages 301) said_current up h (λ fresh number below. was fresh number below)

pub fresh_is_current : FreshIsCurrent
fresh_is_current up h was = settling_makes_current is_new (Ages 300) new_current up h (λ fresh number below. was fresh number below)

-- ---- what is current is said

alive_is_live : (a : Version) (n : ℕ) → Lasts a n → is_live a ≡ true
alive_is_live Absent n lasts = absurd lasts
alive_is_live (Live seq sum) n lasts = refl
alive_is_live (Dead seq) n lasts = absurd lasts

pub live_if_alive : (held : Option Entry) → IsAlive held → is_live (version_in held) ≡ true
live_if_alive None alive = absurd alive
live_if_alive (Some e) alive = alive_is_live e.version e.lifetime alive

pub says_both : (body : List ℕ) (held : Option Entry) → is_live (version_in held) ≡ true → body_in held ≡ body → says (Some body) held ≡ true
says_both body held live same = ap (λ b. b && bytes_eq (body_in held) body) live ∙ (bytes_eq-Decides (body_in held) body).1 same

pub current_is_said : (text : Option (List ℕ)) (held : Option Entry) → IsLspCurrent text held → says text held ≡ true
current_is_said None held is = ap not is
current_is_said (Some body) held is = says_both body held (live_if_alive held is.1) is.0

pub current_is_settled : CurrentIsSettled
current_is_settled up h is = settling_stands says up h (λ fresh number below. current_is_said (body_of_number h.own number) (own_held h number) (is fresh number below))

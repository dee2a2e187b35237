-- What becomes of an own LSP that is brought up to what the system says.
use Rattle.std.specs.Prelude.{◌≡◌, ◌≢◌, ℕ, ◌+◌, ◌≤◌, ◌<◌, List, [], Bool, true, false, Option, Some, None, is_some, nat_lt, if◌then◌else◌}
use Rattle.std.proofs.Common.{cond, refl, sym, ap, subst, ◌∙◌, inl, inr, arith}
use Rattle.std.proofs.lemmas.Bool.{lt-ltb}
use Rattle.std.specs.Option.{option_map}
use Rattle.std.specs.FinMap.{get, insert, len, len-insert, contains_key}
use Rattle.spb_types.specs.declared.address.LspId.{LspId}
use Rattle.spb_types.specs.declared.ports.PortSet.{PortSet}
use Rattle.lsdb.specs.declared.version.Version.{Version}
use Rattle.lsdb.specs.declared.version.Version.TheVariants.{Absent, Live, Dead}
use Rattle.lsdb.specs.Version.{number_of}
use Rattle.lsdb.specs.Entry.{Entry, purged}
use Rattle.lsdb.specs.Database.{Lsps, version_in, version_at, changed, changed_to}
use Rattle.lsdb.specs.Certificate.{Claim, is_flagged, EntryCertificate, Certificate}
use Rattle.lsdb.proofs.Order.{greater}
use Rattle.lsdb.proofs.Certified.{standing, flooding, changing}
use Rattle.lsdb.proofs.Ids.{ids_total}
use Rattle.lsdb.proofs.LookupLemmas.{same_or_not, get-insert_same, get-insert_other, get-changed_same, get-changed_other}
use Rattle.flooding.specs.declared.own.Own.{Own}
use Rattle.flooding.specs.Own.{last_number, own_number, body_of_number, body_in, renewed}
use Rattle.flooding.specs.Hearing.{Holding}
use Rattle.flooding.specs.Origination.{spent_entry, next_entry, originated_as, originated_by, originated, purged_at, number_purged, brought_up}
use Rattle.flooding.specs.Laws.{control, BringingIsCertified, IsOwnBody, stays, renews, ends, BringingLeavesOwnBody, OriginatedStands, BringingLeavesOthers, BringingLeavesOwn, BringingIsNotSpent}
use Rattle.flooding.proofs.Owns.{SameOwn}
use Rattle.flooding.proofs.Steps.{at_most_dead}
use Rattle.flooding.specs.declared.origination.TheConstants.{MAX_AGE}

-- ---- what an origination and a purge keep, bringing up keeps

-- what an origination of a number makes of a system that isn't spent
abbrev pub next_of : PortSet → ℕ → List ℕ → Holding → Holding
next_of up number body h = originated_as up (own_number h.own.system number) body (get h.db (own_number h.own.system number)) h

-- and a purge of one that is live
abbrev pub end_of : PortSet → ℕ → ℕ → Holding → Holding
end_of up number seq h = record h { db = changed (purged seq up) h.db (own_number h.own.system number) }

with_body : (P : Holding → Type 0) (up : PortSet) (number : ℕ) (h : Holding) (o : Option (List ℕ)) → body_of_number h.own number ≡ o → P h
    → ((body : List ℕ) → body_of_number h.own number ≡ Some body → P (next_of up number body h)) → P (originated_by up number o h)
with_body P up number h None is same next = same
with_body P up number h (Some body) is same next = next body is

by_spent : (P : Holding → Type 0) (up : PortSet) (number : ℕ) (h : Holding) (b : Bool) → h.own.spent ≡ b → P h
    → ((body : List ℕ) → h.own.spent ≡ false → body_of_number h.own number ≡ Some body → P (next_of up number body h))
    → P (if b then h else originated_by up number (body_of_number h.own number) h)
by_spent P up number h true is same next = same
by_spent P up number h false is same next = with_body P up number h (body_of_number h.own number) refl same (λ body has. next body is has)

pub originated_keeps : (P : Holding → Type 0) (up : PortSet) (number : ℕ) (h : Holding) → P h
    → ((body : List ℕ) → h.own.spent ≡ false → body_of_number h.own number ≡ Some body → P (next_of up number body h)) → P (originated up number h)
unfolding originated
originated_keeps P up number h same next = by_spent P up number h h.own.spent refl same next

by_version : (P : Holding → Type 0) (up : PortSet) (number : ℕ) (h : Holding) (a : Version) → version_at h.db (own_number h.own.system number) ≡ a → P h
    → ((seq sum : ℕ) → version_at h.db (own_number h.own.system number) ≡ Live seq sum → P (end_of up number seq h))
    → P (record h { db = purged_at up (own_number h.own.system number) a h.db })
by_version P up number h Absent is same end = same
by_version P up number h (Live seq sum) is same end = end seq sum is
by_version P up number h (Dead seq) is same end = same

pub purged_keeps : (P : Holding → Type 0) (up : PortSet) (number : ℕ) (h : Holding) → P h
    → ((seq sum : ℕ) → version_at h.db (own_number h.own.system number) ≡ Live seq sum → P (end_of up number seq h)) → P (number_purged up number h)
purged_keeps P up number h same end = by_version P up number h (version_at h.db (own_number h.own.system number)) refl same end

by_body : (P : Holding → Type 0) (up : PortSet) (number : ℕ) (h : Holding) (b : Bool) → P (originated up number h) → P (number_purged up number h)
    → P (if b then originated up number h else number_purged up number h)
by_body P up number h true first second = first
by_body P up number h false first second = second

pub brought_keeps : (P : Holding → Type 0) (up : PortSet) (number : ℕ) (h : Holding) → P h
    → ((body : List ℕ) → h.own.spent ≡ false → body_of_number h.own number ≡ Some body → P (next_of up number body h))
    → ((seq sum : ℕ) → version_at h.db (own_number h.own.system number) ≡ Live seq sum → P (end_of up number seq h))
    → P (brought_up up number h)
brought_keeps P up number h same next end =
    by_body P up number h (is_some (body_of_number h.own number)) (originated_keeps P up number h same next) (purged_keeps P up number h same end)

-- ---- other ids

pub next_leaves : (up : PortSet) (number : ℕ) (h : Holding) (x : LspId) → x ≢ own_number h.own.system number → (body : List ℕ) → get (next_of up number body h).db x ≡ get h.db x
next_leaves up number h x apart body =
    let id = own_number h.own.system number in
    let held = get h.db id in
    get-insert_other h.db id (next_entry up id body (number_of (version_in held)) held) x apart

pub bringing_leaves_others : BringingLeavesOthers
bringing_leaves_others up number h x apart =
    brought_keeps (λ g. get g.db x ≡ get h.db x) up number h refl
    (λ body fresh has. next_leaves up number h x apart body)
    (λ seq sum live. get-changed_other (purged seq up) h.db (own_number h.own.system number) x apart)

pub originated_leaves_others : (up : PortSet) (number : ℕ) (h : Holding) (x : LspId) → x ≢ own_number h.own.system number → get (originated up number h).db x ≡ get h.db x
originated_leaves_others up number h x apart = originated_keeps (λ g. get g.db x ≡ get h.db x) up number h refl (λ body fresh has. next_leaves up number h x apart body)

-- ---- the system

next_own_by : (own : Own) (b : Bool) → SameOwn own (if b then own else record own { spent = true })
next_own_by own true = (refl, refl)
next_own_by own false = (refl, refl)

pub bringing_leaves_own : BringingLeavesOwn
bringing_leaves_own up number h =
    brought_keeps (λ g. SameOwn h.own g.own) up number h (refl, refl)
    (λ body fresh has. next_own_by h.own (nat_lt (number_of (version_at h.db (own_number h.own.system number))) last_number))
    (λ seq sum live. (refl, refl))

pub bringing_is_not_spent : BringingIsNotSpent
bringing_is_not_spent up number h below =
    brought_keeps (λ g. g.own ≡ h.own) up number h refl
    (λ body fresh has. ap (λ b. if b then h.own else record h.own { spent = true }) (lt-ltb (number_of (version_at h.db (own_number h.own.system number))) last_number below))
    (λ seq sum live. refl)

pub originated_is_not_spent : (up : PortSet) (number : ℕ) (h : Holding) → number_of (version_at h.db (own_number h.own.system number)) < last_number → (originated up number h).own ≡ h.own
originated_is_not_spent up number h below =
    originated_keeps (λ g. g.own ≡ h.own) up number h refl
    (λ body fresh has. ap (λ b. if b then h.own else record h.own { spent = true }) (lt-ltb (number_of (version_at h.db (own_number h.own.system number))) last_number below))

pub originated_leaves_own : (up : PortSet) (number : ℕ) (h : Holding) → SameOwn h.own (originated up number h).own
originated_leaves_own up number h =
    originated_keeps (λ g. SameOwn h.own g.own) up number h (refl, refl)
    (λ body fresh has. next_own_by h.own (nat_lt (number_of (version_at h.db (own_number h.own.system number))) last_number))

-- unspent afterwards is unspent before
pub brought_fresh : (up : PortSet) (number : ℕ) (h : Holding) → (brought_up up number h).own.spent ≡ false → h.own.spent ≡ false
brought_fresh up number h =
    brought_keeps (λ g. g.own.spent ≡ false → h.own.spent ≡ false) up number h (λ is. is) (λ body fresh has is. fresh) (λ seq sum live is. is)

-- ---- its own id

-- where the system has a body for the number and isn't spent
pub originated_is : (up : PortSet) (number : ℕ) (h : Holding) (body : List ℕ) → h.own.spent ≡ false → body_of_number h.own number ≡ Some body → originated up number h ≡ next_of up number body h
unfolding originated
originated_is up number h body fresh is =
    ap (λ b. if b then h else originated_by up number (body_of_number h.own number) h) fresh ∙ ap (λ (o : Option (List ℕ)). originated_by up number o h) is

pub brought_is : (up : PortSet) (number : ℕ) (h : Holding) (body : List ℕ) → h.own.spent ≡ false → body_of_number h.own number ≡ Some body → brought_up up number h ≡ next_of up number body h
brought_is up number h body fresh is =
    ap (λ (o : Option (List ℕ)). if is_some o then originated up number h else number_purged up number h) is ∙ originated_is up number h body fresh is

pub next_stands : (up : PortSet) (number : ℕ) (h : Holding) (body : List ℕ)
    → get (next_of up number body h).db (own_number h.own.system number)
    ≡ Some (next_entry up (own_number h.own.system number) body (number_of (version_at h.db (own_number h.own.system number))) (get h.db (own_number h.own.system number)))
next_stands up number h body =
    let id = own_number h.own.system number in
    get-insert_same h.db id (next_entry up id body (number_of (version_at h.db id)) (get h.db id))

pub originated_stands : OriginatedStands
originated_stands up number h body fresh is =
    ap (λ (g : Holding). get g.db (own_number h.own.system number)) (originated_is up number h body fresh is) ∙ next_stands up number h body

-- ---- bodies

next_body : (up : PortSet) (own : Own) (number : ℕ) (body : List ℕ) (seq : ℕ) (held : Option Entry) (b : Bool) → body_of_number own number ≡ Some body
    → IsOwnBody own (own_number own.system number) held (Some (if b then renewed up (own_number own.system number) body (seq + 1) else spent_entry up seq held))
next_body up own number body seq held true is = renews is
next_body up own number body seq held false is = ends refl

own_next : (up : PortSet) (number : ℕ) (h : Holding) (body : List ℕ) → body_of_number h.own number ≡ Some body
    → IsOwnBody h.own (own_number h.own.system number) (get h.db (own_number h.own.system number)) (get (next_of up number body h).db (own_number h.own.system number))
own_next up number h body is =
    let id = own_number h.own.system number in
    let seq = number_of (version_at h.db id) in
    subst (IsOwnBody h.own id (get h.db id)) (sym (next_stands up number h body)) (next_body up h.own number body seq (get h.db id) (nat_lt seq last_number) is)

purged_body : (up : PortSet) (own : Own) (id : LspId) (seq : ℕ) (o : Option Entry) → IsOwnBody own id o (option_map (purged seq up) o)
purged_body up own id seq None = stays refl
purged_body up own id seq (Some e) = ends refl

own_end : (up : PortSet) (number seq : ℕ) (h : Holding)
    → IsOwnBody h.own (own_number h.own.system number) (get h.db (own_number h.own.system number)) (get (end_of up number seq h).db (own_number h.own.system number))
own_end up number seq h =
    let id = own_number h.own.system number in
    subst (IsOwnBody h.own id (get h.db id)) (sym (get-changed_same (purged seq up) h.db id)) (purged_body up h.own id seq (get h.db id))

own_brought : (up : PortSet) (number : ℕ) (h : Holding)
    → IsOwnBody h.own (own_number h.own.system number) (get h.db (own_number h.own.system number)) (get (brought_up up number h).db (own_number h.own.system number))
own_brought up number h =
    let id = own_number h.own.system number in
    brought_keeps (λ g. IsOwnBody h.own id (get h.db id) (get g.db id)) up number h (stays refl)
    (λ body fresh has. own_next up number h body has) (λ seq sum live. own_end up number seq h)

pub bringing_leaves_own_body : BringingLeavesOwnBody
bringing_leaves_own_body up number h id =
    elim (same_or_not id (own_number h.own.system number)) [
      | inl here ↦ subst (λ (x : LspId). IsOwnBody h.own x (get h.db x) (get (brought_up up number h).db x)) (sym here) (own_brought up number h)
      | inr apart ↦ stays (ap body_in (bringing_leaves_others up number h id apart))
    ]

-- ---- the certificate

-- an entry that is put in
inserting : (port : ℕ) (claims : List Claim) (up : PortSet) (db : Lsps) (id : LspId) (new : Entry) → EntryCertificate port claims up up id (get db id) (Some new)
    → Certificate port claims (record { up = up; db = db }) (record { up = up; db = insert db id new })
inserting port claims up db id new step = record {
  rises = λ x. (at x).rises;
  kept = λ x. (at x).kept;
}
  where
    stands : Certificate port claims (record { up = up; db = db }) (record { up = up; db = db })
    stands = standing port claims (record { up = up; db = db })

    at : (x : LspId) → EntryCertificate port claims up up x (get db x) (get (insert db id new) x)
    at x =
        elim (same_or_not x id) [
          | inl here ↦
              subst (λ (y : LspId). EntryCertificate port claims up up y (get db y) (get (insert db id new) y)) (sym here)
              (subst (λ (o : Option Entry). EntryCertificate port claims up up id (get db id) o) (sym (get-insert_same db id new)) step)
          | inr apart ↦
              subst (λ (o : Option Entry). EntryCertificate port claims up up x (get db x) o) (sym (get-insert_other db id new x apart))
              (record { rises = stands.rises x; kept = λ p u. stands.kept x p u })
        ]

next_step : (up : PortSet) (port : ℕ) (claims : List Claim) (id : LspId) (body : List ℕ) (held : Option Entry) (b : Bool)
    → EntryCertificate port claims up up id held (Some (if b then renewed up id body (number_of (version_in held) + 1) else spent_entry up (number_of (version_in held)) held))
next_step up port claims id body held true =
    let further = renewed up id body (number_of (version_in held) + 1) in
    flooding up port claims id further.version MAX_AGE body held (greater (version_in held) further.version (omega arith))
next_step up port claims id body held false = record { rises = at_most_dead (version_in held) (number_of (version_in held)) (omega arith); kept = λ p u. is_flagged u }

ended : (up : PortSet) (port : ℕ) (claims : List Claim) (id : LspId) (seq sum : ℕ) (o : Option Entry) → version_in o ≡ Live seq sum
    → EntryCertificate port claims up up id o (option_map (purged seq up) o)
ended up port claims id seq sum None is = absurd (cc)
ended up port claims id seq sum (Some e) is = flooding up port claims id (Dead seq) 0 [] (Some e) (at_most_dead e.version seq (omega (arith, ap number_of is)))

pub bringing : BringingIsCertified
bringing up port number claims h =
    let id = own_number h.own.system number in
    let held = get h.db id in
    brought_keeps (λ g. Certificate port claims (control up h) (control up g)) up number h (standing port claims (control up h))
    (λ body fresh has.
    inserting port claims up h.db id (next_entry up id body (number_of (version_in held)) held) (next_step up port claims id body held (nat_lt (number_of (version_in held)) last_number)))
    (λ seq sum live. changing port claims up h.db id (purged seq up) (ended up port claims id seq sum held live))

-- ---- numbers and ids

next_number : (up : PortSet) (id : LspId) (body : List ℕ) (seq : ℕ) (held : Option Entry) (b : Bool) → number_of (if b then renewed up id body (seq + 1) else spent_entry up seq held).version ≤ seq + 1
next_number up id body seq held true = omega arith
next_number up id body seq held false = omega arith

purged_number : (up : PortSet) (seq sum : ℕ) (o : Option Entry) → version_in o ≡ Live seq sum → number_of (version_in (option_map (purged seq up) o)) ≤ number_of (version_in o) + 1
purged_number up seq sum None is = absurd (cc)
purged_number up seq sum (Some e) is = omega (arith, ap number_of is)

own_further : (up : PortSet) (number : ℕ) (h : Holding)
    → number_of (version_at (brought_up up number h).db (own_number h.own.system number)) ≤ number_of (version_at h.db (own_number h.own.system number)) + 1
own_further up number h =
    let id = own_number h.own.system number in
    let seq = number_of (version_at h.db id) in
    brought_keeps (λ g. number_of (version_at g.db id) ≤ seq + 1) up number h (omega arith)
    (λ body fresh has. subst (λ (o : Option Entry). number_of (version_in o) ≤ seq + 1) (sym (next_stands up number h body)) (next_number up id body seq (get h.db id) (nat_lt seq last_number)))
    (λ s sum live. subst (λ (o : Option Entry). number_of (version_in o) ≤ seq + 1) (sym (get-changed_same (purged s up) h.db id)) (purged_number up s sum (get h.db id) live))

pub brought_further : (up : PortSet) (number : ℕ) (h : Holding) (id : LspId) → number_of (version_at (brought_up up number h).db id) ≤ number_of (version_at h.db id) + 1
brought_further up number h id =
    elim (same_or_not id (own_number h.own.system number)) [
      | inl here ↦ subst (λ (x : LspId). number_of (version_at (brought_up up number h).db x) ≤ number_of (version_at h.db x) + 1) (sym here) (own_further up number h)
      | inr apart ↦
          subst (λ (o : Option Entry). number_of (version_in o) ≤ number_of (version_at h.db id) + 1) (sym (bringing_leaves_others up number h id apart)) (omega arith)
    ]

len_insert : (b : Bool) (n m : ℕ) → n ≡ cond b m (m + 1) → n ≤ m + 1
len_insert true n m is = omega (arith, is)
len_insert false n m is = omega (arith, is)

insert_few : (db : Lsps) (id : LspId) (e : Entry) → len (insert db id e) ≤ len db + 1
insert_few db id e = len_insert (contains_key db id) (len (insert db id e)) (len db) (len-insert ids_total db id e)

pub change_few : (db : Lsps) (id : LspId) (o : Option Entry) → len (changed_to db id o) ≤ len db + 1
change_few db id None = omega arith
change_few db id (Some e) = insert_few db id e

pub brought_few : (up : PortSet) (number : ℕ) (h : Holding) → len (brought_up up number h).db ≤ len h.db + 1
brought_few up number h =
    let id = own_number h.own.system number in
    let held = get h.db id in
    brought_keeps (λ g. len g.db ≤ len h.db + 1) up number h (omega arith)
    (λ body fresh has. insert_few h.db id (next_entry up id body (number_of (version_in held)) held))
    (λ seq sum live. change_few h.db id (option_map (purged seq up) held))

pub originated_few : (up : PortSet) (number : ℕ) (h : Holding) → len (originated up number h).db ≤ len h.db + 1
originated_few up number h =
    let id = own_number h.own.system number in
    let held = get h.db id in
    originated_keeps (λ g. len g.db ≤ len h.db + 1) up number h (omega arith) (λ body fresh has. insert_few h.db id (next_entry up id body (number_of (version_in held)) held))

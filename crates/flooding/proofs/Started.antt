-- What is held when a life begins can be sent, at no port yet, and leaves room.
use Rattle.std.specs.Prelude.{◌≡◌, ℕ, zero, suc, ◌+◌, ◌≤◌, ◌<◌, List, [], ◌∷◌, length, Bool, true, false, Option, Some, None, nat_lt, slice_get, slice_index, drop, if◌then◌else◌, ⊤}
use Rattle.std.specs.Option.{option_and_then}
use Rattle.std.specs.List.{AllByRecursion}
use Rattle.std.proofs.Common.{refl, sym, ap, subst, ◌∙◌, arith, inl, inr}
use Rattle.std.proofs.lemmas.Bool.{ltb-true, ltb-false}
use Rattle.std.proofs.Math.Seq.{drop-cons}
use Rattle.std.specs.FinMap.{get, insert, len}
use Rattle.spb_types.specs.declared.address.SystemId.{SystemId}
use Rattle.spb_types.specs.declared.address.LspId.{LspId}
use Rattle.spb_types.specs.Ports.{no_ports}
use Rattle.lsdb.specs.Entry.{Entry}
use Rattle.lsdb.specs.Database.{Lsps, changed_to}
use Rattle.lsdb.proofs.LookupLemmas.{same_or_not, get-insert_same, get-insert_other}
use Rattle.flooding.specs.declared.own.Own.{Own}
use Rattle.flooding.specs.Own.{last_number, own_numbers, own_number, body_of_number, body_in, renewed, dead_at, HaveBytes}
use Rattle.flooding.specs.Room.{most_others, others}
use Rattle.flooding.specs.Hearing.{Holding, HasFewOthers}
use Rattle.flooding.specs.Entries.{AllEntries, IsSendable, AreSendable, HasFlagsAt, HaveFlagsAt}
use Rattle.flooding.specs.Laws.{IsOwnBody, stays, renews, ends}
use Rattle.flooding.specs.Starting.{started_by, started_as, started, started_all, HasNoFlags, StartingKeepsSendable, StartingKeepsFlags, StartingKeepsFew, StartingBringsFew, StartingKeepsSilence, StartingLeavesOwnBody}
use Rattle.flooding.proofs.Owns.{SameOwn}
use Rattle.flooding.proofs.AllEntries.{inserted}
use Rattle.flooding.proofs.Settled.{bodies_of, body_then}
use Rattle.flooding.proofs.SendableEntries.{renewed_sendable, dead_sendable}
use Rattle.flooding.proofs.FlagEntries.{none_up}
use Rattle.flooding.proofs.Brought.{change_few}
use Rattle.flooding.proofs.Few.{number_has_room}
use Rattle.flooding.proofs.Fits.{putting_keeps_few}
use Rattle.flooding.proofs.Begun.{starting_leaves_own, starting_keeps}

-- ---- the entry

-- what is so of a live one and of a dead one is so of what a number begins with
module _ (P : Entry → Type 0) (id : LspId) where
  by_body : (n : ℕ) (o : Option (List ℕ)) → ((body : List ℕ) → o ≡ Some body → P (renewed no_ports id body (n + 1))) → (1 ≤ n → P (dead_at no_ports n))
      → (e : Entry) → started_by id n o ≡ Some e → P e
  by_body n (Some body) live dead e is = let same : renewed no_ports id body (n + 1) ≡ e = cc in subst P same (live body refl)
  by_body zero None live dead e is = absurd cc
  by_body (suc n) None live dead e is = let same : dead_at no_ports (suc n) ≡ e = cc in subst P same (dead (omega arith))

  by_number : (n : ℕ) (o : Option (List ℕ)) (b : Bool) → nat_lt n last_number ≡ b → ((body : List ℕ) → o ≡ Some body → n < last_number → P (renewed no_ports id body (n + 1)))
      → (1 ≤ n → P (dead_at no_ports n)) → (e : Entry) → (if b then started_by id n o else Some (dead_at no_ports n)) ≡ Some e → P e
  by_number n o true is live dead e found = let below = ltb-true n last_number is in by_body n o (λ body has. live body has below) dead e found
  by_number n o false is live dead e found =
      let past = ltb-false n last_number is in
      let same : dead_at no_ports n ≡ e = cc in
      subst P same (dead (omega (arith, past)))

  pub first_entry : (n : ℕ) (o : Option (List ℕ)) → ((body : List ℕ) → o ≡ Some body → n < last_number → P (renewed no_ports id body (n + 1))) → (1 ≤ n → P (dead_at no_ports n))
      → (e : Entry) → started_as id n o ≡ Some e → P e
  first_entry n o live dead e is = by_number n o (nat_lt n last_number) refl live dead e is

-- ---- the database

all_put : (P : LspId → Entry → Type 0) (db : Lsps) (id : LspId) (o : Option Entry) → AllEntries P db → ((e : Entry) → o ≡ Some e → P id e) → AllEntries P (changed_to db id o)
all_put P db id None all each = all
all_put P db id (Some e) all each = inserted P db id e all (each e refl)

-- what is so of every entry, and of what a number begins with
pub entries_started : (P : LspId → Entry → Type 0) (number n : ℕ) (h : Holding) → AllEntries P h.db
    → ((body : List ℕ) → body_of_number h.own number ≡ Some body → n < last_number → P (own_number h.own.system number) (renewed no_ports (own_number h.own.system number) body (n + 1)))
    → (1 ≤ n → P (own_number h.own.system number) (dead_at no_ports n)) → AllEntries P (started number n h).db
entries_started P number n h all live dead =
    let id = own_number h.own.system number in
    all_put P h.db id (started_as id n (body_of_number h.own number)) all (first_entry (P id) id n (body_of_number h.own number) live dead)

any_numbers : (ns : List ℕ) → AllByRecursion (λ n. ⊤) ns
any_numbers [] = tt
any_numbers (n ∷ ns) = (tt, any_numbers ns)

-- of any numbers, each start keeps it
pub all_keep : (P : Holding → Type 0) (last : List ℕ) (h : Holding) → ((number n : ℕ) (g : Holding) → SameOwn h.own g.own → P g → P (started number n g)) → P h → P (started_all last 0 h)
all_keep P last h step p = starting_keeps P (λ n. ⊤) last 0 (length last) h.own h (omega arith) (any_numbers last) (λ number n g below any same q. step number n g same q) (refl, refl) p

pub starting_keeps_sendable : StartingKeepsSendable
starting_keeps_sendable last h has all =
    all_keep (λ g. AreSendable g.db) last h
    (λ number n g same before.
    let id = own_number g.own.system number in
    entries_started IsSendable number n g before (λ body is below. renewed_sendable no_ports id body n (bodies_of h.own g.own same.1 has number body is))
    (λ some. dead_sendable id n no_ports no_ports some))
    all

pub starting_keeps_flags : StartingKeepsFlags
starting_keeps_flags last up h all =
    all_keep (λ g. HaveFlagsAt up g.db) last h
    (λ number n g same before.
    entries_started (λ id e. HasFlagsAt up e) number n g before (λ body is below. record { srm = none_up up; ssn = none_up up; absent = λ a p. absurd cc })
    (λ some. record { srm = none_up up; ssn = none_up up; absent = λ a p. absurd cc }))
    all

pub starting_keeps_silence : StartingKeepsSilence
starting_keeps_silence last h all =
    all_keep (λ g. AllEntries (λ id e. HasNoFlags e) g.db) last h
    (λ number n g same before. entries_started (λ id e. HasNoFlags e) number n g before (λ body is below. (refl, refl)) (λ some. (refl, refl)))
    all

-- ---- room

put_few : (s : SystemId) (db : Lsps) (number : ℕ) (o : Option Entry) → number < own_numbers → others s db ≤ most_others → others s (changed_to db (own_number s number) o) ≤ most_others
put_few s db number None below few = few
put_few s db number (Some e) below few = putting_keeps_few s db (own_number s number) e few (number_has_room s db number below)

pub started_few : (number n : ℕ) (h : Holding) → number < own_numbers → HasFewOthers h → HasFewOthers (started number n h)
started_few number n h below few =
    let s = h.own.system in
    subst (λ (t : SystemId). others t (started number n h).db ≤ most_others) (sym (starting_leaves_own number n h).0)
    (put_few s h.db number (started_as (own_number s number) n (body_of_number h.own number)) below few)

pub starting_keeps_few : StartingKeepsFew
starting_keeps_few last h long few =
    starting_keeps HasFewOthers (λ n. ⊤) last 0 own_numbers h.own h (omega (arith, long)) (any_numbers last) (λ number n g below any same before. started_few number n g below before) (refl, refl) few

pub started_bytes : (number n : ℕ) (h : Holding) → HaveBytes h.own → HaveBytes (started number n h).own
started_bytes number n h has k body is =
    has k body (ap (λ (bs : List (Option (List ℕ))). option_and_then (λ b. b) (slice_get bs k)) (sym (starting_leaves_own number n h).1) ∙ is)

pub starting_brings_few : StartingBringsFew
starting_brings_few last h = brings last 0 h
  where
    brings : (ns : List ℕ) (k : ℕ) (g : Holding) → len (started_all ns k g).db ≤ len g.db + length ns
    brings [] k g = omega arith
    brings (n ∷ ns) k g =
        let id = own_number g.own.system k in
        omega (arith, brings ns (k + 1) (started k n g), change_few g.db id (started_as id n (body_of_number g.own k)))

-- ---- bodies

body_put : (own : Own) (number n : ℕ) (o : Option Entry) → started_as (own_number own.system number) n (body_of_number own number) ≡ o → (db : Lsps) (id : LspId)
    → IsOwnBody own id (get db id) (get (changed_to db (own_number own.system number) o) id)
body_put own number n None is db id = stays refl
body_put own number n (Some f) is db id =
    let mine = own_number own.system number in
    elim (same_or_not id mine) [
      | inl here ↦
          subst (λ (x : LspId). IsOwnBody own x (get db x) (get (insert db mine f) x)) (sym here)
          (subst (λ (o : Option Entry). IsOwnBody own mine (get db mine) o) (sym (get-insert_same db mine f))
          (first_entry (λ g. IsOwnBody own mine (get db mine) (Some g)) mine n (body_of_number own number) (λ body has below. renews has) (λ some. ends refl) f is))
      | inr apart ↦ stays (ap body_in (get-insert_other db mine f id apart))
    ]

started_body : (number n : ℕ) (h : Holding) (id : LspId) → IsOwnBody h.own id (get h.db id) (get (started number n h).db id)
started_body number n h id = body_put h.own number n (started_as (own_number h.own.system number) n (body_of_number h.own number)) refl h.db id

pub starting_leaves_own_body : StartingLeavesOwnBody
starting_leaves_own_body last h id mine =
    all_keep (λ g. IsOwnBody h.own id (get h.db id) (get g.db id)) last h
    (λ number n g same before. body_then h.own g.own id (get h.db id) (get g.db id) (get (started number n g).db id) same.1 before (started_body number n g id))
    (stays refl)

-- ---- one after another

-- what is left to begin, after the next
pub next_start : (ns : List ℕ) (k : ℕ) (h : Holding) → k < length ns → started_all (drop k ns) k h ≡ started_all (drop (k + 1) ns) (k + 1) (started k (slice_index ns k) h)
next_start ns k h low =
    let next : suc k ≡ k + 1 = omega arith in
    ap (λ (ms : List ℕ). started_all ms k h) (drop-cons ns k 0 low) ∙ ap (λ j. started_all (drop j ns) (k + 1) (started k (slice_index ns k) h)) next

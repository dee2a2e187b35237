-- What is so before entries are heard is so afterwards.
use Rattle.std.specs.Prelude.{◌≡◌, ℕ, Bool, true, false, ◌&&◌, not, List, [], ◌∷◌, Option, Some, None}
use Rattle.std.proofs.Common.{refl, sym, ap, subst, ◌∙◌, ⊎_elim}
use Rattle.std.proofs.lemmas.Bool.{and_parts, true≢false, cases_eq}
use Rattle.std.specs.Option.{option_map}
use Rattle.std.specs.FinMap.{get}
use Rattle.spb_types.specs.declared.address.LspId.{LspId}
use Rattle.spb_types.specs.declared.ports.PortSet.{PortSet}
use Rattle.spb_types.specs.Ports.{has, with_port}
use Rattle.spb_types.proofs.PortLemmas.{has_port, has-with_other}
use Rattle.lsdb.specs.declared.version.Version.TheVariants.{Absent}
use Rattle.lsdb.specs.Version.{is_absent}
use Rattle.lsdb.specs.Entry.{Entry}
use Rattle.lsdb.specs.Database.{Lsps, each}
use Rattle.lsdb.proofs.LookupLemmas.{get-each}
use Rattle.flooding.specs.Own.{own_number, body_of_number, body_in}
use Rattle.flooding.specs.Hearing.{Holding, snp_rule, hear_entry_of}
use Rattle.flooding.specs.Settling.{IsLspCurrent}
use Rattle.flooding.specs.Entries.{AllEntries, IsSendable, HasFlagsAt}
use Rattle.flooding.specs.Laws.{stays}
use Rattle.flooding.proofs.Owns.{own_stands, own_is_not_spent}
use Rattle.flooding.proofs.OwnBodies.{entry_leaves_own_body}
use Rattle.flooding.proofs.HeardCurrent.{entry_keeps_current}
use Rattle.flooding.proofs.Settled.{body_then, bodies_of}
use Rattle.flooding.proofs.SendableEntries.{claim_is_numbered, entry_keeps_sendable, flags_sendable}
use Rattle.flooding.proofs.FlagEntries.{entry_keeps_flags}
use Rattle.snp_sync.specs.Ids.{is_between}
use Rattle.snp_sync.specs.Hearing.{hear_entries_of, ids_of, is_among, is_missed, flag_if, hear_csnp_of}
use Rattle.snp_sync.specs.HearingLaws.{EntriesLeaveOwn, EntriesDontSpend, EntriesLeaveOwnBody, CsnpLeavesOwnBody, EntriesKeepCurrent, CsnpKeepsCurrent, ClaimsAreNumbered, EntriesKeepSendable, CsnpKeepsSendable, EntriesKeepFlags, CsnpKeepsFlags}

-- ---- own LSPs

pub entries_leave_own : EntriesLeaveOwn
entries_leave_own up port [] h = (refl, refl)
entries_leave_own up port (c ∷ claims) h =
    let first = own_stands (snp_rule up port c.version) up c h in
    let rest = entries_leave_own up port claims (hear_entry_of up port c h) in
    (rest.0 ∙ first.0, rest.1 ∙ first.1)

pub entries_dont_spend : EntriesDontSpend
entries_dont_spend up port [] h low = refl
entries_dont_spend up port (c ∷ claims) h low =
    entries_dont_spend up port claims (hear_entry_of up port c h) low.1 ∙ own_is_not_spent (snp_rule up port c.version) up c h low.0

pub entries_leave_own_body : EntriesLeaveOwnBody
entries_leave_own_body up port [] h id mine = stays refl
entries_leave_own_body up port (c ∷ claims) h id mine =
    let g : Holding = hear_entry_of up port c h in
    let stands = own_stands (snp_rule up port c.version) up c h in
    body_then h.own g.own id (get h.db id) (get g.db id) (get (hear_entries_of up port claims g).db id) stands.1
    (entry_leaves_own_body up port c h id mine) (entries_leave_own_body up port claims g id (mine ∙ sym stands.0))

flag_body : (port : ℕ) (e : Entry) (b : Bool) → (flag_if b port e).body ≡ e.body
flag_body port e true = refl
flag_body port e false = refl

flagged_body : (port : ℕ) (missed : Entry → Bool) (o : Option Entry) → body_in (option_map (λ e. flag_if (missed e) port e) o) ≡ body_in o
flagged_body port missed None = refl
flagged_body port missed (Some e) = flag_body port e (missed e)

pub csnp_leaves_own_body : CsnpLeavesOwnBody
csnp_leaves_own_body up port start end claims h id mine =
    let heard : Holding = hear_entries_of up port claims h in
    let missed : LspId → Entry → Bool = is_missed start end (ids_of claims) in
    let same : body_in (get (hear_csnp_of up port start end claims h).db id) ≡ body_in (get heard.db id) =
    ap body_in (get-each (λ x e. flag_if (missed x e) port e) heard.db id) ∙ flagged_body port (missed id) (get heard.db id) in
    body_then h.own h.own id (get h.db id) (get heard.db id) (get (hear_csnp_of up port start end claims h).db id) refl
    (entries_leave_own_body up port claims h id mine) (stays same)

pub entries_keep_current : EntriesKeepCurrent
entries_keep_current up port [] h is = is
entries_keep_current up port (c ∷ claims) h is = entries_keep_current up port claims (hear_entry_of up port c h) (entry_keeps_current up port c h is)

flag_current : (body : Option (List ℕ)) (port : ℕ) (e : Entry) (b : Bool) → IsLspCurrent body (Some e) → IsLspCurrent body (Some (flag_if b port e))
flag_current None port e true is = is
flag_current None port e false is = is
flag_current (Some body) port e true is = is
flag_current (Some body) port e false is = is

flagged_current : (body : Option (List ℕ)) (port : ℕ) (missed : Entry → Bool) (o : Option Entry) → IsLspCurrent body o → IsLspCurrent body (option_map (λ e. flag_if (missed e) port e) o)
flagged_current body port missed None is = is
flagged_current body port missed (Some e) is = flag_current body port e (missed e) is

pub csnp_keeps_current : CsnpKeepsCurrent
csnp_keeps_current up port start end claims h is fresh number below =
    let heard : Holding = hear_entries_of up port claims h in
    let missed : LspId → Entry → Bool = is_missed start end (ids_of claims) in
    let id : LspId = own_number heard.own.system number in
    let body = body_of_number heard.own number in
    subst (IsLspCurrent body) (sym (get-each (λ x e. flag_if (missed x e) port e) heard.db id))
    (flagged_current body port (missed id) (get heard.db id) (entries_keep_current up port claims h is fresh number below))

-- ---- every entry

-- what is so of every entry, and of each as it is changed, is so of the database with each changed
pub all_each : (P : LspId → Entry → Type 0) (f : LspId → Entry → Entry) (db : Lsps) → AllEntries P db → ((x : LspId) (e : Entry) → P x e → P x (f x e)) → AllEntries P (each f db)
all_each P f db all keeps x n is = by_held (get db x) refl
  where
    by_held : (o : Option Entry) → get db x ≡ o → P x n
    by_held None held = let no : None ≡ Some n = sym (get-each f db x ∙ ap (option_map (f x)) held) ∙ is in absurd (cc)
    by_held (Some e) held =
        let same : f x e ≡ n = let found : Some (f x e) ≡ Some n = sym (get-each f db x ∙ ap (option_map (f x)) held) ∙ is in cc in
        subst (λ (g : Entry). P x g) same (keeps x e (all x e held))

pub claims_are_numbered : ClaimsAreNumbered
claims_are_numbered e = claim_is_numbered e.seq e.lifetime e.sum

pub entries_keep_sendable : EntriesKeepSendable
entries_keep_sendable up port [] h numbered has_bodies all = all
entries_keep_sendable up port (c ∷ claims) h numbered has_bodies all =
    entries_keep_sendable up port claims (hear_entry_of up port c h) numbered.1
    (bodies_of h.own (hear_entry_of up port c h).own (own_stands (snp_rule up port c.version) up c h).1 has_bodies) (entry_keeps_sendable up port c h numbered.0 has_bodies all)

flag_sendable : (port : ℕ) (x : LspId) (e : Entry) (b : Bool) → IsSendable x e → IsSendable x (flag_if b port e)
flag_sendable port x e true s = flags_sendable (with_port e.srm port) e.ssn x e s
flag_sendable port x e false s = s

pub csnp_keeps_sendable : CsnpKeepsSendable
csnp_keeps_sendable up port start end claims h numbered has_bodies all =
    all_each IsSendable (λ id e. flag_if (is_missed start end (ids_of claims) id e) port e) (hear_entries_of up port claims h).db
    (entries_keep_sendable up port claims h numbered has_bodies all) (λ x e s. flag_sendable port x e (is_missed start end (ids_of claims) x e) s)

pub entries_keep_flags : EntriesKeepFlags
entries_keep_flags up port [] h is_up all = all
entries_keep_flags up port (c ∷ claims) h is_up all = entries_keep_flags up port claims (hear_entry_of up port c h) is_up (entry_keeps_flags up port c h is_up all)

-- a missed entry isn't absent
missed_there : (start end : LspId) (ids : List LspId) (x : LspId) (e : Entry) → is_missed start end ids x e ≡ true → e.version ≡ Absent → ⊥
missed_there start end ids x e missed none =
    let there = (and_parts (is_between start end x && not (is_among ids x)) (not (is_absent e.version)) missed).1 in
    true≢false (sym there ∙ ap (λ v. not (is_absent v)) none)

flag_at : (up : PortSet) (port : ℕ) (e : Entry) (b : Bool) → has up port ≡ true → (b ≡ true → e.version ≡ Absent → ⊥) → HasFlagsAt up e → HasFlagsAt up (flag_if b port e)
flag_at up port e true is_up there flags = record {
  srm = λ p on. ⊎_elim
      (λ here. ap (λ q. has up q) here ∙ is_up)
      (λ elsewhere. flags.srm p (sym (has-with_other e.srm port p (has_port up port is_up).0 (has_port up port is_up).1 elsewhere) ∙ on))
      (cases_eq p port);
  ssn = flags.ssn;
  absent = λ none. absurd (there refl none);
}
flag_at up port e false is_up there flags = flags

pub csnp_keeps_flags : CsnpKeepsFlags
csnp_keeps_flags up port start end claims h is_up all =
    all_each (λ id e. HasFlagsAt up e) (λ id e. flag_if (is_missed start end (ids_of claims) id e) port e) (hear_entries_of up port claims h).db
    (entries_keep_flags up port claims h is_up all)
    (λ x e flags. flag_at up port e (is_missed start end (ids_of claims) x e) is_up (λ missed none. missed_there start end (ids_of claims) x e missed none) flags)

-- The step certificate: it holds where nothing changes, it composes, and the changes of one entry meet it.
use Rattle.std.specs.Prelude.{◌≡◌, ℕ, ◌≤◌, ◌-◌, Bool, true, false, List, [], ◌∷◌, ◌++◌, Option, Some, None, nat_le, if◌then◌else◌}
use Rattle.std.proofs.Common.{refl, sym, ap, subst, ◌∙◌, inl, inr, ⊎_elim}
use Rattle.std.proofs.lemmas.Bool.{cases_Bool, cases_eq, true≢false, false≢true}
use Rattle.std.specs.Option.{option_map}
use Rattle.std.specs.FinMap.{get, insert}
use Rattle.spb_types.specs.declared.address.LspId.{LspId}
use Rattle.spb_types.specs.declared.ports.PortSet.{PortSet}
use Rattle.spb_types.specs.Ports.{has, with_port, without_port}
use Rattle.spb_types.proofs.PortLemmas.{has_port, has-with_same, has-with_other, has-without_same, has-without_other}
use Rattle.lsdb.specs.declared.version.Version.{Version}
use Rattle.lsdb.specs.declared.version.Version.TheVariants.{Absent, Live, Dead}
use Rattle.lsdb.specs.Version.{IsAtMost, is_absent}
use Rattle.lsdb.specs.Entry.{Entry, made, acked, cleared, offered, flagged, flags_cleared_at, aged_at}
use Rattle.lsdb.specs.Database.{Lsps, version_in, srm_in, version_at, each}
use Rattle.lsdb.specs.Certificate.{Claim, IsClaimed, Kept, is_flagged, is_absent as is_gone, is_as_before, is_claimed, EntryCertificate, Certificate}
use Rattle.lsdb.specs.CertificateLaws.{StandingIsCertified, StepsCompose, SilenceServesAll, StoringIsCertified, AckingIsCertified, ClearingIsCertified, AskingIsCertified, OfferingIsCertified, FlaggingIsCertified, FloodingIsCertified, AgeingIsCertified, ClearingPortIsCertified, SettingSrmIsCertified, EntryStepsCompose, PuttingIsCertified, ChangingIsCertified, ChangingEachIsCertified}
use Rattle.lsdb.proofs.Order.{itself, through, live_dead}
use Rattle.lsdb.proofs.LookupLemmas.{get-insert_same, get-insert_other, same_or_not, get-each}

-- ---- one port and one id

-- SRM at the port and the version are what they were
kept_same : (port : ℕ) (claims : List Claim) (up : PortSet) (id : LspId) (p : ℕ) (o n : Option Entry) → has up p ≡ true → has (srm_in n) p ≡ has (srm_in o) p → version_in n ≡ version_in o → Kept port claims up id p o n
kept_same port claims up id p o n u e v =
    ⊎_elim (λ t. is_flagged t) (λ f. is_as_before u (sym e ∙ f) v) (cases_Bool (has (srm_in n) p))

kept_with : (port other : ℕ) (claims more : List Claim) (up : PortSet) (id : LspId) (p : ℕ) (o n : Option Entry) → ((a : Version) → p ≡ port → IsClaimed claims id a → (p ≡ other) × IsClaimed more id a) → Kept port claims up id p o n → Kept other more up id p o n
kept_with port other claims more up id p o n says (is_flagged h) = is_flagged h
kept_with port other claims more up id p o n says (is_gone h) = is_gone h
kept_with port other claims more up id p o n says (is_as_before u f e) = is_as_before u f e
kept_with port other claims more up id p o n says (is_claimed q a c l) = is_claimed (says a q c).0 a (says a q c).1 l

claimed_left : (claims more : List Claim) (id : LspId) (a : Version) → IsClaimed claims id a → IsClaimed (claims ++ more) id a
claimed_left [] more id a c = absurd c
claimed_left (d ∷ claims) more id a (inl here) = inl here
claimed_left (d ∷ claims) more id a (inr c) = inr (claimed_left claims more id a c)

claimed_right : (claims more : List Claim) (id : LspId) (a : Version) → IsClaimed more id a → IsClaimed (claims ++ more) id a
claimed_right [] more id a c = c
claimed_right (d ∷ claims) more id a c = inr (claimed_right claims more id a c)

-- the second step left version and SRM as the first step made them
kept_after : (port : ℕ) (claims more : List Claim) (before : PortSet) (id : LspId) (p : ℕ) (o m n : Option Entry) → Kept port claims before id p o m → has (srm_in m) p ≡ false → version_in n ≡ version_in m → Kept port (claims ++ more) before id p o n
kept_after port claims more before id p o m n (is_flagged h) f e = absurd (true≢false (sym h ∙ f))
kept_after port claims more before id p o m n (is_gone h) f e = is_gone (e ∙ h)
kept_after port claims more before id p o m n (is_as_before u g d) f e = is_as_before u g (e ∙ d)
kept_after port claims more before id p o m n (is_claimed q a c l) f e = is_claimed q a (claimed_left claims more id a c) (subst (λ (b : Version). IsAtMost b a) (sym e) l)

kept_through : (port : ℕ) (claims more : List Claim) (before mid : PortSet) (id : LspId) (p : ℕ) (o m n : Option Entry) → (has mid p ≡ true → Kept port claims before id p o m) → Kept port more mid id p m n → Kept port (claims ++ more) before id p o n
kept_through port claims more before mid id p o m n first (is_flagged h) = is_flagged h
kept_through port claims more before mid id p o m n first (is_gone h) = is_gone h
kept_through port claims more before mid id p o m n first (is_as_before u f e) = kept_after port claims more before id p o m n (first u) f e
kept_through port claims more before mid id p o m n first (is_claimed q a c l) = is_claimed q a (claimed_right claims more id a c) l

-- ---- whole steps

pub standing : StandingIsCertified
standing port claims v = record {
  rises = λ id. itself (version_at v.db id);
  kept = λ id p u. kept_same port claims v.up id p (get v.db id) (get v.db id) u refl refl;
}

pub steps_compose : StepsCompose
steps_compose port claims more v u w first second = record {
  rises = λ id. through (version_at v.db id) (version_at u.db id) (version_at w.db id) (first.rises id) (second.rises id);
  kept = λ id p h. kept_through port claims more v.up u.up id p (get v.db id) (get u.db id) (get w.db id) (λ mid. first.kept id p mid) (second.kept id p h);
}

pub entry_steps_compose : EntryStepsCompose
entry_steps_compose port claims more before mid after id old between new first second = record {
  rises = through (version_in old) (version_in between) (version_in new) first.rises second.rises;
  kept = λ p h. kept_through port claims more before mid id p old between new (λ m. first.kept p m) (second.kept p h);
}

pub silence_serves_all : SilenceServesAll
silence_serves_all port other claims v w step = record {
  rises = step.rises;
  kept = λ id p h. kept_with port other [] claims v.up id p (get v.db id) (get w.db id) (λ a q c. absurd c) (step.kept id p h);
}

-- ---- the changes of one entry

no_entry : (port : ℕ) (claims : List Claim) (before after : PortSet) (id : LspId) → EntryCertificate port claims before after id None None
no_entry port claims before after id = record { rises = itself Absent; kept = λ p h. is_gone refl }

same_entry : (port : ℕ) (claims : List Claim) (up : PortSet) (id : LspId) (o n : Option Entry) → version_in n ≡ version_in o → srm_in n ≡ srm_in o → EntryCertificate port claims up up id o n
same_entry port claims up id o n v s = record {
  rises = subst (λ (a : Version). IsAtMost (version_in o) a) (sym v) (itself (version_in o));
  kept = λ p u. kept_same port claims up id p o n u (ap (λ (t : PortSet). has t p) s) v;
}

pub storing : StoringIsCertified
storing up port claims id a lifetime body old is_up newer claimed = record {
  rises = newer;
  kept = λ p u. ⊎_elim
      (λ here. is_claimed here a claimed (itself a))
      (λ elsewhere. is_flagged (has-without_other up port p (has_port up port is_up).0 (has_port up port is_up).1 elsewhere ∙ u))
      (cases_eq p port);
}

-- SRM was cleared at the port of a claim at or above what is held
claim_clears : (up : PortSet) (port : ℕ) (claims : List Claim) (id : LspId) (a : Version) (e n : Entry) → has up port ≡ true → IsAtMost e.version a → IsClaimed claims id a → n.version ≡ e.version → n.srm ≡ without_port e.srm port → EntryCertificate port claims up up id (Some e) (Some n)
claim_clears up port claims id a e n is_up below claimed v s = record {
  rises = subst (λ (b : Version). IsAtMost e.version b) (sym v) (itself e.version);
  kept = λ p u. ⊎_elim
      (λ here. is_claimed here a claimed (subst (λ (b : Version). IsAtMost b a) (sym v) below))
      (λ elsewhere. kept_same port claims up id p (Some e) (Some n) u (ap (λ (t : PortSet). has t p) s ∙ has-without_other e.srm port p (has_port up port is_up).0 (has_port up port is_up).1 elsewhere) v)
      (cases_eq p port);
}

pub acking : AckingIsCertified
acking up port claims id a e is_up below claimed = claim_clears up port claims id a e (acked port e) is_up below claimed refl refl

pub clearing : ClearingIsCertified
clearing up port claims id a e is_up below claimed = claim_clears up port claims id a e (cleared port e) is_up below claimed refl refl

pub asking : AskingIsCertified
asking before after port claims id = record { rises = itself Absent; kept = λ p h. is_gone refl }

-- SRM was set at a port
port_set : (before after : PortSet) (port at : ℕ) (claims : List Claim) (id : LspId) (e n : Entry) → 1 ≤ port → port ≤ 32 → ((p : ℕ) → (p ≡ port → ⊥) → has after p ≡ true → has before p ≡ true) → n.version ≡ e.version → n.srm ≡ with_port e.srm port → EntryCertificate at claims before after id (Some e) (Some n)
port_set before after port at claims id e n low high was_up v s = record {
  rises = subst (λ (b : Version). IsAtMost e.version b) (sym v) (itself e.version);
  kept = λ p u. ⊎_elim
      (λ here. is_flagged (ap (λ (t : PortSet). has t p) s ∙ ap (λ q. has (with_port e.srm port) q) here ∙ has-with_same e.srm port low high))
      (λ elsewhere. kept_same at claims before id p (Some e) (Some n) (was_up p elsewhere u) (ap (λ (t : PortSet). has t p) s ∙ has-with_other e.srm port p low high elsewhere) v)
      (cases_eq p port);
}

pub offering : OfferingIsCertified
offering up port at claims id e low high = port_set up up port at claims id e (offered port e) low high (λ p other u. u) refl refl

pub flagging : FlaggingIsCertified
flagging up port at claims id e low high = port_set up up port at claims id e (flagged port e) low high (λ p other u. u) refl refl

pub flooding : FloodingIsCertified
flooding up port claims id a lifetime body old below = record { rises = below; kept = λ p u. is_flagged u }

ageing_live : (up : PortSet) (port : ℕ) (claims : List Claim) (id : LspId) (e : Entry) (seq sum : ℕ) → e.version ≡ Live seq sum → (b : Bool) → EntryCertificate port claims up up id (Some e) (Some (if b then made (Dead seq) 0 [] up e.ssn else record e { lifetime = e.lifetime - 1 }))
ageing_live up port claims id e seq sum v true = record {
  rises = subst (λ (a : Version). IsAtMost a (Dead seq)) (sym v) (live_dead seq sum);
  kept = λ p u. is_flagged u;
}
ageing_live up port claims id e seq sum v false = same_entry port claims up id (Some e) (Some (record e { lifetime = e.lifetime - 1 })) refl refl

ageing_at : (up : PortSet) (port : ℕ) (claims : List Claim) (id : LspId) (e : Entry) (a : Version) → e.version ≡ a → EntryCertificate port claims up up id (Some e) (Some (aged_at up e a))
ageing_at up port claims id e Absent v = same_entry port claims up id (Some e) (Some e) refl refl
ageing_at up port claims id e (Live seq sum) v = ageing_live up port claims id e seq sum v (nat_le e.lifetime 1)
ageing_at up port claims id e (Dead seq) v = same_entry port claims up id (Some e) (Some e) refl refl

pub ageing : AgeingIsCertified
ageing up port claims id e = ageing_at up port claims id e e.version refl

pub clearing_port : ClearingPortIsCertified
clearing_port up port at claims id e low high = record {
  rises = itself e.version;
  kept = λ p u. ⊎_elim
      (λ here. absurd (false≢true (sym (has-without_same up port low high) ∙ ap (λ q. has (without_port up port) q) (sym here) ∙ u)))
      (λ elsewhere. kept_same at claims up id p (Some e) (Some (flags_cleared_at port e)) (sym (has-without_other up port p low high elsewhere) ∙ u) (has-without_other e.srm port p low high elsewhere) refl)
      (cases_eq p port);
}

setting_srm_at : (up : PortSet) (port at : ℕ) (claims : List Claim) (id : LspId) (e : Entry) → 1 ≤ port → port ≤ 32 → (a : Version) → e.version ≡ a → EntryCertificate at claims up (with_port up port) id (Some e) (Some (if is_absent a then e else flagged port e))
setting_srm_at up port at claims id e low high Absent v = record { rises = itself e.version; kept = λ p u. is_gone v }
setting_srm_at up port at claims id e low high (Live seq sum) v = port_set up (with_port up port) port at claims id e (flagged port e) low high (λ p other u. sym (has-with_other up port p low high other) ∙ u) refl refl
setting_srm_at up port at claims id e low high (Dead seq) v = port_set up (with_port up port) port at claims id e (flagged port e) low high (λ p other u. sym (has-with_other up port p low high other) ∙ u) refl refl

pub setting_srm : SettingSrmIsCertified
setting_srm up port at claims id e low high = setting_srm_at up port at claims id e low high e.version refl

-- ---- a change of one entry is a change of the database

-- what is so of every id by its two entries is so of the databases
from_entries : (port : ℕ) (claims : List Claim) (before after : PortSet) (db new : Lsps) → ((id : LspId) → EntryCertificate port claims before after id (get db id) (get new id)) → Certificate port claims (record { up = before; db = db }) (record { up = after; db = new })
from_entries port claims before after db new each_one = record {
  rises = λ id. (each_one id).rises;
  kept = λ id p u. (each_one id).kept p u;
}

inserting : (port : ℕ) (claims : List Claim) (up : PortSet) (db : Lsps) (id : LspId) (e : Entry) → EntryCertificate port claims up up id (get db id) (Some e) → Certificate port claims (record { up = up; db = db }) (record { up = up; db = insert db id e })
inserting port claims up db id e one =
    from_entries port claims up up db (insert db id e) (λ x. ⊎_elim
    (λ here. subst (λ (y : LspId). EntryCertificate port claims up up y (get db y) (get (insert db id e) y)) (sym here) (subst (λ (n : Option Entry). EntryCertificate port claims up up id (get db id) n) (sym (get-insert_same db id e)) one))
    (λ elsewhere. let kept : get (insert db id e) x ≡ get db x = get-insert_other db id e x elsewhere in same_entry port claims up x (get db x) (get (insert db id e) x) (ap version_in kept) (ap srm_in kept))
    (same_or_not x id))

pub putting : PuttingIsCertified
putting port claims up db id None one = standing port claims (record { up = up; db = db })
putting port claims up db id (Some e) one = inserting port claims up db id e one

pub changing : ChangingIsCertified
changing port claims up db id f one = putting port claims up db id (option_map f (get db id)) one

each_at : (port : ℕ) (claims : List Claim) (before after : PortSet) (f : LspId → Entry → Entry) (id : LspId) (o : Option Entry) → ((e : Entry) → EntryCertificate port claims before after id (Some e) (Some (f id e))) → EntryCertificate port claims before after id o (option_map (f id) o)
each_at port claims before after f id None one = no_entry port claims before after id
each_at port claims before after f id (Some e) one = one e

pub changing_each : ChangingEachIsCertified
changing_each port claims before after db f one =
    from_entries port claims before after db (each f db) (λ id.
    subst (λ (n : Option Entry). EntryCertificate port claims before after id (get db id) n) (sym (get-each f db id))
    (each_at port claims before after f id (get db id) (one id)))

-- What hearing entries and CSNPs comes to: certified steps, and what stands under each id.
use Rattle.std.specs.Prelude.{◌≡◌, ◌≢◌, ℕ, ◌+◌, Bool, true, false, ◌||◌, List, [], ◌∷◌, ◌++◌, Option, Some, None, nat_lt, if◌then◌else◌}
use Rattle.std.proofs.Common.{refl, sym, ap, subst, ◌∙◌, arith, append-nil}
use Rattle.std.proofs.lemmas.Bool.{true≢false}
use Rattle.std.specs.Option.{option_map}
use Rattle.std.specs.Ordering.{is_eq}
use Rattle.std.specs.FinMap.{get}
use Rattle.spb_types.specs.declared.address.LspId.{LspId}
use Rattle.spb_types.specs.declared.ports.PortSet.{PortSet}
use Rattle.spb_types.specs.Ports.{has, no_ports}
use Rattle.spb_types.proofs.PortLemmas.{has_port, has-with_same}
use Rattle.lsdb.specs.declared.version.Version.{Version}
use Rattle.lsdb.specs.declared.version.Version.TheVariants.{Absent}
use Rattle.lsdb.specs.declared.version.Relation.{Relation}
use Rattle.lsdb.specs.declared.version.Relation.TheVariants.{Older, Equal, Newer, Confused}
use Rattle.lsdb.specs.Version.{IsAtMost, number_of, is_absent, relation}
use Rattle.lsdb.specs.Entry.{Entry, acked, cleared, offered, flagged, absent_with_ssn}
use Rattle.lsdb.specs.Database.{id_cmp, version_in, srm_in, ssn_in}
use Rattle.lsdb.specs.Certificate.{Claim, EntryCertificate, Certificate}
use Rattle.lsdb.proofs.Ids.{tied_same}
use Rattle.lsdb.proofs.Order.{least, greater, older_is, newer_is, confused_is}
use Rattle.lsdb.proofs.Certified.{standing, steps_compose, flagging, changing_each}
use Rattle.lsdb.proofs.LookupLemmas.{get-each}
use Rattle.flooding.specs.declared.own.Own.{Own}
use Rattle.flooding.specs.Own.{last_number, body_for, renewed, dead_at, answered_by, answered}
use Rattle.flooding.specs.Hearing.{Holding, unless_absent, snp_rule, is_answered, hear_entry_of}
use Rattle.flooding.specs.Laws.{control}
use Rattle.flooding.proofs.Steps.{hearing_entry, at_most_dead}
use Rattle.flooding.proofs.Claimed.{others_stand, entry_stands}
use Rattle.snp_sync.specs.Hearing.{hear_entries_of, ids_of, is_among, is_missed, flag_if, hear_csnp_of}
use Rattle.snp_sync.specs.HearingLaws.{EntriesAreCertified, CsnpIsCertified, UnnamedStands, LastClaimStands, IsServed, EntryIsServed, CsnpStands, MissedIsSent}
use Rattle.snp_sync.proofs.Said.{same_srm}

-- ---- steps

pub entries_are_certified : EntriesAreCertified
entries_are_certified up port [] h is_up = standing port [] (control up h)
entries_are_certified up port (c ∷ claims) h is_up =
    steps_compose port (c ∷ []) claims (control up h) (control up (hear_entry_of up port c h)) (control up (hear_entries_of up port (c ∷ claims) h))
    (hearing_entry up port c h is_up) (entries_are_certified up port claims (hear_entry_of up port c h) is_up)

flag_certified : (up : PortSet) (port : ℕ) (claims : List Claim) (id : LspId) (e : Entry) (b : Bool) → has up port ≡ true → EntryCertificate port claims up up id (Some e) (Some (flag_if b port e))
flag_certified up port claims id e true is_up = flagging up port port claims id e (has_port up port is_up).0 (has_port up port is_up).1
flag_certified up port claims id e false is_up = same_srm up port claims id e e refl refl

pub csnp_is_certified : CsnpIsCertified
csnp_is_certified up port start end claims h is_up =
    let heard = hear_entries_of up port claims h in
    let after = hear_csnp_of up port start end claims h in
    let flags : Certificate port [] (control up heard) (control up after) =
    changing_each port [] up up heard.db (λ id e. flag_if (is_missed start end (ids_of claims) id e) port e) (λ id e. flag_certified up port [] id e (is_missed start end (ids_of claims) id e) is_up)
    in
    subst (λ (cs : List Claim). Certificate port cs (control up h) (control up after)) (append-nil claims)
    (steps_compose port claims [] (control up h) (control up heard) (control up after) (entries_are_certified up port claims h is_up) flags)

-- ---- what stands under an id

neither : (a b : Bool) → (a || b) ≡ false → (a ≡ false) × (b ≡ false)
neither true b e = absurd (true≢false e)
neither false b e = (refl, e)

pub unnamed_stands : UnnamedStands
unnamed_stands up port [] h x none = refl
unnamed_stands up port (c ∷ claims) h x none =
    let chunks = neither (is_eq (id_cmp c.id x)) (is_among (ids_of claims) x) none in
    let other : x ≢ c.id = λ same. true≢false (sym (ap is_eq (tied_same c.id x (sym same))) ∙ chunks.0) in
    unnamed_stands up port claims (hear_entry_of up port c h) x chunks.1 ∙ others_stand (snp_rule up port c.version) up c h x other

heard_both : (up : PortSet) (port : ℕ) (before after : List Claim) (h : Holding) → hear_entries_of up port (before ++ after) h ≡ hear_entries_of up port after (hear_entries_of up port before h)
heard_both up port [] after h = refl
heard_both up port (c ∷ before) after h = heard_both up port before after (hear_entry_of up port c h)

pub last_claim_stands : LastClaimStands
last_claim_stands up port before after c h none =
    ap (λ (g : Holding). get g.db c.id) (heard_both up port before (c ∷ after) h)
    ∙ unnamed_stands up port after (hear_entry_of up port c (hear_entries_of up port before h)) c.id none

-- ---- who is served

-- what is held is no older than the claim, and goes to the port
served_above : (port : ℕ) (a : Version) (n : Option Entry) → IsAtMost a (version_in n) → has (srm_in n) port ≡ true → IsServed port a n
served_above port a n below sent = record {
  asked = λ e. absurd (true≢false (sym below ∙ (newer_is a (version_in n) e).0));
  sent = λ e. sent;
  agreed = λ e. true≢false (sym below ∙ (confused_is a (version_in n) e).0);
}

-- the version that was held stays
served_same : (port : ℕ) (a : Version) (r : Relation) (held n : Option Entry) → relation a (version_in held) ≡ r → version_in n ≡ version_in held
    → (r ≡ Newer → has (ssn_in n) port ≡ true) → (r ≡ Older → has (srm_in n) port ≡ true) → r ≢ Confused → IsServed port a n
served_same port a r held n is same asked sent agreed =
    let r_is : relation a (version_in n) ≡ r = ap (relation a) same ∙ is in
    record { asked = λ e. asked (sym r_is ∙ e); sent = λ e. sent (sym r_is ∙ e); agreed = λ e. agreed (sym r_is ∙ e) }

spared_version : (f : Entry → Entry) (e : Entry) (b : Bool) → (f e).version ≡ e.version → (if b then e else f e).version ≡ e.version
spared_version f e true same = refl
spared_version f e false same = same

cleared_version : (port : ℕ) (held : Option Entry) → version_in (option_map (unless_absent (cleared port)) held) ≡ version_in held
cleared_version port None = refl
cleared_version port (Some e) = spared_version (cleared port) e (is_absent e.version) refl

none_older : (a : Version) → relation a Absent ≡ Older → ⊥
none_older a e = true≢false (sym (least a) ∙ (older_is a Absent e).1)

served_rule : (up : PortSet) (port : ℕ) (a : Version) (r : Relation) (held : Option Entry) → has up port ≡ true → relation a (version_in held) ≡ r → IsServed port a (snp_rule up port a r held)
served_rule up port a Newer None is_up is =
    served_same port a Newer None (Some (absent_with_ssn port)) is refl (λ e. has-with_same no_ports port (has_port up port is_up).0 (has_port up port is_up).1) (λ e. absurd (cc)) (λ e. cc)
served_rule up port a Newer (Some e) is_up is =
    served_same port a Newer (Some e) (Some (acked port e)) is refl (λ r. has-with_same e.ssn port (has_port up port is_up).0 (has_port up port is_up).1) (λ r. absurd (cc)) (λ r. cc)
served_rule up port a Equal held is_up is =
    served_same port a Equal held (option_map (unless_absent (cleared port)) held) is (cleared_version port held) (λ e. absurd (cc)) (λ e. absurd (cc)) (λ e. cc)
served_rule up port a Older None is_up is = absurd (none_older a is)
served_rule up port a Older (Some e) is_up is =
    served_same port a Older (Some e) (Some (offered port e)) is refl (λ r. absurd (cc)) (λ r. has-with_same e.srm port (has_port up port is_up).0 (has_port up port is_up).1) (λ r. cc)
served_rule up port a Confused held is_up is = served_above port a (Some (dead_at up (number_of a))) (at_most_dead a (number_of a) (omega arith)) is_up

served_next : (up : PortSet) (port : ℕ) (id : LspId) (a : Version) (body : List ℕ) (b : Bool) → has up port ≡ true → IsServed port a (Some (if b then renewed up id body (number_of a + 1) else dead_at up (number_of a)))
served_next up port id a body true is_up =
    let n = renewed up id body (number_of a + 1) in served_above port a (Some n) (greater a n.version (omega arith)) is_up
served_next up port id a body false is_up = served_above port a (Some (dead_at up (number_of a))) (at_most_dead a (number_of a) (omega arith)) is_up

served_answer : (up : PortSet) (port : ℕ) (id : LspId) (a : Version) (o : Option (List ℕ)) → has up port ≡ true → IsServed port a (Some (answered_by up id (number_of a) o))
served_answer up port id a None is_up = served_above port a (Some (dead_at up (number_of a))) (at_most_dead a (number_of a) (omega arith)) is_up
served_answer up port id a (Some body) is_up = served_next up port id a body (nat_lt (number_of a) last_number) is_up

served_by : (up : PortSet) (port : ℕ) (own : Own) (id : LspId) (a : Version) (r : Relation) (held : Option Entry) (b : Bool) → has up port ≡ true → relation a (version_in held) ≡ r
    → IsServed port a (if b then Some (answered up own id (number_of a)) else snp_rule up port a r held)
served_by up port own id a r held true is_up is = served_answer up port id a (body_for own id) is_up
served_by up port own id a r held false is_up is = served_rule up port a r held is_up is

pub entry_is_served : EntryIsServed
entry_is_served up port c h is_up place =
    let held = get h.db c.id in
    let r = relation c.version (version_in held) in
    subst (λ (n : Option Entry). IsServed port c.version n) (sym (entry_stands up port c h place))
    (served_by up port h.own c.id c.version r held (is_answered h.own c.id r) is_up refl)

-- ---- a CSNP

pub csnp_stands : CsnpStands
csnp_stands up port start end claims h x =
    get-each (λ id e. flag_if (is_missed start end (ids_of claims) id e) port e) (hear_entries_of up port claims h).db x

pub missed_is_sent : MissedIsSent
missed_is_sent up port start end claims h x e is_up held missed =
    let now : get (hear_csnp_of up port start end claims h).db x ≡ Some (flagged port e) =
    csnp_stands up port start end claims h x
    ∙ ap (option_map (λ f. flag_if (is_missed start end (ids_of claims) x f) port f)) held
    ∙ ap (λ b. Some (flag_if b port e)) missed
    in
    ap (λ (n : Option Entry). has (srm_in n) port) now ∙ has-with_same e.srm port (has_port up port is_up).0 (has_port up port is_up).1

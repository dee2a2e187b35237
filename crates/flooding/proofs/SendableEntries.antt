-- The LSP of every entry can be written and is read again, whatever was heard, originated or aged.
use Rattle.std.specs.Prelude.{◌≡◌, ℕ, ◌+◌, ◌-◌, ◌≤◌, List, [], length, Bool, true, false, ◌||◌, Option, Some, None, Ok, Err, ◌==◌, nat_lt, nat_le, if◌then◌else◌, IsTrue}
use Rattle.std.proofs.Common.{refl, sym, ap, subst, arith, ◌∙◌}
use Rattle.std.proofs.lemmas.Bool.{true≢false, eqb-false, leb-false, ltb-false, ne_eqb}
use Rattle.std.proofs.Math.Nat.{pos_of_ne-zero}
use Rattle.std.specs.Option.{option_map}
use Rattle.std.specs.FinMap.{get}
use Rattle.spb_types.specs.declared.address.LspId.{LspId}
use Rattle.spb_types.specs.declared.ports.PortSet.{PortSet}
use Rattle.isis_pdu.specs.declared.kind.Kind.TheVariants as kinds
use Rattle.isis_pdu.specs.declared.pdu.PduError.TheVariants.{Sum}
use Rattle.isis_pdu.specs.Pdu.{LspValue, lsp}
use Rattle.isis_pdu.specs.Spelling.{CanWrite}
use Rattle.isis_pdu.specs.Grammar.{is_sound_lsp}
use Rattle.isis_pdu.specs.Tlvs.{is_whole_after}
use Rattle.isis_pdu.proofs.FormatLaws.{made_is_sound, written_again}
use Rattle.isis_pdu.proofs.Read.{read_is_spelled}
use Rattle.lsdb.specs.declared.version.Version.{Version}
use Rattle.lsdb.specs.declared.version.Version.TheVariants.{Absent, Live, Dead}
use Rattle.lsdb.specs.declared.version.Relation.{Relation}
use Rattle.lsdb.specs.declared.version.Relation.TheVariants.{Older, Equal, Newer, Confused}
use Rattle.lsdb.specs.Version.{number_of, is_absent, leq, relation, claimed, sum_of}
use Rattle.lsdb.specs.Entry.{Entry, made, stored, acked, cleared, offered, purged, aged_at, AreKept}
use Rattle.lsdb.specs.Database.{version_in}
use Rattle.flooding.specs.declared.own.Own.{Own}
use Rattle.flooding.specs.Own.{last_number, own_number, is_own_number, body_of_number, body_for, tlvs_of_body, renewed, dead_at, answered_by, answered}
use Rattle.flooding.specs.Hearing.{Holding, claim_of, body_of, unless_absent, wanted, lsp_rule, snp_rule, is_beyond}
use Rattle.flooding.specs.Origination.{spent_entry, next_entry, originated}
use Rattle.flooding.specs.Sending.{lsp_in}
use Rattle.flooding.specs.Entries.{IsNumbered, IsSendable, AreSendable}
use Rattle.flooding.specs.Laws.{HasBodies, IsWhole, SentIsHeld, SentIsRead, ReadIsWhole, ClaimIsNumbered, LspKeepsSendable, EntryKeepsSendable, BringingKeepsSendable, AgeingKeepsSendable, FlagsKeepSendable}
use Rattle.flooding.proofs.Heard.{number-claimed}
use Rattle.flooding.proofs.Steps.{beyond_is}
use Rattle.flooding.proofs.AllEntries.{inserted, all_changed, all_after_claim}
use Rattle.flooding.proofs.Brought.{next_of, originated_keeps, brought_keeps}
use Rattle.flooding.proofs.OwnBodies.{for_number}

-- ---- bodies without TLVs

-- no TLVs at all can be written
can_write_none : CanWrite kinds.Lsp []
unfolding is_whole_after
can_write_none = record { whole = refl; short = omega arith }

-- an LSP without a lifetime has no checksum to hold
sound_dead : (id : LspId) (seq sum flags : ℕ) → IsTrue (is_sound_lsp (record { lifetime = 0; id = id; seq = seq; sum = sum; flags = flags; tlvs = [] }))
unfolding is_sound_lsp
sound_dead id seq sum flags = refl

pub dead_sendable : (id : LspId) (seq : ℕ) (srm ssn : PortSet) → 1 ≤ seq → IsSendable id (made (Dead seq) 0 [] srm ssn)
dead_sendable id seq srm ssn numbered = record { numbered = numbered; clean = (refl, refl); written = can_write_none; sound = sound_dead id seq 0 1 }

absent_sendable : (id : LspId) (srm ssn : PortSet) → IsSendable id (made Absent 0 [] srm ssn)
absent_sendable id srm ssn = record { numbered = tt; clean = (refl, refl); written = can_write_none; sound = sound_dead id 0 0 1 }

-- ---- numbers

beyond_numbered : (a h : Version) → IsNumbered a → leq a h ≡ false → 1 ≤ number_of a
unfolding leq
beyond_numbered Absent h numbered beyond = absurd (true≢false beyond)
beyond_numbered (Live seq sum) h numbered beyond = numbered
beyond_numbered (Dead seq) h numbered beyond = numbered

numbered_by : (seq lifetime sum : ℕ) (b d : Bool) → (seq == 0) ≡ b → IsNumbered (if b then Absent else (if d then Dead seq else Live seq sum))
numbered_by seq lifetime sum true d is = tt
numbered_by seq lifetime sum false true is = pos_of_ne-zero (eqb-false seq 0 is)
numbered_by seq lifetime sum false false is = pos_of_ne-zero (eqb-false seq 0 is)

pub claim_is_numbered : ClaimIsNumbered
claim_is_numbered seq lifetime sum = numbered_by seq lifetime sum (seq == 0) (lifetime == 0) refl

claimed_numbered : (l : LspValue) → IsNumbered (claim_of l).version
claimed_numbered l = claim_is_numbered l.seq l.lifetime l.sum

-- ---- own LSPs

pub renewed_sendable : (up : PortSet) (id : LspId) (body : List ℕ) (seq : ℕ) → (1 ≤ length body) × CanWrite kinds.Lsp (tlvs_of_body body) → IsSendable id (renewed up id body (seq + 1))
renewed_sendable up id body seq has_body = record {
  numbered = omega arith;
  clean = (omega arith, has_body.0);
  written = has_body.1;
  sound = made_is_sound (lsp_in id (renewed up id body (seq + 1))) refl;
}

answer_by : (up : PortSet) (id : LspId) (body : List ℕ) (seq : ℕ) (b : Bool) → (1 ≤ length body) × CanWrite kinds.Lsp (tlvs_of_body body) → 1 ≤ seq
    → IsSendable id (if b then renewed up id body (seq + 1) else dead_at up seq)
answer_by up id body seq true has_body numbered = renewed_sendable up id body seq has_body
answer_by up id body seq false has_body numbered = dead_sendable id seq up _ numbered

answered_as : (up : PortSet) (own : Own) (id : LspId) (seq : ℕ) (o : Option (List ℕ)) → body_for own id ≡ o → HasBodies own → 1 ≤ seq → IsSendable id (answered_by up id seq o)
answered_as up own id seq None is has_bodies numbered = dead_sendable id seq up _ numbered
answered_as up own id seq (Some body) is has_bodies numbered =
    answer_by up id body seq (nat_lt seq last_number) (has_bodies id.number body (for_number own id body own.spent (is_own_number own.system id) is)) numbered

answered_sendable : (up : PortSet) (own : Own) (id : LspId) (a h : Version) → HasBodies own → IsNumbered a → is_beyond (relation a h) ≡ true → IsSendable id (answered up own id (number_of a))
answered_sendable up own id a h has_bodies numbered beyond =
    answered_as up own id (number_of a) (body_for own id) refl has_bodies (beyond_numbered a h numbered (beyond_is a h (relation a h) refl beyond))

-- ---- rules

spared : (f : Entry → Entry) (id : LspId) (e : Entry) (b : Bool) → IsSendable id e → IsSendable id (f e) → IsSendable id (if b then e else f e)
spared f id e true same changed = same
spared f id e false same changed = changed

-- other flags
pub flags_sendable : FlagsKeepSendable
flags_sendable srm ssn id e s = record { numbered = s.numbered; clean = s.clean; written = s.written; sound = s.sound }

-- what a rule makes of what is held, by changes that leave all but the flags
mapped_sendable : (f : Entry → Entry) (id : LspId) (held : Option Entry) → ((e : Entry) → held ≡ Some e → IsSendable id e) → ((e : Entry) → IsSendable id e → IsSendable id (f e))
    → (g : Entry) → option_map f held ≡ Some g → IsSendable id g
mapped_sendable f id None all keeps g is = absurd (cc)
mapped_sendable f id (Some e) all keeps g is = let same : f e ≡ g = cc in subst (λ (x : Entry). IsSendable id x) same (keeps e (all e refl))

offered_sendable : (port : ℕ) (id : LspId) (e : Entry) → IsSendable id e → IsSendable id (offered port e)
offered_sendable port id e s = flags_sendable _ _ id e s

acked_sendable : (port : ℕ) (id : LspId) (e : Entry) → IsSendable id e → IsSendable id (unless_absent (acked port) e)
acked_sendable port id e s = spared (acked port) id e (is_absent e.version) s (flags_sendable _ _ id e s)

cleared_sendable : (port : ℕ) (id : LspId) (e : Entry) → IsSendable id e → IsSendable id (unless_absent (cleared port) e)
cleared_sendable port id e s = spared (cleared port) id e (is_absent e.version) s (flags_sendable _ _ id e s)

wanted_sendable : (port : ℕ) (id : LspId) (held : Option Entry) → ((e : Entry) → held ≡ Some e → IsSendable id e) → IsSendable id (wanted port held)
wanted_sendable port id None all = absent_sendable id _ _
wanted_sendable port id (Some e) all = flags_sendable _ _ id e (all e refl)

dead_here_sendable : (up : PortSet) (id : LspId) (seq : ℕ) (g : Entry) → 1 ≤ seq → Some (dead_at up seq) ≡ Some g → IsSendable id g
dead_here_sendable up id seq g numbered is = let same : dead_at up seq ≡ g = cc in subst (λ (x : Entry). IsSendable id x) same (dead_sendable id seq up _ numbered)

snp_rule_sendable : (up : PortSet) (port : ℕ) (id : LspId) (a : Version) (r : Relation) (held : Option Entry) → IsNumbered a → relation a (version_in held) ≡ r
    → ((e : Entry) → held ≡ Some e → IsSendable id e) → (g : Entry) → snp_rule up port a r held ≡ Some g → IsSendable id g
snp_rule_sendable up port id a Older held numbered is all g found = mapped_sendable (offered port) id held all (offered_sendable port id) g found
snp_rule_sendable up port id a Equal held numbered is all g found = mapped_sendable (unless_absent (cleared port)) id held all (cleared_sendable port id) g found
snp_rule_sendable up port id a Newer held numbered is all g found = let same : wanted port held ≡ g = cc in subst (λ (x : Entry). IsSendable id x) same (wanted_sendable port id held all)
snp_rule_sendable up port id a Confused held numbered is all g found =
    dead_here_sendable up id (number_of a) g (beyond_numbered a (version_in held) numbered (beyond_is a (version_in held) Confused is refl)) found

-- a stored LSP
stored_by : (up : PortSet) (port : ℕ) (l : LspValue) (b d : Bool) → (l.seq == 0) ≡ b → (l.lifetime == 0) ≡ d → IsWhole l
    → IsSendable l.id (stored up port (if b then Absent else (if d then Dead l.seq else Live l.seq l.sum)) l.lifetime (body_of l))
stored_by up port l true d number life whole = absent_sendable l.id _ _
stored_by up port l false true number life whole = dead_sendable l.id l.seq _ _ (pos_of_ne-zero (eqb-false l.seq 0 number))
stored_by up port l false false number life whole = record {
  numbered = pos_of_ne-zero (eqb-false l.seq 0 number);
  clean = (pos_of_ne-zero (eqb-false l.lifetime 0 life), omega arith);
  written = whole.written;
  sound = whole.sound;
}

lsp_rule_sendable : (up : PortSet) (port : ℕ) (l : LspValue) (r : Relation) (held : Option Entry) → IsWhole l → relation (claim_of l).version (version_in held) ≡ r
    → ((e : Entry) → held ≡ Some e → IsSendable l.id e) → (g : Entry) → lsp_rule up port l r held ≡ Some g → IsSendable l.id g
lsp_rule_sendable up port l Older held whole is all g found = mapped_sendable (offered port) l.id held all (offered_sendable port l.id) g found
lsp_rule_sendable up port l Equal held whole is all g found = mapped_sendable (unless_absent (acked port)) l.id held all (acked_sendable port l.id) g found
lsp_rule_sendable up port l Newer held whole is all g found =
    let same : stored up port (claim_of l).version l.lifetime (body_of l) ≡ g = cc in
    subst (λ (x : Entry). IsSendable l.id x) same (stored_by up port l (l.seq == 0) (l.lifetime == 0) refl refl whole)
lsp_rule_sendable up port l Confused held whole is all g found =
    dead_here_sendable up l.id l.seq g
    (subst (λ n. 1 ≤ n) (number-claimed l.seq l.lifetime l.sum) (beyond_numbered (claim_of l).version (version_in held) (claimed_numbered l) (beyond_is (claim_of l).version (version_in held) Confused is refl)))
    found

-- ---- the laws

pub lsp_keeps_sendable : LspKeepsSendable
lsp_keeps_sendable up port l h whole has_body all =
    all_after_claim IsSendable (lsp_rule up port l) up (claim_of l) h all
    (answered_sendable up h.own l.id (claim_of l).version (version_in (get h.db l.id)) has_body (claimed_numbered l))
    (lsp_rule_sendable up port l _ (get h.db l.id) whole refl (all l.id))

pub entry_keeps_sendable : EntryKeepsSendable
entry_keeps_sendable up port c h numbered has_body all =
    all_after_claim IsSendable (snp_rule up port c.version) up c h all
    (answered_sendable up h.own c.id c.version (version_in (get h.db c.id)) has_body numbered)
    (snp_rule_sendable up port c.id c.version _ (get h.db c.id) numbered refl (all c.id))

next_sendable : (up : PortSet) (id : LspId) (body : List ℕ) (seq : ℕ) (held : Option Entry) (b : Bool) → nat_lt seq last_number ≡ b → (1 ≤ length body) × CanWrite kinds.Lsp (tlvs_of_body body)
    → IsSendable id (if b then renewed up id body (seq + 1) else spent_entry up seq held)
next_sendable up id body seq held true is has_body = renewed_sendable up id body seq has_body
next_sendable up id body seq held false is has_body = let past = ltb-false seq last_number is in dead_sendable id seq up _ (omega arith)

-- the own LSP of a number, originated
next_is_sendable : (up : PortSet) (number : ℕ) (h : Holding) (body : List ℕ) → body_of_number h.own number ≡ Some body → HasBodies h.own → AreSendable h.db → AreSendable (next_of up number body h).db
next_is_sendable up number h body is has_bodies all =
    let id = own_number h.own.system number in
    let held = get h.db id in
    let seq = number_of (version_in held) in
    inserted IsSendable h.db id (next_entry up id body seq held) all (next_sendable up id body seq held (nat_lt seq last_number) refl (has_bodies number body is))

-- and purged
live_numbered : (id : LspId) (e : Entry) (seq sum : ℕ) → e.version ≡ Live seq sum → IsSendable id e → 1 ≤ seq
live_numbered id e seq sum is s = subst IsNumbered is s.numbered

pub bringing_keeps_sendable : BringingKeepsSendable
bringing_keeps_sendable up number h has_bodies all =
    let id = own_number h.own.system number in
    brought_keeps (λ g. AreSendable g.db) up number h all
    (λ body fresh has. next_is_sendable up number h body has has_bodies all)
    (λ seq sum live. all_changed IsSendable (purged seq up) h.db id all
    (λ e is. dead_sendable id seq up _ (live_numbered id e seq sum (sym (ap version_in is) ∙ live) (all id e is))))

pub origination_keeps_sendable : (up : PortSet) (number : ℕ) (h : Holding) → HasBodies h.own → AreSendable h.db → AreSendable (originated up number h).db
origination_keeps_sendable up number h has_bodies all =
    originated_keeps (λ g. AreSendable g.db) up number h all (λ body fresh has. next_is_sendable up number h body has has_bodies all)

-- ---- what is sent

above_zero : (n : ℕ) → 1 ≤ n → (n == 0) ≡ false
above_zero n h = ne_eqb n 0 (λ e. absurd (omega arith))

-- the number, lifetime and checksum with which a version is sent claim it
pub claimed_again : (v : Version) (lifetime : ℕ) (body : List ℕ) → IsNumbered v → AreKept v lifetime body → claimed (number_of v) lifetime (sum_of v) ≡ v
claimed_again Absent lifetime body numbered kept = refl
claimed_again (Live seq sum) lifetime body numbered kept =
    λ i. if above_zero seq numbered i then Absent else (if above_zero lifetime kept.0 i then Dead seq else Live seq sum)
claimed_again (Dead seq) lifetime body numbered kept =
    λ i. if above_zero seq numbered i then Absent else (if ap (λ n. n == 0) kept.0 i then Dead seq else Live seq 0)

pub sent_is_held : SentIsHeld
sent_is_held id e s = ap (λ (v : Version). record { id = id; version = v }) (claimed_again e.version e.lifetime e.body s.numbered s.clean)

-- ---- reading and writing

pub sent_is_read : SentIsRead
sent_is_read id e six s =
    written_again (lsp (lsp_in id e)) (record { ids = six; whole = s.written.whole })
    ∙ ap (λ b. if b then Ok (lsp (lsp_in id e)) else Err Sum) s.sound

pub read_is_whole : ReadIsWhole
read_is_whole bytes l fit few is =
    let from = read_is_spelled bytes (lsp l) fit is in
    let within = from.within in
    record { written = record { whole = from.pdu.whole; short = omega arith }; sound = from.sound }

-- ---- a second

shorter_by : (zero_now zero_then unnumbered holds : Bool) → zero_now ≡ false → ((zero_now || unnumbered) || holds) ≡ true → ((zero_then || unnumbered) || holds) ≡ true
shorter_by false true unnumbered holds lives sound = refl
shorter_by false false unnumbered holds lives sound = sound
shorter_by true zero_then unnumbered holds lives sound = absurd (true≢false lives)

-- a checksum that holds doesn't depend on the lifetime that is left
sound_shorter : (l : LspValue) (lifetime : ℕ) → 1 ≤ l.lifetime → IsTrue (is_sound_lsp l) → IsTrue (is_sound_lsp (record l { lifetime = lifetime }))
unfolding is_sound_lsp
sound_shorter l lifetime lives sound = shorter_by (l.lifetime == 0) (lifetime == 0) (l.seq == 0) _ (ne_eqb l.lifetime 0 (omega arith)) sound

aged_live : (up : PortSet) (id : LspId) (e : Entry) (seq sum : ℕ) (b : Bool) → e.version ≡ Live seq sum → nat_le e.lifetime 1 ≡ b → IsSendable id e
    → IsSendable id (if b then made (Dead seq) 0 [] up e.ssn else record e { lifetime = e.lifetime - 1 })
aged_live up id e seq sum true is last s = dead_sendable id seq up e.ssn (subst IsNumbered is s.numbered)
aged_live up id e seq sum false is last s =
    let more = leb-false e.lifetime 1 last in
    let kept = subst (λ (v : Version). AreKept v e.lifetime e.body) is s.clean in
    record {
      numbered = s.numbered;
      clean = subst (λ (v : Version). AreKept v (e.lifetime - 1) e.body) (sym is) (omega arith, kept.1);
      written = s.written;
      sound = sound_shorter (lsp_in id e) (e.lifetime - 1) (omega arith) s.sound;
    }

aged_by : (up : PortSet) (id : LspId) (e : Entry) (a : Version) → e.version ≡ a → IsSendable id e → IsSendable id (aged_at up e a)
aged_by up id e Absent is s = s
aged_by up id e (Live seq sum) is s = aged_live up id e seq sum (nat_le e.lifetime 1) is refl s
aged_by up id e (Dead seq) is s = s

pub ageing_keeps_sendable : AgeingKeepsSendable
ageing_keeps_sendable up id e s = aged_by up id e e.version refl s

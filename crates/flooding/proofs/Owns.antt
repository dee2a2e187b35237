-- What hearing leaves of own LSPs.
use Rattle.std.specs.Prelude.{◌≡◌, ℕ, ◌+◌, ◌<◌, List, Bool, true, false, ◌&&◌, not, Option, Some, None, is_some, nat_lt, if◌then◌else◌}
use Rattle.std.proofs.Common.{refl, sym, ap, subst, ◌∙◌}
use Rattle.std.proofs.lemmas.Bool.{lt-ltb}
use Rattle.std.specs.FinMap.{get}
use Rattle.spb_types.specs.declared.address.SystemId.{SystemId}
use Rattle.spb_types.specs.declared.address.LspId.{LspId}
use Rattle.spb_types.specs.declared.ports.PortSet.{PortSet}
use Rattle.spb_types.specs.Address.{same_system}
use Rattle.isis_pdu.specs.Pdu.{LspValue}
use Rattle.lsdb.specs.declared.version.Version.{Version}
use Rattle.lsdb.specs.declared.version.Relation.{Relation}
use Rattle.lsdb.specs.declared.version.Relation.TheVariants.{Older, Equal, Newer, Confused}
use Rattle.lsdb.specs.Version.{number_of, is_absent, relation}
use Rattle.lsdb.specs.Entry.{Entry, acked, cleared, offered, with_flags}
use Rattle.lsdb.specs.Database.{Lsps, version_in, changed_to}
use Rattle.lsdb.specs.Certificate.{Claim}
use Rattle.flooding.specs.declared.own.Own.{Own}
use Rattle.flooding.specs.Own.{last_number, body_for, renewed, dead_at, answered_by, answered, answering}
use Rattle.flooding.specs.Hearing.{Holding, claim_of, lsp_rule, snp_rule, is_beyond, is_answered, lacks_place, after_entry, own_after, after_claim, is_full}
use Rattle.flooding.specs.Laws.{OwnStands, OwnIsNotSpent, OwnEntry, is_kept, is_renewed, is_ended, LspLeavesOwn, EntryLeavesOwn}
use Rattle.flooding.proofs.Heard.{Rule}
use Rattle.flooding.proofs.Changed.{held_has_room}
use Rattle.flooding.proofs.OwnNumbers.{same_self}
use Rattle.flooding.proofs.Claimed.{heard_of, SaysOfHeld, lsp_rule_says, snp_rule_says, heard_stands, fitting_is_not_full}

-- ---- the system and its bodies

-- the same system with the same bodies
abbrev pub SameOwn : Own → Own → Type 0
SameOwn own new = (new.system ≡ own.system) × (new.bodies ≡ own.bodies)

answering_by : (own : Own) (b : Bool) → SameOwn own (if b then record own { spent = true } else own)
answering_by own true = (refl, refl)
answering_by own false = (refl, refl)

own_by : (own : Own) (id : LspId) (seq : ℕ) (b : Bool) → SameOwn own (if b then answering own id seq else own)
own_by own id seq true = answering_by own (is_some (body_for own id) && not (nat_lt seq last_number))
own_by own id seq false = (refl, refl)

after_by : (h : Holding) (db : Lsps) (own : Own) (b : Bool) → SameOwn h.own own → SameOwn h.own (if b then h else record { db = db; own = own }).own
after_by h db own true same = (refl, refl)
after_by h db own false same = same

pub own_stands : OwnStands
unfolding after_claim
own_stands rule up c h =
    let r = relation c.version (version_in (get h.db c.id)) in
    after_by h _ (own_after h.own c.id c.version r) (lacks_place h c.id (heard_of rule up c h)) (own_by h.own c.id (number_of c.version) (is_answered h.own c.id r))

-- ---- spent only at the last number

same_by : (own : Own) (b : Bool) → (if b then own else own) ≡ own
same_by own true = refl
same_by own false = refl

unspent_test : (b d : Bool) → d ≡ true → (b && not d) ≡ false
unspent_test true d is = ap not is
unspent_test false d is = refl

answering_same : (own : Own) (id : LspId) (seq : ℕ) → seq < last_number → answering own id seq ≡ own
answering_same own id seq below = ap (λ b. if b then record own { spent = true } else own) (unspent_test (is_some (body_for own id)) (nat_lt seq last_number) (lt-ltb seq last_number below))

after_same : (h : Holding) (db : Lsps) (b : Bool) → (if b then h else record { db = db; own = h.own }).own ≡ h.own
after_same h db true = refl
after_same h db false = refl

pub own_is_not_spent : OwnIsNotSpent
unfolding after_claim
own_is_not_spent rule up c h below =
    let r = relation c.version (version_in (get h.db c.id)) in
    let b = is_answered h.own c.id r in
    let owns : own_after h.own c.id c.version r ≡ h.own = ap (λ (own : Own). if b then own else h.own) (answering_same h.own c.id (number_of c.version) below) ∙ same_by h.own b in
    ap (λ (own : Own). (after_entry h c.id (heard_of rule up c h) own).own) owns ∙ after_same h (changed_to h.db c.id (heard_of rule up c h)) (lacks_place h c.id (heard_of rule up c h))

-- ---- an own LSP that is held

-- the same version, lifetime and body
pub record IsKept (old new : Entry) : Type 0 where
  pub version : new.version ≡ old.version
  pub lifetime : new.lifetime ≡ old.lifetime
  pub body : new.body ≡ old.body

kept_at : (old now new : Entry) → IsKept old now → Some now ≡ Some new → IsKept old new
kept_at old now new kept is = let same : now ≡ new = cc in subst (λ (e : Entry). IsKept old e) same kept

spared_is_kept : (f : Entry → Entry) (old : Entry) (b : Bool) → IsKept old (f old) → IsKept old (if b then old else f old)
spared_is_kept f old true kept = record { version = refl; lifetime = refl; body = refl }
spared_is_kept f old false kept = kept

-- a rule that keeps what is held of a claim that isn't beyond it
abbrev pub KeepsHeld : Rule → Type 0
KeepsHeld rule = (r : Relation) (old new : Entry) → is_beyond r ≡ false → rule r (Some old) ≡ Some new → IsKept old new

same_fields : (old : Entry) (srm ssn : PortSet) → IsKept old (with_flags srm ssn old)
same_fields old srm ssn = record { version = refl; lifetime = refl; body = refl }

pub lsp_rule_keeps : (up : PortSet) (port : ℕ) (l : LspValue) → KeepsHeld (lsp_rule up port l)
lsp_rule_keeps up port l Older old new within is = kept_at old (offered port old) new (same_fields old _ _) is
lsp_rule_keeps up port l Equal old new within is = kept_at old _ new (spared_is_kept (acked port) old (is_absent old.version) (same_fields old _ _)) is
lsp_rule_keeps up port l Newer old new within is = absurd (cc)
lsp_rule_keeps up port l Confused old new within is = absurd (cc)

pub snp_rule_keeps : (up : PortSet) (port : ℕ) (a : Version) → KeepsHeld (snp_rule up port a)
snp_rule_keeps up port a Older old new within is = kept_at old (offered port old) new (same_fields old _ _) is
snp_rule_keeps up port a Equal old new within is = kept_at old _ new (spared_is_kept (cleared port) old (is_absent old.version) (same_fields old _ _)) is
snp_rule_keeps up port a Newer old new within is = absurd (cc)
snp_rule_keeps up port a Confused old new within is = absurd (cc)

own_answer : (up : PortSet) (own : Own) (id : LspId) (a : Version) (old new : Entry) (o : Option (List ℕ)) → body_for own id ≡ o → number_of a < last_number
    → new ≡ answered_by up id (number_of a) o → OwnEntry up own id a old new
own_answer up own id a old new None is below same = is_ended is same
own_answer up own id a old new (Some body) is below same =
    is_renewed body is (same ∙ ap (λ b. if b then renewed up id body (number_of a + 1) else dead_at up (number_of a)) (lt-ltb (number_of a) last_number below))

own_entry_by : (rule : Rule) → KeepsHeld rule → (up : PortSet) (own : Own) (id : LspId) (a : Version) (r : Relation) (old new : Entry) (b : Bool)
    → is_beyond r ≡ b → number_of a < last_number
    → (if b then Some (answered up own id (number_of a)) else rule r (Some old)) ≡ Some new → OwnEntry up own id a old new
own_entry_by rule keeps up own id a r old new true beyond below is =
    let same : new ≡ answered up own id (number_of a) = cc in
    own_answer up own id a old new (body_for own id) refl below same
own_entry_by rule keeps up own id a r old new false within below is = let kept = keeps r old new within is in is_kept kept.version kept.lifetime kept.body

-- an id of the own system
pub system_mine : (own : Own) (id : LspId) → id.system ≡ own.system → same_system id.system own.system ≡ true
system_mine own id is = subst (λ (x : SystemId). same_system x own.system ≡ true) (sym is) (same_self own.system)

leaves_own : (rule : Rule) → KeepsHeld rule → SaysOfHeld rule → (up : PortSet) (c : Claim) (h : Holding) (old new : Entry) → c.id.system ≡ h.own.system → number_of c.version < last_number
    → get h.db c.id ≡ Some old → get (after_claim rule up c h).db c.id ≡ Some new → OwnEntry up h.own c.id c.version old new
leaves_own rule keeps says up c h old new mine below before after =
    let r = relation c.version (version_in (get h.db c.id)) in
    let there : is_full rule up c h ≡ false = fitting_is_not_full rule up c h (held_has_room h.own.system h.db c.id old before) in
    let heard : (if is_beyond r then Some (answered up h.own c.id (number_of c.version)) else rule r (Some old)) ≡ Some new =
    sym (ap (λ b. if b && is_beyond r then Some (answered up h.own c.id (number_of c.version)) else rule r (Some old)) (system_mine h.own c.id mine))
    ∙ sym (ap (λ (o : Option Entry). if is_answered h.own c.id r then Some (answered up h.own c.id (number_of c.version)) else rule r o) before)
    ∙ sym (heard_stands rule says up c h there) ∙ after in
    own_entry_by rule keeps up h.own c.id c.version r old new (is_beyond r) refl below heard

pub lsp_leaves_own : LspLeavesOwn
lsp_leaves_own up port l h old new mine below before after =
    leaves_own (lsp_rule up port l) (lsp_rule_keeps up port l) (lsp_rule_says up port l) up (claim_of l) h old new mine below before after

pub entry_leaves_own : EntryLeavesOwn
entry_leaves_own up port c h old new mine below before after =
    leaves_own (snp_rule up port c.version) (snp_rule_keeps up port c.version) (snp_rule_says up port c.version) up c h old new mine below before after

-- Under an id of the own system no body is ever held but those that the system wrote.
use Rattle.std.specs.Prelude.{◌≡◌, ℕ, ◌+◌, List, Bool, true, false, ◌&&◌, Option, Some, None, nat_lt, if◌then◌else◌}
use Rattle.std.proofs.Common.{inl, inr, refl, sym, ap, subst, ◌∙◌}
use Rattle.std.proofs.lemmas.Bool.{true≢false}
use Rattle.std.specs.FinMap.{get}
use Rattle.spb_types.specs.declared.address.LspId.{LspId}
use Rattle.spb_types.specs.declared.ports.PortSet.{PortSet}
use Rattle.isis_pdu.specs.Pdu.{LspValue}
use Rattle.lsdb.specs.declared.version.Version.{Version}
use Rattle.lsdb.specs.declared.version.Relation.{Relation}
use Rattle.lsdb.specs.declared.version.Relation.TheVariants.{Older, Equal, Newer, Confused}
use Rattle.lsdb.specs.Version.{number_of, is_absent, relation}
use Rattle.lsdb.specs.Entry.{Entry, acked, cleared}
use Rattle.lsdb.specs.Database.{Lsps, version_in}
use Rattle.lsdb.specs.Certificate.{Claim}
use Rattle.lsdb.proofs.LookupLemmas.{get-insert_same, same_or_not}
use Rattle.flooding.specs.declared.own.Own.{Own}
use Rattle.flooding.specs.Own.{last_number, is_own_number, body_of_number, body_for, body_in, renewed, dead_at, answered_by, answered}
use Rattle.flooding.specs.Hearing.{Holding, claim_of, lsp_rule, snp_rule, is_beyond, after_claim}
use Rattle.flooding.specs.Laws.{IsOwnBody, stays, renews, ends, LspLeavesOwnBody, EntryLeavesOwnBody}
use Rattle.flooding.proofs.Heard.{Rule}
use Rattle.flooding.proofs.Claimed.{heard_of, lacks, entered, db_after, others_stand}
use Rattle.flooding.proofs.Owns.{system_mine}

-- ---- what is put in

put_body : (own : Own) (out : Bool) (db : Lsps) (id : LspId) (o : Option Entry) → IsOwnBody own id (get db id) o → IsOwnBody own id (get db id) (get (entered out db id o) id)
put_body own true db id o new = stays refl
put_body own false db id None new = stays refl
put_body own false db id (Some e) new = subst (IsOwnBody own id (get db id)) (sym (get-insert_same db id e)) new

-- ---- a claim

-- a rule that keeps the body of what a claim isn't beyond
abbrev KeepsBody : Rule → Type 0
KeepsBody rule = (r : Relation) (held : Option Entry) → is_beyond r ≡ false → body_in (rule r held) ≡ body_in held

spared_body : (f : Entry → Entry) (e : Entry) (b : Bool) → (f e).body ≡ e.body → (if b then e else f e).body ≡ e.body
spared_body f e true same = refl
spared_body f e false same = same

lsp_rule_body : (up : PortSet) (port : ℕ) (l : LspValue) → KeepsBody (lsp_rule up port l)
lsp_rule_body up port l Older None within = refl
lsp_rule_body up port l Older (Some e) within = refl
lsp_rule_body up port l Equal None within = refl
lsp_rule_body up port l Equal (Some e) within = spared_body (acked port) e (is_absent e.version) refl
lsp_rule_body up port l Newer held within = absurd (true≢false within)
lsp_rule_body up port l Confused held within = absurd (true≢false within)

snp_rule_body : (up : PortSet) (port : ℕ) (a : Version) → KeepsBody (snp_rule up port a)
snp_rule_body up port a Older None within = refl
snp_rule_body up port a Older (Some e) within = refl
snp_rule_body up port a Equal None within = refl
snp_rule_body up port a Equal (Some e) within = spared_body (cleared port) e (is_absent e.version) refl
snp_rule_body up port a Newer held within = absurd (true≢false within)
snp_rule_body up port a Confused held within = absurd (true≢false within)

-- what answers a claim is the body of its number
pub for_number : (own : Own) (id : LspId) (body : List ℕ) (spent mine : Bool) → (if spent then None else (if mine then body_of_number own id.number else None)) ≡ Some body → body_of_number own id.number ≡ Some body
for_number own id body true mine is = absurd (cc)
for_number own id body false true is = is
for_number own id body false false is = absurd (cc)

answer_by : (up : PortSet) (own : Own) (id : LspId) (seq : ℕ) (held : Option Entry) (body : List ℕ) (b : Bool) → body_for own id ≡ Some body
    → IsOwnBody own id held (Some (if b then renewed up id body (seq + 1) else dead_at up seq))
answer_by up own id seq held body true is = renews (for_number own id body own.spent (is_own_number own.system id) is)
answer_by up own id seq held body false is = ends refl

answer_body : (up : PortSet) (own : Own) (id : LspId) (seq : ℕ) (held : Option Entry) (o : Option (List ℕ)) → body_for own id ≡ o → IsOwnBody own id held (Some (answered_by up id seq o))
answer_body up own id seq held None is = ends refl
answer_body up own id seq held (Some body) is = answer_by up own id seq held body (nat_lt seq last_number) is

heard_body : (rule : Rule) → KeepsBody rule → (up : PortSet) (own : Own) (id : LspId) (a : Version) (r : Relation) (held : Option Entry) (b : Bool) → is_beyond r ≡ b
    → IsOwnBody own id held (if b then Some (answered up own id (number_of a)) else rule r held)
heard_body rule keeps up own id a r held true beyond = answer_body up own id (number_of a) held (body_for own id) refl
heard_body rule keeps up own id a r held false within = stays (keeps r held within)

claimed_body : (rule : Rule) → KeepsBody rule → (up : PortSet) (c : Claim) (h : Holding) → c.id.system ≡ h.own.system → IsOwnBody h.own c.id (get h.db c.id) (get (after_claim rule up c h).db c.id)
claimed_body rule keeps up c h mine =
    let held = get h.db c.id in
    let r = relation c.version (version_in held) in
    let heard : IsOwnBody h.own c.id held (heard_of rule up c h) =
    subst (λ (b : Bool). IsOwnBody h.own c.id held (if b && is_beyond r then Some (answered up h.own c.id (number_of c.version)) else rule r held))
    (sym (system_mine h.own c.id mine)) (heard_body rule keeps up h.own c.id c.version r held (is_beyond r) refl) in
    subst (λ (db : Lsps). IsOwnBody h.own c.id held (get db c.id)) (sym (db_after rule up c h)) (put_body h.own (lacks rule up c h) h.db c.id (heard_of rule up c h) heard)

-- under another id nothing changes
claim_leaves : (rule : Rule) → KeepsBody rule → (up : PortSet) (c : Claim) (h : Holding) (id : LspId) → id.system ≡ h.own.system → IsOwnBody h.own id (get h.db id) (get (after_claim rule up c h).db id)
claim_leaves rule keeps up c h id mine =
    elim (same_or_not id c.id) [
      | inl here ↦
          subst (λ (x : LspId). IsOwnBody h.own x (get h.db x) (get (after_claim rule up c h).db x)) (sym here)
          (claimed_body rule keeps up c h (ap (λ (x : LspId). x.system) (sym here) ∙ mine))
      | inr apart ↦ stays (ap body_in (others_stand rule up c h id apart))
    ]

pub lsp_leaves_own_body : LspLeavesOwnBody
lsp_leaves_own_body up port l h id mine = claim_leaves (lsp_rule up port l) (lsp_rule_body up port l) up (claim_of l) h id mine

pub entry_leaves_own_body : EntryLeavesOwnBody
entry_leaves_own_body up port c h id mine = claim_leaves (snp_rule up port c.version) (snp_rule_body up port c.version) up c h id mine

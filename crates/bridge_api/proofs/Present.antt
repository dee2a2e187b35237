-- No own number is held that is absent.
use Rattle.std.proofs.Common.{◌≡◌, inl, inr, ◌+◌, ℕ, Bool, true, false, List, [], ◌∷◌, refl, sym, ap, ◌∙◌, subst, Option, Some, None}
use Rattle.std.specs.Prelude.{◌&&◌, nat_lt, if◌then◌else◌}
use Rattle.std.specs.Option.{option_map}
use Rattle.std.specs.FinMap.{get, insert}
use Rattle.spb_types.specs.declared.address.LspId.{LspId}
use Rattle.spb_types.specs.declared.ports.PortSet.{PortSet}
use Rattle.isis_pdu.specs.Pdu.{LspValue}
use Rattle.lsdb.specs.declared.version.Version.{Version}
use Rattle.lsdb.specs.declared.version.Relation.{Relation}
use Rattle.lsdb.specs.Version.{number_of, is_absent, relation}
use Rattle.lsdb.specs.Entry.{Entry, purged}
use Rattle.lsdb.specs.Database.{Lsps, version_in, changed_to}
use Rattle.lsdb.specs.Certificate.{Claim}
use Rattle.lsdb.proofs.LookupLemmas.{same_or_not, get-insert_same, get-insert_other, get-each}
use Rattle.flooding.specs.declared.own.Own.{Own}
use Rattle.flooding.specs.Own.{last_number, own_number, body_for, body_of_number, renewed, dead_at, answered_by, answered}
use Rattle.flooding.specs.Hearing.{Holding, claim_of, lsp_rule, snp_rule, is_beyond, after_claim, hear_lsp_of, hear_entry_of}
use Rattle.flooding.specs.Origination.{spent_entry, next_entry, brought_up}
use Rattle.flooding.specs.Settling.{Test, settled_by}
use Rattle.flooding.specs.Starting.{started_as, started_all}
use Rattle.flooding.proofs.Brought.{brought_keeps}
use Rattle.flooding.proofs.Claimed.{heard_of, lacks, entered, db_after, others_stand}
use Rattle.flooding.proofs.HeardCurrent.{LeavesHeld, lsp_leaves, snp_leaves}
use Rattle.flooding.proofs.Owns.{own_stands, system_mine}
use Rattle.flooding.proofs.Settled.{settling_keeps}
use Rattle.flooding.proofs.Started.{all_keep, first_entry}
use Rattle.snp_sync.specs.Hearing.{hear_entries_of, ids_of, is_missed, flag_if, hear_csnp_of}

-- what is held, if anything is, isn't absent
abbrev pub IsPresent : Option Entry → Type 0
IsPresent o = (e : Entry) → o ≡ Some e → is_absent e.version ≡ false

present : (e : Entry) → is_absent e.version ≡ false → IsPresent (Some e)
present e there d is = let same : e ≡ d = cc in subst (λ (x : Entry). is_absent x.version ≡ false) same there

-- an entry changed that stays so
pub mapped_present : (f : Entry → Entry) (o : Option Entry) → ((e : Entry) → is_absent e.version ≡ false → is_absent (f e).version ≡ false) → IsPresent o → IsPresent (option_map f o)
mapped_present f None keeps was = was
mapped_present f (Some e) keeps was = present (f e) (keeps e (was e refl))

put_at : (db : Lsps) (id x : LspId) (o : Option Entry) → IsPresent (get db x) → IsPresent o → IsPresent (get (changed_to db id o) x)
put_at db id x None was new = was
put_at db id x (Some e) was new =
    elim (same_or_not x id) [
      | inl here ↦ subst (λ (y : LspId). IsPresent (get (insert db id e) y)) (sym here) (subst IsPresent (sym (get-insert_same db id e)) new)
      | inr apart ↦ subst IsPresent (sym (get-insert_other db id e x apart)) was
    ]

-- ---- what is heard

answer_by : (up : PortSet) (id : LspId) (seq : ℕ) (body : List ℕ) (b : Bool) → is_absent (if b then renewed up id body (seq + 1) else dead_at up seq).version ≡ false
answer_by up id seq body true = refl
answer_by up id seq body false = refl

answer_there : (up : PortSet) (id : LspId) (seq : ℕ) (o : Option (List ℕ)) → is_absent (answered_by up id seq o).version ≡ false
answer_there up id seq None = refl
answer_there up id seq (Some body) = answer_by up id seq body (nat_lt seq last_number)

module _ (rule : Relation → Option Entry → Option Entry) (leaves : (r : Relation) → is_beyond r ≡ false → LeavesHeld rule r) (up : PortSet) where
  heard_there : (own : Own) (id : LspId) (a : Version) (r : Relation) (held : Option Entry) (b : Bool) → is_beyond r ≡ b → IsPresent held
      → IsPresent (if b then Some (answered up own id (number_of a)) else rule r held)
  heard_there own id a r held true beyond was = present (answered up own id (number_of a)) (answer_there up id (number_of a) (body_for own id))
  heard_there own id a r held false within was =
      let left = leaves r within in
      subst IsPresent (sym (left.is held)) (mapped_present left.change held (λ e there. ap is_absent (left.same e).0 ∙ there) was)

  put_there : (out : Bool) (db : Lsps) (id : LspId) (o : Option Entry) → IsPresent (get db id) → IsPresent o → IsPresent (get (entered out db id o) id)
  put_there true db id o was new = was
  put_there false db id o was new = put_at db id id o was new

  claimed_there : (c : Claim) (h : Holding) → c.id.system ≡ h.own.system → IsPresent (get h.db c.id) → IsPresent (get (after_claim rule up c h).db c.id)
  claimed_there c h mine was =
      let held = get h.db c.id in
      let r = relation c.version (version_in held) in
      let heard : IsPresent (heard_of rule up c h) =
      subst (λ (b : Bool). IsPresent (if b && is_beyond r then Some (answered up h.own c.id (number_of c.version)) else rule r held))
      (sym (system_mine h.own c.id mine)) (heard_there h.own c.id c.version r held (is_beyond r) refl was) in
      subst (λ (db : Lsps). IsPresent (get db c.id)) (sym (db_after rule up c h)) (put_there (lacks rule up c h) h.db c.id (heard_of rule up c h) was heard)

  claim_present : (c : Claim) (h : Holding) (id : LspId) → id.system ≡ h.own.system → IsPresent (get h.db id) → IsPresent (get (after_claim rule up c h).db id)
  claim_present c h id mine was =
      elim (same_or_not id c.id) [
        | inl here ↦
            subst (λ (x : LspId). IsPresent (get (after_claim rule up c h).db x)) (sym here)
            (claimed_there c h (ap (λ (x : LspId). x.system) (sym here) ∙ mine) (subst (λ (x : LspId). IsPresent (get h.db x)) here was))
        | inr apart ↦ subst IsPresent (sym (others_stand rule up c h id apart)) was
      ]

pub lsp_present : (up : PortSet) (port : ℕ) (l : LspValue) (h : Holding) (id : LspId) → id.system ≡ h.own.system → IsPresent (get h.db id) → IsPresent (get (hear_lsp_of up port l h).db id)
lsp_present up port l h id mine was = claim_present (lsp_rule up port l) (lsp_leaves up port l) up (claim_of l) h id mine was

pub entries_present : (up : PortSet) (port : ℕ) (claims : List Claim) (h : Holding) (id : LspId) → id.system ≡ h.own.system → IsPresent (get h.db id) → IsPresent (get (hear_entries_of up port claims h).db id)
entries_present up port [] h id mine was = was
entries_present up port (c ∷ claims) h id mine was =
    entries_present up port claims (hear_entry_of up port c h) id (mine ∙ sym (own_stands (snp_rule up port c.version) up c h).0)
    (claim_present (snp_rule up port c.version) (snp_leaves up port c.version) up c h id mine was)

flag_there : (port : ℕ) (e : Entry) (b : Bool) → is_absent e.version ≡ false → is_absent (flag_if b port e).version ≡ false
flag_there port e true there = there
flag_there port e false there = there

pub csnp_present : (up : PortSet) (port : ℕ) (start end : LspId) (claims : List Claim) (h : Holding) (id : LspId) → id.system ≡ h.own.system → IsPresent (get h.db id)
    → IsPresent (get (hear_csnp_of up port start end claims h).db id)
csnp_present up port start end claims h id mine was =
    let heard : Holding = hear_entries_of up port claims h in
    let missed : LspId → Entry → Bool = is_missed start end (ids_of claims) in
    subst IsPresent (sym (get-each (λ x e. flag_if (missed x e) port e) heard.db id))
    (mapped_present (λ e. flag_if (missed id e) port e) (get heard.db id) (λ e there. flag_there port e (missed id e) there) (entries_present up port claims h id mine was))

-- ---- own LSPs brought up to date

next_there : (up : PortSet) (id : LspId) (body : List ℕ) (seq : ℕ) (held : Option Entry) (b : Bool) → is_absent (if b then renewed up id body (seq + 1) else spent_entry up seq held).version ≡ false
next_there up id body seq held true = refl
next_there up id body seq held false = refl

purged_there : (up : PortSet) (seq : ℕ) (o : Option Entry) → IsPresent (option_map (purged seq up) o)
purged_there up seq None = λ e is. absurd cc
purged_there up seq (Some d) = present (purged seq up d) refl

brought_present : (up : PortSet) (number : ℕ) (h : Holding) (x : LspId) → IsPresent (get h.db x) → IsPresent (get (brought_up up number h).db x)
brought_present up number h x was =
    let id = own_number h.own.system number in
    let held = get h.db id in
    let seq = number_of (version_in held) in
    brought_keeps (λ g. IsPresent (get g.db x)) up number h was
    (λ body fresh has. put_at h.db id x (Some (next_entry up id body seq held)) was (present (next_entry up id body seq held) (next_there up id body seq held (nat_lt seq last_number))))
    (λ s sum live. put_at h.db id x (option_map (purged s up) held) was (purged_there up s held))

pub settling_present : (test : Test) (up : PortSet) (h : Holding) (x : LspId) → IsPresent (get h.db x) → IsPresent (get (settled_by test up h).db x)
settling_present test up h x was = settling_keeps (λ g. IsPresent (get g.db x)) test up h (λ number g below before. brought_present up number g x before) was

-- ---- a life that begins

pub starting_present : (last : List ℕ) (h : Holding) (x : LspId) → IsPresent (get h.db x) → IsPresent (get (started_all last 0 h).db x)
starting_present last h x was =
    all_keep (λ g. IsPresent (get g.db x)) last h
    (λ number n g same before.
    let id = own_number g.own.system number in
    put_at g.db id x (started_as id n (body_of_number g.own number)) before
    (λ e is. first_entry (λ (d : Entry). is_absent d.version ≡ false) id n (body_of_number g.own number) (λ body has below. refl) (λ some. refl) e is))
    was

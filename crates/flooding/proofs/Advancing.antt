-- What stands under an id of the own system goes on, whatever is heard, originated and purged.
use Rattle.std.specs.Prelude.{◌≡◌, ℕ, ◌+◌, ◌-◌, ◌≤◌, List, [], Bool, true, false, ◌&&◌, Option, Some, None, nat_le, nat_lt, if◌then◌else◌}
use Rattle.std.proofs.Common.{inl, inr, refl, sym, ap, subst, ◌∙◌, arith}
use Rattle.std.specs.Option.{option_map}
use Rattle.std.specs.FinMap.{get}
use Rattle.spb_types.specs.declared.address.LspId.{LspId}
use Rattle.spb_types.specs.declared.ports.PortSet.{PortSet}
use Rattle.lsdb.specs.declared.version.Version.{Version}
use Rattle.lsdb.specs.declared.version.Version.TheVariants.{Absent, Live, Dead}
use Rattle.lsdb.specs.declared.version.Relation.{Relation}
use Rattle.lsdb.specs.Version.{number_of, relation}
use Rattle.lsdb.specs.Entry.{Entry, made, purged, aged_at}
use Rattle.lsdb.specs.Database.{Lsps, version_in, version_at}
use Rattle.lsdb.specs.Certificate.{Claim}
use Rattle.lsdb.proofs.LookupLemmas.{get-insert_same, get-changed_same, get-changed_other, same_or_not}
use Rattle.flooding.specs.declared.own.Own.{Own}
use Rattle.flooding.specs.Own.{last_number, own_number, body_for, body_in, renewed, dead_at, answered_by, answered}
use Rattle.flooding.specs.Hearing.{Holding, claim_of, lsp_rule, snp_rule, is_beyond, after_claim}
use Rattle.flooding.specs.Origination.{spent_entry, brought_up}
use Rattle.flooding.specs.Advancing.{Advanced, stays, advances, ends, AdvancesCompose, LspAdvances, EntryAdvances, OriginationAdvances, PurgeAdvances, SettlingAdvances, AgeingAdvances}
use Rattle.flooding.proofs.Heard.{Rule}
use Rattle.flooding.proofs.Claimed.{heard_of, lacks, entered, db_after, others_stand}
use Rattle.flooding.proofs.Owns.{system_mine}
use Rattle.flooding.proofs.Steps.{beyond_number}
use Rattle.flooding.proofs.HeardCurrent.{Same, LeavesHeld, lsp_leaves, snp_leaves}
use Rattle.flooding.proofs.Brought.{next_of, end_of, originated_keeps, purged_keeps, brought_keeps, next_leaves, next_stands}
use Rattle.flooding.proofs.Settled.{settling_keeps}

-- ---- one after another

pub advances_compose : AdvancesCompose
advances_compose old mid new (stays v b) (stays w c) = stays (w ∙ v) (c ∙ b)
advances_compose old mid new (stays v b) (advances more) = advances (omega (arith, more, ap number_of v))
advances_compose old mid new (stays v b) (ends seq is low) = ends seq is (omega (arith, low, ap number_of v))
advances_compose old mid new (advances more) (stays w c) = advances (omega (arith, more, ap number_of w))
advances_compose old mid new (advances more) (advances again) = advances (omega (arith, more, again))
advances_compose old mid new (advances more) (ends seq is low) = ends seq is (omega (arith, low, more))
advances_compose old mid new (ends seq is low) (stays w c) = ends seq (w ∙ is) low
advances_compose old mid new (ends seq is low) (advances more) = advances (omega (arith, more, low, ap number_of is))
advances_compose old mid new (ends seq is low) (ends next dead more) = ends next dead (omega (arith, low, more, ap number_of is))

-- ---- what stays

pub unchanged : (old new : Option Entry) → new ≡ old → Advanced old new
unchanged old new same = stays (ap version_in same) (ap body_in same)

left : (f : Entry → Entry) → Same f → (o : Option Entry) → Advanced o (option_map f o)
left f same None = stays refl refl
left f same (Some e) = let s = same e in stays s.0 s.1.0

-- ---- a claim

answer_by : (up : PortSet) (id : LspId) (seq : ℕ) (held : Option Entry) (body : List ℕ) (b : Bool) → number_of (version_in held) ≤ seq
    → Advanced held (Some (if b then renewed up id body (seq + 1) else dead_at up seq))
answer_by up id seq held body true low = advances (omega (arith, low))
answer_by up id seq held body false low = ends seq refl low

answer_advances : (up : PortSet) (id : LspId) (seq : ℕ) (held : Option Entry) (o : Option (List ℕ)) → number_of (version_in held) ≤ seq → Advanced held (Some (answered_by up id seq o))
answer_advances up id seq held None low = ends seq refl low
answer_advances up id seq held (Some body) low = answer_by up id seq held body (nat_lt seq last_number) low

put : (out : Bool) (db : Lsps) (id : LspId) (o : Option Entry) → Advanced (get db id) o → Advanced (get db id) (get (entered out db id o) id)
put true db id o new = stays refl refl
put false db id None new = stays refl refl
put false db id (Some e) new = subst (Advanced (get db id)) (sym (get-insert_same db id e)) new

-- by a rule that leaves version and body of what a claim isn't beyond
module _ (rule : Rule) (leaves : (r : Relation) → is_beyond r ≡ false → LeavesHeld rule r) (up : PortSet) where
  heard_advances : (own : Own) (id : LspId) (a : Version) (held : Option Entry) (b : Bool) → is_beyond (relation a (version_in held)) ≡ b
      → Advanced held (if b then Some (answered up own id (number_of a)) else rule (relation a (version_in held)) held)
  heard_advances own id a held true beyond = answer_advances up id (number_of a) held (body_for own id) (beyond_number a (version_in held) beyond)
  heard_advances own id a held false within =
      let rest = leaves (relation a (version_in held)) within in subst (Advanced held) (sym (rest.is held)) (left rest.change rest.same held)

  claimed_advances : (c : Claim) (h : Holding) → c.id.system ≡ h.own.system → Advanced (get h.db c.id) (get (after_claim rule up c h).db c.id)
  claimed_advances c h mine =
      let held = get h.db c.id in
      let r = relation c.version (version_in held) in
      let heard : Advanced held (heard_of rule up c h) =
      subst (λ (b : Bool). Advanced held (if b && is_beyond r then Some (answered up h.own c.id (number_of c.version)) else rule r held))
      (sym (system_mine h.own c.id mine)) (heard_advances h.own c.id c.version held (is_beyond r) refl) in
      subst (λ (db : Lsps). Advanced held (get db c.id)) (sym (db_after rule up c h)) (put (lacks rule up c h) h.db c.id (heard_of rule up c h) heard)

  claim_advances : (c : Claim) (h : Holding) (id : LspId) → id.system ≡ h.own.system → Advanced (get h.db id) (get (after_claim rule up c h).db id)
  claim_advances c h id mine =
      elim (same_or_not id c.id) [
        | inl here ↦
            subst (λ (x : LspId). Advanced (get h.db x) (get (after_claim rule up c h).db x)) (sym here)
            (claimed_advances c h (ap (λ (x : LspId). x.system) (sym here) ∙ mine))
        | inr apart ↦ unchanged (get h.db id) (get (after_claim rule up c h).db id) (others_stand rule up c h id apart)
      ]

pub lsp_advances : LspAdvances
lsp_advances up port l h id mine = claim_advances (lsp_rule up port l) (lsp_leaves up port l) up (claim_of l) h id mine

pub entry_advances : EntryAdvances
entry_advances up port c h id mine = claim_advances (snp_rule up port c.version) (snp_leaves up port c.version) up c h id mine

-- ---- a number brought up

next_by : (up : PortSet) (id : LspId) (body : List ℕ) (held : Option Entry) (b : Bool)
    → Advanced held (Some (if b then renewed up id body (number_of (version_in held) + 1) else spent_entry up (number_of (version_in held)) held))
next_by up id body held true = advances (omega arith)
next_by up id body held false = ends (number_of (version_in held)) refl (omega arith)

next_advances : (up : PortSet) (number : ℕ) (h : Holding) (id : LspId) (body : List ℕ) → Advanced (get h.db id) (get (next_of up number body h).db id)
next_advances up number h id body =
    let own = own_number h.own.system number in
    elim (same_or_not id own) [
      | inl here ↦
          subst (λ (x : LspId). Advanced (get h.db x) (get (next_of up number body h).db x)) (sym here)
          (subst (Advanced (get h.db own)) (sym (next_stands up number h body)) (next_by up own body (get h.db own) (nat_lt (number_of (version_at h.db own)) last_number)))
      | inr apart ↦ unchanged (get h.db id) (get (next_of up number body h).db id) (next_leaves up number h id apart body)
    ]

purged_by : (up : PortSet) (seq sum : ℕ) (o : Option Entry) → version_in o ≡ Live seq sum → Advanced o (option_map (purged seq up) o)
purged_by up seq sum None is = stays refl refl
purged_by up seq sum (Some e) is = ends seq refl (omega (arith, ap number_of is))

end_advances : (up : PortSet) (number seq sum : ℕ) (h : Holding) (id : LspId) → version_at h.db (own_number h.own.system number) ≡ Live seq sum
    → Advanced (get h.db id) (get (end_of up number seq h).db id)
end_advances up number seq sum h id live =
    let own = own_number h.own.system number in
    elim (same_or_not id own) [
      | inl here ↦
          subst (λ (x : LspId). Advanced (get h.db x) (get (end_of up number seq h).db x)) (sym here)
          (subst (Advanced (get h.db own)) (sym (get-changed_same (purged seq up) h.db own)) (purged_by up seq sum (get h.db own) live))
      | inr apart ↦ unchanged (get h.db id) (get (end_of up number seq h).db id) (get-changed_other (purged seq up) h.db own id apart)
    ]

pub origination_advances : OriginationAdvances
origination_advances up number h id =
    originated_keeps (λ g. Advanced (get h.db id) (get g.db id)) up number h (stays refl refl) (λ body fresh has. next_advances up number h id body)

pub purge_advances : PurgeAdvances
purge_advances up number h id =
    purged_keeps (λ g. Advanced (get h.db id) (get g.db id)) up number h (stays refl refl) (λ seq sum live. end_advances up number seq sum h id live)

brought_advances : (up : PortSet) (number : ℕ) (h : Holding) (id : LspId) → Advanced (get h.db id) (get (brought_up up number h).db id)
brought_advances up number h id =
    brought_keeps (λ g. Advanced (get h.db id) (get g.db id)) up number h (stays refl refl)
    (λ body fresh has. next_advances up number h id body) (λ seq sum live. end_advances up number seq sum h id live)

pub settling_advances : SettlingAdvances
settling_advances test up h id =
    settling_keeps (λ g. Advanced (get h.db id) (get g.db id)) test up h
    (λ number g below was. advances_compose (get h.db id) (get g.db id) (get (brought_up up number g).db id) was (brought_advances up number g id)) (stays refl refl)

-- ---- a second

dying : (up : PortSet) (e : Entry) (seq : ℕ) (b : Bool) → number_of e.version ≡ seq
    → Advanced (Some e) (Some (if b then made (Dead seq) 0 [] up e.ssn else record e { lifetime = e.lifetime - 1 }))
dying up e seq true is = ends seq refl (omega (arith, is))
dying up e seq false is = stays refl refl

aged_by : (up : PortSet) (e : Entry) (a : Version) → e.version ≡ a → Advanced (Some e) (Some (aged_at up e a))
aged_by up e Absent is = stays refl refl
aged_by up e (Live seq sum) is = dying up e seq (nat_le e.lifetime 1) (ap number_of is)
aged_by up e (Dead seq) is = stays refl refl

pub ageing_advances : AgeingAdvances
ageing_advances up e = aged_by up e e.version refl

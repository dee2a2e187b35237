-- What a frame that isn't a hello makes of an own LSP: it stays as it is, or stands one number further than a claim of it
-- at most. Nothing is originated behind it.
use Rattle.std.proofs.Common.{◌≡◌, inl, inr, ◌≤◌, ◌<◌, ◌+◌, ℕ, Bool, true, false, List, [], ◌∷◌, refl, sym, ap, ◌∙◌, subst, Option, Some, None, arith}
use Rattle.std.specs.Prelude.{◌&&◌, not, is_some, nat_lt, if◌then◌else◌}
use Rattle.std.specs.List.{AllByRecursion}
use Rattle.std.specs.FinMap.{get}
use Rattle.std.proofs.lemmas.Bool.{true≢false}
use Rattle.spb_types.specs.declared.address.LspId.{LspId}
use Rattle.spb_types.specs.declared.ports.PortSet.{PortSet}
use Rattle.lsdb.specs.declared.version.Version.{Version}
use Rattle.lsdb.specs.Version.{number_of, leq, relation, IsAtMost}
use Rattle.lsdb.specs.Entry.{Entry}
use Rattle.lsdb.specs.Database.{version_in}
use Rattle.lsdb.specs.Certificate.{Claim, IsClaimed}
use Rattle.lsdb.proofs.LookupLemmas.{same_or_not}
use Rattle.lsdb.proofs.Order.{not_at_most, through}
use Rattle.flooding.specs.declared.own.Own.{Own}
use Rattle.flooding.specs.Own.{last_number, body_for, renewed, dead_at, answered_by, answered}
use Rattle.flooding.specs.Hearing.{Holding, claim_of, lsp_rule, snp_rule, is_beyond, after_claim, is_full, hear_lsp_of, hear_entry_of}
use Rattle.flooding.proofs.Heard.{Rule}
use Rattle.flooding.proofs.Claimed.{SaysOfHeld, lsp_rule_says, snp_rule_says, others_stand, heard_stands, full_stands}
use Rattle.flooding.proofs.Owns.{own_stands, own_is_not_spent, system_mine}
use Rattle.flooding.proofs.Steps.{beyond_is, answering}
use Rattle.snp_sync.specs.Hearing.{claims_in, hear_entries_of, hear_csnp_of}
use Rattle.snp_sync.proofs.Stays.{entries_dont_spend}
use Rattle.bridge_api.specs.declared.drops.Drops.{Drops}
use Rattle.bridge_api.specs.View.{BridgeView, up_ports, with_drops}
use Rattle.bridge_api.specs.Own.{own_of, holding_of, with_holding, originated_if_changed}
use Rattle.bridge_api.specs.Parsing.{Parsed, parsed, hello_in, is_hello}
use Rattle.bridge_api.specs.Parsing as parsing
use Rattle.bridge_api.specs.Hearing.{heard_lsp, heard_csnp, heard_psnp}
use Rattle.bridge_api.specs.Step.{second, frame, carrier, metric, attach, detach, customer, step}
use Rattle.bridge_api.specs.Laws.{IsSoundView, claims_said, claims_or_none}
use Rattle.bridge_laws.specs.Counting.{IsFar, Answered, keeps, answers, StepsAnswer}
use Rattle.bridge_api.proofs.Changes.{FrameStep, idle, by_hello, by_lsp, by_csnp, by_psnp, frame_step}
use Rattle.bridge_laws.proofs.Learning.{IsSameLsp, same_lsp, same_again, LeavesWithin, lsp_rule_leaves, snp_rule_leaves, missed_same, first_claim}
use Rattle.bridge_api.proofs.OwnLspSteps.{lsp_settles_nothing, csnp_settles_nothing, psnp_settles_nothing}

-- ---- a claim of an own id

-- version and body stand, or a claim that was not at most what was held is answered: the LSP stands one number further
-- than the claim at most, above what was held
pub data AnsweredAs (claims : List Claim) (id : LspId) (old new : Option Entry) : Type 0 where
  still : IsSameLsp old new → AnsweredAs claims id old new
  next : (a : Version) → IsClaimed claims id a → leq a (version_in old) ≡ false → IsAtMost (version_in old) (version_in new)
      → number_of (version_in new) ≤ number_of a + 1 → AnsweredAs claims id old new

answer_by : (up : PortSet) (id : LspId) (seq : ℕ) (body : List ℕ) (b : Bool) → number_of (if b then renewed up id body (seq + 1) else dead_at up seq).version ≤ seq + 1
answer_by up id seq body true = omega arith
answer_by up id seq body false = omega arith

answer_number : (up : PortSet) (id : LspId) (seq : ℕ) (body : Option (List ℕ)) → number_of (answered_by up id seq body).version ≤ seq + 1
answer_number up id seq None = omega arith
answer_number up id seq (Some body) = answer_by up id seq body (nat_lt seq last_number)

own_heard_by : (rule : Rule) (up : PortSet) (own : Own) (c : Claim) (held : Option Entry) (b : Bool) → LeavesWithin rule
    → is_beyond (relation c.version (version_in held)) ≡ b
    → AnsweredAs (c ∷ []) c.id held (if b then Some (answered up own c.id (number_of c.version)) else rule (relation c.version (version_in held)) held)
own_heard_by rule up own c held true leaves beyond =
    next c.version (inl (refl, refl)) (beyond_is c.version (version_in held) (relation c.version (version_in held)) refl beyond)
    (answering up 0 (c ∷ []) own c.id c.version held beyond).rises (answer_number up c.id (number_of c.version) (body_for own c.id))
own_heard_by rule up own c held false leaves within = still (leaves (relation c.version (version_in held)) held within)

own_claimed_by : (rule : Rule) (up : PortSet) (c : Claim) (h : Holding) (full : Bool) → LeavesWithin rule → SaysOfHeld rule → is_full rule up c h ≡ full
    → c.id.system ≡ h.own.system → AnsweredAs (c ∷ []) c.id (get h.db c.id) (get (after_claim rule up c h).db c.id)
own_claimed_by rule up c h true leaves says full mine = still (same_lsp _ _ (ap (λ (g : Holding). get g.db c.id) (full_stands rule up c h full)))
own_claimed_by rule up c h false leaves says there mine =
    let held = get h.db c.id in
    let r = relation c.version (version_in held) in
    let stands : get (after_claim rule up c h).db c.id ≡ (if is_beyond r then Some (answered up h.own c.id (number_of c.version)) else rule r held) =
    heard_stands rule says up c h there ∙ ap (λ b. if b && is_beyond r then Some (answered up h.own c.id (number_of c.version)) else rule r held) (system_mine h.own c.id mine) in
    subst (AnsweredAs (c ∷ []) c.id held) (sym stands) (own_heard_by rule up h.own c held (is_beyond r) leaves refl)

own_claimed : (rule : Rule) (up : PortSet) (c : Claim) (h : Holding) (id : LspId) → LeavesWithin rule → SaysOfHeld rule → id.system ≡ h.own.system
    → AnsweredAs (c ∷ []) id (get h.db id) (get (after_claim rule up c h).db id)
own_claimed rule up c h id leaves says mine =
    elim (same_or_not id c.id) [
      | inl here ↦
          subst (λ (x : LspId). AnsweredAs (c ∷ []) x (get h.db x) (get (after_claim rule up c h).db x)) (sym here)
          (own_claimed_by rule up c h (is_full rule up c h) leaves says refl (ap (λ (x : LspId). x.system) (sym here) ∙ mine))
      | inr other ↦ still (same_lsp _ _ (others_stand rule up c h id other))
    ]

-- ---- one after another

abbrev pub AreLow : List Claim → Type 0
AreLow claims = AllByRecursion (λ (c : Claim). number_of c.version < last_number) claims

-- what isn't at most a later version isn't at most an earlier one
not_below : (a o m : Version) → leq a m ≡ false → IsAtMost o m → leq a o ≡ false
not_below a o m above rises = by (leq a o) refl
  where
    by : (b : Bool) → leq a o ≡ b → leq a o ≡ false
    by true is = absurd (true≢false (sym (through a o m is rises) ∙ above))
    by false is = is

-- a claim that is answered after another was is beyond what was held first
then_answered : (c : Claim) (claims : List Claim) (id : LspId) (o m n : Option Entry) → AnsweredAs (c ∷ []) id o m → AnsweredAs claims id m n → AnsweredAs (c ∷ claims) id o n
then_answered c claims id o m n (still first) (still after) = still (same_again o m n first after)
then_answered c claims id o m n (still first) (next a claimed above rises few) =
    next a (inr claimed) (ap (leq a) (sym first.version) ∙ above) (subst (λ (v : Version). IsAtMost v (version_in n)) first.version rises) few
then_answered c claims id o m n (next a claimed above rises few) (still after) =
    next a (first_claim c claims id a claimed) above (subst (IsAtMost (version_in o)) (sym after.version) rises) (omega (arith, ap number_of after.version, few))
then_answered c claims id o m n (next a claimed above rises few) (next b later beyond further most) =
    next b (inr later) (not_below b (version_in o) (version_in m) beyond rises) (through (version_in o) (version_in m) (version_in n) rises further) most

entries_answered : (up : PortSet) (port : ℕ) (claims : List Claim) (h : Holding) (id : LspId) → id.system ≡ h.own.system
    → AnsweredAs claims id (get h.db id) (get (hear_entries_of up port claims h).db id)
entries_answered up port [] h id mine = still (same_lsp _ _ refl)
entries_answered up port (c ∷ claims) h id mine =
    let rule = snp_rule up port c.version in
    let g : Holding = hear_entry_of up port c h in
    then_answered c claims id (get h.db id) (get g.db id) (get (hear_entries_of up port claims g).db id)
    (own_claimed rule up c h id (snp_rule_leaves up port c.version) (snp_rule_says up port c.version) mine)
    (entries_answered up port claims g id (mine ∙ sym (own_stands rule up c h).0))

-- ---- a frame

-- what claims make of an LSP of the own system of a bridge that isn't spent, nor is afterwards
pub record Answers (v : BridgeView) (id : LspId) (claims : List Claim) (w : BridgeView) : Type 0 where
  pub own : AnsweredAs claims id (get v.database id) (get w.database id)
  pub fresh : w.spent ≡ false

all_low : (claims : List Claim) → ((id : LspId) (a : Version) → IsClaimed claims id a → number_of a < last_number) → AreLow claims
all_low [] low = tt
all_low (c ∷ claims) low = (low c.id c.version (inl (refl, refl)), all_low claims (λ id a claimed. low id a (inr claimed)))

-- a bridge that heard, of which the holding is what the claims make of it: nothing is originated behind it
answers_heard : (v : BridgeView) (id : LspId) (claims : List Claim) (h : Holding) (drops : Drops) → originated_if_changed (with_drops drops (with_holding h v)) ≡ with_drops drops (with_holding h v) → v.spent ≡ false
    → AnsweredAs claims id (get v.database id) (get h.db id) → h.own ≡ own_of v → Answers v id claims (originated_if_changed (with_drops drops (with_holding h v)))
answers_heard v id claims h drops settles fresh own same = subst (Answers v id claims) (sym settles) (record { own = own; fresh = ap (λ (o : Own). o.spent) same ∙ fresh })

module _ (q : ℕ) (bytes : List ℕ) (v : BridgeView) (id : LspId) (mine : id.system ≡ v.id.system) (was : IsSoundView v) (far : IsFar (frame q bytes) v) (other : is_hello bytes ≡ false) where
  answers_as : (j : Parsed) (w : BridgeView) → parsed bytes ≡ j → step (frame q bytes) v ≡ w → Answers v id (claims_said j) w → Answers v id (claims_said (parsed bytes)) (step (frame q bytes) v)
  answers_as j w is after all = subst (λ (i : Parsed). Answers v id (claims_said i) (step (frame q bytes) v)) (sym is) (subst (Answers v id (claims_said j)) (sym after) all)

  low_as : (j : Parsed) → parsed bytes ≡ j → AreLow (claims_said j)
  low_as j is = subst (λ (i : Parsed). AreLow (claims_said i)) is (all_low (claims_said (parsed bytes)) far.claims)

  frame_answers : FrameStep v q bytes (step (frame q bytes) v) → Answers v id (claims_said (parsed bytes)) (step (frame q bytes) v)
  frame_answers (idle learned how e) = record {
    own = still (same_lsp _ _ (ap (λ (w : BridgeView). get w.database id) e));
    fresh = ap (λ (w : BridgeView). w.spent) e ∙ far.fresh;
  }
  frame_answers (by_hello g) = let wrong : true ≡ false = ap (λ (j : Parsed). is_some (hello_in j)) (sym g.is) ∙ other in absurd (true≢false wrong)
  frame_answers (by_lsp g) =
      let up : PortSet = up_ports v in
      let h : Holding = holding_of v in
      let low : AreLow (claim_of g.lsp ∷ []) = low_as (parsing.lsp g.lsp) g.is in
      answers_as (parsing.lsp g.lsp) (originated_if_changed (heard_lsp g.lsp q v)) g.is g.after
      (answers_heard v id (claim_of g.lsp ∷ []) (hear_lsp_of up q g.lsp h) (heard_lsp g.lsp q v).drops (lsp_settles_nothing v g.lsp q was) far.fresh
      (own_claimed (lsp_rule up q g.lsp) up (claim_of g.lsp) h id (lsp_rule_leaves up q g.lsp) (lsp_rule_says up q g.lsp) mine)
      (own_is_not_spent (lsp_rule up q g.lsp) up (claim_of g.lsp) h low.0))
  frame_answers (by_csnp g) =
      let up : PortSet = up_ports v in
      let h : Holding = holding_of v in
      let claims : List Claim = claims_in g.entries in
      let low : AreLow claims = subst (λ es. AreLow (claims_or_none es)) g.read (low_as (parsing.csnp g.csnp) g.is) in
      let own : AnsweredAs claims id (get v.database id) (get (hear_csnp_of up q g.csnp.start g.csnp.end claims h).db id) =
      missed_answered claims (get v.database id) (get (hear_entries_of up q claims h).db id) (get (hear_csnp_of up q g.csnp.start g.csnp.end claims h).db id)
      (entries_answered up q claims h id mine) (missed_same up q g.csnp.start g.csnp.end claims h id) in
      answers_as (parsing.csnp g.csnp) (originated_if_changed (heard_csnp g.csnp g.entries q v)) g.is g.after
      (subst (λ es. Answers v id (claims_or_none es) (originated_if_changed (heard_csnp g.csnp g.entries q v))) (sym g.read)
      (answers_heard v id claims (hear_csnp_of up q g.csnp.start g.csnp.end claims h) (heard_csnp g.csnp g.entries q v).drops (csnp_settles_nothing v g.csnp g.entries q was) far.fresh own (entries_dont_spend up q claims h low)))
    where
      missed_answered : (claims : List Claim) (o m n : Option Entry) → AnsweredAs claims id o m → IsSameLsp m n → AnsweredAs claims id o n
      missed_answered claims o m n (still first) same = still (same_again o m n first same)
      missed_answered claims o m n (next a claimed above rises few) same =
          next a claimed above (subst (IsAtMost (version_in o)) (sym same.version) rises) (omega (arith, ap number_of same.version, few))
  frame_answers (by_psnp g) =
      let up : PortSet = up_ports v in
      let h : Holding = holding_of v in
      let claims : List Claim = claims_in g.entries in
      let low : AreLow claims = subst (λ es. AreLow (claims_or_none es)) g.read (low_as (parsing.psnp g.psnp) g.is) in
      answers_as (parsing.psnp g.psnp) (originated_if_changed (heard_psnp g.entries q v)) g.is g.after
      (subst (λ es. Answers v id (claims_or_none es) (originated_if_changed (heard_psnp g.entries q v))) (sym g.read)
      (answers_heard v id claims (hear_entries_of up q claims h) (heard_psnp g.entries q v).drops (psnp_settles_nothing v g.entries q was) far.fresh (entries_answered up q claims h id mine) (entries_dont_spend up q claims h low)))

  pub frame_answered : Answers v id (claims_said (parsed bytes)) (step (frame q bytes) v)
  frame_answered = frame_answers (frame_step v q bytes)

-- ---- the law

answered_version : (claims : List Claim) (id : LspId) (o n : Option Entry) → AnsweredAs claims id o n → Answered (version_in o) claims id (version_in n)
answered_version claims id o n (still same) = keeps same.version
answered_version claims id o n (next a claimed above rises few) = let apart = not_at_most a (version_in o) above in answers a claimed apart.1 apart.0 few

pub no_hello : (b : Bool) → not b ≡ true → b ≡ false
no_hello true is = sym is
no_hello false is = refl

pub steps_answer : StepsAnswer
steps_answer second v id own was far claiming = absurd cc
steps_answer (frame q bytes) v id own was far claiming =
    let mine : id.system ≡ v.id.system = ap (λ (x : LspId). x.system) own.is in
    answered_version (claims_said (parsed bytes)) id (get v.database id) (get (step (frame q bytes) v).database id)
    (frame_answered q bytes v id mine was far (no_hello (is_hello bytes) claiming)).own
steps_answer (carrier q on) v id own was far claiming = absurd cc
steps_answer (metric q m) v id own was far claiming = absurd cc
steps_answer (attach a) v id own was far claiming = absurd cc
steps_answer (detach p) v id own was far claiming = absurd cc
steps_answer (customer p bytes) v id own was far claiming = absurd cc

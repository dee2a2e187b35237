-- What one claim leaves of the flags at a port, where the version under its id stays.
use Rattle.std.proofs.Common.{◌≡◌, ◌≢◌, inl, inr, ◌≤◌, ◌+◌, ℕ, Bool, true, false, List, refl, sym, ap, ◌∙◌, subst, Option, Some, None, arith}
use Rattle.std.specs.Prelude.{◌&&◌, nat_lt, if◌then◌else◌}
use Rattle.std.specs.Option.{option_map}
use Rattle.std.specs.FinMap.{get}
use Rattle.std.proofs.lemmas.Bool.{true≢false}
use Rattle.spb_types.specs.declared.address.LspId.{LspId}
use Rattle.spb_types.specs.declared.ports.PortSet.{PortSet}
use Rattle.spb_types.specs.Address.{same_system}
use Rattle.spb_types.specs.Ports.{has, no_ports}
use Rattle.spb_types.proofs.PortLemmas.{has-with_same, has-with_other, has-without_same, has-without_other}
use Rattle.isis_pdu.specs.Pdu.{LspValue}
use Rattle.lsdb.specs.declared.version.Version.{Version}
use Rattle.lsdb.specs.declared.version.Version.TheVariants.{Absent, Live, Dead}
use Rattle.lsdb.specs.declared.version.Relation.{Relation}
use Rattle.lsdb.specs.declared.version.Relation.TheVariants.{Older, Equal, Newer, Confused}
use Rattle.lsdb.specs.Version.{number_of, is_absent, IsAtMost, relation}
use Rattle.lsdb.specs.Entry.{Entry, acked, cleared, offered}
use Rattle.lsdb.specs.Database.{version_in, srm_in, ssn_in, version_at}
use Rattle.lsdb.specs.Certificate.{Claim}
use Rattle.lsdb.proofs.Order.{greater, newer_is, confused_is, equal_is_same}
use Rattle.lsdb.proofs.LookupLemmas.{same_or_not}
use Rattle.flooding.specs.declared.own.Own.{Own}
use Rattle.flooding.specs.Own.{last_number, body_for, renewed, dead_at, answered_by, answered}
use Rattle.flooding.specs.Hearing.{Holding, claim_of, unless_absent, lsp_rule, wanted, snp_rule, is_beyond, is_answered, hear_lsp_of, is_full_for_lsp, hear_entry_of, is_full_for_entry}
use Rattle.flooding.proofs.AtMostHeld.{heard_is_at_most_held}
use Rattle.flooding.proofs.Claimed.{others_stand, lsp_stands, entry_stands, full_stands}
use Rattle.flooding.proofs.Steps.{at_most_dead}

-- ---- an entry changed

-- the flags at a port are as they were
pub record AreSame (p : ℕ) (o n : Option Entry) : Type 0 where
  pub srm : has (srm_in n) p ≡ has (srm_in o) p
  pub ssn : has (ssn_in n) p ≡ has (ssn_in o) p

pub unchanged : (p : ℕ) (o n : Option Entry) → n ≡ o → AreSame p o n
unchanged p o n e = record { srm = ap (λ (x : Option Entry). has (srm_in x) p) e; ssn = ap (λ (x : Option Entry). has (ssn_in x) p) e }

pub then_same : (p : ℕ) (o m n : Option Entry) → AreSame p o m → AreSame p m n → AreSame p o n
then_same p o m n first next = record { srm = next.srm ∙ first.srm; ssn = next.ssn ∙ first.ssn }

-- an entry that is changed unless it is absent, and one that may be there
spared : (p : ℕ) (f : Entry → Entry) (e : Entry) (b : Bool) → AreSame p (Some e) (Some (f e)) → AreSame p (Some e) (Some (if b then e else f e))
spared p f e true same = record { srm = refl; ssn = refl }
spared p f e false same = same

pub mapped : (p : ℕ) (f : Entry → Entry) (o : Option Entry) → ((e : Entry) → AreSame p (Some e) (Some (f e))) → AreSame p o (option_map f o)
mapped p f None same = record { srm = refl; ssn = refl }
mapped p f (Some e) same = same e

module _ (q p : ℕ) (low : 1 ≤ q) (high : q ≤ 32) (apart : p ≢ q) where
  acked_beside : (e : Entry) → AreSame p (Some e) (Some (acked q e))
  acked_beside e = record { srm = has-without_other e.srm q p low high apart; ssn = has-with_other e.ssn q p low high apart }

  cleared_beside : (e : Entry) → AreSame p (Some e) (Some (cleared q e))
  cleared_beside e = record { srm = has-without_other e.srm q p low high apart; ssn = refl }

  offered_beside : (e : Entry) → AreSame p (Some e) (Some (offered q e))
  offered_beside e = record { srm = has-with_other e.srm q p low high apart; ssn = has-without_other e.ssn q p low high apart }

  wanted_beside : (o : Option Entry) → AreSame p o (Some (wanted q o))
  wanted_beside None = record { srm = refl; ssn = has-with_other no_ports q p low high apart }
  wanted_beside (Some e) = acked_beside e

  -- what is neither newer nor confused, at another port
  lsp_rule_beside : (up : PortSet) (l : LspValue) (r : Relation) (held : Option Entry) → is_beyond r ≡ false → AreSame p held (lsp_rule up q l r held)
  lsp_rule_beside up l Older held within = mapped p (offered q) held offered_beside
  lsp_rule_beside up l Equal held within = mapped p (unless_absent (acked q)) held (λ e. spared p (acked q) e (is_absent e.version) (acked_beside e))
  lsp_rule_beside up l Newer held within = absurd (true≢false within)
  lsp_rule_beside up l Confused held within = absurd (true≢false within)

  snp_rule_beside : (up : PortSet) (a : Version) (r : Relation) (held : Option Entry) → r ≢ Confused → AreSame p held (snp_rule up q a r held)
  snp_rule_beside up a Older held agreed = mapped p (offered q) held offered_beside
  snp_rule_beside up a Equal held agreed = mapped p (unless_absent (cleared q)) held (λ e. spared p (cleared q) e (is_absent e.version) (cleared_beside e))
  snp_rule_beside up a Newer held agreed = wanted_beside held
  snp_rule_beside up a Confused held agreed = absurd (agreed refl)

-- ---- a claim is within what is held

-- a claim that is at most what is held isn't beyond it
pub within_by : (a h : Version) (r : Relation) → relation a h ≡ r → IsAtMost a h → is_beyond r ≡ false
within_by a h Older is below = refl
within_by a h Equal is below = refl
within_by a h Newer is below = absurd (true≢false (sym below ∙ (newer_is a h is).0))
within_by a h Confused is below = absurd (true≢false (sym below ∙ (confused_is a h is).0))

and_no : (a b : Bool) → b ≡ false → (a && b) ≡ false
and_no true b none = none
and_no false b none = refl

-- and so isn't answered
pub unanswered : (own : Own) (id : LspId) (r : Relation) → is_beyond r ≡ false → is_answered own id r ≡ false
unanswered own id r within = and_no (same_system id.system own.system) (is_beyond r) within

-- what is answered is at most the answer
next_or_dead : (up : PortSet) (id : LspId) (a : Version) (body : List ℕ) (b : Bool) → IsAtMost a (if b then renewed up id body (number_of a + 1) else dead_at up (number_of a)).version
next_or_dead up id a body true = greater a (renewed up id body (number_of a + 1)).version (omega arith)
next_or_dead up id a body false = at_most_dead a (number_of a) (omega arith)

at_most_answer : (up : PortSet) (id : LspId) (a : Version) (o : Option (List ℕ)) → IsAtMost a (answered_by up id (number_of a) o).version
at_most_answer up id a None = at_most_dead a (number_of a) (omega arith)
at_most_answer up id a (Some body) = next_or_dead up id a body (nat_lt (number_of a) last_number)

-- where the version stays, neither confused ones met nor was anything answered
snp_agrees : (up : PortSet) (q : ℕ) (own : Own) (id : LspId) (a : Version) (held : Option Entry) (r : Relation) (b : Bool) → relation a (version_in held) ≡ r → is_answered own id r ≡ b
    → version_in (if b then Some (answered up own id (number_of a)) else snp_rule up q a r held) ≡ version_in held → (b ≡ false) × (r ≢ Confused)
snp_agrees up q own id a held r true is answers stays =
    let within : is_beyond r ≡ false = within_by a (version_in held) r is (subst (IsAtMost a) stays (at_most_answer up id a (body_for own id))) in
    absurd (true≢false (sym answers ∙ unanswered own id r within))
snp_agrees up q own id a held Older false is answers stays = (refl, λ e. cc)
snp_agrees up q own id a held Equal false is answers stays = (refl, λ e. cc)
snp_agrees up q own id a held Newer false is answers stays = (refl, λ e. cc)
snp_agrees up q own id a held Confused false is answers stays =
    absurd (true≢false (sym (subst (IsAtMost a) stays (at_most_dead a (number_of a) (omega arith))) ∙ (confused_is a (version_in held) is).0))

-- ---- heard at another port

module _ (up : PortSet) (q p : ℕ) (low : 1 ≤ q) (high : q ≤ 32) (apart : p ≢ q) where
  lsp_by : (l : LspValue) (own : Own) (held : Option Entry) (r : Relation) (b : Bool) → is_beyond r ≡ false → is_answered own l.id r ≡ b
      → AreSame p held (if b then Some (answered up own l.id (number_of (claim_of l).version)) else lsp_rule up q l r held)
  lsp_by l own held r true within answers = absurd (true≢false (sym answers ∙ unanswered own l.id r within))
  lsp_by l own held r false within answers = lsp_rule_beside q p low high apart up l r held within

  lsp_full : (l : LspValue) (h : Holding) (b : Bool) → is_full_for_lsp up q l h ≡ b → version_at (hear_lsp_of up q l h).db l.id ≡ version_at h.db l.id → AreSame p (get h.db l.id) (get (hear_lsp_of up q l h).db l.id)
  lsp_full l h true full stays = unchanged p (get h.db l.id) (get (hear_lsp_of up q l h).db l.id) (ap (λ (g : Holding). get g.db l.id) (full_stands (lsp_rule up q l) up (claim_of l) h full))
  lsp_full l h false there stays =
      let a : Version = (claim_of l).version in
      let r : Relation = relation a (version_in (get h.db l.id)) in
      let within : is_beyond r ≡ false = within_by a (version_in (get h.db l.id)) r refl (subst (IsAtMost a) stays (heard_is_at_most_held up q l h there)) in
      subst (AreSame p (get h.db l.id)) (sym (lsp_stands up q l h there)) (lsp_by l h.own (get h.db l.id) r (is_answered h.own l.id r) within refl)

  pub lsp_beside : (l : LspValue) (h : Holding) (x : LspId) → version_at (hear_lsp_of up q l h).db x ≡ version_at h.db x → AreSame p (get h.db x) (get (hear_lsp_of up q l h).db x)
  lsp_beside l h x stays =
      elim (same_or_not x l.id) [
        | inl here ↦
            subst (λ (y : LspId). AreSame p (get h.db y) (get (hear_lsp_of up q l h).db y)) (sym here)
            (lsp_full l h (is_full_for_lsp up q l h) refl (subst (λ (y : LspId). version_at (hear_lsp_of up q l h).db y ≡ version_at h.db y) here stays))
        | inr other ↦ unchanged p (get h.db x) (get (hear_lsp_of up q l h).db x) (others_stand (lsp_rule up q l) up (claim_of l) h x other)
      ]

  entry_by : (own : Own) (id : LspId) (a : Version) (held : Option Entry) (r : Relation) (b : Bool) → (b ≡ false) × (r ≢ Confused)
      → AreSame p held (if b then Some (answered up own id (number_of a)) else snp_rule up q a r held)
  entry_by own id a held r true agrees = absurd (true≢false agrees.0)
  entry_by own id a held r false agrees = snp_rule_beside q p low high apart up a r held agrees.1

  entry_full : (c : Claim) (h : Holding) (b : Bool) → is_full_for_entry up q c h ≡ b → version_at (hear_entry_of up q c h).db c.id ≡ version_at h.db c.id → AreSame p (get h.db c.id) (get (hear_entry_of up q c h).db c.id)
  entry_full c h true full stays = unchanged p (get h.db c.id) (get (hear_entry_of up q c h).db c.id) (ap (λ (g : Holding). get g.db c.id) (full_stands (snp_rule up q c.version) up c h full))
  entry_full c h false there stays =
      let held : Option Entry = get h.db c.id in
      let r : Relation = relation c.version (version_in held) in
      let is = entry_stands up q c h there in
      subst (AreSame p held) (sym is)
      (entry_by h.own c.id c.version held r (is_answered h.own c.id r) (snp_agrees up q h.own c.id c.version held r (is_answered h.own c.id r) refl refl (sym (ap version_in is) ∙ stays)))

  pub entry_beside : (c : Claim) (h : Holding) (x : LspId) → version_at (hear_entry_of up q c h).db x ≡ version_at h.db x → AreSame p (get h.db x) (get (hear_entry_of up q c h).db x)
  entry_beside c h x stays =
      elim (same_or_not x c.id) [
        | inl here ↦
            subst (λ (y : LspId). AreSame p (get h.db y) (get (hear_entry_of up q c h).db y)) (sym here)
            (entry_full c h (is_full_for_entry up q c h) refl (subst (λ (y : LspId). version_at (hear_entry_of up q c h).db y ≡ version_at h.db y) here stays))
        | inr other ↦ unchanged p (get h.db x) (get (hear_entry_of up q c h).db x) (others_stand (snp_rule up q c.version) up c h x other)
      ]

-- ---- the version that is held, heard at the port itself

-- an LSP of it: the neighbour has it, and gets an acknowledgement
pub record IsAckedAt (p : ℕ) (o n : Option Entry) : Type 0 where
  pub srm_stays : has (srm_in o) p ≡ false → has (srm_in n) p ≡ false
  pub ssn_stays : has (ssn_in o) p ≡ true → has (ssn_in n) p ≡ true
  pub srm : version_in o ≢ Absent → has (srm_in n) p ≡ false
  pub ssn : version_in o ≢ Absent → has (ssn_in n) p ≡ true

-- an entry of it: the neighbour has it
pub record IsClearedAt (p : ℕ) (o n : Option Entry) : Type 0 where
  pub srm_stays : has (srm_in o) p ≡ false → has (srm_in n) p ≡ false
  pub srm : version_in o ≢ Absent → has (srm_in n) p ≡ false
  pub ssn : has (ssn_in n) p ≡ has (ssn_in o) p

module _ (p : ℕ) (low : 1 ≤ p) (high : p ≤ 32) where
  acked_unless : (e : Entry) (a : Version) → e.version ≡ a → IsAckedAt p (Some e) (Some (if is_absent a then e else acked p e))
  acked_unless e Absent is = record { srm_stays = λ off. off; ssn_stays = λ on. on; srm = λ some. absurd (some is); ssn = λ some. absurd (some is) }
  acked_unless e (Live n s) is = record { srm_stays = λ off. has-without_same e.srm p low high; ssn_stays = λ on. has-with_same e.ssn p low high; srm = λ some. has-without_same e.srm p low high; ssn = λ some. has-with_same e.ssn p low high }
  acked_unless e (Dead n) is = record { srm_stays = λ off. has-without_same e.srm p low high; ssn_stays = λ on. has-with_same e.ssn p low high; srm = λ some. has-without_same e.srm p low high; ssn = λ some. has-with_same e.ssn p low high }

  pub acked_in : (o : Option Entry) → IsAckedAt p o (option_map (unless_absent (acked p)) o)
  acked_in None = record { srm_stays = λ off. off; ssn_stays = λ on. on; srm = λ some. absurd (some refl); ssn = λ some. absurd (some refl) }
  acked_in (Some e) = acked_unless e e.version refl

  cleared_unless : (e : Entry) (a : Version) → e.version ≡ a → IsClearedAt p (Some e) (Some (if is_absent a then e else cleared p e))
  cleared_unless e Absent is = record { srm_stays = λ off. off; srm = λ some. absurd (some is); ssn = refl }
  cleared_unless e (Live n s) is = record { srm_stays = λ off. has-without_same e.srm p low high; srm = λ some. has-without_same e.srm p low high; ssn = refl }
  cleared_unless e (Dead n) is = record { srm_stays = λ off. has-without_same e.srm p low high; srm = λ some. has-without_same e.srm p low high; ssn = refl }

  cleared_in : (o : Option Entry) → IsClearedAt p o (option_map (unless_absent (cleared p)) o)
  cleared_in None = record { srm_stays = λ off. off; srm = λ some. absurd (some refl); ssn = refl }
  cleared_in (Some e) = cleared_unless e e.version refl

  module _ (up : PortSet) where
    lsp_equal_by : (l : LspValue) (own : Own) (held : Option Entry) (r : Relation) (b : Bool) → r ≡ Equal → is_answered own l.id r ≡ b
        → IsAckedAt p held (if b then Some (answered up own l.id (number_of (claim_of l).version)) else lsp_rule up p l r held)
    lsp_equal_by l own held r true is answers = absurd (true≢false (sym answers ∙ unanswered own l.id r (ap is_beyond is)))
    lsp_equal_by l own held r false is answers = subst (λ (s : Relation). IsAckedAt p held (lsp_rule up p l s held)) (sym is) (acked_in held)

    -- where it is held and has a place
    pub lsp_equal : (l : LspValue) (h : Holding) → is_full_for_lsp up p l h ≡ false → (claim_of l).version ≡ version_at h.db l.id → IsAckedAt p (get h.db l.id) (get (hear_lsp_of up p l h).db l.id)
    lsp_equal l h there same =
        let a : Version = (claim_of l).version in
        let r : Relation = relation a (version_in (get h.db l.id)) in
        subst (IsAckedAt p (get h.db l.id)) (sym (lsp_stands up p l h there)) (lsp_equal_by l h.own (get h.db l.id) r (is_answered h.own l.id r) ((equal_is_same a (version_in (get h.db l.id))).1 same) refl)

    entry_equal_by : (own : Own) (id : LspId) (a : Version) (held : Option Entry) (r : Relation) (b : Bool) → r ≡ Equal → is_answered own id r ≡ b
        → IsClearedAt p held (if b then Some (answered up own id (number_of a)) else snp_rule up p a r held)
    entry_equal_by own id a held r true is answers = absurd (true≢false (sym answers ∙ unanswered own id r (ap is_beyond is)))
    entry_equal_by own id a held r false is answers = subst (λ (s : Relation). IsClearedAt p held (snp_rule up p a s held)) (sym is) (cleared_in held)

    pub entry_equal : (c : Claim) (h : Holding) → is_full_for_entry up p c h ≡ false → c.version ≡ version_at h.db c.id → IsClearedAt p (get h.db c.id) (get (hear_entry_of up p c h).db c.id)
    entry_equal c h there same =
        let r : Relation = relation c.version (version_in (get h.db c.id)) in
        subst (IsClearedAt p (get h.db c.id)) (sym (entry_stands up p c h there)) (entry_equal_by h.own c.id c.version (get h.db c.id) r (is_answered h.own c.id r) ((equal_is_same c.version (version_in (get h.db c.id))).1 same) refl)

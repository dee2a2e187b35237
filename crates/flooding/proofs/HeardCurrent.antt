-- Whatever is heard, the own LSPs of a system that isn't spent stay current.
use Rattle.std.specs.Prelude.{◌≡◌, ℕ, ◌+◌, ◌<◌, List, Bool, true, false, ◌&&◌, not, slice_get, Option, Some, None, is_some, nat_lt, if◌then◌else◌}
use Rattle.std.proofs.Common.{refl, sym, ap, subst, ◌∙◌, inl, inr, arith}
use Rattle.std.proofs.lemmas.Bool.{true≢false}
use Rattle.std.specs.Option.{option_map, option_and_then}
use Rattle.std.specs.FinMap.{get}
use Rattle.spb_types.specs.declared.address.SystemId.{SystemId}
use Rattle.spb_types.specs.declared.address.LspId.{LspId}
use Rattle.spb_types.specs.declared.ports.PortSet.{PortSet}
use Rattle.isis_pdu.specs.Pdu.{LspValue}
use Rattle.lsdb.specs.declared.version.Version.{Version}
use Rattle.lsdb.specs.declared.version.Relation.{Relation}
use Rattle.lsdb.specs.declared.version.Relation.TheVariants.{Older, Equal, Newer, Confused}
use Rattle.lsdb.specs.Version.{number_of, relation, is_absent}
use Rattle.lsdb.specs.Entry.{Entry, acked, cleared, offered}
use Rattle.lsdb.specs.Database.{Lsps, version_in, changed_to}
use Rattle.lsdb.specs.Certificate.{Claim}
use Rattle.lsdb.specs.Time.{is_live}
use Rattle.lsdb.proofs.LookupLemmas.{get-insert_same, changed_to_other, same_or_not}
use Rattle.flooding.specs.declared.own.Own.{Own}
use Rattle.flooding.specs.Own.{last_number, own_numbers, own_number, body_of_number, body_for, renewed, dead_at, answered_by, answered, answering}
use Rattle.flooding.specs.Hearing.{Holding, claim_of, lsp_rule, snp_rule, is_beyond, unless_absent, is_answered, heard_by, own_after, lacks_place, after_claim}
use Rattle.flooding.specs.Settling.{own_held, IsAlive, IsLspCurrent, AreCurrent}
use Rattle.flooding.specs.SettlingLaws.{LspKeepsCurrent, EntryKeepsCurrent}
use Rattle.flooding.proofs.OwnNumbers.{same_self, its_body}

-- ---- what a rule leaves of a claim that isn't beyond

abbrev pub Same : (Entry → Entry) → Type 0
Same f = (e : Entry) → ((f e).version ≡ e.version) × (((f e).body ≡ e.body) × ((f e).lifetime ≡ e.lifetime))

pub record LeavesHeld (rule : Relation → Option Entry → Option Entry) (r : Relation) : Type 0 where
  pub change : Entry → Entry
  pub same : Same change
  pub is : (held : Option Entry) → rule r held ≡ option_map change held

unless_same : (f : Entry → Entry) → Same f → Same (unless_absent f)
unless_same f same e = by (is_absent e.version)
  where
    by : (b : Bool) → ((if b then e else f e).version ≡ e.version) × (((if b then e else f e).body ≡ e.body) × ((if b then e else f e).lifetime ≡ e.lifetime))
    by true = (refl, (refl, refl))
    by false = same e

pub lsp_leaves : (up : PortSet) (port : ℕ) (l : LspValue) (r : Relation) → is_beyond r ≡ false → LeavesHeld (lsp_rule up port l) r
lsp_leaves up port l Older not_beyond = record { change = offered port; same = λ e. (refl, (refl, refl)); is = λ held. refl }
lsp_leaves up port l Equal not_beyond = record { change = unless_absent (acked port); same = unless_same (acked port) (λ e. (refl, (refl, refl))); is = λ held. refl }
lsp_leaves up port l Newer not_beyond = absurd (true≢false not_beyond)
lsp_leaves up port l Confused not_beyond = absurd (true≢false not_beyond)

pub snp_leaves : (up : PortSet) (port : ℕ) (a : Version) (r : Relation) → is_beyond r ≡ false → LeavesHeld (snp_rule up port a) r
snp_leaves up port a Older not_beyond = record { change = offered port; same = λ e. (refl, (refl, refl)); is = λ held. refl }
snp_leaves up port a Equal not_beyond = record { change = unless_absent (cleared port); same = unless_same (cleared port) (λ e. (refl, (refl, refl))); is = λ held. refl }
snp_leaves up port a Newer not_beyond = absurd (true≢false not_beyond)
snp_leaves up port a Confused not_beyond = absurd (true≢false not_beyond)

-- an entry with the version, body and lifetime of another is as current
alike : (text : Option (List ℕ)) (e f : Entry) → f.version ≡ e.version → f.body ≡ e.body → f.lifetime ≡ e.lifetime → IsLspCurrent text (Some e) → IsLspCurrent text (Some f)
alike None e f version body lifetime c = ap is_live version ∙ c
alike (Some text) e f version body lifetime c = (body ∙ c.0, subst (λ (v : Version). Lasting v f.lifetime) (sym version) (subst (λ n. Lasting e.version n) (sym lifetime) c.1))
  where
    Lasting : Version → ℕ → Type 0
    Lasting v n = IsAlive (Some (record e { version = v; lifetime = n }))

left_current : (text : Option (List ℕ)) (f : Entry → Entry) → Same f → (o : Option Entry) → IsLspCurrent text o → IsLspCurrent text (option_map f o)
left_current text f same None c = c
left_current text f same (Some e) c = let s = same e in alike text e (f e) s.0 s.1.0 s.1.1 c

-- ---- an answer is current, unless the system is spent by it

answer_current : (up : PortSet) (own : Own) (id : LspId) (seq : ℕ) (text : Option (List ℕ))
    → (if is_some text && not (nat_lt seq last_number) then record own { spent = true } else own).spent ≡ false
    → IsLspCurrent text (Some (answered_by up id seq text))
answer_current up own id seq None fresh = refl
answer_current up own id seq (Some body) fresh = by (nat_lt seq last_number) fresh
  where
    by : (b : Bool) → (if not b then record own { spent = true } else own).spent ≡ false → IsLspCurrent (Some body) (Some (if b then renewed up id body (seq + 1) else dead_at up seq))
    by true fresh = (refl, (omega arith, omega arith))
    by false fresh = absurd (true≢false fresh)

answering_fresh : (own : Own) (b : Bool) → (if b then record own { spent = true } else own).spent ≡ false → own.spent ≡ false
answering_fresh own true fresh = absurd (true≢false fresh)
answering_fresh own false fresh = fresh

-- the system and its bodies stay, and unspent after is unspent before
record Keeps (own next : Own) : Type 0 where
  system : next.system ≡ own.system
  bodies : next.bodies ≡ own.bodies
  fresh : next.spent ≡ false → own.spent ≡ false

spent_if : (own : Own) (b : Bool) → Keeps own (if b then record own { spent = true } else own)
spent_if own true = record { system = refl; bodies = refl; fresh = λ is. absurd (true≢false is) }
spent_if own false = record { system = refl; bodies = refl; fresh = λ is. is }

own_kept_if : (own next : Own) → Keeps own next → (b : Bool) → Keeps own (if b then next else own)
own_kept_if own next k true = k
own_kept_if own next k false = record { system = refl; bodies = refl; fresh = λ is. is }

own_kept : (own : Own) (id : LspId) (a : Version) (r : Relation) → Keeps own (own_after own id a r)
own_kept own id a r =
    own_kept_if own (answering own id (number_of a)) (spent_if own (is_some (body_for own id) && not (nat_lt (number_of a) last_number))) (is_answered own id r)

-- ---- what a claim of an own number makes of it

module _ (rule : Relation → Option Entry → Option Entry) (leaves : (r : Relation) → is_beyond r ≡ false → LeavesHeld rule r) (up : PortSet) where
  made_by : (own : Own) (k : ℕ) (a : Version) (r : Relation) (held : Option Entry) (beyond : Bool) → is_beyond r ≡ beyond → k < own_numbers → own.spent ≡ false
      → IsLspCurrent (body_of_number own k) held
      → (if beyond then answering own (own_number own.system k) (number_of a) else own).spent ≡ false
      → IsLspCurrent (body_of_number own k) (if beyond then Some (answered up own (own_number own.system k) (number_of a)) else rule r held)
  made_by own k a r held true is below was c fresh =
      let body = its_body own k below was in
      subst (λ (o : Option (List ℕ)). IsLspCurrent (body_of_number own k) (Some (answered_by up (own_number own.system k) (number_of a) o))) (sym body)
      (answer_current up own (own_number own.system k) (number_of a) (body_of_number own k)
      (subst (λ (o : Option (List ℕ)). (if is_some o && not (nat_lt (number_of a) last_number) then record own { spent = true } else own).spent ≡ false) body fresh))
  made_by own k a r held false is below was c fresh =
      let left = leaves r is in
      subst (IsLspCurrent (body_of_number own k)) (sym (left.is held)) (left_current (body_of_number own k) left.change left.same held c)

  answers_by : (own : Own) (k : ℕ) (a : Version) (r : Relation) (held : Option Entry) → k < own_numbers → own.spent ≡ false
      → IsLspCurrent (body_of_number own k) held → (own_after own (own_number own.system k) a r).spent ≡ false
      → IsLspCurrent (body_of_number own k) (heard_by rule up own (own_number own.system k) a r held)
  answers_by own k a r held below was c fresh =
      let self : is_answered own (own_number own.system k) r ≡ is_beyond r = ap (λ b. b && is_beyond r) (same_self own.system) in
      subst (λ b. IsLspCurrent (body_of_number own k) (if b then Some (answered up own (own_number own.system k) (number_of a)) else rule r held)) (sym self)
      (made_by own k a r held (is_beyond r) refl below was c
      (subst (λ b. (if b then answering own (own_number own.system k) (number_of a) else own).spent ≡ false) self fresh))

  -- ---- after the claim

  put_same : (db : Lsps) (id : LspId) (text : Option (List ℕ)) (new : Option Entry) → IsLspCurrent text (get db id) → IsLspCurrent text new → IsLspCurrent text (get (changed_to db id new) id)
  put_same db id text None old c = old
  put_same db id text (Some e) old c = subst (IsLspCurrent text) (sym (get-insert_same db id e)) c

  entered : (h : Holding) (c : Claim) (k : ℕ) → k < own_numbers → h.own.spent ≡ false → IsLspCurrent (body_of_number h.own k) (own_held h k)
      → (own_after h.own c.id c.version (relation c.version (version_in (get h.db c.id)))).spent ≡ false
      → IsLspCurrent (body_of_number h.own k) (get (changed_to h.db c.id (heard_by rule up h.own c.id c.version (relation c.version (version_in (get h.db c.id))) (get h.db c.id))) (own_number h.own.system k))
  entered h c k below was now fresh =
      elim (same_or_not (own_number h.own.system k) c.id) [
        | inl same ↦
            let here : IsLspCurrent (body_of_number h.own k) (own_held h k) = now in
            subst (λ (id : LspId). (own_after h.own id c.version (relation c.version (version_in (get h.db id)))).spent ≡ false
            → IsLspCurrent (body_of_number h.own k) (get (changed_to h.db id (heard_by rule up h.own id c.version (relation c.version (version_in (get h.db id))) (get h.db id))) (own_number h.own.system k))) same
            (λ still.
            put_same h.db (own_number h.own.system k) (body_of_number h.own k)
            (heard_by rule up h.own (own_number h.own.system k) c.version (relation c.version (version_in (own_held h k))) (own_held h k)) here
            (answers_by h.own k c.version (relation c.version (version_in (own_held h k))) (own_held h k) below was here still)) fresh
        | inr apart ↦
            subst (IsLspCurrent (body_of_number h.own k)) (sym (changed_to_other h.db c.id (own_number h.own.system k) (heard_by rule up h.own c.id c.version (relation c.version (version_in (get h.db c.id))) (get h.db c.id)) apart))
            (now)
      ]

  moved : (h : Holding) (db : Lsps) (next : Own) (k : ℕ) → Keeps h.own next → IsLspCurrent (body_of_number h.own k) (get db (own_number h.own.system k)) → IsLspCurrent (body_of_number next k) (get db (own_number next.system k))
  moved h db next k keeps c =
      subst (λ (x : SystemId). IsLspCurrent (body_of_number next k) (get db (own_number x k))) (sym keeps.system)
      (subst (λ (bs : List (Option (List ℕ))). IsLspCurrent (option_and_then (λ body. body) (slice_get bs k)) (get db (own_number h.own.system k))) (sym keeps.bodies) c)

  after_by : (h : Holding) (c : Claim) (b : Bool) → AreCurrent h
      → AreCurrent (if b then h else record {
        db = changed_to h.db c.id (heard_by rule up h.own c.id c.version (relation c.version (version_in (get h.db c.id))) (get h.db c.id));
        own = own_after h.own c.id c.version (relation c.version (version_in (get h.db c.id)));
      })
  after_by h c true now = now
  after_by h c false now = λ fresh k below.
      let r : Relation = relation c.version (version_in (get h.db c.id)) in
      let keeps = own_kept h.own c.id c.version r in
      let was = keeps.fresh fresh in
      moved h (changed_to h.db c.id (heard_by rule up h.own c.id c.version r (get h.db c.id))) (own_after h.own c.id c.version r) k keeps (entered h c k below was (now was k below) fresh)

  claim_keeps : (c : Claim) (h : Holding) → AreCurrent h → AreCurrent (after_claim rule up c h)
  unfolding after_claim
  claim_keeps c h now =
      after_by h c (lacks_place h c.id (heard_by rule up h.own c.id c.version (relation c.version (version_in (get h.db c.id))) (get h.db c.id))) now

pub lsp_keeps_current : LspKeepsCurrent
lsp_keeps_current up port l h now = claim_keeps (lsp_rule up port l) (lsp_leaves up port l) up (claim_of l) h now

pub entry_keeps_current : EntryKeepsCurrent
entry_keeps_current up port c h now = claim_keeps (snp_rule up port c.version) (snp_leaves up port c.version) up c h now

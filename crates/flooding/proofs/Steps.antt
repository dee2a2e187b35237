-- What is heard and answered is a certified step.
use Rattle.std.specs.Prelude.{◌≡◌, ℕ, ◌+◌, ◌≤◌, List, [], ◌∷◌, Bool, true, false, Option, Some, None, nat_lt, if◌then◌else◌}
use Rattle.std.proofs.Common.{refl, sym, ap, subst, ◌∙◌, inl, arith}
use Rattle.std.proofs.lemmas.Bool.{and_parts, le-leb}
use Rattle.std.specs.Option.{option_map}
use Rattle.std.specs.FinMap.{get}
use Rattle.spb_types.specs.declared.address.LspId.{LspId}
use Rattle.spb_types.specs.declared.ports.PortSet.{PortSet}
use Rattle.spb_types.specs.Address.{same_system}
use Rattle.spb_types.specs.Ports.{has}
use Rattle.spb_types.proofs.PortLemmas.{has_port}
use Rattle.isis_pdu.specs.Pdu.{LspValue}
use Rattle.lsdb.specs.declared.version.Version.{Version}
use Rattle.lsdb.specs.declared.version.Version.TheVariants.{Absent, Live, Dead}
use Rattle.lsdb.specs.declared.version.Relation.{Relation}
use Rattle.lsdb.specs.declared.version.Relation.TheVariants.{Older, Equal, Newer, Confused}
use Rattle.lsdb.specs.Version.{number_of, is_absent, leq, relation, IsAtMost}
use Rattle.lsdb.specs.Entry.{Entry, acked, cleared, offered}
use Rattle.lsdb.specs.Database.{Lsps, version_in}
use Rattle.lsdb.specs.Certificate.{Claim, IsClaimed, EntryCertificate, Certificate}
use Rattle.lsdb.proofs.Order.{itself, greater, not_at_most, newer_is, equal_is, confused_is, confused_are_live}
use Rattle.lsdb.proofs.Certified.{standing, storing, acking, clearing, asking, offering, flooding, putting}
use Rattle.flooding.specs.Own.{last_number, body_for, renewed, dead_at, answered_by, answered}
use Rattle.flooding.specs.Hearing.{Holding, claim_of, body_of, unless_absent, wanted, lsp_rule, snp_rule, is_beyond, is_answered, after_claim}
use Rattle.flooding.specs.Laws.{control, HearingLspIsCertified, HearingEntryIsCertified, AnsweringIsCertified}
use Rattle.flooding.proofs.Heard.{Rule, number-claimed}
use Rattle.flooding.proofs.Claimed.{heard_of, lacks, entered, db_after}
use Rattle.flooding.specs.declared.origination.TheConstants.{MAX_AGE}

-- ---- versions

-- a version is at most the dead one of a number that isn't below its own
pub at_most_dead : (h : Version) (n : ℕ) → number_of h ≤ n → IsAtMost h (Dead n)
unfolding leq
at_most_dead Absent n below = refl
at_most_dead (Live m s) n below = le-leb m n below
at_most_dead (Dead m) n below = le-leb m n below

-- what is beyond is not at most what is held
pub beyond_is : (a h : Version) (r : Relation) → relation a h ≡ r → is_beyond r ≡ true → leq a h ≡ false
beyond_is a h Older is beyond = absurd (cc)
beyond_is a h Equal is beyond = absurd (cc)
beyond_is a h Newer is beyond = (newer_is a h is).0
beyond_is a h Confused is beyond = (confused_is a h is).0

pub beyond_number : (a h : Version) → is_beyond (relation a h) ≡ true → number_of h ≤ number_of a
beyond_number a h beyond = (not_at_most a h (beyond_is a h (relation a h) refl beyond)).0

-- ---- one entry

-- the answer to a claim whose number isn't below that of what is held
renewed_or_dead : (up : PortSet) (port : ℕ) (claims : List Claim) (id : LspId) (held : Option Entry) (seq : ℕ) (body : List ℕ) (b : Bool) → number_of (version_in held) ≤ seq
    → EntryCertificate port claims up up id held (Some (if b then renewed up id body (seq + 1) else dead_at up seq))
renewed_or_dead up port claims id held seq body true below =
    let further = renewed up id body (seq + 1) in
    flooding up port claims id further.version MAX_AGE body held (greater (version_in held) further.version (omega arith))
renewed_or_dead up port claims id held seq body false below = flooding up port claims id (Dead seq) 0 [] held (at_most_dead (version_in held) seq below)

answered_as : (up : PortSet) (port : ℕ) (claims : List Claim) (id : LspId) (held : Option Entry) (seq : ℕ) (body : Option (List ℕ)) → number_of (version_in held) ≤ seq
    → EntryCertificate port claims up up id held (Some (answered_by up id seq body))
answered_as up port claims id held seq None below = flooding up port claims id (Dead seq) 0 [] held (at_most_dead (version_in held) seq below)
answered_as up port claims id held seq (Some body) below = renewed_or_dead up port claims id held seq body (nat_lt seq last_number) below

pub answering : AnsweringIsCertified
answering up port claims own id a held beyond = answered_as up port claims id held (number_of a) (body_for own id) (beyond_number a (version_in held) beyond)

-- what is held is at most the end of a version that it is confused with
confused_below : (a h : Version) → relation a h ≡ Confused → IsAtMost h (Dead (number_of a))
confused_below a h is =
    let lives = (confused_are_live a h).0 is in
    at_most_dead h (number_of a) (subst (λ n. number_of h ≤ n) (ap number_of lives.second ∙ sym (ap number_of lives.first)) (omega arith))

-- the rules, for a claim of a version heard at a port of its Up ports
module _ (up : PortSet) (port : ℕ) (claims : List Claim) (id : LspId) (a : Version) (is_up : has up port ≡ true) (claimed_it : IsClaimed claims id a) where
  -- a change of what is held, unless it is absent
  sparing : (f : Entry → Entry) (e : Entry) (b : Bool) → EntryCertificate port claims up up id (Some e) (Some e) → EntryCertificate port claims up up id (Some e) (Some (f e))
      → EntryCertificate port claims up up id (Some e) (Some (if b then e else f e))
  sparing f e true same change = same
  sparing f e false same change = change

  offering_of : (held : Option Entry) → EntryCertificate port claims up up id held held → EntryCertificate port claims up up id held (option_map (offered port) held)
  offering_of None same = same
  offering_of (Some e) same = let range = has_port up port is_up in offering up port port claims id e range.0 range.1

  ending_of : (held : Option Entry) (seq : ℕ) → relation a (version_in held) ≡ Confused → seq ≡ number_of a → EntryCertificate port claims up up id held (Some (dead_at up seq))
  ending_of held seq is seq_is = flooding up port claims id (Dead seq) 0 [] held (subst (λ n. IsAtMost (version_in held) (Dead n)) (sym seq_is) (confused_below a (version_in held) is))

  acking_of : (held : Option Entry) → a ≡ version_in held → EntryCertificate port claims up up id held held → EntryCertificate port claims up up id held (option_map (unless_absent (acked port)) held)
  acking_of None is same = same
  acking_of (Some e) is same = sparing (acked port) e (is_absent e.version) same (acking up port claims id a e is_up (subst (λ (v : Version). IsAtMost v a) is (itself a)) claimed_it)

  clearing_of : (held : Option Entry) → a ≡ version_in held → EntryCertificate port claims up up id held held → EntryCertificate port claims up up id held (option_map (unless_absent (cleared port)) held)
  clearing_of None is same = same
  clearing_of (Some e) is same = sparing (cleared port) e (is_absent e.version) same (clearing up port claims id a e is_up (subst (λ (v : Version). IsAtMost v a) is (itself a)) claimed_it)

  wanting_of : (held : Option Entry) → relation a (version_in held) ≡ Newer → EntryCertificate port claims up up id held (Some (wanted port held))
  wanting_of None is = asking up up port claims id
  wanting_of (Some e) is = acking up port claims id a e is_up (newer_is a e.version is).1 claimed_it

  snp_step : (r : Relation) (held : Option Entry) → relation a (version_in held) ≡ r → EntryCertificate port claims up up id held held → EntryCertificate port claims up up id held (snp_rule up port a r held)
  snp_step Older held is same = offering_of held same
  snp_step Equal held is same = clearing_of held (equal_is a (version_in held) is) same
  snp_step Newer held is same = wanting_of held is
  snp_step Confused held is same = ending_of held (number_of a) is refl

lsp_step : (up : PortSet) (port : ℕ) (claims : List Claim) (l : LspValue) → has up port ≡ true → IsClaimed claims l.id (claim_of l).version
    → (r : Relation) (held : Option Entry) → relation (claim_of l).version (version_in held) ≡ r → EntryCertificate port claims up up l.id held held
    → EntryCertificate port claims up up l.id held (lsp_rule up port l r held)
lsp_step up port claims l is_up claimed_it Older held is same = offering_of up port claims l.id (claim_of l).version is_up claimed_it held same
lsp_step up port claims l is_up claimed_it Equal held is same = acking_of up port claims l.id (claim_of l).version is_up claimed_it held (equal_is (claim_of l).version (version_in held) is) same
lsp_step up port claims l is_up claimed_it Newer held is same =
    storing up port claims l.id (claim_of l).version l.lifetime (body_of l) held is_up (newer_is (claim_of l).version (version_in held) is).1 claimed_it
lsp_step up port claims l is_up claimed_it Confused held is same =
    ending_of up port claims l.id (claim_of l).version is_up claimed_it held l.seq is (sym (number-claimed l.seq l.lifetime l.sum))

-- ---- the database

-- nothing changes under an id
same_at : (up : PortSet) (port : ℕ) (claims : List Claim) (db : Lsps) (id : LspId) → EntryCertificate port claims up up id (get db id) (get db id)
same_at up port claims db id =
    let step = standing port claims (record { up = up; db = db }) in
    record { rises = step.rises id; kept = λ p u. step.kept id p u }

-- a claim that is answered, or that a certified rule decides
claim_by : (rule : Rule) (up : PortSet) (port : ℕ) (c : Claim) (h : Holding) (r : Relation) (b : Bool) → relation c.version (version_in (get h.db c.id)) ≡ r
    → (b ≡ true → is_beyond r ≡ true) → EntryCertificate port (c ∷ []) up up c.id (get h.db c.id) (rule r (get h.db c.id))
    → EntryCertificate port (c ∷ []) up up c.id (get h.db c.id) (if b then Some (answered up h.own c.id (number_of c.version)) else rule r (get h.db c.id))
claim_by rule up port c h r true is beyond step = answering up port (c ∷ []) h.own c.id c.version (get h.db c.id) (ap is_beyond is ∙ beyond refl)
claim_by rule up port c h r false is beyond step = step

entering : (up : PortSet) (port : ℕ) (c : Claim) (h : Holding) (out : Bool) (new : Option Entry) → EntryCertificate port (c ∷ []) up up c.id (get h.db c.id) new
    → Certificate port (c ∷ []) (control up h) (record { up = up; db = entered out h.db c.id new })
entering up port c h true new step = standing port (c ∷ []) (control up h)
entering up port c h false new step = putting port (c ∷ []) up h.db c.id new step

claim_step : (rule : Rule) (up : PortSet) (port : ℕ) (c : Claim) (h : Holding)
    → EntryCertificate port (c ∷ []) up up c.id (get h.db c.id) (rule (relation c.version (version_in (get h.db c.id))) (get h.db c.id))
    → Certificate port (c ∷ []) (control up h) (control up (after_claim rule up c h))
claim_step rule up port c h step =
    let r = relation c.version (version_in (get h.db c.id)) in
    subst (λ (db : Lsps). Certificate port (c ∷ []) (control up h) (record { up = up; db = db })) (sym (db_after rule up c h))
    (entering up port c h (lacks rule up c h) (heard_of rule up c h) (claim_by rule up port c h r (is_answered h.own c.id r) refl (λ b. (and_parts (same_system c.id.system h.own.system) (is_beyond r) b).1) step))

pub hearing_lsp : HearingLspIsCertified
hearing_lsp up port l h is_up =
    claim_step (lsp_rule up port l) up port (claim_of l) h
    (lsp_step up port (claim_of l ∷ []) l is_up (inl (refl, refl)) _ (get h.db l.id) refl (same_at up port (claim_of l ∷ []) h.db l.id))

pub hearing_entry : HearingEntryIsCertified
hearing_entry up port c h is_up =
    claim_step (snp_rule up port c.version) up port c h
    (snp_step up port (c ∷ []) c.id c.version is_up (inl (refl, refl)) _ (get h.db c.id) refl (same_at up port (c ∷ []) h.db c.id))

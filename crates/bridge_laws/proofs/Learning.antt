-- What a step makes of an LSP of another system.
use Rattle.std.proofs.Common.{◌≡◌, ◌≢◌, inl, inr, ℕ, Bool, true, false, List, [], ◌∷◌, refl, sym, ap, ◌∙◌, subst, Option, Some, None}
use Rattle.std.specs.Prelude.{◌&&◌, if◌then◌else◌, ◌++◌}
use Rattle.std.specs.Option.{option_map}
use Rattle.std.specs.FinMap.{get}
use Rattle.std.proofs.lemmas.Bool.{true≢false}
use Rattle.std.proofs.lemmas.Slice.Eq.{bytes_eq-Decides}
use Rattle.spb_types.specs.declared.address.SystemId.{SystemId}
use Rattle.spb_types.specs.declared.address.LspId.{LspId}
use Rattle.spb_types.specs.declared.ports.PortSet.{PortSet}
use Rattle.spb_types.specs.Address.{same_system}
use Rattle.isis_pdu.specs.Pdu.{LspValue}
use Rattle.lsdb.specs.declared.version.Version.{Version}
use Rattle.lsdb.specs.declared.version.Version.TheVariants.{Dead}
use Rattle.lsdb.specs.declared.version.Relation.{Relation}
use Rattle.lsdb.specs.declared.version.Relation.TheVariants.{Older, Equal, Newer, Confused}
use Rattle.lsdb.specs.Version.{number_of, is_absent, relation}
use Rattle.lsdb.specs.Laws.{AreTwoLives}
use Rattle.lsdb.specs.Entry.{Entry, acked, cleared, flagged, srm_set_at, flags_cleared_at}
use Rattle.lsdb.specs.Database.{Lsps, version_in, each}
use Rattle.lsdb.specs.Certificate.{Claim, IsClaimed}
use Rattle.lsdb.proofs.LookupLemmas.{get-each, same_or_not}
use Rattle.lsdb.proofs.Order.{confused_is, not_at_most, confused_are_live}
use Rattle.flooding.specs.Own.{body_in, answered}
use Rattle.flooding.specs.Hearing.{Holding, claim_of, lsp_rule, snp_rule, is_beyond, after_claim, is_full, hear_entry_of}
use Rattle.flooding.proofs.Heard.{Rule, number-claimed}
use Rattle.flooding.proofs.Claimed.{SaysOfHeld, lsp_rule_says, snp_rule_says, others_stand, heard_stands, full_stands}
use Rattle.flooding.proofs.Owns.{own_stands}
use Rattle.snp_sync.specs.Hearing.{claims_in, hear_entries_of, ids_of, is_missed, flag_if, hear_csnp_of}
use Rattle.adjacency.specs.declared.state.AdjacencyChange.{AdjacencyChange}
use Rattle.adjacency.specs.declared.state.AdjacencyChange.TheVariants.{Discarded, Kept, LeftUp, CameUp}
use Rattle.adjacency.specs.Adjacency.{after_hello, change_by_hello, after_carrier, change_of}
use Rattle.spb_types.specs.declared.service.Attachment.{Attachment}
use Rattle.bridge_api.specs.declared.port.BridgePort.{BridgePort}
use Rattle.bridge_api.specs.View.{BridgeView, with_port_at, up_ports}
use Rattle.bridge_api.specs.Own.{holding_of, originated_if_changed}
use Rattle.bridge_api.specs.Parsing.{Parsed, parsed}
use Rattle.bridge_api.specs.Parsing as parsing
use Rattle.bridge_api.specs.Hearing.{with_adjacency, left_up, changed_at, heard_lsp, heard_csnp, heard_psnp, with_port_metric}
use Rattle.bridge_api.specs.Customers.{after_entry}
use Rattle.bridge_api.specs.Services.{with_attached, without_customer_port, with_port_forgotten}
use Rattle.bridge_api.specs.Step.{Input, second, frame, carrier, metric, attach, detach, customer, step}
use Rattle.bridge_api.specs.Laws.{claims_of, claims_said, claims_or_none}
use Rattle.bridge_laws.specs.Counting.{lsp_said, lsp_of, LearnedAt, stays, stores, joins, StepsLearn, is_held, is_claimed, Learned, takes, ends, StepsLearnVersions}
use Rattle.bridge_api.proofs.Changes.{FrameStep, idle, by_hello, by_lsp, by_csnp, by_psnp, frame_step, carrier_step, metric_step, attached_to}
use Rattle.flooding.proofs.OwnNumbers.{not_own}
use Rattle.bridge_laws.proofs.HeldIds.{originated_others}

-- ---- the same version and body

pub record IsSameLsp (o n : Option Entry) : Type 0 where
  pub version : version_in n ≡ version_in o
  pub body : body_in n ≡ body_in o

pub same_lsp : (o n : Option Entry) → n ≡ o → IsSameLsp o n
same_lsp o n same = record { version = ap version_in same; body = ap body_in same }

pub same_again : (o m n : Option Entry) → IsSameLsp o m → IsSameLsp m n → IsSameLsp o n
same_again o m n first next = record { version = next.version ∙ first.version; body = next.body ∙ first.body }

-- an entry changed in neither
abbrev pub LeavesLsp : (Entry → Entry) → Type 0
LeavesLsp f = (e : Entry) → IsSameLsp (Some e) (Some (f e))

pub mapped_same : (f : Entry → Entry) (o : Option Entry) → LeavesLsp f → IsSameLsp o (option_map f o)
mapped_same f None leaves = same_lsp None None refl
mapped_same f (Some e) leaves = leaves e

pub each_same : (f : LspId → Entry → Entry) (db : Lsps) (id : LspId) → LeavesLsp (f id) → IsSameLsp (get db id) (get (each f db) id)
each_same f db id leaves = subst (IsSameLsp (get db id)) (sym (get-each f db id)) (mapped_same (f id) (get db id) leaves)

pub spared_same : (f : Entry → Entry) (e : Entry) (b : Bool) → IsSameLsp (Some e) (Some (f e)) → IsSameLsp (Some e) (Some (if b then e else f e))
spared_same f e true same = same_lsp (Some e) (Some e) refl
spared_same f e false same = same

flagged_same : (port : ℕ) (e : Entry) (b : Bool) → IsSameLsp (Some e) (Some (flag_if b port e))
flagged_same port e true = record { version = refl; body = refl }
flagged_same port e false = same_lsp (Some e) (Some e) refl

-- what a CSNP leaves out is to be sent, and else as its entries make it
pub missed_same : (up : PortSet) (port : ℕ) (start end : LspId) (claims : List Claim) (h : Holding) (id : LspId) → IsSameLsp (get (hear_entries_of up port claims h).db id) (get (hear_csnp_of up port start end claims h).db id)
missed_same up port start end claims h id =
    each_same (λ x e. flag_if (is_missed start end (ids_of claims) x e) port e) (hear_entries_of up port claims h).db id (λ e. flagged_same port e (is_missed start end (ids_of claims) id e))

-- ---- a rule

-- what a claim isn't beyond keeps its version and body
abbrev pub LeavesWithin : Rule → Type 0
LeavesWithin rule = (r : Relation) (held : Option Entry) → is_beyond r ≡ false → IsSameLsp held (rule r held)

pub lsp_rule_leaves : (up : PortSet) (port : ℕ) (l : LspValue) → LeavesWithin (lsp_rule up port l)
lsp_rule_leaves up port l Older held within = mapped_same _ held (λ e. record { version = refl; body = refl })
lsp_rule_leaves up port l Equal held within = mapped_same _ held (λ e. spared_same (acked port) e (is_absent e.version) (record { version = refl; body = refl }))
lsp_rule_leaves up port l Newer held within = absurd (true≢false within)
lsp_rule_leaves up port l Confused held within = absurd (true≢false within)

pub snp_rule_leaves : (up : PortSet) (port : ℕ) (a : Version) → LeavesWithin (snp_rule up port a)
snp_rule_leaves up port a Older held within = mapped_same _ held (λ e. record { version = refl; body = refl })
snp_rule_leaves up port a Equal held within = mapped_same _ held (λ e. spared_same (cleared port) e (is_absent e.version) (record { version = refl; body = refl }))
snp_rule_leaves up port a Newer held within = absurd (true≢false within)
snp_rule_leaves up port a Confused held within = absurd (true≢false within)

-- confused versions differ at one number
confused_apart : (a h : Version) → relation a h ≡ Confused → a ≢ h
confused_apart a h is = (not_at_most a h (confused_is a h is).0).1

confused_number : (a h : Version) → relation a h ≡ Confused → number_of a ≡ number_of h
confused_number a h is = let two : AreTwoLives a h = (confused_are_live a h).0 is in ap number_of two.first ∙ sym (ap number_of two.second)

-- what one claim makes of what is held under its id
abbrev LearnsAt : Rule → Claim → Option LspValue → Type 0
LearnsAt rule c lsp = (r : Relation) (held : Option Entry) → relation c.version (version_in held) ≡ r → LearnedAt (c ∷ []) lsp c.id held (rule r held)

same_learned : (claims : List Claim) (lsp : Option LspValue) (id : LspId) (o n : Option Entry) → IsSameLsp o n → LearnedAt claims lsp id o n
same_learned claims lsp id o n same = stays same.version same.body

lsp_learns : (up : PortSet) (port : ℕ) (l : LspValue) → LearnsAt (lsp_rule up port l) (claim_of l) (Some l)
lsp_learns up port l Older held is = same_learned _ _ _ held _ (lsp_rule_leaves up port l Older held refl)
lsp_learns up port l Equal held is = same_learned _ _ _ held _ (lsp_rule_leaves up port l Equal held refl)
lsp_learns up port l Newer held is = stores l refl refl refl refl
lsp_learns up port l Confused held is =
    let a : Version = (claim_of l).version in
    joins a (inl (refl, refl)) (confused_apart a (version_in held) is) (confused_number a (version_in held) is) (ap (λ (n : ℕ). Dead n) (sym (number-claimed l.seq l.lifetime l.sum)))

wanted_same : (up : PortSet) (port : ℕ) (a : Version) (held : Option Entry) → IsSameLsp held (snp_rule up port a Newer held)
wanted_same up port a None = record { version = refl; body = refl }
wanted_same up port a (Some e) = record { version = refl; body = refl }

snp_learns : (up : PortSet) (port : ℕ) (c : Claim) → LearnsAt (snp_rule up port c.version) c None
snp_learns up port c Older held is = same_learned _ _ _ held _ (snp_rule_leaves up port c.version Older held refl)
snp_learns up port c Equal held is = same_learned _ _ _ held _ (snp_rule_leaves up port c.version Equal held refl)
snp_learns up port c Newer held is = same_learned _ _ _ held _ (wanted_same up port c.version held)
snp_learns up port c Confused held is = joins c.version (inl (refl, refl)) (confused_apart c.version (version_in held) is) (confused_number c.version (version_in held) is) refl

-- ---- a claim

not_same : (x y : SystemId) (b : Bool) → same_system x y ≡ b → x ≢ y → same_system x y ≡ false
not_same x y true is apart =
    let bytes : x.mac.bytes ≡ y.mac.bytes = (bytes_eq-Decides x.mac.bytes y.mac.bytes).0 is in absurd (apart (λ i. record { mac = record { bytes = bytes i } }))
not_same x y false is apart = is

pub other_system : (x y : SystemId) → x ≢ y → same_system x y ≡ false
other_system x y apart = not_same x y (same_system x y) refl apart

claim_learned_by : (rule : Rule) (lsp : Option LspValue) (up : PortSet) (c : Claim) (h : Holding) (full : Bool) → LearnsAt rule c lsp → SaysOfHeld rule
    → is_full rule up c h ≡ full → c.id.system ≢ h.own.system → LearnedAt (c ∷ []) lsp c.id (get h.db c.id) (get (after_claim rule up c h).db c.id)
claim_learned_by rule lsp up c h true learns says full apart = same_learned _ _ _ _ _ (same_lsp (get h.db c.id) (get (after_claim rule up c h).db c.id) (ap (λ (g : Holding). get g.db c.id) (full_stands rule up c h full)))
claim_learned_by rule lsp up c h false learns says there apart =
    let held = get h.db c.id in
    let r = relation c.version (version_in held) in
    let stands : get (after_claim rule up c h).db c.id ≡ rule r held =
    heard_stands rule says up c h there ∙ ap (λ b. if b && is_beyond r then Some (answered up h.own c.id (number_of c.version)) else rule r held) (other_system c.id.system h.own.system apart) in
    subst (LearnedAt (c ∷ []) lsp c.id held) (sym stands) (learns r held refl)

claim_learned : (rule : Rule) (lsp : Option LspValue) (up : PortSet) (c : Claim) (h : Holding) (id : LspId) → LearnsAt rule c lsp → SaysOfHeld rule → id.system ≢ h.own.system
    → LearnedAt (c ∷ []) lsp id (get h.db id) (get (after_claim rule up c h).db id)
claim_learned rule lsp up c h id learns says apart =
    elim (same_or_not id c.id) [
      | inl here ↦
          subst (λ (x : LspId). LearnedAt (c ∷ []) lsp x (get h.db x) (get (after_claim rule up c h).db x)) (sym here)
          (claim_learned_by rule lsp up c h (is_full rule up c h) learns says refl (λ e. apart (ap (λ (x : LspId). x.system) here ∙ e)))
      | inr other ↦ same_learned _ _ _ _ _ (same_lsp (get h.db id) (get (after_claim rule up c h).db id) (others_stand rule up c h id other))
    ]

-- ---- one after another

pub first_claim : (c : Claim) (claims : List Claim) (id : LspId) (a : Version) → IsClaimed (c ∷ []) id a → IsClaimed (c ∷ claims) id a
first_claim c claims id a (inl here) = inl here
first_claim c claims id a (inr none) = absurd none

-- behind a dead LSP of their number, nothing that is confused with it is claimed
then_learned : (c : Claim) (claims : List Claim) (id : LspId) (o m n : Option Entry) → LearnedAt (c ∷ []) None id o m → LearnedAt claims None id m n → LearnedAt (c ∷ claims) None id o n
then_learned c claims id o m n (stays v b) (stays w d) = stays (w ∙ v) (d ∙ b)
then_learned c claims id o m n (stays v b) (joins a claimed apart number is) =
    joins a (inr claimed) (λ e. apart (e ∙ sym v)) (number ∙ ap number_of v) is
then_learned c claims id o m n (joins a claimed apart number is) (stays w d) = joins a (first_claim c claims id a claimed) apart number (w ∙ is)
then_learned c claims id o m n (joins a claimed apart number is) (joins b later differs same dead) =
    joins a (first_claim c claims id a claimed) apart number (dead ∙ ap (λ (k : ℕ). Dead k) (same ∙ ap number_of is))
then_learned c claims id o m n (stores l none here v b) next = absurd cc
then_learned c claims id o m n (stays v b) (stores l none here w d) = absurd cc
then_learned c claims id o m n (joins a claimed apart number is) (stores l none here w d) = absurd cc

entries_learned : (up : PortSet) (port : ℕ) (claims : List Claim) (h : Holding) (id : LspId) → id.system ≢ h.own.system → LearnedAt claims None id (get h.db id) (get (hear_entries_of up port claims h).db id)
entries_learned up port [] h id apart = stays refl refl
entries_learned up port (c ∷ claims) h id apart =
    let rule = snp_rule up port c.version in
    let g : Holding = hear_entry_of up port c h in
    let system = (own_stands rule up c h).0 in
    then_learned c claims id (get h.db id) (get g.db id) (get (hear_entries_of up port claims g).db id)
    (claim_learned rule None up c h id (snp_learns up port c) (snp_rule_says up port c.version) apart) (entries_learned up port claims g id (λ e. apart (e ∙ system)))

-- what keeps version and body afterwards
then_same : (claims : List Claim) (lsp : Option LspValue) (id : LspId) (o m n : Option Entry) → LearnedAt claims lsp id o m → IsSameLsp m n → LearnedAt claims lsp id o n
then_same claims lsp id o m n (stays v b) same = stays (same.version ∙ v) (same.body ∙ b)
then_same claims lsp id o m n (stores l is here v b) same = stores l is here (same.version ∙ v) (same.body ∙ b)
then_same claims lsp id o m n (joins a claimed apart number is) same = joins a claimed apart number (same.version ∙ is)

-- ---- the steps

originated_same : (w : BridgeView) (id : LspId) → id.system ≢ w.id.system → IsSameLsp (get w.database id) (get (originated_if_changed w).database id)
originated_same w id apart = same_lsp _ _ (originated_others w id (not_own w.id.system id apart))

srm_set_same : (p : ℕ) (e : Entry) (b : Bool) → IsSameLsp (Some e) (Some (if b then e else flagged p e))
srm_set_same p e b = spared_same (flagged p) e b (record { version = refl; body = refl })

changed_same : (heard : AdjacencyChange) (p : ℕ) (port : BridgePort) (v : BridgeView) (id : LspId) → id.system ≢ v.id.system → IsSameLsp (get v.database id) (get (changed_at heard p port v).database id)
changed_same Discarded p port v id apart = same_lsp _ _ refl
changed_same Kept p port v id apart = originated_same (with_port_at p port v) id apart
changed_same LeftUp p port v id apart =
    let w : BridgeView = left_up p port v in
    same_again (get v.database id) (get w.database id) (get (originated_if_changed w).database id) (each_same (λ x e. flags_cleared_at p e) v.database id (λ e. record { version = refl; body = refl })) (originated_same w id apart)
changed_same CameUp p port v id apart =
    let w : BridgeView = left_up p port v in
    let u : BridgeView = originated_if_changed w in
    same_again (get v.database id) (get u.database id) (get (each (λ x e. srm_set_at p e) u.database) id)
    (same_again (get v.database id) (get w.database id) (get u.database id) (each_same (λ x e. flags_cleared_at p e) v.database id (λ e. record { version = refl; body = refl })) (originated_same w id apart))
    (each_same (λ x e. srm_set_at p e) u.database id (λ e. srm_set_same p e (is_absent e.version)))

module _ (q : ℕ) (bytes : List ℕ) (v : BridgeView) (id : LspId) (apart : id.system ≢ v.id.system) where
  abbrev LearnsFrom : Parsed → BridgeView → Type 0
  LearnsFrom j w = LearnedAt (claims_said j) (lsp_said j) id (get v.database id) (get w.database id)

  learned_as : (j : Parsed) (w : BridgeView) → parsed bytes ≡ j → step (frame q bytes) v ≡ w → LearnsFrom j w → LearnsFrom (parsed bytes) (step (frame q bytes) v)
  learned_as j w is after learned = subst (λ (i : Parsed). LearnsFrom i (step (frame q bytes) v)) (sym is) (subst (LearnsFrom j) (sym after) learned)

  frame_learned : FrameStep v q bytes (step (frame q bytes) v) → LearnsFrom (parsed bytes) (step (frame q bytes) v)
  frame_learned (idle learned how e) = same_learned _ _ _ _ _ (same_lsp _ _ (ap (λ (w : BridgeView). get w.database id) e))
  frame_learned (by_hello g) =
      let w : BridgeView = changed_at (change_by_hello v.id.system q g.hello g.way g.port.adjacency) q (with_adjacency (after_hello v.id.system q g.hello g.way g.port.adjacency) g.port) v in
      learned_as (parsing.hello g.hello g.way) w g.is g.after
      (same_learned _ _ _ _ _ (changed_same (change_by_hello v.id.system q g.hello g.way g.port.adjacency) q (with_adjacency (after_hello v.id.system q g.hello g.way g.port.adjacency) g.port) v id apart))
  frame_learned (by_lsp g) =
      let w : BridgeView = heard_lsp g.lsp q v in
      learned_as (parsing.lsp g.lsp) (originated_if_changed w) g.is g.after
      (then_same _ _ id (get v.database id) (get w.database id) _
      (claim_learned (lsp_rule (up_ports v) q g.lsp) (Some g.lsp) (up_ports v) (claim_of g.lsp) (holding_of v) id (lsp_learns (up_ports v) q g.lsp) (lsp_rule_says (up_ports v) q g.lsp) apart) (originated_same w id apart))
  frame_learned (by_csnp g) =
      let w : BridgeView = heard_csnp g.csnp g.entries q v in
      let heard : LearnedAt (claims_in g.entries) None id (get v.database id) (get w.database id) =
      then_same _ _ id (get v.database id) (get (hear_entries_of (up_ports v) q (claims_in g.entries) (holding_of v)).db id) _
      (entries_learned (up_ports v) q (claims_in g.entries) (holding_of v) id apart) (missed_same (up_ports v) q g.csnp.start g.csnp.end (claims_in g.entries) (holding_of v) id) in
      learned_as (parsing.csnp g.csnp) (originated_if_changed w) g.is g.after
      (subst (λ es. LearnedAt (claims_or_none es) None id (get v.database id) (get (originated_if_changed w).database id)) (sym g.read)
      (then_same _ _ id (get v.database id) (get w.database id) _ heard (originated_same w id apart)))
  frame_learned (by_psnp g) =
      let w : BridgeView = heard_psnp g.entries q v in
      let heard : LearnedAt (claims_in g.entries) None id (get v.database id) (get w.database id) = entries_learned (up_ports v) q (claims_in g.entries) (holding_of v) id apart in
      learned_as (parsing.psnp g.psnp) (originated_if_changed w) g.is g.after
      (subst (λ es. LearnedAt (claims_or_none es) None id (get v.database id) (get (originated_if_changed w).database id)) (sym g.read)
      (then_same _ _ id (get v.database id) (get w.database id) _ heard (originated_same w id apart)))

attached_learned : (attached : List Attachment) (v : BridgeView) (id : LspId) → id.system ≢ v.id.system → LearnedAt [] None id (get v.database id) (get (with_attached attached v).database id)
unfolding with_attached
attached_learned attached v id apart = same_learned _ _ _ _ _ (originated_same (attached_to attached v) id apart)

pub steps_learn : StepsLearn
unfolding with_port_forgotten after_entry
steps_learn second v id apart late = absurd (late refl)
steps_learn (frame q bytes) v id apart late = frame_learned q bytes v id apart (frame_step v q bytes)
steps_learn (carrier q on) v id apart late =
    elim (carrier_step v q on) [
      | inl e ↦ same_learned _ _ _ _ _ (same_lsp _ _ (ap (λ (w : BridgeView). get w.database id) e))
      | inr g ↦
          subst (λ (w : BridgeView). LearnedAt [] None id (get v.database id) (get w.database id)) (sym g.after)
          (same_learned _ _ _ _ _ (changed_same (change_of g.port.adjacency (after_carrier on g.port.adjacency)) q (with_adjacency (after_carrier on g.port.adjacency) g.port) v id apart))
    ]
steps_learn (metric q m) v id apart late =
    elim (metric_step v q m) [
      | inl e ↦ same_learned _ _ _ _ _ (same_lsp _ _ (ap (λ (w : BridgeView). get w.database id) e))
      | inr g ↦
          subst (λ (w : BridgeView). LearnedAt [] None id (get v.database id) (get w.database id)) (sym g.after)
          (same_learned _ _ _ _ _ (originated_same (with_port_at q (with_port_metric m g.port) v) id apart))
    ]
steps_learn (attach a) v id apart late = attached_learned (v.attached ++ a ∷ []) v id apart
steps_learn (detach p) v id apart late = attached_learned (without_customer_port p v.attached) (with_port_forgotten p v) id apart
steps_learn (customer p bytes) v id apart late = same_learned _ _ _ _ _ (same_lsp _ _ refl)

-- ---- of versions alone

-- an LSP that came in is claimed
lsp_claimed : (j : Parsed) (l : LspValue) → lsp_said j ≡ Some l → IsClaimed (claims_said j) l.id (claim_of l).version
lsp_claimed (parsing.dropped reason) l is = absurd cc
lsp_claimed (parsing.hello h way) l is = absurd cc
lsp_claimed (parsing.lsp k) l is = let same : k ≡ l = cc in inl (ap (λ (x : LspValue). x.id) same, ap (λ (x : LspValue). (claim_of x).version) same)
lsp_claimed (parsing.csnp c) l is = absurd cc
lsp_claimed (parsing.psnp s) l is = absurd cc
lsp_claimed (parsing.customer da sa vid isid payload) l is = absurd cc

came_claimed : (input : Input) (l : LspValue) → lsp_of input ≡ Some l → IsClaimed (claims_of input) l.id (claim_of l).version
came_claimed second l is = absurd cc
came_claimed (frame q bytes) l is = lsp_claimed (parsed bytes) l is
came_claimed (carrier q on) l is = absurd cc
came_claimed (metric q m) l is = absurd cc
came_claimed (attach a) l is = absurd cc
came_claimed (detach p) l is = absurd cc
came_claimed (customer p bytes) l is = absurd cc

learned_version : (input : Input) (id : LspId) (o n : Option Entry) → LearnedAt (claims_of input) (lsp_of input) id o n → Learned (version_in o) (claims_of input) id (version_in n)
learned_version input id o n (stays v b) = takes (is_held v)
learned_version input id o n (stores l is here v b) =
    let claimed : IsClaimed (claims_of input) id (claim_of l).version = subst (λ (x : LspId). IsClaimed (claims_of input) x (claim_of l).version) here (came_claimed input l is) in
    takes (is_claimed (subst (IsClaimed (claims_of input) id) (sym v) claimed))
learned_version input id o n (joins a claimed apart number is) = ends a (version_in o) (is_claimed claimed) (is_held refl) apart number is

pub steps_learn_versions : StepsLearnVersions
steps_learn_versions input v id apart late = learned_version input id (get v.database id) (get (step input v).database id) (steps_learn input v id apart late)

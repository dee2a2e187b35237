-- After a frame what stands under an id has the version and lifetime that it had, or those of the LSP that came in; or it
-- was just originated, or isn't live.
use Rattle.std.proofs.Common.{◌≡◌, inl, inr, ℕ, ◌+◌, Bool, true, false, List, [], ◌∷◌, refl, sym, ap, ◌∙◌, subst, Option, Some, None}
use Rattle.std.specs.Prelude.{nat_lt, if◌then◌else◌}
use Rattle.std.specs.Option.{option_map}
use Rattle.std.specs.FinMap.{get, insert}
use Rattle.spb_types.specs.declared.address.LspId.{LspId}
use Rattle.spb_types.specs.declared.ports.PortSet.{PortSet}
use Rattle.isis_pdu.specs.Pdu.{LspValue}
use Rattle.lsdb.specs.declared.version.Version.{Version}
use Rattle.lsdb.specs.declared.version.Version.TheVariants.{Absent, Live, Dead}
use Rattle.lsdb.specs.declared.version.Relation.{Relation}
use Rattle.lsdb.specs.declared.version.Relation.TheVariants.{Older, Equal, Newer, Confused}
use Rattle.lsdb.specs.Version.{number_of, is_absent, relation}
use Rattle.lsdb.specs.Entry.{Entry, stored, acked, cleared, flagged, purged, srm_set_at, flags_cleared_at}
use Rattle.lsdb.specs.Database.{Lsps, version_in, each, changed_to}
use Rattle.lsdb.specs.Time.{lifetime_in, is_live}
use Rattle.lsdb.specs.Certificate.{Claim}
use Rattle.lsdb.proofs.LookupLemmas.{get-each, get-insert_same, get-insert_other, same_or_not}
use Rattle.flooding.specs.Own.{last_number, own_number, renewed, dead_at, answered_by, answered, body_for}
use Rattle.flooding.specs.Origination.{next_entry, spent_entry, brought_up}
use Rattle.flooding.specs.Settling.{says}
use Rattle.flooding.specs.Hearing.{Holding, claim_of, body_of, lsp_rule, snp_rule, is_answered, after_claim, is_full, hear_entry_of}
use Rattle.flooding.proofs.Brought.{brought_keeps}
use Rattle.flooding.proofs.Heard.{Rule}
use Rattle.flooding.proofs.Claimed.{SaysOfHeld, lsp_rule_says, snp_rule_says, others_stand, heard_stands, full_stands}
use Rattle.flooding.proofs.Settled.{settling_keeps}
use Rattle.snp_sync.specs.Hearing.{claims_in, hear_entries_of, ids_of, is_missed, flag_if}
use Rattle.adjacency.specs.declared.state.AdjacencyChange.{AdjacencyChange}
use Rattle.adjacency.specs.declared.state.AdjacencyChange.TheVariants.{Discarded, Kept, LeftUp, CameUp}
use Rattle.adjacency.specs.Adjacency.{after_hello, change_by_hello}
use Rattle.bridge_api.specs.declared.port.BridgePort.{BridgePort}
use Rattle.bridge_api.specs.View.{BridgeView, with_port_at, up_ports}
use Rattle.bridge_api.specs.Own.{holding_of, originated_if_changed}
use Rattle.bridge_api.specs.Parsing.{Parsed, parsed}
use Rattle.bridge_api.specs.Parsing as parsing
use Rattle.bridge_api.specs.Hearing.{with_adjacency, left_up, changed_at, heard_lsp, heard_csnp, heard_psnp}
use Rattle.bridge_api.specs.Step.{frame, step}
use Rattle.bridge_api.proofs.Changes.{FrameStep, idle, by_hello, by_lsp, by_csnp, by_psnp, frame_step}
use Rattle.bridge_laws.specs.Counting.{lsp_said}
use Rattle.bridge_rounds.specs.Hearing.{LivedAt, keeps, stores, renews, ends, FramesKeepLiving}

-- ---- one after another

pub stood : (lsp : Option LspValue) (id : LspId) (o n : Option Entry) → n ≡ o → LivedAt lsp id o n
stood lsp id o n same = keeps (ap version_in same) (ap lifetime_in same)

-- where no LSP came in the second time
pub then_lived : (lsp : Option LspValue) (id : LspId) (o m n : Option Entry) → LivedAt lsp id o m → LivedAt None id m n → LivedAt lsp id o n
then_lived lsp id o m n (keeps v t) (keeps w u) = keeps (w ∙ v) (u ∙ t)
then_lived lsp id o m n (stores l is here v t) (keeps w u) = stores l is here (w ∙ v) (u ∙ t)
then_lived lsp id o m n (renews t) (keeps w u) = renews (u ∙ t)
then_lived lsp id o m n (ends gone) (keeps w u) = ends (ap is_live w ∙ gone)
then_lived lsp id o m n first (renews u) = renews u
then_lived lsp id o m n first (ends gone) = ends gone
then_lived lsp id o m n first (stores l none here w u) = absurd cc

-- an entry of which neither version nor lifetime is changed
abbrev pub LeavesLife : (Entry → Entry) → Type 0
LeavesLife f = (e : Entry) → ((f e).version ≡ e.version) × ((f e).lifetime ≡ e.lifetime)

pub mapped_lived : (lsp : Option LspValue) (id : LspId) (f : Entry → Entry) (o : Option Entry) → LeavesLife f → LivedAt lsp id o (option_map f o)
mapped_lived lsp id f None leaves = keeps refl refl
mapped_lived lsp id f (Some e) leaves = let same = leaves e in keeps same.0 same.1

each_lived : (lsp : Option LspValue) (f : LspId → Entry → Entry) (db : Lsps) (id : LspId) → LeavesLife (f id) → LivedAt lsp id (get db id) (get (each f db) id)
each_lived lsp f db id leaves = subst (LivedAt lsp id (get db id)) (sym (get-each f db id)) (mapped_lived lsp id (f id) (get db id) leaves)

pub spared_leaves : (f : Entry → Entry) (e : Entry) (b : Bool) → LeavesLife f → ((if b then e else f e).version ≡ e.version) × ((if b then e else f e).lifetime ≡ e.lifetime)
spared_leaves f e true leaves = (refl, refl)
spared_leaves f e false leaves = leaves e

flag_leaves : (port : ℕ) (e : Entry) (b : Bool) → ((flag_if b port e).version ≡ e.version) × ((flag_if b port e).lifetime ≡ e.lifetime)
flag_leaves port e true = (refl, refl)
flag_leaves port e false = (refl, refl)

-- ---- a claim

-- what a rule makes of what is held
abbrev LivesBy : Rule → Claim → Option LspValue → Type 0
LivesBy rule c lsp = (r : Relation) (held : Option Entry) → LivedAt lsp c.id held (rule r held)

stored_lived : (up : PortSet) (port : ℕ) (l : LspValue) (held : Option Entry) (a : Version) → (claim_of l).version ≡ a → LivedAt (Some l) l.id held (Some (stored up port a l.lifetime (body_of l)))
stored_lived up port l held Absent is = ends refl
stored_lived up port l held (Live seq sum) is = stores l refl refl (sym is) refl
stored_lived up port l held (Dead seq) is = ends refl

lsp_lives : (up : PortSet) (port : ℕ) (l : LspValue) → LivesBy (lsp_rule up port l) (claim_of l) (Some l)
lsp_lives up port l Older held = mapped_lived _ _ _ held (λ e. (refl, refl))
lsp_lives up port l Equal held = mapped_lived _ _ _ held (λ e. spared_leaves (acked port) e (is_absent e.version) (λ d. (refl, refl)))
lsp_lives up port l Newer held = stored_lived up port l held (claim_of l).version refl
lsp_lives up port l Confused held = ends refl

wanted_lived : (up : PortSet) (port : ℕ) (c : Claim) (held : Option Entry) → LivedAt None c.id held (snp_rule up port c.version Newer held)
wanted_lived up port c None = ends refl
wanted_lived up port c (Some e) = keeps refl refl

snp_lives : (up : PortSet) (port : ℕ) (c : Claim) → LivesBy (snp_rule up port c.version) c None
snp_lives up port c Older held = mapped_lived _ _ _ held (λ e. (refl, refl))
snp_lives up port c Equal held = mapped_lived _ _ _ held (λ e. spared_leaves (cleared port) e (is_absent e.version) (λ d. (refl, refl)))
snp_lives up port c Newer held = wanted_lived up port c held
snp_lives up port c Confused held = ends refl

answer_at : (lsp : Option LspValue) (up : PortSet) (x id : LspId) (seq : ℕ) (held : Option Entry) (body : List ℕ) (b : Bool) → LivedAt lsp x held (Some (if b then renewed up id body (seq + 1) else dead_at up seq))
answer_at lsp up x id seq held body true = renews refl
answer_at lsp up x id seq held body false = ends refl

pub answer_lived : (lsp : Option LspValue) (up : PortSet) (x id : LspId) (seq : ℕ) (held : Option Entry) (o : Option (List ℕ)) → LivedAt lsp x held (Some (answered_by up id seq o))
answer_lived lsp up x id seq held None = ends refl
answer_lived lsp up x id seq held (Some body) = answer_at lsp up x id seq held body (nat_lt seq last_number)

module _ (rule : Rule) (lsp : Option LspValue) (up : PortSet) (c : Claim) (h : Holding) (lives : LivesBy rule c lsp) (says_of : SaysOfHeld rule) where
  heard_lived : (answers : Bool) (r : Relation) → LivedAt lsp c.id (get h.db c.id) (if answers then Some (answered up h.own c.id (number_of c.version)) else rule r (get h.db c.id))
  heard_lived true r = answer_lived lsp up c.id c.id (number_of c.version) (get h.db c.id) (body_for h.own c.id)
  heard_lived false r = lives r (get h.db c.id)

  claimed_lived : (full : Bool) → is_full rule up c h ≡ full → LivedAt lsp c.id (get h.db c.id) (get (after_claim rule up c h).db c.id)
  claimed_lived true full = stood lsp c.id _ _ (ap (λ (g : Holding). get g.db c.id) (full_stands rule up c h full))
  claimed_lived false there =
      let r = relation c.version (version_in (get h.db c.id)) in
      subst (LivedAt lsp c.id (get h.db c.id)) (sym (heard_stands rule says_of up c h there)) (heard_lived (is_answered h.own c.id r) r)

  claim_lived : (id : LspId) → LivedAt lsp id (get h.db id) (get (after_claim rule up c h).db id)
  claim_lived id =
      elim (same_or_not id c.id) [
        | inl here ↦ subst (λ (x : LspId). LivedAt lsp x (get h.db x) (get (after_claim rule up c h).db x)) (sym here) (claimed_lived (is_full rule up c h) refl)
        | inr other ↦ stood lsp id _ _ (others_stand rule up c h id other)
      ]

entries_lived : (up : PortSet) (port : ℕ) (claims : List Claim) (h : Holding) (id : LspId) → LivedAt None id (get h.db id) (get (hear_entries_of up port claims h).db id)
entries_lived up port [] h id = keeps refl refl
entries_lived up port (c ∷ claims) h id =
    let g : Holding = hear_entry_of up port c h in
    then_lived None id (get h.db id) (get g.db id) (get (hear_entries_of up port claims g).db id)
    (claim_lived (snp_rule up port c.version) None up c h (snp_lives up port c) (snp_rule_says up port c.version) id) (entries_lived up port claims g id)

-- ---- own LSPs brought up to date

put_lived : (db : Lsps) (id x : LspId) (e : Entry) → ((held : Option Entry) → LivedAt None x held (Some e)) → LivedAt None x (get db x) (get (insert db id e) x)
put_lived db id x e new =
    elim (same_or_not x id) [
      | inl here ↦ subst (λ (o : Option Entry). LivedAt None x (get db x) o) (sym (ap (get (insert db id e)) here ∙ get-insert_same db id e)) (new (get db x))
      | inr apart ↦ stood None x _ _ (get-insert_other db id e x apart)
    ]

next_lived : (up : PortSet) (id x : LspId) (body : List ℕ) (seq : ℕ) (held old : Option Entry) (b : Bool) → LivedAt None x old (Some (if b then renewed up id body (seq + 1) else spent_entry up seq held))
next_lived up id x body seq held old true = renews refl
next_lived up id x body seq held old false = ends refl

purged_lived : (db : Lsps) (up : PortSet) (seq : ℕ) (id x : LspId) (o : Option Entry) → LivedAt None x (get db x) (get (changed_to db id (option_map (purged seq up) o)) x)
purged_lived db up seq id x None = keeps refl refl
purged_lived db up seq id x (Some e) = put_lived db id x (purged seq up e) (λ held. ends refl)

brought_lived : (up : PortSet) (number : ℕ) (h : Holding) (x : LspId) → LivedAt None x (get h.db x) (get (brought_up up number h).db x)
brought_lived up number h x =
    let id = own_number h.own.system number in
    let held = get h.db id in
    let seq = number_of (version_in held) in
    brought_keeps (λ g. LivedAt None x (get h.db x) (get g.db x)) up number h (keeps refl refl)
    (λ body fresh has. put_lived h.db id x (next_entry up id body seq held) (λ old. next_lived up id x body seq held old (nat_lt seq last_number)))
    (λ s sum live. purged_lived h.db up s id x held)

pub originated_lived : (w : BridgeView) (id : LspId) → LivedAt None id (get w.database id) (get (originated_if_changed w).database id)
unfolding originated_if_changed
originated_lived w id =
    settling_keeps (λ g. LivedAt None id (get w.database id) (get g.db id)) says (up_ports w) (holding_of w)
    (λ number g below before. then_lived None id (get w.database id) (get g.db id) (get (brought_up (up_ports w) number g).db id) before (brought_lived (up_ports w) number g id)) (keeps refl refl)

-- ---- what came to pass at a port

left_lived : (p : ℕ) (port : BridgePort) (v : BridgeView) (id : LspId) → LivedAt None id (get v.database id) (get (originated_if_changed (left_up p port v)).database id)
left_lived p port v id =
    let w : BridgeView = left_up p port v in
    then_lived None id (get v.database id) (get w.database id) (get (originated_if_changed w).database id) (each_lived None (λ x e. flags_cleared_at p e) v.database id (λ e. (refl, refl))) (originated_lived w id)

changed_lived : (heard : AdjacencyChange) (p : ℕ) (port : BridgePort) (v : BridgeView) (id : LspId) → LivedAt None id (get v.database id) (get (changed_at heard p port v).database id)
changed_lived Discarded p port v id = keeps refl refl
changed_lived Kept p port v id = originated_lived (with_port_at p port v) id
changed_lived LeftUp p port v id = left_lived p port v id
changed_lived CameUp p port v id =
    let u : BridgeView = originated_if_changed (left_up p port v) in
    then_lived None id (get v.database id) (get u.database id) (get (each (λ x e. srm_set_at p e) u.database) id) (left_lived p port v id)
    (each_lived None (λ x e. srm_set_at p e) u.database id (λ e. spared_leaves (flagged p) e (is_absent e.version) (λ d. (refl, refl))))

-- ---- a frame

module _ (q : ℕ) (bytes : List ℕ) (v : BridgeView) (id : LspId) where
  abbrev LivesFrom : Parsed → BridgeView → Type 0
  LivesFrom j w = LivedAt (lsp_said j) id (get v.database id) (get w.database id)

  lived_as : (j : Parsed) (w : BridgeView) → parsed bytes ≡ j → step (frame q bytes) v ≡ w → LivesFrom j w → LivesFrom (parsed bytes) (step (frame q bytes) v)
  lived_as j w is after lived = subst (λ (i : Parsed). LivesFrom i (step (frame q bytes) v)) (sym is) (subst (LivesFrom j) (sym after) lived)

  then_originated : (lsp : Option LspValue) (w : BridgeView) → LivedAt lsp id (get v.database id) (get w.database id) → LivedAt lsp id (get v.database id) (get (originated_if_changed w).database id)
  then_originated lsp w lived = then_lived lsp id (get v.database id) (get w.database id) (get (originated_if_changed w).database id) lived (originated_lived w id)

  frame_lived : FrameStep v q bytes (step (frame q bytes) v) → LivesFrom (parsed bytes) (step (frame q bytes) v)
  frame_lived (idle learned how e) = stood (lsp_said (parsed bytes)) id _ _ (ap (λ (w : BridgeView). get w.database id) e)
  frame_lived (by_hello g) =
      let change : AdjacencyChange = change_by_hello v.id.system q g.hello g.way g.port.adjacency in
      let port : BridgePort = with_adjacency (after_hello v.id.system q g.hello g.way g.port.adjacency) g.port in
      lived_as (parsing.hello g.hello g.way) (changed_at change q port v) g.is g.after (changed_lived change q port v id)
  frame_lived (by_lsp g) =
      let w : BridgeView = heard_lsp g.lsp q v in
      lived_as (parsing.lsp g.lsp) (originated_if_changed w) g.is g.after
      (then_originated (Some g.lsp) w
      (claim_lived (lsp_rule (up_ports v) q g.lsp) (Some g.lsp) (up_ports v) (claim_of g.lsp) (holding_of v) (lsp_lives (up_ports v) q g.lsp) (lsp_rule_says (up_ports v) q g.lsp) id))
  frame_lived (by_csnp g) =
      let w : BridgeView = heard_csnp g.csnp g.entries q v in
      let heard : Holding = hear_entries_of (up_ports v) q (claims_in g.entries) (holding_of v) in
      let missed : LspId → Entry → Bool = is_missed g.csnp.start g.csnp.end (ids_of (claims_in g.entries)) in
      lived_as (parsing.csnp g.csnp) (originated_if_changed w) g.is g.after
      (then_originated None w
      (then_lived None id (get v.database id) (get heard.db id) (get w.database id) (entries_lived (up_ports v) q (claims_in g.entries) (holding_of v) id)
      (each_lived None (λ x e. flag_if (missed x e) q e) heard.db id (λ e. flag_leaves q e (missed id e)))))
  frame_lived (by_psnp g) =
      let w : BridgeView = heard_psnp g.entries q v in
      lived_as (parsing.psnp g.psnp) (originated_if_changed w) g.is g.after (then_originated None w (entries_lived (up_ports v) q (claims_in g.entries) (holding_of v) id))

pub frames_keep_living : FramesKeepLiving
frames_keep_living v p bytes id = frame_lived p bytes v id (frame_step v p bytes)

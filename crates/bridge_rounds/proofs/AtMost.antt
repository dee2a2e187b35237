-- Where all that is claimed of an id is at most what is held, its version stands.
use Rattle.std.proofs.Common.{◌≡◌, inl, inr, ℕ, ◌-◌, Bool, true, false, List, [], ◌∷◌, refl, sym, ap, ◌∙◌, subst, Option, Some, None}
use Rattle.std.specs.Prelude.{◌&&◌, slice_set, if◌then◌else◌}
use Rattle.std.specs.FinMap.{get}
use Rattle.std.proofs.lemmas.Bool.{true≢false}
use Rattle.std.proofs.lemmas.List.{set-set}
use Rattle.spb_types.specs.declared.address.LspId.{LspId}
use Rattle.spb_types.specs.declared.ports.PortSet.{PortSet}
use Rattle.spb_types.specs.Address.{same_system}
use Rattle.lsdb.specs.declared.version.Version.{Version}
use Rattle.lsdb.specs.declared.version.Relation.{Relation}
use Rattle.lsdb.specs.Version.{number_of, IsAtMost, is_absent, relation}
use Rattle.lsdb.specs.Entry.{Entry, flagged, srm_set_at, flags_cleared_at}
use Rattle.lsdb.specs.Database.{Lsps, version_in, version_at, each}
use Rattle.lsdb.specs.Certificate.{Claim, IsClaimed}
use Rattle.lsdb.proofs.LookupLemmas.{get-each, same_or_not}
use Rattle.flooding.specs.declared.own.Own.{Own}
use Rattle.flooding.specs.Own.{own_number, answered}
use Rattle.flooding.specs.Hearing.{Holding, claim_of, lsp_rule, snp_rule, is_beyond, after_claim, is_full, hear_entry_of}
use Rattle.flooding.specs.Settling.{settled, IsLspCurrent}
use Rattle.flooding.proofs.Claimed.{SaysOfHeld, lsp_rule_says, snp_rule_says, others_stand, heard_stands, full_stands}
use Rattle.flooding.proofs.Heard.{Rule}
use Rattle.flooding.proofs.Steps.{beyond_is}
use Rattle.snp_sync.specs.Hearing.{claims_in, hear_entries_of}
use Rattle.adjacency.specs.declared.state.AdjacencyChange.{AdjacencyChange}
use Rattle.adjacency.specs.declared.state.AdjacencyChange.TheVariants.{Discarded, Kept, LeftUp, CameUp}
use Rattle.adjacency.specs.Adjacency.{after_hello, change_by_hello}
use Rattle.bridge_api.specs.declared.port.BridgePort.{BridgePort}
use Rattle.bridge_api.specs.View.{BridgeView, with_port_at, up_ports}
use Rattle.bridge_api.specs.Own.{neighbours_from, bodies_of, body_at, own_entry, holding_of, originated_if_changed}
use Rattle.bridge_api.specs.Parsing.{Parsed, parsed}
use Rattle.bridge_api.specs.Parsing as parsing
use Rattle.bridge_api.specs.Hearing.{with_csnp_due, with_adjacency, left_up, all_srm_set_at, changed_at}
use Rattle.bridge_api.specs.Step.{frame, step}
use Rattle.bridge_api.specs.Laws.{IsSoundView, claims_said, claims_or_none}
use Rattle.bridge_api.proofs.Bodies.{held_bodies, moved_bodies, same_at}
use Rattle.bridge_api.proofs.Changes.{FrameStep, idle, by_hello, by_lsp, by_csnp, by_psnp, frame_step, originated_if_changed_ports}
use Rattle.bridge_api.proofs.OwnLspSteps.{IsSaying, was_saying, saying_settles, mapped_says, neighbours_with_csnp_due, lsp_settles_nothing, csnp_settles_nothing, psnp_settles_nothing}
use Rattle.bridge_api.proofs.Sound.{steps_stay_sound}
use Rattle.bridge_laws.proofs.Learning.{LeavesLsp, each_same, spared_same, missed_same, LeavesWithin, lsp_rule_leaves, snp_rule_leaves}
use Rattle.bridge_rounds.specs.Versions.{AtMostStands}
use Rattle.bridge_rounds.proofs.Folds.{claim_first, claim_later}

-- each of these claims of an id is at most a version
abbrev AreWithin : List Claim → LspId → Version → Type 0
AreWithin claims id held = (a : Version) → IsClaimed claims id a → IsAtMost a held

-- ---- claims

not_answered : (rule : Rule) (up : PortSet) (own : Own) (id : LspId) (a : Version) (r : Relation) (held : Option Entry) (mine : Bool) → is_beyond r ≡ false
    → (if mine && is_beyond r then Some (answered up own id (number_of a)) else rule r held) ≡ rule r held
not_answered rule up own id a r held true within = ap (λ (b : Bool). if b then Some (answered up own id (number_of a)) else rule r held) within
not_answered rule up own id a r held false within = refl

within : (a held : Version) (b : Bool) → is_beyond (relation a held) ≡ b → IsAtMost a held → is_beyond (relation a held) ≡ false
within a held true is low = absurd (true≢false (sym low ∙ beyond_is a held (relation a held) refl is))
within a held false is low = is

claim_stands_by : (rule : Rule) (up : PortSet) (c : Claim) (h : Holding) (full : Bool) → LeavesWithin rule → SaysOfHeld rule → is_full rule up c h ≡ full
    → IsAtMost c.version (version_at h.db c.id) → version_at (after_claim rule up c h).db c.id ≡ version_at h.db c.id
claim_stands_by rule up c h true leaves says full low = ap (λ (g : Holding). version_at g.db c.id) (full_stands rule up c h full)
claim_stands_by rule up c h false leaves says there low =
    let held = get h.db c.id in
    let r = relation c.version (version_in held) in
    let inside : is_beyond r ≡ false = within c.version (version_in held) (is_beyond r) refl low in
    ap version_in (heard_stands rule says up c h there ∙ not_answered rule up h.own c.id c.version r held (same_system c.id.system h.own.system) inside)
    ∙ (leaves r held inside).version

claim_stands : (rule : Rule) (up : PortSet) (c : Claim) (h : Holding) (id : LspId) → LeavesWithin rule → SaysOfHeld rule → AreWithin (c ∷ []) id (version_at h.db id)
    → version_at (after_claim rule up c h).db id ≡ version_at h.db id
claim_stands rule up c h id leaves says low =
    elim (same_or_not id c.id) [
      | inl here ↦
          subst (λ (x : LspId). version_at (after_claim rule up c h).db x ≡ version_at h.db x) (sym here)
          (claim_stands_by rule up c h (is_full rule up c h) leaves says refl (subst (λ (x : LspId). IsAtMost c.version (version_at h.db x)) here (low c.version (inl (sym here, refl)))))
      | inr other ↦ ap version_in (others_stand rule up c h id other)
    ]

first_within : (c : Claim) (claims : List Claim) (id : LspId) (held : Version) → AreWithin (c ∷ claims) id held → AreWithin (c ∷ []) id held
first_within c claims id held low a (inl here) = low a (inl here)
first_within c claims id held low a (inr none) = absurd none

entries_stand : (up : PortSet) (port : ℕ) (claims : List Claim) (h : Holding) (id : LspId) → AreWithin claims id (version_at h.db id)
    → version_at (hear_entries_of up port claims h).db id ≡ version_at h.db id
entries_stand up port [] h id low = refl
entries_stand up port (c ∷ claims) h id low =
    let g : Holding = hear_entry_of up port c h in
    let first : version_at g.db id ≡ version_at h.db id =
    claim_stands (snp_rule up port c.version) up c h id (snp_rule_leaves up port c.version) (snp_rule_says up port c.version) (first_within c claims id (version_at h.db id) low) in
    entries_stand up port claims g id (λ a claimed. subst (IsAtMost a) (sym first) (low a (inr claimed))) ∙ first

-- ---- a hello

-- a bridge that has the same to say as before, with other ports and flags
says_again : (ports : List BridgePort) (db : Lsps) (v : BridgeView) → ((number : ℕ) → body_at (record v { ports = ports; database = db }) number ≡ body_at v number)
    → ((number : ℕ) → IsLspCurrent (body_at v number) (own_entry v number) → IsLspCurrent (body_at v number) (get db (own_number v.id.system number)))
    → IsSaying v → IsSaying (record v { ports = ports; database = db })
says_again ports db v same keeps was fresh number below =
    subst (λ (b : Option (List ℕ)). IsLspCurrent b (get db (own_number v.id.system number))) (sym (same number)) (keeps number (was fresh number below))

body_settled : (v : BridgeView) (number : ℕ) → body_at (originated_if_changed v) number ≡ body_at v number
unfolding originated_if_changed
body_settled v number = same_at number (bodies_of (originated_if_changed v)) (bodies_of v) (held_bodies (settled (up_ports v) (holding_of v)) v)

cleared_says : (text : Option (List ℕ)) (p : ℕ) (e : Entry) → IsLspCurrent text (Some e) → IsLspCurrent text (Some (flags_cleared_at p e))
cleared_says None p e says = says
cleared_says (Some body) p e says = says

leaves_cleared : (p : ℕ) → LeavesLsp (flags_cleared_at p)
leaves_cleared p e = record { version = refl; body = refl }

leaves_set : (p : ℕ) → LeavesLsp (srm_set_at p)
leaves_set p e = spared_same (flagged p) e (is_absent e.version) (record { version = refl; body = refl })

module _ (q : ℕ) (port : BridgePort) (v : BridgeView) (id : LspId) (was : IsSaying v) where
  abbrev left : BridgeView
  left = left_up q port v

  left_saying : ((number : ℕ) → body_at left number ≡ body_at v number) → IsSaying left
  left_saying same =
      says_again (slice_set v.ports (q - 1) (with_csnp_due false port)) (each (λ x e. flags_cleared_at q e) v.database) v same
      (λ number says. subst (IsLspCurrent (body_at v number)) (sym (get-each (λ x e. flags_cleared_at q e) v.database (own_number v.id.system number)))
      (mapped_says (body_at v number) (flags_cleared_at q) (own_entry v number) (cleared_says (body_at v number) q) says)) was

  left_stands : version_at left.database id ≡ version_at v.database id
  left_stands = (each_same (λ x e. flags_cleared_at q e) v.database id (leaves_cleared q)).version

  -- whether CSNPs are due isn't said
  entered_bodies : (number : ℕ) → body_at (all_srm_set_at q port (originated_if_changed left)) number ≡ body_at left number
  entered_bodies number =
      let x : BridgeView = originated_if_changed left in
      let ports : x.ports ≡ slice_set v.ports (q - 1) (with_csnp_due false port) = originated_if_changed_ports left in
      let same : neighbours_from 1 (slice_set x.ports (q - 1) (with_csnp_due true port)) ≡ neighbours_from 1 x.ports =
      ap (λ (list : List BridgePort). neighbours_from 1 (slice_set list (q - 1) (with_csnp_due true port))) ports
      ∙ (ap (neighbours_from 1) (set-set v.ports (q - 1) (with_csnp_due false port) (with_csnp_due true port))
      ∙ (neighbours_with_csnp_due 1 (q - 1) port v.ports ∙ ap (neighbours_from 1) (sym ports))) in
      same_at number (bodies_of (all_srm_set_at q port x)) (bodies_of x)
      (moved_bodies (slice_set x.ports (q - 1) (with_csnp_due true port)) (each (λ y e. srm_set_at q e) x.database) x same)
      ∙ body_settled left number

  changed_stands : (change : AdjacencyChange) → ((number : ℕ) → body_at (changed_at change q port v) number ≡ body_at v number) → version_at (changed_at change q port v).database id ≡ version_at v.database id
  changed_stands Discarded same = refl
  changed_stands Kept same =
      let u : BridgeView = with_port_at q port v in
      ap (λ (x : BridgeView). version_at x.database id) (saying_settles u (says_again (slice_set v.ports (q - 1) port) v.database v (λ number. sym (body_settled u number) ∙ same number) (λ number says. says) was))
  changed_stands LeftUp same =
      ap (λ (x : BridgeView). version_at x.database id) (saying_settles left (left_saying (λ number. sym (body_settled left number) ∙ same number))) ∙ left_stands
  changed_stands CameUp same =
      let x : BridgeView = originated_if_changed left in
      (each_same (λ y e. srm_set_at q e) x.database id (leaves_set q)).version
      ∙ (ap (λ (y : BridgeView). version_at y.database id) (saying_settles left (left_saying (λ number. sym (entered_bodies number) ∙ same number))) ∙ left_stands)

-- ---- a frame

module _ (q : ℕ) (bytes : List ℕ) (v : BridgeView) (id : LspId) (was : IsSoundView v) (same : (number : ℕ) → body_at (step (frame q bytes) v) number ≡ body_at v number)
    (low : AreWithin (claims_said (parsed bytes)) id (version_at v.database id)) where
  low_as : (j : Parsed) → parsed bytes ≡ j → AreWithin (claims_said j) id (version_at v.database id)
  low_as j is = subst (λ (i : Parsed). AreWithin (claims_said i) id (version_at v.database id)) is low

  stands_by : FrameStep v q bytes (step (frame q bytes) v) → version_at (step (frame q bytes) v).database id ≡ version_at v.database id
  stands_by (idle learned how e) = ap (λ (w : BridgeView). version_at w.database id) e
  stands_by (by_hello g) =
      let change = change_by_hello v.id.system q g.hello g.way g.port.adjacency in
      let port = with_adjacency (after_hello v.id.system q g.hello g.way g.port.adjacency) g.port in
      ap (λ (w : BridgeView). version_at w.database id) g.after
      ∙ changed_stands q port v id (was_saying v was) change (λ number. subst (λ (w : BridgeView). body_at w number ≡ body_at v number) g.after (same number))
  stands_by (by_lsp g) =
      ap (λ (w : BridgeView). version_at w.database id) (g.after ∙ lsp_settles_nothing v g.lsp q was)
      ∙ claim_stands (lsp_rule (up_ports v) q g.lsp) (up_ports v) (claim_of g.lsp) (holding_of v) id (lsp_rule_leaves (up_ports v) q g.lsp) (lsp_rule_says (up_ports v) q g.lsp) (low_as (parsing.lsp g.lsp) g.is)
  stands_by (by_csnp g) =
      let claims : List Claim = claims_in g.entries in
      let under : AreWithin claims id (version_at v.database id) = subst (λ es. AreWithin (claims_or_none es) id (version_at v.database id)) g.read (low_as (parsing.csnp g.csnp) g.is) in
      ap (λ (w : BridgeView). version_at w.database id) (g.after ∙ csnp_settles_nothing v g.csnp g.entries q was)
      ∙ ((missed_same (up_ports v) q g.csnp.start g.csnp.end claims (holding_of v) id).version ∙ entries_stand (up_ports v) q claims (holding_of v) id under)
  stands_by (by_psnp g) =
      let claims : List Claim = claims_in g.entries in
      let under : AreWithin claims id (version_at v.database id) = subst (λ es. AreWithin (claims_or_none es) id (version_at v.database id)) g.read (low_as (parsing.psnp g.psnp) g.is) in
      ap (λ (w : BridgeView). version_at w.database id) (g.after ∙ psnp_settles_nothing v g.entries q was) ∙ entries_stand (up_ports v) q claims (holding_of v) id under

  pub frame_stands : version_at (step (frame q bytes) v).database id ≡ version_at v.database id
  frame_stands = stands_by (frame_step v q bytes)

-- ---- after all

pub at_most_stands : AtMostStands
at_most_stands v [] id was same low = refl
at_most_stands v (f ∷ fs) id was same low =
    let u : BridgeView = step (frame f.0 f.1) v in
    let first : version_at u.database id ≡ version_at v.database id = frame_stands f.0 f.1 v id was same.0 (λ a claimed. low a (f.0, claim_first f fs f.0 id a refl claimed)) in
    at_most_stands u fs id (steps_stay_sound (frame f.0 f.1) v tt was) same.1 (λ a claimed. subst (IsAtMost a) (sym first) (low a (claimed.0, claim_later f fs claimed.0 id a claimed.1)))
    ∙ first

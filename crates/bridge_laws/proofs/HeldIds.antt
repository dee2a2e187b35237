-- An id that is held after a step was held before, was claimed in what came in, or is an own one.
use Rattle.std.proofs.Common.{◌≤◌, ◌<◌, ◌≡◌, ◌≢◌, ◌⊎◌, inl, inr, ℕ, Bool, true, false, List, [], ◌∷◌, refl, sym, ap, ◌∙◌, subst, Option, Some, None, arith}
use Rattle.std.specs.Prelude.{IsSome, ◌++◌}
use Rattle.std.specs.Option.{option_map}
use Rattle.std.specs.List.{AllByRecursion}
use Rattle.std.specs.FinMap.{get}
use Rattle.spb_types.specs.declared.address.SystemId.{SystemId}
use Rattle.spb_types.specs.declared.address.LspId.{LspId}
use Rattle.spb_types.specs.declared.ports.PortSet.{PortSet}
use Rattle.isis_pdu.specs.Pdu.{CsnpValue}
use Rattle.lsdb.specs.declared.version.Version.{Version}
use Rattle.lsdb.specs.Version.{number_of}
use Rattle.lsdb.specs.Entry.{Entry, srm_set_at, flags_cleared_at}
use Rattle.lsdb.specs.Database.{Lsps, version_at, each}
use Rattle.lsdb.specs.Certificate.{Claim, IsClaimed}
use Rattle.lsdb.proofs.LookupLemmas.{get-each, same_or_not}
use Rattle.flooding.specs.Own.{last_number, own_numbers, own_number, IsOwnNumber, is_own_number}
use Rattle.flooding.specs.Settling.{says}
use Rattle.flooding.specs.Hearing.{Holding, claim_of, lsp_rule, snp_rule, hear_entry_of}
use Rattle.flooding.proofs.Claimed.{others_stand}
use Rattle.flooding.proofs.OwnNumbers.{own_is_number}
use Rattle.flooding.proofs.Settled.{settling_leaves_others}
use Rattle.snp_sync.specs.Hearing.{claims_in, hear_entries_of, ids_of, is_missed, flag_if, hear_csnp_of}
use Rattle.adjacency.specs.declared.state.AdjacencyChange.{AdjacencyChange}
use Rattle.adjacency.specs.declared.state.AdjacencyChange.TheVariants.{Discarded, Kept, LeftUp, CameUp}
use Rattle.adjacency.specs.Adjacency.{after_hello, change_by_hello, after_carrier, change_of}
use Rattle.spb_types.specs.declared.service.Attachment.{Attachment}
use Rattle.bridge_api.specs.declared.port.BridgePort.{BridgePort}
use Rattle.bridge_api.specs.View.{BridgeView, with_port_at, up_ports}
use Rattle.bridge_api.specs.Own.{holding_of, originated_if_changed}
use Rattle.bridge_api.specs.Parsing.{parsed}
use Rattle.bridge_api.specs.Parsing as parsing
use Rattle.bridge_api.specs.Hearing.{with_adjacency, left_up, changed_at, heard_lsp, heard_csnp, heard_psnp, with_port_metric}
use Rattle.bridge_api.specs.Customers.{after_entry}
use Rattle.bridge_api.specs.Services.{with_attached, without_customer_port, with_port_forgotten}
use Rattle.bridge_api.specs.Duties.{but_for_ssn}
use Rattle.bridge_api.specs.Step.{Input, second, frame, carrier, metric, attach, detach, customer, step}
use Rattle.bridge_api.specs.Laws.{claims_of, claims_said, claims_or_none}
use Rattle.bridge_laws.specs.Counting.{StepsHoldIds}
use Rattle.bridge_api.proofs.Changes.{FrameStep, idle, by_hello, by_lsp, by_csnp, by_psnp, frame_step, carrier_step, metric_step, attached_to}
use Rattle.bridge_api.proofs.TimeLsps.{second_ages}

-- ---- the own ids

-- where each own number is at n at most, and that is below the last one, each own id is
pub own_below : (n : ℕ) (system : SystemId) (db : Lsps) → n < last_number → ((number : ℕ) → number < own_numbers → number_of (version_at db (own_number system number)) ≤ n) → (id : LspId) → IsOwnNumber system id
    → number_of (version_at db id) < last_number
own_below n system db low each id own = subst (λ (x : LspId). number_of (version_at db x) < last_number) (sym own.is) (omega (arith, each own.number own.below, low))

-- ---- an id that no claim names

abbrev pub IsNamed : List Claim → LspId → Type 0
IsNamed claims id = (a : Version) × IsClaimed claims id a

abbrev pub AreOthers : LspId → List Claim → Type 0
AreOthers id claims = AllByRecursion (λ (c : Claim). id ≢ c.id) claims

pub named_or_not : (claims : List Claim) (id : LspId) → IsNamed claims id ⊎ AreOthers id claims
named_or_not [] id = inr tt
named_or_not (c ∷ claims) id =
    elim (same_or_not id c.id) [
      | inl here ↦ inl (c.version, inl (sym here, refl))
      | inr apart ↦ elim (named_or_not claims id) [
        | inl there ↦ inl (there.0, inr there.1)
        | inr others ↦ inr (apart, others)
      ]
    ]

pub unnamed_stands : (up : PortSet) (port : ℕ) (claims : List Claim) (h : Holding) (id : LspId) → AreOthers id claims → get (hear_entries_of up port claims h).db id ≡ get h.db id
unnamed_stands up port [] h id others = refl
unnamed_stands up port (c ∷ claims) h id others =
    unnamed_stands up port claims (hear_entry_of up port c h) id others.1 ∙ others_stand (snp_rule up port c.version) up c h id others.0

-- ---- an id that isn't held stays so

abbrev pub StaysOut : LspId → Lsps → Lsps → Type 0
StaysOut id old new = get old id ≡ None → get new id ≡ None

each_stays_out : (f : LspId → Entry → Entry) (db : Lsps) (id : LspId) → StaysOut id db (each f db)
each_stays_out f db id out = get-each f db id ∙ ap (option_map (f id)) out

same_stays_out : (id : LspId) (old new : Lsps) → get new id ≡ get old id → StaysOut id old new
same_stays_out id old new same out = same ∙ out

-- an origination changes nothing but the own LSPs
pub originated_others : (v : BridgeView) (id : LspId) → is_own_number v.id.system id ≡ false → get (originated_if_changed v).database id ≡ get v.database id
unfolding originated_if_changed
originated_others v id other = settling_leaves_others says (up_ports v) (holding_of v) id other

originated_out : (v : BridgeView) (old : Lsps) (id : LspId) → is_own_number v.id.system id ≡ false → StaysOut id old v.database → StaysOut id old (originated_if_changed v).database
originated_out v old id apart before out = originated_others v id apart ∙ before out

changed_out : (heard : AdjacencyChange) (p : ℕ) (port : BridgePort) (v : BridgeView) (id : LspId) → is_own_number v.id.system id ≡ false → StaysOut id v.database (changed_at heard p port v).database
changed_out Discarded p port v id apart out = out
changed_out Kept p port v id apart out = originated_out (with_port_at p port v) v.database id apart (λ none. none) out
changed_out LeftUp p port v id apart out = originated_out (left_up p port v) v.database id apart (each_stays_out (λ x e. flags_cleared_at p e) v.database id) out
changed_out CameUp p port v id apart out =
    each_stays_out (λ x e. srm_set_at p e) (originated_if_changed (left_up p port v)).database id
    (originated_out (left_up p port v) v.database id apart (each_stays_out (λ x e. flags_cleared_at p e) v.database id) out)

-- ---- what came in

nothing_but : (o n : Option Entry) → but_for_ssn n ≡ but_for_ssn o → o ≡ None → n ≡ None
nothing_but o None same out = refl
nothing_but o (Some e) same out = let wrong = same ∙ ap but_for_ssn out in absurd cc

second_out : (v : BridgeView) (id : LspId) → is_own_number v.id.system id ≡ false → StaysOut id v.database (step second v).database
second_out v id apart out = nothing_but (option_map _ (get v.database id)) (get (step second v).database id) (second_ages v id apart) (ap (option_map _) out)

csnp_out : (c : CsnpValue) (claims : List Claim) (p : ℕ) (v : BridgeView) (id : LspId) → AreOthers id claims → StaysOut id v.database (hear_csnp_of (up_ports v) p c.start c.end claims (holding_of v)).db
csnp_out c claims p v id others out =
    each_stays_out (λ x e. flag_if (is_missed c.start c.end (ids_of claims) x e) p e) (hear_entries_of (up_ports v) p claims (holding_of v)).db id
    (unnamed_stands (up_ports v) p claims (holding_of v) id others ∙ out)

module _ (q : ℕ) (bytes : List ℕ) (v : BridgeView) (id : LspId) (apart : is_own_number v.id.system id ≡ false) (others : AreOthers id (claims_said (parsed bytes))) where
  frame_out_by : FrameStep v q bytes (step (frame q bytes) v) → StaysOut id v.database (step (frame q bytes) v).database
  frame_out_by (idle learned how e) out = ap (λ (w : BridgeView). get w.database id) e ∙ out
  frame_out_by (by_hello g) out =
      ap (λ (w : BridgeView). get w.database id) g.after
      ∙ changed_out (change_by_hello v.id.system q g.hello g.way g.port.adjacency) q (with_adjacency (after_hello v.id.system q g.hello g.way g.port.adjacency) g.port) v id apart out
  frame_out_by (by_lsp g) out =
      let other : AreOthers id (claim_of g.lsp ∷ []) = subst (λ (j : parsing.Parsed). AreOthers id (claims_said j)) g.is others in
      ap (λ (w : BridgeView). get w.database id) g.after
      ∙ originated_out (heard_lsp g.lsp q v) v.database id apart (same_stays_out id v.database (heard_lsp g.lsp q v).database (others_stand (lsp_rule (up_ports v) q g.lsp) (up_ports v) (claim_of g.lsp) (holding_of v) id other.0)) out
  frame_out_by (by_csnp g) out =
      let other : AreOthers id (claims_in g.entries) = subst (λ es. AreOthers id (claims_or_none es)) g.read (subst (λ (j : parsing.Parsed). AreOthers id (claims_said j)) g.is others) in
      ap (λ (w : BridgeView). get w.database id) g.after ∙ originated_out (heard_csnp g.csnp g.entries q v) v.database id apart (csnp_out g.csnp (claims_in g.entries) q v id other) out
  frame_out_by (by_psnp g) out =
      let other : AreOthers id (claims_in g.entries) = subst (λ es. AreOthers id (claims_or_none es)) g.read (subst (λ (j : parsing.Parsed). AreOthers id (claims_said j)) g.is others) in
      ap (λ (w : BridgeView). get w.database id) g.after
      ∙ originated_out (heard_psnp g.entries q v) v.database id apart (same_stays_out id v.database (heard_psnp g.entries q v).database (unnamed_stands (up_ports v) q (claims_in g.entries) (holding_of v) id other)) out

attached_out : (attached : List Attachment) (v : BridgeView) (id : LspId) → is_own_number v.id.system id ≡ false → StaysOut id v.database (with_attached attached v).database
unfolding with_attached
attached_out attached v id apart out = originated_out (attached_to attached v) v.database id apart (λ none. none) out

pub step_out : (input : Input) (v : BridgeView) (id : LspId) → is_own_number v.id.system id ≡ false → AreOthers id (claims_of input) → StaysOut id v.database (step input v).database
unfolding with_port_forgotten after_entry
step_out second v id apart others out = second_out v id apart out
step_out (frame q bytes) v id apart others out = frame_out_by q bytes v id apart others (frame_step v q bytes) out
step_out (carrier q on) v id apart others out =
    elim (carrier_step v q on) [
      | inl e ↦ ap (λ (w : BridgeView). get w.database id) e ∙ out
      | inr g ↦ ap (λ (w : BridgeView). get w.database id) g.after ∙ changed_out (change_of g.port.adjacency (after_carrier on g.port.adjacency)) q (with_adjacency (after_carrier on g.port.adjacency) g.port) v id apart out
    ]
step_out (metric q m) v id apart others out =
    elim (metric_step v q m) [
      | inl e ↦ ap (λ (w : BridgeView). get w.database id) e ∙ out
      | inr g ↦ ap (λ (w : BridgeView). get w.database id) g.after ∙ originated_out (with_port_at q (with_port_metric m g.port) v) v.database id apart (λ none. none) out
    ]
step_out (attach a) v id apart others out = attached_out (v.attached ++ a ∷ []) v id apart out
step_out (detach p) v id apart others out = attached_out (without_customer_port p v.attached) (with_port_forgotten p v) id apart out
step_out (customer p bytes) v id apart others out = out

-- ---- the law

held_by : (o : Option Entry) (input : Input) (v : BridgeView) (id : LspId) (e : Entry) → get v.database id ≡ o → get (step input v).database id ≡ Some e
    → IsSome (get v.database id) ⊎ (IsNamed (claims_of input) id ⊎ IsOwnNumber v.id.system id)
held_by (Some d) input v id e before after = inl (subst (λ (o : Option Entry). IsSome o) (sym before) refl)
held_by None input v id e before after = by_number (is_own_number v.id.system id) refl
  where
    by_number : (b : Bool) → is_own_number v.id.system id ≡ b → IsSome (get v.database id) ⊎ (IsNamed (claims_of input) id ⊎ IsOwnNumber v.id.system id)
    by_number true own = inr (inr (own_is_number v.id.system id own))
    by_number false apart =
        elim (named_or_not (claims_of input) id) [
          | inl named ↦ inr (inl named)
          | inr others ↦ let wrong : None ≡ Some e = sym (step_out input v id apart others before) ∙ after in absurd cc
        ]

pub steps_hold_ids : StepsHoldIds
steps_hold_ids input v id e after = held_by (get v.database id) input v id e refl after

-- By a second or a frame no id comes to be held but by a claim of a version that isn't absent.
use Rattle.std.proofs.Common.{◌≡◌, ◌≢◌, ◌⊎◌, inl, inr, ℕ, zero, suc, ◌*◌, ◌<◌, Bool, true, false, List, [], ◌∷◌, map, refl, sym, ap, ◌∙◌, subst, Option, Some, None}
use Rattle.std.specs.Prelude.{IsSome, ◌&&◌, take, drop, if◌then◌else◌}
use Rattle.std.specs.Option.{option_map}
use Rattle.std.specs.List.{AllByRecursion}
use Rattle.std.specs.FinMap.{get}
use Rattle.std.proofs.lemmas.Bool.{true≢false, cases_lt}
use Rattle.spb_types.specs.declared.address.LspId.{LspId}
use Rattle.spb_types.specs.declared.graph.Member.{Member}
use Rattle.spb_types.specs.declared.ports.PortSet.{PortSet}
use Rattle.spb_types.specs.Address.{same_system}
use Rattle.lsdb.specs.declared.version.Version.{Version}
use Rattle.lsdb.specs.declared.version.Version.TheVariants.{Absent, Live, Dead}
use Rattle.lsdb.specs.declared.version.Relation.{Relation}
use Rattle.lsdb.specs.declared.version.Relation.TheVariants.{Equal}
use Rattle.lsdb.specs.Version.{number_of, relation}
use Rattle.lsdb.specs.Entry.{Entry, srm_set_at, flags_cleared_at}
use Rattle.lsdb.specs.Database.{Lsps, version_in}
use Rattle.lsdb.specs.Certificate.{Claim, IsClaimed}
use Rattle.lsdb.proofs.LookupLemmas.{get-each, same_or_not}
use Rattle.lsdb.proofs.Order.{equal_is_same}
use Rattle.flooding.specs.Own.{own_numbers, own_number, is_own_number, answered}
use Rattle.flooding.specs.Settling.{Test, says, is_new, IsLspCurrent}
use Rattle.flooding.specs.Hearing.{Holding, claim_of, lsp_rule, snp_rule, heard_by, after_claim, hear_entry_of}
use Rattle.flooding.proofs.Heard.{Rule}
use Rattle.flooding.proofs.Claimed.{heard_of, lacks, entered, db_after, others_stand}
use Rattle.flooding.proofs.OwnNumbers.{own_is_number}
use Rattle.flooding.proofs.Settled.{settling_leaves_others, settling_stands}
use Rattle.snp_sync.specs.Hearing.{claims_in, hear_entries_of, ids_of, is_missed, flag_if}
use Rattle.spb_content.specs.Local.{service_tlvs}
use Rattle.spb_content.specs.Members.{merged}
use Rattle.spb_content.specs.Fragments.{part_of, unless_none, fragment}
use Rattle.adjacency.specs.declared.state.AdjacencyChange.{AdjacencyChange}
use Rattle.adjacency.specs.declared.state.AdjacencyChange.TheVariants.{Discarded, Kept, LeftUp, CameUp}
use Rattle.adjacency.specs.Adjacency.{after_hello, change_by_hello}
use Rattle.bridge_api.specs.declared.port.BridgePort.{BridgePort}
use Rattle.bridge_api.specs.View.{BridgeView, with_port_at, up_ports}
use Rattle.bridge_api.specs.Own.{member_of, local_of, body_at, own_entry, holding_of, originated_if_changed}
use Rattle.bridge_api.specs.Parsing.{Parsed, parsed}
use Rattle.bridge_api.specs.Hearing.{with_adjacency, left_up, changed_at}
use Rattle.bridge_api.specs.Duties.{but_for_ssn}
use Rattle.bridge_api.specs.Ticking.{readied}
use Rattle.bridge_api.specs.Step.{Input, second, frame, carrier, metric, attach, detach, customer, step}
use Rattle.bridge_api.specs.Laws.{IsSoundView, claims_of, claims_said, claims_or_none}
use Rattle.bridge_api.proofs.Bodies.{in_lsp, body_at_is, no_body}
use Rattle.bridge_api.proofs.Changes.{FrameStep, idle, by_hello, by_lsp, by_csnp, by_psnp, frame_step, settling}
use Rattle.bridge_api.proofs.OwnLspSteps.{lsp_settles_nothing, csnp_settles_nothing, psnp_settles_nothing}
use Rattle.bridge_api.proofs.TimeLsps.{expired_holds, second_holds}
use Rattle.bridge_laws.proofs.TimeOwn.{fallen, readied_own}
use Rattle.bridge_laws.proofs.Turns.{left_after}
use Rattle.bridge_rounds.specs.Hearing.{RoundsHoldIds, is_of_round}

-- ---- claims that bring an id, and those that don't

abbrev Brings : List Claim → LspId → Type 0
Brings claims id = (a : Version) × (IsClaimed claims id a × (a ≢ Absent))

-- each claim of the id says that it is absent
abbrev BringNothing : LspId → List Claim → Type 0
BringNothing id claims = AllByRecursion (λ (c : Claim). id ≡ c.id → c.version ≡ Absent) claims

absent_or_not : (a : Version) → (a ≡ Absent) ⊎ (a ≢ Absent)
absent_or_not Absent = inl refl
absent_or_not (Live seq sum) = inr (λ e. absurd cc)
absent_or_not (Dead seq) = inr (λ e. absurd cc)

brings_or_not : (claims : List Claim) (id : LspId) → Brings claims id ⊎ BringNothing id claims
brings_or_not [] id = inr tt
brings_or_not (c ∷ claims) id =
    elim (brings_or_not claims id) [
      | inl there ↦ inl (there.0, (inr there.1.0, there.1.1))
      | inr nothing ↦ elim (same_or_not id c.id) [
        | inl here ↦ elim (absent_or_not c.version) [
          | inl absent ↦ inr (λ e. absent, nothing)
          | inr other ↦ inl (c.version, (inl (sym here, refl), other))
        ]
        | inr apart ↦ inr (λ e. absurd (apart e), nothing)
      ]
    ]

-- ---- what isn't held, and is claimed as absent

-- a rule that makes nothing of that
abbrev Spares : Rule → Type 0
Spares rule = rule Equal None ≡ None

and_false : (b : Bool) → (b && false) ≡ false
and_false true = refl
and_false false = refl

entered_nothing : (out : Bool) (db : Lsps) (id : LspId) → get (entered out db id None) id ≡ get db id
entered_nothing true db id = refl
entered_nothing false db id = refl

module _ (rule : Rule) (spares : Spares rule) (up : PortSet) (c : Claim) (h : Holding) where
  heard_nothing : c.version ≡ Absent → get h.db c.id ≡ None → heard_of rule up c h ≡ None
  heard_nothing absent out =
      let held : Option Entry = get h.db c.id in
      let same : c.version ≡ version_in held = absent ∙ sym (ap version_in out) in
      let equal : relation c.version (version_in held) ≡ Equal = (equal_is_same c.version (version_in held)).1 same in
      ap (λ (r : Relation). heard_by rule up h.own c.id c.version r held) equal
      ∙ (ap (λ b. if b then Some (answered up h.own c.id (number_of c.version)) else rule Equal held) (and_false (same_system c.id.system h.own.system))
      ∙ (ap (rule Equal) out ∙ spares))

  claim_brings_nothing : (id : LspId) → (id ≡ c.id → c.version ≡ Absent) → get h.db id ≡ None → get (after_claim rule up c h).db id ≡ None
  claim_brings_nothing id absent out =
      elim (same_or_not id c.id) [
        | inl here ↦
            let none : get h.db c.id ≡ None = ap (get h.db) (sym here) ∙ out in
            ap (get (after_claim rule up c h).db) here
            ∙ (ap (λ (db : Lsps). get db c.id) (db_after rule up c h)
            ∙ (ap (λ (o : Option Entry). get (entered (lacks rule up c h) h.db c.id o) c.id) (heard_nothing (absent here) none)
            ∙ (entered_nothing (lacks rule up c h) h.db c.id ∙ none)))
        | inr apart ↦ others_stand rule up c h id apart ∙ out
      ]

entries_bring_nothing : (up : PortSet) (port : ℕ) (claims : List Claim) (h : Holding) (id : LspId) → BringNothing id claims → get h.db id ≡ None → get (hear_entries_of up port claims h).db id ≡ None
entries_bring_nothing up port [] h id nothing out = out
entries_bring_nothing up port (c ∷ claims) h id nothing out =
    entries_bring_nothing up port claims (hear_entry_of up port c h) id nothing.1 (claim_brings_nothing (snp_rule up port c.version) refl up c h id nothing.0 out)

-- ---- a number in which there is nothing to say

none_there : (ms : List Member) (x y : List ℕ) → in_lsp (unless_none ms x) ≡ None → in_lsp (unless_none ms y) ≡ None
none_there [] x y none = refl
none_there (m ∷ ms) x y none = absurd cc

-- of a bridge with the same ids and what is attached, whatever its neighbours
module _ (v w : BridgeView) (ids : w.id ≡ v.id) (attached : w.attached ≡ v.attached) where
  parts : (k : ℕ) → (part_of k (local_of w)).attached ≡ (part_of k (local_of v)).attached
  parts k = λ i. take 60 (drop (60 * k) (merged (ids i).system (map (member_of (ids i).system) (attached i))))

  no_fragment : (number : ℕ) → in_lsp (fragment (local_of v) number) ≡ None → in_lsp (fragment (local_of w) number) ≡ None
  unfolding fragment
  no_fragment zero none = absurd cc
  no_fragment (suc k) none =
      ap (λ (ms : List Member). in_lsp (unless_none ms (service_tlvs (part_of (suc k) (local_of w))))) (parts (suc k))
      ∙ none_there (part_of (suc k) (local_of v)).attached (service_tlvs (part_of (suc k) (local_of v))) (service_tlvs (part_of (suc k) (local_of w))) none

  still_none : (number : ℕ) → body_at v number ≡ None → body_at w number ≡ None
  still_none number none =
      elim (cases_lt number own_numbers) [
        | inl below ↦ body_at_is w number below ∙ no_fragment number (sym (body_at_is v number below) ∙ none)
        | inr past ↦ no_body w number past
      ]

-- an own number that a sound bridge doesn't hold is one
unheld_by : (v : BridgeView) (number : ℕ) (text : Option (List ℕ)) → IsLspCurrent text (own_entry v number) → own_entry v number ≡ None → text ≡ None
unheld_by v number None current out = refl
unheld_by v number (Some body) current out = let alive : IsLspCurrent (Some body) None = subst (IsLspCurrent (Some body)) out current in absurd alive.1

unheld_says_nothing : (v : BridgeView) (number : ℕ) → IsSoundView v → v.spent ≡ false → number < own_numbers → own_entry v number ≡ None → body_at v number ≡ None
unheld_says_nothing v number was fresh below out = unheld_by v number (body_at v number) (was.own.current fresh number below) out

-- ---- own LSPs brought up to date

-- where the id is an own number, the bridge has nothing to say in it
abbrev SaysNothing : BridgeView → LspId → Type 0
SaysNothing w id = (number : ℕ) → number < own_numbers → id ≡ own_number w.id.system number → w.spent ≡ false → body_at w number ≡ None

module _ (test : Test) (nothing_stands : test None None ≡ true) (w : BridgeView) where
  own_brings_nothing : (number : ℕ) (b : Bool) → w.spent ≡ b → number < own_numbers → (w.spent ≡ false → body_at w number ≡ None) → own_entry w number ≡ None → get (settling test w).database (own_number w.id.system number) ≡ None
  own_brings_nothing number true spent below silent out =
      ap (λ (h : Holding). get h.db (own_number w.id.system number)) (settling_stands test (up_ports w) (holding_of w) (λ fresh n low. absurd (true≢false (sym spent ∙ fresh)))) ∙ out
  own_brings_nothing number false fresh below silent out =
      let none : body_at w number ≡ None = silent fresh in
      left_after test (up_ports w) (holding_of w) number below ((λ i. test (none i) (out i)) ∙ nothing_stands) fresh ∙ out

  settling_by : (id : LspId) (b : Bool) → is_own_number w.id.system id ≡ b → SaysNothing w id → get w.database id ≡ None → get (settling test w).database id ≡ None
  settling_by id true own silent out =
      let n = own_is_number w.id.system id own in
      ap (get (settling test w).database) n.is ∙ own_brings_nothing n.number w.spent refl n.below (silent n.number n.below n.is) (ap (get w.database) (sym n.is) ∙ out)
  settling_by id false other silent out = settling_leaves_others test (up_ports w) (holding_of w) id other ∙ out

  settling_brings_nothing : (id : LspId) → SaysNothing w id → get w.database id ≡ None → get (settling test w).database id ≡ None
  settling_brings_nothing id silent out = settling_by id (is_own_number w.id.system id) refl silent out

-- of a sound bridge that doesn't hold the id
module _ (v : BridgeView) (was : IsSoundView v) (id : LspId) (out : get v.database id ≡ None) where
  says_nothing : (u : BridgeView) → u.id ≡ v.id → u.attached ≡ v.attached → u.spent ≡ v.spent → SaysNothing u id
  says_nothing u ids attached spent number below is fresh =
      let here : own_number v.id.system number ≡ id = sym (is ∙ ap (λ x. own_number x.system number) ids) in
      still_none v u ids attached number (unheld_says_nothing v number was (sym spent ∙ fresh) below (ap (get v.database) here ∙ out))

  originated_brings_nothing : (u : BridgeView) → u.id ≡ v.id → u.attached ≡ v.attached → u.spent ≡ v.spent → get u.database id ≡ None → get (originated_if_changed u).database id ≡ None
  unfolding originated_if_changed
  originated_brings_nothing u ids attached spent none = settling_brings_nothing says refl u id (says_nothing u ids attached spent) none

  left_brings_nothing : (p : ℕ) (port : BridgePort) → get (originated_if_changed (left_up p port v)).database id ≡ None
  left_brings_nothing p port =
      originated_brings_nothing (left_up p port v) refl refl refl (get-each (λ x e. flags_cleared_at p e) v.database id ∙ ap (option_map (flags_cleared_at p)) out)

  changed_brings_nothing : (heard : AdjacencyChange) (p : ℕ) (port : BridgePort) → get (changed_at heard p port v).database id ≡ None
  changed_brings_nothing Discarded p port = out
  changed_brings_nothing Kept p port = originated_brings_nothing (with_port_at p port v) refl refl refl out
  changed_brings_nothing LeftUp p port = left_brings_nothing p port
  changed_brings_nothing CameUp p port =
      get-each (λ x e. srm_set_at p e) (originated_if_changed (left_up p port v)).database id ∙ ap (option_map (srm_set_at p)) (left_brings_nothing p port)

  -- ---- a frame

  frame_by : (q : ℕ) (bytes : List ℕ) → BringNothing id (claims_said (parsed bytes)) → FrameStep v q bytes (step (frame q bytes) v) → get (step (frame q bytes) v).database id ≡ None
  frame_by q bytes nothing (idle learned how e) = ap (λ (w : BridgeView). get w.database id) e ∙ out
  frame_by q bytes nothing (by_hello g) =
      ap (λ (w : BridgeView). get w.database id) g.after
      ∙ changed_brings_nothing (change_by_hello v.id.system q g.hello g.way g.port.adjacency) q (with_adjacency (after_hello v.id.system q g.hello g.way g.port.adjacency) g.port)
  frame_by q bytes nothing (by_lsp g) =
      let none : BringNothing id (claim_of g.lsp ∷ []) = subst (λ (j : Parsed). BringNothing id (claims_said j)) g.is nothing in
      ap (λ (w : BridgeView). get w.database id) (g.after ∙ lsp_settles_nothing v g.lsp q was)
      ∙ claim_brings_nothing (lsp_rule (up_ports v) q g.lsp) refl (up_ports v) (claim_of g.lsp) (holding_of v) id none.0 out
  frame_by q bytes nothing (by_csnp g) =
      let none : BringNothing id (claims_in g.entries) = subst (λ es. BringNothing id (claims_or_none es)) g.read (subst (λ (j : Parsed). BringNothing id (claims_said j)) g.is nothing) in
      let heard : Holding = hear_entries_of (up_ports v) q (claims_in g.entries) (holding_of v) in
      let flag : LspId → Entry → Entry = λ x e. flag_if (is_missed g.csnp.start g.csnp.end (ids_of (claims_in g.entries)) x e) q e in
      ap (λ (w : BridgeView). get w.database id) (g.after ∙ csnp_settles_nothing v g.csnp g.entries q was)
      ∙ (get-each flag heard.db id ∙ ap (option_map (flag id)) (entries_bring_nothing (up_ports v) q (claims_in g.entries) (holding_of v) id none out))
  frame_by q bytes nothing (by_psnp g) =
      let none : BringNothing id (claims_in g.entries) = subst (λ es. BringNothing id (claims_or_none es)) g.read (subst (λ (j : Parsed). BringNothing id (claims_said j)) g.is nothing) in
      ap (λ (w : BridgeView). get w.database id) (g.after ∙ psnp_settles_nothing v g.entries q was)
      ∙ entries_bring_nothing (up_ports v) q (claims_in g.entries) (holding_of v) id none out

  -- ---- a second

  nothing_but : (o n : Option Entry) → but_for_ssn n ≡ but_for_ssn o → o ≡ None → n ≡ None
  nothing_but o None same none = refl
  nothing_but o (Some e) same none = let wrong = same ∙ ap but_for_ssn none in absurd cc

  second_brings_nothing : get (step second v).database id ≡ None
  second_brings_nothing =
      let none : get (fallen v).database id ≡ None = expired_holds v id ∙ ap (option_map _) out in
      nothing_but (get (readied v).database id) (get (step second v).database id) (second_holds v id)
      (readied_own v id ∙ settling_brings_nothing is_new refl (fallen v) id (says_nothing (fallen v) refl refl refl) none)

-- ---- the law

step_brings_nothing : (input : Input) (v : BridgeView) (id : LspId) → IsSoundView v → is_of_round input ≡ true → BringNothing id (claims_of input) → get v.database id ≡ None → get (step input v).database id ≡ None
step_brings_nothing second v id was of nothing out = second_brings_nothing v was id out
step_brings_nothing (frame q bytes) v id was of nothing out = frame_by v was id out q bytes nothing (frame_step v q bytes)
step_brings_nothing (carrier q on) v id was of nothing out = absurd (true≢false (sym of))
step_brings_nothing (metric q m) v id was of nothing out = absurd (true≢false (sym of))
step_brings_nothing (attach a) v id was of nothing out = absurd (true≢false (sym of))
step_brings_nothing (detach p) v id was of nothing out = absurd (true≢false (sym of))
step_brings_nothing (customer p bytes) v id was of nothing out = absurd (true≢false (sym of))

held_by : (o : Option Entry) (input : Input) (v : BridgeView) (id : LspId) (e : Entry) → IsSoundView v → is_of_round input ≡ true → get v.database id ≡ o → get (step input v).database id ≡ Some e
    → IsSome (get v.database id) ⊎ Brings (claims_of input) id
held_by (Some d) input v id e was of before after = inl (subst (λ (o : Option Entry). IsSome o) (sym before) refl)
held_by None input v id e was of before after =
    elim (brings_or_not (claims_of input) id) [
      | inl some ↦ inr some
      | inr nothing ↦ let wrong : None ≡ Some e = sym (step_brings_nothing input v id was of nothing before) ∙ after in absurd cc
    ]

pub rounds_hold_ids : RoundsHoldIds
rounds_hold_ids input v id e was of after = held_by (get v.database id) input v id e was of refl after

-- What grows by one at most in a step in which nothing is claimed: each origination makes one more of it, and in a step
-- there is one origination at most.
use Rattle.std.proofs.Common.{◌≡◌, inl, inr, ◌+◌, ◌-◌, ℕ, Bool, true, false, true≢false, List, [], ◌∷◌, refl, sym, ap, ◌∙◌, subst, Option, Some, None}
use Rattle.std.specs.Prelude.{nat_le, is_some, if◌then◌else◌}
use Rattle.std.specs.Option.{option_map}
use Rattle.spb_types.specs.declared.address.SystemId.{SystemId}
use Rattle.spb_types.specs.declared.address.LspId.{LspId}
use Rattle.spb_types.specs.declared.ports.PortSet.{PortSet}
use Rattle.lsdb.specs.declared.version.Version.{Version}
use Rattle.lsdb.specs.declared.version.Version.TheVariants.{Absent, Live, Dead}
use Rattle.lsdb.specs.Version.{number_of, is_absent}
use Rattle.lsdb.specs.Entry.{Entry, made, with_ssn, flagged, srm_set_at, flags_cleared_at, aged_at, aged}
use Rattle.lsdb.specs.Database.{Lsps, version_in, each}
use Rattle.flooding.specs.Hearing.{Holding}
use Rattle.flooding.specs.Settling.{Test, says, is_new, settled_by}
use Rattle.snp_sync.specs.SnpEntries.{has_ssn_at}
use Rattle.snp_sync.specs.Sending.{ssn_cleared as ssn_cleared_entry, all_ssn_cleared}
use Rattle.adjacency.specs.declared.state.AdjacencyChange.{AdjacencyChange}
use Rattle.adjacency.specs.declared.state.AdjacencyChange.TheVariants.{Discarded, Kept, LeftUp, CameUp}
use Rattle.adjacency.specs.Adjacency.{after_hello, change_by_hello, after_carrier, change_of}
use Rattle.spb_types.specs.declared.service.Attachment.{Attachment}
use Rattle.bridge_api.specs.declared.port.BridgePort.{BridgePort}
use Rattle.bridge_api.specs.View.{BridgeView, with_port_at, is_port_up, up_ports}
use Rattle.bridge_api.specs.Own.{holding_of, originated_if_changed}
use Rattle.bridge_api.specs.Parsing.{Parsed, hello_in, is_hello}
use Rattle.bridge_api.specs.Hearing.{with_adjacency, left_up, changed_at, with_port_metric}
use Rattle.bridge_api.specs.Ticking.{leaving_from, flags_cleared_at_all, counts_lowered, expired, refreshed, readied, after_sending_at, after_sending_from}
use Rattle.bridge_api.specs.Services.{with_attached}
use Rattle.bridge_api.specs.Customers.{after_entry}
use Rattle.bridge_api.specs.Step.{second, frame, carrier, metric, customer, step}
use Rattle.bridge_api.proofs.Changes.{FrameStep, idle, by_hello, by_lsp, by_csnp, by_psnp, frame_step, carrier_step, metric_step, tick_is, attached_to}

-- ---- numbers of entries

pub number_each : (f : Entry → Entry) (o : Option Entry) → ((e : Entry) → number_of (f e).version ≡ number_of e.version) → number_of (version_in (option_map f o)) ≡ number_of (version_in o)
number_each f None same = refl
number_each f (Some e) same = same e

pub number_after_sending : (p : ℕ) (e : Entry) (b : Bool) → number_of (if b then with_ssn p false e else e).version ≡ number_of e.version
number_after_sending p e true = refl
number_after_sending p e false = refl

pub number_srm_set : (p : ℕ) (e : Entry) (b : Bool) → number_of (if b then e else flagged p e).version ≡ number_of e.version
number_srm_set p e true = refl
number_srm_set p e false = refl

pub number_flags_cleared : (ps : List ℕ) (e : Entry) → number_of (flags_cleared_at_all ps e).version ≡ number_of e.version
number_flags_cleared [] e = refl
number_flags_cleared (p ∷ ps) e = number_flags_cleared ps (flags_cleared_at p e)

number_dying : (b : Bool) (up : PortSet) (e : Entry) (seq sum lifetime : ℕ) → e.version ≡ Live seq sum → number_of (if b then made (Dead seq) 0 [] up e.ssn else record e { lifetime = lifetime }).version ≡ seq
number_dying true up e seq sum lifetime is = refl
number_dying false up e seq sum lifetime is = ap number_of is

pub number_aged : (up : PortSet) (e : Entry) (a : Version) → e.version ≡ a → number_of (aged_at up e a).version ≡ number_of a
number_aged up e Absent is = ap number_of is
number_aged up e (Live seq sum) is = number_dying (nat_le e.lifetime 1) up e seq sum (e.lifetime - 1) is
number_aged up e (Dead seq) is = ap number_of is

-- ---- what grows

-- of a system with this database, spent or not, by a number: an entry changed that keeps its number changes nothing of
-- it, and own LSPs that are brought up to date make one more of it, where the number is low
pub record Grows (Low : ℕ → Type 0) (P : ℕ → SystemId → Lsps → Bool → Type 0) : Type 0 where
  pub more : (n : ℕ) (system : SystemId) (db : Lsps) (spent : Bool) → P n system db spent → P (n + 1) system db spent
  pub stays : (n : ℕ) (system : SystemId) (f : LspId → Entry → Entry) (db : Lsps) (spent : Bool)
      → ((x : LspId) (e : Entry) → number_of (f x e).version ≡ number_of e.version) → P n system db spent → P n system (each f db) spent
  pub settles : (n : ℕ) (stands : Test) (up : PortSet) (h : Holding) → Low n → P n h.own.system h.db h.own.spent
      → P (n + 1) h.own.system (settled_by stands up h).db (settled_by stands up h).own.spent

module _ (Low : ℕ → Type 0) (P : ℕ → SystemId → Lsps → Bool → Type 0) (grows : Grows Low P) where
  abbrev Of : ℕ → BridgeView → Type 0
  Of n v = P n v.id.system v.database v.spent

  one_more : (n : ℕ) (v : BridgeView) → Of n v → Of (n + 1) v
  one_more n v was = grows.more n v.id.system v.database v.spent was

  -- nothing of it is learned
  pub entry_grows : (n p : ℕ) (bytes : List ℕ) (v : BridgeView) → Of n v → Of (n + 1) (step (customer p bytes) v)
  unfolding after_entry
  entry_grows n p bytes v was = one_more n v was

  -- ---- own LSPs are brought up to date

  originated_grows : (n : ℕ) (v : BridgeView) → Low n → Of n v → Of (n + 1) (originated_if_changed v)
  unfolding originated_if_changed
  originated_grows n v low was = grows.settles n says (up_ports v) (holding_of v) low was

  refreshed_grows : (n : ℕ) (v : BridgeView) → Low n → Of n v → Of (n + 1) (refreshed v)
  unfolding refreshed
  refreshed_grows n v low was = grows.settles n is_new (up_ports v) (holding_of v) low was

  -- ---- a change at a port

  left_stays : (n p : ℕ) (port : BridgePort) (v : BridgeView) → Of n v → Of n (left_up p port v)
  left_stays n p port v was = grows.stays n v.id.system (λ id e. flags_cleared_at p e) v.database v.spent (λ x e. refl) was

  changed_grows : (heard : AdjacencyChange) (n p : ℕ) (port : BridgePort) (v : BridgeView) → Low n → Of n v → Of (n + 1) (changed_at heard p port v)
  changed_grows Discarded n p port v low was = one_more n v was
  changed_grows Kept n p port v low was = originated_grows n (with_port_at p port v) low was
  changed_grows LeftUp n p port v low was = originated_grows n (left_up p port v) low (left_stays n p port v was)
  changed_grows CameUp n p port v low was =
      let u : BridgeView = originated_if_changed (left_up p port v) in
      grows.stays (n + 1) u.id.system (λ id e. srm_set_at p e) u.database u.spent (λ x e. number_srm_set p e (is_absent e.version)) (originated_grows n (left_up p port v) low (left_stays n p port v was))

  -- ---- the steps

  pub readied_grows : (n : ℕ) (v : BridgeView) → Low n → Of n v → Of (n + 1) (readied v)
  readied_grows n v low was =
      let after : Of n (counts_lowered v) = grows.stays n v.id.system (λ id e. flags_cleared_at_all (leaving_from 1 v.ports) e) v.database v.spent (λ x e. number_flags_cleared (leaving_from 1 v.ports) e) was in
      refreshed_grows n (expired (counts_lowered v)) low (grows.stays n v.id.system (λ id e. aged (up_ports (counts_lowered v)) e) (counts_lowered v).database v.spent (λ x e. number_aged (up_ports (counts_lowered v)) e e.version refl) after)

  sending_if : (b : Bool) (n : ℕ) (system : SystemId) (p : ℕ) (db : Lsps) (spent : Bool) → P n system db spent → P n system (if b then all_ssn_cleared p db else db) spent
  sending_if true n system p db spent was = grows.stays n system (λ id e. ssn_cleared_entry p e) db spent (λ x e. number_after_sending p e (has_ssn_at p e)) was
  sending_if false n system p db spent was = was

  sending_stays : (n : ℕ) (system : SystemId) (q : ℕ) (ports : List BridgePort) (db : Lsps) (spent : Bool) → P n system db spent → P n system (after_sending_from q ports db) spent
  sending_stays n system q [] db spent was = was
  sending_stays n system q (port ∷ ports) db spent was = sending_stays n system (q + 1) ports (after_sending_at q port db) spent (sending_if (is_port_up port) n system q db spent was)

  pub second_grows : (n : ℕ) (v : BridgeView) → Low n → Of n v → Of (n + 1) (step second v)
  second_grows n v low was =
      let u : BridgeView = readied v in
      subst (Of (n + 1)) (sym (tick_is v)) (sending_stays (n + 1) u.id.system 1 u.ports u.database u.spent (readied_grows n v low was))

  -- a frame that is taken for a hello
  hello_grows_by : (n q : ℕ) (bytes : List ℕ) (v : BridgeView) → is_hello bytes ≡ true → Low n → Of n v → FrameStep v q bytes (step (frame q bytes) v) → Of (n + 1) (step (frame q bytes) v)
  hello_grows_by n q bytes v is low was (idle learned how same) = subst (Of (n + 1)) (sym same) (one_more n v was)
  hello_grows_by n q bytes v is low was (by_hello g) =
      subst (Of (n + 1)) (sym g.after)
      (changed_grows (change_by_hello v.id.system q g.hello g.way g.port.adjacency) n q (with_adjacency (after_hello v.id.system q g.hello g.way g.port.adjacency) g.port) v low was)
  hello_grows_by n q bytes v is low was (by_lsp g) = let wrong : true ≡ false = sym is ∙ ap (λ (j : Parsed). is_some (hello_in j)) g.is in absurd (true≢false wrong)
  hello_grows_by n q bytes v is low was (by_csnp g) = let wrong : true ≡ false = sym is ∙ ap (λ (j : Parsed). is_some (hello_in j)) g.is in absurd (true≢false wrong)
  hello_grows_by n q bytes v is low was (by_psnp g) = let wrong : true ≡ false = sym is ∙ ap (λ (j : Parsed). is_some (hello_in j)) g.is in absurd (true≢false wrong)

  pub hello_grows : (n q : ℕ) (bytes : List ℕ) (v : BridgeView) → is_hello bytes ≡ true → Low n → Of n v → Of (n + 1) (step (frame q bytes) v)
  hello_grows n q bytes v is low was = hello_grows_by n q bytes v is low was (frame_step v q bytes)

  pub carrier_grows : (n q : ℕ) (on : Bool) (v : BridgeView) → Low n → Of n v → Of (n + 1) (step (carrier q on) v)
  carrier_grows n q on v low was =
      elim (carrier_step v q on) [
        | inl e ↦ subst (Of (n + 1)) (sym e) (one_more n v was)
        | inr g ↦ subst (Of (n + 1)) (sym g.after) (changed_grows (change_of g.port.adjacency (after_carrier on g.port.adjacency)) n q (with_adjacency (after_carrier on g.port.adjacency) g.port) v low was)
      ]

  pub metric_grows : (n q m : ℕ) (v : BridgeView) → Low n → Of n v → Of (n + 1) (step (metric q m) v)
  metric_grows n q m v low was =
      elim (metric_step v q m) [
        | inl e ↦ subst (Of (n + 1)) (sym e) (one_more n v was)
        | inr g ↦ subst (Of (n + 1)) (sym g.after) (originated_grows n (with_port_at q (with_port_metric m g.port) v) low was)
      ]

  pub attached_grows : (n : ℕ) (attached : List Attachment) (v : BridgeView) → Low n → Of n v → Of (n + 1) (with_attached attached v)
  unfolding with_attached
  attached_grows n attached v low was = originated_grows n (attached_to attached v) low was

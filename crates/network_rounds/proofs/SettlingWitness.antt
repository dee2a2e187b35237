-- A network that is ready and isn't quiet: two bridges, whose link has just come up.
use Rattle.std.proofs.Common.{◌≡◌, ℕ, suc, ◌+◌, ◌≤◌, Bool, true, false, true≢false, List, [], ◌∷◌, ◌++◌, length, map, length-append, nat_lt, refl, sym, ap, ◌∙◌, subst, Option, Some, None, if◌then◌else◌, arith}
use Rattle.std.specs.Prelude.{◌<◌, ◌&&◌, slice_set}
use Rattle.std.specs.List.{list_all}
use Rattle.std.proofs.lemmas.List.{length-map}
use Rattle.std.specs.FinMap.{get, entries, len, empty, get-empty, len-empty, len-entries}
use Rattle.std.proofs.lemmas.Bool.{le-leb, lt-ltb}
use Rattle.std.proofs.lemmas.Option.{same_Some}
use Rattle.spb_types.specs.declared.address.LspId.{LspId}
use Rattle.spb_types.specs.declared.link.Dir.TheVariants.{Ab}
use Rattle.spb_types.specs.declared.ports.PortSet.{PortSet}
use Rattle.link_model.specs.Lanes.{no_frames}
use Rattle.lsdb.specs.declared.version.Version.{Version}
use Rattle.lsdb.specs.declared.version.Version.TheVariants.{Absent, Live, Dead}
use Rattle.lsdb.specs.Entry.{Entry, purged}
use Rattle.lsdb.specs.Version.{number_of}
use Rattle.lsdb.specs.Database.{Lsps, id_cmp, version_in}
use Rattle.lsdb.specs.Time as time
use Rattle.lsdb.proofs.LookupLemmas.{get_place}
use Rattle.flooding.specs.Own.{last_number, own_numbers, own_number, is_own_number, renewed}
use Rattle.flooding.specs.Entries.{AllEntries}
use Rattle.flooding.specs.Hearing.{Holding}
use Rattle.flooding.specs.Settling.{says}
use Rattle.flooding.specs.Origination.{spent_entry, next_entry, brought_up}
use Rattle.flooding.specs.declared.origination.TheConstants.{MAX_AGE}
use Rattle.flooding.proofs.AllEntries.{inserted, all_changed}
use Rattle.flooding.proofs.Brought.{brought_keeps}
use Rattle.flooding.proofs.Settled.{settling_keeps}
use Rattle.flooding.proofs.Started.{all_keep, entries_started, starting_brings_few}
use Rattle.snp_sync.specs.Hearing.{is_among}
use Rattle.bridge_api.specs.declared.config.BridgeConfig.{BridgeConfig}
use Rattle.bridge_api.specs.declared.port.BridgePort.{BridgePort}
use Rattle.bridge_api.specs.Config.{first_life, bare, configured, port_without_carrier}
use Rattle.bridge_api.specs.Hearing.{with_carrier, with_carrier_at, with_metric, with_metric_at, with_port_metric}
use Rattle.bridge_api.specs.Own.{holding_of, originated_if_changed}
use Rattle.bridge_api.specs.Step.{carrier, metric, step}
use Rattle.bridge_api.specs.View.{BridgeView, port_in, port_at, with_port_at, is_up_in, is_up_at, up_ports}
use Rattle.bridge_api.proofs.Configured.{long_first}
use Rattle.bridge_laws.proofs.FewHeld.{steps_bring_few}
use Rattle.spb_world.specs.Declaring.{vid_refusal, plan_of, bridge_of, with_vid, with_bridge, with_link, with_live}
use Rattle.spb_world.specs.Links.{is_live, lane_out}
use Rattle.spb_world.specs.World.{World, Bridges}
use Rattle.spb_world.specs.declared.declaration.DeclaredLink.{DeclaredLink}
use Rattle.network_model.specs.State.{State, next_box, links_of}
use Rattle.network_model.specs.declared.kind_rule.KindRule.TheVariants as rule
use Rattle.network_model.specs.Events.{stepped, switched_on}
use Rattle.network_model.specs.Play.{with_vid_more, declared, linked, named_link, next_state}
use Rattle.network_model.specs.Questions.{is_quiet}
use Rattle.network_model.specs.Quiet.{IsQuiet, failing}
use Rattle.network_model.specs.SoundLaws.{state_after}
use Rattle.network_model.proofs.QuietLaws.{quiet_says}
use Rattle.network_model.proofs.QuietLists.{nil_of, both_true, from_first, all_of}
use Rattle.network_model.proofs.SoundConfigured.{configured_ports, with_metric_port, with_first_carrier, first_port, first_ports}
use Rattle.network_model.proofs.SoundMet.{config}
use Rattle.network_model.proofs.SoundWitness.{source, declaring}
use Rattle.network_rounds.specs.Premises.{ids_of, different_ids, outlives, entry_outlives, own_outlives, holds_only, has_no_customers, outlive, owns_outlive, has_few_ids, is_ready}
use Rattle.network_rounds.specs.Settling.{most_settling}
use Rattle.network_rounds.specs.SettlingLaws.{SomeNetworkSettles}

-- ---- a bridge right after its first carrier holds its own LSPs for 1,200 seconds, and few of them

abbrev pub IsNew : LspId → Entry → Type 0
IsNew id e = time.is_live e.version ≡ true → e.lifetime ≡ MAX_AGE

abbrev pub AreNew : Lsps → Type 0
AreNew db = AllEntries IsNew db

next_new : (up : PortSet) (id : LspId) (body : List ℕ) (seq : ℕ) (held : Option Entry) → IsNew id (next_entry up id body seq held)
next_new up id body seq held = by (nat_lt seq last_number)
  where
    by : (b : Bool) → IsNew id (if b then renewed up id body (seq + 1) else spent_entry up seq held)
    by true live = refl
    by false live = absurd cc

new_brought : (up : PortSet) (number : ℕ) (h : Holding) → AreNew h.db → AreNew (brought_up up number h).db
new_brought up number h all =
    let id = own_number h.own.system number in
    brought_keeps (λ g. AreNew g.db) up number h all
    (λ body fresh has. inserted IsNew h.db id (next_entry up id body (number_of (version_in (get h.db id))) (get h.db id)) all (next_new up id body (number_of (version_in (get h.db id))) (get h.db id)))
    (λ seq sum live. all_changed IsNew (purged seq up) h.db id all (λ e held dead. absurd cc))

pub new_settled : (v : BridgeView) → AreNew v.database → AreNew (originated_if_changed v).database
unfolding originated_if_changed
new_settled v all = settling_keeps (λ g. AreNew g.db) says (up_ports v) (holding_of v) (λ number g below before. new_brought (up_ports v) number g before) all

none_new : (id : LspId) (e : Entry) → get (empty {X = Entry} {R = id_cmp}) id ≡ Some e → IsNew id e
none_new id e held =
    let none : None ≡ Some e = sym (get-empty id_cmp id) ∙ held in
    absurd cc

new_configured : (c : BridgeConfig) → AreNew (configured c).database
unfolding configured
new_configured c =
    all_keep (λ g. AreNew g.db) c.last (holding_of (bare c))
    (λ number n g same before. entries_started IsNew number n g before (λ body has below live. refl) (λ some live. absurd cc))
    none_new

new_metric : (v : BridgeView) (n : ℕ) → AreNew v.database → AreNew (with_metric 1 n v).database
unfolding with_metric
new_metric v n all = by (port_at v 1)
  where
    by : (o : Option BridgePort) → AreNew (with_metric_at 1 n o v).database
    by None = all
    by (Some port) = new_settled (with_port_at 1 (with_port_metric n port) v) all

new_carrier : (v : BridgeView) (n : ℕ) → v.ports ≡ port_without_carrier n ∷ [] → AreNew v.database → AreNew (with_carrier 1 true v).database
unfolding with_carrier
new_carrier v n is all =
    subst (λ (ports : List BridgePort). AreNew (with_carrier_at 1 true (port_in ports 1) v).database) (sym is)
    (new_settled (record v { ports = slice_set v.ports 0 (first_port n) }) all)

pub new_first : (c : BridgeConfig) (m n : ℕ) → c.metrics ≡ m ∷ [] → AreNew (with_first_carrier c n).database
new_first c m n is =
    new_carrier (with_metric 1 n (configured c)) n (with_metric_port (configured c) m n (configured_ports c ∙ ap (map port_without_carrier) is))
    (new_metric (configured c) n (new_configured c))

pub sixteen : own_numbers ≡ 16
unfolding own_numbers
sixteen = refl

few_configured : (c : BridgeConfig) → c.last ≡ first_life → len (configured c).database ≤ 16
unfolding configured
few_configured c first = omega (arith, starting_brings_few c.last (holding_of (bare c)), len-empty id_cmp Entry, long_first c first, sixteen)

pub few_first : (c : BridgeConfig) (n : ℕ) → c.last ≡ first_life → len (with_first_carrier c n).database ≤ 48
few_first c n first =
    omega (arith, few_configured c first, steps_bring_few (metric 1 n) (configured c) tt, steps_bring_few (carrier 1 true) (step (metric 1 n) (configured c)) tt, sixteen)

-- ---- what lasts

all_pass : (test : LspId → Entry → Bool) (db : Lsps) → ((id : LspId) (e : Entry) → get db id ≡ Some e → test id e ≡ true) → holds_only test db ≡ true
all_pass test db each = all_of (λ (e : LspId × Entry). test e.0 e.1) (entries db) (λ i e at. each e.0 e.1 (get_place db i e at))

new_outlives : (m : ℕ) (a : Version) (lifetime : ℕ) → m < 1200 → (time.is_live a ≡ true → lifetime ≡ MAX_AGE) → outlives m a lifetime ≡ true
new_outlives m Absent lifetime low is = refl
new_outlives m (Live seq sum) lifetime low is = lt-ltb m lifetime (omega (arith, low, is refl))
new_outlives m (Dead seq) lifetime low is = refl

different_fewer : (xs : List LspId) → length (different_ids xs) ≤ length xs
different_fewer [] = omega arith
different_fewer (x ∷ xs) = by (is_among xs x) (different_fewer xs)
  where
    by : (b : Bool) → length (different_ids xs) ≤ length xs → length (if b then different_ids xs else x ∷ different_ids xs) ≤ suc (length xs)
    by true few = omega (arith, few)
    by false few = omega (arith, few)

-- a bridge whose LSPs are new and few
pub record IsYoung (v : BridgeView) : Type 0 where
  pub new : AreNew v.database
  pub few : len v.database ≤ 64

first : (n : ℕ) → IsYoung (with_first_carrier (config n) 10)
first n = record { new = new_first (config n) 1 10 refl; few = omega (arith, few_first (config n) 10 refl) }

-- ---- two bridges and their link

abbrev pub link : DeclaredLink
link = record { a = record { bridge = 0; port = 1; metric = 10 }; b = record { bridge = 1; port = 1; metric = 10 }; live = true }

abbrev pub bridges : Bridges
bridges = (97 ∷ [], bridge_of 32768 (config 1).id.system.mac (source 1) 1) ∷ (98 ∷ [], bridge_of 32768 (config 2).id.system.mac (source 2) 1) ∷ []

abbrev world : World
world = record { vids = plan_of 100 1 ∷ []; bridges = bridges; links = (108 ∷ [], link) ∷ []; services = []; attached = [] }

-- in this world, after so many commands
abbrev linked_by : World → ℕ → BridgeView → BridgeView → State
linked_by x n v w = record { rule = rule.Plain; rack = []; world = x; views = v ∷ w ∷ []; lanes = no_frames ∷ []; outs = []; rounds = 0; drained = 0; accepted = n; ticks = 0 ∷ 0 ∷ [] }

module _ (x : World) (n : ℕ) (v w : BridgeView) (here : IsYoung v) (there : IsYoung w) where
  abbrev s : State
  s = linked_by x n v w

  plain : has_no_customers s ≡ true
  unfolding has_no_customers
  plain = refl

  held_long : (m : ℕ) (u : BridgeView) → m < 1200 → IsYoung u → holds_only (λ id e. entry_outlives m e) u.database ≡ true
  held_long m u low is = all_pass (λ id e. entry_outlives m e) u.database (λ id e held. new_outlives m e.version e.lifetime low (is.new id e held))

  own_long : (m : ℕ) (u : BridgeView) → m < 1200 → IsYoung u → holds_only (own_outlives m u.id.system) u.database ≡ true
  own_long m u low is =
      all_pass (own_outlives m u.id.system) u.database
      (λ id e held. from_first (is_own_number u.id.system id) (entry_outlives m e) (λ own. new_outlives m e.version e.lifetime low (is.new id e held)))

  both : (test : BridgeView → Bool) → test v ≡ true → test w ≡ true → list_all test (v ∷ w ∷ []) ≡ true
  both test one other = both_true (test v) (list_all test (w ∷ [])) one (both_true (test w) true other refl)

  all_long : outlive 24 s ≡ true
  unfolding outlive
  all_long =
      both_true (list_all (λ u. holds_only (λ id e. entry_outlives 24 e) u.database) (v ∷ w ∷ [])) true
      (both (λ u. holds_only (λ id e. entry_outlives 24 e) u.database) (held_long 24 v (omega arith) here) (held_long 24 w (omega arith) there)) refl

  owns_long : owns_outlive 24 s ≡ true
  unfolding owns_outlive
  owns_long = both (λ u. holds_only (own_outlives (24 + 300) u.id.system) u.database) (own_long 324 v (omega arith) here) (own_long 324 w (omega arith) there)

  few_ids : has_few_ids s ≡ true
  unfolding has_few_ids
  few_ids =
      let ids : List LspId = ids_of v ++ (ids_of w ++ []) in
      let one : length (ids_of v) ≡ len v.database = length-map (entries v.database) (λ e. e.0) ∙ sym (len-entries v.database) in
      let other : length (ids_of w) ≡ len w.database = length-map (entries w.database) (λ e. e.0) ∙ sym (len-entries w.database) in
      le-leb (length (different_ids ids)) 900 (omega (arith, different_fewer ids, length-append (ids_of v) (ids_of w ++ []), length-append (ids_of w) [], one, other, here.few, there.few))

  pub ready : is_ready 24 s ≡ true
  unfolding is_ready
  ready =
      both_true (has_no_customers s) (outlive 24 s && (owns_outlive 24 s && has_few_ids s)) plain
      (both_true (outlive 24 s) (owns_outlive 24 s && has_few_ids s) all_long
      (both_true (owns_outlive 24 s) (has_few_ids s) owns_long few_ids))

-- ---- it isn't quiet

first_down : (n : ℕ) → is_up_at (with_first_carrier (config n) 10) 1 ≡ false
unfolding is_up_at
first_down n = ap (λ (ports : List BridgePort). is_up_in (port_in ports 1)) (first_ports (config n) 1 10 refl)

module _ (v w : BridgeView) (down : is_up_at v 1 ≡ false) where
  abbrev early : State
  early = linked_by world 4 v w

  -- the first port would be Up, if it were quiet
  not_quiet : IsQuiet early → ⊥
  not_quiet quiet =
      let met = ((quiet_says early).quiet.0 quiet).met.met 0 Ab link refl refl in
      let same : v ≡ met.v = same_Some v met.v met.here in
      absurd (true≢false (sym met.up ∙ (ap (λ (u : BridgeView). is_up_at u 1) (sym same) ∙ down)))

  busy : is_quiet early ≡ false
  busy = by (is_quiet early) refl
    where
      by : (b : Bool) → is_quiet early ≡ b → is_quiet early ≡ false
      by true e = absurd (not_quiet (nil_of (failing early) e))
      by false e = e

-- ---- the commands

pub is_ready_there : is_ready (most_settling (state_after declaring)) (state_after declaring) ≡ true
unfolding next_state vid_refusal with_vid with_bridge with_link with_live next_box lane_out stepped switched_on with_vid_more declared linked named_link
is_ready_there = ready world 4 (with_first_carrier (config 1) 10) (with_first_carrier (config 2) 10) (first 1) (first 2)

is_busy_there : is_quiet (state_after declaring) ≡ false
unfolding next_state vid_refusal with_vid with_bridge with_link with_live next_box lane_out stepped switched_on with_vid_more declared linked named_link
is_busy_there = busy (with_first_carrier (config 1) 10) (with_first_carrier (config 2) 10) (first_down 1)

pub is_live_there : is_live (links_of (state_after declaring)) 0 ≡ true
unfolding next_state vid_refusal with_vid with_bridge with_link with_live next_box lane_out stepped switched_on with_vid_more declared linked named_link
is_live_there = refl

pub some_network_settles : SomeNetworkSettles
some_network_settles = record {
  scene = declaring;
  few = omega arith;
  live = is_live_there;
  busy = is_busy_there;
  ready = is_ready_there;
}

-- A second in which no neighbour is lost, no LSP runs out, and no own LSP is old, changes lifetimes alone.
use Rattle.std.proofs.Common.{◌≡◌, ℕ, suc, ◌+◌, ◌-◌, ◌≤◌, ◌<◌, Bool, true, false, List, [], ◌∷◌, map, refl, sym, ap, ◌∙◌, subst, Option, Some, None, arith}
use Rattle.std.specs.Prelude.{◌&&◌, ◌==◌, not, slice_get, if◌then◌else◌}
use Rattle.std.specs.Option.{option_map, option_and_then}
use Rattle.std.specs.FinMap.{get}
use Rattle.std.proofs.lemmas.Bool.{true≢false, ne_eqb}
use Rattle.spb_types.specs.declared.address.LspId.{LspId}
use Rattle.spb_types.specs.declared.ports.PortSet.{PortSet}
use Rattle.spb_tlvs.specs.declared.neighbours.Neighbour.{Neighbour}
use Rattle.lsdb.specs.declared.version.Version.{Version}
use Rattle.lsdb.specs.declared.version.Version.TheVariants.{Absent, Live, Dead}
use Rattle.lsdb.specs.Calm.{lowered}
use Rattle.lsdb.specs.Entry.{Entry, AreKept, aged}
use Rattle.lsdb.specs.Database.{version_in}
use Rattle.lsdb.specs.Time.{is_live, lifetime_in}
use Rattle.lsdb.proofs.Time.{lives_on, stands}
use Rattle.flooding.specs.Own.{own_numbers}
use Rattle.flooding.specs.Hearing.{Holding}
use Rattle.flooding.specs.Settling.{is_old, is_new, IsLspCurrent}
use Rattle.flooding.proofs.Settled.{settling_stands}
use Rattle.adjacency.specs.declared.state.AdjState.{AdjState}
use Rattle.adjacency.specs.declared.state.AdjState.TheVariants.{Down, Initializing, Up}
use Rattle.adjacency.specs.declared.port.Adjacency.{Adjacency}
use Rattle.adjacency.specs.Adjacency.{down, neighbour_of, is_down, is_up, after_second}
use Rattle.bridge_api.specs.declared.port.BridgePort.{BridgePort}
use Rattle.bridge_api.specs.View.{BridgeView, port_at, adjacency_at, neighbour_at, is_port_up, is_up_in, is_up_at, up_ports}
use Rattle.bridge_api.specs.Own.{neighbour_in, neighbours_from, bodies_of, body_at, own_entry, holding_of, with_holding}
use Rattle.bridge_api.specs.Ticking.{later, leaves, leaving_from, counts_lowered, readied}
use Rattle.bridge_api.specs.Step.{second, step}
use Rattle.bridge_api.specs.Laws.{IsSoundView}
use Rattle.bridge_api.proofs.Adjacent.{second_up}
use Rattle.bridge_api.proofs.Bodies.{bodies_with, bodies_say, same_at}
use Rattle.bridge_api.proofs.Changes.{settling, ticked, tick_ports, tick_port}
use Rattle.bridge_api.proofs.OwnLspSteps.{neighbours_without_csnp_due}
use Rattle.bridge_api.proofs.Places.{port_found}
use Rattle.bridge_api.proofs.TimeLsps.{older, expired_holds}
use Rattle.bridge_laws.proofs.TimeOwn.{second_says, fallen, says_at, live_in, not_live, fresh_why, readied_own, second_spent}
use Rattle.bridge_rounds.specs.Seconds.{HasTimeLeft, SecondsAreCalm}

-- ---- a port

-- if it is Up, its neighbour isn't lost in the next second
abbrev IsKept : BridgePort → Type 0
IsKept port = is_port_up port ≡ true → 2 ≤ port.adjacency.hold

not_down : (s : AdjState) → is_up s ≡ true → is_down s ≡ false
not_down Down up = absurd cc
not_down Initializing up = absurd cc
not_down Up up = refl

pub second_is : (a : Adjacency) → is_up a.state ≡ true → 2 ≤ a.hold → after_second a ≡ record a { hold = a.hold - 1 }
second_is a up many =
    ap (λ b. if b then a else (if a.hold == 1 then down a.carrier else record a { hold = a.hold - 1 })) (not_down a.state up)
    ∙ ap (λ b. if b then down a.carrier else record a { hold = a.hold - 1 }) (ne_eqb a.hold 1 (λ e. absurd (omega (arith, many, e))))

up_by : (a : Adjacency) (b c : Bool) → is_up a.state ≡ b → is_up (after_second a).state ≡ c → (is_up a.state ≡ true → 2 ≤ a.hold) → is_up (after_second a).state ≡ is_up a.state
up_by a true c was is kept = ap (λ (x : Adjacency). is_up x.state) (second_is a was (kept was))
up_by a false true was is kept = absurd (true≢false (sym (second_up a is).0 ∙ was))
up_by a false false was is kept = is ∙ sym was

still_up : (port : BridgePort) → IsKept port → is_port_up (later port) ≡ is_port_up port
still_up port kept = up_by port.adjacency (is_up port.adjacency.state) (is_up (after_second port.adjacency).state) refl refl kept

listed_by : (b : Bool) (q : ℕ) (port : BridgePort) (rest more : List Neighbour) → is_port_up port ≡ b → IsKept port → rest ≡ more
    → (if is_port_up (later port) then neighbour_in q (later port) ∷ rest else rest) ≡ (if is_port_up port then neighbour_in q port ∷ more else more)
listed_by true q port rest more up kept same =
    let next : after_second port.adjacency ≡ record (port.adjacency) { hold = port.adjacency.hold - 1 } = second_is port.adjacency up (kept up) in
    let still : is_port_up (later port) ≡ is_port_up port = still_up port kept in
    λ i. if still i then record { system = (next i).neighbour; metric = port.metric; port = q } ∷ same i else same i
listed_by false q port rest more off kept same =
    ap (λ b. if b then neighbour_in q (later port) ∷ rest else rest) (still_up port kept ∙ off)
    ∙ (same ∙ ap (λ b. if b then neighbour_in q port ∷ more else more) (sym off))

and_not : (b : Bool) → (b && not b) ≡ false
and_not true = refl
and_not false = refl

stays : (port : BridgePort) → IsKept port → leaves port ≡ false
stays port kept = ap (λ b. is_port_up port && not b) (still_up port kept) ∙ and_not (is_port_up port)

-- ---- all ports

abbrev AllKept : List BridgePort → Type 0
AllKept ports = (i : ℕ) (port : BridgePort) → slice_get ports i ≡ Some port → IsKept port

neighbours_stay : (q : ℕ) (ports : List BridgePort) → AllKept ports → neighbours_from q (map later ports) ≡ neighbours_from q ports
neighbours_stay q [] kept = refl
neighbours_stay q (port ∷ ports) kept =
    listed_by (is_port_up port) q port (neighbours_from (q + 1) (map later ports)) (neighbours_from (q + 1) ports) refl (kept 0 port refl) (neighbours_stay (q + 1) ports (λ i x at. kept (suc i) x at))

none_leaves : (q : ℕ) (ports : List BridgePort) → AllKept ports → leaving_from q ports ≡ []
none_leaves q [] kept = refl
none_leaves q (port ∷ ports) kept =
    ap (λ b. if b then q ∷ leaving_from (q + 1) ports else leaving_from (q + 1) ports) (stays port (kept 0 port refl)) ∙ none_leaves (q + 1) ports (λ i x at. kept (suc i) x at)

-- ---- an entry

unlowered : (e : Entry) → e.lifetime ≡ 0 → e ≡ lowered e
unlowered e none = let same : e.lifetime ≡ e.lifetime - 1 = omega (arith, none) in ap (λ (l : ℕ). record e { lifetime = l }) same

lowered_by : (up : PortSet) (e : Entry) (a : Version) → e.version ≡ a → AreKept a e.lifetime e.body → (is_live a ≡ true → 2 ≤ e.lifetime) → aged up e ≡ lowered e
lowered_by up e Absent is kept left = stands up e (ap is_live is) ∙ unlowered e kept.0
lowered_by up e (Live seq sum) is kept left = lives_on up e (e.lifetime - 1) (ap is_live is) (omega (arith, left refl)) (omega (arith, left refl))
lowered_by up e (Dead seq) is kept left = stands up e (ap is_live is) ∙ unlowered e kept.0

lowered_in : (up : PortSet) (ps : List ℕ) (o : Option Entry) → ps ≡ [] → ((e : Entry) → o ≡ Some e → aged up e ≡ lowered e) → option_map (older up ps) o ≡ option_map lowered o
lowered_in up ps None none each = refl
lowered_in up ps (Some e) none each = ap (λ (list : List ℕ). Some (older up list e)) none ∙ ap (λ (d : Entry). Some d) (each e refl)

-- ---- the adjacency at a port

up_in : (o : Option BridgePort) → ((port : BridgePort) → o ≡ Some port → IsKept port) → is_up_in (option_map ticked o) ≡ is_up_in o
up_in None kept = refl
up_in (Some port) kept = still_up port (kept port refl)

neighbour_within : (o : Option BridgePort) → ((port : BridgePort) → o ≡ Some port → IsKept port) → is_up_in o ≡ true
    → option_and_then (λ port. neighbour_of port.adjacency) (option_map ticked o) ≡ option_and_then (λ port. neighbour_of port.adjacency) o
neighbour_within None kept up = absurd cc
neighbour_within (Some port) kept up = ap neighbour_of (second_is port.adjacency up (kept port refl up))

-- ---- a bridge

fresh_by : (v : BridgeView) (number : ℕ) (text : Option (List ℕ)) → IsLspCurrent text (own_entry v number) → (is_live (version_in (own_entry v number)) ≡ true → 302 ≤ lifetime_in (own_entry v number))
    → is_new text (own_entry (fallen v) number) ≡ true
fresh_by v number None dead left =
    let still : is_live (version_in (own_entry (fallen v) number)) ≡ false = ap is_live (not_live v number dead) ∙ dead in
    ap (λ b. not b && not (false && is_old (own_entry (fallen v) number))) still
fresh_by v number (Some body) current left =
    let live = (live_in (own_entry v number) current.1).0 in fresh_why v number body live (left live) current.0

module _ (v : BridgeView) (was : IsSoundView v) (fresh : v.spent ≡ false) (left : HasTimeLeft v) where
  port_kept : (p : ℕ) (port : BridgePort) → port_at v p ≡ Some port → IsKept port
  unfolding adjacency_at
  port_kept p port there up = left.counts p port.adjacency (ap (λ (o : Option BridgePort). option_map (λ x. x.adjacency) o) there) up

  ports_kept : AllKept v.ports
  ports_kept i port at up =
      let place : i + 1 - 1 ≡ i = omega arith in
      port_kept (i + 1) port (port_found v (i + 1) (omega arith) ∙ (ap (slice_get v.ports) place ∙ at)) up

  says_same : bodies_of (step second v) ≡ bodies_of v
  says_same =
      second_says v
      ∙ (ap (bodies_with v) (ap (neighbours_from 1) (tick_ports v) ∙ (neighbours_without_csnp_due 1 (map later v.ports) ∙ neighbours_stay 1 v.ports ports_kept)) ∙ sym (bodies_say v))

  body_same : (number : ℕ) → body_at (step second v) number ≡ body_at v number
  body_same number = same_at number (bodies_of (step second v)) (bodies_of v) says_same

  number_fresh : (number : ℕ) → number < own_numbers → is_new (body_at (fallen v) number) (own_entry (fallen v) number) ≡ true
  number_fresh number below =
      ap (λ (text : Option (List ℕ)). is_new text (own_entry (fallen v) number)) (says_at v number ∙ body_same number)
      ∙ fresh_by v number (body_at v number) (was.own.current fresh number below) (left.own number below)

  settles_nothing : settling is_new (fallen v) ≡ fallen v
  settles_nothing = ap (λ (h : Holding). with_holding h (fallen v)) (settling_stands is_new (up_ports (fallen v)) (holding_of (fallen v)) (λ unspent number below. number_fresh number below))

  entry_lowered : (id : LspId) (e : Entry) → get v.database id ≡ Some e → aged (up_ports (counts_lowered v)) e ≡ lowered e
  entry_lowered id e held =
      lowered_by (up_ports (counts_lowered v)) e e.version refl (was.database.sendable id e held).clean
      (λ live. subst (λ (o : Option Entry). 2 ≤ lifetime_in o) held (left.lifetimes id (ap (λ (o : Option Entry). is_live (version_in o)) held ∙ live)))

  held_lowered : (id : LspId) → get (readied v).database id ≡ option_map lowered (get v.database id)
  held_lowered id =
      readied_own v id
      ∙ (ap (λ (w : BridgeView). get w.database id) settles_nothing
      ∙ (expired_holds v id
      ∙ lowered_in (up_ports (counts_lowered v)) (leaving_from 1 v.ports) (get v.database id) (none_leaves 1 v.ports ports_kept) (λ e held. entry_lowered id e held)))

  up_same : (p : ℕ) → is_up_at (step second v) p ≡ is_up_at v p
  unfolding is_up_at
  up_same p = ap is_up_in (tick_port v p) ∙ up_in (port_at v p) (port_kept p)

  neighbour_same : (p : ℕ) → is_up_at v p ≡ true → neighbour_at (step second v) p ≡ neighbour_at v p
  unfolding is_up_at neighbour_at
  neighbour_same p up =
      ap (λ (o : Option BridgePort). option_and_then (λ port. neighbour_of port.adjacency) o) (tick_port v p) ∙ neighbour_within (port_at v p) (port_kept p) up

pub seconds_are_calm : SecondsAreCalm
seconds_are_calm v was fresh left = record {
  held = held_lowered v was fresh left;
  up = up_same v was fresh left;
  neighbours = neighbour_same v was fresh left;
  bodies = body_same v was fresh left;
  fresh = second_spent v ∙ (ap (λ (w : BridgeView). w.spent) (settles_nothing v was fresh left) ∙ fresh);
}

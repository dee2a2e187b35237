-- A round that passes in calm leaves a bridge one second older: in the second the holding counts fall, and each greeting
-- puts that of its port back.
use Rattle.std.proofs.Common.{◌≡◌, inl, inr, ◌<◌, ◌+◌, ◌-◌, ℕ, zero, suc, Bool, true, false, List, [], ◌∷◌, refl, sym, ap, ◌∙◌, subst, Option, Some, None, arith}
use Rattle.std.specs.Prelude.{◌==◌, ◌&&◌, nat_le, length, slice_get, slice_set, if◌then◌else◌}
use Rattle.std.specs.Option.{option_map}
use Rattle.std.proofs.lemmas.Bool.{cases_eq, eq-eqb, ne_eqb, le-leb, true≢false}
use Rattle.std.proofs.lemmas.Option.{same_Some, slice_get_within}
use Rattle.spb_types.specs.declared.address.BridgeId.{BridgeId}
use Rattle.spb_tlvs.specs.declared.neighbours.Neighbour.{Neighbour}
use Rattle.adjacency.specs.declared.state.AdjState.{AdjState}
use Rattle.adjacency.specs.declared.state.AdjState.TheVariants.{Down, Initializing, Up}
use Rattle.adjacency.specs.declared.port.Adjacency.{Adjacency}
use Rattle.adjacency.specs.Hearing.{End, same_end, sender, keeps_up}
use Rattle.adjacency.specs.Adjacency.{SoundIn, down, neighbour_of, is_down, is_up, after_second, is_refreshed}
use Rattle.adjacency.proofs.Refreshing.{same_end_refl, refreshes, refreshed_is}
use Rattle.bridge_api.specs.declared.port.BridgePort.{BridgePort}
use Rattle.bridge_api.specs.View.{BridgeView, port_in, port_at, neighbour_at, with_port_at, is_port_up, has_carrier_in, has_carrier_at}
use Rattle.bridge_api.specs.Calm.{IsCalmFor, aged_by}
use Rattle.bridge_api.specs.Own.{neighbour_in, neighbours_from, originated_if_changed}
use Rattle.bridge_api.specs.Hearing.{with_adjacency, changed_at}
use Rattle.bridge_api.specs.Ticking.{counts_lowered, expired, readied, after_sending_from}
use Rattle.bridge_api.specs.Step.{second, frame, step, frames_at}
use Rattle.bridge_api.specs.Laws.{IsSoundPort, IsSoundView}
use Rattle.bridge_api.proofs.Changes.{found, one_port, with_and_parts, refreshed_is as refreshed_parts, tick_is, tick_rest, ticked, tick_port}
use Rattle.bridge_api.proofs.Hellos.{neighbour_found, up_has_carrier}
use Rattle.bridge_api.proofs.OwnLspSteps.{was_saying, moved_saying, saying_settles}
use Rattle.bridge_api.proofs.Places.{got_at}
use Rattle.bridge_api.proofs.Sound.{steps_stay_sound}
use Rattle.bridge_api.proofs.SoundPorts.{sound_at}
use Rattle.bridge_rounds.specs.Calm.{IsGreeting, IsGreeted, CalmRoundAges}
use Rattle.bridge_rounds.specs.Inbox.{Inbox, heard_all}
use Rattle.bridge_rounds.proofs.CalmBridges.{IsKeptFully, port_undue, port_kept, time_left, readied_lowered, none_flagged}
use Rattle.bridge_rounds.proofs.CalmLives.{lowered_db}
use Rattle.bridge_rounds.proofs.CalmSeconds.{seconds_are_calm}
use Rattle.bridge_rounds.proofs.CalmSent.{unsent_from, with_carrier_port}
use Rattle.bridge_rounds.proofs.HelloMoves.{hello_heard}
use Rattle.bridge_rounds.proofs.StayingUp.{same_kept}

-- a bridge one second older, with these ports
abbrev aged_with : List BridgePort → BridgeView → BridgeView
aged_with ports v = record v { ports = ports; database = lowered_db 1 v.database }

-- ---- the second

module _ (v : BridgeView) (was : IsSoundView v) (calm : IsCalmFor 1 v) where
  same_database : (step second v).database ≡ lowered_db 1 v.database
  same_database =
      ap (λ (u : BridgeView). u.database) (tick_is v)
      ∙ (ap (after_sending_from 1 (readied v).ports) (readied_lowered v was calm) ∙ unsent_from (lowered_db 1 v.database) (none_flagged v was calm) 1 (readied v).ports)

  same_drops : (step second v).drops ≡ v.drops
  same_drops = ap (λ (u : BridgeView). u.drops) (tick_is v) ∙ ap (λ (u : BridgeView). u.drops) (refreshed_parts (expired (counts_lowered v)))

  second_ages : step second v ≡ aged_with (step second v).ports v
  second_ages =
      let spent : (step second v).spent ≡ v.spent = (seconds_are_calm v was calm.fresh (time_left v was calm)).fresh ∙ sym calm.fresh in
      tick_rest v ∙ (λ i. with_and_parts (step second v).ports (same_database i) (spent i) (same_drops i) v)

-- ---- a greeting

-- a port with another holding count
abbrev counting : ℕ → BridgePort → BridgePort
counting hold port = with_adjacency (record (port.adjacency) { hold = hold }) port

neighbours_counting : (p i hold : ℕ) (port : BridgePort) (ports : List BridgePort) → slice_get ports i ≡ Some port → neighbours_from p (slice_set ports i (counting hold port)) ≡ neighbours_from p ports
neighbours_counting p i hold port [] is = refl
neighbours_counting p zero hold port (x ∷ ports) is =
    ap (λ (y : BridgePort). if is_port_up y then neighbour_in p y ∷ neighbours_from (p + 1) ports else neighbours_from (p + 1) ports) (sym (same_Some x port is))
neighbours_counting p (suc i) hold port (x ∷ ports) is = ap (λ (list : List Neighbour). if is_port_up x then neighbour_in p x ∷ list else list) (neighbours_counting (p + 1) i hold port ports is)

-- a hello of the kept neighbour that keeps it Up puts the holding count back, and nothing else comes of it
module _ (v w : BridgeView) (q : ℕ) (port : BridgePort) (bytes : List ℕ) (sound : IsSoundView w) (same : w.id ≡ v.id) (there : port_at w q ≡ Some port) (up : port.adjacency.state ≡ Up)
    (kept : neighbour_of port.adjacency ≡ neighbour_at v q) (g : IsGreeting v q bytes) where
  greeting_counts : step (frame q bytes) w ≡ with_port_at q (counting 3 port) w
  greeting_counts =
      let a : Adjacency = port.adjacency in
      let is : IsSoundPort port = sound_at w q port sound.ports there in
      let is_upward : is_up a.state ≡ true = ap is_up up in
      let end : (a.neighbour, a.circuit) ≡ sender g.hello g.way = same_kept a.state (a.neighbour, a.circuit) (sender g.hello g.way) is_upward (kept ∙ g.neighbour) in
      let keeps : keeps_up w.id.system q g.hello g.way ≡ true = ap (λ (id : BridgeId). keeps_up id.system q g.hello g.way) same ∙ g.keeps in
      let one : same_end (a.neighbour, a.circuit) (sender g.hello g.way) ≡ true = ap (λ (x : End). same_end x (sender g.hello g.way)) end ∙ same_end_refl (sender g.hello g.way) in
      let refreshed : is_refreshed w.id.system q g.hello g.way a ≡ true =
      sym (refreshed_is w.id.system q g.hello g.way a keeps) ∙ (ap (λ b. b && same_end (a.neighbour, a.circuit) (sender g.hello g.way)) is_upward ∙ one) in
      let r = refreshes w.id.system q g.hello g.way a is.adjacency refreshed in
      hello_heard q bytes g.hello g.way g.parses w port there (up_has_carrier port is is_upward)
      ∙ ((λ i. changed_at (r.kept i) q (with_adjacency (sym r.new i) port) w)
      ∙ (ap (λ (hold : ℕ). originated_if_changed (with_port_at q (counting hold port) w)) g.holding
      ∙ saying_settles (with_port_at q (counting 3 port) w)
      (moved_saying (slice_set w.ports (q - 1) (counting 3 port)) w.database w (neighbours_counting 1 (q - 1) 3 port w.ports (found w.ports q port there).1) (λ number says. says) (was_saying w sound))))

-- ---- each port

no_carrier : (s : AdjState) (a : Adjacency) → SoundIn s a → a.carrier ≡ false → is_down s ≡ true
no_carrier Down a sound none = refl
no_carrier Initializing a sound none = absurd (true≢false (sym sound.1 ∙ none))
no_carrier Up a sound none = absurd (true≢false (sym sound.1 ∙ none))

-- at a port without carrier nothing changes
still : (port : BridgePort) → IsSoundPort port → port.adjacency.carrier ≡ false → port.csnp_due ≡ false → ticked port ≡ port
still port sound none undue =
    let a : Adjacency = port.adjacency in
    let stays : after_second a ≡ a =
    ap (λ b. if b then a else (if a.hold == 1 then down a.carrier else record a { hold = a.hold - 1 })) (no_carrier a.state a sound.adjacency none) in
    λ i. record port { adjacency = stays i; csnp_due = sym undue i }

-- and at one that is kept the second is made good by the greeting
made_good : (port : BridgePort) → IsKeptFully port.adjacency → port.csnp_due ≡ false → counting 3 (ticked port) ≡ port
made_good port kept undue =
    let a : Adjacency = port.adjacency in
    let again : (record (after_second a) { hold = 3 }) ≡ a = ap (λ (x : Adjacency). record x { hold = 3 }) kept.later ∙ ap (λ (h : ℕ). record a { hold = h }) (sym kept.hold) in
    λ i. record port { adjacency = again i; csnp_due = sym undue i }

-- a port of this number is as it was before the round, and nothing comes there any more; or the second has passed there,
-- and the greeting is still to come
data Stands (v : BridgeView) (fs : Inbox) (p : ℕ) (now : Option BridgePort) : Type 0 where
  whole : now ≡ port_at v p → frames_at p fs ≡ [] → Stands v fs p now
  waits : (port : BridgePort) (bytes : List ℕ) → port_at v p ≡ Some port → now ≡ Some (ticked port) → port.adjacency.carrier ≡ true → frames_at p fs ≡ bytes ∷ [] → IsGreeting v p bytes → Stands v fs p now

abbrev AllStand : BridgeView → Inbox → List BridgePort → Type 0
AllStand v fs ports = (p : ℕ) → Stands v fs p (port_in ports p)

-- a port that stayed as it was, while frames came elsewhere
stands_on : (v : BridgeView) (fs gs : Inbox) (p : ℕ) (o n : Option BridgePort) → n ≡ o → frames_at p gs ≡ frames_at p fs → Stands v gs p o → Stands v fs p n
stands_on v fs gs p o n same frames (whole is none) = whole (same ∙ is) (sym frames ∙ none)
stands_on v fs gs p o n same frames (waits port bytes there now carrier comes g) = waits port bytes there (same ∙ now) carrier (sym frames ∙ comes) g

in_list : (ports : List BridgePort) (i : ℕ) → port_in ports (i + 1) ≡ slice_get ports i
in_list ports i =
    let low : nat_le 1 (i + 1) ≡ true = le-leb 1 (i + 1) (omega arith) in
    let place : i + 1 - 1 ≡ i = omega arith in
    ap (λ b. if b then slice_get ports (i + 1 - 1) else None) low ∙ ap (slice_get ports) place

same_lists : (xs ys : List BridgePort) → ((i : ℕ) → slice_get xs i ≡ slice_get ys i) → xs ≡ ys
same_lists [] [] same = refl
same_lists [] (y ∷ ys) same = absurd (let wrong : None ≡ Some y = same 0 in cc)
same_lists (x ∷ xs) [] same = absurd (let wrong : Some x ≡ None = same 0 in cc)
same_lists (x ∷ xs) (y ∷ ys) same =
    let first : x ≡ y = same_Some x y (same 0) in
    let rest : xs ≡ ys = same_lists xs ys (λ i. same (suc i)) in
    λ j. first j ∷ rest j

-- where nothing more comes, it is as it was
whole_at : (v : BridgeView) (p : ℕ) (now : Option BridgePort) → Stands v [] p now → now ≡ port_at v p
whole_at v p now (whole is none) = is
whole_at v p now (waits port bytes there is carrier comes g) = absurd cc

module _ (v : BridgeView) (was : IsSoundView v) (calm : IsCalmFor 1 v) where
  still_in : (p : ℕ) (o : Option BridgePort) → port_at v p ≡ o → has_carrier_in o ≡ false → option_map ticked o ≡ o
  still_in p None there none = refl
  still_in p (Some port) there none = ap (λ (x : BridgePort). Some x) (still port (sound_at v p port was.ports there) none (port_undue v was calm p port there))

  still_there : (p : ℕ) → has_carrier_at v p ≡ false → option_map ticked (port_at v p) ≡ port_at v p
  unfolding has_carrier_at
  still_there p none = still_in p (port_at v p) refl none

  first_by : (fs : Inbox) (p : ℕ) (b : Bool) → IsGreeted v fs → has_carrier_at v p ≡ b → Stands v fs p (port_at (step second v) p)
  first_by fs p false greeted none = whole (tick_port v p ∙ still_there p none) (greeted.others p none)
  first_by fs p true greeted carrier =
      let g = with_carrier_port v p carrier in
      let at = found v.ports p g.0 g.1.0 in
      let within : p - 1 < length v.ports = slice_get_within v.ports (p - 1) g.0 at.1 in
      let comes = greeted.carrier p (record { low = at.0; high = omega (arith, within, at.0) }) carrier in
      waits g.0 comes.0 g.1.0 (tick_port v p ∙ ap (option_map ticked) g.1.0) g.1.1 comes.1 comes.2

  first_stand : (fs : Inbox) → IsGreeted v fs → AllStand v fs (step second v).ports
  first_stand fs greeted p = first_by fs p (has_carrier_at v p) greeted refl

  -- nothing more comes
  all_whole : (ports : List BridgePort) → AllStand v [] ports → ports ≡ v.ports
  all_whole ports all = same_lists ports v.ports (λ i. sym (in_list ports i) ∙ (whole_at v (i + 1) (port_in ports (i + 1)) (all (i + 1)) ∙ in_list v.ports i))

  -- a frame is the greeting at its port
  next_by : (f : ℕ × List ℕ) (fs : Inbox) (ports : List BridgePort) → IsSoundView (aged_with ports v) → AllStand v (f ∷ fs) ports → Stands v (f ∷ fs) f.0 (port_in ports f.0)
      → (next : List BridgePort) × ((step (frame f.0 f.1) (aged_with ports v) ≡ aged_with next v) × AllStand v fs next)
  next_by f fs ports sound all (whole is none) =
      let comes = ap (λ b. if b then f.1 ∷ frames_at f.0 fs else frames_at f.0 fs) (eq-eqb f.0 f.0 refl) in
      absurd (let wrong : f.1 ∷ frames_at f.0 fs ≡ [] = sym comes ∙ none in cc)
  next_by f fs ports sound all (waits port bytes there now carrier comes g) =
      let q : ℕ = f.0 in
      let kept = port_kept v was calm q port there carrier in
      let both : f.1 ∷ frames_at q fs ≡ bytes ∷ [] = sym (ap (λ b. if b then f.1 ∷ frames_at q fs else frames_at q fs) (eq-eqb q q refl)) ∙ comes in
      let this : f.1 ≡ bytes = cc in
      let rest : frames_at q fs ≡ [] = cc in
      let at = found ports q (ticked port) now in
      let next : List BridgePort = slice_set ports (q - 1) port in
      let back : port_in next q ≡ port_at v q = rw (le-leb 1 q at.0) (got_at ports (q - 1) port (slice_get_within ports (q - 1) (ticked port) at.1)) ∙ sym there in
      let counts = greeting_counts v (aged_with ports v) q (ticked port) f.1 sound refl now (ap (λ (x : Adjacency). x.state) kept.later ∙ kept.up) (ap neighbour_of kept.later ∙ sym (neighbour_found v q port there))
      (subst (IsGreeting v q) (sym this) g) in (
        next,
        (
          counts ∙ ap (λ (x : BridgePort). aged_with (slice_set ports (q - 1) x) v) (made_good port kept (port_undue v was calm q port there)),
          λ p.
              elim (cases_eq p q) [
                | inl e ↦ subst (λ (x : ℕ). Stands v fs x (port_in next x)) (sym e) (whole back rest)
                | inr apart ↦
                    elim (one_port ports q (ticked port) port p at.0 at.1) [
                      | inl same ↦ absurd (apart same.0)
                      | inr same ↦
                          stands_on v fs (f ∷ fs) p (port_in ports p) (port_in next p) same
                          (ap (λ b. if b then f.1 ∷ frames_at p fs else frames_at p fs) (ne_eqb q p (λ e. apart (sym e)))) (all p)
                    ]
              ],
        ),
      )

  next_stand : (f : ℕ × List ℕ) (fs : Inbox) (ports : List BridgePort) → IsSoundView (aged_with ports v) → AllStand v (f ∷ fs) ports
      → (next : List BridgePort) × ((step (frame f.0 f.1) (aged_with ports v) ≡ aged_with next v) × AllStand v fs next)
  next_stand f fs ports sound all = next_by f fs ports sound all (all f.0)

  through : (fs : Inbox) (ports : List BridgePort) → IsSoundView (aged_with ports v) → AllStand v fs ports → heard_all fs (aged_with ports v) ≡ aged_with v.ports v
  through [] ports sound all = ap (λ (list : List BridgePort). aged_with list v) (all_whole ports all)
  through (f ∷ fs) ports sound all =
      let next = next_stand f fs ports sound all in
      let after : IsSoundView (step (frame f.0 f.1) (aged_with ports v)) = steps_stay_sound (frame f.0 f.1) (aged_with ports v) tt sound in
      ap (heard_all fs) next.1.0 ∙ through fs next.0 (subst IsSoundView next.1.0 after) next.1.1

pub calm_round_ages : CalmRoundAges
unfolding aged_by
calm_round_ages v fs was calm greeted =
    let ages : step second v ≡ aged_with (step second v).ports v = second_ages v was calm in
    ap (heard_all fs) ages
    ∙ through v was calm fs (step second v).ports (subst IsSoundView ages (steps_stay_sound second v tt was)) (first_stand v was calm fs greeted)

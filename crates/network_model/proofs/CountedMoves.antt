-- The copies of an LSP after a move of the network, and the numbers that they have.
use Rattle.std.proofs.Common.{◌≡◌, ◌≢◌, ◌⊎◌, inl, inr, ◌≤◌, ◌<◌, ◌+◌, ℕ, zero, suc, Bool, true, List, [], ◌∷◌, length, refl, sym, ap, ◌∙◌, subst, Option, Some, None, slice_get, arith}
use Rattle.std.proofs.lemmas.Bool.{cases_eq}
use Rattle.std.specs.Option.{option_map}
use Rattle.std.specs.FinMap.{get}
use Rattle.spb_types.specs.declared.address.BridgeId.{BridgeId}
use Rattle.spb_types.specs.declared.address.SystemId.{SystemId}
use Rattle.spb_types.specs.declared.address.LspId.{LspId}
use Rattle.spb_types.specs.Graph.{IsAmong, IsDistinct, systems_of}
use Rattle.spb_types.specs.declared.link.Dir.{Dir}
use Rattle.spb_types.specs.declared.link.Dir.TheVariants.{Ab, Ba}
use Rattle.spb_tlvs.specs.RoundTrip.{IsNamed}
use Rattle.link_model.specs.declared.lanes.LinkLanes.{LinkLanes}
use Rattle.link_model.specs.Lane.{Frame}
use Rattle.lsdb.specs.declared.version.Version.{Version}
use Rattle.lsdb.specs.declared.version.Version.TheVariants.{Dead}
use Rattle.lsdb.specs.Version.{number_of}
use Rattle.lsdb.specs.Database.{version_at, version_in}
use Rattle.lsdb.specs.Certificate.{IsClaimed}
use Rattle.flooding.specs.Own.{IsOwnNumber}
use Rattle.bridge_api.specs.View.{BridgeView, neighbour_at}
use Rattle.bridge_api.specs.Parsing.{parsed}
use Rattle.bridge_api.specs.Step.{Input, second, frame, carrier, metric, attach, detach, customer, step}
use Rattle.bridge_api.specs.Laws.{IsSoundView, IsSent, IsHeldAt, IsFrameOf, claims_said, claims_of}
use Rattle.bridge_api.specs.Time as time
use Rattle.bridge_api.specs.Time.{AgedFrom}
use Rattle.bridge_laws.specs.Counting as counting
use Rattle.bridge_laws.specs.Counting.{IsKnown, Learned}
use Rattle.spb_world.specs.declared.declaration.DeclaredBridge.{DeclaredBridge}
use Rattle.spb_world.specs.declared.declaration.DeclaredLink.{DeclaredLink}
use Rattle.spb_world.specs.World.{World, Bridges, things_of, graph_bridges}
use Rattle.network_model.specs.State.{State, links_of}
use Rattle.spb_world.specs.Links.{far_end, lane_out}
use Rattle.network_model.specs.Counted.{IsCopy, is_held, is_said, IsWeak}
use Rattle.spb_world.proofs.BoxLemmas.{All-get}
use Rattle.flooding.proofs.OwnNumbers.{not_own}
use Rattle.network_model.proofs.BridgeLaws.{sent_is_sound, seconds_age, steps_learn_versions}
use Rattle.network_model.proofs.FitsLemmas.{link_there, far_is_port}
use Rattle.network_model.proofs.SoundLane.{some-is, moved, sent_by, AreInputs, named}
use Rattle.spb_world.proofs.SoundLaneIds.{turned, LeadsFrom, lane_leads}
use Rattle.network_model.proofs.SoundMoves.{IsCore, Comes, GoesOut, Moves, got_mapped, there_is}

-- a move from one state to another, of the same things declared
pub record Turn (s t : State) (o : ℕ → Option Input) : Type 0 where
  pub before : IsCore s
  pub after : IsCore t
  pub world : t.world ≡ s.world
  pub moves : Moves (links_of s) o s.views t.views s.lanes t.lanes

-- ---- which bridge is which

pub is_within : {X : Type 0} (xs : List X) (i : ℕ) (x : X) → slice_get xs i ≡ Some x → i < length xs
is_within [] i x at = absurd cc
is_within (y ∷ xs) zero x at = omega arith
is_within (y ∷ xs) (suc i) x at = let more = is_within xs i x at in omega (arith, more)

pub length-things : {T : Type 0} (xs : List (List ℕ × T)) → length (things_of xs) ≡ length xs
length-things [] = refl
length-things (x ∷ xs) = ap suc (length-things xs)

-- the declared bridge at the place of a view
pub declared_at : (s : State) (i : ℕ) (v : BridgeView) → IsCore s → slice_get s.views i ≡ Some v → (b : DeclaredBridge) × (slice_get (things_of s.world.bridges) i ≡ Some b) × (v.id ≡ b.bridge.id)
declared_at s i v core at =
    let some = there_is (things_of s.world.bridges) i (omega (arith, is_within s.views i v at, core.fits.bridges, length-things s.world.bridges)) in
    (some.0, some.1, (core.shown i v some.0 at some.1).id)

-- and the view at the place of a declared bridge
pub shown_at : (s : State) (i : ℕ) (b : DeclaredBridge) → IsCore s → slice_get (things_of s.world.bridges) i ≡ Some b → (v : BridgeView) × (slice_get s.views i ≡ Some v) × (v.id ≡ b.bridge.id)
shown_at s i b core at =
    let some = there_is s.views i (omega (arith, is_within (things_of s.world.bridges) i b at, core.fits.bridges, length-things s.world.bridges)) in
    (some.0, some.1, (core.shown i some.0 b some.1 at).id)

pub among_at : (bs : Bridges) (i : ℕ) (b : DeclaredBridge) → slice_get (things_of bs) i ≡ Some b → IsAmong b.bridge.id.system (systems_of (graph_bridges bs))
among_at [] i b at = absurd cc
among_at (c ∷ bs) zero b at = let same : c.1 ≡ b = cc in inl (ap (λ (d : DeclaredBridge). d.bridge.id.system) (sym same))
among_at (c ∷ bs) (suc i) b at = inr (among_at bs i b at)

pub systems_apart : (bs : Bridges) (i j : ℕ) (b c : DeclaredBridge) → IsDistinct (systems_of (graph_bridges bs)) → slice_get (things_of bs) i ≡ Some b → slice_get (things_of bs) j ≡ Some c → b.bridge.id.system ≡ c.bridge.id.system → i ≡ j
systems_apart [] i j b c apart at_i at_j same = absurd cc
systems_apart (d ∷ bs) zero zero b c apart at_i at_j same = refl
systems_apart (d ∷ bs) zero (suc j) b c apart at_i at_j same =
    let here : d.1 ≡ b = cc in
    absurd (apart.0 (subst (λ (x : SystemId). IsAmong x (systems_of (graph_bridges bs))) (sym (ap (λ (e : DeclaredBridge). e.bridge.id.system) here ∙ same)) (among_at bs j c at_j)))
systems_apart (d ∷ bs) (suc i) zero b c apart at_i at_j same =
    let here : d.1 ≡ c = cc in
    absurd (apart.0 (subst (λ (x : SystemId). IsAmong x (systems_of (graph_bridges bs))) (sym (ap (λ (e : DeclaredBridge). e.bridge.id.system) here ∙ sym same)) (among_at bs i b at_i)))
systems_apart (d ∷ bs) (suc i) (suc j) b c apart at_i at_j same = ap suc (systems_apart bs i j b c apart.1 at_i at_j same)

pub views_apart : (s : State) (i j : ℕ) (v u : BridgeView) → IsCore s → slice_get s.views i ≡ Some v → slice_get s.views j ≡ Some u → v.id.system ≡ u.id.system → i ≡ j
views_apart s i j v u core at_i at_j same =
    let b = declared_at s i v core at_i in
    let c = declared_at s j u core at_j in
    systems_apart s.world.bridges i j b.0 c.0 core.world.systems b.1 c.1 (sym (ap (λ (x : BridgeId). x.system) b.2) ∙ (same ∙ ap (λ (x : BridgeId). x.system) c.2))

own_system : (x : SystemId) (id : LspId) → IsOwnNumber x id → id.system ≡ x
own_system x id own = ap (λ (y : LspId). y.system) own.is

-- ---- what is sent claims what its sender holds

pub can_name : (t : State) (i p k : ℕ) (dir : Dir) (v : BridgeView) → IsCore t → lane_out (links_of t) i p ≡ Some (record { link = k; dir = dir }) → slice_get t.views i ≡ Some v → IsNamed (neighbour_at v p)
can_name t i p k dir v core out at =
    let leads : LeadsFrom (links_of t) i p k dir = lane_leads (links_of t) i p (record { link = k; dir = dir }) out in
    let far = there_is t.views (far_end dir leads.link).bridge (omega (arith, far_within dir leads.link leads.there, core.fits.bridges)) in
    let sound : IsSoundView far.0 = All-get IsSoundView t.views (far_end dir leads.link).bridge far.0 core.views far.1 in
    let port = far_is_port t k leads.link dir core.world core.fits leads.there far.0 far.1 in
    named (neighbour_at v p) far.0 (far_end dir leads.link).port sound (omega (arith, port.high, sound.few)) (λ n kept.
    (core.agree k dir leads.link v far.0 leads.there (ap (slice_get t.views) leads.bridge ∙ at) far.1).keeps n (ap (neighbour_at v) leads.port ∙ kept))
  where
    far_within : (d : Dir) (l : DeclaredLink) → slice_get (links_of t) k ≡ Some l → (far_end d l).bridge < length t.world.bridges
    far_within Ab l there = (link_there t k l core.world there).b.bridge
    far_within Ba l there = (link_there t k l core.world there).a.bridge

-- a frame that goes out is one of its sender afterwards
pub frame_sent : (s t : State) (o : ℕ → Option Input) (k : ℕ) (dir : Dir) (f : Frame) → Turn s t o → (out : GoesOut (links_of s) o s.views k dir f) → IsFrameOf (moved (o out.place) out.view) out.port f
frame_sent s t o k dir f turn out = by (o out.place) refl out.sent
  where
    by : (x : Option Input) → o out.place ≡ x → IsSent (sent_by x out.view) out.port f → IsFrameOf (moved x out.view) out.port f
    by None is some = absurd some
    by (Some x) is some =
        let here : slice_get t.views out.place ≡ Some (step x out.view) = turn.moves.bridges out.place ∙ (λ j. option_map (moved (is j)) (out.from j)) in
        let way : lane_out (links_of t) out.place out.port ≡ Some (record { link = k; dir = dir }) = ap (λ (w : World). lane_out (things_of w.links) out.place out.port) turn.world ∙ out.out in
        sent_is_sound x out.view out.port f (subst (AreInputs out.view) is (turn.moves.inputs out.place out.view out.from)) (All-get IsSoundView s.views out.place out.view turn.before.views out.from)
        (can_name t out.place out.port k dir (step x out.view) turn.after way here) some

-- so it claims what is held afterwards
pub sent_held : (s t : State) (o : ℕ → Option Input) (k : ℕ) (dir : Dir) (f : Frame) (id : LspId) (a : Version) → Turn s t o → (out : GoesOut (links_of s) o s.views k dir f) → IsClaimed (claims_said (parsed f)) id a → IsHeldAt (moved (o out.place) out.view) id a
sent_held s t o k dir f id a turn out claimed = (frame_sent s t o k dir f turn out).claims id a claimed

-- ---- where a copy comes from

-- a copy after a move was there before, is the owner's, is dead where one expired, or is dead at the number of two that
-- differ
pub data Stems (aging : Bool) (views : List BridgeView) (lanes : List LinkLanes) (id : LspId) (own a : Version) : Type 0 where
  was : IsCopy views lanes id a → Stems aging views lanes id own a
  owns : a ≡ own → Stems aging views lanes id own a
  aged : aging ≡ true → (b : Version) → IsCopy views lanes id b → a ≡ Dead (number_of b) → Stems aging views lanes id own a
  met : (b c : Version) → IsCopy views lanes id b → IsCopy views lanes id c → b ≢ c → number_of b ≡ number_of c → a ≡ Dead (number_of b) → Stems aging views lanes id own a

-- what is claimed in what comes to a bridge is a copy
pub claims_are_copies : (links : List DeclaredLink) (views : List BridgeView) (lanes : List LinkLanes) (j : ℕ) (x : Input) (id : LspId) (a : Version) → ((p : ℕ) (f : Frame) → x ≡ frame p f → Comes links lanes j p f) → IsClaimed (claims_of x) id a → IsCopy views lanes id a
claims_are_copies links views lanes j second id a comes claimed = absurd claimed
claims_are_copies links views lanes j (frame p f) id a comes claimed = let here = comes p f refl in is_said here.lane.link (turned here.lane.dir) f here.among claimed
claims_are_copies links views lanes j (carrier p on) id a comes claimed = absurd claimed
claims_are_copies links views lanes j (metric p m) id a comes claimed = absurd claimed
claims_are_copies links views lanes j (attach b) id a comes claimed = absurd claimed
claims_are_copies links views lanes j (detach p) id a comes claimed = absurd claimed
claims_are_copies links views lanes j (customer p bytes) id a comes claimed = absurd claimed

module _ (aging : Bool) (views : List BridgeView) (lanes : List LinkLanes) (id : LspId) (own : Version) where
  aged_stems : (j : ℕ) (u : BridgeView) (a : Version) → slice_get views j ≡ Some u → aging ≡ true → AgedFrom (get u.database id) (get (step second u).database id) → version_at (step second u).database id ≡ a → Stems aging views lanes id own a
  aged_stems j u a at ages (time.stays version body lower upper) is = was (is_held j u at (sym version ∙ is))
  aged_stems j u a at ages (time.dies live last version body) is = aged ages (version_at u.database id) (is_held j u at refl) (sym is ∙ version)

  known_copy : (j : ℕ) (u : BridgeView) (x : Input) (a : Version) → slice_get views j ≡ Some u → ((b : Version) → IsClaimed (claims_of x) id b → IsCopy views lanes id b) → IsKnown (version_at u.database id) (claims_of x) id a → IsCopy views lanes id a
  known_copy j u x a at claims (counting.is_held is) = is_held j u at (sym is)
  known_copy j u x a at claims (counting.is_claimed claimed) = claims a claimed

  learned_stems : (j : ℕ) (u : BridgeView) (x : Input) (new a : Version) → slice_get views j ≡ Some u → ((b : Version) → IsClaimed (claims_of x) id b → IsCopy views lanes id b) → Learned (version_at u.database id) (claims_of x) id new → new ≡ a → Stems aging views lanes id own a
  learned_stems j u x new a at claims (counting.takes known) is = was (subst (IsCopy views lanes id) is (known_copy j u x new at claims known))
  learned_stems j u x new a at claims (counting.ends b c first other apart same dead) is =
      met b c (known_copy j u x b at claims first) (known_copy j u x c at claims other) apart same (sym is ∙ dead)

  -- at a bridge of another system
  other_stems : (links : List DeclaredLink) (j : ℕ) (u : BridgeView) (o : Option Input) (a : Version) → slice_get views j ≡ Some u → id.system ≢ u.id.system → (o ≡ Some second → aging ≡ true) → ((p : ℕ) (f : Frame) → o ≡ Some (frame p f) → Comes links lanes j p f) → version_at (moved o u).database id ≡ a → Stems aging views lanes id own a
  other_stems links j u None a at apart ages comes is = was (is_held j u at is)
  other_stems links j u (Some second) a at apart ages comes is = aged_stems j u a at (ages refl) (seconds_age u id (not_own u.id.system id apart)) is
  other_stems links j u (Some (frame p f)) a at apart ages comes is =
      learned_stems j u (frame p f) (version_at (step (frame p f) u).database id) a at (λ b claimed. claims_are_copies links views lanes j (frame p f) id b (λ q g e. comes q g (ap (λ (y : Input). Some y) e)) claimed) (steps_learn_versions (frame p f) u id apart (λ e. absurd cc)) is
  other_stems links j u (Some (carrier p on)) a at apart ages comes is =
      learned_stems j u (carrier p on) (version_at (step (carrier p on) u).database id) a at (λ b claimed. absurd claimed) (steps_learn_versions (carrier p on) u id apart (λ e. absurd cc)) is
  other_stems links j u (Some (metric p m)) a at apart ages comes is =
      learned_stems j u (metric p m) (version_at (step (metric p m) u).database id) a at (λ b claimed. absurd claimed) (steps_learn_versions (metric p m) u id apart (λ e. absurd cc)) is
  other_stems links j u (Some (attach c)) a at apart ages comes is =
      learned_stems j u (attach c) (version_at (step (attach c) u).database id) a at (λ b claimed. absurd claimed) (steps_learn_versions (attach c) u id apart (λ e. absurd cc)) is
  other_stems links j u (Some (detach p)) a at apart ages comes is =
      learned_stems j u (detach p) (version_at (step (detach p) u).database id) a at (λ b claimed. absurd claimed) (steps_learn_versions (detach p) u id apart (λ e. absurd cc)) is
  other_stems links j u (Some (customer p bytes)) a at apart ages comes is =
      learned_stems j u (customer p bytes) (version_at (step (customer p bytes) u).database id) a at (λ b claimed. absurd claimed) (steps_learn_versions (customer p bytes) u id apart (λ e. absurd cc)) is

module _ (aging : Bool) (s t : State) (o : ℕ → Option Input) (turn : Turn s t o) (ages : (j : ℕ) → o j ≡ Some second → aging ≡ true) (i : ℕ) (v : BridgeView) (id : LspId) (at : slice_get s.views i ≡ Some v) (owned : IsOwnNumber v.id.system id) where
  abbrev pub own : Version
  own = version_at (moved (o i) v).database id

  held_stems : (j : ℕ) (u : BridgeView) (a : Version) → slice_get s.views j ≡ Some u → version_at (moved (o j) u).database id ≡ a → Stems aging s.views s.lanes id own a
  held_stems j u a at_j is =
      elim (cases_eq j i) [
        | inl here ↦
            let same : u ≡ v = some-is u v (sym at_j ∙ (ap (slice_get s.views) here ∙ at)) in
            owns (sym is ∙ (λ k. version_at (moved (o (here k)) (same k)).database id))
        | inr apart ↦
            other_stems aging s.views s.lanes id own (links_of s) j u (o j) a at_j (λ e. apart (views_apart s j i u v turn.before at_j at (sym e ∙ own_system v.id.system id owned))) (ages j) (turn.moves.heard j) is
      ]

  pub stems : (a : Version) → IsCopy t.views t.lanes id a → Stems aging s.views s.lanes id own a
  stems a (is_held j w at_j is) =
      let from = got_mapped (moved (o j)) (slice_get s.views j) w (sym (turn.moves.bridges j) ∙ at_j) in
      held_stems j from.0 a from.1 (ap (λ (y : BridgeView). version_at y.database id) (sym from.2) ∙ is)
  stems a (is_said k dir f among claimed) =
      elim (turn.moves.frames k dir f among) [
        | inl old ↦ was (is_said k dir f old claimed)
        | inr out ↦
            let held = sent_held s t o k dir f id a turn out claimed in
            held_stems out.place out.view a out.from (ap version_in held.1 ∙ sym held.2)
      ]

-- ---- the numbers

-- no copy goes further than the owner
pub weak_after : (aging : Bool) (views : List BridgeView) (lanes : List LinkLanes) (id : LspId) (own a : Version) (m n : ℕ) → m ≤ n → IsWeak views lanes id m → number_of own ≤ n → Stems aging views lanes id own a → number_of a ≤ n
weak_after aging views lanes id own a m n more weak low (was copy) = omega (arith, more, weak a copy)
weak_after aging views lanes id own a m n more weak low (owns is) = subst (λ (x : Version). number_of x ≤ n) (sym is) low
weak_after aging views lanes id own a m n more weak low (aged ages b copy is) = omega (arith, more, weak b copy, ap number_of is)
weak_after aging views lanes id own a m n more weak low (met b c copy other apart same is) = omega (arith, more, weak b copy, ap number_of is)

-- and where it goes one number past all, nobody else has that one
pub bound_after : (aging : Bool) (views : List BridgeView) (lanes : List LinkLanes) (id : LspId) (own a : Version) (m : ℕ) → IsWeak views lanes id m → number_of own ≤ m + 1 → Stems aging views lanes id own a → (number_of a < m + 1) ⊎ ((number_of a ≡ m + 1) × (a ≡ own))
bound_after aging views lanes id own a m weak low (was copy) = inl (omega (arith, weak a copy))
bound_after aging views lanes id own a m weak low (owns is) =
    let high : number_of a ≤ m + 1 = subst (λ (x : Version). number_of x ≤ m + 1) (sym is) low in
    elim (cases_eq (number_of a) (m + 1)) [
      | inl same ↦ inr (same, is)
      | inr apart ↦ inl (below (number_of a) (m + 1) high apart)
    ]
  where
    below : (x y : ℕ) → x ≤ y → x ≢ y → x < y
    below x y high apart = omega (arith, high, apart)
bound_after aging views lanes id own a m weak low (aged ages b copy is) = inl (omega (arith, weak b copy, ap number_of is))
bound_after aging views lanes id own a m weak low (met b c copy other apart same is) = inl (omega (arith, weak b copy, ap number_of is))

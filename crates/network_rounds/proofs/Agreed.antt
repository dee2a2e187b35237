-- Bridges that are joined come to agree: the rounds from the end of round 4 on are steady ones, in which versions do what
-- agreement follows from by their order alone.
use Rattle.std.proofs.Common.{◌≡◌, ◌⊎◌, inl, inr, ℕ, zero, suc, ◌+◌, ◌-◌, ◌*◌, ◌<◌, ◌≤◌, List, sym, ap, ◌∙◌, subst, Option, Some, slice_get, arith}
use Rattle.std.specs.Option.{option_map_or}
use Rattle.spb_types.specs.declared.address.BridgeId.{BridgeId}
use Rattle.spb_types.specs.declared.address.LspId.{LspId}
use Rattle.lsdb.specs.declared.version.Version.{Version}
use Rattle.lsdb.specs.declared.version.Version.TheVariants.{Absent}
use Rattle.lsdb.specs.Version.{IsAtMost}
use Rattle.lsdb.specs.Database.{version_at}
use Rattle.lsdb.proofs.Order.{itself, both_ways, through}
use Rattle.flooding.specs.Own.{last_number}
use Rattle.bridge_api.specs.View.{BridgeView}
use Rattle.spb_world.specs.declared.declaration.DeclaredLink.{DeclaredLink}
use Rattle.spb_world.specs.World.{World, things_of}
use Rattle.network_model.specs.State.{State, links_of}
use Rattle.network_model.specs.Truth.{AreLinked, AreJoined, IsWalk}
use Rattle.network_model.proofs.CountedMoves.{systems_apart, declared_at}
use Rattle.network_model.proofs.SoundEvents.{core_of}
use Rattle.network_rounds.specs.Agreement.{IsReached, OriginsAreAhead, BridgesAgree}
use Rattle.network_rounds.specs.Rounds.{IsRoundOf, AreRounds}
use Rattle.network_rounds.specs.Steady.{IsReadyFor, known_ids, IsSteadyState, LinksComeUp, RoundsAreSteady}
use Rattle.network_rounds.proofs.Along.{rounds_stay_sound, rounds_stay_counted}
use Rattle.network_rounds.proofs.Chain.{IsSteady, ahead, agree}
use Rattle.network_rounds.proofs.Facts.{held_at, IsOriginAt, HasFacts, IsSteadyStep}
use Rattle.network_rounds.proofs.FactsRise.{rises}
use Rattle.network_rounds.proofs.FactsPush.{pushes}
use Rattle.network_rounds.proofs.FactsCome.{comes}
use Rattle.network_rounds.proofs.FactsStand.{stands}
use Rattle.network_rounds.proofs.Passing.{Passes, heard_round, empty_plain, passes_round, starts_passing}
use Rattle.network_rounds.proofs.Sequence.{after, round_after, rounds_after, last_after}

-- ---- the facts of a steady round

facts_of : (ids : List LspId) (m allowance : ℕ) (s t : State) → IsSteadyStep ids m allowance s t → HasFacts s t
facts_of ids m allowance s t one = record {
  rises = rises ids m allowance s t one;
  pushes = pushes ids m allowance s t one;
  comes = comes ids m allowance s t one;
  stands = stands ids m allowance s t one;
}

-- ---- what is declared stays so

pub world_on : (ids : List LspId) (k : ℕ) (s t : State) → AreRounds k s t → Passes ids s → t.world ≡ s.world
world_on ids zero s t are was = are.0
world_on ids (suc k) s t are was =
    world_on ids k are.0 t are.2 (passes_round ids s are.0 was are.1).0 ∙ (heard_round s are.0 was.sound was.plain are.1).world

module _ (come_up : LinksComeUp) (are_steady : RoundsAreSteady) (d m n : ℕ) (s t : State) (reached : IsReached d m (suc (suc (suc (suc n)))) s t) where
  abbrev k : ℕ
  k = suc (suc (suc (suc n)))

  abbrev ids : List LspId
  ids = known_ids s

  -- the state after round 4 + r
  abbrev at_round : ℕ → State
  at_round r = after k s t reached.rounds (suc (suc (suc (suc r))))

  world_at : (r : ℕ) → r ≤ n → (at_round r).world ≡ s.world
  world_at r low = world_on ids (suc (suc (suc (suc r)))) s (at_round r) (rounds_after k s t reached.rounds (suc (suc (suc (suc r)))) (omega (arith, low))) (starts_passing m k s reached.ready)

  -- the network was ready for as many rounds
  ready_at : (r : ℕ) → r ≤ n → IsReadyFor m (suc (suc (suc (suc r)))) s
  ready_at r low =
      let was : IsReadyFor m k s = reached.ready in
      let room : was.allowance + 128 * k < last_number = was.room in
      record { sound = was.sound; allowance = was.allowance; counted = was.counted; room = omega (arith, low, room); ready = was.ready; short = was.short }

  step_at : (r : ℕ) → r < n → IsSteadyStep ids (m - suc (suc (suc (suc r)))) (reached.ready.allowance + 128 * suc (suc (suc (suc r)))) (at_round r) (at_round (suc r))
  step_at r low =
      let within : k ≤ m = reached.within in
      let so_many : ℕ = suc (suc (suc (suc r))) in
      let are : AreRounds so_many s (at_round r) = rounds_after k s t reached.rounds so_many (omega (arith, low)) in
      let is : IsRoundOf (at_round r) (at_round (suc r)) = round_after k s t reached.rounds so_many (omega (arith, low)) in
      let state : IsSteadyState ids (m - so_many) (at_round r) = (come_up m so_many s (at_round r) (ready_at r (omega (arith, low))) are (omega arith) (omega (arith, low, within))).0 in
      let room : reached.ready.allowance + 128 * k < last_number = reached.ready.room in
      record {
        state = state;
        round = are_steady ids (m - so_many) (at_round r) (at_round (suc r)) state (omega (arith, low, within)) is;
        heard = heard_round (at_round r) (at_round (suc r)) state.sound (empty_plain (at_round r) state.loses.empty) is;
        counted = rounds_stay_counted so_many reached.ready.allowance s (at_round r) are reached.ready.sound reached.ready.counted (omega (arith, low, room));
      }

  facts_at : (r : ℕ) → r < n → HasFacts (at_round r) (at_round (suc r))
  facts_at r low = facts_of ids (m - suc (suc (suc (suc r)))) (reached.ready.allowance + 128 * suc (suc (suc (suc r)))) (at_round r) (at_round (suc r)) (step_at r low)

  -- ---- as steady rounds

  links_at : (r : ℕ) → r < n → links_of (at_round r) ≡ links_of s
  links_at r low = ap (λ (w : World). things_of w.links) (world_at r (omega (arith, low)))

  to_here : (r i j : ℕ) → r < n → AreLinked (links_of s) i j → AreLinked (links_of (at_round r)) i j
  to_here r i j low link = subst (λ (links : List DeclaredLink). AreLinked links i j) (sym (links_at r low)) link

  from_here : (r i j : ℕ) → r < n → AreLinked (links_of (at_round r)) i j → AreLinked (links_of s) i j
  from_here r i j low link = subst (λ (links : List DeclaredLink). AreLinked links i j) (links_at r low) link

  comes_at : (r i : ℕ) (id : LspId) → r < n
      → (held_at (at_round (suc r)) i id ≡ held_at (at_round r) i id) ⊎ (((j : ℕ) × AreLinked (links_of s) j i × (held_at (at_round (suc r)) i id ≡ held_at (at_round r) j id)) ⊎ IsOriginAt s.world i id)
  comes_at r i id low =
      elim ((facts_at r low).comes i id) [
        | inl stays ↦ inl stays
        | inr (inl came) ↦ inr (inl (came.place, from_here r came.place i low came.link, came.is))
        | inr (inr own) ↦ inr (inr (subst (λ (w : World). IsOriginAt w i id) (world_at r (omega (arith, low))) own))
      ]

  one_origin : (i j : ℕ) (id : LspId) → IsOriginAt s.world i id → IsOriginAt s.world j id → i ≡ j
  one_origin i j id here there = systems_apart s.world.bridges i j here.bridge there.bridge reached.ready.sound.world.systems here.there there.there (sym here.system ∙ there.system)

  pub rounds_steady : IsSteady IsAtMost (links_of s) (λ i id. IsOriginAt s.world i id) n (λ r i id. held_at (at_round r) i id)
  rounds_steady = record {
    order = record { itself = itself; through = through; both = both_ways };
    one = one_origin;
    rises = λ r i id low. (facts_at r low).rises i id;
    pushes = λ r i j id low link. (facts_at r low).pushes i j id (to_here r i j low link);
    comes = comes_at;
    stands = λ r i id low all. (facts_at r low).stands i id (λ j link. all j (from_here r j i low link));
  }

  -- ---- at the end

  held_last : (i : ℕ) (v : BridgeView) (id : LspId) → slice_get t.views i ≡ Some v → held_at (at_round n) i id ≡ version_at v.database id
  held_last i v id at =
      ap (λ (u : State). held_at u i id) (last_after k s t reached.rounds) ∙ ap (λ (o : Option BridgeView). option_map_or (λ w. version_at w.database id) o Absent) at

  world_last : t.world ≡ s.world
  world_last = ap (λ (u : State). u.world) (sym (last_after k s t reached.rounds)) ∙ world_at n (omega arith)

  walk_last : (i j : ℕ) (ks : List ℕ) → IsWalk (links_of t) i ks j → IsWalk (links_of s) i ks j
  walk_last i j ks walk = subst (λ (w : World). IsWalk (things_of w.links) i ks j) world_last walk

  pub ahead_last : (v w : BridgeView) (id : LspId) → d ≤ n → AreJoined t v w → id.system ≡ v.id.system → IsAtMost (version_at w.database id) (version_at v.database id)
  ahead_last v w id low join is =
      let of = declared_at t join.from v (core_of t (rounds_stay_sound k s t reached.rounds reached.ready.sound)) join.here in
      let own : IsOriginAt s.world join.from id = subst (λ (x : World). IsOriginAt x join.from id) world_last (record { bridge = of.0; there = of.1; system = is ∙ ap (λ (b : BridgeId). b.system) of.2 }) in
      subst (IsAtMost (version_at w.database id)) (held_last join.from v id join.here)
      (subst (λ (a : Version). IsAtMost a (held_at (at_round n) join.from id)) (held_last join.to w id join.there)
      (ahead IsAtMost (links_of s) (λ i x. IsOriginAt s.world i x) n d (λ r i x. held_at (at_round r) i x) rounds_steady reached.near n join.from join.to id join.walk low (omega arith) own
      (walk_last join.from join.to join.walk join.leads)))

  pub agree_last : (v w : BridgeView) (id : LspId) → d + d ≤ n → AreJoined t v w → version_at v.database id ≡ version_at w.database id
  agree_last v w id low join =
      sym (held_last join.from v id join.here)
      ∙ (agree IsAtMost (links_of s) (λ i x. IsOriginAt s.world i x) n d (λ r i x. held_at (at_round r) i x) rounds_steady reached.near n join.from join.to id join.walk low (omega arith)
      (walk_last join.from join.to join.walk join.leads)
      ∙ held_last join.to w id join.there)

-- ---- whatever the number of rounds

from_four : (P : ℕ → Type 0) → ((n : ℕ) → P (suc (suc (suc (suc n))))) → (k : ℕ) → 4 ≤ k → P k
from_four P all k low = subst P (omega (arith, low)) (all (k - 4))

pub origins_are_ahead : LinksComeUp → RoundsAreSteady → OriginsAreAhead
origins_are_ahead come_up are_steady d m k s t v w id reached late join is =
    from_four (λ i. IsReached d m i s t → 4 + d ≤ i → IsAtMost (version_at w.database id) (version_at v.database id))
    (λ n so low. ahead_last come_up are_steady d m n s t so v w id (omega (arith, low)) join is) k (omega (arith, late)) reached late

pub bridges_agree : LinksComeUp → RoundsAreSteady → BridgesAgree
bridges_agree come_up are_steady d m k s t v w id reached late join =
    from_four (λ i. IsReached d m i s t → 4 + 2 * d ≤ i → version_at v.database id ≡ version_at w.database id)
    (λ n so low. agree_last come_up are_steady d m n s t so v w id (omega (arith, low)) join) k (omega (arith, late)) reached late

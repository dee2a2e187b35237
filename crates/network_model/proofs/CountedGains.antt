-- How far the numbers of each bridge go in one move.
use Rattle.std.proofs.Common.{◌≡◌, ◌≢◌, ◌⊎◌, inl, inr, ◌≤◌, ◌<◌, ◌+◌, ℕ, Bool, true, false, true≢false, List, [], length, refl, sym, ap, ◌∙◌, subst, Option, Some, None, slice_get, arith}
use Rattle.std.specs.Prelude.{◌==◌, if◌then◌else◌}
use Rattle.std.specs.List.{count_by}
use Rattle.std.proofs.lemmas.Bool.{cases_eq, eq-eqb, ne_eqb}
use Rattle.spb_types.specs.declared.address.BridgeId.{BridgeId}
use Rattle.spb_types.specs.declared.address.LspId.{LspId}
use Rattle.spb_types.specs.declared.link.Dir.{Dir}
use Rattle.spb_types.specs.declared.link.Dir.TheVariants.{Ab, Ba}
use Rattle.link_model.specs.declared.lanes.LinkLanes.{LinkLanes}
use Rattle.link_model.specs.Lane.{Frame}
use Rattle.link_model.specs.Lanes.{lane_of}
use Rattle.lsdb.specs.declared.version.Version.{Version}
use Rattle.lsdb.specs.Version.{number_of}
use Rattle.lsdb.specs.Database.{version_at}
use Rattle.lsdb.specs.Certificate.{Claim, IsClaimed}
use Rattle.flooding.specs.Own.{IsOwnNumber}
use Rattle.bridge_api.specs.View.{BridgeView}
use Rattle.bridge_api.specs.Step.{Input, second, step, sent, frames_at}
use Rattle.bridge_api.specs.Laws.{IsSoundView}
use Rattle.bridge_laws.specs.Counting as counting
use Rattle.bridge_laws.specs.Counting.{Answered, is_claiming, gain_of}
use Rattle.spb_world.specs.declared.declaration.DeclaredLink.{DeclaredLink}
use Rattle.network_model.specs.State.{State, links_of}
use Rattle.spb_world.specs.Links.{near_end}
use Rattle.network_model.specs.Events.{ticked}
use Rattle.network_model.specs.Counted.{IsCopy, is_held, IsBound, hellos_in, hellos_to}
use Rattle.spb_world.proofs.BoxLemmas.{All-get}
use Rattle.network_model.proofs.BridgeLaws.{one_hello, steps_originate}
use Rattle.network_model.proofs.FitsLemmas.{alike_stepped, link_there}
use Rattle.network_model.proofs.SentLanes.{stepped_here, stepped_beside}
use Rattle.network_model.proofs.SoundLane.{moved, moved_same}
use Rattle.network_model.proofs.SoundMoves.{IsCore, got_mapped, link-apart, there_is}
use Rattle.network_model.proofs.SoundSteps.{only, only_here, only_is}
use Rattle.network_model.proofs.CountedHellos.{is_hello_at, hellos_pushed_all, hellos_at, GainOne, hellos_gain, hellos_itself}
use Rattle.network_model.proofs.CountedMoves.{Turn, is_within, length-things, Stems, was, owns, aged, met, stems, weak_after}
use Rattle.network_model.proofs.CountedSteps.{AreFar, AreWeak}

-- ---- weakly

-- the numbers of each bridge go further by r, and so many hellos more are on their way there
pub weak_moved : (s t : State) (o : ℕ → Option Input) (n r h : ℕ → ℕ) → Turn s t o → AreWeak n s
    → ((i : ℕ) (u : BridgeView) (id : LspId) → slice_get s.views i ≡ Some u → IsOwnNumber u.id.system id → number_of (version_at (moved (o i) u).database id) ≤ number_of (version_at u.database id) + r i)
    → ((i : ℕ) → hellos_to (links_of t) t.lanes i ≤ hellos_to (links_of s) s.lanes i + h i)
    → AreWeak (λ i. n i + r i + h i) t
weak_moved s t o n r h turn weak raises hellos i v id at own =
    let from = got_mapped (moved (o i)) (slice_get s.views i) v (sym (turn.moves.bridges i) ∙ at) in
    let u : BridgeView = from.0 in
    let owned : IsOwnNumber u.id.system id = subst (λ (x : BridgeId). IsOwnNumber x.system id) (ap (λ (w : BridgeView). w.id) from.2 ∙ (moved_same (o i) u).id) own in
    let within = weak i u id from.1 owned in
    let held : number_of (version_at u.database id) ≤ within.most = within.weak (version_at u.database id) (is_held i u from.1 refl) in
    let low : number_of (version_at (moved (o i) u).database id) ≤ within.most + r i = omega (arith, held, raises i u id from.1 owned) in
    record {
      most = within.most + r i;
      weak = λ a copy. weak_after true s.views s.lanes id (version_at (moved (o i) u).database id) a within.most (within.most + r i) (omega arith) within.weak low (stems true s t o turn (λ j is. refl) i u id from.1 owned a copy);
      room = omega (arith, within.room, hellos i);
    }

-- what comes to one bridge
abbrev pub gain_at : ℕ → Input → ℕ → ℕ
gain_at j x i = if i == j then gain_of x else 0

pub only_beside : (j : ℕ) (x : Input) (i : ℕ) → i ≢ j → only j x i ≡ None
only_beside j x i apart = by (only j x i) refl
  where
    by : (o : Option Input) → only j x i ≡ o → o ≡ None
    by None is = refl
    by (Some y) is = absurd (apart (only_is j x i y is).0)

pub step_raises : (s : State) (j : ℕ) (x : Input) → IsCore s → AreFar s (only j x) → is_claiming x ≡ false → (i : ℕ) (u : BridgeView) (id : LspId) → slice_get s.views i ≡ Some u → IsOwnNumber u.id.system id → number_of (version_at (moved (only j x i) u).database id) ≤ number_of (version_at u.database id) + gain_at j x i
step_raises s j x core far quiet i u id at own =
    elim (cases_eq i j) [
      | inl here ↦
          let some : only j x i ≡ Some x = ap (only j x) here ∙ only_here j x in
          let gain : gain_at j x i ≡ gain_of x = ap (λ (b : Bool). if b then gain_of x else 0) (eq-eqb i j here) in
          let raised : number_of (version_at (step x u).database id) ≤ number_of (version_at u.database id) + gain_of x = steps_originate x u id own (All-get IsSoundView s.views i u core.views at) (far i u x at some) quiet in
          subst (λ (o : Option Input). number_of (version_at (moved o u).database id) ≤ number_of (version_at u.database id) + gain_at j x i) (sym some) (omega (arith, raised, gain))
      | inr apart ↦
          let none : only j x i ≡ None = only_beside j x i apart in
          subst (λ (o : Option Input). number_of (version_at (moved o u).database id) ≤ number_of (version_at u.database id) + gain_at j x i) (sym none) (omega arith)
    ]

-- ---- bound

module _ (views : List BridgeView) (lanes : List LinkLanes) (v : BridgeView) (id : LspId) (claims : List Claim) (own : Version) (m : ℕ) (bound : IsBound views lanes v id m) (copies : (b : Version) → IsClaimed claims id b → IsCopy views lanes id b) where
  -- a claim that isn't what the owner holds has a lower number
  claim_below : (b : Version) → IsClaimed claims id b → b ≢ version_at v.database id → number_of b < m
  claim_below b claimed apart =
      elim (bound b (copies b claimed)) [
        | inl below ↦ below
        | inr same ↦ absurd (apart same.1)
      ]

  owner_within : (i : ℕ) → slice_get views i ≡ Some v → Answered (version_at v.database id) claims id own → number_of own ≤ m
  owner_within i at (counting.keeps is) =
      elim (bound (version_at v.database id) (is_held i v at refl)) [
        | inl below ↦ subst (λ (a : Version). number_of a ≤ m) (sym is) (omega (arith, below))
        | inr same ↦ subst (λ (a : Version). number_of a ≤ m) (sym is) (omega (arith, same.0))
      ]
  owner_within i at (counting.answers b claimed apart low high) = omega (arith, high, claim_below b claimed apart)

  owner_stays : (a : Version) → number_of a ≡ m → a ≡ version_at v.database id → Answered (version_at v.database id) claims id own → a ≡ own
  owner_stays a is same (counting.keeps kept) = same ∙ sym kept
  owner_stays a is same (counting.answers b claimed apart low high) = absurd (omega (arith, low, claim_below b claimed apart, is, ap number_of same))

  -- what the owner answers, or keeps, leaves the bound
  pub bound_heard : (i : ℕ) (a : Version) → slice_get views i ≡ Some v → Answered (version_at v.database id) claims id own → Stems false views lanes id own a → (number_of a < m) ⊎ ((number_of a ≡ m) × (a ≡ own))
  bound_heard i a at answered (was copy) =
      elim (bound a copy) [
        | inl below ↦ inl below
        | inr same ↦ inr (same.0, owner_stays a same.0 same.1 answered)
      ]
  bound_heard i a at answered (owns is) =
      elim (cases_eq (number_of a) m) [
        | inl same ↦ inr (same, is)
        | inr apart ↦ inl (below (number_of a) m (subst (λ (b : Version). number_of b ≤ m) (sym is) (owner_within i at answered)) apart)
      ]
    where
      below : (x y : ℕ) → x ≤ y → x ≢ y → x < y
      below x y high apart = omega (arith, high, apart)
  bound_heard i a at answered (aged ages b copy is) = absurd (true≢false (sym ages))
  bound_heard i a at answered (met b c copy other apart same is) =
      elim (bound b copy) [
        | inl below ↦ inl (omega (arith, below, ap number_of is))
        | inr first ↦
            elim (bound c other) [
              | inl below ↦ absurd (omega (arith, below, same, first.0))
              | inr both ↦ absurd (apart (first.1 ∙ sym both.1))
            ]
      ]

-- ---- the hellos of a tick

ends_apart : (s : State) → IsCore s → (k : ℕ) (l : DeclaredLink) → slice_get (links_of s) k ≡ Some l → l.a.bridge ≢ l.b.bridge
ends_apart s core k l at = link-apart s k l core at

few_sent : (b : Bool) (p : ℕ) (fs : List (ℕ × Frame)) → count_by (is_hello_at p) fs ≤ 1 → hellos_in (if b then frames_at p fs else []) ≤ 1
few_sent true p fs few = omega (arith, few, hellos_at p fs)
few_sent false p fs few = omega arith

tick_gains : (s : State) (j : ℕ) (i : ℕ) → IsCore s → GainOne (links_of s) s.lanes (ticked s j).lanes i j
tick_gains s j i core = record {
  others = λ k dir l there apart. let same = ap hellos_in (stepped_beside second s j k dir l there apart) in omega (arith, same);
  its = λ k dir l there near. its k dir l there near;
}
  where
    near_within : (dir : Dir) (k : ℕ) (l : DeclaredLink) → slice_get (links_of s) k ≡ Some l → (near_end dir l).bridge < length s.world.bridges
    near_within Ab k l there = (link_there s k l core.world there).a.bridge
    near_within Ba k l there = (link_there s k l core.world there).b.bridge

    its : (k : ℕ) (dir : Dir) (l : DeclaredLink) → slice_get (links_of s) k ≡ Some l → (near_end dir l).bridge ≡ j → hellos_in (lane_of (ticked s j).lanes k dir) ≤ hellos_in (lane_of s.lanes k dir) + 1
    its k dir l there near =
        let v = there_is s.views j (omega (arith, near_within dir k l there, near, core.fits.bridges)) in
        let within : k < length s.lanes = omega (arith, is_within (links_of s) k l there, length-things s.world.links, core.fits.lanes) in
        let lane = ap hellos_in (stepped_here second s j v.0 k dir l v.1 there core.world.links_apart (ends_apart s core k l there) near within) in
        let fs : List Frame = if l.live then frames_at (near_end dir l).port (sent second v.0) else [] in
        let few : hellos_in fs ≤ 1 = few_sent l.live (near_end dir l).port (sent second v.0) (one_hello v.0 (near_end dir l).port (All-get IsSoundView s.views j v.0 core.views v.1)) in
        omega (arith, lane, hellos_pushed_all (lane_of s.lanes k dir) fs, few)

-- a tick sends one hello to each neighbour, and none to the bridge itself
abbrev pub hello_at : ℕ → ℕ → ℕ
hello_at j i = if i == j then 0 else 1

pub tick_hellos : (s : State) (j i : ℕ) → IsCore s → hellos_to (links_of s) (ticked s j).lanes i ≤ hellos_to (links_of s) s.lanes i + hello_at j i
tick_hellos s j i core =
    elim (cases_eq i j) [
      | inl here ↦
          let none : hello_at j i ≡ 0 = ap (λ (b : Bool). if b then 0 else 1) (eq-eqb i j here) in
          let itself = hellos_itself (links_of s) s.lanes (ticked s j).lanes i (alike_stepped second s j).lanes (ends_apart s core) (subst (λ (k : ℕ). GainOne (links_of s) s.lanes (ticked s j).lanes i k) (sym here) (tick_gains s j i core)) in
          omega (arith, none, itself)
      | inr apart ↦
          let some : hello_at j i ≡ 1 = ap (λ (b : Bool). if b then 0 else 1) (ne_eqb i j apart) in
          let gain = hellos_gain (links_of s) s.lanes (ticked s j).lanes i j (alike_stepped second s j).lanes core.world.links_apart (ends_apart s core) (tick_gains s j i core) in
          omega (arith, some, gain)
    ]

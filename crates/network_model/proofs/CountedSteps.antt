-- One move of the network: whose ids there are, and how far the numbers go.
use Rattle.std.proofs.Common.{◌≡◌, inl, inr, ◌≤◌, ◌<◌, ◌+◌, ℕ, false, true≢false, List, refl, sym, ap, ◌∙◌, subst, Option, Some, None, slice_get, arith}
use Rattle.std.specs.List.{AllByRecursion}
use Rattle.std.specs.FinMap.{get}
use Rattle.std.specs.Prelude.{IsSome}
use Rattle.spb_types.specs.declared.address.BridgeId.{BridgeId}
use Rattle.spb_types.specs.declared.address.LspId.{LspId}
use Rattle.spb_types.specs.declared.link.Dir.{Dir}
use Rattle.link_model.specs.declared.lanes.LinkLanes.{LinkLanes}
use Rattle.link_model.specs.Lane.{Frame, IsIn}
use Rattle.link_model.specs.Lanes.{lane_of}
use Rattle.lsdb.specs.declared.version.Version.{Version}
use Rattle.lsdb.specs.Entry.{Entry}
use Rattle.lsdb.specs.Version.{number_of}
use Rattle.lsdb.specs.Database.{version_at}
use Rattle.lsdb.specs.Certificate.{IsClaimed}
use Rattle.flooding.specs.Own.{last_number, IsOwnNumber}
use Rattle.bridge_api.specs.View.{BridgeView}
use Rattle.bridge_api.specs.Parsing.{parsed}
use Rattle.bridge_api.specs.Step.{Input, second, frame, carrier, metric, attach, detach, customer}
use Rattle.bridge_api.specs.Laws.{IsSoundView, claims_said, claims_of}
use Rattle.bridge_laws.specs.Counting.{IsFar}
use Rattle.spb_world.specs.World.{World}
use Rattle.network_model.specs.State.{State, links_of}
use Rattle.network_model.specs.Copies.{HaveOrigins}
use Rattle.network_model.specs.Counted.{IsCopy, is_held, IsWeak, IsBound, hellos_to, IsOwnOf, IsCountedBy}
use Rattle.spb_world.proofs.BoxLemmas.{All-get}
use Rattle.network_model.proofs.BridgeLaws.{steps_hold_ids, steps_dont_spend}
use Rattle.network_model.proofs.SoundLane.{moved}
use Rattle.spb_world.proofs.SoundLaneIds.{turned}
use Rattle.network_model.proofs.SoundMoves.{IsCore, Comes, All-each, got_mapped}
use Rattle.network_model.proofs.OriginMoves.{origins_moved}
use Rattle.network_model.proofs.CountedMoves.{Turn, declared_at, shown_at, sent_held, claims_are_copies}

-- ---- whose ids there are

-- no bridge has spent its numbers, none but declared bridges' ids are held or claimed, and what is held or on its way of
-- each stems from the one that originates it
pub record AreOwn (s : State) : Type 0 where
  pub fresh : AllByRecursion (λ v. v.spent ≡ false) s.views
  pub held : (i : ℕ) (v : BridgeView) (id : LspId) (e : Entry) → slice_get s.views i ≡ Some v → get v.database id ≡ Some e → IsOwnOf s.world.bridges id
  pub said : (k : ℕ) (dir : Dir) (bytes : Frame) (id : LspId) (a : Version) → IsIn bytes (lane_of s.lanes k dir) → IsClaimed (claims_said (parsed bytes)) id a → IsOwnOf s.world.bridges id
  pub origins : HaveOrigins s

-- what comes to each bridge leaves it far from the last number
abbrev pub AreFar : State → (ℕ → Option Input) → Type 0
AreFar s o = (j : ℕ) (v : BridgeView) (x : Input) → slice_get s.views j ≡ Some v → o j ≡ Some x → IsFar x v

own_of_view : (s : State) (i : ℕ) (v : BridgeView) (id : LspId) → IsCore s → slice_get s.views i ≡ Some v → IsOwnNumber v.id.system id → IsOwnOf s.world.bridges id
own_of_view s i v id core at own =
    let b = declared_at s i v core at in
    record { place = i; bridge = b.0; there = b.1; own = subst (λ (x : BridgeId). IsOwnNumber x.system id) b.2 own }

-- and the bridge that originates an id
pub view_of_own : (s : State) (id : LspId) → IsCore s → (own : IsOwnOf s.world.bridges id) → (v : BridgeView) × (slice_get s.views own.place ≡ Some v) × IsOwnNumber v.id.system id
view_of_own s id core own =
    let v = shown_at s own.place own.bridge core own.there in
    (v.0, v.1, subst (λ (x : BridgeId). IsOwnNumber x.system id) (sym v.2) own.own)

claimed_own : (s : State) (j : ℕ) (x : Input) (id : LspId) (a : Version) → AreOwn s → ((p : ℕ) (f : Frame) → x ≡ frame p f → Comes (links_of s) s.lanes j p f) → IsClaimed (claims_of x) id a → IsOwnOf s.world.bridges id
claimed_own s j second id a are comes claimed = absurd claimed
claimed_own s j (frame p f) id a are comes claimed = let here = comes p f refl in are.said here.lane.link (turned here.lane.dir) f id a here.among claimed
claimed_own s j (carrier p on) id a are comes claimed = absurd claimed
claimed_own s j (metric p m) id a are comes claimed = absurd claimed
claimed_own s j (attach b) id a are comes claimed = absurd claimed
claimed_own s j (detach p) id a are comes claimed = absurd claimed
claimed_own s j (customer p bytes) id a are comes claimed = absurd claimed

some_entry : (o : Option Entry) → IsSome o → (e : Entry) × (o ≡ Some e)
some_entry None some = absurd (true≢false (sym some))
some_entry (Some e) some = (e, refl)

module _ (s t : State) (o : ℕ → Option Input) (turn : Turn s t o) (are : AreOwn s) (far : AreFar s o) where
  held_moved : (j : ℕ) (u : BridgeView) (x : Option Input) (id : LspId) (e : Entry) → o j ≡ x → slice_get s.views j ≡ Some u → get (moved x u).database id ≡ Some e → IsOwnOf s.world.bridges id
  held_moved j u None id e is at held = are.held j u id e at held
  held_moved j u (Some x) id e is at held =
      elim (steps_hold_ids x u id e held) [
        | inl before ↦ let some = some_entry (get u.database id) before in are.held j u id some.0 at some.1
        | inr rest ↦
            elim rest [
              | inl claimed ↦ claimed_own s j x id claimed.0 are (λ p f same. turn.moves.heard j p f (is ∙ ap (λ (y : Input). Some y) same)) claimed.1
              | inr own ↦ own_of_view s j u id turn.before at own
            ]
      ]

  fresh_moved : (j : ℕ) (u : BridgeView) (x : Option Input) → o j ≡ x → slice_get s.views j ≡ Some u → (moved x u).spent ≡ false
  fresh_moved j u None is at = All-get (λ (v : BridgeView). v.spent ≡ false) s.views j u are.fresh at
  fresh_moved j u (Some x) is at = steps_dont_spend x u (All-get IsSoundView s.views j u turn.before.views at) (far j u x at is)

  said_moved : (k : ℕ) (dir : Dir) (f : Frame) (id : LspId) (a : Version) → IsIn f (lane_of t.lanes k dir) → IsClaimed (claims_said (parsed f)) id a → IsOwnOf s.world.bridges id
  said_moved k dir f id a among claimed =
      elim (turn.moves.frames k dir f among) [
        | inl old ↦ are.said k dir f id a old claimed
        | inr out ↦
            let held = sent_held s t o k dir f id a turn out claimed in
            held_moved out.place out.view (o out.place) id held.0 refl out.from held.1
      ]

  pub own_moved : AreOwn t
  own_moved = record {
    fresh = All-each (λ (v : BridgeView). v.spent ≡ false) t.views (λ j w at.
        let from = got_mapped (moved (o j)) (slice_get s.views j) w (sym (turn.moves.bridges j) ∙ at) in
        subst (λ (v : BridgeView). v.spent ≡ false) (sym from.2) (fresh_moved j from.0 (o j) refl from.1));
    held = λ j w id e at held.
        let from = got_mapped (moved (o j)) (slice_get s.views j) w (sym (turn.moves.bridges j) ∙ at) in
        subst (λ (x : World). IsOwnOf x.bridges id) (sym turn.world) (held_moved j from.0 (o j) id e refl from.1 (ap (λ (v : BridgeView). get v.database id) (sym from.2) ∙ held));
    said = λ k dir f id a among claimed. subst (λ (x : World). IsOwnOf x.bridges id) (sym turn.world) (said_moved k dir f id a among claimed);
    origins = origins_moved s t o turn are.origins;
  }

-- ---- allowances

-- the numbers of an id are bound, together with the hellos on their way to its bridge
pub record IsWeaklyWithin (s : State) (i : ℕ) (id : LspId) (allowance : ℕ) : Type 0 where
  pub most : ℕ
  pub weak : IsWeak s.views s.lanes id most
  pub room : most + hellos_to (links_of s) s.lanes i ≤ allowance

-- so are those of each bridge, each within an allowance of its own
abbrev pub AreWeak : (ℕ → ℕ) → State → Type 0
AreWeak n s = (i : ℕ) (v : BridgeView) (id : LspId) → slice_get s.views i ≡ Some v → IsOwnNumber v.id.system id → IsWeaklyWithin s i id (n i)

pub own_from : (n : ℕ) (s : State) → IsCountedBy n s → AreOwn s
own_from n s counted = record { fresh = counted.fresh; held = counted.held; said = counted.said; origins = counted.origins }

pub weak_bound : (views : List BridgeView) (lanes : List LinkLanes) (v : BridgeView) (id : LspId) (m : ℕ) → IsBound views lanes v id m → IsWeak views lanes id m
weak_bound views lanes v id m bound a copy =
    elim (bound a copy) [
      | inl below ↦ omega (arith, below)
      | inr same ↦ omega (arith, same.0)
    ]

pub weak_from : (n : ℕ) (s : State) → IsCountedBy n s → AreWeak (λ i. n) s
weak_from n s counted i v id at own =
    let within = counted.bound i v id at own in
    record { most = within.most; weak = weak_bound s.views s.lanes v id within.most within.bound; room = within.room }

pub counted_from : (n : ℕ → ℕ) (c : ℕ) (s : State) → AreOwn s → AreWeak n s → ((i : ℕ) (v : BridgeView) → slice_get s.views i ≡ Some v → n i + 1 ≤ c) → IsCountedBy c s
counted_from n c s are weak low = record {
  fresh = are.fresh;
  held = are.held;
  said = are.said;
  origins = are.origins;
  bound = λ i v id at own.
      let within = weak i v id at own in
      record { most = within.most + 1; bound = λ a copy. inl (let high = within.weak a copy in omega (arith, high)); room = omega (arith, within.room, low i v at) };
}

-- ---- far from the last number

module _ (s : State) (n : ℕ → ℕ) (core : IsCore s) (are : AreOwn s) (weak : AreWeak n s) (low : (i : ℕ) (v : BridgeView) → slice_get s.views i ≡ Some v → n i < last_number) where
  copy_low : (i : ℕ) (v : BridgeView) (id : LspId) (a : Version) → slice_get s.views i ≡ Some v → IsOwnNumber v.id.system id → IsCopy s.views s.lanes id a → number_of a < last_number
  copy_low i v id a at own copy =
      let within = weak i v id at own in
      omega (arith, within.weak a copy, within.room, low i v at)

  pub far_from_last : (j : ℕ) (v : BridgeView) (x : Input) → slice_get s.views j ≡ Some v → ((p : ℕ) (f : Frame) → x ≡ frame p f → Comes (links_of s) s.lanes j p f) → IsFar x v
  far_from_last j v x at comes = record {
    fresh = All-get (λ (u : BridgeView). u.spent ≡ false) s.views j v are.fresh at;
    own = λ id own. copy_low j v id (version_at v.database id) at own (is_held j v at refl);
    claims = λ id a claimed.
        let owner = claimed_own s j x id a are comes claimed in
        let view = view_of_own s id core owner in
        copy_low owner.place view.0 id a view.1 view.2 (claims_are_copies (links_of s) s.views s.lanes j x id a comes claimed);
  }

-- A bridge that restarts takes the sequence numbers at most 2 further: a bridge at the far end of a link that is cut
-- originates once, and each number of the new life is one further than the highest of the old one at most.
use Rattle.std.proofs.Common.{◌≡◌, ◌≢◌, ◌⊎◌, inl, inr, ◌≤◌, ◌<◌, ◌+◌, ℕ, zero, suc, Bool, true, false, true≢false, List, [], ◌∷◌, length, refl, sym, ap, ◌∙◌, subst, Option, Some, None, slice_get, arith}
use Rattle.std.specs.Prelude.{◌==◌, ◌&&◌, ◌||◌, if◌then◌else◌, slice_set}
use Rattle.std.specs.FinMap.{get}
use Rattle.std.proofs.lemmas.Bool.{cases_eq, eq-eqb, ne_eqb}
use Rattle.spb_types.specs.declared.address.BridgeId.{BridgeId}
use Rattle.spb_types.specs.declared.address.LspId.{LspId}
use Rattle.spb_types.specs.declared.link.Dir.{Dir}
use Rattle.spb_types.specs.declared.link.Dir.TheVariants.{Ab, Ba}
use Rattle.link_model.specs.declared.lanes.LinkLanes.{LinkLanes}
use Rattle.link_model.specs.Lane.{Frame, IsIn}
use Rattle.link_model.specs.Lanes.{lane_of}
use Rattle.lsdb.specs.declared.version.Version.{Version}
use Rattle.lsdb.specs.Entry.{Entry}
use Rattle.lsdb.specs.Version.{number_of}
use Rattle.lsdb.specs.Database.{version_at, version_in}
use Rattle.flooding.specs.Own.{last_number, own_numbers, own_number, IsOwnNumber, is_own_number, body_in}
use Rattle.flooding.specs.Advancing.{stays}
use Rattle.flooding.proofs.OwnNumbers.{own_is_number, not_own}
use Rattle.bridge_api.specs.declared.config.BridgeConfig.{BridgeConfig}
use Rattle.bridge_api.specs.View.{BridgeView}
use Rattle.bridge_api.specs.Config.{configured}
use Rattle.bridge_api.specs.Step.{carrier}
use Rattle.bridge_laws.specs.Counting.{gain_of}
use Rattle.bridge_api.specs.Laws.{IsSoundView}
use Rattle.spb_world.specs.declared.declaration.DeclaredBridge.{DeclaredBridge}
use Rattle.spb_world.specs.declared.declaration.DeclaredLink.{DeclaredLink}
use Rattle.spb_world.specs.declared.declaration.LinkEnd.{LinkEnd}
use Rattle.spb_world.specs.World.{World, things_of, is_between, AreApart, AllApart}
use Rattle.network_model.specs.State.{State, links_of}
use Rattle.spb_world.specs.Links.{near_end, far_end, ends_here, end_here, end_away}
use Rattle.network_model.specs.Events.{with_carrier_at_end, flushed}
use Rattle.network_model.specs.Restarting.{numbers_from, last_of, restart_config, link_cut, cut_link, cut_from, with_link_carrier, with_carriers_from, replaced, restarted_in, restarted_as, restarted, box_at}
use Rattle.network_model.specs.Sound.{IsSoundState}
use Rattle.network_model.specs.Copies.{IsCopy, is_held, is_said, IsText, text_held, text_sent, IsOrigin, HaveOrigins}
use Rattle.network_model.specs.Counted.{IsWeak, hellos_to, IsOwnOf, IsCountedBy}
use Rattle.spb_world.proofs.BoxLemmas.{All-get, All-set}
use Rattle.network_model.proofs.FitsLemmas.{link_there, alike_flushed}
use Rattle.network_model.proofs.SoundLane.{some-is}
use Rattle.network_model.proofs.SoundMoves.{IsCore}
use Rattle.network_model.proofs.SoundSteps.{core_fewer, in_flushed, short_flushed}
use Rattle.network_model.proofs.SoundConfigured.{configured_still}
use Rattle.network_model.proofs.SoundEvents.{core_of}
use Rattle.network_model.proofs.CountedMoves.{shown_at, views_apart}
use Rattle.network_model.proofs.CountedSteps.{IsWeaklyWithin}
use Rattle.network_model.proofs.CountedGains.{gain_at}
use Rattle.network_model.proofs.CountedLinks.{IsTracked, tracked_from, tracked_more, counted_tracked, tracked_carrier, no_gain, gain_one, hellos-flushed}
use Rattle.network_model.proofs.CountedRounds.{counted_more}
use Rattle.network_model.proofs.CountsKept.{counts, carrier_at}
use Rattle.network_model.proofs.RestartCut.{if_false, leads_away, away_is, ends_apart, cut_world, Sound-cut_from, all_cut, world-cut_from, uncut}
use Rattle.network_model.proofs.RestartSound.{got_set, IsConfigOf, config_is, core_replaced}
use Rattle.network_model.proofs.RestartBegins.{own_advanced, own_further, nothing_else, unspent}
use Rattle.network_model.proofs.Origins.{CopyStems, was, owns, absent, TextStems, text_was, text_owns, first_moves, fewer_origins}

-- ---- frames go

tracked_fewer : (n : ℕ → ℕ) (s : State) (lanes : List LinkLanes) → IsCore (record s { lanes = lanes }) → ((k : ℕ) (dir : Dir) (f : Frame) → IsIn f (lane_of lanes k dir) → IsIn f (lane_of s.lanes k dir)) → ((i : ℕ) → hellos_to (links_of s) lanes i ≤ hellos_to (links_of s) s.lanes i + 0) → IsTracked n s → IsTracked n (record s { lanes = lanes })
tracked_fewer n s lanes core fewer hellos tracked = record {
  core = core;
  own = record {
    fresh = tracked.own.fresh;
    held = tracked.own.held;
    said = λ k dir f id a among claimed. tracked.own.said k dir f id a (fewer k dir f among) claimed;
    origins = fewer_origins s lanes fewer tracked.own.origins;
  };
  weak = λ i v id at own.
      let within = tracked.weak i v id at own in
      record { most = within.most; weak = λ a copy. within.weak a (before id a copy); room = omega (arith, within.room, hellos i) };
}
  where
    before : (id : LspId) (a : Version) → IsCopy s.views lanes id a → IsCopy s.views s.lanes id a
    before id a (is_held i v at is) = is_held i v at is
    before id a (is_said k dir f among claimed) = is_said k dir f (fewer k dir f among) claimed

tracked_flushed : (n : ℕ → ℕ) (s : State) (k : ℕ) → IsTracked n s → IsTracked n (flushed s k)
tracked_flushed n s k tracked =
    tracked_fewer n s (flushed s k).lanes
    (core_fewer s (flushed s k).lanes tracked.core (alike_flushed s k) (λ j dir. short_flushed s.lanes k j dir (tracked.core.short j dir)) (in_flushed s.lanes k))
    (in_flushed s.lanes k) (hellos-flushed (links_of s) s.lanes k) tracked

-- ---- the links are cut

all_apart : (links : List DeclaredLink) (k m : ℕ) (l h : DeclaredLink) → AllApart links → slice_get links k ≡ Some l → slice_get links m ≡ Some h → k < m → AreApart l h
all_apart [] k m l h apart at_l at_h less = absurd cc
all_apart (x ∷ links) zero zero l h apart at_l at_h less = absurd (omega (arith, less))
all_apart (x ∷ links) zero (suc m) l h apart at_l at_h less = subst (λ (y : DeclaredLink). AreApart y h) (some-is x l at_l) (All-get (AreApart x) links m h apart.0 at_h)
all_apart (x ∷ links) (suc k) zero l h apart at_l at_h less = absurd (omega (arith, less))
all_apart (x ∷ links) (suc k) (suc m) l h apart at_l at_h less = all_apart links k m l h apart.1 at_l at_h (omega (arith, less))

both_true : (b c d : Bool) → b ≡ true → c ≡ true → ((b && c) || d) ≡ true
both_true true true d one two = refl
both_true true false d one two = absurd (true≢false (sym two))
both_true false c d one two = absurd (true≢false (sym one))

last_true : (b c d : Bool) → c ≡ true → d ≡ true → (b || (c && d)) ≡ true
last_true true c d one two = refl
last_true false true d one two = two
last_true false false d one two = absurd (true≢false (sym one))

-- a link that leads from one bridge to another is between them
between : (l : DeclaredLink) (dir : Dir) (i j : ℕ) → (near_end dir l).bridge ≡ i → (far_end dir l).bridge ≡ j → (is_between l i j ≡ true) × (is_between l j i ≡ true)
between l Ab i j near far = (
  both_true (l.a.bridge == i) (l.b.bridge == j) ((l.a.bridge == j) && (l.b.bridge == i)) (eq-eqb l.a.bridge i near) (eq-eqb l.b.bridge j far),
  last_true ((l.a.bridge == j) && (l.b.bridge == i)) (l.a.bridge == i) (l.b.bridge == j) (eq-eqb l.a.bridge i near) (eq-eqb l.b.bridge j far),
)
between l Ba i j near far = (
  last_true ((l.a.bridge == i) && (l.b.bridge == j)) (l.a.bridge == j) (l.b.bridge == i) (eq-eqb l.a.bridge j far) (eq-eqb l.b.bridge i near),
  both_true (l.a.bridge == j) (l.b.bridge == i) ((l.a.bridge == i) && (l.b.bridge == j)) (eq-eqb l.a.bridge j far) (eq-eqb l.b.bridge i near),
)

same_ends : (l : DeclaredLink) (dir : Dir) (i j : ℕ) → (near_end dir l).bridge ≡ i → (far_end dir l).bridge ≡ j → ((l.a.bridge ≡ i) × (l.b.bridge ≡ j)) ⊎ ((l.a.bridge ≡ j) × (l.b.bridge ≡ i))
same_ends l Ab i j near far = inl (near, far)
same_ends l Ba i j near far = inr (far, near)

-- no two links lead from one bridge to another
one_link : (l h : DeclaredLink) (dir d : Dir) (i j : ℕ) → AreApart l h → (near_end dir l).bridge ≡ i → (far_end dir l).bridge ≡ j → (near_end d h).bridge ≡ i → (far_end d h).bridge ≡ j → ⊥
one_link l h dir d i j apart near far near_h far_h =
    let here = between l dir i j near far in
    elim (same_ends h d i j near_h far_h) [
      | inl same ↦ true≢false (sym here.0 ∙ (sym (λ x. is_between l (same.0 x) (same.1 x)) ∙ apart.bridges))
      | inr same ↦ true≢false (sym here.1 ∙ (sym (λ x. is_between l (same.0 x) (same.1 x)) ∙ apart.bridges))
    ]

-- before the links from place k on are cut: no bridge went further than by 1, and none that these links lead to did,
-- nor the bridge at place i
pub record IsCutTo (s : State) (a i k : ℕ) : Type 0 where
  pub reach : ℕ → ℕ
  pub tracked : IsTracked reach s
  pub low : (j : ℕ) → reach j ≤ a + 1
  pub ours : reach i ≤ a
  pub next : (m : ℕ) (l : DeclaredLink) (dir : Dir) → k ≤ m → slice_get (links_of s) m ≡ Some l → (near_end dir l).bridge ≡ i → reach (far_end dir l).bridge ≤ a

gain_off : (j p i : ℕ) → i ≢ j → gain_at j (carrier p false) i ≡ 0
gain_off j p i apart = if_false (i == j) (gain_of (carrier p false)) 0 (ne_eqb i j apart)

-- the link at place k is cut, which is up
cut_one : (s : State) (a i k : ℕ) (l : DeclaredLink) (dir : Dir) → a + 1 < last_number → IsCutTo s a i k → slice_get (links_of s) k ≡ Some l → (near_end dir l).bridge ≡ i → IsCutTo (link_cut s k (far_end dir l)) a i (k + 1)
cut_one s a i k l dir small cut at near = record {
  reach = more;
  tracked = twice;
  low = λ j. low j (cases_eq j e.bridge);
  ours = omega (arith, gain_off e.bridge e.port i (λ is. away (near ∙ is)), no_gain e.bridge i e.port, cut.ours);
  next = λ m h d above there near_h. next m h d above (ap (λ (w : World). slice_get (things_of w.links) m) (sym world) ∙ there) near_h;
}
  where
    e : LinkEnd
    e = far_end dir l

    away : (near_end dir l).bridge ≢ e.bridge
    away = ends_apart dir l (link_there s k l cut.tracked.core.world at).apart

    first : ℕ → ℕ
    first j = cut.reach j + gain_at e.bridge (carrier e.port false) j

    more : ℕ → ℕ
    more j = first j + gain_at e.bridge (carrier e.port true) j

    off : IsTracked first (with_carrier_at_end false (flushed s k) e)
    off = tracked_carrier false (flushed s k) cut.reach e (tracked_flushed cut.reach s k cut.tracked) (λ j. let below = cut.low j in omega (arith, below, small))

    reached_by : (j : ℕ) → (j ≡ e.bridge) ⊎ (j ≢ e.bridge) → first j ≤ a + 1
    reached_by j (inl here) = let before : cut.reach j ≤ a = subst (λ (x : ℕ). cut.reach x ≤ a) (sym here) (cut.next k l dir (omega arith) at near) in omega (arith, before, gain_one e.bridge j (carrier e.port false) (omega arith))
    reached_by j (inr other) = let before = cut.low j in omega (arith, before, gain_off e.bridge e.port j other)

    reached : (j : ℕ) → first j ≤ a + 1
    reached j = reached_by j (cases_eq j e.bridge)

    twice : IsTracked more (link_cut s k e)
    twice = tracked_carrier true (with_carrier_at_end false (flushed s k) e) first e off (λ j. let below = reached j in omega (arith, below, small))

    low : (j : ℕ) → (j ≡ e.bridge) ⊎ (j ≢ e.bridge) → more j ≤ a + 1
    low j case = let below = reached_by j case in omega (arith, below, no_gain e.bridge j e.port)

    world : (link_cut s k e).world ≡ s.world
    world = cut_world s k e

    next : (m : ℕ) (h : DeclaredLink) (d : Dir) → k + 1 ≤ m → slice_get (links_of s) m ≡ Some h → (near_end d h).bridge ≡ i → more (far_end d h).bridge ≤ a
    next m h d above there near_h =
        let apart : AreApart l h = all_apart (links_of s) k m l h cut.tracked.core.world.links_apart at there (omega (arith, above)) in
        let other : (far_end d h).bridge ≢ e.bridge = λ is. one_link l h dir d i e.bridge apart near refl near_h is in
        let before : cut.reach (far_end d h).bridge ≤ a = cut.next m h d (omega (arith, above)) there near_h in
        omega (arith, before, gain_off e.bridge e.port (far_end d h).bridge other, no_gain e.bridge (far_end d h).bridge e.port)

cut_none : (s : State) (a i k : ℕ) → IsCutTo s a i k → IsCutTo s a i (k + 1)
cut_none s a i k cut = record { reach = cut.reach; tracked = cut.tracked; low = cut.low; ours = cut.ours; next = λ m l dir above at near. cut.next m l dir (omega (arith, above)) at near }

cut_if : (s : State) (a i k : ℕ) (l : DeclaredLink) (b : Bool) → ends_here l i ≡ b → a + 1 < last_number → IsCutTo s a i k → slice_get (links_of s) k ≡ Some l → IsCutTo (if b then link_cut s k (end_away l i) else s) a i (k + 1)
cut_if s a i k l true here small cut at =
    let away = leads_away l i here in
    let far : end_away l i ≡ far_end away.dir l = away_is l i away.dir (link_there s k l cut.tracked.core.world at).apart away.near in
    subst (λ (e : LinkEnd). IsCutTo (link_cut s k e) a i (k + 1)) (sym far) (cut_one s a i k l away.dir small cut at away.near)
cut_if s a i k l false here small cut at = cut_none s a i k cut

cut_link_to : (s : State) (a i k : ℕ) (o : Option DeclaredLink) → a + 1 < last_number → IsCutTo s a i k → slice_get (links_of s) k ≡ o → IsCutTo (cut_link s i k o) a i (k + 1)
cut_link_to s a i k None small cut at = cut_none s a i k cut
cut_link_to s a i k (Some l) small cut at = cut_if s a i k l (ends_here l i) refl small cut at

cut_from_to : (n k i a : ℕ) (s : State) → a + 1 < last_number → IsCutTo s a i k → IsCutTo (cut_from n k i s) a i (k + n)
cut_from_to zero k i a s small cut = subst (IsCutTo s a i) (omega arith) cut
cut_from_to (suc n) k i a s small cut =
    let t : State = cut_link s i k (slice_get (links_of s) k) in
    subst (IsCutTo (cut_from n (k + 1) i t) a i) (omega arith) (cut_from_to n (k + 1) i a t small (cut_link_to s a i k (slice_get (links_of s) k) small cut refl))

-- ---- the box is replaced

module _ (s : State) (i : ℕ) (b : DeclaredBridge) (c : BridgeConfig) (place a : ℕ) (core : IsCore s) (after : IsCore (replaced s i c place)) (there : slice_get (things_of s.world.bridges) i ≡ Some b) (config : IsConfigOf s i b c) (reach : ℕ → ℕ) (tracked : IsTracked reach s) (low : (j : ℕ) → reach j ≤ a + 1) (ours : reach i ≤ a) (small : a + 1 < last_number) where
  abbrev new : BridgeView
  new = configured c

  abbrev views : List BridgeView
  views = slice_set s.views i new

  -- the bridge before it
  old_view : (v : BridgeView) × (slice_get s.views i ≡ Some v) × (v.id ≡ b.bridge.id)
  old_view = shown_at s i b core there

  abbrev old : BridgeView
  old = old_view.0

  last : c.last ≡ numbers_from old own_numbers 0
  last = config.last ∙ ap last_of old_view.1

  system : c.id.system ≡ old.id.system
  system = ap (λ (x : BridgeId). x.system) (config.id ∙ sym old_view.2)

  same_id : new.id ≡ old.id
  same_id = (configured_still c).id ∙ (config.id ∙ sym old_view.2)

  -- its numbers are within what is allowed to it
  number_low : (id : LspId) → IsOwnNumber old.id.system id → number_of (version_at old.database id) ≤ a
  number_low id own =
      let within = tracked.weak i old id old_view.1 own in
      omega (arith, within.weak (version_at old.database id) (is_held i old old_view.1 refl), within.room, ours)

  fresh_new : new.spent ≡ false
  fresh_new = unspent old c config.whole last system (λ k below. let at_most = number_low (own_number old.id.system k) (record { number = k; below = below; is = refl }) in omega (arith, at_most, small))

  -- it holds its own LSPs alone
  alone : (id : LspId) → is_own_number old.id.system id ≡ false → get new.database id ≡ None
  alone = nothing_else old c config.whole last system

  held_new : (id : LspId) (e : Entry) → get new.database id ≡ Some e → IsOwnOf s.world.bridges id
  held_new id e held = by (is_own_number old.id.system id) refl
    where
      by : (own : Bool) → is_own_number old.id.system id ≡ own → IsOwnOf s.world.bridges id
      by true is =
          record {
            place = i;
            bridge = b;
            there = there;
            own = subst (λ (x : BridgeId). IsOwnNumber x.system id) old_view.2 (own_is_number old.id.system id is);
          }
      by false other = let none : get new.database id ≡ None = alone id other in absurd cc

  -- of another bridge's ids it holds nothing
  number_other : (id : LspId) → id.system ≢ old.id.system → number_of (version_at new.database id) ≤ 0
  number_other id other = let none = ap (λ (o : Option Entry). number_of (version_in o)) (alone id (not_own old.id.system id other)) in omega (arith, none)

  weak_by : (id : LspId) (m most : ℕ) → IsWeak s.views s.lanes id m → number_of (version_at new.database id) ≤ most → m ≤ most → IsWeak views s.lanes id most
  weak_by id m most weak few more v (is_said k dir f among claimed) = let high = weak v (is_said k dir f among claimed) in omega (arith, high, more)
  weak_by id m most weak few more v (is_held j w at is) =
      elim (got_set s.views i new j w at) [
        | inl here ↦ let same = ap number_of (ap (λ (x : BridgeView). version_at x.database id) here.1 ∙ is) in omega (arith, same, few)
        | inr before ↦ let high = weak v (is_held j w before.1 is) in omega (arith, high, more)
      ]

  -- an id of the bridge is that of the box before it
  owned_now : (v : BridgeView) (id : LspId) → new ≡ v → IsOwnNumber v.id.system id → IsOwnNumber old.id.system id
  owned_now v id is own = subst (λ (x : BridgeId). IsOwnNumber x.system id) (ap (λ (x : BridgeView). x.id) (sym is) ∙ same_id) own

  -- and none of another bridge
  owned_beside : (j : ℕ) (v : BridgeView) (id : LspId) → j ≢ i → slice_get s.views j ≡ Some v → IsOwnNumber v.id.system id → id.system ≢ old.id.system
  owned_beside j v id apart at own same = apart (views_apart s j i v old core at old_view.1 (sym (ap (λ (x : LspId). x.system) own.is) ∙ same))

  owned : (j : ℕ) (v : BridgeView) (id : LspId) → slice_get views j ≡ Some v → IsOwnNumber v.id.system id → IsWeaklyWithin (replaced s i c place) j id (a + 1)
  owned j v id at own =
      elim (got_set s.views i new j v at) [
        | inl here ↦
            let was_own : IsOwnNumber old.id.system id = owned_now v id here.1 own in
            let within = tracked.weak i old id old_view.1 was_own in
            let held = within.weak (version_at old.database id) (is_held i old old_view.1 refl) in
            let few = own_further old c config.whole last system id was_own in
            let hellos : hellos_to (links_of s) s.lanes j ≡ hellos_to (links_of s) s.lanes i = ap (hellos_to (links_of s) s.lanes) here.0 in
            record { most = within.most + 1; weak = weak_by id within.most (within.most + 1) within.weak (omega (arith, few, held)) (omega arith); room = omega (arith, within.room, ours, hellos) }
        | inr before ↦
            let within = tracked.weak j v id before.1 own in
            let below = low j in
            let few = number_other id (owned_beside j v id before.0 before.1 own) in
            record { most = within.most; weak = weak_by id within.most within.most within.weak (omega (arith, few)) (omega arith); room = omega (arith, within.room, below) }
      ]

  -- what is held or on its way under its ids stems from the box before it, and is no further than what it holds now
  own_origin : (id : LspId) → IsOwnNumber old.id.system id → IsOrigin views s.lanes id (get new.database id)
  own_origin id own =
      first_moves s.views views s.lanes s.lanes i old id (get new.database id) old_view.1 (tracked.own.origins i old id old_view.1 own)
      (own_advanced old c config.whole last system (All-get IsSoundView s.views i old core.views old_view.1) id own) copies texts
    where
      copies : (x : Version) → IsCopy views s.lanes id x → CopyStems s.views s.lanes id (get new.database id) x
      copies x (is_said k dir f among claimed) = was (is_said k dir f among claimed)
      copies x (is_held m u at is) =
          elim (got_set s.views i new m u at) [
            | inl here ↦ owns (sym is ∙ ap (λ (y : BridgeView). version_at y.database id) (sym here.1))
            | inr before ↦ was (is_held m u before.1 is)
          ]

      texts : (n x : ℕ) (body : List ℕ) → IsText views s.lanes id n x body → TextStems s.views s.lanes id (get new.database id) n x body
      texts n x body (text_sent k dir f l among is same version whole) = text_was (text_sent k dir f l among is same version whole)
      texts n x body (text_held m u e at held version whole) =
          elim (got_set s.views i new m u at) [
            | inl here ↦
                let is : get new.database id ≡ Some e = ap (λ (y : BridgeView). get y.database id) here.1 ∙ held in
                text_owns (ap version_in is ∙ version) (ap body_in is ∙ whole)
            | inr before ↦ text_was (text_held m u e before.1 held version whole)
          ]

  -- of other bridges' ids it has none
  other_origin : (j : ℕ) (w : BridgeView) (id : LspId) → slice_get s.views j ≡ Some w → IsOwnNumber w.id.system id → id.system ≢ old.id.system → IsOrigin views s.lanes id (get w.database id)
  other_origin j w id at own apart =
      first_moves s.views views s.lanes s.lanes j w id (get w.database id) at (tracked.own.origins j w id at own) (stays refl refl) copies texts
    where
      none : get new.database id ≡ None
      none = alone id (not_own old.id.system id apart)

      copies : (x : Version) → IsCopy views s.lanes id x → CopyStems s.views s.lanes id (get w.database id) x
      copies x (is_said k dir f among claimed) = was (is_said k dir f among claimed)
      copies x (is_held m u at_u is) =
          elim (got_set s.views i new m u at_u) [
            | inl here ↦ absent (sym is ∙ (ap (λ (y : BridgeView). version_at y.database id) (sym here.1) ∙ ap version_in none))
            | inr before ↦ was (is_held m u before.1 is)
          ]

      texts : (n x : ℕ) (body : List ℕ) → IsText views s.lanes id n x body → TextStems s.views s.lanes id (get w.database id) n x body
      texts n x body (text_sent k dir f l among is same version whole) = text_was (text_sent k dir f l among is same version whole)
      texts n x body (text_held m u e at_u held version whole) =
          elim (got_set s.views i new m u at_u) [
            | inl here ↦ let no : None ≡ Some e = sym none ∙ (ap (λ (y : BridgeView). get y.database id) here.1 ∙ held) in absurd cc
            | inr before ↦ text_was (text_held m u e before.1 held version whole)
          ]

  origins_replaced : HaveOrigins (replaced s i c place)
  origins_replaced j w id at own =
      elim (got_set s.views i new j w at) [
        | inl here ↦ subst (λ (x : BridgeView). IsOrigin views s.lanes id (get x.database id)) here.1 (own_origin id (owned_now w id here.1 own))
        | inr before ↦ other_origin j w id before.1 own (owned_beside j w id before.0 before.1 own)
      ]

  pub tracked_replaced : IsTracked (λ j. a + 1) (replaced s i c place)
  tracked_replaced = record {
    core = after;
    own = record {
      fresh = All-set (λ (v : BridgeView). v.spent ≡ false) s.views i new tracked.own.fresh fresh_new;
      held = λ j v id e at held.
          elim (got_set s.views i new j v at) [
            | inl here ↦ held_new id e (ap (λ (x : BridgeView). get x.database id) here.1 ∙ held)
            | inr before ↦ tracked.own.held j v id e before.1 held
          ];
      said = tracked.own.said;
      origins = origins_replaced;
    };
    weak = owned;
  }

-- ---- it gets carrier

carrier_given_if : (s : State) (a : ℕ) (e : LinkEnd) (b : Bool) → a < last_number → IsTracked (λ j. a) s → IsTracked (λ j. a) (if b then with_carrier_at_end true s e else s)
carrier_given_if s a e true small tracked = tracked_more (λ j. a + gain_at e.bridge (carrier e.port true) j) (λ j. a) (with_carrier_at_end true s e) (λ j. let none = no_gain e.bridge j e.port in omega (arith, none)) (tracked_carrier true s (λ j. a) e tracked (λ j. small))
carrier_given_if s a e false small tracked = tracked

link_carrier_kept : (s : State) (a i : ℕ) (o : Option DeclaredLink) → a < last_number → IsTracked (λ j. a) s → IsTracked (λ j. a) (with_link_carrier s i o)
link_carrier_kept s a i None small tracked = tracked
link_carrier_kept s a i (Some l) small tracked = carrier_given_if s a (end_here l i) (ends_here l i) small tracked

carriers_from_kept : (n k i a : ℕ) (s : State) → a < last_number → IsTracked (λ j. a) s → IsTracked (λ j. a) (with_carriers_from n k i s)
carriers_from_kept zero k i a s small tracked = tracked
carriers_from_kept (suc n) k i a s small tracked = carriers_from_kept n (k + 1) i a (with_link_carrier s i (slice_get (links_of s) k)) small (link_carrier_kept s a i (slice_get (links_of s) k) small tracked)

-- ---- the bridge restarts

counted_in : (s : State) (a i : ℕ) (b : DeclaredBridge) (place : ℕ) → IsSoundState s → IsCountedBy a s → a + 2 < last_number → slice_get (things_of s.world.bridges) i ≡ Some b → IsCountedBy (a + 2) (restarted_in s i (restart_config s i b) place)
counted_in s a i b place sound counted small there =
    counted_tracked (λ j. a + 1) (a + 2) (with_carriers_from n 0 i u) (carriers_from_kept n 0 i (a + 1) u (omega (arith, small)) tracked) (λ j. omega arith)
  where
    n : ℕ
    n = length (links_of s)

    t : State
    t = cut_from n 0 i s

    c : BridgeConfig
    c = restart_config s i b

    u : State
    u = replaced t i c place

    world : t.world ≡ s.world
    world = world-cut_from n 0 i s

    after : IsSoundState t
    after = Sound-cut_from n 0 i s sound

    config : IsConfigOf t i b c
    config = config_is s t i b sound world (uncut n 0 i s sound.world) there

    here : slice_get (things_of t.world.bridges) i ≡ Some b
    here = ap (λ (w : World). slice_get (things_of w.bridges) i) world ∙ there

    start : IsCutTo s a i 0
    start = record { reach = λ j. a; tracked = tracked_from a s (core_of s sound) counted; low = λ j. omega arith; ours = omega arith; next = λ m l dir above at near. omega arith }

    cut : IsCutTo t a i (0 + n)
    cut = cut_from_to n 0 i a s (omega (arith, small)) start

    tracked : IsTracked (λ j. a + 1) u
    tracked = tracked_replaced t i b c place a (core_of t after) (core_replaced t i b c place after (all_cut s i sound) here config) here config cut.reach cut.tracked cut.low cut.ours (omega (arith, small))

counted_by : (s : State) (a i : ℕ) (o : Option DeclaredBridge) (box : Option ℕ) → slice_get (things_of s.world.bridges) i ≡ o → IsSoundState s → IsCountedBy a s → a + 2 < last_number → IsCountedBy (a + 2) (restarted_as s i o box)
counted_by s a i None box there sound counted small = counted_more a (a + 2) s (omega arith) counted
counted_by s a i (Some b) None there sound counted small = counted_more a (a + 2) s (omega arith) counted
counted_by s a i (Some b) (Some place) there sound counted small = counted_in s a i b place sound counted small there

pub Counted-restarted : (s : State) (a i : ℕ) → IsSoundState s → IsCountedBy a s → a + 2 < last_number → IsCountedBy (a + 2) (restarted s i)
unfolding restarted
Counted-restarted s a i sound counted small = counted_by s a i (slice_get (things_of s.world.bridges) i) (box_at s i) refl sound counted small

-- ---- the counts

counts-if_cut : (s : State) (k : ℕ) (e : LinkEnd) (b : Bool) → counts (if b then link_cut s k e else s) ≡ counts s
counts-if_cut s k e true = carrier_at true (with_carrier_at_end false (flushed s k) e) e ∙ carrier_at false (flushed s k) e
counts-if_cut s k e false = refl

counts-cut_link : (s : State) (i k : ℕ) (o : Option DeclaredLink) → counts (cut_link s i k o) ≡ counts s
counts-cut_link s i k None = refl
counts-cut_link s i k (Some l) = counts-if_cut s k (end_away l i) (ends_here l i)

counts-cut_from : (n k i : ℕ) (s : State) → counts (cut_from n k i s) ≡ counts s
counts-cut_from zero k i s = refl
counts-cut_from (suc n) k i s = counts-cut_from n (k + 1) i (cut_link s i k (slice_get (links_of s) k)) ∙ counts-cut_link s i k (slice_get (links_of s) k)

counts-if_carrier : (s : State) (e : LinkEnd) (b : Bool) → counts (if b then with_carrier_at_end true s e else s) ≡ counts s
counts-if_carrier s e true = carrier_at true s e
counts-if_carrier s e false = refl

counts-with_link_carrier : (s : State) (i : ℕ) (o : Option DeclaredLink) → counts (with_link_carrier s i o) ≡ counts s
counts-with_link_carrier s i None = refl
counts-with_link_carrier s i (Some l) = counts-if_carrier s (end_here l i) (ends_here l i)

counts-with_carriers_from : (n k i : ℕ) (s : State) → counts (with_carriers_from n k i s) ≡ counts s
counts-with_carriers_from zero k i s = refl
counts-with_carriers_from (suc n) k i s = counts-with_carriers_from n (k + 1) i (with_link_carrier s i (slice_get (links_of s) k)) ∙ counts-with_link_carrier s i (slice_get (links_of s) k)

counts-restarted_in : (s : State) (i : ℕ) (c : BridgeConfig) (place : ℕ) → counts (restarted_in s i c place) ≡ counts s
counts-restarted_in s i c place =
    let n : ℕ = length (links_of s) in
    counts-with_carriers_from n 0 i (replaced (cut_from n 0 i s) i c place) ∙ counts-cut_from n 0 i s

counts-restarted_as : (s : State) (i : ℕ) (o : Option DeclaredBridge) (box : Option ℕ) → counts (restarted_as s i o box) ≡ counts s
counts-restarted_as s i None box = refl
counts-restarted_as s i (Some b) None = refl
counts-restarted_as s i (Some b) (Some place) = counts-restarted_in s i (restart_config s i b) place

pub counts-restarted : (s : State) (i : ℕ) → counts (restarted s i) ≡ counts s
unfolding restarted
counts-restarted s i = counts-restarted_as s i (slice_get (things_of s.world.bridges) i) (box_at s i)

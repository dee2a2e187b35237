-- The links of a bridge that restarts are cut: nothing is on its way over them, and nobody is kept at their far ends.
use Rattle.std.proofs.Common.{◌≡◌, ◌≢◌, ◌⊎◌, inl, inr, ◌≤◌, ◌<◌, ◌+◌, ℕ, zero, suc, Bool, true, false, true≢false, List, [], ◌∷◌, length, refl, sym, ap, ◌∙◌, subst, Option, Some, None, slice_get, arith}
use Rattle.std.specs.Prelude.{◌==◌, ◌&&◌, ◌||◌, if◌then◌else◌}
use Rattle.std.proofs.lemmas.Bool.{cases_eq, eq-eqb, ne_eqb, eqb-true}
use Rattle.link_model.specs.Lane.{IsIn}
use Rattle.link_model.specs.Lanes.{no_frames, lane_of}
use Rattle.spb_types.specs.declared.link.Dir.{Dir}
use Rattle.spb_types.specs.declared.link.Dir.TheVariants.{Ab, Ba}
use Rattle.spb_types.specs.Places.{changed_at}
use Rattle.adjacency.specs.Hearing.{End}
use Rattle.bridge_api.specs.View.{BridgeView, IsPort, neighbour_at}
use Rattle.bridge_api.specs.Step as comes
use Rattle.bridge_api.specs.Step.{carrier, step}
use Rattle.bridge_api.specs.Laws.{IsSoundView}
use Rattle.spb_world.specs.declared.declaration.DeclaredLink.{DeclaredLink}
use Rattle.spb_world.specs.declared.declaration.LinkEnd.{LinkEnd}
use Rattle.spb_world.specs.World.{World, things_of, Sound}
use Rattle.network_model.specs.State.{State, links_of}
use Rattle.spb_world.specs.Links.{is_live, near_end, far_end, is_at, ends_here, end_here, end_away}
use Rattle.network_model.specs.Events.{with_carrier_at_end, flushed}
use Rattle.network_model.specs.Restarting.{link_cut, cut_link, cut_from}
use Rattle.network_model.specs.Sound.{ends_live_link, HaveCarrierOfLinks, IsSoundState}
use Rattle.spb_world.proofs.BoxLemmas.{All-get}
use Rattle.network_model.proofs.BridgeLaws.{steps_keep_neighbours}
use Rattle.network_model.proofs.FitsLemmas.{link_there, far_is_port}
use Rattle.network_model.proofs.SoundLaws.{without_carrier}
use Rattle.spb_world.proofs.SoundLaneIds.{turned, near-turned, at_parts, at_itself, lane_of_end}
use Rattle.network_model.proofs.SoundMoves.{IsCore, nothing_in}
use Rattle.network_model.proofs.SoundSteps.{in_flushed, flushed_lane}
use Rattle.network_model.proofs.SoundCarrier.{got_changed, HaveCarrier, carriers_by}
use Rattle.network_model.proofs.SentLanes.{changed_beside}
use Rattle.network_model.proofs.SoundEvents.{core_of, sound_from, Sound-flushed, core_with_carrier, with_carrier_world, carrier_stands, stepped_with_metric, stepped_attached, stepped_views}
use Rattle.network_model.proofs.CountedMoves.{is_within}
use Rattle.network_model.proofs.CountedSent.{silent_lanes}

-- ---- the ends of a link of the bridge at place i

pub and_both : (b c : Bool) → (b && c) ≡ true → (b ≡ true) × (c ≡ true)
and_both true c e = (refl, e)
and_both false c e = absurd (true≢false (sym e))

and_true : (b c : Bool) → b ≡ true → c ≡ true → (b && c) ≡ true
and_true true c one two = two
and_true false c one two = absurd (true≢false (sym one))

pub either : (b c : Bool) → (b || c) ≡ true → (b ≡ true) ⊎ (c ≡ true)
either true c e = inl refl
either false c e = inr e

or_first : (b c : Bool) → b ≡ true → (b || c) ≡ true
or_first true c e = refl
or_first false c e = absurd (true≢false (sym e))

or_last : (b c : Bool) → c ≡ true → (b || c) ≡ true
or_last true c e = refl
or_last false c e = e

pub if_true : {X : Type 0} (b : Bool) (x y : X) → b ≡ true → (if b then x else y) ≡ x
if_true true x y e = refl
if_true false x y e = absurd (true≢false (sym e))

pub if_false : {X : Type 0} (b : Bool) (x y : X) → b ≡ false → (if b then x else y) ≡ y
if_false true x y e = absurd (true≢false e)
if_false false x y e = refl

-- it is up, and in some direction it leads away from there
pub record LeadsAway (l : DeclaredLink) (i : ℕ) : Type 0 where
  pub live : l.live ≡ true
  pub dir : Dir
  pub near : (near_end dir l).bridge ≡ i

pub leads_away : (l : DeclaredLink) (i : ℕ) → ends_here l i ≡ true → LeadsAway l i
leads_away l i here =
    let parts = and_both l.live ((l.a.bridge == i) || (l.b.bridge == i)) here in
    elim (either (l.a.bridge == i) (l.b.bridge == i) parts.1) [
      | inl a ↦ record { live = parts.0; dir = Ab; near = eqb-true l.a.bridge i a }
      | inr b ↦ record { live = parts.0; dir = Ba; near = eqb-true l.b.bridge i b }
    ]

pub is_here : (l : DeclaredLink) (i : ℕ) (dir : Dir) → l.live ≡ true → (near_end dir l).bridge ≡ i → ends_here l i ≡ true
is_here l i Ab live near = and_true l.live ((l.a.bridge == i) || (l.b.bridge == i)) live (or_first (l.a.bridge == i) (l.b.bridge == i) (eq-eqb l.a.bridge i near))
is_here l i Ba live near = and_true l.live ((l.a.bridge == i) || (l.b.bridge == i)) live (or_last (l.a.bridge == i) (l.b.bridge == i) (eq-eqb l.b.bridge i near))

pub here_is : (l : DeclaredLink) (i : ℕ) (dir : Dir) → l.a.bridge ≢ l.b.bridge → (near_end dir l).bridge ≡ i → end_here l i ≡ near_end dir l
here_is l i Ab apart near = if_true (l.a.bridge == i) l.a l.b (eq-eqb l.a.bridge i near)
here_is l i Ba apart near = if_false (l.a.bridge == i) l.a l.b (ne_eqb l.a.bridge i (λ e. apart (e ∙ sym near)))

pub away_is : (l : DeclaredLink) (i : ℕ) (dir : Dir) → l.a.bridge ≢ l.b.bridge → (near_end dir l).bridge ≡ i → end_away l i ≡ far_end dir l
away_is l i Ab apart near = if_true (l.a.bridge == i) l.b l.a (eq-eqb l.a.bridge i near)
away_is l i Ba apart near = if_false (l.a.bridge == i) l.b l.a (ne_eqb l.a.bridge i (λ e. apart (e ∙ sym near)))

pub ends_apart : (dir : Dir) (l : DeclaredLink) → l.a.bridge ≢ l.b.bridge → (near_end dir l).bridge ≢ (far_end dir l).bridge
ends_apart Ab l apart = apart
ends_apart Ba l apart = λ e. apart (sym e)

-- ---- a link is cut

live_at : (links : List DeclaredLink) (k : ℕ) (l : DeclaredLink) (b : Bool) → slice_get links k ≡ Some l → l.live ≡ b → is_live links k ≡ b
live_at [] k l b at is = absurd cc
live_at (h ∷ links) zero l b at is = let same : h ≡ l = cc in ap (λ (m : DeclaredLink). m.live) same ∙ is
live_at (h ∷ links) (suc k) l b at is = live_at links k l b at is

-- whether a link that is up ends at an end of this link
pub near_live : (s : State) (k : ℕ) (l : DeclaredLink) (dir : Dir) (b : Bool) → Sound s.world → slice_get (links_of s) k ≡ Some l → l.live ≡ b → ends_live_link (links_of s) (near_end dir l).bridge (near_end dir l).port ≡ b
near_live s k l dir b sound at is = ap (carriers_by (links_of s)) (lane_of_end (links_of s) k l dir sound.links_apart (link_there s k l sound at).apart at) ∙ live_at (links_of s) k l b at is

pub far_live : (s : State) (k : ℕ) (l : DeclaredLink) (dir : Dir) (b : Bool) → IsSoundState s → slice_get (links_of s) k ≡ Some l → l.live ≡ b → ends_live_link (links_of s) (far_end dir l).bridge (far_end dir l).port ≡ b
far_live s k l dir b sound at is = subst (λ (e : LinkEnd). ends_live_link (links_of s) e.bridge e.port ≡ b) (near-turned dir l) (near_live s k l (turned dir) b sound.world at is)

again_there : (e : LinkEnd) (j p : ℕ) (links : List DeclaredLink) (b : Bool) → is_at e j p ≡ b → ends_live_link links e.bridge e.port ≡ true → (if b then true else (if b then false else ends_live_link links j p)) ≡ ends_live_link links j p
again_there e j p links true at has = let parts = at_parts e j p at in sym has ∙ (λ k. ends_live_link links (parts.0 k) (parts.1 k))
again_there e j p links false at has = refl

pub cut_world : (s : State) (k : ℕ) (e : LinkEnd) → (link_cut s k e).world ≡ s.world
cut_world s k e = with_carrier_world true (with_carrier_at_end false (flushed s k) e) e ∙ with_carrier_world false (flushed s k) e

pub Sound-link_cut : (s : State) (k : ℕ) (e : LinkEnd) → IsSoundState s → ends_live_link (links_of s) e.bridge e.port ≡ true → IsSoundState (link_cut s k e)
Sound-link_cut s k e sound has =
    sound_from x (core_with_carrier true u e (core_with_carrier false t e (core_of t emptied)))
    (subst (λ (w : World). HaveCarrierOfLinks (things_of w.links) x.views) (sym (cut_world s k e))
    (λ j v p at port. both j v p at port ∙ again_there e j p (links_of s) (is_at e j p) refl has))
    (stepped_with_metric (comes.carrier e.port true) u e.bridge refl (stepped_with_metric (comes.carrier e.port false) t e.bridge refl emptied.metrics))
    (stepped_attached (comes.carrier e.port true) u e.bridge refl (stepped_attached (comes.carrier e.port false) t e.bridge refl emptied.attached))
  where
    t : State
    t = flushed s k

    u : State
    u = with_carrier_at_end false t e

    x : State
    x = with_carrier_at_end true u e

    emptied : IsSoundState t
    emptied = Sound-flushed s k sound

    off : HaveCarrier u.views (λ j p. if is_at e j p then false else ends_live_link (links_of s) j p)
    off = carrier_stands false t e (ends_live_link (links_of s)) emptied.carriers

    both : HaveCarrier x.views (λ j p. if is_at e j p then true else (if is_at e j p then false else ends_live_link (links_of s) j p))
    both = carrier_stands true u e (λ j p. if is_at e j p then false else ends_live_link (links_of s) j p) off

away_live : (s : State) (i k : ℕ) (l : DeclaredLink) → IsSoundState s → slice_get (links_of s) k ≡ Some l → ends_here l i ≡ true → ends_live_link (links_of s) (end_away l i).bridge (end_away l i).port ≡ true
away_live s i k l sound at here =
    let away = leads_away l i here in
    subst (λ (e : LinkEnd). ends_live_link (links_of s) e.bridge e.port ≡ true) (sym (away_is l i away.dir (link_there s k l sound.world at).apart away.near)) (far_live s k l away.dir true sound at away.live)

cut_if : (s : State) (i k : ℕ) (l : DeclaredLink) (b : Bool) → ends_here l i ≡ b → slice_get (links_of s) k ≡ Some l → IsSoundState s → IsSoundState (if b then link_cut s k (end_away l i) else s)
cut_if s i k l true here at sound = Sound-link_cut s k (end_away l i) sound (away_live s i k l sound at here)
cut_if s i k l false here at sound = sound

pub Sound-cut_link : (s : State) (i k : ℕ) (o : Option DeclaredLink) → slice_get (links_of s) k ≡ o → IsSoundState s → IsSoundState (cut_link s i k o)
Sound-cut_link s i k None at sound = sound
Sound-cut_link s i k (Some l) at sound = cut_if s i k l (ends_here l i) refl at sound

pub Sound-cut_from : (n k i : ℕ) (s : State) → IsSoundState s → IsSoundState (cut_from n k i s)
Sound-cut_from zero k i s sound = sound
Sound-cut_from (suc n) k i s sound = Sound-cut_from n (k + 1) i (cut_link s i k (slice_get (links_of s) k)) (Sound-cut_link s i k (slice_get (links_of s) k) refl sound)

world_if : (s : State) (k : ℕ) (e : LinkEnd) (b : Bool) → (if b then link_cut s k e else s).world ≡ s.world
world_if s k e true = cut_world s k e
world_if s k e false = refl

pub world-cut_link : (s : State) (i k : ℕ) (o : Option DeclaredLink) → (cut_link s i k o).world ≡ s.world
world-cut_link s i k None = refl
world-cut_link s i k (Some l) = world_if s k (end_away l i) (ends_here l i)

pub world-cut_from : (n k i : ℕ) (s : State) → (cut_from n k i s).world ≡ s.world
world-cut_from zero k i s = refl
world-cut_from (suc n) k i s = world-cut_from n (k + 1) i (cut_link s i k (slice_get (links_of s) k)) ∙ world-cut_link s i k (slice_get (links_of s) k)

-- ---- the bridge itself takes no notice

view_beside : (on : Bool) (s : State) (e : LinkEnd) (i : ℕ) → e.bridge ≢ i → slice_get (with_carrier_at_end on s e).views i ≡ slice_get s.views i
view_beside on s e i apart = ap (λ (vs : List BridgeView). slice_get vs i) (stepped_views (comes.carrier e.port on) s e.bridge) ∙ changed_beside (step (carrier e.port on)) s.views e.bridge i (λ is. apart (sym is))

uncut_if : (s : State) (i k : ℕ) (l : DeclaredLink) (b : Bool) → ends_here l i ≡ b → l.a.bridge ≢ l.b.bridge → slice_get (if b then link_cut s k (end_away l i) else s).views i ≡ slice_get s.views i
uncut_if s i k l true here apart =
    let leads : LeadsAway l i = leads_away l i here in
    let e : LinkEnd = end_away l i in
    let far : e ≡ far_end leads.dir l = away_is l i leads.dir apart leads.near in
    let away : e.bridge ≢ i = λ is. ends_apart leads.dir l apart (leads.near ∙ (sym is ∙ ap (λ (f : LinkEnd). f.bridge) far)) in
    view_beside true (with_carrier_at_end false (flushed s k) e) e i away ∙ view_beside false (flushed s k) e i away
uncut_if s i k l false here apart = refl

uncut_link : (s : State) (i k : ℕ) (o : Option DeclaredLink) → slice_get (links_of s) k ≡ o → Sound s.world → slice_get (cut_link s i k o).views i ≡ slice_get s.views i
uncut_link s i k None at sound = refl
uncut_link s i k (Some l) at sound = uncut_if s i k l (ends_here l i) refl (link_there s k l sound at).apart

pub uncut : (n k i : ℕ) (s : State) → Sound s.world → slice_get (cut_from n k i s).views i ≡ slice_get s.views i
uncut zero k i s sound = refl
uncut (suc n) k i s sound =
    let t : State = cut_link s i k (slice_get (links_of s) k) in
    uncut n (k + 1) i t (subst Sound (sym (world-cut_link s i k (slice_get (links_of s) k))) sound) ∙ uncut_link s i k (slice_get (links_of s) k) refl sound

-- ---- nobody is kept

-- no neighbour is kept at a port of the bridge at place j
abbrev pub IsAlone : List BridgeView → ℕ → ℕ → Type 0
IsAlone views j p = (w : BridgeView) → slice_get views j ≡ Some w → neighbour_at w p ≡ None

pub none_kept : (o : Option End) → ((n : End) → o ≡ Some n → ⊥) → o ≡ None
none_kept None not = refl
none_kept (Some n) not = absurd (not n refl)

some_none : (o : Option End) (n : End) → o ≡ None → o ≡ Some n → ⊥
some_none o n none some = absurd cc

-- carrier that comes or goes adds none
alone_after : (v : BridgeView) (q : ℕ) (on : Bool) (p : ℕ) → neighbour_at v p ≡ None → neighbour_at (step (carrier q on) v) p ≡ None
alone_after v q on p none =
    none_kept (neighbour_at (step (carrier q on) v) p) (λ n kept.
    elim (steps_keep_neighbours (carrier q on) v p n kept) [
      | inl was ↦ some_none (neighbour_at v p) n none was
      | inr heard ↦ heard
    ])

alone_stepped : (views : List BridgeView) (i q : ℕ) (on : Bool) (j p : ℕ) → IsAlone views j p → IsAlone (changed_at (step (carrier q on)) views i) j p
alone_stepped views i q on j p alone w at =
    let was = got_changed (step (carrier q on)) views i j w at in
    elim was.is [
      | inl here ↦ ap (λ (u : BridgeView). neighbour_at u p) here.1 ∙ alone_after was.was q on p (alone was.was was.there)
      | inr same ↦ ap (λ (u : BridgeView). neighbour_at u p) same.1 ∙ alone was.was was.there
    ]

alone_carrier : (on : Bool) (s : State) (e : LinkEnd) (j p : ℕ) → IsAlone s.views j p → IsAlone (with_carrier_at_end on s e).views j p
alone_carrier on s e j p alone = subst (λ (vs : List BridgeView). IsAlone vs j p) (sym (stepped_views (comes.carrier e.port on) s e.bridge)) (alone_stepped s.views e.bridge e.port on j p alone)

-- ---- a link of the bridge that was cut

pub record IsCutOff (s : State) (k : ℕ) (far : LinkEnd) : Type 0 where
  pub empty : (dir : Dir) → lane_of s.lanes k dir ≡ []
  pub alone : IsAlone s.views far.bridge far.port

cut_lanes : (s : State) (k : ℕ) (e : LinkEnd) → (link_cut s k e).lanes ≡ changed_at (λ x. no_frames) s.lanes k
cut_lanes s k e = silent_lanes (comes.carrier e.port true) (with_carrier_at_end false (flushed s k) e) e.bridge (λ v. refl) ∙ silent_lanes (comes.carrier e.port false) (flushed s k) e.bridge (λ v. refl)

-- it stays so while others are cut
pub cut_stays : (s : State) (j : ℕ) (e : LinkEnd) (k : ℕ) (far : LinkEnd) → IsCutOff s k far → IsCutOff (link_cut s j e) k far
cut_stays s j e k far off = record {
  empty = λ dir. nothing_in (lane_of (link_cut s j e).lanes k dir) (λ f among.
      let before : IsIn f (lane_of s.lanes k dir) = in_flushed s.lanes j k dir f (subst (λ ls. IsIn f (lane_of ls k dir)) (cut_lanes s j e) among) in
      subst (IsIn f) (off.empty dir) before);
  alone = alone_carrier true (with_carrier_at_end false (flushed s j) e) e far.bridge far.port (alone_carrier false (flushed s j) e far.bridge far.port off.alone);
}

stays_if : (s : State) (j : ℕ) (e : LinkEnd) (b : Bool) (k : ℕ) (far : LinkEnd) → IsCutOff s k far → IsCutOff (if b then link_cut s j e else s) k far
stays_if s j e true k far off = cut_stays s j e k far off
stays_if s j e false k far off = off

stays_link : (s : State) (i j : ℕ) (o : Option DeclaredLink) (k : ℕ) (far : LinkEnd) → IsCutOff s k far → IsCutOff (cut_link s i j o) k far
stays_link s i j None k far off = off
stays_link s i j (Some l) k far off = stays_if s j (end_away l i) (ends_here l i) k far off

stays_from : (n j i : ℕ) (s : State) (k : ℕ) (far : LinkEnd) → IsCutOff s k far → IsCutOff (cut_from n j i s) k far
stays_from zero j i s k far off = off
stays_from (suc n) j i s k far off = stays_from n (j + 1) i (cut_link s i j (slice_get (links_of s) j)) k far (stays_link s i j (slice_get (links_of s) j) k far off)

-- and it is so when it is cut
cut_here : (s : State) (k : ℕ) (l : DeclaredLink) (dir : Dir) → IsSoundState s → slice_get (links_of s) k ≡ Some l → IsCutOff (link_cut s k (far_end dir l)) k (far_end dir l)
cut_here s k l dir sound at = record {
  empty = λ d. ap (λ ls. lane_of ls k d) (cut_lanes s k e) ∙ flushed_lane s.lanes k d;
  alone = alone_carrier true u e e.bridge e.port alone;
}
  where
    e : LinkEnd
    e = far_end dir l

    t : State
    t = flushed s k

    u : State
    u = with_carrier_at_end false t e

    emptied : IsSoundState t
    emptied = Sound-flushed s k sound

    core : IsCore u
    core = core_with_carrier false t e (core_of t emptied)

    off : HaveCarrier u.views (λ j p. if is_at e j p then false else ends_live_link (links_of s) j p)
    off = carrier_stands false t e (ends_live_link (links_of s)) emptied.carriers

    there : slice_get (links_of u) k ≡ Some l
    there = ap (λ (w : World). slice_get (things_of w.links) k) (with_carrier_world false t e) ∙ at

    alone : IsAlone u.views e.bridge e.port
    alone w at_w =
        let port : IsPort w e.port = far_is_port u k l dir core.world core.fits there w at_w in
        (without_carrier w e.port (All-get IsSoundView u.views e.bridge w core.views at_w)
        (off e.bridge w e.port at_w port ∙ if_true (is_at e e.bridge e.port) false (ends_live_link (links_of s) e.bridge e.port) (at_itself e e.bridge e.port refl refl))).0

-- a link that is down was so before
cut_dead : (s : State) (k : ℕ) (l : DeclaredLink) (dir : Dir) → IsSoundState s → slice_get (links_of s) k ≡ Some l → l.live ≡ false → IsCutOff s k (far_end dir l)
cut_dead s k l dir sound at dead = record {
  empty = λ d. sound.idle k d (live_at (links_of s) k l false at dead);
  alone = λ w at_w.
      (without_carrier w (far_end dir l).port (All-get IsSoundView s.views (far_end dir l).bridge w sound.views at_w)
      (sound.carriers (far_end dir l).bridge w (far_end dir l).port at_w (far_is_port s k l dir sound.world sound.fits at w at_w) ∙ far_live s k l dir false sound at dead)).0;
}

cut_as : (s : State) (i k : ℕ) (l : DeclaredLink) (dir : Dir) (o : Option DeclaredLink) → IsSoundState s → slice_get (links_of s) k ≡ Some l → l.live ≡ true → (near_end dir l).bridge ≡ i → Some l ≡ o → IsCutOff (cut_link s i k o) k (far_end dir l)
cut_as s i k l dir None sound at live near is = absurd cc
cut_as s i k l dir (Some m) sound at live near is =
    let same : l ≡ m = cc in
    let far : end_away l i ≡ far_end dir l = away_is l i dir (link_there s k l sound.world at).apart near in
    let here : IsCutOff (link_cut s k (end_away l i)) k (far_end dir l) = subst (λ (e : LinkEnd). IsCutOff (link_cut s k e) k (far_end dir l)) (sym far) (cut_here s k l dir sound at) in
    subst (λ (h : DeclaredLink). IsCutOff (if ends_here h i then link_cut s k (end_away h i) else s) k (far_end dir l)) same
    (subst (λ (t : State). IsCutOff t k (far_end dir l)) (sym (if_true (ends_here l i) (link_cut s k (end_away l i)) s (is_here l i dir live near))) here)

cut_each : (n j i : ℕ) (s : State) (k : ℕ) (l : DeclaredLink) (dir : Dir) → IsSoundState s → j ≤ k → k < j + n → slice_get (links_of s) k ≡ Some l → l.live ≡ true → (near_end dir l).bridge ≡ i → IsCutOff (cut_from n j i s) k (far_end dir l)
cut_each zero j i s k l dir sound low high at live near = absurd (omega (arith, low, high))
cut_each (suc n) j i s k l dir sound low high at live near =
    let t : State = cut_link s i j (slice_get (links_of s) j) in
    elim (cases_eq j k) [
      | inl here ↦
          stays_from n (j + 1) i t k (far_end dir l)
          (subst (λ (m : ℕ). IsCutOff (cut_link s i m (slice_get (links_of s) m)) k (far_end dir l)) (sym here) (cut_as s i k l dir (slice_get (links_of s) k) sound at live near (sym at)))
      | inr apart ↦
          cut_each n (j + 1) i t k l dir (Sound-cut_link s i j (slice_get (links_of s) j) refl sound) (omega (arith, low, apart)) (omega (arith, high))
          (ap (λ (w : World). slice_get (things_of w.links) k) (world-cut_link s i j (slice_get (links_of s) j)) ∙ at) live near
    ]

-- so it is with each link of the bridge, whether it was up or not, when all are cut
abbrev pub AreCut : State → ℕ → Type 0
AreCut s i = (k : ℕ) (l : DeclaredLink) (dir : Dir) → slice_get (links_of s) k ≡ Some l → (near_end dir l).bridge ≡ i → IsCutOff s k (far_end dir l)

pub all_cut : (s : State) (i : ℕ) → IsSoundState s → AreCut (cut_from (length (links_of s)) 0 i s) i
all_cut s i sound k l dir at near = by l.live refl
  where
    t : State
    t = cut_from (length (links_of s)) 0 i s

    before : slice_get (links_of s) k ≡ Some l
    before = ap (λ (w : World). slice_get (things_of w.links) k) (sym (world-cut_from (length (links_of s)) 0 i s)) ∙ at

    by : (b : Bool) → l.live ≡ b → IsCutOff t k (far_end dir l)
    by true live = cut_each (length (links_of s)) 0 i s k l dir sound (omega arith) (omega (arith, is_within (links_of s) k l before)) before live near
    by false dead = cut_dead t k l dir (Sound-cut_from (length (links_of s)) 0 i s sound) at dead

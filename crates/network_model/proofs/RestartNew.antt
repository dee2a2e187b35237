-- After a restart the bridge is what its configuration makes, with carrier on its links that are up.
use Rattle.std.proofs.Common.{◌≡◌, ◌≢◌, ◌<◌, ◌+◌, ℕ, zero, suc, Bool, true, false, List, [], ◌∷◌, length, refl, sym, ap, ◌∙◌, subst, Option, Some, None, slice_get, remove, arith}
use Rattle.std.specs.Prelude.{if◌then◌else◌}
use Rattle.std.specs.FinMap.{get}
use Rattle.spb_types.specs.declared.address.BridgeId.{BridgeId}
use Rattle.spb_types.specs.declared.address.LspId.{LspId}
use Rattle.lsdb.specs.Version.{number_of}
use Rattle.lsdb.specs.Database.{Lsps, version_at}
use Rattle.flooding.specs.Own.{own_id, own_number, own_numbers}
use Rattle.flooding.specs.Advancing.{Advanced}
use Rattle.spb_types.specs.Places.{changed_at}
use Rattle.bridge_api.specs.declared.config.BridgeConfig.{BridgeConfig}
use Rattle.bridge_api.specs.View.{BridgeView}
use Rattle.bridge_api.specs.Config.{IsWhole, configured}
use Rattle.bridge_api.specs.Step as comes
use Rattle.bridge_api.specs.Step.{carrier, step}
use Rattle.bridge_api.specs.Laws.{IsSoundView}
use Rattle.bridge_api.proofs.Places.{got_at}
use Rattle.spb_world.specs.declared.declaration.DeclaredBridge.{DeclaredBridge}
use Rattle.spb_world.specs.declared.declaration.DeclaredLink.{DeclaredLink}
use Rattle.spb_world.specs.declared.declaration.LinkEnd.{LinkEnd}
use Rattle.spb_world.specs.World.{World, things_of}
use Rattle.network_model.specs.State.{State, Spare, links_of}
use Rattle.network_model.specs.Events.{with_carrier_at_end, flushed}
use Rattle.network_model.specs.Restarting.{numbers_from, last_of, restart_config, link_cut, cut_link, cut_from, with_link_carrier, with_carriers_from, replaced, restarted_in, restarted_as, restarted, box_at}
use Rattle.spb_world.specs.Links.{ends_here, end_here, end_away}
use Rattle.network_model.specs.Sound.{IsSoundState}
use Rattle.network_model.specs.RestartLaws.{with_carriers, BeginsAbove, IsNew, RestartIsNew}
use Rattle.spb_world.proofs.BoxLemmas.{All-get}
use Rattle.network_model.proofs.BridgeLaws.{configured_is_sound}
use Rattle.network_model.proofs.FitsLemmas.{link_there}
use Rattle.network_model.proofs.SentLanes.{stepped_rest}
use Rattle.network_model.proofs.SoundConfigured.{configured_still}
use Rattle.network_model.proofs.SoundEvents.{core_of, stepped_views, with_carrier_world}
use Rattle.network_model.proofs.CountedMoves.{is_within, shown_at}
use Rattle.network_model.proofs.RestartCut.{leads_away, here_is, world-cut_from, Sound-cut_from}
use Rattle.network_model.proofs.RestartBegins.{advanced_at, first_further}
use Rattle.network_model.proofs.RestartConfig.{restart_whole}
use Rattle.network_model.proofs.CarrierComes.{carriers_come, carriers_keep_id}
use Rattle.network_model.proofs.RestartSound.{world-with_carriers_from}

-- ---- the rack, and the seconds

abbrev kept : State → List Spare × List ℕ
kept s = (s.rack, s.ticks)

kept_carrier : (on : Bool) (s : State) (e : LinkEnd) → kept (with_carrier_at_end on s e) ≡ kept s
kept_carrier on s e = ap kept (stepped_rest (comes.carrier e.port on) s e.bridge)

kept_cut : (s : State) (k : ℕ) (e : LinkEnd) (b : Bool) → kept (if b then link_cut s k e else s) ≡ kept s
kept_cut s k e true = kept_carrier true (with_carrier_at_end false (flushed s k) e) e ∙ kept_carrier false (flushed s k) e
kept_cut s k e false = refl

kept_cut_link : (s : State) (i k : ℕ) (o : Option DeclaredLink) → kept (cut_link s i k o) ≡ kept s
kept_cut_link s i k None = refl
kept_cut_link s i k (Some l) = kept_cut s k (end_away l i) (ends_here l i)

kept_cut_from : (n k i : ℕ) (s : State) → kept (cut_from n k i s) ≡ kept s
kept_cut_from zero k i s = refl
kept_cut_from (suc n) k i s = kept_cut_from n (k + 1) i (cut_link s i k (slice_get (links_of s) k)) ∙ kept_cut_link s i k (slice_get (links_of s) k)

kept_carrier_if : (s : State) (e : LinkEnd) (b : Bool) → kept (if b then with_carrier_at_end true s e else s) ≡ kept s
kept_carrier_if s e true = kept_carrier true s e
kept_carrier_if s e false = refl

kept_link_carrier : (s : State) (i : ℕ) (o : Option DeclaredLink) → kept (with_link_carrier s i o) ≡ kept s
kept_link_carrier s i None = refl
kept_link_carrier s i (Some l) = kept_carrier_if s (end_here l i) (ends_here l i)

kept_carriers_from : (n k i : ℕ) (s : State) → kept (with_carriers_from n k i s) ≡ kept s
kept_carriers_from zero k i s = refl
kept_carriers_from (suc n) k i s = kept_carriers_from n (k + 1) i (with_link_carrier s i (slice_get (links_of s) k)) ∙ kept_link_carrier s i (slice_get (links_of s) k)

-- ---- the view

get_changed : {X : Type 0} (f : X → X) (xs : List X) (i : ℕ) (x : X) → slice_get xs i ≡ Some x → slice_get (changed_at f xs i) i ≡ Some (f x)
get_changed f [] i x at = absurd cc
get_changed f (y ∷ xs) zero x at = let same : y ≡ x = cc in ap (λ z. Some (f z)) same
get_changed f (y ∷ xs) (suc i) x at = get_changed f xs i x at

-- each of these links is one of the network's, from place k on
abbrev AreFrom : List DeclaredLink → ℕ → List DeclaredLink → Type 0
AreFrom links k ls = (m : ℕ) (l : DeclaredLink) → slice_get ls m ≡ Some l → slice_get links (k + m) ≡ Some l

-- and has two different ends
abbrev HaveTwoEnds : List DeclaredLink → Type 0
HaveTwoEnds links = (m : ℕ) (l : DeclaredLink) → slice_get links m ≡ Some l → l.a.bridge ≢ l.b.bridge

view_with_carrier_if : (s : State) (i : ℕ) (l : DeclaredLink) (v : BridgeView) (b : Bool) → ends_here l i ≡ b → l.a.bridge ≢ l.b.bridge → slice_get s.views i ≡ Some v → slice_get (if b then with_carrier_at_end true s (end_here l i) else s).views i ≡ Some (if b then step (carrier (end_here l i).port true) v else v)
view_with_carrier_if s i l v true here apart at =
    let e : LinkEnd = end_here l i in
    let leads = leads_away l i here in
    let place : e.bridge ≡ i = ap (λ (f : LinkEnd). f.bridge) (here_is l i leads.dir apart leads.near) ∙ leads.near in
    ap (λ (vs : List BridgeView). slice_get vs i) (stepped_views (comes.carrier e.port true) s e.bridge)
    ∙ (ap (λ (j : ℕ). slice_get (changed_at (step (carrier e.port true)) s.views j) i) place
    ∙ get_changed (step (carrier e.port true)) s.views i v at)
view_with_carrier_if s i l v false here apart at = at

world_if : (s : State) (e : LinkEnd) (b : Bool) → (if b then with_carrier_at_end true s e else s).world ≡ s.world
world_if s e true = with_carrier_world true s e
world_if s e false = refl

view_with_link_carrier : (s : State) (i : ℕ) (l : DeclaredLink) (o : Option DeclaredLink) (v : BridgeView) → o ≡ Some l → l.a.bridge ≢ l.b.bridge → slice_get s.views i ≡ Some v → slice_get (with_link_carrier s i o).views i ≡ Some (if ends_here l i then step (carrier (end_here l i).port true) v else v)
view_with_link_carrier s i l None v is apart at = absurd cc
view_with_link_carrier s i l (Some m) v is apart at =
    let same : l ≡ m = cc in
    subst (λ (h : DeclaredLink). slice_get (with_link_carrier s i (Some h)).views i ≡ Some (if ends_here l i then step (carrier (end_here l i).port true) v else v)) same (view_with_carrier_if s i l v (ends_here l i) refl apart at)

world_of_link_carrier : (s : State) (i : ℕ) (o : Option DeclaredLink) → (with_link_carrier s i o).world ≡ s.world
world_of_link_carrier s i None = refl
world_of_link_carrier s i (Some l) = world_if s (end_here l i) (ends_here l i)

view_with_carriers : (ls : List DeclaredLink) (k i : ℕ) (s : State) (v : BridgeView) → AreFrom (links_of s) k ls → HaveTwoEnds ls → slice_get s.views i ≡ Some v → slice_get (with_carriers_from (length ls) k i s).views i ≡ Some (with_carriers ls i v)
view_with_carriers [] k i s v from two at = at
view_with_carriers (l ∷ ls) k i s v from two at =
    let t : State = with_link_carrier s i (slice_get (links_of s) k) in
    let here : k ≡ k + 0 = omega arith in
    let first : slice_get (links_of s) k ≡ Some l = ap (slice_get (links_of s)) here ∙ from zero l refl in
    let world : t.world ≡ s.world = world_of_link_carrier s i (slice_get (links_of s) k) in
    view_with_carriers ls (k + 1) i t (if ends_here l i then step (carrier (end_here l i).port true) v else v)
    (λ m h there.
    let next : k + 1 + m ≡ k + suc m = omega arith in
    ap (λ (w : World). slice_get (things_of w.links) (k + 1 + m)) world ∙ (ap (slice_get (links_of s)) next ∙ from (suc m) h there))
    (λ m h there. two (suc m) h there)
    (view_with_link_carrier s i l (slice_get (links_of s) k) v first (two zero l refl) at)

-- ---- the numbers

begins_above : (s : State) (i : ℕ) (b : DeclaredBridge) (v : BridgeView) → IsSoundState s → slice_get (things_of s.world.bridges) i ≡ Some b → slice_get s.views i ≡ Some v → BeginsAbove v (with_carriers (links_of s) i (configured (restart_config s i b)))
begins_above s i b v sound there at = record {
  number = λ low.
      ap (λ (x : LspId). number_of (version_at w.database x)) (ap own_id (ap (λ (x : BridgeId). x.system) same_id))
      ∙ (ap (λ (db : Lsps). number_of (version_at db (own_id v.id.system))) stands
      ∙ first_further v c whole last system low);
  own = λ k below.
      subst (λ (db : Lsps). Advanced (get v.database (own_number v.id.system k)) (get db (own_number v.id.system k))) (sym stands)
      (advanced_at v c whole last system (All-get IsSoundView s.views i v sound.views at) k below);
}
  where
    c : BridgeConfig
    c = restart_config s i b

    w : BridgeView
    w = with_carriers (links_of s) i (configured c)

    whole : IsWhole c
    whole = restart_whole s i b sound there

    last : c.last ≡ numbers_from v own_numbers 0
    last = ap last_of at

    declared : v.id ≡ b.bridge.id
    declared = (sound.shown i v b at there).id

    system : c.id.system ≡ v.id.system
    system = ap (λ (x : BridgeId). x.system) (sym declared)

    stands : w.database ≡ (configured c).database
    stands = carriers_come (links_of s) i (configured c) (configured_is_sound c whole)

    same_id : w.id ≡ v.id
    same_id = carriers_keep_id (links_of s) i (configured c) ∙ ((configured_still c).id ∙ sym declared)

-- ---- the restart

new_in : (s : State) (i : ℕ) (b : DeclaredBridge) (place : ℕ) → IsSoundState s → slice_get (things_of s.world.bridges) i ≡ Some b → IsNew s (restarted_in s i (restart_config s i b) place) i b place
new_in s i b place sound there = record {
  view = view_with_carriers (links_of s) 0 i u (configured c) from (λ m l at. (link_there s m l sound.world at).apart) (got_at t.views i (configured c) within);
  above = λ v at. begins_above s i b v sound there at;
  rack = ap (λ (x : List Spare × List ℕ). x.0) (kept_carriers_from n 0 i u) ∙ ap (λ (x : List Spare × List ℕ). remove x.0 place) (kept_cut_from n 0 i s);
  world = world-with_carriers_from n 0 i u ∙ world;
  ticks = ap (λ (x : List Spare × List ℕ). x.1) (kept_carriers_from n 0 i u) ∙ ap (λ (x : List Spare × List ℕ). x.1) (kept_cut_from n 0 i s);
}
  where
    n : ℕ
    n = length (links_of s)

    c : BridgeConfig
    c = restart_config s i b

    t : State
    t = cut_from n 0 i s

    u : State
    u = replaced t i c place

    world : t.world ≡ s.world
    world = world-cut_from n 0 i s

    after : IsSoundState t
    after = Sound-cut_from n 0 i s sound

    view : (v : BridgeView) × (slice_get t.views i ≡ Some v) × (v.id ≡ b.bridge.id)
    view = shown_at t i b (core_of t after) (ap (λ (w : World). slice_get (things_of w.bridges) i) world ∙ there)

    within : i < length t.views
    within = is_within t.views i view.0 view.1

    from : AreFrom (links_of u) 0 (links_of s)
    from m l at =
        let same : 0 + m ≡ m = omega arith in
        ap (slice_get (links_of u)) same ∙ (ap (λ (w : World). slice_get (things_of w.links) m) world ∙ at)

new_as : (s : State) (i : ℕ) (b : DeclaredBridge) (place : ℕ) (o : Option DeclaredBridge) (box : Option ℕ) → IsSoundState s → slice_get (things_of s.world.bridges) i ≡ Some b → o ≡ Some b → box ≡ Some place → IsNew s (restarted_as s i o box) i b place
new_as s i b place o box sound there found boxed = subst (λ (t : State). IsNew s t i b place) (sym (λ k. restarted_as s i (found k) (boxed k))) (new_in s i b place sound there)

none_as : (s : State) (i : ℕ) (o : Option DeclaredBridge) (box : Option ℕ) → box ≡ None → restarted_as s i o box ≡ s
none_as s i None box none = refl
none_as s i (Some b) None none = refl
none_as s i (Some b) (Some place) none = absurd cc

pub restart_is_new : RestartIsNew
unfolding restarted
restart_is_new = record {
  new = λ s i b place sound there box. new_as s i b place (slice_get (things_of s.world.bridges) i) (box_at s i) sound there there box;
  spent = λ s i none. none_as s i (slice_get (things_of s.world.bridges) i) (box_at s i) none;
}

-- Bridges that a walk over links that are up joins hold the same, when the network is quiet.
use Rattle.std.proofs.Common.{◌≡◌, inl, inr, ℕ, zero, suc, ◌<◌, ◌||◌, Bool, true, false, true≢false, List, [], ◌∷◌, length, refl, sym, ap, ◌∙◌, subst, Some, slice_get, arith}
use Rattle.std.specs.FinMap.{get}
use Rattle.spb_types.specs.declared.address.LspId.{LspId}
use Rattle.spb_types.specs.declared.link.Dir.{Dir}
use Rattle.spb_types.specs.declared.link.Dir.TheVariants.{Ab, Ba}
use Rattle.spb_types.specs.Ports.{has}
use Rattle.lsdb.specs.declared.version.Version.{Version}
use Rattle.lsdb.specs.declared.version.Version.TheVariants.{Absent, Live, Dead}
use Rattle.lsdb.specs.Entry.{Entry}
use Rattle.lsdb.specs.Time.{is_live}
use Rattle.lsdb.specs.Version.{IsAtMost}
use Rattle.lsdb.specs.Database.{srm_in, version_in, version_at, any_flags}
use Rattle.lsdb.proofs.Flags.{without_flags}
use Rattle.lsdb.proofs.Order.{both_ways}
use Rattle.bridge_api.specs.View.{BridgeView, is_up_at, neighbour_at, has_flags}
use Rattle.spb_world.specs.declared.declaration.DeclaredLink.{DeclaredLink}
use Rattle.spb_world.specs.World.{IsLink}
use Rattle.network_model.specs.State.{State, links_of}
use Rattle.spb_world.specs.Links.{near_end, far_end}
use Rattle.network_model.specs.Sound.{IsSoundState, IsFloodedOrHeld, end_at}
use Rattle.network_model.specs.Copies.{HaveOneBody}
use Rattle.network_model.specs.Quiet.{IsUpTowards, IsCalm}
use Rattle.network_model.specs.Truth.{AreLinked, IsWalk, QuietIsShared}
use Rattle.spb_world.proofs.BoxLemmas.{All-get}

not_first : (b c : Bool) → (b || c) ≡ false → b ≡ false
not_first true c h = absurd (true≢false h)
not_first false c h = refl

-- without flags nothing is to be sent
unflagged : (v : BridgeView) (id : LspId) (p : ℕ) → has_flags v ≡ false → has (srm_in (get v.database id)) p ≡ false
unfolding has_flags
unflagged v id p none = (without_flags v.database (not_first (any_flags v.database) _ none) id p).0

-- so the far end of an Up port is no further behind
behind : (v : BridgeView) (p : ℕ) (w : BridgeView) (id : LspId) → has_flags v ≡ false → IsFloodedOrHeld v p w id → IsAtMost (version_at v.database id) (version_at w.database id)
behind v p w id none (inl flagged) = absurd (true≢false (sym flagged ∙ unflagged v id p none))
behind v p w id none (inr held) = held

pub one_view : (s : State) (i : ℕ) (v w : BridgeView) → slice_get s.views i ≡ Some v → slice_get s.views i ≡ Some w → v ≡ w
one_view s i v w at_v at_w = let same : Some v ≡ Some w = sym at_v ∙ at_w in cc

-- the port of a bridge is Up, and keeps a neighbour
pub record IsMet (s : State) (v : BridgeView) (p : ℕ) (j q : ℕ) : Type 0 where
  pub up : is_up_at v p ≡ true
  pub w : BridgeView
  pub there : slice_get s.views j ≡ Some w
  pub kept : neighbour_at v p ≡ Some (end_at w q)

-- at the near end of a link that is up it is so
pub met_here : (s : State) (k : ℕ) (dir : Dir) (l : DeclaredLink) (v : BridgeView) → IsCalm s → slice_get (links_of s) k ≡ Some l → l.live ≡ true → slice_get s.views (near_end dir l).bridge ≡ Some v
    → IsMet s v (near_end dir l).port (far_end dir l).bridge (far_end dir l).port
met_here s k dir l v calm at live at_v =
    let met : IsUpTowards s.views (near_end dir l) (far_end dir l) = calm.met.met k dir l at live in
    subst (λ (x : BridgeView). IsMet s x (near_end dir l).port (far_end dir l).bridge (far_end dir l).port) (one_view s (near_end dir l).bridge met.v v met.here at_v)
    (record { up = met.up; w = met.w; there = met.there; kept = met.neighbour })

one_direction : (s : State) (k : ℕ) (dir : Dir) (l : DeclaredLink) (v w : BridgeView) (id : LspId) → IsSoundState s → IsCalm s → slice_get (links_of s) k ≡ Some l → l.live ≡ true → slice_get s.views (near_end dir l).bridge ≡ Some v → slice_get s.views (far_end dir l).bridge ≡ Some w
    → IsAtMost (version_at v.database id) (version_at w.database id)
one_direction s k dir l v w id sound calm at live at_v at_w =
    let p : ℕ = (near_end dir l).port in
    behind v p w id (calm.flags (near_end dir l).bridge v at_v) ((sound.agree k dir l v w at at_v at_w).ready id (met_here s k dir l v calm at live at_v).up)

-- the two bridges at the ends of a link that is up hold the same versions
pub linked_agree : (s : State) (k : ℕ) (dir : Dir) (l : DeclaredLink) (v w : BridgeView) (id : LspId) → IsSoundState s → IsCalm s → slice_get (links_of s) k ≡ Some l → l.live ≡ true → slice_get s.views (near_end dir l).bridge ≡ Some v → slice_get s.views (far_end dir l).bridge ≡ Some w
    → version_at v.database id ≡ version_at w.database id
linked_agree s k Ab l v w id sound calm at live at_v at_w =
    both_ways (version_at v.database id) (version_at w.database id) (one_direction s k Ab l v w id sound calm at live at_v at_w) (one_direction s k Ba l w v id sound calm at live at_w at_v)
linked_agree s k Ba l v w id sound calm at live at_v at_w =
    both_ways (version_at v.database id) (version_at w.database id) (one_direction s k Ba l v w id sound calm at live at_v at_w) (one_direction s k Ab l w v id sound calm at live at_w at_v)

-- ---- there is a bridge at each place where a link ends

pub get_within : {X : Type 0} (xs : List X) (i : ℕ) → i < length xs → (x : X) × (slice_get xs i ≡ Some x)
get_within [] i h = absurd (omega arith)
get_within (x ∷ xs) zero h = (x, refl)
get_within (x ∷ xs) (suc i) h = get_within xs i (omega arith)

pub far_view : (s : State) (k : ℕ) (dir : Dir) (l : DeclaredLink) → IsSoundState s → slice_get (links_of s) k ≡ Some l → (w : BridgeView) × (slice_get s.views (far_end dir l).bridge ≡ Some w)
far_view s k Ab l sound at = get_within s.views l.b.bridge (omega (arith, (All-get (IsLink s.world.bridges) (links_of s) k l sound.world.links at).b.bridge, sound.fits.bridges))
far_view s k Ba l sound at = get_within s.views l.a.bridge (omega (arith, (All-get (IsLink s.world.bridges) (links_of s) k l sound.world.links at).a.bridge, sound.fits.bridges))

-- ---- along a walk

pub walk_agrees : (s : State) (i : ℕ) (ks : List ℕ) (j : ℕ) (v w : BridgeView) (id : LspId) → IsSoundState s → IsCalm s → slice_get s.views i ≡ Some v → slice_get s.views j ≡ Some w → IsWalk (links_of s) i ks j
    → version_at v.database id ≡ version_at w.database id
walk_agrees s i [] j v w id sound calm at_v at_w walk =
    ap (λ (x : BridgeView). version_at x.database id) (one_view s j v w (subst (λ (n : ℕ). slice_get s.views n ≡ Some v) walk at_v) at_w)
walk_agrees s i (k ∷ ks) j v w id sound calm at_v at_w walk =
    let step : AreLinked (links_of s) i k = walk.0 in
    let next = far_view s step.place step.dir step.link sound step.there in
    linked_agree s step.place step.dir step.link v next.0 id sound calm step.there step.live (ap (slice_get s.views) step.near ∙ at_v) next.1
    ∙ walk_agrees s k ks j next.0 w id sound calm (ap (slice_get s.views) (sym step.far) ∙ next.1) at_w walk.1

-- ---- what is held

version_held : (v w : BridgeView) (id : LspId) (d e : Entry) → get v.database id ≡ Some d → get w.database id ≡ Some e → version_at v.database id ≡ version_at w.database id → d.version ≡ e.version
version_held v w id d e here there same = sym (ap version_in here) ∙ (same ∙ ap version_in there)

live_body : (s : State) (i j : ℕ) (v w : BridgeView) (id : LspId) (d e : Entry) (a : Version) → HaveOneBody s → slice_get s.views i ≡ Some v → slice_get s.views j ≡ Some w → get v.database id ≡ Some d → get w.database id ≡ Some e → d.version ≡ a → e.version ≡ a → is_live a ≡ true → d.body ≡ e.body
live_body s i j v w id d e Absent one at_v at_w here there dv ev live = absurd cc
live_body s i j v w id d e (Live seq sum) one at_v at_w here there dv ev live = one i j v w id d e seq sum at_v at_w here there dv ev
live_body s i j v w id d e (Dead seq) one at_v at_w here there dv ev live = absurd cc

pub quiet_is_shared : QuietIsShared
quiet_is_shared s v w sound calm one joined =
    let versions : (id : LspId) → version_at v.database id ≡ version_at w.database id =
    λ id. walk_agrees s joined.from joined.walk joined.to v w id sound calm joined.here joined.there joined.leads in
    record {
      versions = versions;
      bodies = λ id d e here there live. live_body s joined.from joined.to v w id d e e.version one joined.here joined.there here there (version_held v w id d e here there (versions id)) refl live;
    }

-- A link that ends at a port is the way out of it, and a bridge that stands at a place is found there.
use Rattle.std.proofs.Common.{◌≡◌, ◌≢◌, ℕ, zero, suc, ◌+◌, ◌<◌, Bool, true, false, not, cond, List, [], ◌∷◌, length, map, Option, Some, None, IfSome, if◌then◌else◌, slice_get, refl, sym, ap, ◌∙◌, subst, arith, lt-ltb}
use Rattle.std.specs.List.{position, position_or_len}
use Rattle.std.proofs.lemmas.Option.{slice_get-map, slice_get_within}
use Rattle.std.specs.Option.{option_map}
use Rattle.spb_types.specs.Address.{same_system}
use Rattle.spb_types.specs.Graph.{IsAmong, IsDistinct, systems_of}
use Rattle.spb_types.specs.declared.address.SystemId.{SystemId}
use Rattle.spb_types.specs.declared.graph.GraphBridge.{GraphBridge}
use Rattle.spb_types.specs.declared.link.Dir.{Dir}
use Rattle.spb_types.specs.declared.link.Dir.TheVariants.{Ab, Ba}
use Rattle.ect_trees.proofs.Among.{same_is}
use Rattle.ect_trees.proofs.Places.{at_among}
use Rattle.spb_world.specs.declared.declaration.DeclaredBridge.{DeclaredBridge}
use Rattle.spb_world.specs.declared.declaration.DeclaredLink.{DeclaredLink}
use Rattle.link_model.specs.declared.lanes.LaneId.{LaneId}
use Rattle.spb_world.specs.World.{AllApart}
use Rattle.spb_world.specs.Links.{near_end, is_at, direction, lane_of_link, lane_out}
use Rattle.spb_world.proofs.SoundLaneIds.{at_parts, lane_of_end}

some-is : {X : Type 0} (x y : X) → Some x ≡ Some y → x ≡ y
some-is x y h = cc

-- the end of a link from which a direction leads away from a port
from-end : (l : DeclaredLink) (i p : ℕ) (a b : Bool) → is_at l.a i p ≡ a → is_at l.b i p ≡ b → (d : Dir) → (if a then Some Ab else (if b then Some Ba else None)) ≡ Some d → is_at (near_end d l) i p ≡ true
from-end l i p true b at_a at_b d e = subst (λ x. is_at (near_end x l) i p ≡ true) (some-is Ab d e) at_a
from-end l i p false true at_a at_b d e = subst (λ x. is_at (near_end x l) i p ≡ true) (some-is Ba d e) at_b
from-end l i p false false at_a at_b d e = cc

lane-in : (k : ℕ) (o : Option Dir) (lane : LaneId) → option_map (λ dir. record { link = k; dir = dir }) o ≡ Some lane → (o ≡ Some lane.dir) × (lane ≡ record { link = k; dir = lane.dir })
lane-in k None lane e = absurd cc
lane-in k (Some d) lane e = (ap (λ w. Some w.dir) (some-is _ lane e), sym (some-is _ lane e) ∙ ap (λ w. record { link = k; dir = w.dir }) (some-is _ lane e))

pub hint-holds : (links : List DeclaredLink) (k i p : ℕ) (l : DeclaredLink) (lane : LaneId) → AllApart links → l.a.bridge ≢ l.b.bridge → slice_get links k ≡ Some l → lane_of_link k l i p ≡ Some lane → lane_out links i p ≡ Some lane
hint-holds links k i p l lane apart ends at e =
    let found = lane-in k (direction l i p) lane e in
    let here = at_parts (near_end lane.dir l) i p (from-end l i p (is_at l.a i p) (is_at l.b i p) refl refl lane.dir found.0) in
    (λ j. lane_out links (sym here.0 j) (sym here.1 j)) ∙ lane_of_end links k l lane.dir apart ends at ∙ ap Some (sym found.1)

pub hint-gives : (links : List DeclaredLink) (k i p : ℕ) (l : DeclaredLink) (o : Option LaneId) → AllApart links → l.a.bridge ≢ l.b.bridge → slice_get links k ≡ Some l → o ≡ lane_of_link k l i p → IfSome o (λ lane. lane_out links i p ≡ Some lane)
hint-gives links k i p l None apart ends at e = tt
hint-gives links k i p l (Some lane) apart ends at e = hint-holds links k i p l lane apart ends at (sym e)

-- ---- bridges

-- without repeats a bridge is the first of its system id
at_first : (bs : List DeclaredBridge) (i : ℕ) (b : DeclaredBridge) (x : SystemId) → IsDistinct (systems_of (map (λ c. c.bridge) bs)) → slice_get bs i ≡ Some b → same_system b.bridge.id.system x ≡ true → position_or_len (λ c. same_system c.bridge.id.system x) bs ≡ i
at_first [] i b x d at is = absurd cc
at_first (c ∷ bs) zero b x d at is =
    let same : c ≡ b = cc in
    ap (λ t. cond (not t) (1 + position_or_len (λ e. same_system e.bridge.id.system x) bs) 0) (ap (λ e. same_system e.bridge.id.system x) same ∙ is)
at_first (c ∷ bs) (suc i) b x d at is = by (same_system c.bridge.id.system x) refl (at_first bs i b x d.1 at is)
  where
    by : (t : Bool) → same_system c.bridge.id.system x ≡ t → position_or_len (λ e. same_system e.bridge.id.system x) bs ≡ i → cond (not (same_system c.bridge.id.system x)) (1 + position_or_len (λ e. same_system e.bridge.id.system x) bs) 0 ≡ suc i
    by false e ih = ap (λ t. cond (not t) (1 + position_or_len (λ e. same_system e.bridge.id.system x) bs) 0) e ∙ omega (arith, ih)
    by true e ih =
        let one : b.bridge.id.system ≡ c.bridge.id.system = same_is b.bridge.id.system x is ∙ sym (same_is c.bridge.id.system x e) in
        let there : slice_get (systems_of (map (λ t. t.bridge) bs)) i ≡ Some b.bridge.id.system = slice_get-map (λ (t : GraphBridge). t.id.system) (map (λ t. t.bridge) bs) i ∙ ap (option_map (λ (t : GraphBridge). t.id.system)) (slice_get-map (λ (t : DeclaredBridge). t.bridge) bs i ∙ ap (option_map (λ (t : DeclaredBridge). t.bridge)) at) in
        absurd (d.0 (subst (λ t. IsAmong t (systems_of (map (λ t. t.bridge) bs))) one (at_among (systems_of (map (λ t. t.bridge) bs)) i b.bridge.id.system there)))

-- so its place is the one that is found
pub place-holds : (bs : List DeclaredBridge) (i : ℕ) (b : DeclaredBridge) (x : SystemId) → IsDistinct (systems_of (map (λ c. c.bridge) bs)) → slice_get bs i ≡ Some b → same_system b.bridge.id.system x ≡ true → position (λ c. same_system c.bridge.id.system x) bs ≡ Some i
place-holds bs i b x d at is =
    let first = at_first bs i b x d at is in
    let within : i < length bs = slice_get_within bs i b at in
    ap (λ t. cond t (Some (position_or_len (λ c. same_system c.bridge.id.system x) bs)) None) (lt-ltb (position_or_len (λ c. same_system c.bridge.id.system x) bs) (length bs) (omega (arith, within, first))) ∙ ap Some first

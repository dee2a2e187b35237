-- A group frame on its way through a network that was quiet when it entered: the bridges that have it served so far say
-- over which links it comes, and what left.
use Rattle.std.specs.Prelude.{◌≡◌, ℕ, List, [], ◌∷◌, count_by, Bool, true, false, not, ◌&&◌, Some, slice_get, if◌then◌else◌}
use Rattle.std.specs.List.{AllByRecursion}
use Rattle.spb_types.specs.Ports.{has}
use Rattle.spb_types.specs.Tables.{unicast_in, group_in}
use Rattle.spb_types.specs.declared.address.Mac.{Mac}
use Rattle.spb_types.specs.declared.link.Dir.{Dir}
use Rattle.spb_types.specs.declared.service.Isid.{Isid}
use Rattle.spb_types.specs.declared.service.Vid.{Vid}
use Rattle.itag_frames.specs.Backbone.{backbone_bytes}
use Rattle.link_model.specs.Lane.{Frame}
use Rattle.bridge_api.specs.View.{BridgeView, with_drops}
use Rattle.bridge_api.specs.Customers.{with_learned}
use Rattle.network_model.specs.declared.answer.Out.{Out}
use Rattle.spb_world.specs.declared.declaration.DeclaredLink.{DeclaredLink}
use Rattle.spb_world.specs.World.{World, names_of, things_of, wired_tables}
use Rattle.network_model.specs.State.{State, links_of, lane_at}
use Rattle.spb_world.specs.Links.{near_end, far_end}
use Rattle.network_model.specs.Truth.{IsWalk}
use Rattle.network_model.specs.Once.{IsReceivingAt, IsRight, left_at}

-- ---- the frame and its tree

-- a customer's frame that entered at a port of the bridge at a place; the port is attached to an I-SID in a VID, and in
-- the backbone the frame goes from the address of that bridge to the group address
pub record Journey : Type 0 where
  pub bridge : ℕ
  pub port : ℕ
  pub isid : Isid
  pub vid : Vid
  pub to : Mac
  pub from : Mac
  pub frame : List ℕ

-- the frame of the backbone that carries it
abbrev pub carrier_of : Journey → Frame
carrier_of j = backbone_bytes j.to j.from j.vid j.isid j.frame

-- whether the wired row for its address leads over a link: the link is up, and at a port of the row of its near end
abbrev pub leads_over : World → Journey → Dir → DeclaredLink → Bool
leads_over w j dir l =
    l.live && has (group_in (wired_tables w (near_end dir l).bridge).group j.vid j.to) (near_end dir l).port

-- each bridge of the list is led to from the one before it, the first of them from the bridge at place m; the last is
-- at place c
pub record IsLed (w : World) (j : Journey) (m c : ℕ) : Type 0 where
  pub place : ℕ
  pub dir : Dir
  pub link : DeclaredLink
  pub there : slice_get (things_of w.links) place ≡ Some link
  pub leads : leads_over w j dir link ≡ true
  pub near : (near_end dir link).bridge ≡ m
  pub far : (far_end dir link).bridge ≡ c

abbrev pub LeadsDown : World → Journey → ℕ → List ℕ → ℕ → Type 0
LeadsDown w j m [] c = m ≡ c
LeadsDown w j m (k ∷ ks) c = IsLed w j m k × LeadsDown w j k ks c

-- The links over which the rows lead make a tree from the bridge where the frame entered: to no bridge they lead over
-- two links, and to that one over none. Each bridge takes frames from the source over its link of the tree. And the
-- tree leads down to each bridge with a receiving port of the service that a walk joins to the first.
pub record IsTree (w : World) (j : Journey) : Type 0 where
  pub one : (k n : ℕ) (d e : Dir) (l m : DeclaredLink) → slice_get (things_of w.links) k ≡ Some l
      → slice_get (things_of w.links) n ≡ Some m → leads_over w j d l ≡ true → leads_over w j e m ≡ true
      → (far_end d l).bridge ≡ (far_end e m).bridge → (k ≡ n) × (d ≡ e)
  pub root : (k : ℕ) (d : Dir) (l : DeclaredLink) → slice_get (things_of w.links) k ≡ Some l
      → leads_over w j d l ≡ true → (far_end d l).bridge ≡ j.bridge → ⊥
  pub takes : (k : ℕ) (d : Dir) (l : DeclaredLink) → slice_get (things_of w.links) k ≡ Some l
      → leads_over w j d l ≡ true
      → unicast_in (wired_tables w (far_end d l).bridge).unicast j.vid j.from ≡ Some (far_end d l).port
  pub down : (c q : ℕ) (walk : List ℕ) → IsReceivingAt w c q j.isid → IsWalk (things_of w.links) j.bridge walk c
      → (ks : List ℕ) × LeadsDown w j j.bridge ks c

-- ---- where it is

-- whether it is on its way over a link: the row leads there from a bridge that has served the frame to one that hasn't
abbrev pub comes_over : World → Journey → (ℕ → Bool) → Dir → DeclaredLink → Bool
comes_over w j served dir l =
    leads_over w j dir l && (served (near_end dir l).bridge && not (served (far_end dir l).bridge))

-- the bridge has learned addresses and counted drops since it was u, and else it is as it was
abbrev pub HasLearned : BridgeView → BridgeView → Type 0
HasLearned u v = v ≡ with_drops v.drops (with_learned v.learned u)

-- Since the frame entered, the network `start` has become s, and these frames left. Bridges learned addresses and
-- counted drops, and else they are as they were. A lane has the frame where it comes over the link, and else
-- nothing. A bridge has served it only after the one that leads to it, and so a walk joins it to the first. What
-- left has left where it had to, once at each such port of the bridges that have served it.
pub record IsUnderWay (start : State) (j : Journey) (served : ℕ → Bool) (s : State) (outs : List Out) : Type 0 where
  pub world : s.world ≡ start.world
  pub views : (i : ℕ) (v : BridgeView) → slice_get s.views i ≡ Some v
      → (u : BridgeView) × (slice_get start.views i ≡ Some u) × HasLearned u v
  pub lanes : (k : ℕ) (dir : Dir) (l : DeclaredLink) → slice_get (links_of start) k ≡ Some l
      → lane_at s k dir ≡ (if comes_over start.world j served dir l then carrier_of j ∷ [] else [])
  pub first : served j.bridge ≡ true
  pub order : (k : ℕ) (dir : Dir) (l : DeclaredLink) → slice_get (links_of start) k ≡ Some l
      → leads_over start.world j dir l ≡ true → served (far_end dir l).bridge ≡ true
      → served (near_end dir l).bridge ≡ true
  pub joined : (c : ℕ) → served c ≡ true → (walk : List ℕ) × IsWalk (links_of start) j.bridge walk c
  pub right : AllByRecursion (IsRight start.world j.bridge j.port j.frame) outs
  pub once : (c q : ℕ) (name : List ℕ) → slice_get (names_of start.world.bridges) c ≡ Some name
      → served c ≡ true → IsReceivingAt start.world c q j.isid → ((c ≡ j.bridge) × (q ≡ j.port) → ⊥)
      → count_by (left_at name q) outs ≡ 1
  pub none : (c q : ℕ) (name : List ℕ) → slice_get (names_of start.world.bridges) c ≡ Some name
      → served c ≡ false → count_by (left_at name q) outs ≡ 0

-- When a network is quiet: three conditions, each as a test and as it reads.
use Rattle.std.specs.Prelude.{◌≡◌, ◌↔◌, ℕ, ◌+◌, List, [], ◌∷◌, ◌++◌, length, Bool, true, false, not, ◌&&◌, ◌||◌, ◌==◌, Option, Some, None, slice_get, if◌then◌else◌}
use Rattle.std.specs.List.{list_all}
use Rattle.spb_types.specs.declared.link.Dir.{Dir}
use Rattle.link_model.specs.declared.lanes.LinkLanes.{LinkLanes}
use Rattle.link_model.specs.Lanes.{lane_of}
use Rattle.adjacency.specs.Hearing.{End, same_end}
use Rattle.bridge_api.specs.declared.port.BridgePort.{BridgePort}
use Rattle.bridge_api.specs.View.{BridgeView, is_port_up, is_up_at, neighbour_at, has_flags}
use Rattle.spb_world.specs.declared.declaration.DeclaredLink.{DeclaredLink}
use Rattle.spb_world.specs.declared.declaration.LinkEnd.{LinkEnd}
use Rattle.network_model.specs.State.{State, links_of}
use Rattle.spb_world.specs.Links.{near_end, far_end}
use Rattle.network_model.specs.Sound.{end_at, ends_live_link}

-- ---- q1: both ends of each link that is up are Up with each other (RFC 5303, 3.2), and no other port is Up

-- the neighbour that is kept is this end
abbrev pub is_end : Option End → End → Bool
is_end None e = false
is_end (Some n) e = same_end n e

-- the port of the first bridge is Up, and keeps that of the second as its neighbour; there are both bridges
abbrev pub is_up_with : Option BridgeView → ℕ → Option BridgeView → ℕ → Bool
is_up_with None p w q = false
is_up_with (Some v) p None q = false
is_up_with (Some v) p (Some w) q = is_up_at v p && is_end (neighbour_at v p) (end_at w q)

-- one end of a link is Up with another
abbrev pub is_up_towards : List BridgeView → LinkEnd → LinkEnd → Bool
is_up_towards views a b = is_up_with (slice_get views a.bridge) a.port (slice_get views b.bridge) b.port

-- both ends of a link that is up are Up with each other
abbrev pub is_met : List BridgeView → DeclaredLink → Bool
is_met views l = not l.live || (is_up_towards views l.a l.b && is_up_towards views l.b l.a)

-- of the ports of the bridge at place i, from number p on, only those at links that are up are Up
abbrev pub are_ports_linked : List DeclaredLink → ℕ → ℕ → List BridgePort → Bool
are_ports_linked links i p [] = true
are_ports_linked links i p (port ∷ ports) =
    (not (is_port_up port) || ends_live_link links i p) && are_ports_linked links i (p + 1) ports

-- so it is at each bridge, from place i on
abbrev pub are_all_linked : List DeclaredLink → ℕ → List BridgeView → Bool
are_all_linked links i [] = true
are_all_linked links i (v ∷ views) = are_ports_linked links i 1 v.ports && are_all_linked links (i + 1) views

unfoldable pub holds_q1 : State → Bool
holds_q1 s = list_all (is_met s.views) (links_of s) && are_all_linked (links_of s) 0 s.views

-- ---- q2: every lane is empty

-- no frame is on its way over a link
abbrev pub is_idle : LinkLanes → Bool
is_idle lanes = (length lanes.ab == 0) && (length lanes.ba == 0)

unfoldable pub holds_q2 : State → Bool
holds_q2 s = list_all is_idle s.lanes

-- ---- q3: at no bridge an SRM or SSN flag stands (ISO/IEC 10589, 7.3.15), or CSNPs are due

unfoldable pub holds_q3 : State → Bool
holds_q3 s = list_all (λ v. not (has_flags v)) s.views

-- ---- quiet

-- the number of a condition that fails
abbrev pub unless_holds : ℕ → Bool → List ℕ
unless_holds n b = if b then [] else n ∷ []

-- the numbers of the conditions that fail, in ascending order
unfoldable pub failing : State → List ℕ
failing s = unless_holds 1 (holds_q1 s) ++ unless_holds 2 (holds_q2 s) ++ unless_holds 3 (holds_q3 s)

-- none fails
abbrev pub IsQuiet : State → Type 0
IsQuiet s = failing s ≡ []

-- ---- how the conditions read

-- the bridges at two ends of a link: the port of the first is Up, and its neighbour is the second end
pub record IsUpTowards (views : List BridgeView) (a b : LinkEnd) : Type 0 where
  pub v : BridgeView
  pub w : BridgeView
  pub here : slice_get views a.bridge ≡ Some v
  pub there : slice_get views b.bridge ≡ Some w
  pub up : is_up_at v a.port ≡ true
  pub neighbour : neighbour_at v a.port ≡ Some (end_at w b.port)

-- q1: each end of a link that is up is Up with the other, and each port that is Up is at such a link
pub record HaveMet (s : State) : Type 0 where
  pub met : (k : ℕ) (dir : Dir) (l : DeclaredLink) → slice_get (links_of s) k ≡ Some l → l.live ≡ true
      → IsUpTowards s.views (near_end dir l) (far_end dir l)
  pub others : (i : ℕ) (v : BridgeView) (p : ℕ) → slice_get s.views i ≡ Some v → is_up_at v p ≡ true
      → ends_live_link (links_of s) i p ≡ true

-- q2: each lane is empty
abbrev pub AreEmpty : State → Type 0
AreEmpty s = (k : ℕ) (dir : Dir) → lane_of s.lanes k dir ≡ []

-- q3: no bridge has a flag
abbrev pub HaveNoFlags : State → Type 0
HaveNoFlags s = (i : ℕ) (v : BridgeView) → slice_get s.views i ≡ Some v → has_flags v ≡ false

-- all three
pub record IsCalm (s : State) : Type 0 where
  pub met : HaveMet s
  pub empty : AreEmpty s
  pub flags : HaveNoFlags s

-- each condition holds exactly where what it reads like does
pub record SaysWhatItReadsLike (s : State) : Type 0 where
  pub q1 : (holds_q1 s ≡ true) ↔ HaveMet s
  pub q2 : (holds_q2 s ≡ true) ↔ AreEmpty s
  pub q3 : (holds_q3 s ≡ true) ↔ HaveNoFlags s
  pub quiet : IsQuiet s ↔ IsCalm s

abbrev pub QuietSays : Type 0
QuietSays = (s : State) → SaysWhatItReadsLike s

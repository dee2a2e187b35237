-- The neighbours that a bridge says in a quiet network: the far ends of the links that are up.
use Rattle.std.proofs.Common.{◌≡◌, ℕ, zero, suc, ◌<◌, ◌≤◌, ◌-◌, Bool, true, false, List, [], ◌∷◌, length, Option, Some, None, slice_get, find, nat_le, if◌then◌else◌, refl, sym, ap, ◌∙◌, subst, arith}
use Rattle.std.specs.Option.{option_map, option_map_or, option_and_then}
use Rattle.std.proofs.lemmas.Option.{slice_get-map, slice_get_within}
use Rattle.std.proofs.lemmas.Bool.Decides.{nat_tests}
use Rattle.spb_types.specs.Address.{same_system}
use Rattle.spb_types.specs.declared.address.SystemId.{SystemId}
use Rattle.spb_types.specs.declared.limits.TheConstants.{GREATEST_METRIC}
use Rattle.spb_types.specs.declared.link.Dir.{Dir}
use Rattle.spb_types.specs.declared.link.Dir.TheVariants.{Ab, Ba}
use Rattle.spb_tlvs.specs.declared.neighbours.Neighbour.{Neighbour}
use Rattle.link_model.specs.declared.lanes.LaneId.{LaneId}
use Rattle.ect_trees.proofs.Among.{same_is, same_self}
use Rattle.spb_content.specs.Graph.{entry_for, usable}
use Rattle.spb_content.specs.Local.{said_by}
use Rattle.spb_content.proofs.Members as members
use Rattle.spb_content.proofs.Links.{entry_is}
use Rattle.bridge_api.specs.declared.port.BridgePort.{BridgePort}
use Rattle.bridge_api.specs.View.{BridgeView, metrics_of, neighbour_at}
use Rattle.bridge_api.specs.Own.{local_of}
use Rattle.bridge_api.specs.Graph.{IsUpNeighbour}
use Rattle.bridge_laws.proofs.SaidNeighbours.{says_its_neighbours}
use Rattle.adjacency.specs.Hearing.{End}
use Rattle.spb_world.specs.declared.declaration.DeclaredBridge.{DeclaredBridge}
use Rattle.spb_world.specs.declared.declaration.DeclaredLink.{DeclaredLink}
use Rattle.spb_world.specs.World.{Bridges, IsEnd, IsLink, things_of, system_at}
use Rattle.network_model.specs.State.{State, links_of}
use Rattle.spb_world.specs.Links.{near_end, far_end, is_live, lane_out}
use Rattle.network_model.specs.Sound.{IsSoundState, IsShown, metric_at, ends_live_link}
use Rattle.network_model.specs.Quiet.{IsCalm}
use Rattle.spb_world.proofs.SoundLaneIds.{LeadsFrom, lane_leads}
use Rattle.network_model.proofs.Linked.{IsMet, met_here}
use Rattle.network_model.proofs.Wires.{IsLinkOf, find_only, is_link, links_one}

-- ---- the bridge that is declared at a place

pub record IsDeclaredAt (bs : Bridges) (i : ℕ) : Type 0 where
  pub thing : DeclaredBridge
  pub there : slice_get (things_of bs) i ≡ Some thing
  pub system : system_at bs i ≡ thing.bridge.id.system

pub declared_at : (bs : Bridges) (i : ℕ) → i < length bs → IsDeclaredAt bs i
declared_at [] i h = absurd (omega arith)
declared_at (b ∷ bs) zero h = record { thing = b.1; there = refl; system = refl }
declared_at (b ∷ bs) (suc i) h = let r = declared_at bs i (omega arith) in record { thing = r.thing; there = r.there; system = r.system }

pub place_low : (s : State) (i : ℕ) (v : BridgeView) → IsSoundState s → slice_get s.views i ≡ Some v → i < length s.world.bridges
place_low s i v sound at = omega (arith, slice_get_within s.views i v at, sound.fits.bridges)

pub shown_at : (s : State) (i : ℕ) (v : BridgeView) → IsSoundState s → slice_get s.views i ≡ Some v → (d : IsDeclaredAt s.world.bridges i) × IsShown s.world.vids d.thing v
shown_at s i v sound at =
    let d : IsDeclaredAt s.world.bridges i = declared_at s.world.bridges i (place_low s i v sound at) in
    (d, sound.shown i v d.thing at d.there)

pub system_is : (s : State) (i : ℕ) (v : BridgeView) → IsSoundState s → slice_get s.views i ≡ Some v → system_at s.world.bridges i ≡ v.id.system
system_is s i v sound at = let d = shown_at s i v sound at in d.0.system ∙ ap (λ k. k.system) (sym d.1.id)

-- ---- the neighbour over a link

abbrev pub entry_over : Bridges → Dir → DeclaredLink → Neighbour
entry_over bs dir l = record { system = system_at bs (far_end dir l).bridge; metric = (near_end dir l).metric; port = (near_end dir l).port }

metric_is : (v : BridgeView) (p m : ℕ) → metric_at v p ≡ Some m → slice_get (metrics_of v.ports) (p - 1) ≡ Some m
metric_is v p m h = by (nat_le 1 p) h
  where
    by : (b : Bool) → option_map (λ port. port.metric) (if b then slice_get v.ports (p - 1) else None) ≡ Some m → slice_get (metrics_of v.ports) (p - 1) ≡ Some m
    by true k = slice_get-map (λ (port : BridgePort). port.metric) v.ports (p - 1) ∙ k
    by false k = absurd cc

-- it is said
link_said : (s : State) (k : ℕ) (dir : Dir) (l : DeclaredLink) (v : BridgeView) → IsSoundState s → IsCalm s → slice_get (links_of s) k ≡ Some l → l.live ≡ true → slice_get s.views (near_end dir l).bridge ≡ Some v
    → IsUpNeighbour v (entry_over s.world.bridges dir l)
link_said s k dir l v sound calm at live at_v =
    let met : IsMet s v (near_end dir l).port (far_end dir l).bridge (far_end dir l).port = met_here s k dir l v calm at live at_v in
    record {
      up = met.up;
      circuit = (far_end dir l).port;
      kept = met.kept ∙ ap (λ (x : SystemId). Some (x, (far_end dir l).port)) (sym (system_is s (far_end dir l).bridge met.w sound met.there));
      metric = metric_is v (near_end dir l).port (near_end dir l).metric (sound.metrics k dir l v at at_v);
    }

-- what a bridge at a place says of a neighbour is said over such a link
pub record IsOver (s : State) (i : ℕ) (n : Neighbour) : Type 0 where
  pub place : ℕ
  pub dir : Dir
  pub link : DeclaredLink
  pub there : slice_get (links_of s) place ≡ Some link
  pub live : link.live ≡ true
  pub near : (near_end dir link).bridge ≡ i
  pub is : n ≡ entry_over s.world.bridges dir link

record HasLiveLane (links : List DeclaredLink) (i p : ℕ) : Type 0 where
  lane : LaneId
  leads : LeadsFrom links i p lane.link lane.dir
  live : leads.link.live ≡ true

has_live_lane : (links : List DeclaredLink) (i p : ℕ) → ends_live_link links i p ≡ true → HasLiveLane links i p
has_live_lane links i p h = by (lane_out links i p) refl h
  where
    by : (o : Option LaneId) → lane_out links i p ≡ o → option_map_or (λ lane. is_live links lane.link) o false ≡ true → HasLiveLane links i p
    by None out live = absurd cc
    by (Some lane) out live =
        let leads : LeadsFrom links i p lane.link lane.dir = lane_leads links i p lane out in
        record { lane = lane; leads = leads; live = ap (λ (o : Option DeclaredLink). option_map_or (λ l. l.live) o false) (sym leads.there) ∙ live }

said_over : (s : State) (i : ℕ) (v : BridgeView) (n : Neighbour) → IsSoundState s → IsCalm s → slice_get s.views i ≡ Some v → IsUpNeighbour v n → IsOver s i n
said_over s i v n sound calm at said =
    let found : HasLiveLane (links_of s) i n.port = has_live_lane (links_of s) i n.port (calm.met.others i v n.port at said.up) in
    let k : ℕ = found.lane.link in
    let dir : Dir = found.lane.dir in
    let l : DeclaredLink = found.leads.link in
    let at_v : slice_get s.views (near_end dir l).bridge ≡ Some v = ap (slice_get s.views) found.leads.bridge ∙ at in
    let over : IsUpNeighbour v (entry_over s.world.bridges dir l) = link_said s k dir l v sound calm found.leads.there found.live at_v in
    record {
      place = k;
      dir = dir;
      link = l;
      there = found.leads.there;
      live = found.live;
      near = found.leads.bridge;
      is = same_neighbour v n (entry_over s.world.bridges dir l) said over (sym found.leads.port);
    }
  where
    same_neighbour : (v : BridgeView) (n m : Neighbour) → IsUpNeighbour v n → IsUpNeighbour v m → n.port ≡ m.port → n ≡ m
    same_neighbour v n m p q port =
        let ends : ◌≡◌ {A = Option End} (Some (n.system, p.circuit)) (Some (m.system, q.circuit)) = sym p.kept ∙ (ap (neighbour_at v) port ∙ q.kept) in
        let end : ◌≡◌ {A = End} (n.system, p.circuit) (m.system, q.circuit) = cc in
        let system : n.system ≡ m.system = ap (λ (e : End). e.0) end in
        let metrics : Some n.metric ≡ Some m.metric = sym p.metric ∙ (ap (λ (k : ℕ). slice_get (metrics_of v.ports) (k - 1)) port ∙ q.metric) in
        let metric : n.metric ≡ m.metric = cc in
        λ i. record { system = system i; metric = metric i; port = port i }

-- ---- the entry for a system

usable_is : (n : Neighbour) → 1 ≤ n.metric → n.metric ≤ GREATEST_METRIC → usable n ≡ Some n
usable_is n low high =
    let a : nat_le 1 n.metric ≡ true = grind (arith, nat_tests) in
    let b : nat_le n.metric GREATEST_METRIC ≡ true = grind (arith, nat_tests) in
    rw (a, b) refl

near_end_is : (bs : Bridges) (dir : Dir) (l : DeclaredLink) → IsLink bs l → IsEnd bs (near_end dir l)
near_end_is bs Ab l is = is.a
near_end_is bs Ba l is = is.b

-- where a link that is up leads to it, the entry is the one over that link
pub entry_linked : (s : State) (v : BridgeView) (y : SystemId) → IsSoundState s → IsCalm s → (p : IsLinkOf s.world v.id.system y) → slice_get s.views (near_end p.dir p.link).bridge ≡ Some v
    → entry_for y (said_by (local_of v)) ≡ Some (entry_over s.world.bridges p.dir p.link)
entry_linked s v y sound calm p at =
    let n : Neighbour = entry_over s.world.bridges p.dir p.link in
    let end : IsEnd s.world.bridges (near_end p.dir p.link) = near_end_is s.world.bridges p.dir p.link (is_link s.world sound.world p.place p.link p.there) in
    let first : find (λ m. same_system m.system y) (local_of v).neighbours ≡ Some n =
    find_only (λ (m : Neighbour). same_system m.system y) (local_of v).neighbours n
    (members.has_from_contains n (local_of v).neighbours ((says_its_neighbours v n).1 (link_said s p.place p.dir p.link v sound calm p.there p.live at)))
    (subst (λ z. same_system z y ≡ true) (sym p.far) (same_self y))
    (λ m h t.
    let o : IsOver s (near_end p.dir p.link).bridge m = said_over s (near_end p.dir p.link).bridge v m sound calm at ((says_its_neighbours v m).0 (members.contains_from_has m (local_of v).neighbours h)) in
    let q : IsLinkOf s.world v.id.system y = record {
      place = o.place;
      dir = o.dir;
      link = o.link;
      there = o.there;
      live = o.live;
      near = ap (system_at s.world.bridges) o.near ∙ p.near;
      far = ap (λ (x : Neighbour). x.system) (sym o.is) ∙ same_is m.system y t;
    } in
    let one = links_one s.world v.id.system y sound.world q p in
    o.is ∙ (λ j. entry_over s.world.bridges (one.dir j) (one.link j))) in
    ap (option_and_then usable) first ∙ usable_is n end.metric_low end.metric_high

-- and where an entry stands, such a link leads there
pub entry_over_link : (s : State) (i : ℕ) (v : BridgeView) (y : SystemId) (n : Neighbour) → IsSoundState s → IsCalm s → slice_get s.views i ≡ Some v → entry_for y (said_by (local_of v)) ≡ Some n → IsLinkOf s.world v.id.system y
entry_over_link s i v y n sound calm at h =
    let e = entry_is y (said_by (local_of v)) n h in
    let o : IsOver s i n = said_over s i v n sound calm at ((says_its_neighbours v n).0 (members.contains_from_has n (local_of v).neighbours e.listed)) in
    record {
      place = o.place;
      dir = o.dir;
      link = o.link;
      there = o.there;
      live = o.live;
      near = ap (system_at s.world.bridges) o.near ∙ system_is s i v sound at;
      far = ap (λ (x : Neighbour). x.system) (sym o.is) ∙ e.system;
    }

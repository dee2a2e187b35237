-- The links that a bridge reads in a quiet network are those of the wiring.
use Rattle.std.proofs.Common.{◌≡◌, ◌≢◌, ℕ, Bool, true, false, true≢false, List, [], ◌∷◌, ◌++◌, Option, Some, None, max, find, slice_get, if◌then◌else◌, refl, sym, ap, ◌∙◌, subst, arith}
use Rattle.std.specs.Option.{option_map, option_and_then}
use Rattle.spb_types.specs.Address.{same_system}
use Rattle.spb_types.specs.Graph.{joins, port_at}
use Rattle.spb_types.specs.declared.address.SystemId.{SystemId}
use Rattle.spb_types.specs.declared.graph.Edge.{Edge}
use Rattle.spb_types.specs.declared.link.Dir.{Dir}
use Rattle.spb_types.specs.declared.link.Dir.TheVariants.{Ab, Ba}
use Rattle.spb_tlvs.specs.declared.neighbours.Neighbour.{Neighbour}
use Rattle.ect_trees.proofs.Among.{same_self}
use Rattle.ect_trees.proofs.Joining.{cost_among_find, port_among_find}
use Rattle.spb_content.specs.Graph.{Contents, said_of, entry_for, entry_said, both, link_said}
use Rattle.spb_content.specs.Local.{said_by}
use Rattle.spb_content.proofs.Links.{apart_is, link_from}
use Rattle.bridge_api.specs.View.{BridgeView}
use Rattle.bridge_api.specs.Own.{local_of}
use Rattle.bridge_api.specs.Graph.{contents_of}
use Rattle.spb_world.specs.declared.declaration.DeclaredLink.{DeclaredLink}
use Rattle.spb_world.specs.declared.declaration.LinkEnd.{LinkEnd}
use Rattle.spb_world.specs.World.{Bridges, IsLink, edge_of, system_at, world_graph}
use Rattle.network_model.specs.State.{State, links_of}
use Rattle.spb_world.specs.Links.{near_end, far_end}
use Rattle.network_model.specs.Sound.{IsSoundState}
use Rattle.network_model.specs.Truth.{IsAtRest, AreLinked, IsWalk, AreJoined, IsThere, QuietReadsLinks}
use Rattle.spb_world.proofs.ValidLemmas.{place_from}
use Rattle.spb_world.proofs.SoundLaneIds.{turned, near-turned}
use Rattle.network_model.proofs.Linked.{far_view}
use Rattle.network_model.proofs.QuietRead.{quiet_is_read}
use Rattle.network_model.proofs.Wires.{IsLinkOf, IsEdgeBetween, near_is, far_is, is_link, edge_found, edge_sought}
use Rattle.network_model.proofs.Spoken.{place_low, system_is, entry_over, entry_linked, entry_over_link}

-- ---- the far end of a link is joined too

pub walk_on : (links : List DeclaredLink) (i : ℕ) (ks : List ℕ) (j k : ℕ) → IsWalk links i ks j → AreLinked links j k → IsWalk links i (ks ++ k ∷ []) k
walk_on links i [] j k walk step = (subst (λ n. AreLinked links n k) (sym walk) step, refl)
walk_on links i (n ∷ ks) j k walk step = (walk.0, walk_on links n ks j k walk.1 step)

near_place : (s : State) (i : ℕ) (v : BridgeView) (y : SystemId) → IsSoundState s → slice_get s.views i ≡ Some v → (p : IsLinkOf s.world v.id.system y) → (near_end p.dir p.link).bridge ≡ i
near_place s i v y sound at p =
    place_from s.world.bridges sound.world.systems (near_end p.dir p.link).bridge i (near_is s.world sound.world p.dir p.link (is_link s.world sound.world p.place p.link p.there)) (place_low s i v sound at)
    (p.near ∙ sym (system_is s i v sound at))

-- its far end
pub far_there : (s : State) (v w : BridgeView) (y : SystemId) → IsSoundState s → AreJoined s v w → IsLinkOf s.world w.id.system y → IsThere s v y
far_there s v w y sound joined p =
    let far = far_view s p.place p.dir p.link sound p.there in
    let place : ℕ = (far_end p.dir p.link).bridge in
    let step : AreLinked (links_of s) joined.to place =
    record { place = p.place; dir = p.dir; link = p.link; there = p.there; live = p.live; near = near_place s joined.to w y sound joined.there p; far = refl } in
    record {
      w = far.0;
      joined = record { from = joined.from; to = place; here = joined.here; there = far.1; walk = joined.walk ++ place ∷ []; leads = walk_on (links_of s) joined.from joined.walk joined.to place joined.leads step };
      is = sym (system_is s place far.0 sound far.1) ∙ p.far;
    }

-- ---- a link between two systems

far-turned : (dir : Dir) (l : DeclaredLink) → far_end (turned dir) l ≡ near_end dir l
far-turned Ab l = refl
far-turned Ba l = refl

-- a link from its other end
back_link : (s : State) (x y : SystemId) → IsLinkOf s.world x y → IsLinkOf s.world y x
back_link s x y p = record {
  place = p.place;
  dir = turned p.dir;
  link = p.link;
  there = p.there;
  live = p.live;
  near = ap (λ (e : LinkEnd). system_at s.world.bridges e.bridge) (near-turned p.dir p.link) ∙ p.far;
  far = ap (λ (e : LinkEnd). system_at s.world.bridges e.bridge) (far-turned p.dir p.link) ∙ p.near;
}

ends_apart : (bs : Bridges) (dir : Dir) (l : DeclaredLink) → IsLink bs l → (near_end dir l).bridge ≢ (far_end dir l).bridge
ends_apart bs Ab l is e = is.apart e
ends_apart bs Ba l is e = is.apart (sym e)

pub systems_apart : (s : State) (x y : SystemId) → IsSoundState s → IsLinkOf s.world x y → same_system x y ≡ false
systems_apart s x y sound p =
    let is = is_link s.world sound.world p.place p.link p.there in
    apart_is x y (λ e. ends_apart s.world.bridges p.dir p.link is
    (place_from s.world.bridges sound.world.systems (near_end p.dir p.link).bridge (far_end p.dir p.link).bridge (near_is s.world sound.world p.dir p.link is) (far_is s.world sound.world p.dir p.link is) (p.near ∙ (e ∙ sym p.far))))

-- what one end says, as another reads it
entry_read : (s : State) (v w : BridgeView) (x y : SystemId) → IsAtRest s → AreJoined s v w → w.id.system ≡ x → (p : IsLinkOf s.world x y) → entry_said (contents_of v) x y ≡ Some (entry_over s.world.bridges p.dir p.link)
entry_read s v w x y rest joined is p =
    let q : IsLinkOf s.world w.id.system y = record { place = p.place; dir = p.dir; link = p.link; there = p.there; live = p.live; near = p.near ∙ sym is; far = p.far } in
    let at : slice_get s.views (near_end q.dir q.link).bridge ≡ Some w = ap (slice_get s.views) (near_place s joined.to w y rest.sound joined.there q) ∙ joined.there in
    let said : said_of (contents_of v) x ≡ Some (said_by (local_of w)) = subst (λ z. said_of (contents_of v) z ≡ Some (said_by (local_of w))) is (quiet_is_read s v w rest joined) in
    ap (option_and_then (entry_for y)) said ∙ entry_linked s w y rest.sound rest.calm q at

link_read : (s : State) (v w : BridgeView) (y : SystemId) → IsAtRest s → AreJoined s v w → (p : IsLinkOf s.world w.id.system y) → link_said (contents_of v) w.id.system y ≡ Some (entry_over s.world.bridges p.dir p.link, entry_over s.world.bridges (turned p.dir) p.link)
unfolding back_link
link_read s v w y rest joined p =
    let far : IsThere s v y = far_there s v w y rest.sound joined p in
    link_from (contents_of v) w.id.system y (entry_over s.world.bridges p.dir p.link) (entry_over s.world.bridges (turned p.dir) p.link)
    (systems_apart s w.id.system y rest.sound p)
    (entry_read s v w w.id.system y rest joined refl p)
    (entry_read s v far.w y w.id.system rest far.joined far.is (back_link s w.id.system y p))

-- its cost and its port are those of the edge
cost_is : (bs : Bridges) (dir : Dir) (l : DeclaredLink) → max (entry_over bs dir l).metric (entry_over bs (turned dir) l).metric ≡ (edge_of bs l).cost
cost_is bs Ab l = refl
cost_is bs Ba l = omega arith

pub port_is : (s : State) (x y : SystemId) (dir : Dir) (l : DeclaredLink) → system_at s.world.bridges (near_end dir l).bridge ≡ x → system_at s.world.bridges (far_end dir l).bridge ≡ y → same_system x y ≡ false → (near_end dir l).port ≡ port_at (edge_of s.world.bridges l) x
port_is s x y Ab l near far apart = sym (ap (λ b. if b then l.a.port else l.b.port) (subst (λ z. same_system (system_at s.world.bridges l.a.bridge) z ≡ true) near (same_self (system_at s.world.bridges l.a.bridge))))
port_is s x y Ba l near far apart =
    sym (ap (λ b. if b then l.a.port else l.b.port) (ap (λ z. same_system z x) far ∙ apart_is y x (λ e. true≢false (sym (same_self x) ∙ (ap (same_system x) (sym e) ∙ apart)))))

-- ---- where there is none

link_none : (list : Contents) (x y : SystemId) → entry_said list x y ≡ None → link_said list x y ≡ None
link_none list x y none = by (same_system x y)
  where
    by : (b : Bool) → (if b then None else both (entry_said list x y) (entry_said list y x)) ≡ None
    by true = refl
    by false = ap (λ o. both o (entry_said list y x)) none

no_entry : (s : State) (w : BridgeView) (y : SystemId) (i : ℕ) → IsAtRest s → slice_get s.views i ≡ Some w → find (λ e. joins e w.id.system y) (world_graph s.world).edges ≡ None → entry_for y (said_by (local_of w)) ≡ None
no_entry s w y i rest at none = by (entry_for y (said_by (local_of w))) refl
  where
    by : (o : Option Neighbour) → entry_for y (said_by (local_of w)) ≡ o → o ≡ None
    by None h = refl
    by (Some n) h =
        let found = edge_found s.world w.id.system y rest.sound.world (entry_over_link s i w y n rest.sound rest.calm at h) in
        let wrong : Some _ ≡ None = sym found ∙ none in absurd cc

-- ---- every link

record IsRead (s : State) (v : BridgeView) (x y : SystemId) (o : Option Edge) : Type 0 where
  cost : option_map (λ l. max l.0.metric l.1.metric) (link_said (contents_of v) x y) ≡ option_map (λ e. e.cost) o
  port : option_map (λ l. l.0.port) (link_said (contents_of v) x y) ≡ option_map (λ e. port_at e x) o

is_read : (s : State) (v w : BridgeView) (y : SystemId) (o : Option Edge) → IsAtRest s → AreJoined s v w → find (λ e. joins e w.id.system y) (world_graph s.world).edges ≡ o → IsRead s v w.id.system y o
is_read s v w y None rest joined none =
    let entry : entry_said (contents_of v) w.id.system y ≡ None =
    ap (option_and_then (entry_for y)) (quiet_is_read s v w rest joined) ∙ no_entry s w y joined.to rest joined.there none in
    let link : link_said (contents_of v) w.id.system y ≡ None = link_none (contents_of v) w.id.system y entry in
    record { cost = ap (option_map _) link; port = ap (option_map _) link }
is_read s v w y (Some f) rest joined found =
    let between : IsEdgeBetween s.world w.id.system y f = edge_sought s.world w.id.system y f found in
    let p : IsLinkOf s.world w.id.system y = between.link in
    let link = link_read s v w y rest joined p in
    record {
      cost = ap (option_map (λ l. max l.0.metric l.1.metric)) link ∙ ap Some (cost_is s.world.bridges p.dir p.link ∙ ap (λ (e : Edge). e.cost) (sym between.is));
      port =
          ap (option_map (λ l. l.0.port)) link
          ∙ ap Some (port_is s w.id.system y p.dir p.link p.near p.far (systems_apart s w.id.system y rest.sound p) ∙ ap (λ (e : Edge). port_at e w.id.system) (sym between.is));
    }

pub quiet_reads_links : QuietReadsLinks
quiet_reads_links s v w rest joined = record {
  costs = λ y. (is_read s v w y (find (λ e. joins e w.id.system y) (world_graph s.world).edges) rest joined refl).cost ∙ sym (cost_among_find (world_graph s.world).edges w.id.system y);
  ports = λ y. (is_read s v w y (find (λ e. joins e w.id.system y) (world_graph s.world).edges) rest joined refl).port ∙ sym (port_among_find (world_graph s.world).edges w.id.system y);
}

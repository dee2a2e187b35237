-- What a bridge reaches in a quiet network is what the wiring joins to it, and its graph is that part of the wiring.
use Rattle.std.proofs.Common.{◌≡◌, inl, inr, ℕ, true≢false, List, [], ◌∷◌, length, Option, Some, None, IsSome, Contains, filter, flat_map, find, slice_get, refl, sym, ap, ◌∙◌, subst}
use Rattle.std.specs.Prelude.{◌≤◌}
use Rattle.std.specs.Option.{option_map}
use Rattle.std.specs.List.{filter_map}
use Rattle.spb_types.specs.Graph.{IsAmong, IsDistinct, IsBridge, systems_of, joins, cost_between, port_between}
use Rattle.spb_types.specs.declared.address.SystemId.{SystemId}
use Rattle.spb_types.specs.declared.graph.Edge.{Edge}
use Rattle.spb_types.specs.declared.graph.GraphBridge.{GraphBridge}
use Rattle.spb_types.specs.declared.graph.Member.{Member}
use Rattle.spb_types.specs.declared.limits.TheConstants.{MOST_GRAPH_BRIDGES}
use Rattle.ect_trees.specs.Path.{Leads}
use Rattle.ect_trees.specs.Laws.{IsReached, LookAlike}
use Rattle.ect_trees.proofs.Joining.{cost_among_find}
use Rattle.spb_content.specs.declared.content.Content.{Content}
use Rattle.spb_content.specs.Graph.{Contents, cost_said, port_said, bridge_of, member_of, members_of}
use Rattle.spb_content.specs.Building.{has_inst}
use Rattle.spb_content.specs.Laws.{HasAllLinks}
use Rattle.spb_content.specs.Local.{said_by}
use Rattle.spb_content.specs.Members.{member_for, pairs_of}
use Rattle.spb_content.proofs.Members.{Has, has_from_contains, contains_from_has, has_map, map_has, has_flat_map, flat_map_has}
use Rattle.spb_content.specs.declared.content.Inst.{Inst}
use Rattle.spb_content.proofs.Links.{some_same}
use Rattle.spb_content.proofs.Chosen.{AreChosen, one_content, said_has}
use Rattle.spb_content.proofs.Uncut.{IsSaid, all_chosen, said_graph_has_all_links}
use Rattle.spb_content.proofs.Whole.{is_bridge, bridges_are, are_bridges, members_are, are_members}
use Rattle.fdb_build.proofs.AscendLemmas.{filter_map_has, has_filter_map}
use Rattle.bridge_api.specs.View.{BridgeView}
use Rattle.bridge_api.specs.Own.{local_of}
use Rattle.bridge_api.specs.Graph.{contents_of, read_graph}
use Rattle.bridge_api.specs.Laws.{IsSoundView}
use Rattle.bridge_api.proofs.GraphRead.{reads_each_once}
use Rattle.bridge_laws.proofs.SaidMembers.{members_are_said}
use Rattle.spb_world.specs.declared.declaration.DeclaredBridge.{DeclaredBridge}
use Rattle.spb_world.specs.World.{World, things_of, bridge_members, members_at, system_at, world_graph}
use Rattle.network_model.specs.State.{State}
use Rattle.network_model.specs.Sound.{IsSoundState}
use Rattle.network_model.specs.Truth.{IsAtRest, AreJoined, IsThere}
use Rattle.spb_world.proofs.BoxLemmas.{All-get}
use Rattle.spb_world.proofs.MemberLemmas.{member_there, there_member}
use Rattle.spb_world.proofs.ValidLemmas.{among_at, place_from}
use Rattle.network_model.proofs.QuietRead.{quiet_is_read}
use Rattle.network_model.proofs.Wires.{IsLinkOf, place_has, edge_sought}
use Rattle.network_model.proofs.Spoken.{place_low, shown_at, system_is}
use Rattle.network_model.proofs.QuietReadLinks.{far_there, quiet_reads_links}

-- ---- the graph of all that a bridge reads

pub all_links : (s : State) (v : BridgeView) (i : ℕ) → IsAtRest s → slice_get s.views i ≡ Some v → HasAllLinks (contents_of v) (read_graph v)
all_links s v i rest at = said_graph_has_all_links (contents_of v) (reads_each_once v) (All-get (λ x. length (contents_of x) ≤ MOST_GRAPH_BRIDGES) s.views i v rest.few at)

pub joined_itself : (s : State) (v : BridgeView) (i : ℕ) → slice_get s.views i ≡ Some v → AreJoined s v v
joined_itself s v i at = record { from = i; to = i; here = at; there = at; walk = []; leads = refl }

-- costs there are costs of the wiring
costs_there : (s : State) (v : BridgeView) (i : ℕ) (x y : SystemId) → IsAtRest s → slice_get s.views i ≡ Some v → IsThere s v x → cost_between (read_graph v) x y ≡ cost_between (world_graph s.world) x y
costs_there s v i x y rest at there =
    (all_links s v i rest at).costs x y
    ∙ subst (λ z. cost_said (contents_of v) z y ≡ cost_between (world_graph s.world) z y) there.is ((quiet_reads_links s v there.w rest there.joined).costs y)

ports_there : (s : State) (v : BridgeView) (i : ℕ) (x y : SystemId) → IsAtRest s → slice_get s.views i ≡ Some v → IsThere s v x → port_between (read_graph v) x y ≡ port_between (world_graph s.world) x y
ports_there s v i x y rest at there =
    (all_links s v i rest at).ports x y
    ∙ subst (λ z. port_said (contents_of v) z y ≡ port_between (world_graph s.world) z y) there.is ((quiet_reads_links s v there.w rest there.joined).ports y)

-- ---- what is reached is joined

some_edge : (w : World) (x y : SystemId) → IsSome (cost_between (world_graph w) x y) → IsLinkOf w x y
some_edge w x y some = by (find (λ e. joins e x y) (world_graph w).edges) refl (subst (λ o. IsSome o) (cost_among_find (world_graph w).edges x y) some)
  where
    by : (o : Option Edge) → find (λ e. joins e x y) (world_graph w).edges ≡ o → IsSome (option_map (λ e. e.cost) o) → IsLinkOf w x y
    by None found k = absurd (true≢false (sym k))
    by (Some f) found k = (edge_sought w x y f found).link

beyond : (s : State) (v : BridgeView) (x y : SystemId) → IsSoundState s → IsThere s v x → IsLinkOf s.world x y → IsThere s v y
beyond s v x y sound there p = far_there s v there.w y sound there.joined (record { place = p.place; dir = p.dir; link = p.link; there = p.there; live = p.live; near = p.near ∙ sym there.is; far = p.far })

there_along : (s : State) (v : BridgeView) (i : ℕ) (a : SystemId) (xs : List SystemId) (b : SystemId) → IsAtRest s → slice_get s.views i ≡ Some v → IsThere s v a → Leads (read_graph v) a xs b → IsThere s v b
there_along s v i a [] b rest at there walk = subst (IsThere s v) walk.1 there
there_along s v i a (x ∷ xs) b rest at there walk =
    let some : IsSome (cost_between (world_graph s.world) a x) = subst (λ o. IsSome o) (costs_there s v i a x rest at there) walk.1 in
    there_along s v i x xs b rest at (beyond s v a x rest.sound there (some_edge s.world a x some)) walk.2

pub there_reached : (s : State) (v : BridgeView) (i : ℕ) (x : SystemId) → IsAtRest s → slice_get s.views i ≡ Some v → IsReached (read_graph v) v.id.system x → IsThere s v x
there_reached s v i x rest at r = there_along s v i v.id.system r.0 x rest at (record { w = v; joined = joined_itself s v i at; is = refl }) r.1

-- ---- bridges

-- a bridge as a graph has it
abbrev pub shown_bridge : BridgeView → GraphBridge
shown_bridge w = record { id = w.id; source = w.source }

-- the wiring has it
pub wired_bridge : (s : State) (j : ℕ) (w : BridgeView) → IsSoundState s → slice_get s.views j ≡ Some w → Has (shown_bridge w) (world_graph s.world).bridges
wired_bridge s j w sound at =
    let d = shown_at s j w sound at in
    let is : d.0.thing.bridge ≡ shown_bridge w = λ i. record { id = sym d.1.id i; source = sym d.1.source i } in
    subst (λ (b : GraphBridge). Has b (world_graph s.world).bridges) is (has_map (λ (b : DeclaredBridge). b.bridge) d.0.thing (things_of s.world.bridges) (place_has (things_of s.world.bridges) j d.0.thing d.0.there))

-- bridges of one system are one
system_among : (bs : List GraphBridge) (b : GraphBridge) → Has b bs → IsAmong b.id.system (systems_of bs)
system_among [] b h = absurd h
system_among (c ∷ bs) b (inl e) = inl (λ i. (e i).id.system)
system_among (c ∷ bs) b (inr h) = inr (system_among bs b h)

one_bridge : (bs : List GraphBridge) (b c : GraphBridge) → IsDistinct (systems_of bs) → Has b bs → Has c bs → b.id.system ≡ c.id.system → b ≡ c
one_bridge [] b c apart h k e = absurd h
one_bridge (d ∷ bs) b c apart (inl h) (inl k) e = h ∙ sym k
one_bridge (d ∷ bs) b c apart (inl h) (inr k) e = absurd (apart.0 (subst (λ x. IsAmong x (systems_of bs)) (sym e ∙ ap (λ (z : GraphBridge). z.id.system) h) (system_among bs c k)))
one_bridge (d ∷ bs) b c apart (inr h) (inl k) e = absurd (apart.0 (subst (λ x. IsAmong x (systems_of bs)) (e ∙ ap (λ (z : GraphBridge). z.id.system) k) (system_among bs b h)))
one_bridge (d ∷ bs) b c apart (inr h) (inr k) e = one_bridge bs b c apart.1 h k e

bridge_is : (c : SystemId × Content) (b : GraphBridge) → bridge_of c ≡ Some b → b.id.system ≡ c.0
bridge_is c b h = at c.1.inst h
  where
    at : (o : Option Inst) → option_map (λ i. record { id = record { priority = i.priority; system = c.0 }; source = i.source }) o ≡ Some b → b.id.system ≡ c.0
    at None e = absurd cc
    at (Some i) e = ap (λ (t : GraphBridge). t.id.system) (sym (some_same _ b e))

-- what is read of a joined bridge
has_read : (s : State) (v w : BridgeView) → IsAtRest s → AreJoined s v w → Has (w.id.system, said_by (local_of w)) (contents_of v)
has_read s v w rest joined = said_has (contents_of v) w.id.system (said_by (local_of w)) (quiet_is_read s v w rest joined)

only_read : (s : State) (v w : BridgeView) (c : SystemId × Content) → IsAtRest s → AreJoined s v w → Has c (contents_of v) → c.0 ≡ w.id.system → c ≡ (w.id.system, said_by (local_of w))
only_read s v w c rest joined h is = one_content (contents_of v) c (w.id.system, said_by (local_of w)) (reads_each_once v) h (has_read s v w rest joined) is

chosen : (v : BridgeView) → AreChosen (contents_of v) (IsSaid (contents_of v)) (filter has_inst (contents_of v))
chosen v = all_chosen (contents_of v) (reads_each_once v)

is_said : (s : State) (v w : BridgeView) → IsAtRest s → AreJoined s v w → IsSaid (contents_of v) w.id.system
is_said s v w rest joined = subst (λ o. IsSome o) (sym (quiet_is_read s v w rest joined)) refl

bridge_wired : (s : State) (v : BridgeView) (b : GraphBridge) → IsAtRest s → IsThere s v b.id.system → Contains (read_graph v).bridges b → Contains (world_graph s.world).bridges b
bridge_wired s v b rest there k =
    let w : BridgeView = there.w in
    let list : Contents = contents_of v in
    let c = filter_map_has bridge_of b list (has_from_contains b (filter_map bridge_of list) (bridges_are list (IsSaid list) (filter has_inst list) b (chosen v) k).0) in
    let same : c.0 ≡ (w.id.system, said_by (local_of w)) = only_read s v w c.0 rest there.joined c.1 (sym (bridge_is c.0 b c.2) ∙ sym there.is) in
    let is : b ≡ shown_bridge w = some_same b (shown_bridge w) (sym c.2 ∙ ap bridge_of same) in
    contains_from_has b (world_graph s.world).bridges (subst (λ z. Has z (world_graph s.world).bridges) (sym is) (wired_bridge s there.joined.to w rest.sound there.joined.there))

bridge_read : (s : State) (v : BridgeView) (b : GraphBridge) → IsAtRest s → IsThere s v b.id.system → Contains (world_graph s.world).bridges b → Contains (read_graph v).bridges b
bridge_read s v b rest there k =
    let w : BridgeView = there.w in
    let list : Contents = contents_of v in
    let bs : List GraphBridge = (world_graph s.world).bridges in
    let is : b ≡ shown_bridge w = one_bridge bs b (shown_bridge w) rest.sound.world.systems (has_from_contains b bs k) (wired_bridge s there.joined.to w rest.sound there.joined.there) (sym there.is) in
    let read : Has (shown_bridge w) (filter_map bridge_of list) = has_filter_map bridge_of (shown_bridge w) list (w.id.system, said_by (local_of w)) (has_read s v w rest there.joined) refl in
    are_bridges list (IsSaid list) (filter has_inst list) b (chosen v)
    (contains_from_has b (filter_map bridge_of list) (subst (λ z. Has z (filter_map bridge_of list)) (sym is) read), subst (IsSaid list) there.is (is_said s v w rest there.joined))

-- ---- members: what is attached to the customer ports of a bridge

member_is : (c : SystemId × Content) (m : Member) → Has m (members_of c) → m.system ≡ c.0
member_is c m h =
    let said : List Member = filter_map (member_of c.0) c.1.services in
    let p = map_has (member_for c.0 said) m (pairs_of said) h in
    ap (λ (t : Member). t.system) p.2

-- what is read of what a bridge says, are its members in the wiring
said_wired : (s : State) (j : ℕ) (w : BridgeView) → IsSoundState s → slice_get s.views j ≡ Some w → members_of (w.id.system, said_by (local_of w)) ≡ members_at s.world j
said_wired s j w sound at =
    let system : w.id.system ≡ system_at s.world.bridges j = sym (system_is s j w sound at) in
    members_are_said w (All-get IsSoundView s.views j w sound.views at)
    ∙ (λ i. bridge_members (system i) (sound.attached j w at i))

member_wired : (s : State) (v : BridgeView) (m : Member) → IsAtRest s → IsThere s v m.system → Contains (read_graph v).members m → Contains (world_graph s.world).members m
member_wired s v m rest there k =
    let w : BridgeView = there.w in
    let list : Contents = contents_of v in
    let c = flat_map_has members_of m list (has_from_contains m (flat_map members_of list) (members_are list (IsSaid list) (filter has_inst list) m (chosen v) k).0) in
    let same : c.0 ≡ (w.id.system, said_by (local_of w)) = only_read s v w c.0 rest there.joined c.1 (sym (member_is c.0 m c.2) ∙ sym there.is) in
    let j : ℕ = there.joined.to in
    let at : Has m (members_at s.world j) = subst (λ ms. Has m ms) (ap members_of same ∙ said_wired s j w rest.sound there.joined.there) c.2 in
    contains_from_has m (world_graph s.world).members (there_member s.world j m (place_low s j w rest.sound there.joined.there) at)

member_read : (s : State) (v : BridgeView) (m : Member) → IsAtRest s → IsThere s v m.system → Contains (world_graph s.world).members m → Contains (read_graph v).members m
member_read s v m rest there k =
    let w : BridgeView = there.w in
    let list : Contents = contents_of v in
    let j : ℕ = there.joined.to in
    let is = member_there s.world m (has_from_contains m (world_graph s.world).members k) in
    let place : is.place ≡ j = place_from s.world.bridges rest.sound.world.systems is.place j is.within (place_low s j w rest.sound there.joined.there) (sym is.system ∙ (sym there.is ∙ sym (system_is s j w rest.sound there.joined.there))) in
    let at : Has m (members_at s.world j) = subst (λ i. Has m (members_at s.world i)) place is.there in
    let said : Has m (members_of (w.id.system, said_by (local_of w))) = subst (λ ms. Has m ms) (sym (said_wired s j w rest.sound there.joined.there)) at in
    let read : Has m (flat_map members_of list) = has_flat_map members_of (w.id.system, said_by (local_of w)) m list (has_read s v w rest there.joined) said in
    are_members list (IsSaid list) (filter has_inst list) m (chosen v)
    (contains_from_has m (flat_map members_of list) read, subst (IsSaid list) there.is (is_said s v w rest there.joined))

-- ---- the graph that a bridge reads looks like the wiring

start_read : (s : State) (v : BridgeView) (i : ℕ) → IsAtRest s → slice_get s.views i ≡ Some v → IsBridge (read_graph v) v.id.system
start_read s v i rest at = is_bridge (contents_of v) (IsSaid (contents_of v)) (filter has_inst (contents_of v)) v.id.system (chosen v) (is_said s v v rest (joined_itself s v i at))

pub start_wired : (s : State) (v : BridgeView) (i : ℕ) → IsSoundState s → slice_get s.views i ≡ Some v → IsBridge (world_graph s.world) v.id.system
start_wired s v i sound at = subst (IsBridge (world_graph s.world)) (system_is s i v sound at) (among_at s.world.bridges i (place_low s i v sound at))

pub looks_like_wiring : (s : State) (v : BridgeView) (i : ℕ) → IsAtRest s → slice_get s.views i ≡ Some v → LookAlike (read_graph v) (world_graph s.world) v.id.system
looks_like_wiring s v i rest at = record {
  start = (λ k. start_wired s v i rest.sound at, λ k. start_read s v i rest at);
  bridges = λ b r. (let there = there_reached s v i b.id.system rest at r in (bridge_wired s v b rest there, bridge_read s v b rest there));
  costs = λ x y r. costs_there s v i x y rest at (there_reached s v i x rest at r);
  ports = λ x y r. ports_there s v i x y rest at (there_reached s v i x rest at r);
  members = λ m r. (let there = there_reached s v i m.system rest at r in (member_wired s v m rest there, member_read s v m rest there));
}

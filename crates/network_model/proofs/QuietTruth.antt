-- In a quiet network the graph of a bridge is its part of the wiring, and its tables are those that are wired for it.
use Rattle.std.proofs.Common.{◌≡◌, ℕ, List, [], ◌∷◌, Some, IsSome, option_map, slice_get, refl, sym, ap, ◌∙◌, subst}
use Rattle.std.specs.Prelude.{◌↔◌}
use Rattle.spb_types.specs.Graph.{cost_between}
use Rattle.spb_types.specs.declared.address.SystemId.{SystemId}
use Rattle.spb_types.specs.declared.graph.Edge.{Edge}
use Rattle.spb_types.specs.declared.graph.Graph.{Graph}
use Rattle.spb_types.specs.declared.service.VidPlan.{VidPlan}
use Rattle.ect_trees.specs.Laws.{IsReached, LookAlike, IsPartOf}
use Rattle.ect_trees.proofs.Alike.{same_best}
use Rattle.ect_trees.proofs.Joining.{cost_among_find}
use Rattle.ect_trees.proofs.Reached.{reached_itself, reached_on, reached_step, looks_back, looks_on, part_looks_alike}
use Rattle.fdb_build.specs.Tables.{unicast_rows}
use Rattle.fdb_build.proofs.TableLemmas.{same_rows}
use Rattle.fdb_build.specs.Groups.{group_rows}
use Rattle.fdb_build.proofs.GroupLemmas.{same_groups}
use Rattle.bridge_api.specs.View.{BridgeView}
use Rattle.bridge_api.specs.Graph.{contents_of, read_graph, IsOwnGraph}
use Rattle.bridge_api.specs.Tables.{own_tables}
use Rattle.bridge_api.proofs.GraphRead.{reads_each_once}
use Rattle.bridge_api.proofs.OwnTables.{is_part}
use Rattle.spb_world.specs.World.{system_at, world_graph, wired_tables}
use Rattle.network_model.specs.State.{State, links_of}
use Rattle.network_model.specs.Sound.{IsSoundState}
use Rattle.network_model.specs.Truth.{IsAtRest, AreLinked, IsWalk, QuietIsTrue, QuietHasWiredTables}
use Rattle.spb_world.proofs.ValidLemmas.{valid}
use Rattle.network_model.proofs.QuietLaws.{quiet_says}
use Rattle.network_model.proofs.Linked.{one_view, far_view}
use Rattle.network_model.proofs.Wires.{IsLinkOf, edge_found}
use Rattle.network_model.proofs.Spoken.{shown_at, system_is}
use Rattle.network_model.proofs.Reached.{all_links, start_wired, there_reached, looks_like_wiring}

-- ---- what a walk joins is reached in the wiring

linked_reached : (s : State) (v w : BridgeView) (i j : ℕ) → IsSoundState s → slice_get s.views i ≡ Some v → slice_get s.views j ≡ Some w → AreLinked (links_of s) i j → IsReached (world_graph s.world) v.id.system w.id.system
linked_reached s v w i j sound at_v at_w step =
    let p : IsLinkOf s.world v.id.system w.id.system = record {
      place = step.place;
      dir = step.dir;
      link = step.link;
      there = step.there;
      live = step.live;
      near = ap (system_at s.world.bridges) step.near ∙ system_is s i v sound at_v;
      far = ap (system_at s.world.bridges) step.far ∙ system_is s j w sound at_w;
    } in
    let joined : IsSome (cost_between (world_graph s.world) v.id.system w.id.system) =
    subst (λ o. IsSome o) (sym (cost_among_find (world_graph s.world).edges v.id.system w.id.system ∙ ap (option_map (λ (e : Edge). e.cost)) (edge_found s.world v.id.system w.id.system sound.world p))) refl in
    reached_step (world_graph s.world) v.id.system v.id.system w.id.system (reached_itself (world_graph s.world) v.id.system (start_wired s v i sound at_v)) joined (start_wired s w j sound at_w)

walk_reached : (s : State) (v w : BridgeView) (i : ℕ) (ks : List ℕ) (j : ℕ) → IsSoundState s → slice_get s.views i ≡ Some v → slice_get s.views j ≡ Some w → IsWalk (links_of s) i ks j → IsReached (world_graph s.world) v.id.system w.id.system
walk_reached s v w i [] j sound at_v at_w walk =
    let same : v ≡ w = one_view s j v w (subst (λ (n : ℕ). slice_get s.views n ≡ Some v) walk at_v) at_w in
    subst (λ (x : BridgeView). IsReached (world_graph s.world) v.id.system x.id.system) same (reached_itself (world_graph s.world) v.id.system (start_wired s v i sound at_v))
walk_reached s v w i (k ∷ ks) j sound at_v at_w walk =
    let step : AreLinked (links_of s) i k = walk.0 in
    let next = far_view s step.place step.dir step.link sound step.there in
    let at : slice_get s.views k ≡ Some next.0 = ap (slice_get s.views) (sym step.far) ∙ next.1 in
    reached_on (world_graph s.world) v.id.system next.0.id.system w.id.system (linked_reached s v next.0 i k sound at_v at step) (walk_reached s next.0 w k ks j sound at at_w walk.1)

-- ---- a part of a graph is that part of one that looks alike

part_alike : (g h part : Graph) (me : SystemId) → LookAlike g h me → ((x : SystemId) → IsReached g me x ↔ IsReached h me x) → IsPartOf g me part → IsPartOf h me part
part_alike g h part me look same is = record {
  bridges = λ b. (
    λ k. (let o = (is.bridges b).0 k in ((look.bridges b o.1).0 o.0, (same b.id.system).0 o.1)),
    λ k. (let r = (same b.id.system).1 k.1 in (is.bridges b).1 ((look.bridges b r).1 k.0, r)),
  );
  costs = λ x y r. (let t = (same x).1 r in is.costs x y t ∙ look.costs x y t);
  ports = λ x y r. (let t = (same x).1 r in is.ports x y t ∙ look.ports x y t);
  within = λ x y k. (same x).0 (is.within x y k);
  members = λ m. (
    λ k. (let o = (is.members m).0 k in ((look.members m o.1).0 o.0, (same m.system).0 o.1)),
    λ k. (let r = (same m.system).1 k.1 in (is.members m).1 ((look.members m r).1 k.0, r)),
  );
}

-- ---- the bridge at a place

pub own_are_wired : (s : State) (i : ℕ) (v : BridgeView) → IsAtRest s → slice_get s.views i ≡ Some v → own_tables v ≡ wired_tables s.world i
unfolding own_tables wired_tables
own_are_wired s i v rest at =
    let look = looks_like_wiring s v i rest at in
    let shown = (shown_at s i v rest.sound at).1 in
    let rows : unicast_rows (read_graph v) v.id.system v.vids ≡ unicast_rows (world_graph s.world) (system_at s.world.bridges i) s.world.vids =
    same_rows (read_graph v) (world_graph s.world) v.id.system v.vids (all_links s v i rest at).valid (valid s.world rest.sound.world) look
    ∙ (ap (λ (x : SystemId). unicast_rows (world_graph s.world) x v.vids) (sym (system_is s i v rest.sound at))
    ∙ ap (λ (plans : List VidPlan). unicast_rows (world_graph s.world) (system_at s.world.bridges i) plans) shown.vids) in
    let groups : group_rows (read_graph v) v.id.system v.vids ≡ group_rows (world_graph s.world) (system_at s.world.bridges i) s.world.vids =
    same_groups (read_graph v) (world_graph s.world) v.id.system v.vids (all_links s v i rest at).valid (valid s.world rest.sound.world) look
    ∙ (ap (λ (x : SystemId). group_rows (world_graph s.world) x v.vids) (sym (system_is s i v rest.sound at))
    ∙ ap (λ (plans : List VidPlan). group_rows (world_graph s.world) (system_at s.world.bridges i) plans) shown.vids) in
    λ k. record { unicast = rows k; group = groups k }

pub quiet_is_true : QuietIsTrue
quiet_is_true s i v rest at =
    let me : SystemId = v.id.system in
    let world : Graph = world_graph s.world in
    let all = all_links s v i rest at in
    let look : LookAlike (read_graph v) world me = looks_like_wiring s v i rest at in
    let same : (x : SystemId) → IsReached (read_graph v) me x ↔ IsReached world me x = (looks_back (read_graph v) world me all.valid look).1 in
    let part : (g : Graph) → IsOwnGraph v g → IsPartOf world me g =
    λ g own. part_alike (read_graph v) world g me look same (is_part (contents_of v) me g (reads_each_once v) all own) in
    record {
      reached = λ x. (
        λ r. there_reached s v i x rest at ((same x).1 r),
        λ there. subst (IsReached world me) there.is (walk_reached s v there.w there.joined.from there.joined.walk there.joined.to rest.sound there.joined.here there.joined.there there.joined.leads),
      );
      graph = part;
      tables = own_are_wired s i v rest at;
      best = λ g mask a b own good r. sym (same_best world g mask a b (valid s.world rest.sound.world) good (looks_on world g me a (part_looks_alike world g me (part g own)) r));
    }

pub quiet_has_wired_tables : QuietHasWiredTables
quiet_has_wired_tables s i v sound quiet one fresh few at =
    quiet_is_true s i v (record { sound = sound; calm = (quiet_says s).quiet.0 quiet; bodies = one; fresh = fresh; few = few }) at

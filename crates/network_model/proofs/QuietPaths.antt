-- In a quiet network the paths of a bridge are those of the wiring, and frames go that way.
use Rattle.std.proofs.Common.{◌≡◌, ◌≢◌, ℕ, ◌<◌, ◌==◌, Bool, true, false, true≢false, ◌||◌, cond, inl, inr, ◌⊎◌, List, [], ◌∷◌, ◌++◌, length, reverse, Option, Some, None, is_some, IsSome, unwrap_or, Contains, find, slice_get, refl, sym, ap, ◌∙◌, subst, arith, eq-eqb, eqb-true, append-nil}
use Rattle.std.specs.Option.{option_map, option_and_then}
use Rattle.std.specs.List.{AllByRecursion, filter_map, cons_option, list_any}
use Rattle.std.specs.Str.{bytes_eq}
use Rattle.std.proofs.lemmas.List.{reverse-append, length-map}
use Rattle.std.proofs.lemmas.List.Elements.{filter_map-append}
use Rattle.std.proofs.lemmas.List.Quantifiers.{position-Some}
use Rattle.std.proofs.lemmas.Iterator.Adapters.{position_from-zero}
use Rattle.spb_types.specs.Address.{same_system, group_address}
use Rattle.spb_types.specs.Ect.{mask_of}
use Rattle.spb_types.specs.Graph.{IsAmong, IsValid, systems_of}
use Rattle.spb_types.specs.Ports.{has}
use Rattle.spb_types.specs.Service.{AreVidsApart}
use Rattle.spb_types.specs.Tables.{unicast_in, group_in}
use Rattle.spb_types.specs.declared.address.Mac.{Mac}
use Rattle.spb_types.specs.declared.address.SystemId.{SystemId}
use Rattle.spb_types.specs.declared.graph.Graph.{Graph}
use Rattle.spb_types.specs.declared.graph.GraphBridge.{GraphBridge}
use Rattle.spb_types.specs.declared.service.Isid.{Isid}
use Rattle.spb_types.specs.declared.service.VidPlan.{VidPlan}
use Rattle.spb_types.specs.declared.tables.GroupRow.{GroupRow}
use Rattle.spb_types.specs.declared.tables.Path.{Path}
use Rattle.spb_types.specs.declared.tables.Tables.{Tables}
use Rattle.spb_types.specs.declared.tables.UnicastRow.{UnicastRow}
use Rattle.ect_trees.specs.Path.{Leads, IsPath, cost_along, cost_of}
use Rattle.ect_trees.specs.Best.{IsBest, best_of}
use Rattle.ect_trees.specs.Tree.{best_path}
use Rattle.ect_trees.specs.Laws.{IsReached, LookAlike}
use Rattle.ect_trees.proofs.Among.{same_self}
use Rattle.ect_trees.proofs.Members.{Has, has_from_contains}
use Rattle.ect_trees.proofs.Walks.{step, path_reverse, cost-reverse}
use Rattle.ect_trees.proofs.Least.{best_reverse}
use Rattle.ect_trees.proofs.Exists.{best_of_cases, best_of_none, best_of_some}
use Rattle.ect_trees.proofs.Reached.{leads_start, reached_step, path_reached}
use Rattle.ect_trees.proofs.Alike.{same_best}
use Rattle.spb_content.proofs.Members as members
use Rattle.fdb_build.specs.Tables.{unicast_rows}
use Rattle.fdb_build.specs.Groups.{Sends, Receives, Follows, group_rows}
use Rattle.fdb_build.proofs.AscendLemmas.{All-has}
use Rattle.fdb_build.proofs.OnePathLemmas.{one_path, group_leads_on}
use Rattle.bridge_api.specs.View.{BridgeView}
use Rattle.bridge_api.specs.Graph.{read_graph, planned_for, own_tables, own_path}
use Rattle.scenario.specs.declared.command.Command.TheVariants as command
use Rattle.spb_world.specs.declared.declaration.DeclaredBridge.{DeclaredBridge}
use Rattle.spb_world.specs.World.{World, Bridges, Sound, names_of, things_of, place_of, graph_bridges, system_at, world_graph, wired_tables, declared_vid}
use Rattle.network_model.specs.State.{State}
use Rattle.spb_world.specs.Systems.{place_of_system, name_of_system}
use Rattle.network_model.specs.Paths.{path_at, path_answer, path_found}
use Rattle.network_model.specs.Questions.{question_of}
use Rattle.network_model.specs.Play.{answer_at_found, answer_of}
use Rattle.network_model.specs.Truth.{IsAtRest}
use Rattle.network_model.specs.PathLaws.{wired_path, turned_path, TakesFromAlone, SendsTo, FramesGoOnePath, PathIsTrue}
use Rattle.network_model.proofs.Linked.{get_within}
use Rattle.network_model.proofs.QuietTruth.{own_are_wired}
use Rattle.network_model.proofs.Reached.{all_links, looks_like_wiring, shown_bridge, wired_bridge}
use Rattle.network_model.proofs.Spoken.{shown_at, system_is}
use Rattle.network_model.proofs.Tested.{found-any}
use Rattle.spb_world.proofs.ValidLemmas.{valid, valid_for}

-- ---- the plan of a VID

plan_found : (vids : List VidPlan) (plan : VidPlan) → AreVidsApart vids → Has plan vids → find (λ p. p.vid.value == plan.vid.value) vids ≡ Some plan
plan_found [] plan apart h = absurd h
plan_found (p ∷ ps) plan apart (inl e) =
    ap (λ b. cond b (Some p) (find (λ q. q.vid.value == plan.vid.value) ps)) (eq-eqb p.vid.value plan.vid.value (ap (λ (t : VidPlan). t.vid.value) (sym e))) ∙ ap Some (sym e)
plan_found (p ∷ ps) plan apart (inr h) = by (p.vid.value == plan.vid.value) refl (plan_found ps plan apart.1 h)
  where
    by : (b : Bool) → (p.vid.value == plan.vid.value) ≡ b → find (λ q. q.vid.value == plan.vid.value) ps ≡ Some plan → cond b (Some p) (find (λ q. q.vid.value == plan.vid.value) ps) ≡ Some plan
    by true e r = absurd (All-has (λ q. p.vid.value ≢ q.vid.value) ps apart.0 plan h (eqb-true p.vid.value plan.vid.value e))
    by false e r = r

plan_there : (s : State) (plan : VidPlan) → IsAtRest s → Contains s.world.vids plan → find (λ p. p.vid.value == plan.vid.value) s.world.vids ≡ Some plan
plan_there s plan rest planned = plan_found s.world.vids plan rest.sound.world.plans.apart (has_from_contains s.world.vids plan planned)

-- ---- paths in graphs that look alike

along_there : (g h : Graph) (me x b : SystemId) (xs : List SystemId) → LookAlike g h me → IsReached g me x → Leads g x xs b → cost_along g x xs ≡ cost_along h x xs
along_there g h me x b [] look r l = refl
along_there g h me x b (y ∷ ys) look r l =
    let one : step g x y ≡ step h x y = ap (λ o. unwrap_or o 0) (look.costs x y r) in
    let more : cost_along g y ys ≡ cost_along h y ys = along_there g h me y b ys look (reached_step g me x y r l.1 (leads_start g y b ys l.2)) l.2 in
    omega (arith, one, more)

cost_there : (g h : Graph) (a b : SystemId) (p : List SystemId) → LookAlike g h a → IsPath g a b p → cost_of g p ≡ cost_of h p
cost_there g h a b [] look w = refl
cost_there g h a b (x ∷ xs) look w = along_there g h a x b xs look (path_reached g a b x (x ∷ xs) w (inl refl)) w.1

abbrev costing : List SystemId → ℕ → Path
costing p c = record { cost = c; bridges = p }

abbrev with_cost : Graph → List SystemId → Path
with_cost g p = costing p (cost_of g p)

path_there : (g h : Graph) (mask : ℕ) (a b : SystemId) → IsValid g → IsValid h → LookAlike g h a → best_path g mask a b ≡ best_path h mask a b
path_there g h mask a b v w look = by (best_of_cases g mask a b v)
  where
    by : (((p : List SystemId) → IsPath g a b p → ⊥) × (best_of g mask a b ≡ None)) ⊎ ((p : List SystemId) × (best_of g mask a b ≡ Some p) × IsBest g mask a b p) → best_path g mask a b ≡ best_path h mask a b
    by (inl none) = ap (option_map (with_cost g)) none.1 ∙ sym (ap (option_map (with_cost h)) (sym (same_best g h mask a b v w look) ∙ none.1))
    by (inr k) =
        ap (option_map (with_cost g)) k.1
        ∙ (ap (λ (c : ℕ). Some (costing k.0 c)) (cost_there g h a b k.0 look k.2.path)
        ∙ sym (ap (option_map (with_cost h)) (sym (same_best g h mask a b v w look) ∙ k.1)))

-- the way back
turned : (g : Graph) (mask : ℕ) (a b : SystemId) → IsValid g → best_path g mask b a ≡ option_map turned_path (best_path g mask a b)
turned g mask a b v = by (best_of_cases g mask a b v)
  where
    by : (((p : List SystemId) → IsPath g a b p → ⊥) × (best_of g mask a b ≡ None)) ⊎ ((p : List SystemId) × (best_of g mask a b ≡ Some p) × IsBest g mask a b p) → best_path g mask b a ≡ option_map turned_path (best_path g mask a b)
    by (inl none) =
        ap (option_map (with_cost g)) ((best_of_none g mask b a v).1 (λ q w. none.0 (reverse q) (path_reverse g b a q w)))
        ∙ sym (ap (λ o. option_map turned_path (option_map (with_cost g) o)) none.1)
    by (inr k) =
        ap (option_map (with_cost g)) ((best_of_some g mask b a (reverse k.0) v).1 (best_reverse g mask a b k.0 k.2))
        ∙ (ap (λ (c : ℕ). Some (costing (reverse k.0) c)) (cost-reverse g a b k.0 k.2.path)
        ∙ sym (ap (λ o. option_map turned_path (option_map (with_cost g) o)) k.1))

-- ---- the path of a bridge at rest

own_is_wired : (s : State) (i : ℕ) (v : BridgeView) (to : SystemId) (plan : VidPlan) → IsAtRest s → slice_get s.views i ≡ Some v → Contains s.world.vids plan → own_path v to plan.vid ≡ best_path (world_graph s.world) (mask_of plan.ect) v.id.system to
unfolding own_path
own_is_wired s i v to plan rest at planned =
    let shown = (shown_at s i v rest.sound at).1 in
    let found : planned_for v.vids plan.vid ≡ Some plan = ap (λ (ps : List VidPlan). planned_for ps plan.vid) shown.vids ∙ plan_there s plan rest planned in
    ap (option_and_then (λ (q : VidPlan). best_path (read_graph v) (mask_of q.ect) v.id.system to)) found
    ∙ path_there (read_graph v) (world_graph s.world) (mask_of plan.ect) v.id.system to (all_links s v i rest at).valid (valid s.world rest.sound.world) (looks_like_wiring s v i rest at)

-- ---- frames go that way

rows_are_wired : (s : State) (i : ℕ) (v : BridgeView) → IsAtRest s → slice_get s.views i ≡ Some v → (own_tables v).unicast ≡ unicast_rows (world_graph s.world) v.id.system s.world.vids
unfolding wired_tables
rows_are_wired s i v rest at =
    ap (λ (t : Tables). t.unicast) (own_are_wired s i v rest at)
    ∙ ap (λ (x : SystemId). unicast_rows (world_graph s.world) x s.world.vids) (system_is s i v rest.sound at)

groups_are_wired : (s : State) (i : ℕ) (v : BridgeView) → IsAtRest s → slice_get s.views i ≡ Some v → (own_tables v).group ≡ group_rows (world_graph s.world) v.id.system s.world.vids
unfolding wired_tables
groups_are_wired s i v rest at =
    ap (λ (t : Tables). t.group) (own_are_wired s i v rest at)
    ∙ ap (λ (x : SystemId). group_rows (world_graph s.world) x s.world.vids) (system_is s i v rest.sound at)

takes_alone : (s : State) (plan : VidPlan) (a b m : SystemId) (k : ℕ) (x : BridgeView) → IsAtRest s → Contains s.world.vids plan → slice_get s.views k ≡ Some x → Follows (world_graph s.world) (mask_of plan.ect) a b m x.id.system
    → TakesFromAlone (world_graph s.world) (own_tables x) plan.vid a m x.id.system
takes_alone s plan a b m k x rest planned at follows =
    let t = one_path (world_graph s.world) s.world.vids plan a b m x.id.system (valid_for s.world x.id.system rest.sound.world) rest.sound.world.plans planned follows in
    let same : unicast_in (own_tables x).unicast plan.vid a.mac ≡ unicast_in (unicast_rows (world_graph s.world) x.id.system s.world.vids) plan.vid a.mac = ap (λ (rows : List UnicastRow). unicast_in rows plan.vid a.mac) (rows_are_wired s k x rest at) in
    record {
      port = t.port;
      towards = t.towards;
      accepts = same ∙ t.accepts;
      alone = λ y p there comes. t.alone y p there (sym same ∙ comes);
    }

sends_to : (s : State) (i : ℕ) (v : BridgeView) (plan : VidPlan) (b c : SystemId) (k : ℕ) (x : BridgeView) (isid : Isid) → IsAtRest s → slice_get s.views i ≡ Some v → Contains s.world.vids plan → slice_get s.views k ≡ Some x
    → Sends (world_graph s.world) isid plan.vid v.id.system → Receives (world_graph s.world) isid plan.vid b → b ≢ v.id.system → Follows (world_graph s.world) (mask_of plan.ect) v.id.system b x.id.system c
    → SendsTo (world_graph s.world) (own_tables x) plan.vid (group_address v.source.value isid.value) x.id.system c
sends_to s i v plan b c k x isid rest at planned at_x sends takes other follows =
    let bridges : List GraphBridge = (world_graph s.world).bridges in
    let mac : Mac = group_address v.source.value isid.value in
    let leads = group_leads_on (world_graph s.world) s.world.vids plan (shown_bridge v) isid b x.id.system c (valid_for s.world x.id.system rest.sound.world) rest.sound.world.plans planned (members.contains_from_has (shown_bridge v) bridges (wired_bridge s i v rest.sound at)) sends takes other follows in
    record {
      port = leads.0;
      towards = leads.1;
      sends = ap (λ (rows : List GroupRow). has (group_in rows plan.vid mac) leads.0) (groups_are_wired s k x rest at_x) ∙ leads.2;
    }

pub frames_go_one_path : FramesGoOnePath
frames_go_one_path s i j v w plan rest at_v at_w planned =
    let there = own_is_wired s i v w.id.system plan rest at_v planned in
    record {
      best = there;
      back = own_is_wired s j w v.id.system plan rest at_w planned ∙ (turned (world_graph s.world) (mask_of plan.ect) v.id.system w.id.system (valid s.world rest.sound.world) ∙ ap (option_map turned_path) (sym there));
      takes = λ k x m at follows. takes_alone s plan v.id.system w.id.system m k x rest planned at follows;
      sends = λ k x c isid at sends takes other follows. sends_to s i v plan w.id.system c k x isid rest at_v planned at sends takes other follows;
    }

-- ---- what is answered

pub place_within : (bridges : Bridges) (name : List ℕ) (i : ℕ) → place_of name bridges ≡ Some i → i < length bridges
place_within bridges name i at =
    let within = (position-Some (bytes_eq name) (names_of bridges) i [] at).0 in
    let same = length-map bridges (λ e. e.0) in
    omega (arith, within, same)

path_at_rest : (s : State) (i j : ℕ) (v : BridgeView) (plan : VidPlan) → IsAtRest s → slice_get s.views i ≡ Some v → Contains s.world.vids plan → path_at s i j plan.vid ≡ wired_path s.world plan i j
path_at_rest s i j v plan rest at planned =
    let to : SystemId = system_at s.world.bridges j in
    ap (option_and_then (λ (u : BridgeView). own_path u to plan.vid)) at
    ∙ (own_is_wired s i v to plan rest at planned
    ∙ ap (λ (x : SystemId). best_path (world_graph s.world) (mask_of plan.ect) x to) (sym (system_is s i v rest.sound at)))

path_answered : (s : State) (from to : List ℕ) (i j : ℕ) (plan : VidPlan) → IsAtRest s → place_of from s.world.bridges ≡ Some i → place_of to s.world.bridges ≡ Some j → Contains s.world.vids plan
    → answer_of s (command.Path from to plan.vid.value) ≡ path_answer s.world.bridges from to plan.vid (wired_path s.world plan i j)
path_answered s from to i j plan rest at_i at_j planned =
    let n : ℕ = plan.vid.value in
    let view = get_within s.views i (let low = place_within s.world.bridges from i at_i in omega (arith, low, rest.sound.fits.bridges)) in
    let declared : declared_vid s.world.vids n ≡ Some plan.vid = ap (option_map (λ (p : VidPlan). p.vid)) (plan_there s plan rest planned) in
    ap (answer_at_found s (question_of (command.Path from to n))) at_i
    ∙ (ap (λ o. path_found s i from to o (declared_vid s.world.vids n)) at_j
    ∙ (ap (path_found s i from to (Some j)) declared
    ∙ ap (path_answer s.world.bridges from to plan.vid) (path_at_rest s i j view.0 plan rest view.1 planned)))

-- ---- names

or_right : (a b : Bool) → b ≡ true → (a || b) ≡ true
or_right true b e = refl
or_right false b e = e

any_system : (bridges : Bridges) (x : SystemId) → IsAmong x (systems_of (graph_bridges bridges)) → list_any (λ b. same_system b.bridge.id.system x) (things_of bridges) ≡ true
any_system [] x h = absurd h
any_system (b ∷ bs) x (inl e) =
    ap (λ t. t || list_any (λ c. same_system c.bridge.id.system x) (things_of bs)) (subst (λ z. same_system b.1.bridge.id.system z ≡ true) (sym e) (same_self b.1.bridge.id.system))
any_system (b ∷ bs) x (inr h) = or_right (same_system b.1.bridge.id.system x) _ (any_system bs x h)

named : (bridges : Bridges) (x : SystemId) → IsAmong x (systems_of (graph_bridges bridges)) → IsSome (name_of_system bridges x)
named bridges x h =
    by (place_of_system bridges x) refl
    (ap (λ (o : Option ℕ). is_some o) (position_from-zero (λ (b : DeclaredBridge). same_system b.bridge.id.system x) (things_of bridges))
    ∙ (found-any (λ (b : DeclaredBridge). same_system b.bridge.id.system x) 0 (things_of bridges) ∙ any_system bridges x h))
  where
    by : (o : Option ℕ) → place_of_system bridges x ≡ o → is_some o ≡ true → IsSome (option_and_then (slice_get (names_of bridges)) o)
    by None at e = absurd (true≢false (sym e))
    by (Some k) at e =
        let any : DeclaredBridge = record { bridge = record { id = record { priority = 0; system = x }; source = record { value = 0 } }; ports = 0 } in
        let within = (position-Some (λ (b : DeclaredBridge). same_system b.bridge.id.system x) (things_of bridges) k any at).0 in
        let name = get_within (names_of bridges) k (let things = length-map bridges (λ e. e.1) in let names = length-map bridges (λ e. e.0) in omega (arith, within, things, names)) in
        subst (λ o. IsSome o) (sym name.1) refl

along_named : (w : World) (x b : SystemId) (xs : List SystemId) → Leads (world_graph w) x xs b → AllByRecursion (λ y. IsSome (name_of_system w.bridges y)) (x ∷ xs)
along_named w x b [] l = (named w.bridges x l.0, tt)
along_named w x b (y ∷ ys) l = (named w.bridges x l.0, along_named w y b ys l.2)

path_named : (w : World) (a b : SystemId) (p : List SystemId) → IsPath (world_graph w) a b p → AllByRecursion (λ y. IsSome (name_of_system w.bridges y)) p
path_named w a b [] k = absurd k
path_named w a b (x ∷ xs) k = along_named w x b xs k.1

best_named : (w : World) (mask : ℕ) (a b : SystemId) (path : Path) → Sound w → best_path (world_graph w) mask a b ≡ Some path → AllByRecursion (λ x. IsSome (name_of_system w.bridges x)) path.bridges
best_named w mask a b path sound is = by (best_of_cases (world_graph w) mask a b (valid w sound))
  where
    by : (((p : List SystemId) → IsPath (world_graph w) a b p → ⊥) × (best_of (world_graph w) mask a b ≡ None)) ⊎ ((p : List SystemId) × (best_of (world_graph w) mask a b ≡ Some p) × IsBest (world_graph w) mask a b p) → AllByRecursion (λ x. IsSome (name_of_system w.bridges x)) path.bridges
    by (inl none) = let no : None ≡ Some path = sym (ap (option_map (with_cost (world_graph w))) none.1) ∙ is in absurd cc
    by (inr k) =
        let found : Some (with_cost (world_graph w) k.0) ≡ Some path = sym (ap (option_map (with_cost (world_graph w))) k.1) ∙ is in
        let same : with_cost (world_graph w) k.0 ≡ path = cc in
        subst (λ (p : Path). AllByRecursion (λ x. IsSome (name_of_system w.bridges x)) p.bridges) same (path_named w a b k.0 k.2.path)

turned_names : {X Y : Type 0} (f : X → Option Y) (xs : List X) → filter_map f (reverse xs) ≡ reverse (filter_map f xs)
turned_names f [] = refl
turned_names f (x ∷ xs) =
    ap (filter_map f) (reverse-append (x ∷ []) xs)
    ∙ (filter_map-append f (reverse xs) (x ∷ [])
    ∙ (ap (λ l. l ++ filter_map f (x ∷ [])) (turned_names f xs)
    ∙ by (f x)))
  where
    by : (o : Option _) → reverse (filter_map f xs) ++ cons_option o [] ≡ reverse (cons_option o (filter_map f xs))
    by None = append-nil (reverse (filter_map f xs))
    by (Some y) = sym (reverse-append (y ∷ []) (filter_map f xs))

pub path_is_true : PathIsTrue
path_is_true = record {
  best = path_answered;
  named = λ w plan i j path sound is. best_named w (mask_of plan.ect) (system_at w.bridges i) (system_at w.bridges j) path sound is;
  back = λ w plan i j sound. turned (world_graph w) (mask_of plan.ect) (system_at w.bridges i) (system_at w.bridges j) (valid w sound);
  names = λ bridges path. turned_names (name_of_system bridges) path;
}

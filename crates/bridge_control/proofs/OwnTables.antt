-- What a bridge reads from the LSPs that it holds, entry by entry, and its tables.
use Rattle.std.proofs.Common.{cond, ◌≡◌, ℕ, zero, suc, ◌+◌, ◌≤◌, Bool, true, false, List, [], ◌∷◌, ◌++◌, length, take, slice_get, refl, sym, ap, ◌∙◌, subst, Option, Some, None, Result, Ok, Err, arith, add-one}
use Rattle.std.specs.Prelude.{◌==◌, IfOk}
use Rattle.std.specs.Option.{option_to_list, option_and_then}
use Rattle.std.specs.List.{AllByRecursion, filter_map, cons_option}
use Rattle.std.proofs.lemmas.List.{length-append}
use Rattle.std.proofs.lemmas.List.Elements.{filter_map-append}
use Rattle.spb_types.specs.declared.address.SystemId.{SystemId}
use Rattle.spb_types.specs.declared.service.Vid.{Vid}
use Rattle.spb_types.specs.declared.service.VidPlan.{VidPlan}
use Rattle.spb_types.specs.declared.limits.TheConstants.{GREATEST_ECT}
use Rattle.spb_types.specs.declared.graph.Graph.{Graph}
use Rattle.spb_types.specs.declared.tables.Tables.{Tables}
use Rattle.spb_types.specs.declared.tables.Path.{Path}
use Rattle.spb_types.specs.Ect.{mask_of}
use Rattle.ect_trees.specs.Tree.{best_path}
use Rattle.spb_types.specs.Graph.{IsDistinct, IsValidFor}
use Rattle.spb_tlvs.specs.Capability.{IsTree}
use Rattle.spb_content.specs.Graph.{Contents, systems_in, HasOwnPorts}
use Rattle.spb_content.specs.Building.{said_graph}
use Rattle.spb_content.proofs.Members.{weaker}
use Rattle.fdb_build.specs.Tables.{ArePlans, unicast_rows}
use Rattle.fdb_build.specs.Groups.{group_rows}
use Rattle.bridge_api.specs.View.{BridgeView}
use Rattle.bridge_api.specs.Tables.{contents_of, read_graph, own_tables}
use Rattle.bridge_api.specs.Graph.{planned_for, own_path}
use Rattle.bridge_api.specs.Laws.{HasConfig, IsSoundView}
use Rattle.bridge_api.proofs.Saying.{vids_are_apart}
use Rattle.bridge_api.proofs.GraphRead.{reads_each_once}
use Rattle.bridge_api.proofs.OwnRead.{own_ports_are_apart}
use Rattle.bridge_control.specs.declared.machine.Machine.{Machine}
use Rattle.bridge_control.specs.Machine.{view_of}
use Rattle.bridge_control.specs.Kept.{AreOwn}
use Rattle.bridge_control.specs.Plane.{Plane, plane_of}

-- ---- one entry more

take_suc : {X : Type 0} (es : List X) (k : ℕ) (e : X) → slice_get es k ≡ Some e → take (suc k) es ≡ take k es ++ e ∷ []
take_suc [] k e is = absurd (cc)
take_suc (d ∷ es) zero e is = let same : d ≡ e = cc in ap (λ x. x ∷ []) same
take_suc (d ∷ es) (suc k) e is = ap (λ xs. d ∷ xs) (take_suc es k e is)

take_past : {X : Type 0} (es : List X) (k : ℕ) → slice_get es k ≡ None → take (suc k) es ≡ take k es
take_past [] zero is = refl
take_past [] (suc k) is = refl
take_past (d ∷ es) zero is = absurd (cc)
take_past (d ∷ es) (suc k) is = ap (λ xs. d ∷ xs) (take_past es k is)

one_listed : {Y : Type 0} (o : Option Y) → cons_option o [] ≡ option_to_list o
one_listed None = refl
one_listed (Some y) = refl

pub read_one : {X Y : Type 0} (f : X → Option Y) (x : X) → filter_map f (x ∷ []) ≡ option_to_list (f x)
read_one f x = one_listed (f x)

pub read_more : {X Y : Type 0} (f : X → Option Y) (es : List X) (k : ℕ) (e : X) (old new : List Y) → slice_get es k ≡ Some e
    → old ≡ filter_map f (take k es) → new ≡ old ++ option_to_list (f e) → new ≡ filter_map f (take (k + 1) es)
read_more f es k e old new is was put =
    put ∙ (ap (λ (ys : List _). ys ++ option_to_list (f e)) was ∙ (ap (λ (ys : List _). filter_map f (take k es) ++ ys) (sym (read_one f e))
    ∙ (sym (filter_map-append f (take k es) (e ∷ [])) ∙ (ap (filter_map f) (sym (take_suc es k e is)) ∙ ap (λ (n : ℕ). filter_map f (take n es)) (sym (add-one k))))))

pub read_past : {X Y : Type 0} (f : X → Option Y) (es : List X) (k : ℕ) (old new : List Y) → slice_get es k ≡ None
    → old ≡ filter_map f (take k es) → new ≡ old → new ≡ filter_map f (take (k + 1) es)
read_past f es k old new is was put =
    put ∙ (was ∙ (ap (filter_map f) (sym (take_past es k is)) ∙ ap (λ (n : ℕ). filter_map f (take n es)) (sym (add-one k))))

at_most_one : {Y : Type 0} (o : Option Y) → length (option_to_list o) ≤ 1
at_most_one None = omega arith
at_most_one (Some y) = omega arith

pub more_read : {Y : Type 0} (old new : List Y) (o : Option Y) (k : ℕ) → new ≡ old ++ option_to_list o → length old ≤ k → length new ≤ k + 1
more_read old new o k put few = omega (arith, ap length put, length-append old (option_to_list o), at_most_one o, few)

-- ---- the conditions of the tables

pub plans_are : (v : BridgeView) → HasConfig v → ArePlans v.vids
plans_are v config = record {
  ects = weaker IsTree (λ p. (1 ≤ p.ect) × (p.ect ≤ GREATEST_ECT)) v.vids (λ p is. (is.ect_low, is.ect_high)) config.each_vid;
  apart = vids_are_apart v.vids config.vids_apart;
}

pub read_apart : (v : BridgeView) (list : Contents) → list ≡ contents_of v → IsDistinct (systems_in list)
read_apart v list is = subst (λ (l : Contents). IsDistinct (systems_in l)) (sym is) (reads_each_once v)

pub read_own_ports : (v : BridgeView) (list : Contents) → IsSoundView v → list ≡ contents_of v → HasOwnPorts list v.id.system
read_own_ports v list sound is = subst (λ (l : Contents). HasOwnPorts l v.id.system) (sym is) (own_ports_are_apart v sound)

-- ---- the graph

pub graph_is : {E : Type 0} (v : BridgeView) (list : Contents) (r : Result Graph E) → list ≡ contents_of v → IfOk r (λ g. g ≡ said_graph list) → IfOk r (λ g. g ≡ read_graph v)
graph_is v list (Ok g) read is = is ∙ ap said_graph read
graph_is v list (Err e) read is = is

pub graph_valid : {E : Type 0} (v : BridgeView) (list : Contents) (r : Result Graph E) → HasOwnPorts list v.id.system → IfOk r (λ g. (x : SystemId) → HasOwnPorts list x → IsValidFor g x) → IfOk r (λ g. IsValidFor g v.id.system)
graph_valid v list (Ok g) own is = is v.id.system own
graph_valid v list (Err e) own is = is

-- ---- the tables

tables_in : Graph → SystemId → List VidPlan → Tables
tables_in g me vids = record { unicast = unicast_rows g me vids; group = group_rows g me vids }

tables_are : (v : BridgeView) (g : Graph) (vids : List VidPlan) → g ≡ read_graph v → vids ≡ v.vids → tables_in g v.id.system vids ≡ own_tables v
unfolding own_tables tables_in
tables_are v g vids graph same = λ i. tables_in (graph i) v.id.system (same i)

pub tables_read : {E : Type 0} (v : BridgeView) (g : Graph) (vids : List VidPlan) (r : Result Tables E) → g ≡ read_graph v → vids ≡ v.vids
    → IfOk r (λ t. t ≡ record { unicast = unicast_rows g v.id.system vids; group = group_rows g v.id.system vids }) → IfOk r (λ t. t ≡ own_tables v)
unfolding tables_in
tables_read v g vids (Ok t) graph same is = is ∙ tables_are v g vids graph same
tables_read v g vids (Err e) graph same is = is

-- whether the bridge is failed says nothing of its tables
tables_unfailed : (failed : Bool) (v : BridgeView) → own_tables v ≡ own_tables (record v { failed = failed })
unfolding own_tables
tables_unfailed failed v = refl

pub tables_shown : {E : Type 0} (blank failed : Bool) (m : Machine) (plane : Plane) (r : Result Tables E) → plane_of blank failed m ≡ plane
    → IfOk r (λ t. t ≡ own_tables (view_of m)) → IfOk r (λ t. t ≡ own_tables plane.view)
tables_shown blank failed m plane (Ok t) same is = is ∙ (tables_unfailed failed (view_of m) ∙ ap (λ (x : Plane). own_tables x.view) same)
tables_shown blank failed m plane (Err e) same is = is

-- tables that are kept
pub kept_shown : (blank failed : Bool) (m : Machine) (plane : Plane) (kept : Tables) → plane_of blank failed m ≡ plane → AreOwn (view_of m) (Some kept) → kept ≡ own_tables plane.view
kept_shown blank failed m plane kept same own = own ∙ (tables_unfailed failed (view_of m) ∙ ap (λ (x : Plane). own_tables x.view) same)

pub copy_shown : {E : Type 0} (v : BridgeView) (kept : Tables) (r : Result Tables E) → kept ≡ own_tables v → IfOk r (λ t. t ≡ kept) → IfOk r (λ t. t ≡ own_tables v)
copy_shown v kept (Ok t) own is = is ∙ own
copy_shown v kept (Err e) own is = is

-- ---- a path

-- what is planned for a VID has the number of an ECT algorithm
tree_by : (b : Bool) (x p : VidPlan) (rest : Option VidPlan) → IsTree x → (rest ≡ Some p → IsTree p) → cond b (Some x) rest ≡ Some p → IsTree p
tree_by true x p rest tree later is = let same : x ≡ p = cc in subst IsTree same tree
tree_by false x p rest tree later is = later is

pub planned_tree : (plans : List VidPlan) (vid : Vid) (p : VidPlan) → AllByRecursion IsTree plans → planned_for plans vid ≡ Some p → IsTree p
planned_tree [] vid p all is = absurd cc
planned_tree (x ∷ plans) vid p all is = tree_by (x.vid.value == vid.value) x p (planned_for plans vid) all.0 (planned_tree plans vid p all.1) is

pub path_none : (v : BridgeView) (to : SystemId) (vid : Vid) → planned_for v.vids vid ≡ None → None ≡ own_path v to vid
unfolding own_path
path_none v to vid none = sym (ap (option_and_then (λ plan. best_path (read_graph v) (mask_of plan.ect) v.id.system to)) none)

pub path_found : {E : Type 0} (v : BridgeView) (to : SystemId) (vid : Vid) (plan : VidPlan) (r : Result (Option Path) E) → planned_for v.vids vid ≡ Some plan
    → IfOk r (λ path. path ≡ best_path (read_graph v) (mask_of plan.ect) v.id.system to) → IfOk r (λ path. path ≡ own_path v to vid)
unfolding own_path
path_found v to vid plan (Ok path) planned is = is ∙ sym (ap (option_and_then (λ p. best_path (read_graph v) (mask_of p.ect) v.id.system to)) planned)
path_found v to vid plan (Err e) planned is = is

-- a path in the graph that was read
pub path_read : {E : Type 0} (v : BridgeView) (g : Graph) (mask : ℕ) (to : SystemId) (r : Result (Option Path) E) → g ≡ read_graph v
    → IfOk r (λ path. path ≡ best_path g mask v.id.system to) → IfOk r (λ path. path ≡ best_path (read_graph v) mask v.id.system to)
path_read v g mask to (Ok path) graph is = is ∙ ap (λ (h : Graph). best_path h mask v.id.system to) graph
path_read v g mask to (Err e) graph is = is

-- whether the bridge is failed says nothing of its paths
path_unfailed : (failed : Bool) (v : BridgeView) (to : SystemId) (vid : Vid) → own_path v to vid ≡ own_path (record v { failed = failed }) to vid
unfolding own_path
path_unfailed failed v to vid = refl

pub path_shown : {E : Type 0} (blank failed : Bool) (m : Machine) (plane : Plane) (to : SystemId) (vid : Vid) (r : Result (Option Path) E) → plane_of blank failed m ≡ plane
    → IfOk r (λ path. path ≡ own_path (view_of m) to vid) → IfOk r (λ path. path ≡ own_path plane.view to vid)
path_shown blank failed m plane to vid (Ok path) same is = is ∙ (path_unfailed failed (view_of m) to vid ∙ ap (λ (x : Plane). own_path x.view to vid) same)
path_shown blank failed m plane to vid (Err e) same is = is

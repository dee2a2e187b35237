-- Paths that are kept: under which masks they serve, and what follows on them.
use Rattle.std.proofs.Common.{◌≡◌, ◌≢◌, ℕ, ◌⊎◌, inl, inr, Bool, true, false, eqb-true, List, get_or, Option, option_map, Result, Ok, Err, IfOk, refl, sym, ap, ◌∙◌, subst}
use Rattle.std.specs.Prelude.{◌==◌, ◌&&◌, ◌||◌, length}
use Rattle.std.specs.Global.{Vec}
use Rattle.spb_types.specs.declared.address.SystemId.{SystemId}
use Rattle.spb_types.specs.Graph.{IsValid}
use Rattle.spb_types.specs.declared.graph.Graph.{Graph}
use Rattle.spb_types.specs.declared.graph.GraphBridge.{GraphBridge}
use Rattle.spb_types.specs.declared.tables.Path.{Path}
use Rattle.ect_trees.specs.declared.mesh.Mesh.{Mesh}
use Rattle.ect_trees.specs.declared.routes.Form.{Form}
use Rattle.ect_trees.specs.declared.routes.Routes.{Routes}
use Rattle.ect_trees.specs.declared.trial.Verdict.{Verdict}
use Rattle.ect_trees.specs.declared.ways.Step.{Step}
use Rattle.ect_trees.specs.Arcs.{IsBridgeAt}
use Rattle.ect_trees.specs.Followers.{IsFollower, IsFollowerAt, FollowsOnWay, NoneOnWays, FollowsInTree}
use Rattle.ect_trees.specs.Best.{best_of}
use Rattle.ect_trees.specs.Path.{cost_of}
use Rattle.ect_trees.specs.Routes.{AreRoutes, AreBestAt, is_untied, is_for_all_masks, serve, LeadBy, NoneLed, IsPathOnWay, PathBy}
use Rattle.ect_trees.specs.Tree.{Paths, GivesBest, path_in, best_path}
use Rattle.ect_trees.specs.Trial.{Covers}
use Rattle.ect_trees.specs.Ways.{way_to}
use Rattle.ect_trees.proofs.Places.{no_bridge, read_bridge}
use Rattle.ect_trees.proofs.Followed.{follower_best, follower_in_best}

-- a verdict that isn't bad holds under its own mask
pub covers_own : (v : Verdict) (mask : ℕ) → v ≢ Verdict.Wrong → Covers mask v mask
covers_own Verdict.Wrong mask fine = absurd (fine refl)
covers_own Verdict.Tied mask fine = refl
covers_own Verdict.Untied mask fine = tt

-- and under another if nothing ties
covers_too : (own mask : ℕ) (v : Verdict) → Covers own v own → (own ≡ mask) ⊎ (v ≡ Verdict.Untied) → Covers own v mask
covers_too own mask v c (inl e) = subst (Covers own v) e c
covers_too own mask v c (inr e) = subst (λ w. Covers own w mask) (sym e) tt

untied_verdict : (v : Verdict) → is_untied v ≡ true → v ≡ Verdict.Untied
untied_verdict Verdict.Untied e = refl
untied_verdict Verdict.Tied e = absurd cc
untied_verdict Verdict.Wrong e = absurd cc

-- when routes serve
serve_parts : (t : Routes) (from mask : ℕ) → serve t from mask ≡ true → (t.from ≡ from) × ((t.mask ≡ mask) ⊎ (is_for_all_masks t.form ≡ true))
serve_parts t from mask e = by (t.from == from) (t.mask == mask) refl refl e
  where
    by : (here own : Bool) → (t.from == from) ≡ here → (t.mask == mask) ≡ own → (here && (own || is_for_all_masks t.form)) ≡ true → (t.from ≡ from) × ((t.mask ≡ mask) ⊎ (is_for_all_masks t.form ≡ true))
    by false own at same e = absurd cc
    by true true at same e = (eqb-true t.from from at, inl (eqb-true t.mask mask same))
    by true false at same e = (eqb-true t.from from at, inr e)

verdict_or_mask : (own mask : ℕ) (v : Verdict) → (own ≡ mask) ⊎ (is_untied v ≡ true) → (own ≡ mask) ⊎ (v ≡ Verdict.Untied)
verdict_or_mask own mask v (inl e) = inl e
verdict_or_mask own mask v (inr e) = inr (untied_verdict v e)

-- on paths that are told by steps
pub led_on_ways : (g : Graph) (t : Routes) (steps : Vec (Option Step)) (v : Verdict) (me to place : ℕ) → t.form ≡ Form.Steps steps v → ((r : Mesh) → FollowsOnWay r steps.items me to place) → LeadBy g t me to place
led_on_ways g t steps v me to place e f = λ from mask routes is a m whence here.
    let best : AreBestAt g t.from t.mask (Form.Steps steps v) = subst (AreBestAt g t.from t.mask) e routes in
    let serves = serve_parts t from mask is in
    let also : (t.mask ≡ mask) ⊎ (v ≡ Verdict.Untied) = verdict_or_mask t.mask mask v (subst (λ w. (t.mask ≡ mask) ⊎ (is_for_all_masks w ≡ true)) e serves.1) in
    let own = best.1 mask (covers_too t.mask mask v best.0 also) in
    let source : IsBridgeAt g t.from a = subst (λ n. IsBridgeAt g n a) (sym serves.0) whence in
    let start : IsBridgeAt own.mesh.graph t.from a = subst (λ h. IsBridgeAt h t.from a) (sym own.graph_is) source in
    let it : IsBridgeAt own.mesh.graph me m = subst (λ h. IsBridgeAt h me m) (sym own.graph_is) here in
    subst (λ h. IsFollower h mask a m to place) own.graph_is
    (follower_best own.mesh steps.items me t.from to mask place a m (own.best a start) it (f own.mesh))

-- no bridge follows on paths that are told by steps
pub none_led : (g : Graph) (t : Routes) (steps : Vec (Option Step)) (v : Verdict) (me : ℕ) → t.form ≡ Form.Steps steps v → NoneOnWays g steps.items me → NoneLed g t me
none_led g t steps v me e f = λ from mask routes is to a m whence here.
    let best : AreBestAt g t.from t.mask (Form.Steps steps v) = subst (AreBestAt g t.from t.mask) e routes in
    let serves = serve_parts t from mask is in
    let also : (t.mask ≡ mask) ⊎ (v ≡ Verdict.Untied) = verdict_or_mask t.mask mask v (subst (λ w. (t.mask ≡ mask) ⊎ (is_for_all_masks w ≡ true)) e serves.1) in
    let own = best.1 mask (covers_too t.mask mask v best.0 also) in
    let source : IsBridgeAt g t.from a = subst (λ n. IsBridgeAt g n a) (sym serves.0) whence in
    let start : IsBridgeAt own.mesh.graph t.from a = subst (λ h. IsBridgeAt h t.from a) (sym own.graph_is) source in
    let it : IsBridgeAt own.mesh.graph me m = subst (λ h. IsBridgeAt h me m) (sym own.graph_is) here in
    subst (λ h. IsFollower h mask a m to (length h.bridges)) own.graph_is
    (follower_best own.mesh steps.items me t.from to mask (length own.mesh.graph.bridges) a m (own.best a start) it (f own.mesh to own.graph_is))

same_mask : (own mask : ℕ) → (own ≡ mask) ⊎ (false ≡ true) → own ≡ mask
same_mask own mask (inl e) = e
same_mask own mask (inr n) = absurd cc

-- on whole paths
pub led_in_tree : (g : Graph) (t : Routes) (tree : Paths) (me to place : ℕ) → t.form ≡ Form.Whole tree → ((m : SystemId) → IsBridgeAt g me m → FollowsInTree g tree m to place) → LeadBy g t me to place
led_in_tree g t tree me to place e f = λ from mask routes is a m whence here.
    let best : AreBestAt g t.from t.mask (Form.Whole tree) = subst (AreBestAt g t.from t.mask) e routes in
    let serves = serve_parts t from mask is in
    let also : (t.mask ≡ mask) ⊎ (false ≡ true) = subst (λ w. (t.mask ≡ mask) ⊎ (is_for_all_masks w ≡ true)) e serves.1 in
    let source : IsBridgeAt g t.from a = subst (λ n. IsBridgeAt g n a) (sym serves.0) whence in
    let gives : GivesBest g mask a tree = subst (λ n. GivesBest g n a tree) (same_mask t.mask mask also) (best a source) in
    follower_in_best g mask a m tree to place gives (f m here)

-- on a path that is searched anew, between the bridges that are read at two places
pub found_anew : {E : Type 0} (g h : Graph) (bs : List GraphBridge) (mask from me to : ℕ) (r : Result ℕ E) → IsValid g → bs ≡ g.bridges → g ≡ h → IfOk r (IsFollower g mask (get_or bs from no_bridge).id.system (get_or bs me no_bridge).id.system to) → IfOk r (IsFollowerAt h mask from me to)
found_anew g h bs mask from me to (Err e) valid read same f = tt
found_anew g h bs mask from me to (Ok place) valid read same f =
    let at : IsFollowerAt g mask from me to place = λ a m whence here.
    let own : IsFollower g mask (get_or bs from no_bridge).id.system m to place = subst (λ s. IsFollower g mask (get_or bs from no_bridge).id.system s to place) (read_bridge g bs me m valid read here).0 f in
    subst (λ s. IsFollower g mask s m to place) (read_bridge g bs from a valid read whence).0 own in
    subst (λ k. IsFollowerAt k mask from me to place) same at

-- ---- whole paths

-- a path on the way that is told by steps
path_on_ways : (g : Graph) (t : Routes) (steps : Vec (Option Step)) (v : Verdict) (a x : SystemId) (path : Option Path) → t.form ≡ Form.Steps steps v → IsPathOnWay g a steps.items x path → PathBy g t a x path
path_on_ways g t steps v a x path e f = λ from mask routes is whence.
    let best : AreBestAt g t.from t.mask (Form.Steps steps v) = subst (AreBestAt g t.from t.mask) e routes in
    let serves = serve_parts t from mask is in
    let also : (t.mask ≡ mask) ⊎ (v ≡ Verdict.Untied) = verdict_or_mask t.mask mask v (subst (λ w. (t.mask ≡ mask) ⊎ (is_for_all_masks w ≡ true)) e serves.1) in
    let own = best.1 mask (covers_too t.mask mask v best.0 also) in
    let source : IsBridgeAt g t.from a = subst (λ n. IsBridgeAt g n a) (sym serves.0) whence in
    let start : IsBridgeAt own.mesh.graph t.from a = subst (λ h. IsBridgeAt h t.from a) (sym own.graph_is) source in
    let ways = own.best a start in
    let told : way_to g a steps.items x ≡ best_of g mask a x = subst (λ h. way_to h a steps.items x ≡ best_of h mask a x) own.graph_is (ways.1 x) in
    f own.mesh t.from own.graph_is ways.0 ∙ ap (option_map (λ p. record { cost = cost_of g p; bridges = p })) told

-- a whole path of a tree
path_in_tree : (g : Graph) (t : Routes) (tree : Paths) (a x : SystemId) (path : Option Path) → t.form ≡ Form.Whole tree → path ≡ path_in tree.paths x → PathBy g t a x path
path_in_tree g t tree a x path e is_path = λ from mask routes is whence.
    let best : AreBestAt g t.from t.mask (Form.Whole tree) = subst (AreBestAt g t.from t.mask) e routes in
    let serves = serve_parts t from mask is in
    let also : (t.mask ≡ mask) ⊎ (false ≡ true) = subst (λ w. (t.mask ≡ mask) ⊎ (is_for_all_masks w ≡ true)) e serves.1 in
    let source : IsBridgeAt g t.from a = subst (λ n. IsBridgeAt g n a) (sym serves.0) whence in
    let gives : GivesBest g mask a tree = subst (λ n. GivesBest g n a tree) (same_mask t.mask mask also) (best a source) in
    is_path ∙ gives.best x

-- the same of what a call answers
pub paths_on_ways : {E : Type 0} (g : Graph) (t : Routes) (steps : Vec (Option Step)) (v : Verdict) (a x : SystemId) (own : List (Option Step)) (r : Result (Option Path) E) → t.form ≡ Form.Steps steps v → own ≡ steps.items → IfOk r (IsPathOnWay g a own x) → IfOk r (PathBy g t a x)
paths_on_ways g t steps v a x own (Err n) e same f = tt
paths_on_ways g t steps v a x own (Ok path) e same f = path_on_ways g t steps v a x path e (subst (λ s. IsPathOnWay g a s x path) same f)

pub paths_in_tree : {E : Type 0} (g : Graph) (t : Routes) (tree : Paths) (a x : SystemId) (r : Result (Option Path) E) → t.form ≡ Form.Whole tree → IfOk r (λ path. path ≡ path_in tree.paths x) → IfOk r (PathBy g t a x)
paths_in_tree g t tree a x (Err n) e f = tt
paths_in_tree g t tree a x (Ok path) e f = path_in_tree g t tree a x path e f

module _ (g h : Graph) (bs : List GraphBridge) (mask from : ℕ) (x : SystemId) (valid : IsValid g) (read : bs ≡ g.bridges) (same : g ≡ h) where
  -- the source is the bridge that is read at its place
  whence_is : (a : SystemId) → IsBridgeAt h from a → (get_or bs from no_bridge).id.system ≡ a
  whence_is a here = (read_bridge g bs from a valid read (subst (λ k. IsBridgeAt k from a) (sym same) here)).0

  -- a path of routes that are kept
  pub path_kept : {E : Type 0} (t : Routes) (r : Result (Option Path) E) → AreRoutes g t → serve t from mask ≡ true → IfOk r (PathBy g t (get_or bs from no_bridge).id.system x) → IfOk r (λ path. (a : SystemId) → IsBridgeAt h from a → path ≡ best_path h mask a x)
  path_kept t (Err e) routes is by = tt
  path_kept t (Ok path) routes is by = λ a here.
      let own : PathBy g t a x path = subst (λ s. PathBy g t s x path) (whence_is a here) by in
      subst (λ k. path ≡ best_path k mask a x) same (own from mask routes is (subst (λ k. IsBridgeAt k from a) (sym same) here))

  -- a path that is searched anew
  pub path_anew : {E : Type 0} (tree : Paths) (r : Result (Option Path) E) → GivesBest g mask (get_or bs from no_bridge).id.system tree → IfOk r (λ path. path ≡ path_in tree.paths x) → IfOk r (λ path. (a : SystemId) → IsBridgeAt h from a → path ≡ best_path h mask a x)
  path_anew tree (Err e) gives is = tt
  path_anew tree (Ok path) gives is = λ a here.
      let own : GivesBest g mask a tree = subst (λ s. GivesBest g mask s tree) (whence_is a here) gives in
      subst (λ k. path ≡ best_path k mask a x) same (is ∙ own.best x)

-- The bridge that directly follows another on a list of bridges, and on ways.
use Rattle.std.proofs.Common.{◌≡◌, ◌≢◌, ℕ, zero, suc, ◌+◌, ◌<◌, ◌≤◌, ◌==◌, Bool, true, false, if◌then◌else◌, inl, inr, List, [], ◌∷◌, ◌++◌, length, get_or, Option, Some, None, option_map, unwrap_or, refl, sym, ap, ◌∙◌, subst, arith, Bor}
use Rattle.std.specs.Prelude.{IfSome, is_some, option_copied, position, slice_get, nat_lt}
use Rattle.std.specs.List.{position_or_len}
use Rattle.std.proofs.lemmas.Bool.{ltb-true, ltb-false, eqb-false}
use Rattle.std.proofs.lemmas.List.Quantifiers.{position-Some}
use Rattle.std.proofs.lemmas.List.Sums.{fails_before_first}
use Rattle.spb_types.specs.Address.{same_system}
use Rattle.spb_types.specs.Graph.{IsDistinct, systems_of, cost_between}
use Rattle.spb_types.specs.declared.address.SystemId.{SystemId}
use Rattle.spb_types.specs.declared.graph.Graph.{Graph}
use Rattle.spb_types.specs.declared.tables.Path.{Path}
use Rattle.ect_trees.specs.declared.mesh.Arc.{Arc}
use Rattle.ect_trees.specs.declared.mesh.Mesh.{Mesh}
use Rattle.ect_trees.specs.declared.ways.Step.{Step}
use Rattle.ect_trees.specs.Path.{cost_of}
use Rattle.ect_trees.specs.Best.{best_of}
use Rattle.ect_trees.specs.Tree.{Paths, GivesBest}
use Rattle.ect_trees.specs.Arcs.{IsBridgeAt, IsArcAt, AreReady, Leads, rows_of}
use Rattle.ect_trees.specs.Ways.{step_at, before_of, place_before, hops_or, bridge_at, way_back, way_to, AreWays, HasHops}
use Rattle.ect_trees.specs.Followers.{after_in, place_or_end, place_after, IsFollower, FollowsOnWay, is_before, NoneOnWays, FollowsInTree}
use Rattle.ect_trees.proofs.Among.{same_is, same_self, among_right}
use Rattle.ect_trees.proofs.Walks.{path_distinct}
use Rattle.ect_trees.proofs.Places.{at_once, place_is, place_found_at}
use Rattle.ect_trees.proofs.Chained.{bridge_is, is_way, stands, way_is, prior}

-- it stands right behind the first place of m
after_at : (m : SystemId) (p : List SystemId) (i : ℕ) (d : SystemId) → i < length p → same_system (get_or p i d) m ≡ true
    → ((k : ℕ) → k < i → same_system (get_or p k d) m ≡ false) → after_in m p ≡ slice_get p (i + 1)
after_at m [] i d low here before = absurd (omega (arith, low))
after_at m (x ∷ []) zero d low here before = refl
after_at m (x ∷ []) (suc i) d low here before = absurd (omega (arith, low))
after_at m (x ∷ y ∷ ys) zero d low here before = ap (λ b. if b then Some y else after_in m (y ∷ ys)) here
after_at m (x ∷ y ∷ ys) (suc i) d low here before =
    let next : suc (i + 1) ≡ suc i + 1 = omega arith in
    ap (λ b. if b then Some y else after_in m (y ∷ ys)) (before 0 (omega arith))
    ∙ (after_at m (y ∷ ys) i d (omega (arith, low)) here (λ k less. before (suc k) (omega (arith, less)))
    ∙ ap (slice_get (x ∷ y ∷ ys)) next)

after_none : (m : SystemId) (p : List SystemId) → ((k : ℕ) (d : SystemId) → k < length p → same_system (get_or p k d) m ≡ false) → after_in m p ≡ None
after_none m [] h = refl
after_none m (x ∷ []) h = refl
after_none m (x ∷ y ∷ ys) h =
    ap (λ b. if b then Some y else after_in m (y ∷ ys)) (h 0 x (omega arith)) ∙ after_none m (y ∷ ys) (λ k d less. h (suc k) d (omega (arith, less)))

past : (a b : ℕ) (t : Bool) → nat_lt a b ≡ t → (if t then Some a else None) ≡ None → b ≤ a
past a b true e h = cc
past a b false e h = ltb-false a b e

-- the first place of m, and the one behind it
pub after_place : (m : SystemId) (p : List SystemId) (i : ℕ) → position (λ b. same_system b m) p ≡ Some i → after_in m p ≡ slice_get p (i + 1)
after_place m p i e =
    let none : SystemId = record { mac = record { bytes = [] } } in
    let first = position-Some (λ b. same_system b m) p i none e in
    after_at m p i none first.0 first.1 first.2

pub after_nowhere : (m : SystemId) (p : List SystemId) → position (λ b. same_system b m) p ≡ None → after_in m p ≡ None
after_nowhere m p e =
    let test : SystemId → Bool = λ b. same_system b m in
    let all : length p ≤ position_or_len test p = past (position_or_len test p) (length p) (nat_lt (position_or_len test p) (length p)) refl e in
    after_none m p (λ k d less. fails_before_first test p k d (omega (arith, less, all)))

get_some : (xs : List SystemId) (i : ℕ) (v : SystemId) → i < length xs → v ≡ get_or xs i v → slice_get xs i ≡ Some v
get_some [] i v low e = absurd (omega (arith, low))
get_some (y ∷ ys) zero v low e = ap Some (sym e)
get_some (y ∷ ys) (suc i) v low e = get_some ys i v (omega (arith, low)) e

get_none : (xs : List SystemId) (i : ℕ) → length xs ≤ i → slice_get xs i ≡ None
get_none [] i past = refl
get_none (y ∷ ys) zero past = absurd (omega (arith, past))
get_none (y ∷ ys) (suc i) past = get_none ys i (omega (arith, past))

-- what a look-up by index copies
pub copied_get : (xs : List SystemId) (i : ℕ) (r : Option (Bor SystemId)) → is_some r ≡ nat_lt i (length xs) → IfSome r (λ x. x.now ≡ get_or xs i x.now) → option_copied r ≡ slice_get xs i
copied_get xs i None h k = sym (get_none xs i (ltb-false i (length xs) (sym h)))
copied_get xs i (Some x) h k = sym (get_some xs i x.now (ltb-true i (length xs) (sym h)) k)

-- ---- on ways

-- at the end of a list, the last bridge follows the last but one
pub after_end : (m w x : SystemId) (p : List SystemId) → IsDistinct (p ++ w ∷ []) → after_in m ((p ++ w ∷ []) ++ x ∷ []) ≡ (if same_system w m then Some x else after_in m (p ++ w ∷ []))
after_end m w x [] d = refl
after_end m w x (z ∷ []) d = by (same_system z m) (same_system w m) refl refl
  where
    by : (s t : Bool) → same_system z m ≡ s → same_system w m ≡ t → (if s then Some w else (if t then Some x else None)) ≡ (if t then Some x else (if s then Some w else None))
    by true true a b = absurd (d.0 (inl (same_is z m a ∙ sym (same_is w m b))))
    by true false a b = refl
    by false true a b = refl
    by false false a b = refl
after_end m w x (z ∷ y ∷ p) d = by (same_system z m) (same_system w m) refl refl (after_end m w x (y ∷ p) d.1)
  where
    by : (s t : Bool) → same_system z m ≡ s → same_system w m ≡ t → after_in m (((y ∷ p) ++ w ∷ []) ++ x ∷ []) ≡ (if same_system w m then Some x else after_in m ((y ∷ p) ++ w ∷ [])) → (if s then Some y else after_in m (((y ∷ p) ++ w ∷ []) ++ x ∷ [])) ≡ (if t then Some x else (if s then Some y else after_in m ((y ∷ p) ++ w ∷ [])))
    by true true a b ih = absurd (d.0 (among_right z (y ∷ p) (w ∷ []) (inl (same_is z m a ∙ sym (same_is w m b)))))
    by true false a b ih = refl
    by false t a b ih = ih ∙ ap (λ u. if u then Some x else after_in m ((y ∷ p) ++ w ∷ [])) b

-- a way ends with the bridge at its place
way_ends : (g : Graph) (a : SystemId) (steps : List (Option Step)) (n place : ℕ) → (p : List SystemId) × (way_back g a steps n place ≡ p ++ bridge_at g a place ∷ [])
way_ends g a steps zero place = ([], refl)
way_ends g a steps (suc n) place = (way_back g a steps n (place_before steps place), refl)

-- what follows m on a way of one hop more
after_one : (r : Mesh) (from : ℕ) (a : SystemId) (steps : List (Option Step)) → AreWays r from a steps → (n place : ℕ) (m : SystemId) → HasHops steps (suc n) place → after_in m (way_back r.graph a steps (suc n) place) ≡ (if same_system (bridge_at r.graph a (place_before steps place)) m then Some (bridge_at r.graph a place) else after_in m (way_back r.graph a steps n (place_before steps place)))
after_one r from a steps w n place m h =
    let g = r.graph in
    let before = place_before steps place in
    let k = prior r from a steps w n place h in
    let x = stands r from a steps w before k.0 k.1 in
    let way = is_way r from a steps w n before k.0 x.0 k.1 k.2 x.1 in
    let ends = way_ends g a steps n before in
    let distinct : IsDistinct (ends.0 ++ bridge_at g a before ∷ []) = subst IsDistinct ends.1 (path_distinct g a x.0 (way_back g a steps n before) way.path) in
    ap (λ t. after_in m (t ++ bridge_at g a place ∷ [])) ends.1 ∙
    (after_end m (bridge_at g a before) (bridge_at g a place) ends.0 distinct ∙
    ap (λ t. if same_system (bridge_at g a before) m then Some (bridge_at g a place) else after_in m t) (sym ends.1))

-- the bridge at a place is m where m stands there, and nowhere else
is_m : (r : Mesh) (from : ℕ) (a : SystemId) (steps : List (Option Step)) → AreWays r from a steps → (place me n : ℕ) (m : SystemId) → IsBridgeAt r.graph me m → place ≡ me → same_system (bridge_at r.graph a place) m ≡ true
is_m r from a steps w place me n m here e =
    let own : bridge_at r.graph a place ≡ m = ap (bridge_at r.graph a) e ∙ bridge_is r.graph a m me here in
    ap (λ t. same_system t m) own ∙ same_self m

not_m : (r : Mesh) (from : ℕ) (a : SystemId) (steps : List (Option Step)) → AreWays r from a steps → (place me n : ℕ) (m : SystemId) → IsBridgeAt r.graph me m → HasHops steps n place → place ≢ me → same_system (bridge_at r.graph a place) m ≡ false
not_m r from a steps w place me n m here h other = by (same_system (bridge_at r.graph a place) m) refl
  where
    by : (t : Bool) → same_system (bridge_at r.graph a place) m ≡ t → t ≡ false
    by false e = refl
    by true e =
        let x = stands r from a steps w place h.0 h.1 in
        let same : x.0 ≡ m = sym (bridge_is r.graph a x.0 place x.1) ∙ same_is (bridge_at r.graph a place) m e in
        absurd (other (at_once (systems_of r.graph.bridges) place me m w.ready.valid.apart (subst (IsBridgeAt r.graph place) same x.1) here))

-- what follows m on the way to a place follows it on the way to another, which is walked back to
abbrev pub FollowsBack : Mesh → List (Option Step) → ℕ → ℕ → ℕ → ℕ → ℕ → Type 0
FollowsBack r steps me n to left place = (from : ℕ) (a m : SystemId) → AreWays r from a steps → IsBridgeAt r.graph me m → HasHops steps n to → HasHops steps left place × (after_in m (way_back r.graph a steps n to) ≡ after_in m (way_back r.graph a steps left place))

pub follows_none : (r : Mesh) (steps : List (Option Step)) (me n to : ℕ) → FollowsBack r steps me n to n to
follows_none r steps me n to = λ from a m w here h. (h, refl)

pub follows_more : (r : Mesh) (steps : List (Option Step)) (me n to left next place : ℕ) → left ≡ next + 1 → place_before steps place ≢ me → FollowsBack r steps me n to left place → FollowsBack r steps me n to next (place_before steps place)
follows_more r steps me n to left next place one other f = λ from a m w here h.
    let up : left ≡ suc next = omega (arith, one) in
    let was = f from a m w here h in
    let hops : HasHops steps (suc next) place = subst (λ t. HasHops steps t place) up was.0 in
    let k = prior r from a steps w next place hops in
    let apart = not_m r from a steps w (place_before steps place) me next m here k other in (
      k,
      was.1 ∙ (ap (λ t. after_in m (way_back r.graph a steps t place)) up ∙ (after_one r from a steps w next place m hops ∙ ap (λ t. if t then Some (bridge_at r.graph a place) else after_in m (way_back r.graph a steps next (place_before steps place))) apart)),
    )

-- where m stands nearer to the source than the place before, that isn't its place
pub follows_on : (r : Mesh) (steps : List (Option Step)) (me n to left next place : ℕ) → left ≡ next + 1 → hops_or (step_at steps me) n < next → FollowsBack r steps me n to left place → FollowsBack r steps me n to next (place_before steps place)
follows_on r steps me n to left next place one near f = λ from a m w here h.
    let up : left ≡ suc next = omega (arith, one) in
    let k = prior r from a steps w next place (subst (λ t. HasHops steps t place) up (f from a m w here h).0) in
    let other : place_before steps place ≢ me = λ e.
    let stands_here : step_at steps me ≡ Some k.0 = ap (step_at steps) (sym e) ∙ k.1 in
    absurd (omega (arith, subst (λ o. hops_or o n < next) stands_here near, k.2)) in
    follows_more r steps me n to left next place one other f from a m w here h

-- no way
pub follower_none : (r : Mesh) (steps : List (Option Step)) (me to none : ℕ) → step_at steps to ≡ None → none ≡ length steps → FollowsOnWay r steps me to none
follower_none r steps me to none e all = λ from a m x w here at.
    let place = place_is r.graph to x w.ready.valid at in
    all ∙ (w.places ∙ ap (place_after r.graph m) (sym (ap (λ i. option_map (λ (s : Step). way_back r.graph a steps s.hops i) (step_at steps i)) place ∙ ap (option_map (λ (s : Step). way_back r.graph a steps s.hops to)) e)))

-- where no way to m has fewer hops than this one, nothing follows m on it
nothing_after : (r : Mesh) (from : ℕ) (a : SystemId) (steps : List (Option Step)) → AreWays r from a steps → (n place me : ℕ) (m : SystemId) → IsBridgeAt r.graph me m → HasHops steps n place → ((t : Step) → step_at steps me ≡ Some t → n ≤ t.hops) → after_in m (way_back r.graph a steps n place) ≡ None
nothing_after r from a steps w zero place me m here h high = refl
nothing_after r from a steps w (suc n) place me m here h high =
    let k = prior r from a steps w n place h in
    let other : place_before steps place ≢ me = λ e. absurd (omega (arith, high k.0 (ap (step_at steps) (sym e) ∙ k.1), k.2)) in
    let apart = not_m r from a steps w (place_before steps place) me n m here k other in
    after_one r from a steps w n place m h
    ∙ (ap (λ t. if t then Some (bridge_at r.graph a place) else after_in m (way_back r.graph a steps n (place_before steps place))) apart
    ∙ nothing_after r from a steps w n (place_before steps place) me m here k (λ t e. omega (arith, high t e)))

-- as far back as m can stand
pub follower_end : (r : Mesh) (steps : List (Option Step)) (me to left place none : ℕ) (s : Step) → step_at steps to ≡ Some s → FollowsBack r steps me s.hops to left place → left ≤ hops_or (step_at steps me) s.hops → none ≡ length steps → FollowsOnWay r steps me to none
follower_end r steps me to left place none s there f end all = λ from a m x w here at.
    let was = f from a m w here (s, there, refl) in
    let high : (t : Step) → step_at steps me ≡ Some t → left ≤ t.hops = λ t e. subst (λ o. left ≤ hops_or o s.hops) e end in
    let nothing : after_in m (way_back r.graph a steps s.hops to) ≡ None = was.1 ∙ nothing_after r from a steps w left place me m here was.0 high in
    all ∙ (w.places ∙ (ap (place_or_end r.graph) (sym nothing) ∙ ap (place_after r.graph m) (sym (way_is r from a steps w to s x there at))))

-- at a place behind m
pub follower_found : (r : Mesh) (steps : List (Option Step)) (me to left place : ℕ) (s : Step) → step_at steps to ≡ Some s → FollowsBack r steps me s.hops to left place → 0 < left → place_before steps place ≡ me → FollowsOnWay r steps me to place
follower_found r steps me to zero place s there f some same = absurd (omega (arith, some))
follower_found r steps me to (suc left) place s there f some same = λ from a m x w here at.
    let was = f from a m w here (s, there, refl) in
    let y = stands r from a steps w place was.0.0 was.0.1 in
    let own : bridge_at r.graph a place ≡ y.0 = bridge_is r.graph a y.0 place y.1 in
    let it = is_m r from a steps w (place_before steps place) me left m here same in
    let next : after_in m (way_back r.graph a steps s.hops to) ≡ Some y.0 =
    was.1 ∙ (after_one r from a steps w left place m was.0 ∙ (ap (λ t. if t then Some (bridge_at r.graph a place) else after_in m (way_back r.graph a steps left (place_before steps place))) it ∙ ap Some own)) in
    let found = place_found_at r.graph place y.0 w.ready.valid y.1 in
    ap (λ o. unwrap_or o (length r.graph.bridges)) (sym found) ∙ (ap (place_or_end r.graph) (sym next) ∙ ap (place_after r.graph m) (sym (way_is r from a steps w to s x there at)))

-- where no step of a way leads on from the place of m, nothing follows m on it
never_after : (r : Mesh) (from : ℕ) (a : SystemId) (steps : List (Option Step)) → AreWays r from a steps → (n place me : ℕ) (m : SystemId) → IsBridgeAt r.graph me m → HasHops steps n place → ((k p : ℕ) → HasHops steps (suc k) p → place_before steps p ≢ me) → after_in m (way_back r.graph a steps n place) ≡ None
never_after r from a steps w zero place me m here h never = refl
never_after r from a steps w (suc n) place me m here h never =
    let k = prior r from a steps w n place h in
    let apart = not_m r from a steps w (place_before steps place) me n m here k (never n place h) in
    after_one r from a steps w n place m h
    ∙ (ap (λ t. if t then Some (bridge_at r.graph a place) else after_in m (way_back r.graph a steps n (place_before steps place))) apart
    ∙ never_after r from a steps w n (place_before steps place) me m here k never)

-- a step that leads on from a place ends where an arc from there does, in each mesh of the graph
leads_along : (own r : Mesh) (from : ℕ) (a : SystemId) (steps : List (Option Step)) (me : ℕ) → AreReady own → AreWays r from a steps → r.graph ≡ own.graph → ((number : ℕ) (arc : Arc) → IsArcAt (rows_of own) me number arc → is_before (step_at steps arc.to) me ≡ false) → (k p : ℕ) → HasHops steps (suc k) p → place_before steps p ≢ me
leads_along own r from a steps me ready w same none k p h before = elim (w.each p h.0 h.1) [
  | inl start ↦ (let long = h.2 in absurd (omega (arith, start.no_hop, long)))
  | inr o ↦
      let lead = w.ready.lead h.0.before h.0.number o.arc o.listed in
      let go : Leads r.graph o.arc lead.1.0 lead.1.1 = lead.1.2 in
      let leaves : h.0.before ≡ me = sym (ap before_of h.1) ∙ before in
      let at : IsBridgeAt own.graph me lead.1.0 = subst (λ g. IsBridgeAt g me lead.1.0) same (subst (λ n. IsBridgeAt r.graph n lead.1.0) (lead.0 ∙ leaves) go.from) in
      let joined : cost_between own.graph lead.1.0 lead.1.1 ≡ Some o.arc.cost = subst (λ g. cost_between g lead.1.0 lead.1.1 ≡ Some o.arc.cost) same go.cost in
      let other = ready.go lead.1.0 lead.1.1 me o.arc.cost joined at in
      let end : other.1.to ≡ o.arc.to = at_once (systems_of own.graph.bridges) other.1.to o.arc.to lead.1.1 ready.valid.apart other.3.to (subst (λ g. IsBridgeAt g o.arc.to lead.1.1) same go.to) in
      let read : (h.0.before == me) ≡ false = sym (ap (λ t. is_before t me) (ap (step_at steps) (end ∙ o.to) ∙ h.1)) ∙ none other.0 other.1 other.2 in
      eqb-false h.0.before me read leaves
]

-- where none of the arcs from the place me leads to a step that leads on from there, no bridge follows
pub none_follows : (own : Mesh) (steps : List (Option Step)) (me : ℕ) → AreReady own → ((number : ℕ) (arc : Arc) → IsArcAt (rows_of own) me number arc → is_before (step_at steps arc.to) me ≡ false) → NoneOnWays own.graph steps me
none_follows own steps me ready none = λ r to same from a m x w here at. by r to same from a m x w here at (step_at steps to) refl
  where
    by : (r : Mesh) (to : ℕ) → r.graph ≡ own.graph → (from : ℕ) (a m x : SystemId) → AreWays r from a steps → IsBridgeAt r.graph me m → IsBridgeAt r.graph to x → (o : Option Step) → step_at steps to ≡ o → length r.graph.bridges ≡ place_after r.graph m (way_to r.graph a steps x)
    by r to same from a m x w here at None e = sym w.places ∙ follower_none r steps me to (length steps) e refl from a m x w here at
    by r to same from a m x w here at (Some s) e =
        let nothing : after_in m (way_back r.graph a steps s.hops to) ≡ None = never_after r from a steps w s.hops to me m here (s, e, refl) (leads_along own r from a steps me ready w same none) in
        ap (place_or_end r.graph) (sym nothing) ∙ ap (place_after r.graph m) (sym (way_is r from a steps w to s x e at))

-- on best ways
pub follower_best : (r : Mesh) (steps : List (Option Step)) (me from to mask place : ℕ) (a m : SystemId) → AreWays r from a steps × ((x : SystemId) → way_to r.graph a steps x ≡ best_of r.graph mask a x) → IsBridgeAt r.graph me m → FollowsOnWay r steps me to place → IsFollower r.graph mask a m to place
follower_best r steps me from to mask place a m best here f = λ x at. f from a m x best.0 here at ∙ ap (place_after r.graph m) (best.1 x)

-- ---- on the paths of a tree

on_path : (g : Graph) (m : SystemId) (o : Option (List SystemId)) → place_after g m (option_map (λ (p : Path). p.bridges) (option_map (λ p. record { cost = cost_of g p; bridges = p }) o)) ≡ place_after g m o
on_path g m None = refl
on_path g m (Some p) = refl

pub follower_in_best : (g : Graph) (mask : ℕ) (source m : SystemId) (tree : Paths) (to place : ℕ) → GivesBest g mask source tree → FollowsInTree g tree m to place → IsFollower g mask source m to place
follower_in_best g mask source m tree to place gives f = λ x at.
    f x at ∙ (ap (λ o. place_after g m (option_map (λ (p : Path). p.bridges) o)) (gives.best x) ∙ on_path g m (best_of g mask source x))

-- The link between two bridges: there is one, and the wiring has its edge.
use Rattle.std.proofs.Common.{◌≡◌, ◌≢◌, inl, inr, ℕ, zero, suc, ◌<◌, length, Bool, true, false, true≢false, ◌||◌, List, [], ◌∷◌, Some, None, find, cond, slice_get, if◌then◌else◌, refl, sym, ap, ◌∙◌, subst}
use Rattle.std.proofs.lemmas.Bool.{eq-eqb}
use Rattle.spb_types.specs.Graph.{joins}
use Rattle.spb_types.specs.declared.address.SystemId.{SystemId}
use Rattle.spb_types.specs.declared.graph.Edge.{Edge}
use Rattle.spb_types.specs.declared.link.Dir.{Dir}
use Rattle.spb_types.specs.declared.link.Dir.TheVariants.{Ab, Ba}
use Rattle.ect_trees.proofs.Among.{same_self}
use Rattle.ect_trees.proofs.Members.{Has}
use Rattle.ect_trees.proofs.Steps.{joins_is}
use Rattle.fdb_build.proofs.AscendLemmas.{filter_map_has, has_filter_map}
use Rattle.spb_world.specs.declared.declaration.DeclaredLink.{DeclaredLink}
use Rattle.spb_world.specs.World.{Bridges, IsLink, AreApart, AllApart, World, Sound, system_at, edge_of, live_edge, is_between, things_of, world_graph}
use Rattle.spb_world.specs.Links.{near_end, far_end}
use Rattle.spb_world.proofs.BoxLemmas.{All-get}
use Rattle.spb_world.proofs.ValidLemmas.{place_from}

-- ---- places in lists

pub has_place : {X : Type 0} (x : X) (xs : List X) → Has x xs → (k : ℕ) × (slice_get xs k ≡ Some x)
has_place x [] h = absurd h
has_place x (y ∷ ys) (inl e) = (zero, ap Some (sym e))
has_place x (y ∷ ys) (inr h) = let r = has_place x ys h in (suc r.0, r.1)

pub place_has : {X : Type 0} (xs : List X) (k : ℕ) (x : X) → slice_get xs k ≡ Some x → Has x xs
place_has [] k x h = absurd cc
place_has (y ∷ ys) zero x h = let same : Some y ≡ Some x = h in inl cc
place_has (y ∷ ys) (suc k) x h = inr (place_has ys k x h)

-- what a search finds stands in the list and passes
pub find_in : {X : Type 0} (p : X → Bool) (xs : List X) (x : X) → find p xs ≡ Some x → Has x xs × (p x ≡ true)
find_in p [] x h = absurd cc
find_in p (y ∷ ys) x h = at (p y) refl h (find_in p ys x)
  where
    at : (b : Bool) → p y ≡ b → cond b (Some y) (find p ys) ≡ Some x → (find p ys ≡ Some x → Has x ys × (p x ≡ true)) → Has x (y ∷ ys) × (p x ≡ true)
    at true e k r = let same : y ≡ x = cc in (inl (sym same), ap p (sym same) ∙ e)
    at false e k r = let s = r k in (inr s.0, s.1)

-- it finds the only one that passes
pub find_only : {X : Type 0} (p : X → Bool) (xs : List X) (x : X) → Has x xs → p x ≡ true → ((y : X) → Has y xs → p y ≡ true → y ≡ x) → find p xs ≡ Some x
find_only p [] x h passes only = absurd h
find_only p (y ∷ ys) x h passes only = at (p y) refl h (λ k. find_only p ys x k passes (λ z i t. only z (inr i) t))
  where
    at : (b : Bool) → p y ≡ b → Has x (y ∷ ys) → (Has x ys → find p ys ≡ Some x) → cond b (Some y) (find p ys) ≡ Some x
    at true e k r = ap Some (only y (inl refl) e)
    at false e (inl same) r = absurd (true≢false (sym passes ∙ (ap p same ∙ e)))
    at false e (inr k) r = r k

-- ---- two links between the same bridges are one

or_true : (b : Bool) → (b || true) ≡ true
or_true true = refl
or_true false = refl

pub between : (d e : Dir) (l m : DeclaredLink) → (near_end d l).bridge ≡ (near_end e m).bridge → (far_end d l).bridge ≡ (far_end e m).bridge → is_between l m.a.bridge m.b.bridge ≡ true
between Ab Ab l m near far = rw (eq-eqb l.a.bridge m.a.bridge near, eq-eqb l.b.bridge m.b.bridge far) refl
between Ba Ba l m near far = rw (eq-eqb l.a.bridge m.a.bridge far, eq-eqb l.b.bridge m.b.bridge near) refl
between Ab Ba l m near far = rw (eq-eqb l.a.bridge m.b.bridge near, eq-eqb l.b.bridge m.a.bridge far) (or_true _)
between Ba Ab l m near far = rw (eq-eqb l.a.bridge m.b.bridge far, eq-eqb l.b.bridge m.a.bridge near) (or_true _)

pub one_link : (ls : List DeclaredLink) (k n : ℕ) (d e : Dir) (l m : DeclaredLink) → AllApart ls → slice_get ls k ≡ Some l → slice_get ls n ≡ Some m → (near_end d l).bridge ≡ (near_end e m).bridge → (far_end d l).bridge ≡ (far_end e m).bridge → l ≡ m
one_link [] k n d e l m apart at_l at_m near far = absurd cc
one_link (h ∷ ls) zero zero d e l m apart at_l at_m near far = cc
one_link (h ∷ ls) zero (suc n) d e l m apart at_l at_m near far =
    let same : h ≡ l = cc in
    absurd (true≢false (sym (between d e l m near far) ∙ (ap (λ x. is_between x m.a.bridge m.b.bridge) (sym same) ∙ (All-get (AreApart h) ls n m apart.0 at_m).bridges)))
one_link (h ∷ ls) (suc k) zero d e l m apart at_l at_m near far =
    let same : h ≡ m = cc in
    absurd (true≢false (sym (between e d m l (sym near) (sym far)) ∙ (ap (λ x. is_between x l.a.bridge l.b.bridge) (sym same) ∙ (All-get (AreApart h) ls k l apart.0 at_l).bridges)))
one_link (h ∷ ls) (suc k) (suc n) d e l m apart at_l at_m near far = one_link ls k n d e l m apart.1 at_l at_m near far

pub same_dir : (d e : Dir) (l : DeclaredLink) → l.a.bridge ≢ l.b.bridge → (near_end d l).bridge ≡ (near_end e l).bridge → d ≡ e
same_dir Ab Ab l apart near = refl
same_dir Ba Ba l apart near = refl
same_dir Ab Ba l apart near = absurd (apart near)
same_dir Ba Ab l apart near = absurd (apart (sym near))

-- ---- the edges of the wiring

-- a link that is up joins two systems
pub record IsLinkOf (w : World) (x y : SystemId) : Type 0 where
  pub place : ℕ
  pub dir : Dir
  pub link : DeclaredLink
  pub there : slice_get (things_of w.links) place ≡ Some link
  pub live : link.live ≡ true
  pub near : system_at w.bridges (near_end dir link).bridge ≡ x
  pub far : system_at w.bridges (far_end dir link).bridge ≡ y

record IsLive (bs : Bridges) (l : DeclaredLink) (f : Edge) : Type 0 where
  live : l.live ≡ true
  is : f ≡ edge_of bs l

live_parts : (bs : Bridges) (l : DeclaredLink) (f : Edge) → live_edge bs l ≡ Some f → IsLive bs l f
live_parts bs l f h = by l.live refl h
  where
    by : (b : Bool) → l.live ≡ b → (if b then Some (edge_of bs l) else None) ≡ Some f → IsLive bs l f
    by true live k = record { live = live; is = cc }
    by false live k = absurd cc

-- an edge that joins two systems is that of such a link
pub record IsEdgeBetween (w : World) (x y : SystemId) (f : Edge) : Type 0 where
  pub link : IsLinkOf w x y
  pub is : f ≡ edge_of w.bridges link.link

edge_in : (w : World) (x y : SystemId) (f : Edge) → Has f (world_graph w).edges → joins f x y ≡ true → IsEdgeBetween w x y f
edge_in w x y f h j =
    let from = filter_map_has (live_edge w.bridges) f (things_of w.links) h in
    let at = has_place from.0 (things_of w.links) from.1 in
    let live = live_parts w.bridges from.0 f from.2 in
    let joined : joins (edge_of w.bridges from.0) x y ≡ true = subst (λ e. joins e x y ≡ true) live.is j in
    elim (joins_is (edge_of w.bridges from.0) x y joined) [
      | inl ends ↦ record { link = record { place = at.0; dir = Ab; link = from.0; there = at.1; live = live.live; near = ends.0; far = ends.1 }; is = live.is }
      | inr ends ↦ record { link = record { place = at.0; dir = Ba; link = from.0; there = at.1; live = live.live; near = ends.1; far = ends.0 }; is = live.is }
    ]

joins_link : (bs : Bridges) (d : Dir) (l : DeclaredLink) → joins (edge_of bs l) (system_at bs (near_end d l).bridge) (system_at bs (far_end d l).bridge) ≡ true
joins_link bs Ab l = rw (same_self (system_at bs l.a.bridge), same_self (system_at bs l.b.bridge)) refl
joins_link bs Ba l = rw (same_self (system_at bs l.a.bridge), same_self (system_at bs l.b.bridge)) (or_true _)

pub near_is : (w : World) → Sound w → (d : Dir) (l : DeclaredLink) → IsLink w.bridges l → (near_end d l).bridge < length w.bridges
near_is w sound Ab l is = is.a.bridge
near_is w sound Ba l is = is.b.bridge

pub far_is : (w : World) → Sound w → (d : Dir) (l : DeclaredLink) → IsLink w.bridges l → (far_end d l).bridge < length w.bridges
far_is w sound Ab l is = is.b.bridge
far_is w sound Ba l is = is.a.bridge

pub is_link : (w : World) → Sound w → (k : ℕ) (l : DeclaredLink) → slice_get (things_of w.links) k ≡ Some l → IsLink w.bridges l
is_link w sound k l at = All-get (IsLink w.bridges) (things_of w.links) k l sound.links at

-- two links between the same systems are one, in the same direction
pub record AreOne (d e : Dir) (l m : DeclaredLink) : Type 0 where
  pub link : l ≡ m
  pub dir : d ≡ e

pub links_one : (w : World) (x y : SystemId) → Sound w → (p q : IsLinkOf w x y) → AreOne p.dir q.dir p.link q.link
links_one w x y sound p q =
    let pl = is_link w sound p.place p.link p.there in
    let ql = is_link w sound q.place q.link q.there in
    let near : (near_end p.dir p.link).bridge ≡ (near_end q.dir q.link).bridge =
    place_from w.bridges sound.systems _ _ (near_is w sound p.dir p.link pl) (near_is w sound q.dir q.link ql) (p.near ∙ sym q.near) in
    let far : (far_end p.dir p.link).bridge ≡ (far_end q.dir q.link).bridge =
    place_from w.bridges sound.systems _ _ (far_is w sound p.dir p.link pl) (far_is w sound q.dir q.link ql) (p.far ∙ sym q.far) in
    let same : p.link ≡ q.link = one_link (things_of w.links) p.place q.place p.dir q.dir p.link q.link sound.links_apart p.there q.there near far in
    record { link = same; dir = same_dir p.dir q.dir q.link ql.apart (ap (λ (l : DeclaredLink). (near_end p.dir l).bridge) (sym same) ∙ near) }

-- the edge of a link is the first that joins its ends
pub edge_found : (w : World) (x y : SystemId) → Sound w → (p : IsLinkOf w x y) → find (λ e. joins e x y) (world_graph w).edges ≡ Some (edge_of w.bridges p.link)
edge_found w x y sound p =
    let edge : Edge = edge_of w.bridges p.link in
    let is_live : live_edge w.bridges p.link ≡ Some edge = ap (λ b. if b then Some (edge_of w.bridges p.link) else None) p.live in
    let joined : joins edge x y ≡ true = subst (λ z. joins edge x z ≡ true) p.far (subst (λ z. joins edge z (system_at w.bridges (far_end p.dir p.link).bridge) ≡ true) p.near (joins_link w.bridges p.dir p.link)) in
    find_only (λ e. joins e x y) (world_graph w).edges edge
    (has_filter_map (live_edge w.bridges) edge (things_of w.links) p.link (place_has (things_of w.links) p.place p.link p.there) is_live)
    joined
    (λ f h j. let r = edge_in w x y f h j in r.is ∙ ap (edge_of w.bridges) (links_one w x y sound r.link p).link)

pub edge_sought : (w : World) (x y : SystemId) (f : Edge) → find (λ e. joins e x y) (world_graph w).edges ≡ Some f → IsEdgeBetween w x y f
edge_sought w x y f h = let r = find_in (λ e. joins e x y) (world_graph w).edges f h in edge_in w x y f r.0 r.1

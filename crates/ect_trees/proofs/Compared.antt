-- Ways compared by their ids, from their ends back to the place where they part.
use Rattle.std.proofs.Common.{◌≡◌, ℕ, zero, suc, ◌+◌, ◌<◌, ◌⊎◌, inl, inr, List, [], ◌∷◌, ◌++◌, length, map, Option, refl, sym, ap, ◌∙◌, subst, arith, append-nil, Ordering}
use Rattle.std.specs.Cmp.Lexicographic.{slice_cmp}
use Rattle.std.proofs.lemmas.List.{map-append, length-map, append_assoc}
use Rattle.spb_types.specs.Graph.{IsValid}
use Rattle.spb_types.specs.declared.address.SystemId.{SystemId}
use Rattle.spb_types.specs.declared.graph.Graph.{Graph}
use Rattle.ect_trees.specs.declared.mesh.Mesh.{Mesh}
use Rattle.ect_trees.specs.declared.ways.Step.{Step}
use Rattle.ect_trees.specs.Key.{id_cmp, masked_id, inserted, sorted_ids}
use Rattle.ect_trees.specs.Arcs.{IsBridgeAt}
use Rattle.ect_trees.specs.Ways.{place_before, bridge_at, way_back, AreWays, HasHops, ids_of, Compares}
use Rattle.ect_trees.proofs.Behind.{behind_fork}
use Rattle.ect_trees.proofs.Chained.{bridge_is, stands, prior}

-- a common front says nothing
pub same_front : (g : Graph) (m : ℕ) (p t u : List SystemId) → length t ≡ length u → slice_cmp id_cmp (ids_of g m (p ++ t)) (ids_of g m (p ++ u)) ≡ slice_cmp id_cmp (ids_of g m t) (ids_of g m u)
same_front g m p t u e =
    let f : SystemId → List ℕ = masked_id g m in
    (λ i. slice_cmp id_cmp (sorted_ids (map-append f p t i)) (sorted_ids (map-append f p u i))) ∙
    behind_fork (map f p) (map f t) (map f u) (length-map t f ∙ (e ∙ sym (length-map u f)))

-- the same of two lists with one front
pub same_fronts : (g : Graph) (m : ℕ) (v w p t u : List SystemId) → v ≡ p ++ t → w ≡ p ++ u → length t ≡ length u → slice_cmp id_cmp (ids_of g m t) (ids_of g m u) ≡ slice_cmp id_cmp (ids_of g m v) (ids_of g m w)
same_fronts g m v w p t u ev ew e = sym ((λ i. slice_cmp id_cmp (ids_of g m (ev i)) (ids_of g m (ew i))) ∙ same_front g m p t u e)

-- one bridge more on the way back
pub one_back : (g : Graph) (a : SystemId) (steps : List (Option Step)) (n place : ℕ) (tail : List SystemId) → way_back g a steps (suc n) place ++ tail ≡ way_back g a steps n (place_before steps place) ++ bridge_at g a place ∷ tail
one_back g a steps n place tail = append_assoc (way_back g a steps n (place_before steps place)) (bridge_at g a place ∷ []) tail

-- ways that part at their last bridge
pub by_last : (g : Graph) (m : ℕ) (a : SystemId) (steps : List (Option Step)) (n p q : ℕ) → place_before steps p ≡ place_before steps q → slice_cmp id_cmp (ids_of g m (bridge_at g a p ∷ [])) (ids_of g m (bridge_at g a q ∷ [])) ≡ slice_cmp id_cmp (ids_of g m (way_back g a steps n p)) (ids_of g m (way_back g a steps n q))
by_last g m a steps zero p q e = refl
by_last g m a steps (suc n) p q e =
    same_fronts g m (way_back g a steps (suc n) p) (way_back g a steps (suc n) q) (way_back g a steps n (place_before steps p)) (bridge_at g a p ∷ []) (bridge_at g a q ∷ []) refl
    (ap (λ t. way_back g a steps n t ++ bridge_at g a q ∷ []) (sym e)) refl

-- and at the last but one
pub by_last_two : (g : Graph) (m : ℕ) (a : SystemId) (steps : List (Option Step)) (n p q : ℕ) → place_before steps (place_before steps p) ≡ place_before steps (place_before steps q) → slice_cmp id_cmp (ids_of g m (bridge_at g a (place_before steps p) ∷ bridge_at g a p ∷ [])) (ids_of g m (bridge_at g a (place_before steps q) ∷ bridge_at g a q ∷ [])) ≡ slice_cmp id_cmp (ids_of g m (way_back g a steps (suc (suc n)) p)) (ids_of g m (way_back g a steps (suc (suc n)) q))
by_last_two g m a steps n p q e =
    same_fronts g m (way_back g a steps (suc (suc n)) p) (way_back g a steps (suc (suc n)) q) (way_back g a steps n (place_before steps (place_before steps p))) _ _
    (one_back g a steps n (place_before steps p) (bridge_at g a p ∷ []))
    (one_back g a steps n (place_before steps q) (bridge_at g a q ∷ []) ∙ ap (λ t. way_back g a steps n t ++ bridge_at g a (place_before steps q) ∷ bridge_at g a q ∷ []) (sym e)) refl

-- what the orders of the last bridges of two ways say of the ways
pub compared_last : (r : Mesh) (m : ℕ) (steps : List (Option Step)) (n p q : ℕ) (order : Ordering) → place_before steps p ≡ place_before steps q → ((x y : SystemId) → IsValid r.graph → IsBridgeAt r.graph p x → IsBridgeAt r.graph q y → order ≡ slice_cmp id_cmp (ids_of r.graph m (x ∷ [])) (ids_of r.graph m (y ∷ []))) → Compares r m steps n p q order
compared_last r m steps n p q order e last = λ from a w h k.
    let x = stands r from a steps w p h.0 h.1 in
    let y = stands r from a steps w q k.0 k.1 in
    let own = bridge_is r.graph a x.0 p x.1 in
    let other = bridge_is r.graph a y.0 q y.1 in
    last x.0 y.0 w.ready.valid x.1 y.1 ∙
    ((λ i. slice_cmp id_cmp (ids_of r.graph m (sym own i ∷ [])) (ids_of r.graph m (sym other i ∷ []))) ∙ by_last r.graph m a steps n p q e)

pub compared_last_two : (r : Mesh) (m : ℕ) (steps : List (Option Step)) (n p q : ℕ) (order : Ordering) → 1 < n → place_before steps (place_before steps p) ≡ place_before steps (place_before steps q) → ((w x v y : SystemId) → IsValid r.graph → IsBridgeAt r.graph (place_before steps p) w → IsBridgeAt r.graph p x → IsBridgeAt r.graph (place_before steps q) v → IsBridgeAt r.graph q y → order ≡ slice_cmp id_cmp (ids_of r.graph m (w ∷ x ∷ [])) (ids_of r.graph m (v ∷ y ∷ []))) → Compares r m steps n p q order
compared_last_two r m steps zero p q order two e last = absurd (omega (arith, two))
compared_last_two r m steps (suc zero) p q order two e last = absurd (omega (arith, two))
compared_last_two r m steps (suc (suc n)) p q order two e last = λ from a ways h k.
    let hp = prior r from a steps ways (suc n) p h in
    let kq = prior r from a steps ways (suc n) q k in
    let x = stands r from a steps ways p h.0 h.1 in
    let y = stands r from a steps ways q k.0 k.1 in
    let w = stands r from a steps ways (place_before steps p) hp.0 hp.1 in
    let v = stands r from a steps ways (place_before steps q) kq.0 kq.1 in
    let ew = sym (bridge_is r.graph a w.0 (place_before steps p) w.1) in
    let ex = sym (bridge_is r.graph a x.0 p x.1) in
    let ev = sym (bridge_is r.graph a v.0 (place_before steps q) v.1) in
    let ey = sym (bridge_is r.graph a y.0 q y.1) in
    last w.0 x.0 v.0 y.0 ways.ready.valid w.1 x.1 v.1 y.1 ∙
    ((λ i. slice_cmp id_cmp (ids_of r.graph m (ew i ∷ ex i ∷ [])) (ids_of r.graph m (ev i ∷ ey i ∷ []))) ∙ by_last_two r.graph m a steps n p q e)

-- a way of n hops to p is walked back to a place: these are the ids of the bridges behind it
pub record IsWalkedBack (g : Graph) (m : ℕ) (a : SystemId) (steps : List (Option Step)) (n p left place : ℕ) (ids : List (List ℕ)) : Type 0 where
  pub tail : List SystemId
  pub whole : way_back g a steps n p ≡ way_back g a steps left place ++ tail
  pub ids_are : ids ≡ ids_of g m tail
  pub few : length tail + left ≡ n
  pub hops : HasHops steps left place

abbrev pub WalksBack : Mesh → ℕ → List (Option Step) → ℕ → ℕ → ℕ → ℕ → List (List ℕ) → Type 0
WalksBack r m steps n p left place ids = (from : ℕ) (a : SystemId) → AreWays r from a steps → HasHops steps n p → IsWalkedBack r.graph m a steps n p left place ids

pub walked_none : (r : Mesh) (m : ℕ) (steps : List (Option Step)) (n p : ℕ) → WalksBack r m steps n p n p []
walked_none r m steps n p = λ from a w h. record { tail = []; whole = sym (append-nil (way_back r.graph a steps n p)); ids_are = refl; few = omega arith; hops = h }

pub walked_more : (r : Mesh) (m : ℕ) (steps : List (Option Step)) (n p left next place : ℕ) (ids more : List (List ℕ)) (id : List ℕ) → left ≡ next + 1 → ((x : SystemId) → IsValid r.graph → IsBridgeAt r.graph place x → id ≡ masked_id r.graph m x) → more ≡ inserted id ids → WalksBack r m steps n p left place ids → WalksBack r m steps n p next (place_before steps place) more
walked_more r m steps n p left next place ids more id one masked put walked = λ from a w h.
    let was : IsWalkedBack r.graph m a steps n p (suc next) place ids = subst (λ t. IsWalkedBack r.graph m a steps n p t place ids) (one ∙ (let s : next + 1 ≡ suc next = omega arith in s)) (walked from a w h) in
    let x = stands r from a steps w place was.hops.0 was.hops.1 in
    let own : bridge_at r.graph a place ≡ x.0 = bridge_is r.graph a x.0 place x.1 in
    let id_is : id ≡ masked_id r.graph m (bridge_at r.graph a place) = masked x.0 w.ready.valid x.1 ∙ ap (masked_id r.graph m) (sym own) in
    record {
      tail = bridge_at r.graph a place ∷ was.tail;
      whole = was.whole ∙ one_back r.graph a steps next place was.tail;
      ids_are = put ∙ (λ i. inserted (id_is i) (was.ids_are i));
      few = omega (arith, was.few);
      hops = prior r from a steps w next place was.hops;
    }

-- where both ways have come back to one place, or to the source, their ids are in order
pub walked_all : (r : Mesh) (m : ℕ) (steps : List (Option Step)) (n p q left place other : ℕ) (ids others : List (List ℕ)) (order : Ordering) → (left ≡ 0) ⊎ (place ≡ other) → WalksBack r m steps n p left place ids → WalksBack r m steps n q left other others → order ≡ slice_cmp id_cmp ids others → Compares r m steps n p q order
walked_all r m steps n p q left place other ids others order ends walked back e = λ from a w h k.
    let f = walked from a w h in
    let b = back from a w k in
    let met : place ≡ other = meet from a w f.hops b.hops ends in
    let long : length f.tail ≡ length b.tail = let x = f.few in let y = b.few in omega (arith, x, y) in
    e ∙ ((λ i. slice_cmp id_cmp (f.ids_are i) (b.ids_are i)) ∙
    same_fronts r.graph m (way_back r.graph a steps n p) (way_back r.graph a steps n q) (way_back r.graph a steps left place) f.tail b.tail f.whole
    (b.whole ∙ ap (λ t. way_back r.graph a steps left t ++ b.tail) (sym met)) long)
  where
    alone : (from : ℕ) (a : SystemId) → AreWays r from a steps → (i : ℕ) → HasHops steps left i → left ≡ 0 → i ≡ from
    alone from a w i h none = elim (w.each i h.0 h.1) [
      | inl start ↦ start.place_is
      | inr o ↦ absurd (omega (arith, o.hops_are, h.2, none))
    ]

    meet : (from : ℕ) (a : SystemId) → AreWays r from a steps → HasHops steps left place → HasHops steps left other → (left ≡ 0) ⊎ (place ≡ other) → place ≡ other
    meet from a w h k (inl none) = alone from a w place h none ∙ sym (alone from a w other k none)
    meet from a w h k (inr met) = met

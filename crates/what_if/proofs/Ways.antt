-- Following entries gives paths.
use Rattle.std.proofs.Common.{◌≡◌, ℕ, zero, suc, ◌<◌, ◌≤◌, List, [], ◌∷◌, ◌++◌, length, Bool, true, false, Option, Some, None, is_some, IsSome, option_map, if◌then◌else◌, inl, inr, ◌⊎◌, refl, sym, ap, subst, ◌∙◌, arith}
use Rattle.std.proofs.lemmas.List.{length-append}
use Rattle.spb_types.specs.Address.{same_system}
use Rattle.spb_types.specs.Graph.{IsAmong, IsBridge, IsValid, cost_between}
use Rattle.spb_types.specs.declared.address.SystemId.{SystemId}
use Rattle.spb_types.specs.declared.graph.Graph.{Graph}
use Rattle.ect_trees.specs.Path.{IsPath}
use Rattle.ect_trees.proofs.Among.{same_is, same_self, among_parts}
use Rattle.ect_trees.proofs.Walks.{cost_comm, path_snoc, path_single}
use Rattle.ect_trees.proofs.Steps.{joined_bridges}
use Rattle.what_if.specs.declared.entry.Entry.{Entry}
use Rattle.what_if.specs.declared.entry.Entry.TheVariants.{Start, Before, Unreached}
use Rattle.what_if.specs.Following.{entry_for, behind, way_within}

-- ---- one step back

-- x is not a, its entry names a neighbour y, and the way is that of y with x behind it
pub record Follows (g : Graph) (es : List Entry) (a : SystemId) (n : ℕ) (x : SystemId) (p : List SystemId) : Type 0 where
  pub y : SystemId
  pub q : List SystemId
  pub entry : entry_for g es x ≡ Before y
  pub joined : IsSome (cost_between g x y)
  pub before : way_within g es a n y ≡ Some q
  pub whole : p ≡ q ++ x ∷ []

pub some_is : {A : Type 0} (x y : A) → Some x ≡ Some y → x ≡ y
some_is x y h = cc

behind_is : (g : Graph) (es : List Entry) (a : SystemId) (n : ℕ) (x : SystemId) (p : List SystemId) (e : Entry) → entry_for g es x ≡ e → behind g (λ y. way_within g es a n y) x e ≡ Some p → Follows g es a n x p
behind_is g es a n x p Start at h = absurd cc
behind_is g es a n x p Unreached at h = absurd cc
behind_is g es a n x p (Before y) at h = by_joined (is_some (cost_between g x y)) refl (way_within g es a n y) refl h
  where
    by_joined : (b : Bool) → is_some (cost_between g x y) ≡ b → (o : Option (List SystemId)) → way_within g es a n y ≡ o → (if b then option_map (λ q. q ++ x ∷ []) o else None) ≡ Some p → Follows g es a n x p
    by_joined false j o w k = absurd cc
    by_joined true j None w k = absurd cc
    by_joined true j (Some q) w k = record { y = y; q = q; entry = at; joined = j; before = w; whole = sym (some_is (q ++ x ∷ []) p k) }

-- a way is a alone, or leads on from another
pub way_cases : (g : Graph) (es : List Entry) (a : SystemId) (n : ℕ) (x : SystemId) (p : List SystemId) → way_within g es a (suc n) x ≡ Some p → ((x ≡ a) × (p ≡ x ∷ [])) ⊎ ((same_system x a ≡ false) × Follows g es a n x p)
way_cases g es a n x p h = by_same (same_system x a) refl h
  where
    by_same : (b : Bool) → same_system x a ≡ b → (if b then Some (x ∷ []) else behind g (λ y. way_within g es a n y) x (entry_for g es x)) ≡ Some p → ((x ≡ a) × (p ≡ x ∷ [])) ⊎ ((same_system x a ≡ false) × Follows g es a n x p)
    by_same true s k = inl (same_is x a s, sym (some_is (x ∷ []) p k))
    by_same false s k = inr (s, behind_is g es a n x p (entry_for g es x) refl k)

pub way_zero : (g : Graph) (es : List Entry) (a : SystemId) (x : SystemId) (p : List SystemId) → way_within g es a zero x ≡ Some p → (x ≡ a) × (p ≡ x ∷ [])
way_zero g es a x p h = by_same (same_system x a) refl h
  where
    by_same : (b : Bool) → same_system x a ≡ b → (if b then Some (x ∷ []) else None) ≡ Some p → (x ≡ a) × (p ≡ x ∷ [])
    by_same true s k = (same_is x a s, sym (some_is (x ∷ []) p k))
    by_same false s k = absurd cc

pub way_start : (g : Graph) (es : List Entry) (a : SystemId) (n : ℕ) → way_within g es a n a ≡ Some (a ∷ [])
way_start g es a zero = rw (same_self a) refl
way_start g es a (suc n) = rw (same_self a) refl

pub way_on : (g : Graph) (es : List Entry) (a : SystemId) (n : ℕ) (x y : SystemId) (q : List SystemId) → same_system x a ≡ false → entry_for g es x ≡ Before y → IsSome (cost_between g x y) → way_within g es a n y ≡ Some q → way_within g es a (suc n) x ≡ Some (q ++ x ∷ [])
way_on g es a n x y q s e j w = rw (s, e, j, w) refl

-- one step more is no harm
pub way_more : (g : Graph) (es : List Entry) (a : SystemId) (n : ℕ) (x : SystemId) (p : List SystemId) → way_within g es a n x ≡ Some p → way_within g es a (suc n) x ≡ Some p
way_more g es a zero x p h = let z = way_zero g es a x p h in subst (λ t. way_within g es a (suc zero) t ≡ Some p) (sym z.0) (way_start g es a (suc zero) ∙ ap Some (ap (λ t. t ∷ []) (sym z.0) ∙ sym z.1))
way_more g es a (suc n) x p h =
    elim (way_cases g es a n x p h) [
      | inl z ↦ subst (λ t. way_within g es a (suc (suc n)) t ≡ Some p) (sym z.0) (way_start g es a (suc (suc n)) ∙ ap Some (ap (λ t. t ∷ []) (sym z.0) ∙ sym z.1))
      | inr f ↦ way_on g es a (suc n) x f.1.y f.1.q f.0 f.1.entry f.1.joined (way_more g es a n f.1.y f.1.q f.1.before) ∙ ap Some (sym f.1.whole)
    ]

-- ---- no bridge stands twice

-- the way of a bridge that stands on the way of another is no longer than that, and shorter unless it is the same one
pub record IsOnWay (g : Graph) (es : List Entry) (a : SystemId) (n : ℕ) (x z : SystemId) (p : List SystemId) : Type 0 where
  pub way : List SystemId
  pub is : way_within g es a n z ≡ Some way
  pub short : (z ≡ x) ⊎ (length way < length p)

snoc-longer : (q : List SystemId) (x : SystemId) (p : List SystemId) → p ≡ q ++ x ∷ [] → length p ≡ suc (length q)
snoc-longer q x p e = let l = length-append q (x ∷ []) in let k : length p ≡ length (q ++ x ∷ []) = ap length e in omega (arith, l, k)

same_length : (q r : List SystemId) → q ≡ r → length q ≤ length r
same_length q r e = let l : length q ≡ length r = ap length e in omega (arith, l)

pub on_way : (g : Graph) (es : List Entry) (a : SystemId) (n : ℕ) (x z : SystemId) (p : List SystemId) → way_within g es a n x ≡ Some p → IsAmong z p → IsOnWay g es a n x z p
on_way g es a zero x z p h among =
    let start = way_zero g es a x p h in
    let here : z ≡ x = only (subst (IsAmong z) start.1 among) in
    record { way = p; is = ap (way_within g es a zero) here ∙ h; short = inl here }
  where
    only : IsAmong z (x ∷ []) → z ≡ x
    only (inl e) = e
    only (inr i) = absurd i
on_way g es a (suc n) x z p h among =
    elim (way_cases g es a n x p h) [
      | inl start ↦ itself (only (subst (IsAmong z) start.1 among))
      | inr f ↦ elim (among_parts z f.1.q (x ∷ []) (subst (IsAmong z) f.1.whole among)) [
        | inl i ↦ earlier f.1 (on_way g es a n f.1.y z f.1.q f.1.before i)
        | inr i ↦ itself (only i)
      ]
    ]
  where
    only : IsAmong z (x ∷ []) → z ≡ x
    only (inl e) = e
    only (inr i) = absurd i

    itself : z ≡ x → IsOnWay g es a (suc n) x z p
    itself here = record { way = p; is = ap (way_within g es a (suc n)) here ∙ h; short = inl here }

    earlier : (f : Follows g es a n x p) → IsOnWay g es a n f.y z f.q → IsOnWay g es a (suc n) x z p
    earlier f o =
        let longer : length p ≡ suc (length f.q) = snoc-longer f.q x p f.whole in
        let short : length o.way ≤ length f.q = elim o.short [ inl here ↦ same_length o.way f.q (some_is o.way f.q (sym o.is ∙ (ap (way_within g es a n) here ∙ f.before))) | inr less ↦ omega (arith, less) ] in
        record { way = o.way; is = way_more g es a n z o.way o.is; short = inr (omega (arith, short, longer)) }

pub not_before : (g : Graph) (es : List Entry) (a : SystemId) (n : ℕ) (x : SystemId) (p : List SystemId) → way_within g es a (suc n) x ≡ Some p → (f : Follows g es a n x p) → IsAmong x f.q → ⊥
not_before g es a n x p h f among =
    let o : IsOnWay g es a n f.y x f.q = on_way g es a n f.y x f.q f.before among in
    let longer : length p ≡ suc (length f.q) = snoc-longer f.q x p f.whole in
    let same : o.way ≡ p = some_is o.way p (sym (way_more g es a n x o.way o.is) ∙ h) in
    let equal : length o.way ≡ length p = ap length same in
    elim o.short [
      | inl here ↦
          let q_is : o.way ≡ f.q = some_is o.way f.q (sym o.is ∙ (ap (way_within g es a n) here ∙ f.before)) in
          let shorter : length o.way ≡ length f.q = ap length q_is in
          absurd (omega (arith, shorter, equal, longer))
      | inr less ↦ absurd (omega (arith, less, equal, longer))
    ]

-- ---- a way is a path

pub way_is_path : (g : Graph) (es : List Entry) (a : SystemId) (n : ℕ) (x : SystemId) (p : List SystemId) → IsValid g → IsBridge g a → way_within g es a n x ≡ Some p → IsPath g a x p
way_is_path g es a zero x p valid bridge h = let z = way_zero g es a x p h in subst (λ t. IsPath g a x t) (sym (z.1 ∙ ap (λ t. t ∷ []) z.0)) (subst (λ t. IsPath g a t (a ∷ [])) (sym z.0) (path_single g a bridge))
way_is_path g es a (suc n) x p valid bridge h =
    elim (way_cases g es a n x p h) [
      | inl z ↦ subst (λ t. IsPath g a x t) (sym (z.1 ∙ ap (λ t. t ∷ []) z.0)) (subst (λ t. IsPath g a t (a ∷ [])) (sym z.0) (path_single g a bridge))
      | inr f ↦
          let back : IsSome (cost_between g f.1.y x) = subst (λ (o : Option ℕ). IsSome o) (cost_comm g x f.1.y) f.1.joined in
          subst (λ t. IsPath g a x t) (sym f.1.whole)
          (path_snoc g a f.1.y x f.1.q (way_is_path g es a n f.1.y f.1.q valid bridge f.1.before) back (joined_bridges g x f.1.y valid f.1.joined).0 (not_before g es a n x p h f.1))
    ]

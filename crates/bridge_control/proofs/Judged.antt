-- The hellos that came last, each judged for its port.
use Rattle.std.proofs.Common.{◌≡◌, ◌≤◌, ◌-◌, ◌+◌, ◌⊎◌, inl, inr, ℕ, zero, suc, true, List, [], ◌∷◌, ◌++◌, Option, Some, None, refl, sym, ap, ◌∙◌, subst, arith}
use Rattle.std.specs.Prelude.{slice_get, slice_set}
use Rattle.std.specs.List.{AllByRecursion}
use Rattle.spb_types.specs.declared.address.SystemId.{SystemId}
use Rattle.bridge_control.specs.declared.heard.JudgedHello.{JudgedHello}
use Rattle.bridge_control.specs.Heard.{IsJudgedAt, AreJudged}

-- none has come yet
abbrev pub AreNone : List (Option JudgedHello) → Type 0
AreNone heard = AllByRecursion (λ last. last ≡ None) heard

pub one_more : (heard : List (Option JudgedHello)) → AreNone heard → AreNone (heard ++ None ∷ [])
one_more [] none = (refl, tt)
one_more (last ∷ heard) none = (none.0, one_more heard none.1)

nothing_at : (heard : List (Option JudgedHello)) (place : ℕ) (judged : JudgedHello) → AreNone heard → slice_get heard place ≡ Some (Some judged) → ⊥
nothing_at [] place judged none there = absurd cc
nothing_at (last ∷ heard) zero judged none there = let no : Some None ≡ Some (Some judged) = ap (λ (o : Option JudgedHello). Some o) (sym none.0) ∙ there in absurd cc
nothing_at (last ∷ heard) (suc place) judged none there = nothing_at heard place judged none.1 there

pub none_judged : (me : SystemId) (heard : List (Option JudgedHello)) → AreNone heard → AreJudged me heard
none_judged me heard none place judged there = absurd (nothing_at heard place judged none there)

-- one of a list in which one was put: that one, or it was there
put_at : (heard : List (Option JudgedHello)) (k place : ℕ) (new was : Option JudgedHello) → slice_get (slice_set heard k new) place ≡ Some was → ((place ≡ k) × (new ≡ was)) ⊎ (slice_get heard place ≡ Some was)
put_at [] k place new was there = absurd cc
put_at (last ∷ heard) zero zero new was there = inl (refl, cc)
put_at (last ∷ heard) zero (suc place) new was there = inr there
put_at (last ∷ heard) (suc k) zero new was there = inr there
put_at (last ∷ heard) (suc k) (suc place) new was there = elim (put_at heard k place new was there) [ inl e ↦ inl (ap suc e.0, e.1) | inr e ↦ inr e ]

pub put_judged : (me : SystemId) (heard : List (Option JudgedHello)) (port : ℕ) (hello : JudgedHello) → 1 ≤ port → IsJudgedAt me port hello → AreJudged me heard → AreJudged me (slice_set heard (port - 1) (Some hello))
put_judged me heard port hello low here are place judged there =
    elim (put_at heard (port - 1) place (Some hello) (Some judged) there) [
      | inl e ↦ (let number : port ≡ place + 1 = omega (arith, low, e.0) in let same : hello ≡ judged = cc in subst (λ (p : ℕ). IsJudgedAt me p judged) number (subst (IsJudgedAt me port) same here))
      | inr e ↦ are place judged e
    ]

-- the one at a port
pub judged_there : (me : SystemId) (heard : List (Option JudgedHello)) (port : ℕ) (judged : JudgedHello) → 1 ≤ port → AreJudged me heard → slice_get heard (port - 1) ≡ Some (Some judged) → IsJudgedAt me port judged
judged_there me heard port judged low are there =
    let number : (port - 1) + 1 ≡ port = omega (arith, low) in
    subst (λ (p : ℕ). IsJudgedAt me p judged) number (are (port - 1) judged there)

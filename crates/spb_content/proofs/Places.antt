-- The places of bridges among contents.
use Rattle.std.proofs.Common.{◌≡◌, ℕ, suc, ◌+◌, ◌-◌, ◌≤◌, ◌<◌, Bool, true, false, true≢false, cond, ◌&&◌, [], ◌∷◌, length, drop, get_or, Option, Some, None, is_some, refl, sym, ap, ◌∙◌, subst, arith, add-one}
use Rattle.std.specs.Prelude.{IfSome, IsSome}
use Rattle.std.specs.Ordering.{is_eq, nat_cmp}
use Rattle.std.specs.Cmp.{unsigned_tied}
use Rattle.std.proofs.Math.Seq.{drop-cons}
use Rattle.spb_types.specs.Address.{same_system, system_number, HasSixBytes}
use Rattle.spb_types.proofs.SystemNumbers.{same_numbers}
use Rattle.spb_types.specs.declared.address.SystemId.{SystemId}
use Rattle.spb_content.specs.declared.content.Content.{Content}
use Rattle.spb_content.specs.Graph.{Contents, said_of}
use Rattle.spb_content.specs.Building.{place_from}

abbrev pub test : SystemId × Content → SystemId → Bool
test c x = is_some c.1.inst && same_system c.0 x

-- where a bridge is found
pub record Found (i p : ℕ) (list : Contents) (x : SystemId) (d : SystemId × Content) : Type 0 where
  pub low : i ≤ p
  pub high : p < i + length list
  pub said : said_of list x ≡ Some (get_or list (p - i) d).1
  pub passes : test (get_or list (p - i) d) x ≡ true

pub found : (i p : ℕ) (list : Contents) (x : SystemId) (d : SystemId × Content) → place_from i list x ≡ Some p → Found i p list x d
found i p [] x d h = absurd cc
found i p (c ∷ cs) x d h = at (test c x) refl h (λ k. found (i + 1) p cs x d k)
  where
    at : (b : Bool) → test c x ≡ b → cond b (Some i) (place_from (i + 1) cs x) ≡ Some p → (place_from (i + 1) cs x ≡ Some p → Found (i + 1) p cs x d) → Found i p (c ∷ cs) x d
    at true t e r =
        let here : i ≡ p = cc in
        let none : p - i ≡ 0 = omega arith in
        record { low = omega arith; high = omega arith; said = rw (t, none) refl; passes = rw none t }
    at false t e r =
        let f = r e in
        let later : p - i ≡ suc (p - (i + 1)) = omega (arith, f.low) in
        record { low = omega (arith, f.low); high = omega (arith, f.high); said = rw (t, later) f.said; passes = rw later f.passes }

pub unfound : (i : ℕ) (list : Contents) (x : SystemId) → place_from i list x ≡ None → said_of list x ≡ None
unfound i [] x h = refl
unfound i (c ∷ cs) x h = at (test c x) h (λ k. unfound (i + 1) cs x k)
  where
    at : (b : Bool) → cond b (Some i) (place_from (i + 1) cs x) ≡ None → (place_from (i + 1) cs x ≡ None → said_of cs x ≡ None) → cond b (Some c.1) (said_of cs x) ≡ None
    at true e r = absurd cc
    at false e r = r e

-- one more in front
place_more : (list : Contents) (i : ℕ) (x : SystemId) (d : SystemId × Content) → i < length list → place_from i (drop i list) x ≡ cond (test (get_or list i d) x) (Some i) (place_from (i + 1) (drop (i + 1) list) x)
place_more list i x d h = rw (drop-cons list i d h, add-one) refl

-- two numbers are those of one bridge's system id
tied : (c : SystemId × Content) (x : SystemId) → HasSixBytes c.0 → HasSixBytes x → is_some c.1.inst ≡ true → is_eq (nat_cmp (system_number c.0) (system_number x)) ≡ test c x
tied c x ic ix some = unsigned_tied (system_number c.0) (system_number x) ∙ same_numbers c.0 x ic ix ∙ ap (λ b. b && same_system c.0 x) (sym some)

pub put_place : (list : Contents) (left : ℕ) (x : SystemId) (c : SystemId × Content) (number : ℕ) (got old : Option ℕ) → 0 < left → left ≤ length list → c ≡ get_or list (left - 1) c → is_some c.1.inst ≡ true
    → number ≡ system_number c.0 → HasSixBytes c.0 → HasSixBytes x → got ≡ cond (is_eq (nat_cmp number (system_number x))) (Some (left - 1)) old → old ≡ place_from left (drop left list) x → got ≡ place_from (left - 1) (drop (left - 1) list) x
put_place list left x c number got old low high is some numbered ic ix now before =
    let next : left - 1 + 1 ≡ left = omega arith in
    let same : is_eq (nat_cmp number (system_number x)) ≡ test c x = ap (λ n. is_eq (nat_cmp n (system_number x))) numbered ∙ tied c x ic ix some in
    let step : place_from (left - 1) (drop (left - 1) list) x ≡ cond (test c x) (Some (left - 1)) (place_from left (drop left list) x) =
    place_more list (left - 1) x c (omega arith) ∙ ap (λ e. cond (test e x) (Some (left - 1)) (place_from (left - 1 + 1) (drop (left - 1 + 1) list) x)) (sym is) ∙ ap (λ n. cond (test c x) (Some (left - 1)) (place_from n (drop n list) x)) next in
    now ∙ ap (λ b. cond b (Some (left - 1)) old) same ∙ ap (λ o. cond (test c x) (Some (left - 1)) o) before ∙ sym step

-- the same, counted from 0
pub record FoundAt (p : ℕ) (list : Contents) (x : SystemId) (d : SystemId × Content) : Type 0 where
  pub high : p < length list
  pub said : said_of list x ≡ Some (get_or list p d).1
  pub passes : test (get_or list p d) x ≡ true

pub found_at : (p : ℕ) (list : Contents) (x : SystemId) (d : SystemId × Content) → place_from 0 list x ≡ Some p → FoundAt p list x d
found_at p list x d h =
    let f = found 0 p list x d h in
    let same : p - 0 ≡ p = omega arith in
    record { high = omega (arith, f.high); said = rw same at f.said; passes = rw same at f.passes }

pub place_high : (i p : ℕ) (list : Contents) (x : SystemId) → place_from i list x ≡ Some p → p < i + length list
place_high i p [] x h = absurd cc
place_high i p (c ∷ cs) x h = (found i p (c ∷ cs) x c h).high

pub place_within : (o : Option ℕ) (list : Contents) (x : SystemId) → o ≡ place_from 0 list x → IfSome o (λ p. p < length list)
place_within None list x e = tt
place_within (Some p) list x e = omega (arith, place_high 0 p list x (sym e))

pub place_said : (i p : ℕ) (list : Contents) (x : SystemId) → place_from i list x ≡ Some p → IsSome (said_of list x)
place_said i p [] x h = absurd cc
place_said i p (c ∷ cs) x h = subst (λ o. IsSome o) (sym (found i p (c ∷ cs) x c h).said) refl

-- each bridge has a place
pub place_for : (i : ℕ) (list : Contents) (x : SystemId) → IsSome (said_of list x) → (p : ℕ) × (place_from i list x ≡ Some p)
place_for i [] x h = absurd (true≢false (sym h))
place_for i (c ∷ cs) x h = at (test c x) h (λ k. place_for (i + 1) cs x k)
  where
    at : (b : Bool) → IsSome (cond b (Some c.1) (said_of cs x)) → (IsSome (said_of cs x) → (p : ℕ) × (place_from (i + 1) cs x ≡ Some p)) → (p : ℕ) × (cond b (Some i) (place_from (i + 1) cs x) ≡ Some p)
    at true k r = (i, refl)
    at false k r = r k

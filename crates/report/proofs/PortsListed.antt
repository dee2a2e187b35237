use Rattle.std.proofs.Common.{◌≡◌, ℕ, ◌+◌, ◌-◌, ◌≤◌, ◌<◌, Bool, true, List, [], ◌∷◌, ◌++◌, length, get_or, take, drop, filter, refl, sym, ap, subst, ◌∙◌, arith}
use Rattle.std.specs.List.{range_with_len, Contains}
use Rattle.std.specs.List.Sorted.{IsStrictlyIncreasing}
use Rattle.std.proofs.lemmas.List.{take-append-drop}
use Rattle.std.proofs.lemmas.List.Elements.{filter-append, filter_more, filter_passes, All-contains, Contains-append_left, Contains-push}
use Rattle.std.proofs.lemmas.List.FromFn.{length-range_with_len, get_or-range_with_len}
use Rattle.std.proofs.lemmas.List.Kept.{IsStrictlyIncreasing-filter}
use Rattle.spb_types.specs.declared.ports.PortSet.{PortSet}
use Rattle.spb_types.specs.Ports.{has}
use Rattle.spb_types.proofs.PortLemmas.{has_port}
use Rattle.report.specs.Ports.{ports_among}
use Rattle.report.specs.Laws.{PortsAreThoseOfTheSet}

-- an element that passes the test stands among those that do
Contains-filter : (p : ℕ → Bool) (xs : List ℕ) (i : ℕ) → i < length xs → p (get_or xs i 0) ≡ true → Contains (filter p xs) (get_or xs i 0)
Contains-filter p xs i h passes =
    let x = get_or xs i 0 in
    let front : filter p (take (i + 1) xs) ≡ filter p (take i xs) ++ x ∷ [] = filter_more p xs i 0 h ∙ rw passes refl in
    let whole : filter p xs ≡ (filter p (take i xs) ++ x ∷ []) ++ filter p (drop (i + 1) xs) =
    ap (filter p) (sym (take-append-drop (i + 1) xs)) ∙ filter-append p (take (i + 1) xs) (drop (i + 1) xs) ∙ ap (λ ys. ys ++ filter p (drop (i + 1) xs)) front
    in
    rw whole (Contains-append_left (filter p (take i xs) ++ x ∷ []) (filter p (drop (i + 1) xs)) x (Contains-push (filter p (take i xs)) x))

range_increases : (a n : ℕ) → IsStrictlyIncreasing (range_with_len a n)
range_increases a n k h =
    let long = length-range_with_len a n in
    let here : get_or (range_with_len a n) k 0 ≡ a + k = get_or-range_with_len a n k 0 (omega (arith, long)) in
    let next : get_or (range_with_len a n) (k + 1) 0 ≡ a + (k + 1) = get_or-range_with_len a n (k + 1) 0 (omega (arith, long)) in
    omega (arith, here, next)

in_range : (set : PortSet) (p : ℕ) → has set p ≡ true → Contains (filter (has set) (range_with_len 1 32)) p
in_range set p h =
    let low : 1 ≤ p = (has_port set p h).0 in
    let high : p ≤ 32 = (has_port set p h).1 in
    let at : get_or (range_with_len 1 32) (p - 1) 0 ≡ p = get_or-range_with_len 1 32 (p - 1) 0 (omega arith) ∙ (let e : 1 + (p - 1) ≡ p = omega arith in e) in
    subst (λ q. Contains (filter (has set) (range_with_len 1 32)) q) at (Contains-filter (has set) (range_with_len 1 32) (p - 1) (let e : p - 1 < 32 = omega arith in e) (ap (has set) at ∙ h))

pub ports_are_listed : PortsAreThoseOfTheSet
unfolding ports_among
ports_are_listed set = record {
  ports = λ p. (
    λ there. All-contains (λ q. has set q ≡ true) (filter (has set) (range_with_len 1 32)) p (filter_passes (has set) (range_with_len 1 32)) there,
    λ h. in_range set p h,
  );
  ascending = IsStrictlyIncreasing-filter (has set) (range_with_len 1 32) (range_increases 1 32);
}

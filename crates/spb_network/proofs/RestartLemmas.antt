-- A bridge that restarts, step by step.
use Rattle.std.proofs.Common.{◌≡◌, ◌≤◌, ◌<◌, ◌+◌, ◌-◌, ℕ, zero, suc, Bool, true, false, List, [], ◌∷◌, ◌++◌, map, length, refl, ap, slice_get, arith}
use Rattle.std.specs.Prelude.{◌==◌, if◌then◌else◌, slice_set}
use Rattle.spb_world.specs.declared.declaration.DeclaredLink.{DeclaredLink}
use Rattle.spb_world.specs.declared.declaration.LinkEnd.{LinkEnd}
use Rattle.spb_world.specs.World.{Bridges, IsEnd, IsLink}
use Rattle.network_model.specs.State.{State, links_of}
use Rattle.spb_world.specs.Links.{port_metric, port_metrics, end_here, end_away}
use Rattle.network_model.specs.Restarting.{cut_link, cut_from, with_link_carrier, with_carriers_from}

suc-less : (e i : ℕ) → i < e → e - i ≡ suc (e - (i + 1))
suc-less e i h = omega arith

pub cut-step : (s : State) (i e k : ℕ) → k < e → cut_from (e - k) k i s ≡ cut_from (e - (k + 1)) (k + 1) i (cut_link s i k (slice_get (links_of s) k))
cut-step s i e k h = ap (λ m. cut_from m k i s) (suc-less e k h)

pub carriers-step : (s : State) (i e k : ℕ) → k < e → with_carriers_from (e - k) k i s ≡ with_carriers_from (e - (k + 1)) (k + 1) i (with_link_carrier s i (slice_get (links_of s) k))
carriers-step s i e k h = ap (λ m. with_carriers_from m k i s) (suc-less e k h)

pub metrics-step : (links : List DeclaredLink) (i e k : ℕ) → k < e → port_metrics links i (e - k) (k + 1) ≡ port_metric links i (k + 1) ∷ port_metrics links i (e - (k + 1)) (k + 1 + 1)
metrics-step links i e k h = ap (λ m. port_metrics links i m (k + 1)) (suc-less e k h)

-- what was pushed stands before the rest
pub pushed-before : (xs : List ℕ) (x : ℕ) (rest : List ℕ) → (xs ++ x ∷ []) ++ rest ≡ xs ++ x ∷ rest
pushed-before [] x rest = refl
pushed-before (y ∷ xs) x rest = ap (λ l. y ∷ l) (pushed-before xs x rest)

pub before-none : (xs : List ℕ) → xs ++ [] ≡ xs
before-none [] = refl
before-none (y ∷ xs) = ap (λ l. y ∷ l) (before-none xs)

-- the ends of a link are ends of a link
end_if : (bridges : Bridges) (b : Bool) (e f : LinkEnd) → IsEnd bridges e → IsEnd bridges f → IsEnd bridges (if b then e else f)
end_if bridges true e f first other = first
end_if bridges false e f first other = other

pub end_here_is : (bridges : Bridges) (l : DeclaredLink) (i : ℕ) → IsLink bridges l → IsEnd bridges (end_here l i)
end_here_is bridges l i is = end_if bridges (l.a.bridge == i) l.a l.b is.a is.b

pub end_away_is : (bridges : Bridges) (l : DeclaredLink) (i : ℕ) → IsLink bridges l → IsEnd bridges (end_away l i)
end_away_is bridges l i is = end_if bridges (l.a.bridge == i) l.b l.a is.b is.a

-- a write of an item, seen through `v`, and one past the last
pub map-write : {B V : Type 0} (v : B → V) (bs : List B) (i : ℕ) (y : B) → map v (slice_set bs i y) ≡ slice_set (map v bs) i (v y)
map-write v [] i y = refl
map-write v (b ∷ bs) zero y = refl
map-write v (b ∷ bs) (suc i) y = ap (λ ws. v b ∷ ws) (map-write v bs i y)

pub past-write : {X : Type 0} (xs : List X) (i : ℕ) (y : X) → length xs ≤ i → slice_set xs i y ≡ xs
past-write [] i y past = refl
past-write (x ∷ xs) zero y past = absurd (omega (arith, past))
past-write (x ∷ xs) (suc i) y past = ap (λ ws. x ∷ ws) (past-write xs i y (omega (arith, past)))

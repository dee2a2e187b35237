-- The copies of one customer's frame that leave a bridge, counted at each port of each bridge.
use Rattle.std.proofs.Common.{◌≡◌, ◌≢◌, ◌+◌, ◌<◌, ℕ, Bool, true, false, cond, List, [], ◌∷◌, ◌++◌, length, refl, sym, ap, ◌∙◌, Some, slice_get, arith}
use Rattle.std.specs.Prelude.{count_by, ◌&&◌, ◌==◌}
use Rattle.std.specs.List.{AllByRecursion}
use Rattle.std.specs.Str.{bytes_eq}
use Rattle.std.proofs.lemmas.Bool.{false≢true}
use Rattle.std.proofs.lemmas.List.{length-map}
use Rattle.std.proofs.lemmas.Slice.Eq.{bytes_eq-Decides}
use Rattle.link_model.specs.Lane.{Frame}
use Rattle.forwarding.specs.Tenant.{each_with}
use Rattle.bridge_api.specs.Config.{ArePairwise}
use Rattle.network_model.specs.declared.answer.Out.{Out}
use Rattle.spb_world.specs.World.{World, names_of, place_of}
use Rattle.network_model.specs.Events.{outs_at}
use Rattle.network_model.specs.Once.{left_at}
use Rattle.network_model.proofs.Linked.{get_within}
use Rattle.network_model.proofs.ApartOuts.{place_named}
use Rattle.network_model.proofs.OnceLists.{count-cons}

-- ---- counts

both_true : (b c : Bool) → b ≡ true → (b && c) ≡ c
both_true true c e = refl
both_true false c e = absurd (false≢true e)

first_false : (b c : Bool) → b ≡ false → (b && c) ≡ false
first_false true c e = absurd (false≢true (sym e))
first_false false c e = refl

abbrev out_of : List ℕ → Frame → ℕ → Out
out_of name f p = record { bridge = name; port = p; frame = f }

-- what leaves a bridge of this name
pub counted_here : (name : List ℕ) (q : ℕ) (f : Frame) (ps : List ℕ) → count_by (left_at name q) (outs_at (Some name) (each_with f ps)) ≡ count_by (λ p. p == q) ps
counted_here name q f [] = refl
counted_here name q f (p ∷ ps) =
    count-cons (left_at name q) (out_of name f p) (outs_at (Some name) (each_with f ps))
    ∙ ((λ i. cond (both_true (bytes_eq name name) (p == q) ((bytes_eq-Decides name name).1 refl) i) 1 0 + counted_here name q f ps i)
    ∙ sym (count-cons (λ r. r == q) p ps))

-- and one of another
pub counted_elsewhere : (name other : List ℕ) (q : ℕ) (f : Frame) (ps : List ℕ) → other ≢ name → count_by (left_at name q) (outs_at (Some other) (each_with f ps)) ≡ 0
counted_elsewhere name other q f [] away = refl
counted_elsewhere name other q f (p ∷ ps) away =
    count-cons (left_at name q) (out_of other f p) (outs_at (Some other) (each_with f ps))
    ∙ (λ i. cond (first_false (bytes_eq other name) (p == q) differ i) 1 0 + counted_elsewhere name other q f ps away i)
  where
    by : (b : Bool) → bytes_eq other name ≡ b → bytes_eq other name ≡ false
    by true e = absurd (away ((bytes_eq-Decides other name).0 e))
    by false e = e

    differ : bytes_eq other name ≡ false
    differ = by (bytes_eq other name) refl

-- ---- what holds of each

pub each_out : (P : ℕ → Type 0) (Q : Out → Type 0) (name : List ℕ) (f : Frame) (ps : List ℕ) → ((p : ℕ) → P p → Q (out_of name f p)) → AllByRecursion P ps → AllByRecursion Q (outs_at (Some name) (each_with f ps))
each_out P Q name f [] is all = tt
each_out P Q name f (p ∷ ps) is all = (is p all.0, each_out P Q name f ps is all.1)

pub in_both : {X : Type 0} (P : X → Type 0) (xs ys : List X) → AllByRecursion P xs → AllByRecursion P ys → AllByRecursion P (xs ++ ys)
in_both P [] ys first second = second
in_both P (x ∷ xs) ys first second = (first.0, in_both P xs ys first.1 second)

-- ---- names

pub named_at : (w : World) (i : ℕ) → i < length w.bridges → (name : List ℕ) × (slice_get (names_of w.bridges) i ≡ Some name)
named_at w i within = get_within (names_of w.bridges) i (omega (arith, length-map w.bridges (λ e. e.0), within))

one_place : (i j : ℕ) → Some i ≡ Some j → i ≡ j
one_place i j e = cc

pub names_apart : (w : World) (i j : ℕ) (name other : List ℕ) → ArePairwise (λ x y. x ≢ y) (names_of w.bridges) → slice_get (names_of w.bridges) i ≡ Some name → slice_get (names_of w.bridges) j ≡ Some other → i ≢ j → name ≢ other
names_apart w i j name other apart at_i at_j away same =
    away (one_place i j (sym (place_named w i name apart at_i) ∙ (ap (λ (n : List ℕ). place_of n w.bridges) same ∙ place_named w j other apart at_j)))

pub one_name : (w : World) (i : ℕ) (name other : List ℕ) → slice_get (names_of w.bridges) i ≡ Some name → slice_get (names_of w.bridges) i ≡ Some other → name ≡ other
one_name w i name other at_name at_other = let same : Some name ≡ Some other = sym at_name ∙ at_other in cc

-- Names and sources that differ.
use Rattle.std.proofs.Common.{◌≡◌, ◌≢◌, ℕ, ◌==◌, ◌&&◌, Bool, true, false, true≢false, List, [], ◌∷◌, ◌++◌, map, is_some, refl, sym, ap, ◌∙◌, subst, Option, Some, None}
use Rattle.std.specs.Prelude.{if◌then◌else◌}
use Rattle.std.specs.List.{AllByRecursion}
use Rattle.std.specs.Map.{lookup}
use Rattle.std.specs.Str.{bytes_eq}
use Rattle.std.proofs.lemmas.Bool.{eq-eqb}
use Rattle.std.proofs.lemmas.Slice.Eq.{bytes_eq-Decides}
use Rattle.indexmap.proofs.MapLemmas.{some_index}
use Rattle.spb_types.specs.declared.address.Mac.{Mac}
use Rattle.spb_types.specs.declared.service.SourceId.{SourceId}
use Rattle.bridge_api.specs.Config.{ArePairwise}
use Rattle.spb_world.specs.declared.declaration.DeclaredBridge.{DeclaredBridge}
use Rattle.spb_world.specs.declared.declaration.DeclaredLink.{DeclaredLink}
use Rattle.spb_world.specs.declared.reason.Reason.{Reason}
use Rattle.spb_world.specs.Reason.{reason_unless, ◌or◌}
use Rattle.spb_world.specs.World.{World, names_of, things_of, AreDistinct}
use Rattle.spb_world.specs.Declaring.{is_new_name, is_new_system, is_new_source, bridge_refusal, bridge_of, with_bridge, with_link}
use Rattle.spb_world.proofs.ListLemmas.{All-push, All-none, and-right, not-true, things_of-push}
use Rattle.spb_world.proofs.RefusalLemmas.{bridge_refusal_none}

-- ---- refusals

pub first_none : (o p : Option Reason) → (o or p) ≡ None → o ≡ None
first_none None p h = refl
first_none (Some r) p h = absurd cc

pub last_none : (o p : Option Reason) → (o or p) ≡ None → p ≡ None
last_none None p h = h
last_none (Some r) p h = absurd cc

pub passes : (b : Bool) (r : Reason) → reason_unless b r ≡ None → b ≡ true
unfolding reason_unless
passes true r h = refl
passes false r h = absurd cc

-- ---- new names and sources

pairwise-push : {X : Type 0} (R : X → X → Type 0) (xs : List X) (y : X) → ArePairwise R xs → AllByRecursion (λ x. R x y) xs → ArePairwise R (xs ++ y ∷ [])
pairwise-push R [] y apart new = (tt, tt)
pairwise-push R (x ∷ xs) y apart new = (All-push (R x) xs y apart.0 new.0, pairwise-push R xs y apart.1 new.1)

names-push : {T : Type 0} (xs : List (List ℕ × T)) (name : List ℕ) (x : T) → names_of (xs ++ (name, x) ∷ []) ≡ names_of xs ++ name ∷ []
names-push [] name x = refl
names-push (y ∷ ys) name x = ap (λ names. y.0 ∷ names) (names-push ys name x)

none_is : {X : Type 0} (o : Option X) → is_some o ≡ false → o ≡ None
none_is None e = refl
none_is (Some x) e = absurd cc

new_lookup : {T : Type 0} (name : List ℕ) (es : List (List ℕ × T)) → is_new_name name es ≡ true → lookup (bytes_eq name) es ≡ None
unfolding is_new_name
new_lookup name es new = none_is (lookup (bytes_eq name) es) (sym (some_index (bytes_eq name) es) ∙ not-true _ new)

missed : {X : Type 0} (b : Bool) (x : X) (o : Option X) → (if b then Some x else o) ≡ None → (b ≡ false) × (o ≡ None)
missed true x o none = absurd cc
missed false x o none = (refl, none)

other_name : (x name : List ℕ) → bytes_eq name x ≡ false → x ≢ name
other_name x name apart same = true≢false (sym ((bytes_eq-Decides name x).1 (sym same)) ∙ apart)

-- every name that there is is another
other_names : {T : Type 0} (name : List ℕ) (es : List (List ℕ × T)) → lookup (bytes_eq name) es ≡ None → AllByRecursion (λ x. x ≢ name) (names_of es)
other_names name [] none = tt
other_names name (e ∷ es) none =
    let parts = missed (bytes_eq name e.0) e.1 (lookup (bytes_eq name) es) none in
    (other_name e.0 name parts.0, other_names name es parts.1)

named_apart : {T : Type 0} (name : List ℕ) (es : List (List ℕ × T)) (x : T) → is_new_name name es ≡ true → ArePairwise (λ x y. x ≢ y) (names_of es) → ArePairwise (λ x y. x ≢ y) (names_of (es ++ (name, x) ∷ []))
named_apart name es x new apart = subst (ArePairwise (λ x y. x ≢ y)) (sym (names-push es name x)) (pairwise-push (λ x y. x ≢ y) (names_of es) name apart (other_names name es (new_lookup name es new)))

abbrev sources : List DeclaredBridge → List ℕ
sources bs = map (λ b. b.bridge.source.value) bs

other_number : (n m : ℕ) → (n == m) ≡ false → n ≢ m
other_number n m apart same = true≢false (sym (eq-eqb n m same) ∙ apart)

other_sources : (bs : List DeclaredBridge) (source : SourceId) → AllByRecursion (λ b. (b.bridge.source.value == source.value) ≡ false) bs → AllByRecursion (λ n. n ≢ source.value) (sources bs)
other_sources [] source apart = tt
other_sources (b ∷ bs) source apart = (other_number b.bridge.source.value source.value apart.0, other_sources bs source apart.1)

sources-push : (bs : List DeclaredBridge) (b : DeclaredBridge) → sources (bs ++ b ∷ []) ≡ sources bs ++ b.bridge.source.value ∷ []
sources-push [] b = refl
sources-push (c ∷ cs) b = ap (λ l. c.bridge.source.value ∷ l) (sources-push cs b)

new_source : (w : World) (name : List ℕ) (priority : ℕ) (system : Mac) (source : SourceId) (ports : ℕ) → bridge_refusal w name priority system source ports ≡ None → is_new_source source w.bridges ≡ true
unfolding bridge_refusal
new_source w name priority system source ports none =
    and-right _ _ (passes (is_new_system system w.bridges && is_new_source source w.bridges) _ (last_none _ _ (first_none _ _ (first_none _ _ none))))

source_apart : (w : World) (source : SourceId) → is_new_source source w.bridges ≡ true → AllByRecursion (λ b. (b.bridge.source.value == source.value) ≡ false) (things_of w.bridges)
unfolding is_new_source
source_apart w source new = All-none (λ b. b.bridge.source.value == source.value) (things_of w.bridges) (not-true _ new)

pub distinct_bridge : (w : World) (name : List ℕ) (priority : ℕ) (system : Mac) (source : SourceId) (ports : ℕ) → AreDistinct w → bridge_refusal w name priority system source ports ≡ None → AreDistinct (with_bridge w name (bridge_of priority system source ports))
unfolding with_bridge
distinct_bridge w name priority system source ports distinct none =
    let b : DeclaredBridge = bridge_of priority system source ports in
    record {
      bridges = named_apart name w.bridges b (bridge_refusal_none w name priority system source ports none).name_new distinct.bridges;
      sources =
          subst (λ (bs : List DeclaredBridge). ArePairwise (λ x y. x ≢ y) (sources bs)) (sym (things_of-push w.bridges name b))
          (subst (ArePairwise (λ x y. x ≢ y)) (sym (sources-push (things_of w.bridges) b))
          (pairwise-push (λ x y. x ≢ y) (sources (things_of w.bridges)) source.value distinct.sources (other_sources (things_of w.bridges) source (source_apart w source (new_source w name priority system source ports none)))));
      links = distinct.links;
    }

pub distinct_link : (w : World) (name : List ℕ) (l : DeclaredLink) → AreDistinct w → is_new_name name w.links ≡ true → AreDistinct (with_link w name l)
unfolding with_link
distinct_link w name l distinct new = record { bridges = distinct.bridges; sources = distinct.sources; links = named_apart name w.links l new distinct.links }

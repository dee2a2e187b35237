-- Trees that are kept while an edge changes.
use Rattle.std.proofs.Common.{◌≡◌, ◌≢◌, ℕ, zero, suc, ◌+◌, ◌*◌, ◌<◌, ◌≤◌, Bool, true, false, inl, inr, List, [], ◌∷◌, ◌++◌, take, min, length, map, get_or, set, All, if◌then◌else◌, refl, sym, ap, ◌∙◌, subst, arith}
use Rattle.std.specs.List.{AllWithin}
use Rattle.std.proofs.Math.Seq.{map-set_same}
use Rattle.std.proofs.lemmas.List.{get_or-map, get_or-set_other, length-map, length-set, map-append, take_more}
use Rattle.std.proofs.lemmas.List.Elements.{AllWithin-more_set, All-push}
use Rattle.spb_types.specs.Graph.{IsAmong, IsBridge, IsEdgeOf, IsValid, joins, systems_of, cost_between}
use Rattle.spb_types.specs.declared.address.SystemId.{SystemId}
use Rattle.spb_types.specs.declared.graph.Edge.{Edge}
use Rattle.spb_types.specs.declared.graph.GraphBridge.{GraphBridge}
use Rattle.spb_types.specs.declared.graph.Graph.{Graph}
use Rattle.ect_trees.specs.Tree.{Paths, IsGrown}
use Rattle.ect_trees.specs.Change.{IsOther, DiffersAt}
use Rattle.ect_trees.proofs.Walks.{cost_comm}
use Rattle.ect_trees.proofs.Steps.{joins_is}
use Rattle.ect_trees.proofs.Reached.{reached_bridge}
use Rattle.ect_trees.proofs.Alike.{ArePathsAlike, path_alike, cost_alike, best_of_alike}
use Rattle.fork_trees.specs.declared.set.Row.{Row}
use Rattle.fork_trees.specs.Edges.{with_edge, cost_if, KeepsCost}
use Rattle.fork_trees.specs.Set.{Kept, IsCounted, AreTrees, AreRows, HasRows, WereTrees, WereRows}
use Rattle.fork_trees.proofs.WithEdge.{stays_valid, costs_change_there}

-- ---- costs

-- the cost changes between the ends of the edge alone
pub differs : (g : Graph) (e : Edge) (present : Bool) → DiffersAt e.a e.b g (with_edge g e present)
differs g e present =
    record { bridges = refl; costs = λ x y other. costs_change_there g e present x y ∙ at x y other (joins e x y) refl }
  where
    at : (x y : SystemId) → IsOther e.a e.b x y → (b : Bool) → joins e x y ≡ b → (if b then cost_if present e else cost_between g x y) ≡ cost_between g x y
    at x y other true j = elim (joins_is e x y j) [
      | inl i ↦ absurd (other.0 (sym i.0) (sym i.1))
      | inr i ↦ absurd (other.1 (sym i.1) (sym i.0))
    ]
    at x y other false j = refl

-- and nowhere, where it stays as it is there
costs_kept : (g : Graph) (e : Edge) (present : Bool) (x y : SystemId) → KeepsCost g e present → cost_between (with_edge g e present) x y ≡ cost_between g x y
costs_kept g e present x y keeps = costs_change_there g e present x y ∙ at (joins e x y) refl
  where
    at : (b : Bool) → joins e x y ≡ b → (if b then cost_if present e else cost_between g x y) ≡ cost_between g x y
    at true j = elim (joins_is e x y j) [
      | inl i ↦ sym keeps ∙ (ap (λ z. cost_between g z e.b) i.0 ∙ ap (λ z. cost_between g x z) i.1)
      | inr i ↦ sym keeps ∙ (ap (λ z. cost_between g z e.b) i.0 ∙ (ap (λ z. cost_between g y z) i.1 ∙ cost_comm g y x))
    ]
    at false j = refl

paths_there : (g : Graph) (e : Edge) (present : Bool) (a : SystemId) → KeepsCost g e present → ArePathsAlike g (with_edge g e present) a
paths_there g e present a keeps = record {
  bridges = λ x r. reached_bridge g a x r;
  ids = λ x r. refl;
  costs = λ x y r. sym (costs_kept g e present x y keeps);
}

paths_back : (g : Graph) (e : Edge) (present : Bool) (a : SystemId) → KeepsCost g e present → ArePathsAlike (with_edge g e present) g a
paths_back g e present a keeps = record {
  bridges = λ x r. reached_bridge (with_edge g e present) a x r;
  ids = λ x r. refl;
  costs = λ x y r. costs_kept g e present x y keeps;
}

-- then a tree stays as it is
grown_kept : (g : Graph) (e : Edge) (present : Bool) (mask : ℕ) (t : Paths) → IsValid g → IsEdgeOf g e → KeepsCost g e present → IsGrown g mask t → IsGrown (with_edge g e present) mask t
grown_kept g e present mask t v i keeps grown =
    let there = paths_there g e present t.source keeps in
    let back = paths_back g e present t.source keeps in record {
      paths_are = grown.paths_are;
      best = record {
        labels = record {
          places = grown.best.labels.places;
          each = λ place x l at is. (let old = grown.best.labels.each place x l at is in record {
            path = path_alike g (with_edge g e present) t.source x l.bridges.items there old.path;
            cost_is = old.cost_is ∙ cost_alike g (with_edge g e present) t.source x l.bridges.items there old.path;
          });
        };
        best = λ x. grown.best.best x ∙ best_of_alike g (with_edge g e present) mask t.source x v (stays_valid g e present v i) there back;
      };
    }

-- ---- trees before and after the change

among_at : (xs : List SystemId) (k : ℕ) (d : SystemId) → k < length xs → IsAmong (get_or xs k d) xs
among_at [] k d l = absurd (omega arith)
among_at (x ∷ xs) zero d l = inl refl
among_at (x ∷ xs) (suc k) d l = inr (among_at xs k d (omega arith))

-- as many trees as bridges
pub trees_long : (g : Graph) (mask : ℕ) (trees : List Paths) → AreTrees g mask trees → length trees ≡ length g.bridges
trees_long g mask trees are =
    sym (length-map trees (λ t. t.source)) ∙ (ap length are.sources ∙ length-map g.bridges (λ b. b.id.system))

source_is_bridge : (g : Graph) (mask : ℕ) (trees : List Paths) (k : ℕ) (d : Paths) → AreTrees g mask trees → k < length trees → IsBridge g (get_or trees k d).source
source_is_bridge g mask trees k d are l =
    let long : length (systems_of g.bridges) ≡ length trees = sym (ap length are.sources) ∙ length-map trees (λ t. t.source) in
    let here : get_or (map (λ t. t.source) trees) k d.source ≡ (get_or trees k d).source = get_or-map (λ t. t.source) trees k d d.source l in
    subst (λ x. IsBridge g x) (ap (λ xs. get_or xs k d.source) (sym are.sources) ∙ here) (among_at (systems_of g.bridges) k d.source (omega arith))

-- trees of a graph are those from before the change of an edge
were_trees : (g : Graph) (e : Edge) (present : Bool) (mask : ℕ) (trees : List Paths) → IsValid g → AreTrees g mask trees → WereTrees (with_edge g e present) e mask trees
were_trees g e present mask trees v are = record {
  sources = are.sources;
  grown = λ k d l. record {
    before = g;
    valid = v;
    differs = differs g e present;
    bridge = source_is_bridge g mask trees k d are l;
    grown = are.grown k d l;
  };
}

pub were_rows : (g : Graph) (e : Edge) (present : Bool) (rows : List Row) → IsValid g → AreRows g rows → WereRows (with_edge g e present) e rows
were_rows g e present rows v are =
    λ k d l. were_trees g e present (get_or rows k d).mask (get_or rows k d).trees.items v (are k d l)

pub rows_kept : (g : Graph) (e : Edge) (present : Bool) (rows : List Row) → IsValid g → IsEdgeOf g e → KeepsCost g e present → AreRows g rows → AreRows (with_edge g e present) rows
rows_kept g e present rows v i keeps are = λ k d l. record {
  sources = (are k d l).sources;
  grown = λ n t m. grown_kept g e present (get_or rows k d).mask (get_or (get_or rows k d).trees.items n t) v i keeps ((are k d l).grown n t m);
}

-- ---- one after another

-- the first i of some things have P, and the others have Q; f of each is as it was
pub record Passed {X Y : Type 0} (f : X → Y) (ys : List Y) (P Q : X → Type 0) (i : ℕ) (xs : List X) : Type 0 where
  pub same : map f xs ≡ ys
  pub done : AllWithin P xs 0 i
  pub left : AllWithin Q xs i (length xs)

pub passed_none : {X Y : Type 0} (f : X → Y) (ys : List Y) (P Q : X → Type 0) (xs : List X) → map f xs ≡ ys → All Q xs → Passed f ys P Q 0 xs
passed_none f ys P Q xs same all =
    record { same = same; done = λ k d l m. absurd (omega arith); left = λ k d l m. all k d m }

left_set : {X : Type 0} (Q : X → Type 0) (xs : List X) (i : ℕ) (y : X) → AllWithin Q xs i (length xs) → AllWithin Q (set xs i y) (i + 1) (length (set xs i y))
left_set Q xs i y h k d l m =
    let other : k ≢ i = omega arith in
    subst Q (sym (get_or-set_other xs i k y d other)) (h k d (omega arith) (subst (λ n. k < n) (length-set xs i y) m))

pub passed_more : {X Y : Type 0} (f : X → Y) (ys : List Y) (P Q : X → Type 0) (i : ℕ) (xs : List X) (old y : X) → i < length xs → old ≡ get_or xs i old → f y ≡ f old → P y → Passed f ys P Q i xs → Passed f ys P Q (i + 1) (set xs i y)
passed_more f ys P Q i xs old y within is same new p = record {
  same = map-set_same f xs i y old (same ∙ ap f is) ∙ p.same;
  done = AllWithin-more_set xs i y within P p.done new;
  left = left_set Q xs i y p.left;
}

-- the next one has Q still
pub passed_next : {X Y : Type 0} (f : X → Y) (ys : List Y) (P Q : X → Type 0) (i : ℕ) (xs : List X) (old : X) → i < length xs → old ≡ get_or xs i old → Passed f ys P Q i xs → Q old
passed_next f ys P Q i xs old within is p = subst Q (sym is) (p.left i old (omega arith) within)

pub passed_all : {X Y : Type 0} (f : X → Y) (ys : List Y) (P Q : X → Type 0) (i : ℕ) (xs : List X) → length xs ≤ i → Passed f ys P Q i xs → All P xs
passed_all f ys P Q i xs past p = λ k d l. p.done k d (omega arith) (omega arith)

-- ---- trees as they are grown

pub trees_more : (g : Graph) (mask : ℕ) (bs : List GraphBridge) (i : ℕ) (d : GraphBridge) (trees : List Paths) (t : Paths) → i < length bs → t.source ≡ (get_or bs i d).id.system → IsGrown g mask t → (map (λ p. p.source) trees ≡ systems_of (take i bs)) × All (IsGrown g mask) trees → (map (λ p. p.source) (trees ++ t ∷ []) ≡ systems_of (take (i + 1) bs)) × All (IsGrown g mask) (trees ++ t ∷ [])
trees_more g mask bs i d trees t within from grown h = (
  map-append (λ p. p.source) trees (t ∷ [])
      ∙ ((λ j. h.0 j ++ from j ∷ []) ∙ (sym (map-append (λ b. b.id.system) (take i bs) (get_or bs i d ∷ [])) ∙ ap systems_of (sym (take_more bs i d within)))),
  All-push (IsGrown g mask) trees t h.1 grown,
)

pub rows_more : (g : Graph) (masks : List ℕ) (i : ℕ) (rows : List Row) (row : Row) → i < length masks → row.mask ≡ get_or masks i 0 → AreTrees g row.mask row.trees.items → HasRows g (take i masks) rows → HasRows g (take (i + 1) masks) (rows ++ row ∷ [])
rows_more g masks i rows row within same trees h = record {
  masks_are = map-append (λ r. r.mask) rows (row ∷ []) ∙ ((λ j. h.masks_are j ++ same j ∷ []) ∙ sym (take_more masks i 0 within));
  trees = All-push (λ r. AreTrees g r.mask r.trees.items) rows row h.trees trees;
}

-- ---- counts

pub more_counted : (a b r i n m : ℕ) → a ≤ i * n → b ≤ n → r ≡ min (a + b) m → r ≤ (i + 1) * n
more_counted a b r i n m h k e = omega arith

rows_long : (g : Graph) (masks : List ℕ) (rows : List Row) → HasRows g masks rows → length rows ≡ length masks
rows_long g masks rows has = sym (length-map rows (λ r. r.mask)) ∙ ap length has.masks_are

pub counted : (old new : Kept) (e : Edge) (present : Bool) (rows : List Row) (anew m : ℕ) → HasRows old.graph old.masks rows → old.relabelled ≤ m → new.relabelled ≡ min (old.relabelled + anew) m → anew ≤ length rows * (length old.graph.bridges * length old.graph.bridges) → (KeepsCost old.graph e present → anew ≡ 0) → IsCounted old e present new
counted old new e present rows anew m has low is few none = record {
  few = (let each : anew ≤ length old.masks * (length old.graph.bridges * length old.graph.bridges) = subst (λ n. anew ≤ n * (length old.graph.bridges * length old.graph.bridges)) (rows_long old.graph old.masks rows has) few in omega (arith, each, is));
  none = λ keeps. (let zero : anew ≡ 0 = none keeps in omega (arith, zero, is, low));
}

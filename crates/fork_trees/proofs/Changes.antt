-- Trees after a list of changes.
use Rattle.std.proofs.Common.{◌≡◌, ℕ, ◌≤◌, Bool, true, false, not, ◌&&◌, inl, inr, List, [], ◌∷◌, get_or, IfSome, refl, sym, ap, ◌∙◌, subst, arith, nat_eq}
use Rattle.std.specs.List.{list_any}
use Rattle.spb_types.specs.Address.{same_system}
use Rattle.spb_types.specs.Graph.{IsEdgeOf, IsValid}
use Rattle.spb_types.specs.declared.address.SystemId.{SystemId}
use Rattle.spb_types.specs.declared.graph.GraphBridge.{GraphBridge}
use Rattle.spb_types.specs.declared.graph.Edge.{Edge}
use Rattle.spb_types.specs.declared.graph.Graph.{Graph}
use Rattle.ect_trees.specs.Tree.{GivesBest}
use Rattle.fork_trees.specs.Edges.{with_edge}
use Rattle.fork_trees.specs.Set.{Kept, Answers, IsChanged, Change, with_changes, has_tree, TreesStand, TreesStayBest, SomeTreesChange}
use Rattle.fork_trees.proofs.WithEdge.{stays_valid}

-- a change leaves the same trees
has_same : (old mid : Kept) (e : Edge) (present : Bool) (source : SystemId) (mask : ℕ) → IsChanged old e present mid → has_tree mid source mask ≡ has_tree old source mask
has_same old mid e present source mask h = λ i. not ((h.can ∙ sym h.could) i)
    && (list_any (λ m. nat_eq m mask) (h.masks_are i) && list_any (λ b. same_system b.id.system source) (h.graph_is i).bridges)

pub trees_stay_best : TreesStayBest
trees_stay_best old new [] source mask answer v same answers =
    let before : Answers old source mask answer = subst (λ s. Answers s source mask answer) same answers in
    record { valid = v; some = before.some; best = before.best }
trees_stay_best old new (c ∷ cs) source mask answer v h answers =
    let mid = h.1.0 in
    let changed : IsChanged old c.edge c.present mid = h.1.1 in
    let valid : IsValid mid.graph = subst IsValid (sym changed.graph_is) (stays_valid old.graph c.edge c.present v h.0) in
    let r : TreesStand mid cs source mask answer = trees_stay_best mid new cs source mask answer valid h.1.2 answers in
    record {
      valid = subst (λ g. IsValid (with_changes g cs)) changed.graph_is r.valid;
      some = r.some ∙ has_same old mid c.edge c.present source mask changed;
      best = subst (λ g. IfSome answer (GivesBest (with_changes g cs) mask source)) changed.graph_is r.best;
    }

-- ---- a witness: two bridges, between which an edge is set, changed, removed and set again

abbrev system : ℕ → SystemId
system n = record { mac = record { bytes = n ∷ [] } }

abbrev bridge : ℕ → GraphBridge
bridge n = record { id = record { priority = 0; system = system n }; source = record { value = n } }

abbrev edge : ℕ → Edge
edge cost = record { a = system 1; port_a = 1; b = system 2; port_b = 1; cost = cost }

abbrev apart : Graph
apart = record { bridges = bridge 1 ∷ bridge 2 ∷ []; edges = []; members = [] }

abbrev joined : ℕ → Graph
joined cost = record { bridges = bridge 1 ∷ bridge 2 ∷ []; edges = edge cost ∷ []; members = [] }

abbrev kept : Graph → Kept
kept g = record { graph = g; masks = 0 ∷ []; failed = false; relabelled = 0 }

abbrev changes : List Change
changes = record { edge = edge 10; present = true } ∷ record { edge = edge 20; present = true }
    ∷ record { edge = edge 20; present = false } ∷ record { edge = edge 5; present = true } ∷ []

number : SystemId → ℕ
number x = get_or x.mac.bytes 0 0

same_number : (m n : ℕ) → system m ≡ system n → m ≡ n
unfolding number
same_number m n e = ap number e

differ : system 1 ≡ system 2 → ⊥
differ e = absurd (omega (arith, same_number 1 2 e))

valid : IsValid apart
valid = record {
  few = omega arith;
  apart = ((λ i. elim i [ inl e ↦ differ e | inr k ↦ k ]), ((λ i. i), tt));
  edges = tt;
  one_edge = tt;
  members = tt;
}

fits : (g : Graph) (cost : ℕ) → g.bridges ≡ apart.bridges → 1 ≤ cost → cost ≤ 100 → IsEdgeOf g (edge cost)
fits g cost same low high = record {
  from = rw same (inl refl);
  to = rw same (inr (inl refl));
  apart = refl;
  low = low;
  high = omega arith;
}

changed : (g h : Graph) (e : Edge) (present : Bool) → h ≡ with_edge g e present → IsChanged (kept g) e present (kept h)
changed g h e present same = record { could = refl; graph_is = same; masks_are = refl; can = refl }

pub some_trees_change : SomeTreesChange
some_trees_change = (
  kept apart,
  kept (joined 5),
  changes,
  record {
    valid = valid;
    have = (
      fits apart 10 refl (omega arith) (omega arith),
      (
        kept (joined 10),
        changed apart (joined 10) (edge 10) true refl,
        (
          fits (joined 10) 20 refl (omega arith) (omega arith),
          (
            kept (joined 20),
            changed (joined 10) (joined 20) (edge 20) true refl,
            (
              fits (joined 20) 20 refl (omega arith) (omega arith),
              (
                kept apart,
                changed (joined 20) apart (edge 20) false refl,
                (
                  fits apart 5 refl (omega arith) (omega arith),
                  (kept (joined 5), changed apart (joined 5) (edge 5) true refl, refl),
                ),
              ),
            ),
          ),
        ),
      ),
    );
    x = system 1;
    y = system 2;
    before = refl;
    after = refl;
  },
)

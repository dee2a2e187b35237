-- A graph of three bridges, two of which are joined, and the part that one of these reaches.
use Rattle.std.proofs.Common.{◌≡◌, ℕ, true, ◌⊎◌, inl, inr, List, [], ◌∷◌, get_or, Some, IsSome, refl, sym, ap, ◌∙◌, subst, arith}
use Rattle.spb_types.specs.Graph.{IsValid, joins, cost_between}
use Rattle.spb_types.specs.declared.address.SystemId.{SystemId}
use Rattle.spb_types.specs.declared.graph.Edge.{Edge}
use Rattle.spb_types.specs.declared.graph.GraphBridge.{GraphBridge}
use Rattle.spb_types.specs.declared.graph.Graph.{Graph}
use Rattle.ect_trees.specs.Path.{Leads}
use Rattle.ect_trees.specs.Laws.{IsReached, IsPartOf, SomeGraphIsCut}
use Rattle.ect_trees.proofs.Members.{Has, has_from_contains, contains_from_has}
use Rattle.ect_trees.proofs.Steps.{edge_between, joins_is, cost_of_edge}
use Rattle.ect_trees.proofs.Reached.{reached_itself, reached_step}

abbrev system : ℕ → SystemId
system n = record { mac = record { bytes = n ∷ [] } }

abbrev bridge : ℕ → GraphBridge
bridge n = record { id = record { priority = 0; system = system n }; source = record { value = n } }

abbrev edge : Edge
edge = record { a = system 1; port_a = 1; b = system 2; port_b = 1; cost = 10 }

abbrev all : Graph
all = record { bridges = bridge 1 ∷ bridge 2 ∷ bridge 3 ∷ []; edges = edge ∷ []; members = [] }

abbrev some : Graph
some = record { bridges = bridge 1 ∷ bridge 2 ∷ []; edges = edge ∷ []; members = [] }

number : SystemId → ℕ
number x = get_or x.mac.bytes 0 0

apart : (m n : ℕ) → system m ≡ system n → m ≡ n
unfolding number
apart m n e = ap number e

whole_valid : IsValid all
whole_valid = record {
  few = omega arith;
  apart = (
    (λ i. elim i [ inl e ↦ absurd (omega (arith, apart 1 2 e)) | inr (inl e) ↦ absurd (omega (arith, apart 1 3 e)) | inr (inr k) ↦ k ]),
    ((λ i. elim i [ inl e ↦ absurd (omega (arith, apart 2 3 e)) | inr k ↦ k ]), ((λ i. i), tt)),
  );
  edges = (record { from = inl refl; to = inr (inl refl); apart = refl; low = omega arith; high = omega arith }, tt);
  one_edge = (tt, tt);
  members = tt;
}

-- one of the two joined bridges
abbrev IsEnd : SystemId → Type 0
IsEnd x = (x ≡ system 1) ⊎ (x ≡ system 2)

ends : (x y : SystemId) → IsSome (cost_between all x y) → IsEnd x × IsEnd y
ends x y s = at (edge_between all x y s)
  where
    of : (e : Edge) → e ≡ edge → ((e.a ≡ x) × (e.b ≡ y)) ⊎ ((e.a ≡ y) × (e.b ≡ x)) → IsEnd x × IsEnd y
    of e is (inl i) = (inl (sym i.0 ∙ ap (λ t. t.a) is), inr (sym i.1 ∙ ap (λ t. t.b) is))
    of e is (inr i) = (inr (sym i.1 ∙ ap (λ t. t.b) is), inl (sym i.0 ∙ ap (λ t. t.a) is))

    at : (e : Edge) × Has e (edge ∷ []) × (joins e x y ≡ true) × (cost_between all x y ≡ Some e.cost) → IsEnd x × IsEnd y
    at (e, inl i, j, c) = of e i (joins_is e x y j)
    at (e, inr i, j, c) = absurd i

leads_end : (a b : SystemId) (xs : List SystemId) → IsEnd a → Leads all a xs b → IsEnd b
leads_end a b [] e l = subst (λ z. IsEnd z) l.1 e
leads_end a b (x ∷ xs) e l = leads_end x b xs (ends a x l.1).1 l.2

reached_end : (x : SystemId) → IsReached all (system 1) x → IsEnd x
reached_end x r = leads_end (system 1) x r.0 (inl refl) r.1

joined : IsSome (cost_between all (system 1) (system 2))
joined = subst (λ o. IsSome o) (sym (cost_of_edge all edge whole_valid (inl refl))) refl

end_reached : (x : SystemId) → IsEnd x → IsReached all (system 1) x
end_reached x (inl e) = subst (IsReached all (system 1)) (sym e) (reached_itself all (system 1) (inl refl))
end_reached x (inr e) =
    subst (IsReached all (system 1)) (sym e) (reached_step all (system 1) (system 1) (system 2) (reached_itself all (system 1) (inl refl)) joined (inr (inl refl)))

third : IsEnd (system 3) → ⊥
third (inl e) = absurd (omega (arith, apart 3 1 e))
third (inr e) = absurd (omega (arith, apart 3 2 e))

part_there : (b : GraphBridge) → Has b some.bridges → Has b all.bridges × IsReached all (system 1) b.id.system
part_there b (inl e) = (inl e, end_reached b.id.system (inl (ap (λ t. t.id.system) e)))
part_there b (inr (inl e)) = (inr (inl e), end_reached b.id.system (inr (ap (λ t. t.id.system) e)))
part_there b (inr (inr k)) = absurd k

there_part : (b : GraphBridge) → Has b all.bridges → IsEnd b.id.system → Has b some.bridges
there_part b (inl e) r = inl e
there_part b (inr (inl e)) r = inr (inl e)
there_part b (inr (inr (inl e))) r = absurd (third (subst (λ z. IsEnd z) (ap (λ t. t.id.system) e) r))
there_part b (inr (inr (inr k))) r = absurd k

part : IsPartOf all (system 1) some
part = record {
  bridges = λ b. (
    (λ k. (let h = part_there b (has_from_contains some.bridges b k) in (contains_from_has all.bridges b h.0, h.1))),
    (λ k. contains_from_has some.bridges b (there_part b (has_from_contains all.bridges b k.0) (reached_end b.id.system k.1))),
  );
  costs = λ x y r. refl;
  ports = λ x y r. refl;
  within = λ x y s. end_reached x (ends x y s).0;
  members = λ m. ((λ k. absurd (has_from_contains [] m k)), (λ k. absurd (has_from_contains [] m k.0)));
}

pub some_graph_is_cut : SomeGraphIsCut
some_graph_is_cut = (
  all,
  system 1,
  some,
  record {
    valid = whole_valid;
    part = part;
    next = system 2;
    joined = joined;
    other = bridge 3;
    there = contains_from_has all.bridges (bridge 3) (inr (inr (inl refl)));
    missing = λ k. third (reached_end (system 3) (part_there (bridge 3) (has_from_contains some.bridges (bridge 3) k)).1);
  },
)

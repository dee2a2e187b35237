-- Bridges of the systems 02:00:00:00:00:NN, each of another number.
use Rattle.std.proofs.Common.{◌≡◌, ℕ, ◌+◌, ◌<◌, ◌≤◌, inl, inr, List, [], ◌∷◌, ◌++◌, length, get_or, sym, ap, ◌∙◌, subst, arith, length-append}
use Rattle.std.specs.List.{AllByRecursion}
use Rattle.std.proofs.lemmas.List.{map-append}
use Rattle.spb_types.specs.Graph.{IsAmong, IsDistinct, IsBridge, IsEdgeOf, OneEdge, IsValid, systems_of}
use Rattle.spb_types.specs.declared.address.SystemId.{SystemId}
use Rattle.spb_types.specs.declared.graph.GraphBridge.{GraphBridge}
use Rattle.spb_types.specs.declared.graph.Graph.{Graph}
use Rattle.ect_trees.proofs.Among.{among_parts, distinct_snoc}

abbrev pub system : ℕ → SystemId
system k = record { mac = record { bytes = 2 ∷ 0 ∷ 0 ∷ 0 ∷ 0 ∷ k ∷ [] } }

-- the bridges have different systems, of numbers below this one, and are fewer than it
pub record AreBelow (k : ℕ) (bs : List GraphBridge) : Type 0 where
  pub few : length bs < k
  pub apart : IsDistinct (systems_of bs)
  pub below : (x : SystemId) → IsAmong x (systems_of bs) → (j : ℕ) × (j < k) × (x ≡ system j)

same_number : (j k : ℕ) → system j ≡ system k → j ≡ k
same_number j k e = ap (λ (s : SystemId). get_or s.mac.bytes 5 0) e

pub none_below : AreBelow 1 []
none_below = record { few = omega arith; apart = tt; below = λ x h. absurd h }

-- a bridge with the system of this number goes behind them
pub one_more : (k : ℕ) (bs : List GraphBridge) (b : GraphBridge) → b.id.system ≡ system k → AreBelow k bs → AreBelow (k + 1) (bs ++ b ∷ [])
one_more k bs b e h = record {
  few = omega (arith, h.few, length-append bs (b ∷ []));
  apart = subst IsDistinct (sym longer) (distinct_snoc (systems_of bs) b.id.system h.apart new);
  below = λ x i. elim (among_parts x (systems_of bs) (b.id.system ∷ []) (subst (λ t. IsAmong x t) longer i)) [
    | inl old ↦ let j = h.below x old in (j.0, omega (arith, j.1), j.2)
    | inr (inl same) ↦ (k, omega arith, same ∙ e)
    | inr (inr none) ↦ absurd none
  ];
}
  where
    longer : systems_of (bs ++ b ∷ []) ≡ systems_of bs ++ b.id.system ∷ []
    longer = map-append (λ c. c.id.system) bs (b ∷ [])

    new : IsAmong b.id.system (systems_of bs) → ⊥
    new i = let j = h.below b.id.system i in let s : k ≡ j.0 = same_number k j.0 (sym e ∙ j.2) in absurd (omega (arith, j.1, s))

-- a graph of such bridges without edges is valid
pub valid_apart : (k : ℕ) (bs : List GraphBridge) (g : Graph) → k ≤ 256 → AreBelow k bs → g.bridges ≡ bs → g.edges ≡ [] → g.members ≡ [] → IsValid g
valid_apart k bs g low h b e m =
    let few : length bs ≤ 65535 = omega (arith, low, h.few) in
    record {
      few = subst (λ xs. length xs ≤ 65535) (sym b) few;
      apart = subst (λ xs. IsDistinct (systems_of xs)) (sym b) h.apart;
      edges = subst (λ es. AllByRecursion (λ f. IsEdgeOf g f) es) (sym e) tt;
      one_edge = subst OneEdge (sym e) tt;
      members = subst (λ ms. AllByRecursion (λ n. IsBridge g n.system) ms) (sym m) tt;
    }

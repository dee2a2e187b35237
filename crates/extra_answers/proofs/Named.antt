-- The declared bridges by their system ids and by their names: from each the other is found.
use Rattle.std.proofs.Common.{◌≡◌, ◌≢◌, arith, ℕ, zero, suc, ◌+◌, ◌<◌, Bool, true, false, true≢false, cond, ◌⊎◌, inl, inr, List, [], ◌∷◌, length, Option, Some, is_some, slice_get, refl, sym, ap, ◌∙◌}
use Rattle.std.specs.List.{position_from}
use Rattle.std.specs.Option.{option_and_then, unwrap_or}
use Rattle.std.specs.Str.{bytes_eq}
use Rattle.std.proofs.lemmas.List.{length-map}
use Rattle.std.proofs.lemmas.Iterator.Adapters.{position_from-zero}
use Rattle.std.proofs.lemmas.Slice.Eq.{bytes_eq-Decides}
use Rattle.spb_types.specs.Address.{same_system}
use Rattle.spb_types.specs.Graph.{IsAmong, systems_of}
use Rattle.spb_types.specs.declared.address.SystemId.{SystemId}
use Rattle.ect_trees.proofs.Among.{same_is, same_self}
use Rattle.bridge_api.specs.Config.{ArePairwise}
use Rattle.spb_world.specs.World.{Bridges, names_of, things_of, graph_bridges, place_of, system_at}
use Rattle.spb_world.specs.Systems.{place_of_system, name_of_system}
use Rattle.spb_world.proofs.BoxLemmas.{All-get}
use Rattle.extra_answers.specs.Entries.{system_named}

-- ---- by their system ids

-- a bridge is found at a place, where it stands, counted from k on
record Stands (bs : Bridges) (x : SystemId) (k : ℕ) (found : Option ℕ) : Type 0 where
  place : ℕ
  at : found ≡ Some (k + place)
  within : place < length bs
  is : system_at bs place ≡ x

stands : (bs : Bridges) (x : SystemId) (k : ℕ) → IsAmong x (systems_of (graph_bridges bs)) → Stands bs x k (position_from (λ b. same_system b.bridge.id.system x) k (things_of bs))
stands [] x k i = absurd i
stands (b ∷ bs) x k i = by (same_system b.1.bridge.id.system x) refl (stands bs x (k + 1)) i
  where
    by : (t : Bool) → same_system b.1.bridge.id.system x ≡ t → (IsAmong x (systems_of (graph_bridges bs)) → Stands bs x (k + 1) (position_from (λ b. same_system b.bridge.id.system x) (k + 1) (things_of bs))) → (x ≡ b.1.bridge.id.system) ⊎ IsAmong x (systems_of (graph_bridges bs)) → Stands (b ∷ bs) x k (cond t (Some k) (position_from (λ b. same_system b.bridge.id.system x) (k + 1) (things_of bs)))
    by true s later i = record { place = 0; at = ap (λ (j : ℕ). Some j) (omega arith); within = omega arith; is = same_is b.1.bridge.id.system x s }
    by false s later (inl e) = absurd (true≢false (sym (same_self b.1.bridge.id.system) ∙ (ap (same_system b.1.bridge.id.system) (sym e) ∙ s)))
    by false s later (inr j) =
        let r = later j in
        record { place = suc r.place; at = r.at ∙ ap (λ (j : ℕ). Some j) (omega arith); within = omega (arith, r.within); is = r.is }

-- ---- by their names

-- the thing at a place has a name, by which the place is found, counted from k on
record IsNamed (names : List (List ℕ)) (place k : ℕ) : Type 0 where
  name : List ℕ
  at : slice_get names place ≡ Some name
  found : position_from (bytes_eq name) k names ≡ Some (k + place)

found_first : (b : Bool) (k : ℕ) (o : Option ℕ) → b ≡ true → cond b (Some k) o ≡ Some k
found_first true k o is = refl
found_first false k o is = absurd cc

found_later : (b : Bool) (k : ℕ) (o : Option ℕ) → (b ≡ true → ⊥) → cond b (Some k) o ≡ o
found_later true k o not = absurd (not refl)
found_later false k o not = refl

is_named : (names : List (List ℕ)) (place k : ℕ) → ArePairwise (λ x y. x ≢ y) names → place < length names → IsNamed names place k
is_named [] place k apart within = absurd (omega (arith, within))
is_named (n ∷ names) zero k apart within = record {
  name = n;
  at = refl;
  found = found_first (bytes_eq n n) k (position_from (bytes_eq n) (k + 1) names) ((bytes_eq-Decides n n).1 refl) ∙ ap (λ (j : ℕ). Some j) (omega arith);
}
is_named (n ∷ names) (suc i) k apart within =
    let r : IsNamed names i (k + 1) = is_named names i (k + 1) apart.1 (omega (arith, within)) in
    let other : n ≢ r.name = All-get (λ m. n ≢ m) names i r.name apart.0 r.at in
    record {
      name = r.name;
      at = r.at;
      found = found_later (bytes_eq r.name n) k (position_from (bytes_eq r.name) (k + 1) names) (λ is. other (sym ((bytes_eq-Decides r.name n).0 is)))
          ∙ (r.found ∙ ap (λ (j : ℕ). Some j) (omega arith));
    }

-- ---- both

-- the bridge of a system id has a name, and is the one of this name
pub record IsFoundByName (bs : Bridges) (x : SystemId) : Type 0 where
  pub name : List ℕ
  pub named : name_of_system bs x ≡ Some name
  pub known : is_some (place_of name bs) ≡ true
  pub system : system_named bs name ≡ x

pub found_by_name : (bs : Bridges) (x : SystemId) → ArePairwise (λ x y. x ≢ y) (names_of bs) → IsAmong x (systems_of (graph_bridges bs)) → IsFoundByName bs x
found_by_name bs x apart i =
    let s : Stands bs x 0 (position_from (λ b. same_system b.bridge.id.system x) 0 (things_of bs)) = stands bs x 0 i in
    let n : IsNamed (names_of bs) s.place 0 = is_named (names_of bs) s.place 0 apart (omega (arith, s.within, length-map bs (λ e. e.0))) in
    let at : place_of_system bs x ≡ Some s.place =
    position_from-zero (λ b. same_system b.bridge.id.system x) (things_of bs) ∙ (s.at ∙ ap (λ (j : ℕ). Some j) (omega arith)) in
    let place : place_of n.name bs ≡ Some s.place =
    position_from-zero (bytes_eq n.name) (names_of bs) ∙ (n.found ∙ ap (λ (j : ℕ). Some j) (omega arith)) in
    record {
      name = n.name;
      named = ap (option_and_then (slice_get (names_of bs))) at ∙ n.at;
      known = ap is_some place;
      system = ap (λ o. system_at bs (unwrap_or o (length bs))) place ∙ s.is;
    }

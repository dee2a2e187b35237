-- The path of each label is the one that is found at its end.
use Rattle.std.proofs.Common.{◌≡◌, ℕ, zero, suc, ◌<◌, List, [], ◌∷◌, length, Option, Some, None, refl, sym, ap, ◌∙◌, subst, arith}
use Rattle.std.proofs.lemmas.Option.{same_Some, none-some}
use Rattle.spb_types.specs.Graph.{IsValid, systems_of}
use Rattle.spb_types.specs.declared.address.SystemId.{SystemId}
use Rattle.spb_types.specs.declared.tables.Path.{Path}
use Rattle.ect_trees.specs.declared.search.Label.{Label}
use Rattle.spb_types.specs.declared.graph.Graph.{Graph}
use Rattle.ect_trees.specs.Tree.{path_in, EndOnce}
use Rattle.ect_trees.specs.Arcs.{IsBridgeAt}
use Rattle.ect_trees.specs.Search.{label_at, AreLabelsFrom, path_of, paths_in}
use Rattle.ect_trees.proofs.Places.{at_once}
use Rattle.ect_trees.proofs.Ends.{path_once, Found, found, missed, stands}

-- the label of a path that ends at x stands at the place of x
place_of_end : (g : Graph) (a : SystemId) (ls : List (Option Label)) (x : SystemId) (p : Path) → AreLabelsFrom g a ls → (f : Found ls x p) → IsBridgeAt g f.place x
place_of_end g a ls x p labels f =
    let y = stands g a ls f.place labels f.within in
    let label = labels.each f.place y.0 f.label y.1 f.here in
    subst (IsBridgeAt g f.place) (path_once g a y.0 x f.label.bridges.items label.path f.ends) y.1

same_found : (g : Graph) (a : SystemId) (ls : List (Option Label)) (x : SystemId) (p q : Path) → IsValid g → AreLabelsFrom g a ls → Found ls x p → Found ls x q → q ≡ p
same_found g a ls x p q valid labels f k =
    let place : f.place ≡ k.place = at_once (systems_of g.bridges) f.place k.place x valid.apart (place_of_end g a ls x p labels f) (place_of_end g a ls x q labels k) in
    let here : Some f.label ≡ Some k.label = sym f.here ∙ (ap (label_at ls) place ∙ k.here) in
    let label : f.label ≡ k.label = same_Some f.label k.label here in
    sym k.path_is ∙ (ap path_of (sym label) ∙ f.path_is)

-- a label stands within the list
within_at : (ls : List (Option Label)) (place : ℕ) (l : Label) → label_at ls place ≡ Some l → place < length ls
within_at [] place l e = absurd (none-some l e)
within_at (k ∷ ls) zero l e = omega arith
within_at (k ∷ ls) (suc place) l e = let below = within_at ls place l e in omega (arith, below)

pub end_once : (g : Graph) (a : SystemId) (ls : List (Option Label)) → IsValid g → AreLabelsFrom g a ls → EndOnce ls
end_once g a ls valid labels place l x here ends = by (path_in (paths_in ls) x) refl
  where
    f : Found ls x (path_of l)
    f = record { place = place; label = l; within = within_at ls place l here; here = here; path_is = refl; ends = ends }

    by : (o : Option Path) → path_in (paths_in ls) x ≡ o → path_in (paths_in ls) x ≡ Some (path_of l)
    by None k = absurd (missed ls x place l k here ends)
    by (Some q) k = k ∙ ap Some (same_found g a ls x (path_of l) q valid labels f (found ls x q k))

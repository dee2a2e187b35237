-- What a forest keeps, from place to place and from plan to plan.
use Rattle.std.proofs.Common.{◌≡◌, ◌<◌, ◌+◌, ℕ, zero, suc, List, [], ◌∷◌, length, get_or, take, Option, Some, Result, Ok, Err, IfOk, sym, ap, ◌∙◌, subst, arith}
use Rattle.std.specs.Prelude.{position}
use Rattle.std.specs.List.{AllByRecursion}
use Rattle.spb_types.specs.Address.{same_system}
use Rattle.spb_types.specs.declared.address.SystemId.{SystemId}
use Rattle.spb_types.specs.declared.graph.Graph.{Graph}
use Rattle.spb_types.specs.declared.tables.Path.{Path}
use Rattle.ect_trees.specs.Arcs.{IsBridgeAt}
use Rattle.ect_trees.specs.Forest.{ForestView, KeepsStill}
use Rattle.ect_trees.specs.Tree.{best_path}
use Rattle.ect_trees.proofs.Places.{found_place}
use Rattle.fdb_build.specs.declared.layout.Planned.{Planned}
use Rattle.fdb_build.specs.Fabric.{KeepsFrom, KeepsSenders}

pub one_more : {X : Type 0} (P : X → Type 0) (xs : List X) (i : ℕ) (x : X) → i < length xs → x ≡ get_or xs i x → AllByRecursion P (take i xs) → P x → AllByRecursion P (take (i + 1) xs)
one_more P [] i x within is all p = absurd (omega (arith, within))
one_more P (y ∷ ys) zero x within is all p = (subst P is p, tt)
one_more P (y ∷ ys) (suc i) x within is all p =
    let next : suc (i + 1) ≡ suc i + 1 = omega arith in
    subst (λ n. AllByRecursion P (take n (y ∷ ys))) next (all.0, one_more P ys i x (omega (arith, within)) is all.1 p)

-- what was kept is kept still
pub from_still : (before after : ForestView) (place : ℕ) → KeepsStill before after → (p : Planned) → KeepsFrom before place p → KeepsFrom after place p
from_still before after place still p was = still place _ was

pub senders_still : (before after : ForestView) → KeepsStill before after → (p : Planned) → KeepsSenders before p → KeepsSenders after p
senders_still before after still p was = λ place sends. still place _ (was place sends)

-- the best path from the place where a bridge is found is its own; g is the graph as it is looked at, and h as it is kept
pub path_found : {E : Type 0} (g h all : Graph) (place : ℕ) (me to : SystemId) (m mask : ℕ) (r : Result (Option Path) E) → position (λ b. same_system b.id.system me) g.bridges ≡ Some place → g ≡ all → h ≡ all → m ≡ mask → IfOk r (λ path. (a : SystemId) → IsBridgeAt h place a → path ≡ best_path h m a to) → IfOk r (λ path. path ≡ best_path all mask me to)
path_found g h all place me to m mask (Err e) found whole kept same f = tt
path_found g h all place me to m mask (Ok path) found whole kept same f =
    let here : IsBridgeAt h place me = subst (λ t. IsBridgeAt t place me) (whole ∙ sym kept) (found_place g me place found) in
    f me here ∙ (ap (λ t. best_path t m me to) kept ∙ ap (λ n. best_path all n me to) same)

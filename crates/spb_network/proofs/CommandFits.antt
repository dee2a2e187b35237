-- The shape of a state after a declaration, and the boxes of a rack.
use Rattle.std.proofs.Common.{◌≡◌, ℕ, zero, suc, List, [], ◌∷◌, ◌++◌, map, remove, refl, ap, arith}
use Rattle.spb_world.specs.declared.declaration.DeclaredLink.{DeclaredLink}
use Rattle.link_model.specs.declared.lanes.LinkLanes.{LinkLanes}
use Rattle.spb_world.specs.Declaring.{with_link}
use Rattle.network_model.specs.State.{State, Fits}
use Rattle.bridge_api.specs.Shown.{Shown}
use Rattle.spb_network.specs.declared.network.NetworkOf.{NetworkOf}
use Rattle.spb_network.specs.Applying.{IsSoundNetwork}
use Rattle.spb_network.specs.Network.{IsInOrder}
use Rattle.spb_world.proofs.ListLemmas.{length-push}

-- a sound network is in order
pub in_order : {B : Type 0} (shown : B → Shown) (n : NetworkOf B) → IsSoundNetwork shown n → IsInOrder shown n
in_order shown n sound = record { made = sound.made; fits = sound.state.fits }

pub Fits-with_link : (s : State) (name : List ℕ) (l : DeclaredLink) (lanes : LinkLanes) → Fits s → Fits (record s { world = with_link s.world name l; lanes = s.lanes ++ lanes ∷ [] })
unfolding with_link
Fits-with_link s name l lanes fits = record {
  bridges = fits.bridges;
  lanes = omega (arith, length-push s.lanes lanes, length-push s.world.links (name, l), fits.lanes);
  ports = fits.ports;
}

pub map-remove : {X Y : Type 0} (f : X → Y) (xs : List X) (i : ℕ) → map f (remove xs i) ≡ remove (map f xs) i
map-remove f [] zero = refl
map-remove f [] (suc i) = refl
map-remove f (x ∷ xs) zero = refl
map-remove f (x ∷ xs) (suc i) = ap (λ l. f x ∷ l) (map-remove f xs i)

pub map-push : {X Y : Type 0} (f : X → Y) (xs : List X) (x : X) → map f (xs ++ x ∷ []) ≡ map f xs ++ f x ∷ []
map-push f [] x = refl
map-push f (y ∷ ys) x = ap (λ l. f y ∷ l) (map-push f ys x)

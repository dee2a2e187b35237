-- The ports of a bridge as they are told, and the boxes of a rack.
use Rattle.std.proofs.Common.{Result, Ok, Err, IfOk, ◌≡◌, ℕ, zero, suc, ◌+◌, ◌-◌, ◌<◌, ◌≤◌, Bool, true, false, List, [], ◌∷◌, ◌++◌, length, take, drop, Some, None, if◌then◌else◌, nat_le, slice_get, refl, sym, ap, ◌∙◌, arith}
use Rattle.std.proofs.lemmas.Bool.Decides.{nat_tests}
use Rattle.std.specs.Option.{option_map}
use Rattle.adjacency.specs.declared.port.Adjacency.{Adjacency}
use Rattle.bridge_api.specs.declared.kind.Kind.{Kind}
use Rattle.bridge_api.specs.declared.port.BridgePort.{BridgePort}
use Rattle.bridge_api.specs.View.{BridgeView, port_in, is_csnp_due_in}
use Rattle.spb_world.specs.declared.declaration.DeclaredBridge.{DeclaredBridge}
use Rattle.spb_world.specs.World.{Bridges, things_of, ports_at}
use Rattle.network_model.specs.State.{State, Spare, serves, box_from, Fits}
use Rattle.network_model.specs.Questions.{adjacencies_of}

pub some-is : {X : Type 0} (x y : X) → Some x ≡ Some y → x ≡ y
some-is x y h = cc

pub suc-is : (k : ℕ) → k + 1 ≡ suc k
suc-is k = omega arith

one-at-most : (p : ℕ) → nat_le 1 (p + 1) ≡ true
one-at-most p = grind (arith, nat_tests)

less-one : (p : ℕ) → p + 1 - 1 ≡ p
less-one p = omega arith

pub port-next : (ports : List BridgePort) (p : ℕ) → port_in ports (p + 1) ≡ slice_get ports p
port-next ports p = rw (one-at-most p, less-one p) refl

shown-at : (ports : List BridgePort) (p : ℕ) (a : Adjacency) (due : Bool) → Some a ≡ option_map (λ port. port.adjacency) (slice_get ports p) → due ≡ is_csnp_due_in (slice_get ports p) → take (suc p) (adjacencies_of ports) ≡ take p (adjacencies_of ports) ++ (a, due) ∷ []
shown-at [] p a due h e = cc
shown-at (q ∷ qs) zero a due h e = λ i. (sym (some-is a q.adjacency h) i, sym e i) ∷ []
shown-at (q ∷ qs) (suc p) a due h e = ap (λ l. (q.adjacency, q.csnp_due) ∷ l) (shown-at qs p a due h e)

-- one port more
pub shown-more : (ports : List BridgePort) (p : ℕ) (a : Adjacency) (due : Bool) → Some a ≡ option_map (λ port. port.adjacency) (port_in ports (p + 1)) → due ≡ is_csnp_due_in (port_in ports (p + 1)) → take (p + 1) (adjacencies_of ports) ≡ take p (adjacencies_of ports) ++ (a, due) ∷ []
shown-more ports p a due h e = ap (λ n. take n (adjacencies_of ports)) (suc-is p) ∙ shown-at ports p a due (h ∙ ap (option_map (λ port. port.adjacency)) (port-next ports p)) (e ∙ ap is_csnp_due_in (port-next ports p))

take-length : {X : Type 0} (xs : List X) (n : ℕ) → n ≡ length xs → take n xs ≡ xs
take-length [] zero h = refl
take-length [] (suc n) h = absurd (omega (arith, h))
take-length (x ∷ xs) zero h = absurd (omega (arith, h))
take-length (x ∷ xs) (suc n) h = ap (λ l. x ∷ l) (take-length xs n (omega (arith, h)))

length-shown : (ports : List BridgePort) → length (adjacencies_of ports) ≡ length ports
length-shown [] = refl
length-shown (p ∷ ps) = grind (arith, length-shown ps)

pub shown-all : (ports : List BridgePort) (n : ℕ) → n ≡ length ports → take n (adjacencies_of ports) ≡ adjacencies_of ports
shown-all ports n h = take-length (adjacencies_of ports) n (h ∙ sym (length-shown ports))

declared-at : (bs : Bridges) (i : ℕ) → i < length bs → (b : DeclaredBridge) × (slice_get (things_of bs) i ≡ Some b) × (ports_at bs i ≡ b.ports)
declared-at [] i h = absurd (omega arith)
declared-at (b ∷ bs) zero h = (b.1, refl, refl)
declared-at (b ∷ bs) (suc i) h = declared-at bs i (omega arith)

within-get : {X : Type 0} (xs : List X) (i : ℕ) (x : X) → slice_get xs i ≡ Some x → i < length xs
within-get [] i x h = cc
within-get (y ∷ ys) zero x h = omega arith
within-get (y ∷ ys) (suc i) x h = omega (arith, within-get ys i x h)

-- a bridge has as many ports as were declared
pub ports-count : (s : State) (i : ℕ) (v : BridgeView) → Fits s → slice_get s.views i ≡ Some v → length v.ports ≡ ports_at s.world.bridges i
ports-count s i v fits at =
    let there = declared-at s.world.bridges i (omega (arith, within-get s.views i v at, fits.bridges)) in
    (fits.ports i v there.0 at there.1).ports ∙ sym there.2

-- ---- the next box

box-step : (k : ℕ) (wanted : Kind) (rack : List Spare) (n : ℕ) (b : Spare) → slice_get rack n ≡ Some b → box_from k wanted (drop n rack) ≡ (if serves wanted b then Some k else box_from (k + 1) wanted (drop (suc n) rack))
box-step k wanted [] n b h = cc
box-step k wanted (c ∷ cs) zero b h = ap (λ x. if serves wanted x then Some k else box_from (k + 1) wanted cs) (some-is c b h)
box-step k wanted (c ∷ cs) (suc n) b h = box-step k wanted cs n b h

pub box-found : (wanted : Kind) (rack : List Spare) (k : ℕ) (b : Spare) → slice_get rack k ≡ Some b → serves wanted b ≡ true → box_from k wanted (drop k rack) ≡ Some k
box-found wanted rack k b h e = box-step k wanted rack k b h ∙ ap (λ t. if t then Some k else box_from (k + 1) wanted (drop (suc k) rack)) e

pub box-passed : (wanted : Kind) (rack : List Spare) (k : ℕ) (b : Spare) → slice_get rack k ≡ Some b → serves wanted b ≡ false → box_from k wanted (drop k rack) ≡ box_from (k + 1) wanted (drop (k + 1) rack)
box-passed wanted rack k b h e = box-step k wanted rack k b h ∙ ap (λ t. if t then Some k else box_from (k + 1) wanted (drop (suc k) rack)) e ∙ ap (λ n. box_from (k + 1) wanted (drop n rack)) (sym (suc-is k))

drop-length : {X : Type 0} (xs : List X) (n : ℕ) → length xs ≤ n → drop n xs ≡ []
drop-length [] zero h = refl
drop-length [] (suc n) h = refl
drop-length (x ∷ xs) zero h = absurd (omega arith)
drop-length (x ∷ xs) (suc n) h = drop-length xs n (omega arith)

pub box-none : (wanted : Kind) (rack : List Spare) (k : ℕ) → length rack ≤ k → box_from k wanted (drop k rack) ≡ None
box-none wanted rack k h = ap (box_from k wanted) (drop-length rack k h)

-- what holds of an answer that is Ok
pub shown-ok : {T E : Type 0} {P Q : T → Type 0} (r : Result T E) → ((x : T) → P x → Q x) → IfOk r P → IfOk r Q
shown-ok (Ok x) f p = f x p
shown-ok (Err e) f p = p

-- Lists of ports that a loop changes one after another.
use Rattle.std.proofs.Common.{◌≡◌, ◌<◌, ◌+◌, ℕ, zero, suc, List, [], ◌∷◌, ◌++◌, map, length, take, drop, refl, sym, ap, ◌∙◌, subst, arith, get_or, add-one}
use Rattle.std.specs.Prelude.{slice_set}
use Rattle.bridge_api.specs.declared.port.BridgePort.{BridgePort}
use Rattle.bridge_api.specs.Laws.{IsSoundPort}
use Rattle.bridge_control.specs.Ports.{AreSoundPorts}

-- ---- loops

-- the port that a loop comes to is still as it was
still_next : (f : BridgePort → BridgePort) (ports list : List BridgePort) (i : ℕ) (d : BridgePort) → i < length ports → list ≡ map f (take i ports) ++ drop i ports → get_or list i d ≡ get_or ports i d
still_next f [] list i d within e = absurd (omega arith)
still_next f (x ∷ ports) list zero d within e = ap (λ (l : List BridgePort). get_or l 0 d) e
still_next f (x ∷ ports) list (suc i) d within e =
    ap (λ (l : List BridgePort). get_or l (suc i) d) e ∙ still_next f ports (map f (take i ports) ++ drop i ports) i d (omega arith) refl

sound_nth : (ports : List BridgePort) (i : ℕ) (d : BridgePort) → AreSoundPorts ports → i < length ports → IsSoundPort (get_or ports i d)
sound_nth [] i d all within = absurd (omega arith)
sound_nth (x ∷ ports) zero d all within = all.0
sound_nth (x ∷ ports) (suc i) d all within = sound_nth ports i d all.1 (omega arith)

pub sound_next : (f : BridgePort → BridgePort) (ports list : List BridgePort) (i : ℕ) (d : BridgePort) → AreSoundPorts ports → i < length ports → list ≡ map f (take i ports) ++ drop i ports → IsSoundPort (get_or list i d)
sound_next f ports list i d all within e = subst IsSoundPort (sym (still_next f ports list i d within e)) (sound_nth ports i d all within)

pub there_next : {X : Type 0} (g : BridgePort → X) (f : BridgePort → BridgePort) (ports list : List BridgePort) (i : ℕ) (d : BridgePort) (x : X) → i < length ports → list ≡ map f (take i ports) ++ drop i ports → x ≡ g (get_or list i d) → x ≡ g (get_or ports i d)
there_next g f ports list i d x within e is = is ∙ ap g (still_next f ports list i d within e)

-- changing it takes the loop one port on
changed_suc : (f : BridgePort → BridgePort) (ports list : List BridgePort) (i : ℕ) (d : BridgePort) → i < length ports → list ≡ map f (take i ports) ++ drop i ports → slice_set list i (f (get_or list i d)) ≡ map f (take (suc i) ports) ++ drop (suc i) ports
changed_suc f [] list i d within e = absurd (omega arith)
changed_suc f (x ∷ ports) list zero d within e = ap (λ (l : List BridgePort). slice_set l 0 (f (get_or l 0 d))) e
changed_suc f (x ∷ ports) list (suc i) d within e =
    ap (λ (l : List BridgePort). slice_set l (suc i) (f (get_or l (suc i) d))) e ∙ ap (λ (l : List BridgePort). f x ∷ l) (changed_suc f ports (map f (take i ports) ++ drop i ports) i d (omega arith) refl)

pub changed_next : (f : BridgePort → BridgePort) (ports list : List BridgePort) (i : ℕ) (d : BridgePort) → i < length ports → list ≡ map f (take i ports) ++ drop i ports → slice_set list i (f (get_or list i d)) ≡ map f (take (i + 1) ports) ++ drop (i + 1) ports
changed_next f ports list i d within e = rw add-one (changed_suc f ports list i d within e)

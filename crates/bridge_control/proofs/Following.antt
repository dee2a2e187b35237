-- What is kept of the ports: their hellos, and which are Up.
use Rattle.std.proofs.Common.{◌≡◌, ◌≤◌, ◌<◌, ◌-◌, ◌+◌, ℕ, zero, suc, Bool, true, false, List, [], ◌∷◌, ◌++◌, map, length, take, get_or, refl, sym, ap, ◌∙◌, Option, Some, None, arith, add-one, add-zero}
use Rattle.std.specs.Prelude.{slice_get, slice_set, not, ◌&&◌, ◌||◌, ◌==◌, if◌then◌else◌}
use Rattle.std.specs.List.{AllByRecursion}
use Rattle.std.specs.Global.{Vec}
use Rattle.spb_types.specs.declared.address.SystemId.{SystemId}
use Rattle.spb_types.specs.declared.ports.PortSet.{PortSet}
use Rattle.spb_types.specs.Ports.{with_port}
use Rattle.isis_pdu.specs.Spelling.{hello_bytes}
use Rattle.itag_frames.specs.Frame.{control_bytes}
use Rattle.lsdb.specs.Database.{Lsps}
use Rattle.flooding.specs.declared.own.Own.{Own}
use Rattle.adjacency.specs.declared.port.Adjacency.{Adjacency}
use Rattle.adjacency.specs.States.{state_number}
use Rattle.adjacency.specs.Adjacency.{is_up, is_down, kept_in, down}
use Rattle.bridge_api.specs.declared.port.BridgePort.{BridgePort}
use Rattle.bridge_api.specs.View.{up_from}
use Rattle.bridge_api.specs.Own.{neighbours_from}
use Rattle.bridge_api.specs.Hearing.{with_csnp_due}
use Rattle.bridge_api.specs.Ticking.{hello_tlvs, hello_frame, later}
use Rattle.bridge_control.specs.declared.machine.Machine.{Machine}
use Rattle.bridge_control.specs.Machine.{view_of, kept_hello, hellos_from, FollowsPorts, IsPut}
use Rattle.bridge_control.specs.Ports.{IsSameEnd, loses, has_lost}

-- ---- ports of which hellos say the same

-- lists of ports, from number q on, with the same hellos and Up ports
pub record AreAlike (system : SystemId) (q : ℕ) (old new : List BridgePort) : Type 0 where
  pub hellos : hellos_from system q new ≡ hellos_from system q old
  pub up : up_from q new ≡ up_from q old

pub alike_refl : (system : SystemId) (q : ℕ) (ports : List BridgePort) → AreAlike system q ports ports
alike_refl system q ports = record { hellos = refl; up = refl }

pub same_refl : (a : Adjacency) → IsSameEnd a a
same_refl a = record { carrier = refl; state = refl; neighbour = refl; circuit = refl }

hello_alike : (system : SystemId) (p : ℕ) (a b : BridgePort) → IsSameEnd a.adjacency b.adjacency → kept_hello system p b ≡ kept_hello system p a
unfolding hello_frame
hello_alike system p a b same =
    λ i. if same.carrier i then Some (control_bytes system.mac (hello_bytes (record { circuit_type = 1; source = system; holding = 3; circuit = p; tlvs = hello_tlvs (record { state = state_number (same.state i); circuit = p; neighbour = kept_in (same.state i) (same.neighbour i, same.circuit i) }) }))) else None

alike_cons : (system : SystemId) (q : ℕ) (a b : BridgePort) (old new : List BridgePort) → IsSameEnd a.adjacency b.adjacency → AreAlike system (q + 1) old new → AreAlike system q (a ∷ old) (b ∷ new)
alike_cons system q a b old new same rest = record {
  hellos = λ i. hello_alike system q a b same i ∷ rest.hellos i;
  up = λ i. if is_up (same.state i) then with_port (rest.up i) q else rest.up i;
}

pub alike_map : (system : SystemId) (q : ℕ) (f : BridgePort → BridgePort) (ports : List BridgePort) → AllByRecursion (λ (port : BridgePort). IsSameEnd port.adjacency (f port).adjacency) ports → AreAlike system q ports (map f ports)
alike_map system q f [] all = record { hellos = refl; up = refl }
alike_map system q f (x ∷ ports) all = alike_cons system q x (f x) ports (map f ports) all.0 (alike_map system (q + 1) f ports all.1)

pub alike_set : (system : SystemId) (q i : ℕ) (ports : List BridgePort) (old new : BridgePort) → slice_get ports i ≡ Some old → IsSameEnd old.adjacency new.adjacency → AreAlike system q ports (slice_set ports i new)
alike_set system q i [] old new there same = record { hellos = refl; up = refl }
alike_set system q zero (x ∷ ports) old new there same =
    let is : x ≡ old = cc in
    alike_cons system q x new ports ports (record { carrier = same.carrier ∙ ap (λ (port : BridgePort). port.adjacency.carrier) (sym is); state = same.state ∙ ap (λ (port : BridgePort). port.adjacency.state) (sym is); neighbour = same.neighbour ∙ ap (λ (port : BridgePort). port.adjacency.neighbour) (sym is); circuit = same.circuit ∙ ap (λ (port : BridgePort). port.adjacency.circuit) (sym is) }) (alike_refl system (q + 1) ports)
alike_set system q (suc i) (x ∷ ports) old new there same =
    alike_cons system q x x ports (slice_set ports i new) (same_refl x.adjacency) (alike_set system (q + 1) i ports old new there same)

-- nothing is due any more
all_undue : (ports : List BridgePort) → AllByRecursion (λ (port : BridgePort). IsSameEnd port.adjacency (with_csnp_due false port).adjacency) ports
all_undue [] = tt
all_undue (port ∷ ports) = (same_refl port.adjacency, all_undue ports)

pub alike_undue : (system : SystemId) (ports : List BridgePort) → AreAlike system 1 ports (map (with_csnp_due false) ports)
alike_undue system ports = alike_map system 1 (with_csnp_due false) ports (all_undue ports)

-- a second in which no neighbour is lost
second_by : (is_none is_last : Bool) (a : Adjacency)
    → (not is_none && is_down (if is_none then a else (if is_last then down a.carrier else record a { hold = a.hold - 1 })).state) ≡ false
    → IsSameEnd a (if is_none then a else (if is_last then down a.carrier else record a { hold = a.hold - 1 }))
second_by true is_last a none = same_refl a
second_by false true a none = absurd cc
second_by false false a none = record { carrier = refl; state = refl; neighbour = refl; circuit = refl }

pub same_later : (port : BridgePort) → loses port ≡ false → IsSameEnd port.adjacency (later port).adjacency
same_later port none = second_by (is_down port.adjacency.state) (port.adjacency.hold == 1) port.adjacency none

neither : (a b : Bool) → (a || b) ≡ false → (a ≡ false) × (b ≡ false)
neither true b e = absurd cc
neither false b e = (refl, e)

all_later : (ports : List BridgePort) → has_lost ports ≡ false → AllByRecursion (λ (port : BridgePort). IsSameEnd port.adjacency (later port).adjacency) ports
all_later [] none = tt
all_later (port ∷ ports) none = let parts = neither (loses port) (has_lost ports) none in (same_later port parts.0, all_later ports parts.1)

pub alike_later : (system : SystemId) (ports : List BridgePort) → has_lost ports ≡ false → AreAlike system 1 ports (map later ports)
alike_later system ports none = alike_map system 1 later ports (all_later ports none)

neighbours_by : (q : ℕ) (ports : List BridgePort) → AllByRecursion (λ (port : BridgePort). IsSameEnd port.adjacency (later port).adjacency) ports → neighbours_from q (map later ports) ≡ neighbours_from q ports
neighbours_by q [] all = refl
neighbours_by q (port ∷ ports) all =
    let rest = neighbours_by (q + 1) ports all.1 in
    λ i. if is_up (all.0.state i) then record { system = all.0.neighbour i; metric = port.metric; port = q } ∷ rest i else rest i

pub neighbours_later : (ports : List BridgePort) → has_lost ports ≡ false → neighbours_from 1 (map later ports) ≡ neighbours_from 1 ports
neighbours_later ports none = neighbours_by 1 ports (all_later ports none)

-- ---- the hellos by their places

pub length_hellos : (system : SystemId) (q : ℕ) (ports : List BridgePort) → length (hellos_from system q ports) ≡ length ports
length_hellos system q [] = refl
length_hellos system q (port ∷ ports) = ap suc (length_hellos system (q + 1) ports)

hellos_suc : (system : SystemId) (q : ℕ) (ports : List BridgePort) (i : ℕ) (d : BridgePort) → i < length ports
    → hellos_from system q (take (suc i) ports) ≡ hellos_from system q (take i ports) ++ kept_hello system (q + i) (get_or ports i d) ∷ []
hellos_suc system q [] i d within = absurd (omega arith)
hellos_suc system q (port ∷ ports) zero d within = rw add-zero refl
hellos_suc system q (port ∷ ports) (suc i) d within =
    let number : (q + 1) + i ≡ q + suc i = omega arith in
    ap (λ (l : List (Option (List ℕ))). kept_hello system q port ∷ l)
    (hellos_suc system (q + 1) ports i d (omega arith) ∙ ap (λ (k : ℕ). hellos_from system (q + 1) (take i ports) ++ kept_hello system k (get_or ports i d) ∷ []) number)

-- with the hello of the next port
pub hellos_next : (system : SystemId) (ports : List BridgePort) (i : ℕ) (d : BridgePort) (old new : List (Option (List ℕ))) (hello : Option (List ℕ)) → i < length ports → old ≡ hellos_from system 1 (take i ports) → hello ≡ kept_hello system (i + 1) (get_or ports i d)
    → new ≡ old ++ hello ∷ [] → new ≡ hellos_from system 1 (take (i + 1) ports)
hellos_next system ports i d old new hello within before is after =
    let number : 1 + i ≡ i + 1 = omega arith in
    after ∙ (λ j. before j ++ is j ∷ []) ∙ sym (rw add-one (hellos_suc system 1 ports i d within) ∙ ap (λ (k : ℕ). hellos_from system 1 (take i ports) ++ kept_hello system k (get_or ports i d) ∷ []) number)

hello_nth : (system : SystemId) (q : ℕ) (ports : List BridgePort) (i : ℕ) (d : BridgePort) (e : Option (List ℕ)) → i < length ports → get_or (hellos_from system q ports) i e ≡ kept_hello system (q + i) (get_or ports i d)
hello_nth system q [] i d e within = absurd (omega arith)
hello_nth system q (port ∷ ports) zero d e within = rw add-zero refl
hello_nth system q (port ∷ ports) (suc i) d e within =
    let number : (q + 1) + i ≡ q + suc i = omega arith in
    hello_nth system (q + 1) ports i d e (omega arith) ∙ ap (λ (k : ℕ). kept_hello system k (get_or ports i d)) number

-- the hello of the port that a loop comes to
pub hello_there : (system : SystemId) (ports : List BridgePort) (hellos : List (Option (List ℕ))) (i : ℕ) (d : BridgePort) (e hello : Option (List ℕ)) → i < length ports → hellos ≡ hellos_from system 1 ports → hello ≡ get_or hellos i e
    → hello ≡ kept_hello system (i + 1) (get_or ports i d)
hello_there system ports hellos i d e hello within are is =
    let number : 1 + i ≡ i + 1 = omega arith in
    is ∙ (ap (λ (l : List (Option (List ℕ))). get_or l i e) are ∙ (hello_nth system 1 ports i d e within ∙ ap (λ (k : ℕ). kept_hello system k (get_or ports i d)) number))

hellos_set : (system : SystemId) (q i : ℕ) (ports : List BridgePort) (new : BridgePort) → hellos_from system q (slice_set ports i new) ≡ slice_set (hellos_from system q ports) i (kept_hello system (q + i) new)
hellos_set system q i [] new = refl
hellos_set system q zero (x ∷ ports) new = rw add-zero refl
hellos_set system q (suc i) (x ∷ ports) new =
    let number : (q + 1) + i ≡ q + suc i = omega arith in
    ap (λ (l : List (Option (List ℕ))). kept_hello system q x ∷ l) (hellos_set system (q + 1) i ports new ∙ ap (λ (k : ℕ). slice_set (hellos_from system (q + 1) ports) i (kept_hello system k new)) number)

-- ---- what is kept follows

pub follow_with : (m : Machine) (ports : Vec BridgePort) (db : Lsps) (own : Own) → FollowsPorts m → AreAlike m.id.system 1 m.ports.items ports.items → FollowsPorts (record m { ports = ports; db = db; own = own })
follow_with m ports db own follows alike = record { hellos = follows.hellos ∙ sym alike.hellos; up = follows.up ∙ sym alike.up; me = follows.me; heard = follows.heard }

pub few_hellos : (m : Machine) → FollowsPorts m → length m.hellos.items ≡ length m.ports.items
few_hellos m follows = ap length follows.hellos ∙ length_hellos m.id.system 1 m.ports.items

-- a port came into a state of which hellos say the same
pub put_same : (m : Machine) (p : ℕ) (old new : BridgePort) (ports : Vec BridgePort) → FollowsPorts m → slice_get m.ports.items (p - 1) ≡ Some old → ports.items ≡ slice_set m.ports.items (p - 1) new → IsSameEnd old.adjacency new.adjacency
    → IsPut p new m (record m { ports = ports })
put_same m p old new ports follows there is same =
    let alike = alike_set m.id.system 1 (p - 1) m.ports.items old new there same in
    record {
      view = λ i. record (view_of m) { ports = is i };
      own = refl;
      ports = record {
        hellos = follows.hellos ∙ sym (ap (hellos_from m.id.system 1) is ∙ alike.hellos);
        up = follows.up ∙ sym (ap (up_from 1) is ∙ alike.up);
        me = follows.me;
        heard = follows.heard;
      };
    }

-- a port came into any state, and its hello was made anew
pub put_anew : (m : Machine) (p : ℕ) (new : BridgePort) (ports : Vec BridgePort) (hellos : Vec (Option (List ℕ))) (hello : Option (List ℕ)) (up : PortSet) → 1 ≤ p → FollowsPorts m → ports.items ≡ slice_set m.ports.items (p - 1) new
    → hello ≡ kept_hello m.id.system p new → hellos.items ≡ slice_set m.hellos.items (p - 1) hello → up ≡ up_from 1 ports.items → IsPut p new m (record m { ports = ports; hellos = hellos; up = up })
put_anew m p new ports hellos hello up low follows is says are ups =
    let number : 1 + (p - 1) ≡ p = omega arith in
    let made : slice_set (hellos_from m.id.system 1 m.ports.items) (p - 1) (kept_hello m.id.system p new) ≡ hellos_from m.id.system 1 ports.items =
    ap (λ (k : ℕ). slice_set (hellos_from m.id.system 1 m.ports.items) (p - 1) (kept_hello m.id.system k new)) (sym number)
    ∙ (sym (hellos_set m.id.system 1 (p - 1) m.ports.items new) ∙ ap (hellos_from m.id.system 1) (sym is)) in
    record {
      view = λ i. record (view_of m) { ports = is i };
      own = refl;
      ports = record { hellos = are ∙ ((λ i. slice_set (follows.hellos i) (p - 1) (says i)) ∙ made); up = ups; me = follows.me; heard = follows.heard };
    }

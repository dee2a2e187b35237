-- Ports without carrier: a second changes nothing there, and nothing is sent.
use Rattle.std.proofs.Common.{◌≡◌, ◌≤◌, ◌+◌, ℕ, zero, suc, Bool, true, false, List, [], ◌∷◌, ◌++◌, map, length, take, drop, refl, sym, ap, ◌∙◌, Option, arith}
use Rattle.std.specs.Prelude.{not, ◌&&◌, ◌||◌, if◌then◌else◌}
use Rattle.std.specs.List.{AllByRecursion}
use Rattle.spb_types.specs.declared.address.SystemId.{SystemId}
use Rattle.adjacency.specs.declared.state.AdjState.{AdjState}
use Rattle.adjacency.specs.declared.state.AdjState.TheVariants.{Down, Initializing, Up}
use Rattle.adjacency.specs.declared.port.Adjacency.{Adjacency}
use Rattle.adjacency.specs.Adjacency.{SoundIn, is_down, is_up}
use Rattle.lsdb.specs.Database.{Lsps, each}
use Rattle.bridge_api.specs.declared.port.BridgePort.{BridgePort}
use Rattle.bridge_api.specs.View.{is_port_up}
use Rattle.bridge_api.specs.Hearing.{with_csnp_due}
use Rattle.bridge_api.specs.Ticking.{later, leaves, leaving_from, flags_cleared_at_all, sent_at, sent_from, after_sending_at, after_sending_from}
use Rattle.bridge_api.specs.Laws.{IsSoundPort}
use Rattle.bridge_control.specs.Machine.{kept_hello, hellos_from}
use Rattle.bridge_control.specs.Ports.{AreSoundPorts, AreUnused, loses, has_lost}
use Rattle.bridge_control.proofs.Sends.{sent_silent, after_sending_down}

-- ---- one port

-- what a second, and sending, make of it
record IsIdle (port : BridgePort) : Type 0 where
  pub no_carrier : port.adjacency.carrier ≡ false
  pub down : is_port_up port ≡ false
  pub still : later port ≡ port
  pub stays : leaves port ≡ false
  pub keeps : loses port ≡ false
  pub undue : with_csnp_due false port ≡ port

state_down : (s : AdjState) (a : Adjacency) → SoundIn s a → a.carrier ≡ false → s ≡ Down
state_down Down a sound no_carrier = refl
state_down Initializing a sound no_carrier = absurd (let no : true ≡ false = sym sound.1 ∙ no_carrier in cc)
state_down Up a sound no_carrier = absurd (let no : true ≡ false = sym sound.1 ∙ no_carrier in cc)

not_due : (due up : Bool) → (due ≡ true → up ≡ true) → up ≡ false → due ≡ false
not_due true up is none = absurd (let no : true ≡ false = sym (is refl) ∙ none in cc)
not_due false up is none = refl

later_down : (a : Adjacency) (due : Bool) (metric : ℕ) → a.state ≡ Down → due ≡ false → later (record { adjacency = a; csnp_due = due; metric = metric }) ≡ record { adjacency = a; csnp_due = due; metric = metric }
later_down a due metric down none = cc

undue_port : (a : Adjacency) (due : Bool) (metric : ℕ) → due ≡ false → with_csnp_due false (record { adjacency = a; csnp_due = due; metric = metric }) ≡ record { adjacency = a; csnp_due = due; metric = metric }
undue_port a due metric none = λ i. record { adjacency = a; csnp_due = sym none i; metric = metric }

is_idle : (port : BridgePort) → IsSoundPort port → port.adjacency.carrier ≡ false → IsIdle port
is_idle port sound no_carrier =
    let down : port.adjacency.state ≡ Down = state_down port.adjacency.state port.adjacency sound.adjacency no_carrier in
    let up : is_port_up port ≡ false = ap is_up down in
    let none = not_due port.csnp_due (is_port_up port) sound.csnp_due up in
    record {
      no_carrier = no_carrier;
      down = up;
      still = later_down port.adjacency port.csnp_due port.metric down none;
      stays = ap (λ (b : Bool). b && not (is_port_up (later port))) up;
      keeps = ap (λ (s : AdjState). not (is_down s) && is_down (later port).adjacency.state) down;
      undue = undue_port port.adjacency port.csnp_due port.metric none;
    }

-- ---- lists of ports of which only the first have carrier

abbrev AreIdle : List BridgePort → Type 0
AreIdle ports = AllByRecursion IsIdle ports

all_idle : (ports : List BridgePort) → AreSoundPorts ports → AreUnused ports → AreIdle ports
all_idle [] sound unused = tt
all_idle (port ∷ ports) sound unused = (is_idle port sound.0 unused.0, all_idle ports sound.1 unused.1)

rest_idle : (n : ℕ) (ports : List BridgePort) → AreSoundPorts ports → AreUnused (drop n ports) → AreIdle (drop n ports)
rest_idle zero ports sound unused = all_idle ports sound unused
rest_idle (suc n) [] sound unused = tt
rest_idle (suc n) (port ∷ ports) sound unused = rest_idle n ports sound.1 unused

still_all : (ports : List BridgePort) → AreIdle ports → map later ports ≡ ports
still_all [] idle = refl
still_all (port ∷ ports) idle = λ i. idle.0.still i ∷ still_all ports idle.1 i

later_rest : (n : ℕ) (ports : List BridgePort) → AreIdle (drop n ports) → map later (take n ports) ++ drop n ports ≡ map later ports
later_rest zero ports idle = sym (still_all ports idle)
later_rest (suc n) [] idle = refl
later_rest (suc n) (port ∷ ports) idle = ap (λ (l : List BridgePort). later port ∷ l) (later_rest n ports idle)

undue_all : (ports : List BridgePort) → AreIdle ports → map (with_csnp_due false) ports ≡ ports
undue_all [] idle = refl
undue_all (port ∷ ports) idle = λ i. idle.0.undue i ∷ undue_all ports idle.1 i

undue_rest : (n : ℕ) (ports : List BridgePort) → AreIdle (drop n ports) → map (with_csnp_due false) (take n ports) ++ drop n ports ≡ map (with_csnp_due false) ports
undue_rest zero ports idle = sym (undue_all ports idle)
undue_rest (suc n) [] idle = refl
undue_rest (suc n) (port ∷ ports) idle = ap (λ (l : List BridgePort). with_csnp_due false port ∷ l) (undue_rest n ports idle)

none_leaving : (q : ℕ) (ports : List BridgePort) → AreIdle ports → leaving_from q ports ≡ []
none_leaving q [] idle = refl
none_leaving q (port ∷ ports) idle = ap (λ (b : Bool). if b then q ∷ leaving_from (q + 1) ports else leaving_from (q + 1) ports) idle.0.stays ∙ none_leaving (q + 1) ports idle.1

leaving_rest : (q n : ℕ) (ports : List BridgePort) → AreIdle (drop n ports) → leaving_from q (take n ports) ≡ leaving_from q ports
leaving_rest q zero ports idle = sym (none_leaving q ports idle)
leaving_rest q (suc n) [] idle = refl
leaving_rest q (suc n) (port ∷ ports) idle = ap (λ (l : List ℕ). if leaves port then q ∷ l else l) (leaving_rest (q + 1) n ports idle)

none_lost : (ports : List BridgePort) → AreIdle ports → has_lost ports ≡ false
none_lost [] idle = refl
none_lost (port ∷ ports) idle = ap (λ (b : Bool). b || has_lost ports) idle.0.keeps ∙ none_lost ports idle.1

lost_rest : (n : ℕ) (ports : List BridgePort) → AreIdle (drop n ports) → has_lost (take n ports) ≡ has_lost ports
lost_rest zero ports idle = sym (none_lost ports idle)
lost_rest (suc n) [] idle = refl
lost_rest (suc n) (port ∷ ports) idle = ap (λ (b : Bool). loses port || b) (lost_rest n ports idle)

rest_unused : (k : ℕ) (ports : List BridgePort) → AreUnused ports → AreUnused (drop k ports)
rest_unused zero ports unused = unused
rest_unused (suc k) [] unused = tt
rest_unused (suc k) (port ∷ ports) unused = rest_unused k ports unused.1

pub further_unused : (n k : ℕ) (ports : List BridgePort) → n ≤ k → AreUnused (drop n ports) → AreUnused (drop k ports)
further_unused zero k ports further unused = rest_unused k ports unused
further_unused (suc n) zero ports further unused = absurd (omega (arith, further))
further_unused (suc n) (suc k) [] further unused = tt
further_unused (suc n) (suc k) (port ∷ ports) further unused = further_unused n k ports (omega (arith, further)) unused

-- nothing is due any more at the first ports
pub undue : (n : ℕ) (ports new : List BridgePort) → AreSoundPorts ports → AreUnused (drop n ports) → new ≡ map (with_csnp_due false) (take n ports) ++ drop n ports → new ≡ map (with_csnp_due false) ports
undue n ports new sound unused is = is ∙ undue_rest n ports (rest_idle n ports sound unused)

-- the holding counts fell at the first ports
pub counted : (n : ℕ) (ports new : List BridgePort) → AreSoundPorts ports → AreUnused (drop n ports) → new ≡ map later (take n ports) ++ drop n ports → new ≡ map later ports
counted n ports new sound unused is = is ∙ later_rest n ports (rest_idle n ports sound unused)

pub cleared : (n : ℕ) (ports : List BridgePort) (db new : Lsps) → AreSoundPorts ports → AreUnused (drop n ports) → new ≡ each (λ id e. flags_cleared_at_all (leaving_from 1 (take n ports)) e) db → new ≡ each (λ id e. flags_cleared_at_all (leaving_from 1 ports) e) db
cleared n ports db new sound unused is = is ∙ ap (λ (l : List ℕ). each (λ id e. flags_cleared_at_all l e) db) (leaving_rest 1 n ports (rest_idle n ports sound unused))

pub lost_counted : (n : ℕ) (ports : List BridgePort) (lost : Bool) → AreSoundPorts ports → AreUnused (drop n ports) → lost ≡ has_lost (take n ports) → lost ≡ has_lost ports
lost_counted n ports lost sound unused is = is ∙ lost_rest n ports (rest_idle n ports sound unused)

-- ---- sending at the first ports

none_sent : (me : SystemId) (q : ℕ) (ports : List BridgePort) (db : Lsps) → AreIdle ports → sent_from me q ports db ≡ []
none_sent me q [] db idle = refl
none_sent me q (port ∷ ports) db idle =
    (λ i. sym (sent_silent me q port db idle.0.no_carrier idle.0.down) i ++ sent_from me (q + 1) ports (after_sending_at q port db)) ∙ none_sent me (q + 1) ports (after_sending_at q port db) idle.1

sent_rest : (me : SystemId) (q n : ℕ) (ports : List BridgePort) (db : Lsps) → AreIdle (drop n ports) → sent_from me q (take n ports) db ≡ sent_from me q ports db
sent_rest me q zero ports db idle = sym (none_sent me q ports db idle)
sent_rest me q (suc n) [] db idle = refl
sent_rest me q (suc n) (port ∷ ports) db idle = ap (λ (l : List (ℕ × List ℕ)). sent_at me q port db ++ l) (sent_rest me (q + 1) n ports (after_sending_at q port db) idle)

none_done : (q : ℕ) (ports : List BridgePort) (db : Lsps) → AreIdle ports → after_sending_from q ports db ≡ db
none_done q [] db idle = refl
none_done q (port ∷ ports) db idle = none_done (q + 1) ports (after_sending_at q port db) idle.1 ∙ sym (after_sending_down q port db idle.0.down)

done_rest : (q n : ℕ) (ports : List BridgePort) (db : Lsps) → AreIdle (drop n ports) → after_sending_from q (take n ports) db ≡ after_sending_from q ports db
done_rest q zero ports db idle = sym (none_done q ports db idle)
done_rest q (suc n) [] db idle = refl
done_rest q (suc n) (port ∷ ports) db idle = done_rest (q + 1) n ports (after_sending_at q port db) idle

pub taken : {X : Type 0} (n : ℕ) (xs : List X) → n ≤ length xs → n ≡ length (take n xs)
taken zero xs within = refl
taken (suc n) [] within = absurd (omega (arith, within))
taken (suc n) (x ∷ xs) within = ap suc (taken n xs (omega (arith, within)))

pub sent_first : (me : SystemId) (n : ℕ) (ports : List BridgePort) (db : Lsps) → AreSoundPorts ports → AreUnused (drop n ports) → sent_from me 1 (take n ports) db ≡ sent_from me 1 ports db
sent_first me n ports db sound unused = sent_rest me 1 n ports db (rest_idle n ports sound unused)

pub done_first : (n : ℕ) (ports : List BridgePort) (db : Lsps) → AreSoundPorts ports → AreUnused (drop n ports) → after_sending_from 1 (take n ports) db ≡ after_sending_from 1 ports db
done_first n ports db sound unused = done_rest 1 n ports db (rest_idle n ports sound unused)

pub hellos_first : (me : SystemId) (q n : ℕ) (ports : List BridgePort) → take n (hellos_from me q ports) ≡ hellos_from me q (take n ports)
hellos_first me q zero ports = refl
hellos_first me q (suc n) [] = refl
hellos_first me q (suc n) (port ∷ ports) = ap (λ (l : List (Option (List ℕ))). kept_hello me q port ∷ l) (hellos_first me (q + 1) n ports)

-- ---- a second later

later_unused : (ports : List BridgePort) → AreSoundPorts ports → AreUnused ports → AreUnused (map later ports)
later_unused [] sound unused = tt
later_unused (port ∷ ports) sound unused =
    (ap (λ (p : BridgePort). p.adjacency.carrier) (is_idle port sound.0 unused.0).still ∙ unused.0, later_unused ports sound.1 unused.1)

pub unused_later : (n : ℕ) (ports : List BridgePort) → AreSoundPorts ports → AreUnused (drop n ports) → AreUnused (drop n (map later ports))
unused_later zero ports sound unused = later_unused ports sound unused
unused_later (suc n) [] sound unused = tt
unused_later (suc n) (port ∷ ports) sound unused = unused_later n ports sound.1 unused

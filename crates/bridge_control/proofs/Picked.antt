-- What is picked of the ports, one after another.
use Rattle.std.proofs.Common.{◌≡◌, ◌<◌, ◌+◌, ℕ, zero, suc, Bool, true, false, List, [], ◌∷◌, ◌++◌, length, take, get_or, refl, sym, ap, ◌∙◌, Option, Some, None, arith, add-one, add-zero}
use Rattle.std.specs.Prelude.{◌||◌, if◌then◌else◌}
use Rattle.std.specs.Option.{option_map}
use Rattle.std.specs.FinMap.{get, same_map}
use Rattle.std.proofs.lemmas.List.{append-nil}
use Rattle.std.proofs.lemmas.List.Folds.{list_any_more}
use Rattle.spb_types.specs.declared.address.LspId.{LspId}
use Rattle.lsdb.specs.Entry.{Entry, flags_cleared_at}
use Rattle.lsdb.specs.Database.{Lsps, each}
use Rattle.lsdb.proofs.Ids.{ids_total, ids_tied}
use Rattle.lsdb.proofs.LookupLemmas.{get-each}
use Rattle.bridge_api.specs.declared.port.BridgePort.{BridgePort}
use Rattle.bridge_api.specs.View.{is_port_up}
use Rattle.bridge_api.specs.Own.{neighbour_in, neighbours_from}
use Rattle.bridge_api.specs.Ticking.{leaves, leaving_from, flags_cleared_at_all}
use Rattle.spb_tlvs.specs.declared.neighbours.Neighbour.{Neighbour}
use Rattle.bridge_control.specs.Ports.{loses, has_lost}

-- what is picked at a port goes behind what was picked before
behind : {X : Type 0} (b : Bool) (x : X) (old more new : List X) → new ≡ old ++ more → (if b then x ∷ new else new) ≡ (if b then x ∷ old else old) ++ more
behind true x old more new e = ap (λ ys. x ∷ ys) e
behind false x old more new e = e

one : {X : Type 0} (b : Bool) (x : X) → (if b then x ∷ [] else []) ≡ [] ++ (if b then x ∷ [] else [])
one true x = refl
one false x = refl

neighbours_suc : (q : ℕ) (ports : List BridgePort) (i : ℕ) (d : BridgePort) → i < length ports
    → neighbours_from q (take (suc i) ports) ≡ neighbours_from q (take i ports) ++ (if is_port_up (get_or ports i d) then neighbour_in (q + i) (get_or ports i d) ∷ [] else [])
neighbours_suc q [] i d within = absurd (omega arith)
neighbours_suc q (port ∷ ports) zero d within = rw add-zero (one (is_port_up port) (neighbour_in q port))
neighbours_suc q (port ∷ ports) (suc i) d within =
    let number : (q + 1) + i ≡ q + suc i = omega arith in
    behind (is_port_up port) (neighbour_in q port) (neighbours_from (q + 1) (take i ports)) _ _
    (neighbours_suc (q + 1) ports i d (omega arith)
    ∙ ap (λ (k : ℕ). neighbours_from (q + 1) (take i ports) ++ (if is_port_up (get_or ports i d) then neighbour_in k (get_or ports i d) ∷ [] else [])) number)

pub neighbours_next : (ports : List BridgePort) (i : ℕ) (d : BridgePort) → i < length ports
    → neighbours_from 1 (take (i + 1) ports) ≡ neighbours_from 1 (take i ports) ++ (if is_port_up (get_or ports i d) then neighbour_in (i + 1) (get_or ports i d) ∷ [] else [])
neighbours_next ports i d within =
    let number : 1 + i ≡ i + 1 = omega arith in
    rw add-one (neighbours_suc 1 ports i d within)
    ∙ ap (λ (k : ℕ). neighbours_from 1 (take i ports) ++ (if is_port_up (get_or ports i d) then neighbour_in k (get_or ports i d) ∷ [] else [])) number

leaving_suc : (q : ℕ) (ports : List BridgePort) (i : ℕ) (d : BridgePort) → i < length ports
    → leaving_from q (take (suc i) ports) ≡ leaving_from q (take i ports) ++ (if leaves (get_or ports i d) then (q + i) ∷ [] else [])
leaving_suc q [] i d within = absurd (omega arith)
leaving_suc q (port ∷ ports) zero d within = rw add-zero (one (leaves port) q)
leaving_suc q (port ∷ ports) (suc i) d within =
    let number : (q + 1) + i ≡ q + suc i = omega arith in
    behind (leaves port) q (leaving_from (q + 1) (take i ports)) _ _
    (leaving_suc (q + 1) ports i d (omega arith)
    ∙ ap (λ (k : ℕ). leaving_from (q + 1) (take i ports) ++ (if leaves (get_or ports i d) then k ∷ [] else [])) number)

leaving_next : (ports : List BridgePort) (i : ℕ) (d : BridgePort) → i < length ports
    → leaving_from 1 (take (i + 1) ports) ≡ leaving_from 1 (take i ports) ++ (if leaves (get_or ports i d) then (i + 1) ∷ [] else [])
leaving_next ports i d within =
    let number : 1 + i ≡ i + 1 = omega arith in
    rw add-one (leaving_suc 1 ports i d within)
    ∙ ap (λ (k : ℕ). leaving_from 1 (take i ports) ++ (if leaves (get_or ports i d) then k ∷ [] else [])) number

pub found_next : (up : Bool) (ports : List BridgePort) (i : ℕ) (d : BridgePort) (old new : List Neighbour) → i < length ports → up ≡ is_port_up (get_or ports i d) → old ≡ neighbours_from 1 (take i ports)
    → new ≡ old ++ (if up then neighbour_in (i + 1) (get_or ports i d) ∷ [] else []) → new ≡ neighbours_from 1 (take (i + 1) ports)
found_next up ports i d old new within is before after =
    after ∙ (λ j. before j ++ (if is j then neighbour_in (i + 1) (get_or ports i d) ∷ [] else [])) ∙ sym (neighbours_next ports i d within)

-- ---- changes of every entry

same_each : (f : LspId → Entry → Entry) (db : Lsps) (x : LspId) (o : Option Entry) → get db x ≡ o → ((e : Entry) → get db x ≡ Some e → f x e ≡ e) → option_map (f x) o ≡ o
same_each f db x None held same = refl
same_each f db x (Some e) held same = ap (λ (n : Entry). Some n) (same e held)

-- one that changes no entry that is held
pub each_same : (f : LspId → Entry → Entry) (db : Lsps) → ((x : LspId) (e : Entry) → get db x ≡ Some e → f x e ≡ e) → each f db ≡ db
each_same f db same = same_map ids_total ids_tied (each f db) db (λ x. get-each f db x ∙ same_each f db x (get db x) refl (same x))

twice_at : (f g : LspId → Entry → Entry) (x : LspId) (o : Option Entry) → option_map (f x) (option_map (g x) o) ≡ option_map (λ e. f x (g x e)) o
twice_at f g x None = refl
twice_at f g x (Some e) = refl

-- one after another
pub each_twice : (f g : LspId → Entry → Entry) (db : Lsps) → each f (each g db) ≡ each (λ x e. f x (g x e)) db
each_twice f g db =
    same_map ids_total ids_tied _ _ (λ x. get-each f (each g db) x ∙ (ap (option_map (f x)) (get-each g db x) ∙ (twice_at f g x (get db x) ∙ sym (get-each (λ y e. f y (g y e)) db x))))

flags_cleared_behind : (ps : List ℕ) (p : ℕ) (e : Entry) → flags_cleared_at p (flags_cleared_at_all ps e) ≡ flags_cleared_at_all (ps ++ p ∷ []) e
flags_cleared_behind [] p e = refl
flags_cleared_behind (q ∷ ps) p e = flags_cleared_behind ps p (flags_cleared_at q e)

flags_cleared_none : (ps : List ℕ) (e : Entry) → flags_cleared_at_all (ps ++ []) e ≡ flags_cleared_at_all ps e
flags_cleared_none ps e = ap (λ (qs : List ℕ). flags_cleared_at_all qs e) (append-nil ps)

cleared_by : (b : Bool) (ps : List ℕ) (p : ℕ) (db : Lsps) → (if b then each (λ id e. flags_cleared_at p e) (each (λ id e. flags_cleared_at_all ps e) db) else each (λ id e. flags_cleared_at_all ps e) db) ≡ each (λ id e. flags_cleared_at_all (ps ++ (if b then p ∷ [] else [])) e) db
cleared_by true ps p db = each_twice (λ id e. flags_cleared_at p e) (λ id e. flags_cleared_at_all ps e) db ∙ (λ i. each (λ id e. flags_cleared_behind ps p e i) db)
cleared_by false ps p db = λ i. each (λ id e. sym (flags_cleared_none ps e) i) db

pub cleared_none : (db : Lsps) → db ≡ each (λ id e. e) db
cleared_none db = sym (each_same (λ id e. e) db (λ x e held. refl))

pub cleared_next : (b : Bool) (ports : List BridgePort) (i : ℕ) (d : BridgePort) (db old new : Lsps) → i < length ports → b ≡ leaves (get_or ports i d) → old ≡ each (λ id e. flags_cleared_at_all (leaving_from 1 (take i ports)) e) db
    → new ≡ (if b then each (λ id e. flags_cleared_at (i + 1) e) old else old) → new ≡ each (λ id e. flags_cleared_at_all (leaving_from 1 (take (i + 1) ports)) e) db
cleared_next b ports i d db old new within is before after =
    after ∙ (ap (λ (x : Lsps). if b then each (λ id e. flags_cleared_at (i + 1) e) x else x) before
    ∙ (cleared_by b (leaving_from 1 (take i ports)) (i + 1) db
    ∙ (λ j. each (λ id e. flags_cleared_at_all (leaving_from 1 (take i ports) ++ (if is j then (i + 1) ∷ [] else [])) e) db)
    ∙ (λ j. each (λ id e. flags_cleared_at_all (sym (leaving_next ports i d within) j) e) db)))

or_true : (a : Bool) → (a || true) ≡ true
or_true true = refl
or_true false = refl

or_none : (a : Bool) → (a || false) ≡ a
or_none true = refl
or_none false = refl

pub some_next : (b : Bool) (ports : List BridgePort) (i : ℕ) (d : BridgePort) (old new : Bool) → i < length ports → b ≡ loses (get_or ports i d) → old ≡ has_lost (take i ports) → new ≡ (if b then true else old) → new ≡ has_lost (take (i + 1) ports)
some_next b ports i d old new within is before after =
    after ∙ (by b ∙ ((λ j. before j || is j) ∙ sym (list_any_more loses ports i d within)))
  where
    by : (c : Bool) → (if c then true else old) ≡ (old || c)
    by true = sym (or_true old)
    by false = sym (or_none old)

-- The ports towards neighbours, put at the places of these one by one.
use Rattle.std.proofs.Common.{◌≡◌, ℕ, zero, suc, ◌+◌, ◌<◌, Bool, true, false, true≢false, if◌then◌else◌, find, option_map, List, [], ◌∷◌, length, get_or, drop, drop-cons, drop_of_length-le, replicate, Option, Some, None, IsSome, inl, inr, slice_get, slice_set, position, refl, sym, ap, ◌∙◌, subst, arith}
use Rattle.std.proofs.lemmas.Option.{none-some, same_Some}
use Rattle.std.proofs.lemmas.List.{length-map}
use Rattle.spb_types.specs.Address.{same_system}
use Rattle.spb_types.specs.Graph.{IsAmong, IsDistinct, IsValid, systems_of}
use Rattle.spb_types.specs.declared.graph.Graph.{Graph}
use Rattle.spb_types.specs.declared.graph.GraphBridge.{GraphBridge}
use Rattle.spb_types.specs.declared.address.SystemId.{SystemId}
use Rattle.ect_trees.proofs.Among.{same_is, same_self}
use Rattle.ect_trees.proofs.Places.{at_among, at_within, found_place, place_found}
use Rattle.fdb_build.specs.declared.surroundings.Neighbour.{Neighbour}
use Rattle.fdb_build.specs.Surroundings.{port_by, ports_by}

first_is : (n : Neighbour) (ns : List Neighbour) (y : SystemId) (b : Bool) → same_system n.system y ≡ b → port_by (n ∷ ns) y ≡ (if b then Some n.port else port_by ns y)
first_is n ns y b h = ap (λ t. option_map (λ (m : Neighbour). m.port) (if t then Some n else find (λ m. same_system m.system y) ns)) h ∙ by b
  where
    by : (t : Bool) → option_map (λ (m : Neighbour). m.port) (if t then Some n else find (λ m. same_system m.system y) ns) ≡ (if t then Some n.port else port_by ns y)
    by true = refl
    by false = refl

-- the port towards the first of the neighbours
port_here : (n : Neighbour) (ns : List Neighbour) (y : SystemId) → n.system ≡ y → port_by (n ∷ ns) y ≡ Some n.port
port_here n ns y e = first_is n ns y true (subst (λ t. same_system n.system t ≡ true) e (same_self n.system))

-- and towards another
port_elsewhere : (n : Neighbour) (ns : List Neighbour) (y : SystemId) → (n.system ≡ y → ⊥) → port_by (n ∷ ns) y ≡ port_by ns y
port_elsewhere n ns y apart = by (same_system n.system y) refl
  where
    by : (b : Bool) → same_system n.system y ≡ b → port_by (n ∷ ns) y ≡ port_by ns y
    by true h = absurd (apart (same_is n.system y h))
    by false h = first_is n ns y false h

-- a neighbour that is none of the bridges
none_here : (n : Neighbour) (ns : List Neighbour) (bs : List GraphBridge) → (IsAmong n.system (systems_of bs) → ⊥) → ports_by ns bs ≡ ports_by (n ∷ ns) bs
none_here n ns [] h = refl
none_here n ns (b ∷ bs) h = λ i. sym (port_elsewhere n ns b.id.system (λ e. h (inl e))) i ∷ none_here n ns bs (λ m. h (inr m)) i

-- a neighbour at a place
one_here : (n : Neighbour) (ns : List Neighbour) (bs : List GraphBridge) (p : ℕ) → IsDistinct (systems_of bs) → slice_get (systems_of bs) p ≡ Some n.system
    → slice_set (ports_by ns bs) p (Some n.port) ≡ ports_by (n ∷ ns) bs
one_here n ns [] p d h = absurd (none-some n.system h)
one_here n ns (b ∷ bs) zero d h =
    let e : n.system ≡ b.id.system = sym (same_Some b.id.system n.system h) in
    λ i. sym (port_here n ns b.id.system e) i ∷ none_here n ns bs (subst (λ t. IsAmong t (systems_of bs) → ⊥) (sym e) d.0) i
one_here n ns (b ∷ bs) (suc p) d h =
    λ i. sym (port_elsewhere n ns b.id.system (λ e. d.0 (subst (λ t. IsAmong t (systems_of bs)) e (at_among (systems_of bs) p n.system h)))) i
    ∷ one_here n ns bs p d.1 h i

-- a neighbour whose place was found
pub port_put : (g : Graph) (n : Neighbour) (ns : List Neighbour) (p : ℕ) (ports : List (Option ℕ)) → IsValid g
    → position (λ b. same_system b.id.system n.system) g.bridges ≡ Some p → ports ≡ ports_by ns g.bridges
    → slice_set ports p (Some n.port) ≡ ports_by (n ∷ ns) g.bridges
port_put g n ns p ports v e h =
    ap (λ t. slice_set t p (Some n.port)) h ∙ one_here n ns g.bridges p v.apart (found_place g n.system p e)

-- one that has none
pub port_left_out : (g : Graph) (n : Neighbour) (ns : List Neighbour) (ports : List (Option ℕ))
    → position (λ b. same_system b.id.system n.system) g.bridges ≡ None → ports ≡ ports_by ns g.bridges
    → ports ≡ ports_by (n ∷ ns) g.bridges
port_left_out g n ns ports e h =
    h ∙ none_here n ns g.bridges (λ m. absurd (true≢false (sym (subst IsSome e (place_found g n.system m)))))

-- a place that was found is one of the ports'
pub port_within : (g : Graph) (x : SystemId) (ns : List Neighbour) (p : ℕ) (ports : List (Option ℕ))
    → position (λ b. same_system b.id.system x) g.bridges ≡ Some p → ports ≡ ports_by ns g.bridges → p < length ports
port_within g x ns p ports e h =
    let within = at_within g p x (found_place g x p e) in
    omega (arith, within, ap length h, length-map g.bridges (λ (b : GraphBridge). port_by ns b.id.system))

-- no neighbours
no_ports : (bs : List GraphBridge) → replicate (length bs) None ≡ ports_by [] bs
no_ports [] = refl
no_ports (b ∷ bs) = ap (λ t. None ∷ t) (no_ports bs)

-- one neighbour more, before those from a place on
pub port_before : (g : Graph) (ns : List Neighbour) (i j : ℕ) (d : Neighbour) (old new : List (Option ℕ)) → i ≡ j + 1 → j < length ns
    → old ≡ ports_by (drop i ns) g.bridges
    → ((others : List Neighbour) → old ≡ ports_by others g.bridges → new ≡ ports_by (get_or ns j d ∷ others) g.bridges)
    → new ≡ ports_by (drop j ns) g.bridges
port_before g ns i j d old new e within h put =
    let next : i ≡ suc j = omega (arith, e) in
    put (drop (suc j) ns) (h ∙ ap (λ t. ports_by (drop t ns) g.bridges) next) ∙ ap (λ t. ports_by t g.bridges) (sym (drop-cons ns j d within))

-- no neighbour from the end on
pub ports_none : (g : Graph) (ns : List Neighbour) (ports : List (Option ℕ)) (places left : ℕ) → places ≡ length g.bridges → left ≡ length ns
    → ports ≡ replicate places None → ports ≡ ports_by (drop left ns) g.bridges
ports_none g ns ports places left p l h =
    h ∙ (ap (λ t. replicate t None) p ∙ (no_ports g.bridges ∙ ap (λ t. ports_by t g.bridges) (sym (ap (λ t. drop t ns) l ∙ drop_of_length-le ns {i = length ns} (omega arith)))))

-- What is written is read again.
use Rattle.std.proofs.Common.{◌≡◌, ◌≢◌, ℕ, zero, suc, ◌+◌, ◌*◌, ◌/◌, ◌≤◌, List, [], ◌∷◌, ◌++◌, length, take, drop, map, flat_map, Result, Ok, refl, sym, ap, ◌∙◌, arith, append_assoc}
use Rattle.std.specs.List.{AllByRecursion}
use Rattle.std.specs.Simd.{first_chunks}
use Rattle.std.proofs.lemmas.List.{append-nil, length-drop, take-append-drop, nil_from_length}
use Rattle.spb_types.specs.declared.service.Vid.{Vid}
use Rattle.spb_tlvs.specs.declared.error.TlvError.{TlvError}
use Rattle.spb_tlvs.specs.declared.capability.Capability.{Capability}
use Rattle.spb_tlvs.specs.declared.capability.Capability.TheVariants.{Inst, Services}
use Rattle.spb_tlvs.specs.declared.neighbours.Neighbour.{Neighbour}
use Rattle.spb_tlvs.specs.Tlv.{tlv, values_with}
use Rattle.spb_tlvs.specs.Neighbour.{neighbours_value, neighbours_of}
use Rattle.spb_tlvs.specs.Capability.{capability_value, capabilities_of, IsServices}
use Rattle.spb_tlvs.specs.RoundTrip.{IsMac, IsNeighbour}
use Rattle.spb_tlvs.proofs.TlvLaws.{tlv_here, tlv_elsewhere}
use Rattle.spb_tlvs.proofs.TlvSteps.{values_none}
use Rattle.spb_tlvs.proofs.NeighbourLaws.{neighbours_again}
use Rattle.spb_tlvs.proofs.CapabilityLaws.{capability_again}
use Rattle.spb_content.specs.declared.local.Local.{Local}
use Rattle.spb_content.specs.Local.{areas, protocols, neighbour_tlvs, inst_tlv, service_tlvs, content_bytes, own_mac, trees_of, vids_in, services_in, IsPart}
use Rattle.spb_content.specs.Content.{or_nothing, neighbours_in, capabilities_in, services_of, content_in}
use Rattle.spb_content.specs.Laws.{HasFields, ReadAgain}
use Rattle.spb_content.proofs.Members.{has_all}
use Rattle.spb_content.proofs.Written.{is_inst, is_services, all_drop, all_take}

-- ---- TLVs of one code, one after another

pub several : {X : Type 0} (code : ℕ) (f : X → List ℕ) (xs : List X) (rest : List ℕ) → values_with code (flat_map (λ x. tlv code (f x)) xs ++ rest) ≡ map f xs ++ values_with code rest
several code f [] rest = refl
several code f (x ∷ xs) rest =
    ap (values_with code) (append_assoc (tlv code (f x)) (flat_map (λ y. tlv code (f y)) xs) rest)
    ∙ tlv_here code (f x) (flat_map (λ y. tlv code (f y)) xs ++ rest)
    ∙ ap (λ vs. f x ∷ vs) (several code f xs rest)

pub others : {X : Type 0} (code other : ℕ) (f : X → List ℕ) (xs : List X) (rest : List ℕ) → code ≢ other → values_with other (flat_map (λ x. tlv code (f x)) xs ++ rest) ≡ values_with other rest
others code other f [] rest ne = refl
others code other f (x ∷ xs) rest ne =
    ap (values_with other) (append_assoc (tlv code (f x)) (flat_map (λ y. tlv code (f y)) xs) rest)
    ∙ tlv_elsewhere code other (f x) (flat_map (λ y. tlv code (f y)) xs ++ rest) ne
    ∙ others code other f xs rest ne

pub several_alone : {X : Type 0} (code : ℕ) (f : X → List ℕ) (xs : List X) → values_with code (flat_map (λ x. tlv code (f x)) xs) ≡ map f xs
several_alone code f xs =
    ap (values_with code) (sym (append-nil (flat_map (λ x. tlv code (f x)) xs)))
    ∙ several code f xs []
    ∙ ap (λ vs. map f xs ++ vs) (values_none code [] refl)
    ∙ append-nil (map f xs)

pub others_alone : {X : Type 0} (code other : ℕ) (f : X → List ℕ) (xs : List X) → code ≢ other → values_with other (flat_map (λ x. tlv code (f x)) xs) ≡ []
others_alone code other f xs ne =
    ap (values_with other) (sym (append-nil (flat_map (λ x. tlv code (f x)) xs)))
    ∙ others code other f xs [] ne
    ∙ values_none other [] refl

-- ---- the values in the own content

abbrev pub few_of : List Neighbour → List (List Neighbour)
few_of ns = first_chunks 13 ((length ns + 12) / 13) ns

abbrev pub services_at : Local → Vid → Capability
services_at l v = Services (own_mac l) v (services_in v l.attached)

abbrev pub inst_at : Local → Capability
inst_at l = Inst l.config.id.priority l.config.source (trees_of l)

pub parts : (l : Local) → content_bytes l ≡ areas ++ (protocols ++ (neighbour_tlvs l.neighbours ++ (inst_tlv l ++ service_tlvs l)))
unfolding content_bytes
parts l = append_assoc (areas ++ protocols ++ neighbour_tlvs l.neighbours) (inst_tlv l) (service_tlvs l)
    ∙ append_assoc (areas ++ protocols) (neighbour_tlvs l.neighbours) (inst_tlv l ++ service_tlvs l)
    ∙ append_assoc areas protocols (neighbour_tlvs l.neighbours ++ (inst_tlv l ++ service_tlvs l))

values_22 : (l : Local) → values_with 22 (content_bytes l) ≡ map neighbours_value (few_of l.neighbours)
values_22 l =
    ap (values_with 22) (parts l)
    ∙ tlv_elsewhere 1 22 (0x03 ∷ 0x49 ∷ 0x00 ∷ 0x01 ∷ []) (protocols ++ (neighbour_tlvs l.neighbours ++ (inst_tlv l ++ service_tlvs l))) (λ e. omega (arith, e))
    ∙ tlv_elsewhere 129 22 (0xc1 ∷ []) (neighbour_tlvs l.neighbours ++ (inst_tlv l ++ service_tlvs l)) (λ e. omega (arith, e))
    ∙ several 22 neighbours_value (few_of l.neighbours) (inst_tlv l ++ service_tlvs l)
    ∙ ap (λ vs. map neighbours_value (few_of l.neighbours) ++ vs)
    (tlv_elsewhere 144 22 (capability_value (inst_at l)) (service_tlvs l) (λ e. omega (arith, e))
    ∙ others_alone 144 22 (λ v. capability_value (services_at l v)) (vids_in l.attached) (λ e. omega (arith, e)))
    ∙ append-nil (map neighbours_value (few_of l.neighbours))

values_144 : (l : Local) → values_with 144 (content_bytes l) ≡ capability_value (inst_at l) ∷ map (λ v. capability_value (services_at l v)) (vids_in l.attached)
values_144 l =
    ap (values_with 144) (parts l)
    ∙ tlv_elsewhere 1 144 (0x03 ∷ 0x49 ∷ 0x00 ∷ 0x01 ∷ []) (protocols ++ (neighbour_tlvs l.neighbours ++ (inst_tlv l ++ service_tlvs l))) (λ e. omega (arith, e))
    ∙ tlv_elsewhere 129 144 (0xc1 ∷ []) (neighbour_tlvs l.neighbours ++ (inst_tlv l ++ service_tlvs l)) (λ e. omega (arith, e))
    ∙ others 22 144 neighbours_value (few_of l.neighbours) (inst_tlv l ++ service_tlvs l) (λ e. omega (arith, e))
    ∙ tlv_here 144 (capability_value (inst_at l)) (service_tlvs l)
    ∙ ap (λ vs. capability_value (inst_at l) ∷ vs) (several_alone 144 (λ v. capability_value (services_at l v)) (vids_in l.attached))

-- ---- what they say

abbrev done : {A : Type 0} → A → Result A TlvError
done x = Ok x

read_few : (k : ℕ) (ns : List Neighbour) → AllByRecursion IsNeighbour ns → length ns ≤ 13 * k → flat_map (λ value. or_nothing (neighbours_of value)) (map neighbours_value (first_chunks 13 k ns)) ≡ ns
read_few zero ns each few = sym (nil_from_length ns (omega (arith, few)))
read_few (suc k) ns each few =
    ap (λ r. or_nothing r ++ flat_map (λ value. or_nothing (neighbours_of value)) (map neighbours_value (first_chunks 13 k (drop 13 ns)))) (neighbours_again (take 13 ns) (all_take IsNeighbour 13 ns each))
    ∙ ap (λ ms. take 13 ns ++ ms) (read_few k (drop 13 ns) (all_drop IsNeighbour 13 ns each) (omega (arith, few, length-drop 13 ns)))
    ∙ take-append-drop 13 ns

pub read_services : (l : Local) (vs : List Vid) → IsMac (own_mac l) → AllByRecursion (λ v. IsServices v (services_in v l.attached)) vs → flat_map (λ value. or_nothing (capabilities_of value)) (map (λ v. capability_value (services_at l v)) vs) ≡ map (services_at l) vs
read_services l [] mac each = refl
read_services l (v ∷ vs) mac each =
    ap (λ r. or_nothing r ++ flat_map (λ value. or_nothing (capabilities_of value)) (map (λ w. capability_value (services_at l w)) vs)) (capability_again (services_at l v) each.0 mac)
    ∙ ap (λ cs. services_at l v ∷ cs) (read_services l vs mac each.1)

pub no_inst : (l : Local) (vs : List Vid) → flat_map services_of (map (services_at l) vs) ≡ flat_map (λ v. map (λ s. (own_mac l, v, s)) (services_in v l.attached)) vs
no_inst l [] = refl
no_inst l (v ∷ vs) = ap (λ ss. map (λ s. (own_mac l, v, s)) (services_in v l.attached) ++ ss) (no_inst l vs)

neighbours_are : (l : Local) → HasFields l → neighbours_in (content_bytes l) ≡ l.neighbours
neighbours_are l fields =
    ap (λ vs. flat_map (λ value. or_nothing (neighbours_of value)) vs) (values_22 l)
    ∙ read_few ((length l.neighbours + 12) / 13) l.neighbours fields.neighbours (omega arith)

capabilities_are : (l : Local) → IsPart l → HasFields l → capabilities_in (content_bytes l) ≡ inst_at l ∷ map (services_at l) (vids_in l.attached)
capabilities_are l h fields =
    ap (λ vs. flat_map (λ value. or_nothing (capabilities_of value)) vs) (values_144 l)
    ∙ ap (λ r. or_nothing r ++ flat_map (λ value. or_nothing (capabilities_of value)) (map (λ v. capability_value (services_at l v)) (vids_in l.attached)))
    (capability_again (inst_at l) (is_inst l.config.source l.config.vids h.source h.few_vids h.vids) fields.priority)
    ∙ ap (λ cs. inst_at l ∷ cs) (read_services l (vids_in l.attached) fields.mac
    (has_all (λ v. IsServices v (services_in v l.attached)) (vids_in l.attached) (λ v i. is_services v l.attached h.attached h.few_isids i)))

pub read_again : ReadAgain
unfolding content_in
read_again l h fields =
    let ns = neighbours_are l fields in
    let cs = capabilities_are l h fields in
    let services = no_inst l (vids_in l.attached) in
    rw (ns, cs, services) refl

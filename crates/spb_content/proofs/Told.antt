-- What fragments say: each but number 0 its services, and all together what the bridge says.
use Rattle.std.proofs.Common.{◌≡◌, ℕ, zero, suc, ◌+◌, ◌*◌, List, [], ◌∷◌, ◌++◌, take, drop, map, flat_map, refl, sym, ap, subst, ◌∙◌, arith, append_assoc}
use Rattle.std.specs.Prelude.{Some, None}
use Rattle.std.specs.List.{AllByRecursion}
use Rattle.std.specs.Option.{unwrap_or}
use Rattle.std.proofs.lemmas.List.{append-nil, map-append}
use Rattle.spb_types.specs.declared.graph.Member.{Member}
use Rattle.spb_types.specs.declared.service.Vid.{Vid}
use Rattle.spb_tlvs.specs.declared.capability.Capability.{Capability}
use Rattle.spb_tlvs.specs.Tlv.{values_with}
use Rattle.spb_tlvs.specs.Neighbour.{neighbours_value, neighbours_of}
use Rattle.spb_tlvs.specs.Capability.{capability_value, capabilities_of, IsServices}
use Rattle.spb_tlvs.proofs.TlvLaws.{tlv_here, tlv_elsewhere}
use Rattle.spb_tlvs.proofs.TlvSteps.{values_none}
use Rattle.spb_tlvs.proofs.CapabilityLaws.{capability_again}
use Rattle.spb_content.specs.declared.local.Local.{Local}
use Rattle.spb_content.specs.declared.content.Content.{Content}
use Rattle.spb_content.specs.Local.{areas, protocols, neighbour_tlvs, inst_tlv, service_tlvs, content_bytes, own_mac, vids_in, services_in, said_by, IsLocal, IsPart, IsAttached}
use Rattle.spb_content.specs.Content.{or_nothing, neighbours_in, capabilities_in, services_of, first_inst, content_in}
use Rattle.spb_content.specs.Fragments.{services_by, part_of, unless_none, fragment, fragments_from, tlvs_together}
use Rattle.spb_content.specs.Laws.{HasFields, FragmentsAreRead, OthersSayServices}
use Rattle.spb_content.proofs.Members.{has_all}
use Rattle.spb_content.proofs.Written.{is_inst, is_services, all_drop, all_take}
use Rattle.spb_content.proofs.Again.{few_of, services_at, inst_at, parts, several, several_alone, others, others_alone, read_services, no_inst, read_again}
use Rattle.spb_content.proofs.AnyOrder.{listing, listing_same}
use Rattle.spb_content.proofs.Pairs.{attached_covered, covered_attached}
use Rattle.spb_content.proofs.Listed.{listed, listed_again}
use Rattle.spb_content.proofs.Parts.{parts_together, parts_are_together, taken, dropped, is_part, part_fields, services_ascend, services_attached}

flat_join : {A B : Type 0} (f : A → List B) (xs ys : List A) → flat_map f (xs ++ ys) ≡ flat_map f xs ++ flat_map f ys
flat_join f [] ys = refl
flat_join f (x ∷ xs) ys = ap (λ zs. f x ++ zs) (flat_join f xs ys) ∙ sym (append_assoc (f x) (flat_map f xs) (flat_map f ys))

five : (a b c d e r : List ℕ) → (a ++ (b ++ (c ++ (d ++ e)))) ++ r ≡ a ++ (b ++ (c ++ (d ++ (e ++ r))))
five a b c d e r =
    append_assoc a (b ++ (c ++ (d ++ e))) r
    ∙ ap (λ x. a ++ x) (append_assoc b (c ++ (d ++ e)) r ∙ ap (λ x. b ++ x) (append_assoc c (d ++ e) r ∙ ap (λ x. c ++ x) (append_assoc d e r)))

-- ---- a part whose services can be written

services_are : (l : Local) → IsPart l → AllByRecursion (λ v. IsServices v (services_in v l.attached)) (vids_in l.attached)
services_are l is = has_all (λ v. IsServices v (services_in v l.attached)) (vids_in l.attached) (λ v i. is_services v l.attached is.attached is.few_isids i)

-- ---- a fragment of services alone

is_there : (ms : List Member) (tlvs out : List ℕ) → unless_none ms tlvs ≡ Some out → tlvs ≡ out
is_there [] tlvs out e = absurd cc
is_there (m ∷ ms) tlvs out e = cc

-- a fragment that exists, of another number than 0
pub service_fragment : (l : Local) (k : ℕ) (tlvs : List ℕ) → fragment l (suc k) ≡ Some tlvs → service_tlvs (part_of (suc k) l) ≡ tlvs
unfolding fragment
service_fragment l k tlvs e = is_there (part_of (suc k) l).attached (service_tlvs (part_of (suc k) l)) tlvs e

none_first : (l : Local) (vs : List Vid) → first_inst (map (services_at l) vs) ≡ None
none_first l [] = refl
none_first l (v ∷ vs) = none_first l vs

services_read : (l : Local) → IsPart l → HasFields l → content_in (service_tlvs l) ≡ record { inst = None; neighbours = []; services = (said_by l).services }
unfolding content_in
services_read l is fields =
    let vids : List Vid = vids_in l.attached in
    let caps : capabilities_in (service_tlvs l) ≡ map (services_at l) vids =
    ap (flat_map (λ value. or_nothing (capabilities_of value))) (several_alone 144 (λ v. capability_value (services_at l v)) vids)
    ∙ read_services l vids fields.mac (services_are l is) in
    let none : neighbours_in (service_tlvs l) ≡ [] =
    ap (flat_map (λ value. or_nothing (neighbours_of value))) (others_alone 144 22 (λ v. capability_value (services_at l v)) vids (λ e. omega (arith, e))) in
    λ i. record {
      inst = (ap first_inst caps ∙ none_first l vids) i;
      neighbours = none i;
      services = (ap (flat_map services_of) caps ∙ no_inst l vids) i;
    }

pub others_say_services : OthersSayServices
others_say_services l k tlvs is fields e =
    ap content_in (sym (service_fragment l k tlvs e)) ∙ services_read (part_of (suc k) l) (is_part (suc k) l is) (part_fields (suc k) l fields)

-- ---- the bytes of fragments, put together

tail : Local → ℕ → ℕ → List ℕ
tail l zero k = []
tail l (suc n) k = service_tlvs (part_of k l) ++ tail l n (k + 1)

there : (l : Local) (ms : List Member) → unwrap_or (unless_none ms (service_tlvs (record l { attached = ms }))) [] ≡ service_tlvs (record l { attached = ms })
there l [] = refl
there l (m ∷ ms) = refl

after_first : (l : Local) (n k : ℕ) → tlvs_together (fragments_from l n (suc k)) ≡ tail l n (suc k)
unfolding fragment tail
after_first l zero k = refl
after_first l (suc n) k =
    ap (λ x. x ++ tlvs_together (fragments_from l n (suc k + 1))) (there l (part_of (suc k) l).attached)
    ∙ ap (λ x. service_tlvs (part_of (suc k) l) ++ x) (subst (λ (j : ℕ). tlvs_together (fragments_from l n j) ≡ tail l n j) (next k) (after_first l n (suc k)))
  where
    next : (k : ℕ) → suc (suc k) ≡ suc k + 1
    next k = omega arith

front : Local → List ℕ → List ℕ
front l rest = areas ++ (protocols ++ (neighbour_tlvs l.neighbours ++ (inst_tlv l ++ rest)))

together : (l : Local) (n : ℕ) → tlvs_together (fragments_from l (suc n) 0) ≡ front l (tail l (suc n) 0)
unfolding fragment tail front
together l n =
    ap (λ x. content_bytes (part_of 0 l) ++ x) (after_first l n 0)
    ∙ (ap (λ x. x ++ tail l n 1) (parts (part_of 0 l))
    ∙ five areas protocols (neighbour_tlvs l.neighbours) (inst_tlv l) (service_tlvs (part_of 0 l)) (tail l n 1))

-- ---- their values

front_22 : (l : Local) (rest : List ℕ) → values_with 22 rest ≡ [] → values_with 22 (front l rest) ≡ map neighbours_value (few_of l.neighbours)
unfolding front
front_22 l rest none =
    tlv_elsewhere 1 22 (0x03 ∷ 0x49 ∷ 0x00 ∷ 0x01 ∷ []) (protocols ++ (neighbour_tlvs l.neighbours ++ (inst_tlv l ++ rest))) (λ e. omega (arith, e))
    ∙ (tlv_elsewhere 129 22 (0xc1 ∷ []) (neighbour_tlvs l.neighbours ++ (inst_tlv l ++ rest)) (λ e. omega (arith, e))
    ∙ (several 22 neighbours_value (few_of l.neighbours) (inst_tlv l ++ rest)
    ∙ (ap (λ vs. map neighbours_value (few_of l.neighbours) ++ vs) (tlv_elsewhere 144 22 (capability_value (inst_at l)) rest (λ e. omega (arith, e)) ∙ none)
    ∙ append-nil (map neighbours_value (few_of l.neighbours)))))

front_144 : (l : Local) (rest : List ℕ) → values_with 144 (front l rest) ≡ capability_value (inst_at l) ∷ values_with 144 rest
unfolding front
front_144 l rest =
    tlv_elsewhere 1 144 (0x03 ∷ 0x49 ∷ 0x00 ∷ 0x01 ∷ []) (protocols ++ (neighbour_tlvs l.neighbours ++ (inst_tlv l ++ rest))) (λ e. omega (arith, e))
    ∙ (tlv_elsewhere 129 144 (0xc1 ∷ []) (neighbour_tlvs l.neighbours ++ (inst_tlv l ++ rest)) (λ e. omega (arith, e))
    ∙ (others 22 144 neighbours_value (few_of l.neighbours) (inst_tlv l ++ rest) (λ e. omega (arith, e))
    ∙ tlv_here 144 (capability_value (inst_at l)) rest))

tail_22 : (l : Local) (n k : ℕ) → values_with 22 (tail l n k) ≡ []
unfolding tail
tail_22 l zero k = values_none 22 [] refl
tail_22 l (suc n) k =
    others 144 22 (λ v. capability_value (services_at (part_of k l) v)) (vids_in (part_of k l).attached) (tail l n (k + 1)) (λ e. omega (arith, e)) ∙ tail_22 l n (k + 1)

caps : Local → ℕ → ℕ → List Capability
caps l zero k = []
caps l (suc n) k = map (services_at (part_of k l)) (vids_in (part_of k l).attached) ++ caps l n (k + 1)

tail_144 : (l : Local) (n k : ℕ) → IsLocal l → HasFields l → flat_map (λ value. or_nothing (capabilities_of value)) (values_with 144 (tail l n k)) ≡ caps l n k
unfolding tail caps
tail_144 l zero k is fields = ap (flat_map (λ value. or_nothing (capabilities_of value))) (values_none 144 [] refl)
tail_144 l (suc n) k is fields =
    let p : Local = part_of k l in
    ap (flat_map (λ value. or_nothing (capabilities_of value))) (several 144 (λ v. capability_value (services_at p v)) (vids_in p.attached) (tail l n (k + 1)))
    ∙ (flat_join (λ value. or_nothing (capabilities_of value)) (map (λ v. capability_value (services_at p v)) (vids_in p.attached)) (values_with 144 (tail l n (k + 1)))
    ∙ (ap (λ x. x ++ flat_map (λ value. or_nothing (capabilities_of value)) (values_with 144 (tail l n (k + 1))))
    (read_services p (vids_in p.attached) fields.mac (services_are p (is_part k l is)))
    ∙ ap (λ x. map (services_at p) (vids_in p.attached) ++ x) (tail_144 l n (k + 1) is fields)))

-- ---- their services

-- what is said of the services of a bridge is what is said of its ports
pub services_said : (l : Local) → IsLocal l → listing (own_mac l) (services_by l) ≡ listing (own_mac l) l.attached
services_said l is =
    listing_same (own_mac l) (services_by l) l.attached (attached_covered l.config.id.system l.attached is.attached) (covered_attached l.config.id.system l.attached is.attached)

services_told : (l : Local) (n k : ℕ) → AllByRecursion IsAttached (services_by l) → flat_map services_of (caps l n k) ≡ map (listed (own_mac l)) (parts_together (services_by l) n k)
unfolding caps
services_told l zero k each = refl
services_told l (suc n) k each =
    let p : Local = part_of k l in
    let ms : List Member = drop (60 * k) (services_by l) in
    flat_join services_of (map (services_at p) (vids_in p.attached)) (caps l n (k + 1))
    ∙ (ap (λ x. x ++ flat_map services_of (caps l n (k + 1)))
    (no_inst p (vids_in p.attached)
    ∙ listed_again (own_mac l) (take 60 ms) (taken 60 ms (dropped (60 * k) (services_by l) (services_ascend l))) (all_take IsAttached 60 ms (all_drop IsAttached (60 * k) (services_by l) each)))
    ∙ (ap (λ x. map (listed (own_mac l)) (take 60 ms) ++ x) (services_told l n (k + 1) each)
    ∙ sym (map-append (listed (own_mac l)) (take 60 ms) (parts_together (services_by l) n (k + 1)))))

-- ---- all of it

own_read : (l : Local) (n : ℕ) → IsLocal l → HasFields l → capabilities_in (front l (tail l (suc n) 0)) ≡ inst_at l ∷ caps l (suc n) 0
own_read l n is fields =
    ap (flat_map (λ value. or_nothing (capabilities_of value))) (front_144 l (tail l (suc n) 0))
    ∙ (ap (λ r. or_nothing r ++ flat_map (λ value. or_nothing (capabilities_of value)) (values_with 144 (tail l (suc n) 0)))
    (capability_again (inst_at l) (is_inst l.config.source l.config.vids is.source is.few_vids is.vids) fields.priority)
    ∙ ap (λ cs. inst_at l ∷ cs) (tail_144 l (suc n) 0 is fields))

neighbours_read : (l : Local) (n : ℕ) → IsLocal l → HasFields l → neighbours_in (front l (tail l (suc n) 0)) ≡ l.neighbours
unfolding content_in front
neighbours_read l n is fields =
    let p : Local = part_of 0 l in
    let again = read_again p (is_part 0 l is) (part_fields 0 l fields) in
    let bare : content_bytes p ≡ front l (service_tlvs p) = parts p in
    let none : values_with 22 (service_tlvs p) ≡ [] = others_alone 144 22 (λ v. capability_value (services_at p v)) (vids_in p.attached) (λ e. omega (arith, e)) in
    ap (flat_map (λ value. or_nothing (neighbours_of value))) (front_22 l (tail l (suc n) 0) (tail_22 l (suc n) 0) ∙ sym (ap (values_with 22) bare ∙ front_22 l (service_tlvs p) none))
    ∙ ap (λ (c : Content). c.neighbours) again

pub fragments_are_read : FragmentsAreRead
unfolding content_in
fragments_are_read l zero is fields some few = absurd (omega (arith, some))
fragments_are_read l (suc n) is fields some few =
    let told : flat_map services_of (caps l (suc n) 0) ≡ listing (own_mac l) l.attached =
    services_told l (suc n) 0 (services_attached l is.attached)
    ∙ (ap (map (listed (own_mac l))) (parts_are_together (services_by l) (suc n) few)
    ∙ (sym (listed_again (own_mac l) (services_by l) (services_ascend l) (services_attached l is.attached))
    ∙ services_said l is)) in
    ap content_in (together l n)
    ∙ (λ i. record {
      inst = first_inst (own_read l n is fields i);
      neighbours = neighbours_read l n is fields i;
      services = (ap (flat_map services_of) (own_read l n is fields) ∙ told) i;
    })

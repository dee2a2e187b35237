-- What is written of octets is octets.
use Rattle.std.proofs.Common.{◌≡◌, ℕ, zero, suc, ◌+◌, ◌*◌, ◌/◌, ◌≤◌, ◌<◌, Bool, true, false, List, [], ◌∷◌, ◌++◌, length, take, drop, replicate, flat_map, sym, subst, arith}
use Rattle.std.specs.Prelude.{Some, if◌then◌else◌}
use Rattle.std.specs.List.{AllByRecursion}
use Rattle.std.specs.Simd.{first_chunks}
use Rattle.std.proofs.lemmas.List.{length-take}
use Rattle.isis_pdu.specs.Grammar.{IsBytes}
use Rattle.spb_types.specs.declared.address.Mac.{Mac}
use Rattle.spb_types.specs.declared.service.SourceId.{SourceId}
use Rattle.spb_types.specs.declared.service.Vid.{Vid}
use Rattle.spb_types.specs.declared.service.VidPlan.{VidPlan}
use Rattle.spb_tlvs.specs.declared.capability.Service.{Service}
use Rattle.spb_tlvs.specs.declared.capability.Capability.TheVariants.{Services}
use Rattle.spb_tlvs.specs.declared.neighbours.Neighbour.{Neighbour}
use Rattle.spb_tlvs.specs.Number.{two, three, four}
use Rattle.spb_tlvs.specs.Tlv.{tlv}
use Rattle.spb_tlvs.specs.Neighbour.{neighbour_bytes, neighbours_value, sub_tlvs}
use Rattle.spb_tlvs.specs.Capability.{IsTree, tree_bytes, inst_fields, inst_value, service_bytes, services_fields, services_value}
use Rattle.spb_tlvs.specs.RoundTrip.{IsMac, IsNeighbour}
use Rattle.spb_content.specs.declared.local.Local.{Local}
use Rattle.spb_content.specs.Local.{areas, protocols, neighbour_tlvs, inst_tlv, service_tlvs, content_bytes, capability_tlv, own_mac, plan_number, trees_of, vids_in, services_in, IsPart}
use Rattle.spb_content.specs.Fragments.{part_of, fragment}
use Rattle.spb_content.specs.Laws.{HasFields, HasOctets, ContentIsOctets, FragmentsAreOctets}
use Rattle.spb_content.proofs.Members.{has_all, weaker}
use Rattle.spb_content.proofs.Kept.{all_ascending, length-ascending}
use Rattle.spb_content.proofs.Written.{all_drop, all_take, is_services}
use Rattle.spb_content.proofs.Again.{services_at, parts}
use Rattle.spb_content.proofs.Lengths.{neighbours_len, services_tlv_len, inst_tlv_len}
use Rattle.spb_content.proofs.Parts.{is_part, part_fields}
use Rattle.spb_content.proofs.Told.{service_fragment}

-- ---- lists of octets, byte by byte

abbrev pub AreSmall : List ℕ → Type 0
AreSmall [] = Unit {0}
AreSmall (b ∷ bs) = (b < 256) × AreSmall bs

pub small_bytes : (bs : List ℕ) → AreSmall bs → IsBytes bs
small_bytes [] small i = omega arith
small_bytes (b ∷ bs) small zero = small.0
small_bytes (b ∷ bs) small (suc i) = small_bytes bs small.1 i

pub bytes_small : (bs : List ℕ) → IsBytes bs → AreSmall bs
bytes_small [] bytes = tt
bytes_small (b ∷ bs) bytes = (bytes 0, bytes_small bs (λ i. bytes (suc i)))

pub small_both : (xs ys : List ℕ) → AreSmall xs → AreSmall ys → AreSmall (xs ++ ys)
small_both [] ys p q = q
small_both (x ∷ xs) ys p q = (p.0, small_both xs ys p.1 q)

pub small_joined : {X : Type 0} (f : X → List ℕ) (xs : List X) → AllByRecursion (λ x. AreSmall (f x)) xs → AreSmall (flat_map f xs)
small_joined f [] each = tt
small_joined f (x ∷ xs) each = small_both (f x) (flat_map f xs) each.0 (small_joined f xs each.1)

zeros_small : (n : ℕ) → AreSmall (replicate n 0)
zeros_small zero = tt
zeros_small (suc n) = (omega arith, zeros_small n)

-- the bytes of a number
pub two_small : (n : ℕ) → AreSmall (two n)
two_small n = (omega arith, (omega arith, tt))

three_small : (n : ℕ) → AreSmall (three n)
three_small n = (omega arith, (omega arith, (omega arith, tt)))

pub four_small : (n : ℕ) → AreSmall (four n)
four_small n = (omega arith, (omega arith, (omega arith, (omega arith, tt))))

-- a TLV whose length has a byte
pub tlv_small : (code : ℕ) (value : List ℕ) → code < 256 → length value < 256 → AreSmall value → AreSmall (tlv code value)
tlv_small code value low short small = (low, (short, small))

-- ---- the neighbours

neighbour_small : (n : Neighbour) → IsBytes n.system.mac.bytes → AreSmall (neighbour_bytes n)
neighbour_small n octets =
    let mac : List ℕ = n.system.mac.bytes in
    let head : AreSmall (mac ++ 0 ∷ three n.metric) = small_both mac (0 ∷ three n.metric) (bytes_small mac octets) (omega arith, three_small n.metric) in
    small_both (mac ++ 0 ∷ three n.metric) (length (sub_tlvs n) ∷ sub_tlvs n) head
    (omega arith, (omega arith, (omega arith, small_both (three n.metric) (1 ∷ two n.port) (three_small n.metric) (omega arith, two_small n.port))))

abbrev AreNamed : List Neighbour → Type 0
AreNamed ns = AllByRecursion (λ n. IsBytes n.system.mac.bytes) ns

few_small : (k : ℕ) (ns : List Neighbour) → AllByRecursion IsNeighbour ns → AreNamed ns → AreSmall (flat_map (λ few. tlv 22 (neighbours_value few)) (first_chunks 13 k ns))
few_small zero ns each octets = tt
few_small (suc k) ns each octets =
    let few : List Neighbour = take 13 ns in
    let rest : List Neighbour = drop 13 ns in
    let size : length (neighbours_value few) ≡ 19 * length few = neighbours_len few (all_take IsNeighbour 13 ns each) in
    let value : AreSmall (neighbours_value few) =
    small_joined neighbour_bytes few (weaker _ (λ n. AreSmall (neighbour_bytes n)) few neighbour_small (all_take (λ n. IsBytes n.system.mac.bytes) 13 ns octets)) in
    small_both (tlv 22 (neighbours_value few)) (flat_map (λ few. tlv 22 (neighbours_value few)) (first_chunks 13 k rest))
    (tlv_small 22 (neighbours_value few) (omega arith) (omega (arith, size, length-take 13 ns)) value)
    (few_small k rest (all_drop IsNeighbour 13 ns each) (all_drop (λ n. IsBytes n.system.mac.bytes) 13 ns octets))

-- ---- the trees

tree_small : (p : VidPlan) → IsTree p → AreSmall (tree_bytes p)
tree_small p is = (omega arith, (omega arith, (omega arith, (omega arith, (omega (arith, is.ect_high), three_small (p.vid.value * 4096))))))

fields_small : (priority : ℕ) (source : SourceId) (count : ℕ) → count < 256 → AreSmall (inst_fields priority source count)
fields_small priority source count low =
    let first : AreSmall (replicate 12 0 ++ two priority) = small_both (replicate 12 0) (two priority) (zeros_small 12) (two_small priority) in
    let more : AreSmall (replicate 12 0 ++ two priority ++ four source.value) = small_both (replicate 12 0 ++ two priority) (four source.value) first (four_small source.value) in
    small_both (replicate 12 0 ++ two priority ++ four source.value) (count ∷ []) more (low, tt)

inst_small : (l : Local) → IsPart l → AreSmall (inst_tlv l)
inst_small l is =
    let trees : List VidPlan = trees_of l in
    let few : length trees ≤ 16 = omega (arith, length-ascending plan_number l.config.vids, is.few_vids) in
    let size = inst_tlv_len l in
    let each : AreSmall (flat_map tree_bytes trees) = small_joined tree_bytes trees (weaker IsTree _ trees tree_small (all_ascending IsTree plan_number l.config.vids is.vids)) in
    let fields : List ℕ = inst_fields l.config.id.priority l.config.source (length trees) in
    let value : AreSmall (inst_value l.config.id.priority l.config.source trees) =
    small_both fields (flat_map tree_bytes trees) (fields_small l.config.id.priority l.config.source (length trees) (omega (arith, few))) each in
    (omega arith, (omega (arith, size, few), (omega arith, (omega arith, (omega arith, (omega (arith, size, few), value))))))

-- ---- the services

flags_small : (t r : Bool) → (if t then 128 else 0) + (if r then 64 else 0) < 256
flags_small true true = omega arith
flags_small true false = omega arith
flags_small false true = omega arith
flags_small false false = omega arith

service_small : (s : Service) → AreSmall (service_bytes s)
service_small s = (flags_small s.transmit s.receive, three_small s.isid.value)

each_service : (ss : List Service) → AllByRecursion (λ s. AreSmall (service_bytes s)) ss
each_service [] = tt
each_service (s ∷ ss) = (service_small s, each_service ss)

services_small : (mac : Mac) (v : Vid) (ss : List Service) → IsMac mac → IsBytes mac.bytes → length ss ≤ 60 → AreSmall (capability_tlv (Services mac v ss))
services_small mac v ss six octets few =
    let size = services_tlv_len mac v ss six in
    let fields : AreSmall (services_fields mac v) = small_both mac.bytes (two v.value) (bytes_small mac.bytes octets) (two_small v.value) in
    let value : AreSmall (services_value mac v ss) = small_both (services_fields mac v) (flat_map service_bytes ss) fields (small_joined service_bytes ss (each_service ss)) in
    (omega arith, (omega (arith, size, few), (omega arith, (omega arith, (omega arith, (omega (arith, size, few), value))))))

all_services_small : (l : Local) → IsPart l → HasFields l → IsBytes (own_mac l).bytes → AreSmall (service_tlvs l)
all_services_small l is fields octets =
    small_joined (λ v. capability_tlv (services_at l v)) (vids_in l.attached)
    (has_all (λ v. AreSmall (capability_tlv (services_at l v))) (vids_in l.attached)
    (λ v h. services_small (own_mac l) v (services_in v l.attached) fields.mac octets (is_services v l.attached is.attached is.few_isids h).few))

-- ---- the whole

areas_small : AreSmall areas
areas_small = (omega arith, (omega arith, (omega arith, (omega arith, (omega arith, (omega arith, tt))))))

protocols_small : AreSmall protocols
protocols_small = (omega arith, (omega arith, (omega arith, tt)))

content_small : (l : Local) → IsPart l → HasFields l → HasOctets l → AreSmall (content_bytes l)
content_small l is fields octets =
    let services : AreSmall (service_tlvs l) = all_services_small l is fields octets.mac in
    let ended : AreSmall (inst_tlv l ++ service_tlvs l) = small_both (inst_tlv l) (service_tlvs l) (inst_small l is) services in
    let named : AreSmall (neighbour_tlvs l.neighbours) = few_small ((length l.neighbours + 12) / 13) l.neighbours fields.neighbours octets.neighbours in
    let more : AreSmall (neighbour_tlvs l.neighbours ++ (inst_tlv l ++ service_tlvs l)) = small_both (neighbour_tlvs l.neighbours) (inst_tlv l ++ service_tlvs l) named ended in
    let behind : AreSmall (protocols ++ (neighbour_tlvs l.neighbours ++ (inst_tlv l ++ service_tlvs l))) =
    small_both protocols (neighbour_tlvs l.neighbours ++ (inst_tlv l ++ service_tlvs l)) protocols_small more in
    subst AreSmall (sym (parts l)) (small_both areas (protocols ++ (neighbour_tlvs l.neighbours ++ (inst_tlv l ++ service_tlvs l))) areas_small behind)

pub content_is_octets : ContentIsOctets
content_is_octets l is fields octets = small_bytes (content_bytes l) (content_small l is fields octets)

-- ---- fragments

part_octets : (k : ℕ) (l : Local) → HasOctets l → HasOctets (part_of k l)
part_octets k l octets = record { mac = octets.mac; neighbours = octets.neighbours }

first_octets : (l : Local) (tlvs : List ℕ) → IsBytes (content_bytes (part_of 0 l)) → fragment l 0 ≡ Some tlvs → IsBytes tlvs
unfolding fragment
first_octets l tlvs octets e = let same : content_bytes (part_of 0 l) ≡ tlvs = cc in subst IsBytes same octets

pub fragments_are_octets : FragmentsAreOctets
fragments_are_octets l zero tlvs is fields octets e = first_octets l tlvs (content_is_octets (part_of 0 l) (is_part 0 l is) (part_fields 0 l fields) (part_octets 0 l octets)) e
fragments_are_octets l (suc k) tlvs is fields octets e =
    let part : Local = part_of (suc k) l in
    subst IsBytes (service_fragment l k tlvs e) (small_bytes (service_tlvs part) (all_services_small part (is_part (suc k) l is) (part_fields (suc k) l fields) octets.mac))

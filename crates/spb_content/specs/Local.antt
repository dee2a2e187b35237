-- What a bridge says of itself in its LSPs (RFC 6329, 13 to 16).
use Rattle.std.specs.Prelude.{◌≡◌, ℕ, ◌+◌, ◌/◌, ◌≤◌, ◌<◌, List, [], ◌∷◌, ◌++◌, length, map, filter, flat_map, Bool, ◌&&◌, ◌==◌, Some, ⊤}
use Rattle.std.specs.List.{AllByRecursion, list_any}
use Rattle.std.specs.Simd.{first_chunks}
use Rattle.spb_types.specs.Ascending.{ascending}
use Rattle.spb_types.specs.Service.{AreVidsApart}
use Rattle.spb_types.specs.declared.address.Mac.{Mac}
use Rattle.spb_types.specs.declared.graph.Member.{Member}
use Rattle.spb_types.specs.declared.service.Isid.{Isid}
use Rattle.spb_types.specs.declared.service.Vid.{Vid}
use Rattle.spb_types.specs.declared.service.VidPlan.{VidPlan}
use Rattle.spb_tlvs.specs.declared.capability.Capability.{Capability}
use Rattle.spb_tlvs.specs.declared.capability.Capability.TheVariants.{Inst, Services}
use Rattle.spb_tlvs.specs.declared.capability.Service.{Service}
use Rattle.spb_tlvs.specs.declared.neighbours.Neighbour.{Neighbour}
use Rattle.spb_tlvs.specs.Tlv.{tlv}
use Rattle.spb_tlvs.specs.Neighbour.{neighbours_value}
use Rattle.spb_tlvs.specs.Capability.{capability_value, IsTree}
use Rattle.spb_content.specs.declared.local.Local.{Local}
use Rattle.spb_content.specs.declared.content.Content.{Content}
use Rattle.spb_types.specs.declared.limits.TheConstants.{GREATEST_ISID, GREATEST_VID, MOST_ISIDS, MOST_VIDS, SOURCE_IDS}
use Rattle.spb_tlvs.specs.declared.codes.TheConstants.{AREA_ADDRESSES, EXTENDED_IS_REACHABILITY, MT_CAPABILITY, PROTOCOLS_SUPPORTED}

abbrev pub plan_number : VidPlan → ℕ
plan_number p = p.vid.value

abbrev pub vid_number : Vid → ℕ
vid_number v = v.value

abbrev pub isid_number : Isid → ℕ
isid_number i = i.value

-- ---- what is said

-- the trees: the base VIDs with their ECT numbers, ascending
abbrev pub trees_of : Local → List VidPlan
trees_of l = ascending plan_number l.config.vids

-- the base VIDs that have an attached I-SID, ascending
abbrev pub vids_in : List Member → List Vid
vids_in attached = ascending vid_number (map (λ m. m.vid) attached)

-- the different I-SIDs of attached ports, ascending
abbrev pub isids_in : List Member → List Isid
isids_in attached = ascending isid_number (map (λ m. m.isid) attached)

-- those that are attached in a base VID
abbrev pub in_vid : Vid → List Member → List Member
in_vid vid attached = filter (λ m. m.vid.value == vid.value) attached

-- whether a member is in the service of an I-SID
abbrev pub is_of_isid : Isid → Member → Bool
is_of_isid isid m = m.isid.value == isid.value

-- the service of an I-SID, as these members take part in it: T is set where one transmits, and R where one receives
abbrev pub service_among : List Member → Isid → Service
service_among ms isid = record {
  isid = isid;
  transmit = list_any (λ m. is_of_isid isid m && m.transmit) ms;
  receive = list_any (λ m. is_of_isid isid m && m.receive) ms;
}

-- the service of a member alone
abbrev pub said_service : Member → Service
said_service m = record { isid = m.isid; transmit = m.transmit; receive = m.receive }

-- the services of some members in one base VID, each once
abbrev pub services_among : List Member → List Service
services_among ms = map (service_among ms) (isids_in ms)

-- the services in a base VID
abbrev pub services_in : Vid → List Member → List Service
services_in vid attached = services_among (in_vid vid attached)

abbrev pub own_mac : Local → Mac
own_mac l = l.config.id.system.mac

-- the neighbours as they are, the trees, and each service once, by base VID and then by I-SID
abbrev pub said_by : Local → Content
said_by l = record {
  inst = Some (record { priority = l.config.id.priority; source = l.config.source; trees = trees_of l });
  neighbours = l.neighbours;
  services = flat_map (λ v. map (λ s. (own_mac l, v, s)) (services_in v l.attached)) (vids_in l.attached);
}

-- ---- how it is written: the TLVs of one LSP, in order

-- the area addresses, of which there is one, 49.0001 (ISO/IEC 10589, 9.8)
abbrev pub areas : List ℕ
areas = tlv AREA_ADDRESSES (0x03 ∷ 0x49 ∷ 0x00 ∷ 0x01 ∷ [])

-- the protocols supported: the NLPID of SPB (RFC 6329, 13)
abbrev pub protocols : List ℕ
protocols = tlv PROTOCOLS_SUPPORTED (0xc1 ∷ [])

-- the neighbours, 13 in a TLV and the rest in the last one
abbrev pub neighbour_tlvs : List Neighbour → List ℕ
neighbour_tlvs ns = flat_map (λ few. tlv EXTENDED_IS_REACHABILITY (neighbours_value few))
    (first_chunks 13 ((length ns + 12) / 13) ns)

abbrev pub capability_tlv : Capability → List ℕ
capability_tlv c = tlv MT_CAPABILITY (capability_value c)

-- one TLV with an SPB-Inst
abbrev pub inst_tlv : Local → List ℕ
inst_tlv l = capability_tlv (Inst l.config.id.priority l.config.source (trees_of l))

-- one TLV with an SPBM-SI for each base VID that has an attached I-SID
abbrev pub service_tlvs : Local → List ℕ
service_tlvs l = flat_map (λ v. capability_tlv (Services (own_mac l) v (services_in v l.attached))) (vids_in l.attached)

unfoldable pub content_bytes : Local → List ℕ
content_bytes l = areas ++ protocols ++ neighbour_tlvs l.neighbours ++ inst_tlv l ++ service_tlvs l

-- ---- what a bridge has

pub record IsAttached (m : Member) : Type 0 where
  pub isid_low : 1 ≤ m.isid.value
  pub isid_high : m.isid.value ≤ GREATEST_ISID
  pub vid_low : 1 ≤ m.vid.value
  pub vid_high : m.vid.value ≤ GREATEST_VID

-- an I-SID is attached in one base VID
abbrev pub AreInOneVid : List Member → Type 0
AreInOneVid [] = ⊤
AreInOneVid (m ∷ ms) = AllByRecursion (λ n. m.isid.value ≡ n.isid.value → m.vid.value ≡ n.vid.value) ms × AreInOneVid ms

-- what a bridge has, with at most so many I-SIDs
pub record IsLocalWith (most : ℕ) (l : Local) : Type 0 where
  pub source : l.config.source.value < SOURCE_IDS
  pub few_vids : length l.config.vids ≤ MOST_VIDS
  pub vids : AllByRecursion IsTree l.config.vids
  pub vids_apart : AreVidsApart l.config.vids
  pub metrics : AllByRecursion (λ n. n.metric < 16777216) l.neighbours
  pub attached : AllByRecursion IsAttached l.attached
  pub one_vid : AreInOneVid l.attached
  pub few_isids : length (isids_in l.attached) ≤ most

abbrev pub IsLocal : Local → Type 0
IsLocal l = IsLocalWith MOST_ISIDS l

-- what one LSP takes: a TLV has room for 60 I-SIDs
abbrev pub IsPart : Local → Type 0
IsPart l = IsLocalWith 60 l

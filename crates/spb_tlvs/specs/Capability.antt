-- The MT-Capability TLV, code 144 (RFC 6329, 14), with the sub-TLVs SPB-Inst, 1 (RFC 6329, 14.1), and SPBM-SI, 3
-- (RFC 6329, 16.1).
use Rattle.std.specs.Prelude.{ℕ, ◌≤◌, ◌<◌, All, ◌+◌, ◌-◌, ◌*◌, ◌/◌, ◌%◌, List, [], ◌∷◌, ◌++◌, length, drop, replicate, Bool, true, false, ◌&&◌, not, nat_le, nat_lt, Option, Some, None, Result, Ok, Err, ◌==◌, if◌then◌else◌}
use Rattle.std.specs.List.{flat_map, filter_map, list_any}
use Rattle.std.specs.Simd.{first_chunks}
use Rattle.spb_types.specs.Bytes.{u8_at, u16_at, u24_at, u32_at, mac_at}
use Rattle.spb_types.specs.declared.address.Mac.{Mac}
use Rattle.spb_types.specs.declared.service.Vid.{Vid}
use Rattle.spb_types.specs.declared.service.VidPlan.{VidPlan}
use Rattle.spb_types.specs.declared.service.SourceId.{SourceId}
use Rattle.spb_tlvs.specs.declared.error.TlvError.{TlvError}
use Rattle.spb_tlvs.specs.declared.error.TlvError.TheVariants.{Cut, Range}
use Rattle.spb_tlvs.specs.declared.capability.Capability.{Capability}
use Rattle.spb_tlvs.specs.declared.capability.Capability.TheVariants.{Inst, Services}
use Rattle.spb_tlvs.specs.declared.capability.Service.{Service}
use Rattle.spb_tlvs.specs.Number.{two, three, four}
use Rattle.spb_tlvs.specs.Tlv.{Tlv, tlv, tlvs_in, are_whole}
use Rattle.spb_types.specs.declared.limits.TheConstants.{GREATEST_VID, GREATEST_ISID, GREATEST_ECT, SOURCE_IDS, MOST_VIDS}

-- ---- SPB-Inst

-- a tree, 8 bytes: an octet of the bits U, M, A and five reserved ones, of which M is set; the ECT-ALGORITHM, which
-- is 00-80-C2 and the ECT number; the base VID of 12 bits, and an SPVID of 12 bits, which is 0
abbrev pub tree_bytes : VidPlan → List ℕ
tree_bytes p = 0x40 ∷ 0x00 ∷ 0x80 ∷ 0xc2 ∷ p.ect ∷ three (p.vid.value * 4096)

-- the fields before the trees: the CIST root id (8 bytes) and the external root path cost (4 bytes), which are 0; the
-- bridge priority; 11 reserved bits and the V bit, which are 0, and the SPSourceID of 20 bits; the number of trees
abbrev pub inst_fields : ℕ → SourceId → ℕ → List ℕ
inst_fields priority source count = replicate 12 0 ++ two priority ++ four source.value ++ count ∷ []

-- the value: those fields and the trees
abbrev pub inst_value : ℕ → SourceId → List VidPlan → List ℕ
inst_value priority source trees = inst_fields priority source (length trees) ++ flat_map tree_bytes trees

-- the bytes of the trees, eight each, as many as the count before them says
abbrev pub trees_in : List ℕ → List (List ℕ)
trees_in value = first_chunks 8 (u8_at value 18) (drop 19 value)

abbrev pub base_vid_of : List ℕ → ℕ
base_vid_of tree = u24_at tree 5 / 4096

-- whether the ECT-ALGORITHM is 00-80-C2-01 to 00-80-C2-10; other trees are ignored
abbrev pub is_known : List ℕ → Bool
is_known tree = nat_le 0x0080c201 (u32_at tree 1) && nat_le (u32_at tree 1) 0x0080c210

abbrev pub plan_in : List ℕ → Option VidPlan
plan_in tree = if is_known tree then Some
    (record { vid = record { value = base_vid_of tree }; ect = u32_at tree 1 - 0x0080c200 }) else None

-- what a value says: the reserved bits, the V bit, and the CIST fields are ignored
abbrev pub inst_of : List ℕ → Capability
inst_of value = Inst (u16_at value 12) (record { value = u32_at value 14 % SOURCE_IDS })
    (filter_map plan_in (trees_in value))

-- ---- SPBM-SI

-- a service, 4 bytes: an octet of the bits T, R and six reserved ones, and the I-SID
abbrev pub service_flags : Service → ℕ
service_flags s = (if s.transmit then 128 else 0) + (if s.receive then 64 else 0)

abbrev pub service_bytes : Service → List ℕ
service_bytes s = service_flags s ∷ three s.isid.value

-- the fields before the services: the B-MAC, four reserved bits, which are 0, and the base VID of 12 bits
abbrev pub services_fields : Mac → Vid → List ℕ
services_fields mac vid = mac.bytes ++ two vid.value

-- the value: those fields and the services
abbrev pub services_value : Mac → Vid → List Service → List ℕ
services_value mac vid services = services_fields mac vid ++ flat_map service_bytes services

abbrev pub service_vid_of : List ℕ → ℕ
service_vid_of value = u16_at value 6 % 4096

-- a service by its four bytes. I-SID 0 is ignored
abbrev pub service_of : List ℕ → Option Service
service_of bytes =
    if u24_at bytes 1 == 0
    then None
    else Some (record {
      isid = record { value = u24_at bytes 1 };
      transmit = nat_le 128 (u8_at bytes 0);
      receive = nat_le 64 (u8_at bytes 0 % 128);
    })

abbrev pub services_of : List ℕ → Capability
services_of value = Services (mac_at value 0) (record { value = service_vid_of value })
    (filter_map service_of (first_chunks 4 ((length value - 8) / 4) (drop 8 value)))

-- ---- the TLV

abbrev pub sub_tlv : Capability → List ℕ
sub_tlv (Inst priority source trees) = tlv 1 (inst_value priority source trees)
sub_tlv (Services mac vid services) = tlv 3 (services_value mac vid services)

-- what stands before the value of a sub-TLV of this code and length: the TLV's code and length, MT id 0, and the
-- sub-TLV's
abbrev pub heads : ℕ → ℕ → List ℕ
heads code len = 144 ∷ (4 + len) ∷ 0 ∷ 0 ∷ code ∷ len ∷ []

-- the value: MT id 0, and one sub-TLV
abbrev pub capability_value : Capability → List ℕ
capability_value c = 0 ∷ 0 ∷ sub_tlv c

-- the MT id, the low 12 bits of the first two bytes
abbrev pub mt_id_of : List ℕ → ℕ
mt_id_of value = u16_at value 0 % 4096

-- whether a sub-TLV has room for its fields; one of another code is ignored
abbrev pub is_sub_whole : Tlv → Bool
is_sub_whole t =
    if t.code == 1 then nat_le 19 (length t.value) && nat_le (19 + 8 * u8_at t.value 18) (length t.value)
    else (if t.code == 3 then nat_le 8 (length t.value) && ((length t.value - 8) % 4 == 0)
    else true)

-- whether a base VID is 0 or 4095
abbrev pub is_outside : ℕ → Bool
is_outside vid = not (nat_le 1 vid && nat_le vid GREATEST_VID)

abbrev pub is_tree_outside : List ℕ → Bool
is_tree_outside tree = is_known tree && is_outside (base_vid_of tree)

-- whether a sub-TLV has such a base VID, in an SPBM-SI or in a tree that isn't ignored
abbrev pub has_outside : Tlv → Bool
has_outside t =
    if t.code == 1 then list_any is_tree_outside (trees_in t.value)
    else (if t.code == 3 then is_outside (service_vid_of t.value)
    else false)

abbrev pub capability_of : Tlv → Option Capability
capability_of t =
    if t.code == 1 then Some (inst_of t.value)
    else (if t.code == 3 then Some (services_of t.value)
    else None)

abbrev pub one_capability : Tlv → Result (Option Capability) TlvError
one_capability t = if has_outside t then Err Range else Ok (capability_of t)

-- what the bytes after the MT id say
abbrev pub sub_capabilities_of : List ℕ → Result (List Capability) TlvError
sub_capabilities_of subs =
    if are_whole is_sub_whole subs
    then (if list_any has_outside (tlvs_in subs) then Err Range else Ok (filter_map capability_of (tlvs_in subs)))
    else Err Cut

-- what a value says: nothing, whatever follows the two bytes, where the MT id isn't 0
abbrev pub capabilities_of : List ℕ → Result (List Capability) TlvError
capabilities_of value =
    if nat_lt (length value) 2 then Err Cut
    else (if mt_id_of value == 0 then sub_capabilities_of (drop 2 value)
    else Ok [])

-- ---- what is written

pub record IsTree (p : VidPlan) : Type 0 where
  pub vid_low : 1 ≤ p.vid.value
  pub vid_high : p.vid.value ≤ GREATEST_VID
  pub ect_low : 1 ≤ p.ect
  pub ect_high : p.ect ≤ GREATEST_ECT

pub record IsInst (source : SourceId) (trees : List VidPlan) : Type 0 where
  pub source_high : source.value < SOURCE_IDS
  pub few : length trees ≤ MOST_VIDS
  pub each : All IsTree trees

pub record IsService (s : Service) : Type 0 where
  pub low : 1 ≤ s.isid.value
  pub high : s.isid.value ≤ GREATEST_ISID

pub record IsServices (vid : Vid) (services : List Service) : Type 0 where
  pub low : 1 ≤ vid.value
  pub high : vid.value ≤ GREATEST_VID
  pub few : length services ≤ 60
  pub each : All IsService services

-- a capability that a bridge has
abbrev pub IsCapability : Capability → Type 0
IsCapability (Inst priority source trees) = IsInst source trees
IsCapability (Services mac vid services) = IsServices vid services

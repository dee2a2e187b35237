-- What the TLVs of an LSP say of a bridge (RFC 6329, 13 to 16).
use Rattle.std.specs.Prelude.{ℕ, List, [], ◌∷◌, map, flat_map, Option, Some, None, Result, Ok, Err}
use Rattle.spb_types.specs.declared.address.Mac.{Mac}
use Rattle.spb_types.specs.declared.service.Vid.{Vid}
use Rattle.spb_tlvs.specs.declared.error.TlvError.{TlvError}
use Rattle.spb_tlvs.specs.declared.capability.Capability.{Capability}
use Rattle.spb_tlvs.specs.declared.capability.Capability.TheVariants as said
use Rattle.spb_tlvs.specs.declared.capability.Service.{Service}
use Rattle.spb_tlvs.specs.declared.neighbours.Neighbour.{Neighbour}
use Rattle.spb_tlvs.specs.Tlv.{values_with}
use Rattle.spb_tlvs.specs.Neighbour.{neighbours_of}
use Rattle.spb_tlvs.specs.Capability.{capabilities_of}
use Rattle.spb_content.specs.declared.content.Content.{Content}
use Rattle.spb_content.specs.declared.content.Inst.{Inst}
use Rattle.spb_tlvs.specs.declared.codes.TheConstants.{EXTENDED_IS_REACHABILITY, MT_CAPABILITY}

-- a value that can't be read is ignored
abbrev pub or_nothing : {A : Type 0} → Result (List A) TlvError → List A
or_nothing (Ok xs) = xs
or_nothing (Err e) = []

-- the neighbours of all TLVs 22, in order
abbrev pub neighbours_in : List ℕ → List Neighbour
neighbours_in tlvs = flat_map (λ value. or_nothing (neighbours_of value)) (values_with EXTENDED_IS_REACHABILITY tlvs)

-- the capabilities of all TLVs 144, in order
abbrev pub capabilities_in : List ℕ → List Capability
capabilities_in tlvs = flat_map (λ value. or_nothing (capabilities_of value)) (values_with MT_CAPABILITY tlvs)

-- the first SPB-Inst among them
abbrev pub first_inst : List Capability → Option Inst
first_inst [] = None
first_inst (said.Inst priority source trees ∷ cs) =
    Some (record { priority = priority; source = source; trees = trees })
first_inst (said.Services mac vid services ∷ cs) = first_inst cs

-- the services of one of them, each with its B-MAC and base VID
abbrev pub services_of : Capability → List (Mac × Vid × Service)
services_of (said.Inst priority source trees) = []
services_of (said.Services mac vid services) = map (λ s. (mac, vid, s)) services

-- what TLVs say: the first SPB-Inst counts, and all neighbours and services do, in order
unfoldable pub content_in : List ℕ → Content
content_in tlvs = record {
  inst = first_inst (capabilities_in tlvs);
  neighbours = neighbours_in tlvs;
  services = flat_map services_of (capabilities_in tlvs);
}

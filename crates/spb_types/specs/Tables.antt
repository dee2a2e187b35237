-- Questions to the tables of a bridge (IEEE 802.1aq, 8.8).
use Rattle.std.specs.Prelude.{◌≡◌, ℕ, ◌/◌, ◌%◌, List, ◌∷◌, Bool, ◌==◌, ◌&&◌, Option, Some, None, find, option_map}
use Rattle.std.specs.Str.{bytes_eq}
use Rattle.spb_types.specs.declared.address.Mac.{Mac}
use Rattle.spb_types.specs.declared.service.Vid.{Vid}
use Rattle.spb_types.specs.declared.ports.PortSet.{PortSet}
use Rattle.spb_types.specs.declared.tables.UnicastRow.{UnicastRow}
use Rattle.spb_types.specs.declared.tables.GroupRow.{GroupRow}
use Rattle.spb_types.specs.Ports.{no_ports}

-- the bytes of a VID, the low one first, and those of an address
abbrev pub row_bytes : Vid → Mac → List ℕ
row_bytes vid mac = (vid.value % 256) ∷ (vid.value / 256) ∷ mac.bytes

-- whether a row is for this VID and this address
abbrev pub is_row_for : Vid → Mac → UnicastRow → Bool
is_row_for vid mac r = (r.vid.value == vid.value) && bytes_eq r.mac.bytes mac.bytes

-- the port of the first row for a VID and an address, if there is one
abbrev pub unicast_in : List UnicastRow → Vid → Mac → Option ℕ
unicast_in rows vid mac = option_map (λ r. r.port) (find (is_row_for vid mac) rows)

-- the ingress check: frames from this address come in at the port by which frames to it leave (IEEE 802.1aq)
abbrev pub IsIngress : List UnicastRow → Vid → Mac → ℕ → Type 0
IsIngress rows vid sa port = unicast_in rows vid sa ≡ Some port

-- whether a group row is for this VID and this address
abbrev pub is_group_row_for : Vid → Mac → GroupRow → Bool
is_group_row_for vid mac r = (r.vid.value == vid.value) && bytes_eq r.mac.bytes mac.bytes

abbrev pub ports_of_row : Option GroupRow → PortSet
ports_of_row None = no_ports
ports_of_row (Some r) = r.ports

-- the ports of the first group row for a VID and an address, none where there is no such row
abbrev pub group_in : List GroupRow → Vid → Mac → PortSet
group_in rows vid mac = ports_of_row (find (is_group_row_for vid mac) rows)

-- What a bridge says of itself, and its own LSPs (RFC 6329, 13 to 16; ISO/IEC 10589, 7.3.7).
use Rattle.std.specs.Prelude.{◌≡◌, ℕ, ◌+◌, ◌≤◌, ◌<◌, List, [], ◌∷◌, map, Option, if◌then◌else◌}
use Rattle.std.specs.FinMap.{get}
use Rattle.spb_types.specs.Service.{sends, receives}
use Rattle.spb_types.specs.declared.address.SystemId.{SystemId}
use Rattle.spb_types.specs.declared.graph.Member.{Member}
use Rattle.spb_types.specs.declared.service.Attachment.{Attachment}
use Rattle.spb_tlvs.specs.declared.neighbours.Neighbour.{Neighbour}
use Rattle.lsdb.specs.Entry.{Entry}
use Rattle.flooding.specs.declared.own.Own.{Own}
pub use Rattle.flooding.specs.Own.{body_in}
use Rattle.flooding.specs.Own.{own_numbers, own_number, body_of_number, tlvs_of_body}
use Rattle.flooding.specs.Hearing.{Holding}
use Rattle.flooding.specs.Starting.{started_all}
pub use Rattle.flooding.specs.Settling.{Lasts, IsAlive}
use Rattle.flooding.specs.Settling.{AreCurrent, settled}
use Rattle.spb_content.specs.declared.local.Local.{Local}
use Rattle.spb_content.specs.Content.{content_in, neighbours_in}
use Rattle.spb_content.specs.Fragments.{fragments_from, bodies_saying}
use Rattle.spb_content.specs.Graph.{HasPorts}
use Rattle.bridge_api.specs.declared.port.BridgePort.{BridgePort}
use Rattle.bridge_api.specs.View.{BridgeView, is_port_up, up_ports}
use Rattle.spb_types.specs.declared.level.TheConstants.{LEVEL_1}

-- ---- what it says

-- the neighbour at a port of this number, with the metric of the link there
abbrev pub neighbour_in : ℕ → BridgePort → Neighbour
neighbour_in p port = record { system = port.adjacency.neighbour; metric = port.metric; port = p }

-- the neighbours at the ports that are Up, of those from number p on
abbrev pub neighbours_from : ℕ → List BridgePort → List Neighbour
neighbours_from p [] = []
neighbours_from p (port ∷ ports) =
    if is_port_up port then neighbour_in p port ∷ neighbours_from (p + 1) ports else neighbours_from (p + 1) ports

-- an attached customer port makes the bridge a member of its service: it transmits where the port sends, and receives
-- where the port does
abbrev pub member_of : SystemId → Attachment → Member
member_of system a = record {
  system = system;
  isid = a.isid;
  vid = a.vid;
  transmit = sends a.mode;
  receive = receives a.mode;
}

-- what a bridge knows of itself: its configuration, its neighbours and what is attached
abbrev pub local_of : BridgeView → Local
local_of v = record {
  config = record { id = v.id; source = v.source; vids = v.vids };
  neighbours = neighbours_from 1 v.ports;
  attached = map (member_of v.id.system) v.attached;
}

-- the bodies of its own LSPs, from number 0 on: the flags octet of level 1, and then the TLVs of the fragment, for each
-- that exists (ISO/IEC 10589, 9.8). Where a fragment doesn't exist, none behind it does
unfoldable pub bodies_of : BridgeView → List (Option (List ℕ))
bodies_of v = bodies_saying LEVEL_1 (fragments_from (local_of v) own_numbers 0)

-- ---- its own LSPs

abbrev pub own_of : BridgeView → Own
own_of v = record { system = v.id.system; bodies = bodies_of v; spent = v.spent }

-- the body of a number, if the bridge has one for it
abbrev pub body_at : BridgeView → ℕ → Option (List ℕ)
body_at v number = body_of_number (own_of v) number

-- the part of a bridge that flooding changes, and the bridge with that part changed
abbrev pub holding_of : BridgeView → Holding
holding_of v = record { db = v.database; own = own_of v }

abbrev pub with_holding : Holding → BridgeView → BridgeView
with_holding h v = record v { database = h.db; spent = h.own.spent }

-- what is held under an own number
abbrev pub own_entry : BridgeView → ℕ → Option Entry
own_entry v number = get v.database (own_number v.id.system number)

-- unless its sequence numbers are spent, each own LSP of a bridge is alive and says what the bridge has to say in it,
-- or isn't live where it has nothing to say. And whatever became of them, number 0 lists each neighbour at a port of
-- its own, and the others list none
pub record IsOwnLspCurrent (v : BridgeView) : Type 0 where
  pub current : AreCurrent (holding_of v)
  pub text : HasPorts (content_in (tlvs_of_body (body_in (own_entry v 0))))
  pub others : (number : ℕ) → 1 ≤ number → number < own_numbers
      → neighbours_in (tlvs_of_body (body_in (own_entry v number))) ≡ []

-- after each of its own LSPs began above the number of this list that has its place
abbrev pub after_begin : List ℕ → BridgeView → BridgeView
after_begin last v = with_holding (started_all last 0 (holding_of v)) v

-- a bridge after its own LSPs were brought up to its content: it originates those that aren't live or say something
-- else, and purges those in which it has nothing to say. One whose sequence numbers are spent does neither
unfoldable pub originated_if_changed : BridgeView → BridgeView
originated_if_changed v = with_holding (settled (up_ports v) (holding_of v)) v

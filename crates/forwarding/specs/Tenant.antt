-- What becomes of a customer's frame, and of a backbone frame that carries one (IEEE 802.1Q, 8.6 to 8.8; IEEE 802.1ah,
-- 25; IEEE 802.1aq).
use Rattle.std.specs.Prelude.{ℕ, ◌%◌, List, [], ◌∷◌, map, Bool, true, false, not, ◌&&◌, ◌==◌, Option, Some, None, slice_index, if◌then◌else◌}
use Rattle.spb_types.specs.Address.{group_address}
use Rattle.spb_types.specs.Bytes.{mac_at, u24_at}
use Rattle.spb_types.specs.Tables.{unicast_in, group_in}
use Rattle.spb_types.specs.declared.address.Mac.{Mac}
use Rattle.spb_types.specs.declared.service.Attachment.{Attachment}
use Rattle.spb_types.specs.declared.service.Isid.{Isid}
use Rattle.spb_types.specs.declared.service.Vid.{Vid}
use Rattle.spb_types.specs.declared.tables.Tables.{Tables}
use Rattle.itag_frames.specs.declared.frame.Backbone.{Backbone}
use Rattle.itag_frames.specs.Backbone.{backbone_bytes}
use Rattle.customer_learning.specs.Known.{Addresses, same_mac, place_in, with_learned}
use Rattle.customer_learning.specs.declared.place.Place.{Place}
use Rattle.customer_learning.specs.declared.place.Place.TheVariants as place
use Rattle.spb_types.specs.declared.drop_reason.DropReason.{DropReason}
use Rattle.spb_types.specs.declared.drop_reason.DropReason.TheVariants as reason
use Rattle.forwarding.specs.declared.moved.Moved.{Moved}
use Rattle.forwarding.specs.declared.going.Going.{Going}
use Rattle.forwarding.specs.declared.going.Going.TheVariants as going
use Rattle.forwarding.specs.declared.step.Step.{Step}
use Rattle.forwarding.specs.declared.step.Step.TheVariants as step
use Rattle.forwarding.specs.declared.tenant.Tenant.{Tenant}
use Rattle.forwarding.specs.Ports.{attachment_of, receiving_ports, is_mute, is_served, ports_in, is_way, but_for}

-- a group address has the lowest bit of its first byte set (IEEE 802, the I/G bit)
abbrev pub is_group : Mac → Bool
is_group mac = slice_index mac.bytes 0 % 2 == 1

-- the addresses that a customer's frame begins with (IEEE 802.3, 3.1.1)
abbrev pub to_of : List ℕ → Mac
to_of frame = mac_at frame 0

abbrev pub from_of : List ℕ → Mac
from_of frame = mac_at frame 6

-- the frame at each of these ports, in order
abbrev pub each_with : List ℕ → List ℕ → List (ℕ × List ℕ)
each_with frame ports = map (λ p. (p, frame)) ports

abbrev pub nothing : Moved
nothing = record { wire = []; left = []; dropped = None }

abbrev pub dropped_for : DropReason → Moved
dropped_for r = record { wire = []; left = []; dropped = Some r }

-- ---- learning (IEEE 802.1Q, 8.7)

-- where the source of a frame is, is learned, unless it is a group address
abbrev pub with_source : Place → Isid → List ℕ → Addresses → Addresses
with_source place isid frame learned =
    if is_group (from_of frame) then learned else with_learned learned isid (from_of frame) place

-- where a frame to an address goes, as learned: everywhere, where that is a group address or isn't known
abbrev pub going_by : Option Place → Going
going_by None = going.Everywhere
going_by (Some (place.Local port)) = going.AtPort port
going_by (Some (place.Remote mac)) = going.Behind mac

abbrev pub going_of : Addresses → Isid → Mac → Going
going_of learned isid da = if is_group da then going.Everywhere else going_by (place_in learned isid da)

-- ---- a customer's frame that enters at a customer port

-- it is sent in a backbone frame to this address, at these ports
abbrev pub sent_to : Tenant → Attachment → List ℕ → Mac → List ℕ → List (ℕ × List ℕ)
sent_to t a frame da ports = each_with (backbone_bytes da t.me a.vid a.isid frame) ports

-- towards a bridge: at the port towards it, and dropped where there is none
abbrev pub sent_towards : Tenant → Attachment → List ℕ → Mac → Option ℕ → Moved
sent_towards t a frame da None = dropped_for reason.NoWay
sent_towards t a frame da (Some p) = record { wire = sent_to t a frame da (p ∷ []); left = []; dropped = None }

abbrev pub group_of_service : Tenant → Attachment → Mac
group_of_service t a = group_address t.source.value a.isid.value

-- everywhere: at the other ports of the I-SID, and to the group address of the own source and the I-SID
abbrev pub flooded : Tenant → Tables → Attachment → List ℕ → Moved
flooded t tables a frame = record {
  wire = sent_to t a frame (group_of_service t a) (ports_in (group_in tables.group a.vid (group_of_service t a)));
  left = each_with frame (but_for a.port (receiving_ports a.isid t.attached));
  dropped = None;
}

-- a port, unless it doesn't receive
abbrev pub unless_mute : Tenant → ℕ → List ℕ
unless_mute t q = if is_mute q t.attached then [] else q ∷ []

-- never at the port where it entered, nor at one that doesn't receive
abbrev pub entered_going : Tenant → Tables → Attachment → List ℕ → Going → Moved
entered_going t tables a frame going.Everywhere = flooded t tables a frame
entered_going t tables a frame (going.AtPort q) =
    record { wire = []; left = each_with frame (but_for a.port (unless_mute t q)); dropped = None }
entered_going t tables a frame (going.Behind m) = sent_towards t a frame m (unicast_in tables.unicast a.vid m)

abbrev pub entered : Tenant → Tables → Attachment → List ℕ → Moved
entered t tables a frame = entered_going t tables a frame (going_of t.learned a.isid (to_of frame))

abbrev pub learned_at_entry : Tenant → List ℕ → Option Attachment → Addresses
learned_at_entry t frame None = t.learned
learned_at_entry t frame (Some a) = with_source (place.Local a.port) a.isid frame t.learned

-- the bridge after the frame: it has learned the source at the port where the frame entered
abbrev pub after_customer : Tenant → ℕ → List ℕ → Tenant
after_customer t port frame = record t { learned = learned_at_entry t frame (attachment_of port t.attached) }

abbrev pub entered_by : Tenant → Tables → List ℕ → Option Attachment → Moved
entered_by t tables frame None = nothing
entered_by t tables frame (Some a) = entered t tables a frame

-- and what is sent and leaves: it is looked up once the source is learned
abbrev pub of_customer : Tenant → Tables → ℕ → List ℕ → Moved
of_customer t tables port frame =
    entered_by (after_customer t port frame) tables frame (attachment_of port t.attached)

-- ---- a backbone frame that comes in at a backbone port

-- its five parts
pub record Carried : Type 0 where
  pub da : Mac
  pub sa : Mac
  pub vid : Vid
  pub isid : Isid
  pub customer : List ℕ

abbrev pub parts : Backbone → Carried
parts b = record { da = b.da; sa = b.sa; vid = b.vid; isid = b.isid; customer = b.customer.now }

-- to another bridge: onward to it, and dropped where no port leads there, or only the one at which the frame came
abbrev pub way_on : ℕ → Option ℕ → Step
way_on port None = step.Stopped reason.NoWay
way_on port (Some p) = if p == port then step.Stopped reason.NoWay else step.Onward p

-- whether a group address is that of another I-SID
abbrev pub is_of_another : Mac → Isid → Bool
is_of_another da isid = is_group da && not (u24_at da.bytes 3 == isid.value)

-- in this order: the ingress check; the I-SID of a group address against that of the frame; the own address; a group
-- address; another bridge's
abbrev pub step_of : Tenant → Tables → ℕ → Carried → Step
step_of t tables port f =
    if not (is_way port (unicast_in tables.unicast f.vid f.sa)) then step.Stopped reason.Ingress
    else (if is_of_another f.da f.isid then step.Stopped reason.Mismatch
    else (if same_mac f.da t.me then step.Here
    else (if is_group f.da then step.Spread (group_in tables.group f.vid f.da)
    else way_on port (unicast_in tables.unicast f.vid f.da))))

abbrev pub is_delivered : Step → Bool
is_delivered (step.Stopped r) = false
is_delivered step.Here = true
is_delivered (step.Onward p) = false
is_delivered (step.Spread ports) = true

-- the ports at which it is relayed unchanged, never the one at which it came
abbrev pub relayed_at : ℕ → Step → List ℕ
relayed_at port (step.Stopped r) = []
relayed_at port step.Here = []
relayed_at port (step.Onward p) = p ∷ []
relayed_at port (step.Spread ports) = but_for port (ports_in ports)

abbrev pub dropped_by : Step → Option DropReason
dropped_by (step.Stopped r) = Some r
dropped_by step.Here = None
dropped_by (step.Onward p) = None
dropped_by (step.Spread ports) = None

-- whether it is taken up: it is delivered, and some port is attached to its I-SID in its VID
abbrev pub is_taken : Bool → Tenant → Carried → Bool
is_taken here t f = here && is_served f.isid f.vid t.attached

-- then the bridge learns that the customer's source is behind the frame's
abbrev pub after_delivery : Bool → Tenant → Carried → Tenant
after_delivery taken t f = record t {
  learned = if taken then with_source (place.Remote f.sa) f.isid f.customer t.learned else t.learned;
}

-- and the customer's frame leaves at this bridge's customer ports that receive
abbrev pub delivered_going : Tenant → Carried → Going → List (ℕ × List ℕ)
delivered_going t f going.Everywhere = each_with f.customer (receiving_ports f.isid t.attached)
delivered_going t f (going.AtPort q) = each_with f.customer (unless_mute t q)
delivered_going t f (going.Behind m) = []

abbrev pub delivered : Tenant → Carried → List (ℕ × List ℕ)
delivered t f = delivered_going t f (going_of t.learned f.isid (to_of f.customer))

abbrev pub left_of : Bool → Tenant → Carried → List (ℕ × List ℕ)
left_of taken t f = if taken then delivered (after_delivery taken t f) f else []

-- whether a frame that came in at a port is taken up
abbrev pub is_received : Tenant → Tables → ℕ → Carried → Bool
is_received t tables port f = is_taken (is_delivered (step_of t tables port f)) t f

abbrev pub after_backbone : Tenant → Tables → ℕ → Carried → Tenant
after_backbone t tables port f = after_delivery (is_received t tables port f) t f

-- the frame whose five parts these are is relayed as it stands
abbrev pub of_backbone : Tenant → Tables → ℕ → Carried → List ℕ → Moved
of_backbone t tables port f whole = record {
  wire = each_with whole (relayed_at port (step_of t tables port f));
  left = left_of (is_received t tables port f) t f;
  dropped = dropped_by (step_of t tables port f);
}

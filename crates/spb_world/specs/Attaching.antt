-- Customer ports: why one can't be attached to a service, or detached, and what is attached after an accepted command
-- (IEEE 802.1ah, 25.10).
use Rattle.std.specs.Prelude.{ℕ, List, ◌∷◌, ◌++◌, length, map, filter, Bool, not, ◌&&◌, ◌==◌, nat_le, nat_lt, Option, is_some}
use Rattle.std.specs.List.{AllByRecursion, list_any}
use Rattle.spb_types.specs.Service.{sends}
use Rattle.spb_types.specs.declared.limits.TheConstants.{MOST_CUSTOMER_PORTS, MOST_ISIDS}
use Rattle.spb_types.specs.declared.service.Attachment.{Attachment}
use Rattle.bridge_api.specs.Config.{different}
use Rattle.spb_world.specs.declared.reason.Reason.{Reason}
use Rattle.spb_world.specs.declared.reason.Reason.TheVariants.{NoSuchName, Range, TooMany, Attached, NotAttached, ReceiveOnly}
use Rattle.spb_world.specs.Reason.{reason_unless, ◌or◌}
use Rattle.spb_world.specs.World.{World, Services, Attachments, vid_of_isid, attached_at, IsAttachedIn, AreAtTwoPorts}

-- ---- the tests

-- the service of an I-SID is declared
abbrev pub is_declared_isid : Services → ℕ → Bool
is_declared_isid services isid = is_some (vid_of_isid services isid)

-- the number of a customer port
unfoldable pub is_customer_port : ℕ → Bool
is_customer_port port = nat_le 1 port && nat_le port MOST_CUSTOMER_PORTS

-- a customer's frame has two addresses and a type, and is no jumbo (IEEE 802.3, 3.1.1)
unfoldable pub is_customer_frame : List ℕ → Bool
is_customer_frame bytes = nat_le 14 (length bytes) && nat_le (length bytes) 2000

-- this customer port of the bridge at place i is attached
abbrev pub is_attached : Attachments → ℕ → ℕ → Bool
is_attached xs i port = list_any (λ x. (x.0 == i) && (x.1.port == port)) xs

-- the different I-SIDs of what is attached to a bridge, and those with one more
abbrev pub isids_of : List Attachment → List ℕ
isids_of attached = map (λ a. a.isid.value) attached

abbrev pub different_isids : List Attachment → List ℕ
different_isids attached = different (isids_of attached)

abbrev pub isids_with : List Attachment → ℕ → List ℕ
isids_with attached isid = different (isid ∷ isids_of attached)

-- they aren't too many
unfoldable pub has_isid_room : List Attachment → ℕ → Bool
has_isid_room attached isid = nat_le (length (isids_with attached isid)) MOST_ISIDS

-- ---- why a command is refused

-- a customer port of the bridge at place i can't be attached to the service of an I-SID
unfoldable pub attach_refusal : World → ℕ → ℕ → ℕ → Option Reason
attach_refusal w i port isid = reason_unless (is_declared_isid w.services isid) NoSuchName
    or reason_unless (is_customer_port port) Range or reason_unless (has_isid_room (attached_at w i) isid) TooMany
    or reason_unless (not (is_attached w.attached i port)) Attached

-- a customer port of the bridge at place i can't be detached
unfoldable pub detach_refusal : World → ℕ → ℕ → Option Reason
detach_refusal w i port = reason_unless (is_customer_port port) Range
    or reason_unless (is_attached w.attached i port) NotAttached

-- whether what is attached at a customer port of the bridge at place i sends
abbrev pub is_sending : Attachments → ℕ → ℕ → Bool
is_sending xs i port = list_any (λ x. (x.0 == i) && ((x.1.port == port) && sends x.1.mode)) xs

-- a customer's frame can't enter at a customer port of the bridge at place i
unfoldable pub entry_refusal : World → ℕ → ℕ → List ℕ → Option Reason
entry_refusal w i port bytes = reason_unless (is_customer_port port && is_customer_frame bytes) Range
    or reason_unless (is_attached w.attached i port) NotAttached
    or reason_unless (is_sending w.attached i port) ReceiveOnly

-- ---- what an accepted command makes

-- what can be attached besides what is: it is at a customer port of a declared bridge, where nothing is attached, and
-- in a declared service
pub record IsNewAttachment (w : World) (x : ℕ × Attachment) : Type 0 where
  pub attached : IsAttachedIn w.bridges w.services x
  pub apart : AllByRecursion (λ y. AreAtTwoPorts y x) w.attached

-- one more, at the bridge at place i: behind what is attached at this bridge and at those before it
abbrev pub with_one_at : ℕ → Attachment → Attachments → Attachments
with_one_at i a xs = filter (λ x. nat_le x.0 i) xs ++ (i, a) ∷ filter (λ x. nat_lt i x.0) xs

unfoldable pub with_attachment_at : World → ℕ → Attachment → World
with_attachment_at w i a = record w { attached = with_one_at i a w.attached }

-- what is attached isn't at this customer port of the bridge at place i
abbrev pub is_elsewhere : ℕ → ℕ → ℕ × Attachment → Bool
is_elsewhere i port x = not ((x.0 == i) && (x.1.port == port))

-- nothing at this customer port of the bridge at place i
unfoldable pub without_attachment_at : World → ℕ → ℕ → World
without_attachment_at w i port = record w { attached = filter (is_elsewhere i port) w.attached }

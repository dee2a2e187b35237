-- Service instances don't mix: what of a customer's frame stays true wherever it goes.
use Rattle.std.specs.Prelude.{◌≡◌, ◌≢◌, ℕ, List, [], ◌∷◌, ◌⊎◌, Some}
use Rattle.std.specs.List.{AllByRecursion}
use Rattle.spb_types.specs.Tables.{IsIngress}
use Rattle.spb_types.specs.declared.address.Mac.{Mac}
use Rattle.spb_types.specs.declared.service.Attachment.{Attachment}
use Rattle.spb_types.specs.declared.service.Isid.{Isid}
use Rattle.spb_types.specs.declared.tables.Tables.{Tables}
use Rattle.itag_frames.specs.Backbone.{backbone_bytes}
use Rattle.customer_learning.specs.Known.{place_in}
use Rattle.customer_learning.specs.declared.place.Place.TheVariants.{Local}
use Rattle.spb_types.specs.declared.drop_reason.DropReason.TheVariants as reason
use Rattle.forwarding.specs.declared.tenant.Tenant.{Tenant}
use Rattle.forwarding.specs.Ports.{attachment_of}
use Rattle.forwarding.specs.Tenant.{Carried, after_backbone, after_customer, dropped_for, of_backbone, of_customer}

-- a customer port is attached to an I-SID
abbrev pub IsAttachedTo : List Attachment → ℕ → Isid → Type 0
IsAttachedTo [] port isid = ⊥
IsAttachedTo (a ∷ attached) port isid = ((a.port ≡ port) × (a.isid ≡ isid)) ⊎ IsAttachedTo attached port isid

-- an address of an I-SID that was learned at a customer port, was learned at one of the I-SID
abbrev pub HasPlaces : Tenant → Type 0
HasPlaces t = (isid : Isid) (mac : Mac) (port : ℕ) → place_in t.learned isid mac ≡ Some (Local port)
    → IsAttachedTo t.attached port isid

-- what leaves of a frame that entered in an I-SID leaves in this I-SID, at another port, byte for byte
abbrev pub LeavesInItsService : Type 0
LeavesInItsService = (t : Tenant) (tables : Tables) (port : ℕ) (frame : List ℕ) (a : Attachment)
    → attachment_of port t.attached ≡ Some a → HasPlaces (after_customer t port frame)
    → AllByRecursion (λ s. IsAttachedTo t.attached s.0 a.isid × (s.0 ≢ port) × (s.1 ≡ frame))
    (of_customer t tables port frame).left

-- what is sent of it carries this I-SID and the frame, byte for byte
abbrev pub SentInItsService : Type 0
SentInItsService = (t : Tenant) (tables : Tables) (port : ℕ) (frame : List ℕ) (a : Attachment)
    → attachment_of port t.attached ≡ Some a
    → AllByRecursion (λ s. (da : Mac) × (s.1 ≡ backbone_bytes da t.me a.vid a.isid frame))
    (of_customer t tables port frame).wire

-- what leaves of a backbone frame leaves in the I-SID that it carries: the customer's frame, byte for byte
abbrev pub DeliveredInItsService : Type 0
DeliveredInItsService = (t : Tenant) (tables : Tables) (port : ℕ) (f : Carried) (whole : List ℕ)
    → HasPlaces (after_backbone t tables port f)
    → AllByRecursion (λ s. IsAttachedTo t.attached s.0 f.isid × (s.1 ≡ f.customer))
    (of_backbone t tables port f whole).left

-- a frame that fails the ingress check is dropped, and changes nothing else
abbrev pub IngressFailureChangesNothing : Type 0
IngressFailureChangesNothing = (t : Tenant) (tables : Tables) (port : ℕ) (f : Carried) (whole : List ℕ)
    → (IsIngress tables.unicast f.vid f.sa port → ⊥)
    → (of_backbone t tables port f whole ≡ dropped_for reason.Ingress) × (after_backbone t tables port f ≡ t)

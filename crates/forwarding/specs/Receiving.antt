-- What leaves of a customer's frame leaves at ports that receive.
use Rattle.std.specs.Prelude.{◌≡◌, ℕ, List, [], ◌∷◌, ◌⊎◌, Some, true}
use Rattle.std.specs.List.{AllByRecursion}
use Rattle.spb_types.specs.Service.{receives}
use Rattle.spb_types.specs.declared.service.Attachment.{Attachment}
use Rattle.spb_types.specs.declared.service.Isid.{Isid}
use Rattle.spb_types.specs.declared.tables.Tables.{Tables}
use Rattle.forwarding.specs.declared.tenant.Tenant.{Tenant}
use Rattle.forwarding.specs.Laws.{HasPlaces}
use Rattle.forwarding.specs.Placed.{AreAttachedOnce}
use Rattle.forwarding.specs.Ports.{attachment_of}
use Rattle.forwarding.specs.Tenant.{Carried, after_backbone, after_customer, of_backbone, of_customer}

-- a customer port is attached to an I-SID and receives
abbrev pub IsReceivingTo : List Attachment → ℕ → Isid → Type 0
IsReceivingTo [] port isid = ⊥
IsReceivingTo (a ∷ attached) port isid =
    ((a.port ≡ port) × (a.isid ≡ isid) × (receives a.mode ≡ true)) ⊎ IsReceivingTo attached port isid

-- what leaves of a frame that entered in an I-SID leaves at ports of the I-SID that receive
abbrev pub LeavesWhereItIsReceived : Type 0
LeavesWhereItIsReceived = (t : Tenant) (tables : Tables) (port : ℕ) (frame : List ℕ) (a : Attachment)
    → attachment_of port t.attached ≡ Some a → AreAttachedOnce t.attached → HasPlaces (after_customer t port frame)
    → AllByRecursion (λ s. IsReceivingTo t.attached s.0 a.isid) (of_customer t tables port frame).left

-- and so does what leaves of a backbone frame
abbrev pub DeliveredWhereItIsReceived : Type 0
DeliveredWhereItIsReceived = (t : Tenant) (tables : Tables) (port : ℕ) (f : Carried) (whole : List ℕ)
    → AreAttachedOnce t.attached → HasPlaces (after_backbone t tables port f)
    → AllByRecursion (λ s. IsReceivingTo t.attached s.0 f.isid) (of_backbone t tables port f whole).left

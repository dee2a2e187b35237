-- What a bridge has learned at its customer ports was learned at ports of the service, and stays so.
use Rattle.std.specs.Prelude.{◌≡◌, ℕ, List, [], ◌∷◌, ◌++◌, ⊤}
use Rattle.std.specs.List.{AllByRecursion}
use Rattle.spb_types.specs.declared.service.Attachment.{Attachment}
use Rattle.spb_types.specs.declared.service.Isid.{Isid}
use Rattle.spb_types.specs.declared.tables.Tables.{Tables}
use Rattle.customer_learning.specs.Known.{known_in}
use Rattle.customer_learning.specs.declared.place.Place.{Place}
use Rattle.customer_learning.specs.declared.place.Place.TheVariants.{Local, Remote}
use Rattle.forwarding.specs.declared.tenant.Tenant.{Tenant}
use Rattle.forwarding.specs.Tenant.{Carried, after_backbone, after_customer}
use Rattle.forwarding.specs.Detaching.{after_detach}
use Rattle.forwarding.specs.Laws.{IsAttachedTo, HasPlaces}

-- a place that is a customer port is one of the I-SID
abbrev pub IsPlaceIn : List Attachment → Isid → Place → Type 0
IsPlaceIn attached isid (Local port) = IsAttachedTo attached port isid
IsPlaceIn attached isid (Remote mac) = ⊤

-- each address of an I-SID that was learned at a customer port was learned at one of the I-SID
abbrev pub ArePlaced : Tenant → Type 0
ArePlaced t = (isid : Isid) → AllByRecursion (λ e. IsPlaceIn t.attached isid e.1) (known_in t.learned isid)

-- so it is said of the place of each address that is looked up
abbrev pub PlacedIsFound : Type 0
PlacedIsFound = (t : Tenant) → ArePlaced t → HasPlaces t

-- and it stays so, whatever customer's frame enters, and whatever backbone frame comes in
abbrev pub EntryKeepsPlaces : Type 0
EntryKeepsPlaces = (t : Tenant) (port : ℕ) (frame : List ℕ) → ArePlaced t → ArePlaced (after_customer t port frame)

abbrev pub DeliveryKeepsPlaces : Type 0
DeliveryKeepsPlaces = (t : Tenant) (tables : Tables) (port : ℕ) (f : Carried)
    → ArePlaced t → ArePlaced (after_backbone t tables port f)

-- each customer port is attached to one I-SID
abbrev pub AreAttachedOnce : List Attachment → Type 0
AreAttachedOnce attached = (port : ℕ) (isid other : Isid)
    → IsAttachedTo attached port isid → IsAttachedTo attached port other → isid ≡ other

-- whichever port is attached, and whichever is detached
abbrev pub AttachingKeepsPlaces : Type 0
AttachingKeepsPlaces = (t : Tenant) (a : Attachment)
    → ArePlaced t → ArePlaced (record t { attached = t.attached ++ a ∷ [] })

abbrev pub DetachingKeepsPlaces : Type 0
DetachingKeepsPlaces = (t : Tenant) (port : ℕ)
    → AreAttachedOnce t.attached → ArePlaced t → ArePlaced (after_detach t port)

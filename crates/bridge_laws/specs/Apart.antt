-- Service instances don't mix at a bridge: what it carries, and what leaves at its customer ports, has entered in the
-- same I-SID, byte for byte.
use Rattle.std.specs.Prelude.{◌≡◌, ℕ, List, Some}
use Rattle.std.specs.List.{AllByRecursion}
use Rattle.spb_types.specs.declared.address.Mac.{Mac}
use Rattle.spb_types.specs.declared.service.Vid.{Vid}
use Rattle.spb_types.specs.declared.service.Isid.{Isid}
use Rattle.spb_types.specs.declared.service.Attachment.{Attachment}
use Rattle.forwarding.specs.Ports.{attachment_of}
use Rattle.forwarding.specs.Laws.{IsAttachedTo}
use Rattle.forwarding.specs.Placed.{ArePlaced}
use Rattle.bridge_api.specs.declared.config.BridgeConfig.{BridgeConfig}
use Rattle.bridge_api.specs.View.{BridgeView}
use Rattle.bridge_api.specs.Config.{configured}
use Rattle.bridge_api.specs.Customers.{tenant_of}
use Rattle.bridge_api.specs.Parsing.{parsed}
use Rattle.bridge_api.specs.Parsing as parsing
use Rattle.bridge_api.specs.Step.{Input, second, frame, carrier, metric, attach, detach, customer, step, sent, left_by}
use Rattle.bridge_api.specs.Laws.{IsInput, IsSoundView}

-- a backbone frame carries this customer's frame in this I-SID
pub record Carries (bytes : List ℕ) (isid : Isid) (f : List ℕ) : Type 0 where
  pub to : Mac
  pub from : Mac
  pub vid : Vid
  pub carried : parsed bytes ≡ parsing.customer to from vid isid f

-- this customer's frame enters at this customer port, which is attached to this I-SID
pub record Enters (v : BridgeView) (port : ℕ) (bytes : List ℕ) (isid : Isid) (f : List ℕ) : Type 0 where
  pub attachment : Attachment
  pub attached : attachment_of port v.attached ≡ Some attachment
  pub service : attachment.isid ≡ isid
  pub entered : bytes ≡ f

-- what comes in brings this customer's frame in this I-SID
abbrev pub Brings : BridgeView → Input → Isid → List ℕ → Type 0
Brings v second isid f = ⊥
Brings v (frame p bytes) isid f = Carries bytes isid f
Brings v (carrier p on) isid f = ⊥
Brings v (metric p m) isid f = ⊥
Brings v (attach a) isid f = ⊥
Brings v (detach p) isid f = ⊥
Brings v (customer p bytes) isid f = Enters v p bytes isid f

-- ---- for any word that says of a customer's frame that it has entered in an I-SID

-- a backbone frame, if it carries a customer's frame in an I-SID, carries one that has entered in it
abbrev pub CarriesEntered : (Isid → List ℕ → Type 0) → List ℕ → Type 0
CarriesEntered HasEntered bytes = (da sa : Mac) (vid : Vid) (isid : Isid) (f : List ℕ)
    → parsed bytes ≡ parsing.customer da sa vid isid f → HasEntered isid f

-- a customer's frame leaves at a port that is attached to an I-SID in which it has entered
pub record LeavesEntered
    (HasEntered : Isid → List ℕ → Type 0) (v : BridgeView) (port : ℕ) (bytes : List ℕ) : Type 0 where
  pub isid : Isid
  pub attached : IsAttachedTo v.attached port isid
  pub entered : HasEntered isid bytes

-- ---- at a bridge nothing but what comes in is sent and leaves

abbrev pub SentHasEntered : Type 0
SentHasEntered = (input : Input) (v : BridgeView) → IsInput v input → IsSoundView v
    → AllByRecursion (λ s. CarriesEntered (Brings v input) s.1) (sent input v)

-- where each address that was learned at a customer port was learned at one of its service
abbrev pub LeftHasEntered : Type 0
LeftHasEntered = (input : Input) (v : BridgeView) → ArePlaced (tenant_of v)
    → AllByRecursion (λ s. LeavesEntered (Brings v input) v s.0 s.1) (left_by input v)

-- so it is at a configured bridge, and stays so
abbrev pub ConfiguredIsPlaced : Type 0
ConfiguredIsPlaced = (c : BridgeConfig) → ArePlaced (tenant_of (configured c))

abbrev pub StepsKeepPlaces : Type 0
StepsKeepPlaces = (input : Input) (v : BridgeView) → IsSoundView v → ArePlaced (tenant_of v)
    → ArePlaced (tenant_of (step input v))

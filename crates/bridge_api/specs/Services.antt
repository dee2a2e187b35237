-- The customer ports of a bridge and the services that they are attached to (IEEE 802.1ah, 25.10).
use Rattle.std.specs.Prelude.{◌≡◌, ℕ, ◌≤◌, List, [], ◌∷◌, ◌++◌, length, map, true, Contains}
use Rattle.std.specs.List.{AllByRecursion}
use Rattle.spb_types.specs.Service.{sends}
use Rattle.spb_types.specs.declared.service.Mode.{Mode}
use Rattle.spb_types.specs.declared.service.Vid.{Vid}
use Rattle.spb_types.specs.declared.service.Isid.{Isid}
use Rattle.spb_types.specs.declared.service.Attachment.{Attachment}
use Rattle.spb_types.specs.declared.limits.TheConstants.{MOST_ISIDS}
pub use Rattle.forwarding.specs.Ports.{is_at_other_port, without_customer_port}
use Rattle.forwarding.specs.Detaching.{after_detach}
use Rattle.bridge_api.specs.View.{BridgeView}
use Rattle.bridge_api.specs.Customers.{tenant_of, with_learned}
use Rattle.bridge_api.specs.Own.{originated_if_changed}
use Rattle.bridge_api.specs.Config.{IsAttachment, AgreesWith, different, vids_of}

abbrev pub attachment_of : ℕ → Isid → Vid → Mode → Attachment
attachment_of port isid vid mode = record { port = port; isid = isid; vid = vid; mode = mode }

-- ---- what can be attached and detached

-- a customer port is attached
abbrev pub IsAttachedPort : BridgeView → ℕ → Type 0
IsAttachedPort v port = (a : Attachment) × Contains v.attached a × (a.port ≡ port)

-- a customer port is attached, and sends
abbrev pub IsSendingPort : BridgeView → ℕ → Type 0
IsSendingPort v port = (a : Attachment) × Contains v.attached a × (a.port ≡ port) × (sends a.mode ≡ true)

-- a customer port can be attached so: to an I-SID in a VID of the bridge, where the port is free, the other ports of
-- the I-SID are in that VID, and there are at most 960 I-SIDs afterwards
pub record CanAttach (v : BridgeView) (a : Attachment) : Type 0 where
  pub attachment : IsAttachment (vids_of v.vids) a
  pub agrees : AllByRecursion (λ other. AgreesWith other a) v.attached
  pub few_isids : length (different (map (λ x. x.isid.value) (v.attached ++ a ∷ []))) ≤ MOST_ISIDS

-- ---- what becomes of a bridge

-- a bridge to which this is attached, and which says so in its own LSPs
unfoldable pub with_attached : List Attachment → BridgeView → BridgeView
with_attached attached v = originated_if_changed (record v { attached = attached })

-- a bridge after a customer port was attached
abbrev pub with_attachment : Attachment → BridgeView → BridgeView
with_attachment a v = with_attached (v.attached ++ a ∷ []) v

-- a bridge that forgot what it has learned at a customer port, and, where this is the last one of its I-SID, all that
-- it has learned in the I-SID (IEEE 802.1Q, 8.7)
unfoldable pub with_port_forgotten : ℕ → BridgeView → BridgeView
with_port_forgotten port v = with_learned (after_detach (tenant_of v) port).learned v

-- a bridge after the customer port of this number was detached
abbrev pub without_attachment : ℕ → BridgeView → BridgeView
without_attachment port v = with_attached (without_customer_port port v.attached) (with_port_forgotten port v)

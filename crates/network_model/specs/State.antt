-- The state of a network.
use Rattle.std.specs.Prelude.{◌≡◌, length, ℕ, ◌+◌, List, [], ◌∷◌, Bool, true, false, ◌&&◌, ◌==◌, ◌%◌, Option, Some, None, slice_get, if◌then◌else◌}
use Rattle.std.specs.List.{slice_index_or}
use Rattle.link_model.specs.Lane.{Frame}
use Rattle.spb_types.specs.declared.link.Dir.{Dir}
use Rattle.bridge_api.specs.declared.kind.Kind.{Kind}
use Rattle.bridge_api.specs.declared.kind.Kind.TheVariants as kind
use Rattle.bridge_api.specs.View.{BridgeView, IsPort}
use Rattle.network_model.specs.declared.answer.Out.{Out}
use Rattle.network_model.specs.declared.kind_rule.KindRule.{KindRule}
use Rattle.network_model.specs.declared.kind_rule.KindRule.TheVariants as rule
use Rattle.spb_world.specs.declared.declaration.DeclaredLink.{DeclaredLink}
use Rattle.link_model.specs.declared.lanes.LinkLanes.{LinkLanes}
use Rattle.spb_world.specs.World.{World, things_of}
use Rattle.link_model.specs.Lanes.{lane_of, changed_frames}
use Rattle.spb_world.specs.declared.declaration.DeclaredBridge.{DeclaredBridge}
use Rattle.spb_types.specs.declared.service.Attachment.{Attachment}
use Rattle.bridge_api.specs.Services.{CanAttach, IsAttachedPort, IsSendingPort}

-- a box of the rack: its kind, and whether it is blank
pub record Spare : Type 0 where
  pub kind : Kind
  pub blank : Bool

-- a network: by which rule bridges take boxes, the rack that is left, what is declared, the bridges in order of
-- declaration, the lanes of the links in order of declaration, the customers' frames that left in the present command,
-- the rounds and deliveries that were asked for, how many commands were accepted, and the seconds that each bridge had
-- since it was declared, under its name: a restart doesn't begin them anew
pub record State : Type 0 where
  pub rule : KindRule
  pub rack : List Spare
  pub world : World
  pub views : List BridgeView
  pub lanes : List LinkLanes
  pub outs : List Out
  pub rounds : ℕ
  pub drained : ℕ
  pub accepted : ℕ
  pub ticks : List ℕ

-- the links, in order of declaration
abbrev pub links_of : State → List DeclaredLink
links_of s = things_of s.world.links

-- the frames on their way in a direction of the link at place k
abbrev pub lane_at : State → ℕ → Dir → List Frame
lane_at s k dir = lane_of s.lanes k dir

-- the frames in that lane changed
abbrev pub with_frames : (List Frame → List Frame) → State → ℕ → Dir → State
with_frames f s k dir = record s { lanes = changed_frames f s.lanes k dir }

-- the seconds that the bridge at place i had
abbrev pub tick_at : State → ℕ → ℕ
tick_at s i = slice_index_or s.ticks i 0

-- the kind of box that the bridge at place i takes
abbrev pub kind_at : KindRule → ℕ → Kind
kind_at rule.Plain i = kind.Plain
kind_at rule.Swift i = kind.Swift
kind_at rule.Mixed i = if i % 2 == 0 then kind.Plain else kind.Swift

abbrev pub same_kind : Kind → Kind → Bool
same_kind kind.Plain kind.Plain = true
same_kind kind.Plain kind.Swift = false
same_kind kind.Swift kind.Plain = false
same_kind kind.Swift kind.Swift = true

-- whether a box of the rack is a blank one of a kind
abbrev pub serves : Kind → Spare → Bool
serves wanted box = box.blank && same_kind box.kind wanted

-- the first such box, over the rack from place k on
abbrev pub box_from : ℕ → Kind → List Spare → Option ℕ
box_from k wanted [] = None
box_from k wanted (box ∷ boxes) = if serves wanted box then Some k else box_from (k + 1) wanted boxes

-- the next blank box of a kind, by place in the rack
unfoldable pub next_box : Kind → List Spare → Option ℕ
next_box wanted rack = box_from 0 wanted rack

-- the bridges have the ports that were declared
pub record HasPorts (v : BridgeView) (b : DeclaredBridge) : Type 0 where
  pub ports : length v.ports ≡ b.ports

-- there is a bridge for each that was declared, with its ports, and there are lanes for each link
pub record Fits (s : State) : Type 0 where
  pub bridges : length s.views ≡ length s.world.bridges
  pub lanes : length s.lanes ≡ length s.world.links
  pub ports : (i : ℕ) (v : BridgeView) (b : DeclaredBridge) → slice_get s.views i ≡ Some v
      → slice_get (things_of s.world.bridges) i ≡ Some b → HasPorts v b

-- the bridge at place i has this port, if there is such a bridge
abbrev pub IsPortAt : List BridgeView → ℕ → ℕ → Type 0
IsPortAt views i port = (v : BridgeView) → slice_get views i ≡ Some v → IsPort v port

-- this can be attached to the bridge at place i, if there is such a bridge
abbrev pub CanAttachAt : List BridgeView → ℕ → Attachment → Type 0
CanAttachAt views i a = (v : BridgeView) → slice_get views i ≡ Some v → CanAttach v a

-- this customer port of the bridge at place i is attached, if there is such a bridge
abbrev pub IsAttachedAt : List BridgeView → ℕ → ℕ → Type 0
IsAttachedAt views i port = (v : BridgeView) → slice_get views i ≡ Some v → IsAttachedPort v port

-- and sends
abbrev pub IsSendingAt : List BridgeView → ℕ → ℕ → Type 0
IsSendingAt views i port = (v : BridgeView) → slice_get views i ≡ Some v → IsSendingPort v port

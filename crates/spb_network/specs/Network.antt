-- What a network of boxes is the state of.
use Rattle.std.specs.Prelude.{◌≡◌, ℕ, List, map, true, false, Some, slice_get}
use Rattle.std.specs.List.{AllByRecursion}
use Rattle.bridge_api.specs.Shown.{Shown, views_of}
use Rattle.spb_network.specs.declared.network.NetworkOf.{NetworkOf}
use Rattle.network_model.specs.State.{Spare, State, Fits}

module _ {B : Type 0} (shown : B → Shown) where
  -- the box as one of the rack
  abbrev pub spare : B → Spare
  spare b = record { kind = (shown b).kind; blank = (shown b).blank }

  -- the state that a network is in: its boxes show the bridges
  abbrev pub state_of : NetworkOf B → State
  state_of n = record {
    rule = n.rule;
    rack = map spare n.rack.items;
    world = n.world;
    views = views_of shown n.boxes.items;
    lanes = n.lanes;
    outs = n.outs.items;
    rounds = n.rounds;
    drained = n.drained;
    accepted = n.accepted;
    ticks = n.ticks.items;
  }

-- the network's boxes are no blanks
abbrev pub AreConfigured : {B : Type 0} → (B → Shown) → List B → Type 0
AreConfigured shown boxes = AllByRecursion (λ b. (shown b).blank ≡ false) boxes

-- the boxes are made, and the state has its shape
pub record IsInOrder {B : Type 0} (shown : B → Shown) (n : NetworkOf B) : Type 0 where
  pub made : AreConfigured shown n.boxes.items
  pub fits : Fits (state_of shown n)

-- the box at a place is blank
abbrev pub IsBlankAt : {B : Type 0} → (B → Shown) → List B → ℕ → Type 0
IsBlankAt {B} shown boxes place = (b : B) → slice_get boxes place ≡ Some b → (shown b).blank ≡ true

-- Why a command that names bridges or links is refused, by what is declared alone.
use Rattle.std.specs.Prelude.{ℕ, List, Bool, not, ◌&&◌, nat_le, Option, Some, None, is_some}
use Rattle.spb_types.specs.declared.limits.TheConstants.{GREATEST_METRIC}
use Rattle.spb_world.specs.declared.reason.Reason.{Reason}
use Rattle.spb_world.specs.declared.reason.Reason.TheVariants.{NoSuchName, Range, AlreadyUp, AlreadyDown}
use Rattle.spb_world.specs.Reason.{reason_unless}
use Rattle.spb_world.specs.World.{World, things_of, place_of}
use Rattle.spb_world.specs.Links.{is_live}
use Rattle.spb_world.specs.Declaring.{has_vid, link_refusal}
use Rattle.spb_world.specs.Attaching.{attach_refusal, detach_refusal, entry_refusal}

-- of a link between two bridges, by the places that were found for their names
abbrev pub link_refusal_at_found : World → List ℕ → Option ℕ → ℕ → Option ℕ → ℕ → ℕ → Option Reason
link_refusal_at_found w name None port_a b port_b cost = Some NoSuchName
link_refusal_at_found w name (Some i) port_a None port_b cost = Some NoSuchName
link_refusal_at_found w name (Some i) port_a (Some j) port_b cost = link_refusal w name i port_a j port_b cost

unfoldable pub named_link_refusal : World → List ℕ → List ℕ → ℕ → List ℕ → ℕ → ℕ → Option Reason
named_link_refusal w name a port_a b port_b cost =
    link_refusal_at_found w name (place_of a w.bridges) port_a (place_of b w.bridges) port_b cost

-- of what names a bridge
unfoldable pub unnamed_refusal : World → List ℕ → Option Reason
unnamed_refusal w name = reason_unless (is_some (place_of name w.bridges)) NoSuchName

-- of what names a thing, by the place that was found for its name
abbrev pub refusal_at_found : (ℕ → Option Reason) → Option ℕ → Option Reason
refusal_at_found refusal None = Some NoSuchName
refusal_at_found refusal (Some k) = refusal k

abbrev pub linked_refusal : World → (ℕ → Option Reason) → List ℕ → Option Reason
linked_refusal w refusal name = refusal_at_found refusal (place_of name w.links)

-- the link goes down
unfoldable pub down_refusal : World → List ℕ → Option Reason
down_refusal w name = linked_refusal w (λ k. reason_unless (is_live (things_of w.links) k) AlreadyDown) name

-- the link comes up
unfoldable pub up_refusal : World → List ℕ → Option Reason
up_refusal w name = linked_refusal w (λ k. reason_unless (not (is_live (things_of w.links) k)) AlreadyUp) name

-- an end of the link gets this metric
unfoldable pub metric_refusal : World → List ℕ → ℕ → Option Reason
metric_refusal w name m = linked_refusal w (λ k. reason_unless (nat_le 1 m && nat_le m GREATEST_METRIC) Range) name

-- a customer port of the bridge is attached to a service, or detached
unfoldable pub named_attach_refusal : World → List ℕ → ℕ → ℕ → Option Reason
named_attach_refusal w name port isid = refusal_at_found (λ i. attach_refusal w i port isid) (place_of name w.bridges)

unfoldable pub named_detach_refusal : World → List ℕ → ℕ → Option Reason
named_detach_refusal w name port = refusal_at_found (λ i. detach_refusal w i port) (place_of name w.bridges)

-- a customer's frame enters at a customer port of the bridge
unfoldable pub named_entry_refusal : World → List ℕ → ℕ → List ℕ → Option Reason
named_entry_refusal w name port bytes = refusal_at_found (λ i. entry_refusal w i port bytes) (place_of name w.bridges)

-- both bridges and the base VID of a number are declared
abbrev pub are_declared : World → List ℕ → List ℕ → ℕ → Bool
are_declared w from to vid =
    is_some (place_of from w.bridges) && is_some (place_of to w.bridges) && has_vid w.vids vid

-- the path between two bridges in a base VID
unfoldable pub path_refusal : World → List ℕ → List ℕ → ℕ → Option Reason
path_refusal w from to vid = reason_unless (are_declared w from to vid) NoSuchName

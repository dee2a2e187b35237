-- How a network finds whether its links are met, by the states of the ports alone; and which conditions of quiet hold.
use Rattle.std.specs.Prelude.{ℕ, List, ◌++◌, Bool, false, not, ◌&&◌, ◌||◌, slice_get}
use Rattle.std.specs.Option.{option_map_or}
use Rattle.std.specs.List.{list_all}
use Rattle.bridge_api.specs.View.{BridgeView, is_up_at}
use Rattle.spb_world.specs.declared.declaration.DeclaredLink.{DeclaredLink}
use Rattle.spb_world.specs.declared.declaration.LinkEnd.{LinkEnd}
use Rattle.network_model.specs.declared.conditions.Conditions.{Conditions}
use Rattle.network_model.specs.State.{State, links_of}
use Rattle.network_model.specs.Quiet.{holds_q1, holds_q2, holds_q3, unless_holds}

-- the port at an end of a link is Up
abbrev pub is_end_up : List BridgeView → LinkEnd → Bool
is_end_up views e = option_map_or (λ v. is_up_at v e.port) (slice_get views e.bridge) false

-- both ports of a link that is up are Up
abbrev pub is_link_up : List BridgeView → DeclaredLink → Bool
is_link_up views l = not l.live || (is_end_up views l.a && is_end_up views l.b)

abbrev pub are_links_up : State → Bool
are_links_up s = list_all (is_link_up s.views) (links_of s)

-- which conditions of quiet hold
abbrev pub conditions_of : State → Conditions
conditions_of s = record { links = holds_q1 s; lanes = holds_q2 s; flags = holds_q3 s }

-- the numbers of those that fail, in ascending order
abbrev pub numbers_of : Conditions → List ℕ
numbers_of c = unless_holds 1 c.links ++ unless_holds 2 c.lanes ++ unless_holds 3 c.flags

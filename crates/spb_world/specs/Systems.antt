-- The bridges by their system ids.
use Rattle.std.specs.Prelude.{ℕ, List, Option, position, slice_get}
use Rattle.std.specs.Option.{option_and_then}
use Rattle.std.specs.List.{filter_map}
use Rattle.spb_types.specs.Address.{same_system}
use Rattle.spb_types.specs.declared.address.SystemId.{SystemId}
use Rattle.spb_world.specs.World.{Bridges, names_of, things_of}

-- the place of the bridge of a system id, if it is declared
abbrev pub place_of_system : Bridges → SystemId → Option ℕ
place_of_system bridges x = position (λ b. same_system b.bridge.id.system x) (things_of bridges)

-- the name of the bridge of a system id, if it is declared
abbrev pub name_of_system : Bridges → SystemId → Option (List ℕ)
name_of_system bridges x = option_and_then (slice_get (names_of bridges)) (place_of_system bridges x)

-- the names of the bridges on a path, in order
abbrev pub names_on : Bridges → List SystemId → List (List ℕ)
names_on bridges path = filter_map (name_of_system bridges) path

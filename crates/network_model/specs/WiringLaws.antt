-- The law of wiring: what is wired is a graph, and the wired tables are the tables of that graph.
use Rattle.std.specs.Prelude.{ℕ}
use Rattle.spb_types.specs.Graph.{IsValid, IsValidFor}
use Rattle.spb_types.specs.declared.address.SystemId.{SystemId}
use Rattle.fdb_build.specs.Tables.{IsUnicastTable}
use Rattle.fdb_build.specs.Groups.{IsGroupTable}
use Rattle.spb_world.specs.World.{World, system_at, world_graph, wired_tables}
use Rattle.network_model.specs.State.{State}
use Rattle.network_model.specs.Sound.{IsSoundState}
use Rattle.network_model.specs.SoundLaws.{ForAllPlayed}

-- the wiring is a valid graph, and valid for each bridge; the tables that are wired for the bridge at a place are its
-- unicast table and its group table in that graph
pub record IsWired (w : World) : Type 0 where
  pub graph : IsValid (world_graph w)
  pub bridges : (me : SystemId) → IsValidFor (world_graph w) me
  pub unicast : (i : ℕ) → IsUnicastTable (world_graph w) (system_at w.bridges i) w.vids (wired_tables w i).unicast
  pub group : (i : ℕ) → IsGroupTable (world_graph w) (system_at w.bridges i) w.vids (wired_tables w i).group

-- so it is in every sound state
abbrev pub SoundIsWired : Type 0
SoundIsWired = (s : State) → IsSoundState s → IsWired s.world

-- and whatever commands were accepted
abbrev pub NetworksAreWired : Type 0
NetworksAreWired = ForAllPlayed (λ s. IsWired s.world)

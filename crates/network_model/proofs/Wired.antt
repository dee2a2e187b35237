-- What is wired is a graph, and the wired tables are the tables of that graph.
use Rattle.std.proofs.Common.{ℕ}
use Rattle.fdb_build.specs.Tables.{IsUnicastTable}
use Rattle.fdb_build.specs.Groups.{IsGroupTable}
use Rattle.fdb_build.proofs.TableLemmas.{rows_are_table}
use Rattle.fdb_build.proofs.GroupLemmas.{group_rows_are_table}
use Rattle.spb_world.specs.World.{World, Sound, system_at, world_graph, wired_tables}
use Rattle.network_model.specs.SoundLaws.{state_after}
use Rattle.network_model.specs.WiringLaws.{IsWired, SoundIsWired, NetworksAreWired}
use Rattle.spb_world.proofs.ValidLemmas.{valid, valid_for}
use Rattle.network_model.proofs.SoundPlay.{networks_are_sound}

unicast : (w : World) (i : ℕ) → Sound w → IsUnicastTable (world_graph w) (system_at w.bridges i) w.vids (wired_tables w i).unicast
unfolding wired_tables
unicast w i sound = rows_are_table (world_graph w) (system_at w.bridges i) w.vids (valid w sound) sound.plans

group : (w : World) (i : ℕ) → Sound w → IsGroupTable (world_graph w) (system_at w.bridges i) w.vids (wired_tables w i).group
unfolding wired_tables
group w i sound = group_rows_are_table (world_graph w) (system_at w.bridges i) w.vids (valid_for w (system_at w.bridges i) sound) sound.plans

wired : (w : World) → Sound w → IsWired w
wired w sound = record {
  graph = valid w sound;
  bridges = λ me. valid_for w me sound;
  unicast = λ i. unicast w i sound;
  group = λ i. group w i sound;
}

pub sound_is_wired : SoundIsWired
sound_is_wired s sound = wired s.world sound.world

pub networks_are_wired : NetworksAreWired
networks_are_wired scene = sound_is_wired (state_after scene) (networks_are_sound scene)

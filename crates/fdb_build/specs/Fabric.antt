-- A graph made ready for the tables of all its bridges.
use Rattle.std.specs.Prelude.{◌≡◌, ◌≢◌, ℕ, List, [], true}
use Rattle.spb_types.specs.Ect.{mask_of}
use Rattle.spb_types.specs.declared.graph.Graph.{Graph}
use Rattle.spb_types.specs.declared.service.VidPlan.{VidPlan}
use Rattle.ect_trees.specs.Forest.{ForestView, keeps}
use Rattle.fdb_build.specs.Making.{sent_at}
use Rattle.fdb_build.specs.declared.layout.Planned.{Planned}

-- a graph and the base VIDs of its bridges
pub record FabricView : Type 0 where
  pub graph : Graph
  pub vids : List VidPlan

-- the best paths from the bridge at a place are kept under the mask of the plan
abbrev pub KeepsFrom : ForestView → ℕ → Planned → Type 0
KeepsFrom f place p = keeps f place (mask_of p.plan.ect) ≡ true

-- they are so from each bridge that sends to a service of the plan
abbrev pub KeepsSenders : ForestView → Planned → Type 0
KeepsSenders f p = (place : ℕ) → sent_at p.services place ≢ [] → KeepsFrom f place p

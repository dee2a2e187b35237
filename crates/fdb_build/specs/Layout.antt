-- What the tables of all bridges in a graph are read from.
use Rattle.std.specs.Prelude.{◌≡◌, ◌≤◌, List, map}
use Rattle.std.specs.List.{AllByRecursion}
use Rattle.spb_types.specs.declared.graph.Graph.{Graph}
use Rattle.spb_types.specs.declared.limits.TheConstants.{GREATEST_ECT}
use Rattle.spb_types.specs.declared.service.VidPlan.{VidPlan}
use Rattle.fdb_build.specs.declared.layout.Layout.{Layout}
use Rattle.fdb_build.specs.declared.layout.Planned.{Planned}
use Rattle.fdb_build.specs.Making.{AreServicesOf}
use Rattle.fdb_build.specs.Surroundings.{AreAscending}
use Rattle.fdb_build.specs.Tables.{ascending_by, vid_cmp}

-- the plan has the number of an ECT algorithm, and the services are those of the graph's members in its VID
pub record IsPlanned (g : Graph) (p : Planned) : Type 0 where
  pub low : 1 ≤ p.plan.ect
  pub high : p.plan.ect ≤ GREATEST_ECT
  pub services : AreServicesOf g g.members p.plan.vid p.services

-- the bridges of the graph by ascending address, and these plans by ascending VID, each with its services
pub record IsLayoutOf (g : Graph) (vids : List VidPlan) (l : Layout) : Type 0 where
  pub bridges : AreAscending g l.bridges.items
  pub order : map (λ p. p.plan) l.plans.items ≡ ascending_by vid_cmp vids
  pub planned : AllByRecursion (IsPlanned g) l.plans.items

use Rattle.std.proofs.Common.{◌≡◌, sym, subst, IfSome}
use Rattle.spb_types.specs.Graph.{IsValidFor}
use Rattle.fdb_build.specs.Fabric.{FabricView}
use Rattle.spb_world.specs.World.{World, by_place, wired_fabric}
use Rattle.spb_world.proofs.ValidLemmas.{valid_for}
use Rattle.spb_world.proofs.world.World.wired_tables.Goals as goal

pub tables_of-requires-clause-graph : goal.tables_of-requires-clause-graph
tables_of-requires-clause-graph c =
    rw (c.in_ok-graph-in-None.ensures, ← c.self.view_is) (valid_for _ _ c.self.invariant.0)

pub tables-requires : goal.tables-requires
tables-requires c =
    let w : World = record { vids = c.self.inside.vids.items; bridges = c.self.inside.bridges.entries; links = c.self.inside.links.entries; services = c.self.inside.services.entries; attached = by_place c.self.inside.attached } in
    let kept : c.in-Some.fabric ≡ wired_fabric w = subst (λ o. IfSome o (λ (f : FabricView). f ≡ wired_fabric w)) c.in-Some.is c.self.invariant.1 in
    subst (λ (f : FabricView). IsValidFor f.graph c.system_at-me.result) (sym kept) (valid_for w c.system_at-me.result c.self.invariant.0)

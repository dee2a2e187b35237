use Rattle.std.proofs.Common.{◌≡◌, sym, ◌∙◌, subst, replicate, rules, arith}
use Rattle.bridge_api.specs.Config.{IsWhole}
use Rattle.spb_world.specs.declared.declaration.DeclaredBridge.{DeclaredBridge}
use Rattle.spb_world.specs.World.{World, by_place}
use Rattle.spb_world.proofs.ConfigLemmas.{whole-config}
use Rattle.spb_world.proofs.world.World.config.Goals as goal

pub returns-clause-whole : goal.returns-clause-whole
returns-clause-whole c =
    let w : World = record { vids = c.self.inside.vids.items; bridges = c.self.inside.bridges.entries; links = c.self.inside.links.entries; services = c.self.inside.services.entries; attached = by_place c.self.inside.attached } in
    let b : DeclaredBridge = record { bridge = record { id = c.args.id; source = c.args.source }; ports = c.args.ports } in
    let ones : c.in_ok-metrics.metrics.items ≡ replicate c.args.ports 1 = search rules in
    subst IsWhole (sym (λ i. record { id = c.args.id; source = c.args.source; ports = c.args.ports; vids = (c.from_vec.ensures ∙ c.in_ok-vids.ensures.items ∙ c.as_slice.ensures.value) i; metrics = (c.from_vec-2.ensures ∙ ones) i; attached = c.new.ensures i; last = c.in_ok-last.ensures.last i })) (whole-config w b c.self.invariant.0 c.requires.ports (omega arith) c.requires.source c.requires.address)

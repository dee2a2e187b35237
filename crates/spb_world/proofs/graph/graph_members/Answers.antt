use Rattle.std.proofs.Common.{◌++◌, ◌∙◌}
use Rattle.spb_world.specs.World.{bridge_members}
use Rattle.spb_world.proofs.MemberLemmas.{members_more}
use Rattle.spb_world.proofs.graph.graph_members.Goals as goal

pub loop-place-preserved : goal.loop-place-preserved
loop-place-preserved c =
    members_more c.args.bridges.now.entries c.args.attached.now c.loop-place.place c.loop-place.members.items c.put_members.new.members.items c.loop-place.invariant
    (c.in_ok-put_members.ensures ∙ (λ i. c.loop-place.members.items ++ bridge_members (c.system_at-system.ensures i) (c.at.ensures i)))

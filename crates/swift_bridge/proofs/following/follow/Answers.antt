use Rattle.std.proofs.Common.{◌∙◌}
use Rattle.swift_bridge.proofs.UpToDate.{are_alike}
use Rattle.swift_bridge.proofs.following.follow.Goals as goal

pub returns : goal.returns
returns c =
    let first = c.in_ok-remove_gone.ensures.stays in
    let then_set = c.in_ok-set_others.ensures.stays in
    let bridges = then_set.bridges_are ∙ (first.bridges_are ∙ c.requires.bridges) in
    record {
      valid = c.graph.ensures.valid;
      bridges_are = bridges;
      alike = are_alike c.args.graph.now c.set_others.new.set.graph c.graph.ensures.valid bridges c.in_ok-set_others.ensures.joined c.in_ok-set_others.ensures.has;
      masks_are = then_set.masks_are ∙ first.masks_are;
      can = then_set.can;
    }

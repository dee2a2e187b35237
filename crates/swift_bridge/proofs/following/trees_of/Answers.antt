use Rattle.swift_bridge.proofs.UpToDate.{new_is}
use Rattle.swift_bridge.proofs.following.trees_of.Goals as goal

pub returns-in_default : goal.returns-in_default
returns-in_default c = new_is c.args.graph.now c.args.masks.now c.new.result c.requires c.new.ensures

use Rattle.spb_network.specs.Network.{state_of}
use Rattle.spb_network.proofs.Keeping.{found_kept}
use Rattle.spb_network.proofs.network.NetworkOf.keep_conditions.Goals as goal

pub returns-clause-sound : goal.returns-clause-sound
returns-clause-sound g c = record {
  made = c.requires.made;
  state = c.requires.state;
  counted = c.requires.counted;
  outs = c.requires.outs;
  kept = found_kept (state_of g.B.Bridge.shown c.args.self.now) c.conditions-found.result c.conditions-found.ensures;
}

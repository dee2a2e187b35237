use Rattle.bridge_api.specs.Shown.{view_in}
use Rattle.spb_network.proofs.RestartLemmas.{map-write}
use Rattle.spb_network.proofs.boxes.replace.Goals as goal

pub returns-then-i-len-clause-views : goal.returns-then-i-len-clause-views
returns-then-i-len-clause-views g c = map-write (view_in g.B.Bridge.shown) c.args.boxes.now.items c.args.i c.args.fresh

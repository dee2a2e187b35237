use Rattle.std.proofs.Common.{ap}
use Rattle.bridge_api.specs.Shown.{view_in, Shown}
use Rattle.spb_types.proofs.Places.{lent}
use Rattle.spb_world.proofs.BoxLemmas.{map-still}
use Rattle.spb_network.proofs.boxes.prepare_paths.Goals as goal

pub returns-in-Some-clause-views : goal.returns-in-Some-clause-views
returns-in-Some-clause-views g c =
    map-still (view_in g.B.Bridge.shown) c.args.boxes.now.items c.args.i c.in-Some.bridge.now c.prepare_paths.new.self (lent _ _ _ _ c.get_mut.ensures.item c.in-Some.is) (ap (λ (s : Shown). s.view) c.prepare_paths.ensures)

use Rattle.std.proofs.Common.{◌≡◌, Some, slice_get, sym, ap, ◌∙◌}
use Rattle.spb_types.specs.declared.address.BridgeId.{BridgeId}
use Rattle.bridge_api.specs.Shown.{views_of}
use Rattle.spb_network.proofs.network.NetworkOf.restart_config.Goals as goal

pub last_numbers-requires-clause-system : goal.last_numbers-requires-clause-system
last_numbers-requires-clause-system g c = λ v at.
    let here : slice_get (views_of g.B.Bridge.shown c.args.self.now.boxes.items) c.args.i ≡ Some v = ap (λ bs. slice_get (views_of g.B.Bridge.shown bs) c.args.i) (sym c.deref.ensures.value) ∙ at in
    ap (λ (x : BridgeId). x.system) (c.requires.sound.state.shown c.args.i v c.args.bridge here c.requires.bridge).id

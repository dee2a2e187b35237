use Rattle.std.proofs.Common.{◌≤◌, ℕ, List, sym, subst}
use Rattle.flooding.specs.Room.{most_others, others}
use Rattle.spb_content.specs.Local.{IsLocal}
use Rattle.bridge_api.specs.View.{BridgeView}
use Rattle.bridge_api.specs.Own.{local_of, after_begin}
use Rattle.bridge_control.specs.declared.machine.Machine.{Machine}
use Rattle.bridge_control.specs.Machine.{view_of, IsAfter}
use Rattle.bridge_control.proofs.Configuring.{bare_local, bare_few, bare_room, configured_after}
use Rattle.bridge_control.proofs.machine.Machine.configured.Goals as goal

pub renew_bodies-requires-clause-few : goal.renew_bodies-requires-clause-few
renew_bodies-requires-clause-few c =
    bare_few c.args.config.now c.requires c.in_ok-machine.machine c.in_ok-machine.ensures.view

pub renew_bodies-requires-clause-local : goal.renew_bodies-requires-clause-local
renew_bodies-requires-clause-local c = subst (λ (v : BridgeView). IsLocal (local_of v)) (sym c.in_ok-machine.ensures.view) (bare_local c.args.config.now c.requires)

pub begin-requires-clause-room : goal.begin-requires-clause-room
begin-requires-clause-room c =
    let m : Machine = c.in_ok-machine.machine in
    subst (λ (n : Machine). others n.id.system n.db ≤ most_others) (sym c.in_ok-renew_bodies.ensures) (bare_room c.args.config.now m c.in_ok-machine.ensures.view)

pub returns : goal.returns
returns c =
    configured_after c.args.config.now c.in_ok-machine.machine c.renew_bodies.new.self c.begin.new.self c.in_ok-machine.ensures.view c.in_ok-renew_bodies.ensures
    (subst (λ (last : List ℕ). IsAfter (after_begin last (view_of c.renew_bodies.new.self)) c.begin.new.self) c.as_slice.ensures c.in_ok-begin.ensures)

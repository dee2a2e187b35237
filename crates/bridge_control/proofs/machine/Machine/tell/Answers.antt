use Rattle.std.proofs.Common.{ap}
use Rattle.std.proofs.lemmas.Result.{on_ok_weaker}
use Rattle.bridge_api.specs.Own.{originated_if_changed}
use Rattle.bridge_control.specs.Machine.{view_of}
use Rattle.bridge_control.proofs.Owning.{after_same, renewed_current}
use Rattle.bridge_control.proofs.Telling.{renewed_can}
use Rattle.bridge_control.proofs.machine.Machine.tell.Goals as goal

pub renew_bodies-requires-clause-few : goal.renew_bodies-requires-clause-few
renew_bodies-requires-clause-few c = c.requires.can.few

pub renew_bodies-requires-clause-system : goal.renew_bodies-requires-clause-system
renew_bodies-requires-clause-system c = c.requires.system

pub renew_bodies-requires-clause-local : goal.renew_bodies-requires-clause-local
renew_bodies-requires-clause-local c = c.requires.local

pub originate_if_changed-requires-clause-can : goal.originate_if_changed-requires-clause-can
originate_if_changed-requires-clause-can c = renewed_can c.args.self.now c.renew_bodies.new.self c.requires c.in_ok-renew_bodies.ensures

pub originate_if_changed-requires-clause-current : goal.originate_if_changed-requires-clause-current
originate_if_changed-requires-clause-current c = renewed_current c.args.self.now c.renew_bodies.new.self c.requires.ports c.in_ok-renew_bodies.ensures

pub returns : goal.returns
returns c =
    on_ok_weaker c.originate_if_changed.result
    (after_same _ _ c.originate_if_changed.new.self (ap originated_if_changed (ap view_of c.in_ok-renew_bodies.ensures)))
    c.originate_if_changed.ensures

use Rattle.std.proofs.Common.{ap}
use Rattle.std.proofs.lemmas.Result.{on_ok_weaker}
use Rattle.isis_pdu.specs.Pdu.{HelloValue}
use Rattle.bridge_api.specs.Parsing as parsing
use Rattle.bridge_control.specs.Machine.{view_of, hears}
use Rattle.bridge_control.proofs.Owning.{after_same}
use Rattle.bridge_control.proofs.machine.Machine.hear_again.Goals as goal

pub returns-clause-after : goal.returns-clause-after
returns-clause-after c =
    on_ok_weaker c.hear_hello.result (after_same _ _ c.hear_hello.new.self
    (ap (λ (h : HelloValue). hears (parsing.hello h c.args.said.way) c.args.port (view_of c.args.self.now)) c.hello.ensures))
    c.hear_hello.ensures

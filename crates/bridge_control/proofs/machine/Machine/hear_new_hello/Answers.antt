use Rattle.std.proofs.Common.{sym, ap, ◌∙◌, subst}
use Rattle.std.proofs.lemmas.Result.{on_ok_weaker}
use Rattle.isis_pdu.specs.Pdu.{hello_of}
use Rattle.bridge_api.specs.View.{BridgeView, IsPort, has_carrier_at}
use Rattle.bridge_api.specs.Parsing as parsing
use Rattle.bridge_control.specs.Machine.{hears, IsAfter}
use Rattle.bridge_control.proofs.Anew.{heard_ready, heard_view}
use Rattle.bridge_control.proofs.machine.Machine.hear_new_hello.Goals as goal

pub keep_hello-requires-clause-judged : goal.keep_hello-requires-clause-judged
keep_hello-requires-clause-judged c = c.requires.ready.current.ports.heard

pub hear_hello-requires-clause-ready : goal.hear_hello-requires-clause-ready
hear_hello-requires-clause-ready c = heard_ready c.args.self.now c.keep_hello.new.self c.requires.ready c.in_ok-keep_hello.ensures.same c.in_ok-keep_hello.ensures.judged

pub hear_hello-requires-clause-port : goal.hear_hello-requires-clause-port
hear_hello-requires-clause-port c =
    subst (λ (v : BridgeView). IsPort v c.args.port) (sym (heard_view c.args.self.now c.keep_hello.new.self c.in_ok-keep_hello.ensures.same)) c.requires.port

pub hear_hello-requires-clause-carrier : goal.hear_hello-requires-clause-carrier
hear_hello-requires-clause-carrier c =
    ap (λ (v : BridgeView). has_carrier_at v c.args.port) (heard_view c.args.self.now c.keep_hello.new.self c.in_ok-keep_hello.ensures.same) ∙ c.requires.carrier

pub returns : goal.returns
returns c =
    let same = heard_view c.args.self.now c.keep_hello.new.self c.in_ok-keep_hello.ensures.same in
    on_ok_weaker c.hear_hello.result
    (λ is. subst (λ (v : BridgeView). IsAfter (hears (parsing.hello (hello_of c.args.hello.now) c.args.way.now) c.args.port v) c.hear_hello.new.self) same is)
    c.hear_hello.ensures

use Rattle.std.proofs.Common.{◌∙◌, ap, arith}
use Rattle.bridge_api.specs.View.{up_from}
use Rattle.bridge_control.specs.Machine.{view_of}
use Rattle.bridge_control.proofs.Following.{few_hellos, put_same, put_anew}
use Rattle.bridge_control.proofs.Putting.{there_at, got}
use Rattle.bridge_control.proofs.machine.Machine.put.Goals as goal

pub returns-then-is_same_end : goal.returns-then-is_same_end
returns-then-is_same_end c =
    let m = c.args.self.now in
    let old = c.port_at-old.result in
    let there = there_at m c.as_slice.result.now c.args.port old c.as_slice.ensures.value c.port_at-old.ensures in
    put_same m c.args.port old c.args.new.now c.put_port.new.ports c.requires.ports (got (view_of m) c.args.port old c.requires.port there) c.put_port.ensures (c.is_same_end.ensures c.if-is_same_end.true)

pub put_hello-requires-clause-high : goal.put_hello-requires-clause-high
put_hello-requires-clause-high c = omega (arith, c.requires.port.high, few_hellos c.args.self.now c.requires.ports)

pub returns : goal.returns
returns c =
    put_anew c.args.self.now c.args.port c.args.new.now c.put_port.new.ports c.put_hello.new.hellos c.in_ok-hello.hello c.up_ports-self.result c.requires.port.low c.requires.ports c.put_port.ensures
    c.in_ok-hello.ensures c.put_hello.ensures (c.up_ports-self.ensures ∙ ap (up_from 1) c.as_slice-2.ensures.value)

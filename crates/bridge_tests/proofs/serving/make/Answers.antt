use Rattle.std.proofs.Common.{◌≡◌, true, sym, subst, arith}
use Rattle.std.proofs.lemmas.Result.{on_ok_weaker}
use Rattle.bridge_tests.specs.Services.{IsServing}
use Rattle.bridge_tests.proofs.ManyServices.{configured_serving, lit_serving}
use Rattle.bridge_tests.proofs.serving.make.Goals as goal

pub carrier-requires-clause-port : goal.carrier-requires-clause-port
carrier-requires-clause-port g c = λ unfailed.
    let was : IsServing c.args.count (g.B.Bridge.shown c.configure.new.self).view = configured_serving c.args.count c.in_ok-config.config (g.B.Bridge.shown c.configure.new.self).view c.in_ok-config.ensures.whole c.in_ok-config.ensures.port c.in_ok-config.ensures.vids c.in_ok-config.ensures.attached c.in_ok-configure.ensures.view in
    record { low = omega arith; high = omega (arith, was.ports) }

pub returns-clause-serving : goal.returns-clause-serving
returns-clause-serving g c =
    let was : IsServing c.args.count (g.B.Bridge.shown c.configure.new.self).view = configured_serving c.args.count c.in_ok-config.config (g.B.Bridge.shown c.configure.new.self).view c.in_ok-config.ensures.whole c.in_ok-config.ensures.port c.in_ok-config.ensures.vids c.in_ok-config.ensures.attached c.in_ok-configure.ensures.view in
    on_ok_weaker c.carrier.result (lit_serving c.args.count (g.B.Bridge.shown c.configure.new.self).view (g.B.Bridge.shown c.carrier.new.self).view was) c.carrier.ensures.view

use Rattle.std.proofs.Common.{◌<◌, length, arith}
use Rattle.std.proofs.lemmas.Result.{on_ok_weaker}
use Rattle.bridge_api.specs.Step.{second}
use Rattle.bridge_api.specs.Shown.{view_in}
use Rattle.bridge_api.proofs.Listed.{stepped_one, sent_one}
use Rattle.bridge_tests.proofs.plain.tick_at.Goals as goal

pub returns-clause-views : goal.returns-clause-views
returns-clause-views g c =
    let within : c.args.place < length c.args.bridges.now.items = omega (arith, c.args.bridges.now.ok.0) in
    on_ok_weaker c.tick.result (stepped_one (view_in g.B.Bridge.shown) c.args.bridges.now.items c.args.place c.index_mut.result.now c.tick.new.self second within c.index_mut.ensures.value) c.tick.ensures.view

pub returns-clause-sent : goal.returns-clause-sent
returns-clause-sent g c =
    let within : c.args.place < length c.args.bridges.now.items = omega (arith, c.args.bridges.now.ok.0) in
    on_ok_weaker c.tick.result (λ sent. rw (sent_one (view_in g.B.Bridge.shown) c.args.bridges.now.items c.args.place c.index_mut.result.now second within c.index_mut.ensures.value) sent) c.tick.ensures.sent

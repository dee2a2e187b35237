use Rattle.std.proofs.Common.{◌<◌, ℕ, List, length, sym, ◌∙◌, arith}
use Rattle.bridge_api.specs.View.{BridgeView}
use Rattle.spb_network.specs.Network.{state_of}
use Rattle.spb_network.proofs.QuietWalks.{all-found, all-passed}
use Rattle.settle_laws.specs.Premises.{view_passes}
use Rattle.settle_laws.proofs.databases.databases_pass.Goals as goal

pub returns-then-not-branch : goal.returns-then-not-branch
returns-then-not-branch g c =
    let views : List BridgeView = (state_of g.B.Bridge.shown c.args.network.now).views in
    let k : ℕ = c.loop-bridge.bridge in
    let within : k < length views = omega (arith, c.loop-bridge-test.true, c.bridge_count-bridge-end.ensures) in
    sym (c.loop-bridge.invariant.1 ∙ all-found (view_passes c.args.test) views k within (sym c.if-not-branch.true ∙ c.in_ok-database_passes.ensures))

pub loop-bridge-preserved : goal.loop-bridge-preserved
loop-bridge-preserved g c =
    let views : List BridgeView = (state_of g.B.Bridge.shown c.args.network.now).views in
    let k : ℕ = c.loop-bridge.bridge in
    let within : k < length views = omega (arith, c.loop-bridge-test.true, c.bridge_count-bridge-end.ensures) in
    (omega (arith, c.loop-bridge-test.true), c.loop-bridge.invariant.1 ∙ all-passed (view_passes c.args.test) views k within (sym c.if-not-branch.false ∙ c.in_ok-database_passes.ensures))

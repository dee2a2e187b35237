use Rattle.std.proofs.Common.{◌<◌, ℕ, List, not, length, sym, ◌∙◌, arith}
use Rattle.std.proofs.lemmas.List.{length-map}
use Rattle.bridge_api.specs.Shown.{view_in, views_of}
use Rattle.bridge_api.specs.View.{BridgeView, has_flags}
use Rattle.spb_network.proofs.QuietWalks.{all-found, all-passed}
use Rattle.spb_network.proofs.quiet.are_clear.Goals as goal

pub returns-then-not-is_clear : goal.returns-then-not-is_clear
returns-then-not-is_clear g c =
    let views : List BridgeView = views_of g.B.Bridge.shown c.args.boxes.now in
    let k : ℕ = c.loop-place.place in
    let within : k < length views = omega (arith, c.loop-place-test.true, length-map c.args.boxes.now (view_in g.B.Bridge.shown)) in
    sym (c.loop-place.invariant.1 ∙ all-found (λ v. not (has_flags v)) views k within (sym c.if-not-is_clear.true ∙ c.is_clear.ensures))

pub loop-place-preserved : goal.loop-place-preserved
loop-place-preserved g c =
    let views : List BridgeView = views_of g.B.Bridge.shown c.args.boxes.now in
    let k : ℕ = c.loop-place.place in
    let within : k < length views = omega (arith, c.loop-place-test.true, length-map c.args.boxes.now (view_in g.B.Bridge.shown)) in
    (omega (arith, c.loop-place-test.true), c.loop-place.invariant.1 ∙ all-passed (λ v. not (has_flags v)) views k within (sym c.if-not-is_clear.false ∙ c.is_clear.ensures))

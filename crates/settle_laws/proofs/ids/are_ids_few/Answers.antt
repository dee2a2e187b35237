use Rattle.std.proofs.Common.{◌≡◌, ◌+◌, ◌<◌, ◌≤◌, [], ℕ, List, length, sym, ap, ◌∙◌, drop, arith}
use Rattle.spb_types.specs.declared.address.LspId.{LspId}
use Rattle.bridge_api.specs.View.{BridgeView}
use Rattle.network_rounds.specs.Premises.{has_few_ids, ids_held}
use Rattle.spb_network.specs.Network.{state_of}
use Rattle.settle_laws.specs.Ids.{with_ids}
use Rattle.settle_laws.proofs.IdCounts.{ids_from, ids_past, more_than_few, few_found}
use Rattle.settle_laws.proofs.ids.are_ids_few.Goals as goal

pub returns-then-len-gt-MOST_IDS : goal.returns-then-len-gt-MOST_IDS
unfolding has_few_ids
returns-then-len-gt-MOST_IDS g c =
    let views : List BridgeView = (state_of g.B.Bridge.shown c.args.network.now).views in
    let k : ℕ = c.loop-bridge.bridge in
    let found : List LspId = c.note_ids.new.found.items in
    let within : k < length views = omega (arith, c.loop-bridge-test.true, c.bridge_count-bridge-end.ensures) in
    let left : with_ids [] (ids_held views) ≡ with_ids found (ids_held (drop (k + 1) views)) =
    c.loop-bridge.invariant.2 ∙ (ids_from c.loop-bridge.found.items views k within ∙ ap (λ l. with_ids l (ids_held (drop (k + 1) views))) (sym c.in_ok-note_ids.ensures)) in
    let many : 900 < length found = omega (arith, c.if-len-gt-MOST_IDS.true, c.len.ensures) in
    sym (more_than_few views found (k + 1) left many)

pub loop-bridge-preserved : goal.loop-bridge-preserved
loop-bridge-preserved g c =
    let views : List BridgeView = (state_of g.B.Bridge.shown c.args.network.now).views in
    let k : ℕ = c.loop-bridge.bridge in
    let within : k < length views = omega (arith, c.loop-bridge-test.true, c.bridge_count-bridge-end.ensures) in
    let few : length c.note_ids.new.found.items ≤ 900 = omega (arith, c.if-len-gt-MOST_IDS.false, c.len.ensures) in (
      omega (arith, c.loop-bridge-test.true),
      few,
      c.loop-bridge.invariant.2 ∙ (ids_from c.loop-bridge.found.items views k within ∙ ap (λ l. with_ids l (ids_held (drop (k + 1) views))) (sym c.in_ok-note_ids.ensures)),
    )

pub returns : goal.returns
unfolding has_few_ids
returns g c =
    let views : List BridgeView = (state_of g.B.Bridge.shown c.args.network.now).views in
    let past : length views ≤ c.loop-bridge.bridge = omega (arith, c.loop-bridge-test.false, c.bridge_count-bridge-end.ensures) in
    sym (few_found views c.loop-bridge.found.items (c.loop-bridge.invariant.2 ∙ ids_past c.loop-bridge.found.items views c.loop-bridge.bridge past) c.loop-bridge.invariant.1)

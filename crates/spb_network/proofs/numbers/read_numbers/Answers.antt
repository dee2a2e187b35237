use Rattle.std.proofs.Common.{◌≡◌, ◌+◌, Some, None, slice_get, sym, ap, ◌∙◌, arith}
use Rattle.std.specs.Option.{option_map, option_copied}
use Rattle.std.specs.FinMap.{entries}
use Rattle.std.proofs.lemmas.Option.{slice_get_within}
use Rattle.lsdb.specs.Database.{keyed}
use Rattle.bridge_api.specs.View.{BridgeView}
use Rattle.spb_network.proofs.LastNumbers.{none_read, one_read, all_read}
use Rattle.spb_network.proofs.numbers.read_numbers.Goals as goal

pub loop-held-init : goal.loop-held-init
loop-held-init g c = none_read (g.B.Bridge.shown c.args.bridge.now).view c.in_ok-numbers.numbers c.in_ok-numbers.ensures.last

pub loop-held-smaller : goal.loop-held-smaller
loop-held-smaller g c =
    let v : BridgeView = (g.B.Bridge.shown c.args.bridge.now).view in
    let at : slice_get (entries v.database) c.loop-held.place ≡ Some (keyed c.in-Some.held.now) = sym c.entry.ensures ∙ ap (λ o. option_map keyed (option_copied o)) c.in-Some.is in
    let next : c.in-Some-checked_add.next ≡ c.loop-held.place + 1 = c.in-Some-checked_add.ensures.1 in
    omega (arith, slice_get_within (entries v.database) c.loop-held.place (keyed c.in-Some.held.now) at, next)

pub loop-held-preserved : goal.loop-held-preserved
loop-held-preserved g c =
    let v : BridgeView = (g.B.Bridge.shown c.args.bridge.now).view in
    let at : slice_get (entries v.database) c.loop-held.place ≡ Some (keyed c.in-Some.held.now) = sym c.entry.ensures ∙ ap (λ o. option_map keyed (option_copied o)) c.in-Some.is in
    one_read v c.args.system c.loop-held.place c.in-Some-checked_add.next (keyed c.in-Some.held.now) c.loop-held.numbers c.requires.system c.in-Some-checked_add.ensures.1 at c.loop-held.invariant c.note_number.new.numbers c.note_number.ensures

pub returns : goal.returns
returns g c =
    let v : BridgeView = (g.B.Bridge.shown c.args.bridge.now).view in
    let past : slice_get (entries v.database) c.loop-held.place ≡ None = sym c.entry.ensures ∙ ap (λ o. option_map keyed (option_copied o)) c.in_default.is in
    all_read v c.loop-held.place c.loop-held.numbers past c.loop-held.invariant

use Rattle.std.proofs.Common.{◌≡◌, ◌+◌, Some, None, Option, slice_get, sym, ap, ◌∙◌}
use Rattle.std.specs.Option.{option_map, option_copied}
use Rattle.lsdb.specs.Database.{keyed}
use Rattle.bridge_api.specs.View.{BridgeView}
use Rattle.spb_network.specs.Network.{state_of}
use Rattle.settle_laws.proofs.HeldWalks.{entry_in, rest_found, one_found, none_found}
use Rattle.settle_laws.proofs.ids.note_ids.Goals as goal

pub loop-held-preserved : goal.loop-held-preserved
loop-held-preserved g c =
    let o : Option BridgeView = slice_get (state_of g.B.Bridge.shown c.args.network.now).views c.args.bridge in
    let at : entry_in o c.loop-held.place ≡ Some (keyed c.in-Some.held.now) = sym c.entry_of.ensures ∙ ap (λ h. option_map keyed (option_copied h)) c.in-Some.is in
    c.loop-held.invariant
    ∙ (one_found c.loop-held.found.items o c.loop-held.place (keyed c.in-Some.held.now) at
    ∙ (ap (λ found. rest_found found o (c.loop-held.place + 1)) (sym c.in_ok-note_id.ensures)
    ∙ ap (rest_found c.note_id.new.found.items o) (sym c.in-Some-checked_add.ensures.1)))

pub returns : goal.returns
returns g c =
    let o : Option BridgeView = slice_get (state_of g.B.Bridge.shown c.args.network.now).views c.args.bridge in
    let past : entry_in o c.loop-held.place ≡ None = sym c.entry_of.ensures ∙ ap (λ h. option_map keyed (option_copied h)) c.in_default.is in
    sym (c.loop-held.invariant ∙ none_found c.loop-held.found.items o c.loop-held.place past)

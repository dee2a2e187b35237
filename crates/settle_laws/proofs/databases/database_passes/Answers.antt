use Rattle.std.proofs.Common.{◌≡◌, ◌+◌, Some, None, Option, slice_get, sym, ap, ◌∙◌, arith}
use Rattle.std.specs.Option.{option_map, option_copied}
use Rattle.lsdb.specs.Database.{keyed}
use Rattle.bridge_api.specs.View.{BridgeView}
use Rattle.network_model.specs.State.{State}
use Rattle.network_model.proofs.Spoken.{system_is}
use Rattle.spb_network.specs.Network.{state_of}
use Rattle.settle_laws.proofs.HeldWalks.{running, entry_in, rest_passes, IsOf, one_failed, one_passed, none_left, held_within}
use Rattle.settle_laws.proofs.databases.database_passes.Goals as goal

pub returns-then-not-lsp_passes : goal.returns-then-not-lsp_passes
returns-then-not-lsp_passes g c =
    let s : State = state_of g.B.Bridge.shown c.args.network.now in
    let o : Option BridgeView = slice_get s.views c.args.bridge in
    let of : IsOf c.system_of-system.result o = λ v is. c.system_of-system.ensures ∙ system_is s c.args.bridge v (running g.B.Bridge.shown c.args.network.now c.requires.halted c.requires.ready).state is in
    let at : entry_in o c.loop-held.place ≡ Some (keyed c.in-Some.held.now) = sym c.entry_of.ensures ∙ ap (λ h. option_map keyed (option_copied h)) c.in-Some.is in
    sym (c.loop-held.invariant ∙ one_failed c.args.test c.system_of-system.result o c.loop-held.place (keyed c.in-Some.held.now) of at (sym c.lsp_passes.ensures ∙ c.if-not-lsp_passes.true))

pub loop-held-smaller : goal.loop-held-smaller
loop-held-smaller g c =
    let s : State = state_of g.B.Bridge.shown c.args.network.now in
    let o : Option BridgeView = slice_get s.views c.args.bridge in
    let at : entry_in o c.loop-held.place ≡ Some (keyed c.in-Some.held.now) = sym c.entry_of.ensures ∙ ap (λ h. option_map keyed (option_copied h)) c.in-Some.is in
    let next : c.in-Some-checked_add.next ≡ c.loop-held.place + 1 = c.in-Some-checked_add.ensures.1 in
    omega (arith, held_within o c.loop-held.place (keyed c.in-Some.held.now) at, next)

pub loop-held-preserved : goal.loop-held-preserved
loop-held-preserved g c =
    let s : State = state_of g.B.Bridge.shown c.args.network.now in
    let o : Option BridgeView = slice_get s.views c.args.bridge in
    let of : IsOf c.system_of-system.result o = λ v is. c.system_of-system.ensures ∙ system_is s c.args.bridge v (running g.B.Bridge.shown c.args.network.now c.requires.halted c.requires.ready).state is in
    let at : entry_in o c.loop-held.place ≡ Some (keyed c.in-Some.held.now) = sym c.entry_of.ensures ∙ ap (λ h. option_map keyed (option_copied h)) c.in-Some.is in
    c.loop-held.invariant
    ∙ (one_passed c.args.test c.system_of-system.result o c.loop-held.place (keyed c.in-Some.held.now) of at (sym c.lsp_passes.ensures ∙ c.if-not-lsp_passes.false)
    ∙ ap (rest_passes c.args.test o) (sym c.in-Some-checked_add.ensures.1))

pub returns : goal.returns
returns g c =
    let s : State = state_of g.B.Bridge.shown c.args.network.now in
    let o : Option BridgeView = slice_get s.views c.args.bridge in
    let past : entry_in o c.loop-held.place ≡ None = sym c.entry_of.ensures ∙ ap (λ h. option_map keyed (option_copied h)) c.in_default.is in
    sym (c.loop-held.invariant ∙ none_left c.args.test o c.loop-held.place past)

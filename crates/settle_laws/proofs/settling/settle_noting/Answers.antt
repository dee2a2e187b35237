use Rattle.std.proofs.Common.{true, false, Ok, refl, sym, subst, ◌∙◌}
use Rattle.std.proofs.lemmas.Result.{err_from_is_err_and}
use Rattle.network_model.specs.State.{State}
use Rattle.network_rounds.specs.Settling.{most_settling}
use Rattle.spb_network.specs.Network.{state_of}
use Rattle.settle_laws.specs.Settling.{PlaysRounds}
use Rattle.settle_laws.proofs.SingleRounds.{settles_not, none_made}
use Rattle.settle_laws.proofs.Ending.{is_refused, is_accepted, is_settled, ends_in_time, left_tells}
use Rattle.settle_laws.proofs.settling.settle_noting.Goals as goal

pub returns-then-not-are_rounds_left-clause-settles : goal.returns-then-not-are_rounds_left-clause-settles
returns-then-not-are_rounds_left-clause-settles g c =
    let s : State = state_of g.B.Bridge.shown c.args.network.now in (
      sym c.is_halted.ensures ∙ c.if-is_halted.false,
      is_refused s _ _ c.most_settling-most.ensures.most c.are_rounds_left.ensures c.if-not-are_rounds_left.true,
      refl,
      refl,
    )

pub returns-in_err-before-clause-settles : goal.returns-in_err-before-clause-settles
returns-in_err-before-clause-settles g c =
    let s : State = state_of g.B.Bridge.shown c.args.network.now in
    let p = err_from_is_err_and c.from_residual.result c.from_residual.ensures.1 in
    rw (p.1, p.2) (
      sym c.is_halted.ensures ∙ c.if-is_halted.false,
      is_accepted s _ _ c.most_settling-most.ensures.most c.are_rounds_left.ensures c.if-not-are_rounds_left.false,
      none_made (most_settling s) s c.args.outs.now.items c.args.network.now.halted,
    )

pub returns-in_err-rounds-clause-settles : goal.returns-in_err-rounds-clause-settles
returns-in_err-rounds-clause-settles g c =
    let s : State = state_of g.B.Bridge.shown c.args.network.now in
    let p = err_from_is_err_and c.from_residual-in_err-rounds.result c.from_residual-in_err-rounds.ensures.1 in
    rw (p.1, p.2) (settles_not g.B.Bridge.shown c.args.network.now c.play_rounds.new.network c.args.outs.now.items c.play_rounds.new.outs.items _ _ c.most_settling-most.ensures.most
    (sym c.is_halted.ensures ∙ c.if-is_halted.false)
    (is_accepted s _ _ c.most_settling-most.ensures.most c.are_rounds_left.ensures c.if-not-are_rounds_left.false)
    c.in_err-rounds.ensures.rounds)

pub returns-clause-settles : goal.returns-clause-settles
returns-clause-settles g c =
    let s : State = state_of g.B.Bridge.shown c.args.network.now in
    let played = subst (λ m. PlaysRounds m s c.args.outs.now.items c.play_rounds.new.outs.items (Ok c.in_ok-rounds.rounds) c.play_rounds.new.network.halted (state_of g.B.Bridge.shown c.play_rounds.new.network)) c.most_settling-most.ensures.most c.in_ok-rounds.ensures.rounds in (
      sym c.is_halted.ensures ∙ c.if-is_halted.false,
      is_settled g.B.Bridge.shown c.args.network.now c.play_rounds.new.network c.args.outs.now.items c.play_rounds.new.outs.items c.in_ok-rounds.rounds c.in_ok-before.before _
          (is_accepted s _ _ c.most_settling-most.ensures.most c.are_rounds_left.ensures c.if-not-are_rounds_left.false)
          played c.in_ok-before.ensures c.left.ensures,
      played.3,
    )

pub returns-clause-in_time : goal.returns-clause-in_time
returns-clause-in_time g c =
    ends_in_time g.B.Bridge.shown c.args.network.now c.args.outs.now.items c.play_rounds.new.outs.items _ _ c.networks_settle.ensures.settling (sym c.is_halted.ensures ∙ c.if-is_halted.false) c.requires (returns-clause-settles g c).1

pub returns-clause-tells : goal.returns-clause-tells
returns-clause-tells g c =
    left_tells g.B.Bridge.shown c.args.network.now c.args.outs.now.items c.play_rounds.new.outs.items _ _ c.networks_settle.ensures.settling (sym c.is_halted.ensures ∙ c.if-is_halted.false) c.requires (returns-clause-settles g c).1

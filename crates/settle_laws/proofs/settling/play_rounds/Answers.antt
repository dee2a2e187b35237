use Rattle.std.proofs.Common.{◌≡◌, true, false, sym, subst, ◌∙◌, arith}
use Rattle.std.proofs.lemmas.Result.{err_from_is_err_and}
use Rattle.network_model.specs.State.{State}
use Rattle.network_model.specs.Questions.{is_quiet}
use Rattle.network_model.specs.Captured.{captured}
use Rattle.spb_network.specs.Network.{state_of}
use Rattle.settle_laws.specs.Settling.{single_rounds, Notes}
use Rattle.settle_laws.proofs.SingleRounds.{so_far_none, so_far_more, so_far_quiet, so_far_all, so_far_cut}
use Rattle.settle_laws.proofs.Watching.{notes_none, notes_more}
use Rattle.settle_laws.proofs.settling.play_rounds.Goals as goal

pub loop-made-init : goal.loop-made-init
loop-made-init g c =
    let s : State = state_of g.B.Bridge.shown c.args.network.now in
    (c.requires.halted, c.requires.ready, so_far_none c.args.most s c.args.outs.now.items c.requires.room, notes_none s c.args.watch.now)

pub is_quiet-requires-clause-halted : goal.is_quiet-requires-clause-halted
is_quiet-requires-clause-halted g c = c.loop-made.invariant.0

pub is_quiet-requires-clause-ready : goal.is_quiet-requires-clause-ready
is_quiet-requires-clause-ready g c = c.loop-made.invariant.1

pub returns-then-is_quiet-clause-rounds : goal.returns-then-is_quiet-clause-rounds
returns-then-is_quiet-clause-rounds g c =
    let s : State = state_of g.B.Bridge.shown c.args.network.now in
    let t : State = state_of g.B.Bridge.shown c.loop-made.network in
    let quiet : is_quiet t ≡ true = sym c.is_quiet.ensures ∙ c.if-is_quiet.true in
    let all = so_far_quiet c.args.most s t c.args.outs.now.items c.loop-made.outs.items c.loop-made.made c.loop-made.invariant.2 quiet in
    (all.0, all.1, all.2, c.loop-made.invariant.0)

pub returns-then-is_quiet-clause-ready : goal.returns-then-is_quiet-clause-ready
returns-then-is_quiet-clause-ready g c = c.loop-made.invariant.1

pub returns-then-is_quiet-clause-notes : goal.returns-then-is_quiet-clause-notes
returns-then-is_quiet-clause-notes g c = c.loop-made.invariant.3

pub play_round-requires-clause-halted : goal.play_round-requires-clause-halted
play_round-requires-clause-halted g c = c.loop-made.invariant.0

pub play_round-requires-clause-ready : goal.play_round-requires-clause-ready
play_round-requires-clause-ready g c = c.loop-made.invariant.1

pub play_round-requires-clause-room : goal.play_round-requires-clause-room
play_round-requires-clause-room g c = omega (arith, c.loop-made.invariant.2.room, c.loop-made-test.true)

pub returns-in_err-play_round-clause-rounds : goal.returns-in_err-play_round-clause-rounds
returns-in_err-play_round-clause-rounds g c =
    let s : State = state_of g.B.Bridge.shown c.args.network.now in
    let t : State = state_of g.B.Bridge.shown c.loop-made.network in
    let u : State = state_of g.B.Bridge.shown c.play_round.new.network in
    let busy : is_quiet t ≡ false = sym c.is_quiet.ensures ∙ c.if-is_quiet.false in
    let p = err_from_is_err_and c.from_residual.result c.from_residual.ensures.1 in
    rw (p.1, p.2) (so_far_cut c.args.most s t u c.args.outs.now.items c.loop-made.outs.items c.play_round.new.outs.items c.loop-made.made c.play_round.new.network.halted _ c.loop-made.invariant.2 (omega (arith, c.loop-made-test.true)) busy c.in_err-play_round.ensures.round)

pub loop-made-preserved : goal.loop-made-preserved
loop-made-preserved g c =
    let s : State = state_of g.B.Bridge.shown c.args.network.now in
    let t : State = state_of g.B.Bridge.shown c.loop-made.network in
    let u : State = state_of g.B.Bridge.shown c.play_round.new.network in
    let busy : is_quiet t ≡ false = sym c.is_quiet.ensures ∙ c.if-is_quiet.false in
    let round = c.in_ok-play_round.ensures.round in (
      round.2,
      c.in_ok-play_round.ensures.ready,
      so_far_more c.args.most s t u c.args.outs.now.items c.loop-made.outs.items c.play_round.new.outs.items c.loop-made.made c.loop-made.invariant.2 (omega (arith, c.loop-made-test.true)) busy round.0 round.1,
      notes_more s t c.loop-made.made c.args.watch.now c.loop-made.watch c.play_round.new.watch c.loop-made.invariant.2.state c.loop-made.invariant.3 c.in_ok-play_round.ensures.notes,
    )

pub returns-clause-rounds : goal.returns-clause-rounds
returns-clause-rounds g c =
    let s : State = state_of g.B.Bridge.shown c.args.network.now in
    let t : State = state_of g.B.Bridge.shown c.loop-made.network in
    let all = so_far_all c.args.most s t c.args.outs.now.items c.loop-made.outs.items c.loop-made.made c.loop-made.invariant.2 (omega (arith, c.loop-made-test.false)) in
    (all.0, all.1, all.2, c.loop-made.invariant.0)

pub returns-clause-ready : goal.returns-clause-ready
returns-clause-ready g c = c.loop-made.invariant.1

pub returns-clause-notes : goal.returns-clause-notes
returns-clause-notes g c =
    let s : State = state_of g.B.Bridge.shown c.args.network.now in
    let all : c.loop-made.made ≡ c.args.most = omega (arith, c.loop-made.invariant.2.within, c.loop-made-test.false) in
    subst (λ n. Notes (captured s (single_rounds n)) c.args.watch.now c.loop-made.watch) all c.loop-made.invariant.3

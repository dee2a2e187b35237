use Rattle.std.proofs.Common.{List, ℕ, ap, arith}
use Rattle.network_model.specs.State.{State}
use Rattle.network_model.specs.Events.{next_tick}
use Rattle.spb_network.specs.Network.{state_of}
use Rattle.spb_network.proofs.SeenLemmas.{set_changed, past_changed}
use Rattle.spb_network.proofs.network.NetworkOf.count_second.Goals as goal

pub returns-then-i-len-clause-state : goal.returns-then-i-len-clause-state
returns-then-i-len-clause-state g c =
    let s : State = state_of g.B.Bridge.shown c.args.self.now in
    ap (λ (ticks : List ℕ). record s { ticks = ticks }) (set_changed next_tick s.ticks c.args.i c.index.result.now c.saturating_add.result (omega (arith, c.if-i-len.true, c.len.ensures)) c.index.ensures c.saturating_add.ensures)

pub returns-else-i-len-clause-state : goal.returns-else-i-len-clause-state
returns-else-i-len-clause-state g c =
    let s : State = state_of g.B.Bridge.shown c.args.self.now in
    ap (λ (ticks : List ℕ). record s { ticks = ticks }) (past_changed next_tick s.ticks c.args.i (omega (arith, c.if-i-len.false, c.len.ensures)))

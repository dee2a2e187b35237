use Rattle.std.proofs.Common.{◌≡◌, false}
use Rattle.spb_network.specs.Applying.{IsReady}
use Rattle.spb_network.specs.Network.{state_of}
use Rattle.network_model.specs.Captured.{captured}
use Rattle.settle_laws.specs.Settling.{single_rounds, Notes}
use Rattle.settle_laws.proofs.SingleRounds.{IsSoFar}
use Rattle.settle_laws.proofs.settling.play_rounds.Given as goal

abbrev pub invariant-loop-made : goal.invariant-loop-made
invariant-loop-made g l =
    (l.network.halted ≡ false) × IsReady g.B.Bridge.shown l.network
    × IsSoFar l.fn.most (state_of g.B.Bridge.shown l.fn.network) l.fn.outs.items l.made l.outs.items (state_of g.B.Bridge.shown l.network)
    × Notes (captured (state_of g.B.Bridge.shown l.fn.network) (single_rounds l.made)) l.fn.watch l.watch

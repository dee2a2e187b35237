use Rattle.std.proofs.Common.{◌≡◌, ◌+◌, ◌≤◌, drop}
use Rattle.spb_network.specs.Network.{state_of}
use Rattle.made_runs.specs.Applied.{applied}
use Rattle.script_run.specs.Replying.{IsAlive}
use Rattle.made_runs.proofs.Applying.{Applying}
use Rattle.made_runs.proofs.trying.apply_all.Given as goal

abbrev pub invariant-loop-command : goal.invariant-loop-command
invariant-loop-command g l =
    let state = state_of g.B.Bridge.shown in
    Applying l.tally.counts l.tally.shown (state l.network) l.number (applied (state l.fn.network) 1 l.commands) (drop l.command-index l.commands)
    × (l.number ≡ l.command-index + 1) × (l.tally.counts.lines ≤ l.command-index) × (l.tally.counts.shows ≤ l.command-index) × (l.tally.counts.same ≤ l.command-index)
    × IsAlive g.B.Bridge.shown l.network

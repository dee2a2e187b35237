use Rattle.std.proofs.Common.{◌≡◌, ◌+◌, ◌<◌, ◌≤◌, ℕ, Bool, true, false, if◌then◌else◌, Ok, List, [], ◌∷◌, length, drop, get_or, sym, ap, ◌∙◌, subst, arith}
use Rattle.std.proofs.lemmas.List.{drop_all, drop_more}
use Rattle.scenario.specs.declared.command.Command.{Command}
use Rattle.spb_network.specs.Network.{state_of}
use Rattle.made_runs.specs.Applied.{applied}
use Rattle.made_runs.proofs.Applying.{Tallying, Tallying-all, Applying, Applying-more, Applying-refused}
use Rattle.made_runs.proofs.trying.apply_all.Goals as goal

-- what is left of the commands begins with the next one
next_first : (commands : List Command) (i : ℕ) (next : Command) → i < length commands → next ≡ get_or commands i next
    → drop i commands ≡ next ∷ drop (i + 1) commands
next_first commands i next below is = drop_more commands i next below ∙ ap (λ c. c ∷ drop (i + 1) commands) (sym is)

at_most_one : (b : Bool) → (if b then 1 else 0) ≤ 1
at_most_one true = omega arith
at_most_one false = omega arith

one_more : (new old i : ℕ) (b : Bool) → old ≤ i → new ≡ old + (if b then 1 else 0) → new ≤ i + 1
one_more new old i b low is = omega (arith, low, is, at_most_one b)

pub returns-in-Err-clause-counts : goal.returns-in-Err-clause-counts
returns-in-Err-clause-counts g c =
    let state = state_of g.B.Bridge.shown in
    let loop = c.loop-command in
    let commands = c.args.commands.now in
    let whole = applied (state c.args.network.now) 1 commands in
    let next = c.command-item.result in
    let left = drop (loop.command-index + 1) commands in
    let first = next_first commands loop.command-index next c.loop-command-test.true c.command-item.is in
    let so_far = subst (λ cs. Applying loop.tally.counts loop.tally.shown (state loop.network) loop.number whole cs) first loop.invariant.0 in
    let refused = c.in_ok-answer.ensures.refused c.in-Err.reason (ap Ok c.in-Err.is) in
    (Applying-refused loop.tally.counts loop.tally.shown (state loop.network) loop.number whole next left so_far c.in-Err.reason refused.0).0

pub loop-command-preserved : goal.loop-command-preserved
loop-command-preserved g c =
    let state = state_of g.B.Bridge.shown in
    let loop = c.loop-command in
    let commands = c.args.commands.now in
    let whole = applied (state c.args.network.now) 1 commands in
    let next = c.command-item.result in
    let left = drop (loop.command-index + 1) commands in
    let first = next_first commands loop.command-index next c.loop-command-test.true c.command-item.is in
    let so_far = subst (λ cs. Applying loop.tally.counts loop.tally.shown (state loop.network) loop.number whole cs) first loop.invariant.0 in
    let plays = c.in_ok-answer.ensures.played c.in-Ok.answer (ap Ok c.in-Ok.is) in
    let added = c.add.ensures in (
      Applying-more loop.tally.counts loop.tally.shown (state loop.network) loop.number whole next left so_far
          c.add.new.self.counts c.add.new.self.shown (state c.apply_one.new.network) c.in-Ok.answer plays
          added.lines added.shows added.same added.outs added.shown,
      omega (arith, loop.invariant.1),
      omega (arith, loop.invariant.2, added.lines),
      one_more _ _ loop.command-index _ loop.invariant.3 added.shows,
      one_more _ _ loop.command-index _ loop.invariant.4 added.same,
      c.in_ok-answer.ensures.alive,
    )

pub returns-clause-counts : goal.returns-clause-counts
returns-clause-counts g c =
    let state = state_of g.B.Bridge.shown in
    let loop = c.loop-command in
    let commands = c.args.commands.now in
    let whole = applied (state c.args.network.now) 1 commands in
    let none : drop loop.command-index commands ≡ [] = drop_all loop.command-index commands (omega (arith, c.loop-command-test.false)) in
    Tallying-all loop.tally.counts loop.tally.shown whole.answers
    (subst (λ cs. Tallying loop.tally.counts loop.tally.shown whole.answers (applied (state loop.network) loop.number cs).answers) none loop.invariant.0.tally)

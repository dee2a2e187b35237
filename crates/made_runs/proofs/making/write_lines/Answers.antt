use Rattle.std.proofs.Common.{◌≡◌, ℕ, ◌+◌, ◌<◌, List, ◌++◌, length, drop, get_or, sym, ap, ◌∙◌, subst}
use Rattle.std.proofs.lemmas.List.{drop_more}
use Rattle.std.proofs.lemmas.Result.{err_from_is_err_and}
use Rattle.scenario.specs.declared.command.Command.{Command}
use Rattle.made_runs.specs.Making.{line_text, script_text}
use Rattle.script_run.proofs.Writing.{Writes, Writing, Writing-more, AppendsFront-more}
use Rattle.made_runs.proofs.making.write_lines.Goals as goal

-- what is left of the lines begins with the next one
lines_more : (commands : List Command) (i : ℕ) (next : Command) → i < length commands → next ≡ get_or commands i next
    → script_text (drop i commands) ≡ line_text next ++ script_text (drop (i + 1) commands)
lines_more commands i next below is =
    ap script_text (drop_more commands i next below)
    ∙ ap (λ c. line_text c ++ script_text (drop (i + 1) commands)) (sym is)

pub returns-in_err-write_line-clause-front : goal.returns-in_err-write_line-clause-front
returns-in_err-write_line-clause-front g c =
    let commands = c.args.commands.now in
    let i = c.loop-command.command-index in
    let next = c.command-item.result in
    let more = lines_more commands i next c.loop-command-test.true c.command-item.is in
    let p = err_from_is_err_and c.from_residual.result c.from_residual.ensures.1 in
    rw p.1 (AppendsFront-more (g.K.Sink.holds c.args.sink.now) (g.K.Sink.holds c.loop-command.sink) (g.K.Sink.holds c.write_line.new.sink)
    (script_text commands) (line_text next) (script_text (drop (i + 1) commands))
    (subst (Writes (g.K.Sink.holds c.args.sink.now) (g.K.Sink.holds c.loop-command.sink) (script_text commands)) more c.loop-command.invariant.writes)
    c.in_err-write_line.ensures.front)

pub loop-command-preserved : goal.loop-command-preserved
loop-command-preserved g c =
    let commands = c.args.commands.now in
    let i = c.loop-command.command-index in
    let next = c.command-item.result in
    let more = lines_more commands i next c.loop-command-test.true c.command-item.is in
    Writing-more g.K.Sink.holds g.K.Sink.faults g.K.Sink.is_reliable c.args.sink.now c.loop-command.sink c.write_line.new.sink
    (script_text commands) (line_text next) (script_text (drop (i + 1) commands))
    (subst (λ left. Writing g.K.Sink.holds g.K.Sink.faults g.K.Sink.is_reliable c.args.sink.now c.loop-command.sink (script_text commands) left) more c.loop-command.invariant)
    c.in_ok-write_line.ensures.all c.in_ok-write_line.ensures.count (λ h. (c.in_ok-write_line.ensures.reliable h).1)

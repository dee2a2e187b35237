use Rattle.std.proofs.Common.{List, ℕ, ◌++◌, subst}
use Rattle.std.specs.Io.KnownBytes.{Appends}
use Rattle.std.proofs.lemmas.Result.{err_from_is_err_and}
use Rattle.script_run.specs.Output.{AppendsFront}
use Rattle.script_run.specs.Play.{packets_of}
use Rattle.script_run.specs.Puts.{Puts}
use Rattle.script_run.proofs.Putting.{Puts-end, Front-end}
use Rattle.script_run.proofs.packets.write_packets.Goals as goal

pub returns-in_err-put_packets-clause-front : goal.returns-in_err-put_packets-clause-front
returns-in_err-put_packets-clause-front g c =
    let p = err_from_is_err_and c.from_residual.result c.from_residual.ensures.1 in
    let text = packets_of c.args.seen.now in
    rw p.1 (subst (λ (h : List ℕ). AppendsFront (g.K.Sink.holds c.args.sink.now) (g.K.Sink.holds c.put_packets.new.sink) (h ++ text)) c.new-held.ensures.items c.in_err-put_packets.ensures.front)

pub returns-in_err-write_all-clause-front : goal.returns-in_err-write_all-clause-front
returns-in_err-write_all-clause-front g c =
    let p = err_from_is_err_and c.from_residual-in_err-write_all.result c.from_residual-in_err-write_all.ensures.1 in
    let a = g.K.Sink.holds c.args.sink.now in
    let b = g.K.Sink.holds c.put_packets.new.sink in
    let text = packets_of c.args.seen.now in
    let puts = subst (λ (h : List ℕ). Puts a b h c.put_packets.new.held.items text) c.new-held.ensures.items c.in_ok-put_packets.ensures.all in
    rw p.1 (Front-end a b (g.K.Sink.holds c.write_all.new.sink) c.put_packets.new.held.items text puts
    (subst (λ (h : List ℕ). AppendsFront b (g.K.Sink.holds c.write_all.new.sink) h) c.deref.ensures.value c.in_err-write_all.ensures.front))

pub returns-clause-all : goal.returns-clause-all
returns-clause-all g c =
    let a = g.K.Sink.holds c.args.sink.now in
    let b = g.K.Sink.holds c.put_packets.new.sink in
    let text = packets_of c.args.seen.now in
    let puts = subst (λ (h : List ℕ). Puts a b h c.put_packets.new.held.items text) c.new-held.ensures.items c.in_ok-put_packets.ensures.all in
    Puts-end a b (g.K.Sink.holds c.write_all.new.sink) c.put_packets.new.held.items text puts
    (subst (λ (h : List ℕ). Appends b (g.K.Sink.holds c.write_all.new.sink) h) c.deref.ensures.value c.in_ok-write_all.ensures.all)

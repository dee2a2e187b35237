use Rattle.std.proofs.Common.{◌++◌, refl}
use Rattle.std.proofs.lemmas.Result.{err_from_is_err_and}
use Rattle.script_run.proofs.Putting.{Puts-held, Front-longer, Front-put}
use Rattle.script_run.proofs.held.put.Goals as goal

pub returns-in_err-make_room-clause-front : goal.returns-in_err-make_room-clause-front
returns-in_err-make_room-clause-front g c =
    let p = err_from_is_err_and c.from_residual.result c.from_residual.ensures.1 in
    rw p.1 (Front-longer (g.K.Sink.holds c.args.sink.now) (g.K.Sink.holds c.make_room.new.sink) c.args.held.now.items c.args.bytes.now c.in_err-make_room.ensures.front)

pub returns-in_err-extend_from_slice-clause-front : goal.returns-in_err-extend_from_slice-clause-front
returns-in_err-extend_from_slice-clause-front g c =
    let a = g.K.Sink.holds c.args.sink.now in
    let b = g.K.Sink.holds c.make_room.new.sink in
    let held = c.make_room.new.held.items in
    let p = err_from_is_err_and c.from_residual-in_err-extend_from_slice.result c.from_residual-in_err-extend_from_slice.ensures.1 in
    rw p.1 (Front-put a b c.args.held.now.items (held ++ c.args.bytes.now) c.args.bytes.now
    (Puts-held a b c.args.held.now.items held (held ++ c.args.bytes.now) c.args.bytes.now c.in_ok-make_room.ensures.all refl))

pub returns-clause-all : goal.returns-clause-all
returns-clause-all g c =
    Puts-held (g.K.Sink.holds c.args.sink.now) (g.K.Sink.holds c.make_room.new.sink) c.args.held.now.items c.make_room.new.held.items
    c.extend_from_slice.new.self.items c.args.bytes.now c.in_ok-make_room.ensures.all c.in_ok-extend_from_slice.ensures.items

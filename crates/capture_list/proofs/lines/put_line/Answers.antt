use Rattle.std.proofs.Common.{◌++◌, ◌∙◌}
use Rattle.std.proofs.lemmas.Result.{err_from_is_err_and}
use Rattle.frame_capture.specs.declared.delivered.Delivered.{Delivered}
use Rattle.capture_list.specs.Listing.{frame_line}
use Rattle.script_run.proofs.Putting.{Front-nil}
use Rattle.capture_list.proofs.LinePuts.{line_put, front_head, front_frame, front_end}
use Rattle.capture_list.proofs.lines.put_line.Goals as goal

pub returns-in_err-head-clause-front : goal.returns-in_err-head-clause-front
returns-in_err-head-clause-front g c =
    let p = err_from_is_err_and c.from_residual.result c.from_residual.ensures.1 in
    let d : Delivered = record { tick = c.args.seconds; frame = c.args.frame.now } in
    rw p.1 (Front-nil (g.K.Sink.holds c.args.sink.now) (c.args.held.now.items ++ frame_line d))

pub returns-in_err-put-clause-front : goal.returns-in_err-put-clause-front
returns-in_err-put-clause-front g c =
    let p = err_from_is_err_and c.from_residual-in_err-put.result c.from_residual-in_err-put.ensures.1 in
    let d : Delivered = record { tick = c.args.seconds; frame = c.args.frame.now } in
    rw p.1 (front_head d c.deref.result.now (c.deref.ensures.value ∙ c.in_ok-head.ensures) (g.K.Sink.holds c.args.sink.now) (g.K.Sink.holds c.put.new.sink) c.args.held.now.items c.in_err-put.ensures.front)

pub returns-in_err-put_frame-clause-front : goal.returns-in_err-put_frame-clause-front
returns-in_err-put_frame-clause-front g c =
    let p = err_from_is_err_and c.from_residual-in_err-put_frame.result c.from_residual-in_err-put_frame.ensures.1 in
    let d : Delivered = record { tick = c.args.seconds; frame = c.args.frame.now } in
    rw p.1 (front_frame d c.deref.result.now (c.deref.ensures.value ∙ c.in_ok-head.ensures) (g.K.Sink.holds c.args.sink.now) (g.K.Sink.holds c.put.new.sink) (g.K.Sink.holds c.put_frame.new.sink)
    c.args.held.now.items c.put.new.held.items c.in_ok-put.ensures.all c.in_err-put_frame.ensures.front)

pub returns-in_err-put-2-clause-front : goal.returns-in_err-put-2-clause-front
returns-in_err-put-2-clause-front g c =
    let p = err_from_is_err_and c.from_residual-in_err-put-2.result c.from_residual-in_err-put-2.ensures.1 in
    let d : Delivered = record { tick = c.args.seconds; frame = c.args.frame.now } in
    rw p.1 (front_end d c.deref.result.now (c.deref.ensures.value ∙ c.in_ok-head.ensures) (g.K.Sink.holds c.args.sink.now) (g.K.Sink.holds c.put.new.sink) (g.K.Sink.holds c.put_frame.new.sink) (g.K.Sink.holds c.put-2.new.sink)
    c.args.held.now.items c.put.new.held.items c.put_frame.new.held.items c.in_ok-put.ensures.all c.in_ok-put_frame.ensures.all c.in_err-put-2.ensures.front)

pub returns-clause-all : goal.returns-clause-all
returns-clause-all g c =
    let d : Delivered = record { tick = c.args.seconds; frame = c.args.frame.now } in
    line_put d c.deref.result.now (c.deref.ensures.value ∙ c.in_ok-head.ensures) (g.K.Sink.holds c.args.sink.now) (g.K.Sink.holds c.put.new.sink) (g.K.Sink.holds c.put_frame.new.sink) (g.K.Sink.holds c.put-2.new.sink)
    c.args.held.now.items c.put.new.held.items c.put_frame.new.held.items c.put-2.new.held.items c.in_ok-put.ensures.all c.in_ok-put_frame.ensures.all c.in_ok-put-2.ensures.all

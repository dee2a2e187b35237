use Rattle.std.proofs.Common.{◌++◌, ◌∙◌, List, ℕ, refl, ap}
use Rattle.std.proofs.lemmas.Result.{err_from_is_err_and}
use Rattle.frame_capture.specs.Capture.{packet_bytes}
use Rattle.script_run.specs.Play.{packet_of}
use Rattle.script_run.proofs.Putting.{Puts-held, Front-longer, Front-put}
use Rattle.script_run.proofs.packets.put_packet.Goals as goal

pub returns-in_err-make_room-clause-front : goal.returns-in_err-make_room-clause-front
returns-in_err-make_room-clause-front g c =
    let p = err_from_is_err_and c.from_residual.result c.from_residual.ensures.1 in
    rw p.1 (Front-longer (g.K.Sink.holds c.args.sink.now) (g.K.Sink.holds c.make_room.new.sink) c.args.held.now.items (packet_of c.args.item.now) c.in_err-make_room.ensures.front)

pub returns-in_err-put_frame-clause-front : goal.returns-in_err-put_frame-clause-front
returns-in_err-put_frame-clause-front g c =
    let a = g.K.Sink.holds c.args.sink.now in
    let b = g.K.Sink.holds c.make_room.new.sink in
    let held = c.make_room.new.held.items in
    let packet = packet_of c.args.item.now in
    let p = err_from_is_err_and c.from_residual-in_err-put_frame.result c.from_residual-in_err-put_frame.ensures.1 in
    rw p.1 (Front-put a b c.args.held.now.items (held ++ packet) packet
    (Puts-held a b c.args.held.now.items held (held ++ packet) packet c.in_ok-make_room.ensures.all refl))

pub returns-clause-all : goal.returns-clause-all
returns-clause-all g c =
    let held = c.make_room.new.held.items in
    Puts-held (g.K.Sink.holds c.args.sink.now) (g.K.Sink.holds c.make_room.new.sink) c.args.held.now.items held
    c.put_frame.new.out.items (packet_of c.args.item.now) c.in_ok-make_room.ensures.all
    (c.in_ok-put_frame.ensures.ok ∙ ap (λ (f : List ℕ). held ++ packet_bytes (record { tick = c.args.item.now.tick; frame = f })) c.as_slice.ensures)

use Rattle.std.proofs.Common.{◌≡◌, ℕ, ◌+◌, ◌<◌, List, ◌++◌, length, drop, get_or, sym, ap, ◌∙◌, subst}
use Rattle.std.proofs.lemmas.List.{drop_more}
use Rattle.std.proofs.lemmas.Result.{err_from_is_err_and}
use Rattle.network_model.specs.declared.delivered.Delivered.{Delivered}
use Rattle.script_run.specs.Play.{packet_of, packets_of}
use Rattle.script_run.proofs.Putting.{Putting, Putting-nil, Putting-more, Putting-front}
use Rattle.script_run.proofs.packets.put_packets.Goals as goal

-- what is left of the packets begins with the next one
packets_more : (seen : List Delivered) (i : ℕ) (next : Delivered) → i < length seen → next ≡ get_or seen i next
    → packets_of (drop i seen) ≡ packet_of next ++ packets_of (drop (i + 1) seen)
packets_more seen i next below is =
    ap packets_of (drop_more seen i next below)
    ∙ ap (λ d. packet_of d ++ packets_of (drop (i + 1) seen)) (sym is)

pub loop-item-init : goal.loop-item-init
loop-item-init g c = Putting-nil g.K.Sink.holds g.K.Sink.faults g.K.Sink.is_reliable c.args.sink.now c.args.held.now.items (packets_of c.args.seen.now)

pub returns-in_err-put_packet-clause-front : goal.returns-in_err-put_packet-clause-front
returns-in_err-put_packet-clause-front g c =
    let seen = c.args.seen.now in
    let i = c.loop-item.item-index in
    let next = c.item-item.result in
    let more = packets_more seen i next c.loop-item-test.true c.item-item.is in
    let p = err_from_is_err_and c.from_residual.result c.from_residual.ensures.1 in
    let putting = subst (Putting g.K.Sink.holds g.K.Sink.faults g.K.Sink.is_reliable c.args.sink.now c.loop-item.sink c.args.held.now.items c.loop-item.held.items (packets_of seen)) more c.loop-item.invariant in
    rw p.1 (Putting-front g.K.Sink.holds g.K.Sink.faults g.K.Sink.is_reliable c.args.sink.now c.loop-item.sink c.put_packet.new.sink c.args.held.now.items c.loop-item.held.items
    (packets_of seen) (packet_of next) (packets_of (drop (i + 1) seen)) putting c.in_err-put_packet.ensures.front)

pub loop-item-preserved : goal.loop-item-preserved
loop-item-preserved g c =
    let seen = c.args.seen.now in
    let i = c.loop-item.item-index in
    let next = c.item-item.result in
    let more = packets_more seen i next c.loop-item-test.true c.item-item.is in
    let putting = subst (Putting g.K.Sink.holds g.K.Sink.faults g.K.Sink.is_reliable c.args.sink.now c.loop-item.sink c.args.held.now.items c.loop-item.held.items (packets_of seen)) more c.loop-item.invariant in
    Putting-more g.K.Sink.holds g.K.Sink.faults g.K.Sink.is_reliable c.args.sink.now c.loop-item.sink c.put_packet.new.sink c.args.held.now.items c.loop-item.held.items c.put_packet.new.held.items
    (packets_of seen) (packet_of next) (packets_of (drop (i + 1) seen)) putting c.in_ok-put_packet.ensures.all c.in_ok-put_packet.ensures.count (λ h. (c.in_ok-put_packet.ensures.reliable h).1)

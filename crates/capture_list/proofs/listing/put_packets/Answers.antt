use Rattle.std.proofs.Common.{◌≡◌, ℕ, ◌≤◌, ◌+◌, [], length, drop, Option, Some, Result, Ok, IfSome, refl, sym, ap, ◌∙◌, subst, append-nil, arith}
use Rattle.std.proofs.lemmas.Result.{err_from_is_err_and, on_ok_weaker, on_err_weaker, IfOk-weaker}
use Rattle.frame_capture.specs.Capture.{seen, listed}
use Rattle.frame_capture.specs.declared.delivered.Delivered.{Delivered}
use Rattle.frame_capture.specs.declared.error.CaptureError.{CaptureError}
use Rattle.frame_capture.specs.declared.reading.Packet.{Packet}
use Rattle.script_run.specs.declared.refusal.Refusal.TheVariants.{Capture}
use Rattle.script_run.specs.declared.status.Status.TheVariants.{Refused}
use Rattle.capture_list.specs.Listing.{Listing, frame_line, refused_line, told}
use Rattle.script_run.specs.Puts.{Puts}
use Rattle.script_run.proofs.Putting.{Putting, Putting-nil, Putting-more, Putting-last, Putting-all, Putting-front}
use Rattle.capture_list.proofs.Telling.{goes_on, goes_on_to, nothing_on, cut_off}
use Rattle.capture_list.proofs.listing.put_packets.Goals as goal

-- what stands in a packet that is there
packet_is : (f : Option Packet) (p : Packet) (at : ℕ) → f ≡ Some p → IfSome f (λ q. q.next ≡ at + 16 + length q.frame.now) → p.next ≡ at + 16 + length p.frame.now
packet_is f p at is next = subst (λ (x : Option Packet). IfSome x (λ q. q.next ≡ at + 16 + length q.frame.now)) is next

seen_is : (f : Option Packet) (p : Packet) (r : Result (Option Delivered) CaptureError) → f ≡ Some p → seen (Ok f) ≡ r → r ≡ Ok (Some (record { tick = p.seconds; frame = p.frame.now }))
seen_is f p r is seen_so = sym seen_so ∙ ap (λ (x : Option Packet). seen (Ok x)) is

pub loop-packet-init : goal.loop-packet-init
loop-packet-init g c = (
  Putting-nil g.K.Sink.holds g.K.Sink.faults g.K.Sink.is_reliable c.args.sink.now c.args.held.now.items (told 0 (listed c.args.order (drop 24 c.args.bytes.now))).text,
  refl,
  omega arith,
)

pub returns-in-Ok-None-clause-all : goal.returns-in-Ok-None-clause-all
returns-in-Ok-None-clause-all g c =
    let o = c.args.order in
    let bytes = c.args.bytes.now in
    let none = sym c.packet_at.ensures.packet ∙ ap seen (c.in-Ok-None.is ∙ ap Ok c.in-Ok-None.field-0-is) in
    Putting-all g.K.Sink.holds g.K.Sink.faults g.K.Sink.is_reliable c.args.sink.now c.loop-packet.sink c.args.held.now.items c.loop-packet.held.items
    (told 0 (listed o (drop 24 bytes))).text (told c.loop-packet.number (listed o (drop c.loop-packet.at bytes))).text c.loop-packet.invariant.0
    (ap (λ (l : Listing). l.text) (nothing_on o c.loop-packet.number c.loop-packet.at bytes none))

pub returns-in-Ok-None-clause-status : goal.returns-in-Ok-None-clause-status
returns-in-Ok-None-clause-status g c =
    let none = sym c.packet_at.ensures.packet ∙ ap seen (c.in-Ok-None.is ∙ ap Ok c.in-Ok-None.field-0-is) in
    sym (c.loop-packet.invariant.1 ∙ ap (λ (l : Listing). l.status) (nothing_on c.args.order c.loop-packet.number c.loop-packet.at c.args.bytes.now none))

pub returns-in_err-put_line-in-Ok-Some-clause-front : goal.returns-in_err-put_line-in-Ok-Some-clause-front
returns-in_err-put_line-in-Ok-Some-clause-front g c =
    let p = err_from_is_err_and c.from_residual.result c.from_residual.ensures.1 in
    let o = c.args.order in
    let bytes = c.args.bytes.now in
    let packet = c.in-Ok-Some.packet in
    let d : Delivered = record { tick = packet.seconds; frame = packet.frame.now } in
    let whole = (told 0 (listed o (drop 24 bytes))).text in
    let found = seen_is c.in-Ok-Some.field-0 packet _ c.in-Ok-Some.field-0-is c.in-Ok-Some.ensures.packet in
    let next = packet_is c.in-Ok-Some.field-0 packet c.loop-packet.at c.in-Ok-Some.field-0-is c.in-Ok-Some.ensures.next in
    let more = goes_on o c.loop-packet.number c.loop-packet.at packet.next bytes d found next in
    let putting =
    subst (Putting g.K.Sink.holds g.K.Sink.faults g.K.Sink.is_reliable c.args.sink.now c.loop-packet.sink c.args.held.now.items c.loop-packet.held.items whole) more c.loop-packet.invariant.0 in
    rw p.1 (Putting-front g.K.Sink.holds g.K.Sink.faults g.K.Sink.is_reliable c.args.sink.now c.loop-packet.sink c.put_line.new.sink c.args.held.now.items c.loop-packet.held.items
    whole (frame_line d) (told (c.loop-packet.number + 1) (listed o (drop packet.next bytes))).text putting c.in_err-put_line-in-Ok-Some.ensures.front)

pub loop-packet-preserved : goal.loop-packet-preserved
loop-packet-preserved g c =
    let o = c.args.order in
    let bytes = c.args.bytes.now in
    let n = c.loop-packet.number in
    let at = c.loop-packet.at in
    let packet = c.in-Ok-Some.packet in
    let d : Delivered = record { tick = packet.seconds; frame = packet.frame.now } in
    let whole = (told 0 (listed o (drop 24 bytes))).text in
    let found = seen_is c.in-Ok-Some.field-0 packet _ c.in-Ok-Some.field-0-is c.in-Ok-Some.ensures.packet in
    let next = packet_is c.in-Ok-Some.field-0 packet at c.in-Ok-Some.field-0-is c.in-Ok-Some.ensures.next in
    let low : n ≤ at = c.loop-packet.invariant.2 in
    let putting =
    subst (Putting g.K.Sink.holds g.K.Sink.faults g.K.Sink.is_reliable c.args.sink.now c.loop-packet.sink c.args.held.now.items c.loop-packet.held.items whole) (goes_on o n at packet.next bytes d found next) c.loop-packet.invariant.0 in (
      Putting-more g.K.Sink.holds g.K.Sink.faults g.K.Sink.is_reliable c.args.sink.now c.loop-packet.sink c.put_line.new.sink c.args.held.now.items c.loop-packet.held.items c.put_line.new.held.items
          whole (frame_line d) (told (n + 1) (listed o (drop packet.next bytes))).text putting c.in_ok-put_line-in-Ok-Some.ensures.all c.in_ok-put_line-in-Ok-Some.ensures.count
          (λ h. (c.in_ok-put_line-in-Ok-Some.ensures.reliable h).1),
      c.loop-packet.invariant.1 ∙ goes_on_to o n at packet.next bytes d found next,
      omega (arith, low, next),
    )

pub returns-in-Err-clause-all : goal.returns-in-Err-clause-all
returns-in-Err-clause-all g c =
    let o = c.args.order in
    let bytes = c.args.bytes.now in
    let cut = cut_off o c.loop-packet.number c.loop-packet.at bytes c.in-Err.field-0 (sym c.in-Err.ensures.packet) in
    let rest = (told c.loop-packet.number (listed o (drop c.loop-packet.at bytes))).text in
    on_ok_weaker c.put_refused.result
    (λ h. Putting-last g.K.Sink.holds g.K.Sink.faults g.K.Sink.is_reliable c.args.sink.now c.loop-packet.sink c.put_refused.new.sink c.args.held.now.items c.loop-packet.held.items c.put_refused.new.held.items
    (told 0 (listed o (drop 24 bytes))).text rest c.loop-packet.invariant.0
    (subst (Puts (g.K.Sink.holds c.loop-packet.sink) (g.K.Sink.holds c.put_refused.new.sink) c.loop-packet.held.items c.put_refused.new.held.items) (sym (ap (λ (l : Listing). l.text) cut)) h))
    c.put_refused.ensures.all

pub returns-in-Err-clause-status : goal.returns-in-Err-clause-status
returns-in-Err-clause-status g c =
    let o = c.args.order in
    let bytes = c.args.bytes.now in
    let cut = cut_off o c.loop-packet.number c.loop-packet.at bytes c.in-Err.field-0 (sym c.in-Err.ensures.packet) in
    let same = c.loop-packet.invariant.1 ∙ ap (λ (l : Listing). l.status) cut in
    IfOk-weaker c.put_refused.result (λ status. status ≡ Refused (c.loop-packet.number + 1) Capture) (λ status. status ≡ (told 0 (listed o (drop 24 bytes))).status)
    (λ status e. e ∙ sym same) c.put_refused.ensures.status

pub returns-in-Err-clause-front : goal.returns-in-Err-clause-front
returns-in-Err-clause-front g c =
    let o = c.args.order in
    let bytes = c.args.bytes.now in
    let line = refused_line (c.loop-packet.number + 1) in
    let cut = cut_off o c.loop-packet.number c.loop-packet.at bytes c.in-Err.field-0 (sym c.in-Err.ensures.packet) in
    let whole = (told 0 (listed o (drop 24 bytes))).text in
    let putting =
    subst (Putting g.K.Sink.holds g.K.Sink.faults g.K.Sink.is_reliable c.args.sink.now c.loop-packet.sink c.args.held.now.items c.loop-packet.held.items whole)
    (ap (λ (l : Listing). l.text) cut ∙ sym (append-nil line)) c.loop-packet.invariant.0 in
    on_err_weaker c.put_refused.result
    (λ f. Putting-front g.K.Sink.holds g.K.Sink.faults g.K.Sink.is_reliable c.args.sink.now c.loop-packet.sink c.put_refused.new.sink c.args.held.now.items c.loop-packet.held.items
    whole line [] putting f) c.put_refused.ensures.front

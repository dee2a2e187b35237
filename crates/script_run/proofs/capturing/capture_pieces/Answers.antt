use Rattle.std.proofs.Common.{◌≡◌, ◌⊎◌, ◌∙◌, IfSome, Result, Err, inl, inr, sym}
use Rattle.std.proofs.lemmas.Result.{err_from_is_err_and, IfOk-weaker, on_err_weaker}
use Rattle.spb_network.specs.Network.{state_of}
use Rattle.spb_outside.specs.declared.sink.WriteError.{WriteError}
use Rattle.spb_outside.specs.declared.sink.WriteError.TheVariants as write
use Rattle.script_run.specs.declared.pieces.Break.{Break}
use Rattle.script_run.specs.declared.pieces.Break.TheVariants.{Read, Write, NoMemory}
use Rattle.script_run.specs.declared.status.Status.{Status}
use Rattle.script_run.specs.declared.voice.Voice.TheVariants.{Packets}
use Rattle.script_run.specs.Break.{break_of}
use Rattle.script_run.specs.Capturing.{capture_text}
use Rattle.script_run.specs.Pieces.{Completes}
use Rattle.script_run.specs.Text.{said_in}
use Rattle.script_run.proofs.Captured.{front_behind, completes_behind, whole_behind, soon_behind, front_of_header}
use Rattle.script_run.proofs.capturing.capture_pieces.Goals as goal

-- a write that failed is no read that failed, and is one of the other breaks
writes_no_read : (w : WriteError) (r : Result Status Break) → r ≡ Err (break_of w) → r ≡ Err Read → ⊥
writes_no_read write.Failed r is read = let e = sym is ∙ read in cc
writes_no_read write.NoMemory r is read = let e = sym is ∙ read in cc

writes_break : (w : WriteError) (r : Result Status Break) → r ≡ Err (break_of w) → (r ≡ Err Write) ⊎ (r ≡ Err NoMemory)
writes_break write.Failed r is = inl is
writes_break write.NoMemory r is = inr is

pub returns-in_err-write_header-clause-front : goal.returns-in_err-write_header-clause-front
returns-in_err-write_header-clause-front g c =
    let p = err_from_is_err_and c.from_residual.result c.from_residual.ensures.1 in
    rw p.1 (front_of_header (g.S.Source.left c.args.source.now) (g.K.Sink.holds c.args.sink.now) (g.K.Sink.holds c.write_header.new.sink) (state_of g.B.Bridge.shown c.args.network.now) c.in_err-write_header.ensures.front)

pub returns-clause-ends : goal.returns-clause-ends
returns-clause-ends g c =
    let s = state_of g.B.Bridge.shown c.args.network.now in
    let t = state_of g.B.Bridge.shown c.play_script.new.network in
    let left = g.S.Source.left c.args.source.now in
    let b = c.write_header.new.sink in
    let f = c.play_script.new.sink in
    IfOk-weaker c.play_script.result (λ status. IfSome left (λ script. Completes g.K.Sink.holds (said_in Packets) script status s t b f)) (λ status. IfSome left (λ script. Completes g.K.Sink.holds capture_text script status s t c.args.sink.now f))
    (λ status h. completes_behind g.K.Sink.holds s c.args.sink.now b f c.in_ok-write_header.ensures.all left status t h) c.play_script.ensures.ends

pub returns-clause-front : goal.returns-clause-front
returns-clause-front g c =
    on_err_weaker c.play_script.result
    (λ h. front_behind g.K.Sink.holds (state_of g.B.Bridge.shown c.args.network.now) c.args.sink.now c.write_header.new.sink c.play_script.new.sink c.in_ok-write_header.ensures.all (g.S.Source.left c.args.source.now) h)
    c.play_script.ensures.front

pub returns-clause-whole : goal.returns-clause-whole
returns-clause-whole g c is =
    whole_behind g.K.Sink.holds (state_of g.B.Bridge.shown c.args.network.now) c.args.sink.now c.write_header.new.sink c.play_script.new.sink c.in_ok-write_header.ensures.all
    (g.S.Source.left c.args.source.now) (g.S.Source.left c.play_script.new.source) (c.play_script.ensures.whole is)

pub returns-clause-prompt : goal.returns-clause-prompt
returns-clause-prompt g c =
    inr (soon_behind g.K.Sink.holds (state_of g.B.Bridge.shown c.args.network.now) c.args.sink.now c.write_header.new.sink c.play_script.new.sink c.in_ok-write_header.ensures.all
    (g.S.Source.left c.args.source.now) (g.S.Source.left c.play_script.new.source) c.play_script.ensures.prompt)

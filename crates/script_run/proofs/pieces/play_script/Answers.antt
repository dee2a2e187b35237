use Rattle.std.proofs.Common.{◌≡◌, ◌≤◌, ◌+◌, length, take, [], Ok, refl, sym, ap, subst, arith, length-take}
use Rattle.std.specs.Io.KnownBytes.{IsAtEnd}
use Rattle.std.proofs.KnownBytes.{Consumes-nil}
use Rattle.std.proofs.lemmas.Bool.Decides.{nat_tests}
use Rattle.std.specs.Io.KnownBytes.{Consumes}
use Rattle.std.proofs.lemmas.Result.{err_from_is_err_and}
use Rattle.scenario.specs.Cutting.{Cuts, start}
use Rattle.spb_network.specs.Network.{state_of}
use Rattle.script_run.specs.Pieces.{GoesOn, StandsAt}
use Rattle.script_run.proofs.Going.{goes_nothing}
use Rattle.script_run.proofs.Taking.{start_stands}
use Rattle.script_run.proofs.Reading.{read_few, fault_front, fault_whole, fault_soon, fault_reads, end_front, end_ends, end_few, end_own, end_reads, piece_soon, piece_front, piece_ends, piece_few, piece_own, piece_reads, piece_reading}
use Rattle.script_run.proofs.pieces.play_script.Goals as goal

pub loop-cutter-init : goal.loop-cutter-init
loop-cutter-init g c = (
  record {
    read = [];
    consumed = Consumes-nil (g.S.Source.left c.args.source.now);
    counted = refl;
    goes = subst (λ (d : Cuts). GoesOn c.args.voice g.K.Sink.holds [] (state_of g.B.Bridge.shown c.args.network.now) (state_of g.B.Bridge.shown c.args.network.now) 1 1 start d c.args.sink.now c.args.sink.now) (sym c.new-cutter.ensures) (goes_nothing c.args.voice g.K.Sink.holds (state_of g.B.Bridge.shown c.args.network.now) 1 start c.args.sink.now);
    stands = subst (λ (d : Cuts). StandsAt d 1) (sym c.new-cutter.ensures) start_stands;
    source_count = omega arith;
    source_reliable = λ h. h;
    sink_count = omega arith;
    sink_reliable = λ h. h;
  },
  omega arith,
  c.requires.alive,
)

pub read_piece-requires-clause-going : goal.read_piece-requires-clause-going
read_piece-requires-clause-going g c = omega (arith, read_few c.args.voice g.S.Source.left g.S.Source.faults g.S.Source.is_reliable g.K.Sink.holds g.K.Sink.faults g.K.Sink.is_reliable _ _ _ _ _ _ _ _ _ c.loop-cutter.invariant.0)

pub returns-in_err-count-clause-front : goal.returns-in_err-count-clause-front
returns-in_err-count-clause-front g c =
    let p = err_from_is_err_and c.from_residual.result c.from_residual.ensures.1 in
    rw p.1 (fault_front c.args.voice g.S.Source.left g.S.Source.faults g.S.Source.is_reliable g.K.Sink.holds g.K.Sink.faults g.K.Sink.is_reliable _ _ _ _ _ _ _ _ _ c.loop-cutter.invariant.0)

pub returns-in_err-count-clause-whole : goal.returns-in_err-count-clause-whole
returns-in_err-count-clause-whole g c is = fault_whole c.args.voice g.S.Source.left g.S.Source.faults g.S.Source.is_reliable g.K.Sink.holds g.K.Sink.faults g.K.Sink.is_reliable _ _ _ _ _ _ _ _ _ c.loop-cutter.invariant.0 (g.S.Source.left c.read_piece.new.source) c.in_err-count.ensures.kept

pub returns-in_err-count-clause-prompt : goal.returns-in_err-count-clause-prompt
returns-in_err-count-clause-prompt g c = fault_soon c.args.voice g.S.Source.left g.S.Source.faults g.S.Source.is_reliable g.K.Sink.holds g.K.Sink.faults g.K.Sink.is_reliable _ _ _ _ _ _ _ _ _ c.loop-cutter.invariant.0 (g.S.Source.left c.read_piece.new.source) c.in_err-count.ensures.kept

pub returns-in_err-count-clause-reads : goal.returns-in_err-count-clause-reads
returns-in_err-count-clause-reads g c =
    let p = err_from_is_err_and c.from_residual.result c.from_residual.ensures.1 in
    fault_reads c.args.voice g.S.Source.left g.S.Source.faults g.S.Source.is_reliable g.K.Sink.holds g.K.Sink.faults g.K.Sink.is_reliable _ _ _ _ _ _ _ _ _ c.loop-cutter.invariant.0 (g.S.Source.left c.read_piece.new.source) _ c.in_err-count.ensures.kept (λ k w. let a = w.1 in let b = p.1 in cc)

pub returns-in_err-end_script-clause-front : goal.returns-in_err-end_script-clause-front
returns-in_err-end_script-clause-front g c =
    let none : c.in_ok-count.count ≡ 0 = grind (arith, nat_tests, c.if-count-eq0.true) in
    let nothing : take c.in_ok-count.count c.read_piece.new.buffer ≡ [] = ap (λ k. take k c.read_piece.new.buffer) none in
    let end : IsAtEnd (g.S.Source.left c.read_piece.new.source) = c.in_ok-count.ensures.end (ap Ok none) in
    let p = err_from_is_err_and c.from_residual-in_err-end_script.result c.from_residual-in_err-end_script.ensures.1 in
    rw p.1 (end_front c.args.voice g.S.Source.left g.S.Source.faults g.S.Source.is_reliable g.K.Sink.holds g.K.Sink.faults g.K.Sink.is_reliable _ _ _ _ _ _ _ _ _ c.loop-cutter.invariant.0 (g.S.Source.left c.read_piece.new.source) (take c.in_ok-count.count c.read_piece.new.buffer) c.in_ok-count.ensures.bytes nothing c.end_script.new.sink end c.in_err-end_script.ensures.front)

pub returns-in_err-end_script-clause-prompt : goal.returns-in_err-end_script-clause-prompt
returns-in_err-end_script-clause-prompt g c =
    let piece = take c.in_ok-count.count c.read_piece.new.buffer in
    let gave : Consumes (g.S.Source.left c.loop-cutter.source) (g.S.Source.left c.read_piece.new.source) piece = c.in_ok-count.ensures.bytes in
    let short : length piece ≤ c.in_ok-count.count = omega (arith, length-take c.in_ok-count.count c.read_piece.new.buffer) in
    let front = c.in_err-end_script.ensures.front in
    piece_soon c.args.voice g.S.Source.left g.S.Source.faults g.S.Source.is_reliable g.K.Sink.holds g.K.Sink.faults g.K.Sink.is_reliable _ _ _ _ _ _ _ _ _ c.loop-cutter.invariant.0 (g.S.Source.left c.read_piece.new.source) piece gave front.front c.end_script.new.sink (omega (arith, short, c.in_ok-count.ensures.short)) front.grown

pub returns-in_err-end_script-clause-reads : goal.returns-in_err-end_script-clause-reads
returns-in_err-end_script-clause-reads g c =
    let none : c.in_ok-count.count ≡ 0 = grind (arith, nat_tests, c.if-count-eq0.true) in
    let nothing : take c.in_ok-count.count c.read_piece.new.buffer ≡ [] = ap (λ k. take k c.read_piece.new.buffer) none in
    let end : IsAtEnd (g.S.Source.left c.read_piece.new.source) = c.in_ok-count.ensures.end (ap Ok none) in
    let p = err_from_is_err_and c.from_residual-in_err-end_script.result c.from_residual-in_err-end_script.ensures.1 in
    end_reads c.args.voice g.S.Source.left g.S.Source.faults g.S.Source.is_reliable g.K.Sink.holds g.K.Sink.faults g.K.Sink.is_reliable _ _ _ _ _ _ _ _ _ c.loop-cutter.invariant.0 (g.S.Source.left c.read_piece.new.source) (take c.in_ok-count.count c.read_piece.new.buffer) c.in_ok-count.ensures.bytes nothing _ (λ k w. let a = w.1 in let b = p.1 in cc)

pub returns-then-count-eq0-clause-ends : goal.returns-then-count-eq0-clause-ends
returns-then-count-eq0-clause-ends g c =
    let none : c.in_ok-count.count ≡ 0 = grind (arith, nat_tests, c.if-count-eq0.true) in
    let nothing : take c.in_ok-count.count c.read_piece.new.buffer ≡ [] = ap (λ k. take k c.read_piece.new.buffer) none in
    let end : IsAtEnd (g.S.Source.left c.read_piece.new.source) = c.in_ok-count.ensures.end (ap Ok none) in
    end_ends c.args.voice g.S.Source.left g.S.Source.faults g.S.Source.is_reliable g.K.Sink.holds g.K.Sink.faults g.K.Sink.is_reliable _ _ _ _ _ _ _ _ _ c.loop-cutter.invariant.0 (g.S.Source.left c.read_piece.new.source) (take c.in_ok-count.count c.read_piece.new.buffer) c.in_ok-count.ensures.bytes nothing c.in_ok-end_script.field-0 _ c.end_script.new.sink end c.in_ok-end_script.ensures.ends

pub returns-then-count-eq0-clause-ended : goal.returns-then-count-eq0-clause-ended
returns-then-count-eq0-clause-ended g c is =
    let none : c.in_ok-count.count ≡ 0 = grind (arith, nat_tests, c.if-count-eq0.true) in
    let nothing : take c.in_ok-count.count c.read_piece.new.buffer ≡ [] = ap (λ k. take k c.read_piece.new.buffer) none in
    let end : IsAtEnd (g.S.Source.left c.read_piece.new.source) = c.in_ok-count.ensures.end (ap Ok none) in
    end

pub returns-then-count-eq0-clause-prompt : goal.returns-then-count-eq0-clause-prompt
returns-then-count-eq0-clause-prompt g c =
    let piece = take c.in_ok-count.count c.read_piece.new.buffer in
    let gave : Consumes (g.S.Source.left c.loop-cutter.source) (g.S.Source.left c.read_piece.new.source) piece = c.in_ok-count.ensures.bytes in
    let short : length piece ≤ c.in_ok-count.count = omega (arith, length-take c.in_ok-count.count c.read_piece.new.buffer) in
    let ends = c.in_ok-end_script.ensures.ends in
    piece_soon c.args.voice g.S.Source.left g.S.Source.faults g.S.Source.is_reliable g.K.Sink.holds g.K.Sink.faults g.K.Sink.is_reliable _ _ _ _ _ _ _ _ _ c.loop-cutter.invariant.0 (g.S.Source.left c.read_piece.new.source) piece gave ends.written c.end_script.new.sink (omega (arith, short, c.in_ok-count.ensures.short)) ends.grown

pub returns-then-count-eq0-clause-reads : goal.returns-then-count-eq0-clause-reads
returns-then-count-eq0-clause-reads g c =
    let none : c.in_ok-count.count ≡ 0 = grind (arith, nat_tests, c.if-count-eq0.true) in
    let nothing : take c.in_ok-count.count c.read_piece.new.buffer ≡ [] = ap (λ k. take k c.read_piece.new.buffer) none in
    let end : IsAtEnd (g.S.Source.left c.read_piece.new.source) = c.in_ok-count.ensures.end (ap Ok none) in
    end_reads c.args.voice g.S.Source.left g.S.Source.faults g.S.Source.is_reliable g.K.Sink.holds g.K.Sink.faults g.K.Sink.is_reliable _ _ _ _ _ _ _ _ _ c.loop-cutter.invariant.0 (g.S.Source.left c.read_piece.new.source) (take c.in_ok-count.count c.read_piece.new.buffer) c.in_ok-count.ensures.bytes nothing _ (λ k w. c.in_ok-end_script.ensures.ends.line k w.0 (let a = w.1 in cc))

pub returns-then-count-eq0-clause-few : goal.returns-then-count-eq0-clause-few
returns-then-count-eq0-clause-few g c =
    let none : c.in_ok-count.count ≡ 0 = grind (arith, nat_tests, c.if-count-eq0.true) in
    let nothing : take c.in_ok-count.count c.read_piece.new.buffer ≡ [] = ap (λ k. take k c.read_piece.new.buffer) none in
    let end : IsAtEnd (g.S.Source.left c.read_piece.new.source) = c.in_ok-count.ensures.end (ap Ok none) in
    end_few c.args.voice g.S.Source.left g.S.Source.faults g.S.Source.is_reliable g.K.Sink.holds g.K.Sink.faults g.K.Sink.is_reliable _ _ _ _ _ _ _ _ _ c.loop-cutter.invariant.0 (g.S.Source.left c.read_piece.new.source) (take c.in_ok-count.count c.read_piece.new.buffer) c.in_ok-count.ensures.bytes nothing _ _ _ c.in_ok-end_script.ensures.ends

pub returns-then-count-eq0-clause-own : goal.returns-then-count-eq0-clause-own
returns-then-count-eq0-clause-own g c =
    let none : c.in_ok-count.count ≡ 0 = grind (arith, nat_tests, c.if-count-eq0.true) in
    let nothing : take c.in_ok-count.count c.read_piece.new.buffer ≡ [] = ap (λ k. take k c.read_piece.new.buffer) none in
    let end : IsAtEnd (g.S.Source.left c.read_piece.new.source) = c.in_ok-count.ensures.end (ap Ok none) in
    end_own c.args.voice g.S.Source.left g.S.Source.faults g.S.Source.is_reliable g.K.Sink.holds g.K.Sink.faults g.K.Sink.is_reliable _ _ _ _ _ _ _ _ _ c.loop-cutter.invariant.0 (g.S.Source.left c.read_piece.new.source) (take c.in_ok-count.count c.read_piece.new.buffer) c.in_ok-count.ensures.bytes nothing _ _ _ c.in_ok-end_script.ensures.ends

pub returns-in_err-status-clause-front : goal.returns-in_err-status-clause-front
returns-in_err-status-clause-front g c =
    let piece = take c.in_ok-count.count c.read_piece.new.buffer in
    let gave : Consumes (g.S.Source.left c.loop-cutter.source) (g.S.Source.left c.read_piece.new.source) piece = c.in_ok-count.ensures.bytes in
    let p = err_from_is_err_and c.from_residual-in_err-status.result c.from_residual-in_err-status.ensures.1 in
    rw p.1 (piece_front c.args.voice g.S.Source.left g.S.Source.faults g.S.Source.is_reliable g.K.Sink.holds g.K.Sink.faults g.K.Sink.is_reliable _ _ _ _ _ _ _ _ _ c.loop-cutter.invariant.0 (g.S.Source.left c.read_piece.new.source) piece gave c.play_piece.new.sink c.in_err-status.ensures.breaks)

pub returns-in_err-status-clause-prompt : goal.returns-in_err-status-clause-prompt
returns-in_err-status-clause-prompt g c =
    let piece = take c.in_ok-count.count c.read_piece.new.buffer in
    let gave : Consumes (g.S.Source.left c.loop-cutter.source) (g.S.Source.left c.read_piece.new.source) piece = c.in_ok-count.ensures.bytes in
    let short : length piece ≤ c.in_ok-count.count = omega (arith, length-take c.in_ok-count.count c.read_piece.new.buffer) in
    let front = c.in_err-status.ensures.breaks [] in
    piece_soon c.args.voice g.S.Source.left g.S.Source.faults g.S.Source.is_reliable g.K.Sink.holds g.K.Sink.faults g.K.Sink.is_reliable _ _ _ _ _ _ _ _ _ c.loop-cutter.invariant.0 (g.S.Source.left c.read_piece.new.source) piece gave front.front c.play_piece.new.sink (omega (arith, short, c.in_ok-count.ensures.short)) front.grown

pub returns-in_err-status-clause-reads : goal.returns-in_err-status-clause-reads
returns-in_err-status-clause-reads g c =
    let piece = take c.in_ok-count.count c.read_piece.new.buffer in
    let gave : Consumes (g.S.Source.left c.loop-cutter.source) (g.S.Source.left c.read_piece.new.source) piece = c.in_ok-count.ensures.bytes in
    let short : length piece ≤ c.in_ok-count.count = omega (arith, length-take c.in_ok-count.count c.read_piece.new.buffer) in
    let p = err_from_is_err_and c.from_residual-in_err-status.result c.from_residual-in_err-status.ensures.1 in
    piece_reads c.args.voice g.S.Source.left g.S.Source.faults g.S.Source.is_reliable g.K.Sink.holds g.K.Sink.faults g.K.Sink.is_reliable _ _ _ _ _ _ _ _ _ c.loop-cutter.invariant.0 (g.S.Source.left c.read_piece.new.source) piece gave _ (λ k w. let a = w.1 in let b = p.1 in cc) (omega (arith, short, c.in_ok-count.ensures.short)) (omega (arith, short, c.in_ok-count.ensures.few))

pub returns-in-Some-clause-ends : goal.returns-in-Some-clause-ends
returns-in-Some-clause-ends g c =
    let piece = take c.in_ok-count.count c.read_piece.new.buffer in
    let gave : Consumes (g.S.Source.left c.loop-cutter.source) (g.S.Source.left c.read_piece.new.source) piece = c.in_ok-count.ensures.bytes in
    piece_ends c.args.voice g.S.Source.left g.S.Source.faults g.S.Source.is_reliable g.K.Sink.holds g.K.Sink.faults g.K.Sink.is_reliable _ _ _ _ _ _ _ _ _ c.loop-cutter.invariant.0 (g.S.Source.left c.read_piece.new.source) piece gave c.in-Some.status _ c.play_piece.new.sink (c.in_ok-status.ensures.ends c.in-Some.status (ap Ok c.in-Some.is))

pub returns-in-Some-clause-ended : goal.returns-in-Some-clause-ended
returns-in-Some-clause-ended g c is = let ends = c.in_ok-status.ensures.ends c.in-Some.status (ap Ok c.in-Some.is) in absurd (ends.stops cc)

pub returns-in-Some-clause-prompt : goal.returns-in-Some-clause-prompt
returns-in-Some-clause-prompt g c =
    let piece = take c.in_ok-count.count c.read_piece.new.buffer in
    let gave : Consumes (g.S.Source.left c.loop-cutter.source) (g.S.Source.left c.read_piece.new.source) piece = c.in_ok-count.ensures.bytes in
    let short : length piece ≤ c.in_ok-count.count = omega (arith, length-take c.in_ok-count.count c.read_piece.new.buffer) in
    let ends = c.in_ok-status.ensures.ends c.in-Some.status (ap Ok c.in-Some.is) in
    piece_soon c.args.voice g.S.Source.left g.S.Source.faults g.S.Source.is_reliable g.K.Sink.holds g.K.Sink.faults g.K.Sink.is_reliable _ _ _ _ _ _ _ _ _ c.loop-cutter.invariant.0 (g.S.Source.left c.read_piece.new.source) piece gave ends.written c.play_piece.new.sink (omega (arith, short, c.in_ok-count.ensures.short)) ends.grown

pub returns-in-Some-clause-reads : goal.returns-in-Some-clause-reads
returns-in-Some-clause-reads g c =
    let piece = take c.in_ok-count.count c.read_piece.new.buffer in
    let gave : Consumes (g.S.Source.left c.loop-cutter.source) (g.S.Source.left c.read_piece.new.source) piece = c.in_ok-count.ensures.bytes in
    let short : length piece ≤ c.in_ok-count.count = omega (arith, length-take c.in_ok-count.count c.read_piece.new.buffer) in
    let ends = c.in_ok-status.ensures.ends c.in-Some.status (ap Ok c.in-Some.is) in
    piece_reads c.args.voice g.S.Source.left g.S.Source.faults g.S.Source.is_reliable g.K.Sink.holds g.K.Sink.faults g.K.Sink.is_reliable _ _ _ _ _ _ _ _ _ c.loop-cutter.invariant.0 (g.S.Source.left c.read_piece.new.source) piece gave _ (λ k w. ends.line k w.0 (let a = w.1 in cc)) (omega (arith, short, c.in_ok-count.ensures.short)) (omega (arith, short, c.in_ok-count.ensures.few))

pub returns-in-Some-clause-few : goal.returns-in-Some-clause-few
returns-in-Some-clause-few g c =
    let piece = take c.in_ok-count.count c.read_piece.new.buffer in
    let gave : Consumes (g.S.Source.left c.loop-cutter.source) (g.S.Source.left c.read_piece.new.source) piece = c.in_ok-count.ensures.bytes in
    piece_few c.args.voice g.S.Source.left g.S.Source.faults g.S.Source.is_reliable g.K.Sink.holds g.K.Sink.faults g.K.Sink.is_reliable _ _ _ _ _ _ _ _ _ c.loop-cutter.invariant.0 (g.S.Source.left c.read_piece.new.source) piece gave c.in-Some.status _ c.play_piece.new.sink (c.in_ok-status.ensures.ends c.in-Some.status (ap Ok c.in-Some.is))

pub returns-in-Some-clause-own : goal.returns-in-Some-clause-own
returns-in-Some-clause-own g c =
    let piece = take c.in_ok-count.count c.read_piece.new.buffer in
    let gave : Consumes (g.S.Source.left c.loop-cutter.source) (g.S.Source.left c.read_piece.new.source) piece = c.in_ok-count.ensures.bytes in
    piece_own c.args.voice g.S.Source.left g.S.Source.faults g.S.Source.is_reliable g.K.Sink.holds g.K.Sink.faults g.K.Sink.is_reliable _ _ _ _ _ _ _ _ _ c.loop-cutter.invariant.0 (g.S.Source.left c.read_piece.new.source) piece gave c.in-Some.status _ c.play_piece.new.sink (c.in_ok-status.ensures.ends c.in-Some.status (ap Ok c.in-Some.is))

pub loop-cutter-preserved : goal.loop-cutter-preserved
loop-cutter-preserved g c =
    let piece = take c.in_ok-count.count c.read_piece.new.buffer in
    let gave : Consumes (g.S.Source.left c.loop-cutter.source) (g.S.Source.left c.read_piece.new.source) piece = c.in_ok-count.ensures.bytes in
    let short : length piece ≤ c.in_ok-count.count = omega (arith, length-take c.in_ok-count.count c.read_piece.new.buffer) in
    let all : length piece ≡ c.in_ok-count.count = omega (arith, length-take c.in_ok-count.count c.read_piece.new.buffer, c.in_ok-count.ensures.short, c.loop-cutter.invariant.1, c.read_piece.auto.buffer) in (
      piece_reading c.args.voice g.S.Source.left g.S.Source.faults g.S.Source.is_reliable g.K.Sink.holds g.K.Sink.faults g.K.Sink.is_reliable _ _ _ _ _ _ _ _ _ c.loop-cutter.invariant.0 (g.S.Source.left c.read_piece.new.source) piece gave _ _ _ c.play_piece.new.sink c.read_piece.new.source (c.loop-cutter.read + c.in_ok-count.count) (omega (arith, all)) refl (c.in_ok-status.ensures.goes_on (ap Ok c.in_default.is)) c.in_ok-count.ensures.count (λ h. (c.in_ok-count.ensures.reliable h).1) c.in_ok-status.ensures.count (λ h. (c.in_ok-status.ensures.reliable h).1),
      omega (arith, c.loop-cutter.invariant.1, c.read_piece.auto.buffer),
      c.in_ok-status.ensures.alive,
    )

use Rattle.std.proofs.Common.{◌≤◌, length, take, arith, length-take}
use Rattle.capture_list.proofs.Gathering.{few_more}
use Rattle.capture_list.proofs.reading.read_all.Goals as goal

pub returns-in_err-extend_from_slice-clause-few : goal.returns-in_err-extend_from_slice-clause-few
returns-in_err-extend_from_slice-clause-few g c =
    let piece = take c.in_ok-count.count c.read_piece.new.buffer in
    let short : length piece ≤ c.in_ok-count.count = omega (arith, length-take c.in_ok-count.count c.read_piece.new.buffer) in
    few_more (g.S.Source.left c.args.source.now) (g.S.Source.left c.loop-bytes.source) (g.S.Source.left c.read_piece.new.source) c.loop-bytes.bytes.items piece c.len.result
    c.in_ok-count.count c.loop-bytes.invariant.0.consumed c.in_ok-count.ensures.bytes short (omega (arith, c.len.ensures, c.loop-bytes.bytes.ok)) c.in_ok-count.ensures.few

pub returns-then-len-gt-MOST_LISTED-clause-few : goal.returns-then-len-gt-MOST_LISTED-clause-few
returns-then-len-gt-MOST_LISTED-clause-few g c =
    let piece = take c.in_ok-count.count c.read_piece.new.buffer in
    let short : length piece ≤ c.in_ok-count.count = omega (arith, length-take c.in_ok-count.count c.read_piece.new.buffer) in
    few_more (g.S.Source.left c.args.source.now) (g.S.Source.left c.loop-bytes.source) (g.S.Source.left c.read_piece.new.source) c.loop-bytes.bytes.items piece c.len.result
    c.in_ok-count.count c.loop-bytes.invariant.0.consumed c.in_ok-count.ensures.bytes short (omega (arith, c.len.ensures, c.loop-bytes.bytes.ok)) c.in_ok-count.ensures.few

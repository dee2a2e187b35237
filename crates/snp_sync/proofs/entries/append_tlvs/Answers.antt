use Rattle.std.proofs.Common.{rules, ◌≡◌, length, min, ap, ◌∙◌}
use Rattle.std.specs.Slice.Iter.{chunks_rest}
use Rattle.snp_sync.proofs.Cuts.{written_none, written_more, written_all}
use Rattle.snp_sync.proofs.entries.append_tlvs.Goals as goal

pub loop-chunk-init : goal.loop-chunk-init
loop-chunk-init c = (search rules, tt, search rules, written_none _ _ _ (search rules))

pub loop-chunk-preserved : goal.loop-chunk-preserved
loop-chunk-preserved c =
    let steps = c.in-Some.ensures.steps in
    let rest = chunks_rest c.loop-chunk.chunk-iterator in
    let size : length c.in-Some.chunk.now ≡ min 15 (length rest) = steps.1.1 ∙ ap (λ n. min n (length rest)) c.loop-chunk.invariant.2 in
    (search rules, tt, search rules, written_more _ _ rest c.in-Some.chunk.now _ _ _ c.loop-chunk.invariant.3 steps.1.0 size steps.1.2 c.in_ok-write_entries.ensures.len c.in_ok-write_entries.ensures.ok)

pub returns : goal.returns
returns c =
    let all = written_all _ _ _ _ c.loop-chunk.invariant.3 c.in-None.ensures.steps.1.0 in
    record { tlvs = all.0; length = all.1 }

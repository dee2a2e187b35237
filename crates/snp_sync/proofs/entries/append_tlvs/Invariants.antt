use Rattle.std.proofs.Common.{◌≡◌}
use Rattle.std.specs.Slice.Iter.{chunks_rest, chunks_size}
use Rattle.snp_sync.proofs.Cuts.{Written}
use Rattle.snp_sync.proofs.entries.append_tlvs.Given as goal

abbrev pub invariant-loop-chunk : goal.invariant-loop-chunk
invariant-loop-chunk l =
    goal.iterator-loop-chunk.can_next l.chunk-iterator
    × goal.iterator-loop-chunk.is_finite l.chunk-iterator
    × (chunks_size l.chunk-iterator ≡ 15)
    × Written l.fn.bytes.items l.entries (chunks_rest l.chunk-iterator) l.out.items

use Rattle.std.proofs.Common.{◌≡◌}
use Rattle.std.specs.Slice.Iter.{chunks_rest, chunks_size}
use Rattle.bridge_control.proofs.Sends.{Requested}
use Rattle.bridge_control.proofs.sending.send_psnps.Given as goal

abbrev pub invariant-send : goal.invariant-send
invariant-send l =
    goal.iterator-send.can_next l.chunk-iterator
    × goal.iterator-send.is_finite l.chunk-iterator
    × (chunks_size l.chunk-iterator ≡ 90)
    × Requested l.system l.number l.entries (chunks_rest l.chunk-iterator) l.initial.outbox l.outbox

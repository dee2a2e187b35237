use Rattle.std.proofs.Common.{◌≡◌, ◌+◌, length, drop}
use Rattle.isis_pdu.specs.Checksum.{total, weight}
use Rattle.isis_pdu.proofs.checksum.totals.Given as goal

-- what was added, and what is left to add
abbrev pub invariant-loop-byte : goal.invariant-loop-byte
invariant-loop-byte l =
    (l.total + total (drop l.byte-index l.bytes) ≡ total l.bytes)
    × (l.weight + weight (drop l.byte-index l.bytes) ≡ weight l.bytes)
    × (l.place ≡ length (drop l.byte-index l.bytes))

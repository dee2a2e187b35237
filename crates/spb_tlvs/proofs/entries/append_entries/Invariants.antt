use Rattle.std.proofs.Common.{◌≡◌, ◌++◌, map, take}
use Rattle.spb_tlvs.specs.Entry.{entry_at}
use Rattle.spb_tlvs.proofs.entries.append_entries.Given as goal

-- the entries so far stand behind those that stood
abbrev pub invariant-loop-chunk : goal.invariant-loop-chunk
invariant-loop-chunk l = l.entries.items ≡ l.fn.entries.items ++ map entry_at (take l.chunk-index l.chunks)

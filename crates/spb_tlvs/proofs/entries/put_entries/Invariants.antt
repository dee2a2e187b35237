use Rattle.std.proofs.Common.{◌≡◌, ◌*◌, ◌++◌, ◌∷◌, length, take}
use Rattle.std.specs.List.{flat_map}
use Rattle.spb_tlvs.specs.Entry.{entry_bytes}
use Rattle.spb_tlvs.proofs.entries.put_entries.Given as goal

abbrev pub invariant-loop-entry : goal.invariant-loop-entry
invariant-loop-entry l =
    (l.out.items ≡ l.fn.out.items ++ 9 ∷ (16 * length l.items) ∷ flat_map entry_bytes (take l.entry-index l.items))
    × (length (flat_map entry_bytes (take l.entry-index l.items)) ≡ 16 * l.entry-index)

-- Lists cut into chunks.
use Rattle.std.specs.Prelude.{ℕ, zero, suc, ◌+◌, ◌*◌, ◌/◌, List, [], ◌∷◌, length, take, drop}
use Rattle.std.specs.List.{flat_map}
use Rattle.spb_tlvs.specs.declared.entries.SnpEntry.{SnpEntry}
use Rattle.spb_tlvs.specs.Tlv.{tlv}
use Rattle.spb_tlvs.specs.Entry.{entries_value}

-- a list in chunks of n items, the last with the rest: at most so many chunks
unfoldable pub chunks_within : {A : Type 0} → ℕ → ℕ → List A → List (List A)
chunks_within zero n xs = []
chunks_within (suc most) n [] = []
chunks_within (suc most) n (x ∷ xs) = take n (x ∷ xs) ∷ chunks_within most n (drop n (x ∷ xs))

-- all of them: there are no more chunks than items
unfoldable pub chunks : {A : Type 0} → ℕ → List A → List (List A)
chunks n xs = chunks_within (length xs) n xs

-- the TLVs 9 of entries: 15 entries in each, the last with the rest
unfoldable pub entry_tlvs : List SnpEntry → List ℕ
entry_tlvs entries = flat_map (λ chunk. tlv 9 (entries_value chunk)) (chunks 15 entries)

-- how many bytes the TLVs of so many entries of 16 bytes have: those of the entries, and 2 for each TLV
abbrev pub tlvs_length : ℕ → ℕ
tlvs_length n = 2 * ((n + 14) / 15) + 16 * n

-- the chunks of a list; of the empty list one chunk, which is empty
abbrev pub chunks_or_one : {A : Type 0} → ℕ → List A → List (List A)
chunks_or_one n [] = [] ∷ []
chunks_or_one n (x ∷ xs) = chunks n (x ∷ xs)

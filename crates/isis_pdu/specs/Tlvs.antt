-- Whole TLVs (ISO/IEC 10589, clause 9: code, length, value).
use Rattle.std.specs.Prelude.{ℕ, zero, suc, List, [], ◌∷◌, Bool, true, false}

-- whether the bytes are this many bytes of a value, and whole TLVs after them
unfoldable pub is_whole_after : ℕ → List ℕ → Bool
is_whole_after zero [] = true
is_whole_after zero (code ∷ []) = false
is_whole_after zero (code ∷ len ∷ bytes) = is_whole_after len bytes
is_whole_after (suc left) [] = false
is_whole_after (suc left) (byte ∷ bytes) = is_whole_after left bytes

-- whether the bytes are whole TLVs, one after another: each has a code, the length of its value, and so many bytes
abbrev pub is_whole : List ℕ → Bool
is_whole bytes = is_whole_after 0 bytes

-- How numbers stand in a frame: the greatest byte first (ISO/IEC 10589, 9.1).
use Rattle.std.specs.Prelude.{ℕ, List, drop}
use Rattle.std.specs.Int.{w16, w32, to_be_bytes}

-- the two, three or four bytes of a number
abbrev pub two : ℕ → List ℕ
two n = to_be_bytes w16 n

abbrev pub three : ℕ → List ℕ
three n = drop 1 (to_be_bytes w32 n)

abbrev pub four : ℕ → List ℕ
four n = to_be_bytes w32 n

-- Bytes that are pieces, one after another: a piece is a head, whose last byte counts the bytes that follow the head,
-- and those bytes.
use Rattle.std.specs.Prelude.{ℕ, zero, suc, ◌+◌, ◌-◌, List, [], ◌∷◌, length, take, drop, Bool, ◌&&◌, nat_le, ◌==◌, if◌then◌else◌}
use Rattle.spb_types.specs.Bytes.{u8_at}

-- the length of the piece at the front, by its head of so many bytes
abbrev pub piece_len : ℕ → List ℕ → ℕ
piece_len head bytes = head + u8_at bytes (head - 1)

-- whether a whole piece stands at the front
abbrev pub starts_whole : ℕ → List ℕ → Bool
starts_whole head bytes = nat_le head (length bytes) && nat_le (piece_len head bytes) (length bytes)

-- the piece at the front, and the bytes after it
abbrev pub first_piece : ℕ → List ℕ → List ℕ
first_piece head bytes = take (piece_len head bytes) bytes

abbrev pub after_first : ℕ → List ℕ → List ℕ
after_first head bytes = drop (piece_len head bytes) bytes

-- the whole pieces from the front on, of at most n, and the bytes after them
unfoldable pub pieces_within : ℕ → ℕ → List ℕ → List (List ℕ)
pieces_within zero head bytes = []
pieces_within (suc n) head bytes =
    if starts_whole head bytes then first_piece head bytes ∷ pieces_within n head (after_first head bytes) else []

unfoldable pub after_pieces_within : ℕ → ℕ → List ℕ → List ℕ
after_pieces_within zero head bytes = bytes
after_pieces_within (suc n) head bytes =
    if starts_whole head bytes then after_pieces_within n head (after_first head bytes) else bytes

-- all the whole pieces from the front on: there are no more of them than bytes
unfoldable pub pieces : ℕ → List ℕ → List (List ℕ)
pieces head bytes = pieces_within (length bytes) head bytes

-- the bytes after them, at whose front no whole piece stands
unfoldable pub after_pieces : ℕ → List ℕ → List ℕ
after_pieces head bytes = after_pieces_within (length bytes) head bytes

-- whether the bytes are whole pieces and nothing else
unfoldable pub ends_whole : ℕ → List ℕ → Bool
ends_whole head bytes = length (after_pieces head bytes) == 0

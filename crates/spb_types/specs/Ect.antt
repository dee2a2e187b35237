use Rattle.std.specs.Prelude.{ℕ, ◌-◌, List, [], ◌∷◌, slice_index}

-- the masks of the ECT algorithms 1 to 16 (IEEE 802.1aq, 28.8; RFC 6329, 12)
abbrev pub masks : List ℕ
masks = 0x00 ∷ 0xff ∷ 0x88 ∷ 0x77 ∷ 0x44 ∷ 0x33 ∷ 0xcc ∷ 0xbb ∷ 0x22 ∷ 0x11 ∷ 0x66 ∷ 0x55 ∷ 0xaa ∷ 0x99 ∷ 0xdd ∷ 0xee
    ∷ []

-- the mask of the ECT algorithm of this number, 1 to 16
abbrev pub mask_of : ℕ → ℕ
mask_of number = slice_index masks (number - 1)

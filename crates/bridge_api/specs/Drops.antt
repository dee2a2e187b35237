-- How many frames were dropped, and why.
use Rattle.std.specs.Prelude.{ℕ, zero, suc, ◌+◌, ◌-◌, ◌^◌, min, List, [], ◌∷◌, Option, Some, None}
use Rattle.spb_types.specs.declared.drop_reason.DropReason.{DropReason}
use Rattle.spb_types.specs.declared.drop_reason.DropReason.TheVariants.{Frame, Pdu, Tlv, NotAdjacent, Hello, Ingress, NoWay, Mismatch, Full}
use Rattle.bridge_api.specs.declared.drops.Drops.{Drops}

-- a count goes up by one, and stops at the greatest number of 64 bits
abbrev pub next_count : ℕ → ℕ
next_count c = min (c + 1) (2 ^ 64 - 1)

-- a count that went up so many times
abbrev pub raised : ℕ → ℕ → ℕ
raised zero c = c
raised (suc n) c = raised n (next_count c)

-- nothing was dropped
abbrev pub no_drops : Drops
no_drops = record {
  frame = 0;
  pdu = 0;
  tlv = 0;
  not_adjacent = 0;
  hello = 0;
  ingress = 0;
  no_way = 0;
  mismatch = 0;
  full = 0;
}

-- the count of a reason
abbrev pub count_of : DropReason → Drops → ℕ
count_of Frame d = d.frame
count_of Pdu d = d.pdu
count_of Tlv d = d.tlv
count_of NotAdjacent d = d.not_adjacent
count_of Hello d = d.hello
count_of Ingress d = d.ingress
count_of NoWay d = d.no_way
count_of Mismatch d = d.mismatch
count_of Full d = d.full

-- that count went up so many times, and no other did
abbrev pub raised_at : DropReason → ℕ → Drops → Drops
raised_at Frame n d = record d { frame = raised n d.frame }
raised_at Pdu n d = record d { pdu = raised n d.pdu }
raised_at Tlv n d = record d { tlv = raised n d.tlv }
raised_at NotAdjacent n d = record d { not_adjacent = raised n d.not_adjacent }
raised_at Hello n d = record d { hello = raised n d.hello }
raised_at Ingress n d = record d { ingress = raised n d.ingress }
raised_at NoWay n d = record d { no_way = raised n d.no_way }
raised_at Mismatch n d = record d { mismatch = raised n d.mismatch }
raised_at Full n d = record d { full = raised n d.full }

-- what is dropped for a reason is counted once
abbrev pub raised_for : Option DropReason → Drops → Drops
raised_for None d = d
raised_for (Some reason) d = raised_at reason 1 d

-- the nine counts, in order
abbrev pub counts_in : Drops → List ℕ
counts_in d =
    d.frame ∷ d.pdu ∷ d.tlv ∷ d.not_adjacent ∷ d.hello ∷ d.ingress ∷ d.no_way ∷ d.mismatch ∷ d.full ∷ []

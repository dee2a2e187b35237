-- Which ids find room in a database: own numbers always do, and of the others as many are held as leave it to them.
use Rattle.std.specs.Prelude.{ℕ, ◌-◌, List, length, Bool, ◌||◌, not, Option, Some, None, nat_lt, if◌then◌else◌}
use Rattle.std.specs.List.{filter}
use Rattle.std.specs.FinMap.{entries, contains_key}
use Rattle.spb_types.specs.declared.address.SystemId.{SystemId}
use Rattle.spb_types.specs.declared.address.LspId.{LspId}
use Rattle.spb_types.specs.declared.limits.TheConstants.{MOST_LSPS}
use Rattle.lsdb.specs.Entry.{Entry}
use Rattle.lsdb.specs.Database.{Lsps}
use Rattle.flooding.specs.Own.{own_numbers, is_own_number}

-- how many ids that aren't own numbers have room
abbrev pub most_others : ℕ
most_others = MOST_LSPS - own_numbers

abbrev pub others_among : SystemId → List (LspId × Entry) → List (LspId × Entry)
others_among system es = filter (λ e. not (is_own_number system e.0)) es

-- how many stand at a place, 0 or 1
abbrev pub others_at : SystemId → Option (LspId × Entry) → ℕ
others_at system None = 0
others_at system (Some e) = if is_own_number system e.0 then 0 else 1

-- how many are held
abbrev pub others : SystemId → Lsps → ℕ
others system db = length (others_among system (entries db))

-- an id has room: it is held, or is an own number, or fewer of the others are held than have room
abbrev pub has_room : SystemId → Lsps → LspId → Bool
has_room system db id =
    contains_key db id || (is_own_number system id || nat_lt (others system db) most_others)

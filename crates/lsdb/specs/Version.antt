use Rattle.std.specs.Prelude.{ℕ, Bool, true, false, ◌&&◌, ◌||◌, ◌==◌, nat_lt, nat_le, if◌then◌else◌, IsTrue}
use Rattle.lsdb.specs.declared.version.Version.{Version}
use Rattle.lsdb.specs.declared.version.Version.TheVariants.{Absent, Live, Dead}
use Rattle.lsdb.specs.declared.version.Relation.{Relation}
use Rattle.lsdb.specs.declared.version.Relation.TheVariants.{Older, Equal, Newer, Confused}

-- the sequence number of a version; an absent one counts as 0
abbrev pub number_of : Version → ℕ
number_of Absent = 0
number_of (Live seq sum) = seq
number_of (Dead seq) = seq

-- the checksum of a version; that of a dead one, and of none, is 0
abbrev pub sum_of : Version → ℕ
sum_of Absent = 0
sum_of (Live seq sum) = sum
sum_of (Dead seq) = 0

-- whether it is the version of nothing
abbrev pub is_absent : Version → Bool
is_absent Absent = true
is_absent (Live seq sum) = false
is_absent (Dead seq) = false

-- whether the first version is at most the second: absent is least, a greater number is above a lower one, and at
-- one number every live version is below the dead one (ISO/IEC 10589, 7.3.16)
unfoldable pub leq : Version → Version → Bool
leq Absent h = true
leq (Live n s) Absent = false
leq (Live n s) (Live m t) = nat_lt n m || (n == m && s == t)
leq (Live n s) (Dead m) = nat_le n m
leq (Dead n) Absent = false
leq (Dead n) (Live m t) = nat_lt n m
leq (Dead n) (Dead m) = nat_le n m

-- a version is at most another
abbrev pub IsAtMost : Version → Version → Type 0
IsAtMost a h = IsTrue (leq a h)

-- how the first version stands to the second; neither is at most the other where they are confused
unfoldable pub relation : Version → Version → Relation
relation a h = if leq a h then (if leq h a then Equal else Older) else (if leq h a then Newer else Confused)

-- the least version that both are at most
unfoldable pub join_of : Version → Version → Version
join_of a h = if leq a h then h else (if leq h a then a else Dead (number_of a))

-- the version that a PDU speaks of: number 0 means none, and a lifetime of 0 a dead one (ISO/IEC 10589, 7.3.16)
abbrev pub claimed : ℕ → ℕ → ℕ → Version
claimed seq lifetime sum = if seq == 0 then Absent else (if lifetime == 0 then Dead seq else Live seq sum)

use Rattle.std.specs.Prelude.{◌≡◌, ◌≢◌, ℕ, ◌+◌, ◌*◌, ◌/◌, ◌≤◌, length}
use Rattle.spb_types.specs.declared.limits.TheConstants.{MOST_BRIDGES}
use Rattle.scenario_maker.specs.Made.{made, chord_count, chord_start, next_of, across, bridge_name, ring_name, chord_name}

-- 16 commands for each bridge, one for each chord, and 7 more
abbrev pub MadeIsLong : Type 0
MadeIsLong = (n : ℕ) → length (made n) ≡ 16 * n + 7 + chord_count n

-- ---- The ring

abbrev pub IsOnRing : ℕ → ℕ → Type 0
IsOnRing n k = (1 ≤ k) × (k ≤ n)

-- a bridge, the next one and the one across are three bridges of the ring
abbrev pub MembersAreApart : Type 0
MembersAreApart =
    (n k : ℕ) → 4 ≤ n → IsOnRing n k
    → IsOnRing n (next_of n k) × IsOnRing n (across n k)
    × (next_of n k ≢ k) × (across n k ≢ k) × (across n k ≢ next_of n k)

-- the bridge across is neither the next one nor the one before: no chord joins neighbours
abbrev pub ChordsAreNoRingLinks : Type 0
ChordsAreNoRingLinks =
    (n k : ℕ) → 4 ≤ n → IsOnRing n k → (across n k ≢ next_of n k) × (next_of n (across n k) ≢ k)

-- a chord leads from the first half of the ring to the second, and no two from one bridge: each bridge has one at most
abbrev pub ChordsLeadAcross : Type 0
ChordsLeadAcross =
    (n i : ℕ) → 1 ≤ i → i ≤ chord_count n
    → (1 ≤ chord_start i) × (chord_start i ≤ n / 2) × (across n (chord_start i) ≡ chord_start i + n / 2)
    × ((j : ℕ) → 1 ≤ j → chord_start i ≡ chord_start j → i ≡ j)

-- each bridge is the next one of one bridge, and the one across from one
abbrev pub PlacesAreTakenOnce : Type 0
PlacesAreTakenOnce =
    (n j k : ℕ) → IsOnRing n j → IsOnRing n k
    → (next_of n j ≡ next_of n k → j ≡ k) × (across n j ≡ across n k → j ≡ k)

-- ---- The names

-- a name tells the bridge, the link of the ring, or the chord; no link of the ring is named as a chord
pub record TellsNames (j k : ℕ) : Type 0 where
  pub bridges : bridge_name j ≡ bridge_name k → j ≡ k
  pub ring : ring_name j ≡ ring_name k → j ≡ k
  pub chords : chord_name j ≡ chord_name k → j ≡ k
  pub kinds : ring_name j ≢ chord_name k

abbrev pub NamesAreApart : Type 0
NamesAreApart = (j k : ℕ) → j ≤ MOST_BRIDGES → k ≤ MOST_BRIDGES → TellsNames j k

use Rattle.std.specs.Prelude.{◌≡◌, ◌≢◌, ℕ, ◌<◌, ◌≤◌, ◌⊎◌, ◌↔◌, false}
use Rattle.std.specs.FinMap.{get}
use Rattle.spb_types.specs.declared.address.LspId.{LspId}
use Rattle.spb_types.specs.Ports.{has}
use Rattle.lsdb.specs.declared.version.Version.{Version}
use Rattle.lsdb.specs.declared.version.Version.TheVariants.{Absent, Live, Dead}
use Rattle.lsdb.specs.declared.version.Relation.TheVariants.{Older, Equal, Newer, Confused}
use Rattle.lsdb.specs.Version.{number_of, leq, IsAtMost, relation, join_of}
use Rattle.lsdb.specs.Database.{Lsps, srm_in, ssn_in, any_flags}

-- a version is at most itself
abbrev pub AtMostItself : Type 0
AtMostItself = (a : Version) → IsAtMost a a

-- two versions that are at most each other are one
abbrev pub SameBothWays : Type 0
SameBothWays = (a h : Version) → IsAtMost a h → IsAtMost h a → a ≡ h

-- what is at most a version is at most all that this one is at most
abbrev pub AtMostThrough : Type 0
AtMostThrough = (a b c : Version) → IsAtMost a b → IsAtMost b c → IsAtMost a c

-- absent is at most every version
abbrev pub AbsentIsLeast : Type 0
AbsentIsLeast = (a : Version) → IsAtMost Absent a

-- two versions are at most their join
abbrev pub JoinIsAbove : Type 0
JoinIsAbove = (a h : Version) → IsAtMost a (join_of a h) × IsAtMost h (join_of a h)

-- their join is at most every version that both are at most
abbrev pub JoinIsLeast : Type 0
JoinIsLeast = (a h b : Version) → IsAtMost a b → IsAtMost h b → IsAtMost (join_of a h) b

-- older is below, newer above, and equal the same
abbrev pub OlderIsBelow : Type 0
OlderIsBelow = (a h : Version) → (relation a h ≡ Older) ↔ (IsAtMost a h × (a ≢ h))

abbrev pub NewerIsAbove : Type 0
NewerIsAbove = (a h : Version) → (relation a h ≡ Newer) ↔ (IsAtMost h a × (a ≢ h))

abbrev pub EqualIsSame : Type 0
EqualIsSame = (a h : Version) → (relation a h ≡ Equal) ↔ (a ≡ h)

-- versions are confused exactly where neither is at most the other
abbrev pub ConfusedIsNeither : Type 0
ConfusedIsNeither = (a h : Version) → (relation a h ≡ Confused) ↔ ((leq a h ≡ false) × (leq h a ≡ false))

-- two live versions with one number and two sums
pub record AreTwoLives (a h : Version) : Type 0 where
  pub number : ℕ
  pub sum : ℕ
  pub other_sum : ℕ
  pub apart : sum ≢ other_sum
  pub first : a ≡ Live number sum
  pub second : h ≡ Live number other_sum

-- and this is so exactly where both are live with one number and two sums; their join is then dead at that number
abbrev pub ConfusedAreLive : Type 0
ConfusedAreLive = (a h : Version) → (relation a h ≡ Confused) ↔ AreTwoLives a h

abbrev pub ConfusedJoinIsDead : Type 0
ConfusedJoinIsDead = (a h : Version) → relation a h ≡ Confused → join_of a h ≡ Dead (number_of a)

-- the greater version doesn't have the lower number, and the greater number is above
abbrev pub NumbersFollow : Type 0
NumbersFollow = (a h : Version) → IsAtMost a h → number_of a ≤ number_of h

abbrev pub GreaterNumberIsAbove : Type 0
GreaterNumberIsAbove = (a h : Version) → number_of a < number_of h → IsAtMost a h

-- at one number, a version that isn't absent is below no other but the dead one
abbrev pub AtOneNumber : Type 0
AtOneNumber = (a h : Version) → number_of a ≡ number_of h → a ≢ Absent
    → IsAtMost a h ↔ ((a ≡ h) ⊎ (h ≡ Dead (number_of a)))

-- a version that isn't at most another has no lower number, and isn't the other
abbrev pub NotAtMost : Type 0
NotAtMost = (a h : Version) → leq a h ≡ false → (number_of h ≤ number_of a) × (a ≢ h)

-- where no flags stand, no LSP is to be sent, acknowledged or asked for at any port
abbrev pub WithoutFlagsNoneIsDue : Type 0
WithoutFlagsNoneIsDue = (db : Lsps) → any_flags db ≡ false → (id : LspId) (p : ℕ)
    → (has (srm_in (get db id)) p ≡ false) × (has (ssn_in (get db id)) p ≡ false)

-- and where none is, no flags stand
abbrev pub WhereNoneIsDueNoFlags : Type 0
WhereNoneIsDueNoFlags = (db : Lsps) → ((id : LspId) (p : ℕ)
    → (has (srm_in (get db id)) p ≡ false) × (has (ssn_in (get db id)) p ≡ false)) → any_flags db ≡ false

-- The services of a system: pairs of a base VID and an I-SID.
use Rattle.std.specs.Prelude.{◌≡◌, ◌↔◌, ℕ, ◌+◌, ◌*◌, ◌^◌, ◌<◌, List, map, Bool, ◌&&◌, ◌==◌, Contains}
use Rattle.std.specs.List.{AllByRecursion, list_any}
use Rattle.spb_types.specs.Ascending.{ascending}
use Rattle.spb_types.specs.declared.address.SystemId.{SystemId}
use Rattle.spb_types.specs.declared.graph.Member.{Member}
use Rattle.spb_types.specs.declared.service.Isid.{Isid}
use Rattle.spb_types.specs.declared.service.Vid.{Vid}

abbrev pub pair_of : Member → Vid × Isid
pair_of m = (m.vid, m.isid)

-- the order of pairs: by base VID, and then by I-SID
abbrev pub pair_number : Vid × Isid → ℕ
pair_number p = p.0.value * 2 ^ 32 + p.1.value

-- the pairs of some members, each once, ascending
abbrev pub pairs_of : List Member → List (Vid × Isid)
pairs_of ms = ascending pair_number (map pair_of ms)

-- whether a member is in the service of this pair
abbrev pub is_of_pair : Vid × Isid → Member → Bool
is_of_pair p m = pair_number (pair_of m) == pair_number p

-- the member of this pair that a system is by some members: it transmits where one of them does, and receives where one
-- of them does
abbrev pub member_for : SystemId → List Member → Vid × Isid → Member
member_for x ms p = record {
  system = x;
  isid = p.1;
  vid = p.0;
  transmit = list_any (λ m. is_of_pair p m && m.transmit) ms;
  receive = list_any (λ m. is_of_pair p m && m.receive) ms;
}

-- the members that a system is by some members: one for each pair, in their order
abbrev pub merged : SystemId → List Member → List Member
merged x ms = map (member_for x ms) (pairs_of ms)

-- ---- laws

-- a merged member is that of the pair of some member
pub record IsMerged (x : SystemId) (ms : List Member) (m : Member) : Type 0 where
  pub some : Member
  pub there : Contains ms some
  pub is : m ≡ member_for x ms (pair_of some)

-- what an I-SID and a base VID can be in a program: numbers of 32 and of 16 bits
pub record HasNumbers (m : Member) : Type 0 where
  pub isid : m.isid.value < 2 ^ 32
  pub vid : m.vid.value < 2 ^ 16

-- there is one for the pair of each member, and no other
abbrev pub MergedSays : Type 0
MergedSays = (x : SystemId) (ms : List Member) (m : Member)
    → AllByRecursion HasNumbers ms → Contains (merged x ms) m ↔ IsMerged x ms m

-- merging again changes nothing
abbrev pub MergedAgain : Type 0
MergedAgain = (x : SystemId) (ms : List Member) → merged x (merged x ms) ≡ merged x ms

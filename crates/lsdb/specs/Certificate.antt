use Rattle.std.specs.Prelude.{◌≡◌, ℕ, true, false, ◌⊎◌, List, [], ◌∷◌, Option}
use Rattle.std.specs.FinMap.{get}
use Rattle.spb_types.specs.declared.address.LspId.{LspId}
use Rattle.spb_types.specs.declared.ports.PortSet.{PortSet}
use Rattle.spb_types.specs.Ports.{has}
use Rattle.lsdb.specs.declared.version.Version.{Version}
use Rattle.lsdb.specs.declared.version.Version.TheVariants.{Absent}
use Rattle.lsdb.specs.Version.{IsAtMost}
use Rattle.lsdb.specs.Entry.{Entry}
use Rattle.lsdb.specs.Database.{Lsps, version_in, srm_in, version_at}

-- what an LSP, or an entry of an SNP, says of its sender: it holds this version of this id
pub record Claim : Type 0 where
  pub id : LspId
  pub version : Version

-- one of the claims says this version of this id
abbrev pub IsClaimed : List Claim → LspId → Version → Type 0
IsClaimed [] id version = ⊥
IsClaimed (c ∷ claims) id version = ((c.id ≡ id) × (c.version ≡ version)) ⊎ IsClaimed claims id version

-- the part of a bridge that flooding rests on: its Up ports and its database
pub record Control : Type 0 where
  pub up : PortSet
  pub db : Lsps

-- why the neighbour at an Up port is no further behind in one id after a step than it was before: the new entry is to
-- be sent there, or is absent, or has the version that it had and wasn't to be sent there, or is at most what the
-- neighbour claimed in this very step
pub data Kept (port : ℕ) (claims : List Claim) (up : PortSet) (id : LspId) (p : ℕ)
    (old new : Option Entry) : Type 0 where
  is_flagged : has (srm_in new) p ≡ true → Kept port claims up id p old new
  is_absent : version_in new ≡ Absent → Kept port claims up id p old new
  is_as_before : has up p ≡ true → has (srm_in old) p ≡ false → version_in new ≡ version_in old
      → Kept port claims up id p old new
  is_claimed : p ≡ port → (a : Version) → IsClaimed claims id a → IsAtMost (version_in new) a
      → Kept port claims up id p old new

-- one id in a step in which these claims were heard at this port, from the Up ports before to those after: its version
-- doesn't fall, and the neighbour at each port that is Up afterwards is no further behind
pub record EntryCertificate (port : ℕ) (claims : List Claim) (before after : PortSet) (id : LspId)
    (old new : Option Entry) : Type 0 where
  pub rises : IsAtMost (version_in old) (version_in new)
  pub kept : (p : ℕ) → has after p ≡ true → Kept port claims before id p old new

-- the same of every id
pub record Certificate (port : ℕ) (claims : List Claim) (v w : Control) : Type 0 where
  pub rises : (id : LspId) → IsAtMost (version_at v.db id) (version_at w.db id)
  pub kept : (id : LspId) (p : ℕ) → has w.up p ≡ true → Kept port claims v.up id p (get v.db id) (get w.db id)

-- Entries, and what is told of the ways that following them gives.
use Rattle.std.specs.Prelude.{◌≡◌, ℕ, List, length, Bool, Option}
use Rattle.spb_types.specs.Graph.{IsBridge}
use Rattle.spb_types.specs.declared.address.SystemId.{SystemId}
use Rattle.ect_trees.specs.declared.mesh.Arc.{Arc}
use Rattle.ect_trees.specs.Arcs.{AreReady, IsBridgeAt, Leads}
use Rattle.what_if.specs.declared.checking.Claim.{Claim}
use Rattle.what_if.specs.declared.entry.Entry.TheVariants.{Before}
use Rattle.what_if.specs.Following.{entry_for, way_of}
use Rattle.what_if.specs.Failing as failing
use Rattle.what_if.specs.Labels.{AreWays}

-- there is an entry for each bridge, the source is a bridge, and the ways are those of the entries
pub record IsClaim (c : Claim) : Type 0 where
  pub ready : AreReady c.mesh.now
  pub from : IsBridge c.mesh.now.graph c.source
  pub long : length c.entries.now ≡ length c.mesh.now.graph.bridges
  pub ways : AreWays c.mesh.now.graph c.entries.now c.source c.ways.items

-- the way of x
abbrev pub way_in : Claim → SystemId → Option (List SystemId)
way_in c x = way_of c.mesh.now.graph c.entries.now c.source x

-- the entry of the bridge at the start of an arc names the neighbour at its end
abbrev pub NamesEnd : Claim → Arc → Type 0
NamesEnd c arc = (x u : SystemId) → Leads c.mesh.now.graph arc x u
    → entry_for c.mesh.now.graph c.entries.now x ≡ Before u

-- whether the neighbour at the end of an arc gives the bridge at its start a better way
abbrev pub TellsBetter : Claim → Arc → Bool → Type 0
TellsBetter c arc b = (x u : SystemId) → Leads c.mesh.now.graph arc x u
    → b ≡ failing.gives_better c.mesh.now.graph c.mask x (way_in c x) (way_in c u)

-- whether some neighbour gives the bridge at a place a better way
abbrev pub TellsHasBetter : Claim → ℕ → Bool → Type 0
TellsHasBetter c place b = (x : SystemId) → IsBridgeAt c.mesh.now.graph place x
    → b ≡ failing.has_better c.mesh.now.graph c.mask c.entries.now c.source x

-- whether the bridge at a place fails
abbrev pub TellsFails : Claim → ℕ → Bool → Type 0
TellsFails c place b = (x : SystemId) → IsBridgeAt c.mesh.now.graph place x
    → b ≡ failing.fails c.mesh.now.graph c.mask c.entries.now c.source x

-- What entries prove.
use Rattle.std.specs.Prelude.{◌≡◌, ℕ, List, length}
use Rattle.spb_types.specs.Graph.{IsBridge, IsValid}
use Rattle.spb_types.specs.declared.address.SystemId.{SystemId}
use Rattle.spb_types.specs.declared.graph.Graph.{Graph}
use Rattle.ect_trees.specs.Best.{best_of}
use Rattle.what_if.specs.declared.entry.Entry.{Entry}
use Rattle.what_if.specs.Following.{way_of}
use Rattle.what_if.specs.Failing.{NobodyFails}
use Rattle.what_if.specs.Entries.{best_entries}

-- following the entries gives the best paths from a, and they are the entries of these
pub record ProveBest (g : Graph) (mask : ℕ) (a : SystemId) (es : List Entry) : Type 0 where
  pub ways : (x : SystemId) → way_of g es a x ≡ best_of g mask a x
  pub entries : es ≡ best_entries g mask a

-- where no bridge fails, the entries prove the best paths
abbrev pub PassingIsBest : Type 0
PassingIsBest = (g : Graph) (mask : ℕ) (a : SystemId) (es : List Entry) → IsValid g → IsBridge g a
    → length es ≡ length g.bridges → NobodyFails g mask es a → ProveBest g mask a es

-- with the entries of the best paths no bridge fails
abbrev pub BestPasses : Type 0
BestPasses = (g : Graph) (mask : ℕ) (a : SystemId) → IsValid g → IsBridge g a
    → NobodyFails g mask (best_entries g mask a) a

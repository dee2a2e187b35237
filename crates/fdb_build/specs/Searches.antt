-- Trees by which the tables of a bridge are made.
use Rattle.std.specs.Prelude.{◌≡◌, ℕ, List, Bool, true, Contains}
use Rattle.spb_types.specs.Ect.{mask_of}
use Rattle.spb_types.specs.Graph.{IsBridge, IsValid}
use Rattle.spb_types.specs.declared.address.SystemId.{SystemId}
use Rattle.spb_types.specs.declared.graph.Graph.{Graph}
use Rattle.spb_types.specs.declared.service.VidPlan.{VidPlan}
use Rattle.ect_trees.specs.Laws.{AreAlike}

-- trees of h, those that are there, serve for the tables in g with these plans: h is valid and has the bridges and the
-- edges of g, whatever its members are; and there is a tree from each bridge under the mask of each plan
pub record Serve (h : Graph) (has : SystemId → ℕ → Bool) (g : Graph) (plans : List VidPlan) : Type 0 where
  pub valid : IsValid h
  pub alike : AreAlike g h
  pub there : (x : SystemId) (plan : VidPlan) → IsBridge g x → Contains plans plan
      → has x (mask_of plan.ect) ≡ true

-- they serve for the best paths in g under this mask
pub record CanRead (h : Graph) (has : SystemId → ℕ → Bool) (g : Graph) (mask : ℕ) : Type 0 where
  pub valid : IsValid h
  pub alike : AreAlike g h
  pub there : (x : SystemId) → IsBridge g x → has x mask ≡ true

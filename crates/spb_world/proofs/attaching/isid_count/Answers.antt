use Rattle.std.proofs.Common.{ℕ, List, length, ap, ◌∙◌}
use Rattle.bridge_api.specs.Config.{different}
use Rattle.spb_world.proofs.CountLemmas.{different_moved}
use Rattle.spb_world.proofs.attaching.isid_count.Goals as goal

pub returns : goal.returns
returns c =
    c.ascending_isid_count.ensures
    ∙ (different_moved _ _ c.sort_unstable.ensures.permutation
    ∙ ap (λ (ns : List ℕ). length (different ns)) c.put_isids.ensures)

use Rattle.flooding.proofs.OwnBodies.{lsp_leaves_own_body, entry_leaves_own_body}
use Rattle.flooding.proofs.Brought.{bringing_leaves_own_body}
use Rattle.flooding.proofs.laws.own_bodies_are_the_systems.Goals as goal

pub returns : goal.returns
returns c = record { lsp = lsp_leaves_own_body; entry = entry_leaves_own_body; brought = bringing_leaves_own_body }

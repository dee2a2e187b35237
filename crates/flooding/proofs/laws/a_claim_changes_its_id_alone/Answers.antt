use Rattle.flooding.proofs.Claimed.{others_stand, lsp_stands, entry_stands, full_stands, fitting_is_not_full}
use Rattle.flooding.proofs.laws.a_claim_changes_its_id_alone.Goals as goal

pub returns : goal.returns
returns c = record { others = others_stand; lsp = lsp_stands; entry = entry_stands; full = full_stands; fitting = fitting_is_not_full }

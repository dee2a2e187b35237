use Rattle.bridge_api.proofs.OwnLspSteps.{lsp_settles_nothing, csnp_settles_nothing, psnp_settles_nothing}
use Rattle.bridge_laws.proofs.laws.hearing_settles_nothing.Goals as goal

pub returns : goal.returns
returns c = record { lsp = lsp_settles_nothing; csnp = csnp_settles_nothing; psnp = psnp_settles_nothing }

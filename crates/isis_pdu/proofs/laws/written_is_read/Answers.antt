use Rattle.isis_pdu.specs.Pdu.{hello, lsp, csnp, psnp}
use Rattle.isis_pdu.proofs.FormatLaws.{written_again}
use Rattle.isis_pdu.proofs.laws.written_is_read.Goals as goal

pub returns-clause-hellos : goal.returns-clause-hellos
returns-clause-hellos c = λ p fits. written_again (hello p) fits

pub returns-clause-lsps : goal.returns-clause-lsps
returns-clause-lsps c = λ p fits. written_again (lsp p) fits

pub returns-clause-csnps : goal.returns-clause-csnps
returns-clause-csnps c = λ p fits. written_again (csnp p) fits

pub returns-clause-psnps : goal.returns-clause-psnps
returns-clause-psnps c = λ p fits. written_again (psnp p) fits

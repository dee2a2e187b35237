use Rattle.std.proofs.Common.{length, arith}
use Rattle.snp_sync.proofs.Cuts.{tlvs_short}
use Rattle.snp_sync.proofs.sending.psnp_length.Goals as goal

pub returns-clause-short : goal.returns-clause-short
returns-clause-short c = omega (arith, c.tlvs_length.ensures, tlvs_short (length c.args.entries.now) c.requires)

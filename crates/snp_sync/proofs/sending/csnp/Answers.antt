use Rattle.isis_pdu.specs.declared.kind.Kind.TheVariants as kinds
use Rattle.snp_sync.proofs.CsnpChunks.{can_write}
use Rattle.snp_sync.proofs.sending.csnp.Goals as goal

pub write_csnp-requires : goal.write_csnp-requires
write_csnp-requires c = can_write kinds.Csnp c.args.entries.now _ _ c.deref.ensures.value c.in_ok-tlvs.ensures.tlvs c.in_ok-tlvs.ensures.length c.requires

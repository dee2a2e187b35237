use Rattle.std.proofs.Common.{◌≡◌, length, rules, sym, ◌∙◌, arith}
use Rattle.snp_sync.specs.Chunks.{entry_tlvs, tlvs_length}
use Rattle.snp_sync.proofs.Cuts.{tlvs_short}
use Rattle.snp_sync.proofs.Lengths.{psnp_sized}
use Rattle.snp_sync.proofs.sending.append_psnp.Goals as goal

pub append_psnp_head-requires : goal.append_psnp_head-requires
append_psnp_head-requires c = omega (arith, c.tlvs_length.ensures, tlvs_short (length c.args.entries.now) c.requires)

pub returns : goal.returns
returns c =
    let six : length c.args.me.mac.bytes ≡ 6 = search rules in
    let size : length (entry_tlvs c.args.entries.now) ≡ tlvs_length (length c.args.entries.now) = c.in_ok-pdu.ensures.length in
    record {
      bytes = c.in_ok-pdu.ensures.tlvs ∙ c.in_ok-append_psnp_head.ensures (entry_tlvs c.args.entries.now) (size ∙ sym c.tlvs_length.ensures);
      length = psnp_sized c.args.me c.args.entries.now six size;
    }

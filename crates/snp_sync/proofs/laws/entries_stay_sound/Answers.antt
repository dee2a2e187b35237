use Rattle.snp_sync.proofs.Stays.{claims_are_numbered, entries_keep_sendable, csnp_keeps_sendable, entries_keep_flags, csnp_keeps_flags}
use Rattle.snp_sync.proofs.Heard.{entries_keep_few, csnp_keeps_few}
use Rattle.snp_sync.proofs.Octets.{entries_keep_octets, csnp_keeps_octets}
use Rattle.snp_sync.proofs.laws.entries_stay_sound.Goals as goal

pub returns : goal.returns
returns c = record {
  numbered = claims_are_numbered;
  few = entries_keep_few;
  csnp_few = csnp_keeps_few;
  sendable = entries_keep_sendable;
  csnp_sendable = csnp_keeps_sendable;
  flags = entries_keep_flags;
  csnp_flags = csnp_keeps_flags;
  octets = entries_keep_octets;
  csnp_octets = csnp_keeps_octets;
}

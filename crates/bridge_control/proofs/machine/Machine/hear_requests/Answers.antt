use Rattle.std.proofs.Common.{ap, ◌∙◌}
use Rattle.spb_types.specs.declared.drop_reason.DropReason.TheVariants as drop
use Rattle.bridge_api.specs.Drops.{raised_at}
use Rattle.flooding.specs.Placing.{holding}
use Rattle.snp_sync.specs.Hearing.{claims_in, hear_entries_of}
use Rattle.bridge_control.proofs.Owning.{own_bytes, own_few}
use Rattle.bridge_control.proofs.Heeding.{entries_heard, heard_current, heard_psnp_path}
use Rattle.bridge_control.proofs.machine.Machine.hear_requests.Goals as goal

pub hear_psnp-requires-clause-bodies : goal.hear_psnp-requires-clause-bodies
hear_psnp-requires-clause-bodies c = own_bytes c.args.self.now c.requires.ready.current

pub hear_psnp-requires-clause-few : goal.hear_psnp-requires-clause-few
hear_psnp-requires-clause-few c = own_few c.args.self.now c.requires.ready.current c.requires.ready.sound.database.room

pub returns : goal.returns
returns c =
    let m = c.args.self.now in
    let up = m.up in
    let claims = claims_in c.args.entries.now in
    let db = c.hear_psnp.new.db in
    let own = c.hear_psnp.new.own in
    let drops = c.raise_times.new.self in
    record {
      view = heard_psnp_path m up c.args.port c.args.entries.now db own drops c.requires.ready c.requires.ready.current.ports.up c.in_ok-full.ensures.heard
          (c.raise_times.ensures ∙ ap (λ n. raised_at drop.Full n m.drops) c.in_ok-full.ensures.full);
      current = heard_current m (hear_entries_of up c.args.port claims (holding m.db m.own)) db own drops c.requires.ready (entries_heard m up c.args.port claims c.requires.ready) c.in_ok-full.ensures.heard;
    }

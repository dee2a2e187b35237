use Rattle.std.proofs.Common.{sym, ap, ◌∙◌}
use Rattle.isis_pdu.specs.Pdu.{lsp_of}
use Rattle.flooding.specs.Hearing.{hear_lsp_of}
use Rattle.flooding.specs.Placing.{holding}
use Rattle.spb_types.specs.declared.drop_reason.DropReason.TheVariants as drop
use Rattle.bridge_api.specs.Drops.{raised_at}
use Rattle.bridge_control.proofs.Owning.{own_bytes, own_few}
use Rattle.bridge_control.proofs.Putting.{there_at}
use Rattle.bridge_control.proofs.Heeding.{lsp_heard, heard_current, heard_lsp_path}
use Rattle.bridge_control.proofs.machine.Machine.hear_lsp.Goals as goal

pub hear_lsp_if_it_fits-requires-clause-bodies : goal.hear_lsp_if_it_fits-requires-clause-bodies
hear_lsp_if_it_fits-requires-clause-bodies c = own_bytes c.args.self.now c.requires.ready.current

pub hear_lsp_if_it_fits-requires-clause-few : goal.hear_lsp_if_it_fits-requires-clause-few
hear_lsp_if_it_fits-requires-clause-few c = own_few c.args.self.now c.requires.ready.current c.requires.ready.sound.database.room

pub returns : goal.returns
returns c =
    let m = c.args.self.now in
    let up = m.up in
    let l = lsp_of c.args.lsp.now in
    let db = c.hear_lsp_if_it_fits.new.db in
    let own = c.hear_lsp_if_it_fits.new.own in
    let drops = c.raise_times.new.self in
    let there = there_at m c.as_slice.result.now c.args.port c.port_at.result c.as_slice.ensures.value c.port_at.ensures in
    record {
      view = heard_lsp_path m up c.args.port l db own drops c.port_at.result c.requires.ready c.requires.ready.current.ports.up c.in_ok-full.ensures.heard (c.raise_times.ensures ∙ ap (λ n. raised_at drop.Full n c.args.self.now.drops) c.in_ok-full.ensures.full) there (sym c.is_up.ensures ∙ c.if-not-is_up.false);
      current = heard_current m (hear_lsp_of up c.args.port l (holding m.db m.own)) db own drops c.requires.ready (lsp_heard m up c.args.port l c.requires.ready) c.in_ok-full.ensures.heard;
    }

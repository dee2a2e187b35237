use Rattle.std.proofs.Common.{ap, ◌∙◌}
use Rattle.lsdb.specs.Database.{keyed}
use Rattle.flooding.specs.Own.{tlvs_of_body}
use Rattle.spb_content.specs.Content.{content_in}
use Rattle.bridge_control.proofs.Together.{said_first, read_all}
use Rattle.bridge_control.proofs.reading.said_at.Goals as goal

pub returns : goal.returns
returns c =
    let held = keyed c.args.held.now in
    let says = said_first c.args.db.now held c.args.held.now.body (c.requires.more c.if-more.false) c.requires.held c.requires.read c.requires.first in
    read_all c.read_content.result (ap content_in (c.tlvs_of.ensures ∙ ap tlvs_of_body c.as_slice.ensures) ∙ says) c.read_content.ensures

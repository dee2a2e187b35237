use Rattle.std.proofs.Common.{sym, ◌∙◌}
use Rattle.bridge_api.proofs.Counts.{raised_is}
use Rattle.bridge_api.proofs.drops.raised.Goals as goal

pub returns : goal.returns
returns c = c.saturating_add.ensures ∙ sym (raised_is c.args.times c.args.count c.ranges.count.fits)

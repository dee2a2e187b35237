use Rattle.std.proofs.Common.{ap, ◌∙◌}
use Rattle.link_model.specs.Lanes.{first_full_from}
use Rattle.link_model.proofs.IdleLemmas.{full-behind, idle-further, none-tells}
use Rattle.link_model.proofs.lanes.Lanes.are_empty.Goals as goal

pub returns : goal.returns
returns c =
    let all = c.self.inside.all in
    let place = c.first_busy.result in
    let idle = idle-further all c.self.inside.idle place c.self.invariant c.first_busy.ensures.idle in
    none-tells c.full_at.result (first_full_from 0 c.args.self.now) c.is_none.result
    (c.full_at.ensures ∙ (full-behind all place idle c.first_busy.ensures.end ∙ ap (first_full_from 0) c.self.view_is)) c.is_none.ensures

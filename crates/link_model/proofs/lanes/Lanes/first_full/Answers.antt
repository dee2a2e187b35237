use Rattle.std.proofs.Common.{sym, ap, ◌∙◌}
use Rattle.link_model.specs.Lanes.{first_full_from}
use Rattle.link_model.proofs.IdleLemmas.{full-behind, full-here, idle-further}
use Rattle.link_model.proofs.lanes.Lanes.first_full.Goals as goal

pub returns-then-is_some-clause-lane : goal.returns-then-is_some-clause-lane
returns-then-is_some-clause-lane c =
    full-here c.self.inside.all c.self.inside.idle c.full_at-here.result c.self.invariant c.full_at-here.ensures (sym c.is_some.ensures ∙ c.if-is_some.true)
    ∙ ap (first_full_from 0) c.self.view_is

pub returns-clause-lane : goal.returns-clause-lane
returns-clause-lane c =
    let all = c.self.inside.all in
    let place = c.first_busy-self-inside.result in
    let idle = idle-further all c.self.inside.idle place c.self.invariant c.first_busy-self-inside.ensures.idle in
    c.full_at.ensures ∙ (full-behind all place idle c.first_busy-self-inside.ensures.end ∙ ap (first_full_from 0) c.self.view_is)

use Rattle.std.proofs.Common.{sym, ◌∙◌}
use Rattle.what_if.proofs.Kept.{end_named}
use Rattle.what_if.proofs.Placed.{entry_at}
use Rattle.what_if.proofs.checking.Claim.names_end.Goals as goal

pub returns : goal.returns
returns c = λ yes.
    let s = c.args.self.now in
    end_named s c.requires.claim c.args.arc c.system_at.result _ c.system_at.ensures
    (λ x at. entry_at s.mesh.now.graph s.entries.now c.args.arc.from x _ c.requires.claim.ready.valid c.requires.claim.long at) (sym c.names.ensures ∙ yes)

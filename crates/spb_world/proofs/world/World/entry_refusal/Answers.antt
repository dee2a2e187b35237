use Rattle.std.proofs.Common.{◌≡◌, rules, sym, ◌∙◌}
use Rattle.spb_world.specs.Attaching.{entry_refusal, is_attached}
use Rattle.spb_world.proofs.AttachedLemmas.{sending_attached}
use Rattle.spb_world.proofs.world.World.entry_refusal.Goals.{then-sends, else-sends}
use Rattle.spb_world.proofs.world.World.entry_refusal.Goals as goal

pub returns : goal.returns
unfolding entry_refusal
returns c =
    let there : c.if-sends.is_there ≡ is_attached c.args.self.now.attached c.args.place c.args.port =
    elim c.if-sends.branch [
      | then-sends w ↦ w.is_there-is ∙ (w.if-sends.true ∙ sym (sending_attached c.args.place c.args.port c.args.self.now.attached (sym c.is_sending-sends.ensures ∙ w.if-sends.true)))
      | else-sends w ↦ w.is_there-is ∙ w.is_attached-is_there.ensures
    ] in
    search rules

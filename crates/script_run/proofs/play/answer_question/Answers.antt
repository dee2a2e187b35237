use Rattle.std.proofs.Common.{◌≡◌, sym, ap, ◌∙◌, subst, true≢false, ⊎_elim}
use Rattle.spb_network.specs.declared.network.NetworkOf.{NetworkOf}
use Rattle.spb_network.specs.Applying.{IsSoundNetwork}
use Rattle.spb_world.specs.World.{World, Sound}
use Rattle.extra_answers.specs.Refusing.{extra_refusal}
use Rattle.script_run.proofs.play.answer_question.Goals as goal

pub answer-requires : goal.answer-requires
answer-requires g c =
    let sound : IsSoundNetwork g.B.Bridge.shown c.args.network.now = ⊎_elim (λ h. absurd (true≢false (sym h ∙ c.requires.halted))) (λ n. n) c.requires.ready in
    let same : c.world-in-None.result.now ≡ c.args.network.now.world = c.world-in-None.ensures ∙ ap (λ (n : NetworkOf _). n.world) c.prepare.ensures in
    record {
      sound = subst Sound (sym same) sound.state.world;
      accepted = ap (λ (w : World). extra_refusal w c.args.extra.now) (same ∙ sym c.world.ensures) ∙ sym c.refusal.ensures ∙ c.in-None.is;
    }

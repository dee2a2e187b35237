use Rattle.std.proofs.Common.{[], sym, ap, ◌∙◌, true≢false, ⊎_elim}
use Rattle.network_model.specs.State.{State}
use Rattle.network_model.specs.Sound.{IsSoundState}
use Rattle.network_model.specs.Captured.{seen_of}
use Rattle.network_model.proofs.Brief.{seen_is_brief}
use Rattle.spb_network.specs.Network.{state_of}
use Rattle.spb_network.specs.Watching.{noted}
use Rattle.spb_network.proofs.SeenLemmas.{noted-watched}
use Rattle.spb_network.proofs.network.NetworkOf.apply_watched.Goals as goal

pub returns-in-Ok-clause-watches : goal.returns-in-Ok-clause-watches
returns-in-Ok-clause-watches g c =
    let old : State = state_of g.B.Bridge.shown c.args.self.now in
    let ds = seen_of old c.args.command.now in
    let sound : IsSoundState old = ⊎_elim (λ h. absurd (true≢false (sym h ∙ c.in_ok-answer.ensures.applies.0))) (λ n. n.state) c.requires in
    record {
      applies = c.in_ok-answer.ensures.applies;
      seen = λ answer is. c.in-Ok.ensures.ok ds (c.in_ok-answer.ensures.seen ∙ (ap (λ o. noted o ds) c.watched-now.ensures ∙ noted-watched [] ds));
      brief = λ answer is. seen_is_brief old c.args.command.now sound;
      kept = λ error is. absurd cc;
    }

use Rattle.std.proofs.Common.{◌≡◌, ◌≤◌, None, sym, ap, ◌∙◌, subst, refl, true≢false, inr, ⊎_elim}
use Rattle.network_model.specs.State.{State}
use Rattle.network_model.specs.Refusing.{refusal_of}
use Rattle.network_model.specs.Play.{next_count, next_state}
use Rattle.network_model.specs.Sound.{IsSoundState}
use Rattle.network_model.specs.Counted.{IsCounted, most_commands}
use Rattle.spb_network.specs.Network.{state_of}
use Rattle.network_model.specs.Convergence.{QuietIsConverged}
use Rattle.network_model.proofs.SoundPlay.{commands_keep_sound}
use Rattle.network_model.proofs.CountedStays.{stays_counted}
use Rattle.network_model.proofs.Convergence.{next_is_converged}
use Rattle.network_rounds.specs.SettlingLaws.{Settles}
use Rattle.spb_network.proofs.Keeping.{counted_conditions}
use Rattle.spb_network.proofs.network.NetworkOf.apply_noting.Goals as goal

pub play-requires-clause-sound : goal.play-requires-clause-sound
play-requires-clause-sound g c = ⊎_elim (λ h. absurd (true≢false (sym h ∙ c.if-self.false))) (λ n. n) c.requires

pub returns-in-Ok-clause-applies : goal.returns-in-Ok-clause-applies
unfolding next_state
returns-in-Ok-clause-applies g c =
    let made : State = state_of g.B.Bridge.shown c.play.new.self in (
      c.if-self.false,
      record {
        accepted = sym c.refusal.ensures ∙ c.in-None.is;
        answer_is = c.in-Ok.ensures.answer;
        state = (λ i. record made { accepted = c.saturating_add-self.ensures i }) ∙ ap (λ (t : State). record t { accepted = next_count t.accepted }) c.in-Ok.ensures.state;
      },
      refl,
    )

pub returns-in-Ok-clause-ready : goal.returns-in-Ok-clause-ready
unfolding next_state
returns-in-Ok-clause-ready g c =
    let old : State = state_of g.B.Bridge.shown c.args.self.now in
    let made : State = state_of g.B.Bridge.shown c.play.new.self in
    let sound : IsSoundState old = ⊎_elim (λ h. absurd (true≢false (sym h ∙ c.if-self.false))) (λ n. n.state) c.requires in
    let few : old.accepted ≤ most_commands → IsCounted old = ⊎_elim (λ h. absurd (true≢false (sym h ∙ c.if-self.false))) (λ n. n.counted) c.requires in
    let accepted : refusal_of old c.args.command.now ≡ None = sym c.refusal.ensures ∙ c.in-None.is in
    let same = (λ i. record made { accepted = c.saturating_add-self.ensures i }) ∙ ap (λ (t : State). record t { accepted = next_count t.accepted }) c.in-Ok.ensures.state in
    inr (record {
      made = c.in-Ok.ensures.made;
      state = subst IsSoundState (sym same) (commands_keep_sound old c.args.command.now sound accepted);
      counted = subst (λ (t : State). t.accepted ≤ most_commands → IsCounted t) (sym same) (stays_counted old c.args.command.now sound few accepted);
      outs = ap (λ (t : State). t.outs) same;
      kept = λ kept is. c.in-Ok.ensures.kept kept is ∙ sym (counted_conditions made c.saturating_add-self.result);
    })

pub returns-in-Ok-clause-quiet : goal.returns-in-Ok-clause-quiet
unfolding next_state
returns-in-Ok-clause-quiet g c =
    let old : State = state_of g.B.Bridge.shown c.args.self.now in
    let made : State = state_of g.B.Bridge.shown c.play.new.self in
    let sound : IsSoundState old = ⊎_elim (λ h. absurd (true≢false (sym h ∙ c.if-self.false))) (λ n. n.state) c.requires in
    let few : old.accepted ≤ most_commands → IsCounted old = ⊎_elim (λ h. absurd (true≢false (sym h ∙ c.if-self.false))) (λ n. n.counted) c.requires in
    let accepted : refusal_of old c.args.command.now ≡ None = sym c.refusal.ensures ∙ c.in-None.is in
    let same = (λ i. record made { accepted = c.saturating_add-self.ensures i }) ∙ ap (λ (t : State). record t { accepted = next_count t.accepted }) c.in-Ok.ensures.state in
    subst (λ (t : State). t.accepted ≤ most_commands → QuietIsConverged t) (sym same) (next_is_converged old c.args.command.now sound few accepted)

pub returns-in-Ok-clause-settles : goal.returns-in-Ok-clause-settles
unfolding next_state
returns-in-Ok-clause-settles g c =
    let old : State = state_of g.B.Bridge.shown c.args.self.now in
    let made : State = state_of g.B.Bridge.shown c.play.new.self in
    let sound : IsSoundState old = ⊎_elim (λ h. absurd (true≢false (sym h ∙ c.if-self.false))) (λ n. n.state) c.requires in
    let few : old.accepted ≤ most_commands → IsCounted old = ⊎_elim (λ h. absurd (true≢false (sym h ∙ c.if-self.false))) (λ n. n.counted) c.requires in
    let same = (λ i. record made { accepted = c.saturating_add-self.ensures i }) ∙ ap (λ (t : State). record t { accepted = next_count t.accepted }) c.in-Ok.ensures.state in
    λ within. subst (λ (t : State). Settles old c.args.command.now t) (sym same) (c.networks_settle.ensures.command old c.args.command.now sound (few within) within)

use Rattle.std.proofs.Common.{refl, sym, ◌∙◌, true≢false, inr, ⊎_elim}
use Rattle.network_model.specs.State.{State}
use Rattle.spb_network.specs.Network.{state_of}
use Rattle.network_model.proofs.SoundPlay.{sound_again}
use Rattle.network_model.proofs.CountedStays.{counted_rule}
use Rattle.spb_network.proofs.Keeping.{none_kept}
use Rattle.spb_network.proofs.network.NetworkOf.set_rule.Goals as goal

pub returns-clause-ready : goal.returns-clause-ready
returns-clause-ready g c =
    let old : State = state_of g.B.Bridge.shown c.args.self.now in
    ⊎_elim (λ h. absurd (true≢false (sym h ∙ c.requires.halted))) (λ n. inr (record {
      made = n.made;
      state = sound_again old (record old { rule = c.args.rule }) refl refl refl n.state;
      counted = λ few. counted_rule old c.args.rule (n.counted few);
      outs = n.outs;
      kept = none_kept (record old { rule = c.args.rule });
    })) c.requires.ready

use Rattle.std.proofs.Common.{subst, ◌∙◌, sym}
use Rattle.std.specs.List.{AllByRecursion}
use Rattle.std.proofs.lemmas.List.{length-map}
use Rattle.bridge_api.specs.Calm.{IsCalmFor}
use Rattle.bridge_api.specs.Shown.{view_in, views_of}
use Rattle.network_model.proofs.QuietLaws.{quiet_says}
use Rattle.spb_network.specs.Network.{state_of}
use Rattle.spb_network.proofs.network.NetworkOf.calm_rounds.Goals as goal

pub returns-clause-calm : goal.returns-clause-calm
returns-clause-calm g c = λ some. record {
  empty = (quiet_says (state_of g.B.Bridge.shown c.args.self.now)).q2.0 (c.may_leap.ensures.empty c.if-not-may_leap.false);
  bridges = subst (λ boxes. AllByRecursion (IsCalmFor c.calm_seconds.result) (views_of g.B.Bridge.shown boxes)) c.deref.ensures.value (c.calm_seconds.ensures.calm some);
  counted = c.may_leap.ensures.counted c.if-not-may_leap.false ∙ sym (length-map c.args.self.now.boxes.items (view_in g.B.Bridge.shown));
}

use Rattle.std.proofs.Common.{◌≡◌, ◌≤◌, sym, ◌∙◌, arith}
use Rattle.network_model.specs.Captured.{seen_rounds}
use Rattle.network_model.specs.Events.{rounds}
use Rattle.network_model.specs.State.{State}
use Rattle.spb_network.specs.Network.{state_of}
use Rattle.spb_network.proofs.CalmLemmas.{rounds-sound, nothing-noted}
use Rattle.spb_network.proofs.network.NetworkOf.play_some.Goals as goal

pub returns-then-calm-eq0-clause-sound : goal.returns-then-calm-eq0-clause-sound
returns-then-calm-eq0-clause-sound g c =
    rounds-sound 1 (state_of g.B.Bridge.shown c.args.self.now) (state_of g.B.Bridge.shown c.play_round.new.self) c.in_ok-play_round.ensures.state c.requires.sound

pub returns-clause-sound : goal.returns-clause-sound
returns-clause-sound g c =
    let n = c.calm_rounds-calm.result in
    let s : State = state_of g.B.Bridge.shown c.args.self.now in
    let t : State = state_of g.B.Bridge.shown c.pass_rounds.new.self in
    let some : 1 ≤ n = omega (arith, c.if-calm-eq0.false) in
    let passed : t ≡ rounds n s = c.in_ok-pass_rounds.ensures.state ∙ sym (c.calm_rounds_pass.ensures n s some c.requires.sound (c.calm_rounds-calm.ensures.calm some)) in
    rounds-sound n s t passed c.requires.sound

pub returns-clause-order : goal.returns-clause-order
returns-clause-order g c = record { made = c.in_ok-pass_rounds.ensures.made; fits = (returns-clause-sound g c).fits }

pub returns-clause-seen : goal.returns-clause-seen
returns-clause-seen g c =
    let some : 1 ≤ c.calm_rounds-calm.result = omega (arith, c.if-calm-eq0.false) in
    nothing-noted c.args.seen.now (seen_rounds c.from.result (state_of g.B.Bridge.shown c.args.self.now)) (c.calm_rounds-calm.ensures.unwatched some)

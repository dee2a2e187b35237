use Rattle.std.proofs.Common.{true≢false, sym, ◌∙◌, ⊎_elim}
use Rattle.network_model.specs.State.{Fits}
use Rattle.spbsim.proofs.TwoBridges.{linked_ports}
use Rattle.spbsim.proofs.tests.boxes.declare_two.Goals as goal

pub returns-clause-ports : goal.returns-clause-ports
returns-clause-ports g c =
    let fits : Fits _ = ⊎_elim (λ h. absurd (true≢false (sym h ∙ c.in_ok-_third.ensures.applies.2))) (λ n. n.state.fits) c.in_ok-_third.ensures.ready in
    linked_ports _ _ _ _ _ _ _ _ _ _ _ _ _ _ _ _ _ _ _ _ _ c.requires.new c.in_ok-_first.ensures.applies.1 c.in_ok-_second.ensures.applies.1 c.in_ok-_third.ensures.applies.1 fits

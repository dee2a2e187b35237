use Rattle.std.proofs.Common.{◌<◌, ◌≤◌, ℕ, length, sym, ◌∙◌, arith}
use Rattle.spb_network.specs.Network.{state_of}
use Rattle.network_model.specs.State.{State, links_of}
use Rattle.network_model.specs.Quieting.{is_link_up}
use Rattle.spb_world.proofs.ListLemmas.{length-things}
use Rattle.network_model.proofs.QuietStates.{met_by_states}
use Rattle.spb_network.proofs.QuietWalks.{all-found, all-passed, all-past}
use Rattle.spb_network.proofs.network.NetworkOf.are_links_up.Goals as goal

pub returns-then-not-is_link_up : goal.returns-then-not-is_link_up
returns-then-not-is_link_up g c =
    let s : State = state_of g.B.Bridge.shown c.args.self.now in
    let k : ℕ = c.loop-place.place in
    let within : k < length (links_of s) = omega (arith, c.loop-place-test.true, c.links-place-end.ensures, c.requires.state.fits.lanes, length-things s.world.links) in
    sym (met_by_states s c.requires.state ∙ (c.loop-place.invariant.1 ∙ all-found (is_link_up s.views) (links_of s) k within (sym c.if-not-is_link_up.true ∙ c.is_link_up.ensures)))

pub loop-place-preserved : goal.loop-place-preserved
loop-place-preserved g c =
    let s : State = state_of g.B.Bridge.shown c.args.self.now in
    let k : ℕ = c.loop-place.place in
    let within : k < length (links_of s) = omega (arith, c.loop-place-test.true, c.links-place-end.ensures, c.requires.state.fits.lanes, length-things s.world.links) in
    (omega (arith, c.loop-place-test.true), c.loop-place.invariant.1 ∙ all-passed (is_link_up s.views) (links_of s) k within (sym c.if-not-is_link_up.false ∙ c.is_link_up.ensures))

pub returns : goal.returns
returns g c =
    let s : State = state_of g.B.Bridge.shown c.args.self.now in
    let k : ℕ = c.loop-place.place in
    let past : length (links_of s) ≤ k = omega (arith, c.loop-place-test.false, c.links-place-end.ensures, c.requires.state.fits.lanes, length-things s.world.links) in
    sym (met_by_states s c.requires.state ∙ (c.loop-place.invariant.1 ∙ all-past (is_link_up s.views) (links_of s) k past))

use Rattle.std.proofs.Common.{◌≡◌, ◌+◌, ◌<◌, None, true≢false, not, is_some, length, sym, ap, subst, ◌∙◌, arith}
use Rattle.std.proofs.lemmas.List.{get_or_read}
use Rattle.ect_trees.specs.Search.{label_at}
use Rattle.ect_trees.proofs.Repairing.{ReachingLost, lost_none, lost_kept, lost_more, lost_all}
use Rattle.ect_trees.proofs.search.Search.reach_lost.Goals as goal
use Rattle.ect_trees.proofs.search.Search.reach_lost.Goals.{then-is_none+in_ok-relax_into, else-is_none}

pub loop-place-init : goal.loop-place-init
loop-place-init c = lost_none c.args.self.now c.args.labels.now.items c.args.front.now c.requires.state

pub index-requires : goal.index-requires
index-requires c =
    let places = c.loop-place.invariant.state.labels.places in
    omega (arith, c.loop-place-test.true, c.len-place-end.ensures, c.args.labels.now.ok, c.loop-place.labels.ok, places, c.requires.state.labels.places)

pub relax_into-requires-clause-within : goal.relax_into-requires-clause-within
relax_into-requires-clause-within c =
    let places = c.loop-place.invariant.state.labels.places in
    omega (arith, c.loop-place-test.true, c.len-place-end.ensures, c.args.labels.now.ok, places, c.requires.state.labels.places)

pub relax_into-requires-clause-state : goal.relax_into-requires-clause-state
relax_into-requires-clause-state c = c.loop-place.invariant.state

pub loop-place-preserved : goal.loop-place-preserved
loop-place-preserved c =
    let s = c.args.self.now in
    let k = c.loop-place.place in
    let old = c.args.labels.now.items in
    let ls = c.loop-place.labels.items in
    let places = c.loop-place.invariant.state.labels.places in
    let within : k < length ls = omega (arith, c.loop-place-test.true, c.len-place-end.ensures, c.args.labels.now.ok, places, c.requires.state.labels.places) in
    elim c.if-is_none.branch [
      | then-is_none+in_ok-relax_into w ↦
          let more = lost_more s k old ls w.relax_into.new.labels.items c.args.front.now c.loop-place.front w.relax_into.new.front w.in_ok-relax_into.ensures.state w.in_ok-relax_into.ensures.reached c.loop-place.invariant in
          subst (λ v. ReachingLost s (k + 1) old v.items c.args.front.now c.if-is_none.front) (sym w.labels-is)
          (subst (λ f. ReachingLost s (k + 1) old w.relax_into.new.labels.items c.args.front.now f) (sym w.front-is) more)
      | else-is_none w ↦
          let read : label_at ls k ≡ c.index.result.now = sym (get_or_read ls k c.index.result.now within c.index.ensures None) in
          let some : label_at ls k ≡ None → ⊥ = λ e. true≢false (sym (c.is_none.ensures ∙ ap not w.if-is_none.false) ∙ ap is_some (sym read ∙ e)) in
          subst (λ v. ReachingLost s (k + 1) old v.items c.args.front.now c.if-is_none.front) (sym w.labels-is)
          (subst (λ f. ReachingLost s (k + 1) old ls c.args.front.now f) (sym w.front-is) (lost_kept s k old ls c.args.front.now c.loop-place.front some c.loop-place.invariant))
    ]

pub returns-clause-state : goal.returns-clause-state
returns-clause-state c = c.loop-place.invariant.state

pub returns-clause-reached : goal.returns-clause-reached
returns-clause-reached c =
    let places = c.loop-place.invariant.state.labels.places in
    lost_all c.args.self.now c.loop-place.place c.args.labels.now.items c.loop-place.labels.items c.args.front.now c.loop-place.front
    (omega (arith, c.loop-place-test.false, c.len-place-end.ensures, c.args.labels.now.ok, places, c.requires.state.labels.places)) c.loop-place.invariant

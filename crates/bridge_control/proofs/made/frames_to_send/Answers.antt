use Rattle.std.proofs.Common.{◌+◌, ◌∷◌, [], ℕ, List, Option, length, take, sym, ap, subst, arith, length-append}
use Rattle.std.proofs.lemmas.List.{take_all}
use Rattle.std.specs.FinMap.{entries}
use Rattle.bridge_control.specs.Made.{AreMadeOf}
use Rattle.bridge_control.proofs.Copies.{frames_next}
use Rattle.bridge_control.proofs.made.frames_to_send.Goals as goal

pub make-preserved : goal.make-preserved
make-preserved c =
    let was : List (Option (List ℕ)) = c.make.frames.items in
    let all = frames_next c.args.system (entries c.args.db.now) c.args.places.now was c.make.k 0 c.in_ok-frame_at.field-0 c.make.invariant.0 c.make-test.true c.make.invariant.1 c.in_ok-frame_at.ensures in
    let items = c.in_ok-push.ensures.items in (
      omega (arith, ap length items, length-append was (c.in_ok-frame_at.field-0 ∷ []), c.make.invariant.0),
      subst (λ (fs : List (Option (List ℕ))). AreMadeOf c.args.system (entries c.args.db.now) (take (c.make.k + 1) c.args.places.now) fs) (sym items) all,
    )

pub returns : goal.returns
returns c =
    subst (λ (ps : List ℕ). AreMadeOf c.args.system (entries c.args.db.now) ps c.make.frames.items) (take_all c.make.k c.args.places.now c.make-test.false) c.make.invariant.1

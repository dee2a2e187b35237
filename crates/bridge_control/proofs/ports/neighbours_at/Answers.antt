use Rattle.std.proofs.Common.{◌∙◌, sym, true, false, ap, rules}
use Rattle.std.proofs.lemmas.List.{append-nil}
use Rattle.std.specs.Global.{Vec}
use Rattle.spb_tlvs.specs.declared.neighbours.Neighbour.{Neighbour}
use Rattle.bridge_control.proofs.Picked.{found_next}
use Rattle.bridge_control.proofs.ports.neighbours_at.Goals as goal
use Rattle.bridge_control.proofs.ports.neighbours_at.Goals.{then-is_up+in_ok-push, else-is_up}

pub find-preserved : goal.find-preserved
find-preserved c =
    elim c.if-is_up.branch [
      | then-is_up+in_ok-push w ↦ found_next true c.args.ports.now c.find.place _ c.find.neighbours.items _ c.find-test.true w.if-is_up.ensures c.find.invariant (search rules)
      | else-is_up w ↦ found_next false c.args.ports.now c.find.place _ c.find.neighbours.items _ c.find-test.true w.if-is_up.ensures c.find.invariant (ap (λ (v : Vec Neighbour). v.items) w.neighbours-is ∙ sym (append-nil c.find.neighbours.items))
    ]

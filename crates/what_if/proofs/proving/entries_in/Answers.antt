use Rattle.std.proofs.Common.{◌≡◌, get_or, List, Some, subst, arith}
use Rattle.std.specs.List.{slice_get}
use Rattle.spb_types.specs.Graph.{systems_of}
use Rattle.spb_types.specs.declared.address.SystemId.{SystemId}
use Rattle.spb_types.specs.declared.graph.GraphBridge.{GraphBridge}
use Rattle.ect_trees.proofs.Places.{no_bridge}
use Rattle.what_if.specs.Entries.{best_entry}
use Rattle.what_if.proofs.Lasts.{read_system, more_entries}
use Rattle.what_if.proofs.proving.entries_in.Goals as goal

pub loop-place-preserved : goal.loop-place-preserved
loop-place-preserved c = λ mask best.
    let g = c.args.graph.now in
    let k = c.loop-place.place in
    let bs = c.as_slice-bridges.result.now in
    let x : SystemId = (get_or bs k no_bridge).id.system in
    let at : slice_get (systems_of g.bridges) k ≡ Some x = subst (λ (t : List GraphBridge). slice_get (systems_of t) k ≡ Some x) c.as_slice-bridges.ensures (read_system bs k (omega (arith, c.loop-place-test.true))) in
    more_entries (best_entry g mask c.args.tree.now.source) (systems_of g.bridges) k x c.loop-place.entries.items c.push.new.self.items c.entry_in.result (c.loop-place.invariant mask best) at (c.entry_in.ensures g mask best) c.in_ok-push.ensures.items

use Rattle.std.proofs.Common.{◌≡◌, ◌+◌, true, false, get_or, sym, subst, ap, ◌∙◌, arith}
use Rattle.spb_types.specs.declared.address.SystemId.{SystemId}
use Rattle.ect_trees.specs.Search.{graph_of, IsLabel, IsExtended, IsLow, Tells, longer_cost}
use Rattle.ect_trees.proofs.Places.{no_bridge, read_bridge}
use Rattle.ect_trees.proofs.Extended.{at_same, cost_fits, dearer_is_not, longer_cost_is, lower_label}
use Rattle.ect_trees.proofs.search.Search.better.Goals as goal

pub overflow_add-cost : goal.overflow_add-cost
overflow_add-cost c = omega (arith, cost_fits c.args.self.now c.args.arc c.args.label.now c.requires.ready.valid c.requires.arc, c.from.ensures)

pub is_lower-requires-clause-label : goal.is_lower-requires-clause-label
is_lower-requires-clause-label c =
    let s = c.args.self.now in
    let l = c.args.label.now in
    let h = c.requires.arc in
    let same = (read_bridge (graph_of s) c.as_slice.result.now c.args.arc.to h.1 c.requires.ready.valid c.as_slice.ensures h.2.to).0 in
    (h.0, h.3, ap (λ n. l.cost + n) c.from.ensures ∙ (longer_cost_is s c.args.arc h.0 h.1 l h.2 h.3 ∙ ap (longer_cost s l) (sym same)))

pub is_lower-requires-clause-old : goal.is_lower-requires-clause-old
is_lower-requires-clause-old c =
    let s = c.args.self.now in
    let h = c.requires.arc in
    let same = (read_bridge (graph_of s) c.as_slice.result.now c.args.arc.to h.1 c.requires.ready.valid c.as_slice.ensures h.2.to).0 in
    λ o e. subst (λ t. IsLabel s t o) (sym same) (c.requires.old h.1 o h.2.to e)

pub returns-then-is_dearer : goal.returns-then-is_dearer
returns-then-is_dearer c =
    let s = c.args.self.now in
    let l = c.args.label.now in
    let h = c.requires.arc in
    let cost = l.cost + c.from.result in
    let told = c.is_dearer.ensures c.if-is_dearer.true in
    λ y here free.
    let other : h.1 ≡ y = at_same (graph_of s) c.args.arc.to h.1 y h.2.to here in
    let cost_is : cost ≡ longer_cost s l y = ap (λ n. l.cost + n) c.from.ensures ∙ (longer_cost_is s c.args.arc h.0 h.1 l h.2 h.3 ∙ ap (longer_cost s l) other) in
    subst (IsLow s l y) (sym told.1) (dearer_is_not s l told.0 y cost (c.requires.old y told.0 here told.1) cost_is told.2)

pub returns-in_ok-extended : goal.returns-in_ok-extended
returns-in_ok-extended c =
    let s = c.args.self.now in
    let l = c.args.label.now in
    let h = c.requires.arc in
    let cost = l.cost + c.from.result in
    let z : SystemId = (get_or c.as_slice.result.now c.args.arc.to no_bridge).id.system in
    λ y here.
    let same : z ≡ y = (read_bridge (graph_of s) c.as_slice.result.now c.args.arc.to y c.requires.ready.valid c.as_slice.ensures here).0 in
    let other : z ≡ h.1 = (read_bridge (graph_of s) c.as_slice.result.now c.args.arc.to h.1 c.requires.ready.valid c.as_slice.ensures h.2.to).0 in
    let cost_is : cost ≡ longer_cost s l y = ap (λ n. l.cost + n) c.from.ensures ∙ (longer_cost_is s c.args.arc h.0 h.1 l h.2 h.3 ∙ ap (longer_cost s l) (sym other ∙ same)) in
    let told : Tells s l y c.args.old.now true = subst (λ t. Tells s l t c.args.old.now true) same (subst (Tells s l z c.args.old.now) c.if-branch.true c.in_ok-is_lower.ensures) in
    let longer : IsExtended l y cost c.in_ok-extended.field-0 = subst (λ t. IsExtended l t cost c.in_ok-extended.field-0) same c.in_ok-extended.ensures in
    lower_label s c.args.arc l c.in_ok-extended.field-0 c.args.old.now cost y c.requires.ready.valid h here cost_is told longer

pub returns-else-branch : goal.returns-else-branch
returns-else-branch c =
    let s = c.args.self.now in
    let l = c.args.label.now in
    let z : SystemId = (get_or c.as_slice.result.now c.args.arc.to no_bridge).id.system in
    λ y here.
    let same : z ≡ y = (read_bridge (graph_of s) c.as_slice.result.now c.args.arc.to y c.requires.ready.valid c.as_slice.ensures here).0 in
    subst (λ t. Tells s l t c.args.old.now false) same (subst (Tells s l z c.args.old.now) c.if-branch.false c.in_ok-is_lower.ensures)

use Rattle.std.proofs.Common.{List, None, Some, sym, subst, ◌∙◌}
use Rattle.spb_types.specs.declared.address.SystemId.{SystemId}
use Rattle.spb_types.specs.declared.graph.Graph.{Graph}
use Rattle.ect_trees.specs.Arcs.{IsBridgeAt}
use Rattle.what_if.specs.Labels.{IsWayTo, IsPathBy}
use Rattle.what_if.proofs.Proved.{no_start, no_bridge_there, read_off}
use Rattle.what_if.proofs.following.along.Goals as goal

pub returns-in_default : goal.returns-in_default
returns-in_default c = no_start c.args.roads.now c.args.entries.now c.requires.valid c.requires.long c.args.to (sym c.start_of.ensures ∙ c.in_default.is)

pub returns-in_default-place_of : goal.returns-in_default-place_of
returns-in_default-place_of c =
    no_bridge_there c.args.roads.now c.args.entries.now c.requires.valid c.requires.long c.args.to (sym c.place_of.ensures ∙ c.in_default-place_of.is)

pub returns-in-None : goal.returns-in-None
returns-in-None c =
    let g = c.args.roads.now in
    let es = c.args.entries.now in
    let s = c.system_at-source.result in
    let start = c.in-Some.start in
    let place = c.in-Some-place_of.place in
    let same = c.mesh-mesh.ensures.same in
    read_off g es c.requires.valid c.requires.long c.args.to s start place None (sym c.start_of.ensures ∙ c.in-Some.is)
    (subst (λ (t : Graph). IsBridgeAt t start s) same c.system_at-source.ensures) (sym c.place_of.ensures ∙ c.in-Some-place_of.is)
    (subst (IsWayTo g es s place) c.in-None.is (subst (λ (t : Graph). IsWayTo t es s place c.in_ok-way_to.field-0) same c.in_ok-way_to.ensures))

pub returns-in-Some-2 : goal.returns-in-Some-2
returns-in-Some-2 c =
    let g = c.args.roads.now in
    let es = c.args.entries.now in
    let s = c.system_at-source.result in
    let start = c.in-Some.start in
    let place = c.in-Some-place_of.place in
    let way = c.in-Some-2.way in
    let same = c.mesh-mesh.ensures.same in
    let read : IsPathBy g es c.args.to (Some (record { cost = way.cost; bridges = way.bridges.items })) =
    read_off g es c.requires.valid c.requires.long c.args.to s start place (Some way) (sym c.start_of.ensures ∙ c.in-Some.is)
    (subst (λ (t : Graph). IsBridgeAt t start s) same c.system_at-source.ensures) (sym c.place_of.ensures ∙ c.in-Some-place_of.is)
    (subst (IsWayTo g es s place) c.in-Some-2.is (subst (λ (t : Graph). IsWayTo t es s place c.in_ok-way_to.field-0) same c.in_ok-way_to.ensures)) in
    subst (λ (l : List SystemId). IsPathBy g es c.args.to (Some (record { cost = way.cost; bridges = l }))) (sym c.from_vec.ensures) read

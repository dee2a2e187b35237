use Rattle.std.proofs.Common.{◌≡◌, ◌<◌, false, List, [], None, Option, IsSome, Vec, Global, length, true≢false, sym, subst, ap, ◌∙◌, arith}
use Rattle.std.proofs.Math.ListN.{replicate}
use Rattle.std.proofs.lemmas.List.{length-replicate}
use Rattle.spb_types.specs.Graph.{IsBridge}
use Rattle.ect_trees.specs.declared.search.Label.{Label}
use Rattle.ect_trees.specs.declared.waiting.Waiting.{Waiting}
use Rattle.ect_trees.specs.Arcs.{IsBridgeAt}
use Rattle.ect_trees.specs.Search.{graph_of, AreBest}
use Rattle.ect_trees.specs.Waits.{waits}
use Rattle.ect_trees.proofs.Places.{at_within, found_place, place_found}
use Rattle.ect_trees.proofs.Settled.{start_state, first_state, first_front, none_best}
use Rattle.ect_trees.proofs.search.Search.labels.Goals as goal
use Rattle.ect_trees.proofs.search.Search.labels.Goals.{in-Some+in_ok-first+in_ok-set_label+in_ok-settle, in_default}

none_waits : (front : List Waiting) → front ≡ [] → (e : Waiting) → waits front e ≡ false
none_waits front h e = ap (λ ws. waits ws e) h

pub settle-requires-clause-state : goal.settle-requires-clause-state
settle-requires-clause-state c =
    let s = c.args.self.now in
    let none = none_waits c.new-front.result c.new-front.ensures in
    let empty : c.in_ok-labels.labels.items ≡ replicate (length (graph_of s).bridges) None = c.in_ok-labels.ensures ∙ ap (λ n. replicate n None) c.len.ensures in
    let at : IsBridgeAt (graph_of s) c.in-Some.place s.source = found_place (graph_of s) s.source c.in-Some.place (sym c.place_of.ensures ∙ c.in-Some.is) in
    let within : c.in-Some.place < length c.in_ok-labels.labels.items = omega (arith, at_within (graph_of s) c.in-Some.place s.source at, ap length empty, length-replicate {A = Option Label} (length (graph_of s).bridges) None) in
    first_state s c.in-Some.place c.in_ok-first.field-0 c.in_ok-labels.labels.items c.set_label.new.labels.items c.new-front.result c.set_label.new.front at within c.in_ok-first.ensures (start_state s c.in_ok-labels.labels.items c.new-front.result empty none) c.in_ok-set_label.ensures

pub settle-requires-clause-front : goal.settle-requires-clause-front
settle-requires-clause-front c =
    let s = c.args.self.now in
    let none = none_waits c.new-front.result c.new-front.ensures in
    let empty : c.in_ok-labels.labels.items ≡ replicate (length (graph_of s).bridges) None = c.in_ok-labels.ensures ∙ ap (λ n. replicate n None) c.len.ensures in
    let at : IsBridgeAt (graph_of s) c.in-Some.place s.source = found_place (graph_of s) s.source c.in-Some.place (sym c.place_of.ensures ∙ c.in-Some.is) in
    let within : c.in-Some.place < length c.in_ok-labels.labels.items = omega (arith, at_within (graph_of s) c.in-Some.place s.source at, ap length empty, length-replicate {A = Option Label} (length (graph_of s).bridges) None) in
    first_front s c.in-Some.place c.in_ok-first.field-0 c.in_ok-labels.labels.items c.set_label.new.labels.items c.new-front.result c.set_label.new.front c.requires at within c.in_ok-first.ensures empty none c.in_ok-set_label.ensures

pub returns : goal.returns
returns c =
    let s = c.args.self.now in
    let none = none_waits c.new-front.result c.new-front.ensures in
    let empty : c.in_ok-labels.labels.items ≡ replicate (length (graph_of s).bridges) None = c.in_ok-labels.ensures ∙ ap (λ n. replicate n None) c.len.ensures in
    elim c.match-place_of.branch [
      | in-Some+in_ok-first+in_ok-set_label+in_ok-settle w ↦ subst (λ (v : Vec (Option Label) Global). AreBest s v.items) (sym w.labels-is) w.in_ok-settle.ensures.best
      | in_default w ↦
          let out : IsBridge (graph_of s) s.source → ⊥ = λ h. true≢false (sym (subst (λ o. IsSome o) (sym c.place_of.ensures ∙ w.in_default.is) (place_found (graph_of s) s.source h))) in
          subst (λ (v : Vec (Option Label) Global). AreBest s v.items) (sym w.labels-is)
          (none_best s c.in_ok-labels.labels.items c.new-front.result c.requires (start_state s c.in_ok-labels.labels.items c.new-front.result empty none) empty out)
    ]

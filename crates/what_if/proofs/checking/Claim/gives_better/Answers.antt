use Rattle.std.proofs.Common.{◌≡◌, ◌<◌, length, None, refl, sym, subst, ◌∙◌, arith}
use Rattle.std.proofs.lemmas.List.{get_or_read}
use Rattle.ect_trees.specs.declared.search.Search.{Search}
use Rattle.ect_trees.specs.declared.mesh.Arc.{Arc}
use Rattle.ect_trees.specs.Search.{label_at, Improves}
use Rattle.ect_trees.proofs.Places.{at_within}
use Rattle.what_if.specs.Claim.{TellsBetter}
use Rattle.what_if.proofs.Told.{turned_back, way_label, better_told, none_told}
use Rattle.what_if.proofs.checking.Claim.gives_better.Goals as goal

pub returns-in_default : goal.returns-in_default
returns-in_default c =
    let s = c.args.self.now in
    let lead = c.requires.arc in
    let within : c.args.arc.to < length s.ways.items = omega (arith, at_within s.mesh.now.graph c.args.arc.to lead.1 lead.2.to, c.requires.claim.ways.places) in
    let read : label_at s.ways.items c.args.arc.to ≡ c.index.result.now = sym (get_or_read s.ways.items c.args.arc.to c.index.result.now within c.index.ensures None) in
    none_told s c.requires.claim c.args.arc (read ∙ c.in_default.is)

pub better-requires-clause-arc : goal.better-requires-clause-arc
better-requires-clause-arc c =
    let s = c.args.self.now in
    let lead = c.requires.arc in
    let within : c.args.arc.to < length s.ways.items = omega (arith, at_within s.mesh.now.graph c.args.arc.to lead.1 lead.2.to, c.requires.claim.ways.places) in
    let read : label_at s.ways.items c.args.arc.to ≡ c.index.result.now = sym (get_or_read s.ways.items c.args.arc.to c.index.result.now within c.index.ensures None) in
    (lead.1, lead.0, turned_back s.mesh.now.graph c.args.arc lead.0 lead.1 lead.2, way_label s c.requires.claim c.args.arc.to lead.1 c.in-Some.way lead.2.to (read ∙ c.in-Some.is))

pub better-requires-clause-old : goal.better-requires-clause-old
better-requires-clause-old c =
    let s = c.args.self.now in
    let lead = c.requires.arc in
    let within : c.args.arc.from < length s.ways.items = omega (arith, at_within s.mesh.now.graph c.args.arc.from lead.0 lead.2.from, c.requires.claim.ways.places) in
    let read : label_at s.ways.items c.args.arc.from ≡ c.index-2.result.now = sym (get_or_read s.ways.items c.args.arc.from c.index-2.result.now within c.index-2.ensures None) in
    λ y l here old. way_label s c.requires.claim c.args.arc.from y l here (read ∙ old)

pub returns : goal.returns
returns c =
    let s = c.args.self.now in
    let lead = c.requires.arc in
    let far : c.args.arc.to < length s.ways.items = omega (arith, at_within s.mesh.now.graph c.args.arc.to lead.1 lead.2.to, c.requires.claim.ways.places) in
    let near : c.args.arc.from < length s.ways.items = omega (arith, at_within s.mesh.now.graph c.args.arc.from lead.0 lead.2.from, c.requires.claim.ways.places) in
    let read : label_at s.ways.items c.args.arc.to ≡ c.index.result.now = sym (get_or_read s.ways.items c.args.arc.to c.index.result.now far c.index.ensures None) in
    let own : label_at s.ways.items c.args.arc.from ≡ c.index-2.result.now = sym (get_or_read s.ways.items c.args.arc.from c.index-2.result.now near c.index-2.ensures None) in
    let back : Arc = record { from = c.args.arc.to; to = c.args.arc.from; cost = c.args.arc.cost } in
    let search : Search = record { mesh = s.mesh; source = s.source; mask = s.mask } in
    let better : Improves search back c.in-Some.way (label_at s.ways.items c.args.arc.from) c.in_ok-better.better = subst (λ o. Improves search back c.in-Some.way o c.in_ok-better.better) (sym own) c.in_ok-better.ensures in
    subst (TellsBetter s c.args.arc) (sym c.is_some.ensures) (better_told s c.requires.claim c.args.arc back c.in-Some.way c.in_ok-better.better (read ∙ c.in-Some.is) refl better)

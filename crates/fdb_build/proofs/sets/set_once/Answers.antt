use Rattle.std.proofs.Common.{refl, sym, ap, ◌∙◌, subst}
use Rattle.fdb_build.specs.Making.{IsFound, source_at, set_at, sets_from}
use Rattle.fdb_build.proofs.FollowerLemmas.{none_to_itself}
use Rattle.fdb_build.proofs.FoundLemmas.{found_is, found_put}
use Rattle.fdb_build.proofs.SourceLemmas.{source_stands}
use Rattle.fdb_build.proofs.sets.set_once.Goals as goal

pub returns-then-to-source-clause-set : goal.returns-then-to-source-clause-set
returns-then-to-source-clause-set g c =
    let around = c.args.around.now in
    let roads = around.roads.now in
    let a = (source_at roads c.args.source).id.system in
    c.none.ensures ∙ sym (ap (set_at (sets_from roads around.me c.args.plan a)) c.if-to-source.true
    ∙ none_to_itself roads around.me c.args.plan c.args.source a c.requires.known.valid.valid (source_stands roads c.args.source c.requires.within))

pub returns-in-Some-clause-set : goal.returns-in-Some-clause-set
returns-in-Some-clause-set g c =
    let around = c.args.around.now in
    found_is around.roads.now around.me c.args.plan c.args.source c.args.to c.found_at.result c.in-Some.set
    (subst (IsFound around.roads.now around.me c.args.to) (sym c.found_at.ensures) (c.requires.found c.args.to)) (sym c.found_for.ensures ∙ c.in-Some.is)

pub returns-clause-found : goal.returns-clause-found
returns-clause-found g c =
    let around = c.args.around.now in
    found_put around.roads.now around.me c.args.plan c.args.found.now.items c.keep.new.found.items c.args.to (record { source = c.args.source; ect = c.args.plan.ect; ports = c.in_ok-ports.ports })
    c.keep.ensures refl c.in_ok-ports.ensures c.requires.found

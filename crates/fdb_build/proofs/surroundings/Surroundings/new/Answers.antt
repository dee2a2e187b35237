use Rattle.std.proofs.Common.{refl, ap, ◌∙◌}
use Rattle.std.specs.List.{filter_map}
use Rattle.fdb_build.specs.Surroundings.{neighbour_by, ports_by}
use Rattle.fdb_build.proofs.RowLemmas.{ports_known}
use Rattle.fdb_build.proofs.surroundings.Surroundings.new.Goals as goal

pub returns : goal.returns
returns c =
    let g = c.args.roads.now in
    let me = c.args.me in
    let neighbours = c.in_ok-neighbours.ensures ∙ ap (λ h. filter_map (neighbour_by me) h.edges) c.graph.ensures in
    record {
      known = record {
        valid = c.requires.valid;
        here = c.requires.here;
        ports =
            c.in_ok-ports.ensures ∙ (ap (λ t. ports_by t g.bridges) c.as_slice.ensures.value ∙
            ports_known g me c.in_ok-neighbours.neighbours.items c.requires.valid.valid neighbours);
      };
      graph_is = refl;
      me_is = refl;
    }

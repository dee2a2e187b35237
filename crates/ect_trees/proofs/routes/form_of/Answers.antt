use Rattle.std.proofs.Common.{◌≡◌, refl, subst}
use Rattle.spb_types.specs.declared.address.SystemId.{SystemId}
use Rattle.ect_trees.specs.Best.{best_of}
use Rattle.ect_trees.specs.Ways.{way_to, AreWays}
use Rattle.ect_trees.proofs.Kept.{covers_own}
use Rattle.ect_trees.proofs.routes.form_of.Goals as goal

pub returns-in_default : goal.returns-in_default
returns-in_default c =
    let r = c.args.mesh.now in (
      covers_own c.in_ok-verdict.verdict c.args.mask c.in_default.not-Wrong,
      λ m covers. record {
        mesh = r;
        graph_is = refl;
        best = λ a here. subst (λ t. AreWays r c.args.from a t × ((x : SystemId) → way_to r.graph a t x ≡ best_of r.graph m a x)) c.as_slice.ensures.value
            (c.in_ok-verdict.ensures a c.requires.ready here m covers);
      },
    )

use Rattle.std.proofs.Common.{◌≡◌, [], ◌∷◌, ◌+◌, length, sym, ap, ◌∙◌, subst, length-append}
use Rattle.std.specs.Prelude.{All}
use Rattle.std.specs.Global.{Vec}
use Rattle.std.proofs.lemmas.List.Elements.{All-push}
use Rattle.ect_trees.specs.declared.routes.Routes.{Routes}
use Rattle.ect_trees.proofs.forest.no_routes.Goals as goal

pub loop-place-preserved : goal.loop-place-preserved
loop-place-preserved c = (
  ap length c.in_ok-push.ensures.items ∙ (length-append c.loop-place.rows.items (c.new.result ∷ []) ∙ ap (λ n. n + 1) c.loop-place.invariant.0),
  subst (All (λ (row : Vec Routes). row.items ≡ [])) (sym c.in_ok-push.ensures.items)
      (All-push (λ (row : Vec Routes). row.items ≡ []) c.loop-place.rows.items c.new.result c.loop-place.invariant.1 c.new.ensures.items),
)

use Rattle.std.proofs.Common.{◌≡◌, List, Option, Some, None, sym, ap, ◌∙◌}
use Rattle.std.specs.List.{position}
use Rattle.spb_types.specs.declared.address.Mac.{Mac}
use Rattle.customer_learning.specs.declared.place.Place.{Place}
use Rattle.customer_learning.specs.declared.table.Table.{Table}
use Rattle.customer_learning.specs.Known.{place_among, or_none}
use Rattle.customer_learning.specs.Tables.{is_of}
use Rattle.customer_learning.proofs.Maps.{place_known, unknown}
use Rattle.customer_learning.proofs.learned.Learned.find.Goals as goal

pub returns-in-Some : goal.returns-in-Some
returns-in-Some c =
    let at : Some c.in-Some.i ≡ position (is_of c.args.isid) c.self.inside.tables.items = sym c.in-Some.is ∙ c.place_of.ensures ∙ ap (λ (ts : List Table). position (is_of c.args.isid) ts) c.deref.ensures.value in
    c.place_among.ensures ∙ ap (λ (o : Option (List (Mac × Place))). place_among (or_none o) c.args.mac) (sym (place_known c.self.inside.tables.items c.args.isid c.in-Some.i c.index.result.now c.args.self.now c.self.view_is at c.index.ensures))

pub returns-in-None : goal.returns-in-None
returns-in-None c =
    let at : None ≡ position (is_of c.args.isid) c.self.inside.tables.items = sym c.in-None.is ∙ c.place_of.ensures ∙ ap (λ (ts : List Table). position (is_of c.args.isid) ts) c.deref.ensures.value in
    ap (λ (o : Option (List (Mac × Place))). place_among (or_none o) c.args.mac) (sym (unknown c.self.inside.tables.items c.args.isid c.args.self.now c.self.view_is at))

use Rattle.std.proofs.Common.{◌≡◌, List, Some, None, refl, sym, ap, ◌∙◌}
use Rattle.std.specs.List.{position}
use Rattle.lru.specs.LruCache.{LruCache}
use Rattle.spb_types.specs.declared.address.Mac.{Mac}
use Rattle.customer_learning.specs.declared.place.Place.{Place}
use Rattle.customer_learning.specs.declared.table.Table.{Table}
use Rattle.customer_learning.specs.Tables.{is_of}
use Rattle.customer_learning.proofs.Maps.{forgotten_over, forgotten_none}
use Rattle.customer_learning.proofs.learned.Learned.forget_port.Goals as goal

pub returns-in-Some : goal.returns-in-Some
returns-in-Some c =
    let at : Some c.in-Some.i ≡ position (is_of c.args.isid) c.self.inside.tables.items = sym c.in-Some.is ∙ c.place_of.ensures ∙ ap (λ (ts : List Table). position (is_of c.args.isid) ts) c.deref.ensures.value in
    forgotten_over c.self.inside.tables.items c.args.isid c.in-Some.i c.index_mut.result.now _ c.args.self.now c.args.port c.self.view_is at c.index_mut.ensures.value refl (ap (λ (l : LruCache Mac Place). l.entries) c.forget_at.ensures)

pub returns-in-None : goal.returns-in-None
returns-in-None c =
    let at : None ≡ position (is_of c.args.isid) c.self.inside.tables.items = sym c.in-None.is ∙ c.place_of.ensures ∙ ap (λ (ts : List Table). position (is_of c.args.isid) ts) c.deref.ensures.value in
    forgotten_none c.self.inside.tables.items c.args.isid c.args.self.now c.args.port c.self.view_is at

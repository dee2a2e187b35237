use Rattle.std.proofs.Common.{◌≡◌, List, [], Some, None, refl, sym, ap, ◌∙◌}
use Rattle.std.specs.List.{position}
use Rattle.std.proofs.lemmas.Result.{on_ok_weaker}
use Rattle.lru.specs.LruCache.{LruCache, lru_cache}
use Rattle.spb_types.specs.declared.address.Mac.{Mac}
use Rattle.customer_learning.specs.declared.place.Place.{Place}
use Rattle.customer_learning.specs.declared.table.Table.{Table}
use Rattle.spb_types.specs.declared.limits.TheConstants.{MOST_ADDRESSES}
use Rattle.customer_learning.specs.Known.{brought}
use Rattle.customer_learning.specs.Tables.{is_of}
use Rattle.customer_learning.proofs.Maps.{learned_over, learned_new}
use Rattle.customer_learning.proofs.learned.Learned.learn.Goals as goal

pub returns-in-Some-clause-ok : goal.returns-in-Some-clause-ok
returns-in-Some-clause-ok c =
    let at : Some c.in-Some.i ≡ position (is_of c.args.isid) c.self.inside.tables.items = sym c.in-Some.is ∙ c.place_of.ensures ∙ ap (λ (ts : List Table). position (is_of c.args.isid) ts) c.deref.ensures.value in
    on_ok_weaker c.bring.result (λ new. learned_over c.self.inside.tables.items c.args.isid c.in-Some.i c.index_mut.result.now _ c.args.self.now c.args.mac c.args.place c.self.view_is at c.index_mut.ensures.value refl (ap (λ (l : LruCache Mac Place). l.entries) new)) c.bring.ensures.ok

pub returns-in_ok-push-in-None-clause-ok : goal.returns-in_ok-push-in-None-clause-ok
returns-in_ok-push-in-None-clause-ok c =
    let at : None ≡ position (is_of c.args.isid) c.self.inside.tables.items = sym c.in-None.is ∙ c.place_of.ensures ∙ ap (λ (ts : List Table). position (is_of c.args.isid) ts) c.deref.ensures.value in
    let fresh : c.in_ok-table-in-None.table.addresses ≡ lru_cache [] MOST_ADDRESSES = c.in_ok-table-in-None.ensures.addresses in
    let first = ap (λ (l : LruCache Mac Place). l.entries) c.in_ok-bring-in-None.ensures.ok ∙ ap (λ (l : LruCache Mac Place). brought c.args.mac c.args.place l.entries) fresh in
    rw c.in_ok-push-in-None.ensures.items (learned_new c.self.inside.tables.items c.args.isid _ c.args.self.now c.args.mac c.args.place c.self.view_is at c.in_ok-table-in-None.ensures.isid first)

use Rattle.std.proofs.Common.{◌≡◌, ◌∷◌, [], ◌++◌, length, take, slice_get, Some, None, ℕ, suc, sym, ap, ◌∙◌, arith}
use Rattle.std.specs.Option.{option_map, option_copied}
use Rattle.std.specs.FinMap.{entries}
use Rattle.lsdb.specs.Database.{Lsps, keyed}
use Rattle.lsdb.specs.Entry.{row_of}
use Rattle.network_model.specs.Questions.{rows_of}
use Rattle.spb_world.proofs.ListLemmas.{length-push}
use Rattle.network_model.proofs.RowLemmas.{take-next, take-past, within}
use Rattle.spb_network.proofs.boxes.held_rows.Goals as goal

pub loop-held-smaller : goal.loop-held-smaller
loop-held-smaller g c =
    let db : Lsps = (g.B.Bridge.shown c.args.bridge.now).view.database in
    let at : slice_get (entries db) c.len.result ≡ Some (keyed c.in-Some.held.now) = sym c.entry.ensures ∙ ap (λ o. option_map keyed (option_copied o)) c.in-Some.is in
    omega (arith, c.len.ensures, within (λ e. row_of e.0 e.1) (entries db) c.len.result (keyed c.in-Some.held.now) at, ap length c.in_ok-push.ensures.items, length-push c.loop-held.rows.items c.row.result)

pub loop-held-preserved : goal.loop-held-preserved
loop-held-preserved g c =
    let db : Lsps = (g.B.Bridge.shown c.args.bridge.now).view.database in
    let n : ℕ = length c.loop-held.rows.items in
    let place : n ≡ c.len.result = omega (arith, c.len.ensures, c.loop-held.rows.ok) in
    let at : slice_get (entries db) n ≡ Some (keyed c.in-Some.held.now) = ap (slice_get (entries db)) place ∙ (sym c.entry.ensures ∙ ap (λ o. option_map keyed (option_copied o)) c.in-Some.is) in
    let count : suc n ≡ length c.push.new.self.items = omega (arith, ap length c.in_ok-push.ensures.items, length-push c.loop-held.rows.items c.row.result) in
    c.in_ok-push.ensures.items
    ∙ ((λ i. c.loop-held.invariant i ++ c.row.ensures i ∷ [])
    ∙ (sym (take-next (λ e. row_of e.0 e.1) (entries db) n (keyed c.in-Some.held.now) at)
    ∙ ap (λ (k : ℕ). take k (rows_of db)) count))

pub returns : goal.returns
returns g c =
    let db : Lsps = (g.B.Bridge.shown c.args.bridge.now).view.database in
    let n : ℕ = length c.loop-held.rows.items in
    let place : n ≡ c.len.result = omega (arith, c.len.ensures, c.loop-held.rows.ok) in
    let past : slice_get (entries db) n ≡ None = ap (slice_get (entries db)) place ∙ (sym c.entry.ensures ∙ ap (λ o. option_map keyed (option_copied o)) c.in_default.is) in
    c.loop-held.invariant ∙ take-past (λ e. row_of e.0 e.1) (entries db) n past

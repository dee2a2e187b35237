use Rattle.std.proofs.Common.{◌+◌, true, sym, ap, ◌∙◌}
use Rattle.std.proofs.lemmas.Bool.{le-ltb, lt-ltb}
use Rattle.std.specs.FinMap.{get, insert}
use Rattle.spb_types.specs.declared.address.LspId.{LspId}
use Rattle.lsdb.specs.Version.{number_of}
use Rattle.lsdb.specs.Database.{Lsps, version_at}
use Rattle.flooding.specs.Own.{renewed}
use Rattle.flooding.specs.Origination.{spent_entry}
use Rattle.flooding.specs.Placing.{holding}
use Rattle.flooding.proofs.Originated.{originated_spent, originated_none, originated_next, originated_last}
use Rattle.flooding.proofs.origination.originate.Goals as goal

pub returns-then-own-clause-ok : goal.returns-then-own-clause-ok
returns-then-own-clause-ok c = originated_spent c.args.up c.args.number (holding c.args.db.now c.args.own.now) c.if-own.true

pub returns-in_default-clause-ok : goal.returns-in_default-clause-ok
returns-in_default-clause-ok c = originated_none c.args.up c.args.number (holding c.args.db.now c.args.own.now) c.if-own.false (sym c.in_default.ensures)

pub returns-in-Ok-clause-ok : goal.returns-in-Ok-clause-ok
returns-in-Ok-clause-ok c =
    let h = holding c.args.db.now c.args.own.now in
    let seq_is = c.number-seq.ensures ∙ ap number_of (c.version_at.ensures ∙ ap (λ (x : LspId). version_at c.args.db.now x) c.id-id.ensures) in
    let put_in = c.in-Ok.ensures.1 ∙ ap (λ (x : LspId). insert c.args.db.now x (renewed c.args.up x c.in-Some.body.now (c.number-seq.result + 1))) c.id-id.ensures in
    ap (λ (d : Lsps). holding d c.args.own.now) put_in
    ∙ sym (originated_next c.args.up c.args.number h c.in-Some.body.now c.number-seq.result c.if-own.false (sym c.in-Some.ensures) seq_is (lt-ltb _ _ c.if-seq-lt4294967295.true))

pub returns-clause-ok : goal.returns-clause-ok
returns-clause-ok c =
    let h = holding c.args.db.now c.args.own.now in
    let seq_is = c.number-seq.ensures ∙ ap number_of (c.version_at.ensures ∙ ap (λ (x : LspId). version_at c.args.db.now x) c.id-id.ensures) in
    let put_in = c.spend.ensures ∙ ap (λ (x : LspId). insert c.args.db.now x (spent_entry c.args.up c.number-seq.result (get c.args.db.now x))) c.id-id.ensures in
    ap (λ (d : Lsps). holding d (record c.args.own.now { spent = true })) put_in
    ∙ sym (originated_last c.args.up c.args.number h c.in-Some.body.now c.number-seq.result c.if-own.false (sym c.in-Some.ensures) seq_is (le-ltb _ _ c.if-seq-lt4294967295.false))

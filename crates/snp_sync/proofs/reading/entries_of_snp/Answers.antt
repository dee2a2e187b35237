use Rattle.std.proofs.lemmas.Result.{err_from_is_err_and}
use Rattle.snp_sync.proofs.Gleaned.{nine_in_front, other_in_front, gleaned_none, gleaned_other, gleaned_more, gleaned_refused, gleaned_all}
use Rattle.snp_sync.proofs.reading.entries_of_snp.Goals as goal

pub loop-code-init : goal.loop-code-init
loop-code-init c = gleaned_none c.args.tlvs.now _ c.in_ok-entries.ensures.items

pub returns-in_err-append_entries : goal.returns-in_err-append_entries
returns-in_err-append_entries c =
    let p = err_from_is_err_and c.from_residual-in_err-append_entries.result c.from_residual-in_err-append_entries.ensures.1 in
    rw (p.1, p.2) (gleaned_refused c.args.tlvs.now c.loop-code.rest.now c.in-Some.after.now c.in-Some.value.now c.loop-code.entries.items c.in_err-append_entries.field-0.0 c.loop-code.invariant (nine_in_front _ _ _ _ (c.in-Some.ensures.values 9) c.if-code-eq-LSP_ENTRIES.true) c.in_err-append_entries.ensures.err)

pub loop-code-preserved-in_ok-append_entries : goal.loop-code-preserved-in_ok-append_entries
loop-code-preserved-in_ok-append_entries c =
    let appended = c.in_ok-append_entries.ensures.ok in
    gleaned_more c.args.tlvs.now c.loop-code.rest.now c.in-Some.after.now c.in-Some.value.now c.loop-code.entries.items appended.0 _
    c.loop-code.invariant (nine_in_front _ _ _ _ (c.in-Some.ensures.values 9) c.if-code-eq-LSP_ENTRIES.true) appended.1 appended.2

pub loop-code-preserved : goal.loop-code-preserved
loop-code-preserved c = gleaned_other c.args.tlvs.now c.loop-code.rest.now _ _ c.loop-code.invariant (other_in_front _ _ _ _ (c.in-Some.ensures.values 9) c.if-code-eq-LSP_ENTRIES.false)

pub returns : goal.returns
returns c = gleaned_all c.args.tlvs.now c.loop-code.rest.now _ c.loop-code.invariant (c.in_default.ensures.values 9)

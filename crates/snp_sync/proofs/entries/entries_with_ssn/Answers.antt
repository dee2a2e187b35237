use Rattle.std.proofs.Common.{◌+◌, ℕ, List, drop, get_or, refl, subst}
use Rattle.std.specs.FinMap.{entries}
use Rattle.snp_sync.proofs.Within.{Gathers, gathers_none, gathers_next, gathers_all, next_place, no_place}
use Rattle.snp_sync.proofs.entries.entries_with_ssn.Goals as goal

pub loop-k-init : goal.loop-k-init
loop-k-init c = gathers_none c.args.port c.args.places.now (entries c.args.db.now) _ c.requires.places c.in_ok-entries.ensures.items

pub loop-k-preserved : goal.loop-k-preserved
loop-k-preserved c =
    let es = entries c.args.db.now in
    let q : ℕ = get_or c.args.places.now c.loop-k.k 0 in
    let left : List ℕ = drop (c.loop-k.k + 1) c.args.places.now in
    gathers_next c.args.port q left es c.loop-k.entries.items c.put_entry.new.entries.items
    (subst (λ (ps : List ℕ). Gathers c.args.port ps es c.loop-k.entries.items) (next_place c.args.places.now c.loop-k.k q 0 c.loop-k-test.true refl) c.loop-k.invariant)
    c.in_ok-put_entry.ensures

pub returns : goal.returns
returns c =
    gathers_all c.args.port c.args.db.now c.loop-k.entries.items
    (subst (λ (ps : List ℕ). Gathers c.args.port ps (entries c.args.db.now) c.loop-k.entries.items) (no_place c.args.places.now c.loop-k.k c.loop-k-test.false) c.loop-k.invariant)

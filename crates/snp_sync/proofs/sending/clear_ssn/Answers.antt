use Rattle.std.proofs.Common.{◌+◌, ℕ, List, drop, get_or, refl, subst}
use Rattle.snp_sync.proofs.Within.{Clears, clears_none, clears_next, clears_all, next_place, no_place}
use Rattle.snp_sync.proofs.sending.clear_ssn.Goals as goal

pub loop-k-init : goal.loop-k-init
loop-k-init c = clears_none c.args.port c.args.places.now c.args.db.now c.requires.places

pub loop-k-preserved : goal.loop-k-preserved
loop-k-preserved c =
    let q : ℕ = get_or c.args.places.now c.loop-k.k 0 in
    let left : List ℕ = drop (c.loop-k.k + 1) c.args.places.now in
    clears_next c.args.port q left c.args.db.now c.loop-k.db c.clear_ssn_at.new.db
    (subst (λ (ps : List ℕ). Clears c.args.port ps c.args.db.now c.loop-k.db) (next_place c.args.places.now c.loop-k.k q 0 c.loop-k-test.true refl) c.loop-k.invariant)
    c.clear_ssn_at.ensures

pub returns : goal.returns
returns c =
    clears_all c.args.port c.args.db.now c.loop-k.db
    (subst (λ (ps : List ℕ). Clears c.args.port ps c.args.db.now c.loop-k.db) (no_place c.args.places.now c.loop-k.k c.loop-k-test.false) c.loop-k.invariant)

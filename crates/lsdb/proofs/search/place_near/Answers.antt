use Rattle.std.proofs.Common.{◌≡◌, arith, get_or}
use Rattle.std.specs.declared.cmp.Ordering.TheVariants.{Equal}
use Rattle.lsdb.specs.Database.{id_cmp}
use Rattle.lsdb.proofs.IdNumbers.{same_id}
use Rattle.lsdb.proofs.Searched.{compared}
use Rattle.lsdb.proofs.search.place_near.Goals as goal

pub returns-then-number_of-clause-found : goal.returns-then-number_of-clause-found
returns-then-number_of-clause-found c =
    let same : id_cmp (get_or c.args.held.now c.args.near c.index-held-near.result).id c.args.id.now ≡ Equal =
    same_id _ _ c.number_of.ensures.bytes c.number_of-then-near-held.ensures.bytes (omega (arith, c.number_of.ensures.number, c.number_of-then-near-held.ensures.number, c.if-number_of.true)) in
    compared c.args.held.now c.index-held-near.result c.args.id.now c.args.near c.if-near-held.true same

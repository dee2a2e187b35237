use Rattle.std.proofs.Common.{not, sym, subst}
use Rattle.customer_learning.specs.Tables.{is_of, AreSized}
use Rattle.customer_learning.proofs.Maps.{filter_map, sized_filter}
use Rattle.customer_learning.proofs.learned.Learned.forget_isid.Goals as goal

pub invariant_of-self : goal.invariant_of-self
invariant_of-self c = subst AreSized (sym c.forget_tables.ensures) (sized_filter (λ t. not (is_of c.args.isid t)) c.self.inside.tables.items c.self.invariant)

pub returns : goal.returns
returns c = rw c.forget_tables.ensures (filter_map c.self.inside.tables.items c.args.isid c.args.self.now c.self.view_is)

use Rattle.std.proofs.Common.{Bool, ◌||◌, sym, ap, ◌∙◌}
use Rattle.std.proofs.lemmas.List.{take_all}
use Rattle.std.proofs.lemmas.List.Folds.{list_any_more}
use Rattle.std.specs.List.{list_any}
use Rattle.spb_types.specs.Ports.{has}
use Rattle.spb_types.proofs.PortLemmas.{has-no_ports}
use Rattle.lsdb.specs.declared.held.Held.{Held}
use Rattle.lsdb.proofs.database.srm_ports.Goals as goal

pub loop-h-init : goal.loop-h-init
loop-h-init c = λ p. ap (λ s. has s p) c.none-ports.ensures ∙ has-no_ports p

pub loop-h-preserved : goal.loop-h-preserved
loop-h-preserved c = λ p.
    let due : Held → Bool = λ h. has h.srm p in
    c.either-ports.ensures p
    ∙ (λ i. c.loop-h.invariant p i || due (c.h-item.is i))
    ∙ sym (list_any_more due c.args.held.now c.loop-h.h-index c.h-item.result c.loop-h-test.true)

pub returns : goal.returns
returns c = λ p. c.loop-h.invariant p ∙ ap (list_any (λ (h : Held). has h.srm p)) (take_all c.loop-h.h-index c.args.held.now c.loop-h-test.false)

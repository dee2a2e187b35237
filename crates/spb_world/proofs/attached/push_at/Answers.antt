use Rattle.std.proofs.Common.{◌∷◌, [], ◌++◌, ◌∙◌}
use Rattle.std.specs.Global.{Vec}
use Rattle.spb_types.specs.declared.service.Attachment.{Attachment}
use Rattle.spb_types.proofs.Places.{lent, lent-none}
use Rattle.spb_world.proofs.BoxLemmas.{map-set, changed-none, on_ok, on_err}
use Rattle.spb_world.proofs.ByPlace.{changed-same}
use Rattle.spb_world.proofs.attached.push_at.Goals as goal

pub returns-in-None-clause-ok : goal.returns-in-None-clause-ok
returns-in-None-clause-ok c =
    changed-none (λ (v : Vec Attachment). v.items) (λ list. list ++ c.args.attachment ∷ []) c.args.lists.now.items c.args.place (lent-none _ _ _ c.get_mut.ensures.item c.in-None.is)

pub returns-in-Some-clause-ok : goal.returns-in-Some-clause-ok
returns-in-Some-clause-ok c =
    on_ok c.push.result (map-set (λ (v : Vec Attachment). v.items) (λ list. list ++ c.args.attachment ∷ []) c.args.lists.now.items c.args.place c.in-Some.list.now c.push.new.list (lent _ _ _ _ c.get_mut.ensures.item c.in-Some.is)) c.push.ensures.ok

pub returns-in-Some-clause-err : goal.returns-in-Some-clause-err
returns-in-Some-clause-err c =
    on_err c.push.result (λ e. map-set (λ (v : Vec Attachment). v.items) (λ list. list) c.args.lists.now.items c.args.place c.in-Some.list.now c.push.new.list (lent _ _ _ _ c.get_mut.ensures.item c.in-Some.is) e ∙ changed-same _ c.args.place) c.push.ensures.err

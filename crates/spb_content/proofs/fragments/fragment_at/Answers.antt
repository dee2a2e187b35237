use Rattle.std.proofs.Common.{◌++◌, ap, sym, ◌∙◌}
use Rattle.std.specs.Prelude.{Some, length, option_map}
use Rattle.std.proofs.lemmas.Bool.{eqb-true, eqb-false}
use Rattle.spb_content.specs.Local.{service_tlvs, content_bytes}
use Rattle.spb_content.proofs.Fitting.{cut_is_part, cut_first, cut_other, where_none, where_some}
use Rattle.spb_content.proofs.fragments.fragment_at.Goals as goal

pub put_content-requires : goal.put_content-requires
put_content-requires c = cut_is_part _ _ _ c.args.number c.requires.local c.requires.services c.part_of-part.ensures

pub returns-then-number-eq0 : goal.returns-then-number-eq0
returns-then-number-eq0 c =
    let l = c.args.local.now in
    let part = c.part_of-part.result.now in
    ap Some (c.in_ok-put_content.ensures ∙ ap (λ bytes. bytes ++ content_bytes (record l { attached = part })) c.in_ok-out.ensures)
    ∙ ap (option_map (λ tlvs. c.args.front.now ++ tlvs)) (cut_first l c.args.services.now part c.args.number c.requires.local c.requires.services c.part_of-part.ensures c.if-number-eq0.true)

pub put_services-requires-clause-attached : goal.put_services-requires-clause-attached
put_services-requires-clause-attached c = (cut_is_part _ _ _ c.args.number c.requires.local c.requires.services c.part_of-part.ensures).attached

pub put_services-requires-clause-few : goal.put_services-requires-clause-few
put_services-requires-clause-few c = (cut_is_part _ _ _ c.args.number c.requires.local c.requires.services c.part_of-part.ensures).few_isids

pub returns-then-is_empty : goal.returns-then-is_empty
returns-then-is_empty c =
    let l = c.args.local.now in
    let part = c.part_of-part.result.now in
    ap (option_map (λ tlvs. c.args.front.now ++ tlvs))
    (where_none part (service_tlvs (record l { attached = part })) (eqb-true (length part) 0 (sym c.if-is_empty.ensures))
    ∙ cut_other l c.args.services.now part c.args.number c.requires.local c.requires.services c.part_of-part.ensures c.if-number-eq0.false)

pub returns : goal.returns
returns c =
    let l = c.args.local.now in
    let part = c.part_of-part.result.now in
    ap Some (c.in_ok-put_services.ensures ∙ ap (λ bytes. bytes ++ service_tlvs (record l { attached = part })) c.in_ok-out-2.ensures)
    ∙ ap (option_map (λ tlvs. c.args.front.now ++ tlvs))
    (where_some part (service_tlvs (record l { attached = part })) (eqb-false (length part) 0 (sym c.if-is_empty.ensures))
    ∙ cut_other l c.args.services.now part c.args.number c.requires.local c.requires.services c.part_of-part.ensures c.if-number-eq0.false)

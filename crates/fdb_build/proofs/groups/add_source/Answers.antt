use Rattle.std.proofs.Common.{sym, ap, ◌∙◌}
use Rattle.spb_types.specs.declared.graph.GraphBridge.{GraphBridge}
use Rattle.fdb_build.specs.Making.{sent_at, sets_from, source_at}
use Rattle.fdb_build.proofs.FollowerLemmas.{none_behind}
use Rattle.fdb_build.proofs.GrowLemmas.{grew_to_none, grew_from_none, isid_more, isids_all}
use Rattle.fdb_build.proofs.SourceLemmas.{from_bridge, source_stands}
use Rattle.fdb_build.proofs.StrangerLemmas.{nothing}
use Rattle.fdb_build.proofs.groups.add_source.Goals as goal

pub loop-isid-preserved : goal.loop-isid-preserved
loop-isid-preserved g c =
    let around = c.args.around.now in
    let planned = c.args.planned.now in
    let source = source_at around.roads.now c.args.place in (
      c.in_ok-ports.ensures.found,
      isid_more planned.services source (sets_from around.roads.now around.me planned.plan source.id.system) (sent_at planned.services c.args.place) c.sent_at-isids.result.now
          c.args.rows.now c.loop-isid.rows c.add_ports.new.rows c.loop-isid.isid-index _ c.source_at.result.source.value c.group_address.result c.in_ok-ports.ports c.receivers_of-receivers.result.now
          c.sent_at-isids.ensures c.loop-isid-test.true (ap (λ (b : GraphBridge). b.source.value) c.source_at.ensures) c.group_address.ensures
          c.receivers_of-receivers.ensures c.in_ok-ports.ensures.ports c.in_ok-add_ports.ensures c.loop-isid.invariant.1,
    )

pub returns-then-is_empty : goal.returns-then-is_empty
returns-then-is_empty g c =
    let around = c.args.around.now in
    let planned = c.args.planned.now in
    let source = source_at around.roads.now c.args.place in
    record {
      rows = from_bridge around.roads.now around.me planned.plan planned.services c.args.rows.now c.args.rows.now c.args.place c.requires.known.valid.valid c.requires.within
          (grew_to_none planned.services source (sets_from around.roads.now around.me planned.plan source.id.system) (sent_at planned.services c.args.place) c.args.rows.now
          (sym c.sent_at-isids.ensures ∙ nothing c.sent_at-isids.result.now (sym c.is_empty.ensures ∙ c.if-is_empty.true)));
      found = c.requires.found;
    }

pub returns-then-not-leads_on : goal.returns-then-not-leads_on
returns-then-not-leads_on g c =
    let around = c.args.around.now in
    let planned = c.args.planned.now in
    let source = source_at around.roads.now c.args.place in
    record {
      rows = from_bridge around.roads.now around.me planned.plan planned.services c.args.rows.now c.args.rows.now c.args.place c.requires.known.valid.valid c.requires.within
          (grew_from_none planned.services source (sets_from around.roads.now around.me planned.plan source.id.system) (sent_at planned.services c.args.place) c.args.rows.now
          (none_behind around.roads.now around.me planned.plan c.ect_mask-mask.result around.place c.args.place source.id.system c.requires.known.valid.valid c.ect_mask-mask.ensures
          c.requires.known.here (source_stands around.roads.now c.args.place c.requires.within) (c.leads_on.ensures c.if-not-leads_on.true)));
      found = c.requires.found;
    }

pub returns : goal.returns
returns g c =
    let around = c.args.around.now in
    let planned = c.args.planned.now in
    let source = source_at around.roads.now c.args.place in
    record {
      rows = from_bridge around.roads.now around.me planned.plan planned.services c.args.rows.now c.loop-isid.rows c.args.place c.requires.known.valid.valid c.requires.within
          (isids_all planned.services source (sets_from around.roads.now around.me planned.plan source.id.system) (sent_at planned.services c.args.place) c.sent_at-isids.result.now
          c.args.rows.now c.loop-isid.rows c.loop-isid.isid-index c.sent_at-isids.ensures c.loop-isid-test.false c.loop-isid.invariant.1);
      found = c.loop-isid.invariant.0;
    }

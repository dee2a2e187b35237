use Rattle.std.proofs.Common.{arith, sym}
use Rattle.spb_types.specs.Address.{system_number}
use Rattle.spb_content.proofs.Places.{put_place}
use Rattle.spb_content.proofs.backbone.Backbone.new.Goals as goal

pub loop-left-preserved-in_ok-insert : goal.loop-left-preserved-in_ok-insert
loop-left-preserved-in_ok-insert c = record {
  within = search arith;
  places = λ x six. put_place c.args.list.now c.loop-left.left x c.index-list-left.result c.number.result _ _ (search arith) c.loop-left.invariant.within c.index-list-left.is (sym c.if-is_some.ensures) c.number.ensures.number c.number.ensures.bytes six (c.in_ok-insert.ensures.updates.0 (system_number x)) (c.loop-left.invariant.places x six);
}

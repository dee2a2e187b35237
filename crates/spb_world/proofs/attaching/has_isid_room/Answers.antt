use Rattle.std.proofs.Common.{refl}
use Rattle.spb_world.proofs.AttachedLemmas.{room_few, room_old, room_new}
use Rattle.spb_world.proofs.attaching.has_isid_room.Goals as goal

pub returns-then-attached-lt-MOST_ISIDS : goal.returns-then-attached-lt-MOST_ISIDS
returns-then-attached-lt-MOST_ISIDS c = room_few _ c.args.isid _ refl c.if-attached-lt-MOST_ISIDS.true

pub returns-then-is_member : goal.returns-then-is_member
returns-then-is_member c = room_old c.args.attached.now c.args.isid c.isid_count-count.result c.is_member.result c.is_member.ensures c.if-is_member.true c.isid_count-count.ensures

pub returns-else-is_member : goal.returns-else-is_member
returns-else-is_member c = room_new c.args.attached.now c.args.isid c.isid_count-count.result c.is_member.result c.is_member.ensures c.if-is_member.false c.isid_count-count.ensures

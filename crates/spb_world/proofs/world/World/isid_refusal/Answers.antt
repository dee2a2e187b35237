use Rattle.std.proofs.Common.{refl}
use Rattle.spb_world.specs.Services.{isid_refusal}
use Rattle.spb_world.proofs.world.World.isid_refusal.Goals as goal

pub returns : goal.returns
unfolding isid_refusal
returns c =
    rw (c.or-3.ensures, c.or-2.ensures, c.or.ensures, c.reason_unless.ensures, c.reason_unless-2.ensures, c.reason_unless-3.ensures, c.reason_unless-4.ensures, c.has_vid-is_declared.ensures, c.is_new_isid-is_new.ensures, c.is_isid_range.ensures, c.len-has_room.ensures.len, ← c.self.view_is, c.as_slice.ensures.value) refl

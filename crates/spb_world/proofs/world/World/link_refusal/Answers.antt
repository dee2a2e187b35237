use Rattle.std.proofs.Common.{refl}
use Rattle.spb_world.specs.Declaring.{link_refusal}
use Rattle.spb_world.proofs.world.World.link_refusal.Goals as goal

pub returns : goal.returns
unfolding link_refusal
returns c =
    rw (← c.self.view_is, c.or-4.ensures, c.or-3.ensures, c.or-2.ensures, c.or.ensures, c.reason_unless.ensures, c.reason_unless-2.ensures, c.reason_unless-3.ensures, c.reason_unless-4.ensures, c.reason_unless-5.ensures, c.is_new_name-is_new_name.ensures, c.are_clear-are_free.ensures.free, c.is_link_range-is_range.ensures, c.len.ensures.len, c.are_clear-are_free.ensures.unlinked) refl

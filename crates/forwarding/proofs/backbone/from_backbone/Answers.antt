use Rattle.itag_frames.proofs.BackboneLaws.{opened_is_whole}
use Rattle.forwarding.proofs.backbone.from_backbone.Goals as goal

pub received-requires : goal.received-requires
received-requires c = opened_is_whole c.args.whole.now c.args.frame.now.da c.args.frame.now.sa c.args.frame.now.vid c.args.frame.now.isid c.args.frame.now.customer.now c.requires

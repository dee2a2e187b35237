use Rattle.std.proofs.Common.{◌≡◌, ap, ◌∙◌, arith}
use Rattle.std.proofs.lemmas.Grind.{common_steps}
use Rattle.itag_frames.specs.Backbone.{backbone_bytes, backbone_in}
use Rattle.itag_frames.proofs.BackboneLaws.{encapsulated_again}
use Rattle.itag_frames.proofs.backbone.encapsulate.Goals as goal

pub returns-clause-again : goal.returns-clause-again
returns-clause-again c = λ can.
    let is : c.extend_from_slice-7.new.self.items ≡ backbone_bytes c.args.da c.args.sa c.args.vid c.args.isid c.args.customer.now = grind (arith, common_steps) in
    ap backbone_in is ∙ encapsulated_again c.args.da c.args.sa c.args.vid c.args.isid c.args.customer.now can

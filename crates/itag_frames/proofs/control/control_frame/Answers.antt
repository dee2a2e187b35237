use Rattle.std.proofs.Common.{◌≡◌, length, refl, rules, ◌∙◌}
use Rattle.itag_frames.specs.Frame.{control_bytes}
use Rattle.itag_frames.proofs.ControlLaws.{control_frame_again}
use Rattle.itag_frames.proofs.control.control_frame.Goals as goal

pub returns-clause-bytes : goal.returns-clause-bytes
returns-clause-bytes c = c.in_ok-extend_from_slice.ensures.items ∙ c.in_ok-frame.ensures c.args.pdu.now refl

pub returns-clause-again : goal.returns-clause-again
returns-clause-again c =
    let is : c.extend_from_slice.new.self.items ≡ control_bytes c.args.sa c.args.pdu.now = c.in_ok-extend_from_slice.ensures.items ∙ c.in_ok-frame.ensures c.args.pdu.now refl in
    let is_mac : length c.args.sa.bytes ≡ 6 = search rules in
    control_frame_again c.args.sa c.args.pdu.now _ is_mac c.requires is

use Rattle.std.proofs.Common.{arith, subst}
use Rattle.itag_frames.specs.Frame.{contents}
use Rattle.bridge_api.specs.Parsing.{Parsed}
use Rattle.bridge_control.specs.Message.{Says}
use Rattle.bridge_control.proofs.Messages.{parsed_as}
use Rattle.bridge_control.proofs.parsing.parse.Goals as goal

pub returns : goal.returns
returns c =
    subst (λ (j : Parsed). Says c.parse_content.result j) (parsed_as c.args.frame.now (contents c.classify.result) (λ i. omega (arith, c.type_inv.frame i)) c.classify.ensures) c.parse_content.ensures

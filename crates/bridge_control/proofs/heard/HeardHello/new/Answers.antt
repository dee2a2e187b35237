use Rattle.std.proofs.Common.{sym, ap, ◌∙◌}
use Rattle.bridge_api.specs.Parsing.{parsed}
use Rattle.bridge_control.proofs.heard.HeardHello.new.Goals as goal

pub invariant_of-result : goal.invariant_of-result
invariant_of-result c = record { state = c.requires.state; tlvs = c.args.hello.now.tlvs.now; brings = ap parsed c.in_ok-frame.ensures.items ∙ c.requires.brings }

pub returns : goal.returns
returns c = λ keeps. sym c.keeps_up.ensures ∙ keeps

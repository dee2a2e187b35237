use Rattle.std.proofs.Common.{sym}
use Rattle.spb_content.proofs.Places.{found_at, unfound}
use Rattle.spb_content.proofs.backbone.Backbone.said_of.Goals as goal

pub returns-in-None : goal.returns-in-None
returns-in-None c = sym (unfound 0 c.args.self.now.list.now c.args.system (sym c.in-None.ensures.place))

pub returns-in-Some : goal.returns-in-Some
returns-in-Some c =
    let place = c.in-Some.place in
    let d = c.index-self-place.result in
    sym (found_at place c.args.self.now.list.now c.args.system d (sym c.in-Some.ensures.place)).said

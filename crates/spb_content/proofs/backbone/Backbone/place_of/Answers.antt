use Rattle.std.proofs.Common.{◌≡◌, rules}
use Rattle.spb_content.specs.Building.{place_from}
use Rattle.spb_content.proofs.Places.{place_within}
use Rattle.spb_content.proofs.backbone.Backbone.place_of.Goals as goal

pub returns-clause-within : goal.returns-clause-within
returns-clause-within c =
    let is : c.copied.result ≡ place_from 0 c.args.self.now.list.now c.args.system = search rules in
    place_within c.copied.result c.args.self.now.list.now c.args.system is

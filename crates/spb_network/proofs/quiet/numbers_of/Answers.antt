use Rattle.std.proofs.Common.{◌++◌, ap, ◌∙◌}
use Rattle.network_model.specs.Quiet.{unless_holds}
use Rattle.spb_network.proofs.QuietNumbers.{noted_in_turn}
use Rattle.spb_network.proofs.quiet.numbers_of.Goals as goal

pub returns : goal.returns
returns c =
    noted_in_turn c.args.found
    c.note_unless.new.numbers.items c.note_unless-2.new.numbers.items c.note_unless-3.new.numbers.items
    (c.in_ok-note_unless.ensures ∙ ap (λ l. l ++ unless_holds 1 c.args.found.links) c.new-numbers.ensures.items)
    c.in_ok-note_unless-2.ensures c.in_ok-note_unless-3.ensures

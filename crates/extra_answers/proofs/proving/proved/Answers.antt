use Rattle.std.proofs.Common.{◌≡◌, List, IfOk, ◌∙◌, subst}
use Rattle.what_if.specs.declared.entry.Entry.{Entry}
use Rattle.what_if.specs.Entries.{best_entries}
use Rattle.spb_world.specs.World.{world_graph}
use Rattle.extra_answers.specs.Answers.{proved_entries}
use Rattle.extra_answers.specs.Entries.{words_of}
use Rattle.extra_answers.proofs.proving.proved.Goals as goal

pub returns : goal.returns
returns c =
    let w = c.args.world.now in
    let list : c.as_slice.result.now ≡ proved_entries w c.args.plan c.args.from =
    c.as_slice.ensures.value ∙ c.in_ok-list.ensures ∙ (λ i. best_entries (world_graph w) (c.ect_mask.ensures i) (c.system_named-source.ensures i)) in
    subst (λ (l : List Entry). IfOk c.words_of.result (λ words. words.items ≡ words_of w.bridges l)) list c.words_of.ensures

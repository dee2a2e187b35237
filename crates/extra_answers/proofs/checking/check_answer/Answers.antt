use Rattle.std.proofs.Common.{length, sym, ap, ◌∙◌, subst}
use Rattle.std.proofs.lemmas.List.{length-map}
use Rattle.spb_types.specs.Graph.{IsBridge}
use Rattle.spb_types.specs.declared.address.SystemId.{SystemId}
use Rattle.spb_world.specs.World.{world_graph}
use Rattle.extra_answers.specs.Entries.{entry_of}
use Rattle.extra_answers.proofs.Checked.{IsAccepted, check_accepted, path_starts}
use Rattle.extra_answers.proofs.checking.check_answer.Goals as goal

pub checked-requires : goal.checked-requires
checked-requires c =
    let w = c.args.world.now in
    let accepted : IsAccepted w c.args.from c.args.to c.args.vid c.args.words.now = check_accepted w c.args.from c.args.to c.args.vid c.args.words.now c.requires.accepted in
    record {
      sound = c.requires.sound;
      from = subst (λ (x : SystemId). IsBridge (world_graph w) x) (sym c.system_named-source.ensures) (path_starts w c.args.from c.args.to c.args.vid accepted.path);
      long = ap length (c.as_slice.ensures.value ∙ c.in_ok-list.ensures) ∙ length-map c.args.words.now (entry_of w.bridges) ∙ accepted.long;
    }

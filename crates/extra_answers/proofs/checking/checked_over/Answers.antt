use Rattle.std.proofs.Common.{◌≡◌, ℕ, List, length, IfOk, sym, ap, ◌∙◌, subst}
use Rattle.spb_types.specs.Graph.{IsValid, IsBridge}
use Rattle.spb_types.specs.declared.graph.Graph.{Graph}
use Rattle.what_if.specs.declared.checking.Verdict.TheVariants.{Yes}
use Rattle.what_if.specs.Failing.{verdict_of}
use Rattle.what_if.specs.Labels.{IsPathBy}
use Rattle.spb_world.specs.World.{world_graph}
use Rattle.spb_world.proofs.ValidLemmas.{valid}
use Rattle.extra_answers.specs.Answers.{path_along, yes_text, verdict_text}
use Rattle.extra_answers.proofs.Checked.{all_bridges, read_off_is_along}
use Rattle.extra_answers.proofs.checking.checked_over.Goals as goal

pub check-requires : goal.check-requires
check-requires c =
    let w = c.args.world.now in
    let same : world_graph w ≡ c.args.roads.now = sym c.requires.roads in
    record {
      valid = subst IsValid same (valid w c.requires.sound);
      from = subst (λ (g : Graph). IsBridge g c.args.from) same c.requires.from;
      long = subst (λ (g : Graph). length c.args.entries.now ≡ length g.bridges) same (c.requires.long ∙ sym (all_bridges w.bridges));
    }

pub along-requires : goal.along-requires
along-requires c =
    let w = c.args.world.now in
    let same : world_graph w ≡ c.args.roads.now = sym c.requires.roads in
    record {
      valid = subst IsValid same (valid w c.requires.sound);
      long = subst (λ (g : Graph). length c.args.entries.now ≡ length g.bridges) same (c.requires.long ∙ sym (all_bridges w.bridges));
    }

pub returns-in_ok-path-in-Yes : goal.returns-in_ok-path-in-Yes
returns-in_ok-path-in-Yes c =
    let w = c.args.world.now in
    let g = world_graph w in
    let es = c.args.entries.now in
    let from = c.args.from in
    let path = c.in_ok-path-in-Yes.path in
    let same : c.args.roads.now ≡ g = c.requires.roads in
    let yes : verdict_of g c.args.mask es from ≡ Yes =
    sym (c.in_ok-verdict.ensures.verdict ∙ ap (λ (t : Graph). verdict_of t c.args.mask es from) same) ∙ c.in-Yes.is in
    let by : IsPathBy g es c.args.to path = subst (λ (t : Graph). IsPathBy t es c.args.to path) same c.in_ok-path-in-Yes.ensures in
    let is : path ≡ path_along g es from c.args.to =
    read_off_is_along g c.args.mask from es (valid w c.requires.sound) c.requires.from (c.requires.long ∙ sym (all_bridges w.bridges)) yes c.args.to path by in
    subst (λ (x : List ℕ). IfOk c.yes_text.result (λ text. text.items ≡ x))
    (ap (yes_text w.bridges) is ∙ sym (ap (verdict_text w.bridges (path_along g es from c.args.to)) yes)) c.yes_text.ensures

-- What the test of a question says, and what is answered where entries prove the best paths.
use Rattle.std.proofs.Common.{◌≡◌, arith, ℕ, suc, ◌<◌, ◌==◌, ◌&&◌, true, true≢false, List, [], ◌∷◌, length, Option, Some, None, is_some, option_map, refl, sym, ap, ◌∙◌, subst}
use Rattle.std.proofs.lemmas.Bool.Decides.{nat_tests}
use Rattle.std.specs.Option.{unwrap_or}
use Rattle.std.proofs.lemmas.List.{length-map}
use Rattle.spb_types.specs.Ect.{mask_of}
use Rattle.spb_types.specs.Graph.{IsBridge, IsValid, IsAmong, systems_of}
use Rattle.spb_types.specs.declared.address.SystemId.{SystemId}
use Rattle.spb_types.specs.declared.entry_word.EntryWord.{EntryWord}
use Rattle.spb_types.specs.declared.graph.Graph.{Graph}
use Rattle.spb_types.specs.declared.tables.Path.{Path}
use Rattle.ect_trees.specs.Path.{cost_of}
use Rattle.ect_trees.specs.Tree.{best_path}
use Rattle.what_if.specs.declared.checking.Verdict.TheVariants.{Yes}
use Rattle.what_if.specs.declared.entry.Entry.{Entry}
use Rattle.what_if.specs.Failing.{NobodyFails, verdict_of}
use Rattle.what_if.specs.Labels.{IsPathBy}
use Rattle.what_if.proofs.Best.{best_passes}
use Rattle.what_if.proofs.Passing.{passing_is_best}
use Rattle.what_if.proofs.Proved.{yes_is_best as yes_is_best_entries}
use Rattle.spb_world.specs.World.{World, Bridges, place_of, system_at, graph_bridges, world_graph}
use Rattle.spb_world.specs.Naming.{are_declared, path_refusal}
use Rattle.spb_world.proofs.ListLemmas.{and-left}
use Rattle.spb_world.proofs.PlaceLemmas.{place_within}
use Rattle.spb_world.proofs.RefusalLemmas.{reason_unless-none, or-first, or-second}
use Rattle.spb_world.proofs.ValidLemmas.{among_at, valid}
use Rattle.extra_answers.specs.Answers.{path_along, yes_text, verdict_text, check_in}
use Rattle.extra_answers.specs.Entries.{system_named, entry_of, entries_of}
use Rattle.extra_answers.specs.Laws.{YesIsBest}
use Rattle.extra_answers.specs.Refusing.{check_refusal}

-- ---- what isn't refused

among_named : (bs : Bridges) (o : Option ℕ) → ((k : ℕ) → o ≡ Some k → k < length bs) → is_some o ≡ true → IsAmong (system_at bs (unwrap_or o (length bs))) (systems_of (graph_bridges bs))
among_named bs None within there = absurd (true≢false (sym there))
among_named bs (Some k) within there = among_at bs k (within k refl)

-- the bridge of a declared name is one of the graph's
pub named_is_bridge : (w : World) (name : List ℕ) → is_some (place_of name w.bridges) ≡ true → IsBridge (world_graph w) (system_named w.bridges name)
named_is_bridge w name there = among_named w.bridges (place_of name w.bridges) (place_within name w.bridges) there

path_declared : (w : World) (from to : List ℕ) (vid : ℕ) → path_refusal w from to vid ≡ None → are_declared w from to vid ≡ true
unfolding path_refusal
path_declared w from to vid h = reason_unless-none (are_declared w from to vid) _ h

-- what the test of a proof says of the bridge where the paths start
pub path_starts : (w : World) (from to : List ℕ) (vid : ℕ) → path_refusal w from to vid ≡ None → IsBridge (world_graph w) (system_named w.bridges from)
path_starts w from to vid h =
    let both : (is_some (place_of from w.bridges) && is_some (place_of to w.bridges)) ≡ true = and-left _ _ (path_declared w from to vid h) in
    named_is_bridge w from (and-left _ _ both)

eq-true : (a b : ℕ) → (a == b) ≡ true → a ≡ b
eq-true a b h = grind (arith, nat_tests)

-- what the test of entries that are checked says
pub record IsAccepted (w : World) (from to : List ℕ) (vid : ℕ) (es : List EntryWord) : Type 0 where
  pub path : path_refusal w from to vid ≡ None
  pub long : length es ≡ length w.bridges

pub check_accepted : (w : World) (from to : List ℕ) (vid : ℕ) (es : List EntryWord) → check_refusal w from to vid es ≡ None → IsAccepted w from to vid es
unfolding check_refusal
check_accepted w from to vid es h = record {
  path = or-first _ _ (or-first _ _ h);
  long = eq-true (length es) (length w.bridges) (reason_unless-none (length es == length w.bridges) _ (or-second _ _ h));
}

-- there is a bridge of the graph for each that is declared
pub all_bridges : (bs : Bridges) → length (graph_bridges bs) ≡ length bs
all_bridges [] = refl
all_bridges (b ∷ bs) = ap suc (all_bridges bs)

-- ---- entries that prove the best paths

module _ (g : Graph) (mask : ℕ) (a : SystemId) (es : List Entry) (valid : IsValid g) (bridge : IsBridge g a) (long : length es ≡ length g.bridges) (yes : verdict_of g mask es a ≡ Yes) where
  nobody : NobodyFails g mask es a
  nobody = subst (λ t. NobodyFails g mask t a) (sym ((yes_is_best_entries g mask es a valid bridge long).0 yes)) (best_passes g mask a valid bridge)

  -- the path that they give is the best one
  pub along_is_best : (to : SystemId) → path_along g es a to ≡ best_path g mask a to
  along_is_best to = ap (option_map (λ way. record { cost = cost_of g way; bridges = way })) ((passing_is_best g mask a es valid bridge long nobody).ways to)

  -- so the path that is read off them is it
  pub read_off_is_along : (to : SystemId) (path : Option Path) → IsPathBy g es to path → path ≡ path_along g es a to
  read_off_is_along to path by = by mask a bridge nobody ∙ sym (along_is_best to)

-- ---- the answer

pub yes_is_best : YesIsBest
yes_is_best w from to vid plan words sound accepted planned right =
    let g : Graph = world_graph w in
    let mask : ℕ = mask_of plan.ect in
    let a : SystemId = system_named w.bridges from in
    let b : SystemId = system_named w.bridges to in
    let es : List Entry = entries_of w.bridges words in
    let is : IsAccepted w from to vid words = check_accepted w from to vid words accepted in
    let long : length es ≡ length g.bridges = length-map words (entry_of w.bridges) ∙ is.long ∙ sym (all_bridges w.bridges) in
    let bridge : IsBridge g a = path_starts w from to vid is.path in
    record {
      best = (yes_is_best_entries g mask es a (valid w sound) bridge long).0 right;
      text = ap (check_in w from to words) planned
          ∙ ap (verdict_text w.bridges (path_along g es a b)) right
          ∙ ap (yes_text w.bridges) (along_is_best g mask a es (valid w sound) bridge long right b);
    }

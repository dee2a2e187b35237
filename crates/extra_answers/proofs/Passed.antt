-- What `proof` answers passes a check.
use Rattle.std.proofs.Common.{◌≡◌, ℕ, Bool, true, false, ◌&&◌, inl, inr, List, [], ◌∷◌, length, map, Option, Some, None, if◌then◌else◌, refl, sym, ap, ◌∙◌}
use Rattle.std.specs.Prelude.{⊤}
use Rattle.std.specs.List.{AllByRecursion, list_all}
use Rattle.std.proofs.lemmas.Bool.{eq-eqb}
use Rattle.std.proofs.lemmas.List.{length-map}
use Rattle.spb_types.specs.Address.{same_system}
use Rattle.spb_types.specs.Ect.{mask_of}
use Rattle.spb_types.specs.Graph.{IsAmong, IsBridge, IsValid, systems_of}
use Rattle.spb_types.specs.declared.address.SystemId.{SystemId}
use Rattle.spb_types.specs.declared.entry_word.EntryWord.{EntryWord}
use Rattle.spb_types.specs.declared.graph.Graph.{Graph}
use Rattle.spb_types.specs.declared.graph.GraphBridge.{GraphBridge}
use Rattle.ect_trees.specs.Best.{best_of}
use Rattle.ect_trees.proofs.Exists.{best_of_some}
use Rattle.ect_trees.proofs.Walks.{path_bridges}
use Rattle.what_if.specs.declared.entry.Entry.{Entry}
use Rattle.what_if.specs.Entries.{before_last, named, entry_by, best_entry}
use Rattle.what_if.proofs.Proved.{yes_is_best as yes_is_best_entries}
use Rattle.spb_world.specs.declared.reason.Reason.TheVariants.{NoSuchName, Range}
use Rattle.spb_world.specs.Naming.{path_refusal}
use Rattle.spb_world.specs.Reason.{reason_unless, ◌or◌}
use Rattle.spb_world.specs.World.{World, AreDistinct, world_graph}
use Rattle.spb_world.proofs.ValidLemmas.{valid}
use Rattle.extra_answers.specs.Answers.{proved_entries, proved_words}
use Rattle.extra_answers.specs.Entries.{system_named, entry_of, entries_of, word_named, word_of, words_of}
use Rattle.extra_answers.specs.Laws.{IsRight, ProofsPass}
use Rattle.extra_answers.specs.Refusing.{is_known, check_refusal}
use Rattle.extra_answers.proofs.Checked.{path_starts, all_bridges, yes_is_best}
use Rattle.extra_answers.proofs.Named.{IsFoundByName, found_by_name}

-- ---- the entries of the best paths name bridges

abbrev NamesBridge : Graph → Entry → Type 0
NamesBridge g Entry.Start = ⊤
NamesBridge g (Entry.Before x) = IsBridge g x
NamesBridge g Entry.Unreached = ⊤

before_among : (p : List SystemId) (y : SystemId) → before_last p ≡ Some y → IsAmong y p
before_among [] y h = absurd cc
before_among (x ∷ []) y h = absurd cc
before_among (x ∷ z ∷ []) y h = let e : y ≡ x = cc in inl e
before_among (x ∷ z ∷ u ∷ us) y h = inr (before_among (z ∷ u ∷ us) y h)

module _ (g : Graph) (mask : ℕ) (a : SystemId) (valid : IsValid g) where
  by_path : (x : SystemId) (q : List SystemId) → best_of g mask a x ≡ Some q → (o : Option SystemId) → before_last q ≡ o → NamesBridge g (named o)
  by_path x q at None is = tt
  by_path x q at (Some y) is = path_bridges g a x y q ((best_of_some g mask a x q valid).0 at).path (before_among q y is)

  by_best : (x : SystemId) (o : Option (List SystemId)) → best_of g mask a x ≡ o → NamesBridge g (entry_by o)
  by_best x None at = tt
  by_best x (Some q) at = by_path x q at (before_last q) refl

  names_one : (x : SystemId) → NamesBridge g (best_entry g mask a x)
  names_one x = by (same_system x a)
    where
      by : (t : Bool) → NamesBridge g (if t then Entry.Start else entry_by (best_of g mask a x))
      by true = tt
      by false = by_best x (best_of g mask a x) refl

  names_all : (xs : List SystemId) → AllByRecursion (NamesBridge g) (map (best_entry g mask a) xs)
  names_all [] = tt
  names_all (x ∷ xs) = (names_one x, names_all xs)

-- ---- so they are read as they were written

module _ (w : World) (distinct : AreDistinct w) where
  record IsRead (e : Entry) : Type 0 where
    same : entry_of w.bridges (word_of w.bridges e) ≡ e
    known : is_known w.bridges (word_of w.bridges e) ≡ true

  read : (e : Entry) → NamesBridge (world_graph w) e → IsRead e
  read Entry.Start is = record { same = refl; known = refl }
  read Entry.Unreached is = record { same = refl; known = refl }
  read (Entry.Before x) is =
      let f : IsFoundByName w.bridges x = found_by_name w.bridges x distinct.bridges is in
      record {
        same = ap (λ o. entry_of w.bridges (word_named o)) f.named ∙ ap (λ y. Entry.Before y) f.system;
        known = ap (λ o. is_known w.bridges (word_named o)) f.named ∙ f.known;
      }

  record AreRead (es : List Entry) : Type 0 where
    same : entries_of w.bridges (words_of w.bridges es) ≡ es
    known : list_all (is_known w.bridges) (words_of w.bridges es) ≡ true

  read_all : (es : List Entry) → AllByRecursion (NamesBridge (world_graph w)) es → AreRead es
  read_all [] all = record { same = refl; known = refl }
  read_all (e ∷ es) all =
      let one : IsRead e = read e all.0 in
      let more : AreRead es = read_all es all.1 in
      record { same = λ i. one.same i ∷ more.same i; known = λ i. one.known i && more.known i }

-- ---- and pass

not_refused : (w : World) (from to : List ℕ) (vid : ℕ) (es : List EntryWord) → path_refusal w from to vid ≡ None → list_all (is_known w.bridges) es ≡ true → length es ≡ length w.bridges → check_refusal w from to vid es ≡ None
unfolding check_refusal reason_unless
not_refused w from to vid es path known long =
    λ i. path i or reason_unless (known i) NoSuchName or reason_unless (eq-eqb (length es) (length w.bridges) long i) Range

pub proofs_pass : ProofsPass
proofs_pass w from to vid plan sound distinct accepted planned =
    let g : Graph = world_graph w in
    let mask : ℕ = mask_of plan.ect in
    let a : SystemId = system_named w.bridges from in
    let es : List Entry = proved_entries w plan from in
    let words : List EntryWord = proved_words w plan from in
    let read : AreRead w distinct es = read_all w distinct es (names_all g mask a (valid w sound) (systems_of g.bridges)) in
    let long : length words ≡ length w.bridges =
    length-map es (word_of w.bridges) ∙ (length-map (systems_of g.bridges) (best_entry g mask a)
    ∙ (length-map g.bridges (λ (b : GraphBridge). b.id.system) ∙ all_bridges w.bridges)) in
    let longs : length (entries_of w.bridges words) ≡ length g.bridges =
    length-map words (entry_of w.bridges) ∙ (long ∙ sym (all_bridges w.bridges)) in
    let fits : check_refusal w from to vid words ≡ None = not_refused w from to vid words accepted read.known long in
    let right : IsRight w plan from words =
    (yes_is_best_entries g mask (entries_of w.bridges words) a (valid w sound) (path_starts w from to vid accepted) longs).1 read.same in
    record { accepted = fits; right = right; answer = yes_is_best w from to vid plan words sound fits planned right }

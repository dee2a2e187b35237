-- What an answer to `check` says of the best paths, and that it is so where it is asked of what `proof` answers.
use Rattle.std.specs.Prelude.{◌≡◌, ℕ, List, None, Some}
use Rattle.spb_types.specs.Ect.{mask_of}
use Rattle.spb_types.specs.declared.entry_word.EntryWord.{EntryWord}
use Rattle.spb_types.specs.declared.service.VidPlan.{VidPlan}
use Rattle.ect_trees.specs.Tree.{best_path}
use Rattle.what_if.specs.declared.checking.Verdict.{Verdict}
use Rattle.what_if.specs.Failing.{verdict_of}
use Rattle.scenario.specs.declared.extra.Extra.TheVariants.{Check}
use Rattle.spb_world.specs.World.{World, Sound, AreDistinct, world_graph}
use Rattle.spb_world.specs.Naming.{path_refusal}
use Rattle.extra_answers.specs.Answers.{planned_for, proved_entries, proved_words, yes_text, extra_text}
use Rattle.extra_answers.specs.Entries.{system_named, entries_of}
use Rattle.extra_answers.specs.Refusing.{check_refusal}

-- no bridge fails the entries of a check, from the bridge and in the base VID that it names
abbrev pub IsRight : World → VidPlan → List ℕ → List EntryWord → Type 0
IsRight w plan from entries =
    verdict_of (world_graph w) (mask_of plan.ect) (entries_of w.bridges entries) (system_named w.bridges from)
    ≡ Verdict.Yes

-- the entries are those of the best paths (IEEE 802.1aq, 28.5 to 28.8), and what is answered is the best path to the
-- other bridge
pub record IsBestAnswer (w : World) (from to : List ℕ) (vid : ℕ) (plan : VidPlan) (entries : List EntryWord) : Type 0
  where
    pub best : entries_of w.bridges entries ≡ proved_entries w plan from
    pub text : extra_text w (Check from to vid entries) ≡ yes_text w.bridges
        (best_path (world_graph w) (mask_of plan.ect) (system_named w.bridges from) (system_named w.bridges to))

-- so it is where a check isn't refused, and no bridge fails
abbrev pub YesIsBest : Type 0
YesIsBest = (w : World) (from to : List ℕ) (vid : ℕ) (plan : VidPlan) (entries : List EntryWord) → Sound w
    → check_refusal w from to vid entries ≡ None → planned_for w.vids vid ≡ Some plan → IsRight w plan from entries
    → IsBestAnswer w from to vid plan entries

-- a check of what `proof` answers isn't refused, no bridge fails, and what is answered is the best path
pub record PassesCheck (w : World) (from to : List ℕ) (vid : ℕ) (plan : VidPlan) : Type 0 where
  pub accepted : check_refusal w from to vid (proved_words w plan from) ≡ None
  pub right : IsRight w plan from (proved_words w plan from)
  pub answer : IsBestAnswer w from to vid plan (proved_words w plan from)

-- so it is where the proof isn't refused
abbrev pub ProofsPass : Type 0
ProofsPass = (w : World) (from to : List ℕ) (vid : ℕ) (plan : VidPlan) → Sound w → AreDistinct w
    → path_refusal w from to vid ≡ None → planned_for w.vids vid ≡ Some plan → PassesCheck w from to vid plan

-- Why a question that changes nothing is refused: the first of its reasons, in order of number, whose test fails.
use Rattle.std.specs.Prelude.{ℕ, List, length, Bool, true, ◌==◌, Option, None, is_some}
use Rattle.std.specs.List.{list_all}
use Rattle.spb_types.specs.declared.entry_word.EntryWord.{EntryWord}
use Rattle.spb_types.specs.declared.entry_word.EntryWord.TheVariants.{Start, Before, Unreached}
use Rattle.scenario.specs.declared.extra.Extra.{Extra}
use Rattle.scenario.specs.declared.extra.Extra.TheVariants.{WhatIf, Proof, Check, Settle}
use Rattle.spb_world.specs.declared.reason.Reason.{Reason}
use Rattle.spb_world.specs.declared.reason.Reason.TheVariants.{NoSuchName, Range}
use Rattle.spb_world.specs.Reason.{reason_unless, ◌or◌}
use Rattle.spb_world.specs.World.{World, Bridges, place_of}
use Rattle.spb_world.specs.Naming.{path_refusal}
use Rattle.spb_world.specs.Changing.{change_refusal}

-- the name of an entry, if it has one, is that of a declared bridge
abbrev pub is_known : Bridges → EntryWord → Bool
is_known bridges Start = true
is_known bridges (Before name) = is_some (place_of name bridges)
is_known bridges Unreached = true

-- entries are checked: both bridges, the base VID and all names are declared, and there is an entry for each bridge
unfoldable pub check_refusal : World → List ℕ → List ℕ → ℕ → List EntryWord → Option Reason
check_refusal w from to vid entries = path_refusal w from to vid
    or reason_unless (list_all (is_known w.bridges) entries) NoSuchName
    or reason_unless (length entries == length w.bridges) Range

-- of each question: what a change would do is refused as the change is. To settle is no question, and is refused by
-- what the network did before, not by what is declared
abbrev pub extra_refusal : World → Extra → Option Reason
extra_refusal w (WhatIf change) = change_refusal w change
extra_refusal w (Proof from to vid) = path_refusal w from to vid
extra_refusal w (Check from to vid entries) = check_refusal w from to vid entries
extra_refusal w Settle = None

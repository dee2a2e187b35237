use Rattle.std.proofs.Common.{◌≡◌, ◌-◌, List, length}
use Rattle.spb_types.specs.declared.entry_word.EntryWord.{EntryWord}
use Rattle.spb_types.specs.declared.limits.TheConstants.{MOST_BRIDGES}
use Rattle.scenario.specs.declared.extra.Extra.{Extra}
use Rattle.scenario.specs.Grammar.{read}
use Rattle.scenario.specs.Extras.{more_entries}
use Rattle.scenario.proofs.entries.read_more.Given as goal

abbrev pub invariant-loop-words : goal.invariant-loop-words
invariant-loop-words l =
    (given : List EntryWord → Extra)
    → read (more_entries (MOST_BRIDGES - length l.found) given l.found) l.words ≡ read (more_entries (MOST_BRIDGES - length l.fn.found) given l.fn.found) l.fn.words

abbrev pub decreases-loop-words : goal.decreases-loop-words
decreases-loop-words l = MOST_BRIDGES - length l.found

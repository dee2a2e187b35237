-- The entries of a proof of paths, with the names of the declared bridges in place of their system ids.
use Rattle.std.specs.Prelude.{ℕ, List, length, Option, Some, None, map}
use Rattle.std.specs.Option.{unwrap_or}
use Rattle.spb_types.specs.declared.address.SystemId.{SystemId}
use Rattle.spb_types.specs.declared.entry_word.EntryWord.{EntryWord}
use Rattle.spb_types.specs.declared.entry_word.EntryWord.TheVariants as word
use Rattle.what_if.specs.declared.entry.Entry.{Entry}
use Rattle.spb_world.specs.World.{Bridges, place_of, system_at}
use Rattle.spb_world.specs.Systems.{name_of_system}

-- the system id of the bridge of a name, and zeros where it isn't declared
abbrev pub system_named : Bridges → List ℕ → SystemId
system_named bridges name = system_at bridges (unwrap_or (place_of name bridges) (length bridges))

-- what an entry says, by names
abbrev pub entry_of : Bridges → EntryWord → Entry
entry_of bridges word.Start = Entry.Start
entry_of bridges (word.Before name) = Entry.Before (system_named bridges name)
entry_of bridges word.Unreached = Entry.Unreached

abbrev pub entries_of : Bridges → List EntryWord → List Entry
entries_of bridges words = map (entry_of bridges) words

-- and back: the name of a bridge, if it is declared
abbrev pub word_named : Option (List ℕ) → EntryWord
word_named None = word.Unreached
word_named (Some name) = word.Before name

abbrev pub word_of : Bridges → Entry → EntryWord
word_of bridges Entry.Start = word.Start
word_of bridges (Entry.Before x) = word_named (name_of_system bridges x)
word_of bridges Entry.Unreached = word.Unreached

abbrev pub words_of : Bridges → List Entry → List EntryWord
words_of bridges entries = map (word_of bridges) entries

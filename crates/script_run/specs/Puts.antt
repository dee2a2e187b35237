-- Bytes that are put behind others, which are held until they are written together.
use Rattle.std.specs.Prelude.{◌≡◌, ℕ, List, ◌++◌, Option}
use Rattle.std.specs.Io.KnownBytes.{Appends}

-- These bytes were put behind those that were held: some of all are written, and the others held.
pub record Puts (old new : Option (List ℕ)) (held held' bytes : List ℕ) : Type 0 where
  pub written : List ℕ
  pub whole : held ++ bytes ≡ written ++ held'
  pub grown : Appends old new written

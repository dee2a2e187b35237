use Rattle.std.proofs.Common.{◌≡◌, ℕ, true, false, true≢false, List, [], ◌∷◌, ◌++◌, Option, Some, None, is_some, refl, sym, ◌∙◌}
use Rattle.std.specs.Str.{bytes_eq}
use Rattle.indexmap.specs.IndexMap.{insert_entry}
use Rattle.indexmap.proofs.MapLemmas.{some_index, absent_from_lookup, insert_entry-absent}
use Rattle.spb_world.specs.Declaring.{is_new_name}
use Rattle.spb_world.proofs.ListLemmas.{not-true}

none_from : {T : Type 0} (o : Option T) → is_some o ≡ false → o ≡ None
none_from None h = refl
none_from (Some x) h = absurd (true≢false h)

-- a thing of a new name goes last
pub insert_entry-new_name : {T : Type 0} (name : List ℕ) (es : List (List ℕ × T)) (x : T) → is_new_name name es ≡ true → insert_entry bytes_eq es name x ≡ es ++ (name, x) ∷ []
unfolding is_new_name
insert_entry-new_name name es x h =
    insert_entry-absent bytes_eq name x es (absent_from_lookup (bytes_eq name) es (none_from _ (sym (some_index (bytes_eq name) es) ∙ not-true _ h)))

-- How different ids are found, one after another.
use Rattle.std.specs.Prelude.{List, [], ◌∷◌, ◌++◌, if◌then◌else◌}
use Rattle.spb_types.specs.declared.address.LspId.{LspId}
use Rattle.snp_sync.specs.Hearing.{is_among}

-- an id more, unless it was found before
abbrev pub with_id : List LspId → LspId → List LspId
with_id found id = if is_among found id then found else found ++ id ∷ []

abbrev pub with_ids : List LspId → List LspId → List LspId
with_ids found [] = found
with_ids found (id ∷ ids) = with_ids (with_id found id) ids

-- The ids that are to be sent name the LSPs that are.
use Rattle.std.specs.Prelude.{◌≡◌, ℕ, List, [], ◌∷◌, Bool, true, false, cond, T, Option, Some, map, filter, if◌then◌else◌}
use Rattle.std.proofs.Common.{refl, ap, ◌∙◌}
use Rattle.std.proofs.lemmas.Bool.{and_parts}
use Rattle.std.specs.Ordering.{is_eq, is_lt}
use Rattle.std.specs.Option.{option_map}
use Rattle.std.specs.FinMap.{find, get, entries, entries_sorted, get-entries, is_sorted}
use Rattle.std.specs.FinMap.Entries.{below_all}
use Rattle.spb_types.specs.declared.address.LspId.{LspId}
use Rattle.spb_types.specs.Ports.{has}
use Rattle.isis_pdu.specs.Pdu.{LspValue}
use Rattle.lsdb.specs.Entry.{Entry}
use Rattle.lsdb.specs.Database.{Lsps, id_cmp}
use Rattle.lsdb.proofs.Ids.{tied_same, turned_less, less_is}
use Rattle.flooding.specs.Sending.{lsp_in, ids_among}
use Rattle.flooding.specs.Laws.{IdsNameLsps}

true_from_T : (b : Bool) → T b → b ≡ true
true_from_T true h = refl
true_from_T false h = absurd h

-- the LSPs among entries, and the one under an id
abbrev lsps_among : ℕ → List (LspId × Entry) → List (Option LspValue)
lsps_among port es = map (λ e. Some (lsp_in e.0 e.1)) (filter (λ e. has e.1.srm port) es)

abbrev named : List (LspId × Entry) → LspId → Option LspValue
named es id = option_map (lsp_in id) (find id_cmp id es)

-- an id above the first is found behind it
find_behind : (e : LspId × Entry) (es : List (LspId × Entry)) (id : LspId) → is_lt (id_cmp e.0 id) ≡ true → find id_cmp id (e ∷ es) ≡ find id_cmp id es
find_behind e es id above = ap (λ r. cond (is_eq r) (Some e.1) (find id_cmp id es)) (turned_less e.0 id (less_is (id_cmp e.0 id) above))

-- so for the ids among entries that all are
behind_all : (port : ℕ) (e : LspId × Entry) (es fs : List (LspId × Entry)) → below_all id_cmp e.0 fs ≡ true
    → map (named (e ∷ es)) (ids_among port fs) ≡ map (named es) (ids_among port fs)
behind_all port e es [] above = refl
behind_all port e es (f ∷ fs) above =
    let both = and_parts (is_lt (id_cmp e.0 f.0)) (below_all id_cmp e.0 fs) above in
    by_flag (has f.1.srm port) (ap (λ o. option_map (lsp_in f.0) o) (find_behind e es f.0 both.0)) (behind_all port e es fs both.1)
  where
    by_flag : (b : Bool) → named (e ∷ es) f.0 ≡ named es f.0 → map (named (e ∷ es)) (ids_among port fs) ≡ map (named es) (ids_among port fs)
        → map (named (e ∷ es)) (map (λ x. x.0) (if b then f ∷ filter (λ x. has x.1.srm port) fs else filter (λ x. has x.1.srm port) fs))
        ≡ map (named es) (map (λ x. x.0) (if b then f ∷ filter (λ x. has x.1.srm port) fs else filter (λ x. has x.1.srm port) fs))
    by_flag true here rest = λ i. here i ∷ rest i
    by_flag false here rest = rest

names : (port : ℕ) (es : List (LspId × Entry)) → is_sorted id_cmp es ≡ true → map (named es) (ids_among port es) ≡ lsps_among port es
names port [] s = refl
names port (e ∷ es) s =
    let both = and_parts (below_all id_cmp e.0 es) (is_sorted id_cmp es) s in
    let here : named (e ∷ es) e.0 ≡ Some (lsp_in e.0 e.1) = ap (λ r. option_map (lsp_in e.0) (cond (is_eq r) (Some e.1) (find id_cmp e.0 es))) (tied_same e.0 e.0 refl) in
    by_flag (has e.1.srm port) here (behind_all port e es es both.0 ∙ names port es both.1)
  where
    by_flag : (b : Bool) → named (e ∷ es) e.0 ≡ Some (lsp_in e.0 e.1) → map (named (e ∷ es)) (ids_among port es) ≡ lsps_among port es
        → map (named (e ∷ es)) (map (λ x. x.0) (if b then e ∷ filter (λ x. has x.1.srm port) es else filter (λ x. has x.1.srm port) es))
        ≡ map (λ x. Some (lsp_in x.0 x.1)) (if b then e ∷ filter (λ x. has x.1.srm port) es else filter (λ x. has x.1.srm port) es)
    by_flag true here rest = λ i. here i ∷ rest i
    by_flag false here rest = rest

some_map : (es : List (LspId × Entry)) → map (λ e. Some (lsp_in e.0 e.1)) es ≡ map (λ l. Some l) (map (λ e. lsp_in e.0 e.1) es)
some_map [] = refl
some_map (e ∷ es) = ap (λ ls. Some (lsp_in e.0 e.1) ∷ ls) (some_map es)

found_all : (db : Lsps) (ids : List LspId) → map (λ id. option_map (lsp_in id) (get db id)) ids ≡ map (named (entries db)) ids
found_all db [] = refl
found_all db (id ∷ ids) = λ i. option_map (lsp_in id) (get-entries db id i) ∷ found_all db ids i

pub ids_name_lsps : IdsNameLsps
ids_name_lsps db port =
    found_all db (ids_among port (entries db)) ∙ names port (entries db) (true_from_T (is_sorted id_cmp (entries db)) (entries_sorted db))
    ∙ some_map (filter (λ e. has e.1.srm port) (entries db))

-- The ids that are to be sent, entry by entry.
use Rattle.std.specs.Prelude.{◌≡◌, ℕ, zero, suc, ◌+◌, List, [], ◌∷◌, ◌++◌, true, false, Some, None, map, take, slice_get, if◌then◌else◌}
use Rattle.std.proofs.Common.{refl, ap, ◌∙◌, add-one}
use Rattle.std.proofs.lemmas.List.{map-append, append-nil}
use Rattle.std.proofs.lemmas.List.Elements.{filter-append}
use Rattle.spb_types.specs.declared.address.LspId.{LspId}
use Rattle.spb_types.specs.Ports.{has}
use Rattle.lsdb.specs.Entry.{Entry}
use Rattle.flooding.specs.Sending.{ids_among}

take_suc : (es : List (LspId × Entry)) (k : ℕ) (e : LspId × Entry) → slice_get es k ≡ Some e → take (suc k) es ≡ take k es ++ e ∷ []
take_suc [] k e is = absurd (cc)
take_suc (d ∷ es) zero e is = let same : d ≡ e = cc in ap (λ x. x ∷ []) same
take_suc (d ∷ es) (suc k) e is = ap (λ xs. d ∷ xs) (take_suc es k e is)

take_past : (es : List (LspId × Entry)) (k : ℕ) → slice_get es k ≡ None → take (suc k) es ≡ take k es
take_past [] zero is = refl
take_past [] (suc k) is = refl
take_past (d ∷ es) zero is = absurd (cc)
take_past (d ∷ es) (suc k) is = ap (λ xs. d ∷ xs) (take_past es k is)

ids-append : (port : ℕ) (es fs : List (LspId × Entry)) → ids_among port (es ++ fs) ≡ ids_among port es ++ ids_among port fs
ids-append port es fs = ap (map (λ (e : LspId × Entry). e.0)) (filter-append (λ (e : LspId × Entry). has e.1.srm port) es fs) ∙ map-append (λ (e : LspId × Entry). e.0) _ _

-- the ids up to one entry more
module _ (port : ℕ) (es : List (LspId × Entry)) (k : ℕ) where
  pub ids_sent : (e : LspId × Entry) → slice_get es k ≡ Some e → has e.1.srm port ≡ true → ids_among port (take (k + 1) es) ≡ ids_among port (take k es) ++ e.0 ∷ []
  ids_sent e is set =
      ap (λ n. ids_among port (take n es)) (add-one k) ∙ ap (ids_among port) (take_suc es k e is) ∙ ids-append port (take k es) (e ∷ [])
      ∙ ap (λ b. ids_among port (take k es) ++ map (λ (x : LspId × Entry). x.0) (if b then e ∷ [] else [])) set

  pub ids_kept : (e : LspId × Entry) → slice_get es k ≡ Some e → has e.1.srm port ≡ false → ids_among port (take (k + 1) es) ≡ ids_among port (take k es)
  ids_kept e is clear =
      ap (λ n. ids_among port (take n es)) (add-one k) ∙ ap (ids_among port) (take_suc es k e is) ∙ ids-append port (take k es) (e ∷ [])
      ∙ ap (λ b. ids_among port (take k es) ++ map (λ (x : LspId × Entry). x.0) (if b then e ∷ [] else [])) clear ∙ append-nil _

  pub ids_past : slice_get es k ≡ None → ids_among port (take (k + 1) es) ≡ ids_among port (take k es)
  ids_past is = ap (λ n. ids_among port (take n es)) (add-one k) ∙ ap (ids_among port) (take_past es k is)

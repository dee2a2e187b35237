-- A bridge that holds and hears of some ids alone holds them alone; and where these are few, every id has room.
use Rattle.std.proofs.Common.{◌≡◌, inl, inr, ◌≤◌, ℕ, Bool, true, false, List, [], ◌∷◌, map, length, refl, sym, ◌∙◌, Option, Some, None, arith}
use Rattle.std.specs.Prelude.{◌&&◌, is_some, Contains}
use Rattle.std.specs.List.{AllByRecursion}
use Rattle.std.specs.List.Sorted.{IsStrictlySortedBy}
use Rattle.std.specs.declared.cmp.Ordering.TheVariants.{Less}
use Rattle.std.specs.Ordering.{is_lt}
use Rattle.std.specs.FinMap.{get, entries, entries_sorted, keys, len, len-entries, contains_key-keys}
use Rattle.std.specs.FinMap.Entries.{below_all, is_sorted}
use Rattle.std.proofs.lemmas.Bool.{true≢false}
use Rattle.std.proofs.lemmas.Cmp.{eq_by_cmp_equiv}
use Rattle.std.proofs.lemmas.List.{length-map}
use Rattle.std.proofs.lemmas.Map.Keys.{IsDistinct-from_sorted}
use Rattle.std.proofs.lemmas.Map.Made.{length-le_from_is_member}
use Rattle.std.proofs.lemmas.Map.Views.{list_any-from_Contains}
use Rattle.spb_types.specs.declared.address.LspId.{LspId}
use Rattle.lsdb.specs.Entry.{Entry}
use Rattle.lsdb.specs.Database.{id_cmp}
use Rattle.lsdb.proofs.Ids.{ids_total, less_is}
use Rattle.lsdb.proofs.LookupLemmas.{true_from_T}
use Rattle.flooding.specs.Own.{own_numbers}
use Rattle.flooding.specs.Room.{most_others}
use Rattle.flooding.proofs.Few.{room_below}
use Rattle.bridge_api.specs.View.{BridgeView}
use Rattle.bridge_api.specs.Step.{frame, step}
use Rattle.bridge_api.specs.Laws.{IsSoundView, IsSent}
use Rattle.bridge_api.proofs.Sound.{steps_stay_sound}
use Rattle.bridge_rounds.specs.Inbox.{Inbox, heard_all, IsMail, HoldsWithin}
use Rattle.bridge_rounds.specs.Mail.{MailHoldsWithin, HasRoom, MailFits}
use Rattle.bridge_rounds.proofs.BroughtIds.{rounds_hold_ids}
use Rattle.bridge_rounds.proofs.Folds.{mail_holds, holds_so, claim_at}

-- ---- the ids that are held differ

both_true : (a b : Bool) → (a && b) ≡ true → (a ≡ true) × (b ≡ true)
both_true true b is = (refl, is)
both_true false b is = absurd (true≢false (sym is))

below_keys : (x : LspId) (es : List (LspId × Entry)) → below_all id_cmp x es ≡ true → AllByRecursion (λ (y : LspId). id_cmp x y ≡ Less) (map (λ e. e.0) es)
below_keys x [] below = tt
below_keys x (e ∷ es) below =
    let both = both_true (is_lt (id_cmp x e.0)) (below_all id_cmp x es) below in
    (less_is (id_cmp x e.0) both.0, below_keys x es both.1)

sorted_keys : (es : List (LspId × Entry)) → is_sorted id_cmp es ≡ true → IsStrictlySortedBy id_cmp (map (λ e. e.0) es)
unfolding IsStrictlySortedBy
sorted_keys [] sorted = tt
sorted_keys (e ∷ es) sorted =
    let both = both_true (below_all id_cmp e.0 es) (is_sorted id_cmp es) sorted in
    (below_keys e.0 es both.0, sorted_keys es both.1)

held_among : (ids : List LspId) (v : BridgeView) (id : LspId) (o : Option Entry) → HoldsWithin ids v → get v.database id ≡ o → is_some o ≡ true → Contains ids id
held_among ids v id None within is some = absurd (true≢false (sym some))
held_among ids v id (Some e) within is some = within id e is

-- so there are no more of them than of the ids within which they are
pub few_held : (ids : List LspId) (v : BridgeView) → HoldsWithin ids v → len v.database ≤ length ids
few_held ids v within =
    let es = entries v.database in
    let sorted = sorted_keys es (true_from_T (is_sorted id_cmp es) (entries_sorted v.database)) in
    let all = length-le_from_is_member (eq_by_cmp_equiv ids_total) (keys v.database) ids (IsDistinct-from_sorted id_cmp (keys v.database) sorted)
    (λ q among. list_any-from_Contains (eq_by_cmp_equiv ids_total) q ids (held_among ids v q (get v.database q) within refl (contains_key-keys v.database q ∙ among))) in
    let as_many : length (keys v.database) ≡ length es = length-map es (λ (e : LspId × Entry). e.0) in
    omega (arith, all, as_many, len-entries v.database)

-- ---- throughout

within_after : (ids : List LspId) (v u : BridgeView) (fs : Inbox) (p : ℕ) (bytes : List ℕ) → IsMail ids v fs → IsSent fs p bytes → IsSoundView u → HoldsWithin ids u → HoldsWithin ids (step (frame p bytes) u)
within_after ids v u fs p bytes mail sent was within id e after =
    elim (rounds_hold_ids (frame p bytes) u id e was refl after) [
      | inl some ↦ held_among ids u id (get u.database id) within refl some
      | inr brought ↦ mail.known p id brought.0 (claim_at fs p bytes id brought.0 sent brought.1.0) brought.1.1
    ]

pub mail_holds_within : MailHoldsWithin
mail_holds_within ids v fs was mail within =
    let IsSo : BridgeView → Type 0 = λ u. IsSoundView u × HoldsWithin ids u in
    let both = mail_holds IsSo fs v (λ p bytes u sent holds. (steps_stay_sound (frame p bytes) u tt holds.0, within_after ids v u fs p bytes mail sent holds.0 holds.1)) (was, within) in
    (holds_so IsSo (HoldsWithin ids) fs v (λ u holds. holds.1) both.0, both.1.1)

room_for : (ids : List LspId) (u : BridgeView) → length ids ≤ 900 → HoldsWithin ids u → HasRoom u
unfolding own_numbers
room_for ids u few within id =
    let most : most_others ≡ 4080 = refl in
    let held = few_held ids u within in
    room_below u.id.system u.database id (omega (arith, held, few, most))

pub mail_fits : MailFits
mail_fits ids v fs was mail within few =
    let both = mail_holds_within ids v fs was mail within in
    (holds_so (HoldsWithin ids) HasRoom fs v (λ u holds. room_for ids u few holds) both.0, room_for ids (heard_all fs v) few both.1)

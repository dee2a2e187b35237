-- Walks over what a bridge holds, LSP by LSP.
use Rattle.std.proofs.Common.{◌≡◌, ℕ, ◌+◌, ◌<◌, Bool, true, false, List, drop, length, map, Option, Some, None, refl, sym, ap, subst, ◌∙◌, inl, inr, true≢false}
use Rattle.std.specs.List.{list_all}
use Rattle.std.specs.Option.{option_map_or, option_and_then}
use Rattle.std.specs.FinMap.{entries}
use Rattle.std.proofs.lemmas.Option.{slice_get_within}
use Rattle.spb_types.specs.declared.address.LspId.{LspId}
use Rattle.spb_types.specs.declared.address.SystemId.{SystemId}
use Rattle.lsdb.specs.Entry.{Entry}
use Rattle.bridge_api.specs.View.{BridgeView, entry_at}
use Rattle.bridge_api.specs.Shown.{Shown}
use Rattle.spb_network.specs.declared.network.NetworkOf.{NetworkOf}
use Rattle.spb_network.specs.Applying.{IsReady, IsSoundNetwork}
use Rattle.settle_laws.specs.declared.databases.LspTest.{LspTest}
use Rattle.settle_laws.specs.Ids.{with_id, with_ids}
use Rattle.settle_laws.specs.Premises.{lsp_passes}
use Rattle.settle_laws.proofs.Walks.{left_at, left_past, failed, passed, all_passed}

-- a network that hasn't halted is sound
pub running : {B : Type 0} (shown : B → Shown) (n : NetworkOf B) → n.halted ≡ false → IsReady shown n → IsSoundNetwork shown n
running shown n on (inl halted) = absurd (true≢false (sym halted ∙ on))
running shown n on (inr sound) = sound

-- what is held at a place by a bridge, if there is one
abbrev pub entry_in : Option BridgeView → ℕ → Option (LspId × Entry)
entry_in o place = option_and_then (λ v. entry_at v place) o

-- whether what a bridge holds from a place on passes
abbrev pub rest_passes : LspTest → Option BridgeView → ℕ → Bool
rest_passes test o place =
    option_map_or (λ v. list_all (λ e. lsp_passes test v.id.system e.0 e.1) (drop place (entries v.database))) o true

abbrev pub IsOf : SystemId → Option BridgeView → Type 0
IsOf system o = (v : BridgeView) → o ≡ Some v → system ≡ v.id.system

pub one_failed : (test : LspTest) (system : SystemId) (o : Option BridgeView) (place : ℕ) (e : LspId × Entry) → IsOf system o
    → entry_in o place ≡ Some e → lsp_passes test system e.0 e.1 ≡ false → rest_passes test o place ≡ false
one_failed test system None place e of at h = cc at
one_failed test system (Some v) place e of at h =
    failed (λ e. lsp_passes test v.id.system e.0 e.1) (entries v.database) place e at (subst (λ (x : SystemId). lsp_passes test x e.0 e.1 ≡ false) (of v refl) h)

pub one_passed : (test : LspTest) (system : SystemId) (o : Option BridgeView) (place : ℕ) (e : LspId × Entry) → IsOf system o
    → entry_in o place ≡ Some e → lsp_passes test system e.0 e.1 ≡ true → rest_passes test o place ≡ rest_passes test o (place + 1)
one_passed test system None place e of at h = cc at
one_passed test system (Some v) place e of at h =
    passed (λ e. lsp_passes test v.id.system e.0 e.1) (entries v.database) place e at (subst (λ (x : SystemId). lsp_passes test x e.0 e.1 ≡ true) (of v refl) h)

pub none_left : (test : LspTest) (o : Option BridgeView) (place : ℕ) → entry_in o place ≡ None → rest_passes test o place ≡ true
none_left test None place past = refl
none_left test (Some v) place past = all_passed (λ e. lsp_passes test v.id.system e.0 e.1) (entries v.database) place past

pub held_within : (o : Option BridgeView) (place : ℕ) (e : LspId × Entry) → entry_in o place ≡ Some e
    → place < option_map_or (λ v. length (entries v.database)) o 0
held_within None place e at = cc at
held_within (Some v) place e at = slice_get_within (entries v.database) place e at

-- ---- ids

abbrev pub rest_found : List LspId → Option BridgeView → ℕ → List LspId
rest_found found o place = option_map_or (λ v. with_ids found (map (λ e. e.0) (drop place (entries v.database)))) o found

pub one_found : (found : List LspId) (o : Option BridgeView) (place : ℕ) (e : LspId × Entry) → entry_in o place ≡ Some e
    → rest_found found o place ≡ rest_found (with_id found e.0) o (place + 1)
one_found found None place e at = cc at
one_found found (Some v) place e at = ap (λ es. with_ids found (map (λ e. e.0) es)) (left_at (entries v.database) place e at)

pub none_found : (found : List LspId) (o : Option BridgeView) (place : ℕ) → entry_in o place ≡ None → rest_found found o place ≡ found
none_found found None place past = refl
none_found found (Some v) place past = ap (λ es. with_ids found (map (λ e. e.0) es)) (left_past (entries v.database) place past)

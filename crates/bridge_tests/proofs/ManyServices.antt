-- What is asked of the services of a bridge, and what keeps them.
use Rattle.std.proofs.Common.{◌≡◌, ◌≢◌, ◌≤◌, ◌<◌, ◌+◌, ℕ, zero, suc, Bool, true, false, List, [], ◌∷◌, ◌++◌, length, map, refl, sym, ap, ◌∙◌, subst, arith}
use Rattle.std.specs.Prelude.{nat_eq, Contains, slice_index_or, if◌then◌else◌}
use Rattle.std.specs.List.{list_any, AllByRecursion}
use Rattle.std.proofs.lemmas.List.{length-map}
use Rattle.spb_types.specs.declared.service.Attachment.{Attachment}
use Rattle.bridge_api.specs.View.{BridgeView}
use Rattle.bridge_api.specs.declared.config.BridgeConfig.{BridgeConfig}
use Rattle.bridge_api.specs.Config.{ArePairwise, AgreesWith, IsAttachment, IsWhole, different, vids_of, port_without_carrier, bare, configured}
use Rattle.bridge_api.specs.Services.{IsAttachedPort, CanAttach}
use Rattle.bridge_api.specs.Step.{Input, attach, carrier, step}
use Rattle.bridge_api.specs.Laws.{attached_after}
use Rattle.bridge_api.proofs.Certified.{steps_keep_bridge}
use Rattle.bridge_api.proofs.Changes.{configured_is, with_lsps}
use Rattle.bridge_tests.specs.Services.{service, services, IsServing, IsKept}

-- ---- one more behind the others

all_behind : {X : Type 0} (P : X → Type 0) (xs : List X) (x : X) → AllByRecursion P xs → P x → AllByRecursion P (xs ++ x ∷ [])
all_behind P [] x all here = (here, tt)
all_behind P (y ∷ xs) x all here = (all.0, all_behind P xs x all.1 here)

pairwise_behind : {X : Type 0} (R : X → X → Type 0) (xs : List X) (x : X) → ArePairwise R xs → AllByRecursion (λ y. R y x) xs → ArePairwise R (xs ++ x ∷ [])
pairwise_behind R [] x apart each = (tt, tt)
pairwise_behind R (y ∷ xs) x apart each = (all_behind (R y) xs x apart.0 each.0, pairwise_behind R xs x apart.1 each.1)

one_longer : {X : Type 0} (xs : List X) (x : X) → length (xs ++ x ∷ []) ≡ length xs + 1
one_longer [] x = refl
one_longer (y ∷ xs) x = omega (arith, one_longer xs x)

last_of : {X : Type 0} (xs : List X) (x : X) → slice_index_or (xs ++ x ∷ []) (length xs) x ≡ x
last_of [] x = refl
last_of (y ∷ xs) x = last_of xs x

-- ---- the different numbers of a list

fewer_by : (b : Bool) (n : ℕ) (some ns : List ℕ) → length some ≤ length ns → length (if b then some else n ∷ some) ≤ length (n ∷ ns)
fewer_by true n some ns few = omega (arith, few)
fewer_by false n some ns few = omega (arith, few)

few_different : (ns : List ℕ) → length (different ns) ≤ length ns
few_different [] = omega arith
few_different (n ∷ ns) = fewer_by (list_any (nat_eq n) ns) n (different ns) ns (few_different ns)

-- ---- the services

next : (n : ℕ) → n + 1 ≡ suc n
next n = omega arith

pub one_more : (base count : ℕ) → services base (count + 1) ≡ services base count ++ service base (count + 1) ∷ []
one_more base count = ap (services base) (next count)

pub still_so_many : (base count : ℕ) (now new : List Attachment) → now ≡ services base count → new ≡ now ++ service base (count + 1) ∷ [] → new ≡ services base (count + 1)
still_so_many base count now new so more = more ∙ (ap (λ (list : List Attachment). list ++ service base (count + 1) ∷ []) so ∙ sym (one_more base count))

so_many : (base count : ℕ) → length (services base count) ≡ count
so_many base zero = refl
so_many base (suc count) = omega (arith, one_longer (services base count) (service base (count + 1)), so_many base count)

is_service : (base port : ℕ) → base ≤ 1000 → 1 ≤ port → port ≤ 960 → IsAttachment (10 ∷ []) (service base port)
is_service base port low some few = record {
  port_low = some;
  port_high = omega (arith, few);
  isid_low = omega (arith, some);
  isid_high = omega (arith, low, few);
  vid = refl;
}

pub each_service : (base count : ℕ) → base ≤ 1000 → count ≤ 960 → AllByRecursion (IsAttachment (10 ∷ [])) (services base count)
each_service base zero low few = tt
each_service base (suc count) low few =
    all_behind (IsAttachment (10 ∷ [])) (services base count) (service base (count + 1)) (each_service base count low (omega (arith, few))) (is_service base (count + 1) low (omega arith) (omega (arith, few)))

agrees : (base p q : ℕ) → p < q → AgreesWith (service base p) (service base q)
agrees base p q less = record { ports = λ same. absurd (omega (arith, same, less)); vids = λ same. refl }

all_agree : (base count q : ℕ) → count < q → AllByRecursion (λ other. AgreesWith other (service base q)) (services base count)
all_agree base zero q less = tt
all_agree base (suc count) q less =
    all_behind (λ other. AgreesWith other (service base q)) (services base count) (service base (count + 1)) (all_agree base count q (omega (arith, less))) (agrees base (count + 1) q (omega (arith, less)))

pub services_apart : (base count : ℕ) → ArePairwise AgreesWith (services base count)
services_apart base zero = tt
services_apart base (suc count) = pairwise_behind AgreesWith (services base count) (service base (count + 1)) (services_apart base count) (all_agree base count (count + 1) (omega arith))

pub few_isids : (base count : ℕ) → count ≤ 960 → length (different (map (λ (a : Attachment). a.isid.value) (services base count))) ≤ 960
few_isids base count few =
    omega (arith, few_different (map (λ (a : Attachment). a.isid.value) (services base count)), length-map (services base count) (λ (a : Attachment). a.isid.value), so_many base count, few)

-- ---- the bridge

pub can_attach : (count : ℕ) (v : BridgeView) → count < 960 → IsServing count v → CanAttach v (service 0 (count + 1))
can_attach count v few is = record {
  attachment = subst (λ (vids : List ℕ). IsAttachment vids (service 0 (count + 1))) (sym is.vids) (is_service 0 (count + 1) (omega arith) (omega arith) (omega (arith, few)));
  agrees = subst (λ (list : List Attachment). AllByRecursion (λ other. AgreesWith other (service 0 (count + 1))) list) (sym is.attached) (all_agree 0 count (count + 1) (omega arith));
  few_isids = subst (λ (list : List Attachment). length (different (map (λ (a : Attachment). a.isid.value) (list ++ service 0 (count + 1) ∷ []))) ≤ 960) (sym is.attached) (few_isids 0 (suc count) (omega (arith, few)));
}

last_attached_in : (count : ℕ) → 1 ≤ count → (a : Attachment) × Contains (services 0 count) a × (a.port ≡ count)
last_attached_in zero some = absurd (omega (arith, some))
last_attached_in (suc count) some =
    (service 0 (count + 1), (length (services 0 count), omega (arith, one_longer (services 0 count) (service 0 (count + 1))), last_of (services 0 count) (service 0 (count + 1))), next count)

pub last_attached : (count : ℕ) (v : BridgeView) → 1 ≤ count → IsServing count v → IsAttachedPort v count
last_attached count v some is = subst (λ (list : List Attachment). (a : Attachment) × Contains list a × (a.port ≡ count)) (sym is.attached) (last_attached_in count some)

pub kept_after : (input : Input) (v w : BridgeView) → attached_after input v.attached ≡ v.attached → w ≡ step input v → IsKept v w
kept_after input v w same is =
    let bridge = steps_keep_bridge input v in
    subst (λ (u : BridgeView). IsKept v u) (sym is) (record { ports = bridge.ports; vids = bridge.vids; attached = bridge.attached ∙ same })

pub still_serving : (count : ℕ) (v w : BridgeView) → IsServing count v → IsKept v w → IsServing count w
still_serving count v w was kept = record { ports = kept.ports ∙ was.ports; vids = ap vids_of kept.vids ∙ was.vids; attached = kept.attached ∙ was.attached }

pub serves_one_more : (count : ℕ) (v w : BridgeView) → IsServing count v → w ≡ step (attach (service 0 (count + 1))) v → IsServing (count + 1) w
serves_one_more count v w was is =
    let bridge = steps_keep_bridge (attach (service 0 (count + 1))) v in
    subst (λ (u : BridgeView). IsServing (count + 1) u) (sym is) (record {
      ports = bridge.ports ∙ was.ports;
      vids = ap vids_of bridge.vids ∙ was.vids;
      attached = still_so_many 0 count v.attached (step (attach (service 0 (count + 1))) v).attached was.attached bridge.attached;
    })

-- ---- as it is configured

pub configured_serving : (count : ℕ) (c : BridgeConfig) (v : BridgeView) → IsWhole c → c.ports ≡ 1 → vids_of c.vids ≡ 10 ∷ [] → c.attached ≡ services 0 count → v ≡ configured c → IsServing count v
configured_serving count c v whole port vids attached is =
    let made : v ≡ with_lsps (configured c).database (configured c).spent (bare c) = is ∙ configured_is c in
    subst (IsServing count) (sym made) (record { ports = length-map c.metrics port_without_carrier ∙ (whole.metrics ∙ port); vids = vids; attached = attached })

pub lit_serving : (count : ℕ) (v w : BridgeView) → IsServing count v → w ≡ step (carrier 1 true) v → IsServing count w
lit_serving count v w was is = still_serving count v w was (kept_after (carrier 1 true) v w refl is)

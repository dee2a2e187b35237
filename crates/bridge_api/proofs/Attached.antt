-- What is attached to a bridge stays as a configuration has it.
use Rattle.std.proofs.Common.{◌≡◌, inl, inr, ◌≤◌, ℕ, Bool, true, false, List, [], ◌∷◌, ◌++◌, length, map, filter, cond, refl, sym, ap, ◌∙◌, subst, arith}
use Rattle.std.specs.Prelude.{nat_eq, ◌||◌, if◌then◌else◌}
use Rattle.std.specs.List.{list_any, AllByRecursion}
use Rattle.std.proofs.lemmas.Bool.{true≢false, eq-eqb}
use Rattle.spb_types.specs.declared.service.Attachment.{Attachment}
use Rattle.customer_learning.specs.Known.{Addresses}
use Rattle.spb_content.proofs.Members.{Has, all_has, has_all, has_map, map_has, filter_has, all_append}
use Rattle.spb_content.proofs.Kept.{Apart, length-within}
use Rattle.bridge_api.specs.View.{BridgeView}
use Rattle.bridge_api.specs.Config.{ArePairwise, different, IsAttachment, AgreesWith, vids_of}
use Rattle.bridge_api.specs.Customers.{with_learned, after_entry}
use Rattle.bridge_api.specs.Hearing.{after_receive}
use Rattle.bridge_api.specs.Services.{CanAttach, without_customer_port, is_at_other_port, with_port_forgotten}
use Rattle.bridge_api.specs.Step.{Input, second, frame, carrier, metric, attach, detach, customer}
use Rattle.bridge_api.specs.Laws.{HasConfig, IsInput, attached_after}
use Rattle.bridge_api.proofs.Saying.{has_different}
use Rattle.bridge_api.proofs.Changes.{attached_to}

-- ---- one more behind the others

pairwise_behind : {X : Type 0} (R : X → X → Type 0) (xs : List X) (x : X) → ArePairwise R xs → AllByRecursion (λ y. R y x) xs → ArePairwise R (xs ++ x ∷ [])
pairwise_behind R [] x apart each = (tt, tt)
pairwise_behind R (y ∷ xs) x apart each = (all_append (R y) xs (x ∷ []) apart.0 (each.0, tt), pairwise_behind R xs x apart.1 each.1)

-- ---- fewer of them

pub all_fewer : {X : Type 0} (P : X → Type 0) (p : X → Bool) (xs : List X) → AllByRecursion P xs → AllByRecursion P (filter p xs)
all_fewer P p xs all = has_all P (filter p xs) (λ x h. all_has P x xs all (filter_has p x xs h).0)

pairwise_kept : {X : Type 0} (R : X → X → Type 0) (b : Bool) (x : X) (xs : List X) → AllByRecursion (R x) xs → ArePairwise R xs → ArePairwise R (cond b (x ∷ xs) xs)
pairwise_kept R true x xs all apart = (all, apart)
pairwise_kept R false x xs all apart = apart

pairwise_fewer : {X : Type 0} (R : X → X → Type 0) (p : X → Bool) (xs : List X) → ArePairwise R xs → ArePairwise R (filter p xs)
pairwise_fewer R p [] apart = tt
pairwise_fewer R p (x ∷ xs) apart = pairwise_kept R (p x) x (filter p xs) (all_fewer (R x) p xs apart.0) (pairwise_fewer R p xs apart.1)

-- ---- the different numbers of a list

different_by : (b : Bool) (n m : ℕ) (ns : List ℕ) → Has n (if b then different ns else m ∷ different ns) → (Has n (different ns) → Has n ns) → Has n (m ∷ ns)
different_by true n m ns h rest = inr (rest h)
different_by false n m ns (inl e) rest = inl e
different_by false n m ns (inr h) rest = inr (rest h)

different_has : (n : ℕ) (ns : List ℕ) → Has n (different ns) → Has n ns
different_has n [] h = h
different_has n (m ∷ ns) h = different_by (list_any (nat_eq m) ns) n m ns h (different_has n ns)

either_true : (b c : Bool) → c ≡ true → (b || c) ≡ true
either_true true c is = refl
either_true false c is = is

any_of : (n : ℕ) (ns : List ℕ) → Has n ns → list_any (nat_eq n) ns ≡ true
any_of n [] h = absurd h
any_of n (m ∷ ns) (inl e) = ap (λ b. b || list_any (nat_eq n) ns) (eq-eqb n m e)
any_of n (m ∷ ns) (inr h) = either_true (nat_eq n m) (list_any (nat_eq n) ns) (any_of n ns h)

apart_by : (b : Bool) (m : ℕ) (ns : List ℕ) → list_any (nat_eq m) ns ≡ b → Apart (λ n. n) (different ns) → Apart (λ n. n) (if b then different ns else m ∷ different ns)
apart_by true m ns is rest = rest
apart_by false m ns is rest = (has_all _ (different ns) (λ y h e. true≢false (sym (any_of m ns (subst (λ k. Has k ns) (sym e) (different_has y ns h))) ∙ is)), rest)

different_apart : (ns : List ℕ) → Apart (λ n. n) (different ns)
different_apart [] = tt
different_apart (m ∷ ns) = apart_by (list_any (nat_eq m) ns) m ns refl (different_apart ns)

-- fewer numbers have no more different ones
no_more_different : (ms ns : List ℕ) → ((n : ℕ) → Has n ms → Has n ns) → length (different ms) ≤ length (different ns)
no_more_different ms ns within =
    length-within (λ n. n) (λ n. n) (different ms) (different ns) (different_apart ms) (λ n h. record { item = n; has = has_different n ns (within n (different_has n ms h)); is = refl })

isid_fewer : (p : Attachment → Bool) (attached : List Attachment) (n : ℕ) → Has n (map (λ (a : Attachment). a.isid.value) (filter p attached)) → Has n (map (λ (a : Attachment). a.isid.value) attached)
isid_fewer p attached n h =
    let at = map_has (λ (a : Attachment). a.isid.value) n (filter p attached) h in
    subst (λ k. Has k (map (λ (a : Attachment). a.isid.value) attached)) (sym at.2) (has_map (λ (a : Attachment). a.isid.value) at.0 attached (filter_has p at.0 attached at.1).0)

fewer_isids : (p : Attachment → Bool) (attached : List Attachment) → length (different (map (λ (a : Attachment). a.isid.value) (filter p attached))) ≤ length (different (map (λ (a : Attachment). a.isid.value) attached))
fewer_isids p attached = no_more_different (map (λ (a : Attachment). a.isid.value) (filter p attached)) (map (λ (a : Attachment). a.isid.value) attached) (isid_fewer p attached)

-- ---- the configuration

config_attached : (a : Attachment) (v : BridgeView) → CanAttach v a → HasConfig v → HasConfig (attached_to (v.attached ++ a ∷ []) v)
config_attached a v can was = record {
  priority = was.priority;
  system = was.system;
  source = was.source;
  few_vids = was.few_vids;
  each_vid = was.each_vid;
  vids_apart = was.vids_apart;
  each_attachment = all_append (IsAttachment (vids_of v.vids)) v.attached (a ∷ []) was.each_attachment (can.attachment, tt);
  attachments_apart = pairwise_behind AgreesWith v.attached a was.attachments_apart can.agrees;
  few_isids = can.few_isids;
}

config_detached : (p : ℕ) (v : BridgeView) → HasConfig v → HasConfig (attached_to (without_customer_port p v.attached) v)
config_detached p v was = record {
  priority = was.priority;
  system = was.system;
  source = was.source;
  few_vids = was.few_vids;
  each_vid = was.each_vid;
  vids_apart = was.vids_apart;
  each_attachment = all_fewer (IsAttachment (vids_of v.vids)) (is_at_other_port p) v.attached was.each_attachment;
  attachments_apart = pairwise_fewer AgreesWith (is_at_other_port p) v.attached was.attachments_apart;
  few_isids = omega (arith, fewer_isids (is_at_other_port p) v.attached, was.few_isids);
}

-- what a bridge has learned after this came in
abbrev pub learned_after : Input → BridgeView → Addresses
learned_after second v = v.learned
learned_after (frame q bytes) v = (after_receive q bytes v).learned
learned_after (carrier q on) v = v.learned
learned_after (metric q m) v = v.learned
learned_after (attach a) v = v.learned
learned_after (detach p) v = (with_port_forgotten p v).learned
learned_after (customer p bytes) v = (after_entry p bytes v).learned

-- the bridge with what is attached to it and what it has learned after this came in, and all else as it was
abbrev pub with_attached_after : Input → BridgeView → BridgeView
with_attached_after input v = attached_to (attached_after input v.attached) (with_learned (learned_after input v) v)

-- what was learned is no part of the configuration
config_learned : (learned : Addresses) (v : BridgeView) → HasConfig v → HasConfig (with_learned learned v)
config_learned learned v was = record {
  priority = was.priority;
  system = was.system;
  source = was.source;
  few_vids = was.few_vids;
  each_vid = was.each_vid;
  vids_apart = was.vids_apart;
  each_attachment = was.each_attachment;
  attachments_apart = was.attachments_apart;
  few_isids = was.few_isids;
}

pub config_after : (input : Input) (v : BridgeView) → IsInput v input → HasConfig v → HasConfig (with_attached_after input v)
config_after second v is was = was
config_after (frame q bytes) v is was = config_learned (after_receive q bytes v).learned v was
config_after (carrier q on) v is was = was
config_after (metric q m) v is was = was
config_after (attach a) v is was = config_attached a v is was
config_after (detach p) v is was = config_detached p (with_learned (with_port_forgotten p v).learned v) (config_learned (with_port_forgotten p v).learned v was)
config_after (customer p bytes) v is was = config_learned (after_entry p bytes v).learned v was

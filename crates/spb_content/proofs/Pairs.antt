-- The services of a system: pairs of a base VID and an I-SID, each once, ascending.
use Rattle.std.proofs.Common.{◌≡◌, ◌≢◌, ℕ, ◌≤◌, ◌<◌, List, [], ◌∷◌, ◌++◌, length, refl, sym, ap, ◌∙◌, subst, inl, inr, arith}
use Rattle.std.specs.List.{AllByRecursion}
use Rattle.std.specs.Prelude.{Result, Ok, Err, OnOk}
use Rattle.spb_types.specs.Ascending.{Ascends}
use Rattle.spb_types.specs.declared.address.SystemId.{SystemId}
use Rattle.spb_types.specs.declared.graph.Member.{Member}
use Rattle.spb_types.specs.declared.service.Isid.{Isid}
use Rattle.spb_types.specs.declared.service.Vid.{Vid}
use Rattle.spb_content.specs.declared.local.Local.{Local}
use Rattle.spb_content.specs.Local.{IsAttached, AreInOneVid, isids_in, isid_number, service_tlvs}
use Rattle.spb_content.specs.Members.{pair_of, merged, HasNumbers}
use Rattle.spb_content.specs.Folding.{service_number}
use Rattle.spb_content.proofs.Members.{Has, all_has, has_all, weaker}
use Rattle.spb_content.proofs.Ascended.{Numbered}
use Rattle.spb_content.proofs.Kept.{Apart, length-within}
use Rattle.spb_content.proofs.Written.{attached_isid}
use Rattle.spb_content.proofs.Lengths.{in_one_vid}
use Rattle.spb_content.proofs.Covered.{ArePaired, AreCovered, covered_paired}
use Rattle.spb_content.proofs.AnyOrder.{isids_same, tlvs_same}
use Rattle.spb_content.proofs.Merged.{merged_ascends, merged_paired, merged_covered, covered_merged}

-- what is attached has numbers of 32 and 16 bits
pub attached_numbers : (ms : List Member) → AllByRecursion IsAttached ms → AllByRecursion HasNumbers ms
attached_numbers ms each = weaker IsAttached HasNumbers ms (λ m at. record { isid = omega (arith, at.isid_high); vid = omega (arith, at.vid_high) }) each

-- the members that a system is by what is attached say the same as that
pub attached_covered : (x : SystemId) (ms : List Member) → AllByRecursion IsAttached ms → AreCovered (merged x ms) ms
attached_covered x ms each = merged_covered x ms (attached_numbers ms each)

pub covered_attached : (x : SystemId) (ms : List Member) → AllByRecursion IsAttached ms → AreCovered ms (merged x ms)
covered_attached x ms each = covered_merged x ms (attached_numbers ms each)

-- ---- what ports have, the members have

attached_as : (m n : Member) → pair_of m ≡ pair_of n → IsAttached n → IsAttached m
attached_as m n is at =
    let vid = ap (λ (p : Vid × Isid). p.0.value) is in
    let isid = ap (λ (p : Vid × Isid). p.1.value) is in
    record {
      isid_low = omega (arith, isid, at.isid_low);
      isid_high = omega (arith, isid, at.isid_high);
      vid_low = omega (arith, vid, at.vid_low);
      vid_high = omega (arith, vid, at.vid_high);
    }

pub paired_attached : (ms ns : List Member) → ArePaired ms ns → AllByRecursion IsAttached ns → AllByRecursion IsAttached ms
paired_attached ms ns paired each =
    has_all IsAttached ms (λ m h. let n = paired m h in attached_as m n.item n.is (all_has IsAttached n.item ns each n.has))

pub one_vid_if : (ms : List Member) → ((m n : Member) → Has m ms → Has n ms → m.isid.value ≡ n.isid.value → m.vid.value ≡ n.vid.value) → AreInOneVid ms
one_vid_if [] same = tt
one_vid_if (m ∷ ms) same =
    (has_all (λ n. m.isid.value ≡ n.isid.value → m.vid.value ≡ n.vid.value) ms (λ n h e. same m n (inl refl) (inr h) e), one_vid_if ms (λ k n h i e. same k n (inr h) (inr i) e))

pub paired_one_vid : (ms ns : List Member) → ArePaired ms ns → AreInOneVid ns → AreInOneVid ms
paired_one_vid ms ns paired one =
    one_vid_if ms (λ m n h i e.
    let a = paired m h in
    let b = paired n i in
    let isids = sym (ap (λ (p : Vid × Isid). p.1.value) a.is) ∙ (e ∙ ap (λ (p : Vid × Isid). p.1.value) b.is) in
    ap (λ (p : Vid × Isid). p.0.value) a.is ∙ (in_one_vid a.item b.item ns one a.has b.has isids ∙ sym (ap (λ (p : Vid × Isid). p.0.value) b.is)))

-- ---- there are no more of them than I-SIDs

apart_by : {A : Type 0} (number index : A → ℕ) (xs : List A) → Ascends number xs → ((x y : A) → Has x xs → Has y xs → index x ≡ index y → number x ≡ number y) → Apart index xs
apart_by number index [] up same = tt
apart_by number index (x ∷ xs) up same = (
  has_all (λ y. index x ≢ index y) xs (λ y h e. let less = all_has (λ z. number x < number z) y xs up.0 h in absurd (omega (arith, less, same x y (inl refl) (inr h) e))),
  apart_by number index xs up.1 (λ y z h i e. same y z (inr h) (inr i) e),
)

pub services_are_few : (x : SystemId) (ms : List Member) → AreInOneVid ms → length (merged x ms) ≤ length (isids_in ms)
services_are_few x ms one =
    let paired = merged_paired x ms in
    let own = paired_one_vid (merged x ms) ms paired one in
    length-within (λ (m : Member). m.isid.value) isid_number (merged x ms) (isids_in ms)
    (apart_by service_number (λ (m : Member). m.isid.value) (merged x ms) (merged_ascends x ms) (λ m n h i e. let vids = in_one_vid m n (merged x ms) own h i e in omega (arith, vids, e)))
    (λ m h.
    let n = paired m h in
    subst (λ k. Numbered isid_number k (isids_in ms)) (sym (ap (λ (p : Vid × Isid). p.1.value) n.is)) (attached_isid n.item ms n.has))

-- ---- what is written of attached members is that of the members that they make a system

pub merged_attached : (x : SystemId) (ms : List Member) → AllByRecursion IsAttached ms → AllByRecursion IsAttached (merged x ms)
merged_attached x ms each = paired_attached (merged x ms) ms (merged_paired x ms) each

pub merged_few : (x : SystemId) (ms : List Member) → AllByRecursion IsAttached ms → length (isids_in ms) ≤ 60 → length (isids_in (merged x ms)) ≤ 60
merged_few x ms each few =
    subst (λ (is : List Isid). length is ≤ 60) (isids_same ms (merged x ms) (covered_paired ms (merged x ms) (covered_attached x ms each)) (merged_paired x ms)) few

pub merged_put : {E : Type 0} (l : Local) (ms slice : List Member) (before after : List ℕ) (r : Result (Unit {0}) E) → AllByRecursion IsAttached ms → slice ≡ merged l.config.id.system ms
    → OnOk r (after ≡ before ++ service_tlvs (record l { attached = slice })) → OnOk r (after ≡ before ++ service_tlvs (record l { attached = ms }))
merged_put l ms slice before after (Ok u) each is put =
    let x : SystemId = l.config.id.system in
    put ∙ ap (λ tlvs. before ++ tlvs) (ap (λ (ns : List Member). service_tlvs (record l { attached = ns })) is ∙ tlvs_same l (merged x ms) ms (attached_covered x ms each) (covered_attached x ms each))
merged_put l ms slice before after (Err e) each is put = tt

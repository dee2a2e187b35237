-- Parts of the own content.
use Rattle.std.proofs.Common.{◌≡◌, ℕ, zero, suc, ◌+◌, ◌-◌, ◌/◌, ◌≤◌, ◌<◌, List, [], ◌∷◌, ◌++◌, length, take, drop, min, map, refl, sym, ap, ◌∙◌, subst, arith}
use Rattle.std.specs.List.{AllByRecursion}
use Rattle.std.proofs.lemmas.List.{length-drop, length-map, append-nil, append_assoc, append_cancel_left, nil_from_length, take_min, take-append-drop}
use Rattle.std.proofs.Math.Seq.{take-append_seam}
use Rattle.std.proofs.lemmas.List.Elements.{All-from_recursion}
use Rattle.spb_types.specs.Ascending.{ascending}
use Rattle.spb_types.specs.declared.service.SourceId.{SourceId}
use Rattle.spb_types.specs.declared.service.VidPlan.{VidPlan}
use Rattle.spb_types.specs.declared.service.Isid.{Isid}
use Rattle.spb_types.specs.declared.service.Vid.{Vid}
use Rattle.spb_types.specs.declared.graph.Member.{Member}
use Rattle.spb_tlvs.specs.declared.neighbours.Neighbour.{Neighbour}
use Rattle.spb_tlvs.specs.Tlv.{tlv}
use Rattle.spb_tlvs.specs.Neighbour.{neighbours_value}
use Rattle.spb_tlvs.specs.Capability.{IsInst, IsTree, IsService, IsServices}
use Rattle.spb_tlvs.specs.declared.capability.Service.{Service}
use Rattle.spb_content.specs.Local.{neighbour_tlvs, plan_number, vid_number, isid_number, vids_in, isids_in, in_vid, services_in, service_among, IsAttached}
use Rattle.spb_content.proofs.Members.{Has, all_has, has_all, has_map, map_has, filter_has}
use Rattle.spb_content.proofs.Ascended.{ascending_ascends, has_ascending, numbered_ascending, Numbered}
use Rattle.spb_content.proofs.Kept.{all_ascending, length-ascending, length-within, apart_ascends}
use Rattle.spb_types.specs.declared.limits.TheConstants.{GREATEST_ISID, GREATEST_VID, MOST_VIDS, SOURCE_IDS}

-- how many TLVs neighbours take: one for the first 13, and those of the others
count_more : (n : ℕ) → 0 < n → (n + 12) / 13 ≡ suc ((n - 13 + 12) / 13)
count_more n h = omega arith

pub neighbour_tlvs-cut : (ns : List Neighbour) → 0 < length ns → neighbour_tlvs ns ≡ tlv 22 (neighbours_value (take 13 ns)) ++ neighbour_tlvs (drop 13 ns)
neighbour_tlvs-cut ns h = rw (count_more (length ns) h, length-drop) refl

pub is_inst : (source : SourceId) (plans : List VidPlan) → source.value < SOURCE_IDS → length plans ≤ MOST_VIDS → AllByRecursion IsTree plans → IsInst source (ascending plan_number plans)
is_inst source plans high few each = record {
  source_high = high;
  few = omega (arith, length-ascending plan_number plans, few);
  each = All-from_recursion IsTree _ (all_ascending IsTree plan_number plans each);
}

pub all_drop : {A : Type 0} (P : A → Type 0) (k : ℕ) (xs : List A) → AllByRecursion P xs → AllByRecursion P (drop k xs)
all_drop P zero xs all = all
all_drop P (suc k) [] all = tt
all_drop P (suc k) (x ∷ xs) all = all_drop P k xs all.1

-- the first 13 at most, as they are cut off
cut_front : (ns few rest : List Neighbour) → ns ≡ few ++ rest → length few ≡ min 13 (length ns) → (few ≡ take 13 ns) × (rest ≡ drop 13 ns)
cut_front ns few rest is size =
    let front : take 13 ns ≡ few = sym (take_min 13 ns) ∙ ap (λ k. take k ns) (sym size) ∙ ap (λ (ms : List Neighbour). take (length few) ms) is ∙ take-append_seam few rest in
    (sym front, sym (append_cancel_left few (drop 13 ns) rest (ap (λ (ms : List Neighbour). ms ++ drop 13 ns) (sym front) ∙ take-append-drop 13 ns ∙ is)))

-- the TLVs so far, and those of the neighbours that are left, whose metrics can be written
pub record Cut (before : List ℕ) (whole ns : List Neighbour) (out : List ℕ) : Type 0 where
  pub so_far : out ++ neighbour_tlvs ns ≡ before ++ neighbour_tlvs whole
  pub metrics : AllByRecursion (λ n. n.metric < 16777216) ns

pub cut_more : (before out new : List ℕ) (whole few rest ns : List Neighbour) → Cut before whole ns out → ns ≡ few ++ rest → length few ≡ min 13 (length ns) → 0 < length ns → new ≡ out ++ tlv 22 (neighbours_value few) → Cut before whole rest new
cut_more before out new whole few rest ns cut is size some more =
    let at = cut_front ns few rest is size in
    let step : neighbour_tlvs ns ≡ tlv 22 (neighbours_value few) ++ neighbour_tlvs rest = neighbour_tlvs-cut ns some ∙ ap (λ xs. tlv 22 (neighbours_value xs) ++ neighbour_tlvs (drop 13 ns)) (sym at.0) ∙ ap (λ xs. tlv 22 (neighbours_value few) ++ neighbour_tlvs xs) (sym at.1) in
    record {
      so_far = ap (λ xs. xs ++ neighbour_tlvs rest) more ∙ append_assoc out _ _ ∙ ap (λ xs. out ++ xs) (sym step) ∙ cut.so_far;
      metrics = subst (λ ms. AllByRecursion (λ n. n.metric < 16777216) ms) (sym at.1) (all_drop _ 13 ns cut.metrics);
    }

pub cut_all : (before out : List ℕ) (whole rest : List Neighbour) → Cut before whole rest out → length rest ≡ 0 → out ≡ before ++ neighbour_tlvs whole
cut_all before out whole rest cut none =
    sym (append-nil out) ∙ ap (λ ns. out ++ neighbour_tlvs ns) (sym (nil_from_length rest none)) ∙ cut.so_far

-- ---- services

-- a base VID that has an attached I-SID is the VID of an attached port
pub attached_in : (vid : Vid) (attached : List Member) → Has vid (vids_in attached) → (m : Member) × Has m attached × (vid ≡ m.vid)
attached_in vid attached h = map_has (λ m. m.vid) vid attached (has_ascending vid_number vid (map (λ m. m.vid) attached) h)

-- each I-SID of `isids_in` is that of an attached port, and the other way
pub isid_attached : (isid : Isid) (attached : List Member) → Has isid (isids_in attached) → (m : Member) × Has m attached × (isid ≡ m.isid)
isid_attached isid attached h = map_has (λ m. m.isid) isid attached (has_ascending isid_number isid (map (λ m. m.isid) attached) h)

pub attached_isid : (m : Member) (attached : List Member) → Has m attached → Numbered isid_number m.isid.value (isids_in attached)
attached_isid m attached h =
    numbered_ascending isid_number m.isid.value (map (λ n. n.isid) attached) (record { item = m.isid; has = has_map (λ n. n.isid) m attached h; is = refl })

-- there are no more I-SIDs in one base VID than in all
isids_within : (vid : Vid) (attached : List Member) → length (isids_in (in_vid vid attached)) ≤ length (isids_in attached)
isids_within vid attached =
    length-within isid_number isid_number (isids_in (in_vid vid attached)) (isids_in attached)
    (apart_ascends isid_number _ (ascending_ascends isid_number (map (λ m. m.isid) (in_vid vid attached))))
    (λ isid h. let s = isid_attached isid (in_vid vid attached) h in
    subst (λ n. Numbered isid_number n (isids_in attached)) (ap isid_number (sym s.2)) (attached_isid s.0 attached (filter_has _ s.0 attached s.1).0))

pub is_services : (vid : Vid) (attached : List Member) → AllByRecursion IsAttached attached → length (isids_in attached) ≤ 60 → Has vid (vids_in attached) → IsServices vid (services_in vid attached)
is_services vid attached each few h =
    let a = attached_in vid attached h in
    let at : IsAttached a.0 = all_has IsAttached a.0 attached each a.1 in
    record {
      low = subst (λ (v : Vid). 1 ≤ v.value) (sym a.2) at.vid_low;
      high = subst (λ (v : Vid). v.value ≤ GREATEST_VID) (sym a.2) at.vid_high;
      few = omega (arith, few, isids_within vid attached, length-map (isids_in (in_vid vid attached)) (service_among (in_vid vid attached)));
      each = All-from_recursion IsService _ (has_all IsService (services_in vid attached) one);
    }
  where
    isid_is : (isid : Isid) → Has isid (isids_in (in_vid vid attached)) → (1 ≤ isid.value) × (isid.value ≤ GREATEST_ISID)
    isid_is isid i =
        let s = isid_attached isid (in_vid vid attached) i in
        let at : IsAttached s.0 = all_has IsAttached s.0 attached each (filter_has _ s.0 attached s.1).0 in
        (subst (λ (j : Isid). 1 ≤ j.value) (sym s.2) at.isid_low, subst (λ (j : Isid). j.value ≤ GREATEST_ISID) (sym s.2) at.isid_high)

    one : (s : Service) → Has s (services_in vid attached) → IsService s
    one s i =
        let o = map_has (service_among (in_vid vid attached)) s (isids_in (in_vid vid attached)) i in
        let is = isid_is o.0 o.1 in
        subst (λ (t : Service). IsService t) (sym o.2) (record { low = is.0; high = is.1 })

pub all_take : {A : Type 0} (P : A → Type 0) (k : ℕ) (xs : List A) → AllByRecursion P xs → AllByRecursion P (take k xs)
all_take P zero xs all = tt
all_take P (suc k) [] all = tt
all_take P (suc k) (x ∷ xs) all = (all.0, all_take P k xs all.1)

-- four texts behind one, one after another
pub put_all : (old a b c d one two three all : List ℕ) → one ≡ old ++ a → two ≡ one ++ b → three ≡ two ++ c → all ≡ three ++ d → all ≡ old ++ (((a ++ b) ++ c) ++ d)
put_all old a b c d one two three all first second third fourth =
    fourth ∙ ap (λ xs. xs ++ d) (third ∙ ap (λ xs. xs ++ c) (second ∙ ap (λ xs. xs ++ b) first ∙ append_assoc old a b) ∙ append_assoc old (a ++ b) c)
    ∙ append_assoc old ((a ++ b) ++ c) d

-- Services in order are said in that order: base VID by base VID, and I-SID by I-SID.
use Rattle.std.specs.Prelude.{◌≡◌, ◌⊎◌, ℕ, ◌<◌, ◌≤◌, Bool, true, false, ◌&&◌, ◌||◌, List, [], ◌∷◌, ◌++◌, map, flat_map, ◌==◌}
use Rattle.std.proofs.Common.{cond, refl, sym, ap, subst, ◌∙◌, inl, inr, arith}
use Rattle.std.proofs.lemmas.Bool.{eqb-true, eq-eqb, and_parts, and_from}
use Rattle.std.specs.List.{AllByRecursion, list_any}
use Rattle.spb_types.specs.Ascending.{Ascends}
use Rattle.spb_types.specs.declared.address.Mac.{Mac}
use Rattle.spb_types.specs.declared.graph.Member.{Member}
use Rattle.spb_types.specs.declared.service.Isid.{Isid}
use Rattle.spb_types.specs.declared.service.Vid.{Vid}
use Rattle.spb_types.specs.declared.limits.TheConstants.{GREATEST_ISID}
use Rattle.spb_tlvs.specs.declared.capability.Service.{Service}
use Rattle.spb_tlvs.specs.declared.capability.Capability.TheVariants.{Services}
use Rattle.spb_content.specs.declared.local.Local.{Local}
use Rattle.spb_content.specs.Local.{IsAttached, vid_number, isid_number, vids_in, isids_in, in_vid, services_in, service_among, said_service, is_of_isid, own_mac, capability_tlv, service_tlvs}
use Rattle.spb_content.specs.Members.{pair_number}
use Rattle.spb_content.proofs.Members.{Has, all_has, has_all, has_map, map_has, has_filter, filter_has, has_flat_map, flat_map_has, has_parts}
use Rattle.spb_content.proofs.Ascended.{ascending_ascends, numbered_ascending, ascends_once}
use Rattle.spb_content.proofs.Written.{isid_attached, attached_isid}
use Rattle.spb_content.proofs.AnyOrder.{group, listing, flat_map_agree}
use Rattle.spb_content.specs.Folding.{service_number}
use Rattle.spb_content.proofs.Covered.{has_any, any_same}
use Rattle.spb_content.proofs.Merged.{ascends_mapped, ascending_again, one_item, map_same, map_map}

-- a member as it is said
abbrev pub listed : Mac → Member → Mac × Vid × Service
listed mac m = (mac, m.vid, said_service m)

-- the number of what is said
abbrev place : Mac × Vid × Service → ℕ
place x = pair_number (x.1, x.2.isid)

ascends_append : {A : Type 0} (number : A → ℕ) (xs ys : List A) → Ascends number xs → Ascends number ys → ((x y : A) → Has x xs → Has y ys → number x < number y) → Ascends number (xs ++ ys)
ascends_append number [] ys p q less = q
ascends_append number (x ∷ xs) ys p q less =
    (has_all (λ z. number x < number z) (xs ++ ys) (λ z h. by z (has_parts z xs ys h)), ascends_append number xs ys p.1 q (λ a b h i. less a b (inr h) i))
  where
    by : (z : _) → Has z xs ⊎ Has z ys → number x < number z
    by z (inl h) = all_has (λ w. number x < number w) z xs p.0 h
    by z (inr h) = less x z (inl refl) h

-- ---- the groups

-- an item of a group: its VID, and an attached I-SID
record InGroup (mac : Mac) (ms : List Member) (v : Vid) (x : Mac × Vid × Service) : Type 0 where
  member : Member
  has : Has member ms
  vid : member.vid.value ≡ v.value
  is : x ≡ (mac, v, service_among (in_vid v ms) member.isid)

in_group : (mac : Mac) (ms : List Member) (v : Vid) (x : Mac × Vid × Service) → Has x (group mac ms v) → InGroup mac ms v x
in_group mac ms v x h =
    let s = map_has (λ s. (mac, v, s)) x (services_in v ms) h in
    let i = map_has (service_among (in_vid v ms)) s.0 (isids_in (in_vid v ms)) s.1 in
    let m = isid_attached i.0 (in_vid v ms) i.1 in
    let f = filter_has (λ (n : Member). n.vid.value == v.value) m.0 ms m.1 in
    record {
      member = m.0;
      has = f.0;
      vid = eqb-true m.0.vid.value v.value f.1;
      is = s.2 ∙ ap (λ (t : Service). (mac, v, t)) (i.2 ∙ ap (service_among (in_vid v ms)) m.2);
    }

-- in an ascending list each member is its service alone
one_serves : (does : Member → Bool) (ms : List Member) (v : Vid) (m : Member) → Ascends service_number ms → Has m ms → m.vid.value ≡ v.value → list_any (λ n. is_of_isid m.isid n && does n) (in_vid v ms) ≡ does m
one_serves does ms v m up h vid =
    any_same (λ n. is_of_isid m.isid n && does n) does (in_vid v ms) (m ∷ []) to back ∙ only (does m)
  where
    only : (b : Bool) → (b || false) ≡ b
    only true = refl
    only false = refl

    to : (n : Member) → Has n (in_vid v ms) → (is_of_isid m.isid n && does n) ≡ true → (does m || false) ≡ true
    to n i e =
        let parts = and_parts (is_of_isid m.isid n) (does n) e in
        let f = filter_has (λ (n : Member). n.vid.value == v.value) n ms i in
        let isids : n.isid.value ≡ m.isid.value = eqb-true n.isid.value m.isid.value parts.0 in
        let vids : n.vid.value ≡ v.value = eqb-true n.vid.value v.value f.1 in
        let same : n ≡ m = one_item service_number ms n m up f.0 h (omega (arith, isids, vids, vid)) in
        only (does m) ∙ (ap does (sym same) ∙ parts.1)

    back : (n : Member) → Has n (m ∷ []) → does n ≡ true → list_any (λ k. is_of_isid m.isid k && does k) (in_vid v ms) ≡ true
    back n (inl i) e =
        has_any (λ k. is_of_isid m.isid k && does k) m (in_vid v ms) (has_filter (λ (n : Member). n.vid.value == v.value) m ms h (eq-eqb m.vid.value v.value vid))
        (and_from (is_of_isid m.isid m) (does m) (eq-eqb m.isid.value m.isid.value refl) (ap does (sym i) ∙ e))
    back n (inr i) e = absurd i

service_alone : (ms : List Member) (v : Vid) (m : Member) → Ascends service_number ms → Has m ms → m.vid.value ≡ v.value → service_among (in_vid v ms) m.isid ≡ said_service m
service_alone ms v m up h vid =
    let t = one_serves (λ n. n.transmit) ms v m up h vid in
    let r = one_serves (λ n. n.receive) ms v m up h vid in
    λ i. record { isid = m.isid; transmit = t i; receive = r i }

small : (ms : List Member) (m : Member) → AllByRecursion IsAttached ms → Has m ms → m.isid.value ≤ GREATEST_ISID
small ms m each h = (all_has IsAttached m ms each h).isid_high

group_small : (mac : Mac) (ms : List Member) (v : Vid) (x : Mac × Vid × Service) → AllByRecursion IsAttached ms → Has x (group mac ms v) → (x.2.isid.value ≤ GREATEST_ISID) × (x.1.value ≡ v.value)
group_small mac ms v x each h =
    let g = in_group mac ms v x h in
    let isid = ap (λ (y : Mac × Vid × Service). y.2.isid.value) g.is in
    (omega (arith, isid, small ms g.member each g.has), ap (λ (y : Mac × Vid × Service). y.1.value) g.is)

group_ascends : (mac : Mac) (ms : List Member) (v : Vid) → Ascends place (group mac ms v)
group_ascends mac ms v =
    let isids : List Isid = isids_in (in_vid v ms) in
    let up : Ascends isid_number isids = ascending_ascends isid_number (map (λ m. m.isid) (in_vid v ms)) in
    let services : Ascends (λ (s : Service). s.isid.value) (services_in v ms) = ascends_mapped isid_number (λ (s : Service). s.isid.value) (service_among (in_vid v ms)) isids (λ x y h i less. less) up in
    ascends_mapped (λ (s : Service). s.isid.value) place (λ s. (mac, v, s)) (services_in v ms) (λ x y h i less. omega (arith, less)) services

groups_ascend : (mac : Mac) (ms : List Member) (vs : List Vid) → AllByRecursion IsAttached ms → Ascends vid_number vs → Ascends place (flat_map (group mac ms) vs)
groups_ascend mac ms [] each p = tt
groups_ascend mac ms (v ∷ vs) each p =
    ascends_append place (group mac ms v) (flat_map (group mac ms) vs) (group_ascends mac ms v) (groups_ascend mac ms vs each p.1) (λ x y h i.
    let w = flat_map_has (group mac ms) y vs i in
    let here = group_small mac ms v x each h in
    let there = group_small mac ms w.0 y each w.2 in
    let less = all_has (λ u. vid_number v < vid_number u) w.0 vs p.0 w.1 in
    omega (arith, here.0, here.1, there.1, less))

-- ---- the items

vid_is : (x y : Vid) → x.value ≡ y.value → x ≡ y
vid_is x y e = λ i. record { value = e i }

isid_is : (x y : Isid) → x.value ≡ y.value → x ≡ y
isid_is x y e = λ i. record { value = e i }

from_listing : (mac : Mac) (ms : List Member) (x : Mac × Vid × Service) → Ascends service_number ms → Has x (listing mac ms) → Has x (map (listed mac) ms)
from_listing mac ms x up h =
    let w = flat_map_has (group mac ms) x (vids_in ms) h in
    let g = in_group mac ms w.0 x w.2 in
    let alone : service_among (in_vid w.0 ms) g.member.isid ≡ said_service g.member = service_alone ms w.0 g.member up g.has g.vid in
    subst (λ y. Has y (map (listed mac) ms))
    (sym (g.is ∙ (ap (λ (s : Service). (mac, w.0, s)) alone ∙ ap (λ (v : Vid). (mac, v, said_service g.member)) (vid_is w.0 g.member.vid (sym g.vid)))))
    (has_map (listed mac) g.member ms g.has)

to_listing : (mac : Mac) (ms : List Member) (x : Mac × Vid × Service) → Ascends service_number ms → Has x (map (listed mac) ms) → Has x (listing mac ms)
to_listing mac ms x up h =
    let m = map_has (listed mac) x ms h in
    let v : Vid = m.0.vid in
    let vid = numbered_ascending vid_number v.value (map (λ n. n.vid) ms) (record { item = v; has = has_map (λ n. n.vid) m.0 ms m.1; is = refl }) in
    let there : Has v (vids_in ms) = subst (λ w. Has w (vids_in ms)) (vid_is vid.item v vid.is) vid.has in
    let among : Has m.0 (in_vid v ms) = has_filter (λ (n : Member). n.vid.value == v.value) m.0 ms m.1 (eq-eqb v.value v.value refl) in
    let isid = attached_isid m.0 (in_vid v ms) among in
    let here : Has m.0.isid (isids_in (in_vid v ms)) = subst (λ i. Has i (isids_in (in_vid v ms))) (isid_is isid.item m.0.isid isid.is) isid.has in
    let service : Has (said_service m.0) (services_in v ms) =
    subst (λ s. Has s (services_in v ms)) (service_alone ms v m.0 up m.1 refl) (has_map (service_among (in_vid v ms)) m.0.isid (isids_in (in_vid v ms)) here) in
    let in_it : Has (listed mac m.0) (group mac ms v) = has_map (λ s. (mac, v, s)) (said_service m.0) (services_in v ms) service in
    subst (λ y. Has y (listing mac ms)) (sym m.2) (has_flat_map (group mac ms) v (listed mac m.0) (vids_in ms) there in_it)

pub listed_again : (mac : Mac) (ms : List Member) → Ascends service_number ms → AllByRecursion IsAttached ms → listing mac ms ≡ map (listed mac) ms
listed_again mac ms up each =
    ascends_once place (listing mac ms) (map (listed mac) ms)
    (groups_ascend mac ms (vids_in ms) each (ascending_ascends vid_number (map (λ m. m.vid) ms)))
    (ascends_mapped service_number place (listed mac) ms (λ x y h i less. less) up)
    (λ x h. from_listing mac ms x up h) (λ x h. to_listing mac ms x up h)

-- ---- the services of ascending members in one base VID

in_vid_ascends : (v : Vid) (ms : List Member) → Ascends service_number ms → Ascends service_number (in_vid v ms)
in_vid_ascends v [] up = tt
in_vid_ascends v (m ∷ ms) up = at (m.vid.value == v.value) (in_vid_ascends v ms up.1)
  where
    at : (b : Bool) → Ascends service_number (in_vid v ms) → Ascends service_number (cond b (m ∷ in_vid v ms) (in_vid v ms))
    at true h = (has_all (λ n. service_number m < service_number n) (in_vid v ms) (λ n i. all_has (λ k. service_number m < service_number k) n ms up.0 (filter_has (λ (k : Member). k.vid.value == v.value) n ms i).0), h)
    at false h = h

isids_ascend : (v : Vid) (ms : List Member) → Ascends service_number ms → Ascends isid_number (map (λ m. m.isid) (in_vid v ms))
isids_ascend v ms up = ascends_mapped service_number isid_number (λ (m : Member). m.isid) (in_vid v ms) (λ m n h i less. by m n h i less) (in_vid_ascends v ms up)
  where
    vid : (m : Member) → Has m (in_vid v ms) → m.vid.value ≡ v.value
    vid m h = eqb-true m.vid.value v.value (filter_has (λ (k : Member). k.vid.value == v.value) m ms h).1

    by : (m n : Member) → Has m (in_vid v ms) → Has n (in_vid v ms) → service_number m < service_number n → m.isid.value < n.isid.value
    by m n h i less = omega (arith, less, vid m h, vid n i)

-- are those members, each as its service
pub services_alone : (v : Vid) (ms : List Member) → Ascends service_number ms → services_in v ms ≡ map said_service (in_vid v ms)
services_alone v ms up =
    ap (map (service_among (in_vid v ms))) (ascending_again isid_number (map (λ m. m.isid) (in_vid v ms)) (isids_ascend v ms up))
    ∙ (map_map (service_among (in_vid v ms)) (λ (m : Member). m.isid) (in_vid v ms)
    ∙ map_same (λ (m : Member). service_among (in_vid v ms) m.isid) said_service (in_vid v ms) (λ m h. (let f = filter_has (λ (k : Member). k.vid.value == v.value) m ms h in service_alone ms v m up f.0 (eqb-true m.vid.value v.value f.1))))

-- so are they written
pub alone_written : (l : Local) (ms : List Member) → Ascends service_number ms → flat_map (λ v. capability_tlv (Services (own_mac l) v (map said_service (in_vid v ms)))) (vids_in ms) ≡ service_tlvs (record l { attached = ms })
alone_written l ms up =
    flat_map_agree (λ v. capability_tlv (Services (own_mac l) v (map said_service (in_vid v ms)))) (λ v. capability_tlv (Services (own_mac l) v (services_in v ms))) (vids_in ms)
    (λ v. ap (λ (ss : List Service). capability_tlv (Services (own_mac l) v ss)) (sym (services_alone v ms up)))

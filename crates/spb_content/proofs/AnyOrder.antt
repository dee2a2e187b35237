-- What is said doesn't depend on the order of VIDs and attached ports.
use Rattle.std.proofs.Common.{◌≡◌, Bool, true, List, [], ◌∷◌, ◌++◌, map, flat_map, Some, refl, sym, ap, ◌∙◌, subst}
use Rattle.std.specs.Prelude.{◌==◌, Contains}
use Rattle.spb_types.specs.Ascending.{ascending}
use Rattle.spb_types.specs.Service.{AreVidsApart}
use Rattle.spb_types.specs.declared.address.Mac.{Mac}
use Rattle.spb_types.specs.declared.graph.Member.{Member}
use Rattle.spb_types.specs.declared.service.Isid.{Isid}
use Rattle.spb_types.specs.declared.service.Vid.{Vid}
use Rattle.spb_types.specs.declared.service.VidPlan.{VidPlan}
use Rattle.spb_tlvs.specs.declared.capability.Service.{Service}
use Rattle.spb_tlvs.specs.declared.capability.Capability.TheVariants.{Services}
use Rattle.spb_content.specs.declared.local.Local.{Local}
use Rattle.spb_content.specs.Local.{own_mac, trees_of, vids_in, isids_in, in_vid, service_tlvs, capability_tlv, services_in, service_among, is_of_isid, plan_number, vid_number, isid_number, said_by}
use Rattle.spb_content.specs.Members.{pair_of}
use Rattle.spb_content.specs.Laws.{OrderSaysNothingOfContent}
use Rattle.spb_content.proofs.Members.{Has, has_map, has_filter, filter_has, has_from_contains, contains_from_has}
use Rattle.spb_content.proofs.Ascended.{ascending_ascends, has_ascending, numbered_ascending, ascends_once}
use Rattle.spb_content.proofs.Sorted.{one_plan}
use Rattle.spb_content.proofs.Covered.{ArePaired, IsDone, AreCovered, Within, sends, takes, covered_paired, within_covered, do_the_same}
use Rattle.spb_content.proofs.Merged.{map_same}
use Rattle.spb_content.proofs.Written.{attached_in, isid_attached, attached_isid}

within : {A : Type 0} (xs ys : List A) → ((x : A) → Contains xs x → Contains ys x) → Within xs ys
within xs ys f x h = has_from_contains x ys (f x (contains_from_has x xs h))

trees_within : (ps qs : List VidPlan) → AreVidsApart qs → Within ps qs → Within (ascending plan_number ps) (ascending plan_number qs)
trees_within ps qs apart f p h =
    let i = f p (has_ascending plan_number p ps h) in
    let n = numbered_ascending plan_number p.vid.value qs (record { item = p; has = i; is = refl }) in
    subst (λ q. Has q (ascending plan_number qs)) (one_plan n.item p qs apart (has_ascending plan_number n.item qs n.has) i n.is) n.has

vids_within : (ms ns : List Member) → ArePaired ms ns → Within (vids_in ms) (vids_in ns)
vids_within ms ns f v h =
    let a = attached_in v ms h in
    let b = f a.0 a.1 in
    let n = numbered_ascending vid_number b.item.vid.value (map (λ m. m.vid) ns) (record { item = b.item.vid; has = has_map (λ m. m.vid) b.item ns b.has; is = refl }) in
    let same : n.item ≡ v = ap (λ k. record { value = k }) (n.is ∙ sym (ap (λ (p : Vid × Isid). p.0.value) b.is) ∙ ap vid_number (sym a.2)) in
    subst (λ w. Has w (vids_in ns)) same n.has

isids_within : (ms ns : List Member) → ArePaired ms ns → Within (isids_in ms) (isids_in ns)
isids_within ms ns f i h =
    let a = isid_attached i ms h in
    let b = f a.0 a.1 in
    let n = attached_isid b.item ns b.has in
    let same : n.item ≡ i = ap (λ k. record { value = k }) (n.is ∙ sym (ap (λ (p : Vid × Isid). p.1.value) b.is) ∙ ap isid_number (sym a.2)) in
    subst (λ j. Has j (isids_in ns)) same n.has

kept_here : (v : Vid) (m n : Member) → pair_of m ≡ pair_of n → (m.vid.value == v.value) ≡ true → (n.vid.value == v.value) ≡ true
kept_here v m n is e = sym (ap (λ (p : Vid × Isid). p.0.value == v.value) is) ∙ e

done_here : (does : Member → Bool) (v : Vid) (m : Member) (ns : List Member) → (m.vid.value == v.value) ≡ true → IsDone does m ns → IsDone does m (in_vid v ns)
done_here does v m ns here d =
    record { item = d.item; has = has_filter (λ n. n.vid.value == v.value) d.item ns d.has (kept_here v m d.item d.is here); is = d.is; done = d.done }

in_vid_covered : (v : Vid) (ms ns : List Member) → AreCovered ms ns → AreCovered (in_vid v ms) (in_vid v ns)
in_vid_covered v ms ns f m h =
    let k = filter_has (λ n. n.vid.value == v.value) m ms h in
    let c = f m k.0 in
    record {
      paired = record { item = c.paired.item; has = has_filter (λ n. n.vid.value == v.value) c.paired.item ns c.paired.has (kept_here v m c.paired.item c.paired.is k.1); is = c.paired.is };
      sends = λ e. done_here sends v m ns k.1 (c.sends e);
      takes = λ e. done_here takes v m ns k.1 (c.takes e);
    }

pub isids_same : (ms ns : List Member) → ArePaired ms ns → ArePaired ns ms → isids_in ms ≡ isids_in ns
isids_same ms ns f g =
    ascends_once isid_number (isids_in ms) (isids_in ns) (ascending_ascends isid_number (map (λ m. m.isid) ms)) (ascending_ascends isid_number (map (λ m. m.isid) ns)) (isids_within ms ns f) (isids_within ns ms g)

service_same : (ms ns : List Member) (isid : Isid) → AreCovered ms ns → AreCovered ns ms → service_among ms isid ≡ service_among ns isid
service_same ms ns isid f g =
    let same = do_the_same (is_of_isid isid) ms ns (λ m n is e. sym (ap (λ (p : Vid × Isid). p.1.value == isid.value) is) ∙ e) f g in
    λ i. record { isid = isid; transmit = same.sends i; receive = same.takes i }

services_same : (v : Vid) (ms ns : List Member) → AreCovered ms ns → AreCovered ns ms → services_in v ms ≡ services_in v ns
services_same v ms ns f g =
    let to = in_vid_covered v ms ns f in
    let back = in_vid_covered v ns ms g in
    ap (map (service_among (in_vid v ms))) (isids_same (in_vid v ms) (in_vid v ns) (covered_paired (in_vid v ms) (in_vid v ns) to) (covered_paired (in_vid v ns) (in_vid v ms) back))
    ∙ map_same (service_among (in_vid v ms)) (service_among (in_vid v ns)) (isids_in (in_vid v ns)) (λ isid h. service_same (in_vid v ms) (in_vid v ns) isid to back)

vids_same : (ms ns : List Member) → ArePaired ms ns → ArePaired ns ms → vids_in ms ≡ vids_in ns
vids_same ms ns f g =
    ascends_once vid_number (vids_in ms) (vids_in ns) (ascending_ascends vid_number (map (λ m. m.vid) ms)) (ascending_ascends vid_number (map (λ m. m.vid) ns)) (vids_within ms ns f) (vids_within ns ms g)

pub flat_map_agree : {X Y : Type 0} (f g : X → List Y) (xs : List X) → ((x : X) → f x ≡ g x) → flat_map f xs ≡ flat_map g xs
flat_map_agree f g [] e = refl
flat_map_agree f g (x ∷ xs) e = ap (λ ys. ys ++ flat_map f xs) (e x) ∙ ap (λ ys. g x ++ ys) (flat_map_agree f g xs e)

-- the services of a group of members, as they are said
abbrev pub group : Mac → List Member → Vid → List (Mac × Vid × Service)
group mac ms v = map (λ s. (mac, v, s)) (services_in v ms)

-- what is said of some members
abbrev pub listing : Mac → List Member → List (Mac × Vid × Service)
listing mac ms = flat_map (group mac ms) (vids_in ms)

-- it doesn't depend on their order, nor on how often one stands there
pub listing_same : (mac : Mac) (ms ns : List Member) → AreCovered ms ns → AreCovered ns ms → listing mac ms ≡ listing mac ns
listing_same mac ms ns f g =
    flat_map_agree (group mac ms) (group mac ns) (vids_in ms) (λ v. ap (λ (ss : List Service). map (λ s. (mac, v, s)) ss) (services_same v ms ns f g))
    ∙ ap (flat_map (group mac ns)) (vids_same ms ns (covered_paired ms ns f) (covered_paired ns ms g))

-- nor do the TLVs
pub tlvs_same : (l : Local) (ms ns : List Member) → AreCovered ms ns → AreCovered ns ms → service_tlvs (record l { attached = ms }) ≡ service_tlvs (record l { attached = ns })
tlvs_same l ms ns f g =
    flat_map_agree (λ v. capability_tlv (Services (own_mac l) v (services_in v ms))) (λ v. capability_tlv (Services (own_mac l) v (services_in v ns))) (vids_in ms)
    (λ v. ap (λ (ss : List Service). capability_tlv (Services (own_mac l) v ss)) (services_same v ms ns f g))
    ∙ ap (flat_map (λ v. capability_tlv (Services (own_mac l) v (services_in v ns)))) (vids_same ms ns (covered_paired ms ns f) (covered_paired ns ms g))

pub order_says_nothing : OrderSaysNothingOfContent
order_says_nothing l m h k like =
    let to : Within l.attached m.attached = within l.attached m.attached (λ a. (like.attached a).0) in
    let from : Within m.attached l.attached = within m.attached l.attached (λ a. (like.attached a).1) in
    let plans_to : Within l.config.vids m.config.vids = within l.config.vids m.config.vids (λ p. (like.vids p).0) in
    let plans_from : Within m.config.vids l.config.vids = within m.config.vids l.config.vids (λ p. (like.vids p).1) in
    let trees : trees_of l ≡ trees_of m =
    ascends_once plan_number (trees_of l) (trees_of m) (ascending_ascends plan_number l.config.vids) (ascending_ascends plan_number m.config.vids)
    (trees_within l.config.vids m.config.vids k.vids_apart plans_to) (trees_within m.config.vids l.config.vids h.vids_apart plans_from) in
    let mac : own_mac l ≡ own_mac m = ap (λ i. i.system.mac) like.id in
    let services : (said_by l).services ≡ (said_by m).services =
    listing_same (own_mac l) l.attached m.attached (within_covered l.attached m.attached to) (within_covered m.attached l.attached from)
    ∙ ap (λ (c : Mac). listing c m.attached) mac in
    let priority = ap (λ i. i.priority) like.id in
    λ i. record {
      inst = Some (record { priority = priority i; source = like.source i; trees = trees i });
      neighbours = like.neighbours i;
      services = services i;
    }

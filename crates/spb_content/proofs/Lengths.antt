-- How long the own content is, and that its TLVs are whole.
use Rattle.std.proofs.Common.{◌≡◌, ◌≢◌, ℕ, zero, suc, ◌+◌, ◌*◌, ◌/◌, ◌≤◌, ◌⊎◌, inl, inr, eqb, List, [], ◌∷◌, ◌++◌, length, take, drop, map, flat_map, refl, sym, ap, ◌∙◌, subst, arith, append_assoc, length-append}
use Rattle.std.specs.Prelude.{IsTrue}
use Rattle.std.specs.List.{AllByRecursion}
use Rattle.std.specs.Simd.{first_chunks}
use Rattle.std.proofs.lemmas.Bool.{eqb-true}
use Rattle.std.proofs.lemmas.List.{append-nil, length-map, take-append-drop}
use Rattle.spb_types.specs.declared.address.Mac.{Mac}
use Rattle.spb_types.specs.declared.graph.Member.{Member}
use Rattle.spb_types.specs.declared.service.Isid.{Isid}
use Rattle.spb_types.specs.declared.service.Vid.{Vid}
use Rattle.spb_tlvs.specs.declared.capability.Service.{Service}
use Rattle.spb_tlvs.specs.declared.capability.Capability.TheVariants.{Services}
use Rattle.spb_tlvs.specs.declared.neighbours.Neighbour.{Neighbour}
use Rattle.spb_tlvs.specs.Tlv.{tlv}
use Rattle.spb_tlvs.specs.Neighbour.{neighbour_bytes, neighbours_value}
use Rattle.spb_tlvs.specs.Capability.{capability_value}
use Rattle.spb_tlvs.specs.RoundTrip.{IsMac, IsNeighbour}
use Rattle.spb_tlvs.proofs.Written.{trees_len, services_len}
use Rattle.isis_pdu.specs.Tlvs.{is_whole, is_whole_after}
use Rattle.isis_pdu.proofs.FormatLaws.{whole_one, whole_both}
use Rattle.spb_content.specs.declared.local.Local.{Local}
use Rattle.spb_content.specs.Local.{areas, protocols, neighbour_tlvs, inst_tlv, service_tlvs, content_bytes, capability_tlv, own_mac, trees_of, vids_in, isids_in, in_vid, services_in, service_among, vid_number, isid_number, plan_number, AreInOneVid}
use Rattle.spb_content.specs.Laws.{AreConfigured, OwnFits}
use Rattle.spb_content.proofs.Members.{Has, all_has, has_all, has_parts, has_from_contains, filter_has, flat_map_has}
use Rattle.spb_content.proofs.Ascended.{ascending_ascends, Numbered}
use Rattle.spb_content.proofs.Kept.{Apart, apart_ascends, length-within, length-ascending}
use Rattle.spb_content.proofs.Written.{all_drop, all_take, isid_attached, attached_isid, attached_in}
use Rattle.spb_content.proofs.Again.{few_of, services_at, inst_at, parts}

-- ---- whole TLVs

pub whole_none : IsTrue (is_whole [])
unfolding is_whole_after
whole_none = refl

whole_more : (code : ℕ) (value rest : List ℕ) → IsTrue (is_whole rest) → IsTrue (is_whole (tlv code value ++ rest))
whole_more code value rest h = whole_both (tlv code value) rest (whole_one code value) ∙ h

pub whole_several : {X : Type 0} (code : ℕ) (f : X → List ℕ) (xs : List X) (rest : List ℕ) → IsTrue (is_whole rest) → IsTrue (is_whole (flat_map (λ x. tlv code (f x)) xs ++ rest))
whole_several code f [] rest h = h
whole_several code f (x ∷ xs) rest h =
    ap is_whole (append_assoc (tlv code (f x)) (flat_map (λ y. tlv code (f y)) xs) rest)
    ∙ whole_more code (f x) (flat_map (λ y. tlv code (f y)) xs ++ rest) (whole_several code f xs rest h)

-- ---- the neighbours: 19 bytes each, and two for each TLV

neighbour_len : (n : Neighbour) → IsMac n.system.mac → length (neighbour_bytes n) ≡ 19
neighbour_len n h = simp length-append (omega (arith, h))

pub neighbours_len : (ns : List Neighbour) → AllByRecursion IsNeighbour ns → length (neighbours_value ns) ≡ 19 * length ns
neighbours_len [] each = omega arith
neighbours_len (n ∷ ns) each = omega (arith, length-append (neighbour_bytes n) (neighbours_value ns), neighbour_len n each.0.system, neighbours_len ns each.1)

few_len : (k : ℕ) (ns : List Neighbour) → AllByRecursion IsNeighbour ns → length (flat_map (λ few. tlv 22 (neighbours_value few)) (first_chunks 13 k ns)) ≤ 2 * k + 19 * length ns
few_len zero ns each = omega arith
few_len (suc k) ns each =
    let front = neighbours_len (take 13 ns) (all_take IsNeighbour 13 ns each) in
    let back = few_len k (drop 13 ns) (all_drop IsNeighbour 13 ns each) in
    let both : length ns ≡ length (take 13 ns) + length (drop 13 ns) = ap length (sym (take-append-drop 13 ns)) ∙ length-append (take 13 ns) (drop 13 ns) in
    omega (arith, front, back, both, length-append (tlv 22 (neighbours_value (take 13 ns))) (flat_map (λ few. tlv 22 (neighbours_value few)) (first_chunks 13 k (drop 13 ns))))

-- ---- the services: 14 bytes for a base VID, and four for an I-SID

pub services_tlv_len : (mac : Mac) (v : Vid) (ss : List Service) → IsMac mac → length (capability_tlv (Services mac v ss)) ≡ 14 + 4 * length ss
services_tlv_len mac v ss h = simp length-append (omega (arith, h, services_len ss))

-- the I-SIDs of some base VIDs
isids_over : List Member → List Vid → List Isid
isids_over attached vs = flat_map (λ v. isids_in (in_vid v attached)) vs

services_len_over : (l : Local) (vs : List Vid) → IsMac (own_mac l) → length (flat_map (λ v. capability_tlv (services_at l v)) vs) ≡ 14 * length vs + 4 * length (isids_over l.attached vs)
unfolding isids_over
services_len_over l [] h = omega arith
services_len_over l (v ∷ vs) h =
    omega (
      arith,
      length-append (capability_tlv (services_at l v)) (flat_map (λ w. capability_tlv (services_at l w)) vs),
      services_tlv_len (own_mac l) v (services_in v l.attached) h,
      length-map (isids_in (in_vid v l.attached)) (service_among (in_vid v l.attached)),
      services_len_over l vs h,
      length-append (isids_in (in_vid v l.attached)) (flat_map (λ w. isids_in (in_vid w l.attached)) vs),
    )

apart_append : {A : Type 0} (number : A → ℕ) (xs ys : List A) → Apart number xs → Apart number ys → ((x y : A) → Has x xs → Has y ys → number x ≢ number y) → Apart number (xs ++ ys)
apart_append number [] ys p q cross = q
apart_append number (x ∷ xs) ys p q cross =
    (has_all _ (xs ++ ys) (λ y h. at y (has_parts y xs ys h)), apart_append number xs ys p.1 q (λ z y h i. cross z y (inr h) i))
  where
    at : (y : _) → Has y xs ⊎ Has y ys → number x ≢ number y
    at y (inl h) = all_has _ y xs p.0 h
    at y (inr h) = cross x y (inl refl) h

-- an I-SID is attached in one base VID
pub in_one_vid : (m n : Member) (ms : List Member) → AreInOneVid ms → Has m ms → Has n ms → m.isid.value ≡ n.isid.value → m.vid.value ≡ n.vid.value
in_one_vid m n [] one h i e = absurd h
in_one_vid m n (k ∷ ms) one (inl h) (inl i) e = ap (λ (q : Member). q.vid.value) (h ∙ sym i)
in_one_vid m n (k ∷ ms) one (inl h) (inr i) e =
    ap (λ (q : Member). q.vid.value) h ∙ all_has _ n ms one.0 i (ap (λ (q : Member). q.isid.value) (sym h) ∙ e)
in_one_vid m n (k ∷ ms) one (inr h) (inl i) e =
    sym (ap (λ (q : Member). q.vid.value) i ∙ all_has _ m ms one.0 h (ap (λ (q : Member). q.isid.value) (sym i) ∙ sym e))
in_one_vid m n (k ∷ ms) one (inr h) (inr i) e = in_one_vid m n ms one.1 h i e

record AttachedAs (isid : Isid) (v : Vid) (attached : List Member) : Type 0 where
  port : Member
  has : Has port attached
  isid_is : isid ≡ port.isid
  vid_is : port.vid.value ≡ v.value

attached_as : (isid : Isid) (v : Vid) (attached : List Member) → Has isid (isids_in (in_vid v attached)) → AttachedAs isid v attached
attached_as isid v attached h =
    let s = isid_attached isid (in_vid v attached) h in
    let f = filter_has (λ m. eqb m.vid.value v.value) s.0 attached s.1 in
    record { port = s.0; has = f.0; isid_is = s.2; vid_is = eqb-true _ _ f.1 }

isids_apart : (attached : List Member) (vs : List Vid) → AreInOneVid attached → Apart vid_number vs → Apart isid_number (isids_over attached vs)
unfolding isids_over
isids_apart attached [] one apart = tt
isids_apart attached (v ∷ vs) one apart =
    apart_append isid_number (isids_in (in_vid v attached)) (isids_over attached vs)
    (apart_ascends isid_number _ (ascending_ascends isid_number (map (λ m. m.isid) (in_vid v attached))))
    (isids_apart attached vs one apart.1)
    (λ x y h i e. cross x y (attached_as x v attached h) (flat_map_has (λ w. isids_in (in_vid w attached)) y vs i) e)
  where
    cross : (x y : Isid) → AttachedAs x v attached → ((w : Vid) × Has w vs × Has y (isids_in (in_vid w attached))) → x.value ≡ y.value → ⊥
    cross x y a i e =
        let b = attached_as y i.0 attached i.2 in
        let same = in_one_vid a.port b.port attached one a.has b.has (ap isid_number (sym a.isid_is) ∙ (e ∙ ap isid_number b.isid_is)) in
        all_has _ i.0 vs apart.0 i.1 (sym a.vid_is ∙ (same ∙ b.vid_is))

-- there are no more base VIDs than are configured, and no more I-SIDs than are attached
vids_within : (l : Local) → AreConfigured l → length (vids_in l.attached) ≤ length l.config.vids
vids_within l configured =
    length-within vid_number plan_number (vids_in l.attached) l.config.vids
    (apart_ascends vid_number _ (ascending_ascends vid_number (map (λ m. m.vid) l.attached)))
    (λ v h.
    let a = attached_in v l.attached h in
    let p = all_has _ a.0 l.attached configured a.1 in
    record { item = p.0; has = has_from_contains p.0 l.config.vids p.1; is = ap vid_number (p.2 ∙ sym a.2) })

isids_within_all : (l : Local) → AreInOneVid l.attached → length (isids_over l.attached (vids_in l.attached)) ≤ length (isids_in l.attached)
unfolding isids_over
isids_within_all l one =
    length-within isid_number isid_number (isids_over l.attached (vids_in l.attached)) (isids_in l.attached)
    (isids_apart l.attached (vids_in l.attached) one (apart_ascends vid_number _ (ascending_ascends vid_number (map (λ m. m.vid) l.attached))))
    (λ isid h.
    let i = flat_map_has (λ w. isids_in (in_vid w l.attached)) isid (vids_in l.attached) h in
    let a = attached_as isid i.0 l.attached i.2 in
    subst (λ n. Numbered isid_number n (isids_in l.attached)) (ap isid_number (sym a.isid_is)) (attached_isid a.port l.attached a.has))

-- ---- the whole

pub inst_tlv_len : (l : Local) → length (inst_tlv l) ≡ 25 + 8 * length (trees_of l)
inst_tlv_len l = simp length-append (omega (arith, trees_len (trees_of l)))

content_whole : (l : Local) → IsTrue (is_whole (content_bytes l))
content_whole l =
    ap is_whole (parts l)
    ∙ whole_more 1 (0x03 ∷ 0x49 ∷ 0x00 ∷ 0x01 ∷ []) (protocols ++ (neighbour_tlvs l.neighbours ++ (inst_tlv l ++ service_tlvs l)))
    (whole_more 129 (0xc1 ∷ []) (neighbour_tlvs l.neighbours ++ (inst_tlv l ++ service_tlvs l))
    (whole_several 22 neighbours_value (few_of l.neighbours) (inst_tlv l ++ service_tlvs l)
    (whole_more 144 (capability_value (inst_at l)) (service_tlvs l)
    (ap is_whole (sym (append-nil (service_tlvs l))) ∙ whole_several 144 (λ v. capability_value (services_at l v)) (vids_in l.attached) [] whole_none))))

len_parts : (n i s : List ℕ) → length (areas ++ (protocols ++ (n ++ (i ++ s)))) ≡ 9 + (length n + (length i + length s))
len_parts n i s = omega (arith, length-append n (i ++ s), length-append i s)

pub content_len : (l : Local) → length (content_bytes l) ≡ 9 + (length (neighbour_tlvs l.neighbours) + (length (inst_tlv l) + length (service_tlvs l)))
content_len l = ap length (parts l) ∙ len_parts (neighbour_tlvs l.neighbours) (inst_tlv l) (service_tlvs l)

pub own_fits : OwnFits
own_fits l h fields configured few = record {
  whole = content_whole l;
  short = omega (
    arith,
    content_len l,
    few_len ((length l.neighbours + 12) / 13) l.neighbours fields.neighbours,
    few,
    inst_tlv_len l,
    length-ascending plan_number l.config.vids,
    h.few_vids,
    services_len_over l (vids_in l.attached) fields.mac,
    vids_within l configured,
    isids_within_all l h.one_vid,
    h.few_isids,
  );
}

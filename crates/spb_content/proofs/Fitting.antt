-- Fragments fit into their LSPs, and at most 60 services are in one.
use Rattle.std.proofs.Common.{◌≡◌, ◌≢◌, inl, inr, ℕ, zero, suc, ◌+◌, ◌*◌, ◌-◌, ◌≤◌, ◌<◌, Bool, true, false, ltb, min, List, [], ◌∷◌, ◌++◌, length, take, drop, refl, sym, ap, subst, ◌∙◌, arith, append_assoc}
use Rattle.std.specs.Prelude.{Option, Some, None, option_map}
use Rattle.std.proofs.lemmas.Bool.{ltb-true, ltb-false}
use Rattle.std.proofs.lemmas.List.{append-nil, length-drop, take_min}
use Rattle.isis_pdu.specs.Tlvs.{is_whole}
use Rattle.spb_types.specs.declared.graph.Member.{Member}
use Rattle.spb_types.specs.declared.limits.TheConstants.{MOST_PORTS}
use Rattle.spb_tlvs.specs.Capability.{capability_value}
use Rattle.spb_content.specs.declared.local.Local.{Local}
use Rattle.spb_content.specs.Local.{service_tlvs, content_bytes, own_mac, trees_of, vids_in, IsLocal, IsPart}
use Rattle.spb_content.specs.Fragments.{services_by, part_of, unless_none, fragment, fragments_from, bodies_saying, AreToCut}
use Rattle.spb_content.specs.Laws.{HasFields, AreConfigured, Fits, FragmentsFit, FewAreOne}
use Rattle.spb_content.proofs.Again.{services_at}
use Rattle.spb_content.proofs.Covered.{ArePaired}
use Rattle.spb_content.proofs.Merged.{merged_paired}
use Rattle.spb_content.proofs.AnyOrder.{listing, listing_same}
use Rattle.spb_content.proofs.Groups.{same_is_written}
use Rattle.spb_content.proofs.Lengths.{whole_none, whole_several, content_len, own_fits}
use Rattle.spb_content.proofs.Pairs.{attached_covered, covered_attached, services_are_few}
use Rattle.spb_content.proofs.Parts.{past, whole, is_part, some_ports, few_are_part, part_fields, part_configured, fragments_are_first}
use Rattle.spb_content.proofs.Told.{service_fragment}

-- ---- they fit

service_part_fits : (l : Local) → Fits (content_bytes l) → Fits (service_tlvs l)
service_part_fits l all = record {
  whole =
      ap is_whole (sym (append-nil (service_tlvs l))) ∙ whole_several 144 (λ v. capability_value (services_at l v)) (vids_in l.attached) [] whole_none;
  short = omega (arith, all.short, content_len l);
}

first_fits : (l : Local) (tlvs : List ℕ) → Fits (content_bytes (part_of 0 l)) → fragment l 0 ≡ Some tlvs → Fits tlvs
unfolding fragment
first_fits l tlvs fits e = let same : content_bytes (part_of 0 l) ≡ tlvs = cc in subst Fits same fits

part_fits : (l : Local) (k : ℕ) → IsLocal l → HasFields l → AreConfigured l → length l.neighbours ≤ MOST_PORTS → Fits (content_bytes (part_of k l))
part_fits l k is fields configured few = own_fits (part_of k l) (is_part k l is) (part_fields k l fields) (part_configured k l configured) few

pub fragments_fit : FragmentsFit
fragments_fit l zero tlvs is fields configured few e = first_fits l tlvs (part_fits l 0 is fields configured few) e
fragments_fit l (suc k) tlvs is fields configured few e =
    subst Fits (service_fragment l k tlvs e) (service_part_fits (part_of (suc k) l) (part_fits l (suc k) is fields configured few))

-- ---- few services are in one

-- what a bridge says where one part has all its services
said_in_one : (l : Local) → IsPart l → length (services_by l) ≤ 60 → content_bytes (part_of 0 l) ≡ content_bytes l
said_in_one l is few =
    let all : (part_of 0 l).attached ≡ services_by l = whole 60 (services_by l) few in
    let services : listing (own_mac l) (part_of 0 l).attached ≡ listing (own_mac l) l.attached =
    ap (listing (own_mac l)) all
    ∙ listing_same (own_mac l) (services_by l) l.attached (attached_covered l.config.id.system l.attached is.attached) (covered_attached l.config.id.system l.attached is.attached) in
    same_is_written (part_of 0 l) l (λ i. record {
      inst = Some (record { priority = l.config.id.priority; source = l.config.source; trees = trees_of l });
      neighbours = l.neighbours;
      services = services i;
    })

nothing_left : (l : Local) (k : ℕ) → length (services_by l) ≤ 60 → (part_of (suc k) l).attached ≡ []
nothing_left l k few = ap (take 60) (past (60 * suc k) (services_by l) (omega (arith, few)))

pub few_are_one : FewAreOne
unfolding fragment
few_are_one l is =
    let few : length (services_by l) ≤ 60 = omega (arith, services_are_few l.config.id.system l.attached is.one_vid, is.few_isids) in
    record {
      first = ap Some (said_in_one l is few);
      others = λ k. ap (λ (ms : List Member). unless_none ms (service_tlvs (part_of (suc k) l))) (nothing_left l k few);
    }

-- ---- the services that are cut, or the ports where they are few

cut_paired : (l : Local) (ms : List Member) → AreToCut l ms → ArePaired ms l.attached
cut_paired l ms (inl is) = subst (λ (ns : List Member). ArePaired ns l.attached) (sym is) (merged_paired l.config.id.system l.attached)
cut_paired l ms (inr h) = subst (λ (ns : List Member). ArePaired ns l.attached) (sym h.0) (λ m i. record { item = m; has = i; is = refl })

pub cut_is_part : (l : Local) (ms part : List Member) (k : ℕ) → IsLocal l → AreToCut l ms → part ≡ take 60 (drop (60 * k) ms) → IsPart (record l { attached = part })
cut_is_part l ms part k is cut e = subst (λ (ns : List Member). IsPart (record l { attached = ns })) (sym e) (some_ports k l ms is (cut_paired l ms cut))

first_cut : (l : Local) (ms : List Member) → IsLocal l → AreToCut l ms → Some (content_bytes (record l { attached = take 60 ms })) ≡ fragment l 0
unfolding fragment
first_cut l ms is (inl e) = ap (λ (ns : List Member). Some (content_bytes (record l { attached = take 60 ns }))) e
first_cut l ms is (inr h) =
    ap (λ (ns : List Member). Some (content_bytes (record l { attached = ns }))) (whole 60 ms h.1 ∙ h.0)
    ∙ sym (few_are_one l (few_are_part l is (subst (λ (ns : List Member). length ns ≤ 60) h.0 h.1))).first

pub cut_first : (l : Local) (ms part : List Member) (k : ℕ) → IsLocal l → AreToCut l ms → part ≡ take 60 (drop (60 * k) ms) → k ≡ 0 → Some (content_bytes (record l { attached = part })) ≡ fragment l k
cut_first l ms part k is cut e none =
    ap (λ (ns : List Member). Some (content_bytes (record l { attached = ns }))) (e ∙ ap (λ i. take 60 (drop (60 * i) ms)) none)
    ∙ (first_cut l ms is cut ∙ ap (fragment l) (sym none))

other_cut : (l : Local) (ms : List Member) (k : ℕ) → IsLocal l → AreToCut l ms → unless_none (take 60 (drop (60 * suc k) ms)) (service_tlvs (record l { attached = take 60 (drop (60 * suc k) ms) })) ≡ fragment l (suc k)
unfolding fragment
other_cut l ms k is (inl e) =
    ap (λ (ns : List Member). unless_none (take 60 (drop (60 * suc k) ns)) (service_tlvs (record l { attached = take 60 (drop (60 * suc k) ns) }))) e
other_cut l ms k is (inr h) =
    ap (λ (ns : List Member). unless_none ns (service_tlvs (record l { attached = take 60 (drop (60 * suc k) ms) }))) (ap (take 60) (past (60 * suc k) ms (omega (arith, h.1))))
    ∙ sym ((few_are_one l (few_are_part l is (subst (λ (ns : List Member). length ns ≤ 60) h.0 h.1))).others k)

pub cut_other : (l : Local) (ms part : List Member) (k : ℕ) → IsLocal l → AreToCut l ms → part ≡ take 60 (drop (60 * k) ms) → k ≢ 0 → unless_none part (service_tlvs (record l { attached = part })) ≡ fragment l k
cut_other l ms part zero is cut e some = absurd (some refl)
cut_other l ms part (suc k) is cut e some = ap (λ (ns : List Member). unless_none ns (service_tlvs (record l { attached = ns }))) e ∙ other_cut l ms k is cut

pub where_none : (ms : List Member) (tlvs : List ℕ) → length ms ≡ 0 → None ≡ unless_none ms tlvs
where_none [] tlvs e = refl
where_none (m ∷ ms) tlvs e = absurd (omega (arith, e))

pub where_some : (ms : List Member) (tlvs : List ℕ) → length ms ≢ 0 → Some tlvs ≡ unless_none ms tlvs
where_some [] tlvs e = absurd (e refl)
where_some (m ∷ ms) tlvs e = refl

-- ---- the slice of a part

nothing_taken : {A : Type 0} (n : ℕ) (xs : List A) → xs ≡ [] → take n xs ≡ []
nothing_taken zero xs is = refl
nothing_taken (suc n) [] is = refl
nothing_taken (suc n) (x ∷ xs) is = absurd cc

pub sliced : (start end n : ℕ) (ms : List Member) → start ≡ min (length ms) n → end ≡ min (length ms) (start + 60) → take (end - start) (drop start ms) ≡ take 60 (drop n ms)
sliced start end n ms from to = at (ltb (length ms) n) refl
  where
    at : (b : Bool) → ltb (length ms) n ≡ b → take (end - start) (drop start ms) ≡ take 60 (drop n ms)
    at true e =
        let over = ltb-true (length ms) n e in
        nothing_taken (end - start) (drop start ms) (past start ms (omega (arith, over, from))) ∙ sym (nothing_taken 60 (drop n ms) (past n ms (omega (arith, over))))
    at false e =
        let within = ltb-false (length ms) n e in
        let here : start ≡ n = omega (arith, within, from) in
        let many : end - start ≡ min 60 (length (drop start ms)) = omega (arith, within, from, to, length-drop start ms) in
        ap (λ i. take i (drop start ms)) many ∙ (take_min 60 (drop start ms) ∙ ap (λ i. take 60 (drop i ms)) here)

-- ---- bodies of fragments, one after another

from_next : (l : Local) (n k : ℕ) → k < n → fragments_from l (n - k) k ≡ fragment l k ∷ fragments_from l (n - (k + 1)) (k + 1)
from_next l n k less = ap (λ i. fragments_from l i k) (next (n - k) (n - (k + 1)) (omega (arith, less)))
  where
    next : (a b : ℕ) → a ≡ b + 1 → a ≡ suc b
    next a b e = omega (arith, e)

-- where one doesn't exist, none from it on is said
pub none_said : (l : Local) (flags k n m : ℕ) → k ≤ m → fragment l k ≡ None → bodies_saying flags (fragments_from l n m) ≡ []
none_said l flags k zero m low none = refl
none_said l flags k (suc n) m low none =
    ap (λ (f : Option (List ℕ)). bodies_saying flags (f ∷ fragments_from l n (m + 1))) (fragments_are_first l k m low none)
    ∙ none_said l flags k n (m + 1) (omega (arith, low)) none

no_tlvs : (front : List ℕ) (o : Option (List ℕ)) → None ≡ option_map (λ tlvs. front ++ tlvs) o → o ≡ None
no_tlvs front None is = refl
no_tlvs front (Some tlvs) is = absurd cc

-- the bodies so far are all, where the next fragment doesn't exist
pub bodies_end : (l : Local) (flags n k : ℕ) (bodies : List (Option (List ℕ))) → None ≡ option_map (λ tlvs. (flags ∷ []) ++ tlvs) (fragment l k)
    → bodies ++ bodies_saying flags (fragments_from l (n - k) k) ≡ bodies_saying flags (fragments_from l n 0) → bodies ≡ bodies_saying flags (fragments_from l n 0)
bodies_end l flags n k bodies none so_far =
    sym (append-nil bodies)
    ∙ (ap (λ bs. bodies ++ bs) (sym (none_said l flags k (n - k) k (omega arith) (no_tlvs (flags ∷ []) (fragment l k) none))) ∙ so_far)

is_said : (flags : ℕ) (body : List ℕ) (o : Option (List ℕ)) → Some body ≡ option_map (λ tlvs. (flags ∷ []) ++ tlvs) o → Some body ∷ [] ≡ bodies_saying flags (o ∷ [])
is_said flags body None is = absurd cc
is_said flags body (Some tlvs) is = ap (λ b. b ∷ []) is

said_first : (flags : ℕ) (o : Option (List ℕ)) (fs : List (Option (List ℕ))) → bodies_saying flags (o ∷ fs) ≡ bodies_saying flags (o ∷ []) ++ bodies_saying flags fs
said_first flags None fs = refl
said_first flags (Some tlvs) fs = refl

-- and go on with the next, where it does
pub bodies_more : (l : Local) (flags n k : ℕ) (before after : List (Option (List ℕ))) (body : List ℕ) → k < n → after ≡ before ++ Some body ∷ [] → Some body ≡ option_map (λ tlvs. (flags ∷ []) ++ tlvs) (fragment l k)
    → before ++ bodies_saying flags (fragments_from l (n - k) k) ≡ bodies_saying flags (fragments_from l n 0)
    → after ++ bodies_saying flags (fragments_from l (n - (k + 1)) (k + 1)) ≡ bodies_saying flags (fragments_from l n 0)
bodies_more l flags n k before after body less pushed is so_far =
    let rest : List (Option (List ℕ)) = fragments_from l (n - (k + 1)) (k + 1) in
    ap (λ bs. bs ++ bodies_saying flags rest) (pushed ∙ ap (λ bs. before ++ bs) (is_said flags body (fragment l k) is))
    ∙ (append_assoc before (bodies_saying flags (fragment l k ∷ [])) (bodies_saying flags rest)
    ∙ (ap (λ bs. before ++ bs) (sym (said_first flags (fragment l k) rest) ∙ ap (bodies_saying flags) (sym (from_next l n k less))) ∙ so_far))

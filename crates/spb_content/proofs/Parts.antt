-- Services cut into parts of 60: together they are all services, and each is what one LSP takes.
use Rattle.std.specs.Prelude.{◌≡◌, ℕ, zero, suc, ◌+◌, ◌*◌, ◌-◌, ◌≤◌, ◌<◌, List, [], ◌∷◌, ◌++◌, length, map, take, drop, None, Contains}
use Rattle.std.proofs.Common.{refl, sym, ap, ◌∙◌, inl, inr, arith}
use Rattle.std.specs.List.{AllByRecursion}
use Rattle.std.proofs.lemmas.List.{length-map, take-append-drop}
use Rattle.spb_types.specs.Ascending.{Ascends}
use Rattle.spb_types.specs.declared.graph.Member.{Member}
use Rattle.spb_types.specs.declared.service.Isid.{Isid}
use Rattle.spb_types.specs.declared.service.Vid.{Vid}
use Rattle.spb_types.specs.declared.service.VidPlan.{VidPlan}
use Rattle.spb_content.specs.declared.local.Local.{Local}
use Rattle.spb_content.specs.Local.{service_tlvs, isid_number, IsAttached, IsLocal, IsPart}
use Rattle.spb_content.specs.Fragments.{services_by, part_of, unless_none, fragment}
use Rattle.spb_content.specs.Laws.{HasFields, AreConfigured, ServicesAreFew, FragmentsAreFirst}
use Rattle.spb_content.proofs.Members.{Has, all_has, has_all}
use Rattle.spb_content.proofs.Kept.{length-ascending}
use Rattle.spb_content.specs.Folding.{service_number}
use Rattle.spb_content.proofs.Covered.{ArePaired}
use Rattle.spb_content.proofs.Merged.{merged_ascends, merged_paired}
use Rattle.spb_content.proofs.Pairs.{paired_attached, paired_one_vid, services_are_few}
use Rattle.spb_content.proofs.Written.{all_take}

-- ---- the parts of a list

none_left : {A : Type 0} (n : ℕ) (xs : List A) → xs ≡ [] → drop n xs ≡ []
none_left zero xs is = is
none_left (suc n) [] is = refl
none_left (suc n) (x ∷ xs) is = absurd cc

further : {A : Type 0} (m n : ℕ) (xs : List A) → drop m (drop n xs) ≡ drop (n + m) xs
further m zero xs = ap (λ k. drop k xs) (omega arith)
further m (suc n) [] = none_left m [] refl ∙ sym (none_left (suc n + m) [] refl)
further m (suc n) (x ∷ xs) = further m n xs ∙ sym (step (n + m) (omega arith))
  where
    step : (k : ℕ) → suc n + m ≡ suc k → drop (suc n + m) (x ∷ xs) ≡ drop k xs
    step k e = ap (λ i. drop i (x ∷ xs)) e

pub past : {A : Type 0} (n : ℕ) (xs : List A) → length xs ≤ n → drop n xs ≡ []
past zero [] all = refl
past zero (x ∷ xs) all = absurd (omega (arith, all))
past (suc n) [] all = refl
past (suc n) (x ∷ xs) all = past n xs (omega (arith, all))

pub whole : {A : Type 0} (n : ℕ) (xs : List A) → length xs ≤ n → take n xs ≡ xs
whole zero [] all = refl
whole zero (x ∷ xs) all = absurd (omega (arith, all))
whole (suc n) [] all = refl
whole (suc n) (x ∷ xs) all = ap (λ ys. x ∷ ys) (whole n xs (omega (arith, all)))

taken_len : {A : Type 0} (n : ℕ) (xs : List A) → length (take n xs) ≤ n
taken_len zero xs = omega arith
taken_len (suc n) [] = omega arith
taken_len (suc n) (x ∷ xs) = omega (arith, taken_len n xs)

has_taken : {A : Type 0} (x : A) (n : ℕ) (xs : List A) → Has x (take n xs) → Has x xs
has_taken x zero xs h = absurd h
has_taken x (suc n) [] h = h
has_taken x (suc n) (y ∷ ys) (inl e) = inl e
has_taken x (suc n) (y ∷ ys) (inr h) = inr (has_taken x n ys h)

has_dropped : {A : Type 0} (x : A) (n : ℕ) (xs : List A) → Has x (drop n xs) → Has x xs
has_dropped x zero xs h = h
has_dropped x (suc n) [] h = h
has_dropped x (suc n) (y ∷ ys) h = inr (has_dropped x n ys h)

pub taken : (k : ℕ) (ms : List Member) → Ascends service_number ms → Ascends service_number (take k ms)
taken zero ms up = tt
taken (suc k) [] up = tt
taken (suc k) (m ∷ ms) up = (all_take (λ y. service_number m < service_number y) k ms up.0, taken k ms up.1)

pub dropped : (k : ℕ) (ms : List Member) → Ascends service_number ms → Ascends service_number (drop k ms)
dropped zero ms up = up
dropped (suc k) [] up = tt
dropped (suc k) (m ∷ ms) up = dropped k ms up.1

-- so many parts from number k on, put together
abbrev pub parts_together : List Member → ℕ → ℕ → List Member
parts_together ms zero k = []
parts_together ms (suc n) k = take 60 (drop (60 * k) ms) ++ parts_together ms n (k + 1)

from : (ms : List Member) (n k : ℕ) → length ms ≤ 60 * (k + n) → parts_together ms n k ≡ drop (60 * k) ms
from ms zero k all = sym (past (60 * k) ms (omega (arith, all)))
from ms (suc n) k all =
    ap (λ rest. take 60 (drop (60 * k) ms) ++ rest) (from ms n (k + 1) (omega (arith, all)) ∙ (ap (λ i. drop i ms) (next k) ∙ sym (further 60 (60 * k) ms)))
    ∙ take-append-drop 60 (drop (60 * k) ms)
  where
    next : (k : ℕ) → 60 * (k + 1) ≡ 60 * k + 60
    next k = omega arith

pub parts_are_together : (ms : List Member) (n : ℕ) → length ms ≤ 60 * n → parts_together ms n 0 ≡ ms
parts_are_together ms n all = from ms n 0 (omega (arith, all))

-- ---- what one LSP takes

-- a bridge to which other members are attached, each with the pair of one of its ports
other_ports : (l : Local) (ms : List Member) → IsLocal l → ArePaired ms l.attached → length ms ≤ 60 → IsPart (record l { attached = ms })
other_ports l ms is paired few = record {
  source = is.source;
  few_vids = is.few_vids;
  vids = is.vids;
  vids_apart = is.vids_apart;
  metrics = is.metrics;
  attached = paired_attached ms l.attached paired is.attached;
  one_vid = paired_one_vid ms l.attached paired is.one_vid;
  few_isids = omega (arith, length-ascending isid_number (map (λ m. m.isid) ms), length-map ms (λ m. m.isid), few);
}

part_paired : (k : ℕ) (l : Local) → ArePaired (part_of k l).attached l.attached
part_paired k l m h =
    merged_paired l.config.id.system l.attached m (has_dropped m (60 * k) (services_by l) (has_taken m 60 (drop (60 * k) (services_by l)) h))

-- 60 of such members
pub some_ports : (k : ℕ) (l : Local) (ms : List Member) → IsLocal l → ArePaired ms l.attached → IsPart (record l { attached = take 60 (drop (60 * k) ms) })
some_ports k l ms is paired =
    other_ports l (take 60 (drop (60 * k) ms)) is (λ m h. paired m (has_dropped m (60 * k) ms (has_taken m 60 (drop (60 * k) ms) h))) (taken_len 60 (drop (60 * k) ms))

pub is_part : (k : ℕ) (l : Local) → IsLocal l → IsPart (part_of k l)
is_part k l is = some_ports k l (services_by l) is (merged_paired l.config.id.system l.attached)

-- its ports, where they are few
pub few_are_part : (l : Local) → IsLocal l → length l.attached ≤ 60 → IsPart l
few_are_part l is few = other_ports l l.attached is (λ m h. record { item = m; has = h; is = refl }) few

pub part_fields : (k : ℕ) (l : Local) → HasFields l → HasFields (part_of k l)
part_fields k l fields = record { priority = fields.priority; mac = fields.mac; neighbours = fields.neighbours }

pub part_configured : (k : ℕ) (l : Local) → AreConfigured l → AreConfigured (part_of k l)
part_configured k l configured =
    has_all (λ a. (p : VidPlan) × Contains l.config.vids p × (p.vid ≡ a.vid)) (part_of k l).attached (λ m h.
    let n = part_paired k l m h in
    let p = all_has (λ a. (p : VidPlan) × Contains l.config.vids p × (p.vid ≡ a.vid)) n.item l.attached configured n.has in
    (p.0, p.1, p.2 ∙ sym (ap (λ (q : Vid × Isid). q.0) n.is)))

pub services_ascend : (l : Local) → Ascends service_number (services_by l)
services_ascend l = merged_ascends l.config.id.system l.attached

pub services_attached : (l : Local) → AllByRecursion IsAttached l.attached → AllByRecursion IsAttached (services_by l)
services_attached l each = paired_attached (services_by l) l.attached (merged_paired l.config.id.system l.attached) each

pub few_services : ServicesAreFew
few_services l is = omega (arith, services_are_few l.config.id.system l.attached is.one_vid, is.few_isids)

-- ---- fragments that don't exist

no_tlvs : (ms : List Member) (tlvs : List ℕ) → unless_none ms tlvs ≡ None → ms ≡ []
no_tlvs [] tlvs e = refl
no_tlvs (m ∷ ms) tlvs e = absurd cc

none_taken : {A : Type 0} (n : ℕ) (xs : List A) → take (suc n) xs ≡ [] → xs ≡ []
none_taken n [] e = refl
none_taken n (x ∷ xs) e = absurd cc

no_more : (ms : List Member) (j k : ℕ) → j ≤ k → take 60 (drop (60 * j) ms) ≡ [] → take 60 (drop (60 * k) ms) ≡ []
no_more ms j k low none =
    let here : drop (60 * j) ms ≡ [] = none_taken 59 (drop (60 * j) ms) none in
    let there : drop (60 * k) ms ≡ [] =
    ap (λ i. drop i ms) (apart j k low) ∙ (sym (further (60 * k - 60 * j) (60 * j) ms) ∙ none_left (60 * k - 60 * j) (drop (60 * j) ms) here) in
    ap (take 60) there
  where
    apart : (j k : ℕ) → j ≤ k → 60 * k ≡ 60 * j + (60 * k - 60 * j)
    apart j k low = omega (arith, low)

pub fragments_are_first : FragmentsAreFirst
unfolding fragment
fragments_are_first l zero k low none = absurd cc
fragments_are_first l (suc j) zero low none = absurd (omega (arith, low))
fragments_are_first l (suc j) (suc k) low none =
    ap (λ (ms : List Member). unless_none ms (service_tlvs (part_of (suc k) l)))
    (no_more (services_by l) (suc j) (suc k) low (no_tlvs (take 60 (drop (60 * suc j) (services_by l))) (service_tlvs (part_of (suc j) l)) none))

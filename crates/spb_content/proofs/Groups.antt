-- Services by base VID: the list of them all tells the groups.
use Rattle.std.proofs.Common.{◌≡◌, ◌≢◌, ℕ, Bool, not, List, [], ◌∷◌, ◌++◌, map, filter, flat_map, Option, Some, None, refl, sym, ap, ◌∙◌, subst}
use Rattle.std.specs.Prelude.{◌==◌}
use Rattle.std.specs.List.{AllByRecursion}
use Rattle.std.proofs.lemmas.Bool.{eq-eqb, ne_eqb}
use Rattle.std.proofs.lemmas.List.{append-nil}
use Rattle.spb_types.specs.declared.address.Mac.{Mac}
use Rattle.spb_types.specs.declared.service.Vid.{Vid}
use Rattle.spb_tlvs.specs.declared.capability.Capability.TheVariants as said
use Rattle.spb_tlvs.specs.declared.capability.Capability.TheVariants.{Services}
use Rattle.spb_tlvs.specs.declared.capability.Service.{Service}
use Rattle.spb_content.specs.declared.local.Local.{Local}
use Rattle.spb_content.specs.declared.content.Content.{Content}
use Rattle.spb_content.specs.declared.content.Inst.{Inst}
use Rattle.spb_content.specs.Local.{capability_tlv, own_mac, vids_in, services_in, service_among, isids_in, in_vid, vid_number, service_tlvs, neighbour_tlvs, inst_tlv, areas, protocols, content_bytes, said_by}
use Rattle.spb_content.specs.Content.{content_in}
use Rattle.spb_content.specs.Laws.{SameIsWritten, WrittenIsSame}
use Rattle.spb_content.proofs.Members.{Has, has_all, has_map, map_has, has_filter}
use Rattle.spb_content.proofs.Ascended.{ascending_ascends}
use Rattle.spb_content.proofs.Kept.{Apart, apart_ascends}
use Rattle.spb_content.proofs.Written.{attached_in, attached_isid}
use Rattle.spb_content.proofs.Again.{read_again}

-- the services of a base VID, and all of some
abbrev Group : Type 0
Group = Vid × List Service

abbrev Listed : Type 0
Listed = Mac × Vid × Service

listed : Mac → Vid → List Service → List Listed
listed mac v ss = map (λ s. (mac, v, s)) ss

flat : Mac → List Group → List Listed
flat mac gs = flat_map (λ g. listed mac g.0 g.1) gs

abbrev is_in : Vid → Listed → Bool
is_in v x = x.1.value == v.value

-- those of one base VID, and the others
keep_here : (mac : Mac) (v : Vid) (ss : List Service) (rest : List Listed) → filter (is_in v) (listed mac v ss ++ rest) ≡ listed mac v ss ++ filter (is_in v) rest
unfolding listed
keep_here mac v [] rest = refl
keep_here mac v (s ∷ ss) rest = let t = eq-eqb v.value v.value refl in rw t (ap (λ xs. (mac, v, s) ∷ xs) (keep_here mac v ss rest))

leave_here : (mac : Mac) (v : Vid) (ss : List Service) (rest : List Listed) → filter (λ x. not (is_in v x)) (listed mac v ss ++ rest) ≡ filter (λ x. not (is_in v x)) rest
unfolding listed
leave_here mac v [] rest = refl
leave_here mac v (s ∷ ss) rest = let t = eq-eqb v.value v.value refl in rw t (leave_here mac v ss rest)

keep_other : (mac : Mac) (v w : Vid) (ss : List Service) (rest : List Listed) → v.value ≢ w.value → filter (is_in v) (listed mac w ss ++ rest) ≡ filter (is_in v) rest
unfolding listed
keep_other mac v w [] rest ne = refl
keep_other mac v w (s ∷ ss) rest ne = let t = ne_eqb w.value v.value (λ e. ne (sym e)) in rw t (keep_other mac v w ss rest ne)

leave_other : (mac : Mac) (v w : Vid) (ss : List Service) (rest : List Listed) → v.value ≢ w.value → filter (λ x. not (is_in v x)) (listed mac w ss ++ rest) ≡ listed mac w ss ++ filter (λ x. not (is_in v x)) rest
unfolding listed
leave_other mac v w [] rest ne = refl
leave_other mac v w (s ∷ ss) rest ne = let t = ne_eqb w.value v.value (λ e. ne (sym e)) in rw t (ap (λ xs. (mac, w, s) ∷ xs) (leave_other mac v w ss rest ne))

keep_none : (mac : Mac) (v : Vid) (gs : List Group) → AllByRecursion (λ g. v.value ≢ g.0.value) gs → filter (is_in v) (flat mac gs) ≡ []
unfolding flat
keep_none mac v [] all = refl
keep_none mac v (g ∷ gs) all = keep_other mac v g.0 g.1 (flat mac gs) all.0 ∙ keep_none mac v gs all.1

leave_all : (mac : Mac) (v : Vid) (gs : List Group) → AllByRecursion (λ g. v.value ≢ g.0.value) gs → filter (λ x. not (is_in v x)) (flat mac gs) ≡ flat mac gs
unfolding flat
leave_all mac v [] all = refl
leave_all mac v (g ∷ gs) all = leave_other mac v g.0 g.1 (flat mac gs) all.0 ∙ ap (λ xs. listed mac g.0 g.1 ++ xs) (leave_all mac v gs all.1)

unlisted : (mac : Mac) (v : Vid) (ss : List Service) → map (λ (x : Listed). x.2) (listed mac v ss) ≡ ss
unfolding listed
unlisted mac v [] = refl
unlisted mac v (s ∷ ss) = ap (λ rs. s ∷ rs) (unlisted mac v ss)

-- no group is empty, and no base VID has two
record AreGroups (gs : List Group) : Type 0 where
  some : AllByRecursion (λ g. g.1 ≢ []) gs
  apart : Apart (λ g. g.0.value) gs

not_nothing : {A : Type 0} (x : A) (xs : List A) → (x ∷ xs) ≡ [] → ⊥
not_nothing x xs e = cc

first_is : {A : Type 0} (x y : A) (xs ys : List A) → (x ∷ xs) ≡ (y ∷ ys) → x ≡ y
first_is x y xs ys e = cc

-- the first of them is of the first group
head_of : (mac : Mac) (g : Group) (gs : List Group) (P : List Listed → Type 0) → g.1 ≢ [] → ((s : Service) (rest : List Listed) → P ((mac, g.0, s) ∷ rest)) → P (flat mac (g ∷ gs))
unfolding flat listed
head_of mac (v, []) gs P some k = absurd (some refl)
head_of mac (v, s ∷ ss) gs P some k = k s (listed mac v ss ++ flat mac gs)

flat_nil : (mac : Mac) → flat mac [] ≡ []
unfolding flat
flat_nil mac = refl

kept_first : (mac : Mac) (g : Group) (gs : List Group) → Apart (λ (k : Group). k.0.value) (g ∷ gs) → filter (is_in g.0) (flat mac (g ∷ gs)) ≡ listed mac g.0 g.1
unfolding flat
kept_first mac g gs apart =
    keep_here mac g.0 g.1 (flat mac gs) ∙ ap (λ xs. listed mac g.0 g.1 ++ xs) (keep_none mac g.0 gs apart.0) ∙ append-nil (listed mac g.0 g.1)

left_first : (mac : Mac) (g : Group) (gs : List Group) → Apart (λ (k : Group). k.0.value) (g ∷ gs) → filter (λ x. not (is_in g.0 x)) (flat mac (g ∷ gs)) ≡ flat mac gs
unfolding flat
left_first mac g gs apart = leave_here mac g.0 g.1 (flat mac gs) ∙ leave_all mac g.0 gs apart.0

-- the first of them are of one B-MAC and base VID
record SameHead (m n : Mac) (v w : Vid) : Type 0 where
  mac : m ≡ n
  vid : v ≡ w

same_head : (m n : Mac) (g h : Group) (gs hs : List Group) → g.1 ≢ [] → h.1 ≢ [] → flat m (g ∷ gs) ≡ flat n (h ∷ hs) → SameHead m n g.0 h.0
same_head m n g h gs hs p q e =
    head_of m g gs (λ xs. xs ≡ flat n (h ∷ hs) → SameHead m n g.0 h.0) p (λ s rest f.
    head_of n h hs (λ ys. ((m, g.0, s) ∷ rest) ≡ ys → SameHead m n g.0 h.0) q (λ t others i.
    let same = first_is (m, g.0, s) (n, h.0, t) rest others i in
    record { mac = ap (λ x. x.0) same; vid = ap (λ x. x.1) same }) f) e

unlike : (m n : Mac) (g : Group) (gs : List Group) → g.1 ≢ [] → flat m (g ∷ gs) ≡ flat n [] → ⊥
unlike m n g gs p e = head_of m g gs (λ xs. xs ≡ flat n [] → ⊥) p (λ s rest f. not_nothing (m, g.0, s) rest (f ∙ flat_nil n)) e

groups_are : (mac : Mac) (gs hs : List Group) → AreGroups gs → AreGroups hs → flat mac gs ≡ flat mac hs → gs ≡ hs
groups_are mac [] [] p q e = refl
groups_are mac [] (h ∷ hs) p q e = absurd (unlike mac mac h hs q.some.0 (sym e))
groups_are mac (g ∷ gs) [] p q e = absurd (unlike mac mac g gs p.some.0 e)
groups_are mac (g ∷ gs) (h ∷ hs) p q e =
    let vid = (same_head mac mac g h gs hs p.some.0 q.some.0 e).vid in
    let here : listed mac g.0 g.1 ≡ listed mac h.0 h.1 =
    sym (kept_first mac g gs p.apart) ∙ ap (λ xs. filter (is_in g.0) xs) e ∙ ap (λ v. filter (is_in v) (flat mac (h ∷ hs))) vid ∙ kept_first mac h hs q.apart in
    let rest : flat mac gs ≡ flat mac hs =
    sym (left_first mac g gs p.apart) ∙ ap (λ xs. filter (λ x. not (is_in g.0 x)) xs) e ∙ ap (λ v. filter (λ x. not (is_in v x)) (flat mac (h ∷ hs))) vid ∙ left_first mac h hs q.apart in
    let services : g.1 ≡ h.1 = sym (unlisted mac g.0 g.1) ∙ ap (λ xs. map (λ (x : Listed). x.2) xs) here ∙ unlisted mac h.0 h.1 in
    let first : g ≡ h = λ i. (vid i, services i) in
    let others : gs ≡ hs = groups_are mac gs hs (record { some = p.some.1; apart = p.apart.1 }) (record { some = q.some.1; apart = q.apart.1 }) rest in
    ap (λ k. k ∷ gs) first ∙ ap (λ ks. h ∷ ks) others

-- so all of them tell the TLVs
tlvs_of : Mac → List Group → List ℕ
tlvs_of mac gs = flat_map (λ g. capability_tlv (Services mac g.0 g.1)) gs

tlvs_are : (m n : Mac) (gs hs : List Group) → AreGroups gs → AreGroups hs → flat m gs ≡ flat n hs → tlvs_of m gs ≡ tlvs_of n hs
unfolding tlvs_of
tlvs_are m n [] [] p q e = refl
tlvs_are m n [] (h ∷ hs) p q e = absurd (unlike n m h hs q.some.0 (sym e))
tlvs_are m n (g ∷ gs) [] p q e = absurd (unlike m n g gs p.some.0 e)
tlvs_are m n (g ∷ gs) (h ∷ hs) p q e =
    let mac = (same_head m n g h gs hs p.some.0 q.some.0 e).mac in
    ap (λ ks. tlvs_of m ks) (groups_are m (g ∷ gs) (h ∷ hs) p q (e ∙ ap (λ k. flat k (h ∷ hs)) (sym mac))) ∙ ap (λ k. tlvs_of k (h ∷ hs)) mac

-- ---- the groups of the own content

group_at : Local → Vid → Group
group_at l v = (v, services_in v l.attached)

groups_of : Local → List Group
groups_of l = map (group_at l) (vids_in l.attached)

fused : {X Y Z : Type 0} (f : Y → List Z) (g : X → Y) (xs : List X) → flat_map f (map g xs) ≡ flat_map (λ x. f (g x)) xs
fused f g [] = refl
fused f g (x ∷ xs) = ap (λ zs. f (g x) ++ zs) (fused f g xs)

apart_groups : (l : Local) (vs : List Vid) → Apart vid_number vs → Apart (λ (g : Group). g.0.value) (map (group_at l) vs)
unfolding group_at
apart_groups l [] h = tt
apart_groups l (v ∷ vs) h = (others vs h.0, apart_groups l vs h.1)
  where
    others : (ws : List Vid) → AllByRecursion (λ w. v.value ≢ w.value) ws → AllByRecursion (λ (g : Group). v.value ≢ g.0.value) (map (λ w. (w, services_in w l.attached)) ws)
    others [] k = tt
    others (w ∷ ws) k = (k.0, others ws k.1)

some_service : (l : Local) (v : Vid) → Has v (vids_in l.attached) → services_in v l.attached ≢ []
some_service l v h e =
    let a = attached_in v l.attached h in
    let here : Has a.0 (in_vid v l.attached) = has_filter (λ m. m.vid.value == v.value) a.0 l.attached a.1 (eq-eqb a.0.vid.value v.value (ap vid_number (sym a.2))) in
    let n = attached_isid a.0 (in_vid v l.attached) here in
    subst (λ ss. Has (service_among (in_vid v l.attached) n.item) ss) e (has_map (service_among (in_vid v l.attached)) n.item (isids_in (in_vid v l.attached)) n.has)

are_groups : (l : Local) → AreGroups (groups_of l)
unfolding groups_of group_at
are_groups l = record {
  some = has_all (λ (g : Group). g.1 ≢ []) (groups_of l) (λ g h. let o = map_has (group_at l) g (vids_in l.attached) h in subst (λ (k : Group). k.1 ≢ []) (sym o.2) (some_service l o.0 o.1));
  apart = apart_groups l (vids_in l.attached) (apart_ascends vid_number _ (ascending_ascends vid_number (map (λ m. m.vid) l.attached)));
}

services_are : (l : Local) → (said_by l).services ≡ flat (own_mac l) (groups_of l)
unfolding flat listed groups_of group_at
services_are l = sym (fused (λ (g : Group). map (λ s. (own_mac l, g.0, s)) g.1) (group_at l) (vids_in l.attached))

tlvs_here : (l : Local) → service_tlvs l ≡ tlvs_of (own_mac l) (groups_of l)
unfolding tlvs_of groups_of group_at
tlvs_here l = sym (fused (λ (g : Group). capability_tlv (Services (own_mac l) g.0 g.1)) (group_at l) (vids_in l.attached))

-- ---- the laws

as_tlv : Option Inst → List ℕ
as_tlv None = []
as_tlv (Some i) = capability_tlv (said.Inst i.priority i.source i.trees)

inst_written : (l m : Local) → said_by l ≡ said_by m → inst_tlv l ≡ inst_tlv m
unfolding as_tlv
inst_written l m e = ap (λ (c : Content). as_tlv c.inst) e

pub same_is_written : SameIsWritten
unfolding content_bytes
same_is_written l m e =
    let services : service_tlvs l ≡ service_tlvs m =
    tlvs_here l ∙ tlvs_are (own_mac l) (own_mac m) (groups_of l) (groups_of m) (are_groups l) (are_groups m) (sym (services_are l) ∙ ap (λ (c : Content). c.services) e ∙ services_are m) ∙ sym (tlvs_here m) in
    let neighbours : neighbour_tlvs l.neighbours ≡ neighbour_tlvs m.neighbours = ap (λ (c : Content). neighbour_tlvs c.neighbours) e in
    ap (λ ns. areas ++ protocols ++ ns ++ inst_tlv l ++ service_tlvs l) neighbours
    ∙ ap (λ is. areas ++ protocols ++ neighbour_tlvs m.neighbours ++ is ++ service_tlvs l) (inst_written l m e)
    ∙ ap (λ ss. areas ++ protocols ++ neighbour_tlvs m.neighbours ++ inst_tlv m ++ ss) services

pub written_is_same : WrittenIsSame
written_is_same l m h fields k others e = sym (read_again l h fields) ∙ ap content_in e ∙ read_again m k others

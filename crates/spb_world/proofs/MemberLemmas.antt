-- The members of the wiring are those that what is attached makes, merged bridge by bridge.
use Rattle.std.proofs.Common.{◌≡◌, ℕ, zero, suc, ◌+◌, ◌*◌, ◌<◌, ◌≤◌, inl, inr, Bool, true, false, ◌&&◌, eqb, List, [], ◌∷◌, ◌++◌, length, map, refl, sym, ap, ◌∙◌, subst, arith}
use Rattle.std.specs.Prelude.{flat_map}
use Rattle.std.specs.List.{AllByRecursion, filter_map, list_any, range_with_len}
use Rattle.std.proofs.lemmas.Bool.{eq-eqb, eqb-true, eqb-false}
use Rattle.std.proofs.lemmas.Grind.{flat_map-append}
use Rattle.spb_types.specs.Service.{sends, receives}
use Rattle.spb_types.specs.declared.address.SystemId.{SystemId}
use Rattle.spb_types.specs.declared.graph.Member.{Member}
use Rattle.spb_types.specs.declared.limits.TheConstants.{GREATEST_ISID}
use Rattle.spb_types.specs.declared.service.Attachment.{Attachment}
use Rattle.spb_types.specs.declared.service.Isid.{Isid}
use Rattle.spb_types.specs.declared.service.Vid.{Vid}
use Rattle.spb_content.specs.Members.{pair_of, pair_number, pairs_of, is_of_pair, member_for, merged}
use Rattle.spb_content.proofs.Ascended.{has_ascending, numbered_ascending}
use Rattle.spb_content.proofs.Merged.{merged_for}
use Rattle.spb_content.proofs.Members.{Has, contains_from_has, all_has, has_map, map_has, has_flat_map, flat_map_has, weaker}
use Rattle.fdb_build.specs.Groups.{Sends, Receives}
use Rattle.fdb_build.proofs.GroupTests.{has_any}
use Rattle.bridge_api.specs.Own.{member_of}
use Rattle.spb_world.specs.World.{World, Bridges, attachment_at, attached_at, by_place, bridge_members, members_at, system_at, world_members, world_graph, IsService, IsAttachedIn, Sound}
use Rattle.spb_world.specs.Members.{members_in, members_up_to}
use Rattle.spb_world.proofs.ServiceLemmas.{service_found}
use Rattle.spb_world.proofs.BoxLemmas.{append-none}
use Rattle.spb_world.proofs.AttachedLemmas.{all_at}
use Rattle.spb_world.proofs.ByPlace.{those_are}

-- ---- places

range_more : (a n : ℕ) → range_with_len a (suc n) ≡ range_with_len a n ++ (a + n) ∷ []
range_more a zero = ap (λ (k : ℕ). k ∷ []) (let e : a ≡ a + 0 = omega arith in e)
range_more a (suc n) =
    let e : (a + 1) + n ≡ a + suc n = omega arith in
    ap (λ (r : List ℕ). a ∷ r) (range_more (a + 1) n ∙ ap (λ (k : ℕ). range_with_len (a + 1) n ++ k ∷ []) e)

has_place : (a n i : ℕ) → a ≤ i → i < a + n → Has i (range_with_len a n)
has_place a zero i low high = absurd (omega (arith, low, high))
has_place a (suc n) i low high = by (eqb i a) refl (λ later. has_place (a + 1) n i later (omega (arith, high)))
  where
    by : (b : Bool) → eqb i a ≡ b → (a + 1 ≤ i → Has i (range_with_len (a + 1) n)) → Has i (range_with_len a (suc n))
    by true here rest = inl (eqb-true i a here)
    by false other rest = inr (rest (omega (arith, low, eqb-false i a other)))

place_has : (a n i : ℕ) → Has i (range_with_len a n) → i < a + n
place_has a zero i h = absurd h
place_has a (suc n) i (inl here) = omega (arith, here)
place_has a (suc n) i (inr h) = omega (arith, place_has (a + 1) n i h)

-- ---- the members of the bridges in turn

-- those of one bridge more stand behind the others
pub members_more : (bridges : Bridges) (lists : List (List Attachment)) (k : ℕ) (now new : List Member) → now ≡ members_up_to bridges lists k → new ≡ now ++ members_in bridges lists k → new ≡ members_up_to bridges lists (k + 1)
members_more bridges lists k now new before is =
    let next : suc k ≡ k + 1 = omega arith in
    let last : 0 + k ≡ k = omega arith in
    is
    ∙ (ap (λ (l : List Member). l ++ members_in bridges lists k) before
    ∙ (ap (λ (l : List Member). members_up_to bridges lists k ++ l) (sym (append-none (members_in bridges lists k)))
    ∙ (ap (λ (n : ℕ). members_up_to bridges lists k ++ flat_map (members_in bridges lists) (n ∷ [])) (sym last)
    ∙ (sym (flat_map-append (members_in bridges lists) (range_with_len 0 k) ((0 + k) ∷ []))
    ∙ ap (flat_map (members_in bridges lists)) (sym (range_more 0 k) ∙ ap (range_with_len 0) next)))))

each_is : {X Y : Type 0} (f g : X → List Y) (xs : List X) → ((x : X) → f x ≡ g x) → flat_map f xs ≡ flat_map g xs
each_is f g [] same = refl
each_is f g (x ∷ xs) same = λ i. same x i ++ each_is f g xs same i

pub members_are : (w : World) (lists : List (List Attachment)) (n : ℕ) → w.attached ≡ by_place lists → members_up_to w.bridges lists n ≡ flat_map (members_at w) (range_with_len 0 n)
members_are w lists n is =
    each_is (members_in w.bridges lists) (members_at w) (range_with_len 0 n)
    (λ i. ap (bridge_members (system_at w.bridges i)) (sym (ap (filter_map (attachment_at i)) is ∙ those_are i lists)))

-- ---- what is attached has an I-SID in range

abbrev HaveIsids : List Attachment → Type 0
HaveIsids attached = AllByRecursion (λ a. a.isid.value ≤ GREATEST_ISID) attached

isid_high : (w : World) → Sound w → (x : ℕ × Attachment) → IsAttachedIn w.bridges w.services x → x.1.isid.value ≤ GREATEST_ISID
isid_high w sound x is =
    let service = service_found (IsService w.vids) w.services x.1.isid.value x.1.vid sound.services is.service in
    omega (arith, service.1, service.2.isid_high)

isids_at : (w : World) (i : ℕ) → Sound w → HaveIsids (attached_at w i)
isids_at w i sound = all_at (λ (a : Attachment). a.isid.value ≤ GREATEST_ISID) i w.attached (weaker (IsAttachedIn w.bridges w.services) (λ (x : ℕ × Attachment). x.0 ≡ i → x.1.isid.value ≤ GREATEST_ISID) w.attached (λ x h e. isid_high w sound x h) sound.attached)

-- so has the member that it makes
abbrev HaveIsid : List Member → Type 0
HaveIsid ms = AllByRecursion (λ m. m.isid.value ≤ GREATEST_ISID) ms

isids_of_members : (system : SystemId) (attached : List Attachment) → HaveIsids attached → HaveIsid (map (member_of system) attached)
isids_of_members system [] all = tt
isids_of_members system (a ∷ attached) all = (all.0, isids_of_members system attached all.1)

-- ---- the members of one bridge

-- each pair of some members has its merged one
same_pair : (p q : Vid × Isid) → p.1.value ≤ GREATEST_ISID → q.1.value ≤ GREATEST_ISID → pair_number p ≡ pair_number q → p ≡ q
same_pair p q high_p high_q same =
    let isid : p.1.value ≡ q.1.value = low_part p.0.value q.0.value p.1.value q.1.value high_p high_q same in
    let vid : p.0.value ≡ q.0.value = omega (arith, same, isid) in
    λ i. (record { value = vid i }, record { value = isid i })
  where
    low_part : (v u k l : ℕ) → k ≤ 16777215 → l ≤ 16777215 → v * 4294967296 + k ≡ u * 4294967296 + l → k ≡ l
    low_part v u k l low_k low_l e = omega arith

pair_merged : (x : SystemId) (ms : List Member) (m : Member) → HaveIsid ms → Has m ms → Has (member_for x ms (pair_of m)) (merged x ms)
pair_merged x ms m high h =
    let s = numbered_ascending pair_number (pair_number (pair_of m)) (map pair_of ms) (record { item = pair_of m; has = has_map pair_of m ms h; is = refl }) in
    let n = map_has pair_of s.item ms (has_ascending pair_number s.item (map pair_of ms) s.has) in
    let high_of : (k : Member) → Has k ms → k.isid.value ≤ GREATEST_ISID = λ k there. all_has (λ (m : Member). m.isid.value ≤ GREATEST_ISID) k ms high there in
    let same : s.item ≡ pair_of m = same_pair s.item (pair_of m) (subst (λ (p : Vid × Isid). p.1.value ≤ GREATEST_ISID) (sym n.2) (high_of n.0 n.1)) (high_of m h) s.is in
    subst (λ (p : Vid × Isid). Has (member_for x ms p) (merged x ms)) same (has_map (member_for x ms) s.item (pairs_of ms) s.has)

-- a merged member is that of the pair of something that is attached
pub record IsMade (system : SystemId) (attached : List Attachment) (m : Member) : Type 0 where
  pub by : Attachment
  pub among : Has by attached
  pub is : m ≡ member_for system (map (member_of system) attached) (pair_of (member_of system by))

pub made : (system : SystemId) (attached : List Attachment) (m : Member) → Has m (bridge_members system attached) → IsMade system attached m
made system attached m h =
    let ms : List Member = map (member_of system) attached in
    let f = merged_for system ms m h in
    let a = map_has (member_of system) f.some attached f.has in
    record { by = a.0; among = a.1; is = f.is ∙ ap (λ (k : Member). member_for system ms (pair_of k)) a.2 }

-- whatever is attached makes its bridge the member of its pair
makes : (system : SystemId) (attached : List Attachment) (a : Attachment) → HaveIsids attached → Has a attached → Has (member_for system (map (member_of system) attached) (pair_of (member_of system a))) (bridge_members system attached)
makes system attached a high h = pair_merged system (map (member_of system) attached) (member_of system a) (isids_of_members system attached high) (has_map (member_of system) a attached h)

-- which does what it does
does : (system : SystemId) (attached : List Attachment) (a : Attachment) (flag : Member → Bool) → Has a attached → flag (member_of system a) ≡ true → list_any (λ m. is_of_pair (pair_of (member_of system a)) m && flag m) (map (member_of system) attached) ≡ true
does system attached a flag h is =
    let m : Member = member_of system a in
    has_any (λ n. is_of_pair (pair_of m) n && flag n) m (map (member_of system) attached) (has_map (member_of system) a attached h) (λ i. eq-eqb (pair_number (pair_of m)) (pair_number (pair_of m)) refl i && is i)

-- ---- the members of the wiring

-- each is one of a bridge
pub record IsMemberAt (w : World) (m : Member) : Type 0 where
  pub place : ℕ
  pub within : place < length w.bridges
  pub there : Has m (members_at w place)
  pub made : IsMade (system_at w.bridges place) (attached_at w place) m
  pub system : m.system ≡ system_at w.bridges place

pub member_there : (w : World) (m : Member) → Has m (world_members w) → IsMemberAt w m
member_there w m h =
    let i = flat_map_has (members_at w) m (range_with_len 0 (length w.bridges)) h in
    let by = made (system_at w.bridges i.0) (attached_at w i.0) m i.2 in
    record {
      place = i.0;
      within = omega (arith, place_has 0 (length w.bridges) i.0 i.1);
      there = i.2;
      made = by;
      system = ap (λ (k : Member). k.system) by.is;
    }

pub there_member : (w : World) (i : ℕ) (m : Member) → i < length w.bridges → Has m (members_at w i) → Has m (world_members w)
there_member w i m within h = has_flat_map (members_at w) i m (range_with_len 0 (length w.bridges)) (has_place 0 (length w.bridges) i (omega arith) (omega (arith, within))) h

-- its I-SID is in range
pub member_isid : (w : World) (m : Member) → Sound w → Has m (world_members w) → m.isid.value ≤ GREATEST_ISID
member_isid w m sound h =
    let at = member_there w m h in
    subst (λ (k : Member). k.isid.value ≤ GREATEST_ISID) (sym at.made.is)
    (all_has (λ (a : Attachment). a.isid.value ≤ GREATEST_ISID) at.made.by (attached_at w at.place) (isids_at w at.place sound) at.made.among)

-- where a port of a bridge sends, the bridge sends to its service
pub port_sends : (w : World) (i : ℕ) (a : Attachment) → Sound w → i < length w.bridges → Has a (attached_at w i) → sends a.mode ≡ true → Sends (world_graph w) a.isid a.vid (system_at w.bridges i)
port_sends w i a sound within h is =
    let x : SystemId = system_at w.bridges i in
    let ms : List Member = map (member_of x) (attached_at w i) in
    record {
      member = member_for x ms (pair_of (member_of x a));
      there = contains_from_has _ (world_members w) (there_member w i (member_for x ms (pair_of (member_of x a))) within (makes x (attached_at w i) a (isids_at w i sound) h));
      of_system = refl;
      in_service = refl;
      in_vid = refl;
      transmits = does x (attached_at w i) a (λ m. m.transmit) h is;
    }

-- and where one receives, it receives what is sent to it
pub port_receives : (w : World) (i : ℕ) (a : Attachment) → Sound w → i < length w.bridges → Has a (attached_at w i) → receives a.mode ≡ true → Receives (world_graph w) a.isid a.vid (system_at w.bridges i)
port_receives w i a sound within h is =
    let x : SystemId = system_at w.bridges i in
    let ms : List Member = map (member_of x) (attached_at w i) in
    record {
      member = member_for x ms (pair_of (member_of x a));
      there = contains_from_has _ (world_members w) (there_member w i (member_for x ms (pair_of (member_of x a))) within (makes x (attached_at w i) a (isids_at w i sound) h));
      of_system = refl;
      in_service = refl;
      in_vid = refl;
      receives = does x (attached_at w i) a (λ m. m.receive) h is;
    }

-- The services of a script that is made, and what is attached to them: each is accepted.
use Rattle.std.proofs.Common.{◌≡◌, ◌⊎◌, inl, inr, ℕ, suc, ◌+◌, ◌-◌, ◌%◌, ◌≤◌, ◌<◌, Bool, true, false, true≢false, cond, not, ◌&&◌, ◌||◌, ◌==◌, if◌then◌else◌, List, [], ◌∷◌, ◌++◌, length, Some, None, is_some, refl, sym, ap, ◌∙◌, subst, arith, le_refl}
use Rattle.std.specs.Prelude.{nat_eq, is_none}
use Rattle.std.proofs.lemmas.Bool.{ne_eqb, eq-eqb, eqb-true}
use Rattle.std.specs.List.{AllByRecursion, list_any, filter_map, cons_option}
use Rattle.spb_types.specs.declared.limits.TheConstants.{MOST_CUSTOMER_PORTS, MOST_ISIDS}
use Rattle.spb_types.specs.declared.service.Attachment.{Attachment}
use Rattle.spb_types.specs.Service.{sends}
use Rattle.spb_types.specs.declared.service.Isid.{Isid}
use Rattle.spb_types.specs.declared.service.Mode.TheVariants.{Both}
use Rattle.spb_types.specs.declared.service.Vid.{Vid}
use Rattle.spb_types.specs.declared.service.VidPlan.{VidPlan}
use Rattle.bridge_api.specs.Config.{ArePairwise, different}
use Rattle.bridge_api.specs.Services.{attachment_of}
use Rattle.scenario_maker.specs.Made.{next_of, across, vid_of, isid_of, frame_bytes}
use Rattle.scenario_maker.proofs.Places.{members_are_apart, places_are_taken_once}
use Rattle.spb_world.specs.declared.reason.Reason.TheVariants.{NoSuchName, NameTaken, Range, TooMany, Attached, NotAttached, ReceiveOnly}
use Rattle.spb_world.specs.World.{World, Services, Attachments, vid_of_isid, attachment_at, attached_at, AreAtTwoPorts}
use Rattle.spb_world.specs.Declaring.{has_vid, plan_of}
use Rattle.spb_world.specs.Services.{is_isid_range, isid_refusal, service_of}
use Rattle.spb_world.specs.Attaching.{is_customer_port, is_customer_frame, is_attached, is_sending, isids_of, isids_with, has_isid_room, attach_refusal, entry_refusal, with_one_at}
use Rattle.spb_world.proofs.ListLemmas.{All-map, All-push, length-push}
use Rattle.spb_world.proofs.ServiceLemmas.{found-push}
use Rattle.spb_world.proofs.AttachedLemmas.{any_at, pushed_here, pushed_away, all_with_one}
use Rattle.made_runs.proofs.StandingSteps.{reason_none, or_none, le-yes, and-yes}
use Rattle.made_runs.proofs.MadeRuns.{below_or_last, not_both, lt-yes, none_passes}

-- ---- the services

abbrev pub plans : List VidPlan
plans = plan_of 10 1 ∷ plan_of 20 2 ∷ []

-- the services below number j are declared
pub record AreServed (j : ℕ) (xs : Services) : Type 0 where
  pub count : length xs + 1 ≡ j
  pub all : AllByRecursion (λ x. x.0.value < 1000 + j) xs
  pub found : (i : ℕ) → 1 ≤ i → i < j → (v : Vid) × (vid_of_isid xs (1000 + i) ≡ Some v)

vid_there : (j : ℕ) → has_vid plans (vid_of j) ≡ true
vid_there j = by (j % 2 == 1)
  where
    by : (b : Bool) → has_vid plans (if b then 10 else 20) ≡ true
    by true = refl
    by false = refl

no_isid : (xs : Services) (isid : ℕ) → AllByRecursion (λ x. x.0.value < isid) xs → vid_of_isid xs isid ≡ None
no_isid [] isid all = refl
no_isid (x ∷ xs) isid all =
    let low = all.0 in
    ap (λ b. cond b (Some x.1) (vid_of_isid xs isid)) (ne_eqb isid x.0.value (λ e. absurd (omega arith))) ∙ no_isid xs isid all.1

new_isid : (xs : Services) (isid : ℕ) (v : Vid) → vid_of_isid xs isid ≡ None → vid_of_isid (xs ++ (record { value = isid }, v) ∷ []) isid ≡ Some v
new_isid [] isid v none = ap (λ b. cond b (Some v) None) (eq-eqb isid isid refl)
new_isid (x ∷ xs) isid v none = by (isid == x.0.value) none (new_isid xs isid v)
  where
    by : (b : Bool) → cond b (Some x.1) (vid_of_isid xs isid) ≡ None → (vid_of_isid xs isid ≡ None → vid_of_isid (xs ++ (record { value = isid }, v) ∷ []) isid ≡ Some v)
        → cond b (Some x.1) (vid_of_isid (xs ++ (record { value = isid }, v) ∷ []) isid) ≡ Some v
    by true h rest = absurd cc
    by false h rest = rest h

pub new_service : (w : World) (j : ℕ) → 1 ≤ j → j ≤ 96 → w.vids ≡ plans → AreServed j w.services → isid_refusal w (isid_of j) (vid_of j) ≡ None
unfolding isid_refusal is_isid_range
new_service w j some few vids so =
    let count = so.count in
    or_none _ _ (or_none _ _ (or_none _ _
    (reason_none _ NoSuchName (ap (λ (vs : List VidPlan). has_vid vs (vid_of j)) vids ∙ vid_there j))
    (reason_none _ NameTaken (ap is_none (no_isid w.services (1000 + j) so.all))))
    (reason_none _ Range (and-yes _ _ (le-yes 1 (1000 + j) (omega arith)) (le-yes (1000 + j) 16777215 (omega arith)))))
    (reason_none _ TooMany (lt-yes (length w.services) 4096 (omega arith)))

pub served_more : (xs : Services) (j : ℕ) → 1 ≤ j → AreServed j xs → AreServed (j + 1) (xs ++ service_of (isid_of j) (vid_of j) ∷ [])
served_more xs j some so = record {
  count = let a = so.count in let b = length-push xs new in omega arith;
  all = All-push (λ x. x.0.value < 1000 + (j + 1)) xs new (All-map (λ x. x.0.value < 1000 + j) (λ x. x.0.value < 1000 + (j + 1)) xs (λ x h. omega arith) so.all) (omega arith);
  found = λ i low high. by i low (below_or_last i j high);
}
  where
    new : Isid × Vid
    new = service_of (isid_of j) (vid_of j)

    by : (i : ℕ) → 1 ≤ i → (i < j) ⊎ (i ≡ j) → (v : Vid) × (vid_of_isid (xs ++ service_of (isid_of j) (vid_of j) ∷ []) (1000 + i) ≡ Some v)
    by i low (inl below) = let old = so.found i low below in (old.0, found-push xs new (1000 + i) old.0 old.1)
    by i low (inr same) = (
      record { value = vid_of j },
      subst (λ k. vid_of_isid (xs ++ service_of (isid_of j) (vid_of j) ∷ []) (1000 + k) ≡ Some (record { value = vid_of j })) (sym same)
          (new_isid xs (1000 + j) (record { value = vid_of j }) (no_isid xs (1000 + j) so.all)),
    )

-- ---- what is attached

-- services below three numbers have their own member, that at the next bridge, and that at the one across
pub data IsMember (n a b c : ℕ) (x : ℕ × Attachment) : Type 0 where
  own : (i : ℕ) → 1 ≤ i → i < a → x.0 + 1 ≡ i → x.1.port ≡ 1 → IsMember n a b c x
  behind : (i : ℕ) → 1 ≤ i → i < b → x.0 + 1 ≡ next_of n i → x.1.port ≡ 2 → IsMember n a b c x
  opposite : (i : ℕ) → 1 ≤ i → i < c → x.0 + 1 ≡ across n i → x.1.port ≡ 3 → IsMember n a b c x

pub record AreJoined (n a b c : ℕ) (xs : Attachments) : Type 0 where
  pub all : AllByRecursion (IsMember n a b c) xs
  pub own : (p : ℕ) → p + 1 < a → is_sending xs p 1 ≡ true

-- ---- at most three at each bridge

data IsOfThree (p : ℕ) : Type 0 where
  one : p ≡ 1 → IsOfThree p
  two : p ≡ 2 → IsOfThree p
  three : p ≡ 3 → IsOfThree p

of_three : (n a b c : ℕ) (x : ℕ × Attachment) → IsMember n a b c x → IsOfThree x.1.port
of_three n a b c x (own i low high at port) = one port
of_three n a b c x (behind i low high at port) = two port
of_three n a b c x (opposite i low high at port) = three port

grows : (z y : Bool) → cond y 1 0 ≤ cond (z || y) 1 0
grows true true = omega arith
grows true false = omega arith
grows false y = le_refl _

adds : (z y : Bool) → z ≡ true → y ≡ false → cond (z || y) 1 0 ≡ 1 + cond y 1 0
adds true true h k = absurd (true≢false k)
adds true false h k = refl
adds false y h k = absurd (true≢false (sym h))

-- what stands behind x isn't at its port
behind_apart : (x : ℕ × Attachment) (xs : Attachments) (i p : ℕ) → x.0 ≡ i → x.1.port ≡ p → AllByRecursion (AreAtTwoPorts x) xs → is_attached xs i p ≡ false
behind_apart x xs i p at port apart = none_passes (AreAtTwoPorts x) (λ y. (y.0 == i) && (y.1.port == p)) xs apart (λ y two. not_both y.0 i y.1.port p (λ e f. two (at ∙ sym e) (port ∙ sym f)))

here : (x : ℕ × Attachment) (i p : ℕ) → x.0 ≡ i → x.1.port ≡ p → ((x.0 == i) && (x.1.port == p)) ≡ true
here x i p at port = and-yes _ _ (eq-eqb x.0 i at) (eq-eqb x.1.port p port)

few_at : (i : ℕ) (xs : Attachments) → ArePairwise AreAtTwoPorts xs → AllByRecursion (λ x. IsOfThree x.1.port) xs
    → length (filter_map (attachment_at i) xs) ≤ cond (is_attached xs i 1) 1 0 + cond (is_attached xs i 2) 1 0 + cond (is_attached xs i 3) 1 0
few_at i [] apart ports = omega arith
few_at i (x ∷ xs) apart ports = by (x.0 == i) refl ports.0 (few_at i xs apart.1 ports.1)
  where
    z : ℕ → Bool
    z p = (x.0 == i) && (x.1.port == p)

    at : (x.0 == i) ≡ true → x.0 ≡ i
    at e = eqb-true x.0 i e

    by : (b : Bool) → (x.0 == i) ≡ b → IsOfThree x.1.port
        → length (filter_map (attachment_at i) xs) ≤ cond (is_attached xs i 1) 1 0 + cond (is_attached xs i 2) 1 0 + cond (is_attached xs i 3) 1 0
        → length (cons_option (if b then Some x.1 else None) (filter_map (attachment_at i) xs))
        ≤ cond (((x.0 == i) && (x.1.port == 1)) || is_attached xs i 1) 1 0 + cond (((x.0 == i) && (x.1.port == 2)) || is_attached xs i 2) 1 0 + cond (((x.0 == i) && (x.1.port == 3)) || is_attached xs i 3) 1 0
    by true e (one port) rest =
        let a = adds _ _ (here x i 1 (at e) port) (behind_apart x xs i 1 (at e) port apart.0) in
        let b = grows ((x.0 == i) && (x.1.port == 2)) (is_attached xs i 2) in let c = grows ((x.0 == i) && (x.1.port == 3)) (is_attached xs i 3) in omega arith
    by true e (two port) rest =
        let a = adds _ _ (here x i 2 (at e) port) (behind_apart x xs i 2 (at e) port apart.0) in
        let b = grows ((x.0 == i) && (x.1.port == 1)) (is_attached xs i 1) in let c = grows ((x.0 == i) && (x.1.port == 3)) (is_attached xs i 3) in omega arith
    by true e (three port) rest =
        let a = adds _ _ (here x i 3 (at e) port) (behind_apart x xs i 3 (at e) port apart.0) in
        let b = grows ((x.0 == i) && (x.1.port == 1)) (is_attached xs i 1) in let c = grows ((x.0 == i) && (x.1.port == 2)) (is_attached xs i 2) in omega arith
    by false e port rest =
        let a = grows ((x.0 == i) && (x.1.port == 1)) (is_attached xs i 1) in
        let b = grows ((x.0 == i) && (x.1.port == 2)) (is_attached xs i 2) in let c = grows ((x.0 == i) && (x.1.port == 3)) (is_attached xs i 3) in omega arith

at_most_one : (b : Bool) → cond b 1 0 ≤ 1
at_most_one true = omega arith
at_most_one false = omega arith

few_different : (ns : List ℕ) → length (different ns) ≤ length ns
few_different [] = omega arith
few_different (m ∷ ns) = by (list_any (nat_eq m) ns) (few_different ns)
  where
    by : (b : Bool) → length (different ns) ≤ length ns → length (if b then different ns else m ∷ different ns) ≤ suc (length ns)
    by true h = omega arith
    by false h = omega arith

length-isids : (xs : List Attachment) → length (isids_of xs) ≡ length xs
length-isids [] = refl
length-isids (x ∷ xs) = ap suc (length-isids xs)

isid_room : (w : World) (n a b c place isid : ℕ) → ArePairwise AreAtTwoPorts w.attached → AllByRecursion (IsMember n a b c) w.attached → has_isid_room (attached_at w place) isid ≡ true
unfolding has_isid_room
isid_room w n a b c place isid apart all =
    let few = few_at place w.attached apart (All-map (IsMember n a b c) (λ x. IsOfThree x.1.port) w.attached (of_three n a b c) all) in
    let p = at_most_one (is_attached w.attached place 1) in
    let q = at_most_one (is_attached w.attached place 2) in
    let r = at_most_one (is_attached w.attached place 3) in
    let same = length-isids (attached_at w place) in
    let kinds = few_different (isid ∷ isids_of (attached_at w place)) in
    le-yes (length (isids_with (attached_at w place) isid)) MOST_ISIDS (omega arith)

-- ---- one is attached

pub new_member : (w : World) (n a b c place port isid : ℕ) (v : Vid) → ArePairwise AreAtTwoPorts w.attached → AllByRecursion (IsMember n a b c) w.attached → vid_of_isid w.services isid ≡ Some v
    → 1 ≤ port → port ≤ 3 → ((x : ℕ × Attachment) → IsMember n a b c x → ((x.0 == place) && (x.1.port == port)) ≡ false) → attach_refusal w place port isid ≡ None
unfolding attach_refusal is_customer_port
new_member w n a b c place port isid v apart all found low high free =
    or_none _ _ (or_none _ _ (or_none _ _
    (reason_none _ NoSuchName (ap is_some found))
    (reason_none _ Range (and-yes _ _ (le-yes 1 port low) (le-yes port MOST_CUSTOMER_PORTS (omega arith)))))
    (reason_none _ TooMany (isid_room w n a b c place isid apart all)))
    (reason_none _ Attached (ap not (none_passes (IsMember n a b c) (λ x. (x.0 == place) && (x.1.port == port)) w.attached all free)))

pub own_free : (n j : ℕ) (x : ℕ × Attachment) → 1 ≤ j → IsMember n j j j x → ((x.0 == j - 1) && (x.1.port == 1)) ≡ false
own_free n j x some (own i low high at port) = not_both x.0 (j - 1) x.1.port 1 (λ e f. omega arith)
own_free n j x some (behind i low high at port) = not_both x.0 (j - 1) x.1.port 1 (λ e f. omega (arith, f, port))
own_free n j x some (opposite i low high at port) = not_both x.0 (j - 1) x.1.port 1 (λ e f. omega (arith, f, port))

pub behind_free : (n j : ℕ) (x : ℕ × Attachment) → 4 ≤ n → 1 ≤ j → j ≤ n → IsMember n (j + 1) j j x → ((x.0 == next_of n j - 1) && (x.1.port == 2)) ≡ false
behind_free n j x least some few (own i low high at port) = not_both x.0 (next_of n j - 1) x.1.port 2 (λ e f. omega (arith, f, port))
behind_free n j x least some few (behind i low high at port) =
    let m = members_are_apart n j least (some, few) in
    let y1 : 1 ≤ next_of n j = m.0.0 in
    not_both x.0 (next_of n j - 1) x.1.port 2 (λ e f. let together : next_of n i ≡ next_of n j = omega arith in let same : i ≡ j = (places_are_taken_once n i j (low, omega arith) (some, few)).0 together in absurd (omega arith))
behind_free n j x least some few (opposite i low high at port) = not_both x.0 (next_of n j - 1) x.1.port 2 (λ e f. omega (arith, f, port))

pub opposite_free : (n j : ℕ) (x : ℕ × Attachment) → 4 ≤ n → 1 ≤ j → j ≤ n → IsMember n (j + 1) (j + 1) j x → ((x.0 == across n j - 1) && (x.1.port == 3)) ≡ false
opposite_free n j x least some few (own i low high at port) = not_both x.0 (across n j - 1) x.1.port 3 (λ e f. omega (arith, f, port))
opposite_free n j x least some few (behind i low high at port) = not_both x.0 (across n j - 1) x.1.port 3 (λ e f. omega (arith, f, port))
opposite_free n j x least some few (opposite i low high at port) =
    let m = members_are_apart n j least (some, few) in
    let y1 : 1 ≤ across n j = m.1.0 in
    not_both x.0 (across n j - 1) x.1.port 3 (λ e f. let together : across n i ≡ across n j = omega arith in let same : i ≡ j = (places_are_taken_once n i j (low, omega arith) (some, few)).1 together in absurd (omega arith))

any_kept : {X : Type 0} (p : X → Bool) (xs : List X) (y : X) → list_any p xs ≡ true → list_any p (xs ++ y ∷ []) ≡ true
any_kept p [] y h = absurd (true≢false (sym h))
any_kept p (x ∷ xs) y h = by (p x) h (any_kept p xs y)
  where
    by : (b : Bool) → (b || list_any p xs) ≡ true → (list_any p xs ≡ true → list_any p (xs ++ y ∷ []) ≡ true) → (b || list_any p (xs ++ y ∷ [])) ≡ true
    by true h rest = refl
    by false h rest = rest h

any_new : {X : Type 0} (p : X → Bool) (xs : List X) (y : X) → p y ≡ true → list_any p (xs ++ y ∷ []) ≡ true
any_new p [] y h = ap (λ b. b || false) h
any_new p (x ∷ xs) y h = by (p x) (any_new p xs y h)
  where
    by : (b : Bool) → list_any p (xs ++ y ∷ []) ≡ true → (b || list_any p (xs ++ y ∷ [])) ≡ true
    by true rest = refl
    by false rest = rest

-- whether port 1 of a bridge is attached, and sends
abbrev is_first : Attachment → Bool
is_first a = (a.port == 1) && sends a.mode

-- a bridge whose port 1 sends, when one more is attached
own_kept : (i p : ℕ) (a : Attachment) (xs : Attachments) → is_sending xs p 1 ≡ true → is_sending (with_one_at i a xs) p 1 ≡ true
own_kept i p a xs there = any_at is_first p (with_one_at i a xs) ∙ by (p == i) refl (sym (any_at is_first p xs) ∙ there)
  where
    by : (b : Bool) → (p == i) ≡ b → list_any is_first (filter_map (attachment_at p) xs) ≡ true → list_any is_first (filter_map (attachment_at p) (with_one_at i a xs)) ≡ true
    by true same h =
        let more = subst (λ q. filter_map (attachment_at q) (with_one_at i a xs) ≡ filter_map (attachment_at q) xs ++ a ∷ []) (sym (eqb-true p i same)) (pushed_here i xs a) in
        ap (list_any is_first) more ∙ any_kept is_first (filter_map (attachment_at p) xs) a h
    by false other h = ap (list_any is_first) (pushed_away i p xs a (λ e. true≢false (sym (eq-eqb p i e) ∙ other))) ∙ h

-- and one where this is the one more
own_new : (i : ℕ) (a : Attachment) (xs : Attachments) → is_first a ≡ true → is_sending (with_one_at i a xs) i 1 ≡ true
own_new i a xs is = any_at is_first i (with_one_at i a xs) ∙ (ap (list_any is_first) (pushed_here i xs a) ∙ any_new is_first (filter_map (attachment_at i) xs) a is)

wider : (n a b c a2 b2 c2 : ℕ) (x : ℕ × Attachment) → a ≤ a2 → b ≤ b2 → c ≤ c2 → IsMember n a b c x → IsMember n a2 b2 c2 x
wider n a b c a2 b2 c2 x h k l (own i low high at port) = own i low (omega (arith, high, h)) at port
wider n a b c a2 b2 c2 x h k l (behind i low high at port) = behind i low (omega (arith, high, k)) at port
wider n a b c a2 b2 c2 x h k l (opposite i low high at port) = opposite i low (omega (arith, high, l)) at port

pub own_more : (xs : Attachments) (n j place : ℕ) (isid : Isid) (v : Vid) → 1 ≤ j → place + 1 ≡ j → AreJoined n j j j xs → AreJoined n (j + 1) j j (with_one_at place (attachment_of 1 isid v Both) xs)
own_more xs n j place isid v some at so = record {
  all = all_with_one (IsMember n (j + 1) j j) place (attachment_of 1 isid v Both) xs (All-map (IsMember n j j j) (IsMember n (j + 1) j j) xs (λ x is. wider n j j j (j + 1) j j x (omega arith) (omega arith) (omega arith) is) so.all) (own j some (omega arith) at refl);
  own = λ p h. by p (below_or_last (p + 1) j h);
}
  where
    by : (p : ℕ) → (p + 1 < j) ⊎ (p + 1 ≡ j) → is_sending (with_one_at place (attachment_of 1 isid v Both) xs) p 1 ≡ true
    by p (inl below) = own_kept place p (attachment_of 1 isid v Both) xs (so.own p below)
    by p (inr same) =
        let here : place ≡ p = omega arith in
        subst (λ q. is_sending (with_one_at place (attachment_of 1 isid v Both) xs) q 1 ≡ true) here (own_new place (attachment_of 1 isid v Both) xs refl)

pub behind_more : (xs : Attachments) (n j place : ℕ) (isid : Isid) (v : Vid) → 1 ≤ j → place + 1 ≡ next_of n j → AreJoined n (j + 1) j j xs → AreJoined n (j + 1) (j + 1) j (with_one_at place (attachment_of 2 isid v Both) xs)
behind_more xs n j place isid v some at so = record {
  all = all_with_one (IsMember n (j + 1) (j + 1) j) place (attachment_of 2 isid v Both) xs (All-map (IsMember n (j + 1) j j) (IsMember n (j + 1) (j + 1) j) xs (λ x is. wider n (j + 1) j j (j + 1) (j + 1) j x (omega arith) (omega arith) (omega arith) is) so.all) (behind j some (omega arith) at refl);
  own = λ p h. own_kept place p (attachment_of 2 isid v Both) xs (so.own p h);
}

pub opposite_more : (xs : Attachments) (n j place : ℕ) (isid : Isid) (v : Vid) → 1 ≤ j → place + 1 ≡ across n j → AreJoined n (j + 1) (j + 1) j xs → AreJoined n (j + 1) (j + 1) (j + 1) (with_one_at place (attachment_of 3 isid v Both) xs)
opposite_more xs n j place isid v some at so = record {
  all = all_with_one (IsMember n (j + 1) (j + 1) (j + 1)) place (attachment_of 3 isid v Both) xs (All-map (IsMember n (j + 1) (j + 1) j) (IsMember n (j + 1) (j + 1) (j + 1)) xs (λ x is. wider n (j + 1) (j + 1) j (j + 1) (j + 1) (j + 1) x (omega arith) (omega arith) (omega arith) is) so.all) (opposite j some (omega arith) at refl);
  own = λ p h. own_kept place p (attachment_of 3 isid v Both) xs (so.own p h);
}

-- ---- a customer's frame

-- what sends is attached
sending_attached : (xs : Attachments) (i p : ℕ) → is_sending xs i p ≡ true → is_attached xs i p ≡ true
sending_attached [] i p h = h
sending_attached (x ∷ xs) i p h = by (x.0 == i) (x.1.port == p) (sends x.1.mode) h (sending_attached xs i p)
  where
    by : (b c d : Bool) → ((b && (c && d)) || is_sending xs i p) ≡ true → (is_sending xs i p ≡ true → is_attached xs i p ≡ true) → ((b && c) || is_attached xs i p) ≡ true
    by true true d h rest = refl
    by true false d h rest = rest h
    by false c d h rest = rest h

pub new_frame : (w : World) (place k : ℕ) → is_sending w.attached place 1 ≡ true → entry_refusal w place 1 (frame_bytes k) ≡ None
unfolding entry_refusal is_customer_port is_customer_frame
new_frame w place k there =
    or_none _ _ (or_none _ _ (reason_none _ Range refl) (reason_none _ NotAttached (sending_attached w.attached place 1 there)))
    (reason_none _ ReceiveOnly there)

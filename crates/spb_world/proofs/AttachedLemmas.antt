-- What is attached to one bridge, among all that is attached.
use Rattle.std.proofs.Common.{◌≡◌, ◌≢◌, ◌<◌, ◌≤◌, ◌+◌, ℕ, suc, Bool, true, false, true≢false, not, ◌&&◌, ◌||◌, ◌==◌, List, [], ◌∷◌, ◌++◌, length, map, filter, take, get_or, nat_lt, nat_le, cond, Some, None, if◌then◌else◌, refl, sym, ap, ◌∙◌, arith}
use Rattle.std.specs.Prelude.{nat_eq}
use Rattle.std.specs.List.{AllByRecursion, list_any, filter_map, cons_option}
use Rattle.std.proofs.lemmas.Bool.{eqb-true, eq-eqb, ne_eqb, ltb-true, leb-true, leb-false, lt-ltb, le-ltb, le-leb}
use Rattle.std.proofs.lemmas.Bool.Decides.{nat_tests}
use Rattle.std.proofs.lemmas.List.{take_more}
use Rattle.std.proofs.lemmas.List.Elements.{filter_map-append}
use Rattle.spb_types.specs.Service.{sends}
use Rattle.spb_types.specs.declared.limits.TheConstants.{MOST_ISIDS}
use Rattle.spb_types.specs.declared.service.Attachment.{Attachment}
use Rattle.bridge_api.specs.Config.{ArePairwise, different}
use Rattle.bridge_api.specs.Services.{without_customer_port}
use Rattle.spb_world.specs.World.{World, Attachments, attachment_at, IsAttachedIn, AreAtTwoPorts, Sound}
use Rattle.spb_world.specs.Attaching.{is_attached, is_sending, isids_of, different_isids, isids_with, has_isid_room, IsNewAttachment, with_one_at, with_attachment_at, is_elsewhere, without_attachment_at}
use Rattle.spb_content.proofs.Members.{all_append}
use Rattle.spb_world.proofs.ListLemmas.{All-map}
use Rattle.spb_world.proofs.BoxLemmas.{append-none}

-- those of the bridge at a place
abbrev those : ℕ → Attachments → List Attachment
those i xs = filter_map (attachment_at i) xs

-- ---- tests

-- an I-SID is one of those that are attached
abbrev pub has_isid : List Attachment → ℕ → Bool
has_isid attached isid = list_any (nat_eq isid) (isids_of attached)

pub any_at : (p : Attachment → Bool) (i : ℕ) (xs : Attachments) → list_any (λ x. (x.0 == i) && p x.1) xs ≡ list_any p (filter_map (attachment_at i) xs)
any_at p i [] = refl
any_at p i (x ∷ xs) = by (x.0 == i) (any_at p i xs)
  where
    by : (b : Bool) → list_any (λ y. (y.0 == i) && p y.1) xs ≡ list_any p (filter_map (attachment_at i) xs) → ((b && p x.1) || list_any (λ y. (y.0 == i) && p y.1) xs) ≡ list_any p (cons_option (if b then Some x.1 else None) (filter_map (attachment_at i) xs))
    by true rest = ap (λ (c : Bool). p x.1 || c) rest
    by false rest = rest

-- what sends at a port is attached there
pub sending_attached : (i port : ℕ) (xs : Attachments) → is_sending xs i port ≡ true → is_attached xs i port ≡ true
sending_attached i port [] sending = sending
sending_attached i port (x ∷ xs) sending = by (x.0 == i) (x.1.port == port) (sends x.1.mode) sending (sending_attached i port xs)
  where
    by : (b c d : Bool) → ((b && (c && d)) || is_sending xs i port) ≡ true → (is_sending xs i port ≡ true → is_attached xs i port ≡ true) → ((b && c) || is_attached xs i port) ≡ true
    by true true d is rest = refl
    by true false d is rest = rest is
    by false c d is rest = rest is

any_map : {X Y : Type 0} (p : Y → Bool) (f : X → Y) (xs : List X) → list_any (λ x. p (f x)) xs ≡ list_any p (map f xs)
any_map p f [] = refl
any_map p f (x ∷ xs) = ap (λ (c : Bool). p (f x) || c) (any_map p f xs)

-- so whether something is attached to an I-SID is told by the I-SIDs
isid_any : (isid : ℕ) (xs : List Attachment) → list_any (λ a. nat_eq isid a.isid.value) xs ≡ has_isid xs isid
isid_any isid xs = any_map (nat_eq isid) (λ (a : Attachment). a.isid.value) xs

-- ---- what holds of each

pub all_at : (P : Attachment → Type 0) (i : ℕ) (xs : Attachments) → AllByRecursion (λ x. x.0 ≡ i → P x.1) xs → AllByRecursion P (filter_map (attachment_at i) xs)
all_at P i [] all = tt
all_at P i (x ∷ xs) all = by (x.0 == i) refl (all_at P i xs all.1)
  where
    by : (b : Bool) → (x.0 == i) ≡ b → AllByRecursion P (filter_map (attachment_at i) xs) → AllByRecursion P (cons_option (if b then Some x.1 else None) (filter_map (attachment_at i) xs))
    by true here rest = (all.0 (eqb-true x.0 i here), rest)
    by false away rest = rest

-- ---- one more

-- a filter by place keeps all of a bridge that passes, and nothing of one that doesn't
kept_at : (j : ℕ) (p : ℕ → Bool) (xs : Attachments) → p j ≡ true → those j (filter (λ x. p x.0) xs) ≡ those j xs
kept_at j p [] passes = refl
kept_at j p (x ∷ xs) passes = by (p x.0) refl (kept_at j p xs passes)
  where
    left : Attachments
    left = filter (λ (y : ℕ × Attachment). p y.0) xs

    by : (c : Bool) → p x.0 ≡ c → those j left ≡ those j xs → those j (cond c (x ∷ left) left) ≡ cons_option (attachment_at j x) (those j xs)
    by true here rest = ap (λ (l : List Attachment). cons_option (attachment_at j x) l) rest
    by false fails rest = rest ∙ sym (ap (λ (b : Bool). cons_option (if b then Some x.1 else None) (those j xs)) (ne_eqb x.0 j (λ e. true≢false (sym passes ∙ (sym (ap p e) ∙ fails)))))

none_at : (j : ℕ) (p : ℕ → Bool) (xs : Attachments) → p j ≡ false → those j (filter (λ x. p x.0) xs) ≡ []
none_at j p [] fails = refl
none_at j p (x ∷ xs) fails = by (p x.0) refl (none_at j p xs fails)
  where
    left : Attachments
    left = filter (λ (y : ℕ × Attachment). p y.0) xs

    by : (c : Bool) → p x.0 ≡ c → those j left ≡ [] → those j (cond c (x ∷ left) left) ≡ []
    by true passes rest = ap (λ (b : Bool). cons_option (if b then Some x.1 else None) (those j left)) (ne_eqb x.0 j (λ e. true≢false (sym passes ∙ (ap p e ∙ fails)))) ∙ rest
    by false away rest = rest

-- what is attached at the bridges up to a place, and behind it
abbrev up_to : ℕ → Attachments → Attachments
up_to i xs = filter (λ x. nat_le x.0 i) xs

abbrev behind : ℕ → Attachments → Attachments
behind i xs = filter (λ x. nat_lt i x.0) xs

pub pushed_here : (i : ℕ) (xs : Attachments) (a : Attachment) → filter_map (attachment_at i) (with_one_at i a xs) ≡ filter_map (attachment_at i) xs ++ a ∷ []
pushed_here i xs a =
    filter_map-append (attachment_at i) (up_to i xs) ((i, a) ∷ behind i xs)
    ∙ (ap (λ (l : List Attachment). l ++ cons_option (attachment_at i (i, a)) (those i (behind i xs))) (kept_at i (λ n. nat_le n i) xs (le-leb i i (omega arith)))
    ∙ (ap (λ (b : Bool). those i xs ++ cons_option (if b then Some a else None) (those i (behind i xs))) (eq-eqb i i refl)
    ∙ ap (λ (l : List Attachment). those i xs ++ a ∷ l) (none_at i (λ n. nat_lt i n) xs (le-ltb i i (omega arith)))))

pub pushed_away : (i j : ℕ) (xs : Attachments) (a : Attachment) → j ≢ i → filter_map (attachment_at j) (with_one_at i a xs) ≡ filter_map (attachment_at j) xs
pushed_away i j xs a apart =
    filter_map-append (attachment_at j) (up_to i xs) ((i, a) ∷ behind i xs)
    ∙ (ap (λ (b : Bool). those j (up_to i xs) ++ cons_option (if b then Some a else None) (those j (behind i xs))) (ne_eqb i j (λ e. apart (sym e)))
    ∙ by (nat_le j i) refl)
  where
    by : (b : Bool) → nat_le j i ≡ b → those j (up_to i xs) ++ those j (behind i xs) ≡ those j xs
    by true low =
        ap (λ (l : List Attachment). l ++ those j (behind i xs)) (kept_at j (λ n. nat_le n i) xs low)
        ∙ (ap (λ (l : List Attachment). those j xs ++ l) (none_at j (λ n. nat_lt i n) xs (le-ltb i j (leb-true j i low)))
        ∙ append-none (those j xs))
    by false high =
        ap (λ (l : List Attachment). l ++ those j (behind i xs)) (none_at j (λ n. nat_le n i) xs high)
        ∙ kept_at j (λ n. nat_lt i n) xs (lt-ltb i j (leb-false j i high))

-- ---- one fewer

pub fewer_here : (i port : ℕ) (xs : Attachments) → filter_map (attachment_at i) (filter (is_elsewhere i port) xs) ≡ without_customer_port port (filter_map (attachment_at i) xs)
fewer_here i port [] = refl
fewer_here i port (x ∷ xs) = by (x.0 == i) refl (fewer_here i port xs)
  where
    left : Attachments
    left = filter (is_elsewhere i port) xs

    at : (c : Bool) → (x.0 == i) ≡ true → those i left ≡ without_customer_port port (those i xs) → those i (cond (not (true && c)) (x ∷ left) left) ≡ cond (not c) (x.1 ∷ without_customer_port port (those i xs)) (without_customer_port port (those i xs))
    at true here rest = rest
    at false here rest = ap (λ (b : Bool). cons_option (if b then Some x.1 else None) (those i left)) here ∙ ap (λ (l : List Attachment). x.1 ∷ l) rest

    by : (b : Bool) → (x.0 == i) ≡ b → those i left ≡ without_customer_port port (those i xs) → those i (cond (not (b && (x.1.port == port))) (x ∷ left) left) ≡ without_customer_port port (cons_option (if b then Some x.1 else None) (those i xs))
    by true here rest = at (x.1.port == port) here rest
    by false away rest = ap (λ (b : Bool). cons_option (if b then Some x.1 else None) (those i left)) away ∙ rest

pub fewer_away : (i j port : ℕ) (xs : Attachments) → j ≢ i → filter_map (attachment_at j) (filter (is_elsewhere i port) xs) ≡ filter_map (attachment_at j) xs
fewer_away i j port [] apart = refl
fewer_away i j port (x ∷ xs) apart = by (x.0 == i) refl (fewer_away i j port xs apart)
  where
    left : Attachments
    left = filter (is_elsewhere i port) xs

    other : (x.0 == i) ≡ true → (x.0 == j) ≡ false
    other here = ne_eqb x.0 j (λ e. apart (sym e ∙ eqb-true x.0 i here))

    at : (c : Bool) → (x.0 == j) ≡ false → those j left ≡ those j xs → those j (cond (not (true && c)) (x ∷ left) left) ≡ cons_option (attachment_at j x) (those j xs)
    at true away rest = rest ∙ ap (λ (b : Bool). cons_option (if b then Some x.1 else None) (those j xs)) (sym away)
    at false away rest = ap (λ (l : List Attachment). cons_option (attachment_at j x) l) rest

    by : (b : Bool) → (x.0 == i) ≡ b → those j left ≡ those j xs → those j (cond (not (b && (x.1.port == port))) (x ∷ left) left) ≡ cons_option (attachment_at j x) (those j xs)
    by true here rest = at (x.1.port == port) (other here) rest
    by false away rest = ap (λ (l : List Attachment). cons_option (attachment_at j x) l) rest

-- ---- different I-SIDs

any_or : (b c d : Bool) → ((b || c) || d) ≡ (b || (c || d))
any_or true c d = refl
any_or false c d = refl

any_push : (k n : ℕ) (ks : List ℕ) → list_any (nat_eq k) (ks ++ n ∷ []) ≡ (list_any (nat_eq k) ks || nat_eq k n)
any_push k n [] = by (nat_eq k n)
  where
    by : (b : Bool) → (b || false) ≡ b
    by true = refl
    by false = refl
any_push k n (l ∷ ks) = ap (λ (b : Bool). nat_eq k l || b) (any_push k n ks) ∙ sym (any_or (nat_eq k l) (list_any (nat_eq k) ks) (nat_eq k n))

pub turned : (n m : ℕ) (b : Bool) → nat_eq m n ≡ b → nat_eq n m ≡ b
turned n m true same = eq-eqb n m (sym (eqb-true m n same))
turned n m false apart = ne_eqb n m (λ e. true≢false (sym (eq-eqb m n (sym e)) ∙ apart))

-- the lengths, by what of the numbers is among the others and whether the two are one
lengths : (n m : ℕ) (a b e : Bool) (rest more : List ℕ) → (e ≡ true → a ≡ b) → length more ≡ length (if b then rest else n ∷ rest) → length (if a || e then more else m ∷ more) ≡ length (if e || b then (if a then rest else m ∷ rest) else n ∷ (if a then rest else m ∷ rest))
lengths n m true true true rest more same is = is
lengths n m false false true rest more same is = is
lengths n m true false true rest more same is = absurd (true≢false (same refl))
lengths n m false true true rest more same is = absurd (true≢false (sym (same refl)))
lengths n m true true false rest more same is = is
lengths n m true false false rest more same is = is
lengths n m false true false rest more same is = ap suc is
lengths n m false false false rest more same is = ap suc is

-- a number more goes last, or first
more_different : (n : ℕ) (ns : List ℕ) → length (different (ns ++ n ∷ [])) ≡ length (different (n ∷ ns))
more_different n [] = refl
more_different n (m ∷ ns) = by (nat_eq m n) refl (more_different n ns)
  where
    by : (e : Bool) → nat_eq m n ≡ e → length (different (ns ++ n ∷ [])) ≡ length (different (n ∷ ns)) → length (different ((m ∷ ns) ++ n ∷ [])) ≡ length (different (n ∷ m ∷ ns))
    by e is rest =
        let alike : e ≡ true → list_any (nat_eq m) ns ≡ list_any (nat_eq n) ns = λ t. ap (λ (k : ℕ). list_any (nat_eq k) ns) (eqb-true m n (is ∙ t)) in
        ap (λ (b : Bool). length (if b then different (ns ++ n ∷ []) else m ∷ different (ns ++ n ∷ []))) (any_push m n ns ∙ ap (λ (b : Bool). list_any (nat_eq m) ns || b) is)
        ∙ (lengths n m (list_any (nat_eq m) ns) (list_any (nat_eq n) ns) e (different ns) (different (ns ++ n ∷ [])) alike rest
        ∙ ap (λ (b : Bool). length (if b || list_any (nat_eq n) ns then different (m ∷ ns) else n ∷ different (m ∷ ns))) (sym (turned n m e is)))

map-push : {X Y : Type 0} (f : X → Y) (xs : List X) (x : X) → map f (xs ++ x ∷ []) ≡ map f xs ++ f x ∷ []
map-push f [] x = refl
map-push f (y ∷ ys) x = ap (λ l. f y ∷ l) (map-push f ys x)

-- so it is of the I-SIDs that are attached, with one more
pub isids_pushed : (attached : List Attachment) (a : Attachment) → length (different (map (λ (x : Attachment). x.isid.value) (attached ++ a ∷ []))) ≡ length (isids_with attached a.isid.value)
isids_pushed attached a = ap (λ (ns : List ℕ). length (different ns)) (map-push (λ (x : Attachment). x.isid.value) attached a) ∙ more_different a.isid.value (isids_of attached)

pub add_one : (n : ℕ) → suc n ≡ n + 1
add_one n = omega arith

-- where it is new, it is one more
pub isid_new : (attached : List Attachment) (isid : ℕ) → has_isid attached isid ≡ false → length (isids_with attached isid) ≡ length (different_isids attached) + 1
isid_new attached isid new = ap (λ (b : Bool). length (if b then different_isids attached else isid ∷ different_isids attached)) new ∙ add_one (length (different_isids attached))

pub isid_old : (attached : List Attachment) (isid : ℕ) → has_isid attached isid ≡ true → length (isids_with attached isid) ≡ length (different_isids attached)
isid_old attached isid old = ap (λ (b : Bool). length (if b then different_isids attached else isid ∷ different_isids attached)) old

-- one thing more that is attached
isids_more : (attached : List Attachment) (a : Attachment) (first : Bool) → first ≡ not (has_isid attached a.isid.value) → length (different_isids (attached ++ a ∷ [])) ≡ (if first then length (different_isids attached) + 1 else length (different_isids attached))
isids_more attached a first is =
    isids_pushed attached a
    ∙ (by (has_isid attached a.isid.value) refl
    ∙ ap (λ (f : Bool). if f then length (different_isids attached) + 1 else length (different_isids attached)) (sym is))
  where
    by : (h : Bool) → has_isid attached a.isid.value ≡ h → length (isids_with attached a.isid.value) ≡ (if not h then length (different_isids attached) + 1 else length (different_isids attached))
    by true old = isid_old attached a.isid.value old
    by false new = isid_new attached a.isid.value new

pub count_more : (k : ℕ) (xs : List Attachment) (d : Attachment) (first : Bool) (old new : ℕ) → k < length xs → first ≡ not (list_any (λ a. nat_eq (get_or xs k d).isid.value a.isid.value) (take k xs)) → old ≡ length (different_isids (take k xs)) → new ≡ (if first then old + 1 else old) → new ≡ length (different_isids (take (k + 1) xs))
count_more k xs d first old new low first_is old_is new_is =
    new_is
    ∙ (ap (λ (n : ℕ). if first then n + 1 else n) old_is
    ∙ (sym (isids_more (take k xs) (get_or xs k d) first (first_is ∙ ap not (isid_any (get_or xs k d).isid.value (take k xs))))
    ∙ ap (λ (l : List Attachment). length (different_isids l)) (sym (take_more xs k d low))))

-- of fewer ports there are fewer I-SIDs
different_few : (ns : List ℕ) → length (different ns) ≤ length ns
different_few [] = omega arith
different_few (n ∷ ns) = by (list_any (nat_eq n) ns) (different_few ns)
  where
    by : (b : Bool) → length (different ns) ≤ length ns → length (if b then different ns else n ∷ different ns) ≤ length (n ∷ ns)
    by true few = omega (arith, few)
    by false few = omega (arith, few)

isids_few : (attached : List Attachment) → length (isids_of attached) ≡ length attached
isids_few [] = refl
isids_few (a ∷ attached) = ap suc (isids_few attached)

pub room_few : (attached : List Attachment) (isid count : ℕ) → count ≡ length attached → count < MOST_ISIDS → true ≡ has_isid_room attached isid
unfolding has_isid_room
room_few attached isid count is few = sym (le-leb _ _ (omega (arith, is, few, different_few (isid ∷ isids_of attached), isids_few attached)))

-- whether there is room, by how many there are
pub room_old : (attached : List Attachment) (isid count : ℕ) (member : Bool) → member ≡ list_any (λ a. nat_eq isid a.isid.value) attached → member ≡ true → count ≡ length (different_isids attached) → nat_le count MOST_ISIDS ≡ has_isid_room attached isid
unfolding has_isid_room
room_old attached isid count member is old count_is =
    ap (λ (n : ℕ). nat_le n MOST_ISIDS) (count_is ∙ sym (isid_old attached isid (sym (isid_any isid attached) ∙ (sym is ∙ old))))

lt_le : (a b : ℕ) → nat_lt a b ≡ nat_le (a + 1) b
lt_le a b = grind (arith, nat_tests)

pub room_new : (attached : List Attachment) (isid count : ℕ) (member : Bool) → member ≡ list_any (λ a. nat_eq isid a.isid.value) attached → member ≡ false → count ≡ length (different_isids attached) → nat_lt count MOST_ISIDS ≡ has_isid_room attached isid
unfolding has_isid_room
room_new attached isid count member is new count_is =
    lt_le count MOST_ISIDS
    ∙ ap (λ (n : ℕ). nat_le n MOST_ISIDS) (ap (λ (n : ℕ). n + 1) count_is ∙ sym (isid_new attached isid (sym (isid_any isid attached) ∙ (sym is ∙ new))))

-- ---- what is declared stays sound

all_fewer : {X : Type 0} (P : X → Type 0) (p : X → Bool) (xs : List X) → AllByRecursion P xs → AllByRecursion P (filter p xs)
all_fewer P p [] all = tt
all_fewer P p (x ∷ xs) all = by (p x) (all_fewer P p xs all.1)
  where
    by : (b : Bool) → AllByRecursion P (filter p xs) → AllByRecursion P (cond b (x ∷ filter p xs) (filter p xs))
    by true rest = (all.0, rest)
    by false rest = rest

all_pass : {X : Type 0} (p : X → Bool) (xs : List X) → AllByRecursion (λ x. p x ≡ true) (filter p xs)
all_pass p [] = tt
all_pass p (x ∷ xs) = by (p x) refl (all_pass p xs)
  where
    by : (b : Bool) → p x ≡ b → AllByRecursion (λ y. p y ≡ true) (filter p xs) → AllByRecursion (λ y. p y ≡ true) (cond b (x ∷ filter p xs) (filter p xs))
    by true is rest = (is, rest)
    by false is rest = rest

pairwise_fewer : {X : Type 0} (R : X → X → Type 0) (p : X → Bool) (xs : List X) → ArePairwise R xs → ArePairwise R (filter p xs)
pairwise_fewer R p [] apart = tt
pairwise_fewer R p (x ∷ xs) apart = by (p x) (pairwise_fewer R p xs apart.1)
  where
    by : (b : Bool) → ArePairwise R (filter p xs) → ArePairwise R (cond b (x ∷ filter p xs) (filter p xs))
    by true rest = (all_fewer (R x) p xs apart.0, rest)
    by false rest = rest

-- one between two lists
pairwise_between : {X : Type 0} (R : X → X → Type 0) (xs : List X) (y : X) (zs : List X) → ArePairwise R xs → AllByRecursion (λ x. R x y) xs → AllByRecursion (λ x. AllByRecursion (R x) zs) xs → AllByRecursion (R y) zs → ArePairwise R zs → ArePairwise R (xs ++ y ∷ zs)
pairwise_between R [] y zs first new both next last = (next, last)
pairwise_between R (x ∷ xs) y zs first new both next last = (all_append (R x) xs (y ∷ zs) first.0 (new.0, both.0), pairwise_between R xs y zs first.1 new.1 both.1 next last)

-- bridges up to a place and behind it are different
two_ports : (i : ℕ) (xs : Attachments) (x : ℕ × Attachment) → nat_le x.0 i ≡ true → AllByRecursion (AreAtTwoPorts x) (behind i xs)
two_ports i xs x low =
    All-map (λ (y : ℕ × Attachment). nat_lt i y.0 ≡ true) (AreAtTwoPorts x) (behind i xs)
    (λ y high same. absurd (omega (arith, leb-true x.0 i low, ltb-true i y.0 high, same))) (all_pass (λ (y : ℕ × Attachment). nat_lt i y.0) xs)

-- what holds of each, and of one more
pub all_with_one : (P : ℕ × Attachment → Type 0) (i : ℕ) (a : Attachment) (xs : Attachments) → AllByRecursion P xs → P (i, a) → AllByRecursion P (with_one_at i a xs)
all_with_one P i a xs all new =
    all_append P (up_to i xs) ((i, a) ∷ behind i xs) (all_fewer P (λ (x : ℕ × Attachment). nat_le x.0 i) xs all) (new, all_fewer P (λ (x : ℕ × Attachment). nat_lt i x.0) xs all)

apart_with_one : (i : ℕ) (a : Attachment) (xs : Attachments) → ArePairwise AreAtTwoPorts xs → AllByRecursion (λ x. AreAtTwoPorts x (i, a)) xs → ArePairwise AreAtTwoPorts (with_one_at i a xs)
apart_with_one i a xs apart new =
    let low : ℕ × Attachment → Bool = λ x. nat_le x.0 i in
    let high : ℕ × Attachment → Bool = λ x. nat_lt i x.0 in
    pairwise_between AreAtTwoPorts (up_to i xs) (i, a) (behind i xs) (pairwise_fewer AreAtTwoPorts low xs apart)
    (all_fewer (λ (x : ℕ × Attachment). AreAtTwoPorts x (i, a)) low xs new)
    (All-map (λ (x : ℕ × Attachment). nat_le x.0 i ≡ true) (λ (x : ℕ × Attachment). AllByRecursion (AreAtTwoPorts x) (behind i xs)) (up_to i xs) (two_ports i xs) (all_pass low xs))
    (two_ports i xs (i, a) (le-leb i i (omega arith))) (pairwise_fewer AreAtTwoPorts high xs apart)

pub Sound-with_attachment : (w : World) (i : ℕ) (a : Attachment) → Sound w → IsNewAttachment w (i, a) → Sound (with_attachment_at w i a)
unfolding with_attachment_at
Sound-with_attachment w i a sound new = record {
  few = sound.few;
  ports = sound.ports;
  systems = sound.systems;
  links = sound.links;
  links_apart = sound.links_apart;
  plans = sound.plans;
  few_vids = sound.few_vids;
  each_vid = sound.each_vid;
  services = sound.services;
  services_apart = sound.services_apart;
  attached = all_with_one (IsAttachedIn w.bridges w.services) i a w.attached sound.attached new.attached;
  attached_apart = apart_with_one i a w.attached sound.attached_apart new.apart;
}

pub Sound-without_attachment : (w : World) (i port : ℕ) → Sound w → Sound (without_attachment_at w i port)
unfolding without_attachment_at
Sound-without_attachment w i port sound = record {
  few = sound.few;
  ports = sound.ports;
  systems = sound.systems;
  links = sound.links;
  links_apart = sound.links_apart;
  plans = sound.plans;
  few_vids = sound.few_vids;
  each_vid = sound.each_vid;
  services = sound.services;
  services_apart = sound.services_apart;
  attached = all_fewer (IsAttachedIn w.bridges w.services) (is_elsewhere i port) w.attached sound.attached;
  attached_apart = pairwise_fewer AreAtTwoPorts (is_elsewhere i port) w.attached sound.attached_apart;
}

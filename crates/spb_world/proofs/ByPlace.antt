-- Lists of what is attached, one for each bridge, and all that is attached by place.
use Rattle.std.proofs.Common.{◌≡◌, ◌≢◌, ◌<◌, ◌≤◌, ◌+◌, ℕ, zero, suc, Bool, true, false, not, ◌&&◌, ◌==◌, List, [], ◌∷◌, ◌++◌, length, map, filter, nat_lt, nat_le, cond, Some, None, if◌then◌else◌, refl, sym, ap, ◌∙◌, subst, arith}
use Rattle.std.specs.List.{AllByRecursion, filter_map, cons_option, slice_index_or}
use Rattle.std.proofs.lemmas.Bool.{eq-eqb, ne_eqb, lt-ltb, le-ltb, le-leb, lt-leb}
use Rattle.std.proofs.lemmas.List.Elements.{filter_map-append, filter-append}
use Rattle.spb_types.specs.Places.{changed_at}
use Rattle.spb_types.specs.declared.service.Attachment.{Attachment}
use Rattle.bridge_api.specs.Services.{without_customer_port}
use Rattle.spb_content.proofs.Members.{all_append}
use Rattle.spb_world.specs.World.{Attachments, attachment_at, by_place_from, by_place}
use Rattle.spb_world.specs.Attaching.{with_one_at, is_elsewhere}
use Rattle.spb_world.proofs.ListLemmas.{All-map}
use Rattle.spb_world.proofs.BoxLemmas.{append-none}

-- those of the bridge at a place
abbrev those : ℕ → Attachments → List Attachment
those i xs = filter_map (attachment_at i) xs

-- what is attached at one bridge, with its place
abbrev tagged : ℕ → List Attachment → Attachments
tagged n attached = map (λ a. (n, a)) attached

-- ---- those of one bridge are its list

here : (n : ℕ) (attached : List Attachment) → those n (tagged n attached) ≡ attached
here n [] = refl
here n (a ∷ attached) = ap (λ (b : Bool). cons_option (if b then Some a else None) (those n (tagged n attached))) (eq-eqb n n refl) ∙ ap (λ l. a ∷ l) (here n attached)

away : (k n : ℕ) (attached : List Attachment) → n ≢ k → those k (tagged n attached) ≡ []
away k n [] apart = refl
away k n (a ∷ attached) apart = ap (λ (b : Bool). cons_option (if b then Some a else None) (those k (tagged n attached))) (ne_eqb n k apart) ∙ away k n attached apart

before : (k n : ℕ) (lists : List (List Attachment)) → k < n → those k (by_place_from n lists) ≡ []
before k n [] low = refl
before k n (attached ∷ lists) low =
    filter_map-append (attachment_at k) (tagged n attached) (by_place_from (n + 1) lists)
    ∙ (ap (λ l. l ++ those k (by_place_from (n + 1) lists)) (away k n attached (λ e. absurd (omega (arith, low, e))))
    ∙ before k (n + 1) lists (omega (arith, low)))

at_from : (n i k : ℕ) (lists : List (List Attachment)) → k ≡ n + i → those k (by_place_from n lists) ≡ slice_index_or lists i []
at_from n zero k [] is = refl
at_from n (suc i) k [] is = refl
at_from n zero k (attached ∷ lists) is =
    let same : n ≡ k = omega (arith, is) in
    filter_map-append (attachment_at k) (tagged n attached) (by_place_from (n + 1) lists)
    ∙ (ap (λ l. l ++ those k (by_place_from (n + 1) lists)) (subst (λ m. those m (tagged n attached) ≡ attached) same (here n attached))
    ∙ (ap (λ l. attached ++ l) (before k (n + 1) lists (omega (arith, is)))
    ∙ append-none attached))
at_from n (suc i) k (attached ∷ lists) is =
    filter_map-append (attachment_at k) (tagged n attached) (by_place_from (n + 1) lists)
    ∙ (ap (λ l. l ++ those k (by_place_from (n + 1) lists)) (away k n attached (λ e. absurd (omega (arith, is, e))))
    ∙ at_from (n + 1) i k lists (omega (arith, is)))

pub those_are : (i : ℕ) (lists : List (List Attachment)) → filter_map (attachment_at i) (by_place lists) ≡ slice_index_or lists i []
those_are i lists = at_from 0 i i lists (omega arith)

-- ---- what is said of the places

all_tagged : (P : ℕ → Type 0) (n : ℕ) (attached : List Attachment) → P n → AllByRecursion (λ x. P x.0) (tagged n attached)
all_tagged P n [] is = tt
all_tagged P n (a ∷ attached) is = (is, all_tagged P n attached is)

pub all_from : (P : ℕ → Type 0) (n : ℕ) (lists : List (List Attachment)) → ((m : ℕ) → n ≤ m → P m) → AllByRecursion (λ x. P x.0) (by_place_from n lists)
all_from P n [] each = tt
all_from P n (attached ∷ lists) each =
    all_append (λ x. P x.0) (tagged n attached) (by_place_from (n + 1) lists) (all_tagged P n attached (each n (omega arith)))
    (all_from P (n + 1) lists (λ m low. each m (omega (arith, low))))

filter_all : {X : Type 0} (p : X → Bool) (xs : List X) → AllByRecursion (λ x. p x ≡ true) xs → filter p xs ≡ xs
filter_all p [] all = refl
filter_all p (x ∷ xs) all = ap (λ (b : Bool). cond b (x ∷ filter p xs) (filter p xs)) all.0 ∙ ap (λ l. x ∷ l) (filter_all p xs all.1)

filter_none : {X : Type 0} (p : X → Bool) (xs : List X) → AllByRecursion (λ x. p x ≡ false) xs → filter p xs ≡ []
filter_none p [] none = refl
filter_none p (x ∷ xs) none = ap (λ (b : Bool). cond b (x ∷ filter p xs) (filter p xs)) none.0 ∙ filter_none p xs none.1

-- ---- one more

-- it goes behind what is at its bridge and before it
behind : (k : ℕ) (a : Attachment) (xs ys : Attachments) → AllByRecursion (λ x. nat_le x.0 k ≡ true) xs → AllByRecursion (λ x. nat_lt k x.0 ≡ false) xs → with_one_at k a (xs ++ ys) ≡ xs ++ with_one_at k a ys
behind k a [] ys low high = refl
behind k a (x ∷ xs) ys low high =
    let up : Attachments = filter (λ (y : ℕ × Attachment). nat_le y.0 k) (xs ++ ys) in
    let on : Attachments = filter (λ (y : ℕ × Attachment). nat_lt k y.0) (xs ++ ys) in
    (λ i. cond (low.0 i) (x ∷ up) up ++ (k, a) ∷ cond (high.0 i) (x ∷ on) on) ∙ ap (λ l. x ∷ l) (behind k a xs ys low.1 high.1)

-- and before what is behind it
ahead : (k : ℕ) (a : Attachment) (ys : Attachments) → AllByRecursion (λ x. nat_le x.0 k ≡ false) ys → AllByRecursion (λ x. nat_lt k x.0 ≡ true) ys → with_one_at k a ys ≡ (k, a) ∷ ys
ahead k a ys low high =
    ap (λ (l : Attachments). l ++ (k, a) ∷ filter (λ (y : ℕ × Attachment). nat_lt k y.0) ys) (filter_none (λ (y : ℕ × Attachment). nat_le y.0 k) ys low)
    ∙ ap (λ (l : Attachments). (k, a) ∷ l) (filter_all (λ (y : ℕ × Attachment). nat_lt k y.0) ys high)

pushed : (n k : ℕ) (attached : List Attachment) (a : Attachment) (rest : Attachments) → k ≡ n → tagged n (attached ++ a ∷ []) ++ rest ≡ tagged n attached ++ (k, a) ∷ rest
pushed n k [] a rest is = ap (λ (m : ℕ). (m, a) ∷ rest) (sym is)
pushed n k (b ∷ attached) a rest is = ap (λ (l : Attachments). (n, b) ∷ l) (pushed n k attached a rest is)

more_from : (n i k : ℕ) (a : Attachment) (lists : List (List Attachment)) → k ≡ n + i → i < length lists → by_place_from n (changed_at (λ l. l ++ a ∷ []) lists i) ≡ with_one_at k a (by_place_from n lists)
more_from n i k a [] is within = absurd (omega (arith, within))
more_from n zero k a (attached ∷ lists) is within =
    let rest : Attachments = by_place_from (n + 1) lists in
    pushed n k attached a rest (omega (arith, is))
    ∙ (ap (λ (l : Attachments). tagged n attached ++ l) (sym (ahead k a rest (all_from (λ m. nat_le m k ≡ false) (n + 1) lists (λ m low. lt-leb m k (omega (arith, is, low)))) (all_from (λ m. nat_lt k m ≡ true) (n + 1) lists (λ m low. lt-ltb k m (omega (arith, is, low))))))
    ∙ sym (behind k a (tagged n attached) rest (all_tagged (λ m. nat_le m k ≡ true) n attached (le-leb n k (omega (arith, is)))) (all_tagged (λ m. nat_lt k m ≡ false) n attached (le-ltb k n (omega (arith, is))))))
more_from n (suc i) k a (attached ∷ lists) is within =
    let rest : Attachments = by_place_from (n + 1) lists in
    ap (λ (l : Attachments). tagged n attached ++ l) (more_from (n + 1) i k a lists (omega (arith, is)) (omega (arith, within)))
    ∙ sym (behind k a (tagged n attached) rest (all_tagged (λ m. nat_le m k ≡ true) n attached (le-leb n k (omega (arith, is)))) (all_tagged (λ m. nat_lt k m ≡ false) n attached (le-ltb k n (omega (arith, is)))))

pub with_one_more : (i : ℕ) (a : Attachment) (lists : List (List Attachment)) → i < length lists → by_place (changed_at (λ l. l ++ a ∷ []) lists i) ≡ with_one_at i a (by_place lists)
with_one_more i a lists within = more_from 0 i i a lists (omega arith) within

-- ---- one fewer

fewer : (n k port : ℕ) (attached : List Attachment) (rest : Attachments) → n ≡ k → tagged n (without_customer_port port attached) ++ filter (is_elsewhere k port) rest ≡ filter (is_elsewhere k port) (tagged n attached ++ rest)
fewer n k port [] rest same = refl
fewer n k port (a ∷ attached) rest same =
    by (a.port == port) (fewer n k port attached rest same)
    ∙ ap (λ (b : Bool). cond (not (b && (a.port == port))) ((n, a) ∷ left) left) (sym (eq-eqb n k same))
  where
    left : Attachments
    left = filter (is_elsewhere k port) (tagged n attached ++ rest)

    by : (c : Bool) → tagged n (without_customer_port port attached) ++ filter (is_elsewhere k port) rest ≡ left → tagged n (cond (not c) (a ∷ without_customer_port port attached) (without_customer_port port attached)) ++ filter (is_elsewhere k port) rest ≡ cond (not (true && c)) ((n, a) ∷ left) left
    by true is = is
    by false is = ap (λ (l : Attachments). (n, a) ∷ l) is

elsewhere : (k port : ℕ) (xs : Attachments) → AllByRecursion (λ x. (x.0 == k) ≡ false) xs → filter (is_elsewhere k port) xs ≡ xs
elsewhere k port xs none =
    filter_all (is_elsewhere k port) xs (All-map (λ (x : ℕ × Attachment). (x.0 == k) ≡ false) (λ (x : ℕ × Attachment). is_elsewhere k port x ≡ true) xs (λ x e. ap (λ (b : Bool). not (b && (x.1.port == port))) e) none)

fewer_from : (n i k port : ℕ) (lists : List (List Attachment)) → k ≡ n + i → by_place_from n (changed_at (without_customer_port port) lists i) ≡ filter (is_elsewhere k port) (by_place_from n lists)
fewer_from n i k port [] is = refl
fewer_from n zero k port (attached ∷ lists) is =
    let rest : Attachments = by_place_from (n + 1) lists in
    ap (λ (l : Attachments). tagged n (without_customer_port port attached) ++ l) (sym (elsewhere k port rest (all_from (λ m. (m == k) ≡ false) (n + 1) lists (λ m low. ne_eqb m k (λ e. absurd (omega (arith, is, low, e)))))))
    ∙ fewer n k port attached rest (omega (arith, is))
fewer_from n (suc i) k port (attached ∷ lists) is =
    let rest : Attachments = by_place_from (n + 1) lists in
    ap (λ (l : Attachments). tagged n attached ++ l) (fewer_from (n + 1) i k port lists (omega (arith, is)))
    ∙ (ap (λ (l : Attachments). l ++ filter (is_elsewhere k port) rest) (sym (elsewhere k port (tagged n attached) (all_tagged (λ m. (m == k) ≡ false) n attached (ne_eqb n k (λ e. absurd (omega (arith, is, e)))))))
    ∙ sym (filter-append (is_elsewhere k port) (tagged n attached) rest))

pub with_one_fewer : (i port : ℕ) (lists : List (List Attachment)) → by_place (changed_at (without_customer_port port) lists i) ≡ filter (is_elsewhere i port) (by_place lists)
with_one_fewer i port lists = fewer_from 0 i i port lists (omega arith)

-- ---- one bridge more

grown_from : (n : ℕ) (lists : List (List Attachment)) → by_place_from n (lists ++ [] ∷ []) ≡ by_place_from n lists
grown_from n [] = refl
grown_from n (attached ∷ lists) = ap (λ (l : Attachments). tagged n attached ++ l) (grown_from (n + 1) lists)

pub with_one_bridge : (lists : List (List Attachment)) → by_place (lists ++ [] ∷ []) ≡ by_place lists
with_one_bridge lists = grown_from 0 lists

-- ---- one list of them is changed

pub length-changed : {X : Type 0} (f : X → X) (xs : List X) (i : ℕ) → length (changed_at f xs i) ≡ length xs
length-changed f [] i = refl
length-changed f (x ∷ xs) zero = refl
length-changed f (x ∷ xs) (suc i) = ap suc (length-changed f xs i)

pub changed-same : {X : Type 0} (xs : List X) (i : ℕ) → changed_at (λ x. x) xs i ≡ xs
changed-same [] i = refl
changed-same (x ∷ xs) zero = refl
changed-same (x ∷ xs) (suc i) = ap (λ l. x ∷ l) (changed-same xs i)

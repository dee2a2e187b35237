-- The order of keys: it is total, and one bridge more keeps it; masked ids of different bridges differ.
use Rattle.std.proofs.Common.{◌≡◌, ℕ, suc, ◌+◌, ◌<◌, ◌≤◌, Bool, true, false, ◌⊎◌, inl, inr, List, [], ◌∷◌, ◌++◌, length, map, if◌then◌else◌, refl, sym, ap, ◌∙◌, subst, arith, lt-ltb, Ordering, Less, Equal, Greater, nat_cmp, bit_xor}
use Rattle.std.specs.Ordering.{ordering_then, ordering_reverse, MatchOrdering}
use Rattle.std.specs.Int.Bits.{xor_assoc, xor_self, xor_zero_r}
use Rattle.std.specs.Cmp.{IsTotalOrder}
use Rattle.std.specs.Cmp.Lexicographic.{slice_cmp}
use Rattle.std.proofs.lemmas.Cmp.{nat_cmp_total, nat_list_cmp_total, lists_total, then_total, on_total, tied_itself, ranked}
use Rattle.spb_types.specs.Address.{same_system, masked, bridge_id_bytes}
use Rattle.spb_types.specs.Graph.{IsAmong}
use Rattle.spb_types.specs.declared.address.SystemId.{SystemId}
use Rattle.spb_types.specs.declared.address.BridgeId.{BridgeId}
use Rattle.spb_types.specs.declared.graph.GraphBridge.{GraphBridge}
use Rattle.spb_types.specs.declared.graph.Graph.{Graph}
use Rattle.ect_trees.specs.declared.key.PathKey.{PathKey}
use Rattle.ect_trees.specs.Path.{IsPath, cost_of, hops_of}
use Rattle.ect_trees.specs.Key.{id_cmp, bridge_id_among, masked_id, inserted, sorted_ids, key_of, key_cmp, IsBelow}
use Rattle.ect_trees.proofs.Among.{same_is}
use Rattle.ect_trees.proofs.Placing.{nat_tied, then_parts, lists_tied, ids_tied, inserted_keeps_order, length-sorted}
use Rattle.ect_trees.proofs.Members.{Has, sorted_has, has_sorted}
use Rattle.ect_trees.proofs.Walks.{step, cost-snoc, hops-snoc, ids-snoc}

pub keys_total : IsTotalOrder key_cmp
keys_total = then_total (on_total (λ (k : PathKey). k.cost) nat_cmp_total) (then_total (on_total (λ (k : PathKey). k.hops) nat_cmp_total) (on_total (λ (k : PathKey). k.ids) (lists_total nat_list_cmp_total)))

pub keys_tied : (k l : PathKey) → key_cmp k l ≡ Equal → k ≡ l
keys_tied k l e =
    let costs = then_parts (nat_cmp k.cost l.cost) _ e in
    let hops = then_parts (nat_cmp k.hops l.hops) _ costs.1 in
    let c : k.cost ≡ l.cost = nat_tied k.cost l.cost costs.0 in
    let h : k.hops ≡ l.hops = nat_tied k.hops l.hops hops.0 in
    let i : k.ids ≡ l.ids = lists_tied id_cmp ids_tied k.ids l.ids hops.1 in
    λ j. record { cost = c j; hops = h j; ids = i j }

pub not_below_itself : (k : PathKey) → IsBelow k k → ⊥
not_below_itself k h = let e : Less ≡ Equal = sym h ∙ tied_itself keys_total k in absurd (cc)

pub not_below_both : (k l : PathKey) → IsBelow k l → IsBelow l k → ⊥
not_below_both k l h i = let e : Less ≡ Greater = sym h ∙ (keys_total.antisymm k l ∙ ap ordering_reverse i) in absurd (cc)

pub below_trans : (k l m : PathKey) → IsBelow k l → IsBelow l m → IsBelow k m
below_trans k l m = keys_total.trans k l m

-- of two keys one is below the other, or they are equal
pub below_cases : (k l : PathKey) → IsBelow k l ⊎ ((k ≡ l) ⊎ IsBelow l k)
below_cases k l = cases_at (key_cmp k l) refl
  where
    cases_at : (o : Ordering) → key_cmp k l ≡ o → IsBelow k l ⊎ ((k ≡ l) ⊎ IsBelow l k)
    cases_at Less e = inl e
    cases_at Equal e = inr (inl (keys_tied k l e))
    cases_at Greater e = inr (inr (keys_total.antisymm l k ∙ ap ordering_reverse e))

then_less : (o r : Ordering) → o ≡ Less → ordering_then o r ≡ Less
then_less o r e = ap (λ t. ordering_then t r) e

nat_less : (m n : ℕ) → m < n → nat_cmp m n ≡ Less
nat_less m n h = rw (lt-ltb m n h) refl

pub cheaper_below : (k l : PathKey) → k.cost < l.cost → IsBelow k l
cheaper_below k l h = then_less (nat_cmp k.cost l.cost) _ (nat_less k.cost l.cost h)

below_cost_at : (m n : ℕ) (o r : Ordering) → nat_cmp m n ≡ o → MatchOrdering o (m < n) (m ≡ n) (n < m) → ordering_then o r ≡ Less → m ≤ n
below_cost_at m n Less r e f h = omega (arith, f)
below_cost_at m n Equal r e f h = omega (arith, f)
below_cost_at m n Greater r e f h = absurd (cc)

-- the lower key has no greater cost
pub below_cost : (k l : PathKey) → IsBelow k l → k.cost ≤ l.cost
below_cost k l h = below_cost_at k.cost l.cost (nat_cmp k.cost l.cost) _ refl (ranked k.cost l.cost (nat_cmp k.cost l.cost) refl) h

pub cmp_from : (m n i j : ℕ) (o r : Ordering) → nat_cmp m n ≡ o → nat_cmp i j ≡ r → MatchOrdering o (m < n) (m ≡ n) (n < m) → MatchOrdering r (i < j) (i ≡ j) (j < i) → (m < n → i < j) → (m ≡ n → i ≡ j) → (n < m → j < i) → r ≡ o
cmp_from m n i j Less Less e f x y a b c = refl
cmp_from m n i j Equal Equal e f x y a b c = refl
cmp_from m n i j Greater Greater e f x y a b c = refl
cmp_from m n i j Less Equal e f x y a b c = let h = a x in absurd (omega (arith, h, y))
cmp_from m n i j Less Greater e f x y a b c = let h = a x in absurd (omega (arith, h, y))
cmp_from m n i j Equal Less e f x y a b c = let h = b x in absurd (omega (arith, h, y))
cmp_from m n i j Equal Greater e f x y a b c = let h = b x in absurd (omega (arith, h, y))
cmp_from m n i j Greater Less e f x y a b c = let h = c x in absurd (omega (arith, h, y))
cmp_from m n i j Greater Equal e f x y a b c = let h = c x in absurd (omega (arith, h, y))

pub nat_cmp-add : (m n c i j : ℕ) → i ≡ m + c → j ≡ n + c → nat_cmp i j ≡ nat_cmp m n
nat_cmp-add m n c i j e f =
    cmp_from m n i j (nat_cmp m n) (nat_cmp i j) refl refl (ranked m n (nat_cmp m n) refl) (ranked i j (nat_cmp i j) refl) (λ h. omega (arith, e, f, h)) (λ h. omega (arith, e, f, h)) (λ h. omega (arith, e, f, h))

-- what stands behind a tie alone may be exchanged
then_alike : (o r s : Ordering) → (o ≡ Equal → r ≡ s) → ordering_then o r ≡ ordering_then o s
then_alike Less r s h = refl
then_alike Equal r s h = h refl
then_alike Greater r s h = refl

-- keys that grow by the same cost, a hop and the same id keep their order
raised : (k l m n : PathKey) (c : ℕ) (z : List ℕ) → m.cost ≡ k.cost + c → n.cost ≡ l.cost + c → m.hops ≡ suc k.hops → n.hops ≡ suc l.hops → m.ids ≡ inserted z k.ids → n.ids ≡ inserted z l.ids → (k.hops ≡ l.hops → length k.ids ≡ length l.ids) → key_cmp m n ≡ key_cmp k l
raised k l m n c z mc nc mh nh mi ni same =
    let costs : nat_cmp m.cost n.cost ≡ nat_cmp k.cost l.cost = nat_cmp-add k.cost l.cost c m.cost n.cost mc nc in
    let hops : nat_cmp m.hops n.hops ≡ nat_cmp k.hops l.hops = nat_cmp-add k.hops l.hops 1 m.hops n.hops (omega (arith, mh)) (omega (arith, nh)) in
    let ids : nat_cmp k.hops l.hops ≡ Equal → slice_cmp id_cmp m.ids n.ids ≡ slice_cmp id_cmp k.ids l.ids = λ t. ids_at (nat_tied k.hops l.hops t) in
    ap (λ o. ordering_then o (ordering_then (nat_cmp m.hops n.hops) (slice_cmp id_cmp m.ids n.ids))) costs ∙
    (ap (λ o. ordering_then (nat_cmp k.cost l.cost) (ordering_then o (slice_cmp id_cmp m.ids n.ids))) hops ∙
    ap (λ o. ordering_then (nat_cmp k.cost l.cost) o) (then_alike (nat_cmp k.hops l.hops) (slice_cmp id_cmp m.ids n.ids) (slice_cmp id_cmp k.ids l.ids) ids))
  where
    ids_at : k.hops ≡ l.hops → slice_cmp id_cmp m.ids n.ids ≡ slice_cmp id_cmp k.ids l.ids
    ids_at t = ap (λ s. slice_cmp id_cmp s n.ids) mi ∙ (ap (λ s. slice_cmp id_cmp (inserted z k.ids) s) ni ∙ inserted_keeps_order z k.ids l.ids (same t))

length-map : (f : SystemId → List ℕ) (p : List SystemId) → length (map f p) ≡ length p
length-map f [] = refl
length-map f (x ∷ p) = ap suc (length-map f p)

pub length-ids : (g : Graph) (mask : ℕ) (p : List SystemId) → length (key_of g mask p).ids ≡ length p
length-ids g mask p = length-sorted (map (masked_id g mask) p) ∙ length-map (masked_id g mask) p

same_length : (g : Graph) (mask : ℕ) (a b x y : SystemId) (p q : List SystemId) → IsPath g a x p → IsPath g b y q → hops_of p ≡ hops_of q → length (key_of g mask p).ids ≡ length (key_of g mask q).ids
same_length g mask a b x y [] q v w e = absurd v
same_length g mask a b x y (z ∷ p) [] v w e = absurd w
same_length g mask a b x y (z ∷ p) (t ∷ q) v w e = let i = length-ids g mask (z ∷ p) in let j = length-ids g mask (t ∷ q) in omega (arith, e, i, j)

-- one bridge more at the shared end keeps the order of two paths' keys
pub key_cmp-snoc : (g : Graph) (mask : ℕ) (a b x y : SystemId) (p q : List SystemId) → IsPath g a x p → IsPath g b x q → key_cmp (key_of g mask (p ++ y ∷ [])) (key_of g mask (q ++ y ∷ [])) ≡ key_cmp (key_of g mask p) (key_of g mask q)
key_cmp-snoc g mask a b x y p q v w =
    raised (key_of g mask p) (key_of g mask q) (key_of g mask (p ++ y ∷ [])) (key_of g mask (q ++ y ∷ [])) (step g x y) (masked_id g mask y)
    (cost-snoc g a x y p v) (cost-snoc g b x y q w) (hops-snoc g a x y p v) (hops-snoc g b x y q w) (ids-snoc g mask y p) (ids-snoc g mask y q) (same_length g mask a b x x p q v w)

cost-cons : (g : Graph) (a b x : SystemId) (p : List SystemId) → IsPath g x b p → cost_of g (a ∷ p) ≡ cost_of g p + step g a x
cost-cons g a b x [] w = absurd w
cost-cons g a b x (z ∷ p) w = let e : step g a z ≡ step g a x = ap (λ t. step g a t) w.0 in omega (arith, e)

hops-cons : (g : Graph) (a b x : SystemId) (p : List SystemId) → IsPath g x b p → hops_of (a ∷ p) ≡ suc (hops_of p)
hops-cons g a b x [] w = absurd w
hops-cons g a b x (z ∷ p) w = omega arith

-- the same at a shared start
pub key_cmp-cons : (g : Graph) (mask : ℕ) (a b c x : SystemId) (p q : List SystemId) → IsPath g x b p → IsPath g x c q → key_cmp (key_of g mask (a ∷ p)) (key_of g mask (a ∷ q)) ≡ key_cmp (key_of g mask p) (key_of g mask q)
key_cmp-cons g mask a b c x p q v w =
    raised (key_of g mask p) (key_of g mask q) (key_of g mask (a ∷ p)) (key_of g mask (a ∷ q)) (step g a x) (masked_id g mask a)
    (cost-cons g a b x p v) (cost-cons g a c x q w) (hops-cons g a b x p v) (hops-cons g a c x q w) refl refl (same_length g mask x x b c p q v w)

-- XOR with a mask can be undone
pub xor_once : (m x y : ℕ) → bit_xor x m ≡ bit_xor y m → x ≡ y
xor_once m x y e = sym (back x) ∙ (ap (λ t. bit_xor t m) e ∙ back y)
  where
    back : (t : ℕ) → bit_xor (bit_xor t m) m ≡ t
    back t = xor_assoc t m m ∙ (ap (bit_xor t) (xor_self m) ∙ xor_zero_r t)

map_once : (f : ℕ → ℕ) → ((x y : ℕ) → f x ≡ f y → x ≡ y) → (xs ys : List ℕ) → map f xs ≡ map f ys → xs ≡ ys
map_once f o [] [] e = refl
map_once f o [] (y ∷ ys) e = absurd (cc)
map_once f o (x ∷ xs) [] e = absurd (cc)
map_once f o (x ∷ xs) (y ∷ ys) e =
    let h : f x ≡ f y = cc in let t : map f xs ≡ map f ys = cc in
    let i : x ≡ y = o x y h in let j : xs ≡ ys = map_once f o xs ys t in cc

-- bridge ids with the same masked id have the same system id
pub masked_once : (mask : ℕ) (x y : BridgeId) → masked mask x ≡ masked mask y → x.system ≡ y.system
masked_once mask x y e =
    let bytes : bridge_id_bytes x ≡ bridge_id_bytes y = map_once (λ byte. bit_xor byte mask) (xor_once mask) (bridge_id_bytes x) (bridge_id_bytes y) e in
    let system : x.system.mac.bytes ≡ y.system.mac.bytes = cc bytes in
    λ i. record { mac = record { bytes = system i } }

pub bridge_id-system : (bs : List GraphBridge) (x : SystemId) → (bridge_id_among bs x).system ≡ x
bridge_id-system [] x = refl
bridge_id-system (b ∷ bs) x = system_at (same_system b.id.system x) refl (bridge_id-system bs x)
  where
    system_at : (t : Bool) → same_system b.id.system x ≡ t → (bridge_id_among bs x).system ≡ x → (if t then b.id else bridge_id_among bs x).system ≡ x
    system_at true e h = same_is b.id.system x e
    system_at false e h = h

-- masked ids of different bridges differ
pub masked_id_once : (g : Graph) (mask : ℕ) (x y : SystemId) → masked_id g mask x ≡ masked_id g mask y → x ≡ y
masked_id_once g mask x y e =
    sym (bridge_id-system g.bridges x) ∙ (masked_once mask (bridge_id_among g.bridges x) (bridge_id_among g.bridges y) e ∙ bridge_id-system g.bridges y)

among_map : (f : SystemId → List ℕ) (x : SystemId) (p : List SystemId) → IsAmong x p → Has (f x) (map f p)
among_map f x [] h = absurd h
among_map f x (y ∷ p) (inl e) = inl (ap f e)
among_map f x (y ∷ p) (inr h) = inr (among_map f x p h)

map_among : (f : SystemId → List ℕ) → ((x y : SystemId) → f x ≡ f y → x ≡ y) → (x : SystemId) (p : List SystemId) → Has (f x) (map f p) → IsAmong x p
map_among f o x [] h = absurd h
map_among f o x (y ∷ p) (inl e) = inl (o x y e)
map_among f o x (y ∷ p) (inr h) = inr (map_among f o x p h)

-- paths with the same ids have the same bridges
pub same_ids_among : (g : Graph) (mask : ℕ) (x : SystemId) (p q : List SystemId) → key_of g mask p ≡ key_of g mask q → IsAmong x p → IsAmong x q
same_ids_among g mask x p q e i =
    let f = masked_id g mask in
    let here : Has (f x) (sorted_ids (map f p)) = sorted_has (f x) (map f p) (among_map f x p i) in
    let there : Has (f x) (sorted_ids (map f q)) = subst (λ (k : PathKey). Has (f x) k.ids) e here in
    map_among f (masked_id_once g mask) x q (has_sorted (f x) (map f q) there)

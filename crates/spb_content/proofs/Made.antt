-- The edges that are made at bridges: each link once.
use Rattle.std.proofs.Common.{◌≡◌, ◌≢◌, Bool, true, false, true≢false, cond, ◌&&◌, ◌||◌, ◌⊎◌, inl, inr, List, [], ◌∷◌, ◌++◌, max, flat_map, Option, Some, None, refl, sym, ap, ◌∙◌, subst, Ordering, Less, Equal, Greater}
use Rattle.std.specs.Prelude.{option_map, option_to_list}
use Rattle.std.specs.Ordering.{is_lt, is_eq, ordering_reverse}
use Rattle.std.proofs.lemmas.Bool.{or_parts}
use Rattle.std.proofs.lemmas.Cmp.{nat_list_cmp_total}
use Rattle.std.proofs.lemmas.List.Folds.{list_any-append}
use Rattle.std.proofs.lemmas.Map.Text.{is_eq-slice_cmp}
use Rattle.spb_types.specs.Address.{same_system}
use Rattle.spb_types.specs.Graph.{IsAmong, IsDistinct, OneEdge, joins}
use Rattle.spb_types.specs.declared.address.SystemId.{SystemId}
use Rattle.spb_types.specs.declared.graph.Edge.{Edge}
use Rattle.spb_tlvs.specs.declared.neighbours.Neighbour.{Neighbour}
use Rattle.spb_content.specs.declared.content.Content.{Content}
use Rattle.spb_content.specs.Graph.{Contents, systems_in, link_said}
use Rattle.spb_content.specs.Building.{system_cmp, edge_with, edge_said, is_listed, edge_for, edges_after, edges_from}
use Rattle.spb_content.proofs.Members.{Has, all_has, has_all, has_left, has_right, has_parts, flat_map_has}
use Rattle.spb_content.proofs.Links.{same_is, same_from, apart_is}
use Rattle.spb_content.proofs.Chosen.{among_has}

-- ---- the order of system ids

pub not_both : (x y : SystemId) → is_lt (system_cmp x y) ≡ true → is_lt (system_cmp y x) ≡ true → ⊥
not_both x y h k = at (system_cmp x y) h (sym (ap is_lt (nat_list_cmp_total.antisymm y.mac.bytes x.mac.bytes)) ∙ k)
  where
    at : (o : Ordering) → is_lt o ≡ true → is_lt (ordering_reverse o) ≡ true → ⊥
    at Less e f = true≢false (sym f)
    at Equal e f = true≢false (sym e)
    at Greater e f = true≢false (sym e)

pub one_below : (x y : SystemId) → same_system x y ≡ false → (is_lt (system_cmp x y) ≡ true) ⊎ (is_lt (system_cmp y x) ≡ true)
one_below x y h = at (system_cmp x y) (is_eq-slice_cmp x.mac.bytes y.mac.bytes ∙ h) (nat_list_cmp_total.antisymm y.mac.bytes x.mac.bytes) refl
  where
    at : (o : Ordering) → is_eq o ≡ false → system_cmp y x ≡ ordering_reverse o → system_cmp x y ≡ o → (is_lt (system_cmp x y) ≡ true) ⊎ (is_lt (system_cmp y x) ≡ true)
    at Less e f g = inl (ap is_lt g)
    at Equal e f g = absurd (true≢false e)
    at Greater e f g = inr (ap is_lt f)

-- ---- the edge of a link

-- an edge of a link, made at its lower end
pub record Made (list : Contents) (e : Edge) : Type 0 where
  pub low : is_lt (system_cmp e.a e.b) ≡ true
  pub link : Neighbour × Neighbour
  pub said : link_said list e.a e.b ≡ Some link
  pub port_a : e.port_a ≡ link.0.port
  pub port_b : e.port_b ≡ link.1.port
  pub cost : e.cost ≡ max link.0.metric link.1.metric

-- the same, with its ends
record MadeAt (list : Contents) (x y : SystemId) (e : Edge) : Type 0 where
  from : e.a ≡ x
  to : e.b ≡ y
  made : Made list e

edge_made : (list : Contents) (x y : SystemId) (e : Edge) → edge_said list x y ≡ Some e → MadeAt list x y e
edge_made list x y e h = at (is_lt (system_cmp x y)) (link_said list x y) refl refl h
  where
    at : (b : Bool) (o : Option (Neighbour × Neighbour)) → is_lt (system_cmp x y) ≡ b → link_said list x y ≡ o → cond b (option_map (edge_with x y) o) None ≡ Some e → MadeAt list x y e
    at true (Some l) lt said k =
        let same : edge_with x y l ≡ e = cc in
        subst (λ f. MadeAt list x y f) same (record { from = refl; to = refl; made = record { low = lt; link = l; said = said; port_a = refl; port_b = refl; cost = refl } })
    at true None lt said k = absurd cc
    at false o lt said k = absurd cc

pub edge_of_link : (list : Contents) (x y : SystemId) (l : Neighbour × Neighbour) → is_lt (system_cmp x y) ≡ true → link_said list x y ≡ Some l → edge_said list x y ≡ Some (edge_with x y l)
edge_of_link list x y l low said = rw (low, said) refl

-- ---- the edges made at a bridge

some_has : (o : Option Edge) (e : Edge) → Has e (option_to_list o) → o ≡ Some e
some_has None e h = absurd h
some_has (Some f) e (inl i) = ap Some (sym i)
some_has (Some f) e (inr i) = absurd i

-- an edge for an entry of x, for which no earlier one stands
record New (list : Contents) (x : SystemId) (earlier : List Neighbour) (e : Edge) : Type 0 where
  from : e.a ≡ x
  new : is_listed earlier e.b ≡ false
  made : Made list e

for_new : (list : Contents) (x : SystemId) (earlier : List Neighbour) (y : SystemId) (e : Edge) → edge_for list x earlier y ≡ Some e → New list x earlier e
for_new list x earlier y e h = at (is_listed earlier y) refl h
  where
    at : (b : Bool) → is_listed earlier y ≡ b → cond b None (edge_said list x y) ≡ Some e → New list x earlier e
    at true n k = absurd cc
    at false n k = let m = edge_made list x y e k in record { from = m.from; new = ap (is_listed earlier) m.to ∙ n; made = m.made }

for_end : (list : Contents) (x : SystemId) (earlier : List Neighbour) (y : SystemId) (e : Edge) → edge_for list x earlier y ≡ Some e → e.b ≡ y
for_end list x earlier y e h = at (is_listed earlier y) h
  where
    at : (b : Bool) → cond b None (edge_said list x y) ≡ Some e → e.b ≡ y
    at true k = absurd cc
    at false k = (edge_made list x y e k).to

listed_more : (earlier : List Neighbour) (n : Neighbour) (y : SystemId) → is_listed (earlier ++ n ∷ []) y ≡ (is_listed earlier y || (same_system n.system y || false))
listed_more earlier n y = list_any-append (λ m. same_system m.system y) earlier (n ∷ [])

-- what is not among more entries is neither among these nor the last
record NotListed (earlier : List Neighbour) (n : Neighbour) (y : SystemId) : Type 0 where
  before : is_listed earlier y ≡ false
  last : same_system n.system y ≡ false

not_listed : (earlier : List Neighbour) (n : Neighbour) (y : SystemId) → is_listed (earlier ++ n ∷ []) y ≡ false → NotListed earlier n y
not_listed earlier n y h =
    let p = or_parts _ _ (sym (listed_more earlier n y) ∙ h) in
    record { before = p.0; last = (or_parts _ _ p.1).0 }

after_new : (list : Contents) (x : SystemId) (earlier ns : List Neighbour) (e : Edge) → Has e (edges_after list x earlier ns) → New list x earlier e
after_new list x earlier [] e h = absurd h
after_new list x earlier (n ∷ ns) e h =
    elim (has_parts e (option_to_list (edge_for list x earlier n.system)) (edges_after list x (earlier ++ n ∷ []) ns) h) [
      | inl i ↦ for_new list x earlier n.system e (some_has _ e i)
      | inr i ↦ let r = after_new list x (earlier ++ n ∷ []) ns e i in record { from = r.from; new = (not_listed earlier n e.b r.new).before; made = r.made }
    ]

pub from_made : (list : Contents) (c : SystemId × Content) (e : Edge) → Has e (edges_from list c) → Made list e
from_made list c e h = (after_new list c.0 [] c.1.neighbours e h).made

pub from_at : (list : Contents) (c : SystemId × Content) (e : Edge) → Has e (edges_from list c) → e.a ≡ c.0
from_at list c e h = (after_new list c.0 [] c.1.neighbours e h).from

-- each link of x to a bridge that it lists has its edge
after_has : (list : Contents) (x y : SystemId) (e : Edge) (earlier ns : List Neighbour) (n : Neighbour) → Has n ns → n.system ≡ y → is_listed earlier y ≡ false → edge_said list x y ≡ Some e → Has e (edges_after list x earlier ns)
after_has list x y e earlier [] n h for new said = absurd h
after_has list x y e earlier (m ∷ ms) n h for new said = at (same_system m.system y) refl h (λ k more. after_has list x y e (earlier ++ m ∷ []) ms n k for more said)
  where
    here : edge_for list x earlier y ≡ Some e
    here = rw new said

    at : (b : Bool) → same_system m.system y ≡ b → Has n (m ∷ ms) → (Has n ms → is_listed (earlier ++ m ∷ []) y ≡ false → Has e (edges_after list x (earlier ++ m ∷ []) ms)) → Has e (edges_after list x earlier (m ∷ ms))
    at true t k r =
        let first : edge_for list x earlier m.system ≡ Some e = ap (λ z. edge_for list x earlier z) (same_is m.system y t) ∙ here in
        has_left e (option_to_list (edge_for list x earlier m.system)) (edges_after list x (earlier ++ m ∷ []) ms) (subst (λ o. Has e (option_to_list o)) (sym first) (inl refl))
    at false t (inl k) r = absurd (true≢false (sym (same_from m.system y (ap (λ z. z.system) (sym k) ∙ for)) ∙ t))
    at false t (inr k) r = has_right e (option_to_list (edge_for list x earlier m.system)) (edges_after list x (earlier ++ m ∷ []) ms) (r k (listed_more earlier m y ∙ rw (new, t) refl))

pub from_has : (list : Contents) (c : SystemId × Content) (y : SystemId) (e : Edge) (n : Neighbour) → Has n c.1.neighbours → n.system ≡ y → edge_said list c.0 y ≡ Some e → Has e (edges_from list c)
from_has list c y e n h for said = after_has list c.0 y e [] c.1.neighbours n h for refl said

-- ---- one edge between two bridges

either_apart : (p q r s : Bool) → q ≡ false → r ≡ false → ((p && q) || (r && s)) ≡ false
either_apart true q r s h k = rw (h, k) refl
either_apart false q r s h k = rw k refl

-- edges of one bridge to different ones
ends_apart : (e f : Edge) → same_system e.b f.b ≡ false → same_system e.a f.b ≡ false → joins e f.a f.b ≡ false
ends_apart e f h k = either_apart (same_system e.a f.a) (same_system e.b f.b) (same_system e.a f.b) (same_system e.b f.a) h k

-- the two ends of an edge differ
pub made_apart : (list : Contents) (e : Edge) → Made list e → e.a ≢ e.b
made_apart list e m h = not_both e.a e.b m.low (subst (λ z. is_lt (system_cmp z e.a) ≡ true) h (subst (λ z. is_lt (system_cmp e.a z) ≡ true) (sym h) m.low))

after_one : (list : Contents) (x : SystemId) (earlier ns : List Neighbour) → OneEdge (edges_after list x earlier ns)
after_one list x earlier [] = tt
after_one list x earlier (n ∷ ns) = at (edge_for list x earlier n.system) refl (after_one list x (earlier ++ n ∷ []) ns)
  where
    rest : List Edge
    rest = edges_after list x (earlier ++ n ∷ []) ns

    at : (o : Option Edge) → edge_for list x earlier n.system ≡ o → OneEdge rest → OneEdge (option_to_list o ++ rest)
    at None k one = one
    at (Some e) k one = (
      has_all (λ f. joins e f.a f.b ≡ false) rest (λ f h. (
          let r = after_new list x (earlier ++ n ∷ []) ns f h in
          let m = for_new list x earlier n.system e k in
          ends_apart e f
          (ap (λ z. same_system z f.b) (for_end list x earlier n.system e k) ∙ (not_listed earlier n f.b r.new).last)
          (ap (λ z. same_system z f.b) (m.from ∙ sym r.from) ∙ apart_is f.a f.b (made_apart list f r.made)))),
      one,
    )

neither : (p q r s : Bool) → p ≡ false → (r ≡ true → s ≡ true → ⊥) → ((p && q) || (r && s)) ≡ false
neither p q true true h k = absurd (k refl refl)
neither p q true false h k = rw h refl
neither p q false s h k = rw h refl

-- edges made at different bridges
bridges_apart : (list : Contents) (e f : Edge) → Made list e → Made list f → e.a ≢ f.a → joins e f.a f.b ≡ false
bridges_apart list e f m n ne = neither (same_system e.a f.a) (same_system e.b f.b) (same_system e.a f.b) (same_system e.b f.a) (apart_is e.a f.a ne) crossed
  where
    crossed : same_system e.a f.b ≡ true → same_system e.b f.a ≡ true → ⊥
    crossed h k = not_both f.a f.b n.low (subst (λ z. is_lt (system_cmp z f.a) ≡ true) (same_is e.a f.b h) (subst (λ z. is_lt (system_cmp e.a z) ≡ true) (same_is e.b f.a k) m.low))

one_append : (es fs : List Edge) → OneEdge es → OneEdge fs → ((e f : Edge) → Has e es → Has f fs → joins e f.a f.b ≡ false) → OneEdge (es ++ fs)
one_append [] fs h k cross = k
one_append (e ∷ es) fs h k cross = (
  has_all (λ f. joins e f.a f.b ≡ false) (es ++ fs) (λ f i. elim (has_parts f es fs i) [ inl j ↦ all_has (λ g. joins e g.a g.b ≡ false) f es h.0 j | inr j ↦ cross e f (inl refl) j ]),
  one_append es fs h.1 k (λ g f i j. cross g f (inr i) j),
)

pub all_one : (list : Contents) (ks : Contents) → IsDistinct (systems_in ks) → OneEdge (flat_map (edges_from list) ks)
all_one list [] apart = tt
all_one list (c ∷ cs) apart = one_append (edges_from list c) (flat_map (edges_from list) cs) (after_one list c.0 [] c.1.neighbours) (all_one list cs apart.1) cross
  where
    cross : (e f : Edge) → Has e (edges_from list c) → Has f (flat_map (edges_from list) cs) → joins e f.a f.b ≡ false
    cross e f h k =
        let d = flat_map_has (edges_from list) f cs k in
        let other : c.0 ≢ d.0.0 = (λ same. apart.0 (subst (λ z. IsAmong z (systems_in cs)) (sym same) (among_has cs d.0 d.1))) in
        bridges_apart list e f (from_made list c e h) (from_made list d.0 f d.2)
        (λ same. other (sym (from_at list c e h) ∙ (same ∙ from_at list d.0 f d.2)))

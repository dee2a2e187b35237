-- Lists of members that say the same: each member of one has its pair in the other, and what it does is done there.
use Rattle.std.proofs.Common.{◌≡◌, Bool, true, false, List, [], ◌∷◌, ◌&&◌, ◌||◌, refl, sym, ap, ◌∙◌, inl, inr}
use Rattle.std.specs.List.{list_any}
use Rattle.std.specs.Cmp.{both_ways}
use Rattle.std.proofs.lemmas.Bool.{and_parts, and_from, or_left, or_right, false_from_ne_true}
use Rattle.spb_types.specs.declared.graph.Member.{Member}
use Rattle.spb_content.specs.Members.{pair_of}
use Rattle.spb_content.proofs.Members.{Has}

-- ---- tests of some item

pub any_has : {A : Type 0} (f : A → Bool) (xs : List A) → list_any f xs ≡ true → (x : A) × Has x xs × (f x ≡ true)
any_has f [] e = absurd cc
any_has f (x ∷ xs) e = at (f x) refl e (any_has f xs)
  where
    at : (b : Bool) → f x ≡ b → (b || list_any f xs) ≡ true → (list_any f xs ≡ true → (y : _) × Has y xs × (f y ≡ true)) → (y : _) × Has y (x ∷ xs) × (f y ≡ true)
    at true t k r = (x, inl refl, t)
    at false t k r = let y = r k in (y.0, inr y.1, y.2)

pub has_any : {A : Type 0} (f : A → Bool) (x : A) (xs : List A) → Has x xs → f x ≡ true → list_any f xs ≡ true
has_any f x [] h e = absurd h
has_any f x (y ∷ ys) (inl i) e = or_left (f y) (list_any f ys) (ap f (sym i) ∙ e)
has_any f x (y ∷ ys) (inr i) e = or_right (f y) (list_any f ys) (has_any f x ys i e)

pub any_none : {A : Type 0} (f : A → Bool) (xs : List A) → ((x : A) → Has x xs → f x ≡ true → ⊥) → list_any f xs ≡ false
any_none f xs none = false_from_ne_true (list_any f xs) (λ e. let x = any_has f xs e in none x.0 x.1 x.2)

pub any_same : {A B : Type 0} (f : A → Bool) (g : B → Bool) (xs : List A) (ys : List B) → ((x : A) → Has x xs → f x ≡ true → list_any g ys ≡ true) → ((y : B) → Has y ys → g y ≡ true → list_any f xs ≡ true) → list_any f xs ≡ list_any g ys
any_same f g xs ys to back =
    both_ways (list_any f xs) (list_any g ys) (λ e. let x = any_has f xs e in to x.0 x.1 x.2) (λ e. let y = any_has g ys e in back y.0 y.1 y.2)

-- ---- lists that say the same

-- a member of the list with this pair
pub record IsPaired (m : Member) (ns : List Member) : Type 0 where
  pub item : Member
  pub has : Has item ns
  pub is : pair_of m ≡ pair_of item

abbrev pub ArePaired : List Member → List Member → Type 0
ArePaired ms ns = (m : Member) → Has m ms → IsPaired m ns

-- and one that does something
pub record IsDone (does : Member → Bool) (m : Member) (ns : List Member) : Type 0 where
  pub item : Member
  pub has : Has item ns
  pub is : pair_of m ≡ pair_of item
  pub done : does item ≡ true

abbrev pub sends : Member → Bool
sends m = m.transmit

abbrev pub takes : Member → Bool
takes m = m.receive

pub record IsCovered (m : Member) (ns : List Member) : Type 0 where
  pub paired : IsPaired m ns
  pub sends : sends m ≡ true → IsDone sends m ns
  pub takes : takes m ≡ true → IsDone takes m ns

abbrev pub AreCovered : List Member → List Member → Type 0
AreCovered ms ns = (m : Member) → Has m ms → IsCovered m ns

pub covered_paired : (ms ns : List Member) → AreCovered ms ns → ArePaired ms ns
covered_paired ms ns cover m h = (cover m h).paired

-- the members of one list are members of the other
abbrev pub Within : {A : Type 0} → List A → List A → Type 0
Within {A} xs ys = (x : A) → Has x xs → Has x ys

pub within_covered : (ms ns : List Member) → Within ms ns → AreCovered ms ns
within_covered ms ns f m h = record {
  paired = record { item = m; has = f m h; is = refl };
  sends = λ e. record { item = m; has = f m h; is = refl; done = e };
  takes = λ e. record { item = m; has = f m h; is = refl; done = e };
}

-- what one does of those that pass a test of pairs, one of the others does
pub done_there : (does : Member → Bool) (test : Member → Bool) (ms ns : List Member) → ((m n : Member) → pair_of m ≡ pair_of n → test m ≡ true → test n ≡ true)
    → ((m : Member) → Has m ms → does m ≡ true → IsDone does m ns) → (m : Member) → Has m ms → (test m && does m) ≡ true → list_any (λ n. test n && does n) ns ≡ true
done_there does test ms ns keeps done m h e =
    let parts = and_parts (test m) (does m) e in
    let d = done m h parts.1 in
    has_any (λ n. test n && does n) d.item ns d.has (and_from (test d.item) (does d.item) (keeps m d.item d.is parts.0) d.done)

-- lists that cover each other do the same
pub record DoTheSame (test : Member → Bool) (ms ns : List Member) : Type 0 where
  pub sends : list_any (λ n. test n && n.transmit) ms ≡ list_any (λ n. test n && n.transmit) ns
  pub takes : list_any (λ n. test n && n.receive) ms ≡ list_any (λ n. test n && n.receive) ns

pub do_the_same : (test : Member → Bool) (ms ns : List Member) → ((m n : Member) → pair_of m ≡ pair_of n → test m ≡ true → test n ≡ true) → AreCovered ms ns → AreCovered ns ms → DoTheSame test ms ns
do_the_same test ms ns keeps to back = record {
  sends = any_same (λ n. test n && n.transmit) (λ n. test n && n.transmit) ms ns (done_there sends test ms ns keeps (λ m h. (to m h).sends)) (done_there sends test ns ms keeps (λ m h. (back m h).sends));
  takes = any_same (λ n. test n && n.receive) (λ n. test n && n.receive) ms ns (done_there takes test ms ns keeps (λ m h. (to m h).takes)) (done_there takes test ns ms keeps (λ m h. (back m h).takes));
}

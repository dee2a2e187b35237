-- The addresses of one service instance, as the kit's `lru` keeps them.
use Rattle.std.proofs.Common.{◌≡◌, ℕ, ◌+◌, ◌≤◌, Bool, true, false, List, [], ◌∷◌, length, take, Option, Some, None, refl, sym, ap, subst, ◌∙◌, arith}
use Rattle.std.specs.List.{find, IsDistinct, AllByRecursion}
use Rattle.std.specs.Option.{option_map, option_map_or}
use Rattle.std.specs.Map.{keys_of, lookup_entry, remove_entry}
use Rattle.std.proofs.lemmas.Bool.{false≢true}
use Rattle.std.proofs.lemmas.List.{take_all}
use Rattle.std.proofs.lemmas.Slice.Eq.{bytes_eq-Decides}
use Rattle.lru.specs.LruCache.{LruCache, lru_cache, put_entries}
use Rattle.lru.proofs.CallerLemmas.{Contains-lookup_entry}
use Rattle.spb_types.specs.declared.address.Mac.{Mac}
use Rattle.customer_learning.specs.declared.place.Place.{Place}
use Rattle.customer_learning.specs.Known.{same_mac, brought, is_local, without_local}

pub mac_is : (m n : Mac) → same_mac m n ≡ true → m ≡ n
mac_is m n e = let bytes : m.bytes ≡ n.bytes = (bytes_eq-Decides m.bytes n.bytes).0 e in λ i. record { bytes = bytes i }

pub mac_same : (m : Mac) → same_mac m m ≡ true
mac_same m = (bytes_eq-Decides m.bytes m.bytes).1 refl

-- ---- learning

-- nothing is taken out where the test fails everywhere, and else one
absent : (test : Mac → Bool) (es : List (Mac × Place)) → lookup_entry test es ≡ None → remove_entry test es ≡ es
absent test [] e = refl
absent test (f ∷ es) e = (elim (test f.0) as (λ b. test f.0 ≡ b → remove_entry test (f ∷ es) ≡ f ∷ es) [
  | true ↦ λ t. absurd (let h = rw t at e in cc)
  | false ↦ λ t. rw t (ap (λ (r : List (Mac × Place)). f ∷ r) (absent test es (rw t at e)))
]) refl

pub one_less : (test : Mac → Bool) (es : List (Mac × Place)) (e : Mac × Place) → lookup_entry test es ≡ Some e → length (remove_entry test es) + 1 ≡ length es
one_less test [] e h = absurd cc
one_less test (f ∷ es) e h = (elim (test f.0) as (λ b. test f.0 ≡ b → length (remove_entry test (f ∷ es)) + 1 ≡ length (f ∷ es)) [
  | true ↦ λ t. rw t (omega arith)
  | false ↦ λ t. rw t (omega (arith, one_less test es e (rw t at h)))
]) refl

-- what `put` leaves
put_is : (mac : Mac) (place : Place) (es : List (Mac × Place)) (n : ℕ) (o : Option (Mac × Place)) → lookup_entry (same_mac mac) es ≡ o → length es ≤ n + 1
    → option_map_or (λ e. (e.0, place) ∷ remove_entry (same_mac mac) es) o ((mac, place) ∷ take n es) ≡ (mac, place) ∷ take n (remove_entry (same_mac mac) es)
put_is mac place es n None h few = ap (λ (r : List (Mac × Place)). (mac, place) ∷ take n r) (sym (absent (same_mac mac) es h))
put_is mac place es n (Some e) h few =
    let key : mac ≡ e.0 = mac_is mac e.0 (Contains-lookup_entry (same_mac mac) es e h).1 in
    let all : take n (remove_entry (same_mac mac) es) ≡ remove_entry (same_mac mac) es = take_all n (remove_entry (same_mac mac) es) (omega (arith, one_less (same_mac mac) es e h)) in
    rw all (ap (λ (m : Mac). (m, place) ∷ remove_entry (same_mac mac) es) (sym key))

pub bring_is : (mac : Mac) (place : Place) (c : LruCache Mac Place) → c.cap ≡ 1024 → length c.entries ≤ 1024
    → lru_cache (put_entries same_mac c mac place) c.cap ≡ lru_cache (brought mac place c.entries) 1024
bring_is mac place c cap few =
    rw cap (ap (λ (es : List (Mac × Place)). lru_cache es 1024) (put_is mac place c.entries 1023 (lookup_entry (same_mac mac) c.entries) refl (omega arith)))

-- ---- forgetting a port

abbrev pub at : ℕ → Mac × Place → Bool
at port e = is_local port e.1

-- no address is at the port: all stay
pub none_at : (port : ℕ) (es : List (Mac × Place)) → option_map (λ (e : Mac × Place). e.0) (find (at port) es) ≡ None → without_local port es ≡ es
none_at port [] h = refl
none_at port (f ∷ es) h = (elim (at port f) as (λ b. at port f ≡ b → without_local port (f ∷ es) ≡ f ∷ es) [
  | true ↦ λ t. absurd (let e = rw t at h in cc)
  | false ↦ λ t. rw t (ap (λ (r : List (Mac × Place)). f ∷ r) (none_at port es (rw t at h)))
]) refl

-- the first address at the port goes: the others that stay are the same
pub record Goes (port : ℕ) (mac : Mac) (es : List (Mac × Place)) : Type 0 where
  pub others : without_local port (remove_entry (same_mac mac) es) ≡ without_local port es
  pub fewer : length (remove_entry (same_mac mac) es) + 1 ≡ length es

-- an address that stands later is no earlier one
differs : (m n : Mac) (b : Bool) → same_mac n m ≡ b → same_mac m n ≡ false → same_mac n m ≡ false
differs m n false p q = p
differs m n true p q = absurd (false≢true (sym q ∙ subst (λ (k : Mac). same_mac m k ≡ true) (sym (mac_is n m p)) (mac_same m)))

apart : (f : Mac × Place) (es : List (Mac × Place)) (port : ℕ) (mac : Mac) → AllByRecursion (λ y. same_mac f.0 y ≡ false) (keys_of es) → option_map (λ (e : Mac × Place). e.0) (find (at port) es) ≡ Some mac → same_mac mac f.0 ≡ false
apart f [] port mac all h = absurd cc
apart f (g ∷ es) port mac all h = (elim (at port g) as (λ b. at port g ≡ b → same_mac mac f.0 ≡ false) [
  | true ↦ λ t. let e = rw t at h in let is : g.0 ≡ mac = cc in differs f.0 mac (same_mac mac f.0) refl (subst (λ (n : Mac). same_mac f.0 n ≡ false) is all.0)
  | false ↦ λ t. apart f es port mac all.1 (rw t at h)
]) refl

pub goes : (port : ℕ) (mac : Mac) (es : List (Mac × Place)) → IsDistinct same_mac (keys_of es) → option_map (λ (e : Mac × Place). e.0) (find (at port) es) ≡ Some mac → Goes port mac es
unfolding IsDistinct
goes port mac [] d h = absurd cc
goes port mac (f ∷ es) d h = (elim (at port f) as (λ b. at port f ≡ b → Goes port mac (f ∷ es)) [
  | true ↦ λ t.
      let e = rw t at h in
      let is : f.0 ≡ mac = cc in
      let same : same_mac mac f.0 ≡ true = subst (λ (n : Mac). same_mac n f.0 ≡ true) is (mac_same f.0) in
      record { others = rw (same, t) refl; fewer = rw same (omega arith) }
  | false ↦ λ t.
      let later = rw t at h in
      let other : same_mac mac f.0 ≡ false = apart f es port mac d.0 later in
      let rest = goes port mac es d.1 later in
      record { others = rw (other, t) (ap (λ (r : List (Mac × Place)). f ∷ r) rest.others); fewer = rw other (omega (arith, rest.fewer)) }
]) refl

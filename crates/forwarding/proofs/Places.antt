-- Learned places stay among the ports of their I-SID.
use Rattle.std.proofs.Common.{◌≡◌, ◌≢◌, ℕ, zero, suc, Bool, true, false, not, cond, eqb, eqb-true, eq-eqb, List, [], ◌∷◌, ◌++◌, take, inl, inr, Option, Some, None, refl, sym, ap, subst, ◌∙◌, if◌then◌else◌}
use Rattle.std.specs.List.{AllByRecursion, list_any}
use Rattle.std.specs.Map.{remove_entry}
use Rattle.std.specs.Option.{option_map}
use Rattle.std.specs.Ordering.{eq_by_cmp}
use Rattle.std.specs.FinMap.{get, insert, get-insert, get-remove}
use Rattle.std.proofs.lemmas.Bool.{false≢true}
use Rattle.spb_types.specs.declared.address.Mac.{Mac}
use Rattle.spb_types.specs.declared.service.Attachment.{Attachment}
use Rattle.spb_types.specs.declared.service.Isid.{Isid}
use Rattle.customer_learning.specs.Known.{isid_cmp, Addresses, or_none, known_in, same_mac, place_among, is_local, without_local, with_known, with_learned, with_port_forgotten, with_isid_forgotten}
use Rattle.customer_learning.specs.declared.place.Place.{Place}
use Rattle.customer_learning.specs.declared.place.Place.TheVariants.{Local, Remote}
use Rattle.customer_learning.proofs.Maps.{isids_total, tied, tied_is}
use Rattle.forwarding.specs.declared.tenant.Tenant.{Tenant}
use Rattle.forwarding.specs.Ports.{attachment_of, is_in, without_customer_port}
use Rattle.forwarding.specs.Tenant.{is_group, is_received, from_of, with_source, learned_at_entry}
use Rattle.forwarding.specs.Laws.{IsAttachedTo}
use Rattle.forwarding.specs.Detaching.{learned_without}
use Rattle.forwarding.specs.Placed.{IsPlaceIn, ArePlaced, PlacedIsFound, EntryKeepsPlaces, DeliveryKeepsPlaces, AreAttachedOnce, AttachingKeepsPlaces, DetachingKeepsPlaces}

-- an address with its place
abbrev Entry : Type 0
Entry = Mac × Place

weaker : (P Q : Entry → Type 0) (es : List Entry) → ((e : Entry) → P e → Q e) → AllByRecursion P es → AllByRecursion Q es
weaker P Q [] k all = tt
weaker P Q (e ∷ es) k all = (k e all.0, weaker P Q es k all.1)

taken : (P : Entry → Type 0) (n : ℕ) (es : List Entry) → AllByRecursion P es → AllByRecursion P (take n es)
taken P zero es all = tt
taken P (suc n) [] all = tt
taken P (suc n) (e ∷ es) all = (all.0, taken P n es all.1)

removed : (P : Entry → Type 0) (test : Mac → Bool) (es : List Entry) → AllByRecursion P es → AllByRecursion P (remove_entry test es)
removed P test [] all = tt
removed P test (e ∷ es) all = by_test (test e.0) (removed P test es all.1)
  where
    by_test : (b : Bool) → AllByRecursion P (remove_entry test es) → AllByRecursion P (if b then es else (e ∷ remove_entry test es))
    by_test true rest = all.1
    by_test false rest = (all.0, rest)

-- ---- looking up

found_place : (attached : List Attachment) (isid : Isid) (mac : Mac) (port : ℕ) (es : List Entry) → AllByRecursion (λ e. IsPlaceIn attached isid e.1) es → place_among es mac ≡ Some (Local port) → IsAttachedTo attached port isid
found_place attached isid mac port [] all is = absurd cc
found_place attached isid mac port (e ∷ es) all is = (elim (same_mac mac e.0) as (λ b. same_mac mac e.0 ≡ b → IsAttachedTo attached port isid) [
  | true ↦ λ t. let at = rw t at is in let place : e.1 ≡ Local port = cc in subst (λ (p : Place). IsPlaceIn attached isid p) place all.0
  | false ↦ λ t. found_place attached isid mac port es all.1 (rw t at is)
]) refl

pub placed_is_found : PlacedIsFound
placed_is_found t placed isid mac port is = found_place t.attached isid mac port (known_in t.learned isid) (placed isid) is

-- ---- what is known of each I-SID

inserted : (P : Isid → Entry → Type 0) (m : Addresses) (k : Isid) (es : List Entry) (q : Isid) → AllByRecursion (P k) es → AllByRecursion (P q) (known_in m q) → AllByRecursion (P q) (known_in (insert m k es) q)
inserted P m k es q new old = subst (λ (o : Option (List Entry)). AllByRecursion (P q) (or_none o)) (sym (get-insert isids_total m k es q)) (by_test (eq_by_cmp isid_cmp q k) refl)
  where
    by_test : (b : Bool) → eq_by_cmp isid_cmp q k ≡ b → AllByRecursion (P q) (or_none (cond b (Some es) (get m q)))
    by_test true e = subst (λ (x : Isid). AllByRecursion (P x) es) (sym (tied_is q k e)) new
    by_test false e = old

learned_at : (attached : List Attachment) (learned : Addresses) (isid : Isid) (mac : Mac) (place : Place) (q : Isid) → IsPlaceIn attached isid place
    → ((x : Isid) → AllByRecursion (λ e. IsPlaceIn attached x e.1) (known_in learned x)) → AllByRecursion (λ e. IsPlaceIn attached q e.1) (known_in (with_learned learned isid mac place) q)
learned_at attached learned isid mac place q here placed =
    inserted (λ x e. IsPlaceIn attached x e.1) learned isid (take 1024 ((mac, place) ∷ remove_entry (same_mac mac) (known_in learned isid))) q
    (taken (λ e. IsPlaceIn attached isid e.1) 1024 ((mac, place) ∷ remove_entry (same_mac mac) (known_in learned isid)) (here, removed (λ e. IsPlaceIn attached isid e.1) (same_mac mac) (known_in learned isid) (placed isid)))
    (placed q)

source_at : (attached : List Attachment) (learned : Addresses) (place : Place) (isid : Isid) (frame : List ℕ) (q : Isid) → IsPlaceIn attached isid place
    → ((x : Isid) → AllByRecursion (λ e. IsPlaceIn attached x e.1) (known_in learned x)) → AllByRecursion (λ e. IsPlaceIn attached q e.1) (known_in (with_source place isid frame learned) q)
source_at attached learned place isid frame q here placed = by_group (is_group (from_of frame))
  where
    by_group : (b : Bool) → AllByRecursion (λ e. IsPlaceIn attached q e.1) (known_in (if b then learned else with_learned learned isid (from_of frame) place) q)
    by_group true = placed q
    by_group false = learned_at attached learned isid (from_of frame) place q here placed

-- ---- frames

attached_there : (port : ℕ) (attached : List Attachment) (a : Attachment) → attachment_of port attached ≡ Some a → IsAttachedTo attached a.port a.isid
attached_there port [] a is = absurd cc
attached_there port (b ∷ attached) a is = (elim (eqb b.port port) as (λ c. eqb b.port port ≡ c → IsAttachedTo (b ∷ attached) a.port a.isid) [
  | true ↦ λ t. let e = rw t at is in let same : b ≡ a = cc in inl (ap (λ (x : Attachment). x.port) same, ap (λ (x : Attachment). x.isid) same)
  | false ↦ λ t. inr (attached_there port attached a (rw t at is))
]) refl

entry_placed : (t : Tenant) (port : ℕ) (frame : List ℕ) (o : Option Attachment) (q : Isid) → attachment_of port t.attached ≡ o → ArePlaced t → AllByRecursion (λ e. IsPlaceIn t.attached q e.1) (known_in (learned_at_entry t frame o) q)
entry_placed t port frame None q is placed = placed q
entry_placed t port frame (Some a) q is placed = source_at t.attached t.learned (Local a.port) a.isid frame q (attached_there port t.attached a is) placed

pub entry_keeps_places : EntryKeepsPlaces
entry_keeps_places t port frame placed q = entry_placed t port frame (attachment_of port t.attached) q refl placed

pub delivery_keeps_places : DeliveryKeepsPlaces
delivery_keeps_places t tables port f placed q = by_taken (is_received t tables port f)
  where
    by_taken : (b : Bool) → AllByRecursion (λ e. IsPlaceIn t.attached q e.1) (known_in (if b then with_source (Remote f.sa) f.isid f.customer t.learned else t.learned) q)
    by_taken true = source_at t.attached t.learned (Remote f.sa) f.isid f.customer q tt placed
    by_taken false = placed q

-- ---- attaching

attached_with : (attached : List Attachment) (a : Attachment) (port : ℕ) (isid : Isid) → IsAttachedTo attached port isid → IsAttachedTo (attached ++ a ∷ []) port isid
attached_with [] a port isid is = absurd is
attached_with (b ∷ attached) a port isid (inl is) = inl is
attached_with (b ∷ attached) a port isid (inr is) = inr (attached_with attached a port isid is)

place_with : (attached : List Attachment) (a : Attachment) (isid : Isid) (p : Place) → IsPlaceIn attached isid p → IsPlaceIn (attached ++ a ∷ []) isid p
place_with attached a isid (Local port) is = attached_with attached a port isid is
place_with attached a isid (Remote mac) is = tt

pub attaching_keeps_places : AttachingKeepsPlaces
attaching_keeps_places t a placed q =
    weaker (λ e. IsPlaceIn t.attached q e.1) (λ e. IsPlaceIn (t.attached ++ a ∷ []) q e.1) (known_in t.learned q) (λ e is. place_with t.attached a q e.1 is) (placed q)

-- ---- detaching

-- another port stays attached
still : (port : ℕ) (attached : List Attachment) (p : ℕ) (isid : Isid) → p ≢ port → IsAttachedTo attached p isid → IsAttachedTo (without_customer_port port attached) p isid
still port [] p isid other is = absurd is
still port (a ∷ attached) p isid other is = by_test (eqb a.port port) refl is (still port attached p isid other)
  where
    by_test : (b : Bool) → eqb a.port port ≡ b → IsAttachedTo (a ∷ attached) p isid → (IsAttachedTo attached p isid → IsAttachedTo (without_customer_port port attached) p isid)
        → IsAttachedTo (if not b then a ∷ without_customer_port port attached else without_customer_port port attached) p isid
    by_test true e (inl here) rest = absurd (other (sym here.0 ∙ eqb-true a.port port e))
    by_test true e (inr later) rest = rest later
    by_test false e (inl here) rest = inl here
    by_test false e (inr later) rest = inr (rest later)

-- a place that isn't the port
place_still : (port : ℕ) (attached : List Attachment) (isid : Isid) (p : Place) → is_local port p ≡ false → IsPlaceIn attached isid p → IsPlaceIn (without_customer_port port attached) isid p
place_still port attached isid (Local p) other is = still port attached p isid (λ e. false≢true (sym other ∙ eq-eqb p port e)) is
place_still port attached isid (Remote mac) other is = tt

-- the addresses that aren't at the port
others_still : (port : ℕ) (attached : List Attachment) (isid : Isid) (es : List Entry) → AllByRecursion (λ e. IsPlaceIn attached isid e.1) es → AllByRecursion (λ e. IsPlaceIn (without_customer_port port attached) isid e.1) (without_local port es)
others_still port attached isid [] all = tt
others_still port attached isid (e ∷ es) all = by_test (is_local port e.1) refl (others_still port attached isid es all.1)
  where
    by_test : (b : Bool) → is_local port e.1 ≡ b → AllByRecursion (λ x. IsPlaceIn (without_customer_port port attached) isid x.1) (without_local port es) → AllByRecursion (λ x. IsPlaceIn (without_customer_port port attached) isid x.1) (if not b then e ∷ without_local port es else without_local port es)
    by_test true t rest = rest
    by_test false t rest = (place_still port attached isid e.1 t all.0, rest)

-- and all addresses of an I-SID of which the port is none
apart_still : (port : ℕ) (attached : List Attachment) (isid : Isid) → (IsAttachedTo attached port isid → ⊥) → (p : Place) → IsPlaceIn attached isid p → IsPlaceIn (without_customer_port port attached) isid p
apart_still port attached isid none (Local p) is = still port attached p isid (λ e. none (subst (λ (x : ℕ). IsAttachedTo attached x isid) e is)) is
apart_still port attached isid none (Remote mac) is = tt

forgotten : (port : ℕ) (attached : List Attachment) (learned : Addresses) (isid q : Isid) (o : Option (List Entry)) → get learned isid ≡ o
    → ((x : Isid) → AllByRecursion (λ e. IsPlaceIn attached x e.1) (known_in learned x)) → (b : Bool) → eq_by_cmp isid_cmp q isid ≡ b
    → (eq_by_cmp isid_cmp q isid ≡ false → IsAttachedTo attached port q → ⊥)
    → AllByRecursion (λ e. IsPlaceIn (without_customer_port port attached) q e.1) (known_in (with_known learned isid (option_map (without_local port) o)) q)
forgotten port attached learned isid q None is placed true e apart =
    let same : isid ≡ q = sym (tied_is q isid e) in
    let none : known_in learned q ≡ [] = ap or_none (subst (λ (x : Isid). get learned x ≡ None) same is) in
    subst (λ (es : List Entry). AllByRecursion (λ x. IsPlaceIn (without_customer_port port attached) q x.1) es) (sym none) tt
forgotten port attached learned isid q None is placed false e apart =
    weaker (λ x. IsPlaceIn attached q x.1) (λ x. IsPlaceIn (without_customer_port port attached) q x.1) (known_in learned q) (λ x is. apart_still port attached q (apart e) x.1 is) (placed q)
forgotten port attached learned isid q (Some es) is placed b e apart =
    let here : AllByRecursion (λ x. IsPlaceIn attached isid x.1) es = subst (λ (o : Option (List Entry)). AllByRecursion (λ x. IsPlaceIn attached isid x.1) (or_none o)) is (placed isid) in
    subst (λ (o : Option (List Entry)). AllByRecursion (λ x. IsPlaceIn (without_customer_port port attached) q x.1) (or_none o)) (sym (get-insert isids_total learned isid (without_local port es) q)) (by_test b e)
  where
    by_test : (c : Bool) → eq_by_cmp isid_cmp q isid ≡ c → AllByRecursion (λ x. IsPlaceIn (without_customer_port port attached) q x.1) (or_none (cond (eq_by_cmp isid_cmp q isid) (Some (without_local port es)) (get learned q)))
    by_test true t = rw t (subst (λ (y : Isid). AllByRecursion (λ x. IsPlaceIn (without_customer_port port attached) y x.1) (without_local port es)) (sym (tied_is q isid t)) (others_still port attached isid es (subst (λ (o : Option (List Entry)). AllByRecursion (λ x. IsPlaceIn attached isid x.1) (or_none o)) is (placed isid))))
    by_test false t = rw t (weaker (λ x. IsPlaceIn attached q x.1) (λ x. IsPlaceIn (without_customer_port port attached) q x.1) (known_in learned q) (λ x is. apart_still port attached q (apart t) x.1 is) (placed q))

gone : (port : ℕ) (attached : List Attachment) (learned : Addresses) (isid q : Isid)
    → ((x : Isid) → AllByRecursion (λ e. IsPlaceIn attached x e.1) (known_in learned x))
    → (eq_by_cmp isid_cmp q isid ≡ false → IsAttachedTo attached port q → ⊥)
    → AllByRecursion (λ e. IsPlaceIn (without_customer_port port attached) q e.1) (known_in (with_isid_forgotten learned isid) q)
gone port attached learned isid q placed apart =
    subst (λ (o : Option (List Entry)). AllByRecursion (λ x. IsPlaceIn (without_customer_port port attached) q x.1) (or_none o)) (sym (get-remove isids_total learned isid q)) (by_test (eq_by_cmp isid_cmp q isid) refl)
  where
    by_test : (c : Bool) → eq_by_cmp isid_cmp q isid ≡ c → AllByRecursion (λ x. IsPlaceIn (without_customer_port port attached) q x.1) (or_none (cond c None (get learned q)))
    by_test true t = tt
    by_test false t = weaker (λ x. IsPlaceIn attached q x.1) (λ x. IsPlaceIn (without_customer_port port attached) q x.1) (known_in learned q) (λ x is. apart_still port attached q (apart t) x.1 is) (placed q)

-- no port of this number
pub not_attached : (port : ℕ) (attached : List Attachment) → attachment_of port attached ≡ None → (isid : Isid) → IsAttachedTo attached port isid → ⊥
not_attached port [] is isid at = at
not_attached port (a ∷ attached) is isid at = by_test (eqb a.port port) refl at (λ (none : attachment_of port attached ≡ None). not_attached port attached none isid)
  where
    by_test : (b : Bool) → eqb a.port port ≡ b → IsAttachedTo (a ∷ attached) port isid → (attachment_of port attached ≡ None → IsAttachedTo attached port isid → ⊥) → ⊥
    by_test true t at rest = absurd (let e = rw t at is in cc)
    by_test false t (inl here) rest = false≢true (sym t ∙ eq-eqb a.port port here.0)
    by_test false t (inr later) rest = rest (rw t at is) later

-- the port of what was found
found_port : (port : ℕ) (attached : List Attachment) (a : Attachment) → attachment_of port attached ≡ Some a → IsAttachedTo attached port a.isid
found_port port [] a is = absurd cc
found_port port (b ∷ attached) a is = (elim (eqb b.port port) as (λ c. eqb b.port port ≡ c → IsAttachedTo (b ∷ attached) port a.isid) [
  | true ↦ λ t. let e = rw t at is in let same : b ≡ a = cc in inl (eqb-true b.port port t, ap (λ (x : Attachment). x.isid) same)
  | false ↦ λ t. inr (found_port port attached a (rw t at is))
]) refl

detached : (t : Tenant) (port : ℕ) (o : Option Attachment) (q : Isid) → attachment_of port t.attached ≡ o → AreAttachedOnce t.attached → ArePlaced t
    → AllByRecursion (λ e. IsPlaceIn (without_customer_port port t.attached) q e.1) (known_in (learned_without port t o) q)
detached t port None q is once placed =
    weaker (λ x. IsPlaceIn t.attached q x.1) (λ x. IsPlaceIn (without_customer_port port t.attached) q x.1) (known_in t.learned q) (λ x here. apart_still port t.attached q (not_attached port t.attached is q) x.1 here) (placed q)
detached t port (Some a) q is once placed = by_left (list_any (is_in a.isid) (without_customer_port port t.attached))
  where
    other : eq_by_cmp isid_cmp q a.isid ≡ false → IsAttachedTo t.attached port q → ⊥
    other t' at = false≢true (sym t' ∙ tied q a.isid (once port q a.isid at (found_port port t.attached a is)))

    by_left : (b : Bool) → AllByRecursion (λ e. IsPlaceIn (without_customer_port port t.attached) q e.1) (known_in (if b then with_port_forgotten t.learned a.isid port else with_isid_forgotten t.learned a.isid) q)
    by_left true = forgotten port t.attached t.learned a.isid q (get t.learned a.isid) refl placed (eq_by_cmp isid_cmp q a.isid) refl other
    by_left false = gone port t.attached t.learned a.isid q placed other

pub detaching_keeps_places : DetachingKeepsPlaces
detaching_keeps_places t port once placed q = detached t port (attachment_of port t.attached) q refl once placed

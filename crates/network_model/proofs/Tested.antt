-- What each test of a command decides.
use Rattle.std.proofs.Common.{◌≡◌, ℕ, ◌+◌, ◌<◌, ◌≤◌, ◌%◌, ◌==◌, Bool, true, false, true≢false, not, cond, ◌&&◌, ◌||◌, nat_lt, nat_le, List, [], ◌∷◌, length, replicate, Option, Some, None, is_some, is_none, slice_index_or, ◌⊎◌, inl, inr, ⊎_elim, refl, sym, ap, subst, ◌∙◌, arith}
use Rattle.std.specs.Prelude.{Decides, Any, Contains, slice_index, if◌then◌else◌}
use Rattle.std.specs.List.{AllByRecursion, list_all, list_any, position_from}
use Rattle.std.specs.Str.{bytes_eq}
use Rattle.std.proofs.lemmas.Bool.Decides.{Decides-at, Decides-like, Decides-not, Decides-and, Decides-or, Decides-eqb, nat_tests}
use Rattle.std.proofs.lemmas.List.Folds.{Any-from_list_any, list_any-from_Any}
use Rattle.std.proofs.lemmas.Iterator.Adapters.{position_from-zero}
use Rattle.std.proofs.lemmas.Slice.Eq.{bytes_eq-Decides}
use Rattle.spb_types.specs.declared.limits.TheConstants.{MOST_CUSTOMER_PORTS, MOST_ISIDS}
use Rattle.spb_types.specs.declared.address.Mac.{Mac}
use Rattle.spb_types.specs.Service.{sends}
use Rattle.spb_types.specs.declared.service.Attachment.{Attachment}
use Rattle.spb_types.specs.declared.service.SourceId.{SourceId}
use Rattle.bridge_api.specs.Config.{IsMetric}
use Rattle.bridge_api.specs.Customers.{IsCustomerFrame}
use Rattle.bridge_api.specs.declared.kind.Kind.{Kind}
use Rattle.bridge_api.specs.declared.kind.Kind.TheVariants as kind
use Rattle.spb_world.specs.declared.declaration.DeclaredLink.{DeclaredLink}
use Rattle.spb_world.specs.declared.declaration.LinkEnd.{LinkEnd}
use Rattle.spb_world.specs.World.{World, Bridges, Links, Services, names_of, things_of, place_of, vid_of_isid, attached_at, ports_at, is_between, is_at_port}
use Rattle.spb_world.specs.Declaring.{has_vid, is_new_vid, is_vid_range, has_vid_room, is_before_bridges, is_new_name, is_new_system, is_new_source, is_address, is_bridge_address, is_bridge_range, has_bridge_room, is_free_port, is_port, is_link_range, has_link_room, is_unlinked}
use Rattle.spb_world.specs.Services.{is_new_isid, is_isid_range, has_service_room}
use Rattle.spb_world.specs.Attaching.{is_declared_isid, is_customer_port, is_customer_frame, is_attached, is_sending, isids_with, has_isid_room}
use Rattle.spb_world.proofs.AttachedLemmas.{any_at}
use Rattle.network_model.specs.State.{Spare, same_kind, serves, box_from, next_box}
use Rattle.spb_world.specs.Naming.{are_declared}
use Rattle.network_model.specs.Holding.{IsNamed, HoldsAt, HoldsAtBoth, HasLink, IsEndAt, IsVidOf, IsIsidOf, IsVid, IsIsid, IsCustomerPort, HasAttached, HasSending, IsAddress, IsOwnAddress, IsBridgeInRange, HasPort, IsLinkInRange, IsFromTo}

-- ---- tests

pub true-is : (b : Bool) → Decides b (b ≡ true)
true-is b = (λ e. e, λ e. e)

pub false-is : (b : Bool) → Decides (not b) (b ≡ false)
false-is true = (λ e. sym e, λ e. sym e)
false-is false = (λ e. refl, λ e. refl)

-- where the test fails, the opposite of what it says holds
pub fails : {P : Type 0} (b : Bool) → Decides b P → Decides (not b) (¬ P)
fails b d = Decides-not b d

-- and where its opposite fails, it holds
not-not : (b : Bool) → not (not b) ≡ b
not-not true = refl
not-not false = refl

pub opposes : {P : Type 0} (b : Bool) → Decides b P → Decides (not (not b)) P
opposes b d = Decides-at (not (not b)) b (not-not b) d

le-is : (a b : ℕ) → Decides (nat_le a b) (a ≤ b)
le-is a b = (λ e. grind (arith, nat_tests), λ h. grind (arith, nat_tests))

lt-is : (a b : ℕ) → Decides (nat_lt a b) (a < b)
lt-is a b = (λ e. grind (arith, nat_tests), λ h. grind (arith, nat_tests))

pub not-le : (a b : ℕ) → Decides (not (nat_le a b)) (b < a)
not-le a b = Decides-like (not (nat_le a b)) (λ n. by_lt a b n) (λ h le. omega (arith, h, le)) (Decides-not (nat_le a b) (le-is a b))
  where
    by_lt : (a b : ℕ) → ¬ (a ≤ b) → b < a
    by_lt a b n = grind (arith, nat_tests, n)

pub not-lt : (a b : ℕ) → Decides (not (nat_lt a b)) (b ≤ a)
not-lt a b = Decides-like (not (nat_lt a b)) (λ n. by_le a b n) (λ h lt. omega (arith, h, lt)) (Decides-not (nat_lt a b) (lt-is a b))
  where
    by_le : (a b : ℕ) → ¬ (a < b) → b ≤ a
    by_le a b n = grind (arith, nat_tests, n)

and3 : {P Q R : Type 0} (x y z : Bool) → Decides x P → Decides y Q → Decides z R → Decides (x && y && z) (P × Q × R)
and3 x y z p q r = Decides-like (x && y && z) (λ h. (h.0.0, h.0.1, h.1)) (λ h. ((h.0, h.1), h.2)) (Decides-and (x && y) z (Decides-and x y p q) r)

and4 : {P Q R S : Type 0} (x y z u : Bool) → Decides x P → Decides y Q → Decides z R → Decides u S → Decides (x && y && z && u) (P × Q × R × S)
and4 x y z u p q r s = Decides-like (x && y && z && u) (λ h. (h.0.0, h.0.1, h.0.2, h.1)) (λ h. ((h.0, h.1, h.2), h.3)) (Decides-and (x && y && z) u (and3 x y z p q r) s)

-- ---- lists

any-is : {X : Type 0} (p : X → Bool) (P : X → Type 0) → ((x : X) → Decides (p x) (P x)) → (xs : List X) → Decides (list_any p xs) (Any P xs)
any-is p P d xs = (
  λ e. let a = Any-from_list_any p xs e in (a.0, a.1, a.2, a.3, (d a.1).0 a.4),
  λ a. list_any-from_Any p xs (a.0, a.1, a.2, a.3, (d a.1).1 a.4),
)

found : (b r : Bool) (i : ℕ) (o : Option ℕ) → is_some o ≡ r → is_some (cond b (Some i) o) ≡ (b || r)
found true r i o e = refl
found false r i o e = e

pub found-any : {X : Type 0} (p : X → Bool) (i : ℕ) (xs : List X) → is_some (position_from p i xs) ≡ list_any p xs
found-any p i [] = refl
found-any p i (x ∷ xs) = found (p x) (list_any p xs) i (position_from p (i + 1) xs) (found-any p (i + 1) xs)

-- ---- names and places

among : (name : List ℕ) (names : List (List ℕ)) → Decides (list_any (bytes_eq name) names) (Contains names name)
among name names =
    Decides-like (list_any (bytes_eq name) names)
    (λ a. (a.0, a.2, subst (λ n. slice_index_or names a.0 n ≡ n) (sym a.4) a.3))
    (λ h. (h.0, name, h.1, h.2, refl))
    (any-is (bytes_eq name) (λ n. name ≡ n) (λ n. bytes_eq-Decides name n) names)

pub named : {T : Type 0} (name : List ℕ) (entries : List (List ℕ × T)) → Decides (is_some (place_of name entries)) (IsNamed name entries)
named name entries =
    Decides-at (is_some (place_of name entries)) (list_any (bytes_eq name) (names_of entries))
    (ap (λ (o : Option ℕ). is_some o) (position_from-zero (bytes_eq name) (names_of entries)) ∙ found-any (bytes_eq name) 0 (names_of entries))
    (among name (names_of entries))

pub known : {T : Type 0} (name : List ℕ) (entries : List (List ℕ × T)) (k : ℕ) → place_of name entries ≡ Some k → IsNamed name entries
known name entries k at = (named name entries).0 (ap (λ (o : Option ℕ). is_some o) at)

pub unknown : {T : Type 0} (name : List ℕ) (entries : List (List ℕ × T)) → place_of name entries ≡ None → ¬ IsNamed name entries
unknown name entries at is = true≢false (sym ((named name entries).1 is) ∙ ap (λ (o : Option ℕ). is_some o) at)

some-is : (x y : ℕ) → Some x ≡ Some y → x ≡ y
some-is x y h = cc

pub at-is : {T : Type 0} (name : List ℕ) (entries : List (List ℕ × T)) (P : ℕ → Type 0) (k : ℕ) (b : Bool) → place_of name entries ≡ Some k → Decides b (P k) → Decides b (HoldsAt name entries P)
at-is name entries P k b at d = Decides-like b (λ p. (k, at, p)) (λ h. subst P (some-is h.0 k (sym h.1 ∙ at)) h.2) d

pub both-at : (a b : List ℕ) (bridges : Bridges) (P : ℕ → ℕ → Type 0) (i j : ℕ) (t : Bool) → place_of a bridges ≡ Some i → place_of b bridges ≡ Some j → Decides t (P i j) → Decides t (HoldsAtBoth a b bridges P)
both-at a b bridges P i j t at bt d = at-is a bridges (λ k. HoldsAt b bridges (λ l. P k l)) i t at (at-is b bridges (λ l. P i l) j t bt d)

-- ---- a base VID

pub taken_vid : (w : World) (vid ect : ℕ) → Decides (not (is_new_vid w.vids vid)) (Any (λ plan. plan.vid.value ≡ vid) w.vids)
taken_vid w vid ect = opposes (has_vid w.vids vid) (any-is (λ plan. plan.vid.value == vid) (λ plan. plan.vid.value ≡ vid) (λ plan. Decides-eqb plan.vid.value vid) w.vids)

pub wrong_vid : (vid ect : ℕ) → Decides (not (is_vid_range vid ect)) (¬ IsVid vid ect)
unfolding is_vid_range
wrong_vid vid ect = fails (nat_le 1 vid && nat_le vid 4094 && nat_le 1 ect && nat_le ect 16) (and4 _ _ _ _ (le-is 1 vid) (le-is vid 4094) (le-is 1 ect) (le-is ect 16))

pub full_of_vids : (w : World) → Decides (not (has_vid_room w)) (16 ≤ length w.vids)
full_of_vids w = not-lt (length w.vids) 16

pub late : (w : World) → Decides (not (is_before_bridges w)) (¬ (length w.bridges ≡ 0))
late w = fails (length w.bridges == 0) (Decides-eqb (length w.bridges) 0)

-- ---- a service

pub undeclared_vid : (w : World) (vid : ℕ) → Decides (not (has_vid w.vids vid)) (¬ IsVidOf w vid)
undeclared_vid w vid = fails (has_vid w.vids vid) (any-is (λ plan. plan.vid.value == vid) (λ plan. plan.vid.value ≡ vid) (λ plan. Decides-eqb plan.vid.value vid) w.vids)

found_isid : (services : Services) (isid : ℕ) → is_some (vid_of_isid services isid) ≡ list_any (λ s. isid == s.0.value) services
found_isid [] isid = refl
found_isid (s ∷ services) isid = at (isid == s.0.value) (found_isid services isid)
  where
    at : (b : Bool) → is_some (vid_of_isid services isid) ≡ list_any (λ t. isid == t.0.value) services → is_some (cond b (Some s.1) (vid_of_isid services isid)) ≡ (b || list_any (λ t. isid == t.0.value) services)
    at true rest = refl
    at false rest = rest

turned-eqb : (a b : ℕ) → Decides (a == b) (b ≡ a)
turned-eqb a b = Decides-like (a == b) (λ e. sym e) (λ e. sym e) (Decides-eqb a b)

declared_isid : (w : World) (isid : ℕ) → Decides (is_some (vid_of_isid w.services isid)) (IsIsidOf w isid)
declared_isid w isid = Decides-at (is_some (vid_of_isid w.services isid)) (list_any (λ s. isid == s.0.value) w.services) (found_isid w.services isid) (any-is (λ s. isid == s.0.value) (λ s. s.0.value ≡ isid) (λ s. turned-eqb isid s.0.value) w.services)

not-none : {X : Type 0} (o : Option X) → not (is_none o) ≡ is_some o
not-none None = refl
not-none (Some x) = refl

pub taken_isid : (w : World) (isid : ℕ) → Decides (not (is_new_isid w.services isid)) (IsIsidOf w isid)
taken_isid w isid = Decides-at (not (is_new_isid w.services isid)) (is_some (vid_of_isid w.services isid)) (not-none (vid_of_isid w.services isid)) (declared_isid w isid)

pub wrong_isid : (isid : ℕ) → Decides (not (is_isid_range isid)) (¬ IsIsid isid)
unfolding is_isid_range
wrong_isid isid = fails (nat_le 1 isid && nat_le isid 16777215) (Decides-and _ _ (le-is 1 isid) (le-is isid 16777215))

pub full_of_services : (w : World) → Decides (not (has_service_room w)) (4096 ≤ length w.services)
full_of_services w = not-lt (length w.services) 4096

-- ---- a customer port

pub undeclared_isid : (w : World) (isid : ℕ) → Decides (not (is_declared_isid w.services isid)) (¬ IsIsidOf w isid)
undeclared_isid w isid = fails (is_declared_isid w.services isid) (declared_isid w isid)

pub wrong_port : (port : ℕ) → Decides (not (is_customer_port port)) (¬ IsCustomerPort port)
unfolding is_customer_port
wrong_port port = fails (nat_le 1 port && nat_le port MOST_CUSTOMER_PORTS) (Decides-and _ _ (le-is 1 port) (le-is port MOST_CUSTOMER_PORTS))

pub wrong_entry : (port : ℕ) (bytes : List ℕ) → Decides (not (is_customer_port port && is_customer_frame bytes)) (¬ (IsCustomerPort port × IsCustomerFrame bytes))
unfolding is_customer_port is_customer_frame
wrong_entry port bytes =
    fails (is_customer_port port && is_customer_frame bytes)
    (Decides-and _ _ (Decides-and _ _ (le-is 1 port) (le-is port MOST_CUSTOMER_PORTS))
    (Decides-like (is_customer_frame bytes) (λ h. record { low = h.0; high = h.1 }) (λ h. (h.low, h.high)) (Decides-and _ _ (le-is 14 (length bytes)) (le-is (length bytes) 2000))))

pub full_of_isids : (attached : List Attachment) (isid : ℕ) → Decides (not (has_isid_room attached isid)) (MOST_ISIDS < length (isids_with attached isid))
unfolding has_isid_room
full_of_isids attached isid = not-le (length (isids_with attached isid)) MOST_ISIDS

attached-is : (w : World) (i port : ℕ) → Decides (is_attached w.attached i port) (HasAttached w i port)
attached-is w i port =
    Decides-at (is_attached w.attached i port) (list_any (λ a. a.port == port) (attached_at w i))
    (any_at (λ a. a.port == port) i w.attached)
    (any-is (λ a. a.port == port) (λ a. a.port ≡ port) (λ a. Decides-eqb a.port port) (attached_at w i))

pub taken_customer_port : (w : World) (i port : ℕ) → Decides (not (not (is_attached w.attached i port))) (HasAttached w i port)
taken_customer_port w i port = opposes (is_attached w.attached i port) (attached-is w i port)

pub free_customer_port : (w : World) (i port : ℕ) → Decides (not (is_attached w.attached i port)) (¬ HasAttached w i port)
free_customer_port w i port = fails (is_attached w.attached i port) (attached-is w i port)

pub mute_customer_port : (w : World) (i port : ℕ) → Decides (not (is_sending w.attached i port)) (¬ HasSending w i port)
mute_customer_port w i port =
    fails (is_sending w.attached i port)
    (Decides-at (is_sending w.attached i port) (list_any (λ a. (a.port == port) && sends a.mode) (attached_at w i))
    (any_at (λ a. (a.port == port) && sends a.mode) i w.attached)
    (any-is (λ a. (a.port == port) && sends a.mode) (λ a. (a.port ≡ port) × (sends a.mode ≡ true)) (λ a. Decides-and (a.port == port) (sends a.mode) (Decides-eqb a.port port) (true-is (sends a.mode))) (attached_at w i)))

-- ---- a name, a bridge

pub taken_name : {T : Type 0} (name : List ℕ) (entries : List (List ℕ × T)) → Decides (not (is_new_name name entries)) (IsNamed name entries)
unfolding is_new_name
taken_name name entries = Decides-at (not (is_new_name name entries)) (is_some (place_of name entries)) (none-some (place_of name entries)) (named name entries)
  where
    none-some : (o : Option ℕ) → not (is_none o) ≡ is_some o
    none-some None = refl
    none-some (Some k) = refl

not-and : {P Q : Type 0} (x y : Bool) → Decides (not x) P → Decides (not y) Q → Decides (not (x && y)) (P ⊎ Q)
not-and true y p q = Decides-like (not y) (λ h. inr h) (λ h. ⊎_elim (λ e. absurd (true≢false (sym (p.1 e)))) (λ e. e) h) q
not-and false y p q = (λ e. inl (p.0 refl), λ h. refl)

pub taken_id : (w : World) (system : Mac) (source : SourceId) → Decides (not (is_new_system system w.bridges && is_new_source source w.bridges)) (Any (λ b. b.bridge.id.system.mac.bytes ≡ system.bytes) (things_of w.bridges) ⊎ Any (λ b. b.bridge.source.value ≡ source.value) (things_of w.bridges))
unfolding is_new_system is_new_source
taken_id w system source =
    not-and (is_new_system system w.bridges) (is_new_source source w.bridges)
    (opposes _ (any-is (λ b. bytes_eq b.bridge.id.system.mac.bytes system.bytes) (λ b. b.bridge.id.system.mac.bytes ≡ system.bytes) (λ b. bytes_eq-Decides b.bridge.id.system.mac.bytes system.bytes) (things_of w.bridges)))
    (opposes _ (any-is (λ b. b.bridge.source.value == source.value) (λ b. b.bridge.source.value ≡ source.value) (λ b. Decides-eqb b.bridge.source.value source.value) (things_of w.bridges)))

octets : (bytes : List ℕ) → Decides (list_all (λ b. nat_lt b 256) bytes) (AllByRecursion (λ b. b < 256) bytes)
octets [] = (λ _. tt, λ _. refl)
octets (b ∷ bytes) = Decides-and (nat_lt b 256) (list_all (λ b. nat_lt b 256) bytes) (lt-is b 256) (octets bytes)

six_octets : (mac : Mac) → Decides (is_address mac) (IsAddress mac)
six_octets mac = Decides-and (length mac.bytes == 6) (list_all (λ b. nat_lt b 256) mac.bytes) (Decides-eqb (length mac.bytes) 6) (octets mac.bytes)

own_address : (mac : Mac) → Decides (is_bridge_address mac) (IsOwnAddress mac)
own_address mac =
    and3 (is_address mac) (slice_index mac.bytes 0 % 2 == 0) (not (bytes_eq mac.bytes (replicate 6 0)))
    (six_octets mac) (Decides-eqb (slice_index mac.bytes 0 % 2) 0) (fails _ (bytes_eq-Decides mac.bytes (replicate 6 0)))

pub wrong_bridge : (priority : ℕ) (system : Mac) (source : SourceId) (ports : ℕ) → Decides (not (is_bridge_range priority system source ports)) (¬ IsBridgeInRange priority system source ports)
unfolding is_bridge_range
wrong_bridge priority system source ports = fails (is_bridge_range priority system source ports) (and4 _ _ _ _ (le-is priority 65535) (own_address system) (lt-is source.value 1048576) (le-is ports 32))

pub full_of_bridges : (w : World) → Decides (not (has_bridge_room w)) (96 ≤ length w.bridges)
full_of_bridges w = not-lt (length w.bridges) 96

same-is : (a b : Kind) → Decides (same_kind a b) (a ≡ b)
same-is kind.Plain kind.Plain = (λ e. refl, λ e. refl)
same-is kind.Plain kind.Swift = (λ e. absurd (true≢false (sym e)), λ e. absurd cc)
same-is kind.Swift kind.Plain = (λ e. absurd (true≢false (sym e)), λ e. absurd cc)
same-is kind.Swift kind.Swift = (λ e. refl, λ e. refl)

served : (b r : Bool) (k : ℕ) (o : Option ℕ) → is_some o ≡ r → is_some (if b then Some k else o) ≡ (b || r)
served true r k o e = refl
served false r k o e = e

box-any : (k : ℕ) (wanted : Kind) (rack : List Spare) → is_some (box_from k wanted rack) ≡ list_any (serves wanted) rack
box-any k wanted [] = refl
box-any k wanted (b ∷ bs) = served (serves wanted b) (list_any (serves wanted) bs) k (box_from (k + 1) wanted bs) (box-any (k + 1) wanted bs)

pub spent_rack : (wanted : Kind) (rack : List Spare) → Decides (not (is_some (next_box wanted rack))) (¬ Any (λ box. (box.blank ≡ true) × (box.kind ≡ wanted)) rack)
unfolding next_box
spent_rack wanted rack =
    fails (is_some (box_from 0 wanted rack))
    (Decides-at (is_some (box_from 0 wanted rack)) (list_any (serves wanted) rack) (box-any 0 wanted rack)
    (any-is (serves wanted) (λ box. (box.blank ≡ true) × (box.kind ≡ wanted)) (λ box. Decides-and _ _ (true-is box.blank) (same-is box.kind wanted)) rack))

-- ---- a link

end-is : (e : LinkEnd) (i port : ℕ) → Decides ((e.bridge == i) && (e.port == port)) (IsEndAt e i port)
end-is e i port = Decides-and _ _ (Decides-eqb e.bridge i) (Decides-eqb e.port port)

has_link : (links : Links) (i port : ℕ) → Decides (not (is_free_port links i port)) (HasLink links i port)
unfolding is_free_port
has_link links i port = opposes _ (any-is (λ l. is_at_port l i port) (λ l. IsEndAt l.a i port ⊎ IsEndAt l.b i port) (λ l. Decides-or _ _ (end-is l.a i port) (end-is l.b i port)) (things_of links))

-- of a path
pub undeclared : (w : World) (from to : List ℕ) (vid : ℕ) → Decides (not (are_declared w from to vid)) (((¬ IsNamed from w.bridges) ⊎ (¬ IsNamed to w.bridges)) ⊎ (¬ IsVidOf w vid))
undeclared w from to vid =
    not-and (is_some (place_of from w.bridges) && is_some (place_of to w.bridges)) (has_vid w.vids vid)
    (not-and (is_some (place_of from w.bridges)) (is_some (place_of to w.bridges)) (fails (is_some (place_of from w.bridges)) (named from w.bridges)) (fails (is_some (place_of to w.bridges)) (named to w.bridges)))
    (undeclared_vid w vid)

pub taken_port : (w : World) (i port_a j port_b : ℕ) → Decides (not (is_free_port w.links i port_a && is_free_port w.links j port_b)) (HasLink w.links i port_a ⊎ HasLink w.links j port_b)
taken_port w i port_a j port_b = not-and (is_free_port w.links i port_a) (is_free_port w.links j port_b) (has_link w.links i port_a) (has_link w.links j port_b)

port-is : (bridges : Bridges) (i port : ℕ) → Decides (is_port bridges i port) (HasPort bridges i port)
port-is bridges i port = Decides-and _ _ (le-is 1 port) (le-is port (ports_at bridges i))

metric-is : (m : ℕ) → Decides (nat_le 1 m && nat_le m 16777214) (IsMetric m)
metric-is m = Decides-like (nat_le 1 m && nat_le m 16777214) (λ h. record { low = h.0; high = h.1 }) (λ h. (h.low, h.high)) (Decides-and _ _ (le-is 1 m) (le-is m 16777214))

pub wrong_metric : (m : ℕ) → Decides (not (nat_le 1 m && nat_le m 16777214)) (¬ IsMetric m)
wrong_metric m = fails (nat_le 1 m && nat_le m 16777214) (metric-is m)

pub wrong_link : (bridges : Bridges) (i port_a j port_b cost : ℕ) → Decides (not (is_link_range bridges i port_a j port_b cost)) (¬ IsLinkInRange bridges i port_a j port_b cost)
unfolding is_link_range
wrong_link bridges i port_a j port_b cost =
    fails (is_link_range bridges i port_a j port_b cost)
    (Decides-like (is_link_range bridges i port_a j port_b cost) (λ h. (h.0.0, h.0.1, h.0.2, record { low = h.0.3; high = h.1 })) (λ h. ((h.0, h.1, h.2, h.3.low), h.3.high))
    (Decides-and _ _ (and4 _ _ _ _ (fails (i == j) (Decides-eqb i j)) (port-is bridges i port_a) (port-is bridges j port_b) (le-is 1 cost)) (le-is cost 16777214)))

pub full_of_links : (w : World) → Decides (not (has_link_room w)) (400 ≤ length w.links)
full_of_links w = not-lt (length w.links) 400

from-to : (l : DeclaredLink) (i j : ℕ) → Decides ((l.a.bridge == i) && (l.b.bridge == j)) (IsFromTo l i j)
from-to l i j = Decides-and _ _ (Decides-eqb l.a.bridge i) (Decides-eqb l.b.bridge j)

between-is : (l : DeclaredLink) (i j : ℕ) → Decides (is_between l i j) (IsFromTo l i j ⊎ IsFromTo l j i)
between-is l i j = Decides-or _ _ (from-to l i j) (from-to l j i)

pub joined : (w : World) (i j : ℕ) → Decides (not (is_unlinked w.links i j)) (Any (λ l. IsFromTo l i j ⊎ IsFromTo l j i) (things_of w.links))
unfolding is_unlinked
joined w i j = opposes _ (any-is (λ l. is_between l i j) (λ l. IsFromTo l i j ⊎ IsFromTo l j i) (λ l. between-is l i j) (things_of w.links))

-- ---- rounds, deliveries and frames

pub wrong_count : (n most : ℕ) → Decides (not (nat_le 1 n && nat_le n most)) (¬ ((1 ≤ n) × (n ≤ most)))
wrong_count n most = fails (nat_le 1 n && nat_le n most) (Decides-and _ _ (le-is 1 n) (le-is n most))

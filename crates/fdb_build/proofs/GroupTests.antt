-- The test of a group row's port says what `LeadsOn` says.
use Rattle.std.proofs.Common.{◌≡◌, ◌≢◌, inl, inr, ℕ, Bool, true, false, true≢false, not, ◌&&◌, ◌||◌, ◌==◌, List, [], ◌∷◌, ◌++◌, Option, Some, None, option_and_then, if◌then◌else◌, refl, sym, ap, ◌∙◌, subst}
use Rattle.std.specs.List.{list_any}
use Rattle.std.specs.Str.{bytes_eq}
use Rattle.std.proofs.lemmas.Bool.{and_parts, eq-eqb, eqb-true}
use Rattle.std.proofs.lemmas.Slice.Eq.{bytes_eq-Decides}
use Rattle.spb_types.specs.Address.{same_system, group_address}
use Rattle.spb_types.specs.Ect.{mask_of}
use Rattle.spb_types.specs.Graph.{IsDistinct, port_between, IsValid}
use Rattle.spb_types.specs.declared.address.Mac.{Mac}
use Rattle.spb_types.specs.declared.address.SystemId.{SystemId}
use Rattle.spb_types.specs.declared.graph.Graph.{Graph}
use Rattle.spb_types.specs.declared.graph.GraphBridge.{GraphBridge}
use Rattle.spb_types.specs.declared.graph.Member.{Member}
use Rattle.spb_types.specs.declared.service.Isid.{Isid}
use Rattle.spb_types.specs.declared.service.Vid.{Vid}
use Rattle.spb_types.specs.declared.service.VidPlan.{VidPlan}
use Rattle.ect_trees.specs.Best.{IsBest, best_of}
use Rattle.ect_trees.proofs.Among.{same_is, same_self, among_right}
use Rattle.ect_trees.proofs.Exists.{best_of_some}
use Rattle.ect_trees.proofs.Members.{Has, has_from_contains, contains_from_has}
use Rattle.ect_trees.proofs.Walks.{path_distinct}
use Rattle.fdb_build.specs.Groups.{Sends, Receives, Follows, LeadsOn, is_member, sends_in, receives_in, after_in, port_after, is_that, serves, leads_on}

-- some item passes a test
pub any_has : {X : Type 0} (test : X → Bool) (xs : List X) → list_any test xs ≡ true → (x : X) × Has x xs × (test x ≡ true)
any_has test [] h = absurd (true≢false (sym h))
any_has test (x ∷ xs) h = by (test x) refl h (any_has test xs)
  where
    by : (b : Bool) → test x ≡ b → (b || list_any test xs) ≡ true → (list_any test xs ≡ true → (z : _) × Has z xs × (test z ≡ true)) → (z : _) × Has z (x ∷ xs) × (test z ≡ true)
    by true e k r = (x, inl refl, e)
    by false e k r = let rest = r k in (rest.0, inr rest.1, rest.2)

or_right : (b : Bool) → (b || true) ≡ true
or_right true = refl
or_right false = refl

pub has_any : {X : Type 0} (test : X → Bool) (x : X) (xs : List X) → Has x xs → test x ≡ true → list_any test xs ≡ true
has_any test x [] h e = absurd h
has_any test x (y ∷ ys) (inl same) e = ap (λ b. b || list_any test ys) (ap test (sym same) ∙ e)
has_any test x (y ∷ ys) (inr h) e = ap (λ b. test y || b) (has_any test x ys h e) ∙ or_right (test y)

pub both : (b c : Bool) → b ≡ true → c ≡ true → (b && c) ≡ true
both b c e f = ap (λ x. x && c) e ∙ f

-- ---- members

-- its names are these
record IsNamed (isid : Isid) (vid : Vid) (x : SystemId) (m : Member) : Type 0 where
  of_system : m.system ≡ x
  in_service : m.isid ≡ isid
  in_vid : m.vid ≡ vid

member_named : (isid : Isid) (vid : Vid) (x : SystemId) (m : Member) → is_member isid vid x m ≡ true → IsNamed isid vid x m
member_named isid vid x m h =
    let one = and_parts (same_system m.system x) _ h in
    let two = and_parts (m.isid.value == isid.value) (m.vid.value == vid.value) one.1 in
    let service : m.isid.value ≡ isid.value = eqb-true m.isid.value isid.value two.0 in
    let base : m.vid.value ≡ vid.value = eqb-true m.vid.value vid.value two.1 in
    record { of_system = same_is m.system x one.0; in_service = λ i. record { value = service i }; in_vid = λ i. record { value = base i } }

named_member : (isid : Isid) (vid : Vid) (x : SystemId) (m : Member) → m.system ≡ x → m.isid ≡ isid → m.vid ≡ vid → is_member isid vid x m ≡ true
named_member isid vid x m system service base =
    both (same_system m.system x) _ (ap (same_system m.system) (sym system) ∙ same_self m.system)
    (both _ _ (eq-eqb m.isid.value isid.value (ap (λ (i : Isid). i.value) service)) (eq-eqb m.vid.value vid.value (ap (λ (v : Vid). v.value) base)))

pub sends_is : (g : Graph) (isid : Isid) (vid : Vid) (x : SystemId) → sends_in g isid vid x ≡ true → Sends g isid vid x
sends_is g isid vid x h =
    let one = any_has (λ m. is_member isid vid x m && m.transmit) g.members h in
    let m : Member = one.0 in
    let parts = and_parts (is_member isid vid x m) m.transmit one.2 in
    let named = member_named isid vid x m parts.0 in
    record { member = m; there = contains_from_has g.members m one.1; of_system = named.of_system; in_service = named.in_service; in_vid = named.in_vid; transmits = parts.1 }

pub is_sends : (g : Graph) (isid : Isid) (vid : Vid) (x : SystemId) → Sends g isid vid x → sends_in g isid vid x ≡ true
is_sends g isid vid x h =
    has_any (λ m. is_member isid vid x m && m.transmit) h.member g.members (has_from_contains g.members h.member h.there)
    (both _ _ (named_member isid vid x h.member h.of_system h.in_service h.in_vid) h.transmits)

pub receives_is : (g : Graph) (isid : Isid) (vid : Vid) (x : SystemId) → receives_in g isid vid x ≡ true → Receives g isid vid x
receives_is g isid vid x h =
    let one = any_has (λ m. is_member isid vid x m && m.receive) g.members h in
    let m : Member = one.0 in
    let parts = and_parts (is_member isid vid x m) m.receive one.2 in
    let named = member_named isid vid x m parts.0 in
    record { member = m; there = contains_from_has g.members m one.1; of_system = named.of_system; in_service = named.in_service; in_vid = named.in_vid; receives = parts.1 }

pub is_receives : (g : Graph) (isid : Isid) (vid : Vid) (x : SystemId) → Receives g isid vid x → receives_in g isid vid x ≡ true
is_receives g isid vid x h =
    has_any (λ m. is_member isid vid x m && m.receive) h.member g.members (has_from_contains g.members h.member h.there)
    (both _ _ (named_member isid vid x h.member h.of_system h.in_service h.in_vid) h.receives)

-- ---- the bridge that follows

-- it stands right behind m
pub record Stands (p : List SystemId) (m c : SystemId) : Type 0 where
  before : List SystemId
  after : List SystemId
  is : p ≡ before ++ m ∷ c ∷ after

pub after_stands : (m c : SystemId) (p : List SystemId) → after_in m p ≡ Some c → Stands p m c
after_stands m c [] h = cc
after_stands m c (x ∷ []) h = cc
after_stands m c (x ∷ y ∷ ys) h = by (same_system x m) refl h (after_stands m c (y ∷ ys))
  where
    by : (b : Bool) → same_system x m ≡ b → (if b then Some y else after_in m (y ∷ ys)) ≡ Some c → (after_in m (y ∷ ys) ≡ Some c → Stands (y ∷ ys) m c) → Stands (x ∷ y ∷ ys) m c
    by true e k r =
        let first : x ≡ m = same_is x m e in
        let next : y ≡ c = cc in
        record { before = []; after = ys; is = λ i. first i ∷ next i ∷ ys }
    by false e k r = let rest = r k in record { before = x ∷ rest.before; after = rest.after; is = ap (λ t. x ∷ t) rest.is }

not_same : (x m : SystemId) → x ≢ m → same_system x m ≡ false
not_same x m ne = by (same_system x m) refl
  where
    by : (b : Bool) → same_system x m ≡ b → same_system x m ≡ false
    by true e = absurd (ne (same_is x m e))
    by false e = e

pub stands_after : (m c : SystemId) (l r : List SystemId) → IsDistinct (l ++ m ∷ c ∷ r) → after_in m (l ++ m ∷ c ∷ r) ≡ Some c
stands_after m c [] r d = ap (λ b. if b then Some c else after_in m (c ∷ r)) (same_self m)
stands_after m c (x ∷ []) r d =
    ap (λ b. if b then Some m else after_in m (m ∷ c ∷ r)) (not_same x m (λ e. d.0 (inl e))) ∙ stands_after m c [] r d.1
stands_after m c (x ∷ y ∷ l) r d =
    ap (λ b. if b then Some y else after_in m (y ∷ l ++ m ∷ c ∷ r)) (not_same x m (λ e. d.0 (among_right x (y ∷ l) (m ∷ c ∷ r) (inl e)))) ∙ stands_after m c (y ∷ l) r d.1

-- what is known of the port behind `me`
pub record Onward (g : Graph) (mask : ℕ) (s r me : SystemId) (port : ℕ) : Type 0 where
  pub next : SystemId
  pub follows : Follows g mask s r me next
  pub leads : port_between g me next ≡ Some port

pub after_onward : (g : Graph) (mask : ℕ) (s r me : SystemId) (port : ℕ) → IsValid g → port_after g mask s r me ≡ Some port → Onward g mask s r me port
after_onward g mask s r me port valid h = by (best_of g mask s r) refl h
  where
    on : (p : List SystemId) → IsBest g mask s r p → (o : Option SystemId) → after_in me p ≡ o → option_and_then (λ next. port_between g me next) o ≡ Some port → Onward g mask s r me port
    on p best None e k = cc
    on p best (Some c) e k =
        let there = after_stands me c p e in
        record { next = c; follows = record { before = there.before; after = there.after; best = subst (λ t. IsBest g mask s r t) there.is best }; leads = k }

    by : (o : Option (List SystemId)) → best_of g mask s r ≡ o → option_and_then (λ next. port_between g me next) (option_and_then (after_in me) o) ≡ Some port → Onward g mask s r me port
    by None e k = cc
    by (Some p) e k = on p ((best_of_some g mask s r p valid).0 e) (after_in me p) refl k

pub onward_after : (g : Graph) (mask : ℕ) (s r me : SystemId) (port : ℕ) → IsValid g → Onward g mask s r me port → port_after g mask s r me ≡ Some port
onward_after g mask s r me port valid o =
    let p : List SystemId = o.follows.before ++ me ∷ o.next ∷ o.follows.after in
    ap (λ t. option_and_then (λ next. port_between g me next) (option_and_then (after_in me) t)) ((best_of_some g mask s r p valid).1 o.follows.best)
    ∙ (ap (option_and_then (λ next. port_between g me next)) (stands_after me o.next o.follows.before o.follows.after (path_distinct g s r p o.follows.best.path)) ∙ o.leads)

-- ---- the test

that_is : (port : ℕ) (o : Option ℕ) → is_that port o ≡ true → o ≡ Some port
that_is port None h = absurd (true≢false (sym h))
that_is port (Some p) h = ap Some (eqb-true p port h)

not_true : (b : Bool) → not b ≡ true → b ≡ false
not_true true h = absurd (true≢false (sym h))
not_true false h = refl

pub test_leads : (g : Graph) (me : SystemId) (plan : VidPlan) (mac : Mac) (port : ℕ) → IsValid g → leads_on g me plan mac port ≡ true → LeadsOn g me plan mac port
test_leads g me plan mac port valid h =
    let source = any_has (λ s. list_any (serves g me plan mac port s) g.members) g.bridges h in
    let member = any_has (serves g me plan mac port source.0) g.members source.2 in
    let s : GraphBridge = source.0 in
    let m : Member = member.0 in
    let one = and_parts (bytes_eq mac.bytes (group_address s.source.value m.isid.value).bytes) _ member.2 in
    let two = and_parts (sends_in g m.isid plan.vid s.id.system) _ one.1 in
    let three = and_parts (receives_in g m.isid plan.vid m.system) _ two.1 in
    let four = and_parts (not (same_system m.system s.id.system)) _ three.1 in
    let bytes : mac.bytes ≡ (group_address s.source.value m.isid.value).bytes = (bytes_eq-Decides _ _).0 one.0 in
    let on = after_onward g (mask_of plan.ect) s.id.system m.system me port valid (that_is port _ four.1) in
    record {
      source = s;
      isid = m.isid;
      next = on.next;
      bridge = contains_from_has g.bridges s source.1;
      address = λ i. record { bytes = bytes i };
      sends = sends_is g m.isid plan.vid s.id.system two.0;
      serves = record {
        receiver = m.system;
        other = λ e. true≢false (sym (same_self s.id.system) ∙ (ap (λ x. same_system x s.id.system) (sym e) ∙ not_true (same_system m.system s.id.system) four.0));
        takes = receives_is g m.isid plan.vid m.system three.0;
        follows = on.follows;
      };
      port_is = on.leads;
    }

pub leads_test : (g : Graph) (me : SystemId) (plan : VidPlan) (mac : Mac) (port : ℕ) → IsValid g → LeadsOn g me plan mac port → leads_on g me plan mac port ≡ true
leads_test g me plan mac port valid l =
    has_any (λ s. list_any (serves g me plan mac port s) g.members) l.source g.bridges (has_from_contains g.bridges l.source l.bridge)
    (has_any (serves g me plan mac port l.source) takes.member g.members (has_from_contains g.members takes.member takes.there)
    ((λ i. passes (takes.of_system i) (takes.in_service i))
    ∙ both _ _ ((bytes_eq-Decides _ _).1 (ap (λ (a : Mac). a.bytes) l.address))
    (both _ _ (is_sends g l.isid plan.vid l.source.id.system l.sends)
    (both _ _ (is_receives g l.isid plan.vid l.serves.receiver takes)
    (both _ _ (ap not (not_same l.serves.receiver l.source.id.system l.serves.other))
    (ap (is_that port) (onward_after g (mask_of plan.ect) l.source.id.system l.serves.receiver me port valid (record { next = l.next; follows = l.serves.follows; leads = l.port_is })) ∙ eq-eqb port port refl))))))
  where
    takes : Receives g l.isid plan.vid l.serves.receiver
    takes = l.serves.takes

    passes : SystemId → Isid → Bool
    passes r isid =
        bytes_eq mac.bytes (group_address l.source.source.value isid.value).bytes
        && (sends_in g isid plan.vid l.source.id.system && (receives_in g isid plan.vid r
        && (not (same_system r l.source.id.system)
        && is_that port (port_after g (mask_of plan.ect) l.source.id.system r me))))

-- Ports in order, the frames that are sent at them, and how often a port stands among them.
use Rattle.std.proofs.Common.{◌≡◌, ◌≢◌, ◌<◌, ◌≤◌, ◌+◌, ℕ, zero, suc, Bool, true, false, cond, not, ◌&&◌, eqb, ltb, eqb-true, eq-eqb, inl, inr, ◌⊎◌, List, [], ◌∷◌, ◌++◌, map, filter, refl, sym, ap, ◌∙◌, subst, arith}
use Rattle.std.specs.Prelude.{if◌then◌else◌, count_by, ◌==◌}
use Rattle.std.specs.List.{AllByRecursion, range_with_len}
use Rattle.std.proofs.lemmas.Bool.{and_parts, false≢true, ltb-true, ltb-false}
use Rattle.std.proofs.lemmas.List.Sums.{sum_by-cons, sum_by-append}
use Rattle.spb_types.specs.Ascending.{placed, ascending, Ascends}
use Rattle.spb_types.specs.Ports.{has}
use Rattle.spb_types.specs.Service.{receives}
use Rattle.spb_types.specs.declared.limits.TheConstants.{MOST_PORTS}
use Rattle.spb_types.specs.declared.ports.PortSet.{PortSet}
use Rattle.spb_types.specs.declared.service.Attachment.{Attachment}
use Rattle.spb_types.specs.declared.service.Isid.{Isid}
use Rattle.link_model.specs.Lane.{Frame}
use Rattle.forwarding.specs.Ports.{is_in, is_receiver, receiving_ports, ports_in, but_for}
use Rattle.forwarding.specs.Receiving.{IsReceivingTo}
use Rattle.forwarding.specs.Tenant.{each_with}
use Rattle.bridge_api.specs.Step.{frames_at}

-- ---- the frames at a port

at_none : (b : Bool) (f : Frame) (fs : List Frame) → b ≡ false → (if b then f ∷ fs else fs) ≡ fs
at_none true f fs e = absurd (false≢true (sym e))
at_none false f fs e = refl

not_eqb : (x y : ℕ) → x ≢ y → eqb x y ≡ false
not_eqb x y apart = by (eqb x y) refl
  where
    by : (b : Bool) → eqb x y ≡ b → eqb x y ≡ false
    by true e = absurd (apart (eqb-true x y e))
    by false e = e

-- a port that isn't among them gets none
abbrev IsNot : ℕ → ℕ → Type 0
IsNot q p = p ≢ q

pub none_at : (f : Frame) (q : ℕ) (ps : List ℕ) → AllByRecursion (IsNot q) ps → frames_at q (each_with f ps) ≡ []
none_at f q [] away = refl
none_at f q (p ∷ ps) away = at_none (p == q) f (frames_at q (each_with f ps)) (not_eqb p q away.0) ∙ none_at f q ps away.1

filter_all : (P : ℕ → Type 0) (test : ℕ → Bool) (ps : List ℕ) → AllByRecursion P ps → AllByRecursion P (filter test ps)
filter_all P test [] all = tt
filter_all P test (p ∷ ps) all = by (test p) (filter_all P test ps all.1)
  where
    by : (b : Bool) → AllByRecursion P (filter test ps) → AllByRecursion P (cond b (p ∷ filter test ps) (filter test ps))
    by true rest = (all.0, rest)
    by false rest = rest

range_above : (q from n : ℕ) → q < from → AllByRecursion (IsNot q) (range_with_len from n)
range_above q from zero below = tt
range_above q from (suc n) below = ((λ e. absurd (omega (arith, e, below))), range_above q (from + 1) n (omega (arith, below)))

-- a port of a range gets a frame where it passes the test
in_range : (f : Frame) (test : ℕ → Bool) (q from n : ℕ) → from ≤ q → q < from + n → frames_at q (each_with f (filter test (range_with_len from n))) ≡ (if test q then f ∷ [] else [])
in_range f test q from zero low high = absurd (omega (arith, low, high))
in_range f test q from (suc n) low high = by (eqb from q) refl (λ away. in_range f test q (from + 1) n (next away) (omega (arith, high)))
  where
    later : List ℕ
    later = filter test (range_with_len (from + 1) n)

    here : (b : Bool) → from ≡ q → frames_at q (each_with f (cond b (from ∷ later) later)) ≡ (if b then f ∷ [] else [])
    here true is =
        ap (λ (c : Bool). if c then f ∷ frames_at q (each_with f later) else frames_at q (each_with f later)) (eq-eqb from q is)
        ∙ ap (λ (fs : List Frame). f ∷ fs) (none_at f q later (filter_all (IsNot q) test (range_with_len (from + 1) n) (range_above q (from + 1) n (omega (arith, is)))))
    here false is = none_at f q later (filter_all (IsNot q) test (range_with_len (from + 1) n) (range_above q (from + 1) n (omega (arith, is))))

    beyond : (b : Bool) → from ≢ q → frames_at q (each_with f (cond b (from ∷ later) later)) ≡ frames_at q (each_with f later)
    beyond true away = at_none (from == q) f (frames_at q (each_with f later)) (not_eqb from q away)
    beyond false away = refl

    next : from ≢ q → from + 1 ≤ q
    next away = omega (arith, low, away)

    by : (b : Bool) → eqb from q ≡ b → (from ≢ q → frames_at q (each_with f later) ≡ (if test q then f ∷ [] else [])) → frames_at q (each_with f (filter test (range_with_len from (suc n)))) ≡ (if test q then f ∷ [] else [])
    by true e more = let is : from ≡ q = eqb-true from q e in here (test from) is ∙ ap (λ (p : ℕ). if test p then f ∷ [] else []) is
    by false e more =
        let away : from ≢ q = λ is. false≢true (sym e ∙ eq-eqb from q is) in
        beyond (test from) away ∙ more away

-- each port of a set gets a frame
pub at_each : (f : Frame) (set : PortSet) (q : ℕ) → 1 ≤ q → q ≤ MOST_PORTS → frames_at q (each_with f (ports_in set)) ≡ (if has set q then f ∷ [] else [])
at_each f set q low high = in_range f (has set) q 1 MOST_PORTS low (omega (arith, high))

-- where one port is left out, the others get what they got
one_out : (f : Frame) (p q : ℕ) (ps : List ℕ) → p ≢ q → frames_at q (each_with f (but_for p ps)) ≡ frames_at q (each_with f ps)
one_out f p q [] away = refl
one_out f p q (r ∷ ps) away = by (eqb r p) refl (one_out f p q ps away)
  where
    by : (b : Bool) → eqb r p ≡ b → frames_at q (each_with f (but_for p ps)) ≡ frames_at q (each_with f ps) → frames_at q (each_with f (cond (not b) (r ∷ but_for p ps) (but_for p ps))) ≡ frames_at q (each_with f (r ∷ ps))
    by true e more = more ∙ sym (at_none (r == q) f (frames_at q (each_with f ps)) (not_eqb r q (λ is. away (sym (eqb-true r p e) ∙ is))))
    by false e more = ap (λ (fs : List Frame). if r == q then f ∷ fs else fs) more

-- and it gets none
left_out : (p q : ℕ) (ps : List ℕ) → p ≡ q → AllByRecursion (IsNot q) (but_for p ps)
left_out p q [] is = tt
left_out p q (r ∷ ps) is = by (eqb r p) refl (left_out p q ps is)
  where
    by : (b : Bool) → eqb r p ≡ b → AllByRecursion (IsNot q) (but_for p ps) → AllByRecursion (IsNot q) (cond (not b) (r ∷ but_for p ps) (but_for p ps))
    by true e more = more
    by false e more = ((λ same. false≢true (sym e ∙ eq-eqb r p (same ∙ sym is))), more)

-- and so it is where one that isn't in the set is left out
pub at_each_other : (f : Frame) (set : PortSet) (p q : ℕ) → 1 ≤ q → q ≤ MOST_PORTS → has set p ≡ false → frames_at q (each_with f (but_for p (ports_in set))) ≡ (if has set q then f ∷ [] else [])
at_each_other f set p q low high out = by (eqb p q) refl
  where
    by : (b : Bool) → eqb p q ≡ b → frames_at q (each_with f (but_for p (ports_in set))) ≡ (if has set q then f ∷ [] else [])
    by true e =
        let is : p ≡ q = eqb-true p q e in
        none_at f q (but_for p (ports_in set)) (left_out p q (ports_in set) is)
        ∙ sym (ap (λ (b : Bool). if b then f ∷ [] else []) (ap (has set) (sym is) ∙ out))
    by false e = one_out f p q (ports_in set) (λ is. false≢true (sym e ∙ eq-eqb p q is)) ∙ at_each f set q low high

-- ---- how often a port stands in a list

pub count-cons : {X : Type 0} (test : X → Bool) (x : X) (xs : List X) → count_by test (x ∷ xs) ≡ cond (test x) 1 0 + count_by test xs
count-cons test x xs = sum_by-cons (λ y. cond (test y) 1 0) x xs

pub count-append : {X : Type 0} (test : X → Bool) (xs ys : List X) → count_by test (xs ++ ys) ≡ count_by test xs + count_by test ys
count-append test xs ys = sum_by-append (λ y. cond (test y) 1 0) xs ys

-- a port is one of the list
abbrev pub IsPortIn : ℕ → List ℕ → Type 0
IsPortIn q [] = ⊥
IsPortIn q (p ∷ ps) = (p ≡ q) ⊎ IsPortIn q ps

counted_none : (q : ℕ) (ps : List ℕ) → AllByRecursion (IsNot q) ps → count_by (λ p. p == q) ps ≡ 0
counted_none q [] away = refl
counted_none q (p ∷ ps) away =
    count-cons (λ r. r == q) p ps ∙ (λ i. cond (not_eqb p q away.0 i) 1 0 + counted_none q ps away.1 i)

above_not : (q : ℕ) (ps : List ℕ) → AllByRecursion (λ y. q < y) ps → AllByRecursion (IsNot q) ps
above_not q [] above = tt
above_not q (p ∷ ps) above = ((λ e. absurd (omega (arith, e, above.0))), above_not q ps above.1)

above_in : (x q : ℕ) (ps : List ℕ) → AllByRecursion (λ y. x < y) ps → IsPortIn q ps → x < q
above_in x q [] above among = absurd among
above_in x q (p ∷ ps) above (inl is) = subst (λ (y : ℕ). x < y) is above.0
above_in x q (p ∷ ps) above (inr among) = above_in x q ps above.1 among

-- in an ascending list each stands once
pub counted_once : (q : ℕ) (ps : List ℕ) → Ascends (λ p. p) ps → IsPortIn q ps → count_by (λ p. p == q) ps ≡ 1
counted_once q [] ascends among = absurd among
counted_once q (p ∷ ps) ascends (inl is) =
    count-cons (λ r. r == q) p ps
    ∙ (λ i. cond (eq-eqb p q is i) 1 0 + counted_none q ps (above_not q ps (subst (λ (x : ℕ). AllByRecursion (λ y. x < y) ps) is ascends.0)) i)
counted_once q (p ∷ ps) ascends (inr among) =
    let low : p < q = above_in p q ps ascends.0 among in
    count-cons (λ r. r == q) p ps
    ∙ (λ i. cond (not_eqb p q (λ e. absurd (omega (arith, e, low))) i) 1 0 + counted_once q ps ascends.1 among i)

-- ---- the ports of a service that receive

below_placed : (x y : ℕ) (ys : List ℕ) → x < y → AllByRecursion (λ z. x < z) ys → AllByRecursion (λ z. x < z) (placed (λ p. p) y ys)
below_placed x y [] low all = (low, tt)
below_placed x y (z ∷ ys) low all = by (ltb y z) (eqb y z) (below_placed x y ys low all.1)
  where
    by : (b c : Bool) → AllByRecursion (λ z. x < z) (placed (λ p. p) y ys) → AllByRecursion (λ z. x < z) (cond b (y ∷ z ∷ ys) (cond c (z ∷ ys) (z ∷ placed (λ p. p) y ys)))
    by true c more = (low, all)
    by false true more = all
    by false false more = (all.0, more)

all_above : (x y : ℕ) (ys : List ℕ) → x < y → AllByRecursion (λ z. y < z) ys → AllByRecursion (λ z. x < z) ys
all_above x y [] low all = tt
all_above x y (z ∷ ys) low all = (omega (arith, low, all.0), all_above x y ys low all.1)

above_both : (x y : ℕ) → ltb x y ≡ false → eqb x y ≡ false → y < x
above_both x y e f =
    let apart : x ≢ y = λ is. false≢true (sym f ∙ eq-eqb x y is) in
    let high : y ≤ x = ltb-false x y e in
    omega (arith, apart, high)

placed_ascends : (x : ℕ) (ys : List ℕ) → Ascends (λ p. p) ys → Ascends (λ p. p) (placed (λ p. p) x ys)
placed_ascends x [] ascends = (tt, tt)
placed_ascends x (y ∷ ys) ascends = by (ltb x y) (eqb x y) refl refl (placed_ascends x ys ascends.1)
  where
    by : (b c : Bool) → ltb x y ≡ b → eqb x y ≡ c → Ascends (λ p. p) (placed (λ p. p) x ys) → Ascends (λ p. p) (cond b (x ∷ y ∷ ys) (cond c (y ∷ ys) (y ∷ placed (λ p. p) x ys)))
    by true c e f more = let low : x < y = ltb-true x y e in ((low, all_above x y ys low ascends.0), ascends)
    by false true e f more = ascends
    by false false e f more = (below_placed y x ys (above_both x y e f) ascends.0, more)

pub ports_ascend : (isid : Isid) (attached : List Attachment) → Ascends (λ p. p) (receiving_ports isid attached)
ports_ascend isid [] = tt
ports_ascend isid (a ∷ attached) = by (is_receiver isid a) (ports_ascend isid attached)
  where
    by : (b : Bool) → Ascends (λ p. p) (receiving_ports isid attached) → Ascends (λ p. p) (ascending (λ p. p) (map (λ (x : Attachment). x.port) (cond b (a ∷ filter (is_receiver isid) attached) (filter (is_receiver isid) attached))))
    by true rest = placed_ascends a.port (receiving_ports isid attached) rest
    by false rest = rest

placed_has : (x : ℕ) (ys : List ℕ) → IsPortIn x (placed (λ p. p) x ys)
placed_has x [] = inl refl
placed_has x (y ∷ ys) = by (ltb x y) (eqb x y) refl (placed_has x ys)
  where
    by : (b c : Bool) → eqb x y ≡ c → IsPortIn x (placed (λ p. p) x ys) → IsPortIn x (cond b (x ∷ y ∷ ys) (cond c (y ∷ ys) (y ∷ placed (λ p. p) x ys)))
    by true c f more = inl refl
    by false true f more = inl (sym (eqb-true x y f))
    by false false f more = inr more

placed_keeps : (x q : ℕ) (ys : List ℕ) → IsPortIn q ys → IsPortIn q (placed (λ p. p) x ys)
placed_keeps x q [] among = absurd among
placed_keeps x q (y ∷ ys) among = by (ltb x y) (eqb x y) among (λ later. placed_keeps x q ys later)
  where
    by : (b c : Bool) → IsPortIn q (y ∷ ys) → (IsPortIn q ys → IsPortIn q (placed (λ p. p) x ys)) → IsPortIn q (cond b (x ∷ y ∷ ys) (cond c (y ∷ ys) (y ∷ placed (λ p. p) x ys)))
    by true c among more = inr among
    by false true among more = among
    by false false (inl is) more = inl is
    by false false (inr among) more = inr (more among)

-- each port that is attached to the I-SID and receives is one of them
pub receiver_in : (isid : Isid) (attached : List Attachment) (q : ℕ) → IsReceivingTo attached q isid → IsPortIn q (receiving_ports isid attached)
receiver_in isid [] q is = absurd is
receiver_in isid (a ∷ attached) q is = by (is_receiver isid a) refl is (λ later. receiver_in isid attached q later)
  where
    by : (b : Bool) → is_receiver isid a ≡ b → IsReceivingTo (a ∷ attached) q isid → (IsReceivingTo attached q isid → IsPortIn q (receiving_ports isid attached)) → IsPortIn q (ascending (λ p. p) (map (λ (x : Attachment). x.port) (cond b (a ∷ filter (is_receiver isid) attached) (filter (is_receiver isid) attached))))
    by true e (inl here) more = subst (λ (p : ℕ). IsPortIn p (placed (λ r. r) a.port (receiving_ports isid attached))) here.0 (placed_has a.port (receiving_ports isid attached))
    by true e (inr there) more = placed_keeps a.port q (receiving_ports isid attached) (more there)
    by false e (inl here) more = absurd (false≢true (sym e ∙ (λ i. eq-eqb a.isid.value isid.value (ap (λ (n : Isid). n.value) here.1) i && here.2 i)))
    by false e (inr there) more = more there

placed_all : (P : ℕ → Type 0) (x : ℕ) (ys : List ℕ) → P x → AllByRecursion P ys → AllByRecursion P (placed (λ p. p) x ys)
placed_all P x [] here all = (here, tt)
placed_all P x (y ∷ ys) here all = by (ltb x y) (eqb x y) (placed_all P x ys here all.1)
  where
    by : (b c : Bool) → AllByRecursion P (placed (λ p. p) x ys) → AllByRecursion P (cond b (x ∷ y ∷ ys) (cond c (y ∷ ys) (y ∷ placed (λ p. p) x ys)))
    by true c more = (here, all)
    by false true more = all
    by false false more = (all.0, more)

weaker : (P Q : ℕ → Type 0) (ps : List ℕ) → ((p : ℕ) → P p → Q p) → AllByRecursion P ps → AllByRecursion Q ps
weaker P Q [] more all = tt
weaker P Q (p ∷ ps) more all = (more p all.0, weaker P Q ps more all.1)

-- and each of them is such a port
pub ports_receive : (isid : Isid) (attached : List Attachment) → AllByRecursion (λ p. IsReceivingTo attached p isid) (receiving_ports isid attached)
ports_receive isid [] = tt
ports_receive isid (a ∷ attached) =
    by (is_receiver isid a) refl (weaker (λ p. IsReceivingTo attached p isid) (λ p. IsReceivingTo (a ∷ attached) p isid) (receiving_ports isid attached) (λ p is. inr is) (ports_receive isid attached))
  where
    by : (b : Bool) → is_receiver isid a ≡ b → AllByRecursion (λ p. IsReceivingTo (a ∷ attached) p isid) (receiving_ports isid attached) → AllByRecursion (λ p. IsReceivingTo (a ∷ attached) p isid) (ascending (λ p. p) (map (λ (x : Attachment). x.port) (cond b (a ∷ filter (is_receiver isid) attached) (filter (is_receiver isid) attached))))
    by true e rest =
        let both = and_parts (is_in isid a) (receives a.mode) e in
        let value : a.isid.value ≡ isid.value = eqb-true a.isid.value isid.value both.0 in
        let same : a.isid ≡ isid = λ i. record { value = value i } in
        placed_all (λ p. IsReceivingTo (a ∷ attached) p isid) a.port (receiving_ports isid attached) (inl (refl, same, both.1)) rest
    by false e rest = rest

-- ports but for one: each other stands as often, and that one not at all
pub but_for_all : (P : ℕ → Type 0) (port : ℕ) (ps : List ℕ) → AllByRecursion P ps → AllByRecursion (λ p. P p × (p ≢ port)) (but_for port ps)
but_for_all P port [] all = tt
but_for_all P port (p ∷ ps) all = by (eqb p port) refl (but_for_all P port ps all.1)
  where
    by : (b : Bool) → eqb p port ≡ b → AllByRecursion (λ q. P q × (q ≢ port)) (but_for port ps) → AllByRecursion (λ q. P q × (q ≢ port)) (cond (not b) (p ∷ but_for port ps) (but_for port ps))
    by true e more = more
    by false e more = ((all.0, λ is. false≢true (sym e ∙ eq-eqb p port is)), more)

but_for_ascends : (port : ℕ) (ps : List ℕ) → Ascends (λ p. p) ps → Ascends (λ p. p) (but_for port ps)
but_for_ascends port [] ascends = tt
but_for_ascends port (p ∷ ps) ascends = by (eqb p port) (but_for_ascends port ps ascends.1)
  where
    by : (b : Bool) → Ascends (λ q. q) (but_for port ps) → Ascends (λ q. q) (cond (not b) (p ∷ but_for port ps) (but_for port ps))
    by true more = more
    by false more = (filter_all (λ y. p < y) (λ q. not (q == port)) ps ascends.0, more)

but_for_in : (port q : ℕ) (ps : List ℕ) → q ≢ port → IsPortIn q ps → IsPortIn q (but_for port ps)
but_for_in port q [] away among = absurd among
but_for_in port q (p ∷ ps) away among = by (eqb p port) refl among (λ later. but_for_in port q ps away later)
  where
    by : (b : Bool) → eqb p port ≡ b → IsPortIn q (p ∷ ps) → (IsPortIn q ps → IsPortIn q (but_for port ps)) → IsPortIn q (cond (not b) (p ∷ but_for port ps) (but_for port ps))
    by true e (inl is) more = absurd (away (sym is ∙ eqb-true p port e))
    by true e (inr among) more = more among
    by false e (inl is) more = inl is
    by false e (inr among) more = inr (more among)

-- at each port that is attached to the I-SID and receives a frame leaves once; so it is where one other port is left out
pub leaves_once : (isid : Isid) (attached : List Attachment) (q : ℕ) → IsReceivingTo attached q isid → count_by (λ p. p == q) (receiving_ports isid attached) ≡ 1
leaves_once isid attached q is = counted_once q (receiving_ports isid attached) (ports_ascend isid attached) (receiver_in isid attached q is)

pub other_leaves_once : (isid : Isid) (attached : List Attachment) (port q : ℕ) → q ≢ port → IsReceivingTo attached q isid → count_by (λ p. p == q) (but_for port (receiving_ports isid attached)) ≡ 1
other_leaves_once isid attached port q away is =
    counted_once q (but_for port (receiving_ports isid attached)) (but_for_ascends port (receiving_ports isid attached) (ports_ascend isid attached))
    (but_for_in port q (receiving_ports isid attached) away (receiver_in isid attached q is))

-- ---- no port of an I-SID

-- where the list has none of it, no port is one
pub no_ports_of : (isid : Isid) (attached : List Attachment) → AllByRecursion (λ a. is_in isid a ≡ false) attached → receiving_ports isid attached ≡ []
no_ports_of isid [] none = refl
no_ports_of isid (a ∷ attached) none =
    ap (λ (b : Bool). ascending (λ p. p) (map (λ (x : Attachment). x.port) (cond (b && receives a.mode) (a ∷ filter (is_receiver isid) attached) (filter (is_receiver isid) attached)))) none.0
    ∙ no_ports_of isid attached none.1

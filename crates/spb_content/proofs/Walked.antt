-- A walk, step by step.
use Rattle.std.proofs.Common.{◌≡◌, ◌≢◌, ℕ, zero, suc, ◌+◌, ◌≤◌, ◌<◌, inl, inr, Bool, true, false, true≢false, not, cond, List, [], ◌∷◌, ◌++◌, length, take, get_or, set, replicate, Some, None, is_some, sum_by, refl, sym, ap, ◌∙◌, subst, arith, length-append, append_assoc, get_or-set_same, get_or-set_other}
use Rattle.std.specs.Prelude.{IsSome, Contains}
use Rattle.std.specs.List.{AllByRecursion}
use Rattle.std.proofs.lemmas.Bool.{cases_eq, and_parts}
use Rattle.std.proofs.lemmas.List.{length-set, append-nil, length-replicate, take-append-le, take_more, take_all}
use Rattle.std.proofs.lemmas.List.Elements.{Contains-push, Contains-append_left}
use Rattle.std.proofs.lemmas.List.Folds.{sum_by-replicate}
use Rattle.std.proofs.lemmas.List.Sums.{sum_by-set}
use Rattle.spb_types.specs.declared.address.SystemId.{SystemId}
use Rattle.spb_tlvs.specs.declared.neighbours.Neighbour.{Neighbour}
use Rattle.spb_content.specs.declared.content.Content.{Content}
use Rattle.spb_content.specs.declared.walk.Walk.{Walk}
use Rattle.spb_content.specs.Graph.{Contents, said_of, link_said, Leads, IsReached}
use Rattle.spb_content.specs.Building.{place_from, place_beyond, mark_at, IsListedAt, IsMarked, IsFound, IsWalk, IsClosed, Grows, Marks, Starts, Visits, Reaches}
use Rattle.spb_content.proofs.Members.{all_has, weaker, has_from_contains, all_append}
use Rattle.spb_content.proofs.Places.{found_at, place_high, place_said, place_for}
use Rattle.spb_content.proofs.Links.{same_is, reached_more, listed_in, ends_said}

-- ---- marking a place

abbrev unmarked : Bool → ℕ
unmarked b = cond (not b) 1 0

marked_there : (w v : Walk) (p : ℕ) → p < length w.marks.items → Marks p w v → IsMarked v p
marked_there w v p lt m = ap (λ ms. mark_at ms p) m.marks ∙ get_or-set_same w.marks.items p true false lt

marked_still : (w v : Walk) (p q : ℕ) → p < length w.marks.items → Marks p w v → IsMarked w q → IsMarked v q
marked_still w v p q lt m h =
    elim (cases_eq q p) [
      | inl e ↦ subst (λ r. IsMarked v r) (sym e) (marked_there w v p lt m)
      | inr ne ↦ ap (λ ms. mark_at ms q) m.marks ∙ (get_or-set_other w.marks.items p q true false ne ∙ h)
    ]

marked_before : (w v : Walk) (p q : ℕ) → Marks p w v → q ≢ p → IsMarked v q → IsMarked w q
marked_before w v p q m ne h = sym (get_or-set_other w.marks.items p q true false ne) ∙ (sym (ap (λ ms. mark_at ms q) m.marks) ∙ h)

marks_grow : (u w v : Walk) (p : ℕ) → p < length w.marks.items → Grows u w → Marks p w v → Grows u v
marks_grow u w v p lt g m = record {
  source = m.source ∙ g.source;
  marks = λ q h. marked_still w v p q lt m (g.marks q h);
  queue = at (mark_at w.marks.items p) m.queue;
}
  where
    at : (b : Bool) → v.queue.items ≡ cond b w.queue.items (w.queue.items ++ p ∷ []) → (more : List ℕ) × (v.queue.items ≡ u.queue.items ++ more)
    at true e = (g.queue.0, e ∙ g.queue.1)
    at false e = (g.queue.0 ++ p ∷ [], e ∙ (ap (λ q. q ++ p ∷ []) g.queue.1 ∙ append_assoc u.queue.items g.queue.0 (p ∷ [])))

found_still : (list : Contents) (w v : Walk) (p : ℕ) → v.source ≡ w.source → IsFound list w p → IsFound list v p
found_still list w v p e (x, here, reached) = (x, here, subst (λ s. IsReached list s x) (sym e) reached)

pub marks_walk : (list : Contents) (w v : Walk) (p : ℕ) (x : SystemId) → IsWalk list w → p < length list → IsListedAt list p x → IsReached list w.source x → Marks p w v → IsWalk list v
marks_walk list w v p x h within here reached m = at (mark_at w.marks.items p) refl m.queue
  where
    lt : p < length w.marks.items
    lt = omega (arith, within, h.places)

    places : length v.marks.items ≡ length list
    places = ap length m.marks ∙ (length-set w.marks.items p true ∙ h.places)

    count : sum_by unmarked (set w.marks.items p true) + unmarked (get_or w.marks.items p false) ≡ sum_by unmarked w.marks.items + 0
    count = sum_by-set unmarked w.marks.items p true false lt

    still : (q : ℕ) → IsMarked w q → IsMarked v q
    still q k = marked_still w v p q lt m k

    at : (b : Bool) → mark_at w.marks.items p ≡ b → v.queue.items ≡ cond b w.queue.items (w.queue.items ++ p ∷ []) → IsWalk list v
    at true e q = record {
      places = places;
      queued = λ r k. subst (λ xs. Contains xs r) (sym q) (elim (cases_eq r p) [ inl f ↦ subst (λ s. Contains w.queue.items s) (sym f) (h.queued p e) | inr ne ↦ h.queued r (marked_before w v p r m ne k) ]);
      marked = subst (λ xs. AllByRecursion (IsMarked v) xs) (sym q) (weaker (IsMarked w) (IsMarked v) w.queue.items still h.marked);
      found = subst (λ xs. AllByRecursion (IsFound list v) xs) (sym q) (weaker (IsFound list w) (IsFound list v) w.queue.items (λ r k. found_still list w v r m.source k) h.found);
      left = omega (arith, h.left, count, ap unmarked e, ap (λ ms. sum_by unmarked ms) m.marks, ap length q);
    }
    at false e q = record {
      places = places;
      queued = λ r k. subst (λ xs. Contains xs r) (sym q) (elim (cases_eq r p) [ inl f ↦ subst (λ s. Contains (w.queue.items ++ p ∷ []) s) (sym f) (Contains-push w.queue.items p) | inr ne ↦ Contains-append_left w.queue.items (p ∷ []) r (h.queued r (marked_before w v p r m ne k)) ]);
      marked = subst (λ xs. AllByRecursion (IsMarked v) xs) (sym q) (all_append (IsMarked v) w.queue.items (p ∷ []) (weaker (IsMarked w) (IsMarked v) w.queue.items still h.marked) (marked_there w v p lt m, tt));
      found = subst (λ xs. AllByRecursion (IsFound list v) xs) (sym q) (all_append (IsFound list v) w.queue.items (p ∷ []) (weaker (IsFound list w) (IsFound list v) w.queue.items (λ r k. found_still list w v r m.source k) h.found) ((x, here, subst (λ s. IsReached list s x) (sym m.source) reached), tt));
      left = omega (arith, h.left, count, ap unmarked e, ap (λ ms. sum_by unmarked ms) m.marks, ap length q, length-append w.queue.items (p ∷ []));
    }

-- ---- the start

none_marked : (n p : ℕ) → mark_at (replicate n false) p ≡ true → ⊥
none_marked zero p h = true≢false (sym h)
none_marked (suc n) zero h = true≢false (sym h)
none_marked (suc n) (suc p) h = none_marked n p h

none_counted : (n : ℕ) → sum_by unmarked (replicate n false) ≡ n
none_counted n = sum_by-replicate unmarked n false ∙ omega arith

empty_walk : (list : Contents) (w : Walk) → w.marks.items ≡ replicate (length list) false → w.queue.items ≡ [] → IsWalk list w
empty_walk list w marks queue = record {
  places = ap length marks ∙ length-replicate (length list) false;
  queued = λ p h. absurd (none_marked (length list) p (sym (ap (λ ms. mark_at ms p) marks) ∙ h));
  marked = subst (λ xs. AllByRecursion (IsMarked w) xs) (sym queue) tt;
  found = subst (λ xs. AllByRecursion (IsFound list w) xs) (sym queue) tt;
  left = omega (arith, ap (λ ms. sum_by unmarked ms) marks, none_counted (length list), ap length queue);
}

pub starts_nowhere : (list : Contents) (me : SystemId) (w : Walk) → w.source ≡ me → w.marks.items ≡ replicate (length list) false → w.queue.items ≡ [] → place_from 0 list me ≡ None → Starts list me w
starts_nowhere list me w source marks queue none = record { walk = empty_walk list w marks queue; source = source; start = λ p h. absurd cc }

pub starts_here : (list : Contents) (me : SystemId) (w v : Walk) (p : ℕ) → w.source ≡ me → w.marks.items ≡ replicate (length list) false → w.queue.items ≡ [] → IsListedAt list p me → Marks p w v → Starts list me v
starts_here list me w v p source marks queue here m =
    let high : p < length list = omega (arith, place_high 0 p list me here) in
    let h = empty_walk list w marks queue in
    let reached : IsReached list w.source me = ([], (subst (λ z. IsSome (said_of list z)) (sym source) (place_said 0 p list me here), source)) in
    record {
      walk = marks_walk list w v p me h high here reached m;
      source = m.source ∙ source;
      start = λ q k. subst (λ r. IsMarked v r) (same_place p q (sym here ∙ k)) (marked_there w v p (omega (arith, high, h.places)) m);
    }
  where
    same_place : (a b : ℕ) → Some a ≡ Some b → a ≡ b
    same_place a b e = cc

-- ---- visiting a bridge

-- what lies beyond its link to this neighbour is marked
abbrev pub IsPassed : Contents → Walk → SystemId → Neighbour → Type 0
IsPassed list w x n = (q : ℕ) → place_beyond list x n.system ≡ Some q → IsMarked w q

passed_still : (list : Contents) (w v : Walk) (x : SystemId) (ns : List Neighbour) → ((q : ℕ) → IsMarked w q → IsMarked v q) → AllByRecursion (IsPassed list w x) ns → AllByRecursion (IsPassed list v x) ns
passed_still list w v x ns still all = weaker (IsPassed list w x) (IsPassed list v x) ns (λ n k q h. still q (k q h)) all

-- a place beyond a link has a bridge
record Beyond (list : Contents) (x y : SystemId) (q : ℕ) : Type 0 where
  link : IsSome (link_said list x y)
  here : IsListedAt list q y

beyond : (list : Contents) (x y : SystemId) (q : ℕ) → place_beyond list x y ≡ Some q → Beyond list x y q
beyond list x y q h = at (is_some (link_said list x y)) refl h
  where
    at : (b : Bool) → is_some (link_said list x y) ≡ b → cond b (place_from 0 list y) None ≡ Some q → Beyond list x y q
    at true e k = record { link = e; here = k }
    at false e k = absurd cc

-- bridges at one place are one
pub one_at : (list : Contents) (p : ℕ) (x y : SystemId) → IsListedAt list p x → IsListedAt list p y → x ≡ y
one_at [] p x y h k = absurd cc
one_at (c ∷ cs) p x y h k =
    let f = found_at p (c ∷ cs) x c h in
    let g = found_at p (c ∷ cs) y c k in
    sym (same_is (get_or (c ∷ cs) p c).0 x (and_parts _ _ f.passes).1) ∙ same_is (get_or (c ∷ cs) p c).0 y (and_parts _ _ g.passes).1

-- what holds after some neighbours were visited
pub record Visiting (list : Contents) (x : SystemId) (u w : Walk) (ns : List Neighbour) : Type 0 where
  pub walk : IsWalk list w
  pub grows : Grows u w
  pub passed : AllByRecursion (IsPassed list w x) ns

pub visiting_none : (list : Contents) (x : SystemId) (w : Walk) → IsWalk list w → Visiting list x w w []
visiting_none list x w h = record { walk = h; grows = record { source = refl; marks = λ p k. k; queue = ([], sym (append-nil w.queue.items)) }; passed = tt }

pub visiting_past : (list : Contents) (x : SystemId) (u w : Walk) (ns more : List Neighbour) (n : Neighbour) → more ≡ ns ++ n ∷ [] → Visiting list x u w ns → place_beyond list x n.system ≡ None → Visiting list x u w more
visiting_past list x u w ns more n is h none = record {
  walk = h.walk;
  grows = h.grows;
  passed = subst (λ ms. AllByRecursion (IsPassed list w x) ms) (sym is) (all_append (IsPassed list w x) ns (n ∷ []) h.passed ((λ q k. absurd (let e = sym none ∙ k in cc)), tt));
}

pub visiting_mark : (list : Contents) (x : SystemId) (u w v : Walk) (ns more : List Neighbour) (n : Neighbour) (q : ℕ) → more ≡ ns ++ n ∷ [] → Visiting list x u w ns → IsReached list u.source x → place_beyond list x n.system ≡ Some q → Marks q w v → Visiting list x u v more
visiting_mark list x u w v ns more n q is h reached there m =
    let b = beyond list x n.system q there in
    let high : q < length list = omega (arith, place_high 0 q list n.system b.here) in
    let lt : q < length w.marks.items = omega (arith, high, h.walk.places) in
    record {
      walk = marks_walk list w v q n.system h.walk high b.here (reached_more list w.source x n.system (subst (λ s. IsReached list s x) (sym h.grows.source) reached) b.link) m;
      grows = marks_grow u w v q lt h.grows m;
      passed = subst (λ ms. AllByRecursion (IsPassed list v x) ms) (sym is)
          (all_append (IsPassed list v x) ns (n ∷ []) (passed_still list w v x ns (λ p k. marked_still w v q p lt m k) h.passed)
          ((λ p k. subst (λ r. IsMarked v r) (same_place q p (sym there ∙ k)) (marked_there w v q lt m)), tt));
    }
  where
    same_place : (a b : ℕ) → Some a ≡ Some b → a ≡ b
    same_place a b e = cc

-- after all of its neighbours, what lies beyond any link is marked
pub visits : (list : Contents) (p : ℕ) (x : SystemId) (c : Content) (u w : Walk) → said_of list x ≡ Some c → IsListedAt list p x → Visiting list x u w c.neighbours → Visits list p u w
visits list p x c u w said here h = record { walk = h.walk; grows = h.grows; closed = closed }
  where
    closed : IsClosed list w p
    closed y z q at there =
        let same = one_at list p x y here at in
        let b = beyond list y z q there in
        let n = listed_in list x z c said (subst (λ s. IsSome (link_said list s z)) (sym same) b.link) in
        all_has (IsPassed list w x) n.0 c.neighbours h.passed n.1 q (ap (λ s. place_beyond list x s) n.2 ∙ (ap (λ s. place_beyond list s z) same ∙ there))

-- what stands at a place of the queue
pub record Queued (list : Contents) (w : Walk) (p : ℕ) (e : SystemId × Content) : Type 0 where
  pub here : IsListedAt list p e.0
  pub reached : IsReached list w.source e.0
  pub said : said_of list e.0 ≡ Some e.1

pub queued : (list : Contents) (w : Walk) (p : ℕ) (d : SystemId × Content) → IsWalk list w → Contains w.queue.items p → Queued list w p (get_or list p d)
queued list w p d h c = at (all_has (IsFound list w) p w.queue.items h.found (has_from_contains p w.queue.items c))
  where
    at : IsFound list w p → Queued list w p (get_or list p d)
    at (x, there, reached) =
        let f = found_at p list x d there in
        let same : x ≡ (get_or list p d).0 = sym (same_is (get_or list p d).0 x (and_parts _ _ f.passes).1) in
        record {
          here = subst (λ y. IsListedAt list p y) same there;
          reached = subst (λ y. IsReached list w.source y) same reached;
          said = ap (said_of list) (sym same) ∙ f.said;
        }

-- ---- the walk to its end

closed_still : (list : Contents) (w v : Walk) (ps : List ℕ) → ((q : ℕ) → IsMarked w q → IsMarked v q) → AllByRecursion (IsClosed list w) ps → AllByRecursion (IsClosed list v) ps
closed_still list w v ps still all = weaker (IsClosed list w) (IsClosed list v) ps (λ p k x y q at there. still q (k x y q at there)) all

-- what holds when so many bridges of the queue were visited
pub record Walking (list : Contents) (me : SystemId) (w : Walk) (next : ℕ) : Type 0 where
  pub walk : IsWalk list w
  pub source : w.source ≡ me
  pub start : (p : ℕ) → IsListedAt list p me → IsMarked w p
  pub within : next ≤ length w.queue.items
  pub closed : AllByRecursion (IsClosed list w) (take next w.queue.items)

pub walking_none : (list : Contents) (me : SystemId) (w : Walk) → Starts list me w → Walking list me w 0
walking_none list me w h = record { walk = h.walk; source = h.source; start = h.start; within = omega arith; closed = tt }

pub walking_more : (list : Contents) (me : SystemId) (w v : Walk) (next p : ℕ) → Walking list me w next → next < length w.queue.items → p ≡ get_or w.queue.items next p → Visits list p w v → Walking list me v (next + 1)
walking_more list me w v next p h lt is done =
    let longer : length v.queue.items ≡ length w.queue.items + length done.grows.queue.0 = ap length done.grows.queue.1 ∙ length-append w.queue.items done.grows.queue.0 in
    let front : take (next + 1) v.queue.items ≡ take next w.queue.items ++ p ∷ [] =
    ap (λ xs. take (next + 1) xs) done.grows.queue.1 ∙ take-append-le (next + 1) w.queue.items done.grows.queue.0 (omega (arith, lt)) ∙ take_more w.queue.items next p lt ∙ ap (λ q. take next w.queue.items ++ q ∷ []) (sym is) in
    record {
      walk = done.walk;
      source = done.grows.source ∙ h.source;
      start = λ q k. done.grows.marks q (h.start q k);
      within = omega (arith, lt, longer);
      closed = subst (λ ps. AllByRecursion (IsClosed list v) ps) (sym front)
          (all_append (IsClosed list v) (take next w.queue.items) (p ∷ []) (closed_still list w v (take next w.queue.items) done.grows.marks h.closed) (done.closed, tt));
    }

-- there are no more bridges in the queue than systems
pub queue_within : (list : Contents) (w : Walk) → IsWalk list w → length w.queue.items ≤ length list
queue_within list w h = omega (arith, h.left)

marked_along : (list : Contents) (w : Walk) (a b : SystemId) (xs : List SystemId) → ((p : ℕ) → IsMarked w p → IsClosed list w p) → Leads list a xs b → ((p : ℕ) → IsListedAt list p a → IsMarked w p) → (q : ℕ) → IsListedAt list q b → IsMarked w q
marked_along list w a b [] closed h first q at = first q (subst (λ z. IsListedAt list q z) (sym h.1) at)
marked_along list w a b (x ∷ xs) closed h first q at =
    marked_along list w x b xs closed h.1 (λ p here. next p here (place_for 0 list a (ends_said list a x h.0).0)) q at
  where
    next : (p : ℕ) → IsListedAt list p x → (r : ℕ) × IsListedAt list r a → IsMarked w p
    next p here r = closed r.0 (first r.0 r.1) a x p r.1 (rw h.0 here)

pub reaches : (list : Contents) (me : SystemId) (w : Walk) (next : ℕ) → Walking list me w next → length w.queue.items ≤ next → Reaches list me w.marks.items
reaches list me w next h over = record {
  places = h.walk.places;
  found = λ p k. (let f = at p k in (f.0, f.1, subst (λ s. IsReached list s f.0) h.source f.2));
  marked = λ p x here r. marked_along list w me x r.0 closed r.1 h.start p here;
}
  where
    all : AllByRecursion (IsClosed list w) w.queue.items
    all = subst (λ ps. AllByRecursion (IsClosed list w) ps) (take_all next w.queue.items over) h.closed

    closed : (p : ℕ) → IsMarked w p → IsClosed list w p
    closed p k = all_has (IsClosed list w) p w.queue.items all (has_from_contains p w.queue.items (h.walk.queued p k))

    at : (p : ℕ) → IsMarked w p → IsFound list w p
    at p k = all_has (IsFound list w) p w.queue.items h.walk.found (has_from_contains p w.queue.items (h.walk.queued p k))

-- what stands in the queue is a place of a system
pub queue_high : (list : Contents) (w : Walk) (p : ℕ) → IsWalk list w → Contains w.queue.items p → p < length list
queue_high list w p h c = at (all_has (IsFound list w) p w.queue.items h.found (has_from_contains p w.queue.items c))
  where
    at : IsFound list w p → p < length list
    at (x, here, reached) = omega (arith, place_high 0 p list x here)

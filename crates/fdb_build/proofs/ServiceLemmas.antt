-- The members of the services of a VID, one after another.
use Rattle.std.specs.Prelude.{ℕ, zero, suc, replicate, ◌≡◌, ◌<◌, ◌+◌, ◌==◌, Bool, true, false, not, ◌&&◌, ◌||◌, if◌then◌else◌, List, [], ◌∷◌, ◌++◌, length, take, Some, None, Result, Ok, Err, OnOk}
use Rattle.std.specs.Global.{Vec}
use Rattle.std.specs.List.{list_any}
use Rattle.std.specs.Ordering.{nat_cmp, is_eq}
use Rattle.std.specs.declared.cmp.Ordering.{Ordering}
use Rattle.std.proofs.Common.{arith, refl, sym, ap, ◌∙◌, subst, get_or, true≢false, Less, Equal, Greater, eq-eqb, eqb-true}
use Rattle.std.proofs.lemmas.Cmp.{nat_cmp_total, tied_itself}
use Rattle.std.proofs.Math.ListN.{set}
use Rattle.std.proofs.lemmas.List.{length-map, length-set, length-replicate, map-append, map-set, replicate_more, get_or-map, get_or-set_same, get_or-set_other}
use Rattle.std.proofs.lemmas.List.Folds.{list_any-append, list_any_more}
use Rattle.spb_types.specs.declared.graph.Graph.{Graph}
use Rattle.spb_types.specs.declared.graph.Member.{Member}
use Rattle.spb_types.specs.declared.service.Isid.{Isid}
use Rattle.spb_types.specs.declared.service.Vid.{Vid}
use Rattle.ect_trees.proofs.Placing.{nat_tied}
use Rattle.fdb_build.specs.Making.{isid_cmp, list_at, lists_in, sent_at, same_isid, same_place, place_of, is_at, is_member_at, Added, AreServicesOf}
use Rattle.fdb_build.specs.declared.services.Services.{Services}
use Rattle.fdb_build.proofs.PortSets.{same_truth}

eq_is : (o : Ordering) → is_eq o ≡ true → o ≡ Equal
eq_is Less h = absurd (true≢false (sym h))
eq_is Equal h = refl
eq_is Greater h = absurd (true≢false (sym h))

pub numbers_tie : (m n : ℕ) → is_eq (nat_cmp m n) ≡ (m == n)
numbers_tie m n = same_truth (is_eq (nat_cmp m n)) (m == n)
    (λ h. eq-eqb m n (nat_tied m n (eq_is (nat_cmp m n) h)))
    (λ h. ap is_eq (ap (nat_cmp m) (sym (eqb-true m n h)) ∙ tied_itself nat_cmp_total m))

or_false : (b : Bool) → (b || false) ≡ b
or_false true = refl
or_false false = refl

and_false : (b : Bool) → (b && false) ≡ false
and_false true = refl
and_false false = refl

-- of three tests, in another order
sent_tests : (t a i : Bool) → ((t && a) && i) ≡ ((a && (i && true)) && t)
sent_tests true true true = refl
sent_tests true true false = refl
sent_tests true false i = refl
sent_tests false true true = refl
sent_tests false true false = refl
sent_tests false false i = refl

received_tests : (t i a : Bool) → ((t && i) && a) ≡ ((a && (i && true)) && t)
received_tests true true true = refl
received_tests true true false = refl
received_tests true false true = refl
received_tests true false false = refl
received_tests false true true = refl
received_tests false true false = refl
received_tests false false true = refl
received_tests false false false = refl

-- one item more in a list, or none
any_put : {V : Type 0} (test : V → Bool) (b : Bool) (old new : List V) (item : V) → new ≡ (if b then old ++ item ∷ [] else old) → list_any test new ≡ (list_any test old || (b && test item))
any_put test true old new item e = ap (list_any test) e ∙ (list_any-append test old (item ∷ []) ∙ ap (λ c. list_any test old || c) (or_false (test item)))
any_put test false old new item e = ap (list_any test) e ∙ sym (or_false (list_any test old))

pub same_from : (r b : Bool) → r ≡ not b → r ≡ false → b ≡ true
same_from r true e f = refl
same_from r false e f = absurd (true≢false (sym e ∙ f))

pub on_ok : {T E : Type 0} {P Q : Type 0} (r : Result T E) → (P → Q) → OnOk r P → OnOk r Q
on_ok (Ok x) f h = f h
on_ok (Err e) f h = h

-- the member is in another VID
pub added_none : (g : Graph) (vid : Vid) (m : Member) (s : Services) → (m.vid.value == vid.value) ≡ false → Added g vid m s s
added_none g vid m s other = record {
  places = refl;
  sends = λ isid place. sym (ap (λ c. list_any (same_isid isid) (sent_at s place) || c) (no (is_at place (place_of g m.system)) (m.isid.value == isid.value) m.transmit) ∙ or_false (list_any (same_isid isid) (sent_at s place)));
  receives = λ isid place. sym (ap (λ c. list_any (same_place place) (list_at isid_cmp s.receivers isid) || c) (no (is_at place (place_of g m.system)) (m.isid.value == isid.value) m.receive) ∙ or_false (list_any (same_place place) (list_at isid_cmp s.receivers isid)));
}
  where
    no : (b c f : Bool) → ((b && (c && (m.vid.value == vid.value))) && f) ≡ false
    no b c f = ap (λ d. (b && (c && d)) && f) other ∙ (ap (λ d. (b && d) && f) (and_false c) ∙ ap (λ d. d && f) (and_false b))

-- its bridge stands nowhere
pub added_nowhere : (g : Graph) (vid : Vid) (m : Member) (s : Services) → place_of g m.system ≡ None → Added g vid m s s
added_nowhere g vid m s nowhere = record {
  places = refl;
  sends = λ isid place.
      sym (ap (λ o. list_any (same_isid isid) (sent_at s place) || ((is_at place o && ((m.isid.value == isid.value) && (m.vid.value == vid.value))) && m.transmit)) nowhere ∙ or_false (list_any (same_isid isid) (sent_at s place)));
  receives = λ isid place.
      sym (ap (λ o. list_any (same_place place) (list_at isid_cmp s.receivers isid) || ((is_at place o && ((m.isid.value == isid.value) && (m.vid.value == vid.value))) && m.receive)) nowhere ∙ or_false (list_any (same_place place) (list_at isid_cmp s.receivers isid)));
}

abbrev list_items : Vec Isid → List Isid
list_items v = v.items

-- the list at a place after one at a place got an item more
list_more : (lists : List (List Isid)) (at : ℕ) (item : Isid) (place : ℕ) → at < length lists → get_or (set lists at (get_or lists at [] ++ item ∷ [])) place [] ≡ (if at == place then get_or lists place [] ++ item ∷ [] else get_or lists place [])
list_more lists at item place low = by (at == place) refl
  where
    longer : List Isid
    longer = get_or lists at [] ++ item ∷ []

    by : (b : Bool) → (at == place) ≡ b → get_or (set lists at longer) place [] ≡ (if b then get_or lists place [] ++ item ∷ [] else get_or lists place [])
    by true e = subst (λ p. get_or (set lists at longer) p [] ≡ get_or lists p [] ++ item ∷ []) (eqb-true at place e) (get_or-set_same lists at longer [] low)
    by false e = get_or-set_other lists at place longer [] (λ h. true≢false (sym (eq-eqb at place (sym h)) ∙ e))

-- or none did
list_more_if : (sent : Bool) (lists new : List (List Isid)) (at : ℕ) (item : Isid) (place : ℕ) → at < length lists → new ≡ (if sent then set lists at (get_or lists at [] ++ item ∷ []) else lists)
    → get_or new place [] ≡ (if sent && (at == place) then get_or lists place [] ++ item ∷ [] else get_or lists place [])
list_more_if true lists new at item place low e = ap (λ l. get_or l place []) e ∙ list_more lists at item place low
list_more_if false lists new at item place low e = ap (λ l. get_or l place []) e

-- the lists after one member more of this VID
pub added : (g : Graph) (vid : Vid) (m : Member) (old new : Services) (at : ℕ) → (m.vid.value == vid.value) ≡ true → Some at ≡ place_of g m.system → at < length old.sends.items
    → lists_in new.sends.items ≡ (if m.transmit then set (lists_in old.sends.items) at (get_or (lists_in old.sends.items) at [] ++ m.isid ∷ []) else lists_in old.sends.items)
    → ((isid : Isid) → list_at isid_cmp new.receivers isid ≡ (if m.receive && is_eq (isid_cmp m.isid isid) then list_at isid_cmp old.receivers isid ++ at ∷ [] else list_at isid_cmp old.receivers isid)) → Added g vid m old new
added g vid m old new at same there low sends more = record {
  places = sym (length-map new.sends.items list_items) ∙ (ap length sends ∙ (length_if m.transmit (lists_in old.sends.items) ∙ length-map old.sends.items list_items));
  sends = λ isid place.
      any_put (same_isid isid) (m.transmit && (at == place)) (sent_at old place) (sent_at new place) m.isid
      (list_more_if m.transmit (lists_in old.sends.items) (lists_in new.sends.items) at m.isid place (omega (arith, low, length-map old.sends.items list_items)) sends)
      ∙ ap (λ c. list_any (same_isid isid) (sent_at old place) || c)
      (sent_tests m.transmit (at == place) (m.isid.value == isid.value) ∙ known isid place m.transmit);
  receives = λ isid place.
      any_put (same_place place) (m.receive && is_eq (isid_cmp m.isid isid)) (list_at isid_cmp old.receivers isid) (list_at isid_cmp new.receivers isid) at (more isid)
      ∙ ap (λ c. list_any (same_place place) (list_at isid_cmp old.receivers isid) || c)
      (ap (λ b. (m.receive && b) && (at == place)) (numbers_tie m.isid.value isid.value)
      ∙ (received_tests m.receive (m.isid.value == isid.value) (at == place) ∙ known isid place m.receive));
}
  where
    length_if : (b : Bool) (lists : List (List Isid)) → length (if b then set lists at (get_or lists at [] ++ m.isid ∷ []) else lists) ≡ length lists
    length_if true lists = length-set lists at _
    length_if false lists = refl

    known : (isid : Isid) (place : ℕ) (flag : Bool) → (((at == place) && ((m.isid.value == isid.value) && true)) && flag) ≡ (is_member_at g isid vid place m && flag)
    known isid place flag =
        ap (λ o. (is_at place o && ((m.isid.value == isid.value) && true)) && flag) there
        ∙ ap (λ d. (is_at place (place_of g m.system) && ((m.isid.value == isid.value) && d)) && flag) (sym same)

-- no member yet
empty_list : (n i : ℕ) → get_or {A = List Isid} (replicate n []) i [] ≡ []
empty_list zero i = refl
empty_list (suc n) zero = refl
empty_list (suc n) (suc i) = empty_list n i

pub services_none : (g : Graph) (vid : Vid) (s : Services) → lists_in s.sends.items ≡ replicate (length g.bridges) [] → ((isid : Isid) → list_at isid_cmp s.receivers isid ≡ []) → AreServicesOf g [] vid s
services_none g vid s sends none = record {
  places = sym (length-map s.sends.items list_items) ∙ (ap length sends ∙ length-replicate (length g.bridges) []);
  sends = λ isid place. ap (list_any (same_isid isid)) (ap (λ lists. get_or lists place []) sends ∙ empty_list (length g.bridges) place);
  receives = λ isid place. ap (list_any (same_place place)) (none isid);
}

-- one member more
pub services_more : (g : Graph) (ms : List Member) (vid : Vid) (old new : Services) (i : ℕ) (m : Member) → i < length ms → (d : Member) → m ≡ get_or ms i d
    → Added g vid m old new → AreServicesOf g (take i ms) vid old → AreServicesOf g (take (i + 1) ms) vid new
services_more g ms vid old new i m low d is a before = record {
  places = a.places ∙ before.places;
  sends = λ isid place. one_more (λ n. is_member_at g isid vid place n && n.transmit) _ _ (a.sends isid place) (before.sends isid place);
  receives = λ isid place. one_more (λ n. is_member_at g isid vid place n && n.receive) _ _ (a.receives isid place) (before.receives isid place);
}
  where
    one_more : (test : Member → Bool) (was now : Bool) → now ≡ (was || test m) → was ≡ list_any test (take i ms) → now ≡ list_any test (take (i + 1) ms)
    one_more test was now after known =
        after ∙ (ap (λ b. b || test m) known
        ∙ (ap (λ (n : Member). list_any test (take i ms) || test n) is
        ∙ sym (list_any_more test ms i d low)))

-- a list among others that gets one item more
pub put_there : (lists : List (Vec Isid)) (i : ℕ) (old new : Vec Isid) (item : Isid) → i < length lists → old ≡ get_or lists i old → new.items ≡ old.items ++ item ∷ [] → lists_in (set lists i new) ≡ set (lists_in lists) i (get_or (lists_in lists) i [] ++ item ∷ [])
put_there lists i old new item low here more =
    let read : old.items ≡ get_or (lists_in lists) i [] = ap list_items here ∙ sym (get_or-map list_items lists i old [] low) in
    map-set list_items lists i new ∙ ap (λ t. set (lists_in lists) i t) (more ∙ ap (λ t. t ++ item ∷ []) read)

-- one empty list more
pub empty_more : (old new : List (Vec Isid)) (one : Vec Isid) (n : ℕ) → new ≡ old ++ one ∷ [] → lists_in old ≡ replicate n [] → one.items ≡ [] → lists_in new ≡ replicate (n + 1) []
empty_more old new one n e h k = ap lists_in e ∙ (map-append list_items old (one ∷ []) ∙ ((λ i. h i ++ k i ∷ []) ∙ replicate_more n []))

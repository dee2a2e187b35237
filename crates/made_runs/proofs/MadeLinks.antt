-- The links of a script that is made: each is accepted.
use Rattle.std.proofs.Common.{◌≡◌, ◌≢◌, ◌⊎◌, inl, inr, ℕ, ◌+◌, ◌-◌, ◌/◌, ◌%◌, ◌≤◌, ◌<◌, Bool, true, false, not, nat_lt, if◌then◌else◌, List, [], ◌∷◌, ◌++◌, length, Some, None, refl, sym, ap, ◌∙◌, subst, arith, ltb-true, ltb-false}
use Rattle.std.proofs.lemmas.Bool.{ne_eqb}
use Rattle.std.specs.List.{AllByRecursion}
use Rattle.std.specs.Str.{bytes_eq}
use Rattle.scenario_maker.specs.Made.{next_of, across, ring_name, chord_name, chord_start, chord_count}
use Rattle.scenario_maker.specs.Laws.{IsOnRing}
use Rattle.scenario_maker.proofs.Places.{names_are_apart, members_are_apart, chords_are_no_ring_links, chords_lead_across, places_are_taken_once}
use Rattle.spb_world.specs.declared.declaration.DeclaredLink.{DeclaredLink}
use Rattle.spb_world.specs.declared.reason.Reason.TheVariants.{NameTaken, PortUse, Range, TooMany, AlreadyLinked}
use Rattle.spb_world.specs.World.{World, Bridges, Links, things_of, place_of, ports_at, is_between, is_at_port}
use Rattle.spb_world.specs.Declaring.{is_free_port, is_link_range, is_unlinked, link_refusal, link_of, switched}
use Rattle.spb_world.specs.Links.{is_live}
use Rattle.spb_world.proofs.ListLemmas.{All-map, All-push, length-push}
use Rattle.made_runs.proofs.StandingSteps.{reason_none, or_none, le-yes, and-yes}
use Rattle.made_runs.proofs.MadeRuns.{below_or_last, not_both, or-no, bytes_apart, bytes_same, lt-yes, no_thing_passes, at, none_at, kept_at, new_at, place_at, new_name}
use Rattle.made_runs.proofs.MadeBridges.{AreBridged, bridge_ports}

-- a link that is up between ports of two bridges, by their numbers
abbrev pub wire : ℕ → ℕ → ℕ → ℕ → ℕ → DeclaredLink
wire i p x q cost = record (link_of (i - 1) p (x - 1) q cost) { live = true }

abbrev pub ring_entry : ℕ → ℕ → List ℕ × DeclaredLink
ring_entry n i = (ring_name i, wire i 1 (next_of n i) 2 (10 + i % 3))

abbrev pub chord_entry : ℕ → ℕ → List ℕ × DeclaredLink
chord_entry n i = (chord_name (chord_start i), wire (chord_start i) 3 (across n (chord_start i)) 3 25)

-- the links of the ring below number j, and the chords below number c
pub data IsWire (n j c : ℕ) (e : List ℕ × DeclaredLink) : Type 0 where
  ring : (i : ℕ) → 1 ≤ i → i < j → e ≡ ring_entry n i → IsWire n j c e
  chord : (i : ℕ) → 1 ≤ i → i < c → e ≡ chord_entry n i → IsWire n j c e

pub record AreWired (n j c : ℕ) (ls : Links) : Type 0 where
  pub count : length ls + 2 ≡ j + c
  pub all : AllByRecursion (IsWire n j c) ls
  pub first : 1 < j → at (ring_name 1) ls ≡ 0

-- ---- tests of one link against another

at_no : (i p x q cost place port : ℕ) → (i - 1 ≡ place → p ≡ port → ⊥) → (x - 1 ≡ place → q ≡ port → ⊥) → is_at_port (wire i p x q cost) place port ≡ false
at_no i p x q cost place port a b = or-no _ _ (not_both (i - 1) place p port a) (not_both (x - 1) place q port b)

between_no : (i p x q cost u v : ℕ) → (i - 1 ≡ u → x - 1 ≡ v → ⊥) → (i - 1 ≡ v → x - 1 ≡ u → ⊥) → is_between (wire i p x q cost) u v ≡ false
between_no i p x q cost u v a b = or-no _ _ (not_both (i - 1) u (x - 1) v a) (not_both (i - 1) v (x - 1) u b)

range_yes : (bs : Bridges) (u v p q cost : ℕ) → u ≢ v → ports_at bs u ≡ 3 → ports_at bs v ≡ 3 → 1 ≤ p → p ≤ 3 → 1 ≤ q → q ≤ 3 → 1 ≤ cost → cost ≤ 100
    → is_link_range bs u p v q cost ≡ true
unfolding is_link_range
range_yes bs u v p q cost apart a b p1 p3 q1 q3 low high =
    and-yes _ _ (and-yes _ _ (and-yes _ _ (and-yes _ _ (ap not (ne_eqb u v apart)) (and-yes _ _ (le-yes 1 p p1) (le-yes p (ports_at bs u) (omega arith)))) (and-yes _ _ (le-yes 1 q q1) (le-yes q (ports_at bs v) (omega arith)))) (le-yes 1 cost low)) (le-yes cost 16777214 (omega arith))

-- ---- the next bridge on the ring

data Next (n k x : ℕ) : Type 0 where
  on : k < n → x ≡ k + 1 → Next n k x
  round : k ≡ n → x ≡ 1 → Next n k x

next : (n k : ℕ) → k ≤ n → Next n k (next_of n k)
next n k high = by (nat_lt n (k + 1)) refl
  where
    by : (b : Bool) → nat_lt n (k + 1) ≡ b → Next n k (next_of n k)
    by true e =
        let above : n < k + 1 = ltb-true n (k + 1) e in
        let is : next_of n k ≡ k + 1 - n = ap (λ b. if b then k + 1 - n else k + 1) e in
        round (omega arith) (is ∙ omega arith)
    by false e =
        let below : k + 1 ≤ n = ltb-false n (k + 1) e in
        on (omega arith) (ap (λ b. if b then k + 1 - n else k + 1) e)

twice_by : (n j x y : ℕ) → 4 ≤ n → Next n j x → Next n x y → y ≢ j
twice_by n j x y least (on p e) (on q f) = omega arith
twice_by n j x y least (on p e) (round q f) = omega arith
twice_by n j x y least (round p e) (on q f) = omega arith
twice_by n j x y least (round p e) (round q f) = omega arith

-- ---- a link of the ring

-- what holds of link j of the ring and an earlier one
record AreTwo (i j x y : ℕ) : Type 0 where
  pub low : 1 ≤ i
  pub high : i < j
  pub left : 1 ≤ x
  pub right : 1 ≤ y
  pub apart : x ≢ y
  pub back : i ≡ y → x ≡ j → ⊥

two : (n i j : ℕ) → 4 ≤ n → j ≤ n → 1 ≤ i → i < j → AreTwo i j (next_of n i) (next_of n j)
two n i j least high low below =
    let jn : IsOnRing n j = (omega arith, high) in
    let is : IsOnRing n i = (low, omega arith) in
    let a = members_are_apart n i least is in
    let b = members_are_apart n j least jn in
    record {
      low = low;
      high = below;
      left = a.0.0;
      right = b.0.0;
      apart = λ e. let same : i ≡ j = (places_are_taken_once n i j is jn).0 e in absurd (omega arith);
      back = λ e f. twice_by n j (next_of n j) (next_of n i) least (next n j high) (subst (λ k. Next n k (next_of n i)) e (next n i (omega arith))) f;
    }

ring_name_new : (n j : ℕ) (e : List ℕ × DeclaredLink) → n ≤ 96 → j ≤ n → IsWire n j 1 e → bytes_eq (ring_name j) e.0 ≡ false
ring_name_new n j e few high (ring i low below is) =
    subst (λ (x : List ℕ × DeclaredLink). bytes_eq (ring_name j) x.0 ≡ false) (sym is)
    (bytes_apart (ring_name j) (ring_name i) (λ k. let same : j ≡ i = (names_are_apart j i (omega arith) (omega arith)).ring k in absurd (omega arith)))
ring_name_new n j e few high (chord i low below is) = absurd (omega arith)

by_ring : (n j : ℕ) (p : DeclaredLink → Bool) → ((i : ℕ) → 1 ≤ i → i < j → p (ring_entry n i).1 ≡ false) → (e : List ℕ × DeclaredLink) → IsWire n j 1 e → p e.1 ≡ false
by_ring n j p each e (ring i low below is) = subst (λ (x : List ℕ × DeclaredLink). p x.1 ≡ false) (sym is) (each i low below)
by_ring n j p each e (chord i low below is) = absurd (omega arith)

ring_near : (i j x y : ℕ) → 1 ≤ j → AreTwo i j x y → is_at_port (wire i 1 x 2 (10 + i % 3)) (j - 1) 1 ≡ false
ring_near i j x y some t = let a = t.low in let b = t.high in at_no i 1 x 2 (10 + i % 3) (j - 1) 1 (λ e f. omega arith) (λ e f. omega arith)

ring_far : (i j x y : ℕ) → 1 ≤ j → AreTwo i j x y → is_at_port (wire i 1 x 2 (10 + i % 3)) (y - 1) 2 ≡ false
ring_far i j x y some t = let a = t.left in let b = t.right in at_no i 1 x 2 (10 + i % 3) (y - 1) 2 (λ e f. omega arith) (λ e f. t.apart (omega arith))

ring_between : (i j x y : ℕ) → 1 ≤ j → AreTwo i j x y → is_between (wire i 1 x 2 (10 + i % 3)) (j - 1) (y - 1) ≡ false
ring_between i j x y some t =
    let a = t.low in let b = t.high in let c = t.left in let d = t.right in
    between_no i 1 x 2 (10 + i % 3) (j - 1) (y - 1) (λ e f. omega arith) (λ e f. t.back (omega arith) (omega arith))

pub new_ring : (w : World) (n j : ℕ) → 4 ≤ n → n ≤ 96 → 1 ≤ j → j ≤ n → AreBridged (n + 1) w.bridges → AreWired n j 1 w.links
    → link_refusal w (ring_name j) (j - 1) 1 (next_of n j - 1) 2 (10 + j % 3) ≡ None
unfolding link_refusal is_free_port is_unlinked
new_ring w n j least few some high bridged wired =
    let x : ℕ = next_of n j in
    let m = members_are_apart n j least (some, high) in
    let x1 : 1 ≤ x = m.0.0 in let xn : x ≤ n = m.0.1 in let ne : x ≢ j = m.2 in
    let count = wired.count in
    let near = no_thing_passes (IsWire n j 1) (λ l. is_at_port l (j - 1) 1) w.links wired.all
    (by_ring n j (λ l. is_at_port l (j - 1) 1) (λ i low below. ring_near i j (next_of n i) x some (two n i j least high low below))) in
    let far = no_thing_passes (IsWire n j 1) (λ l. is_at_port l (x - 1) 2) w.links wired.all
    (by_ring n j (λ l. is_at_port l (x - 1) 2) (λ i low below. ring_far i j (next_of n i) x some (two n i j least high low below))) in
    let between = no_thing_passes (IsWire n j 1) (λ l. is_between l (j - 1) (x - 1)) w.links wired.all
    (by_ring n j (λ l. is_between l (j - 1) (x - 1)) (λ i low below. ring_between i j (next_of n i) x some (two n i j least high low below))) in
    or_none _ _ (or_none _ _ (or_none _ _ (or_none _ _
    (reason_none _ NameTaken (new_name (ring_name j) w.links (none_at (IsWire n j 1) (ring_name j) w.links wired.all (λ e is. ring_name_new n j e few high is))))
    (reason_none _ PortUse (and-yes _ _ (ap not near) (ap not far))))
    (reason_none _ Range (range_yes w.bridges (j - 1) (x - 1) 1 2 (10 + j % 3) (λ e. ne (omega arith)) (bridge_ports w.bridges (n + 1) (j - 1) bridged (omega arith)) (bridge_ports w.bridges (n + 1) (x - 1) bridged (omega arith)) (omega arith) (omega arith) (omega arith) (omega arith) (omega arith) (omega arith))))
    (reason_none _ TooMany (lt-yes (length w.links) 400 (omega arith))))
    (reason_none _ AlreadyLinked (ap not between))

-- ---- a chord

by_wire : (n c : ℕ) (p : DeclaredLink → Bool) → ((i : ℕ) → 1 ≤ i → i ≤ n → p (ring_entry n i).1 ≡ false) → ((i : ℕ) → 1 ≤ i → i < c → p (chord_entry n i).1 ≡ false)
    → (e : List ℕ × DeclaredLink) → IsWire n (n + 1) c e → p e.1 ≡ false
by_wire n c p rings chords e (ring i low below is) = subst (λ (x : List ℕ × DeclaredLink). p x.1 ≡ false) (sym is) (rings i low (omega arith))
by_wire n c p rings chords e (chord i low below is) = subst (λ (x : List ℕ × DeclaredLink). p x.1 ≡ false) (sym is) (chords i low below)

chord_name_new : (n c : ℕ) (e : List ℕ × DeclaredLink) → n ≤ 96 → 1 ≤ c → c ≤ chord_count n → IsWire n (n + 1) c e → bytes_eq (chord_name (chord_start c)) e.0 ≡ false
chord_name_new n c e few some high (ring i low below is) =
    subst (λ (x : List ℕ × DeclaredLink). bytes_eq (chord_name (chord_start c)) x.0 ≡ false) (sym is)
    (bytes_apart (chord_name (chord_start c)) (ring_name i) (λ k. (names_are_apart i (chord_start c) (omega arith) (omega arith)).kinds (sym k)))
chord_name_new n c e few some high (chord i low below is) =
    subst (λ (x : List ℕ × DeclaredLink). bytes_eq (chord_name (chord_start c)) x.0 ≡ false) (sym is)
    (bytes_apart (chord_name (chord_start c)) (chord_name (chord_start i)) (λ k. let same : chord_start c ≡ chord_start i = (names_are_apart (chord_start c) (chord_start i) (omega arith) (omega arith)).chords k in absurd (omega arith)))

across_is : (n c : ℕ) → 1 ≤ c → c ≤ chord_count n → across n (chord_start c) ≡ chord_start c + n / 2
across_is n c low high = (chords_lead_across n c low high).2

chord_near : (n i c t u : ℕ) → 1 ≤ i → i < c → c ≤ chord_count n → t ≡ chord_start i + n / 2 → u ≡ chord_start c + n / 2 → is_at_port (wire (chord_start i) 3 t 3 25) (chord_start c - 1) 3 ≡ false
chord_near n i c t u low below high e f = at_no (chord_start i) 3 t 3 25 (chord_start c - 1) 3 (λ g h. omega arith) (λ g h. omega arith)

chord_far : (n i c t u : ℕ) → 1 ≤ i → i < c → c ≤ chord_count n → t ≡ chord_start i + n / 2 → u ≡ chord_start c + n / 2 → is_at_port (wire (chord_start i) 3 t 3 25) (u - 1) 3 ≡ false
chord_far n i c t u low below high e f = at_no (chord_start i) 3 t 3 25 (u - 1) 3 (λ g h. omega arith) (λ g h. omega arith)

chord_between : (n i c t u : ℕ) → 1 ≤ i → i < c → c ≤ chord_count n → t ≡ chord_start i + n / 2 → u ≡ chord_start c + n / 2 → is_between (wire (chord_start i) 3 t 3 25) (chord_start c - 1) (u - 1) ≡ false
chord_between n i c t u low below high e f = between_no (chord_start i) 3 t 3 25 (chord_start c - 1) (u - 1) (λ g h. omega arith) (λ g h. omega arith)

ring_no_chord : (n i s : ℕ) → 4 ≤ n → 1 ≤ i → i ≤ n → 1 ≤ s → s ≤ n → is_between (ring_entry n i).1 (s - 1) (across n s - 1) ≡ false
ring_no_chord n i s least low high s1 sn =
    let a = chords_are_no_ring_links n s least (s1, sn) in
    let m = members_are_apart n s least (s1, sn) in
    let k = members_are_apart n i least (low, high) in
    let t1 : 1 ≤ across n s = m.1.0 in
    let x1 : 1 ≤ next_of n i = k.0.0 in
    between_no i 1 (next_of n i) 2 (10 + i % 3) (s - 1) (across n s - 1)
    (λ e f. let is : i ≡ s = omega arith in let far : next_of n i ≡ across n s = omega arith in a.0 (sym far ∙ ap (next_of n) is))
    (λ e f. let is : i ≡ across n s = omega arith in let far : next_of n i ≡ s = omega arith in a.1 (ap (next_of n) (sym is) ∙ far))

pub new_chord : (w : World) (n c : ℕ) → 4 ≤ n → n ≤ 96 → 1 ≤ c → c ≤ chord_count n → AreBridged (n + 1) w.bridges → AreWired n (n + 1) c w.links
    → link_refusal w (chord_name (chord_start c)) (chord_start c - 1) 3 (across n (chord_start c) - 1) 3 25 ≡ None
unfolding link_refusal is_free_port is_unlinked
new_chord w n c least few some high bridged wired =
    let s : ℕ = chord_start c in
    let u : ℕ = across n s in
    let at_u : u ≡ s + n / 2 = across_is n c some high in
    let count = wired.count in
    let near = no_thing_passes (IsWire n (n + 1) c) (λ l. is_at_port l (s - 1) 3) w.links wired.all
    (by_wire n c (λ l. is_at_port l (s - 1) 3) (λ i low below. at_no i 1 (next_of n i) 2 (10 + i % 3) (s - 1) 3 (λ g h. omega arith) (λ g h. omega arith))
    (λ i low below. chord_near n i c (across n (chord_start i)) u low below high (across_is n i low (omega arith)) at_u)) in
    let far = no_thing_passes (IsWire n (n + 1) c) (λ l. is_at_port l (u - 1) 3) w.links wired.all
    (by_wire n c (λ l. is_at_port l (u - 1) 3) (λ i low below. at_no i 1 (next_of n i) 2 (10 + i % 3) (u - 1) 3 (λ g h. omega arith) (λ g h. omega arith))
    (λ i low below. chord_far n i c (across n (chord_start i)) u low below high (across_is n i low (omega arith)) at_u)) in
    let between = no_thing_passes (IsWire n (n + 1) c) (λ l. is_between l (s - 1) (u - 1)) w.links wired.all
    (by_wire n c (λ l. is_between l (s - 1) (u - 1)) (λ i low below. ring_no_chord n i s least low below (omega arith) (omega arith))
    (λ i low below. chord_between n i c (across n (chord_start i)) u low below high (across_is n i low (omega arith)) at_u)) in
    or_none _ _ (or_none _ _ (or_none _ _ (or_none _ _
    (reason_none _ NameTaken (new_name (chord_name s) w.links (none_at (IsWire n (n + 1) c) (chord_name s) w.links wired.all (λ e is. chord_name_new n c e few some high is))))
    (reason_none _ PortUse (and-yes _ _ (ap not near) (ap not far))))
    (reason_none _ Range (range_yes w.bridges (s - 1) (u - 1) 3 3 25 (λ e. absurd (omega arith)) (bridge_ports w.bridges (n + 1) (s - 1) bridged (omega arith)) (bridge_ports w.bridges (n + 1) (u - 1) bridged (omega arith)) (omega arith) (omega arith) (omega arith) (omega arith) (omega arith) (omega arith))))
    (reason_none _ TooMany (lt-yes (length w.links) 400 (omega arith))))
    (reason_none _ AlreadyLinked (ap not between))

-- ---- one link more

ring_later : (n j : ℕ) (e : List ℕ × DeclaredLink) → IsWire n j 1 e → IsWire n (j + 1) 1 e
ring_later n j e (ring i low below is) = ring i low (omega arith) is
ring_later n j e (chord i low below is) = chord i low below is

chord_later : (n c : ℕ) (e : List ℕ × DeclaredLink) → IsWire n (n + 1) c e → IsWire n (n + 1) (c + 1) e
chord_later n c e (ring i low below is) = ring i low below is
chord_later n c e (chord i low below is) = chord i low (omega arith) is

first_kept : (ls : Links) (e : List ℕ × DeclaredLink) → 0 < length ls → at (ring_name 1) ls ≡ 0 → at (ring_name 1) (ls ++ e ∷ []) ≡ 0
first_kept ls e some is = let kept = kept_at (ring_name 1) ls e (omega arith) in omega arith

pub ring_more : (ls : Links) (n j : ℕ) → n ≤ 96 → 1 ≤ j → j ≤ n → AreWired n j 1 ls → AreWired n (j + 1) 1 (ls ++ ring_entry n j ∷ [])
ring_more ls n j few some high so = record {
  count = let a = so.count in let b = length-push ls (ring_entry n j) in omega arith;
  all = All-push (IsWire n (j + 1) 1) ls (ring_entry n j) (All-map (IsWire n j 1) (IsWire n (j + 1) 1) ls (ring_later n j) so.all) (ring j some (omega arith) refl);
  first = λ h. by (below_or_last 1 j h);
}
  where
    by : (1 < j) ⊎ (1 ≡ j) → at (ring_name 1) (ls ++ ring_entry n j ∷ []) ≡ 0
    by (inl more) = let count = so.count in first_kept ls (ring_entry n j) (omega arith) (so.first more)
    by (inr one) =
        let count = so.count in
        let unnamed = none_at (IsWire n j 1) (ring_name j) ls so.all (λ e is. ring_name_new n j e few high is) in
        let new = new_at (ring_name j) ls (ring_entry n j) unnamed (bytes_same (ring_name j)) in
        subst (λ k. at (ring_name k) (ls ++ ring_entry n j ∷ []) ≡ 0) (sym one) (omega arith)

pub chord_more : (ls : Links) (n c : ℕ) → 4 ≤ n → 1 ≤ c → AreWired n (n + 1) c ls → AreWired n (n + 1) (c + 1) (ls ++ chord_entry n c ∷ [])
chord_more ls n c least some so = record {
  count = let a = so.count in let b = length-push ls (chord_entry n c) in omega arith;
  all = All-push (IsWire n (n + 1) (c + 1)) ls (chord_entry n c) (All-map (IsWire n (n + 1) c) (IsWire n (n + 1) (c + 1)) ls (chord_later n c) so.all) (chord c some (omega arith) refl);
  first = λ h. let count = so.count in first_kept ls (chord_entry n c) (omega arith) (so.first h);
}

-- the link that was declared last comes up
pub switched_last : (ls : Links) (name : List ℕ) (l : DeclaredLink) → switched true (ls ++ (name, l) ∷ []) (length ls) ≡ ls ++ (name, record l { live = true }) ∷ []
switched_last [] name l = refl
switched_last (x ∷ ls) name l = ap (λ r. x ∷ r) (switched_last ls name l)

-- ---- the first link of the ring is found, and is up

live_first : (n c : ℕ) (ls : Links) → AllByRecursion (IsWire n (n + 1) c) ls → 0 < length ls → is_live (things_of ls) 0 ≡ true
live_first n c [] all some = absurd (omega arith)
live_first n c (e ∷ ls) all some = by all.0
  where
    by : IsWire n (n + 1) c e → e.1.live ≡ true
    by (ring i low below is) = ap (λ (x : List ℕ × DeclaredLink). x.1.live) is
    by (chord i low below is) = ap (λ (x : List ℕ × DeclaredLink). x.1.live) is

pub first_place : (ls : Links) (n c : ℕ) → 4 ≤ n → 1 ≤ c → AreWired n (n + 1) c ls → (place_of (ring_name 1) ls ≡ Some 0) × (is_live (things_of ls) 0 ≡ true)
first_place ls n c least some so =
    let count = so.count in
    (place_at (ring_name 1) ls 0 (so.first (omega arith)) (omega arith), live_first n c ls so.all (omega arith))

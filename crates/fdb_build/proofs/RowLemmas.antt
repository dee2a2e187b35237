use Rattle.std.proofs.Common.{◌≡◌, ℕ, zero, suc, ◌+◌, ◌≤◌, ◌<◌, Bool, true, false, true≢false, ◌&&◌, ◌||◌, List, [], ◌∷◌, ◌++◌, length, map, take, get_or, find, Option, Some, None, option_map, refl, sym, ap, ◌∙◌, subst, append_assoc, take_all, arith, if◌then◌else◌}
use Rattle.std.specs.List.{AllByRecursion, filter_map}
use Rattle.std.specs.Option.{option_to_list}
use Rattle.std.specs.List.{cons_option}
use Rattle.std.proofs.lemmas.List.{take_more, map-append}
use Rattle.std.proofs.lemmas.List.Elements.{filter_map-append}
use Rattle.std.specs.declared.cmp.Ordering.{Ordering}
use Rattle.std.specs.Ordering.{is_gt}
use Rattle.fdb_build.specs.Tables.{inserted, ascending_by}
use Rattle.spb_types.specs.Address.{same_system}
use Rattle.spb_types.specs.Graph.{joins, port_at, port_among, port_between, edges_at, systems_of, ArePorts, IsEdgeOf, IsValid}
use Rattle.spb_types.specs.declared.address.SystemId.{SystemId}
use Rattle.spb_types.specs.declared.graph.Edge.{Edge}
use Rattle.spb_types.specs.declared.graph.Graph.{Graph}
use Rattle.spb_types.specs.declared.graph.GraphBridge.{GraphBridge}
use Rattle.spb_types.specs.declared.tables.UnicastRow.{UnicastRow}
use Rattle.ect_trees.proofs.Among.{same_is, same_self}
use Rattle.fdb_build.specs.declared.surroundings.Neighbour.{Neighbour}
use Rattle.fdb_build.specs.declared.layout.Placed.{Placed}
use Rattle.fdb_build.specs.Surroundings.{neighbour_by, port_by, ports_by}

either : (p q r s : Bool) → ((p && q) || (r && s)) ≡ true → (p || s) ≡ true
either true q r s h = refl
either false q r true h = refl
either false q true false h = h
either false q false false h = h

-- an edge between x and y is an edge at x
joins_at : (e : Edge) (x y : SystemId) → joins e x y ≡ true → (same_system e.a x || same_system e.b x) ≡ true
joins_at e x y h = either (same_system e.a x) (same_system e.b y) (same_system e.a y) (same_system e.b x) h

abbrev IsPort : SystemId → Edge → Type 0
IsPort x e = (1 ≤ port_at e x) × (port_at e x ≤ 32)

first_port : (e : Edge) (es : List Edge) (x : SystemId) (b : Bool) → b ≡ true → AllByRecursion (IsPort x) (if b then e ∷ edges_at es x else edges_at es x) → IsPort x e
first_port e es x true at h = h.0
first_port e es x false at h = absurd (true≢false (sym at))

other_ports : (e : Edge) (es : List Edge) (x : SystemId) (b : Bool) → AllByRecursion (IsPort x) (if b then e ∷ edges_at es x else edges_at es x) → AllByRecursion (IsPort x) (edges_at es x)
other_ports e es x true h = h.1
other_ports e es x false h = h

-- a port between two bridges is a port of a bridge
pub port_among-le : (es : List Edge) (x y : SystemId) (p : ℕ) → ArePorts es x → Some p ≡ port_among es x y → p ≤ 32
port_among-le [] x y p ports h = cc
port_among-le (e ∷ es) x y p ports h =
    by (joins e x y) refl h (port_among-le es x y p (other_ports e es x (same_system e.a x || same_system e.b x) ports))
  where
    by : (b : Bool) → joins e x y ≡ b → Some p ≡ (if b then Some (port_at e x) else port_among es x y) → (Some p ≡ port_among es x y → p ≤ 32) → p ≤ 32
    by true j h rest =
        let port = first_port e es x (same_system e.a x || same_system e.b x) (joins_at e x y j) ports in
        let same : p ≡ port_at e x = cc in
        omega (arith, same, port.1)
    by false j h rest = rest h

pub port_among-low : (es : List Edge) (x y : SystemId) (p : ℕ) → ArePorts es x → Some p ≡ port_among es x y → 1 ≤ p
port_among-low [] x y p ports h = cc
port_among-low (e ∷ es) x y p ports h =
    by (joins e x y) refl h (port_among-low es x y p (other_ports e es x (same_system e.a x || same_system e.b x) ports))
  where
    by : (b : Bool) → joins e x y ≡ b → Some p ≡ (if b then Some (port_at e x) else port_among es x y) → (Some p ≡ port_among es x y → 1 ≤ p) → 1 ≤ p
    by true j h rest =
        let port = first_port e es x (same_system e.a x || same_system e.b x) (joins_at e x y j) ports in
        let same : p ≡ port_at e x = cc in
        omega (arith, same, port.0)
    by false j h rest = rest h

cons_one : {Y : Type 0} (o : Option Y) → filter_map (λ z. z) (o ∷ []) ≡ option_to_list o
cons_one None = refl
cons_one (Some y) = refl

-- one more item
pub filter_map-take_more : {X Y : Type 0} (f : X → Option Y) (xs : List X) (i : ℕ) (d : X) → i < length xs → filter_map f (take (i + 1) xs) ≡ filter_map f (take i xs) ++ option_to_list (f (get_or xs i d))
filter_map-take_more f xs i d within =
    ap (filter_map f) (take_more xs i d within) ∙ filter_map-append f (take i xs) (get_or xs i d ∷ []) ∙ ap (λ r. filter_map f (take i xs) ++ r) (cons_one (f (get_or xs i d)))

-- what holds of each item holds of the item at a place
pub All-map : {X : Type 0} (P Q : X → Type 0) (xs : List X) → ((x : X) → P x → Q x) → AllByRecursion P xs → AllByRecursion Q xs
All-map P Q [] f h = tt
All-map P Q (x ∷ xs) f h = (f x h.0, All-map P Q xs f h.1)

pub All-at : {X : Type 0} (P : X → Type 0) (xs : List X) (i : ℕ) (d : X) → AllByRecursion P xs → i < length xs → P (get_or xs i d)
All-at P [] i d h within = absurd (omega arith)
All-at P (x ∷ xs) zero d h within = h.0
All-at P (x ∷ xs) (suc i) d h within = All-at P xs i d h.1 (omega arith)

pub All-inserted : {X : Type 0} (P : X → Type 0) (cmp : X → X → Ordering) (x : X) (ys : List X) → P x → AllByRecursion P ys → AllByRecursion P (inserted cmp x ys)
All-inserted P cmp x [] p h = (p, tt)
All-inserted P cmp x (y ∷ ys) p h = by (is_gt (cmp x y)) (All-inserted P cmp x ys p h.1)
  where
    by : (b : Bool) → AllByRecursion P (inserted cmp x ys) → AllByRecursion P (if b then y ∷ inserted cmp x ys else x ∷ y ∷ ys)
    by true rest = (h.0, rest)
    by false rest = (p, h)

-- what holds of each item holds of them in ascending order
pub All-ascending_by : {X : Type 0} (P : X → Type 0) (cmp : X → X → Ordering) (xs : List X) → AllByRecursion P xs → AllByRecursion P (ascending_by cmp xs)
All-ascending_by P cmp [] h = tt
All-ascending_by P cmp (x ∷ xs) h = All-inserted P cmp x (ascending_by cmp xs) h.0 (All-ascending_by P cmp xs h.1)

-- ---- neighbours

-- an edge at `me` leads to one other bridge
one_end : (e : Edge) (me : SystemId) → same_system e.a e.b ≡ false → same_system e.a me ≡ true → same_system e.b me ≡ false
one_end e me apart at = by (same_system e.b me) refl
  where
    by : (b : Bool) → same_system e.b me ≡ b → same_system e.b me ≡ false
    by false h = h
    by true h =
        let same : e.a ≡ e.b = same_is e.a me at ∙ sym (same_is e.b me h) in
        absurd (true≢false (sym (same_self e.b) ∙ (ap (λ z. same_system z e.b) (sym same) ∙ apart)))

first_is : (n : Neighbour) (ns : List Neighbour) (y : SystemId) (b : Bool) → same_system n.system y ≡ b → port_by (n ∷ ns) y ≡ (if b then Some n.port else port_by ns y)
first_is n ns y true h = ap (λ t. option_map (λ (m : Neighbour). m.port) (if t then Some n else find (λ m. same_system m.system y) ns)) h
first_is n ns y false h = ap (λ t. option_map (λ (m : Neighbour). m.port) (if t then Some n else find (λ m. same_system m.system y) ns)) h

-- the ports towards neighbours are those of the edges
pub port_by_neighbours : (es : List Edge) (me y : SystemId) → AllByRecursion (λ e. same_system e.a e.b ≡ false) es
    → port_by (filter_map (neighbour_by me) es) y ≡ port_among es me y
port_by_neighbours [] me y apart = refl
port_by_neighbours (e ∷ es) me y apart =
    by (same_system e.a me) (same_system e.b me) (same_system e.a y) (same_system e.b y) (one_end e me apart.0) refl refl (port_by_neighbours es me y apart.1)
  where
    rest : List Neighbour
    rest = filter_map (neighbour_by me) es

    by : (t u p q : Bool) → (t ≡ true → u ≡ false) → same_system e.a y ≡ p → same_system e.b y ≡ q → port_by rest y ≡ port_among es me y
        → port_by (cons_option (if t then Some (record { system = e.b; port = e.port_a }) else (if u then Some (record { system = e.a; port = e.port_b }) else None)) rest) y
        ≡ (if (t && q) || (p && u) then Some (if t then e.port_a else e.port_b) else port_among es me y)
    by true true p q one hp hq ih = absurd (true≢false (one refl))
    by true false p true one hp hq ih = first_is (record { system = e.b; port = e.port_a }) rest y true hq
    by true false true false one hp hq ih = first_is (record { system = e.b; port = e.port_a }) rest y false hq ∙ ih
    by true false false false one hp hq ih = first_is (record { system = e.b; port = e.port_a }) rest y false hq ∙ ih
    by false true true q one hp hq ih = first_is (record { system = e.a; port = e.port_b }) rest y true hp
    by false true false q one hp hq ih = first_is (record { system = e.a; port = e.port_b }) rest y false hp ∙ ih
    by false false true q one hp hq ih = ih
    by false false false q one hp hq ih = ih

-- in a valid graph no edge joins a bridge to itself
edges_apart : (g : Graph) → IsValid g → AllByRecursion (λ e. same_system e.a e.b ≡ false) g.edges
edges_apart g valid = All-map (λ e. IsEdgeOf g e) (λ e. same_system e.a e.b ≡ false) g.edges (λ e i. i.apart) valid.edges

-- what the list of neighbours gives are the ports of the edges
pub ports_known : (g : Graph) (me : SystemId) (ns : List Neighbour) → IsValid g → ns ≡ filter_map (neighbour_by me) g.edges → ports_by ns g.bridges ≡ map (λ b. port_between g me b.id.system) g.bridges
ports_known g me ns valid e = λ i. map (λ (b : GraphBridge). each b i) g.bridges
  where
    each : (b : GraphBridge) → port_by ns b.id.system ≡ port_between g me b.id.system
    each b = ap (λ t. port_by t b.id.system) e ∙ port_by_neighbours g.edges me b.id.system (edges_apart g valid)

-- ---- bridges by ascending address

module _ {X Y : Type 0} (f : X → Y) (cmp : Y → Y → Ordering) where
  inserted-map : (x : X) (ys : List X) → map f (inserted (λ a b. cmp (f a) (f b)) x ys) ≡ inserted cmp (f x) (map f ys)
  inserted-map x [] = refl
  inserted-map x (y ∷ ys) = by (is_gt (cmp (f x) (f y))) (inserted-map x ys)
    where
      by : (b : Bool) → map f (inserted (λ a b. cmp (f a) (f b)) x ys) ≡ inserted cmp (f x) (map f ys) → map f (if b then y ∷ inserted (λ a b. cmp (f a) (f b)) x ys else x ∷ y ∷ ys) ≡ (if b then f y ∷ inserted cmp (f x) (map f ys) else f x ∷ f y ∷ map f ys)
      by true h = ap (λ t. f y ∷ t) h
      by false h = refl

  -- items in the order of what they are mapped to, mapped, are in order
  pub ascending-map : (xs : List X) → map f (ascending_by (λ a b. cmp (f a) (f b)) xs) ≡ ascending_by cmp (map f xs)
  ascending-map [] = refl
  ascending-map (x ∷ xs) = inserted-map x (ascending_by (λ a b. cmp (f a) (f b)) xs) ∙ ap (inserted cmp (f x)) (ascending-map xs)

pub filter_map-map : {X Y Z : Type 0} (f : Y → Option Z) (h : X → Y) (xs : List X) → filter_map (λ x. f (h x)) xs ≡ filter_map f (map h xs)
filter_map-map f h [] = refl
filter_map-map f h (x ∷ xs) = ap (cons_option (f (h x))) (filter_map-map f h xs)

-- one more bridge with its place
pub systems-more : (bs : List GraphBridge) (ps qs : List Placed) (p : Placed) (i : ℕ) (d : GraphBridge) → i < length bs → qs ≡ ps ++ p ∷ [] → p.system ≡ (get_or bs i d).id.system
    → map (λ (b : Placed). b.system) ps ≡ systems_of (take i bs) → map (λ (b : Placed). b.system) qs ≡ systems_of (take (i + 1) bs)
systems-more bs ps qs p i d low pushed same before =
    ap (map (λ (b : Placed). b.system)) pushed ∙
    (map-append (λ (b : Placed). b.system) ps (p ∷ []) ∙
    (ap (λ s. map (λ (b : Placed). b.system) ps ++ s ∷ []) same ∙
    (ap (λ s. s ++ (get_or bs i d).id.system ∷ []) before ∙
    sym (ap systems_of (take_more bs i d low) ∙ map-append (λ (b : GraphBridge). b.id.system) (take i bs) (get_or bs i d ∷ [])))))

-- ---- rows, one after another

-- the row for the next of the bridges is put behind the others
pub rows-more : (f : SystemId → Option UnicastRow) (old rows new : List UnicastRow) (row : Option UnicastRow) (bs items : List Placed) (i : ℕ) (d : Placed)
    → i < length items → items ≡ bs → row ≡ f (get_or items i d).system → new ≡ rows ++ option_to_list row
    → rows ≡ old ++ filter_map (λ (b : Placed). f b.system) (take i bs) → new ≡ old ++ filter_map (λ (b : Placed). f b.system) (take (i + 1) bs)
rows-more f old rows new row bs items i d low same is pushed before =
    let within : i < length bs = subst (λ (t : List Placed). i < length t) same low in
    let here : row ≡ f (get_or bs i d).system = is ∙ ap (λ t. f (get_or {A = Placed} t i d).system) same in
    pushed ∙ (ap (λ r. rows ++ option_to_list r) here ∙ (ap (λ t. t ++ option_to_list (f (get_or bs i d).system)) before ∙
    (append_assoc old (filter_map (λ (b : Placed). f b.system) (take i bs)) (option_to_list (f (get_or bs i d).system)) ∙
    ap (λ t. old ++ t) (sym (filter_map-take_more (λ (b : Placed). f b.system) bs i d within)))))

-- the rows for all bridges
pub rows-all : (f : SystemId → Option UnicastRow) (old rows : List UnicastRow) (bs items : List Placed) (ys : List SystemId) (i : ℕ)
    → length items ≤ i → items ≡ bs → map (λ (b : Placed). b.system) bs ≡ ys
    → rows ≡ old ++ filter_map (λ (b : Placed). f b.system) (take i bs) → rows ≡ old ++ filter_map f ys
rows-all f old rows bs items ys i low same ascends before =
    let all : length bs ≤ i = subst (λ (t : List Placed). length t ≤ i) same low in
    before ∙ ap (λ t. old ++ t) (ap (filter_map (λ (b : Placed). f b.system)) (take_all i bs all) ∙ (filter_map-map f (λ (b : Placed). b.system) bs ∙ ap (filter_map f) ascends))

-- Lists and graphs that grow by what comes next.
use Rattle.std.proofs.Common.{◌≡◌, ℕ, ◌+◌, ◌≤◌, ◌<◌, Bool, true, false, cond, List, [], ◌∷◌, ◌++◌, length, take, drop, get_or, Option, Some, None, refl, sym, ap, ◌∙◌, arith, add-one, append_assoc}
use Rattle.std.specs.Prelude.{option_to_list}
use Rattle.std.specs.List.{filter_map, cons_option}
use Rattle.std.proofs.Math.Seq.{drop-cons}
use Rattle.std.proofs.lemmas.List.{append-nil, take_more, drop_all}
use Rattle.spb_types.specs.declared.address.SystemId.{SystemId}
use Rattle.spb_types.specs.declared.graph.Edge.{Edge}
use Rattle.spb_types.specs.declared.graph.Graph.{Graph}
use Rattle.spb_tlvs.specs.declared.neighbours.Neighbour.{Neighbour}
use Rattle.spb_content.specs.declared.content.Content.{Content}
use Rattle.spb_content.specs.Graph.{Contents, bridge_of, members_of}
use Rattle.spb_content.specs.Building.{mark_at, edge_for, edges_after, edges_from, kept, with_said, graph_among}

pub next_item : {X : Type 0} (xs : List X) (i : ℕ) (d : X) → i < length xs → drop i xs ≡ get_or xs i d ∷ drop (i + 1) xs
next_item xs i d lt = rw (add-one, drop-cons xs i d) refl

option_first : {X : Type 0} (o : Option X) (xs : List X) → cons_option o xs ≡ option_to_list o ++ xs
option_first None xs = refl
option_first (Some x) xs = refl

-- ---- one more item

pub some_more : {X Y : Type 0} (f : X → Option Y) (xs : List X) (i : ℕ) (d : X) (now then all : List Y) → i < length xs → then ≡ now ++ option_to_list (f (get_or xs i d)) → now ++ filter_map f (drop i xs) ≡ all → then ++ filter_map f (drop (i + 1) xs) ≡ all
some_more f xs i d now then all lt put before =
    let rest = filter_map f (drop (i + 1) xs) in
    let next = ap (filter_map f) (next_item xs i d lt) ∙ option_first (f (get_or xs i d)) rest in
    ap (λ ys. ys ++ rest) put ∙ append_assoc now (option_to_list (f (get_or xs i d))) rest ∙ ap (λ ys. now ++ ys) (sym next) ∙ before

pub some_end : {X Y : Type 0} (f : X → Option Y) (xs : List X) (i : ℕ) (now all : List Y) → length xs ≤ i → now ++ filter_map f (drop i xs) ≡ all → now ≡ all
some_end f xs i now all over h = sym (append-nil now) ∙ ap (λ ys. now ++ filter_map f ys) (sym (drop_all i xs over)) ∙ h

pub edges_more : (list : Contents) (x : SystemId) (ns : List Neighbour) (i : ℕ) (d : Neighbour) (now then all : List Edge) → i < length ns
    → then ≡ now ++ option_to_list (edge_for list x (take i ns) (get_or ns i d).system) → now ++ edges_after list x (take i ns) (drop i ns) ≡ all → then ++ edges_after list x (take (i + 1) ns) (drop (i + 1) ns) ≡ all
edges_more list x ns i d now then all lt put before =
    let n = get_or ns i d in
    let rest = edges_after list x (take (i + 1) ns) (drop (i + 1) ns) in
    let next : edges_after list x (take i ns) (drop i ns) ≡ option_to_list (edge_for list x (take i ns) n.system) ++ rest =
    ap (edges_after list x (take i ns)) (next_item ns i d lt) ∙ ap (λ ms. option_to_list (edge_for list x (take i ns) n.system) ++ edges_after list x ms (drop (i + 1) ns)) (sym (take_more ns i d lt)) in
    ap (λ es. es ++ rest) put ∙ append_assoc now (option_to_list (edge_for list x (take i ns) n.system)) rest ∙ ap (λ es. now ++ es) (sym next) ∙ before

pub edges_end : (list : Contents) (x : SystemId) (ns : List Neighbour) (i : ℕ) (now all : List Edge) → length ns ≤ i → now ++ edges_after list x (take i ns) (drop i ns) ≡ all → now ≡ all
edges_end list x ns i now all over h = sym (append-nil now) ∙ ap (λ ms. now ++ edges_after list x (take i ns) ms) (sym (drop_all i ns over)) ∙ h

-- ---- one more content

-- the bridges, edges and members of two graphs
abbrev pub joined : Graph → Graph → Graph
joined g h = record { bridges = g.bridges ++ h.bridges; edges = g.edges ++ h.edges; members = g.members ++ h.members }

graph_is : (g h : Graph) → g.bridges ≡ h.bridges → g.edges ≡ h.edges → g.members ≡ h.members → g ≡ h
graph_is g h b e m = λ i. record { bridges = b i; edges = e i; members = m i }

-- a content in front
graph_next : (list : Contents) (c : SystemId × Content) (cs : Contents) (g : Graph) → joined g (graph_among list (c ∷ cs)) ≡ joined (with_said list g c) (graph_among list cs)
graph_next list c cs g = graph_is _ _
    (ap (λ ys. g.bridges ++ ys) (option_first (bridge_of c) _) ∙ sym (append_assoc g.bridges (option_to_list (bridge_of c)) _))
    (sym (append_assoc g.edges (edges_from list c) _))
    (sym (append_assoc g.members (members_of c) _))

kept_next : (list : Contents) (marks : List Bool) (p : ℕ) (d : SystemId × Content) → p < length list → length marks ≡ length list
    → kept (drop p list) (drop p marks) ≡ cond (mark_at marks p) (get_or list p d ∷ kept (drop (p + 1) list) (drop (p + 1) marks)) (kept (drop (p + 1) list) (drop (p + 1) marks))
kept_next list marks p d lt same =
    let also : p < length marks = omega arith in
    ap (λ cs. kept cs (drop p marks)) (next_item list p d lt) ∙ ap (λ ms. kept (get_or list p d ∷ drop (p + 1) list) ms) (next_item marks p false also)

pub graph_more : (list : Contents) (marks : List Bool) (p : ℕ) (d : SystemId × Content) (now then all : Graph) → p < length list → length marks ≡ length list → mark_at marks p ≡ true
    → then ≡ with_said list now (get_or list p d) → joined now (graph_among list (kept (drop p list) (drop p marks))) ≡ all → joined then (graph_among list (kept (drop (p + 1) list) (drop (p + 1) marks))) ≡ all
graph_more list marks p d now then all lt same marked put before =
    let rest = kept (drop (p + 1) list) (drop (p + 1) marks) in
    let next = kept_next list marks p d lt same ∙ ap (λ b. cond b (get_or list p d ∷ rest) rest) marked in
    ap (λ g. joined g (graph_among list rest)) put ∙ sym (graph_next list (get_or list p d) rest now) ∙ ap (λ ks. joined now (graph_among list ks)) (sym next) ∙ before

past_with : (list : Contents) (marks : List Bool) (p : ℕ) (d : SystemId × Content) (now all : Graph) → p < length list → length marks ≡ length list → mark_at marks p ≡ false
    → joined now (graph_among list (kept (drop p list) (drop p marks))) ≡ all → joined now (graph_among list (kept (drop (p + 1) list) (drop (p + 1) marks))) ≡ all
past_with list marks p d now all lt same marked before =
    let rest = kept (drop (p + 1) list) (drop (p + 1) marks) in
    let next = kept_next list marks p d lt same ∙ ap (λ b. cond b (get_or list p d ∷ rest) rest) marked in
    ap (λ ks. joined now (graph_among list ks)) (sym next) ∙ before

pub graph_past : (list : Contents) (marks : List Bool) (p : ℕ) (now all : Graph) → p < length list → length marks ≡ length list → mark_at marks p ≡ false
    → joined now (graph_among list (kept (drop p list) (drop p marks))) ≡ all → joined now (graph_among list (kept (drop (p + 1) list) (drop (p + 1) marks))) ≡ all
graph_past [] marks p now all lt same marked before = absurd (omega (arith, lt))
graph_past (c ∷ cs) marks p now all lt same marked before = past_with (c ∷ cs) marks p c now all lt same marked before

pub graph_end : (list : Contents) (marks : List Bool) (p : ℕ) (now all : Graph) → length list ≤ p → joined now (graph_among list (kept (drop p list) (drop p marks))) ≡ all → now ≡ all
graph_end list marks p now all over h =
    let none : joined now (graph_among list []) ≡ now = graph_is _ _ (append-nil now.bridges) (append-nil now.edges) (append-nil now.members) in
    sym none ∙ ap (λ cs. joined now (graph_among list (kept cs (drop p marks)))) (sym (drop_all p list over)) ∙ h

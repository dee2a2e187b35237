use Rattle.std.proofs.Common.{◌≡◌, ℕ, suc, ◌+◌, ◌<◌, Bool, List, [], ◌∷◌, ◌++◌, length, get_or, take, ap, sym, ◌∙◌, arith, append-nil, append_assoc}
use Rattle.std.specs.List.{flat_map, enumerate_from}
use Rattle.std.proofs.lemmas.List.{take_more, length-take-le}
use Rattle.std.proofs.lemmas.List.Concat.{flat_map-append}
use Rattle.adjacency.specs.declared.port.Adjacency.{Adjacency}
use Rattle.report.specs.Adjacencies.{port_line, port_lines}

enumerate_from-push : {X : Type 0} (n : ℕ) (xs : List X) (x : X) → enumerate_from n (xs ++ x ∷ []) ≡ enumerate_from n xs ++ (n + length xs, x) ∷ []
enumerate_from-push {X} n [] x = let e : n + 0 ≡ n = omega arith in ap (λ k. let r : List (ℕ × X) = (k, x) ∷ [] in r) (sym e)
enumerate_from-push {X} n (y ∷ ys) x =
    let e : n + 1 + length ys ≡ n + suc (length ys) = omega arith in
    ap (λ r. (n, y) ∷ r) (enumerate_from-push (n + 1) ys x ∙ ap (λ k. let r : List (ℕ × X) = enumerate_from (n + 1) ys ++ (k, x) ∷ [] in r) e)

-- no ports have no lines
pub port_lines_none : (before : List ℕ) → before ≡ before ++ port_lines []
unfolding port_lines
port_lines_none before = sym (append-nil before)

lines_more : (ports : List (Adjacency × Bool)) (i : ℕ) (d : Adjacency × Bool) → i < length ports → port_lines (take (i + 1) ports) ≡ port_lines (take i ports) ++ port_line (i + 1) (get_or ports i d)
unfolding port_lines
lines_more ports i d h =
    let port = get_or ports i d in
    let long : length (take i ports) ≡ i = length-take-le i ports (omega arith) in
    let number : 1 + length (take i ports) ≡ i + 1 = omega (arith, long) in
    ap port_lines (take_more ports i d h)
    ∙ ap (flat_map (λ p. port_line p.0 p.1)) (enumerate_from-push 1 (take i ports) port ∙ ap (λ n. let r : List (ℕ × (Adjacency × Bool)) = enumerate_from 1 (take i ports) ++ (n, port) ∷ [] in r) number)
    ∙ flat_map-append (λ p. port_line p.0 p.1) (enumerate_from 1 (take i ports)) ((i + 1, port) ∷ [])
    ∙ ap (λ t. port_lines (take i ports) ++ t) (append-nil (port_line (i + 1) port))

-- the line of one more port stands behind the others
pub port_lines_more : (ports : List (Adjacency × Bool)) (i : ℕ) (d : Adjacency × Bool) (before mid after : List ℕ) → i < length ports → mid ≡ before ++ port_lines (take i ports) → after ≡ mid ++ port_line (i + 1) (get_or ports i d)
    → after ≡ before ++ port_lines (take (i + 1) ports)
port_lines_more ports i d before mid after h so more =
    let port = get_or ports i d in
    more ∙ ap (λ t. t ++ port_line (i + 1) port) so ∙ rw (lines_more ports i d h) (append_assoc before (port_lines (take i ports)) (port_line (i + 1) port))

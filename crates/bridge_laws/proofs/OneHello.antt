-- In a second at most one hello is sent at a port.
use Rattle.std.proofs.Common.{◌≡◌, inl, inr, ◌≤◌, ◌+◌, ℕ, Bool, true, false, List, [], ◌∷◌, ◌++◌, cond, refl, sym, ap, arith, ⊎_elim}
use Rattle.std.specs.Prelude.{◌==◌, ◌&&◌, count_by, if◌then◌else◌}
use Rattle.std.proofs.lemmas.Bool.{cases_eq, eqb-true}
use Rattle.std.proofs.lemmas.List.Sums.{sum_by-cons, sum_by-append, count_by-le-length}
use Rattle.itag_frames.specs.Classify.{ControlAgain}
use Rattle.lsdb.specs.Database.{Lsps}
use Rattle.bridge_api.specs.declared.port.BridgePort.{BridgePort}
use Rattle.bridge_api.specs.View.{BridgeView}
use Rattle.bridge_api.specs.Parsing.{is_hello}
use Rattle.bridge_api.specs.Ticking.{readied, hello_frame, hellos_at, synced_at, sent_at, after_sending_at, sent_from, after_sending, sent_in_tick}
use Rattle.bridge_api.specs.Laws.{IsSent, OneHello}
use Rattle.bridge_laws.proofs.Frames.{CanTell, synced_say, after_sending_can, readied_can}
use Rattle.bridge_api.proofs.Hellos.{at_port, sent_where}

-- the hellos among frames at a port
abbrev is_hello_at : ℕ → ℕ × List ℕ → Bool
is_hello_at p s = (s.0 == p) && is_hello s.1

abbrev one_if : Bool → ℕ
one_if b = cond b 1 0

abbrev hellos_among : ℕ → List (ℕ × List ℕ) → ℕ
hellos_among p frames = count_by (is_hello_at p) frames

hellos_both : (p : ℕ) (xs ys : List (ℕ × List ℕ)) → hellos_among p (xs ++ ys) ≡ hellos_among p xs + hellos_among p ys
hellos_both p xs ys = sum_by-append (λ s. one_if (is_hello_at p s)) xs ys

-- there are none where no frame at the port is one
none_here : (p : ℕ) (s : ℕ × List ℕ) (b : Bool) → (s.0 == p) ≡ b → ((s.0 ≡ p) → is_hello s.1 ≡ false) → (b && is_hello s.1) ≡ false
none_here p s true at silent = silent (eqb-true s.0 p at)
none_here p s false at silent = refl

no_hellos : (p : ℕ) (frames : List (ℕ × List ℕ)) → ((bytes : List ℕ) → IsSent frames p bytes → is_hello bytes ≡ false) → hellos_among p frames ≡ 0
no_hellos p [] silent = refl
no_hellos p (s ∷ frames) silent =
    let first : is_hello_at p s ≡ false = none_here p s (s.0 == p) refl (λ here. silent s.1 (inl (here, refl))) in
    let rest : hellos_among p frames ≡ 0 = no_hellos p frames (λ bytes some. silent bytes (inr some)) in
    let all : hellos_among p (s ∷ frames) ≡ one_if (is_hello_at p s) + hellos_among p frames = sum_by-cons (λ t. one_if (is_hello_at p t)) s frames in
    let here : one_if (is_hello_at p s) ≡ 0 = ap one_if first in
    omega (arith, all, here, rest)

one_hello_here : (p k : ℕ) (has_carrier : Bool) (bytes : List ℕ) → hellos_among p (if has_carrier then (k, bytes) ∷ [] else []) ≤ 1
one_hello_here p k false bytes = omega arith
one_hello_here p k true bytes = count_by-le-length (is_hello_at p) ((k, bytes) ∷ [])

-- from these ports, of which the first has number k
one_from : ControlAgain → (w : BridgeView) (p k : ℕ) (ports : List BridgePort) (db : Lsps) → CanTell w db → hellos_among p (sent_from w.id.system k ports db) ≤ 1
one_from again w p k [] db can = omega arith
one_from again w p k (port ∷ ports) db can =
    let here : List (ℕ × List ℕ) = sent_at w.id.system k port db in
    let later : List (ℕ × List ℕ) = sent_from w.id.system (k + 1) ports (after_sending_at k port db) in
    let all : hellos_among p (here ++ later) ≡ hellos_among p here + hellos_among p later = hellos_both p here later in
    let both : hellos_among p here ≡ hellos_among p (hellos_at w.id.system k port) + hellos_among p (synced_at w.id.system k port db) =
    hellos_both p (hellos_at w.id.system k port) (synced_at w.id.system k port db) in
    let first : hellos_among p (hellos_at w.id.system k port) ≤ 1 = one_hello_here p k port.adjacency.carrier (hello_frame w.id.system k port) in
    let others : hellos_among p (synced_at w.id.system k port db) ≡ 0 = no_hellos p (synced_at w.id.system k port db) (λ bytes some. (synced_say again w p k port db bytes can some).silent) in
    ⊎_elim
    (λ same.
    let none : hellos_among p later ≡ 0 = no_hellos p later (λ bytes some.
    let at = sent_where w.id.system (k + 1) ports (after_sending_at k port db) p bytes some in absurd (omega (arith, at.number, same))) in
    omega (arith, all, both, first, others, none))
    (λ apart.
    let none : hellos_among p here ≡ 0 = no_hellos p here (λ bytes some. absurd (apart (sym (at_port w.id.system k port db p bytes some).0))) in
    let rest : hellos_among p later ≤ 1 = one_from again w p (k + 1) ports (after_sending_at k port db) (after_sending_can w k port db can) in
    omega (arith, all, none, rest))
    (cases_eq p k)

pub one_hello : ControlAgain → OneHello
unfolding sent_in_tick
one_hello again v p was = one_from again (after_sending (readied v)) p 1 (readied v).ports (readied v).database (readied_can v was)

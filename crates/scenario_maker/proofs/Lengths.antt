-- How many commands the parts of a script have.
use Rattle.std.proofs.Common.{◌≡◌, ℕ, zero, suc, ◌+◌, ◌*◌, List, ◌∷◌, ◌++◌, length, flat_map, refl, ◌∙◌, arith, length-append}
use Rattle.std.specs.List.{range_with_len}
use Rattle.std.proofs.lemmas.List.FromFn.{length-map-range_with_len}
use Rattle.scenario.specs.declared.command.Command.{Command}
use Rattle.scenario.specs.declared.command.Command.TheVariants as command
use Rattle.scenario_maker.specs.Laws.{MadeIsLong}
use Rattle.scenario_maker.specs.Made.{chord_count, base_vids, bridge, ring_link, nth_chord, bridges, ring, chords, network, service, members, services, attachments, questions_of, questions, convergence, sent, traffic, declarations, after_failure, after_restart, events, ring_name, bridge_name}

joined : (a b : List Command) (m n : ℕ) → length a ≡ m → length b ≡ n → length (a ++ b) ≡ m + n
joined a b m n p q = omega (arith, length-append a b)

one_more : (x : Command) (a : List Command) (m : ℕ) → length a ≡ m → length (x ∷ a) ≡ 1 + m
one_more x a m p = omega arith

flat_long : (f : ℕ → List Command) (m : ℕ) → ((k : ℕ) → length (f k) ≡ m) → (a n : ℕ)
    → length (flat_map f (range_with_len a n)) ≡ m * n
flat_long f m each a zero = omega arith
flat_long f m each a (suc n) =
    joined (f a) _ m (m * n) (each a) (flat_long f m each (a + 1) n) ∙ omega arith

network_long : (n : ℕ) → length (network n) ≡ 2 + n + n + chord_count n
network_long n =
    joined (base_vids ++ bridges n ++ ring n) (chords n) _ _
    (joined (base_vids ++ bridges n) (ring n) _ _
    (joined base_vids (bridges n) 2 n refl (length-map-range_with_len bridge 1 n))
    (length-map-range_with_len (ring_link n) 1 n))
    (length-map-range_with_len (nth_chord n) 1 (chord_count n))

declarations_long : (n : ℕ) → length (declarations n) ≡ 2 + n + n + chord_count n + n + 3 * n
declarations_long n =
    joined (network n ++ services n) (attachments n) _ _
    (joined (network n) (services n) _ _ (network_long n) (length-map-range_with_len service 1 n))
    (flat_long (members n) 3 (λ k. refl) 1 n)

convergence_long : (n : ℕ) → length (convergence n) ≡ 1 + 2 * n
convergence_long n = one_more (command.Round (4 * n + 16)) (questions n) _ (flat_long questions_of 2 (λ k. refl) 1 n)

traffic_long : (n : ℕ) → length (traffic n) ≡ 2 * n
traffic_long n = flat_long sent 2 (λ k. refl) 1 n

after_failure_long : (n : ℕ) → length (after_failure n) ≡ 2 + 2 * n
after_failure_long n = one_more (command.Down (ring_name 1)) (convergence n) _ (convergence_long n) ∙ omega arith

after_restart_long : (n : ℕ) → length (after_restart n) ≡ 2 + 4 * n
after_restart_long n =
    one_more (command.Restart (bridge_name 2)) (convergence n ++ traffic n) _
    (joined (convergence n) (traffic n) _ _ (convergence_long n) (traffic_long n))
    ∙ omega arith

events_long : (n : ℕ) → length (events n) ≡ 1 + 2 * n + 2 * n + (2 + 2 * n) + (2 + 4 * n)
events_long n =
    joined (convergence n ++ traffic n ++ after_failure n) (after_restart n) _ _
    (joined (convergence n ++ traffic n) (after_failure n) _ _
    (joined (convergence n) (traffic n) _ _ (convergence_long n) (traffic_long n))
    (after_failure_long n))
    (after_restart_long n)

summed : (n c : ℕ) → (2 + n + n + c + n + 3 * n) + (1 + 2 * n + 2 * n + (2 + 2 * n) + (2 + 4 * n)) ≡ 16 * n + 7 + c
summed n c = omega arith

pub made_is_long : MadeIsLong
made_is_long n =
    joined (declarations n) (events n) _ _ (declarations_long n) (events_long n) ∙ summed n (chord_count n)

-- Commands that are accepted one after another, and lists in which things are found by name.
use Rattle.std.proofs.Common.{◌≡◌, ◌≢◌, ◌⊎◌, inl, inr, ltb-true, ltb-false, ℕ, zero, suc, ◌+◌, ◌≤◌, ◌<◌, Bool, true, false, true≢false, cond, not, ◌&&◌, ◌||◌, ◌==◌, nat_lt, List, [], ◌∷◌, ◌++◌, length, map, flat_map, Some, None, is_none, refl, sym, ap, ◌∙◌, subst, arith}
use Rattle.std.proofs.lemmas.Bool.Decides.{nat_tests, Decides-and, Decides-eqb}
use Rattle.std.proofs.lemmas.Slice.Eq.{bytes_eq-Decides}
use Rattle.std.specs.Bool.{Decides}
use Rattle.std.specs.List.{AllByRecursion, list_any, range_with_len, position_or_len}
use Rattle.std.specs.Str.{bytes_eq}
use Rattle.scenario.specs.declared.command.Command.{Command}
use Rattle.network_model.specs.State.{State}
use Rattle.spb_world.specs.World.{names_of, things_of, place_of}
use Rattle.spb_world.specs.Declaring.{is_new_name}
use Rattle.network_model.specs.Refusing.{refusal_of}
use Rattle.network_model.specs.Play.{next_state, played_all}
use Rattle.network_model.specs.SoundLaws.{AreAccepted}

-- ---- commands, one after another

-- from a state of the one sort the commands are accepted, and lead to one of the other
abbrev pub Runs : (State → Type 0) → List Command → (State → Type 0) → Type 0
Runs P cs Q = (s : State) → P s → AreAccepted s cs × Q (played_all s cs)

pub runs_one : (P Q : State → Type 0) (c : Command) → ((s : State) → P s → (refusal_of s c ≡ None) × Q (next_state s c)) → Runs P (c ∷ []) Q
runs_one P Q c step s p = let x = step s p in ((x.0, tt), x.1)

more_at : (s : State) (cs ds : List Command) (R : State → Type 0) → AreAccepted s cs → AreAccepted (played_all s cs) ds × R (played_all (played_all s cs) ds)
    → AreAccepted s (cs ++ ds) × R (played_all s (cs ++ ds))
more_at s [] ds R a b = b
more_at s (c ∷ cs) ds R a b = let r = more_at (next_state s c) cs ds R a.1 b in ((a.0, r.0), r.1)

pub runs_more : (P Q R : State → Type 0) (cs ds : List Command) → Runs P cs Q → Runs Q ds R → Runs P (cs ++ ds) R
runs_more P Q R cs ds a b s p = let x = a s p in more_at s cs ds R x.0 (b (played_all s cs) x.1)

-- the commands for each number
pub runs_each : (P : ℕ → State → Type 0) (f : ℕ → List Command) (a k : ℕ) → ((j : ℕ) → a ≤ j → j < a + k → Runs (P j) (f j) (P (j + 1)))
    → Runs (P a) (flat_map f (range_with_len a k)) (P (a + k))
runs_each P f a zero each = λ s p. (tt, subst (λ j. P j s) (omega arith) p)
runs_each P f a (suc k) each =
    let on : a + 1 + k ≡ a + suc k = omega arith in
    subst (λ j. Runs (P a) (f a ++ flat_map f (range_with_len (a + 1) k)) (P j)) on
    (runs_more (P a) (P (a + 1)) (P (a + 1 + k)) (f a) (flat_map f (range_with_len (a + 1) k)) (each a (omega arith) (omega arith))
    (runs_each P f (a + 1) k (λ j low high. each j (omega arith) (omega arith))))

-- one command for each number
pub runs_map : (P : ℕ → State → Type 0) (f : ℕ → Command) (a k : ℕ) → ((j : ℕ) → a ≤ j → j < a + k → Runs (P j) (f j ∷ []) (P (j + 1)))
    → Runs (P a) (map f (range_with_len a k)) (P (a + k))
runs_map P f a zero each = λ s p. (tt, subst (λ j. P j s) (omega arith) p)
runs_map P f a (suc k) each =
    let on : a + 1 + k ≡ a + suc k = omega arith in
    subst (λ j. Runs (P a) (f a ∷ map f (range_with_len (a + 1) k)) (P j)) on
    (runs_more (P a) (P (a + 1)) (P (a + 1 + k)) (f a ∷ []) (map f (range_with_len (a + 1) k)) (each a (omega arith) (omega arith))
    (runs_map P f (a + 1) k (λ j low high. each j (omega arith) (omega arith))))

-- ---- tests

not_so : {P : Type 0} (b : Bool) → Decides b P → (P → ⊥) → b ≡ false
not_so true d n = absurd (n (d.0 refl))
not_so false d n = refl

pub bytes_apart : (xs ys : List ℕ) → xs ≢ ys → bytes_eq xs ys ≡ false
bytes_apart xs ys n = not_so (bytes_eq xs ys) (bytes_eq-Decides xs ys) n

pub bytes_same : (xs : List ℕ) → bytes_eq xs xs ≡ true
bytes_same xs = (bytes_eq-Decides xs xs).1 refl

pub lt-yes : (a b : ℕ) → a < b → nat_lt a b ≡ true
lt-yes a b h = grind (arith, nat_tests)

pub lt-no : (a : ℕ) → nat_lt a a ≡ false
lt-no a = grind (arith, nat_tests)

pub below_or_last : (i j : ℕ) → i < j + 1 → (i < j) ⊎ (i ≡ j)
below_or_last i j h = by (nat_lt i j) refl
  where
    by : (b : Bool) → nat_lt i j ≡ b → (i < j) ⊎ (i ≡ j)
    by true e = inl (ltb-true i j e)
    by false e = inr (let a = ltb-false i j e in omega arith)

-- two pairs of numbers that don't agree both
pub not_both : (a b c d : ℕ) → (a ≡ b → c ≡ d → ⊥) → ((a == b) && (c == d)) ≡ false
not_both a b c d n = not_so ((a == b) && (c == d)) (Decides-and (a == b) (c == d) (Decides-eqb a b) (Decides-eqb c d)) (λ p. n p.0 p.1)

pub or-no : (a b : Bool) → a ≡ false → b ≡ false → (a || b) ≡ false
or-no true b h k = h
or-no false b h k = k

pub and-no : (a b : Bool) → a ≡ false → (a && b) ≡ false
and-no true b h = absurd (true≢false h)
and-no false b h = refl

pub and-no_right : (a b : Bool) → b ≡ false → (a && b) ≡ false
and-no_right true b h = h
and-no_right false b h = refl

-- no item passes a test that each fails
pub none_passes : {X : Type 0} (P : X → Type 0) (p : X → Bool) (xs : List X) → AllByRecursion P xs → ((x : X) → P x → p x ≡ false) → list_any p xs ≡ false
none_passes P p [] all fails = refl
none_passes P p (x ∷ xs) all fails = or-no (p x) (list_any p xs) (fails x all.0) (none_passes P p xs all.1 fails)

pub no_thing_passes : {T : Type 0} (P : List ℕ × T → Type 0) (p : T → Bool) (xs : List (List ℕ × T)) → AllByRecursion P xs → ((e : List ℕ × T) → P e → p e.1 ≡ false) → list_any p (things_of xs) ≡ false
no_thing_passes P p [] all fails = refl
no_thing_passes P p (x ∷ xs) all fails = or-no (p x.1) (list_any p (things_of xs)) (fails x all.0) (no_thing_passes P p xs all.1 fails)

-- ---- names

-- the place of the first thing of this name, and the number of things where there is none
abbrev pub at : {T : Type 0} → List ℕ → List (List ℕ × T) → ℕ
at name xs = position_or_len (bytes_eq name) (names_of xs)

length-names : {T : Type 0} (xs : List (List ℕ × T)) → length (names_of xs) ≡ length xs
length-names [] = refl
length-names (x ∷ xs) = ap suc (length-names xs)

pub none_at : {T : Type 0} (P : List ℕ × T → Type 0) (name : List ℕ) (xs : List (List ℕ × T)) → AllByRecursion P xs → ((e : List ℕ × T) → P e → bytes_eq name e.0 ≡ false) → at name xs ≡ length xs
none_at P name [] all other = refl
none_at P name (x ∷ xs) all other = ap (λ b. cond (not b) (1 + at name xs) 0) (other x all.0) ∙ (let rest = none_at P name xs all.1 other in omega arith)

pub kept_at : {T : Type 0} (name : List ℕ) (xs : List (List ℕ × T)) (e : List ℕ × T) → at name xs < length xs → at name (xs ++ e ∷ []) ≡ at name xs
kept_at name [] e h = absurd (omega arith)
kept_at name (x ∷ xs) e h = by (bytes_eq name x.0) h (kept_at name xs e)
  where
    by : (b : Bool) → cond (not b) (1 + at name xs) 0 < suc (length xs) → (at name xs < length xs → at name (xs ++ e ∷ []) ≡ at name xs) → cond (not b) (1 + at name (xs ++ e ∷ [])) 0 ≡ cond (not b) (1 + at name xs) 0
    by true h rest = refl
    by false h rest = ap (λ n. 1 + n) (rest (omega arith))

pub new_at : {T : Type 0} (name : List ℕ) (xs : List (List ℕ × T)) (e : List ℕ × T) → at name xs ≡ length xs → bytes_eq name e.0 ≡ true → at name (xs ++ e ∷ []) ≡ length xs
new_at name [] e h here = ap (λ b. cond (not b) (1 + 0) 0) here
new_at name (x ∷ xs) e h here = by (bytes_eq name x.0) h (λ k. new_at name xs e k here)
  where
    by : (b : Bool) → cond (not b) (1 + at name xs) 0 ≡ suc (length xs) → (at name xs ≡ length xs → at name (xs ++ e ∷ []) ≡ length xs) → cond (not b) (1 + at name (xs ++ e ∷ [])) 0 ≡ suc (length xs)
    by true h rest = absurd (omega arith)
    by false h rest = let r = rest (omega arith) in omega arith

pub place_at : {T : Type 0} (name : List ℕ) (xs : List (List ℕ × T)) (k : ℕ) → at name xs ≡ k → k < length xs → place_of name xs ≡ Some k
place_at name xs k e low =
    let names = length-names xs in
    let yes : nat_lt (at name xs) (length (names_of xs)) ≡ true = lt-yes (at name xs) (length (names_of xs)) (omega arith) in
    ap (λ b. cond b (Some (at name xs)) None) yes ∙ ap (λ n. Some n) e

pub no_place : {T : Type 0} (name : List ℕ) (xs : List (List ℕ × T)) → at name xs ≡ length xs → place_of name xs ≡ None
no_place name xs e =
    ap (λ n. cond (nat_lt n (length (names_of xs))) (Some (at name xs)) None) (e ∙ sym (length-names xs)) ∙ ap (λ b. cond b (Some (at name xs)) None) (lt-no (length (names_of xs)))

pub new_name : {T : Type 0} (name : List ℕ) (xs : List (List ℕ × T)) → at name xs ≡ length xs → is_new_name name xs ≡ true
unfolding is_new_name
new_name name xs e = ap is_none (no_place name xs e)

-- Single rounds, one after another.
use Rattle.std.proofs.Common.{◌≡◌, ℕ, zero, suc, ◌+◌, ◌-◌, ◌<◌, ◌≤◌, Bool, true, false, true≢false, List, ◌++◌, append-nil, append_assoc, refl, sym, ap, subst, ◌∙◌, arith, None, Err, inl, inr}
use Rattle.std.specs.Prelude.{if◌then◌else◌, nat_le}
use Rattle.std.proofs.lemmas.Bool.{cases_Bool}
use Rattle.std.proofs.lemmas.Bool.Decides.{nat_tests}
use Rattle.bridge_api.specs.Shown.{Shown}
use Rattle.spb_network.specs.declared.network.NetworkOf.{NetworkOf}
use Rattle.spb_network.specs.declared.apply_error.ApplyError.{ApplyError}
use Rattle.spb_network.specs.declared.apply_error.ApplyError.TheVariants as error
use Rattle.spb_network.specs.Network.{state_of}
use Rattle.spb_types.specs.declared.limits.TheConstants.{MOST_ROUNDS}
use Rattle.network_model.specs.declared.answer.Out.{Out}
use Rattle.network_model.specs.State.{State}
use Rattle.network_model.specs.Questions.{is_quiet}
use Rattle.network_model.specs.Play.{next_state, answer_of, played_all, with_rounds}
use Rattle.spb_world.specs.Reason.{reason_unless}
use Rattle.network_model.specs.Refusing.{refusal_of, round_refusal}
use Rattle.network_model.specs.Isolation.{outs_in}
use Rattle.network_rounds.specs.Settling.{rounds_made, outs_of, most_settling, settled, settle_refusal}
use Rattle.settle_laws.specs.declared.answers.Ready.{Ready}
use Rattle.settle_laws.specs.declared.answers.Ready.TheVariants.{Yes}
use Rattle.settle_laws.specs.Premises.{ready_of}
use Rattle.settle_laws.specs.Settling.{one_round, single_rounds, PlaysRound, PlaysRounds, IsCutShort, SettlesBy, left_of}

-- one more
pub played_more : (k : ℕ) (s : State) → played_all s (single_rounds (suc k)) ≡ next_state (played_all s (single_rounds k)) one_round
played_more zero s = refl
played_more (suc k) s = played_more k (next_state s one_round)

pub outs_more : (k : ℕ) (s : State) → outs_of s (single_rounds (suc k)) ≡ outs_of s (single_rounds k) ++ outs_in (answer_of (played_all s (single_rounds k)) one_round)
outs_more zero s = append-nil (outs_in (answer_of s one_round))
outs_more (suc k) s =
    ap (λ l. outs_in (answer_of s one_round) ++ l) (outs_more k (next_state s one_round))
    ∙ sym (append_assoc (outs_in (answer_of s one_round)) (outs_of (next_state s one_round) (single_rounds k)) (outs_in (answer_of (played_all (next_state s one_round) (single_rounds k)) one_round)))

-- none where the network is quiet
pub quiet_none : (m : ℕ) (s : State) → is_quiet s ≡ true → rounds_made m s ≡ 0
quiet_none zero s quiet = refl
quiet_none (suc m) s quiet = ap (λ b. if b then 0 else suc (rounds_made m (next_state s one_round))) quiet

-- one, and those after it, where it isn't
pub busy_one : (m : ℕ) (s : State) → is_quiet s ≡ false → rounds_made (suc m) s ≡ suc (rounds_made m (next_state s one_round))
busy_one m s busy = ap (λ b. if b then 0 else suc (rounds_made m (next_state s one_round))) busy

-- a round counts as one
pub one_counts : (s : State) → (next_state s one_round).rounds ≡ s.rounds + 1
unfolding next_state with_rounds
one_counts s = refl

-- and isn't refused while there is one left
pub one_accepted : (s : State) → s.rounds + 1 ≤ MOST_ROUNDS → refusal_of s one_round ≡ None
unfolding round_refusal reason_unless
one_accepted s room =
    let fits : nat_le (s.rounds + 1) MOST_ROUNDS ≡ true = grind (arith, nat_tests, room) in
    rw fits refl

-- ---- so many rounds of settling were played

-- k of at most m rounds: the customers' frames that left in them, and the network after them
pub record IsSoFar (m : ℕ) (s : State) (before : List Out) (k : ℕ) (after : List Out) (t : State) : Type 0 where
  pub within : k ≤ m
  pub outs : after ≡ before ++ outs_of s (single_rounds k)
  pub state : t ≡ played_all s (single_rounds k)
  pub rounds : rounds_made m s ≡ k + rounds_made (m - k) t
  pub room : t.rounds + (m - k) ≤ MOST_ROUNDS

pub so_far_none : (m : ℕ) (s : State) (before : List Out) → s.rounds + m ≤ MOST_ROUNDS → IsSoFar m s before 0 before s
so_far_none m s before room =
    let all : m - 0 ≡ m = omega arith in
    let made : rounds_made (m - 0) s ≡ rounds_made m s = ap (λ n. rounds_made n s) all in
    record {
      within = omega arith;
      outs = sym (append-nil before);
      state = refl;
      rounds = omega (arith, made);
      room = omega (arith, room, all);
    }

pub suc-is : (k : ℕ) → suc k ≡ k + 1
suc-is k = omega arith

left-is : (m k : ℕ) → k < m → m - k ≡ suc (m - (k + 1))
left-is m k less = omega (arith, less)

played_next : (s t u : State) (k : ℕ) → t ≡ played_all s (single_rounds k) → u ≡ next_state t one_round → u ≡ played_all s (single_rounds (k + 1))
played_next s t u k is next =
    next ∙ (ap (λ (x : State). next_state x one_round) is ∙ (sym (played_more k s) ∙ ap (λ n. played_all s (single_rounds n)) (suc-is k)))

made_busy : (m : ℕ) (s t : State) (before after : List Out) (k : ℕ) → IsSoFar m s before k after t → k < m → is_quiet t ≡ false
    → rounds_made m s ≡ k + (1 + rounds_made (m - (k + 1)) (next_state t one_round))
made_busy m s t before after k far less busy =
    let one : rounds_made (m - k) t ≡ rounds_made (suc (m - (k + 1))) t = ap (λ n. rounds_made n t) (left-is m k less) in
    omega (arith, far.rounds, one, busy_one (m - (k + 1)) t busy)

pub so_far_more : (m : ℕ) (s t u : State) (before after more : List Out) (k : ℕ) → IsSoFar m s before k after t → k < m → is_quiet t ≡ false
    → u ≡ next_state t one_round → more ≡ after ++ outs_in (answer_of t one_round) → IsSoFar m s before (k + 1) more u
so_far_more m s t u before after more k far less busy next left =
    let made : rounds_made (m - (k + 1)) u ≡ rounds_made (m - (k + 1)) (next_state t one_round) = ap (λ (x : State). rounds_made (m - (k + 1)) x) next in
    let count : u.rounds ≡ t.rounds + 1 = ap (λ (x : State). x.rounds) next ∙ one_counts t in
    record {
      within = omega (arith, less);
      outs =
          left ∙ (ap (λ l. l ++ outs_in (answer_of t one_round)) far.outs
          ∙ (append_assoc before (outs_of s (single_rounds k)) (outs_in (answer_of t one_round))
          ∙ (ap (λ (x : State). before ++ (outs_of s (single_rounds k) ++ outs_in (answer_of x one_round))) far.state
          ∙ (ap (λ l. before ++ l) (sym (outs_more k s)) ∙ ap (λ n. before ++ outs_of s (single_rounds n)) (suc-is k)))));
      state = played_next s t u k far.state next;
      rounds = omega (arith, made_busy m s t before after k far less busy, made);
      room = omega (arith, far.room, count, less);
    }

-- the network is quiet
pub so_far_quiet : (m : ℕ) (s t : State) (before after : List Out) (k : ℕ) → IsSoFar m s before k after t → is_quiet t ≡ true
    → (k ≡ rounds_made m s) × (t ≡ played_all s (single_rounds k)) × (after ≡ before ++ outs_of s (single_rounds k))
so_far_quiet m s t before after k far quiet = (omega (arith, far.rounds, quiet_none (m - k) t quiet), far.state, far.outs)

-- all rounds were played
pub so_far_all : (m : ℕ) (s t : State) (before after : List Out) (k : ℕ) → IsSoFar m s before k after t → m ≤ k
    → (m ≡ rounds_made m s) × (t ≡ played_all s (single_rounds m)) × (after ≡ before ++ outs_of s (single_rounds m))
so_far_all m s t before after k far end =
    let same : k ≡ m = omega (arith, far.within, end) in
    let none : m - k ≡ 0 = omega (arith, end) in
    let nothing : rounds_made (m - k) t ≡ 0 = ap (λ n. rounds_made n t) none in
    (omega (arith, far.rounds, nothing, same), far.state ∙ ap (λ n. played_all s (single_rounds n)) same, far.outs ∙ ap (λ n. before ++ outs_of s (single_rounds n)) same)

-- the next round found no memory
pub so_far_cut : (m : ℕ) (s t u : State) (before after more : List Out) (k : ℕ) (halted : Bool) (e : ApplyError) → IsSoFar m s before k after t → k < m → is_quiet t ≡ false
    → PlaysRound t after more (Err e) halted u → PlaysRounds m s before more (Err e) halted u
so_far_cut m s t u before after more k halted error.NoMemory far less busy round = record {
  begun = k + 1;
  told = k;
  few = omega (arith, made_busy m s t before after k far less busy);
  within = omega arith;
  near = omega arith;
  outs = round.0 ∙ far.outs;
  state = λ on. played_next s t u k far.state (round.1 on);
}
so_far_cut m s t u before after more k halted (error.Refused reason) far less busy round = absurd round
so_far_cut m s t u before after more k halted error.Halted far less busy round = absurd round

-- ---- settling

-- a quiet network stays as it is
settled_quiet : (s : State) → is_quiet s ≡ true → is_quiet (settled s) ≡ true
settled_quiet s quiet = ap (λ n. is_quiet (played_all s (single_rounds n))) (quiet_none (most_settling s) s quiet) ∙ quiet

pub left_is : (s t : State) (before left : Ready) → t ≡ settled s → left ≡ (if is_quiet t then Yes else before) → (is_quiet s ≡ false → before ≡ ready_of s) → left ≡ left_of s
left_is s t before left is from first =
    from ∙ (ap (λ (x : State). if is_quiet x then Yes else before) is ∙ by (is_quiet (settled s)) refl)
  where
    was_busy : is_quiet (settled s) ≡ false → is_quiet s ≡ false
    was_busy busy =
        elim (cases_Bool (is_quiet s)) [
          | inl quiet ↦ absurd (true≢false (sym (settled_quiet s quiet) ∙ busy))
          | inr other ↦ other
        ]

    by : (b : Bool) → is_quiet (settled s) ≡ b → (if b then Yes else before) ≡ (if b then Yes else ready_of s)
    by true quiet = refl
    by false busy = first (was_busy busy)

-- rounds that ended early end settling early
pub settles_not : {B : Type 0} (shown : B → Shown) (old new : NetworkOf B) (before after : List Out) (e : ApplyError) (most : ℕ) → most ≡ most_settling (state_of shown old)
    → old.halted ≡ false → settle_refusal (state_of shown old) ≡ None → PlaysRounds most (state_of shown old) before after (Err e) new.halted (state_of shown new)
    → SettlesBy shown old before after (Err e) new
settles_not shown old new before after error.NoMemory most all on room cut =
    (on, room, subst (λ m. IsCutShort m (state_of shown old) before after new.halted (state_of shown new)) all cut)
settles_not shown old new before after (error.Refused reason) most all on room cut = absurd cut
settles_not shown old new before after error.Halted most all on room cut = absurd cut

-- and before the first none was made
pub none_made : (m : ℕ) (s : State) (before : List Out) (halted : Bool) → IsCutShort m s before before halted s
none_made m s before halted = record {
  begun = 0;
  told = 0;
  few = omega arith;
  within = omega arith;
  near = omega arith;
  outs = sym (append-nil before);
  state = λ on. refl;
}

-- What settling comes to, by the law of bounded settling; and what becomes of a round that isn't made.
use Rattle.std.proofs.Common.{◌≡◌, ℕ, ◌+◌, ◌≤◌, Bool, true, false, true≢false, not, List, ◌++◌, refl, sym, ap, subst, ◌∙◌, arith, Some, None, Ok, Err, inl, inr}
use Rattle.std.specs.Prelude.{if◌then◌else◌, ◌&&◌, nat_le}
use Rattle.std.proofs.lemmas.Bool.{cases_Bool}
use Rattle.bridge_api.specs.Shown.{Shown}
use Rattle.spb_world.specs.Reason.{reason_unless}
use Rattle.spb_world.specs.declared.reason.Reason.TheVariants.{TooMany}
use Rattle.network_model.specs.declared.answer.Out.{Out}
use Rattle.network_model.specs.State.{State}
use Rattle.network_model.specs.Questions.{is_quiet}
use Rattle.network_model.specs.Quiet.{failing, IsQuiet}
use Rattle.network_model.specs.Counted.{most_commands}
use Rattle.network_model.specs.Play.{played_all}
use Rattle.network_model.proofs.QuietLists.{nil_of, of_nil}
use Rattle.spb_types.specs.declared.limits.TheConstants.{MOST_ROUNDS}
use Rattle.spb_network.specs.declared.network.NetworkOf.{NetworkOf}
use Rattle.spb_network.specs.declared.apply_error.ApplyError.{ApplyError}
use Rattle.spb_network.specs.declared.apply_error.ApplyError.TheVariants as error
use Rattle.spb_network.specs.Network.{state_of}
use Rattle.spb_network.specs.Applying.{IsReady, IsSoundNetwork, Applies}
use Rattle.network_rounds.specs.Premises.{is_ready, has_no_customers, outlive, owns_outlive, has_few_ids}
use Rattle.network_rounds.specs.Settling.{most_settling, settling, settled, outs_of, settle_refusal}
use Rattle.network_rounds.specs.SettlingLaws.{SettlesInTime, NetworksSettle}
use Rattle.settle_laws.specs.declared.answers.Ready.{Ready}
use Rattle.settle_laws.specs.declared.answers.Ready.TheVariants.{Yes, Frame as FrameFails, Lifetime, OwnLifetime, Ids}
use Rattle.settle_laws.specs.declared.answers.Settled.{Settled}
use Rattle.settle_laws.specs.Premises.{ready_of, first_failing}
use Rattle.settle_laws.specs.Settling.{one_round, single_rounds, PlaysRound, PlaysRounds, IsSettled, left_of, EndsInTime, LeftTells}
use Rattle.settle_laws.proofs.SingleRounds.{one_accepted, left_is}

-- ---- no premise fails

by_premises : (a b c d : Bool) → (if not a then FrameFails else (if not b then Lifetime else (if not c then OwnLifetime else (if not d then Ids else Yes)))) ≡ Yes
    → (a && (b && (c && d))) ≡ true
by_premises true true true true is = refl
by_premises true true true false is = absurd cc
by_premises true true false d is = absurd cc
by_premises true false c d is = absurd cc
by_premises false b c d is = absurd cc

pub ready_is : (m : ℕ) (s : State) → first_failing m s ≡ Yes → is_ready m s ≡ true
unfolding is_ready
ready_is m s is = by_premises (has_no_customers s) (outlive m s) (owns_outlive m s) (has_few_ids s) is

-- ---- what is left

left_quiet : (s : State) → is_quiet (settled s) ≡ true → left_of s ≡ Yes
left_quiet s quiet = ap (λ b. if b then Yes else ready_of s) quiet

left_busy : (s : State) → is_quiet (settled s) ≡ false → left_of s ≡ ready_of s
left_busy s busy = ap (λ b. if b then Yes else ready_of s) busy

-- the network that settling leaves
sound_state : {B : Type 0} (shown : B → Shown) (n : NetworkOf B) → n.halted ≡ false → IsReady shown n → IsSoundNetwork shown n
sound_state shown n on (inl halted) = absurd (true≢false (sym halted ∙ on))
sound_state shown n on (inr sound) = sound

settles_in_time : {B : Type 0} (shown : B → Shown) (n : NetworkOf B) → NetworksSettle → n.halted ≡ false → IsReady shown n → (state_of shown n).accepted ≤ most_commands
    → SettlesInTime (state_of shown n)
settles_in_time shown n law on ready few =
    let sound = sound_state shown n on ready in
    law (state_of shown n) sound.state (sound.counted few) few

pub ends_in_time : {B : Type 0} (shown : B → Shown) (n : NetworkOf B) (before after : List Out) (answer : Settled) (t : State) → NetworksSettle → n.halted ≡ false → IsReady shown n
    → IsSettled (state_of shown n) before after answer t → EndsInTime (state_of shown n) answer t
ends_in_time shown n before after answer t law on ready by few none =
    let s = state_of shown n in
    let all = settles_in_time shown n law on ready few (ready_is (most_settling s) s none) in
    (by.left ∙ left_quiet s (of_nil (failing (settled s)) all.1), omega (arith, by.rounds, all.0), subst IsQuiet (sym by.state) all.1)

pub left_tells : {B : Type 0} (shown : B → Shown) (n : NetworkOf B) (before after : List Out) (answer : Settled) (t : State) → NetworksSettle → n.halted ≡ false → IsReady shown n
    → IsSettled (state_of shown n) before after answer t → LeftTells (state_of shown n) answer t
left_tells shown n before after answer t law on ready by few = (quiet, none)
  where
    settled_quiet : answer.left ≡ Yes → is_quiet (settled (state_of shown n)) ≡ true
    settled_quiet is =
        elim (cases_Bool (is_quiet (settled (state_of shown n)))) [
          | inl found ↦ found
          | inr busy ↦
              let s = state_of shown n in
              let left = sym (left_busy s busy) ∙ (sym by.left ∙ is) in
              of_nil (failing (settled s)) (settles_in_time shown n law on ready few (ready_is (most_settling s) s left)).1
        ]

    quiet : answer.left ≡ Yes → IsQuiet t
    quiet is = subst IsQuiet (sym by.state) (nil_of (failing (settled (state_of shown n))) (settled_quiet is))

    none : IsQuiet t → answer.left ≡ Yes
    none is = by.left ∙ left_quiet (state_of shown n) (of_nil (failing (settled (state_of shown n))) (subst IsQuiet by.state is))

-- ---- one round

-- a round that isn't made
pub round_fails : {B : Type 0} (shown : B → Shown) (old new : NetworkOf B) (outs : List Out) (e : ApplyError) → old.halted ≡ false
    → (state_of shown old).rounds + 1 ≤ MOST_ROUNDS → Applies shown old one_round (Err e) new
    → PlaysRound (state_of shown old) outs outs (Err e) new.halted (state_of shown new)
round_fails shown old new outs error.NoMemory on room by = (refl, λ still. absurd (true≢false (sym by.2 ∙ still)))
round_fails shown old new outs (error.Refused reason) on room by = absurd (some_none reason (sym by.1 ∙ one_accepted (state_of shown old) room))
  where
    some_none : {X : Type 0} (x : X) → Some x ≡ None → ⊥
    some_none x is = cc
round_fails shown old new outs error.Halted on room by = absurd (true≢false (sym by.0 ∙ on))

-- ---- settling

-- the rounds that it may make are too many, or not
pub is_refused : (s : State) (most : ℕ) (left : Bool) → most ≡ most_settling s → left ≡ nat_le (s.rounds + most) MOST_ROUNDS → left ≡ false → settle_refusal s ≡ Some TooMany
unfolding settle_refusal reason_unless
is_refused s most left all is fails =
    let past : nat_le (s.rounds + most_settling s) MOST_ROUNDS ≡ false = sym (is ∙ ap (λ n. nat_le (s.rounds + n) MOST_ROUNDS) all) ∙ fails in
    rw past refl

pub is_accepted : (s : State) (most : ℕ) (left : Bool) → most ≡ most_settling s → left ≡ nat_le (s.rounds + most) MOST_ROUNDS → left ≡ true → settle_refusal s ≡ None
unfolding settle_refusal reason_unless
is_accepted s most left all is holds =
    let within : nat_le (s.rounds + most_settling s) MOST_ROUNDS ≡ true = sym (is ∙ ap (λ n. nat_le (s.rounds + n) MOST_ROUNDS) all) ∙ holds in
    rw within refl

module _ {B : Type 0} (shown : B → Shown) (old new : NetworkOf B) (before after : List Out) where
  -- rounds until the network was quiet
  pub is_settled : (n : ℕ) (first left : Ready) → settle_refusal (state_of shown old) ≡ None
      → PlaysRounds (most_settling (state_of shown old)) (state_of shown old) before after (Ok n) new.halted (state_of shown new)
      → (is_quiet (state_of shown old) ≡ false → first ≡ ready_of (state_of shown old)) → left ≡ (if is_quiet (state_of shown new) then Yes else first)
      → IsSettled (state_of shown old) before after (record { rounds = n; left = left }) (state_of shown new)
  is_settled n first left room played found from =
      let s = state_of shown old in
      let state : state_of shown new ≡ settled s = played.1 ∙ ap (λ k. settled_by k) played.0 in
      record {
        accepted = room;
        rounds = played.0;
        left = left_is s (state_of shown new) first left state from found;
        outs = played.2 ∙ ap (λ k. before ++ outs_of s (single_rounds k)) played.0;
        state = state;
      }
    where
      settled_by : ℕ → State
      settled_by k = played_all (state_of shown old) (single_rounds k)

-- What it says that a bridge, rounds or deliveries aren't refused.
use Rattle.std.proofs.Common.{◌≡◌, ℕ, ◌+◌, ◌≤◌, ◌&&◌, List, None, nat_le}
use Rattle.spb_types.specs.declared.limits.TheConstants.{MOST_ROUNDS}
use Rattle.spb_types.specs.declared.address.Mac.{Mac}
use Rattle.spb_types.specs.declared.service.SourceId.{SourceId}
use Rattle.spb_world.specs.Declaring.{bridge_refusal}
use Rattle.network_model.specs.Refusing.{declared_refusal, round_refusal, drain_refusal}
use Rattle.network_model.specs.State.{State}
use Rattle.spb_world.proofs.ListLemmas.{and-right}
use Rattle.spb_world.proofs.RefusalLemmas.{reason_unless-none, or-first, or-second, le-true}

-- a bridge for which there is a box
pub declared_refusal_none : (s : State) (name : List ℕ) (priority : ℕ) (system : Mac) (source : SourceId) (ports : ℕ) → declared_refusal s name priority system source ports ≡ None → bridge_refusal s.world name priority system source ports ≡ None
unfolding declared_refusal
declared_refusal_none s name priority system source ports h = or-first _ _ h

-- what the tests of a number of rounds, and of deliveries, say
pub round_refusal_none : (s : State) (n : ℕ) → round_refusal s n ≡ None → (n ≤ MOST_ROUNDS) × (s.rounds + n ≤ MOST_ROUNDS)
unfolding round_refusal
round_refusal_none s n h = (
  le-true n MOST_ROUNDS (and-right _ _ (reason_unless-none (nat_le 1 n && nat_le n MOST_ROUNDS) _ (or-first _ _ h))),
  le-true (s.rounds + n) MOST_ROUNDS (reason_unless-none (nat_le (s.rounds + n) MOST_ROUNDS) _ (or-second _ _ h)),
)

pub drain_refusal_none : (s : State) (n : ℕ) → drain_refusal s n ≡ None → (n ≤ 1000000) × (s.drained + n ≤ 100000000)
unfolding drain_refusal
drain_refusal_none s n h = (
  le-true n 1000000 (and-right _ _ (reason_unless-none (nat_le 1 n && nat_le n 1000000) _ (or-first _ _ h))),
  le-true (s.drained + n) 100000000 (reason_unless-none (nat_le (s.drained + n) 100000000) _ (or-second _ _ h)),
)

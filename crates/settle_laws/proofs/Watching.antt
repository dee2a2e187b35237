-- How deliveries of rounds are noted, one round after another.
use Rattle.std.proofs.Common.{◌≡◌, ℕ, zero, suc, ◌+◌, Bool, true, false, List, [], ◌∷◌, ◌++◌, append-nil, append_assoc, length, refl, sym, ap, subst, ◌∙◌, arith, Option, Some, None}
use Rattle.std.specs.Prelude.{if◌then◌else◌}
use Rattle.std.specs.List.{AllByRecursion}
use Rattle.std.proofs.lemmas.Option.{same_Some}
use Rattle.network_model.specs.declared.delivered.Delivered.{Delivered}
use Rattle.network_model.specs.State.{State}
use Rattle.network_model.specs.Play.{next_state, played_all}
use Rattle.network_model.specs.Captured.{seen_of, captured}
use Rattle.network_model.specs.Brief.{IsBrief}
use Rattle.settle_laws.specs.Settling.{one_round, single_rounds, with_seen, Notes}
use Rattle.settle_laws.proofs.SingleRounds.{suc-is}

-- ---- what is kept

pub watched_items : (watched : Bool) (items ds : List Delivered) → (if watched then Some items else None) ≡ Some ds → items ≡ ds
watched_items true items ds is = same_Some items ds is
watched_items false items ds is = absurd cc

pub none_there : {X : Type 0} (xs : List X) → length xs ≡ 0 → xs ≡ []
none_there [] none = refl
none_there (x ∷ xs) none = absurd (omega (arith, none))

-- ---- more deliveries

with_none : (before : Option (List Delivered)) → before ≡ with_seen before []
with_none None = refl
with_none (Some ds) = ap Some (sym (append-nil ds))

with_more : (before : Option (List Delivered)) (ds es : List Delivered) → with_seen (with_seen before ds) es ≡ with_seen before (ds ++ es)
with_more None ds es = refl
with_more (Some l) ds es = ap Some (append_assoc l ds es)

all_both : {X : Type 0} (P : X → Type 0) (xs ys : List X) → AllByRecursion P xs → AllByRecursion P ys → AllByRecursion P (xs ++ ys)
all_both P [] ys here there = there
all_both P (x ∷ xs) ys here there = (here.0, all_both P xs ys here.1 there)

-- some deliveries stay watched
still_watched : (before after : Option (List Delivered)) (ds watched : List Delivered) → after ≡ with_seen before ds → before ≡ Some watched → after ≡ Some (watched ++ ds)
still_watched before after ds watched is on = is ∙ ap (λ o. with_seen o ds) on

-- ---- rounds

-- one more
captured_more : (k : ℕ) (s : State) → captured s (single_rounds (suc k)) ≡ captured s (single_rounds k) ++ seen_of (played_all s (single_rounds k)) one_round
captured_more zero s = append-nil (seen_of s one_round)
captured_more (suc k) s =
    ap (λ l. seen_of s one_round ++ l) (captured_more k (next_state s one_round))
    ∙ sym (append_assoc (seen_of s one_round) (captured (next_state s one_round) (single_rounds k)) (seen_of (played_all (next_state s one_round) (single_rounds k)) one_round))

captured_next : (s t : State) (k : ℕ) → t ≡ played_all s (single_rounds k) → captured s (single_rounds k) ++ seen_of t one_round ≡ captured s (single_rounds (k + 1))
captured_next s t k is =
    ap (λ (x : State). captured s (single_rounds k) ++ seen_of x one_round) is ∙ (sym (captured_more k s) ∙ ap (λ n. captured s (single_rounds n)) (suc-is k))

-- no deliveries of no rounds
pub notes_none : (s : State) (before : Option (List Delivered)) → Notes (captured s (single_rounds 0)) before before
notes_none s before = record { seen = with_none before; brief = λ watched on. tt }

pub notes_more : (s t : State) (k : ℕ) (before now after : Option (List Delivered)) → t ≡ played_all s (single_rounds k) → Notes (captured s (single_rounds k)) before now
    → Notes (seen_of t one_round) now after → Notes (captured s (single_rounds (k + 1))) before after
notes_more s t k before now after is far round =
    let next = captured_next s t k is in
    record {
      seen = round.seen ∙ (ap (λ o. with_seen o (seen_of t one_round)) far.seen ∙ (with_more before (captured s (single_rounds k)) (seen_of t one_round) ∙ ap (with_seen before) next));
      brief =
          λ watched on.
          subst (AllByRecursion IsBrief) next (all_both IsBrief (captured s (single_rounds k)) (seen_of t one_round) (far.brief watched on) (round.brief (watched ++ captured s (single_rounds k)) (still_watched before now (captured s (single_rounds k)) watched far.seen on)));
    }

-- What a round leaves as it was: all but the bridges, the lanes and the counts of seconds, each of which goes up by one.
use Rattle.std.proofs.Common.{◌≡◌, ℕ, zero, suc, ◌+◌, List, [], ◌∷◌, length, map, refl, sym, ap, ◌∙◌, Option, Some, None, slice_get, arith}
use Rattle.std.specs.Option.{option_map_or}
use Rattle.spb_types.specs.Places.{changed_at}
use Rattle.bridge_api.specs.View.{BridgeView}
use Rattle.bridge_api.specs.Step.{second, step, sent, left_by}
use Rattle.network_model.specs.declared.answer.Out.{Out}
use Rattle.network_model.specs.State.{State}
use Rattle.network_model.specs.Events.{sent_all, left_all, stepped, next_tick, ticked, ticked_from, one_round}
use Rattle.network_model.specs.Sound.{IsSoundState}
use Rattle.network_model.proofs.SentLanes.{stepped_rest, stepped_outs}
use Rattle.network_rounds.specs.Rounds.{HasNoCustomers}
use Rattle.network_rounds.proofs.Heard.{served_rest}
use Rattle.network_rounds.proofs.Silent.{left_none}

-- ---- a tick

outs_stay : (s : State) (i : ℕ) → (stepped second s i).outs ≡ s.outs
unfolding stepped
outs_stay s i = by (slice_get s.views i) refl
  where
    next : State
    next = record s { views = changed_at (step second) s.views i }

    by : (o : Option BridgeView) → slice_get s.views i ≡ o → (stepped second s i).outs ≡ s.outs
    by None at =
        ap (λ (o : Option BridgeView). (left_all (sent_all next i (option_map_or (sent second) o [])) i (option_map_or (left_by second) o [])).outs) at
        ∙ ap (λ (t : State). t.outs) (left_none next i)
    by (Some v) at = stepped_outs second s i v at ∙ ap (λ (t : State). t.outs) (left_none s i)

tick_rest : (s : State) (i : ℕ) → ticked s i ≡ record s { views = (ticked s i).views; lanes = (ticked s i).lanes; ticks = changed_at next_tick s.ticks i }
tick_rest s i =
    let u : State = stepped second s i in
    ap (λ (x : State). record x { ticks = changed_at next_tick x.ticks i }) (stepped_rest second s i)
    ∙ ap (λ (outs : List Out). record s { views = u.views; lanes = u.lanes; outs = outs; ticks = changed_at next_tick s.ticks i }) (outs_stay s i)

-- ---- all tick

-- the counts from a place on go up
abbrev counted_from : ℕ → ℕ → List ℕ → List ℕ
counted_from zero i ticks = ticks
counted_from (suc n) i ticks = counted_from n (i + 1) (changed_at next_tick ticks i)

ticks_rest : (n i : ℕ) (s : State) → ticked_from n i s ≡ record s { views = (ticked_from n i s).views; lanes = (ticked_from n i s).lanes; ticks = counted_from n i s.ticks }
ticks_rest zero i s = refl
ticks_rest (suc n) i s =
    let t : State = ticked_from n (i + 1) (ticked s i) in
    ticks_rest n (i + 1) (ticked s i)
    ∙ ap (λ (x : State). record x { views = t.views; lanes = t.lanes; ticks = counted_from n (i + 1) x.ticks }) (tick_rest s i)

counted_behind : (n i x : ℕ) (ticks : List ℕ) → counted_from n (suc i) (x ∷ ticks) ≡ x ∷ counted_from n i ticks
counted_behind zero i x ticks = refl
counted_behind (suc n) i x ticks =
    let next : suc i + 1 ≡ suc (i + 1) = omega arith in
    ap (λ (j : ℕ). counted_from n j (x ∷ changed_at next_tick ticks i)) next ∙ counted_behind n (i + 1) x (changed_at next_tick ticks i)

all_counted : (n : ℕ) (ticks : List ℕ) → n ≡ length ticks → counted_from n 0 ticks ≡ map next_tick ticks
all_counted zero [] many = refl
all_counted zero (x ∷ ticks) many = absurd (omega (arith, many))
all_counted (suc n) [] many = absurd (omega (arith, many))
all_counted (suc n) (x ∷ ticks) many = counted_behind n 0 (next_tick x) ticks ∙ ap (λ (more : List ℕ). next_tick x ∷ more) (all_counted n ticks (omega (arith, many)))

-- ---- a round

pub round_rest : (s : State) → IsSoundState s → HasNoCustomers s.lanes → length s.ticks ≡ length s.views
    → one_round s ≡ record s { views = (one_round s).views; lanes = (one_round s).lanes; ticks = map next_tick s.ticks }
round_rest s sound plain counted =
    let t : State = one_round s in
    served_rest s sound plain
    ∙ (ap (λ (x : State). record x { views = t.views; lanes = t.lanes }) (ticks_rest (length s.views) 0 s)
    ∙ ap (λ (ticks : List ℕ). record s { views = t.views; lanes = t.lanes; ticks = ticks }) (all_counted (length s.views) s.ticks (sym counted)))

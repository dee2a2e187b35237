-- A step of a bridge that sends and lets out nothing changes this bridge alone.
use Rattle.std.proofs.Common.{◌≡◌, ℕ, List, [], ◌++◌, refl, ap, ◌∙◌, Option, Some, None, slice_get}
use Rattle.std.specs.Option.{option_map_or}
use Rattle.link_model.specs.Lane.{Frame}
use Rattle.spb_types.specs.Places.{changed_at}
use Rattle.bridge_api.specs.View.{BridgeView}
use Rattle.bridge_api.specs.Step.{Input, step, sent, left_by}
use Rattle.network_model.specs.declared.answer.Out.{Out}
use Rattle.network_model.specs.State.{State}
use Rattle.network_model.specs.Events.{sent_all, outs_at, left_all, stepped}
use Rattle.spb_world.specs.World.{names_of}
use Rattle.spb_world.proofs.BoxLemmas.{append-none}

outs_none : (o : Option (List ℕ)) → outs_at o [] ≡ []
outs_none None = refl
outs_none (Some name) = refl

pub left_none : (s : State) (i : ℕ) → left_all s i [] ≡ s
left_none s i = ap (λ (outs : List Out). record s { outs = outs }) (ap (λ (outs : List Out). s.outs ++ outs) (outs_none (slice_get (names_of s.world.bridges) i)) ∙ append-none s.outs)

none_given : (f : BridgeView → List (ℕ × Frame)) (o : Option BridgeView) → ((v : BridgeView) → f v ≡ []) → option_map_or f o [] ≡ []
none_given f None none = refl
none_given f (Some v) none = none v

pub silent_step : (x : Input) (s : State) (i : ℕ) → ((v : BridgeView) → sent x v ≡ []) → ((v : BridgeView) → left_by x v ≡ []) → stepped x s i ≡ record s { views = changed_at (step x) s.views i }
unfolding stepped
silent_step x s i none nobody =
    let o : Option BridgeView = slice_get s.views i in
    let t : State = record s { views = changed_at (step x) s.views i } in
    (λ j. left_all (sent_all t i (none_given (sent x) o none j)) i (none_given (left_by x) o nobody j)) ∙ left_none t i

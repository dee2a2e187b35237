-- Deliveries, in any order, and questions: the frame stays under way.
use Rattle.std.proofs.Common.{◌≡◌, ℕ, zero, suc, Bool, true, List, [], ◌∷◌, ◌++◌, append_assoc, append-nil, refl, sym, ap, ◌∙◌, subst, Option, Some, None, slice_get}
use Rattle.std.specs.List.{AllByRecursion}
use Rattle.std.proofs.lemmas.Bool.{false≢true}
use Rattle.scenario.specs.declared.command.Command.{Command}
use Rattle.scenario.specs.declared.command.Command.TheVariants as command
use Rattle.link_model.specs.Lane.{Frame}
use Rattle.link_model.specs.Lanes.{first_full_from, lane_of}
use Rattle.link_model.specs.declared.lanes.LinkLanes.{LinkLanes}
use Rattle.link_model.specs.declared.lanes.LaneId.{LaneId}
use Rattle.spb_types.specs.declared.link.Dir.{Dir}
use Rattle.bridge_api.specs.View.{BridgeView}
use Rattle.network_model.specs.declared.answer.Out.{Out}
use Rattle.network_model.specs.State.{State, lane_at}
use Rattle.network_model.specs.Events.{delivered_front, delivered, delivered_over, delivered_first, drained}
use Rattle.network_model.specs.Refusing.{refusal_of}
use Rattle.network_model.specs.Play.{accepted_once, with_drain, played, next_state, played_all, answer_of}
use Rattle.network_model.specs.Sound.{IsSoundState}
use Rattle.network_model.specs.SoundLaws.{AreAccepted}
use Rattle.network_model.specs.Isolation.{outs_in}
use Rattle.network_model.specs.Once.{is_onward, outs_of}
use Rattle.network_model.specs.UnderWay.{Journey, IsUnderWay}
use Rattle.network_model.proofs.ApartPlay.{asked_silent}
use Rattle.network_model.proofs.DeliveryLemmas.{deliver_delivers}
use Rattle.network_model.proofs.SoundEvents.{Sound-delivered_first}
use Rattle.network_model.proofs.SoundPlay.{commands_keep_sound}
use Rattle.network_model.proofs.OnceStep.{IsJourney, with_served, served_next, goes_on}

-- some bridges have served the frame, and so it is under way
pub record IsOnTheWay (start : State) (j : Journey) (s : State) (outs : List Out) : Type 0 where
  pub served : ℕ → Bool
  pub under : IsUnderWay start j served s outs

-- nothing but bridges, lanes and what is declared matters
pub same_way : (start : State) (j : Journey) (s t : State) (outs : List Out) → t.world ≡ s.world → t.views ≡ s.views → t.lanes ≡ s.lanes → IsOnTheWay start j s outs → IsOnTheWay start j t outs
same_way start j s t outs world views lanes way = record {
  served = way.served;
  under = record {
    world = world ∙ way.under.world;
    views = λ i v at. way.under.views i v (ap (λ (vs : List BridgeView). slice_get vs i) (sym views) ∙ at);
    lanes = λ k dir l there. ap (λ (ls : List LinkLanes). lane_of ls k dir) lanes ∙ way.under.lanes k dir l there;
    first = way.under.first;
    order = way.under.order;
    joined = way.under.joined;
    right = way.under.right;
    once = way.under.once;
    none = way.under.none;
  };
}

module _ (start : State) (j : Journey) (is : IsJourney start j) where
  -- ---- deliveries

  nothing_delivered : (s : State) (k : ℕ) (dir : Dir) → lane_at s k dir ≡ [] → delivered s k dir ≡ s
  unfolding delivered
  nothing_delivered s k dir empty = ap (λ (lane : List Frame). delivered_front s k dir (slice_get lane 0)) empty

  delivered_from : (s : State) (before : List Out) (k : ℕ) (dir : Dir) (lane : List Frame) → lane_at s k dir ≡ lane → IsSoundState s → IsOnTheWay start j s (before ++ s.outs) → IsOnTheWay start j (delivered s k dir) (before ++ (delivered s k dir).outs)
  delivered_from s before k dir [] front sound way = subst (λ (t : State). IsOnTheWay start j t (before ++ t.outs)) (sym (nothing_delivered s k dir front)) way
  delivered_from s before k dir (bytes ∷ behind) front sound way =
      let next = goes_on start j is s before way.served way.under sound k dir bytes behind front in
      record { served = next.0; under = next.1 }

  over_delivered : (s : State) (before : List Out) (lane : Option LaneId) → IsSoundState s → IsOnTheWay start j s (before ++ s.outs) → IsOnTheWay start j (delivered_over s lane) (before ++ (delivered_over s lane).outs)
  over_delivered s before None sound way = way
  over_delivered s before (Some lane) sound way = delivered_from s before lane.link lane.dir (lane_at s lane.link lane.dir) refl sound way

  first_delivered : (s : State) (before : List Out) → IsSoundState s → IsOnTheWay start j s (before ++ s.outs) → IsOnTheWay start j (delivered_first s) (before ++ (delivered_first s).outs)
  unfolding delivered_first
  first_delivered s before sound way = over_delivered s before (first_full_from 0 s.lanes) sound way

  all_drained : (n : ℕ) (s : State) (before : List Out) → IsSoundState s → IsOnTheWay start j s (before ++ s.outs) → IsOnTheWay start j (drained n s) (before ++ (drained n s).outs)
  all_drained zero s before sound way = way
  all_drained (suc n) s before sound way = all_drained n (delivered_first s) before (Sound-delivered_first s sound) (first_delivered s before sound way)

  -- ---- a command

  -- what it makes, and what it answers
  abbrev StaysOnTheWay : State → List Out → Command → Type 0
  StaysOnTheWay s before c = IsOnTheWay start j (next_state s c) (before ++ outs_in (answer_of s c))

  deliver_stays : (s : State) (before : List Out) (name : List ℕ) (dir : Dir) → IsSoundState s → refusal_of s (command.Deliver name dir) ≡ None → IsOnTheWay start j s (before ++ s.outs) → StaysOnTheWay s before (command.Deliver name dir)
  unfolding next_state
  deliver_stays s before name dir sound none way =
      let of = deliver_delivers s name dir sound none in
      let t : State = played s (command.Deliver name dir) in
      same_way start j t (accepted_once t) (before ++ t.outs) refl refl refl
      (record { served = with_served way.served _; under = served_next start j is way.served s before way.under sound of.place dir of.bytes of.behind t of.delivery })

  drain_stays : (s : State) (before : List Out) (n : ℕ) → IsSoundState s → IsOnTheWay start j s (before ++ s.outs) → StaysOnTheWay s before (command.Drain n)
  unfolding next_state with_drain
  drain_stays s before n sound way =
      same_way start j (drained n s) (accepted_once (with_drain n s)) (before ++ (drained n s).outs) refl refl refl (all_drained n s before sound way)

  question_stays : (s : State) (before : List Out) (c : Command) → played s c ≡ s → outs_in (answer_of s c) ≡ [] → s.outs ≡ [] → IsOnTheWay start j s (before ++ s.outs) → StaysOnTheWay s before c
  unfolding next_state
  question_stays s before c same silent none way =
      subst (λ (t : State). IsOnTheWay start j (accepted_once t) (before ++ outs_in (answer_of s c))) (sym same)
      (same_way start j s (accepted_once s) (before ++ outs_in (answer_of s c)) refl refl refl
      (subst (λ (outs : List Out). IsOnTheWay start j s (before ++ outs)) (none ∙ sym silent) way))

  command_stays : (s : State) (before : List Out) (c : Command) → is_onward c ≡ true → IsSoundState s → s.outs ≡ [] → refusal_of s c ≡ None → IsOnTheWay start j s (before ++ s.outs) → StaysOnTheWay s before c
  command_stays s before (command.Deliver name dir) on sound none accepted way = deliver_stays s before name dir sound accepted way
  command_stays s before (command.Drain n) on sound none accepted way = drain_stays s before n sound way
  command_stays s before command.State on sound none accepted way = question_stays s before command.State refl (asked_silent s command.State) none way
  command_stays s before (command.Show name) on sound none accepted way = question_stays s before (command.Show name) refl (asked_silent s (command.Show name)) none way
  command_stays s before (command.Wiring name) on sound none accepted way = question_stays s before (command.Wiring name) refl (asked_silent s (command.Wiring name)) none way
  command_stays s before (command.Db name) on sound none accepted way = question_stays s before (command.Db name) refl (asked_silent s (command.Db name)) none way
  command_stays s before (command.Adj name) on sound none accepted way = question_stays s before (command.Adj name) refl (asked_silent s (command.Adj name)) none way
  command_stays s before (command.Drops name) on sound none accepted way = question_stays s before (command.Drops name) refl (asked_silent s (command.Drops name)) none way
  command_stays s before (command.Path from to vid) on sound none accepted way = question_stays s before (command.Path from to vid) refl (asked_silent s (command.Path from to vid)) none way
  command_stays s before (command.Vid vid ect) on sound none accepted way = absurd (false≢true on)
  command_stays s before (command.Bridge name priority system source ports) on sound none accepted way = absurd (false≢true on)
  command_stays s before (command.Link name a port_a b port_b cost) on sound none accepted way = absurd (false≢true on)
  command_stays s before (command.Isid isid vid) on sound none accepted way = absurd (false≢true on)
  command_stays s before (command.Attach name port isid mode) on sound none accepted way = absurd (false≢true on)
  command_stays s before (command.Detach name port) on sound none accepted way = absurd (false≢true on)
  command_stays s before (command.Metric name side m) on sound none accepted way = absurd (false≢true on)
  command_stays s before (command.Down name) on sound none accepted way = absurd (false≢true on)
  command_stays s before (command.Up name) on sound none accepted way = absurd (false≢true on)
  command_stays s before (command.Restart name) on sound none accepted way = absurd (false≢true on)
  command_stays s before (command.Tick name) on sound none accepted way = absurd (false≢true on)
  command_stays s before (command.Lose name dir place) on sound none accepted way = absurd (false≢true on)
  command_stays s before (command.Double name dir place) on sound none accepted way = absurd (false≢true on)
  command_stays s before (command.Frame name port bytes) on sound none accepted way = absurd (false≢true on)
  command_stays s before (command.Round n) on sound none accepted way = absurd (false≢true on)

  nothing_left : (s : State) (c : Command) → (next_state s c).outs ≡ []
  unfolding next_state
  nothing_left s c = refl

  -- ---- commands

  pub commands_stay : (cs : List Command) (s : State) (before : List Out) → AllByRecursion (λ c. is_onward c ≡ true) cs → AreAccepted s cs → IsSoundState s → s.outs ≡ [] → IsOnTheWay start j s (before ++ s.outs)
      → IsOnTheWay start j (played_all s cs) (before ++ outs_of s cs)
  commands_stay [] s before on accepted sound none way = subst (λ (outs : List Out). IsOnTheWay start j s (before ++ outs)) none way
  commands_stay (c ∷ cs) s before on accepted sound none way =
      let t : State = next_state s c in
      let left : List Out = outs_in (answer_of s c) in
      let next : IsOnTheWay start j t (before ++ left) = command_stays s before c on.0 sound none accepted.0 way in
      let sound_t : IsSoundState t = commands_keep_sound s c sound accepted.0 in
      let again : IsOnTheWay start j t ((before ++ left) ++ t.outs) = subst (λ (outs : List Out). IsOnTheWay start j t outs) (sym (append-nil (before ++ left)) ∙ ap (λ (outs : List Out). (before ++ left) ++ outs) (sym (nothing_left s c))) next in
      subst (λ (outs : List Out). IsOnTheWay start j (played_all t cs) outs) (append_assoc before left (outs_of t cs))
      (commands_stay cs t (before ++ left) on.1 accepted.1 sound_t (nothing_left s c) again)

-- What a network keeps of the conditions of quiet stays so.
use Rattle.std.proofs.Common.{Result, Ok, Err, IfOk, OnOk, ◌≡◌, ◌≤◌, ℕ, true, false, if◌then◌else◌, None, Some, refl, sym, subst, ap, ◌∙◌, true≢false}
use Rattle.std.proofs.lemmas.Option.{same_Some}
use Rattle.scenario.specs.declared.command.Command.{Command}
use Rattle.scenario.specs.declared.command.Command.TheVariants as command
use Rattle.network_model.specs.declared.conditions.Conditions.{Conditions}
use Rattle.network_model.specs.State.{State}
use Rattle.network_model.specs.declared.answer.Answer.TheVariants.{Silent, Outs}
use Rattle.network_model.specs.Play.{played, is_event, answer_to_asked, answer_of}
use Rattle.network_model.specs.Questions.{is_question}
use Rattle.network_model.specs.Quiet.{holds_q1, holds_q2, holds_q3, failing}
use Rattle.network_model.specs.Quieting.{conditions_of, numbers_of}
use Rattle.network_model.specs.Counted.{IsCounted, most_commands}
use Rattle.network_model.specs.Sound.{IsSoundState}
use Rattle.bridge_api.specs.Shown.{Shown}
use Rattle.spb_network.specs.declared.network.NetworkOf.{NetworkOf}
use Rattle.spb_network.specs.Network.{state_of, AreConfigured}
use Rattle.spb_network.specs.Applying.{IsSoundNetwork}

-- the count of commands has no part in the conditions
pub counted_conditions : (s : State) (n : ℕ) → conditions_of (record s { accepted = n }) ≡ conditions_of s
unfolding holds_q1 holds_q2 holds_q3
counted_conditions s n = refl

-- the conditions one by one
pub conditions_found : (s : State) (c : Conditions) → c.links ≡ holds_q1 s → c.lanes ≡ holds_q2 s → c.flags ≡ holds_q3 s → c ≡ conditions_of s
conditions_found s c q1 q2 q3 = λ i. record { links = q1 i; lanes = q2 i; flags = q3 i }

pub failing_is : (s : State) → numbers_of (conditions_of s) ≡ failing s
unfolding failing
failing_is s = refl

-- to a question what it asks is answered
pub asked_answer : (s : State) (c : Command) → is_question c ≡ true → answer_of s c ≡ answer_to_asked s c
asked_answer s command.State h = refl
asked_answer s (command.Show name) h = refl
asked_answer s (command.Wiring name) h = refl
asked_answer s (command.Db name) h = refl
asked_answer s (command.Adj name) h = refl
asked_answer s (command.Drops name) h = refl
asked_answer s (command.Vid vid ect) h = absurd (true≢false (sym h))
asked_answer s (command.Bridge name priority system source ports) h = absurd (true≢false (sym h))
asked_answer s (command.Link name a port_a b port_b cost) h = absurd (true≢false (sym h))
asked_answer s (command.Isid isid vid) h = absurd (true≢false (sym h))
asked_answer s (command.Attach name port isid mode) h = absurd (true≢false (sym h))
asked_answer s (command.Detach name port) h = absurd (true≢false (sym h))
asked_answer s (command.Metric name side m) h = absurd (true≢false (sym h))
asked_answer s (command.Down name) h = absurd (true≢false (sym h))
asked_answer s (command.Up name) h = absurd (true≢false (sym h))
asked_answer s (command.Restart name) h = absurd (true≢false (sym h))
asked_answer s (command.Tick name) h = absurd (true≢false (sym h))
asked_answer s (command.Deliver name dir) h = absurd (true≢false (sym h))
asked_answer s (command.Lose name dir place) h = absurd (true≢false (sym h))
asked_answer s (command.Double name dir place) h = absurd (true≢false (sym h))
asked_answer s (command.Round n) h = absurd (true≢false (sym h))
asked_answer s (command.Drain n) h = absurd (true≢false (sym h))
asked_answer s (command.Frame name port bytes) h = absurd (true≢false (sym h))
asked_answer s (command.Path from to vid) h = refl

-- and what left to an event
pub event_answers : (s : State) (c : Command) → is_question c ≡ false → answer_of s c ≡ (if is_event c then Outs (played s c).outs else Silent)
event_answers s command.State h = absurd (true≢false h)
event_answers s (command.Show name) h = absurd (true≢false h)
event_answers s (command.Wiring name) h = absurd (true≢false h)
event_answers s (command.Db name) h = absurd (true≢false h)
event_answers s (command.Adj name) h = absurd (true≢false h)
event_answers s (command.Drops name) h = absurd (true≢false h)
event_answers s (command.Vid vid ect) h = refl
event_answers s (command.Bridge name priority system source ports) h = refl
event_answers s (command.Link name a port_a b port_b cost) h = refl
event_answers s (command.Isid isid vid) h = refl
event_answers s (command.Attach name port isid mode) h = refl
event_answers s (command.Detach name port) h = refl
event_answers s (command.Metric name side m) h = refl
event_answers s (command.Down name) h = refl
event_answers s (command.Up name) h = refl
event_answers s (command.Restart name) h = refl
event_answers s (command.Tick name) h = refl
event_answers s (command.Deliver name dir) h = refl
event_answers s (command.Lose name dir place) h = refl
event_answers s (command.Double name dir place) h = refl
event_answers s (command.Round n) h = refl
event_answers s (command.Drain n) h = refl
event_answers s (command.Frame name port bytes) h = refl
event_answers s (command.Path from to vid) h = absurd (true≢false h)

-- a question changes nothing
pub question_plays : (s : State) (c : Command) → is_question c ≡ true → played s c ≡ s
question_plays s command.State h = refl
question_plays s (command.Show name) h = refl
question_plays s (command.Wiring name) h = refl
question_plays s (command.Db name) h = refl
question_plays s (command.Adj name) h = refl
question_plays s (command.Drops name) h = refl
question_plays s (command.Vid vid ect) h = absurd (true≢false (sym h))
question_plays s (command.Bridge name priority system source ports) h = absurd (true≢false (sym h))
question_plays s (command.Link name a port_a b port_b cost) h = absurd (true≢false (sym h))
question_plays s (command.Isid isid vid) h = absurd (true≢false (sym h))
question_plays s (command.Attach name port isid mode) h = absurd (true≢false (sym h))
question_plays s (command.Detach name port) h = absurd (true≢false (sym h))
question_plays s (command.Metric name side m) h = absurd (true≢false (sym h))
question_plays s (command.Down name) h = absurd (true≢false (sym h))
question_plays s (command.Up name) h = absurd (true≢false (sym h))
question_plays s (command.Restart name) h = absurd (true≢false (sym h))
question_plays s (command.Tick name) h = absurd (true≢false (sym h))
question_plays s (command.Deliver name dir) h = absurd (true≢false (sym h))
question_plays s (command.Lose name dir place) h = absurd (true≢false (sym h))
question_plays s (command.Double name dir place) h = absurd (true≢false (sym h))
question_plays s (command.Round n) h = absurd (true≢false (sym h))
question_plays s (command.Drain n) h = absurd (true≢false (sym h))
question_plays s (command.Frame name port bytes) h = absurd (true≢false (sym h))
question_plays s (command.Path from to vid) h = refl

-- what follows from a result follows where it is Ok
pub if_ok : {T E : Type 0} {P Q : T → Type 0} (r : Result T E) → ((x : T) → P x → Q x) → IfOk r P → IfOk r Q
if_ok (Ok x) f p = f x p
if_ok (Err e) f p = p

-- what holds anyway holds where a result is Ok
pub on_ok : {T E P : Type 0} (r : Result T E) → P → OnOk r P
on_ok (Ok x) p = p
on_ok (Err e) p = tt

-- where nothing is kept, what is kept is so
pub none_kept : (s : State) (kept : Conditions) → None ≡ Some kept → kept ≡ conditions_of s
none_kept s kept is = cc

pub found_kept : (s : State) (found : Conditions) → found ≡ conditions_of s → (kept : Conditions) → Some found ≡ Some kept → kept ≡ conditions_of s
found_kept s found so kept is = sym (same_Some found kept is) ∙ so

-- a network of which nothing is seen to change stays sound
pub sound_still : {B : Type 0} (shown : B → Shown) (old new : NetworkOf B) → state_of shown new ≡ state_of shown old → AreConfigured shown new.boxes.items → new.conditions ≡ old.conditions → IsSoundNetwork shown old → IsSoundNetwork shown new
sound_still shown old new same made kept sound = record {
  made = made;
  state = subst IsSoundState (sym same) sound.state;
  counted = subst (λ (s : State). s.accepted ≤ most_commands → IsCounted s) (sym same) sound.counted;
  outs = ap (λ (s : State). s.outs) same ∙ sound.outs;
  kept = λ c is. sound.kept c (sym kept ∙ is) ∙ ap conditions_of (sym same);
}

-- What many events deliver, one after another, and how it is noted; and how seconds are counted.
use Rattle.std.proofs.Common.{◌≡◌, ℕ, zero, suc, ◌+◌, ◌-◌, ◌<◌, ◌≤◌, Bool, true, false, true≢false, List, [], ◌∷◌, ◌++◌, length, slice_index_or, slice_set, Option, Some, None, refl, sym, ap, ◌∙◌, arith}
use Rattle.std.specs.Prelude.{if◌then◌else◌}
use Rattle.std.proofs.lemmas.List.{append_assoc}
use Rattle.std.proofs.lemmas.Option.{same_Some}
use Rattle.spb_types.specs.Places.{changed_at}
use Rattle.spb_types.specs.declared.link.Dir.{Dir}
use Rattle.scenario.specs.declared.command.Command.{Command}
use Rattle.scenario.specs.declared.command.Command.TheVariants as command
use Rattle.link_model.specs.declared.lanes.LaneId.{LaneId}
use Rattle.link_model.specs.Lanes.{first_full_from}
use Rattle.network_model.specs.declared.delivered.Delivered.{Delivered}
use Rattle.network_model.specs.State.{State}
use Rattle.network_model.specs.Events.{delivered, link_served, delivered_first, delivered_over}
use Rattle.network_model.specs.Questions.{is_question}
use Rattle.network_model.specs.Captured.{seen_at, seen_times, seen_link, seen_from, seen_over_lane, seen_first, seen_drained, seen_of}
use Rattle.spb_world.proofs.BoxLemmas.{append-none}
use Rattle.spb_network.specs.Watching.{with_one, noted}

-- ---- what is noted

pub noted-more : (before : Option (List Delivered)) (ds es : List Delivered) → noted before (ds ++ es) ≡ noted (noted before ds) es
noted-more before [] es = refl
noted-more before (d ∷ ds) es = noted-more (with_one before d) ds es

-- what is noted of an event, and then of those after it, is noted of all
pub noted-on : (before now : Option (List Delivered)) (first rest all : List Delivered) → now ≡ noted before first → all ≡ first ++ rest → noted now rest ≡ noted before all
noted-on before now first rest all is whole = ap (λ o. noted o rest) is ∙ (sym (noted-more before first rest) ∙ ap (noted before) (sym whole))

-- where deliveries are watched, they are noted
pub noted-watched : (before ds : List Delivered) → noted (Some before) ds ≡ Some (before ++ ds)
noted-watched before [] = ap Some (sym (append-none before))
noted-watched before (d ∷ ds) = noted-watched (before ++ d ∷ []) ds ∙ ap Some (append_assoc before (d ∷ []) ds)

pub noted-unwatched : (ds : List Delivered) → noted None ds ≡ None
noted-unwatched [] = refl
noted-unwatched (d ∷ ds) = noted-unwatched ds

-- what is kept of them, where they are watched
pub watched_items : (watched : Bool) (items ds : List Delivered) → (if watched then Some items else None) ≡ Some ds → items ≡ ds
watched_items true items ds is = same_Some items ds is
watched_items false items ds is = absurd cc

pub none_there : {X : Type 0} (xs : List X) → length xs ≡ 0 → xs ≡ []
none_there [] none = refl
none_there (x ∷ xs) none = absurd (omega (arith, none))

-- ---- a second that is counted

pub set_changed : {X : Type 0} (f : X → X) (xs : List X) (i : ℕ) (x y : X) → i < length xs → x ≡ slice_index_or xs i x → y ≡ f x → slice_set xs i y ≡ changed_at f xs i
set_changed f [] i x y within is to = absurd (omega (arith, within))
set_changed f (z ∷ zs) zero x y within is to = ap (λ v. v ∷ zs) (to ∙ ap f is)
set_changed f (z ∷ zs) (suc i) x y within is to = ap (λ l. z ∷ l) (set_changed f zs i x y (omega (arith, within)) is to)

pub past_changed : {X : Type 0} (f : X → X) (xs : List X) (i : ℕ) → length xs ≤ i → xs ≡ changed_at f xs i
past_changed f [] i past = refl
past_changed f (z ∷ zs) zero past = absurd (omega (arith, past))
past_changed f (z ∷ zs) (suc i) past = ap (λ l. z ∷ l) (past_changed f zs i (omega (arith, past)))

-- ---- what is delivered, from a step on

suc-less : (e i : ℕ) → i < e → e - i ≡ suc (e - (i + 1))
suc-less e i h = omega arith

pub seen_times-step : (s : State) (k : ℕ) (dir : Dir) (e i : ℕ) → i < e → seen_times (e - i) k dir s ≡ seen_at s k dir ++ seen_times (e - (i + 1)) k dir (delivered s k dir)
seen_times-step s k dir e i h = ap (λ m. seen_times m k dir s) (suc-less e i h)

pub seen_from-step : (s : State) (e k : ℕ) → k < e → seen_from (e - k) k s ≡ seen_link s k ++ seen_from (e - (k + 1)) (k + 1) (link_served s k)
seen_from-step s e k h = ap (λ m. seen_from m k s) (suc-less e k h)

seen_drained-step : (s : State) (e i : ℕ) → i < e → seen_drained (e - i) s ≡ seen_first s ++ seen_drained (e - (i + 1)) (delivered_first s)
seen_drained-step s e i h = ap (λ m. seen_drained m s) (suc-less e i h)

-- a delivery from the lane that was found
pub seen_drained-found : (s : State) (e i : ℕ) (w : LaneId) → i < e → first_full_from 0 s.lanes ≡ Some w → seen_drained (e - i) s ≡ seen_at s w.link w.dir ++ seen_drained (e - (i + 1)) (delivered s w.link w.dir)
unfolding delivered_first seen_first
seen_drained-found s e i w h f = seen_drained-step s e i h ∙ ap (λ o. seen_over_lane s o ++ seen_drained (e - (i + 1)) (delivered_over s o)) f

idle-seen : (s : State) → first_full_from 0 s.lanes ≡ None → seen_first s ≡ []
unfolding seen_first
idle-seen s h = ap (seen_over_lane s) h

idle-first : (s : State) → first_full_from 0 s.lanes ≡ None → delivered_first s ≡ s
unfolding delivered_first
idle-first s h = ap (delivered_over s) h

-- where all lanes are empty, nothing is delivered
pub seen_drained-idle : (n : ℕ) (s : State) → first_full_from 0 s.lanes ≡ None → seen_drained n s ≡ []
seen_drained-idle zero s h = refl
seen_drained-idle (suc n) s h = (λ j. idle-seen s h j ++ seen_drained n (idle-first s h j)) ∙ seen_drained-idle n s h

-- a question delivers nothing
pub question_sees : (s : State) (c : Command) → is_question c ≡ true → seen_of s c ≡ []
question_sees s (command.Deliver name dir) h = absurd (true≢false (sym h))
question_sees s (command.Round n) h = absurd (true≢false (sym h))
question_sees s (command.Drain n) h = absurd (true≢false (sym h))
question_sees s command.State h = refl
question_sees s (command.Show name) h = refl
question_sees s (command.Wiring name) h = refl
question_sees s (command.Db name) h = refl
question_sees s (command.Adj name) h = refl
question_sees s (command.Drops name) h = refl
question_sees s (command.Path from to vid) h = refl
question_sees s (command.Vid vid ect) h = refl
question_sees s (command.Bridge name priority system source ports) h = refl
question_sees s (command.Link name a port_a b port_b cost) h = refl
question_sees s (command.Isid isid vid) h = refl
question_sees s (command.Attach name port isid mode) h = refl
question_sees s (command.Detach name port) h = refl
question_sees s (command.Metric name side m) h = refl
question_sees s (command.Down name) h = refl
question_sees s (command.Up name) h = refl
question_sees s (command.Restart name) h = refl
question_sees s (command.Tick name) h = refl
question_sees s (command.Lose name dir place) h = refl
question_sees s (command.Double name dir place) h = refl
question_sees s (command.Frame name port bytes) h = refl

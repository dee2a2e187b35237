-- Commands are applied, one after another: what was counted so far, and what the commands that are left do.
use Rattle.std.proofs.Common.{◌≡◌, ℕ, ◌+◌, ◌≤◌, cond, if◌then◌else◌, List, [], ◌∷◌, length, Option, Some, None, refl, sym, ap, ◌∙◌, subst, arith}
use Rattle.std.specs.List.{count_by, sum_by}
use Rattle.std.proofs.lemmas.List.Sums.{sum_by-cons}
use Rattle.spb_types.specs.declared.tables.Tables.{Tables}
use Rattle.scenario.specs.declared.command.Command.{Command}
use Rattle.network_model.specs.declared.answer.Answer.{Answer}
use Rattle.spb_world.specs.declared.reason.Reason.{Reason}
use Rattle.spb_network.specs.Applying.{Plays}
use Rattle.network_model.specs.Play.{next_state}
use Rattle.network_model.specs.Refusing.{refusal_of}
use Rattle.network_model.specs.State.{State}
use Rattle.made_runs.specs.declared.counts.Counts.{Counts}
use Rattle.made_runs.specs.Applied.{Applied, applied, applied_by, is_show, quiet_tables, is_as_shown, same_behind, outs_told, in_64_bits, counts_of}

-- ---- numbers of 64 bits

clip : (a b : ℕ) → in_64_bits (in_64_bits a + b) ≡ in_64_bits (a + b)
clip a b = omega arith

clipped : (n m : ℕ) → n ≤ 18446744073709551615 → in_64_bits (n + 0) ≡ in_64_bits m → n ≡ in_64_bits m
clipped n m low e = omega (arith, e)

-- ---- counts

-- some answers were counted, the last of which had these tables or none; and these are left
pub record Tallying (counts : Counts) (shown : Option Tables) (whole left : List Answer) : Type 0 where
  pub lines : counts.lines + length left ≡ length whole
  pub shows : counts.shows + count_by is_show left ≡ count_by is_show whole
  pub same : counts.same + same_behind shown left ≡ same_behind None whole
  pub outs : in_64_bits (counts.outs + sum_by outs_told left) ≡ in_64_bits (sum_by outs_told whole)
  pub fits : counts.outs ≤ 18446744073709551615

pub Tallying-more : (old new : Counts) (shown : Option Tables) (whole left : List Answer) (a : Answer) → Tallying old shown whole (a ∷ left)
    → new.lines ≡ old.lines + 1 → new.shows ≡ old.shows + (if is_show a then 1 else 0)
    → new.same ≡ old.same + (if is_as_shown shown a then 1 else 0) → new.outs ≡ in_64_bits (old.outs + outs_told a)
    → Tallying new (quiet_tables a) whole left
Tallying-more old new shown whole left a t lines shows same outs =
    let rest : ℕ = sum_by outs_told left in
    let shown_more : count_by is_show (a ∷ left) ≡ cond (is_show a) 1 0 + count_by is_show left = sum_by-cons (λ x. cond (is_show x) 1 0) a left in
    let told_more : sum_by outs_told (a ∷ left) ≡ outs_told a + rest = sum_by-cons outs_told a left in
    let joined : old.outs + outs_told a + rest ≡ old.outs + sum_by outs_told (a ∷ left) = omega (arith, told_more) in
    record {
      lines = omega (arith, t.lines, lines);
      shows = omega (arith, t.shows, shows, shown_more);
      same = omega (arith, t.same, same);
      outs = ap (λ n. in_64_bits (n + rest)) outs ∙ clip (old.outs + outs_told a) rest ∙ ap in_64_bits joined ∙ t.outs;
      fits = omega (arith, outs);
    }

counts_same : (c : Counts) (lines shows same outs : ℕ) → c.lines ≡ lines → c.shows ≡ shows → c.same ≡ same → c.outs ≡ outs
    → c ≡ record { lines = lines; shows = shows; same = same; outs = outs }
counts_same c lines shows same outs p q r t =
    ap (λ n. record { lines = n; shows = c.shows; same = c.same; outs = c.outs }) p
    ∙ ap (λ n. record { lines = lines; shows = n; same = c.same; outs = c.outs }) q
    ∙ ap (λ n. record { lines = lines; shows = shows; same = n; outs = c.outs }) r
    ∙ ap (λ n. record { lines = lines; shows = shows; same = same; outs = n }) t

-- where none is left all are counted
pub Tallying-all : (counts : Counts) (shown : Option Tables) (whole : List Answer) → Tallying counts shown whole []
    → counts ≡ counts_of whole
unfolding counts_of
Tallying-all counts shown whole t =
    counts_same counts (length whole) (count_by is_show whole) (same_behind None whole) (in_64_bits (sum_by outs_told whole))
    (omega (arith, t.lines)) (omega (arith, t.shows)) (omega (arith, t.same)) (clipped counts.outs (sum_by outs_told whole) t.fits t.outs)

-- ---- commands

-- some commands were applied; these are left, from this state on, the first of which has this number
pub record Applying (counts : Counts) (shown : Option Tables) (s : State) (number : ℕ) (whole : Applied) (left : List Command) : Type 0 where
  pub tally : Tallying counts shown whole.answers (applied s number left).answers
  pub refused : whole.refused ≡ (applied s number left).refused
  pub state : whole.state ≡ (applied s number left).state

-- nothing was applied yet
pub Applying-none : (counts : Counts) (shown : Option Tables) (s : State) (commands : List Command)
    → counts ≡ record { lines = 0; shows = 0; same = 0; outs = 0 } → shown ≡ None → Applying counts shown s 1 (applied s 1 commands) commands
Applying-none counts shown s commands zero none =
    subst (λ c. Applying c shown s 1 (applied s 1 commands) commands) (sym zero)
    (subst (λ o. Applying (record { lines = 0; shows = 0; same = 0; outs = 0 }) o s 1 (applied s 1 commands) commands) (sym none)
    (record {
      tally = record { lines = omega arith; shows = omega arith; same = omega arith; outs = ap in_64_bits (omega arith); fits = omega arith };
      refused = refl;
      state = refl;
    }))

-- how a command goes on, by the reason for which it is refused
by_reason : (s : State) (number : ℕ) (c : Command) (left : List Command) (o : Option Reason) → refusal_of s c ≡ o
    → applied s number (c ∷ left) ≡ applied_by s number c o (applied (next_state s c) (number + 1) left)
by_reason s number c left o e = ap (λ r. applied_by s number c r (applied (next_state s c) (number + 1) left)) e

module _ (old : Counts) (shown : Option Tables) (s : State) (number : ℕ) (whole : Applied) (c : Command) (left : List Command) (so_far : Applying old shown s number whole (c ∷ left)) where
  -- so far, and then a command by the reason for which it is refused
  module _ (o : Option Reason) (e : refusal_of s c ≡ o) where
    tally_then : Tallying old shown whole.answers (applied_by s number c o (applied (next_state s c) (number + 1) left)).answers
    tally_then = subst (λ (a : Applied). Tallying old shown whole.answers a.answers) (by_reason s number c left o e) so_far.tally

    refused_then : whole.refused ≡ (applied_by s number c o (applied (next_state s c) (number + 1) left)).refused
    refused_then = so_far.refused ∙ ap (λ (a : Applied). a.refused) (by_reason s number c left o e)

    state_then : whole.state ≡ (applied_by s number c o (applied (next_state s c) (number + 1) left)).state
    state_then = so_far.state ∙ ap (λ (a : Applied). a.state) (by_reason s number c left o e)

  -- the next command was played, and its answer is counted
  pub Applying-more : (new : Counts) (told : Option Tables) (t : State) (answer : Answer) → Plays s c answer t
      → new.lines ≡ old.lines + 1 → new.shows ≡ old.shows + (if is_show answer then 1 else 0)
      → new.same ≡ old.same + (if is_as_shown shown answer then 1 else 0) → new.outs ≡ in_64_bits (old.outs + outs_told answer)
      → told ≡ quiet_tables answer → Applying new told t (number + 1) whole left
  Applying-more new told t answer plays lines shows same outs is =
      let next = applied (next_state s c) (number + 1) left in
      let tally : Tallying old shown whole.answers (answer ∷ next.answers) =
      subst (λ a. Tallying old shown whole.answers (a ∷ next.answers)) (sym plays.answer_is) (tally_then None plays.accepted) in
      subst (λ k. Applying new k t (number + 1) whole left) (sym is)
      (subst (λ (u : State). Applying new (quiet_tables answer) u (number + 1) whole left) (sym plays.state)
      (record {
        tally = Tallying-more old new shown whole.answers next.answers answer tally lines shows same outs;
        refused = refused_then None plays.accepted;
        state = state_then None plays.accepted;
      }))

  -- the next command is refused: all is counted
  pub Applying-refused : (reason : Reason) → refusal_of s c ≡ Some reason
      → (old ≡ counts_of whole.answers) × (whole.refused ≡ Some (number, reason)) × (whole.state ≡ s)
  Applying-refused reason e =
      (Tallying-all old shown whole.answers (tally_then (Some reason) e), refused_then (Some reason) e, state_then (Some reason) e)

-- A script that goes on behind some bytes, or ends there.
use Rattle.std.proofs.Common.{◌≡◌, ◌≢◌, ℕ, ◌+◌, ◌≤◌, ◌<◌, Bool, IsTrue, List, [], ◌∷◌, ◌++◌, length, take, drop, Option, Some, None, refl, sym, ap, ◌∙◌, subst, arith, length-append, append_assoc, append-nil, take-append-drop, length-drop}
use Rattle.std.proofs.KnownBytes.{Appends-nil, Appends-trans}
use Rattle.scenario.specs.declared.cutter.Cut.{Cut}
use Rattle.scenario.specs.declared.cutter.Cutting.{Cutting}
use Rattle.scenario.specs.declared.cutter.Cutting.TheVariants.{More, Line, Long, Over}
use Rattle.scenario.specs.declared.cutter.Stop.{Stop}
use Rattle.scenario.specs.Cutting.{Cuts, Lines, cut_before, fed, ended, lines_of, lines_left}
use Rattle.network_model.specs.State.{State}
use Rattle.script_run.specs.declared.refusal.Refusal.{Refusal}
use Rattle.script_run.specs.declared.status.Status.{Status}
use Rattle.script_run.specs.declared.status.Status.TheVariants.{Done}
use Rattle.script_run.specs.declared.voice.Voice.{Voice}
use Rattle.script_run.specs.Output.{AppendsFront}
use Rattle.script_run.specs.Pieces.{takes_none, Does, StandsAt, GoesOn, Ends, Breaks, Finishes, Accepts, Stops, shown_lines, to_come}
use Rattle.script_run.specs.Play.{Judged, judged}
use Rattle.script_run.specs.Text.{Played, joined, play, play_lines}
use Rattle.script_run.proofs.Taking.{put, takes_lines, takes_both, takes_stands, IsFedSo, fed_so, lines_of_left}
use Rattle.script_run.proofs.Writing.{AppendsFront-nil}

-- ---- lines that are played behind accepted ones

module _ (v : Voice) where
  -- what p does is to write this, and then what q does
  pub record Follows (written : List ℕ) (p q : Played) : Type 0 where
    pub writes : p.says v ≡ written ++ q.says v
    pub ends : p.status ≡ q.status
    pub leaves : p.state ≡ q.state

  follows_joined : (n : ℕ) (j : Judged) (r : Option Refusal) (rest p q : Played) (w : List ℕ) (t : State)
      → ((x : List ℕ) → Does v rest x Done t → Follows x p q) → Does v (joined n j r rest) w Done t → Follows w (joined n j r p) q
  follows_joined n j None rest p q w t more does =
      let next = more (rest.says v) (record { writes = refl; ends = does.ends; leaves = does.leaves }) in
      record {
        writes = ap (λ l. j.says v ++ l) next.writes ∙ sym (append_assoc (j.says v) (rest.says v) (q.says v)) ∙ ap (λ l. l ++ q.says v) does.writes;
        ends = next.ends;
        leaves = next.leaves;
      }
  follows_joined n j (Some why) rest p q w t more does = let e = does.ends in cc

  play_follows : (s t : State) (n : ℕ) (ls ms : List (List ℕ)) (end : Option Stop) (w : List ℕ) → Does v (play s n ls None) w Done t
      → Follows w (play s n (ls ++ ms) end) (play t (n + length ls) ms end)
  play_follows s t n [] ms end w does =
      subst (λ (u : State). Follows w (play s n ms end) (play u (n + 0) ms end)) does.leaves
      (subst (λ (k : ℕ). Follows w (play s n ms end) (play s k ms end)) (omega arith)
      (record { writes = ap (λ l. l ++ (play s n ms end).says v) does.writes; ends = refl; leaves = refl }))
  play_follows s t n (l ∷ ls) ms end w does =
      let j : Judged = judged s n l in
      subst (λ (k : ℕ). Follows w (play s n (l ∷ ls ++ ms) end) (play t k ms end)) (omega arith)
      (follows_joined n j j.refused (play j.state (n + 1) ls None) (play j.state (n + 1) (ls ++ ms) end) (play t (n + 1 + length ls) ms end) w t
      (λ x does. play_follows j.state t (n + 1) ls ms end x does) does)

  -- ---- what an answer of the cutter shows, and whatever lines stand behind it

  joined_stops : (n : ℕ) (j : Judged) (r : Option Refusal) (p q : Played) (w : List ℕ) (status : Status) (t : State) → p.status ≡ Done → status ≢ Done → Does v (joined n j r p) w status t → Does v (joined n j r q) w status t
  joined_stops n j None p q w status t done other does = absurd (other (sym does.ends ∙ done))
  joined_stops n j (Some why) p q w status t done other does = does

  pub told_stops : (what : Cutting) (c : Cuts) (s t : State) (n : ℕ) (rest : Lines) (w : List ℕ) (status : Status) → status ≢ Done → Does v (play_lines s n (shown_lines what c)) w status t
      → Does v (play_lines s n (cut_before (what, c) rest)) w status t
  told_stops More c s t n rest w status other does = absurd (other (sym does.ends))
  told_stops Line c s t n rest w status other does =
      let j : Judged = judged s n c.line in
      joined_stops n j j.refused (play j.state (n + 1) [] None) (play j.state (n + 1) rest.0 rest.1) w status t refl other does
  told_stops Long c s t n rest w status other does = does
  told_stops Over c s t n rest w status other does = does

  joined_front : (n : ℕ) (j : Judged) (r : Option Refusal) (p q : Played) → p.says v ≡ [] → (rest : List ℕ) × ((joined n j r q).says v ≡ (joined n j r p).says v ++ rest)
  joined_front n j None p q none = (q.says v, ap (λ l. l ++ q.says v) (sym (ap (λ l. j.says v ++ l) none ∙ append-nil (j.says v))))
  joined_front n j (Some why) p q none = ([], sym (append-nil (j.says v)))

  -- its text comes first
  pub told_front : (what : Cutting) (c : Cuts) (s : State) (n : ℕ) (lines : Lines) → (rest : List ℕ) × ((play_lines s n (cut_before (what, c) lines)).says v ≡ (play_lines s n (shown_lines what c)).says v ++ rest)
  told_front More c s n lines = ((play_lines s n lines).says v, refl)
  told_front Line c s n lines = let j : Judged = judged s n c.line in joined_front n j j.refused (play j.state (n + 1) [] None) (play j.state (n + 1) lines.0 lines.1) refl
  told_front Long c s n lines = ([], sym (append-nil _))
  told_front Over c s n lines = ([], refl)

-- ---- pieces

-- a front of a piece was taken, and the rest is still to come
pub record Playing (v : Voice) {K : Type 0} (holds : K → Option (List ℕ)) (faults : K → ℕ) (is_reliable : K → Bool)
    (piece rest : List ℕ) (s t : State) (n m : ℕ) (c d : Cuts) (a b : K) : Type 0 where
  pub front : List ℕ
  pub split : piece ≡ front ++ rest
  pub goes : GoesOn v holds front s t n m c d a b
  pub stands : StandsAt d m
  pub count : faults a ≤ faults b
  pub reliable : IsTrue (is_reliable a) → IsTrue (is_reliable b)

module _ (v : Voice) {K : Type 0} (holds : K → Option (List ℕ)) where
  pub goes_nothing : (s : State) (n : ℕ) (c : Cuts) (a : K) → GoesOn v holds [] s s n n c c a a
  goes_nothing s n c a = record {
    whole = [];
    written = [];
    takes = takes_none c;
    accepted = record { writes = refl; ends = refl; leaves = refl };
    counted = omega arith;
    grown = Appends-nil (holds a);
  }

  pub goes_more : (p q : List ℕ) (s t u : State) (n m k : ℕ) (c d e : Cuts) (a b f : K) → GoesOn v holds p s t n m c d a b → GoesOn v holds q t u m k d e b f
      → GoesOn v holds (p ++ q) s u n k c e a f
  goes_more p q s t u n m k c d e a b f first second =
      let next : Follows v first.written (play s n (first.whole ++ second.whole) None) (play t m second.whole None) =
      subst (λ (i : ℕ). Follows v first.written (play s n (first.whole ++ second.whole) None) (play t i second.whole None)) (sym first.counted)
      (play_follows v s t n first.whole second.whole None first.written first.accepted) in
      record {
        whole = first.whole ++ second.whole;
        written = first.written ++ second.written;
        takes = takes_both c d e p q first.whole second.whole first.takes second.takes;
        accepted = record {
          writes = next.writes ∙ ap (λ l. first.written ++ l) second.accepted.writes;
          ends = next.ends ∙ second.accepted.ends;
          leaves = next.leaves ∙ second.accepted.leaves;
        };
        counted = omega (arith, first.counted, second.counted, length-append first.whole second.whole);
        grown = Appends-trans (holds a) (holds b) (holds f) first.written second.written first.grown second.grown;
      }

  -- what is still to come behind bytes that were taken
  pub to_come_follows : (p q : List ℕ) (s t : State) (n m : ℕ) (c d : Cuts) (a b : K) → c.stopped ≡ None → d.stopped ≡ None → (goes : GoesOn v holds p s t n m c d a b)
      → Follows v goes.written (to_come s n c (p ++ q)) (to_come t m d q)
  to_come_follows p q s t n m c d a b going still goes =
      let lines : lines_of c (p ++ q) ≡ put goes.whole (lines_of d q) =
      lines_of_left c (p ++ q) going ∙ takes_lines c d p q goes.whole goes.takes ∙ ap (put goes.whole) (sym (lines_of_left d q still)) in
      let all : Follows v goes.written (play_lines s n (put goes.whole (lines_of d q))) (play t (n + length goes.whole) (lines_of d q).0 (lines_of d q).1) =
      play_follows v s t n goes.whole (lines_of d q).0 (lines_of d q).1 goes.written goes.accepted in
      subst (λ (i : ℕ). Follows v goes.written (to_come s n c (p ++ q)) (play_lines t i (lines_of d q))) (sym goes.counted)
      (subst (λ (ls : Lines). Follows v goes.written (play_lines s n ls) (play_lines t (n + length goes.whole) (lines_of d q))) (sym lines) all)

  -- ---- one answer of the cutter

  module _ (c : Cuts) (p : List ℕ) (x : Cut) (d : Cuts) (going : c.stopped ≡ None) (is : (x, d) ≡ fed c p) where
    so : IsFedSo c p (x, d)
    so = fed_so c p (x, d) going is

    pub step_goes : (s t : State) (n m : ℕ) (a b : K) → Accepts v holds (shown_lines x.what d) s t n m a b → GoesOn v holds (take x.used p) s t n m c d a b
    step_goes s t n m a b accepts = record {
      whole = (shown_lines x.what d).0;
      written = accepts.written;
      takes = so.takes accepts.goes_on;
      accepted = accepts.accepted;
      counted = accepts.counted;
      grown = accepts.grown;
    }

    comes : (s : State) (n : ℕ) (q : List ℕ) → to_come s n c (p ++ q) ≡ play_lines s n (cut_before (x.what, d) (lines_left d (drop x.used p ++ q)))
    comes s n q = ap (play_lines s n) (lines_of_left c (p ++ q) going ∙ so.follow q)

    pub step_ends : (status : Status) (s t : State) (n : ℕ) (a b : K) → Stops v holds (shown_lines x.what d) status s t n a b → Ends v holds p status s t n c a b
    step_ends status s t n a b stops = record {
      written = stops.written;
      stops = stops.ends;
      does = λ q. subst (λ (r : Played). Does v r stops.written status t) (sym (comes s n q)) (told_stops v x.what d s t n (lines_left d (drop x.used p ++ q)) stops.written status stops.ends stops.does);
      line = λ k why e. let same = stops.line k why e in omega (arith, same);
      grown = stops.grown;
    }

    pub step_breaks : (s : State) (n : ℕ) (a b : K) → AppendsFront (holds a) (holds b) ((play_lines s n (shown_lines x.what d)).says v) → Breaks v holds p s n c a b
    step_breaks s n a b front = λ q.
        let rest = told_front v x.what d s n (lines_left d (drop x.used p ++ q)) in
        let text : (to_come s n c (p ++ q)).says v ≡ (play_lines s n (shown_lines x.what d)).says v ++ rest.0 = ap (λ (r : Played). r.says v) (comes s n q) ∙ rest.1 in
        record { front = front.front; rest = front.rest ++ rest.0; whole = text ∙ ap (λ l. l ++ rest.0) front.whole ∙ append_assoc front.front front.rest rest.0; grown = front.grown }

  -- ---- behind bytes that were taken

  module _ (p q : List ℕ) (s t : State) (n m : ℕ) (c d : Cuts) (a b : K) (going : c.stopped ≡ None) (still : d.stopped ≡ None) (goes : GoesOn v holds p s t n m c d a b) where
    follows : (more : List ℕ) → Follows v goes.written (to_come s n c ((p ++ q) ++ more)) (to_come t m d (q ++ more))
    follows more = subst (λ bytes. Follows v goes.written (to_come s n c bytes) (to_come t m d (q ++ more))) (sym (append_assoc p q more)) (to_come_follows p (q ++ more) s t n m c d a b going still goes)

    pub ends_after : (status : Status) (u : State) (e : K) → Ends v holds q status t u m d b e → Ends v holds (p ++ q) status s u n c a e
    ends_after status u e ends = record {
      written = goes.written ++ ends.written;
      stops = ends.stops;
      does = λ more. let next = follows more in let then = ends.does more in record {
        writes = next.writes ∙ ap (λ l. goes.written ++ l) then.writes;
        ends = next.ends ∙ then.ends;
        leaves = next.leaves ∙ then.leaves;
      };
      line = λ k why is. let at = ends.line k why is in omega (arith, at, goes.counted);
      grown = Appends-trans (holds a) (holds b) (holds e) goes.written ends.written goes.grown ends.grown;
    }

    pub breaks_after : (e : K) → Breaks v holds q t m d b e → Breaks v holds (p ++ q) s n c a e
    breaks_after e breaks = λ more.
        let next = follows more in
        let front = breaks more in
        record {
          front = goes.written ++ front.front;
          rest = front.rest;
          whole = next.writes ∙ ap (λ l. goes.written ++ l) front.whole ∙ sym (append_assoc goes.written front.front front.rest);
          grown = Appends-trans (holds a) (holds b) (holds e) goes.written front.front goes.grown front.grown;
        }

  -- nothing more was written
  pub breaks_here : (q : List ℕ) (s : State) (n : ℕ) (c : Cuts) (a : K) → Breaks v holds q s n c a a
  breaks_here q s n c a = λ more. AppendsFront-nil (holds a) ((to_come s n c (q ++ more)).says v)

-- ---- within a piece

module _ (v : Voice) {K : Type 0} (holds : K → Option (List ℕ)) (faults : K → ℕ) (is_reliable : K → Bool)
    (piece rest : List ℕ) (s t : State) (n m : ℕ) (c d : Cuts) (a b : K) (going : c.stopped ≡ None)
    (playing : Playing v holds faults is_reliable piece rest s t n m c d a b) where
  -- nothing more was written
  pub piece_breaks_here : Breaks v holds piece s n c a b
  piece_breaks_here =
      subst (λ bytes. Breaks v holds bytes s n c a b) (sym playing.split)
      (breaks_after v holds playing.front rest s t n m c d a b going playing.stands.going playing.goes b (breaks_here v holds rest t m d b))

  module _ (x : Cut) (e : Cuts) (is : (x, e) ≡ fed d rest) where
    within : IsFedSo d rest (x, e)
    within = fed_so d rest (x, e) playing.stands.going is

    pub piece_within : x.used ≤ length rest
    piece_within = within.within

    pub piece_breaks : (f : K) → AppendsFront (holds b) (holds f) ((play_lines t m (shown_lines x.what e)).says v) → Breaks v holds piece s n c a f
    piece_breaks f front =
        subst (λ bytes. Breaks v holds bytes s n c a f) (sym playing.split)
        (breaks_after v holds playing.front rest s t n m c d a b going playing.stands.going playing.goes f (step_breaks v holds d rest x e playing.stands.going is t m b f front))

    pub piece_ends : (status : Status) (u : State) (f : K) → Stops v holds (shown_lines x.what e) status t u m b f → Ends v holds piece status s u n c a f
    piece_ends status u f stops =
        subst (λ bytes. Ends v holds bytes status s u n c a f) (sym playing.split)
        (ends_after v holds playing.front rest s t n m c d a b going playing.stands.going playing.goes status u f (step_ends v holds d rest x e playing.stands.going is status t u m b f stops))

    pub piece_more : (u : State) (k : ℕ) (f : K) → Accepts v holds (shown_lines x.what e) t u m k b f → faults b ≤ faults f → (IsTrue (is_reliable b) → IsTrue (is_reliable f))
        → Playing v holds faults is_reliable piece (drop x.used rest) s u n k c e a f
    piece_more u k f accepts count reliable =
        let step : GoesOn v holds (take x.used rest) t u m k d e b f = step_goes v holds d rest x e playing.stands.going is t u m k b f accepts in
        record {
          front = playing.front ++ take x.used rest;
          split = playing.split ∙ ap (λ l. playing.front ++ l) (sym (take-append-drop x.used rest)) ∙ sym (append_assoc playing.front (take x.used rest) (drop x.used rest));
          goes = goes_more v holds playing.front (take x.used rest) s t u n m k c d e a b f playing.goes step;
          stands = subst (StandsAt e) (sym step.counted) (takes_stands d e (take x.used rest) step.whole m step.takes playing.stands);
          count = omega (arith, playing.count, count);
          reliable = λ h. reliable (playing.reliable h);
        }

    pub piece_smaller : (u : State) (k : ℕ) (f : K) → Accepts v holds (shown_lines x.what e) t u m k b f → 0 < length rest → length (drop x.used rest) < length rest
    piece_smaller u k f accepts some = let used = within.some accepts.goes_on some in omega (arith, used, length-drop x.used rest, within.within)

-- ---- at the end of the input

module _ (v : Voice) {K : Type 0} (holds : K → Option (List ℕ)) (s t : State) (n m : ℕ) (c d : Cuts) (what : Cutting) (a b : K) (going : c.stopped ≡ None) (is : (what, d) ≡ ended c) where
  end_lines : to_come s n c [] ≡ play_lines s n (shown_lines what d)
  end_lines = ap (play_lines s n) (lines_of_left c [] going ∙ ap (λ (w : Cutting × Cuts). cut_before w ([], None)) (sym is))

  pub end_front : AppendsFront (holds a) (holds b) ((play_lines s n (shown_lines what d)).says v) → AppendsFront (holds a) (holds b) ((to_come s n c []).says v)
  end_front front = subst (λ (p : Played). AppendsFront (holds a) (holds b) (p.says v)) (sym end_lines) front

  pub end_stops : (status : Status) → Stops v holds (shown_lines what d) status s t n a b → Finishes v holds status s t n c a b
  end_stops status stops = record {
    written = stops.written;
    does = subst (λ (p : Played). Does v p stops.written status t) (sym end_lines) stops.does;
    line = stops.line;
    grown = stops.grown;
  }

  pub end_goes_on : Accepts v holds (shown_lines what d) s t n m a b → Finishes v holds Done s t n c a b
  end_goes_on accepts =
      let all : Does v (play_lines s n (shown_lines what d)) accepts.written Done t =
      subst (λ (end : Option Stop). Does v (play s n (shown_lines what d).0 end) accepts.written Done t) (sym accepts.goes_on) accepts.accepted in
      record {
        written = accepts.written;
        does = subst (λ (p : Played). Does v p accepts.written Done t) (sym end_lines) all;
        line = λ k why e. cc;
        grown = accepts.grown;
      }

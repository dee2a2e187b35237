-- A script that a source gives in pieces.
use Rattle.std.proofs.Common.{◌≡◌, ℕ, zero, suc, ◌+◌, ◌-◌, true, false, ◌≤◌, Bool, IsTrue, List, [], ◌∷◌, ◌++◌, length, Option, Some, None, IfSome, refl, sym, ap, ◌∙◌, subst, arith, length-append, append_assoc, append-nil}
use Rattle.std.specs.Io.KnownBytes.{Appends, Consumes, IsAtEnd, Keeps}
use Rattle.std.specs.Prelude.{if◌then◌else◌}
use Rattle.std.proofs.KnownBytes.{Appends-nil, Appends-trans, Consumes-trans, Consumes-kept, Consumes-whole}
use Rattle.scenario.specs.declared.cutter.Stop.{Stop}
use Rattle.scenario.specs.declared.cutter.Stop.TheVariants as stop
use Rattle.spb_types.specs.declared.limits.TheConstants.{MOST_ROUNDS}
use Rattle.scenario.specs.Cutting.{Cuts, start, most_lines, most_bytes, longest_line, is_lf, lines_of}
use Rattle.network_model.specs.State.{State}
use Rattle.script_run.specs.declared.refusal.Refusal.{Refusal}
use Rattle.script_run.specs.declared.status.Status.{Status}
use Rattle.script_run.specs.declared.status.Status.TheVariants.{Done}
use Rattle.script_run.specs.declared.voice.Voice.{Voice}
use Rattle.script_run.specs.Output.{AppendsFront}
use Rattle.script_run.specs.Pieces.{whole_part, bytes_before, Does, StandsAt, GoesOn, Ends, Breaks, Finishes, Completes, WritesWhole, WritesSoon, ReadsLittle, most_piece, to_come}
use Rattle.script_run.specs.Play.{Judged, judged}
use Rattle.script_run.specs.Run.{is_written}
use Rattle.script_run.specs.Text.{Played, joined, concluded, play, play_lines, played, said_in}
use Rattle.script_run.proofs.Counting.{play_few}
use Rattle.script_run.proofs.Taking.{takes_stands, takes_taken, takes_before, whole_cut, lines_few}
use Rattle.script_run.proofs.Going.{Follows, goes_more, to_come_follows, ends_after, breaks_after}

-- bytes of a script were read, and each whole line in them was accepted and is answered. The source and the sink may have
-- failed, unless they are reliable
pub record Reading (v : Voice) {S K : Type 0}
    (left : S → Option (List ℕ)) (source_faults : S → ℕ) (is_reliable_source : S → Bool)
    (holds : K → Option (List ℕ)) (sink_faults : K → ℕ) (is_reliable_sink : K → Bool)
    (s t : State) (n : ℕ) (d : Cuts) (old new : S) (a b : K) (count : ℕ) : Type 0 where
  pub read : List ℕ
  pub consumed : Consumes (left old) (left new) read
  pub counted : count ≡ length read
  pub goes : GoesOn v holds read s t 1 n start d a b
  pub stands : StandsAt d n
  pub source_count : source_faults old ≤ source_faults new
  pub source_reliable : IsTrue (is_reliable_source old) → IsTrue (is_reliable_source new)
  pub sink_count : sink_faults a ≤ sink_faults b
  pub sink_reliable : IsTrue (is_reliable_sink a) → IsTrue (is_reliable_sink b)

-- ---- a script of which a front is known

some_whole : (a b : Option (List ℕ)) (bytes : List ℕ) (P : List ℕ → Type 0) → Consumes a b bytes → ((more : List ℕ) → P (bytes ++ more)) → IfSome a P
some_whole None b bytes P consumed each = tt
some_whole (Some x) None bytes P consumed each = absurd consumed
some_whole (Some x) (Some y) bytes P consumed each = subst P (sym consumed) (each y)

-- a later line begins later, and so does a line where more stands behind
before_later : (k m : ℕ) (xs ys : List ℕ) → k ≤ m → bytes_before k xs ≤ bytes_before m (xs ++ ys)
before_later zero m xs ys most = omega arith
before_later (suc k) zero xs ys most = absurd (omega (arith, most))
before_later (suc k) (suc m) [] ys most = omega arith
before_later (suc k) (suc m) (b ∷ xs) ys most = at (is_lf b) (before_later k m xs ys (omega (arith, most))) (before_later (suc k) (suc m) xs ys most) where
  at : (t : Bool) → bytes_before k xs ≤ bytes_before m (xs ++ ys) → bytes_before (suc k) xs ≤ bytes_before (suc m) (xs ++ ys)
      → 1 + (if t then bytes_before k xs else bytes_before (suc k) xs) ≤ 1 + (if t then bytes_before m (xs ++ ys) else bytes_before (suc m) (xs ++ ys))
  at true here later = omega (arith, here)
  at false here later = omega (arith, later)

is_played : (s : State) (script : List ℕ) → played s script ≡ to_come s 1 start script
unfolding played
is_played s script = refl

completes : (v : Voice) {K : Type 0} (holds : K → Option (List ℕ)) (s t : State) (status : Status) (script written : List ℕ) (a b : K) → Does v (to_come s 1 start script) written status t → Appends (holds a) (holds b) written
    → Completes holds (said_in v) script status s t a b
completes v holds s t status script written a b does grown =
    let all : Does v (played s script) written status t = subst (λ (p : Played). Does v p written status t) (sym (is_played s script)) does in
    record { fate = sym all.ends; text = subst (Appends (holds a) (holds b)) (sym all.writes) grown; state = sym all.leaves }

few_accepted : (v : Voice) (s t : State) (status : Status) (script written : List ℕ) → Does v (to_come s 1 start script) written status t → t.accepted ≤ s.accepted + most_lines + MOST_ROUNDS
few_accepted v s t status script written does =
    let all : (to_come s 1 start script).state.accepted ≤ s.accepted + length (lines_of start script).0 + MOST_ROUNDS = play_few s 1 (lines_of start script).0 (lines_of start script).1 in
    let same : (to_come s 1 start script).state.accepted ≡ t.accepted = ap (λ (u : State). u.accepted) does.leaves in
    omega (arith, all, same, lines_few script)

written_joined : (n : ℕ) (j : Judged) (r : Option Refusal) (p : Played) → IsTrue (is_written p.status) → IsTrue (is_written (joined n j r p).status)
written_joined n j None p own = own
written_joined n j (Some why) p own = refl

written_concluded : (s : State) (n : ℕ) (end : Option Stop) → IsTrue (is_written (concluded s n end).status)
written_concluded s n None = refl
written_concluded s n (Some stop.Long) = refl
written_concluded s n (Some stop.Over) = refl

-- however lines end, the text is written whole
play_written : (s : State) (n : ℕ) (ls : List (List ℕ)) (end : Option Stop) → IsTrue (is_written (play s n ls end).status)
play_written s n [] end = written_concluded s n end
play_written s n (l ∷ ls) end = let j : Judged = judged s n l in written_joined n j j.refused (play j.state (n + 1) ls end) (play_written j.state (n + 1) ls end)

own_status : (v : Voice) (s t : State) (status : Status) (script written : List ℕ) → Does v (to_come s 1 start script) written status t → IsTrue (is_written status)
own_status v s t status script written does = subst (λ (st : Status). IsTrue (is_written st)) does.ends (play_written s 1 (lines_of start script).0 (lines_of start script).1)

module _ (v : Voice) {S K : Type 0}
    (left : S → Option (List ℕ)) (source_faults : S → ℕ) (is_reliable_source : S → Bool)
    (holds : K → Option (List ℕ)) (sink_faults : K → ℕ) (is_reliable_sink : K → Bool)
    (s t : State) (n : ℕ) (d : Cuts) (old new : S) (a b : K) (count : ℕ)
    (reading : Reading v left source_faults is_reliable_source holds sink_faults is_reliable_sink s t n d old new a b count) where
  taken : length reading.read ≤ most_bytes
  taken = let all : d.taken ≡ 0 + length reading.read = takes_taken start d reading.read reading.goes.whole reading.goes.takes in omega (arith, all, reading.stands.taken)

  pub read_few : count ≤ most_bytes
  read_few = omega (arith, taken, reading.counted)

  begins : length reading.read ≤ bytes_before (n - 1) reading.read + (longest_line + 1)
  begins =
      let before = takes_before start d reading.read reading.goes.whole reading.goes.takes in
      let same : n - 1 ≡ length reading.goes.whole = omega (arith, reading.goes.counted) in
      rw same (omega (arith, before, reading.stands.begun))

  -- ---- where nothing more is read

  pub fault_front : IfSome (left old) (λ script. AppendsFront (holds a) (holds b) (said_in v s script))
  fault_front = some_whole (left old) (left new) reading.read (λ script. AppendsFront (holds a) (holds b) (said_in v s script)) reading.consumed (λ more.
      let next = to_come_follows v holds reading.read more s t 1 n start d a b refl reading.stands.going reading.goes in
      subst (λ (p : Played). AppendsFront (holds a) (holds b) (p.says v)) (sym (is_played s (reading.read ++ more)))
      (record { front = reading.goes.written; rest = (to_come t n d more).says v; whole = next.writes; grown = reading.goes.grown }))

  -- the whole lines that were read, as a script of their own
  whole_does : Does v (played s (whole_part reading.read)) reading.goes.written Done t
  whole_does =
      let cut = whole_cut d reading.read reading.goes.whole reading.goes.takes in
      subst (λ (p : Played). Does v p reading.goes.written Done t) (sym (is_played s (whole_part reading.read) ∙ ap (play_lines s 1) cut)) reading.goes.accepted

  pub fault_whole : (l : Option (List ℕ)) → Keeps (left new) l → WritesWhole holds (said_in v) s (left old) l a b
  fault_whole l kept = record {
    read = reading.read;
    consumed = Consumes-kept (left old) (left new) l reading.read reading.consumed kept;
    accepted = whole_does.ends;
    text = subst (Appends (holds a) (holds b)) (sym whole_does.writes) reading.goes.grown;
  }

  -- at most a piece more was read, and more may be written
  writes_soon : (l : Option (List ℕ)) (p more : List ℕ) (f : K) → Consumes (left old) l (reading.read ++ p) → length p ≤ most_piece → Appends (holds b) (holds f) more → WritesSoon holds (said_in v) s (left old) l a f
  writes_soon l p more f consumed short grown = record {
    before = reading.read;
    piece = p;
    rest = more;
    consumed = consumed;
    short = short;
    accepted = whole_does.ends;
    text = subst (λ w. Appends (holds a) (holds f) (w ++ more)) (sym whole_does.writes) (Appends-trans (holds a) (holds b) (holds f) reading.goes.written more reading.goes.grown grown);
  }

  pub fault_soon : (l : Option (List ℕ)) → Keeps (left new) l → WritesSoon holds (said_in v) s (left old) l a b
  fault_soon l kept =
      let all : Consumes (left old) l (reading.read ++ []) =
      subst (Consumes (left old) l) (sym (append-nil reading.read)) (Consumes-kept (left old) (left new) l reading.read reading.consumed kept) in
      writes_soon l [] [] b all (omega arith) (Appends-nil (holds b))

  pub fault_reads : (l : Option (List ℕ)) (R : ℕ → Type 0) → Keeps (left new) l → ((k : ℕ) → R k → ⊥) → ReadsLittle (left old) l R
  fault_reads l R kept none = record {
    read = reading.read;
    consumed = Consumes-kept (left old) (left new) l reading.read reading.consumed kept;
    few = omega (arith, taken);
    soon = λ k refused. absurd (none k refused);
  }

  -- ---- at the end of the input

  module _ (l : Option (List ℕ)) (p : List ℕ) (gave : Consumes (left new) l p) (none : p ≡ []) where
    consumed : Consumes (left old) l reading.read
    consumed = subst (Consumes (left old) l) (ap (λ q. reading.read ++ q) none ∙ append-nil reading.read) (Consumes-trans (left old) (left new) l reading.read p reading.consumed gave)

    follows : Follows v reading.goes.written (to_come s 1 start reading.read) (to_come t n d [])
    follows = subst (λ q. Follows v reading.goes.written (to_come s 1 start q) (to_come t n d [])) (append-nil reading.read) (to_come_follows v holds reading.read [] s t 1 n start d a b refl reading.stands.going reading.goes)

    pub end_front : (f : K) → IsAtEnd l → AppendsFront (holds b) (holds f) ((to_come t n d []).says v) → IfSome (left old) (λ script. AppendsFront (holds a) (holds f) (said_in v s script))
    end_front f end front = Consumes-whole (left old) l reading.read (λ script. AppendsFront (holds a) (holds f) (said_in v s script)) consumed end
        (subst (λ (r : Played). AppendsFront (holds a) (holds f) (r.says v)) (sym (is_played s reading.read)) (record {
          front = reading.goes.written ++ front.front;
          rest = front.rest;
          whole = follows.writes ∙ ap (λ q. reading.goes.written ++ q) front.whole ∙ sym (append_assoc reading.goes.written front.front front.rest);
          grown = Appends-trans (holds a) (holds b) (holds f) reading.goes.written front.front reading.goes.grown front.grown;
        }))

    end_does : (status : Status) (u : State) (f : K) → (fin : Finishes v holds status t u n d b f) → Does v (to_come s 1 start reading.read) (reading.goes.written ++ fin.written) status u
    end_does status u f fin = record {
      writes = follows.writes ∙ ap (λ q. reading.goes.written ++ q) fin.does.writes;
      ends = follows.ends ∙ fin.does.ends;
      leaves = follows.leaves ∙ fin.does.leaves;
    }

    pub end_ends : (status : Status) (u : State) (f : K) → IsAtEnd l → Finishes v holds status t u n d b f → IfSome (left old) (λ script. Completes holds (said_in v) script status s u a f)
    end_ends status u f end fin = Consumes-whole (left old) l reading.read (λ script. Completes holds (said_in v) script status s u a f) consumed end
        (completes v holds s u status reading.read (reading.goes.written ++ fin.written) a f (end_does status u f fin)
        (Appends-trans (holds a) (holds b) (holds f) reading.goes.written fin.written reading.goes.grown fin.grown))

    pub end_few : (status : Status) (u : State) (f : K) → Finishes v holds status t u n d b f → u.accepted ≤ s.accepted + most_lines + MOST_ROUNDS
    end_few status u f fin = few_accepted v s u status reading.read (reading.goes.written ++ fin.written) (end_does status u f fin)

    pub end_own : (status : Status) (u : State) (f : K) → Finishes v holds status t u n d b f → IsTrue (is_written status)
    end_own status u f fin = own_status v s u status reading.read (reading.goes.written ++ fin.written) (end_does status u f fin)

    pub end_reads : (R : ℕ → Type 0) → ((k : ℕ) → R k → k ≡ n) → ReadsLittle (left old) l R
    end_reads R same = record {
      read = reading.read;
      consumed = consumed;
      few = omega (arith, taken);
      soon = λ k refused. let is = same k refused in rw is (omega (arith, begins));
    }

  -- ---- a piece more

  module _ (l : Option (List ℕ)) (p : List ℕ) (gave : Consumes (left new) l p) where
    more_consumed : Consumes (left old) l (reading.read ++ p)
    more_consumed = Consumes-trans (left old) (left new) l reading.read p reading.consumed gave

    pub piece_soon : (more : List ℕ) (f : K) → length p ≤ most_piece → Appends (holds b) (holds f) more → WritesSoon holds (said_in v) s (left old) l a f
    piece_soon more f short grown = writes_soon l p more f more_consumed short grown

    pub piece_front : (f : K) → Breaks v holds p t n d b f → IfSome (left old) (λ script. AppendsFront (holds a) (holds f) (said_in v s script))
    piece_front f breaks = some_whole (left old) l (reading.read ++ p) (λ script. AppendsFront (holds a) (holds f) (said_in v s script)) more_consumed (λ more.
        subst (λ (r : Played). AppendsFront (holds a) (holds f) (r.says v)) (sym (is_played s ((reading.read ++ p) ++ more)))
        (breaks_after v holds reading.read p s t 1 n start d a b refl reading.stands.going reading.goes f breaks more))

    module _ (status : Status) (u : State) (f : K) (ends : Ends v holds p status t u n d b f) where
      all : Ends v holds (reading.read ++ p) status s u 1 start a f
      all = ends_after v holds reading.read p s t 1 n start d a b refl reading.stands.going reading.goes status u f ends

      pub piece_ends : IfSome (left old) (λ script. Completes holds (said_in v) script status s u a f)
      piece_ends = some_whole (left old) l (reading.read ++ p) (λ script. Completes holds (said_in v) script status s u a f) more_consumed (λ more.
          completes v holds s u status ((reading.read ++ p) ++ more) all.written a f (all.does more) all.grown)

      pub piece_few : u.accepted ≤ s.accepted + most_lines + MOST_ROUNDS
      piece_few = few_accepted v s u status ((reading.read ++ p) ++ []) all.written (all.does [])

      pub piece_own : IsTrue (is_written status)
      piece_own = own_status v s u status ((reading.read ++ p) ++ []) all.written (all.does [])

    pub piece_reads : (R : ℕ → Type 0) → ((k : ℕ) → R k → n ≤ k) → length p ≤ most_piece → length p + count ≤ most_bytes + 1 → ReadsLittle (left old) l R
    piece_reads R later short fits = record {
      read = reading.read ++ p;
      consumed = more_consumed;
      few = omega (arith, fits, reading.counted, length-append reading.read p);
      soon = λ k refused.
          let most : n - 1 ≤ k - 1 = let is = later k refused in omega (arith, is) in
          let behind = before_later (n - 1) (k - 1) reading.read p most in
          omega (arith, behind, begins, short, length-append reading.read p);
    }

    pub piece_reading : (u : State) (m : ℕ) (e : Cuts) (f : K) (next : S) (k : ℕ) → k ≡ count + length p → left next ≡ l → GoesOn v holds p t u n m d e b f → source_faults new ≤ source_faults next → (IsTrue (is_reliable_source new) → IsTrue (is_reliable_source next))
        → sink_faults b ≤ sink_faults f → (IsTrue (is_reliable_sink b) → IsTrue (is_reliable_sink f))
        → Reading v left source_faults is_reliable_source holds sink_faults is_reliable_sink s u m e old next a f k
    piece_reading u m e f next k sum is goes source_count source_reliable sink_count sink_reliable = record {
      read = reading.read ++ p;
      consumed = subst (λ o. Consumes (left old) o (reading.read ++ p)) (sym is) more_consumed;
      counted = omega (arith, sum, reading.counted, length-append reading.read p);
      goes = goes_more v holds reading.read p s t u 1 n m start d e a b f reading.goes goes;
      stands = subst (StandsAt e) (sym goes.counted) (takes_stands d e p goes.whole n goes.takes reading.stands);
      source_count = omega (arith, reading.source_count, source_count);
      source_reliable = λ h. source_reliable (reading.source_reliable h);
      sink_count = omega (arith, reading.sink_count, sink_count);
      sink_reliable = λ h. sink_reliable (reading.sink_reliable h);
    }

-- A script that is played in pieces: how far, and how that ends.
use Rattle.std.specs.Prelude.{◌≡◌, ◌≢◌, ℕ, zero, suc, ◌+◌, ◌-◌, ◌≤◌, ◌<◌, List, [], ◌∷◌, ◌++◌, length, false, ◌||◌, if◌then◌else◌, Option, None}
use Rattle.std.specs.Io.KnownBytes.{Appends, Consumes}
use Rattle.std.specs.List.{list_any}
use Rattle.scenario.specs.declared.cutter.Cutting.TheVariants.{More, Line}
use Rattle.scenario.specs.declared.cutter.Cutting.{Cutting}
use Rattle.scenario.specs.Cutting.{Cuts, Lines, cut_before, longest_line, most_lines, most_bytes, is_lf, is_over, after_byte, lines_of}
use Rattle.network_model.specs.State.{State}
use Rattle.script_run.specs.declared.refusal.Refusal.{Refusal}
use Rattle.script_run.specs.declared.status.Status.{Status}
use Rattle.script_run.specs.declared.status.Status.TheVariants.{Done, Refused}
use Rattle.script_run.specs.Output.{AppendsFront}
use Rattle.script_run.specs.declared.voice.Voice.{Voice}
use Rattle.script_run.specs.Text.{Played, play, play_lines, fate_of, end_of}

-- ---- bytes

-- how many bytes are read at once, at most
abbrev pub most_piece : ℕ
most_piece = 8192

-- the whole lines: all bytes up to the last LF
abbrev pub whole_part : List ℕ → List ℕ
whole_part [] = []
whole_part (b ∷ bytes) = if is_lf b || list_any is_lf bytes then b ∷ whole_part bytes else []

-- how many bytes stand before the line behind so many others: those up to the LF of the last of them
abbrev pub bytes_before : ℕ → List ℕ → ℕ
bytes_before zero bytes = 0
bytes_before (suc n) [] = 0
bytes_before (suc n) (b ∷ bytes) = 1 + (if is_lf b then bytes_before n bytes else bytes_before (suc n) bytes)

-- ---- a script that is played in pieces

-- the next bytes are taken one by one, and nothing stops there: the whole lines among them, and where the script stands
-- behind them
pub data Takes : Cuts → List ℕ → List (List ℕ) → Cuts → Type 0 where
  takes_none : (c : Cuts) → Takes c [] [] c
  takes_more : (c d e : Cuts) (b : ℕ) (bytes : List ℕ) (whole : List (List ℕ)) → is_over c b ≡ false
      → after_byte c b ≡ (More, d) → Takes d bytes whole e → Takes c (b ∷ bytes) whole e
  takes_line : (c d e : Cuts) (b : ℕ) (bytes : List ℕ) (whole : List (List ℕ)) → is_over c b ≡ false
      → after_byte c b ≡ (Line, d) → Takes d bytes whole e → Takes c (b ∷ bytes) (d.line ∷ whole) e

-- what lines do, with what is written of them
pub record Does (v : Voice) (p : Played) (text : List ℕ) (status : Status) (state : State) : Type 0 where
  pub writes : p.says v ≡ text
  pub ends : p.status ≡ status
  pub leaves : p.state ≡ state

-- the lines that an answer of the cutter shows, and why none comes behind them
abbrev pub shown_lines : Cutting → Cuts → Lines
shown_lines what c = cut_before (what, c) ([], None)

-- the lines that are still to come, from a state on, do this
abbrev pub to_come : State → ℕ → Cuts → List ℕ → Played
to_come s number c bytes = play_lines s number (lines_of c bytes)

-- a script stands between two of its lines, or within one, and the line that comes has this number
pub record StandsAt (c : Cuts) (number : ℕ) : Type 0 where
  pub going : c.stopped ≡ None
  pub counted : number ≡ c.number + 1
  pub few : c.number ≤ most_lines
  pub last : 0 < length c.begun → c.number < most_lines
  pub begun : length c.begun ≤ longest_line + 1
  pub taken : c.taken ≤ most_bytes

module _ (v : Voice) {K : Type 0} (holds : K → Option (List ℕ)) where
  -- these lines are accepted, and they are answered; of the network's state, the number of the line that comes and the
  -- sink there is what each was and what it is now
  pub record Accepts (lines : Lines) (s t : State) (number number' : ℕ) (sink sink' : K) : Type 0 where
    pub written : List ℕ
    pub goes_on : lines.1 ≡ None
    pub accepted : Does v (play s number lines.0 None) written Done t
    pub counted : number' ≡ number + length lines.0
    pub grown : Appends (holds sink) (holds sink') written

  -- the script ends with these lines, and all that it writes is written
  pub record Stops (lines : Lines) (status : Status) (s t : State) (number : ℕ) (sink sink' : K) : Type 0 where
    pub written : List ℕ
    pub ends : status ≢ Done
    pub does : Does v (play_lines s number lines) written status t
    pub line : (n : ℕ) (why : Refusal) → status ≡ Refused n why → n ≡ number
    pub grown : Appends (holds sink) (holds sink') written

  -- the next bytes were taken, and each whole line in them was accepted and is answered; of the network's state, the
  -- number of the line that comes, the place in the script and the sink there is what each was and what it is now
  pub record GoesOn
      (bytes : List ℕ) (s t : State) (number number' : ℕ) (c d : Cuts) (sink sink' : K) : Type 0 where
    pub whole : List (List ℕ)
    pub written : List ℕ
    pub takes : Takes c bytes whole d
    pub accepted : Does v (play s number whole None) written Done t
    pub counted : number' ≡ number + length whole
    pub grown : Appends (holds sink) (holds sink') written

  -- the script ended within the next bytes, whatever stands behind them, and all that it writes is written
  pub record Ends
      (bytes : List ℕ) (status : Status) (s t : State) (number : ℕ) (c : Cuts) (sink sink' : K) : Type 0 where
    pub written : List ℕ
    pub stops : status ≢ Done
    pub does : (more : List ℕ) → Does v (to_come s number c (bytes ++ more)) written status t
    pub line : (n : ℕ) (why : Refusal) → status ≡ Refused n why → number ≤ n
    pub grown : Appends (holds sink) (holds sink') written

  -- a front of what the script writes is written, whatever stands behind the next bytes
  abbrev pub Breaks : List ℕ → State → ℕ → Cuts → K → K → Type 0
  Breaks bytes s number c sink sink' = (more : List ℕ)
      → AppendsFront (holds sink) (holds sink') ((to_come s number c (bytes ++ more)).says v)

  -- the script ended, and all that it writes is written
  pub record Finishes (status : Status) (s t : State) (number : ℕ) (c : Cuts) (sink sink' : K) : Type 0 where
    pub written : List ℕ
    pub does : Does v (to_come s number c []) written status t
    pub line : (n : ℕ) (why : Refusal) → status ≡ Refused n why → n ≡ number
    pub grown : Appends (holds sink) (holds sink') written

-- ---- a whole script

-- where this text is written of a script, from a state on
module _ {K : Type 0} (holds : K → Option (List ℕ)) (text_in : State → List ℕ → List ℕ) where
  -- this is the script's fate, all of its text is written, and the network's state is that after it
  pub record Completes (script : List ℕ) (status : Status) (s t : State) (sink sink' : K) : Type 0 where
    pub fate : status ≡ fate_of s script
    pub text : Appends (holds sink) (holds sink') (text_in s script)
    pub state : t ≡ end_of s script

  -- these bytes of a script were read; the whole lines among them are accepted, and just their text is written
  pub record WritesWhole (s : State) (left left' : Option (List ℕ)) (sink sink' : K) : Type 0 where
    pub read : List ℕ
    pub consumed : Consumes left left' read
    pub accepted : fate_of s (whole_part read) ≡ Done
    pub text : Appends (holds sink) (holds sink') (text_in s (whole_part read))

  -- these bytes of a script were read, and a piece of at most 8,192 behind them; the whole lines among the first are
  -- accepted, and what is written begins with the text of all of them
  pub record WritesSoon (s : State) (left left' : Option (List ℕ)) (sink sink' : K) : Type 0 where
    pub before : List ℕ
    pub piece : List ℕ
    pub rest : List ℕ
    pub consumed : Consumes left left' (before ++ piece)
    pub short : length piece ≤ most_piece
    pub accepted : fate_of s (whole_part before) ≡ Done
    pub text : Appends (holds sink) (holds sink') (text_in s (whole_part before) ++ rest)

-- what was read of a script: at most one byte more than a script may have, and where a line is refused, fewer than
-- 20,000 bytes past the first byte of that line
pub record ReadsLittle (left left' : Option (List ℕ)) (IsRefused : ℕ → Type 0) : Type 0 where
  pub read : List ℕ
  pub consumed : Consumes left left' read
  pub few : length read ≤ most_bytes + 1
  pub soon : (n : ℕ) → IsRefused n → length read < bytes_before (n - 1) read + 20000

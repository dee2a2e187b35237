-- What the form `capture` promises.
use Rattle.std.specs.Prelude.{◌≡◌, ℕ, List, ◌++◌, Option, Bool, IfSome, IsTrue, ◌⊎◌}
use Rattle.std.specs.Io.KnownBytes.{Appends, IsAtEnd}
use Rattle.frame_capture.specs.Capture.{header_bytes}
use Rattle.network_model.specs.Captured.{captured}
use Rattle.network_model.specs.Counted.{IsCounted}
use Rattle.network_model.specs.Sound.{IsSoundState}
use Rattle.network_model.specs.State.{State}
use Rattle.script_run.specs.declared.status.Status.{Status}
use Rattle.script_run.specs.declared.status.Status.TheVariants.{Done, Refused, NoMemory, ReadFault}
use Rattle.script_run.specs.declared.refusal.Refusal.{Refusal}
use Rattle.script_run.specs.Output.{AppendsFront}
use Rattle.script_run.specs.Pieces.{WritesWhole, WritesSoon, ReadsLittle}
use Rattle.script_run.specs.Play.{packets_of}
use Rattle.script_run.specs.Run.{is_written, is_ended, is_cut}
use Rattle.script_run.specs.Text.{lines_played, commands_in, fate_of, end_of}

-- what is written of a script: a header, and the packets of all frames that the accepted commands deliver, in order
abbrev pub capture_text : State → List ℕ → List ℕ
capture_text s script = header_bytes ++ packets_of (captured s (commands_in s 1 (lines_played script)))

-- no more than a front of the header is written, nothing is read, and nothing is played
pub record BreaksAtHeader {S K : Type 0} (holds : K → Option (List ℕ)) (s t : State) (source source' : S)
    (sink sink' : K) : Type 0 where
  pub header : AppendsFront (holds sink) (holds sink') header_bytes
  pub unread : source' ≡ source
  pub unplayed : t ≡ s

module _
    {S K : Type 0} (left : S → Option (List ℕ)) (is_reliable_source : S → Bool)
    (holds : K → Option (List ℕ)) (is_reliable_sink : K → Bool) where
  -- A script that the source had left was played on a network, and captured to the sink. It ended with this status; of
  -- the network's state, the source and the sink there is what each was before and what it is now. Neither answers nor
  -- an `error` line are written.
  pub record Captures (status : Status) (s t : State) (source source' : S) (sink sink' : K) : Type 0 where
    -- The status is the script's fate and its whole capture is written, unless the run was cut short.
    pub fate : IsTrue (is_written status) → IfSome (left source) (λ script. status ≡ fate_of s script)
    pub text : IsTrue (is_written status) → IfSome (left source) (λ script.
        Appends (holds sink) (holds sink') (capture_text s script))
    pub ended : status ≡ Done → IsAtEnd (left source')
    -- A run that ended by itself leaves the network as the accepted lines make it, sound and with its sequence numbers
    -- far from the last one.
    pub state : IsTrue (is_ended status) → IfSome (left source) (λ script. t ≡ end_of s script)
    pub sound : IsTrue (is_ended status) → IsSoundState t
    pub counted : IsTrue (is_ended status) → IsCounted t
    -- A run that was cut short wrote a front of the capture.
    pub front : IsTrue (is_cut status) → IfSome (left source) (λ script.
        AppendsFront (holds sink) (holds sink') (capture_text s script))
    -- Where a read failed, all whole lines that the source gave are accepted, and just their capture is written.
    pub whole : status ≡ ReadFault → WritesWhole holds capture_text s (left source) (left source') sink sink'
    -- The header is written before anything is read. However the run ended behind it, all whole lines that were read
    -- are accepted and captured, but for those that end in the last 8,192 bytes that were read.
    pub prompt : (IsTrue (is_cut status) × BreaksAtHeader holds s t source source' sink sink')
        ⊎ WritesSoon holds capture_text s (left source) (left source') sink sink'
    -- At most one byte more is read than a script may have, and little behind a line that is refused.
    pub reads : ReadsLittle (left source) (left source') (λ n. (why : Refusal) × (status ≡ Refused n why))
    -- Over a source and a sink that don't fail, only memory can run out.
    pub complete : IsTrue (is_reliable_source source) → IsTrue (is_reliable_sink sink) → IfSome (left source) (λ script.
        (status ≡ fate_of s script) ⊎ (status ≡ NoMemory))

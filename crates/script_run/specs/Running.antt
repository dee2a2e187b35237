-- What the form `run` promises.
use Rattle.std.specs.Prelude.{◌≡◌, ℕ, List, Option, Bool, IfSome, IsTrue, ◌⊎◌}
use Rattle.std.specs.Io.KnownBytes.{Appends, IsAtEnd}
use Rattle.network_model.specs.Counted.{IsCounted}
use Rattle.network_model.specs.Sound.{IsSoundState}
use Rattle.network_model.specs.State.{State}
use Rattle.network_model.specs.Convergence.{QuietIsConverged}
use Rattle.script_run.specs.declared.status.Status.{Status}
use Rattle.script_run.specs.declared.status.Status.TheVariants.{Done, Refused, NoMemory, ReadFault}
use Rattle.script_run.specs.declared.refusal.Refusal.{Refusal}
use Rattle.script_run.specs.Output.{AppendsFront}
use Rattle.script_run.specs.Pieces.{WritesWhole, WritesSoon, ReadsLittle}
use Rattle.script_run.specs.Run.{is_written, is_ended, is_cut}
use Rattle.script_run.specs.Commands.{AllLeaveEntered, AllDeliverOnce}
use Rattle.script_run.specs.Questions.{AllForetell, AllAreProven}
use Rattle.script_run.specs.Rounds.{AllRoundsSettle}
use Rattle.script_run.specs.States.{IsTrusted}
use Rattle.script_run.specs.Text.{lines_played, text_of, fate_of, end_of, commands_in, AllStates}

module _
    {S K : Type 0} (left : S → Option (List ℕ)) (is_reliable_source : S → Bool)
    (holds : K → Option (List ℕ)) (is_reliable_sink : K → Bool) where
  -- A script that the source had left was played on a network and answered to the sink. It ended with this status; of
  -- the network's state, the source and the sink there is what each was before and what it is now.
  pub record Runs (status : Status) (s t : State) (source source' : S) (sink sink' : K) : Type 0 where
    -- The status is the script's fate and all of its text is written, unless the run was cut short.
    pub fate : IsTrue (is_written status) → IfSome (left source) (λ script. status ≡ fate_of s script)
    pub text : IsTrue (is_written status) → IfSome (left source) (λ script.
        Appends (holds sink) (holds sink') (text_of s script))
    pub ended : status ≡ Done → IsAtEnd (left source')
    -- A run that ended by itself leaves the network as the accepted lines make it.
    pub state : IsTrue (is_ended status) → IfSome (left source) (λ script. t ≡ end_of s script)
    -- The network is sound then, with its sequence numbers far from the last one. Where it is quiet then, it is
    -- converged: the graph of every bridge is the part of the wiring that it reaches, and its tables are those that are
    -- wired for it. And so it is after each line of the script that is accepted.
    pub sound : IsTrue (is_ended status) → IsSoundState t
    pub counted : IsTrue (is_ended status) → IsCounted t
    pub converged : IsTrue (is_ended status) → QuietIsConverged t
    pub quiet : IfSome (left source) (λ script. AllStates IsTrusted s 1 (lines_played script))
    -- A `round` line of 2(n - 1) + 6 to 4n + 16 rounds, n being the number of bridges, ends in quiet, where the network
    -- is ready for 4n + 16 of them before it.
    pub settles : IfSome (left source) (λ script. AllRoundsSettle s (commands_in s 1 (lines_played script)))
    -- Where it is quiet after some line, a group frame that enters by the next one, and is then delivered, leaves once
    -- at each other port where it has to.
    pub once : IfSome (left source) (λ script. AllDeliverOnce s (commands_in s 1 (lines_played script)))
    -- Quiet or not, what leaves has entered the same service: each frame that an accepted line lets out leaves at a
    -- port that is attached at that moment to an I-SID, and in this I-SID it entered by a line so far, byte for byte.
    pub apart : IfSome (left source) (λ script. AllLeaveEntered s (commands_in s 1 (lines_played script)))
    -- What `whatif` answers comes true: between the state at such a line and each quiet one that a later line leaves,
    -- if it was quiet too and the wiring is that after the change alone, the rows of each bridge change as answered.
    pub foretold : IfSome (left source) (λ script. AllForetell s 1 (lines_played script))
    -- A `check` that no bridge fails is answered with the best path, and what `proof` answers passes a check.
    pub proofs : IfSome (left source) (λ script. AllAreProven s 1 (lines_played script))
    -- A run that was cut short wrote a front of the text.
    pub front : IsTrue (is_cut status) → IfSome (left source) (λ script.
        AppendsFront (holds sink) (holds sink') (text_of s script))
    -- Where a read failed, all whole lines that the source gave are accepted, and just their answers are written.
    pub whole : status ≡ ReadFault → WritesWhole holds text_of s (left source) (left source') sink sink'
    -- However it ended, all whole lines that were read are accepted and answered, but for those that end in the last
    -- 8,192 bytes that were read. Any write may fail, so this much is answered before each.
    pub prompt : WritesSoon holds text_of s (left source) (left source') sink sink'
    -- At most one byte more is read than a script may have, and little behind a line that is refused.
    pub reads : ReadsLittle (left source) (left source') (λ n. (why : Refusal) × (status ≡ Refused n why))
    -- Over a source and a sink that don't fail, only memory can run out.
    pub complete : IsTrue (is_reliable_source source) → IsTrue (is_reliable_sink sink) → IfSome (left source) (λ script.
        (status ≡ fate_of s script) ⊎ (status ≡ NoMemory))

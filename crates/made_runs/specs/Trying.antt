-- What the form `try N` promises.
use Rattle.std.specs.Prelude.{◌≡◌, ℕ, List, Option, Some, None, Bool, IsTrue, ◌⊎◌}
use Rattle.std.specs.Io.KnownBytes.{Appends}
use Rattle.report.specs.Lines.{error_text, try_text}
use Rattle.scenario_maker.specs.Made.{made}
use Rattle.spb_world.specs.declared.reason.Reason.{Reason}
use Rattle.spb_world.specs.Reason.{reason_number, name_of}
use Rattle.network_model.specs.State.{State}
use Rattle.made_runs.specs.declared.counts.Counts.{Counts}
use Rattle.script_run.specs.declared.refusal.Refusal.TheVariants as refusal
use Rattle.script_run.specs.declared.status.Status.{Status}
use Rattle.script_run.specs.declared.status.Status.TheVariants.{Done, Refused, NoMemory, WriteFault}
use Rattle.made_runs.specs.Applied.{Applied, applied, counts_of}
use Rattle.made_runs.specs.MadeLaws.{HasBoxes}
use Rattle.script_run.specs.Output.{AppendsFront}
use Rattle.script_run.specs.Run.{is_ended, is_cut}

-- the line of what was counted, or of the command that is refused
abbrev pub summary_by : ℕ → Option (ℕ × Reason) → Counts → List ℕ
summary_by bridges None counts = try_text bridges counts.lines counts.shows counts.same counts.outs
summary_by bridges (Some stop) counts = error_text stop.0 (reason_number stop.1) (name_of stop.1) None

abbrev pub summary_of : ℕ → Applied → List ℕ
summary_of bridges a = summary_by bridges a.refused (counts_of a.answers)

-- Done, unless a command is refused
abbrev pub outcome_of : Option (ℕ × Reason) → Status
outcome_of None = Done
outcome_of (Some stop) = Refused stop.0 (refusal.Command stop.1)

-- what the script that is made for so many bridges does
abbrev pub tried : State → ℕ → Applied
tried s bridges = applied s 1 (made bridges)

module _ {S K : Type 0} (holds : K → Option (List ℕ)) (is_reliable : K → Bool) where
  -- The script for so many bridges was played on a network, and one line was written to the sink. It ended with this
  -- status; of the network's state, the source and the sink there is what each was before and what it is now.
  pub record Tries
      (bridges : ℕ) (status : Status) (s t : State) (source source' : S) (sink sink' : K) : Type 0 where
    -- It ends as its commands do, unless it was cut short.
    pub ends : (status ≡ outcome_of (tried s bridges).refused) ⊎ (status ≡ NoMemory) ⊎ (status ≡ WriteFault)
    -- The one line is written, or a front of it where that was cut short.
    pub text : IsTrue (is_ended status) → Appends (holds sink) (holds sink') (summary_of bridges (tried s bridges))
    pub front : IsTrue (is_cut status) →
        AppendsFront (holds sink) (holds sink') (summary_of bridges (tried s bridges))
    -- It leaves the network as the accepted commands make it.
    pub state : IsTrue (is_ended status) → t ≡ (tried s bridges).state
    -- Nothing is read.
    pub unread : source' ≡ source
    -- Over a sink that doesn't fail, only memory can run out.
    pub complete : IsTrue (is_reliable sink) →
        (status ≡ outcome_of (tried s bridges).refused) ⊎ (status ≡ NoMemory)
    -- And it is Done then, where the rack has boxes enough: of each kind that the rule uses, one more than bridges.
    pub done : HasBoxes s.rule s.rack bridges → IsTrue (is_reliable sink) → (status ≡ Done) ⊎ (status ≡ NoMemory)

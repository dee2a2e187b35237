-- What the form `list` promises.
use Rattle.std.specs.Prelude.{◌≡◌, ℕ, ◌+◌, ◌≤◌, List, length, Option, Bool, IfSome, IsTrue, ◌⊎◌}
use Rattle.std.specs.Io.KnownBytes.{Appends, Consumes, IsAtEnd}
use Rattle.frame_capture.specs.Grammar.{IsCaptureOf}
use Rattle.frame_capture.specs.declared.delivered.Delivered.{Delivered}
use Rattle.frame_capture.specs.declared.order.Order.{Order}
use Rattle.script_run.specs.Output.{AppendsFront}
use Rattle.script_run.specs.Run.{is_written, is_ended, is_cut}
use Rattle.script_run.specs.declared.status.Status.{Status}
use Rattle.script_run.specs.declared.status.Status.TheVariants.{Done, NoMemory, ReadFault, TooLong}
use Rattle.capture_list.specs.Listing.{most_listed, listing}

-- what was read: at most one byte more than a file may have
pub record ReadsFew (left left' : Option (List ℕ)) : Type 0 where
  pub read : List ℕ
  pub consumed : Consumes left left' read
  pub few : length read ≤ most_listed + 1

module _
    {S K : Type 0} (left : S → Option (List ℕ)) (is_reliable_source : S → Bool)
    (holds : K → Option (List ℕ)) (is_reliable_sink : K → Bool) where
  -- The file that the source had left was listed to the sink. It ended with this status; of the source and the sink
  -- there is what each was before and what it is now.
  pub record Lists (status : Status) (source source' : S) (sink sink' : K) : Type 0 where
    -- The status is that of the file's listing, all of which is written, unless it was cut short.
    pub fate : IsTrue (is_written status) → IfSome (left source) (λ bytes. status ≡ (listing bytes).status)
    pub text : IsTrue (is_written status) → IfSome (left source) (λ bytes.
        Appends (holds sink) (holds sink') (listing bytes).text)
    -- The file is read to its end then, unless it is too long.
    pub ended : IsTrue (is_ended status) → IsAtEnd (left source')
    -- Where it was cut short, a front of the listing is written, and nothing where a read failed.
    pub front : IsTrue (is_cut status) → IfSome (left source) (λ bytes.
        AppendsFront (holds sink) (holds sink') (listing bytes).text)
    pub silent : (status ≡ ReadFault) ⊎ (status ≡ TooLong) → sink' ≡ sink
    pub few : ReadsFew (left source) (left source')
    -- Over a source and a sink that don't fail, only memory can run out.
    pub complete : IsTrue (is_reliable_source source) → IsTrue (is_reliable_sink sink) → IfSome (left source) (λ bytes.
        (status ≡ (listing bytes).status) ⊎ (status ≡ NoMemory))
    -- And it is Done then, where the file is a capture that isn't too long.
    pub done : IsTrue (is_reliable_source source) → IsTrue (is_reliable_sink sink) → IfSome (left source) (λ bytes.
        (o : Order) (ds : List Delivered) → IsCaptureOf o ds bytes → length bytes ≤ most_listed
        → (status ≡ Done) ⊎ (status ≡ NoMemory))

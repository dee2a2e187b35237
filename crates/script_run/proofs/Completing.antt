-- What is said of a script that was played to where it ends, by the bytes that the source had left.
use Rattle.std.proofs.Common.{◌≡◌, ℕ, List, Option, Some, None, IfSome, ◌⊎◌, inl}
use Rattle.std.specs.Io.KnownBytes.{Appends}
use Rattle.network_model.specs.State.{State}
use Rattle.script_run.specs.declared.status.Status.{Status}
use Rattle.script_run.specs.declared.status.Status.TheVariants.{NoMemory}
use Rattle.script_run.specs.Pieces.{Completes}
use Rattle.script_run.specs.Text.{fate_of, end_of}

pub if_some : (o : Option (List ℕ)) (P Q : List ℕ → Type 0) → ((script : List ℕ) → P script → Q script) → IfSome o P → IfSome o Q
if_some None P Q each holds = tt
if_some (Some script) P Q each holds = each script holds

module _ {K : Type 0} (holds : K → Option (List ℕ)) (text_in : State → List ℕ → List ℕ) (left : Option (List ℕ)) (status : Status) (s t : State) (a b : K)
    (completes : IfSome left (λ script. Completes holds text_in script status s t a b)) where
  pub is_fate : IfSome left (λ script. status ≡ fate_of s script)
  is_fate = if_some left (λ script. Completes holds text_in script status s t a b) (λ script. status ≡ fate_of s script) (λ script c. c.fate) completes

  pub is_text : IfSome left (λ script. Appends (holds a) (holds b) (text_in s script))
  is_text = if_some left (λ script. Completes holds text_in script status s t a b) (λ script. Appends (holds a) (holds b) (text_in s script)) (λ script c. c.text) completes

  pub is_end : IfSome left (λ script. t ≡ end_of s script)
  is_end = if_some left (λ script. Completes holds text_in script status s t a b) (λ script. t ≡ end_of s script) (λ script c. c.state) completes

  pub is_complete : IfSome left (λ script. (status ≡ fate_of s script) ⊎ (status ≡ NoMemory))
  is_complete = if_some left (λ script. Completes holds text_in script status s t a b) (λ script. (status ≡ fate_of s script) ⊎ (status ≡ NoMemory)) (λ script c. inl c.fate) completes

use Rattle.std.proofs.Common.{None, Some, IfSome, ◌≡◌, ℕ, ◌≤◌, Bool, List, [], ◌++◌, Option, IsTrue, refl, sym, ap, ◌∙◌, subst, append_assoc, arith}
use Rattle.std.specs.Io.KnownBytes.{Appends}
use Rattle.std.proofs.KnownBytes.{Appends-nil, Appends-trans}
use Rattle.script_run.specs.Output.{AppendsFront}

-- known bytes grew by a front of these bytes, and `rest` is what is left of them
pub record Writes (old new : Option (List ℕ)) (bytes rest : List ℕ) : Type 0 where
  pub front : List ℕ
  pub split : bytes ≡ front ++ rest
  pub grown : Appends old new front

-- a sink took a front of these bytes, and `rest` is what is left of them. It may have failed, unless it is reliable
pub record Writing {K : Type 0} (holds : K → Option (List ℕ)) (faults : K → ℕ) (is_reliable : K → Bool) (old new : K) (bytes rest : List ℕ) : Type 0 where
  pub writes : Writes (holds old) (holds new) bytes rest
  pub count : faults old ≤ faults new
  pub reliable : IsTrue (is_reliable old) → IsTrue (is_reliable new)

-- nothing was written yet
pub Writes-nil : (a : Option (List ℕ)) (bytes : List ℕ) → Writes a a bytes bytes
Writes-nil a bytes = record { front = []; split = refl; grown = Appends-nil a }

-- a piece of what was left was written
pub Writes-more : (a b c : Option (List ℕ)) (bytes piece rest : List ℕ) → Writes a b bytes (piece ++ rest) → Appends b c piece → Writes a c bytes rest
Writes-more a b c bytes piece rest w more =
    record {
      front = w.front ++ piece;
      split = w.split ∙ sym (append_assoc w.front piece rest);
      grown = Appends-trans a b c w.front piece w.grown more;
    }

-- what was written is a front of the whole
pub AppendsFront-writes : (a b : Option (List ℕ)) (bytes rest : List ℕ) → Writes a b bytes rest → AppendsFront a b bytes
AppendsFront-writes a b bytes rest w = record { front = w.front; rest = rest; whole = w.split; grown = w.grown }

-- a front of what was left is a front of the whole
pub AppendsFront-more : (a b c : Option (List ℕ)) (bytes piece rest : List ℕ) → Writes a b bytes (piece ++ rest) → AppendsFront b c piece → AppendsFront a c bytes
AppendsFront-more a b c bytes piece rest w more =
    AppendsFront-writes a c bytes (more.rest ++ rest)
    (Writes-more a b c bytes more.front (more.rest ++ rest) (subst (Writes a b bytes) (ap (λ p. p ++ rest) more.whole ∙ append_assoc more.front more.rest rest) w) more.grown)

-- the sink took a piece of what was left
pub Writing-more : {K : Type 0} (holds : K → Option (List ℕ)) (faults : K → ℕ) (is_reliable : K → Bool) (a b c : K) (bytes piece rest : List ℕ)
    → Writing holds faults is_reliable a b bytes (piece ++ rest) → Appends (holds b) (holds c) piece → faults b ≤ faults c → (IsTrue (is_reliable b) → IsTrue (is_reliable c))
    → Writing holds faults is_reliable a c bytes rest
Writing-more holds faults is_reliable a b c bytes piece rest w more count reliable =
    record {
      writes = Writes-more (holds a) (holds b) (holds c) bytes piece rest w.writes more;
      count = omega (arith, w.count);
      reliable = λ h. reliable (w.reliable h);
    }

-- nothing is a front of whatever is to be written
pub AppendsFront-nil : (a : Option (List ℕ)) (bytes : List ℕ) → AppendsFront a a bytes
AppendsFront-nil a bytes = AppendsFront-writes a a bytes bytes (Writes-nil a bytes)

pub AppendsFront-none : (left a : Option (List ℕ)) (text : List ℕ → List ℕ) → IfSome left (λ script. AppendsFront a a (text script))
AppendsFront-none None a text = tt
AppendsFront-none (Some script) a text = AppendsFront-nil a (text script)

-- A file that a source gives in pieces, and what is known of it then.
use Rattle.std.proofs.Common.{◌≡◌, ◌⊎◌, inl, inr, ℕ, ◌+◌, ◌≤◌, ◌<◌, Bool, false, true≢false, List, ◌++◌, length, Option, Some, None, IfSome, IsTrue, refl, sym, ap, ◌∙◌, subst, length-append, arith}
use Rattle.std.specs.Io.KnownBytes.{Consumes, IsAtEnd}
use Rattle.std.proofs.KnownBytes.{Consumes-trans, Consumes-whole}
use Rattle.std.proofs.lemmas.Bool.{cases_lt}
use Rattle.frame_capture.specs.Grammar.{IsCaptureOf}
use Rattle.frame_capture.specs.declared.delivered.Delivered.{Delivered}
use Rattle.frame_capture.specs.declared.order.Order.{Order}
use Rattle.script_run.specs.Output.{AppendsFront}
use Rattle.script_run.specs.declared.status.Status.{Status}
use Rattle.script_run.specs.declared.status.Status.TheVariants.{Done, Refused, Usage, NoMemory, ReadFault, WriteFault, TooLong}
use Rattle.script_run.specs.Run.{is_written, is_ended, is_cut}
use Rattle.capture_list.specs.Listing.{most_listed, Listing, listing}
use Rattle.capture_list.specs.Lists.{ReadsFew}
use Rattle.script_run.proofs.Putting.{Front-nil}
use Rattle.capture_list.proofs.Telling.{listing_long, frames_are_listed}

-- these bytes were read, and no more than a file may have. The source may have failed, unless it is reliable
pub record Gathering {S : Type 0} (left : S → Option (List ℕ)) (faults : S → ℕ) (is_reliable : S → Bool) (old new : S) (bytes : List ℕ) : Type 0 where
  pub consumed : Consumes (left old) (left new) bytes
  pub few : length bytes ≤ most_listed
  pub count : faults old ≤ faults new
  pub reliable : IsTrue (is_reliable old) → IsTrue (is_reliable new)

-- a piece more was read
pub few_more : (a b c : Option (List ℕ)) (before piece : List ℕ) (read count : ℕ) → Consumes a b before → Consumes b c piece → length piece ≤ count → read ≡ length before
    → read + count ≤ most_listed + 1 → ReadsFew a c
few_more a b c before piece read count first second short is few = record {
  read = before ++ piece;
  consumed = Consumes-trans a b c before piece first second;
  few = omega (arith, length-append before piece, short, is, few);
}

-- a file that was read to its end, or to the first byte past the limit, is listed as what was read
pub as_read : (a b : Option (List ℕ)) (read : List ℕ) (P : Listing → Type 0) → Consumes a b read → (length read ≤ most_listed → IsAtEnd b) → P (listing read) → IfSome a (λ bytes. P (listing bytes))
as_read a b read P consumed end holds = by_length (cases_lt most_listed (length read))
  where
    same : (more : List ℕ) → most_listed < length read → listing (read ++ more) ≡ listing read
    same more high = listing_long (read ++ more) (omega (arith, high, length-append read more)) ∙ sym (listing_long read high)

    longer : (a b : Option (List ℕ)) → Consumes a b read → most_listed < length read → IfSome a (λ bytes. P (listing bytes))
    longer None b consumed high = tt
    longer (Some x) None consumed high = absurd consumed
    longer (Some x) (Some y) consumed high = subst (λ bytes. P (listing bytes)) (sym consumed) (subst P (sym (same y high)) holds)

    by_length : (most_listed < length read) ⊎ (length read ≤ most_listed) → IfSome a (λ bytes. P (listing bytes))
    by_length (inl high) = longer a b consumed high
    by_length (inr low) = Consumes-whole a b read (λ bytes. P (listing bytes)) consumed (end low) holds

pub none : {P : Type 0} → IsTrue false → P
none e = absurd (true≢false (sym e))

-- a run that ended by itself isn't cut short
pub ended_one : {P : Type 0} (status : Status) → IsTrue (is_ended status) → IsTrue (is_cut status) → P
ended_one Done ended cut = none cut
ended_one (Refused line why) ended cut = none cut
ended_one Usage ended cut = none ended
ended_one NoMemory ended cut = none ended
ended_one ReadFault ended cut = none ended
ended_one WriteFault ended cut = none ended
ended_one TooLong ended cut = none ended

-- it is as it should be where all is written
pub written_fate : (status fate : Status) → (status ≡ fate) ⊎ (status ≡ NoMemory) ⊎ (status ≡ WriteFault) → IsTrue (is_written status) → status ≡ fate
written_fate status fate (inl e) w = e
written_fate status fate (inr (inl e)) w = none (sym (ap is_written e) ∙ w)
written_fate status fate (inr (inr e)) w = none (sym (ap is_written e) ∙ w)

-- where no write failed, it ended as it should, or memory ran out
pub unless_written : (status fate : Status) → (status ≡ fate) ⊎ (status ≡ NoMemory) ⊎ (status ≡ WriteFault) → (status ≡ WriteFault → ⊥)
    → (status ≡ fate) ⊎ (status ≡ NoMemory)
unless_written status fate (inl e) written = inl e
unless_written status fate (inr (inl e)) written = inr e
unless_written status fate (inr (inr e)) written = absurd (written e)

-- ---- what is said of a file that may not be told

pub nothing_written : (l a : Option (List ℕ)) → IfSome l (λ bytes. AppendsFront a a (listing bytes).text)
nothing_written None a = tt
nothing_written (Some bytes) a = Front-nil a (listing bytes).text

pub out_of_memory : (l : Option (List ℕ)) → IfSome l (λ bytes. (NoMemory ≡ (listing bytes).status) ⊎ (NoMemory ≡ NoMemory))
out_of_memory None = tt
out_of_memory (Some bytes) = inr refl

-- a capture is Done, or memory ran out
pub done_by : (l : Option (List ℕ)) (status : Status) → IfSome l (λ bytes. (status ≡ (listing bytes).status) ⊎ (status ≡ NoMemory))
    → IfSome l (λ bytes. (o : Order) (ds : List Delivered) → IsCaptureOf o ds bytes → length bytes ≤ most_listed → (status ≡ Done) ⊎ (status ≡ NoMemory))
done_by None status h = tt
done_by (Some bytes) status (inl e) = λ o ds capture low. inl (e ∙ ap (λ (x : Listing). x.status) (frames_are_listed o ds bytes capture low))
done_by (Some bytes) status (inr e) = λ o ds capture low. inr e

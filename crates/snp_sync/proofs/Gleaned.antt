-- The entries of TLVs 9, read one TLV after another.
use Rattle.std.specs.Prelude.{◌≡◌, ℕ, List, [], ◌∷◌, ◌++◌, Result, Ok, Err, ◌==◌, if◌then◌else◌}
use Rattle.std.proofs.Common.{refl, sym, ap, ◌∙◌, arith, append_assoc, append-nil}
use Rattle.spb_tlvs.specs.declared.entries.SnpEntry.{SnpEntry}
use Rattle.spb_tlvs.specs.declared.error.TlvError.{TlvError}
use Rattle.spb_tlvs.specs.declared.error.TlvError.TheVariants.{Cut, Range, NoMemory}
use Rattle.spb_tlvs.specs.Reading.{Reads}
use Rattle.spb_tlvs.specs.Entry.{entries_of}
use Rattle.spb_tlvs.specs.Tlv.{values_with}
use Rattle.snp_sync.specs.Reading.{before_others, entries_in_all, entries_in}

-- what the rest says, after the entries so far, is all of it
pub record Gleaned (tlvs rest : List ℕ) (entries : List SnpEntry) : Type 0 where
  so_far : before_others (Ok entries) (entries_in rest) ≡ entries_in tlvs

none_before : (others : Result (List SnpEntry) TlvError) → before_others (Ok []) others ≡ others
none_before (Ok es) = refl
none_before (Err e) = refl

pub gleaned_none : (tlvs : List ℕ) (entries : List SnpEntry) → entries ≡ [] → Gleaned tlvs tlvs entries
gleaned_none tlvs entries none = record { so_far = rw none (none_before (entries_in tlvs)) }

more_before : (es fs : List SnpEntry) (others : Result (List SnpEntry) TlvError) → before_others (Ok (es ++ fs)) others ≡ before_others (Ok es) (before_others (Ok fs) others)
more_before es fs (Ok gs) = ap (λ (l : List SnpEntry). Ok l) (append_assoc es fs gs)
more_before es fs (Err e) = refl

-- the values from here on
said_by : (tlvs rest : List ℕ) (entries : List SnpEntry) (values : List (List ℕ)) → Gleaned tlvs rest entries → values_with 9 rest ≡ values → before_others (Ok entries) (entries_in_all values) ≡ entries_in tlvs
said_by tlvs rest entries values so_far here = ap (λ (vs : List (List ℕ)). before_others (Ok entries) (entries_in_all vs)) (sym here) ∙ so_far.so_far

-- what the TLV at the front adds to the values
pub nine_in_front : (code : ℕ) (value : List ℕ) (values others : List (List ℕ)) → values ≡ (if code == 9 then value ∷ others else others) → code ≡ 9 → values ≡ value ∷ others
nine_in_front code value values others split is = grind arith

pub other_in_front : (code : ℕ) (value : List ℕ) (values others : List (List ℕ)) → values ≡ (if code == 9 then value ∷ others else others) → (code ≡ 9 → ⊥) → values ≡ others
other_in_front code value values others split is = grind arith

-- another TLV is ignored
pub gleaned_other : (tlvs rest after : List ℕ) (entries : List SnpEntry) → Gleaned tlvs rest entries → values_with 9 rest ≡ values_with 9 after → Gleaned tlvs after entries
gleaned_other tlvs rest after entries so_far here = record { so_far = said_by tlvs rest entries _ so_far here }

-- the next value is read
pub gleaned_more : (tlvs rest after value : List ℕ) (entries more new : List SnpEntry) → Gleaned tlvs rest entries → values_with 9 rest ≡ value ∷ values_with 9 after → entries_of value ≡ Ok more → new ≡ entries ++ more → Gleaned tlvs after new
gleaned_more tlvs rest after value entries more new so_far here read e = record {
  so_far =
      ap (λ (l : List SnpEntry). before_others (Ok l) (entries_in after)) e ∙ more_before entries more (entries_in after)
      ∙ ap (λ r. before_others (Ok entries) (before_others r (entries_in after))) (sym read)
      ∙ said_by tlvs rest entries _ so_far here;
}

-- it is refused
gleaned_cut : (tlvs rest after value : List ℕ) (entries : List SnpEntry) (refusal : TlvError) → Gleaned tlvs rest entries → values_with 9 rest ≡ value ∷ values_with 9 after → entries_of value ≡ Err refusal → entries_in tlvs ≡ Err refusal
gleaned_cut tlvs rest after value entries refusal so_far here read =
    sym (ap (λ r. before_others (Ok entries) (before_others r (entries_in after))) (sym read) ∙ said_by tlvs rest entries _ so_far here)

-- so it is answered, unless no memory was found
pub gleaned_refused : (tlvs rest after value : List ℕ) (entries : List SnpEntry) (refusal : TlvError) → Gleaned tlvs rest entries → values_with 9 rest ≡ value ∷ values_with 9 after
    → Reads (Err refusal) (entries_of value) → Reads (Err refusal) (entries_in tlvs)
gleaned_refused tlvs rest after value entries Cut so_far here read = gleaned_cut tlvs rest after value entries Cut so_far here read
gleaned_refused tlvs rest after value entries Range so_far here read = gleaned_cut tlvs rest after value entries Range so_far here read
gleaned_refused tlvs rest after value entries NoMemory so_far here read = tt

-- there is none
pub gleaned_all : (tlvs rest : List ℕ) (entries : List SnpEntry) → Gleaned tlvs rest entries → values_with 9 rest ≡ [] → entries_in tlvs ≡ Ok entries
gleaned_all tlvs rest entries so_far none = sym (ap (λ (l : List SnpEntry). Ok l) (sym (append-nil entries)) ∙ said_by tlvs rest entries _ so_far none)

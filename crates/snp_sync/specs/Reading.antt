-- The entries of a sequence numbers PDU (ISO/IEC 10589, 9.10 and 9.12).
use Rattle.std.specs.Prelude.{ℕ, List, [], ◌∷◌, ◌++◌, Result, Ok, Err}
use Rattle.spb_tlvs.specs.declared.entries.SnpEntry.{SnpEntry}
use Rattle.spb_tlvs.specs.declared.error.TlvError.{TlvError}
use Rattle.spb_tlvs.specs.Entry.{entries_of}
use Rattle.spb_tlvs.specs.Tlv.{values_with}

-- the entries of one TLV before those of the others. One that can't be read refuses all
abbrev pub before_others : Result (List SnpEntry) TlvError → Result (List SnpEntry) TlvError
    → Result (List SnpEntry) TlvError
before_others (Err e) others = Err e
before_others (Ok es) (Err e) = Err e
before_others (Ok es) (Ok fs) = Ok (es ++ fs)

abbrev pub entries_in_all : List (List ℕ) → Result (List SnpEntry) TlvError
entries_in_all [] = Ok []
entries_in_all (value ∷ values) = before_others (entries_of value) (entries_in_all values)

-- the entries of each of the TLVs 9, in order
abbrev pub entries_in : List ℕ → Result (List SnpEntry) TlvError
entries_in tlvs = entries_in_all (values_with 9 tlvs)

-- What a reader that takes memory answers.
use Rattle.std.specs.Prelude.{◌≡◌, List, ◌++◌, Result, Ok, Err}
use Rattle.std.specs.Global.{Vec}
use Rattle.spb_tlvs.specs.declared.error.TlvError.{TlvError}
use Rattle.spb_tlvs.specs.declared.error.TlvError.TheVariants.{Cut, Range, NoMemory}

-- what the bytes say, as seen by view, or the refusal, unless no memory was found
abbrev pub Gives : {X Y : Type 0} → (X → Y) → Result X TlvError → Result Y TlvError → Type 0
Gives view (Ok x) said = said ≡ Ok (view x)
Gives view (Err Cut) said = said ≡ Err Cut
Gives view (Err Range) said = said ≡ Err Range
Gives view (Err NoMemory) said = Unit {0}

-- the same for a list
abbrev pub Reads : {A : Type 0} → Result (Vec A) TlvError → Result (List A) TlvError → Type 0
Reads result said = Gives (λ v. v.items) result said

-- the refusal of the bytes, unless no memory was found
abbrev pub Refuses : {A : Type 0} → TlvError → Result (List A) TlvError → Type 0
Refuses {A = A} e said = Gives {X = List A} (λ x. x) (Err e) said

-- what the bytes say is put behind others
abbrev pub AreAppended : {A : Type 0} → List A → List A → Result (List A) TlvError → Type 0
AreAppended {A = A} old new said = (more : List A) × (said ≡ Ok more) × (new ≡ old ++ more)

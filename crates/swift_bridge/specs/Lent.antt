-- What a bridge is once the trees that it showed aren't looked at any more.
use Rattle.std.specs.Prelude.{◌≡◌, ⊤, false, true, Result, OnOk, OnErr}
use Rattle.std.specs.Borrow.{follows_so, MutBor, Fml}
use mathlib.Core.Option.{none}
use Rattle.swift_bridge.specs.declared.bridge.SwiftBridge.{SwiftBridge}
use Rattle.swift_bridge.specs.contracts.bridge.SwiftBridge.{the_row}

-- it is as it was, but where no memory was found it is failed. So one that was failed before is as it was
abbrev pub Rests : {T E : Type 0} → MutBor SwiftBridge → Result T E → Fml
Rests s r = follows_so the_row the_row s.ghost_name none (λ _ _. ⊤) (λ v. OnOk r (v ≡ s.now)
    × OnErr r ((v.blank ≡ false) × (v.view ≡ record s.now.view { failed = true })))

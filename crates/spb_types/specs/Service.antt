-- VIDs, and what customer ports do.
use Rattle.std.specs.Prelude.{◌≢◌, Bool, true, false, List, [], ◌∷◌, ⊤}
use Rattle.std.specs.List.{AllByRecursion}
use Rattle.spb_types.specs.declared.service.Mode.{Mode}
use Rattle.spb_types.specs.declared.service.Mode.TheVariants.{Both, Send, Recv}
use Rattle.spb_types.specs.declared.service.VidPlan.{VidPlan}

-- no base VID stands twice
abbrev pub AreVidsApart : List VidPlan → Type 0
AreVidsApart [] = ⊤
AreVidsApart (p ∷ ps) = AllByRecursion (λ q. p.vid.value ≢ q.vid.value) ps × AreVidsApart ps

-- a customer port sends unless it only receives
abbrev pub sends : Mode → Bool
sends Both = true
sends Send = true
sends Recv = false

-- and receives unless it only sends
abbrev pub receives : Mode → Bool
receives Both = true
receives Send = false
receives Recv = true

-- Why a command is refused.
use Rattle.std.specs.Prelude.{ℕ, List, Option, Some, None, Bool, if◌then◌else◌, codes}
use Rattle.std.specs.Option.{option_or}
use Rattle.spb_world.specs.declared.reason.Reason.{Reason}
use Rattle.spb_world.specs.declared.reason.Reason.TheVariants.{NoSuchName, NameTaken, IdTaken, PortUse, Range, TooMany, AlreadyLinked, AlreadyUp, AlreadyDown, Attached, NotAttached, NoFrame, RackSpent, TooLate, ReceiveOnly}

-- the number of a reason: reasons are tested in this order
abbrev pub reason_number : Reason → ℕ
reason_number NoSuchName = 2
reason_number NameTaken = 3
reason_number IdTaken = 4
reason_number PortUse = 5
reason_number Range = 6
reason_number TooMany = 7
reason_number AlreadyLinked = 8
reason_number AlreadyUp = 9
reason_number AlreadyDown = 9
reason_number Attached = 10
reason_number NotAttached = 10
reason_number NoFrame = 11
reason_number RackSpent = 12
reason_number TooLate = 13
reason_number ReceiveOnly = 14

-- how a reason is written
abbrev pub name_of : Reason → List ℕ
name_of NoSuchName = codes "NoSuchName"
name_of NameTaken = codes "NameTaken"
name_of IdTaken = codes "IdTaken"
name_of PortUse = codes "PortUse"
name_of Range = codes "Range"
name_of TooMany = codes "TooMany"
name_of AlreadyLinked = codes "AlreadyLinked"
name_of AlreadyUp = codes "AlreadyUp"
name_of AlreadyDown = codes "AlreadyDown"
name_of Attached = codes "Attached"
name_of NotAttached = codes "NotAttached"
name_of NoFrame = codes "NoFrame"
name_of RackSpent = codes "RackSpent"
name_of TooLate = codes "TooLate"
name_of ReceiveOnly = codes "ReceiveOnly"

-- the reason, where the test fails
unfoldable pub reason_unless : Bool → Reason → Option Reason
reason_unless test reason = if test then None else Some reason

-- the first of two reasons
infixl 10 ◌or◌
abbrev pub ◌or◌ : Option Reason → Option Reason → Option Reason
o or p = option_or o p

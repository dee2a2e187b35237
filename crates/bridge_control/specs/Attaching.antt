-- A machine to which something else is attached than its own LSPs say.
use Rattle.std.specs.Prelude.{◌≡◌, ℕ, List, Bool, true, not, ◌&&◌, ◌||◌, ◌==◌}
use Rattle.std.specs.List.{list_any}
use Rattle.std.specs.Option.{option_map_or}
use Rattle.spb_types.specs.Service.{sends, receives}
use Rattle.spb_types.specs.declared.service.Attachment.{Attachment}
use Rattle.forwarding.specs.Ports.{attachment_of, is_at_other_port, is_in}
use Rattle.spb_content.specs.Local.{IsLocal}
use Rattle.bridge_api.specs.Own.{local_of}
use Rattle.bridge_control.specs.declared.machine.Machine.{Machine}
use Rattle.bridge_control.specs.Machine.{view_of, FollowsPorts, CanOriginate}

-- it can say what it has to say, and originate
pub record CanTell (m : Machine) : Type 0 where
  pub can : CanOriginate m
  pub system : m.own.system ≡ m.id.system
  pub local : IsLocal (local_of (view_of m))
  pub ports : FollowsPorts m

-- whether something is attached to the service of an attachment, at another port
abbrev pub is_beside : Attachment → Attachment → Bool
is_beside a b = (is_in a.isid b && (b.vid.value == a.vid.value)) && is_at_other_port a.port b

-- whether another port sends to the service of an attachment
abbrev pub sends_beside : List Attachment → Attachment → Bool
sends_beside attached a = list_any (λ b. is_beside a b && sends b.mode) attached

-- whether another port receives from it
abbrev pub receives_beside : List Attachment → Attachment → Bool
receives_beside attached a = list_any (λ b. is_beside a b && receives b.mode) attached

-- whether other ports do in the service of an attachment what it does there
abbrev pub is_done_beside : List Attachment → Attachment → Bool
is_done_beside attached a =
    (not (sends a.mode) || sends_beside attached a) && (not (receives a.mode) || receives_beside attached a)

-- whether other ports do what a customer port does in the service that it is attached to, if it is to any
abbrev pub is_covered : ℕ → List Attachment → Bool
is_covered port attached = option_map_or (is_done_beside attached) (attachment_of port attached) true

-- A bridge is read to be a member of the services to which its customer ports are attached, of each once, and to do there
-- what the ports do together.
use Rattle.std.proofs.Common.{◌≡◌, true, List, [], ◌∷◌, map, refl}
use Rattle.std.specs.Prelude.{◌||◌}
use Rattle.std.specs.List.{AllByRecursion}
use Rattle.spb_types.specs.Service.{sends, receives}
use Rattle.spb_types.specs.declared.address.SystemId.{SystemId}
use Rattle.spb_types.specs.declared.service.Attachment.{Attachment}
use Rattle.spb_types.specs.declared.service.Mode.{Mode}
use Rattle.spb_types.specs.declared.service.Mode.TheVariants.{Both, Send, Recv}
use Rattle.spb_content.proofs.SaidMembers.{Acts, said_members}
use Rattle.bridge_api.specs.Own.{member_of, local_of}
use Rattle.bridge_api.specs.Graph.{MembersAreSaid}
use Rattle.bridge_api.proofs.Saying.{is_local}

-- a customer port sends or receives
sends_or_receives : (mode : Mode) → (sends mode || receives mode) ≡ true
sends_or_receives Both = refl
sends_or_receives Send = refl
sends_or_receives Recv = refl

all_act : (x : SystemId) (attached : List Attachment) → AllByRecursion Acts (map (member_of x) attached)
all_act x [] = tt
all_act x (a ∷ attached) = (sends_or_receives a.mode, all_act x attached)

pub members_are_said : MembersAreSaid
members_are_said v sound =
    said_members (local_of v) (is_local v sound.config sound.few sound.ports).attached (all_act v.id.system v.attached)

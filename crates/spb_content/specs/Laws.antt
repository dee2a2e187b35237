-- The laws of what is written and read.
use Rattle.std.specs.Prelude.{◌≡◌, ◌↔◌, ℕ, suc, ◌+◌, ◌*◌, ◌≤◌, ◌<◌, ◌^◌, ◌||◌, true, List, [], length, map, Some, None, Contains, IsTrue}
use Rattle.std.specs.List.{AllByRecursion}
use Rattle.spb_types.specs.Ascending.{Ascends}
use Rattle.spb_types.specs.Graph.{IsDistinct, IsValid, IsValidFor, cost_between, port_between}
use Rattle.spb_types.specs.declared.address.SystemId.{SystemId}
use Rattle.spb_types.specs.declared.graph.Graph.{Graph}
use Rattle.spb_types.specs.declared.graph.Member.{Member}
use Rattle.spb_types.specs.declared.service.VidPlan.{VidPlan}
use Rattle.isis_pdu.specs.declared.kind.Kind.TheVariants as kinds
use Rattle.isis_pdu.specs.Header.{fixed_length}
use Rattle.isis_pdu.specs.Tlvs.{is_whole}
use Rattle.isis_pdu.specs.Grammar.{IsBytes}
use Rattle.spb_tlvs.specs.RoundTrip.{IsMac, IsNeighbour}
use Rattle.spb_content.specs.declared.local.Local.{Local}
use Rattle.spb_content.specs.Local.{IsLocal, IsPart, plan_number, vid_number, isid_number, trees_of, vids_in, isids_in, own_mac, said_by, content_bytes}
use Rattle.spb_content.specs.Content.{content_in}
use Rattle.spb_content.specs.Fragments.{services_by, part_of, fragment, fragments_from, tlvs_together}
use Rattle.spb_content.specs.Members.{merged}
use Rattle.spb_content.specs.Graph.{Contents, members_of, systems_in, cost_said, port_said, HasOwnPorts}
use Rattle.spb_content.specs.Building.{said_graph}
use Rattle.spb_types.specs.declared.limits.TheConstants.{MOST_ISIDS, MOST_PORTS, MOST_GRAPH_BRIDGES}

-- what the fields of the types hold
pub record HasFields (l : Local) : Type 0 where
  pub priority : l.config.id.priority < 2 ^ 16
  pub mac : IsMac (own_mac l)
  pub neighbours : AllByRecursion IsNeighbour l.neighbours

-- what is written is read as what is said: the neighbours in order, the SPB-Inst, and each service once
abbrev pub ReadAgain : Type 0
ReadAgain = (l : Local) → IsPart l → HasFields l → content_in (content_bytes l) ≡ said_by l

-- bridges that say the same write the same, and only those do
abbrev pub SameIsWritten : Type 0
SameIsWritten = (l m : Local) → said_by l ≡ said_by m → content_bytes l ≡ content_bytes m

abbrev pub WrittenIsSame : Type 0
WrittenIsSame = (l m : Local) → IsPart l → HasFields l → IsPart m → HasFields m → content_bytes l ≡ content_bytes m
    → said_by l ≡ said_by m

-- two bridges have the same configuration and neighbours, and the same ports attached, but for the order of the VIDs
-- and of the ports, and for how many ports are attached alike
pub record IsLike (l m : Local) : Type 0 where
  pub id : l.config.id ≡ m.config.id
  pub source : l.config.source ≡ m.config.source
  pub vids : (p : VidPlan) → Contains l.config.vids p ↔ Contains m.config.vids p
  pub neighbours : l.neighbours ≡ m.neighbours
  pub attached : (a : Member) → Contains l.attached a ↔ Contains m.attached a

-- they say the same
abbrev pub OrderSaysNothingOfContent : Type 0
OrderSaysNothingOfContent = (l m : Local) → IsLocal l → IsLocal m → IsLike l m → said_by l ≡ said_by m

-- ys ascends, its items are items of xs, and its numbers are those of xs: so each of these stands once
pub record IsAscendingOf {A : Type 0} (number : A → ℕ) (xs ys : List A) : Type 0 where
  pub ascends : Ascends number ys
  pub items : (x : A) → Contains ys x → Contains xs x
  pub numbers : (n : ℕ) → Contains (map number ys) n ↔ Contains (map number xs) n

-- the trees ascend by VID, one for each VID that is configured
abbrev pub TreesAscend : Type 0
TreesAscend = (l : Local) → IsAscendingOf plan_number l.config.vids (trees_of l)

-- the base VIDs in use ascend, each once
abbrev pub VidsAscend : Type 0
VidsAscend = (attached : List Member) → IsAscendingOf vid_number (map (λ m. m.vid) attached) (vids_in attached)

-- so do the I-SIDs, of all attached ports and of those in one base VID
abbrev pub IsidsAscend : Type 0
IsidsAscend = (attached : List Member) → IsAscendingOf isid_number (map (λ m. m.isid) attached) (isids_in attached)

-- each attached base VID is a configured one
abbrev pub AreConfigured : Local → Type 0
AreConfigured l = AllByRecursion (λ a. (p : VidPlan) × Contains l.config.vids p × (p.vid ≡ a.vid)) l.attached

-- TLVs are whole, and their LSP has so many bytes at most
pub record Fits (bytes : List ℕ) : Type 0 where
  pub whole : IsTrue (is_whole bytes)
  pub short : fixed_length kinds.Lsp + length bytes ≤ 1267

-- with at most 32 ports and 60 I-SIDs, all that a bridge says makes an LSP of at most 1,267 bytes
abbrev pub OwnFits : Type 0
OwnFits = (l : Local) → IsPart l → HasFields l → AreConfigured l → length l.neighbours ≤ MOST_PORTS
    → Fits (content_bytes l)

-- the own id and those of the neighbours are octets
pub record HasOctets (l : Local) : Type 0 where
  pub mac : IsBytes (own_mac l).bytes
  pub neighbours : AllByRecursion (λ n. IsBytes n.system.mac.bytes) l.neighbours

-- so then is what is written
abbrev pub ContentIsOctets : Type 0
ContentIsOctets = (l : Local) → IsPart l → HasFields l → HasOctets l → IsBytes (content_bytes l)

-- ---- fragments

-- a bridge has at most so many services as I-SIDs
abbrev pub ServicesAreFew : Type 0
ServicesAreFew = (l : Local) → IsLocal l → length (services_by l) ≤ MOST_ISIDS

-- fragments whose numbers have room for all services say together what the bridge says
abbrev pub FragmentsAreRead : Type 0
FragmentsAreRead = (l : Local) (n : ℕ) → IsLocal l → HasFields l → 1 ≤ n → length (services_by l) ≤ 60 * n
    → content_in (tlvs_together (fragments_from l n 0)) ≡ said_by l

-- but for number 0, a fragment says its services and nothing else
abbrev pub OthersSayServices : Type 0
OthersSayServices = (l : Local) (k : ℕ) (tlvs : List ℕ) → IsLocal l → HasFields l → fragment l (suc k) ≡ Some tlvs
    → content_in tlvs ≡ record { inst = None; neighbours = []; services = (said_by (part_of (suc k) l)).services }

-- with at most 60 I-SIDs all is in number 0, as `content_bytes` has it
pub record IsOne (l : Local) : Type 0 where
  pub first : fragment l 0 ≡ Some (content_bytes l)
  pub others : (k : ℕ) → fragment l (suc k) ≡ None

abbrev pub FewAreOne : Type 0
FewAreOne = (l : Local) → IsPart l → IsOne l

-- where a fragment doesn't exist, none behind it does
abbrev pub FragmentsAreFirst : Type 0
FragmentsAreFirst = (l : Local) (j k : ℕ) → j ≤ k → fragment l j ≡ None → fragment l k ≡ None

-- with at most 32 ports, each fragment fits into its LSP
abbrev pub FragmentsFit : Type 0
FragmentsFit = (l : Local) (k : ℕ) (tlvs : List ℕ) → IsLocal l → HasFields l → AreConfigured l
    → length l.neighbours ≤ MOST_PORTS → fragment l k ≡ Some tlvs → Fits tlvs

-- each fragment is octets
abbrev pub FragmentsAreOctets : Type 0
FragmentsAreOctets = (l : Local) (k : ℕ) (tlvs : List ℕ) → IsLocal l → HasFields l → HasOctets l
    → fragment l k ≡ Some tlvs → IsBytes tlvs

-- ---- members

-- each attached port sends or receives
abbrev pub AreActive : Local → Type 0
AreActive l = AllByRecursion (λ m. (m.transmit || m.receive) ≡ true) l.attached

-- what a bridge says, read again, makes it the members that its ports make it
abbrev pub MembersAreRead : Type 0
MembersAreRead = (l : Local) → IsLocal l → AreActive l
    → members_of (l.config.id.system, said_by l) ≡ merged l.config.id.system l.attached

-- ---- the graph of all that is said

-- the graph of all that is said: it is valid, also for each bridge that lists its neighbours at ports of their own, and
-- its costs and ports are those that are said
pub record HasAllLinks (list : Contents) (g : Graph) : Type 0 where
  pub valid : IsValid g
  pub valid_for : (x : SystemId) → HasOwnPorts list x → IsValidFor g x
  pub costs : (x y : SystemId) → cost_between g x y ≡ cost_said list x y
  pub ports : (x y : SystemId) → port_between g x y ≡ port_said list x y

abbrev pub SaidGraphHasAllLinks : Type 0
SaidGraphHasAllLinks = (list : Contents)
    → IsDistinct (systems_in list) → length list ≤ MOST_GRAPH_BRIDGES → HasAllLinks list (said_graph list)

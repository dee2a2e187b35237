-- When each reason for a refusal holds of a command, in the words of what is declared.
use Rattle.std.specs.Prelude.{◌≡◌, ◌↔◌, ◌⊎◌, ℕ, ◌+◌, ◌<◌, ◌≤◌, ◌%◌, List, length, replicate, slice_index, true, false, Option, Some, None, Any, Contains}
use Rattle.std.specs.List.{AllByRecursion}
use Rattle.spb_types.specs.Service.{sends}
use Rattle.spb_types.specs.declared.address.Mac.{Mac}
use Rattle.spb_types.specs.declared.limits.TheConstants.{GREATEST_ECT, GREATEST_ISID, GREATEST_VID, MOST_BRIDGES, MOST_CUSTOMER_PORTS, MOST_DELIVERIES, MOST_DELIVERIES_TOGETHER, MOST_ISIDS, MOST_LINKS, MOST_PORTS, MOST_ROUNDS, MOST_SERVICES, MOST_VIDS, SOURCE_IDS}
use Rattle.spb_types.specs.declared.service.SourceId.{SourceId}
use Rattle.scenario.specs.declared.command.Command.{Command}
use Rattle.scenario.specs.declared.command.Command.TheVariants as command
use Rattle.spb_types.specs.declared.link.Dir.{Dir}
use Rattle.bridge_api.specs.Config.{IsMetric}
use Rattle.bridge_api.specs.Customers.{IsCustomerFrame}
use Rattle.spb_world.specs.declared.declaration.DeclaredLink.{DeclaredLink}
use Rattle.spb_world.specs.declared.declaration.LinkEnd.{LinkEnd}
use Rattle.spb_world.specs.declared.reason.Reason.{Reason}
use Rattle.spb_world.specs.declared.reason.Reason.TheVariants.{NoSuchName, NameTaken, IdTaken, PortUse, Range, TooMany, AlreadyLinked, AlreadyUp, AlreadyDown, Attached, NotAttached, NoFrame, RackSpent, TooLate, ReceiveOnly}
use Rattle.spb_world.specs.Reason.{reason_number}
use Rattle.spb_world.specs.World.{World, Bridges, Links, names_of, things_of, place_of, ports_at, attached_at}
use Rattle.network_model.specs.State.{State, lane_at, kind_at}
use Rattle.spb_world.specs.Links.{is_live}
use Rattle.network_model.specs.Questions.{Question, question_of}
use Rattle.spb_world.specs.Attaching.{isids_with}
use Rattle.network_model.specs.Refusing.{refusal_of}

-- a thing of this name is declared
abbrev pub IsNamed : {T : Type 0} → List ℕ → List (List ℕ × T) → Type 0
IsNamed name entries = Contains (names_of entries) name

-- the thing of this name is declared, and P holds of its place
abbrev pub HoldsAt : {T : Type 0} → List ℕ → List (List ℕ × T) → (ℕ → Type 0) → Type 0
HoldsAt name entries P = (k : ℕ) × (place_of name entries ≡ Some k) × P k

-- the bridges of two names are declared, and P holds of their places
abbrev pub HoldsAtBoth : List ℕ → List ℕ → Bridges → (ℕ → ℕ → Type 0) → Type 0
HoldsAtBoth a b bridges P = HoldsAt a bridges (λ i. HoldsAt b bridges (λ j. P i j))

-- 2: a name, the VID of a service or a path, or the I-SID of a customer port isn't declared

-- the base VID is declared
abbrev pub IsVidOf : World → ℕ → Type 0
IsVidOf w vid = Any (λ plan. plan.vid.value ≡ vid) w.vids

-- a service of this I-SID is declared
abbrev pub IsIsidOf : World → ℕ → Type 0
IsIsidOf w isid = Any (λ service. service.0.value ≡ isid) w.services

-- of the bridge that is asked about
abbrev pub AsksUnknown : World → Option Question → Type 0
AsksUnknown w None = ⊥
AsksUnknown w (Some q) = ¬ IsNamed q.bridge w.bridges

abbrev pub NamesUnknown : World → Command → Type 0
NamesUnknown w (command.Link name a port_a b port_b cost) = (¬ IsNamed a w.bridges) ⊎ (¬ IsNamed b w.bridges)
NamesUnknown w (command.Isid isid vid) = ¬ IsVidOf w vid
NamesUnknown w (command.Attach bridge port isid mode) = (¬ IsNamed bridge w.bridges) ⊎ (¬ IsIsidOf w isid)
NamesUnknown w (command.Detach bridge port) = ¬ IsNamed bridge w.bridges
NamesUnknown w (command.Frame bridge port bytes) = ¬ IsNamed bridge w.bridges
NamesUnknown w (command.Metric link side m) = ¬ IsNamed link w.links
NamesUnknown w (command.Down link) = ¬ IsNamed link w.links
NamesUnknown w (command.Up link) = ¬ IsNamed link w.links
NamesUnknown w (command.Restart bridge) = ¬ IsNamed bridge w.bridges
NamesUnknown w (command.Tick bridge) = ¬ IsNamed bridge w.bridges
NamesUnknown w (command.Deliver link dir) = ¬ IsNamed link w.links
NamesUnknown w (command.Lose link dir place) = ¬ IsNamed link w.links
NamesUnknown w (command.Double link dir place) = ¬ IsNamed link w.links
NamesUnknown w (command.Path from to vid) =
    ((¬ IsNamed from w.bridges) ⊎ (¬ IsNamed to w.bridges)) ⊎ (¬ IsVidOf w vid)
NamesUnknown w c = AsksUnknown w (question_of c)

-- 3: what is to be declared has the name, the VID or the I-SID of what is declared

abbrev pub TakesName : World → Command → Type 0
TakesName w (command.Vid vid ect) = IsVidOf w vid
TakesName w (command.Isid isid vid) = IsIsidOf w isid
TakesName w (command.Bridge name priority system source ports) = IsNamed name w.bridges
TakesName w (command.Link name a port_a b port_b cost) = IsNamed name w.links
TakesName w _ = ⊥

-- 4: another bridge has the system id, or the source
abbrev pub TakesId : World → Command → Type 0
TakesId w (command.Bridge name priority system source ports) =
    Any (λ b. b.bridge.id.system.mac.bytes ≡ system.bytes) (things_of w.bridges)
    ⊎ Any (λ b. b.bridge.source.value ≡ source.value) (things_of w.bridges)
TakesId w _ = ⊥

-- 5: a link ends at one of the two ports

-- this is the port of a link's end
abbrev pub IsEndAt : LinkEnd → ℕ → ℕ → Type 0
IsEndAt e i port = (e.bridge ≡ i) × (e.port ≡ port)

abbrev pub HasLink : Links → ℕ → ℕ → Type 0
HasLink links i port = Any (λ l. IsEndAt l.a i port ⊎ IsEndAt l.b i port) (things_of links)

abbrev pub TakesPort : World → Command → Type 0
TakesPort w (command.Link name a port_a b port_b cost) =
    HoldsAtBoth a b w.bridges (λ i j. HasLink w.links i port_a ⊎ HasLink w.links j port_b)
TakesPort w _ = ⊥

-- 6: a number is out of its range

-- a base VID (IEEE 802.1Q, 9.6) and the number of an ECT algorithm (IEEE 802.1aq, 28.8)
abbrev pub IsVid : ℕ → ℕ → Type 0
IsVid vid ect = (1 ≤ vid) × (vid ≤ GREATEST_VID) × (1 ≤ ect) × (ect ≤ GREATEST_ECT)

-- an I-SID (IEEE 802.1ah, 9.7)
abbrev pub IsIsid : ℕ → Type 0
IsIsid isid = (1 ≤ isid) × (isid ≤ GREATEST_ISID)

-- a customer port
abbrev pub IsCustomerPort : ℕ → Type 0
IsCustomerPort port = (1 ≤ port) × (port ≤ MOST_CUSTOMER_PORTS)

-- six octets
abbrev pub IsAddress : Mac → Type 0
IsAddress mac = (length mac.bytes ≡ 6) × AllByRecursion (λ b. b < 256) mac.bytes

-- a bridge's own address: six octets, the group bit is clear, and it isn't all zero
abbrev pub IsOwnAddress : Mac → Type 0
IsOwnAddress mac = IsAddress mac × (slice_index mac.bytes 0 % 2 ≡ 0) × (¬ (mac.bytes ≡ replicate 6 0))

abbrev pub IsBridgeInRange : ℕ → Mac → SourceId → ℕ → Type 0
IsBridgeInRange priority system source ports =
    (priority ≤ 65535) × IsOwnAddress system × (source.value < SOURCE_IDS) × (ports ≤ MOST_PORTS)

-- the bridge at a place has this port
abbrev pub HasPort : Bridges → ℕ → ℕ → Type 0
HasPort bridges i port = (1 ≤ port) × (port ≤ ports_at bridges i)

-- ports of two different bridges, and a metric
abbrev pub IsLinkInRange : Bridges → ℕ → ℕ → ℕ → ℕ → ℕ → Type 0
IsLinkInRange bridges i port_a j port_b cost =
    (¬ (i ≡ j)) × HasPort bridges i port_a × HasPort bridges j port_b × IsMetric cost

abbrev pub IsOutOfRange : World → Command → Type 0
IsOutOfRange w (command.Vid vid ect) = ¬ IsVid vid ect
IsOutOfRange w (command.Bridge name priority system source ports) = ¬ IsBridgeInRange priority system source ports
IsOutOfRange w (command.Link name a port_a b port_b cost) =
    HoldsAtBoth a b w.bridges (λ i j. ¬ IsLinkInRange w.bridges i port_a j port_b cost)
IsOutOfRange w (command.Isid isid vid) = ¬ IsIsid isid
IsOutOfRange w (command.Attach bridge port isid mode) = ¬ IsCustomerPort port
IsOutOfRange w (command.Detach bridge port) = ¬ IsCustomerPort port
IsOutOfRange w (command.Frame bridge port bytes) = ¬ (IsCustomerPort port × IsCustomerFrame bytes)
IsOutOfRange w (command.Metric link side m) = ¬ IsMetric m
IsOutOfRange w (command.Round n) = ¬ ((1 ≤ n) × (n ≤ MOST_ROUNDS))
IsOutOfRange w (command.Drain n) = ¬ ((1 ≤ n) × (n ≤ MOST_DELIVERIES))
IsOutOfRange w _ = ⊥

-- 7: there would be more than 16 base VIDs, 96 bridges, 400 links, 4,096 services, 960 I-SIDs at a bridge, 20,000
-- rounds or 100,000,000 deliveries
abbrev pub IsTooMany : State → Command → Type 0
IsTooMany s (command.Vid vid ect) = MOST_VIDS ≤ length s.world.vids
IsTooMany s (command.Bridge name priority system source ports) = MOST_BRIDGES ≤ length s.world.bridges
IsTooMany s (command.Link name a port_a b port_b cost) =
    HoldsAtBoth a b s.world.bridges (λ i j. MOST_LINKS ≤ length s.world.links)
IsTooMany s (command.Isid isid vid) = MOST_SERVICES ≤ length s.world.services
IsTooMany s (command.Attach bridge port isid mode) =
    HoldsAt bridge s.world.bridges (λ i. MOST_ISIDS < length (isids_with (attached_at s.world i) isid))
IsTooMany s (command.Round n) = MOST_ROUNDS < s.rounds + n
IsTooMany s (command.Drain n) = MOST_DELIVERIES_TOGETHER < s.drained + n
IsTooMany s _ = ⊥

-- 8: a link joins the two bridges

-- the ends of a link lie at the bridges at two places
abbrev pub IsFromTo : DeclaredLink → ℕ → ℕ → Type 0
IsFromTo l i j = (l.a.bridge ≡ i) × (l.b.bridge ≡ j)

abbrev pub LinksAgain : World → Command → Type 0
LinksAgain w (command.Link name a port_a b port_b cost) =
    HoldsAtBoth a b w.bridges (λ i j. Any (λ l. IsFromTo l i j ⊎ IsFromTo l j i) (things_of w.links))
LinksAgain w _ = ⊥

-- 9: the link is up already, or down already
abbrev pub RaisesAgain : World → Command → Type 0
RaisesAgain w (command.Up link) = HoldsAt link w.links (λ k. is_live (things_of w.links) k ≡ true)
RaisesAgain w _ = ⊥

abbrev pub CutsAgain : World → Command → Type 0
CutsAgain w (command.Down link) = HoldsAt link w.links (λ k. is_live (things_of w.links) k ≡ false)
CutsAgain w _ = ⊥

-- 10: the customer port is attached already, or isn't attached

-- this customer port of the bridge at a place is attached
abbrev pub HasAttached : World → ℕ → ℕ → Type 0
HasAttached w i port = Any (λ a. a.port ≡ port) (attached_at w i)

abbrev pub AttachesAgain : World → Command → Type 0
AttachesAgain w (command.Attach bridge port isid mode) = HoldsAt bridge w.bridges (λ i. HasAttached w i port)
AttachesAgain w _ = ⊥

abbrev pub LacksAttached : World → Command → Type 0
LacksAttached w (command.Detach bridge port) = HoldsAt bridge w.bridges (λ i. ¬ HasAttached w i port)
LacksAttached w (command.Frame bridge port bytes) = HoldsAt bridge w.bridges (λ i. ¬ HasAttached w i port)
LacksAttached w _ = ⊥

-- 11: no frame stands at that place of the lane
abbrev pub LacksFrame : State → List ℕ → Dir → ℕ → Type 0
LacksFrame s link dir place = HoldsAt link s.world.links (λ k. length (lane_at s k dir) ≤ place)

abbrev pub NamesNoFrame : State → Command → Type 0
NamesNoFrame s (command.Deliver link dir) = LacksFrame s link dir 0
NamesNoFrame s (command.Lose link dir place) = LacksFrame s link dir place
NamesNoFrame s (command.Double link dir place) = LacksFrame s link dir place
NamesNoFrame s _ = ⊥

-- 12: no blank box of the kind that the bridge takes is left in the rack
abbrev pub LacksBoxAt : State → ℕ → Type 0
LacksBoxAt s i = ¬ Any (λ box. (box.blank ≡ true) × (box.kind ≡ kind_at s.rule i)) s.rack

abbrev pub LacksBox : State → Command → Type 0
LacksBox s (command.Bridge name priority system source ports) = LacksBoxAt s (length s.world.bridges)
LacksBox s (command.Restart bridge) = HoldsAt bridge s.world.bridges (λ i. LacksBoxAt s i)
LacksBox s _ = ⊥

-- 13: a bridge is declared already
abbrev pub ComesLate : World → Command → Type 0
ComesLate w (command.Vid vid ect) = ¬ (length w.bridges ≡ 0)
ComesLate w _ = ⊥

-- 14: what is attached at the customer port of the bridge at a place doesn't send
abbrev pub HasSending : World → ℕ → ℕ → Type 0
HasSending w i port = Any (λ a. (a.port ≡ port) × (sends a.mode ≡ true)) (attached_at w i)

abbrev pub LacksSending : World → Command → Type 0
LacksSending w (command.Frame bridge port bytes) = HoldsAt bridge w.bridges (λ i. ¬ HasSending w i port)
LacksSending w _ = ⊥

-- a reason holds of a command
abbrev pub Holds : State → Command → Reason → Type 0
Holds s c NoSuchName = NamesUnknown s.world c
Holds s c NameTaken = TakesName s.world c
Holds s c IdTaken = TakesId s.world c
Holds s c PortUse = TakesPort s.world c
Holds s c Range = IsOutOfRange s.world c
Holds s c TooMany = IsTooMany s c
Holds s c AlreadyLinked = LinksAgain s.world c
Holds s c AlreadyUp = RaisesAgain s.world c
Holds s c AlreadyDown = CutsAgain s.world c
Holds s c Attached = AttachesAgain s.world c
Holds s c NotAttached = LacksAttached s.world c
Holds s c NoFrame = NamesNoFrame s c
Holds s c RackSpent = LacksBox s c
Holds s c TooLate = ComesLate s.world c
Holds s c ReceiveOnly = LacksSending s.world c

-- a reason holds, and none of a lower number does
pub record IsFirst (s : State) (c : Command) (r : Reason) : Type 0 where
  pub holds : Holds s c r
  pub first : (q : Reason) → Holds s c q → reason_number r ≤ reason_number q

-- a command is refused for its first reason, and accepted where none holds
pub record IsRefusedForTheFirst (s : State) (c : Command) : Type 0 where
  pub refused : (r : Reason) → (refusal_of s c ≡ Some r) ↔ IsFirst s c r
  pub accepted : (refusal_of s c ≡ None) ↔ ((r : Reason) → ¬ Holds s c r)

abbrev pub TheFirstReasonIsGiven : Type 0
TheFirstReasonIsGiven = (s : State) (c : Command) → IsRefusedForTheFirst s c

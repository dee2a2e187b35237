-- What a configured bridge says of itself can be written, and fits its LSPs.
use Rattle.std.proofs.Common.{◌≡◌, ◌≢◌, inl, inr, ◌≤◌, ◌+◌, ℕ, Bool, true, false, List, [], ◌∷◌, length, map, refl, sym, ap, ◌∙◌, subst, arith}
use Rattle.std.specs.Prelude.{◌||◌, nat_eq, Contains, if◌then◌else◌}
use Rattle.std.specs.List.{list_any, AllByRecursion}
use Rattle.std.proofs.lemmas.Bool.{eqb-true}
use Rattle.spb_types.specs.Service.{AreVidsApart}
use Rattle.spb_types.specs.declared.address.SystemId.{SystemId}
use Rattle.spb_types.specs.declared.graph.Member.{Member}
use Rattle.spb_types.specs.declared.service.Isid.{Isid}
use Rattle.spb_types.specs.declared.service.VidPlan.{VidPlan}
use Rattle.spb_types.specs.declared.service.Attachment.{Attachment}
use Rattle.spb_tlvs.specs.Capability.{IsTree}
use Rattle.spb_tlvs.specs.RoundTrip.{IsNeighbour}
use Rattle.isis_pdu.specs.declared.kind.Kind.TheVariants as kinds
use Rattle.isis_pdu.specs.Spelling.{CanWrite}
use Rattle.isis_pdu.specs.Grammar.{IsBytes}
use Rattle.flooding.specs.Own.{tlvs_of_body}
use Rattle.flooding.specs.Laws.{HasBodies}
use Rattle.flooding.specs.OctetLaws.{SaysOctets}
use Rattle.spb_content.specs.Local.{IsLocal, IsAttached, AreInOneVid, isid_number, isids_in}
use Rattle.spb_content.specs.Laws.{HasFields, HasOctets, AreConfigured, Fits}
use Rattle.spb_content.proofs.Members.{Has, all_has, weaker, has_map, map_has, contains_from_has}
use Rattle.spb_content.proofs.Ascended.{ascending_ascends, Numbered}
use Rattle.spb_content.proofs.Kept.{apart_ascends, length-within}
use Rattle.spb_content.proofs.Written.{isid_attached}
use Rattle.spb_content.proofs.Fitting.{fragments_fit}
use Rattle.spb_content.proofs.Octets.{fragments_are_octets}
use Rattle.bridge_api.specs.declared.port.BridgePort.{BridgePort}
use Rattle.bridge_api.specs.View.{BridgeView, is_port_up}
use Rattle.bridge_api.specs.Own.{neighbour_in, neighbours_from, member_of, local_of, own_of}
use Rattle.bridge_api.specs.Config.{ArePairwise, different, IsAttachment, AgreesWith, vids_of}
use Rattle.bridge_api.specs.Laws.{IsSoundPort, HasConfig, CanSay, SoundCanSay}
use Rattle.bridge_api.proofs.Bodies.{IsFragment, is_fragment}
use Rattle.bridge_api.proofs.Octets.{octets_behind}

-- ---- lists

mapped : {X Y : Type 0} (P : Y → Type 0) (f : X → Y) (xs : List X) → AllByRecursion (λ x. P (f x)) xs → AllByRecursion P (map f xs)
mapped P f [] all = tt
mapped P f (x ∷ xs) all = (all.0, mapped P f xs all.1)

unmapped : {X Y : Type 0} (P : Y → Type 0) (f : X → Y) (xs : List X) → AllByRecursion P (map f xs) → AllByRecursion (λ x. P (f x)) xs
unmapped P f [] all = tt
unmapped P f (x ∷ xs) all = (all.0, unmapped P f xs all.1)

-- a number that some item of a list is equal to is in it
listed_at : (n m : ℕ) (ns : List ℕ) (b : Bool) → nat_eq n m ≡ b → (b || list_any (nat_eq n) ns) ≡ true → (list_any (nat_eq n) ns ≡ true → Has n ns) → Has n (m ∷ ns)
listed_at n m ns true t e rest = inl (eqb-true n m t)
listed_at n m ns false t e rest = inr (rest e)

listed : (n : ℕ) (ns : List ℕ) → list_any (nat_eq n) ns ≡ true → Has n ns
listed n [] e = absurd cc
listed n (m ∷ ns) e = listed_at n m ns (nat_eq n m) refl e (listed n ns)

-- each number of a list is one of its different numbers
different_at : (n m : ℕ) (ns : List ℕ) (b : Bool) → list_any (nat_eq m) ns ≡ b → Has n (m ∷ ns) → (Has n ns → Has n (different ns)) → Has n (if b then different ns else m ∷ different ns)
different_at n m ns true t (inl e) rest = rest (subst (λ k. Has k ns) (sym e) (listed m ns t))
different_at n m ns true t (inr h) rest = rest h
different_at n m ns false t (inl e) rest = inl e
different_at n m ns false t (inr h) rest = inr (rest h)

pub has_different : (n : ℕ) (ns : List ℕ) → Has n ns → Has n (different ns)
has_different n [] h = h
has_different n (m ∷ ns) h = different_at n m ns (list_any (nat_eq m) ns) refl h (has_different n ns)

-- ---- base VIDs

pub vids_are_apart : (plans : List VidPlan) → ArePairwise (λ x y. x ≢ y) (vids_of plans) → AreVidsApart plans
vids_are_apart [] apart = tt
vids_are_apart (p ∷ plans) apart = (unmapped _ (λ plan. plan.vid.value) plans apart.0, vids_are_apart plans apart.1)

-- the plan of the base VID that is attached
plan_of : (plans : List VidPlan) (a : Attachment) → IsAttachment (vids_of plans) a → (p : VidPlan) × Has p plans × (a.vid.value ≡ p.vid.value)
plan_of plans a is = map_has (λ plan. plan.vid.value) a.vid.value plans (listed a.vid.value (vids_of plans) is.vid)

-- ---- what is attached

is_attached : (system : SystemId) (plans : List VidPlan) → AllByRecursion IsTree plans → (a : Attachment) → IsAttachment (vids_of plans) a → IsAttached (member_of system a)
is_attached system plans trees a is =
    let plan = plan_of plans a is in
    let tree : IsTree plan.0 = all_has IsTree plan.0 plans trees plan.1 in
    record {
      isid_low = is.isid_low;
      isid_high = is.isid_high;
      vid_low = subst (λ n. 1 ≤ n) (sym plan.2) tree.vid_low;
      vid_high = subst (λ n. n ≤ 4094) (sym plan.2) tree.vid_high;
    }

are_configured : (system : SystemId) (plans : List VidPlan) (a : Attachment) → IsAttachment (vids_of plans) a → (p : VidPlan) × Contains plans p × (p.vid ≡ (member_of system a).vid)
are_configured system plans a is =
    let plan = plan_of plans a is in
    (plan.0, contains_from_has plan.0 plans plan.1, λ i. record { value = sym plan.2 i })

one_vid : (system : SystemId) (attached : List Attachment) → ArePairwise AgreesWith attached → AreInOneVid (map (member_of system) attached)
one_vid system [] agree = tt
one_vid system (a ∷ attached) agree = (mapped _ (member_of system) attached (weaker (AgreesWith a) _ attached (λ b agrees. agrees.vids) agree.0), one_vid system attached agree.1)

isid_listed : (system : SystemId) (attached : List Attachment) (isid : Isid) → Has isid (isids_in (map (member_of system) attached)) → Numbered (λ n. n) isid.value (different (map (λ a. a.isid.value) attached))
isid_listed system attached isid has =
    let member = isid_attached isid (map (member_of system) attached) has in
    let at = map_has (member_of system) member.0 attached member.1 in
    record {
      item = at.0.isid.value;
      has = has_different at.0.isid.value (map (λ a. a.isid.value) attached) (has_map (λ a. a.isid.value) at.0 attached at.1);
      is = sym (ap isid_number (member.2 ∙ ap (λ (m : Member). m.isid) at.2));
    }

no_more_isids : (system : SystemId) (attached : List Attachment) → length (isids_in (map (member_of system) attached)) ≤ length (different (map (λ a. a.isid.value) attached))
no_more_isids system attached =
    let isids = isids_in (map (member_of system) attached) in
    length-within isid_number (λ n. n) isids (different (map (λ a. a.isid.value) attached)) (apart_ascends isid_number isids (ascending_ascends isid_number (map (λ m. m.isid) (map (member_of system) attached)))) (isid_listed system attached)

-- ---- neighbours

named_at : (up : Bool) (p : ℕ) (port : BridgePort) (ports : List BridgePort) → p ≤ 32 → IsSoundPort port → AllByRecursion IsNeighbour (neighbours_from (p + 1) ports)
    → AllByRecursion IsNeighbour (if up then neighbour_in p port ∷ neighbours_from (p + 1) ports else neighbours_from (p + 1) ports)
named_at true p port ports high sound rest = (record { system = sound.neighbour; metric = omega (arith, sound.metric.high); port = omega (arith, high) }, rest)
named_at false p port ports high sound rest = rest

are_neighbours : (p : ℕ) (ports : List BridgePort) → p + length ports ≤ 33 → AllByRecursion IsSoundPort ports → AllByRecursion IsNeighbour (neighbours_from p ports)
are_neighbours p [] few sound = tt
are_neighbours p (port ∷ ports) few sound = named_at (is_port_up port) p port ports (omega (arith, few)) sound.0 (are_neighbours (p + 1) ports (omega (arith, few)) sound.1)

octets_at : (up : Bool) (p : ℕ) (port : BridgePort) (ports : List BridgePort) → IsSoundPort port → AllByRecursion (λ n. IsBytes n.system.mac.bytes) (neighbours_from (p + 1) ports)
    → AllByRecursion (λ n. IsBytes n.system.mac.bytes) (if up then neighbour_in p port ∷ neighbours_from (p + 1) ports else neighbours_from (p + 1) ports)
octets_at true p port ports sound rest = (sound.octets, rest)
octets_at false p port ports sound rest = rest

neighbours_octets : (p : ℕ) (ports : List BridgePort) → AllByRecursion IsSoundPort ports → AllByRecursion (λ n. IsBytes n.system.mac.bytes) (neighbours_from p ports)
neighbours_octets p [] sound = tt
neighbours_octets p (port ∷ ports) sound = octets_at (is_port_up port) p port ports sound.0 (neighbours_octets (p + 1) ports sound.1)

fewer_at : (up : Bool) (p : ℕ) (port : BridgePort) (ports : List BridgePort) → length (neighbours_from (p + 1) ports) ≤ length ports
    → length (if up then neighbour_in p port ∷ neighbours_from (p + 1) ports else neighbours_from (p + 1) ports) ≤ length (port ∷ ports)
fewer_at true p port ports rest = omega (arith, rest)
fewer_at false p port ports rest = omega (arith, rest)

fewer_neighbours : (p : ℕ) (ports : List BridgePort) → length (neighbours_from p ports) ≤ length ports
fewer_neighbours p [] = omega arith
fewer_neighbours p (port ∷ ports) = fewer_at (is_port_up port) p port ports (fewer_neighbours (p + 1) ports)

-- ---- what is said

-- a bridge with at most 32 ports, each sound
module _ (v : BridgeView) (config : HasConfig v) (few : length v.ports ≤ 32) (ports : AllByRecursion IsSoundPort v.ports) where
  neighbours : AllByRecursion IsNeighbour (neighbours_from 1 v.ports)
  neighbours = are_neighbours 1 v.ports (omega (arith, few)) ports

  pub is_local : IsLocal (local_of v)
  is_local = record {
    source = config.source;
    few_vids = config.few_vids;
    vids = config.each_vid;
    vids_apart = vids_are_apart v.vids config.vids_apart;
    metrics = weaker IsNeighbour _ (neighbours_from 1 v.ports) (λ n is. is.metric) neighbours;
    attached = mapped IsAttached (member_of v.id.system) v.attached (weaker _ _ v.attached (is_attached v.id.system v.vids config.each_vid) config.each_attachment);
    one_vid = one_vid v.id.system v.attached config.attachments_apart;
    few_isids = omega (arith, no_more_isids v.id.system v.attached, config.few_isids);
  }

  pub has_fields : HasFields (local_of v)
  has_fields = record { priority = config.priority; mac = config.system.bytes; neighbours = neighbours }

  configured : AreConfigured (local_of v)
  configured = mapped _ (member_of v.id.system) v.attached (weaker _ _ v.attached (are_configured v.id.system v.vids) config.each_attachment)

  pub has_body : HasBodies (own_of v)
  has_body number body is =
      let f : IsFragment v number body = is_fragment v number body is in
      let fits : Fits f.tlvs = fragments_fit (local_of v) number f.tlvs is_local has_fields configured (omega (arith, fewer_neighbours 1 v.ports, few)) f.exists in
      subst (λ (b : List ℕ). (1 ≤ length b) × CanWrite kinds.Lsp (tlvs_of_body b)) (sym f.is)
      (omega arith, record { whole = fits.whole; short = omega (arith, fits.short) })

  has_octets : HasOctets (local_of v)
  has_octets = record { mac = config.system.octets; neighbours = neighbours_octets 1 v.ports ports }

  pub says_octets : SaysOctets (own_of v)
  says_octets number body is =
      let f : IsFragment v number body = is_fragment v number body is in
      let octets : IsBytes f.tlvs = fragments_are_octets (local_of v) number f.tlvs is_local has_fields has_octets f.exists in
      subst IsBytes (sym f.is) (octets_behind 1 f.tlvs (omega arith) octets)

  pub can_say : CanSay v
  can_say = record { local = is_local; fields = has_fields; body = has_body; octets = says_octets }

pub sound_can_say : SoundCanSay
sound_can_say v sound = can_say v sound.config sound.few sound.ports

-- What a bridge is configured with, and the bridge that it makes.
use Rattle.std.specs.Prelude.{◌≡◌, ◌≢◌, ℕ, ◌≤◌, ◌<◌, ◌%◌, List, [], ◌∷◌, length, map, replicate, false, if◌then◌else◌, slice_index, nat_eq, IsTrue, ⊤}
use Rattle.std.specs.List.{list_any, AllByRecursion}
use Rattle.std.specs.Str.{bytes_eq}
use Rattle.std.specs.FinMap.{empty}
use Rattle.spb_types.specs.declared.address.Mac.{Mac}
use Rattle.spb_types.specs.declared.service.Attachment.{Attachment}
use Rattle.spb_types.specs.declared.service.VidPlan.{VidPlan}
use Rattle.isis_pdu.specs.Grammar.{IsBytes}
use Rattle.spb_tlvs.specs.Capability.{IsTree}
use Rattle.flooding.specs.Own.{last_number, own_numbers}
use Rattle.adjacency.specs.Adjacency.{down}
use Rattle.bridge_api.specs.declared.port.BridgePort.{BridgePort}
use Rattle.bridge_api.specs.declared.config.BridgeConfig.{BridgeConfig}
use Rattle.bridge_api.specs.Drops.{no_drops}
use Rattle.bridge_api.specs.View.{BridgeView}
use Rattle.bridge_api.specs.Own.{after_begin}
use Rattle.spb_types.specs.declared.limits.TheConstants.{GREATEST_ISID, GREATEST_METRIC, MOST_CUSTOMER_PORTS, MOST_ISIDS, MOST_PORTS, MOST_VIDS, SOURCE_IDS}

-- the address of a bridge: six bytes, not all zero, with the group bit clear
pub record IsOwnMac (mac : Mac) : Type 0 where
  pub bytes : length mac.bytes ≡ 6
  pub octets : IsBytes mac.bytes
  pub individual : slice_index mac.bytes 0 % 2 ≡ 0
  pub some : bytes_eq mac.bytes (replicate 6 0) ≡ false

-- a metric of a link
pub record IsMetric (metric : ℕ) : Type 0 where
  pub low : 1 ≤ metric
  pub high : metric ≤ GREATEST_METRIC

-- each item stands so to every later one
abbrev pub ArePairwise : {X : Type 0} → (X → X → Type 0) → List X → Type 0
ArePairwise R [] = ⊤
ArePairwise R (x ∷ xs) = AllByRecursion (R x) xs × ArePairwise R xs

-- the different numbers of a list
abbrev pub different : List ℕ → List ℕ
different [] = []
different (x ∷ xs) = if list_any (nat_eq x) xs then different xs else x ∷ different xs

-- a customer port, attached to an I-SID in a base VID of these
pub record IsAttachment (vids : List ℕ) (a : Attachment) : Type 0 where
  pub port_low : 1 ≤ a.port
  pub port_high : a.port ≤ MOST_CUSTOMER_PORTS
  pub isid_low : 1 ≤ a.isid.value
  pub isid_high : a.isid.value ≤ GREATEST_ISID
  pub vid : IsTrue (list_any (nat_eq a.vid.value) vids)

-- two attachments: other ports, and one base VID for an I-SID
pub record AgreesWith (a b : Attachment) : Type 0 where
  pub ports : a.port ≢ b.port
  pub vids : a.isid.value ≡ b.isid.value → a.vid.value ≡ b.vid.value

abbrev pub vids_of : List VidPlan → List ℕ
vids_of plans = map (λ plan. plan.vid.value) plans

pub record IsWhole (c : BridgeConfig) : Type 0 where
  pub ports : c.ports ≤ MOST_PORTS
  pub metrics : length c.metrics ≡ c.ports
  pub each_metric : AllByRecursion IsMetric c.metrics
  pub few_vids : length c.vids ≤ MOST_VIDS
  pub each_vid : AllByRecursion IsTree c.vids
  pub vids_apart : ArePairwise (λ x y. x ≢ y) (vids_of c.vids)
  pub priority : c.id.priority < 65536
  pub system : IsOwnMac c.id.system.mac
  pub source : c.source.value < SOURCE_IDS
  pub each_attachment : AllByRecursion (IsAttachment (vids_of c.vids)) c.attached
  pub attachments_apart : ArePairwise AgreesWith c.attached
  pub few_isids : length (different (map (λ a. a.isid.value) c.attached)) ≤ MOST_ISIDS
  pub last : length c.last ≡ own_numbers
  pub each_last : AllByRecursion (λ n. n ≤ last_number) c.last

-- in a first life no own LSP had a number yet
abbrev pub first_life : List ℕ
first_life = replicate own_numbers 0

-- a port without carrier, with this metric
abbrev pub port_without_carrier : ℕ → BridgePort
port_without_carrier metric = record { adjacency = down false; csnp_due = false; metric = metric }

-- a bridge of this configuration with no carrier, no neighbour, nothing held or learned, and no frame dropped
abbrev pub bare : BridgeConfig → BridgeView
bare c = record {
  id = c.id;
  source = c.source;
  vids = c.vids;
  ports = map port_without_carrier c.metrics;
  database = empty;
  attached = c.attached;
  learned = empty;
  spent = false;
  failed = false;
  drops = no_drops;
}

-- the bridge right after its configuration: each of its own LSPs begins above the number that it had in the life before
unfoldable pub configured : BridgeConfig → BridgeView
configured c = after_begin c.last (bare c)

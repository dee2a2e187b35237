-- How much a bridge holds and sends that hears hellos alone.
use Rattle.std.specs.Prelude.{◌≡◌, ℕ, ◌+◌, ◌*◌, ◌≤◌, ◌<◌, length, Bool, false, None, ⊤}
use Rattle.std.specs.FinMap.{get, len}
use Rattle.spb_types.specs.declared.address.SystemId.{SystemId}
use Rattle.spb_types.specs.declared.address.LspId.{LspId}
use Rattle.isis_pdu.specs.Pdu.{HelloValue}
use Rattle.spb_tlvs.specs.declared.three_way.ThreeWay.{ThreeWay}
use Rattle.lsdb.specs.Version.{number_of}
use Rattle.lsdb.specs.Database.{Lsps, version_at}
use Rattle.flooding.specs.Own.{last_number, own_numbers, own_number, is_own_number}
use Rattle.bridge_api.specs.declared.config.BridgeConfig.{BridgeConfig}
use Rattle.bridge_api.specs.View.{BridgeView}
use Rattle.bridge_api.specs.Config.{first_life, configured}
use Rattle.bridge_api.specs.Parsing.{parsed}
use Rattle.bridge_api.specs.Parsing as parsing
use Rattle.bridge_api.specs.Step.{Input, second, frame, carrier, metric, attach, detach, customer, step, sent}

-- of a system: no LSP is held but its own, each of which is at number k at most, and the sequence numbers aren't spent
pub record Within (k : ℕ) (system : SystemId) (db : Lsps) (spent : Bool) : Type 0 where
  pub alone : (id : LspId) → is_own_number system id ≡ false → get db id ≡ None
  pub number : (number : ℕ) → number < own_numbers → number_of (version_at db (own_number system number)) ≤ k
  pub unspent : spent ≡ false

abbrev pub HoldsFew : ℕ → BridgeView → Type 0
HoldsFew k v = Within k v.id.system v.database v.spent

-- a frame that comes in is heard as a hello
abbrev pub IsHelloAlone : Input → Type 0
IsHelloAlone second = ⊤
IsHelloAlone (frame p bytes) = (h : HelloValue) × (way : ThreeWay) × (parsed bytes ≡ parsing.hello h way)
IsHelloAlone (carrier p on) = ⊤
IsHelloAlone (metric p m) = ⊤
IsHelloAlone (attach a) = ⊤
IsHelloAlone (detach p) = ⊤
IsHelloAlone (customer p bytes) = ⊤

-- a configured bridge holds its own LSPs, in its first life at number 1 at most
abbrev pub ConfiguredHoldsFew : Type 0
ConfiguredHoldsFew = (c : BridgeConfig) → c.last ≡ first_life → HoldsFew 1 (configured c)

-- by each step these go one number further at most
abbrev pub StepsHoldFew : Type 0
StepsHoldFew = (k : ℕ) (input : Input) (v : BridgeView)
    → k < last_number → IsHelloAlone input → HoldsFew k v → HoldsFew (k + 1) (step input v)

-- and whatever a bridge holds, a step in which it hears hellos alone brings no more LSPs than it has own numbers
abbrev pub StepsBringFew : Type 0
StepsBringFew = (input : Input) (v : BridgeView)
    → IsHelloAlone input → len (step input v).database ≤ len v.database + own_numbers

-- in a second, a bridge sends at all ports together, for each port, at most a hello and a CSNP, and a CSNP, an LSP and
-- a PSNP for each LSP that it holds when it sends: at most its own ones more than before
abbrev pub SecondsSendFew : Type 0
SecondsSendFew = (v : BridgeView)
    → length (sent second v) ≤ (3 * (len v.database + own_numbers) + 2) * length v.ports

-- or its own ones alone, where it holds no other
abbrev pub SecondsSendOwn : Type 0
SecondsSendOwn = (k : ℕ) (v : BridgeView)
    → k < last_number → HoldsFew k v → length (sent second v) ≤ (3 * own_numbers + 2) * length v.ports

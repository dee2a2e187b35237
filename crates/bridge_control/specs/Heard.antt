-- A frame that brought a hello, and what is kept of what it says.
use Rattle.std.specs.Prelude.{◌≡◌, ℕ, ◌+◌, ◌≤◌, List, [], true, Option, Some, slice_get}
use Rattle.spb_types.specs.declared.address.SystemId.{SystemId}
use Rattle.isis_pdu.specs.Pdu.{HelloValue}
use Rattle.adjacency.specs.Hearing as hearing
use Rattle.bridge_api.specs.Parsing.{parsed}
use Rattle.bridge_api.specs.Parsing as parsing
use Rattle.bridge_control.specs.declared.heard.Said.{Said}
use Rattle.bridge_control.specs.declared.heard.JudgedHello.{JudgedHello}

-- the hello that says this, with these TLVs
abbrev pub hello_saying : Said → List ℕ → HelloValue
hello_saying said tlvs = record {
  circuit_type = said.circuit_type;
  source = said.source;
  holding = said.holding;
  circuit = said.circuit;
  tlvs = tlvs;
}

-- a frame brings a hello that says this, with whatever TLVs it has
pub record IsSaidIn (frame : List ℕ) (said : Said) : Type 0 where
  pub state : said.way.state ≤ 2
  pub tlvs : List ℕ
  pub brings : parsed frame ≡ parsing.hello (hello_saying said tlvs) said.way

-- where it was found that a hello keeps a neighbour Up, it does at this port of this system
abbrev pub IsJudgedAt : SystemId → ℕ → JudgedHello → Type 0
IsJudgedAt me port judged = judged.keeps_up ≡ true
    → hearing.keeps_up me port (hello_saying judged.said []) judged.said.way ≡ true

-- each hello that came last to a port of this system was judged for that port
abbrev pub AreJudged : SystemId → List (Option JudgedHello) → Type 0
AreJudged me heard = (place : ℕ) (judged : JudgedHello) → slice_get heard place ≡ Some (Some judged)
    → IsJudgedAt me (place + 1) judged

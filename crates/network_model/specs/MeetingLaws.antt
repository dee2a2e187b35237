-- A network in which two bridges have met: so what is said of Up ports, and of LSPs on their way, is said of something.
use Rattle.std.specs.Prelude.{◌≡◌, ℕ, List, true, Some, slice_get}
use Rattle.link_model.specs.Lane.{Frame, IsIn}
use Rattle.isis_pdu.specs.Pdu.{HelloValue, LspValue}
use Rattle.spb_tlvs.specs.declared.three_way.ThreeWay.{ThreeWay}
use Rattle.lsdb.specs.declared.version.Version.TheVariants.{Live}
use Rattle.lsdb.specs.Certificate.{IsClaimed}
use Rattle.spb_types.specs.declared.link.Dir.TheVariants.{Ab}
use Rattle.bridge_api.specs.View.{BridgeView, is_up_at}
use Rattle.bridge_api.specs.Parsing.{parsed}
use Rattle.bridge_api.specs.Parsing as parsing
use Rattle.bridge_api.specs.Laws.{claims_said}
use Rattle.network_model.specs.State.{State, links_of, lane_at}
use Rattle.spb_world.specs.Links.{is_live, lane_out}
use Rattle.network_model.specs.SoundLaws.{Scene, state_after}

-- a frame of a lane that is heard as a hello
pub record HasHello (lane : List Frame) : Type 0 where
  pub bytes : Frame
  pub among : IsIn bytes lane
  pub hello : HelloValue
  pub way : ThreeWay
  pub heard : parsed bytes ≡ parsing.hello hello way

-- a frame of a lane that is heard as an LSP, which claims that it is live
pub record HasLiveLsp (lane : List Frame) : Type 0 where
  pub bytes : Frame
  pub among : IsIn bytes lane
  pub lsp : LspValue
  pub heard : parsed bytes ≡ parsing.lsp lsp
  pub number : ℕ
  pub sum : ℕ
  pub claimed : IsClaimed (claims_said (parsed bytes)) lsp.id (Live number sum)

-- port 1 of the first bridge, where the first link leads away in direction ab, is Up; and a hello and a live LSP are on
-- their way from there
pub record HaveMet (s : State) : Type 0 where
  pub live : is_live (links_of s) 0 ≡ true
  pub out : lane_out (links_of s) 0 1 ≡ Some (record { link = 0; dir = Ab })
  pub view : BridgeView
  pub there : slice_get s.views 0 ≡ Some view
  pub up : is_up_at view 1 ≡ true
  pub hello : HasHello (lane_at s 0 Ab)
  pub lsp : HasLiveLsp (lane_at s 0 Ab)

-- some commands lead to such a network
pub record SomeBridgesMeet : Type 0 where
  pub scene : Scene
  pub met : HaveMet (state_after scene)

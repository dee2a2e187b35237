-- What a reply to a line is, and which networks can be played.
use Rattle.std.specs.Prelude.{◌≡◌, false, List, Option}
use Rattle.std.specs.List.{AllByRecursion}
use Rattle.bridge_api.specs.Shown.{Shown}
use Rattle.spb_network.specs.declared.network.NetworkOf.{NetworkOf}
use Rattle.spb_network.specs.Applying.{IsReady}
use Rattle.spb_network.specs.Network.{state_of}
use Rattle.network_model.specs.declared.delivered.Delivered.{Delivered}
use Rattle.network_model.specs.Brief.{IsBrief}
use Rattle.network_model.specs.Sound.{opening}
use Rattle.network_model.specs.State.{State}
use Rattle.script_run.specs.Play.{Judged, packets_of}
use Rattle.script_run.specs.declared.refusal.Refusal.{Refusal}
use Rattle.script_run.specs.declared.reply.Reply.{Reply}
use Rattle.script_run.specs.declared.voice.Voice.TheVariants.{Answers, Packets}

-- a line was judged so
pub record Replies (judgement : Judged) (reply : Reply) (new : State) : Type 0 where
  pub text : reply.text.items ≡ judgement.says Answers
  pub refused : reply.refused ≡ judgement.refused
  pub state : new ≡ judgement.state

-- and so, where the deliveries are noted and nothing is answered
pub record Watched
    (judgement : Judged) (why : Option Refusal) (seen : List Delivered) (new : State) : Type 0 where
  pub packets : packets_of seen ≡ judgement.says Packets
  pub brief : AllByRecursion IsBrief seen
  pub refused : why ≡ judgement.refused
  pub state : new ≡ judgement.state

module _ {B : Type 0} (shown : B → Shown) where
  -- a network at which every command so far found memory
  pub record IsAlive (n : NetworkOf B) : Type 0 where
    pub halted : n.halted ≡ false
    pub ready : IsReady shown n

  -- a network as it is made of a rack: nothing is declared, and no command was applied
  pub record IsNew (n : NetworkOf B) : Type 0 where
    pub alive : IsAlive n
    pub opening : state_of shown n ≡ opening (state_of shown n).rule (state_of shown n).rack

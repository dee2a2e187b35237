-- What one application of a command answers and leaves where its deliveries are watched.
use Rattle.std.specs.Prelude.{◌≡◌, List, [], ◌∷◌, ◌++◌, Option, Some, None, Result, Ok, Err}
use Rattle.std.specs.List.{AllByRecursion}
use Rattle.scenario.specs.declared.command.Command.{Command}
use Rattle.bridge_api.specs.Shown.{Shown}
use Rattle.network_model.specs.declared.answer.Answer.{Answer}
use Rattle.network_model.specs.declared.delivered.Delivered.{Delivered}
use Rattle.network_model.specs.Captured.{seen_of}
use Rattle.network_model.specs.Brief.{IsBrief}
use Rattle.spb_network.specs.declared.network.NetworkOf.{NetworkOf}
use Rattle.spb_network.specs.declared.apply_error.ApplyError.{ApplyError}
use Rattle.spb_network.specs.Network.{state_of}
use Rattle.spb_network.specs.Applying.{Applies}

-- a delivery is noted behind those before it, if they are watched
abbrev pub with_one : Option (List Delivered) → Delivered → Option (List Delivered)
with_one None d = None
with_one (Some before) d = Some (before ++ d ∷ [])

-- and so are more, one after another
abbrev pub noted : Option (List Delivered) → List Delivered → Option (List Delivered)
noted before [] = before
noted before (d ∷ ds) = noted (with_one before d) ds

module _ {B : Type 0} (shown : B → Shown) where
  -- what `apply_watched` answers and leaves: it is `apply`, and where a command is accepted, its deliveries follow in
  -- order upon those that were seen before, each of a frame that is no longer than a bridge makes; else nothing more is
  -- seen
  pub record Watches (old : NetworkOf B) (c : Command) (result : Result Answer ApplyError)
      (before after : List Delivered) (new : NetworkOf B) : Type 0 where
    pub applies : Applies shown old c result new
    pub seen : (answer : Answer) → result ≡ Ok answer → after ≡ before ++ seen_of (state_of shown old) c
    pub brief : (answer : Answer) → result ≡ Ok answer → AllByRecursion IsBrief (seen_of (state_of shown old) c)
    pub kept : (error : ApplyError) → result ≡ Err error → after ≡ before

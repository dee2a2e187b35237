-- What is sent in a second carries no customer's frame.
use Rattle.std.proofs.Common.{◌≡◌, false}
use Rattle.bridge_api.specs.Parsing.{parsed, is_carrying}
use Rattle.bridge_api.specs.Ticking.{sent_in_tick}
use Rattle.bridge_laws.proofs.Forwarded.{sent_is}
use Rattle.bridge_laws.proofs.Isolation.{second_carries_none}
use Rattle.bridge_rounds.specs.Seconds.{SecondsCarryNone}

pub seconds_carry_none : SecondsCarryNone
seconds_carry_none v p bytes some = sent_is (λ b. is_carrying (parsed b) ≡ false) (sent_in_tick v) p bytes (second_carries_none v) some

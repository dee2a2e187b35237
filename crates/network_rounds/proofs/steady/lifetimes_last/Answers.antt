use Rattle.network_rounds.proofs.Lasting.{lifetimes_last}
use Rattle.network_rounds.proofs.steady.lifetimes_last.Goals as goal

pub returns : goal.returns
returns c = lifetimes_last

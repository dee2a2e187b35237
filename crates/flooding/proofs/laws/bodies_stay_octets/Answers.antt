use Rattle.flooding.proofs.Octets.{lsp_keeps_octets, entry_keeps_octets, settling_keeps_octets, starting_keeps_octets, ageing_keeps_octets}
use Rattle.flooding.proofs.laws.bodies_stay_octets.Goals as goal

pub returns : goal.returns
returns c = record {
  lsp = lsp_keeps_octets;
  entry = entry_keeps_octets;
  settling = settling_keeps_octets;
  starting = starting_keeps_octets;
  ageing = ageing_keeps_octets;
}

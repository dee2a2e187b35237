use Rattle.spb_types.proofs.PortLemmas.{has-no_ports, has-with_same, has-with_other, has-without_same, has-without_other, has_port, same_ports}
use Rattle.spb_types.proofs.laws.sets_of_ports_are_sets.Goals as goal

pub returns : goal.returns
returns c = record {
  empty = has-no_ports;
  put_in = has-with_same;
  others_put = has-with_other;
  taken_out = has-without_same;
  others_taken = has-without_other;
  ports = has_port;
  same = same_ports;
}

use Rattle.lsdb.proofs.Certified.{storing, acking, clearing, asking, offering, flagging, flooding, ageing, clearing_port, setting_srm}
use Rattle.lsdb.proofs.laws.changes_of_an_entry_are_certified.Goals as goal

pub returns : goal.returns
returns c = record {
  storing = storing;
  acking = acking;
  clearing = clearing;
  asking = asking;
  offering = offering;
  flagging = flagging;
  flooding = flooding;
  ageing = ageing;
  clearing_port = clearing_port;
  setting_srm = setting_srm;
}

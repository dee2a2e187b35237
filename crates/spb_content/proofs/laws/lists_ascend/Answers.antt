use Rattle.std.proofs.Common.{map}
use Rattle.spb_content.specs.Local.{plan_number, vid_number, isid_number}
use Rattle.spb_content.proofs.Ascended.{ascending_of}
use Rattle.spb_content.proofs.laws.lists_ascend.Goals as goal

pub returns : goal.returns
returns c = record {
  trees = λ l. ascending_of plan_number l.config.vids;
  vids = λ attached. ascending_of vid_number (map (λ m. m.vid) attached);
  isids = λ attached. ascending_of isid_number (map (λ m. m.isid) attached);
}

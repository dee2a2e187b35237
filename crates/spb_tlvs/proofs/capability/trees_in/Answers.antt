use Rattle.spb_tlvs.proofs.Chunks.{trees_are}
use Rattle.spb_tlvs.proofs.capability.trees_in.Goals as goal

pub returns : goal.returns
returns c = trees_are c.args.value.now _ _ _ _ c.split_at.ensures.front c.split_at.ensures.back c.as_chunks.ensures.front c.from.ensures c.requires.whole

use Rattle.bridge_control.proofs.Together.{tlvs_held, put_same}
use Rattle.bridge_control.proofs.reading.put_tlvs.Goals as goal

pub returns : goal.returns
returns c = put_same c.put_live.result c.args.tlvs.now.items c.put_live.new.tlvs.items (tlvs_held c.args.db.now c.args.id.now _ c.requires c.held_near.ensures) c.put_live.ensures

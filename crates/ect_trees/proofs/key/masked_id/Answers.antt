use Rattle.std.proofs.Common.{◌∙◌, bit_xor}
use Rattle.spb_types.specs.Address.{bridge_id_bytes}
use Rattle.ect_trees.proofs.Masked.{masked_bytes}
use Rattle.ect_trees.proofs.key.masked_id.Goals as goal

pub returns : goal.returns
returns c =
    c.to_le_bytes.ensures
    ∙ masked_bytes c.args.mask (bridge_id_bytes c.args.id) (bit_xor c.number_of.result c.from_le_bytes-masks.result) c.ranges.mask.fits c.number_of.ensures.bytes
    (λ i. bit_xor (c.number_of.ensures.number i) (c.from_le_bytes-masks.ensures i))

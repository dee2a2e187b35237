use Rattle.std.proofs.Common.{◌≡◌, ℕ, List, take, drop, refl, ◌∙◌}
use Rattle.lsdb.specs.Entry.{entry_of}
use Rattle.bridge_control.proofs.HeldAgain.{read_in_parts}
use Rattle.bridge_control.proofs.held_lsp.live_lsp.Goals as goal

pub returns-then-is_joined : goal.returns-then-is_joined
returns-then-is_joined c =
    let pdu : List ℕ = c.args.pdu.now in
    let first : take 26 pdu ≡ c.head_of-head.result = c.is_joined.ensures.head c.if-is_joined.true ∙ c.as_slice.ensures in
    let rest : drop 26 pdu ≡ c.args.held.now.body = c.is_joined.ensures.body c.if-is_joined.true ∙ c.as_slice-2.ensures in
    read_in_parts _ (entry_of c.args.held.now) pdu c.head_of-head.result _ c.head_of-head.ensures.id c.requires.sendable c.requires.live c.requires.long refl c.head_of-head.ensures.head refl c.split_at.ensures.back first rest

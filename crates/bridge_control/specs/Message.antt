-- What the code takes a frame for.
use Rattle.std.specs.Prelude.{◌≡◌, ◌≤◌}
use Rattle.isis_pdu.specs.Pdu.{hello_of, lsp_of, csnp_of, psnp_of}
use Rattle.bridge_api.specs.Parsing.{Parsed}
use Rattle.bridge_api.specs.Parsing as parsing
use Rattle.bridge_control.specs.Carrying.{carrying}
use Rattle.bridge_control.specs.declared.parsing.Message.{Message}
use Rattle.bridge_control.specs.declared.parsing.Message.TheVariants as message

-- a message is what a frame is taken for, and one that is dropped says for which reason
abbrev pub Says : Message → Parsed → Type 0
Says (message.Dropped reason) j = j ≡ parsing.dropped reason
Says (message.Hello h way) j = (j ≡ parsing.hello (hello_of h) way) × (way.state ≤ 2)
Says (message.Lsp l near) j = j ≡ parsing.lsp (lsp_of l)
Says (message.Csnp c) j = j ≡ parsing.csnp (csnp_of c)
Says (message.Psnp s) j = j ≡ parsing.psnp (psnp_of s)
Says (message.Customer f) j = j ≡ carrying f

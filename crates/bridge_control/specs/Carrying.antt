-- A backbone frame that carries a customer's frame.
use Rattle.std.specs.Prelude.{ℕ, List, Bool, true, false}
use Rattle.itag_frames.specs.declared.frame.Backbone.{Backbone}
use Rattle.bridge_api.specs.View.{BridgeView}
use Rattle.bridge_api.specs.Customers.{forwarded}
use Rattle.bridge_api.specs.Parsing.{Parsed, parsed}
use Rattle.bridge_api.specs.Parsing as parsing

-- what the frame is taken for from which this was opened
abbrev pub carrying : Backbone → Parsed
carrying f = parsing.customer f.da f.sa f.vid f.isid f.customer.now

-- a bridge to which it comes at its port number p
abbrev pub forwarded_by : Backbone → ℕ → BridgeView → BridgeView
forwarded_by f p v = forwarded f.da f.sa f.vid f.isid f.customer.now p v

-- what it is taken for is a customer's frame
abbrev pub is_customer : Parsed → Bool
is_customer (parsing.dropped reason) = false
is_customer (parsing.hello h way) = false
is_customer (parsing.lsp l) = false
is_customer (parsing.csnp c) = false
is_customer (parsing.psnp s) = false
is_customer (parsing.customer da sa vid isid payload) = true

-- a frame carries a customer's frame
abbrev pub carries_customer : List ℕ → Bool
carries_customer frame = is_customer (parsed frame)

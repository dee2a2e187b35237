-- What a frame that comes to a bridge makes it send and let out, and what it leaves of adjacencies.
use Rattle.std.proofs.Common.{◌≡◌, ℕ, Bool, true, false, List, refl, ap, Option, Some, None}
use Rattle.std.specs.Prelude.{if◌then◌else◌}
use Rattle.std.proofs.lemmas.Bool.{true≢false}
use Rattle.forwarding.specs.declared.moved.Moved.{Moved}
use Rattle.forwarding.specs.Tenant.{nothing}
use Rattle.bridge_api.specs.declared.port.BridgePort.{BridgePort}
use Rattle.bridge_api.specs.View.{BridgeView, port_at}
use Rattle.bridge_api.specs.Parsing.{Parsed, parsed, is_carrying}
use Rattle.bridge_api.specs.Parsing as parsing
use Rattle.bridge_api.specs.Customers.{moved_as, moved_at, moved_by_receive}
use Rattle.bridge_api.proofs.Time.{frame_silent}
use Rattle.bridge_rounds.specs.Hearing.{ControlIsSilent, FramesAreSilent}

moves_nothing_as : (j : Parsed) (p : ℕ) (bytes : List ℕ) (v : BridgeView) → is_carrying j ≡ false → moved_as j p bytes v ≡ nothing
moves_nothing_as (parsing.dropped reason) p bytes v none = refl
moves_nothing_as (parsing.hello h way) p bytes v none = refl
moves_nothing_as (parsing.lsp l) p bytes v none = refl
moves_nothing_as (parsing.csnp c) p bytes v none = refl
moves_nothing_as (parsing.psnp s) p bytes v none = refl
moves_nothing_as (parsing.customer da sa vid isid f) p bytes v none = absurd (true≢false none)

moves_nothing_where : (has_carrier : Bool) (m : Moved) → m ≡ nothing → (if has_carrier then m else nothing) ≡ nothing
moves_nothing_where true m none = none
moves_nothing_where false m none = refl

moves_nothing_at : (o : Option BridgePort) (p : ℕ) (bytes : List ℕ) (v : BridgeView) → is_carrying (parsed bytes) ≡ false → moved_at p bytes o v ≡ nothing
moves_nothing_at None p bytes v none = refl
moves_nothing_at (Some port) p bytes v none = moves_nothing_where port.adjacency.carrier (moved_as (parsed bytes) p bytes v) (moves_nothing_as (parsed bytes) p bytes v none)

moves_nothing : (v : BridgeView) (p : ℕ) (bytes : List ℕ) → is_carrying (parsed bytes) ≡ false → moved_by_receive p bytes v ≡ nothing
unfolding moved_by_receive
moves_nothing v p bytes none = moves_nothing_at (port_at v p) p bytes v none

pub control_is_silent : ControlIsSilent
control_is_silent v p bytes none =
    let still = moves_nothing v p bytes none in
    (ap (λ (m : Moved). m.wire) still, ap (λ (m : Moved). m.left) still)

pub frames_are_silent : FramesAreSilent
frames_are_silent v p q bytes silent = frame_silent v q p bytes silent

use Rattle.std.proofs.Common.{◌≡◌, ◌-◌, length, drop, true, slice_get}
use Rattle.std.specs.List.{list_all}
use Rattle.std.specs.Option.{option_map_or}
use Rattle.std.specs.FinMap.{entries}
use Rattle.spb_network.specs.Network.{state_of}
use Rattle.settle_laws.specs.Premises.{view_passes, lsp_passes}
use Rattle.settle_laws.proofs.databases.database_passes.Given as goal

abbrev pub invariant-loop-held : goal.invariant-loop-held
invariant-loop-held g l =
    option_map_or (view_passes l.fn.test) (slice_get (state_of g.B.Bridge.shown l.fn.network).views l.fn.bridge) true
    ≡ option_map_or (λ v. list_all (λ e. lsp_passes l.fn.test v.id.system e.0 e.1) (drop l.place (entries v.database))) (slice_get (state_of g.B.Bridge.shown l.fn.network).views l.fn.bridge) true

abbrev pub decreases-loop-held : goal.decreases-loop-held
decreases-loop-held g l = option_map_or (λ v. length (entries v.database)) (slice_get (state_of g.B.Bridge.shown l.fn.network).views l.fn.bridge) 0 - l.place

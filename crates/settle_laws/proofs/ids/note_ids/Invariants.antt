use Rattle.std.proofs.Common.{◌≡◌, ◌-◌, length, drop, map, slice_get}
use Rattle.std.specs.Option.{option_map_or}
use Rattle.std.specs.FinMap.{entries}
use Rattle.network_rounds.specs.Premises.{ids_of}
use Rattle.spb_network.specs.Network.{state_of}
use Rattle.settle_laws.specs.Ids.{with_ids}
use Rattle.settle_laws.proofs.ids.note_ids.Given as goal

abbrev pub invariant-loop-held : goal.invariant-loop-held
invariant-loop-held g l =
    option_map_or (λ v. with_ids l.fn.found.items (ids_of v)) (slice_get (state_of g.B.Bridge.shown l.fn.network).views l.fn.bridge) l.fn.found.items
    ≡ option_map_or (λ v. with_ids l.found.items (map (λ e. e.0) (drop l.place (entries v.database)))) (slice_get (state_of g.B.Bridge.shown l.fn.network).views l.fn.bridge) l.found.items

abbrev pub decreases-loop-held : goal.decreases-loop-held
decreases-loop-held g l = option_map_or (λ v. length (entries v.database)) (slice_get (state_of g.B.Bridge.shown l.fn.network).views l.fn.bridge) 0 - l.place

use Rattle.std.proofs.Common.{◌<◌, ◌≤◌, length, rules}
use Rattle.lsdb.specs.Entry.{with_flags_at}
use Rattle.lsdb.proofs.Maps.{place_sound, place_map, past_map}
use Rattle.lsdb.proofs.database.Database.set_flags_at.Goals as goal

pub invariant_of-self : goal.invariant_of-self
invariant_of-self c =
    let within : c.args.place < length c.self.inside.held.items = search rules in
    (place_sound _ c.args.place within c.self.invariant.0 (with_flags_at c.args.port c.args.srm c.args.ssn) _ _ c.index_mut.ensures.value c.set_flags_at.ensures (λ clean. clean), cc)

pub returns-then-place-len : goal.returns-then-place-len
returns-then-place-len c =
    let within : c.args.place < length c.self.inside.held.items = search rules in
    place_map _ c.args.place within c.self.invariant.0 (with_flags_at c.args.port c.args.srm c.args.ssn) _ _ c.index_mut.ensures.value c.set_flags_at.ensures _ c.self.view_is

pub returns-else-place-len : goal.returns-else-place-len
returns-else-place-len c =
    let past : length c.self.inside.held.items ≤ c.args.place = search rules in
    past_map _ c.args.place past c.self.invariant.0 (with_flags_at c.args.port c.args.srm c.args.ssn) _ c.self.view_is

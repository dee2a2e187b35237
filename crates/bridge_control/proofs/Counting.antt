-- A machine of which nothing but the counts of dropped frames changed.
use Rattle.std.proofs.Common.{◌≡◌, refl, ap, ◌∙◌}
use Rattle.spb_types.specs.declared.drop_reason.DropReason.{DropReason}
use Rattle.bridge_api.specs.declared.drops.Drops.{Drops}
use Rattle.bridge_api.specs.Drops.{raised_at}
use Rattle.bridge_api.specs.View.{BridgeView, with_drops}
use Rattle.bridge_api.specs.Own.{own_of, bodies_of}
use Rattle.bridge_api.specs.Hearing.{after_drop}
use Rattle.bridge_api.specs.Tables.{own_tables}
use Rattle.bridge_control.specs.declared.machine.Machine.{Machine}
use Rattle.bridge_control.specs.Machine.{view_of, IsCurrent, IsAfter}

-- the counts aren't said
counted_own : (v : BridgeView) (drops : Drops) → own_of v ≡ own_of (with_drops drops v)
unfolding bodies_of
counted_own v drops = refl

pub counted_current : (m : Machine) (drops : Drops) → IsCurrent m → IsCurrent (record m { drops = drops })
counted_current m drops current = record {
  own = current.own ∙ counted_own (view_of m) drops;
  ports = record { hellos = current.ports.hellos; up = current.ports.up; me = current.ports.me; heard = current.ports.heard };
}

pub dropped_after : (m : Machine) (reason : DropReason) (drops : Drops) → IsCurrent m → drops ≡ raised_at reason 1 m.drops → IsAfter (after_drop reason (view_of m)) (record m { drops = drops })
dropped_after m reason drops current is = record { view = ap (λ (d : Drops). with_drops d (view_of m)) is; current = counted_current m drops current }

-- the tables stay
pub counted_tables : (m : Machine) (drops : Drops) → own_tables (view_of (record m { drops = drops })) ≡ own_tables (view_of m)
unfolding own_tables
counted_tables m drops = refl

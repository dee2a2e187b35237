-- The machine of a configuration.
use Rattle.std.proofs.Common.{◌≡◌, ◌≤◌, length, sym, ap, ◌∙◌, subst, arith}
use Rattle.std.proofs.lemmas.List.{length-map}
use Rattle.flooding.specs.Room.{most_others, others}
use Rattle.spb_content.specs.Local.{IsLocal}
use Rattle.bridge_api.specs.declared.config.BridgeConfig.{BridgeConfig}
use Rattle.bridge_api.specs.View.{BridgeView}
use Rattle.bridge_api.specs.Own.{local_of, own_of, after_begin}
use Rattle.bridge_api.specs.Config.{IsWhole, port_without_carrier, bare, configured}
use Rattle.bridge_api.proofs.Saying.{is_local}
use Rattle.bridge_api.proofs.Configured.{none_other}
use Rattle.bridge_api.proofs.SoundPorts.{all_without_carrier, bare_config}
use Rattle.bridge_control.specs.declared.machine.Machine.{Machine}
use Rattle.bridge_control.specs.Machine.{view_of, IsAfter}
use Rattle.bridge_control.proofs.Owning.{after_same}

few_without_carrier : (c : BridgeConfig) → IsWhole c → length (bare c).ports ≤ 32
few_without_carrier c whole = omega (arith, length-map c.metrics port_without_carrier, whole.metrics, whole.ports)

pub bare_local : (c : BridgeConfig) → IsWhole c → IsLocal (local_of (bare c))
bare_local c whole = is_local (bare c) (bare_config c whole) (few_without_carrier c whole) (all_without_carrier c.metrics whole.each_metric)

pub bare_few : (c : BridgeConfig) → IsWhole c → (m : Machine) → view_of m ≡ bare c → length m.ports.items ≤ 32
bare_few c whole m is = subst (λ (v : BridgeView). length v.ports ≤ 32) (sym is) (few_without_carrier c whole)

pub bare_room : (c : BridgeConfig) (m : Machine) → view_of m ≡ bare c → others m.id.system m.db ≤ most_others
bare_room c m is = subst (λ (v : BridgeView). others v.id.system v.database ≤ most_others) (sym is) (none_other c.id.system)

pub configured_after : (c : BridgeConfig) (m n p : Machine) → view_of m ≡ bare c → n ≡ record m { own = own_of (view_of m) } → IsAfter (after_begin c.last (view_of n)) p → IsAfter (configured c) p
unfolding configured
configured_after c m n p is renewed after = after_same (after_begin c.last (view_of n)) (after_begin c.last (bare c)) p (ap (after_begin c.last) (ap view_of renewed ∙ is)) after

-- What a bridge forgets when a customer port is detached (IEEE 802.1Q, 8.7; IEEE 802.1ah, 25.10).
use Rattle.std.specs.Prelude.{ℕ, List, Option, Some, None, if◌then◌else◌}
use Rattle.std.specs.List.{list_any}
use Rattle.spb_types.specs.declared.service.Attachment.{Attachment}
use Rattle.spb_types.specs.declared.service.Isid.{Isid}
use Rattle.customer_learning.specs.Known.{Addresses, with_port_forgotten, with_isid_forgotten}
use Rattle.forwarding.specs.declared.tenant.Tenant.{Tenant}
use Rattle.forwarding.specs.Ports.{attachment_of, is_in, without_customer_port}

-- a port of an I-SID went, and these are left: the addresses at the port are forgotten, and all of the I-SID where none
-- of its ports is left
abbrev pub without_port : List Attachment → Isid → ℕ → Addresses → Addresses
without_port left isid port learned =
    if list_any (is_in isid) left then with_port_forgotten learned isid port else with_isid_forgotten learned isid

abbrev pub learned_without : ℕ → Tenant → Option Attachment → Addresses
learned_without port t None = t.learned
learned_without port t (Some a) = without_port (without_customer_port port t.attached) a.isid port t.learned

-- the bridge after the customer port of this number was detached
abbrev pub after_detach : Tenant → ℕ → Tenant
after_detach t port = record t {
  attached = without_customer_port port t.attached;
  learned = learned_without port t (attachment_of port t.attached);
}

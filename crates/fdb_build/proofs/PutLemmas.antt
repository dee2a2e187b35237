-- Ports put at an address that had none, and put again.
use Rattle.std.specs.Prelude.{◌≡◌, ◌<◌, ◌^◌, Bool, true, false, cond, Option, Some, None, unwrap_or}
use Rattle.std.specs.BTreeMap.{BTreeMap, get}
use Rattle.std.specs.Int.Bits.{or_zero_l}
use Rattle.std.specs.Ordering.{is_eq}
use Rattle.std.proofs.Common.{refl, sym, ap, ◌∙◌, subst}
use Rattle.spb_types.specs.Ports.{no_ports}
use Rattle.spb_types.specs.declared.address.Mac.{Mac}
use Rattle.spb_types.specs.declared.ports.PortSet.{PortSet}
use Rattle.fdb_build.specs.Tables.{mac_cmp}
use Rattle.fdb_build.specs.Making.{union, ports_at}
use Rattle.fdb_build.proofs.GrowLemmas.{Put}

-- an address that had none
union_first : (old : BTreeMap Mac PortSet) (mac : Mac) (ports : PortSet) → get mac_cmp old mac ≡ None → union (ports_at old mac) ports ≡ ports
unfolding no_ports
union_first old mac ports none = ap (λ o. union (unwrap_or o no_ports) ports) none ∙ (λ i. record { bits = or_zero_l ports.bits i })

pub put_first : (old new : BTreeMap Mac PortSet) (mac : Mac) (ports : PortSet) → get mac_cmp old mac ≡ None → Put old new mac ports → Put old new mac (union (ports_at old mac) ports)
put_first old new mac ports none u = subst (Put old new mac) (sym (union_first old mac ports none)) u

pub first_is_small : (old : BTreeMap Mac PortSet) (mac : Mac) (ports : PortSet) → get mac_cmp old mac ≡ None → ports.bits < 2 ^ 32 → (union (ports_at old mac) ports).bits < 2 ^ 32
first_is_small old mac ports none small = subst (λ (s : PortSet). s.bits < 2 ^ 32) (sym (union_first old mac ports none)) small

twice : (b : Bool) (x y z : Option PortSet) → cond b x (cond b y z) ≡ cond b x z
twice true x y z = refl
twice false x y z = refl

-- the later of two that one address got
pub put_again : (old mid new : BTreeMap Mac PortSet) (mac : Mac) (v w : PortSet) → Put old mid mac v → Put mid new mac w → Put old new mac w
put_again old mid new mac v w a b = record {
  put = λ q. b.put q ∙ (ap (λ o. cond (is_eq (mac_cmp mac q)) (Some w) o) (a.put q) ∙ twice (is_eq (mac_cmp mac q)) (Some w) (Some v) (get mac_cmp old q));
}

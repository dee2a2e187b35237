-- The order of LSP ids is total, and only equal ids tie.
use Rattle.std.specs.Prelude.{◌≡◌, true}
use Rattle.std.proofs.Common.{refl, ap, subst, ◌∙◌}
use Rattle.std.specs.declared.cmp.Ordering.{Ordering}
use Rattle.std.specs.declared.cmp.Ordering.TheVariants.{Less, Equal, Greater}
use Rattle.std.specs.Ordering.{nat_cmp, ordering_then, ordering_reverse, is_lt}
use Rattle.std.specs.Cmp.{IsTotalOrder}
use Rattle.std.specs.Cmp.Lexicographic.{slice_cmp}
use Rattle.std.specs.FinMap.{IsAntisymmetric, nat_cmp-IsAntisymmetric, slice_cmp-IsAntisymmetric}
use Rattle.std.proofs.lemmas.Cmp.{nat_cmp_total, nat_list_cmp_total, on_total, then_total, tied_itself}
use Rattle.spb_types.specs.declared.address.LspId.{LspId}
use Rattle.lsdb.specs.Database.{id_cmp}

pub ids_total : IsTotalOrder id_cmp
ids_total = then_total (on_total (λ (x : LspId). x.system.mac.bytes) nat_list_cmp_total) (then_total (on_total (λ (x : LspId). x.pseudonode) nat_cmp_total) (on_total (λ (x : LspId). x.number) nat_cmp_total))

both_tie : (o r : Ordering) → ordering_then o r ≡ Equal → (o ≡ Equal) × (r ≡ Equal)
both_tie Less r e = absurd (cc)
both_tie Equal r e = (refl, e)
both_tie Greater r e = absurd (cc)

pub ids_tied : IsAntisymmetric id_cmp
ids_tied x y e =
    let systems = both_tie (slice_cmp nat_cmp x.system.mac.bytes y.system.mac.bytes) _ e in
    let rest = both_tie (nat_cmp x.pseudonode y.pseudonode) (nat_cmp x.number y.number) systems.1 in
    let bytes : x.system.mac.bytes ≡ y.system.mac.bytes = slice_cmp-IsAntisymmetric nat_cmp-IsAntisymmetric _ _ systems.0 in
    let pseudonode : x.pseudonode ≡ y.pseudonode = nat_cmp-IsAntisymmetric _ _ rest.0 in
    let number : x.number ≡ y.number = nat_cmp-IsAntisymmetric _ _ rest.1 in
    λ i. record { system = record { mac = record { bytes = bytes i } }; pseudonode = pseudonode i; number = number i }

pub tied_same : (x y : LspId) → x ≡ y → id_cmp x y ≡ Equal
tied_same x y e = subst (λ (z : LspId). id_cmp x z ≡ Equal) e (tied_itself ids_total x)

pub turned_less : (x y : LspId) → id_cmp x y ≡ Less → id_cmp y x ≡ Greater
turned_less x y e = ids_total.antisymm y x ∙ ap ordering_reverse e

pub turned_greater : (x y : LspId) → id_cmp x y ≡ Greater → id_cmp y x ≡ Less
turned_greater x y e = ids_total.antisymm y x ∙ ap ordering_reverse e

pub less_is : (o : Ordering) → is_lt o ≡ true → o ≡ Less
less_is Less e = refl
less_is Equal e = absurd (cc)
less_is Greater e = absurd (cc)

-- Rows are the same just where they are equal.
use Rattle.std.proofs.Common.{◌≡◌, Bool, true, false, ◌&&◌, ◌==◌, refl, ap}
use Rattle.std.proofs.lemmas.Bool.{eqb-true, eq-eqb}
use Rattle.std.proofs.lemmas.Slice.Eq.{bytes_eq-Decides}
use Rattle.std.specs.Str.{bytes_eq}
use Rattle.spb_types.specs.declared.tables.UnicastRow.{UnicastRow}
use Rattle.spb_types.specs.declared.tables.GroupRow.{GroupRow}
use Rattle.spb_types.specs.declared.tables.TableRow.{TableRow}
use Rattle.spb_types.specs.declared.tables.TableRow.TheVariants.{Unicast, Group}
use Rattle.table_changes.specs.Changes.{same_unicast, same_group, same_row}

left : (a b : Bool) → (a && b) ≡ true → a ≡ true
left true b h = refl
left false b h = h

right : (a b : Bool) → (a && b) ≡ true → b ≡ true
right true b h = h
right false b h = cc

both : (a b : Bool) → a ≡ true → b ≡ true → (a && b) ≡ true
both true b h k = k
both false b h k = h

unicast_is : (r s : UnicastRow) → same_unicast r s ≡ true → r ≡ s
unicast_is r s h =
    let vid = eqb-true _ _ (left (r.vid.value == s.vid.value) _ h) in
    let rest = right (r.vid.value == s.vid.value) _ h in
    let mac = (bytes_eq-Decides _ _).0 (left (bytes_eq r.mac.bytes s.mac.bytes) _ rest) in
    let port = eqb-true _ _ (right (bytes_eq r.mac.bytes s.mac.bytes) _ rest) in
    λ i. record { vid = record { value = vid i }; mac = record { bytes = mac i }; port = port i }

group_is : (r s : GroupRow) → same_group r s ≡ true → r ≡ s
group_is r s h =
    let vid = eqb-true _ _ (left (r.vid.value == s.vid.value) _ h) in
    let rest = right (r.vid.value == s.vid.value) _ h in
    let mac = (bytes_eq-Decides _ _).0 (left (bytes_eq r.mac.bytes s.mac.bytes) _ rest) in
    let ports = eqb-true _ _ (right (bytes_eq r.mac.bytes s.mac.bytes) _ rest) in
    λ i. record { vid = record { value = vid i }; mac = record { bytes = mac i }; ports = record { bits = ports i } }

-- rows that are the same are equal
pub same_is : (r s : TableRow) → same_row r s ≡ true → r ≡ s
same_is (Unicast r) (Unicast s) h = ap Unicast (unicast_is r s h)
same_is (Unicast r) (Group s) h = cc
same_is (Group r) (Unicast s) h = cc
same_is (Group r) (Group s) h = ap Group (group_is r s h)

-- a row is the same as itself
pub same_self : (r : TableRow) → same_row r r ≡ true
same_self (Unicast r) = both _ _ (eq-eqb _ _ refl) (both _ _ ((bytes_eq-Decides r.mac.bytes r.mac.bytes).1 refl) (eq-eqb _ _ refl))
same_self (Group r) = both _ _ (eq-eqb _ _ refl) (both _ _ ((bytes_eq-Decides r.mac.bytes r.mac.bytes).1 refl) (eq-eqb _ _ refl))

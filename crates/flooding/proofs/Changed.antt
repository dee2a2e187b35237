-- Changes of what is held under one id.
use Rattle.std.specs.Prelude.{◌≡◌, ℕ, true, false, ◌||◌, not, nat_lt, is_some, Option, Some, None, slice_get, if◌then◌else◌}
use Rattle.std.proofs.Common.{refl, sym, ap, subst, ◌∙◌, ⊎_elim}
use Rattle.std.specs.Option.{option_map}
use Rattle.std.specs.FinMap.{get, insert, entries, same_map}
use Rattle.spb_types.specs.declared.address.SystemId.{SystemId}
use Rattle.spb_types.specs.declared.address.LspId.{LspId}
use Rattle.lsdb.specs.declared.version.Version.{Version}
use Rattle.lsdb.specs.declared.version.Version.TheVariants.{Absent, Live, Dead}
use Rattle.lsdb.specs.Version.{is_absent}
use Rattle.lsdb.specs.Entry.{Entry}
use Rattle.lsdb.specs.Database.{Lsps, version_in, version_if_held, changed, changed_to, changed_under, changed_if_held}
use Rattle.lsdb.proofs.Ids.{ids_total, ids_tied}
use Rattle.lsdb.proofs.LookupLemmas.{get-insert_same, get-insert_other, same_or_not, get_place}
use Rattle.flooding.specs.Own.{is_own_number}
use Rattle.flooding.specs.Room.{most_others, others, has_room}
use Rattle.flooding.specs.Hearing.{Holding, unless_absent, lacks_place}

-- what is held, put in again
pub insert_held : (db : Lsps) (id : LspId) (e : Entry) → get db id ≡ Some e → insert db id e ≡ db
insert_held db id e is = same_map ids_total ids_tied (insert db id e) db (λ x. ⊎_elim
    (λ here. subst (λ (y : LspId). get (insert db id e) y ≡ get db y) (sym here) (get-insert_same db id e ∙ sym is))
    (λ elsewhere. get-insert_other db id e x elsewhere)
    (same_or_not x id))

-- a change that leaves what is held
still_at : (f : Entry → Entry) (db : Lsps) (id : LspId) (o : Option Entry) → get db id ≡ o → option_map f o ≡ o → changed_to db id (option_map f o) ≡ db
still_at f db id None is same = refl
still_at f db id (Some e) is same = ap (changed_to db id) same ∙ insert_held db id e is

pub changed_still : (f : Entry → Entry) (db : Lsps) (id : LspId) → option_map f (get db id) ≡ get db id → changed f db id ≡ db
changed_still f db id same = still_at f db id (get db id) refl same

-- what is held has room, and a change of it needs no place
pub held_has_room : (system : SystemId) (db : Lsps) (id : LspId) (e : Entry) → get db id ≡ Some e → has_room system db id ≡ true
held_has_room system db id e is = ap (λ o. is_some o || (is_own_number system id || nat_lt (others system db) most_others)) is

placeless_at : (f : Entry → Entry) (h : Holding) (id : LspId) (o : Option Entry) → get h.db id ≡ o → lacks_place h id (option_map f o) ≡ false
placeless_at f h id None is = refl
placeless_at f h id (Some e) is = ap not (held_has_room h.own.system h.db id e is)

pub change_has_place : (f : Entry → Entry) (h : Holding) (id : LspId) → lacks_place h id (option_map f (get h.db id)) ≡ false
change_has_place f h id = placeless_at f h id (get h.db id) refl

-- a change that spares an absent entry
pub spared : (f : Entry → Entry) (o : Option Entry) → version_in o ≡ Absent → option_map (unless_absent f) o ≡ o
spared f None is = refl
spared f (Some e) is = ap (λ a. Some (if is_absent a then e else f e)) is

pub unspared : (f : Entry → Entry) (o : Option Entry) → is_absent (version_in o) ≡ false → option_map (unless_absent f) o ≡ option_map f o
unspared f None is = refl
unspared f (Some e) is = ap (λ b. Some (if b then e else f e)) is

pub changed_spared : (f : Entry → Entry) (db : Lsps) (id : LspId) → version_in (get db id) ≡ Absent → changed (unless_absent f) db id ≡ db
changed_spared f db id is = changed_still (unless_absent f) db id (spared f (get db id) is)

pub absent_is : (a : Version) → is_absent a ≡ true → a ≡ Absent
absent_is Absent is = refl
absent_is (Live seq sum) is = absurd (cc)
absent_is (Dead seq) is = absurd (cc)

pub changed_unspared : (f : Entry → Entry) (db : Lsps) (id : LspId) → is_absent (version_in (get db id)) ≡ false → changed (unless_absent f) db id ≡ changed f db id
changed_unspared f db id is = ap (changed_to db id) (unspared f (get db id) is)

pub not_absent : (a : Version) → (a ≡ Absent → ⊥) → is_absent a ≡ false
not_absent Absent other = absurd (other refl)
not_absent (Live seq sum) other = refl
not_absent (Dead seq) other = refl

-- the same at a place
at_spared : (f : Entry → Entry) (db : Lsps) (k : ℕ) (o : Option (LspId × Entry)) → slice_get (entries db) k ≡ o → version_in (option_map (λ e. e.1) o) ≡ Absent → changed_under (unless_absent f) db o ≡ db
at_spared f db k None at is = refl
at_spared f db k (Some e) at is = changed_spared f db e.0 (ap version_in (get_place db k e at) ∙ is)

pub held_spared : (f : Entry → Entry) (db : Lsps) (o : Option ℕ) → version_if_held db o ≡ Absent → changed_if_held (unless_absent f) db o ≡ db
held_spared f db None is = refl
held_spared f db (Some place) is = at_spared f db place (slice_get (entries db) place) refl is

at_unspared : (f : Entry → Entry) (db : Lsps) (k : ℕ) (o : Option (LspId × Entry)) → slice_get (entries db) k ≡ o → is_absent (version_in (option_map (λ e. e.1) o)) ≡ false → changed_under (unless_absent f) db o ≡ changed_under f db o
at_unspared f db k None at is = refl
at_unspared f db k (Some e) at is = changed_unspared f db e.0 (ap (λ (o : Option Entry). is_absent (version_in o)) (get_place db k e at) ∙ is)

pub held_unspared : (f : Entry → Entry) (db : Lsps) (o : Option ℕ) → is_absent (version_if_held db o) ≡ false → changed_if_held (unless_absent f) db o ≡ changed_if_held f db o
held_unspared f db None is = refl
held_unspared f db (Some place) is = at_unspared f db place (slice_get (entries db) place) refl is

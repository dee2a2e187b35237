-- The sequence numbers with which a bridge's life ends are those that are read from what it holds, LSP by LSP.
use Rattle.std.proofs.Common.{◌≡◌, inl, inr, ◌≤◌, ◌<◌, ◌+◌, ℕ, zero, suc, Bool, true, false, true≢false, List, [], ◌∷◌, length, replicate, refl, sym, ap, ◌∙◌, subst, Option, Some, None, slice_get, arith}
use Rattle.std.specs.Prelude.{◌==◌, ◌&&◌, cond, slice_set, if◌then◌else◌}
use Rattle.std.specs.Ordering.{is_eq}
use Rattle.std.specs.FinMap.{find, get, entries, get-entries}
use Rattle.std.proofs.lemmas.Bool.{and_parts, cases_eq, eqb-true}
use Rattle.std.proofs.lemmas.Option.{same_Some}
use Rattle.spb_types.specs.declared.address.SystemId.{SystemId}
use Rattle.spb_types.specs.declared.address.LspId.{LspId}
use Rattle.spb_types.specs.Address.{same_system}
use Rattle.lsdb.specs.Version.{number_of}
use Rattle.lsdb.specs.Entry.{Entry}
use Rattle.lsdb.specs.Database.{Lsps, id_cmp, version_at, version_in}
use Rattle.lsdb.proofs.LookupLemmas.{tied_is, get_place}
use Rattle.flooding.specs.Own.{own_numbers, own_number}
use Rattle.flooding.proofs.OwnNumbers.{same_self, same_is}
use Rattle.bridge_api.specs.Config.{first_life}
use Rattle.bridge_api.specs.View.{BridgeView}
use Rattle.bridge_api.proofs.Configured.{first_life_long}
use Rattle.network_model.specs.Restarting.{numbers_from}
use Rattle.network_model.proofs.RestartSound.{length-set, got_set}
use Rattle.network_model.proofs.RestartBegins.{number_at}
use Rattle.spb_network.specs.Numbers.{is_of, with_number_of}

-- ---- what is held under an id stands at a place

found_at : (d : LspId × Entry) (es : List (LspId × Entry)) (id : LspId) (e : Entry) → (find id_cmp id es ≡ Some e → (i : ℕ) × (slice_get es i ≡ Some (id, e))) → (b : Bool) → is_eq (id_cmp id d.0) ≡ b → cond b (Some d.1) (find id_cmp id es) ≡ Some e → (i : ℕ) × (slice_get (d ∷ es) i ≡ Some (id, e))
found_at d es id e more true t is = (zero, λ i. Some (sym (tied_is id d.0 t) i, same_Some d.1 e is i))
found_at d es id e more false t is = let rest = more is in (suc rest.0, rest.1)

found : (es : List (LspId × Entry)) (id : LspId) (e : Entry) → find id_cmp id es ≡ Some e → (i : ℕ) × (slice_get es i ≡ Some (id, e))
found [] id e is = cc
found (d ∷ es) id e is = found_at d es id e (found es id e) (is_eq (id_cmp id d.0)) refl is

place_of_held : (db : Lsps) (id : LspId) (e : Entry) → get db id ≡ Some e → (i : ℕ) × (slice_get (entries db) i ≡ Some (id, e))
place_of_held db id e held = found (entries db) id e (sym (get-entries db id) ∙ held)

-- what is there stands before what isn't
under : {X : Type 0} (xs : List X) (k p : ℕ) (x : X) → slice_get xs k ≡ Some x → slice_get xs p ≡ None → k < p
under [] k p x at past = cc
under (y ∷ ys) k zero x at past = cc
under (y ∷ ys) zero (suc p) x at past = omega arith
under (y ∷ ys) (suc k) (suc p) x at past = omega (arith, under ys k p x at past)

-- ---- which ids are own ones

own_is : (system : SystemId) (id : LspId) → is_of system id ≡ true → id ≡ own_number system id.number
own_is system id is =
    let parts = and_parts (same_system id.system system) (id.pseudonode == 0) is in
    λ i. record { system = same_is id.system system parts.0 i; pseudonode = eqb-true id.pseudonode 0 parts.1 i; number = id.number }

is_own : (system : SystemId) (k : ℕ) → is_of system (own_number system k) ≡ true
is_own system k = ap (λ b. b && true) (same_self system)

-- ---- before a place

-- the number that the bridge has under an id, or 0 where none of the LSPs before the place has the id
pub data IsRead (v : BridgeView) (place : ℕ) (id : LspId) (n : ℕ) : Type 0 where
  is_noted : n ≡ number_of (version_at v.database id) → IsRead v place id n
  is_ahead : n ≡ 0 → ((p : ℕ) (e : LspId × Entry) → slice_get (entries v.database) p ≡ Some e → e.0 ≡ id → place ≤ p) → IsRead v place id n

pub record AreRead (v : BridgeView) (place : ℕ) (numbers : List ℕ) : Type 0 where
  pub long : length numbers ≡ own_numbers
  pub each : (k n : ℕ) → slice_get numbers k ≡ Some n → IsRead v place (own_number v.id.system k) n

all_zero : (m k n : ℕ) → slice_get {X = ℕ} (replicate m 0) k ≡ Some n → n ≡ 0
all_zero zero k n at = cc
all_zero (suc m) zero n at = cc
all_zero (suc m) (suc k) n at = all_zero m k n at

pub none_read : (v : BridgeView) (numbers : List ℕ) → numbers ≡ first_life → AreRead v 0 numbers
none_read v numbers is = record {
  long = ap length is ∙ first_life_long;
  each = λ k n at. is_ahead (all_zero own_numbers k n (ap (λ (ns : List ℕ). slice_get ns k) (sym is) ∙ at)) (λ p e at_p same. omega arith);
}

-- ---- one LSP more

module _ (v : BridgeView) (system : SystemId) (place next : ℕ) (e : LspId × Entry) (numbers : List ℕ) (same : v.id.system ≡ system) (next_is : next ≡ place + 1) (at : slice_get (entries v.database) place ≡ Some e) (read : AreRead v place numbers) where
  -- of an id that isn't its own
  later : (id : LspId) (n : ℕ) → IsRead v place id n → (e.0 ≡ id → ⊥) → IsRead v next id n
  later id n (is_noted is) other = is_noted is
  later id n (is_ahead zero_is ahead) other = is_ahead zero_is (λ p f at_p is. elim (cases_eq p place) [
    | inl here ↦
        let this : f ≡ e = same_Some f e (sym at_p ∙ (ap (slice_get (entries v.database)) here ∙ at)) in
        absurd (other (ap (λ (x : LspId × Entry). x.0) (sym this) ∙ is))
    | inr apart ↦ omega (arith, ahead p f at_p is, apart, next_is)
  ])

  noted : (k n : ℕ) → is_of system e.0 ≡ true → slice_get (slice_set numbers e.0.number (number_of e.1.version)) k ≡ Some n → IsRead v next (own_number v.id.system k) n
  noted k n own at_k =
      elim (got_set numbers e.0.number (number_of e.1.version) k n at_k) [
        | inl here ↦
            let id_is : e.0 ≡ own_number v.id.system k = own_is system e.0 own ∙ (λ i. own_number (sym same i) (sym here.0 i)) in
            is_noted (sym here.1 ∙ (ap (λ (o : Option Entry). number_of (version_in o)) (sym (get_place v.database place e at)) ∙ ap (λ (x : LspId). number_of (version_at v.database x)) id_is))
        | inr before ↦ later (own_number v.id.system k) n (read.each k n before.1) (λ is. before.0 (sym (ap (λ (x : LspId). x.number) is)))
      ]

  with_it : (own : Bool) → is_of system e.0 ≡ own → AreRead v next (if own then slice_set numbers e.0.number (number_of e.1.version) else numbers)
  with_it true own = record { long = length-set numbers e.0.number (number_of e.1.version) ∙ read.long; each = λ k n at_k. noted k n own at_k }
  with_it false other = record {
    long = read.long;
    each = λ k n at_k. later (own_number v.id.system k) n (read.each k n at_k) (λ is.
        true≢false (sym (is_own system k) ∙ (ap (λ (x : SystemId). is_of system (own_number x k)) (sym same) ∙ (ap (is_of system) (sym is) ∙ other))));
  }

  pub one_read : (new : List ℕ) → new ≡ with_number_of system e numbers → AreRead v next new
  one_read new is = subst (AreRead v next) (sym is) (with_it (is_of system e.0) refl)

-- ---- all

none_there : (v : BridgeView) (id : LspId) (place : ℕ) (o : Option Entry) → get v.database id ≡ o → slice_get (entries v.database) place ≡ None → ((p : ℕ) (e : LspId × Entry) → slice_get (entries v.database) p ≡ Some e → e.0 ≡ id → place ≤ p) → number_of (version_at v.database id) ≡ 0
none_there v id place None is past ahead = ap (λ (o : Option Entry). number_of (version_in o)) is
none_there v id place (Some e) is past ahead =
    let there = place_of_held v.database id e is in
    absurd (omega (arith, ahead there.0 (id, e) there.1 refl, under (entries v.database) there.0 place (id, e) there.1 past))

number_is : (v : BridgeView) (id : LspId) (place n : ℕ) → slice_get (entries v.database) place ≡ None → IsRead v place id n → n ≡ number_of (version_at v.database id)
number_is v id place n past (is_noted is) = is
number_is v id place n past (is_ahead zero_is ahead) = zero_is ∙ sym (none_there v id place (get v.database id) refl past ahead)

listed : (v : BridgeView) (ns : List ℕ) (k : ℕ) → ((m n : ℕ) → slice_get ns m ≡ Some n → n ≡ number_at v (k + m)) → ns ≡ numbers_from v (length ns) k
listed v [] k each = refl
listed v (n ∷ ns) k each =
    let here : k + 0 ≡ k = omega arith in
    let first : n ≡ number_at v k = each zero n refl ∙ ap (number_at v) here in
    let rest : ns ≡ numbers_from v (length ns) (k + 1) = listed v ns (k + 1) (λ m x at. let e : k + suc m ≡ k + 1 + m = omega arith in each (suc m) x at ∙ ap (number_at v) e) in
    λ i. first i ∷ rest i

pub all_read : (v : BridgeView) (place : ℕ) (numbers : List ℕ) → slice_get (entries v.database) place ≡ None → AreRead v place numbers → numbers ≡ numbers_from v own_numbers 0
all_read v place numbers past read =
    listed v numbers 0 (λ m n at. let e : m ≡ 0 + m = omega arith in number_is v (own_number v.id.system m) place n past (read.each m n at) ∙ ap (number_at v) e)
    ∙ ap (λ (n : ℕ). numbers_from v n 0) read.long

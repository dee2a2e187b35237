-- What the premises say: of the lanes, of what is held, and of how many ids there are.
use Rattle.std.proofs.Common.{◌≡◌, ◌⊎◌, inl, inr, ℕ, zero, suc, ◌+◌, ◌<◌, ◌≤◌, Bool, true, false, List, [], ◌∷◌, ◌++◌, length, map, refl, sym, ap, ◌∙◌, subst, Option, Some, None, slice_get, if◌then◌else◌, cond, arith}
use Rattle.std.proofs.lemmas.Option.{same_Some}
use Rattle.std.specs.Prelude.{Contains, not, ◌&&◌, ◌||◌}
use Rattle.std.specs.List.{list_all}
use Rattle.std.specs.FinMap.{get, entries, get-entries, find}
use Rattle.std.specs.Ordering.{is_eq}
use Rattle.std.proofs.lemmas.Bool.{and_parts, ltb-true, leb-true}
use Rattle.link_model.specs.Lane.{Frame, IsIn}
use Rattle.link_model.specs.Lanes.{lane_of}
use Rattle.link_model.specs.declared.lanes.LinkLanes.{LinkLanes}
use Rattle.spb_types.specs.declared.address.LspId.{LspId}
use Rattle.spb_types.specs.declared.link.Dir.{Dir}
use Rattle.spb_types.specs.declared.link.Dir.TheVariants.{Ab, Ba}
use Rattle.isis_pdu.specs.Pdu.{LspValue}
use Rattle.lsdb.specs.declared.version.Version.{Version}
use Rattle.lsdb.specs.declared.version.Version.TheVariants.{Absent, Live, Dead}
use Rattle.lsdb.specs.Entry.{Entry}
use Rattle.lsdb.specs.Database.{Lsps, id_cmp, version_in}
use Rattle.lsdb.proofs.LookupLemmas.{tied_is}
use Rattle.lsdb.specs.Time.{lifetime_in, is_live}
use Rattle.flooding.specs.Own.{own_number, is_own_number}
use Rattle.flooding.specs.Hearing.{claim_of}
use Rattle.flooding.proofs.OwnNumbers.{its_own}
use Rattle.snp_sync.specs.Hearing.{is_among}
use Rattle.bridge_api.specs.View.{BridgeView}
use Rattle.bridge_api.specs.Parsing.{parsed, is_carrying}
use Rattle.bridge_api.specs.Parsing as parsing
use Rattle.network_model.specs.State.{State}
use Rattle.network_model.proofs.QuietLists.{each_of}
use Rattle.network_model.proofs.SoundLane.{All-from}
use Rattle.network_rounds.specs.Premises.{passes, holds_only, is_plain, has_no_customers, outlives, entry_outlives, is_lasting, outlive, own_outlives, owns_outlive, ids_held, different_ids, most_ids, has_few_ids, is_ready}
use Rattle.network_rounds.specs.Rounds.{HasNoCustomers}
use Rattle.network_rounds.specs.Steady.{known_ids, HoldOnly, HaveLifeLeft}

-- ---- the four premises

record Premises (m : ℕ) (s : State) : Type 0 where
  plain : has_no_customers s ≡ true
  lasts : outlive m s ≡ true
  owns : owns_outlive m s ≡ true
  few : has_few_ids s ≡ true

premises : (m : ℕ) (s : State) → is_ready m s ≡ true → Premises m s
unfolding is_ready
premises m s ready =
    let one = and_parts (has_no_customers s) (outlive m s && (owns_outlive m s && has_few_ids s)) ready in
    let two = and_parts (outlive m s) (owns_outlive m s && has_few_ids s) one.1 in
    let three = and_parts (owns_outlive m s) (has_few_ids s) two.1 in
    record { plain = one.0; lasts = two.0; owns = three.0; few = three.1 }

-- ---- what is on its way

each_in : (test : Frame → Bool) (fs : List Frame) (f : Frame) → list_all test fs ≡ true → IsIn f fs → test f ≡ true
each_in test [] f all none = absurd none
each_in test (g ∷ fs) f all (inl is) = ap test is ∙ (and_parts (test g) (list_all test fs) all).0
each_in test (g ∷ fs) f all (inr more) = each_in test fs f (and_parts (test g) (list_all test fs) all).1 more

each_passes : (test : Frame → Bool) (lanes : List LinkLanes) (k : ℕ) (dir : Dir) (f : Frame) → passes test lanes ≡ true → IsIn f (lane_of lanes k dir) → test f ≡ true
each_passes test [] k dir f all among = absurd among
each_passes test (x ∷ lanes) (suc k) dir f all among = each_passes test lanes k dir f (and_parts (list_all test x.ab && list_all test x.ba) (passes test lanes) all).1 among
each_passes test (x ∷ lanes) zero Ab f all among = each_in test x.ab f (and_parts (list_all test x.ab) (list_all test x.ba) (and_parts (list_all test x.ab && list_all test x.ba) (passes test lanes) all).0).0 among
each_passes test (x ∷ lanes) zero Ba f all among = each_in test x.ba f (and_parts (list_all test x.ab) (list_all test x.ba) (and_parts (list_all test x.ab && list_all test x.ba) (passes test lanes) all).0).1 among

not_true : (b : Bool) → not b ≡ true → b ≡ false
not_true true e = absurd cc
not_true false e = refl

pub starts_plain : (m : ℕ) (s : State) → is_ready m s ≡ true → HasNoCustomers s.lanes
unfolding has_no_customers
starts_plain m s ready k dir =
    All-from (λ bytes. is_carrying (parsed bytes) ≡ false) (lane_of s.lanes k dir)
    (λ f among. not_true (is_carrying (parsed f)) (each_passes is_plain s.lanes k dir f (premises m s ready).plain among))

live_outlives : (m : ℕ) (a : Version) (lifetime : ℕ) → outlives m a lifetime ≡ true → is_live a ≡ true → m < lifetime
live_outlives m Absent lifetime lasts live = absurd cc
live_outlives m (Live seq sum) lifetime lasts live = ltb-true m lifetime lasts
live_outlives m (Dead seq) lifetime lasts live = absurd cc

-- of a live LSP in a frame more than so many seconds are left
abbrev pub CarriesLasting : ℕ → Frame → Type 0
CarriesLasting m f = (l : LspValue) → parsed f ≡ parsing.lsp l → is_live (claim_of l).version ≡ true → m < l.lifetime

pub lanes_last : (m : ℕ) (s : State) → is_ready m s ≡ true → (k : ℕ) (dir : Dir) (f : Frame) → IsIn f (lane_of s.lanes k dir) → CarriesLasting m f
unfolding outlive
lanes_last m s ready k dir f among l is live =
    let lasts : is_lasting m (parsed f) ≡ true =
    each_passes (λ bytes. is_lasting m (parsed bytes)) s.lanes k dir f (and_parts (list_all (λ v. holds_only (λ id e. entry_outlives m e) v.database) s.views) (passes (λ bytes. is_lasting m (parsed bytes)) s.lanes) (premises m s ready).lasts).1 among in
    live_outlives m (claim_of l).version l.lifetime (sym (ap (is_lasting m) is) ∙ lasts) live

-- ---- what is held

found_at : (d : LspId × Entry) (es : List (LspId × Entry)) (id : LspId) (e : Entry) → (find id_cmp id es ≡ Some e → (i : ℕ) × (slice_get es i ≡ Some (id, e))) → (b : Bool) → is_eq (id_cmp id d.0) ≡ b → cond b (Some d.1) (find id_cmp id es) ≡ Some e → (i : ℕ) × (slice_get (d ∷ es) i ≡ Some (id, e))
found_at d es id e more true t is = (zero, λ i. Some (sym (tied_is id d.0 t) i, same_Some d.1 e is i))
found_at d es id e more false t is = let rest = more is in (suc rest.0, rest.1)

found : (es : List (LspId × Entry)) (id : LspId) (e : Entry) → find id_cmp id es ≡ Some e → (i : ℕ) × (slice_get es i ≡ Some (id, e))
found [] id e is = absurd cc
found (d ∷ es) id e is = found_at d es id e (found es id e) (is_eq (id_cmp id d.0)) refl is

-- what is held under an id stands at a place
place_of_held : (db : Lsps) (id : LspId) (e : Entry) → get db id ≡ Some e → (i : ℕ) × (slice_get (entries db) i ≡ Some (id, e))
place_of_held db id e held = found (entries db) id e (sym (get-entries db id) ∙ held)

each_held : (test : LspId → Entry → Bool) (db : Lsps) (id : LspId) (e : Entry) → holds_only test db ≡ true → get db id ≡ Some e → test id e ≡ true
each_held test db id e all held = let at = place_of_held db id e held in each_of (λ (x : LspId × Entry). test x.0 x.1) (entries db) all at.0 (id, e) at.1

by_owner : (b c : Bool) → (not b || c) ≡ true → b ≡ true → c ≡ true
by_owner true c all own = all
by_owner false c all own = absurd cc

entry_lives : (m : ℕ) (o : Option Entry) → ((e : Entry) → o ≡ Some e → entry_outlives m e ≡ true) → is_live (version_in o) ≡ true → m < lifetime_in o
entry_lives m None all live = absurd cc
entry_lives m (Some e) all live = live_outlives m e.version e.lifetime (all e refl) live

held_last : (m : ℕ) (s : State) (i : ℕ) (v : BridgeView) → outlive m s ≡ true → slice_get s.views i ≡ Some v → holds_only (λ id e. entry_outlives m e) v.database ≡ true
unfolding outlive
held_last m s i v all at =
    each_of (λ (u : BridgeView). holds_only (λ id e. entry_outlives m e) u.database) s.views
    (and_parts (list_all (λ u. holds_only (λ id e. entry_outlives m e) u.database) s.views) (passes (λ bytes. is_lasting m (parsed bytes)) s.lanes) all).0 i v at

owns_last : (m : ℕ) (s : State) (i : ℕ) (v : BridgeView) → owns_outlive m s ≡ true → slice_get s.views i ≡ Some v → holds_only (own_outlives (m + 300) v.id.system) v.database ≡ true
unfolding owns_outlive
owns_last m s i v all at = each_of (λ (u : BridgeView). holds_only (own_outlives (m + 300) u.id.system) u.database) s.views all i v at

pub starts_lasting : (m : ℕ) (s : State) → is_ready m s ≡ true → HaveLifeLeft m s
starts_lasting m s ready i v at =
    let given = premises m s ready in
    record {
      held = λ id live. entry_lives m (get v.database id) (λ e is. each_held (λ id e. entry_outlives m e) v.database id e (held_last m s i v given.lasts at) is) live;
      own = λ number below live.
          let id : LspId = own_number v.id.system number in
          entry_lives (m + 300) (get v.database id)
          (λ e is. by_owner (is_own_number v.id.system id) (entry_outlives (m + 300) e) (each_held (own_outlives (m + 300) v.id.system) v.database id e (owns_last m s i v given.owns at) is) (its_own v.id.system number below)) live;
    }

-- ---- ids

here : {X : Type 0} (x : X) (xs : List X) → Contains (x ∷ xs) x
here x xs = (zero, omega arith, refl)

there : {X : Type 0} (x y : X) (xs : List X) → Contains xs x → Contains (y ∷ xs) x
there x y xs (k, low, is) = (suc k, omega (arith, low), is)

which : {X : Type 0} (x y : X) (xs : List X) → Contains (y ∷ xs) x → (y ≡ x) ⊎ Contains xs x
which x y xs (zero, low, is) = inl is
which x y xs (suc k, low, is) = inr (k, omega (arith, low), is)

contained : {X : Type 0} (xs : List X) (i : ℕ) (x : X) → slice_get xs i ≡ Some x → Contains xs x
contained [] i x at = absurd cc
contained (y ∷ xs) zero x at = subst (λ (z : _). Contains (z ∷ xs) x) (sym (same_Some y x at)) (here x xs)
contained (y ∷ xs) (suc i) x at = there x y xs (contained xs i x at)

left : {X : Type 0} (x : X) (xs ys : List X) → Contains xs x → Contains (xs ++ ys) x
left x [] ys (k, low, is) = absurd (omega (arith, low))
left x (y ∷ xs) ys in_xs =
    elim (which x y xs in_xs) [
      | inl is ↦ subst (λ (z : _). Contains (z ∷ xs ++ ys) x) (sym is) (here x (xs ++ ys))
      | inr more ↦ there x y (xs ++ ys) (left x xs ys more)
    ]

right : {X : Type 0} (x : X) (xs ys : List X) → Contains ys x → Contains (xs ++ ys) x
right x [] ys in_ys = in_ys
right x (y ∷ xs) ys in_ys = there x y (xs ++ ys) (right x xs ys in_ys)

among : (ids : List LspId) (id : LspId) → is_among ids id ≡ true → Contains ids id
among [] id is = absurd cc
among (x ∷ ids) id is = by (is_eq (id_cmp x id)) refl is (among ids id)
  where
    by : (b : Bool) → is_eq (id_cmp x id) ≡ b → (b || is_among ids id) ≡ true → (is_among ids id ≡ true → Contains ids id) → Contains (x ∷ ids) id
    by true tied any more = subst (λ (z : LspId). Contains (z ∷ ids) id) (sym (tied_is x id tied)) (here id ids)
    by false tied any more = there id x ids (more any)

once : (ids : List LspId) (id : LspId) → Contains ids id → Contains (different_ids ids) id
once [] id in_ids = in_ids
once (x ∷ ids) id in_ids = by (is_among ids x) refl (once ids id)
  where
    by : (b : Bool) → is_among ids x ≡ b → (Contains ids id → Contains (different_ids ids) id) → Contains (if b then different_ids ids else x ∷ different_ids ids) id
    by true again more =
        elim (which id x ids in_ids) [
          | inl is ↦ more (subst (Contains ids) is (among ids x again))
          | inr later ↦ more later
        ]
    by false new more =
        elim (which id x ids in_ids) [
          | inl is ↦ subst (λ (z : LspId). Contains (z ∷ different_ids ids) id) (sym is) (here id (different_ids ids))
          | inr later ↦ there id x (different_ids ids) (more later)
        ]

keys_have : (es : List (LspId × Entry)) (i : ℕ) (id : LspId) (e : Entry) → slice_get es i ≡ Some (id, e) → Contains (map (λ (e : LspId × Entry). e.0) es) id
keys_have [] i id e at = absurd cc
keys_have (d ∷ es) zero id e at = subst (λ (x : LspId). Contains (x ∷ map (λ (e : LspId × Entry). e.0) es) id) (sym (ap (λ (x : LspId × Entry). x.0) (same_Some d (id, e) at))) (here id (map (λ (e : LspId × Entry). e.0) es))
keys_have (d ∷ es) (suc i) id e at = there id d.0 (map (λ (e : LspId × Entry). e.0) es) (keys_have es i id e at)

held_among : (views : List BridgeView) (i : ℕ) (v : BridgeView) (id : LspId) (e : Entry) → slice_get views i ≡ Some v → get v.database id ≡ Some e → Contains (ids_held views) id
held_among [] i v id e at held = absurd cc
held_among (u ∷ views) zero v id e at held =
    let is : u ≡ v = same_Some u v at in
    let place = place_of_held u.database id e (ap (λ (w : BridgeView). get w.database id) is ∙ held) in
    left id (map (λ (e : LspId × Entry). e.0) (entries u.database)) (ids_held views) (keys_have (entries u.database) place.0 id e place.1)
held_among (u ∷ views) (suc i) v id e at held = right id (map (λ (e : LspId × Entry). e.0) (entries u.database)) (ids_held views) (held_among views i v id e at held)

pub starts_within : (s : State) → HoldOnly (known_ids s) s
starts_within s i v at id e held = once (ids_held s.views) id (held_among s.views i v id e at held)

pub starts_few : (m : ℕ) (s : State) → is_ready m s ≡ true → length (known_ids s) ≤ most_ids
unfolding has_few_ids
starts_few m s ready = leb-true (length (known_ids s)) most_ids (premises m s ready).few

-- The bridges of a script that is made: each is accepted.
use Rattle.std.proofs.Common.{◌≡◌, ◌≢◌, ◌⊎◌, ℕ, zero, suc, ◌+◌, ◌≤◌, ◌<◌, true, false, not, ◌&&◌, ◌==◌, List, [], ◌∷◌, ◌++◌, length, get_or, Some, None, refl, sym, ap, subst, arith, inl, inr}
use Rattle.std.proofs.lemmas.Bool.{ne_eqb}
use Rattle.std.specs.List.{AllByRecursion}
use Rattle.std.specs.Str.{bytes_eq}
use Rattle.spb_types.specs.declared.address.Mac.{Mac}
use Rattle.spb_types.specs.declared.service.SourceId.{SourceId}
use Rattle.scenario_maker.specs.Made.{bridge_name}
use Rattle.scenario_maker.proofs.Places.{names_are_apart}
use Rattle.spb_world.specs.declared.declaration.DeclaredBridge.{DeclaredBridge}
use Rattle.spb_world.specs.declared.reason.Reason.TheVariants.{NameTaken, IdTaken, Range, TooMany}
use Rattle.spb_world.specs.World.{World, Bridges, place_of, ports_at}
use Rattle.spb_world.specs.Declaring.{is_new_system, is_new_source, is_bridge_address, is_bridge_range, bridge_refusal, bridge_of}
use Rattle.spb_world.proofs.ListLemmas.{All-map, All-push, length-push}
use Rattle.made_runs.proofs.StandingSteps.{reason_none, or_none, and-yes}
use Rattle.made_runs.proofs.MadeRuns.{below_or_last, bytes_apart, bytes_same, lt-yes, no_thing_passes, at, none_at, kept_at, new_at, place_at, new_name}

abbrev pub mac_of : ℕ → Mac
mac_of k = record { bytes = 2 ∷ 0 ∷ 0 ∷ 0 ∷ 0 ∷ k ∷ [] }

abbrev pub source_of : ℕ → SourceId
source_of k = record { value = k }

abbrev pub bridge_entry : ℕ → List ℕ × DeclaredBridge
bridge_entry k = (bridge_name k, bridge_of 32768 (mac_of k) (source_of k) 3)

-- the entry of a bridge below number j
pub record IsBridgeBelow (j : ℕ) (e : List ℕ × DeclaredBridge) : Type 0 where
  pub number : ℕ
  pub low : 1 ≤ number
  pub high : number < j
  pub is : e ≡ bridge_entry number

-- the bridges below number j are declared, in order
pub record AreBridged (j : ℕ) (bs : Bridges) : Type 0 where
  pub count : length bs + 1 ≡ j
  pub all : AllByRecursion (IsBridgeBelow j) bs
  pub found : (i : ℕ) → 1 ≤ i → i < j → at (bridge_name i) bs + 1 ≡ i

names_differ : (i j : ℕ) → i ≤ 96 → j ≤ 96 → i ≢ j → bytes_eq (bridge_name i) (bridge_name j) ≡ false
names_differ i j a b n = bytes_apart (bridge_name i) (bridge_name j) (λ e. n ((names_are_apart i j a b).bridges e))

below_name : (j : ℕ) (e : List ℕ × DeclaredBridge) → j ≤ 96 → IsBridgeBelow j e → bytes_eq (bridge_name j) e.0 ≡ false
below_name j e few is = subst (λ (x : List ℕ × DeclaredBridge). bytes_eq (bridge_name j) x.0 ≡ false) (sym is.is) (let a = is.high in names_differ j is.number few (omega arith) (λ k. absurd (omega arith)))

systems_differ : (i j : ℕ) → i ≢ j → bytes_eq (mac_of i).bytes (mac_of j).bytes ≡ false
systems_differ i j n = bytes_apart (mac_of i).bytes (mac_of j).bytes (λ e. n (ap (λ l. get_or l 5 0) e))

below_system : (j : ℕ) (e : List ℕ × DeclaredBridge) → IsBridgeBelow j e → bytes_eq e.1.bridge.id.system.mac.bytes (mac_of j).bytes ≡ false
below_system j e is = subst (λ (x : List ℕ × DeclaredBridge). bytes_eq x.1.bridge.id.system.mac.bytes (mac_of j).bytes ≡ false) (sym is.is) (let a = is.high in systems_differ is.number j (λ k. absurd (omega arith)))

below_source : (j : ℕ) (e : List ℕ × DeclaredBridge) → IsBridgeBelow j e → (e.1.bridge.source.value == j) ≡ false
below_source j e is = subst (λ (x : List ℕ × DeclaredBridge). (x.1.bridge.source.value == j) ≡ false) (sym is.is) (let a = is.high in ne_eqb is.number j (λ k. absurd (omega arith)))

own_address : (j : ℕ) → j ≤ 96 → is_bridge_address (mac_of j) ≡ true
own_address j few = and-yes _ _ (and-yes _ _ (ap (λ t. t && true) (lt-yes j 256 (omega arith))) refl) refl

range_holds : (j : ℕ) → j ≤ 96 → is_bridge_range 32768 (mac_of j) (source_of j) 3 ≡ true
unfolding is_bridge_range
range_holds j few = and-yes _ _ (and-yes _ _ (and-yes _ _ refl (own_address j few)) (lt-yes j 1048576 (omega arith))) refl

pub new_bridge : (w : World) (j : ℕ) → j ≤ 96 → AreBridged j w.bridges → bridge_refusal w (bridge_name j) 32768 (mac_of j) (source_of j) 3 ≡ None
unfolding bridge_refusal is_new_system is_new_source
new_bridge w j few so =
    let unnamed = none_at (IsBridgeBelow j) (bridge_name j) w.bridges so.all (λ e is. below_name j e few is) in
    let system = no_thing_passes (IsBridgeBelow j) (λ b. bytes_eq b.bridge.id.system.mac.bytes (mac_of j).bytes) w.bridges so.all (λ e is. below_system j e is) in
    let source = no_thing_passes (IsBridgeBelow j) (λ b. b.bridge.source.value == j) w.bridges so.all (λ e is. below_source j e is) in
    let count = so.count in
    or_none _ _ (or_none _ _ (or_none _ _
    (reason_none _ NameTaken (new_name (bridge_name j) w.bridges unnamed))
    (reason_none _ IdTaken (and-yes _ _ (ap not system) (ap not source))))
    (reason_none _ Range (range_holds j few)))
    (reason_none _ TooMany (lt-yes (length w.bridges) 96 (omega arith)))

later : (j : ℕ) (e : List ℕ × DeclaredBridge) → IsBridgeBelow j e → IsBridgeBelow (j + 1) e
later j e is = let a = is.high in record { number = is.number; low = is.low; high = omega arith; is = is.is }

pub bridged_more : (bs : Bridges) (j : ℕ) → 1 ≤ j → j ≤ 96 → AreBridged j bs → AreBridged (j + 1) (bs ++ bridge_entry j ∷ [])
bridged_more bs j some few so = record {
  count = let a = so.count in let b = length-push bs (bridge_entry j) in omega arith;
  all = All-push (IsBridgeBelow (j + 1)) bs (bridge_entry j) (All-map (IsBridgeBelow j) (IsBridgeBelow (j + 1)) bs (later j) so.all) (record { number = j; low = some; high = omega arith; is = refl });
  found = λ i low high. by i low high (below_or_last i j high);
}
  where
    by : (i : ℕ) → 1 ≤ i → i < j + 1 → (i < j) ⊎ (i ≡ j) → at (bridge_name i) (bs ++ bridge_entry j ∷ []) + 1 ≡ i
    by i low high (inl below) =
        let old = so.found i low below in let count = so.count in
        let kept = kept_at (bridge_name i) bs (bridge_entry j) (omega arith) in omega arith
    by i low high (inr same) =
        let unnamed = none_at (IsBridgeBelow j) (bridge_name j) bs so.all (λ e is. below_name j e few is) in
        let new = new_at (bridge_name j) bs (bridge_entry j) unnamed (bytes_same (bridge_name j)) in let count = so.count in
        subst (λ i. at (bridge_name i) (bs ++ bridge_entry j ∷ []) + 1 ≡ i) (sym same) (omega arith)

-- ---- what is found of them

pub bridge_place : (bs : Bridges) (j i : ℕ) → AreBridged j bs → 1 ≤ i → i < j → (p : ℕ) → p + 1 ≡ i → place_of (bridge_name i) bs ≡ Some p
bridge_place bs j i so low high p is =
    let found = so.found i low high in let count = so.count in
    place_at (bridge_name i) bs p (omega arith) (omega arith)

all_ports : (bs : Bridges) (j p : ℕ) → AllByRecursion (IsBridgeBelow j) bs → p < length bs → ports_at bs p ≡ 3
all_ports [] j p all h = absurd (omega arith)
all_ports (b ∷ bs) j zero all h = ap (λ (e : List ℕ × DeclaredBridge). e.1.ports) all.0.is
all_ports (b ∷ bs) j (suc p) all h = all_ports bs j p all.1 (omega arith)

pub bridge_ports : (bs : Bridges) (j p : ℕ) → AreBridged j bs → p + 1 < j → ports_at bs p ≡ 3
bridge_ports bs j p so h = let count = so.count in all_ports bs j p so.all (omega arith)

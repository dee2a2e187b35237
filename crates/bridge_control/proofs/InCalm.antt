-- A bridge in which seconds pass in calm, and a machine that keeps it.
use Rattle.std.specs.Prelude.{◌≡◌, ◌≤◌, ◌<◌, ◌+◌, ◌-◌, ℕ, zero, suc, Bool, true, false, ◌||◌, List, [], ◌∷◌, Option, Some, None, nat_le, slice_get, if◌then◌else◌}
use Rattle.std.proofs.Common.{refl, sym, ap, ◌∙◌, subst, arith}
use Rattle.std.specs.Option.{option_map}
use Rattle.std.specs.List.{list_any}
use Rattle.std.specs.FinMap.{get, same_map}
use Rattle.spb_types.specs.declared.ports.PortSet.{PortSet}
use Rattle.lsdb.specs.declared.version.Version.{Version}
use Rattle.lsdb.specs.declared.version.Version.TheVariants.{Absent, Live, Dead}
use Rattle.lsdb.specs.Entry.{Entry, AreKept, IsClean, aged}
use Rattle.lsdb.specs.Database.{Lsps, version_in, each, any_flags}
use Rattle.lsdb.specs.Time.{is_live, lifetime_in}
use Rattle.lsdb.specs.Calm.{HaveLeft, lowered_by}
use Rattle.lsdb.proofs.Ids.{ids_total, ids_tied}
use Rattle.lsdb.proofs.LookupLemmas.{get-each}
use Rattle.lsdb.proofs.Time.{lives_on, stands}
use Rattle.flooding.specs.Own.{own_number}
use Rattle.flooding.specs.Entries.{AreSendable}
use Rattle.flooding.specs.declared.own.Own.{Own}
use Rattle.flooding.specs.Placing.{holding}
use Rattle.flooding.specs.Settling.{Lasts, IsLspCurrent, AreCurrent, AreFreshFor}
use Rattle.flooding.proofs.OwnNumbers.{some_number}
use Rattle.adjacency.specs.declared.port.Adjacency.{Adjacency}
use Rattle.adjacency.specs.declared.state.AdjState.TheVariants.{Up}
use Rattle.bridge_api.specs.declared.port.BridgePort.{BridgePort}
use Rattle.bridge_api.specs.View.{BridgeView, up_ports, port_in, adjacency_at, has_flags}
use Rattle.bridge_api.specs.Own.{bodies_of, body_at, own_entry, holding_of}
use Rattle.bridge_api.specs.Laws.{IsSoundView}
use Rattle.bridge_api.specs.Calm.{IsCalmFor, KeepsAll, aged_by}
use Rattle.bridge_api.proofs.SoundPorts.{config_kept}
use Rattle.bridge_api.proofs.Data.{IsSoundData, Holds, lsps_of, has_lsps, expired_keeps}
use Rattle.bridge_api.proofs.OwnLspSteps.{IsSaying}
use Rattle.bridge_api.proofs.OwnPorts.{others_of}
use Rattle.bridge_control.specs.declared.machine.Machine.{Machine}
use Rattle.bridge_control.specs.Machine.{view_of, IsCurrent, IsReady, IsAfter}
use Rattle.bridge_control.specs.Ports.{KeepsPort, KeepsEach}
use Rattle.bridge_control.proofs.Following.{alike_refl}
use Rattle.bridge_control.proofs.Owning.{current_with}

-- ---- one second more

unlive : (v : Version) (lifetime : ℕ) (body : List ℕ) → AreKept v lifetime body → is_live v ≡ false → lifetime ≡ 0
unlive Absent lifetime body kept gone = kept.0
unlive (Live seq sum) lifetime body kept gone = absurd cc
unlive (Dead seq) lifetime body kept gone = kept.0

-- in a second of age the lifetime falls by one, where more is left
second_more : (up : PortSet) (s : ℕ) (e : Entry) → IsClean e → (is_live e.version ≡ true → suc s < e.lifetime) → aged up (lowered_by s e) ≡ lowered_by (suc s) e
second_more up s e clean left = by (is_live e.version) refl
  where
    by : (b : Bool) → is_live e.version ≡ b → aged up (lowered_by s e) ≡ lowered_by (suc s) e
    by true live =
        let more : suc s < e.lifetime = left live in lives_on up (lowered_by s e) (e.lifetime - suc s) live (omega (arith, more)) (omega (arith, more))
    by false gone =
        let none : e.lifetime ≡ 0 = unlive e.version e.lifetime e.body clean gone in
        stands up (lowered_by s e) gone ∙ ap (λ (l : ℕ). record e { lifetime = l }) (omega (arith, none))

second_at : (up : PortSet) (s : ℕ) (o : Option Entry) → ((e : Entry) → o ≡ Some e → IsClean e) → (is_live (version_in o) ≡ true → suc s < lifetime_in o) → option_map (aged up) (option_map (lowered_by s) o) ≡ option_map (lowered_by (suc s)) o
second_at up s None clean left = refl
second_at up s (Some e) clean left = ap (λ (d : Entry). Some d) (second_more up s e (clean e refl) left)

second_over : (up : PortSet) (s : ℕ) (db : Lsps) → AreSendable db → HaveLeft (suc s) db → each (λ id e. aged up e) (each (λ id e. lowered_by s e) db) ≡ each (λ id e. lowered_by (suc s) e) db
second_over up s db sendable left = same_map ids_total ids_tied _ _
    (λ id. get-each (λ x e. aged up e) (each (λ x e. lowered_by s e) db) id
    ∙ (ap (option_map (aged up)) (get-each (λ x e. lowered_by s e) db id)
    ∙ (second_at up s (get db id) (λ e held. (sendable id e held).clean) (left id) ∙ sym (get-each (λ x e. lowered_by (suc s) e) db id))))

none_passed : (o : Option Entry) → option_map (lowered_by 0) o ≡ o
none_passed None = refl
none_passed (Some e) = ap (λ (l : ℕ). Some (record e { lifetime = l })) (omega arith)

no_second : (db : Lsps) → each (λ id e. lowered_by 0 e) db ≡ db
no_second db = same_map ids_total ids_tied _ _ (λ id. get-each (λ x e. lowered_by 0 e) db id ∙ none_passed (get db id))

-- ---- the bridge after them

passed_holds : (s : ℕ) (v : BridgeView) → HaveLeft s v.database → Holds v → Holds (aged_by s v)
unfolding aged_by
passed_holds zero v left held = subst (λ (db : Lsps). IsSoundData (up_ports v) v.id.system db) (sym (no_second v.database)) held
passed_holds (suc s) v left held =
    subst (λ (db : Lsps). IsSoundData (up_ports v) v.id.system db) (second_over (up_ports v) s v.database held.sendable left)
    (expired_keeps (aged_by s v) (passed_holds s v (λ id live. let more : suc s < lifetime_in (get v.database id) = left id live in omega (arith, more)) held))

lasts_left : (s : ℕ) (v : Version) (lifetime : ℕ) → Lasts v lifetime → (is_live v ≡ true → s + 300 < lifetime) → Lasts v (lifetime - s)
lasts_left s Absent lifetime lasts left = absurd lasts
lasts_left s (Live seq sum) lifetime lasts left = let more : s + 300 < lifetime = left refl in (omega (arith, more), omega (arith, lasts.1))
lasts_left s (Dead seq) lifetime lasts left = absurd lasts

current_left : (s : ℕ) (body : Option (List ℕ)) (o : Option Entry) → IsLspCurrent body o → (is_live (version_in o) ≡ true → s + 300 < lifetime_in o) → IsLspCurrent body (option_map (lowered_by s) o)
current_left s None None is left = is
current_left s None (Some e) is left = is
current_left s (Some body) None is left = is
current_left s (Some body) (Some e) is left = (is.0, lasts_left s e.version e.lifetime is.1 left)

passed_saying : (s : ℕ) (v : BridgeView) → AreFreshFor s (holding_of v) → IsSaying v → IsSaying (aged_by s v)
unfolding aged_by bodies_of
passed_saying s v left was fresh number below =
    subst (IsLspCurrent (body_at v number)) (sym (get-each (λ x e. lowered_by s e) v.database (own_number v.id.system number)))
    (current_left s (body_at v number) (own_entry v number) (was fresh number below) (left number below))

-- it is sound again
pub aged_sound : (s : ℕ) (v : BridgeView) → IsCalmFor s v → IsSoundView v → IsSoundView (aged_by s v)
unfolding aged_by
aged_sound s v calm was =
    let held : Holds (aged_by s v) = passed_holds s v calm.life.held (lsps_of v was.database was.own) in
    record {
      config = config_kept v (aged_by s v) refl was.config;
      few = was.few;
      ports = was.ports;
      database = has_lsps (aged_by s v) held;
      own = record {
        current = passed_saying s v calm.life.own was.own.current;
        text = held.text 0 (omega (arith, some_number));
        others = others_of (aged_by s v) held.text;
      };
      learned = was.learned;
    }

-- a machine keeps what it says
pub passed_after : (s : ℕ) (m : Machine) (db : Lsps) → IsCurrent m → db ≡ each (λ id e. lowered_by s e) m.db → IsAfter (aged_by s (view_of m)) (record m { db = db })
unfolding aged_by
passed_after s m db current is = record {
  view = ap (λ (d : Lsps). record (view_of m) { database = d }) is;
  current = current_with m m.ports db m.own current refl refl refl (alike_refl m.id.system 1 m.ports.items);
}

-- ---- for how many seconds

undue_all : (ports : List BridgePort) → KeepsEach ports → list_any (λ (port : BridgePort). port.csnp_due) ports ≡ false
undue_all [] keeps = refl
undue_all (port ∷ ports) keeps = ap (λ b. b || list_any (λ (p : BridgePort). p.csnp_due) ports) (keeps 0 port refl).undue ∙ undue_all ports (λ place p there. keeps (suc place) p there)

no_flags : (m : Machine) → any_flags m.db ≡ false → KeepsEach m.ports.items → has_flags (view_of m) ≡ false
unfolding has_flags
no_flags m none keeps = ap (λ b. b || list_any (λ (p : BridgePort). p.csnp_due) m.ports.items) none ∙ undue_all m.ports.items keeps

kept_at : (port : BridgePort) (a : Adjacency) → KeepsPort port → port.adjacency ≡ a → a.carrier ≡ true → (a.state ≡ Up) × (a.hold ≡ 3)
kept_at port a keeps is = subst (λ (b : Adjacency). b.carrier ≡ true → (b.state ≡ Up) × (b.hold ≡ 3)) is keeps.kept

kept_in : (ports : List BridgePort) (p : ℕ) (a : Adjacency) → KeepsEach ports → option_map (λ (port : BridgePort). port.adjacency) (port_in ports p) ≡ Some a → a.carrier ≡ true → (a.state ≡ Up) × (a.hold ≡ 3)
kept_in ports p a keeps = by_number (nat_le 1 p)
  where
    by_port : (o : Option BridgePort) → slice_get ports (p - 1) ≡ o → option_map (λ (port : BridgePort). port.adjacency) o ≡ Some a → a.carrier ≡ true → (a.state ≡ Up) × (a.hold ≡ 3)
    by_port None there is = absurd cc
    by_port (Some port) there is = kept_at port a (keeps (p - 1) port there) (cc)

    by_number : (b : Bool) → option_map (λ (port : BridgePort). port.adjacency) (if b then slice_get ports (p - 1) else None) ≡ Some a → a.carrier ≡ true → (a.state ≡ Up) × (a.hold ≡ 3)
    by_number true is = by_port (slice_get ports (p - 1)) refl is
    by_number false is = absurd cc

keeps_all : (m : Machine) → KeepsEach m.ports.items → KeepsAll (view_of m)
unfolding adjacency_at
keeps_all m keeps p a is = kept_in m.ports.items p a keeps is

pub own_current : (m : Machine) → IsReady m → AreCurrent (holding m.db m.own)
own_current m ready = subst (λ (own : Own). AreCurrent (holding m.db own)) (sym ready.current.own) ready.sound.own.current

pub calm_for : (m : Machine) (lives fresh least : ℕ) → IsReady m → least ≤ lives → least ≤ fresh → 1 ≤ least → m.own.spent ≡ false → KeepsEach m.ports.items
    → (1 ≤ lives → any_flags m.db ≡ false) → (1 ≤ lives → HaveLeft lives m.db) → (1 ≤ fresh → AreFreshFor fresh (holding m.db m.own)) → IsCalmFor least (view_of m)
calm_for m lives fresh least ready held own some unspent keeps flags left renewed =
    let still = renewed (omega (arith, own, some)) in
    let mine : AreFreshFor fresh (holding_of (view_of m)) = subst (λ (o : Own). AreFreshFor fresh (holding m.db o)) ready.current.own still in
    record {
      works = refl;
      fresh = unspent;
      flags = no_flags m (flags (omega (arith, held, some))) keeps;
      kept = keeps_all m keeps;
      life = record {
        held = λ id live. let more : lives < lifetime_in (get m.db id) = left (omega (arith, held, some)) id live in omega (arith, held, more);
        own = λ number below live. let more : fresh + 300 < lifetime_in (own_entry (view_of m) number) = mine number below live in omega (arith, own, more);
      };
    }

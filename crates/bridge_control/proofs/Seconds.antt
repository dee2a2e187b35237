-- A second of a machine.
use Rattle.std.proofs.Common.{◌≡◌, ◌≤◌, ◌<◌, ◌+◌, ◌-◌, ℕ, Bool, true, false, List, [], ◌∷◌, map, take, drop, length, refl, sym, ap, ◌∙◌, subst, Option, Some, None, arith}
use Rattle.std.specs.Prelude.{◌||◌, not, if◌then◌else◌}
use Rattle.std.specs.Global.{Vec}
use Rattle.std.proofs.lemmas.List.{length-map}
use Rattle.spb_types.specs.declared.ports.PortSet.{PortSet}
use Rattle.spb_tlvs.specs.declared.neighbours.Neighbour.{Neighbour}
use Rattle.lsdb.specs.declared.version.Version.{Version}
use Rattle.lsdb.specs.declared.version.Version.TheVariants.{Absent, Live, Dead}
use Rattle.lsdb.specs.Entry.{Entry, aged}
use Rattle.lsdb.specs.Database.{Lsps, each, any_flags, version_in}
use Rattle.lsdb.specs.Time.{lifetime_in, is_live}
use Rattle.flooding.specs.declared.own.Own.{Own}
use Rattle.flooding.specs.Own.{own_numbers, own_number}
use Rattle.flooding.specs.Room.{most_others, others}
use Rattle.flooding.specs.Placing.{holding}
use Rattle.flooding.specs.Settling.{says, is_said, IsLspCurrent}
use Rattle.flooding.proofs.Current.{says_both}
use Rattle.spb_content.specs.Local.{IsLocal}
use Rattle.adjacency.specs.Adjacency.{is_up}
use Rattle.flooding.specs.Entries.{AreSendable}
use Rattle.snp_sync.specs.Sized.{AreSized}
use Rattle.bridge_api.specs.declared.port.BridgePort.{BridgePort}
use Rattle.bridge_api.specs.View.{BridgeView, is_port_up, up_from, up_ports}
use Rattle.bridge_api.specs.Own.{neighbour_in, neighbours_from, local_of, bodies_of, body_at, own_of, holding_of, own_entry, Lasts, IsAlive}
use Rattle.bridge_api.specs.Hearing.{with_csnp_due}
use Rattle.bridge_api.specs.Ticking.{later, leaving_from, flags_cleared_at_all, counts_lowered, expired, readied, after_sending, after_sending_from, sent_from, after_tick, sent_in_tick}
use Rattle.bridge_api.specs.Laws.{IsSoundView}
use Rattle.bridge_api.specs.Time.{AgedFrom, stays, dies as died, IsLasting}
use Rattle.bridge_api.proofs.Bodies.{same_at}
use Rattle.bridge_api.proofs.Changes.{tick_is, readied_ports}
use Rattle.bridge_api.proofs.SoundPorts.{all_later, config_kept}
use Rattle.bridge_api.proofs.Saying.{is_local}
use Rattle.bridge_api.proofs.Data.{Holds, lsps_of, counts_lowered_keeps, expired_keeps, refreshed_keeps}
use Rattle.bridge_api.proofs.DataSteps.{can_originate}
use Rattle.bridge_api.proofs.TimeLsps.{older_lasts, older_ages, expired_holds as expired_holds_at}
use Rattle.bridge_control.specs.declared.machine.Machine.{Machine}
use Rattle.bridge_control.specs.Machine.{view_of, hellos_from, FollowsPorts, IsReady, CanOriginate, IsAfter}
use Rattle.bridge_control.specs.Ports.{AreSoundPorts, AreUnused, has_lost}
use Rattle.bridge_control.proofs.Following.{alike_refl, alike_later, alike_undue, neighbours_later}
use Rattle.bridge_control.proofs.Owning.{said_alike, current_with, after_same, renewed_after}
use Rattle.bridge_control.proofs.Unused.{unused_later, sent_first, done_first}

neither : (a b : Bool) → (a || b) ≡ false → (a ≡ false) × (b ≡ false)
neither true b e = absurd cc
neither false b e = (refl, e)

neighbours_undue : (q : ℕ) (ports : List BridgePort) → neighbours_from q (map (with_csnp_due false) ports) ≡ neighbours_from q ports
neighbours_undue q [] = refl
neighbours_undue q (port ∷ ports) = ap (λ (ns : List Neighbour). if is_port_up port then neighbour_in q port ∷ ns else ns) (neighbours_undue (q + 1) ports)

-- ---- the holding counts fall

counts_lowered_view : (m : Machine) (ports : Vec BridgePort) (db : Lsps) → ports.items ≡ map later m.ports.items → db ≡ each (λ id e. flags_cleared_at_all (leaving_from 1 m.ports.items) e) m.db
    → view_of (record m { ports = ports; db = db }) ≡ counts_lowered (view_of m)
counts_lowered_view m ports db is are = λ i. record (view_of m) { ports = is i; database = are i }

few_later : (ports : List BridgePort) → length ports ≤ 32 → length (map later ports) ≤ 32
few_later ports few = omega (arith, length-map ports later, few)

pub counts_lowered_few : (m : Machine) (ports : Vec BridgePort) → IsReady m → ports.items ≡ map later m.ports.items → length ports.items ≤ 32
counts_lowered_few m ports ready is = subst (λ (ps : List BridgePort). length ps ≤ 32) (sym is) (few_later m.ports.items ready.sound.few)

-- with no neighbour lost what is kept stays, and else it is made anew
pub counts_lowered_same : (m : Machine) (ports : Vec BridgePort) (db : Lsps) → IsReady m → ports.items ≡ map later m.ports.items → db ≡ each (λ id e. flags_cleared_at_all (leaving_from 1 m.ports.items) e) m.db → has_lost m.ports.items ≡ false
    → IsAfter (counts_lowered (view_of m)) (record m { ports = ports; db = db })
counts_lowered_same m ports db ready is are none =
    let alike = alike_later m.id.system m.ports.items none in
    record {
      view = counts_lowered_view m ports db is are;
      current = current_with m ports db m.own ready.current refl refl (ap (neighbours_from 1) is ∙ neighbours_later m.ports.items none)
          (record { hellos = ap (hellos_from m.id.system 1) is ∙ alike.hellos; up = ap (up_from 1) is ∙ alike.up });
    }

-- the machine n with the hellos made anew
pub counts_lowered_view_anew : (m n : Machine) (ports : Vec BridgePort) (db : Lsps) → ports.items ≡ map later m.ports.items → db ≡ each (λ id e. flags_cleared_at_all (leaving_from 1 m.ports.items) e) m.db
    → view_of n ≡ view_of (record m { ports = ports; db = db }) → view_of n ≡ counts_lowered (view_of m)
counts_lowered_view_anew m n ports db is are same = same ∙ counts_lowered_view m ports db is are

pub counts_lowered_local_anew : (m n : Machine) → IsReady m → view_of n ≡ counts_lowered (view_of m) → IsLocal (local_of (view_of n))
counts_lowered_local_anew m n ready is =
    let v : BridgeView = view_of m in
    subst (λ (w : BridgeView). IsLocal (local_of w)) (sym is)
    (is_local (counts_lowered v) (config_kept v (counts_lowered v) refl ready.sound.config) (few_later v.ports ready.sound.few) (all_later v.ports ready.sound.ports))

pub counts_lowered_few_anew : (m n : Machine) → IsReady m → view_of n ≡ counts_lowered (view_of m) → length n.ports.items ≤ 32
counts_lowered_few_anew m n ready is = subst (λ (w : BridgeView). length w.ports ≤ 32) (sym is) (few_later m.ports.items ready.sound.few)

pub counts_lowered_system_anew : (m n : Machine) → IsReady m → view_of n ≡ counts_lowered (view_of m) → n.own ≡ m.own → n.own.system ≡ n.id.system
counts_lowered_system_anew m n ready is same = ap (λ (o : Own). o.system) (same ∙ ready.current.own) ∙ sym (ap (λ (v : BridgeView). v.id.system) is)

pub counts_lowered_anew : (m n k : Machine) → FollowsPorts n → view_of n ≡ counts_lowered (view_of m) → k ≡ record n { own = own_of (view_of n) } → IsAfter (counts_lowered (view_of m)) k
counts_lowered_anew m n k follows is anew = after_same _ (counts_lowered (view_of m)) k is (renewed_after n k follows anew)

-- ---- the lifetimes fall

pub after_few : (v : BridgeView) (m : Machine) → length v.ports ≤ 32 → view_of m ≡ v → length m.ports.items ≤ 32
after_few v m few is = subst (λ (w : BridgeView). length w.ports ≤ 32) (sym is) few

pub counts_lowered_after_few : (m n : Machine) → IsReady m → IsAfter (counts_lowered (view_of m)) n → length n.ports.items ≤ 32
counts_lowered_after_few m n ready is = after_few (counts_lowered (view_of m)) n (few_later m.ports.items ready.sound.few) is.view

pub expired_after : (w : BridgeView) (m : Machine) (up : PortSet) (db : Lsps) → IsAfter w m → up ≡ up_from 1 m.ports.items → db ≡ each (λ id e. aged up e) m.db → IsAfter (expired w) (record m { db = db })
expired_after w m up db is is_up are = record {
  view = (λ i. record (view_of m) { database = (are ∙ (λ j. each (λ id e. aged (is_up j) e) m.db)) i }) ∙ ap expired is.view;
  current = current_with m m.ports db m.own is.current refl refl refl (alike_refl m.id.system 1 m.ports.items);
}

expired_holds : (v : BridgeView) → IsSoundView v → Holds (expired (counts_lowered v))
expired_holds v sound = expired_keeps (counts_lowered v) (counts_lowered_keeps v sound.few (lsps_of v sound.database sound.own))

pub expired_can : (m n : Machine) → IsReady m → IsAfter (expired (counts_lowered (view_of m))) n → CanOriginate n
expired_can m n ready is =
    let w : BridgeView = expired (counts_lowered (view_of m)) in
    record {
      few = after_few w n (few_later m.ports.items ready.sound.few) is.view;
      room = subst (λ (u : BridgeView). others u.id.system u.database ≤ most_others) (sym is.view) (expired_holds (view_of m) ready.sound).room;
    }

-- ---- own LSPs say what the bridge has to say where no neighbour is lost

lives : (a : Version) (lifetime : ℕ) → Lasts a lifetime → (is_live a ≡ true) × (301 ≤ lifetime)
lives Absent lifetime lasts = absurd lasts
lives (Live seq sum) lifetime lasts = (refl, lasts.0)
lives (Dead seq) lifetime lasts = absurd lasts

lives_in : (o : Option Entry) → IsAlive o → (is_live (version_in o) ≡ true) × (301 ≤ lifetime_in o)
lives_in None alive = absurd alive
lives_in (Some e) alive = lives e.version e.lifetime alive

-- what stands under an own number when the lifetimes fell
abbrev older_at : BridgeView → ℕ → Option Entry
older_at v number = own_entry (expired (counts_lowered v)) number

still_dead : (old new : Option Entry) → is_live (version_in old) ≡ false → AgedFrom old new → is_live (version_in new) ≡ false
still_dead old new dead (stays version body most least) = ap is_live version ∙ dead
still_dead old new dead (died live last version body) = ap is_live version

older_says : (v : BridgeView) (number : ℕ) (text : Option (List ℕ)) → IsLspCurrent text (own_entry v number) → says text (older_at v number) ≡ true
older_says v number None dead =
    let ages : AgedFrom (own_entry v number) (older_at v number) =
    subst (AgedFrom (own_entry v number)) (sym (expired_holds_at v (own_number v.id.system number))) (older_ages (up_ports (counts_lowered v)) (leaving_from 1 v.ports) (own_entry v number)) in
    ap not (still_dead (own_entry v number) (older_at v number) dead ages)
older_says v number (Some body) current =
    let alive = lives_in (own_entry v number) current.1 in
    let left : ℕ = lifetime_in (own_entry v number) - 1 in
    let count : lifetime_in (own_entry v number) ≡ left + 1 = omega (arith, alive.1) in
    let lasts : IsLasting left (own_entry v number) (older_at v number) =
    subst (IsLasting left (own_entry v number)) (sym (expired_holds_at v (own_number v.id.system number))) (older_lasts (up_ports (counts_lowered v)) (leaving_from 1 v.ports) (own_entry v number) left alive.0 count (omega (arith, alive.1, count))) in
    says_both body (older_at v number) (ap is_live lasts.version ∙ alive.0) (lasts.body ∙ current.0)

still_said : (v : BridgeView) → IsSoundView v → v.spent ≡ false → has_lost v.ports ≡ false → (number : ℕ) → number < own_numbers → is_said (holding_of (expired (counts_lowered v))) number ≡ true
still_said v sound fresh none number below =
    let w : BridgeView = expired (counts_lowered v) in
    let same : bodies_of w ≡ bodies_of v = said_alike v (map later v.ports) w.database v.spent (neighbours_later v.ports none) in
    ap (λ (text : Option (List ℕ)). says text (older_at v number)) (same_at number (bodies_of w) (bodies_of v) same) ∙ older_says v number (body_at v number) (sound.own.current fresh number below)

pub idle_said : (m n : Machine) → IsReady m → IsAfter (expired (counts_lowered (view_of m))) n → has_lost m.ports.items ≡ false → n.own.spent ≡ false → (number : ℕ) → number < own_numbers → is_said (holding n.db n.own) number ≡ true
idle_said m n ready is none fresh number below =
    let v : BridgeView = view_of m in
    let unspent : v.spent ≡ false = sym (ap (λ (w : BridgeView). w.spent) is.view) ∙ fresh in
    (λ i. is_said (holding n.db (is.current.own i)) number) ∙ (ap (λ (w : BridgeView). is_said (holding_of w) number) is.view ∙ still_said v ready.sound unspent none number below)

-- ---- the bridge that sends

readied_holds : (v : BridgeView) → IsSoundView v → Holds (readied v)
readied_holds v sound =
    let w : BridgeView = expired (counts_lowered v) in
    refreshed_keeps w (can_originate w (config_kept v w refl sound.config) (few_later v.ports sound.few) (all_later v.ports sound.ports)) (expired_holds v sound)

-- the ports of the bridge that sends
readied_are : (m n : Machine) → IsAfter (readied (view_of m)) n → map later m.ports.items ≡ n.ports.items
readied_are m n is = sym (ap (λ (v : BridgeView). v.ports) is.view ∙ readied_ports (view_of m))

pub readied_long : (m n : Machine) (used : ℕ) → IsAfter (readied (view_of m)) n → used ≤ length m.ports.items → used ≤ length n.ports.items
readied_long m n used is within = omega (arith, within, ap length (readied_are m n is), length-map m.ports.items later)

pub readied_sound : (m n : Machine) → IsReady m → IsAfter (readied (view_of m)) n → AreSoundPorts n.ports.items
readied_sound m n ready is = subst AreSoundPorts (readied_are m n is) (all_later m.ports.items ready.sound.ports)

pub readied_unused : (m n : Machine) (used : ℕ) → IsReady m → IsAfter (readied (view_of m)) n → AreUnused (drop used m.ports.items) → AreUnused (drop used n.ports.items)
readied_unused m n used ready is unused = subst (λ (ports : List BridgePort). AreUnused (drop used ports)) (readied_are m n is) (unused_later used m.ports.items ready.sound.ports unused)

pub readied_sendable : (m n : Machine) → IsReady m → IsAfter (readied (view_of m)) n → AreSendable n.db
readied_sendable m n ready is = subst (λ (u : BridgeView). AreSendable u.database) (sym is.view) (readied_holds (view_of m) ready.sound).sendable

pub readied_sized : (m n : Machine) → IsReady m → IsAfter (readied (view_of m)) n → AreSized n.db
readied_sized m n ready is = subst (λ (u : BridgeView). AreSized u.database) (sym is.view) (readied_holds (view_of m) ready.sound).sized

pub idle_by : (flags originated value : Bool) (db new : Lsps) → flags ≡ any_flags db → (originated ≡ false → new ≡ db) → value ≡ (flags || originated) → value ≡ false → any_flags new ≡ false
idle_by flags originated value db new after_sending same is none =
    let parts = neither flags originated (sym is ∙ none) in
    ap any_flags (same parts.1) ∙ (sym after_sending ∙ parts.0)

pub after_sending_after : (v : BridgeView) (m : Machine) (ports : Vec BridgePort) (db : Lsps) → IsAfter (readied v) m → ports.items ≡ map (with_csnp_due false) m.ports.items → db ≡ after_sending_from 1 m.ports.items m.db
    → IsAfter (after_tick v) (record m { ports = ports; db = db })
after_sending_after v m ports db is undue are = record {
  view = (λ i. record (view_of m) { ports = undue i; database = are i }) ∙ (ap after_sending is.view ∙ sym (tick_is v));
  current = current_with m ports db m.own is.current refl refl (ap (neighbours_from 1) undue ∙ neighbours_undue 1 m.ports.items)
      (let alike = alike_undue m.id.system m.ports.items in record { hellos = ap (hellos_from m.id.system 1) undue ∙ alike.hellos; up = ap (up_from 1) undue ∙ alike.up });
}

pub tick_frames : (v : BridgeView) (m : Machine) → IsAfter (readied v) m → sent_from m.id.system 1 m.ports.items m.db ≡ sent_in_tick v
unfolding sent_in_tick
tick_frames v m is = ap (λ (u : BridgeView). sent_from u.id.system 1 u.ports u.database) is.view

-- all that is sent is sent at the first ports, if the others have no carrier
pub first_frames : (m n : Machine) (used : ℕ) (ports : List BridgePort) → IsReady m → IsAfter (readied (view_of m)) n → AreUnused (drop used m.ports.items) → ports ≡ n.ports.items → sent_from n.id.system 1 (take used ports) n.db ≡ sent_in_tick (view_of m)
first_frames m n used ports ready is unused are =
    ap (λ (l : List BridgePort). sent_from n.id.system 1 (take used l) n.db) are
    ∙ (sent_first n.id.system used n.ports.items n.db (readied_sound m n ready is) (readied_unused m n used ready is unused) ∙ tick_frames (view_of m) n is)

pub first_done : (m n : Machine) (used : ℕ) (ports : List BridgePort) → IsReady m → IsAfter (readied (view_of m)) n → AreUnused (drop used m.ports.items) → ports ≡ n.ports.items → after_sending_from 1 (take used ports) n.db ≡ after_sending_from 1 n.ports.items n.db
first_done m n used ports ready is unused are =
    ap (λ (l : List BridgePort). after_sending_from 1 (take used l) n.db) are
    ∙ done_first used n.ports.items n.db (readied_sound m n ready is) (readied_unused m n used ready is unused)

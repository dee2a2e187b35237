-- A bridge before a second that passes in calm: what stands at its ports, and what it holds when it sends.
use Rattle.std.proofs.Common.{◌≡◌, ℕ, zero, suc, ◌-◌, ◌≤◌, true, false, List, [], ◌∷◌, refl, sym, ap, ◌∙◌, Option, Some, None, arith}
use Rattle.std.specs.Prelude.{slice_get}
use Rattle.std.specs.List.{list_any}
use Rattle.std.specs.Option.{option_map}
use Rattle.std.specs.FinMap.{same_map}
use Rattle.std.proofs.lemmas.Option.{same_Some}
use Rattle.lsdb.specs.Calm.{lowered_by}
use Rattle.lsdb.specs.Database.{any_flags}
use Rattle.lsdb.proofs.Ids.{ids_total, ids_tied}
use Rattle.lsdb.proofs.LookupLemmas.{get-each}
use Rattle.adjacency.specs.declared.state.AdjState.TheVariants.{Up}
use Rattle.adjacency.specs.declared.port.Adjacency.{Adjacency}
use Rattle.adjacency.specs.Adjacency.{is_up, after_second}
use Rattle.bridge_api.specs.declared.port.BridgePort.{BridgePort}
use Rattle.bridge_api.specs.View.{BridgeView, port_at, adjacency_at, has_flags as has_work}
use Rattle.bridge_api.specs.Calm.{IsCalmFor}
use Rattle.bridge_api.specs.Ticking.{readied}
use Rattle.bridge_api.specs.Laws.{IsSoundView}
use Rattle.bridge_api.proofs.Changes.{found}
use Rattle.bridge_api.proofs.Hellos.{up_has_carrier}
use Rattle.bridge_api.proofs.SoundPorts.{sound_at}
use Rattle.bridge_rounds.specs.Seconds.{HasTimeLeft}
use Rattle.bridge_rounds.proofs.CalmLives.{lowered_db, or_parts, lowered_flags}
use Rattle.bridge_rounds.proofs.CalmSeconds.{second_is, seconds_are_calm}

-- CSNPs are due at none of these ports
abbrev pub AreUndue : List BridgePort → Type 0
AreUndue ports = list_any (λ port. port.csnp_due) ports ≡ false

undue_at : (ports : List BridgePort) (i : ℕ) (port : BridgePort) → AreUndue ports → slice_get ports i ≡ Some port → port.csnp_due ≡ false
undue_at [] i port none there = absurd cc
undue_at (x ∷ ports) zero port none there = ap (λ (y : BridgePort). y.csnp_due) (sym (same_Some x port there)) ∙ (or_parts x.csnp_due (list_any (λ y. y.csnp_due) ports) none).0
undue_at (x ∷ ports) (suc i) port none there = undue_at ports i port (or_parts x.csnp_due (list_any (λ y. y.csnp_due) ports) none).1 there

-- the adjacency of a neighbour that is kept for three seconds
pub record IsKeptFully (a : Adjacency) : Type 0 where
  pub up : a.state ≡ Up
  pub hold : a.hold ≡ 3
  pub later : after_second a ≡ record a { hold = 2 }

kept_fully : (a : Adjacency) → a.state ≡ Up → a.hold ≡ 3 → IsKeptFully a
kept_fully a up hold =
    let count : a.hold - 1 ≡ 2 = omega (arith, hold) in
    record { up = up; hold = hold; later = second_is a (ap is_up up) (omega (arith, hold)) ∙ ap (λ (h : ℕ). record a { hold = h }) count }

module _ (v : BridgeView) (was : IsSoundView v) (calm : IsCalmFor 1 v) where
  -- ---- ports

  pub none_due : AreUndue v.ports
  unfolding has_work
  none_due = (or_parts (any_flags v.database) (list_any (λ port. port.csnp_due) v.ports) calm.flags).1

  pub port_undue : (p : ℕ) (port : BridgePort) → port_at v p ≡ Some port → port.csnp_due ≡ false
  port_undue p port there = undue_at v.ports (p - 1) port none_due (found v.ports p port there).1

  pub port_kept : (p : ℕ) (port : BridgePort) → port_at v p ≡ Some port → port.adjacency.carrier ≡ true → IsKeptFully port.adjacency
  unfolding adjacency_at
  port_kept p port there carrier =
      let kept = calm.kept p port.adjacency (ap (λ (o : Option BridgePort). option_map (λ x. x.adjacency) o) there) carrier in
      kept_fully port.adjacency kept.0 kept.1

  counts_by : (p : ℕ) (a : Adjacency) (o : Option BridgePort) → port_at v p ≡ o → option_map (λ x. x.adjacency) o ≡ Some a → is_up a.state ≡ true → 2 ≤ a.hold
  counts_by p a None there is up = absurd cc
  counts_by p a (Some port) there is up =
      let same : port.adjacency ≡ a = same_Some port.adjacency a is in
      let carrier = up_has_carrier port (sound_at v p port was.ports there) (ap (λ (x : Adjacency). is_up x.state) same ∙ up) in
      let hold : a.hold ≡ 3 = sym (ap (λ (x : Adjacency). x.hold) same) ∙ (port_kept p port there carrier).hold in
      omega (arith, hold)

  -- ---- what is held

  pub time_left : HasTimeLeft v
  unfolding adjacency_at
  time_left = record {
    counts = λ p a there up. counts_by p a (port_at v p) refl there up;
    lifetimes = λ id live. let left = calm.life.held id live in omega (arith, left);
    own = λ number below live. let left = calm.life.own number below live in omega (arith, left);
  }

  pub readied_lowered : (readied v).database ≡ lowered_db 1 v.database
  readied_lowered =
      same_map ids_total ids_tied (readied v).database (lowered_db 1 v.database)
      (λ x. (seconds_are_calm v was calm.fresh time_left).held x ∙ sym (get-each (λ id e. lowered_by 1 e) v.database x))

  pub none_flagged : any_flags (lowered_db 1 v.database) ≡ false
  unfolding has_work
  none_flagged = lowered_flags 1 v.database (or_parts (any_flags v.database) (list_any (λ port. port.csnp_due) v.ports) calm.flags).0

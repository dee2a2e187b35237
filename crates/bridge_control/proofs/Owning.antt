-- What a machine says of itself, and what it makes of its own LSPs.
use Rattle.std.proofs.Common.{◌≡◌, ◌≤◌, inl, inr, ℕ, Bool, List, length, refl, sym, ap, ◌∙◌, subst, Option, Some, None, arith}
use Rattle.std.proofs.lemmas.Bool.{cases_lt}
use Rattle.std.specs.Global.{Vec}
use Rattle.spb_types.specs.declared.ports.PortSet.{PortSet}
use Rattle.lsdb.specs.Database.{Lsps}
use Rattle.flooding.specs.declared.own.Own.{Own}
use Rattle.flooding.specs.Room.{most_others, others}
use Rattle.flooding.specs.Hearing.{Holding, HasFewOthers}
use Rattle.flooding.specs.Placing.{holding}
use Rattle.flooding.specs.Starting.{started_all}
use Rattle.flooding.specs.Settling.{Test, says, is_new, settled_by, settled, kept_fresh}
use Rattle.flooding.specs.Own.{own_numbers, HaveBytes, HasFirstNumbers}
use Rattle.flooding.proofs.Begun.{all_own}
use Rattle.flooding.proofs.Settled.{settling_leaves_own}
use Rattle.spb_content.specs.Fragments.{fragment}
use Rattle.spb_content.proofs.Parts.{fragments_are_first}
use Rattle.bridge_api.specs.declared.port.BridgePort.{BridgePort}
use Rattle.bridge_api.specs.View.{BridgeView, up_from}
use Rattle.bridge_api.specs.Own.{neighbours_from, local_of, bodies_of, own_of, holding_of, with_holding, after_begin, originated_if_changed}
use Rattle.bridge_api.specs.Ticking.{refreshed}
use Rattle.bridge_api.proofs.Changes.{settling}
use Rattle.bridge_api.proofs.Bodies.{in_lsp, body_at_is, no_body, IsFragment, is_fragment, bodies_with}
use Rattle.bridge_control.specs.declared.machine.Machine.{Machine}
use Rattle.bridge_control.specs.Machine.{view_of, FollowsPorts, IsCurrent, IsReady, CanOriginate, IsAfter}
use Rattle.bridge_control.proofs.Following.{AreAlike, alike_refl, follow_with}

-- ---- what is said

-- a bridge with the same neighbours says the same
pub said_alike : (v : BridgeView) (ports : List BridgePort) (db : Lsps) (spent : Bool) → neighbours_from 1 ports ≡ neighbours_from 1 v.ports → bodies_of (record v { ports = ports; database = db; spent = spent }) ≡ bodies_of v
unfolding bodies_of
said_alike v ports db spent same = ap (bodies_with v) same

-- each body has a byte
have_bytes : (v : BridgeView) → HaveBytes (own_of v)
have_bytes v number body is =
    let f : IsFragment v number body = is_fragment v number body is in
    subst (λ (b : List ℕ). 1 ≤ length b) (sym f.is) (omega arith)

-- and those that there are come first
no_fragment : (o : Option (List ℕ)) → in_lsp o ≡ None → o ≡ None
no_fragment None is = refl
no_fragment (Some tlvs) is = absurd cc

first_numbers : (v : BridgeView) → HasFirstNumbers (own_of v)
first_numbers v number later low none =
    elim (cases_lt later own_numbers) [
      | inl below ↦
          let gone : fragment (local_of v) number ≡ None = no_fragment (fragment (local_of v) number) (sym (body_at_is v number (omega (arith, low, below))) ∙ none) in
          body_at_is v later below ∙ ap in_lsp (fragments_are_first (local_of v) number later low gone)
      | inr past ↦ no_body v later past
    ]

-- what is so of what the bridge says of itself, is so of what is kept of it
kept_own : (m : Machine) (P : Own → Type 0) → IsCurrent m → P (own_of (view_of m)) → P m.own
kept_own m P current is = subst P (sym current.own) is

pub own_bytes : (m : Machine) → IsCurrent m → HaveBytes m.own
own_bytes m current = kept_own m HaveBytes current (have_bytes (view_of m))

pub own_first : (m : Machine) → IsCurrent m → HasFirstNumbers m.own
own_first m current = kept_own m HasFirstNumbers current (first_numbers (view_of m))

pub own_few : (m : Machine) → IsCurrent m → others m.id.system m.db ≤ most_others → HasFewOthers (holding m.db m.own)
own_few m current few = kept_own m (λ own. HasFewOthers (holding m.db own)) current few

-- what is kept stays where the neighbours are the same, and hellos say the same
pub current_with : (m : Machine) (ports : Vec BridgePort) (db : Lsps) (own : Own) → IsCurrent m → own.system ≡ m.own.system → own.bodies ≡ m.own.bodies → neighbours_from 1 ports.items ≡ neighbours_from 1 m.ports.items
    → AreAlike m.id.system 1 m.ports.items ports.items → IsCurrent (record m { ports = ports; db = db; own = own })
current_with m ports db own current system bodies same alike =
    let s = system ∙ ap (λ (o : Own). o.system) current.own in
    let b = bodies ∙ (ap (λ (o : Own). o.bodies) current.own ∙ sym (said_alike (view_of m) ports.items db own.spent same)) in
    record { own = λ i. record { system = s i; bodies = b i; spent = own.spent }; ports = follow_with m ports db own current.ports alike }

-- the bodies were made anew
pub renewed_current : (m n : Machine) → FollowsPorts m → n ≡ record m { own = own_of (view_of m) } → IsCurrent n
renewed_current m n follows is = subst IsCurrent (sym is) (record { own = refl; ports = record { hellos = follows.hellos; up = follows.up; me = follows.me; heard = follows.heard } })

pub renewed_after : (m n : Machine) → FollowsPorts m → n ≡ record m { own = own_of (view_of m) } → IsAfter (view_of m) n
renewed_after m n follows is = record { view = ap view_of is; current = renewed_current m n follows is }

pub ready_can : (m : Machine) → IsReady m → CanOriginate m
ready_can m ready = record { few = ready.sound.few; room = ready.sound.database.room }

pub after_same : (v w : BridgeView) (m : Machine) → v ≡ w → IsAfter v m → IsAfter w m
after_same v w m same is = record { view = is.view ∙ same; current = is.current }

-- ---- the own LSPs begin

pub begun_after : (m : Machine) (last : List ℕ) (db : Lsps) (own : Own) → IsCurrent m → holding db own ≡ started_all last 0 (holding m.db m.own) → IsAfter (after_begin last (view_of m)) (record m { db = db; own = own })
begun_after m last db own current is =
    let v : BridgeView = view_of m in
    let whole : holding db own ≡ started_all last 0 (holding_of v) = is ∙ (λ i. started_all last 0 (holding m.db (current.own i))) in
    let leaves = all_own last 0 (holding m.db m.own) in
    record {
      view = ap (λ (h : Holding). with_holding h v) whole;
      current = current_with m m.ports db own current (ap (λ (h : Holding). h.own.system) is ∙ leaves.0) (ap (λ (h : Holding). h.own.bodies) is ∙ leaves.1) refl (alike_refl m.id.system 1 m.ports.items);
    }

-- ---- brought up to date

-- nothing is said but by the system and its bodies
brought_current : (m : Machine) (stands : Test) (up : PortSet) (db : Lsps) (own : Own) → IsCurrent m → holding db own ≡ settled_by stands up (holding m.db m.own) → IsCurrent (record m { db = db; own = own })
brought_current m stands up db own current is =
    let leaves = settling_leaves_own stands up (holding m.db m.own) in
    current_with m m.ports db own current (ap (λ (h : Holding). h.own.system) is ∙ leaves.0) (ap (λ (h : Holding). h.own.bodies) is ∙ leaves.1) refl (alike_refl m.id.system 1 m.ports.items)

brought_view : (m : Machine) (stands : Test) (up : PortSet) (db : Lsps) (own : Own) → IsCurrent m → up ≡ up_from 1 m.ports.items → holding db own ≡ settled_by stands up (holding m.db m.own) → view_of (record m { db = db; own = own }) ≡ settling stands (view_of m)
brought_view m stands up db own current is_up is =
    ap (λ (h : Holding). with_holding h (view_of m)) (is ∙ (λ i. settled_by stands (is_up i) (holding m.db (current.own i))))

pub settled_after : (m : Machine) (up : PortSet) (db : Lsps) (own : Own) → IsCurrent m → up ≡ up_from 1 m.ports.items → holding db own ≡ settled up (holding m.db m.own) → IsAfter (originated_if_changed (view_of m)) (record m { db = db; own = own })
unfolding originated_if_changed
settled_after m up db own current is_up is = record { view = brought_view m says up db own current is_up is; current = brought_current m says up db own current is }

pub kept_fresh_after : (m : Machine) (up : PortSet) (db : Lsps) (own : Own) → IsCurrent m → up ≡ up_from 1 m.ports.items → holding db own ≡ kept_fresh up (holding m.db m.own) → IsAfter (refreshed (view_of m)) (record m { db = db; own = own })
unfolding refreshed
kept_fresh_after m up db own current is_up is = record { view = brought_view m is_new up db own current is_up is; current = brought_current m is_new up db own current is }

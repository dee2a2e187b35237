-- Each condition of quiet holds exactly where what it reads like does.
use Rattle.std.proofs.Common.{◌≡◌, ℕ, zero, suc, ◌+◌, Bool, true, false, not, ◌&&◌, ◌||◌, ◌==◌, List, [], ◌∷◌, ◌++◌, length, Option, Some, None, slice_get, refl, sym, ap, subst, ◌∙◌, arith}
use Rattle.std.specs.List.{list_all}
use Rattle.std.proofs.lemmas.Bool.{and_parts, eqb-true, eq-eqb}
use Rattle.std.proofs.lemmas.Option.{same_Some}
use Rattle.std.proofs.lemmas.Slice.Eq.{bytes_eq-Decides}
use Rattle.spb_types.specs.Address.{same_system}
use Rattle.spb_types.specs.declared.link.Dir.{Dir}
use Rattle.spb_types.specs.declared.link.Dir.TheVariants.{Ab, Ba}
use Rattle.link_model.specs.declared.lanes.LinkLanes.{LinkLanes}
use Rattle.link_model.specs.Lanes.{lane_of}
use Rattle.adjacency.specs.Hearing.{End, same_end}
use Rattle.bridge_api.specs.declared.port.BridgePort.{BridgePort}
use Rattle.bridge_api.specs.View.{BridgeView, is_port_up, is_up_in, port_in, is_up_at, neighbour_at, has_flags}
use Rattle.spb_world.specs.declared.declaration.DeclaredLink.{DeclaredLink}
use Rattle.spb_world.specs.declared.declaration.LinkEnd.{LinkEnd}
use Rattle.network_model.specs.State.{State, links_of}
use Rattle.spb_world.specs.Links.{near_end, far_end}
use Rattle.network_model.specs.Sound.{end_at, ends_live_link}
use Rattle.network_model.specs.Quiet.{is_end, is_up_with, is_up_towards, is_met, are_ports_linked, are_all_linked, holds_q1, is_idle, holds_q2, holds_q3, unless_holds, failing, IsQuiet, IsUpTowards, HaveMet, AreEmpty, HaveNoFlags, IsCalm, QuietSays}
use Rattle.spb_world.proofs.ListLemmas.{not-true}
use Rattle.network_model.proofs.PortLemmas.{port-next, suc-is}
use Rattle.network_model.proofs.QuietLists.{both_true, by_first, from_first, each_of, all_of, nil_of, of_nil}

-- ---- q1: links

same_end_is : (x y : End) → same_end x y ≡ true → x ≡ y
same_end_is x y h =
    let parts = and_parts (same_system x.0 y.0) (x.1 == y.1) h in
    let bytes = (bytes_eq-Decides x.0.mac.bytes y.0.mac.bytes).0 parts.0 in
    λ i. (record { mac = record { bytes = bytes i } }, eqb-true x.1 y.1 parts.1 i)

same_end_itself : (x : End) → same_end x x ≡ true
same_end_itself x = both_true (same_system x.0 x.0) (x.1 == x.1) ((bytes_eq-Decides x.0.mac.bytes x.0.mac.bytes).1 refl) (eq-eqb x.1 x.1 refl)

is_end_is : (o : Option End) (e : End) → is_end o e ≡ true → o ≡ Some e
is_end_is None e h = cc
is_end_is (Some n) e h = ap (λ c. Some c) (same_end_is n e h)

up_towards : (views : List BridgeView) (a b : LinkEnd) → is_up_towards views a b ≡ true → IsUpTowards views a b
up_towards views a b h = by (slice_get views a.bridge) refl (slice_get views b.bridge) refl h
  where
    by : (o : Option BridgeView) → slice_get views a.bridge ≡ o → (n : Option BridgeView) → slice_get views b.bridge ≡ n → is_up_with o a.port n b.port ≡ true → IsUpTowards views a b
    by None here n there up = cc
    by (Some v) here None there up = cc
    by (Some v) here (Some w) there up =
        let parts = and_parts (is_up_at v a.port) (is_end (neighbour_at v a.port) (end_at w b.port)) up in
        record { v = v; w = w; here = here; there = there; up = parts.0; neighbour = is_end_is (neighbour_at v a.port) (end_at w b.port) parts.1 }

from_towards : (views : List BridgeView) (a b : LinkEnd) → IsUpTowards views a b → is_up_towards views a b ≡ true
from_towards views a b u =
    (λ i. is_up_with (u.here i) a.port (u.there i) b.port)
    ∙ both_true (is_up_at u.v a.port) (is_end (neighbour_at u.v a.port) (end_at u.w b.port)) u.up (ap (λ o. is_end o (end_at u.w b.port)) u.neighbour ∙ same_end_itself (end_at u.w b.port))

both_ends : (views : List BridgeView) (l : DeclaredLink) → (is_up_towards views l.a l.b && is_up_towards views l.b l.a) ≡ true → (dir : Dir) → IsUpTowards views (near_end dir l) (far_end dir l)
both_ends views l h Ab = up_towards views l.a l.b (and_parts (is_up_towards views l.a l.b) (is_up_towards views l.b l.a) h).0
both_ends views l h Ba = up_towards views l.b l.a (and_parts (is_up_towards views l.a l.b) (is_up_towards views l.b l.a) h).1

met_of : (views : List BridgeView) (l : DeclaredLink) → is_met views l ≡ true → l.live ≡ true → (dir : Dir) → IsUpTowards views (near_end dir l) (far_end dir l)
met_of views l h live = both_ends views l (by_first l.live (is_up_towards views l.a l.b && is_up_towards views l.b l.a) live h)

of_met : (views : List BridgeView) (l : DeclaredLink) → (l.live ≡ true → (dir : Dir) → IsUpTowards views (near_end dir l) (far_end dir l)) → is_met views l ≡ true
of_met views l f =
    from_first l.live (is_up_towards views l.a l.b && is_up_towards views l.b l.a)
    (λ live. both_true (is_up_towards views l.a l.b) (is_up_towards views l.b l.a) (from_towards views l.a l.b (f live Ab)) (from_towards views l.b l.a (f live Ba)))

-- ---- q1: ports

next_place : (p n : ℕ) → p + 1 + n ≡ p + suc n
next_place p n = omega arith

ports_linked : (links : List DeclaredLink) (i p : ℕ) (ports : List BridgePort) → are_ports_linked links i p ports ≡ true → (n : ℕ) (port : BridgePort) → slice_get ports n ≡ Some port → is_port_up port ≡ true → ends_live_link links i (p + n) ≡ true
ports_linked links i p [] all n port at up = cc
ports_linked links i p (x ∷ xs) all zero port at up =
    let first = (and_parts (not (is_port_up x) || ends_live_link links i p) (are_ports_linked links i (p + 1) xs) all).0 in
    let here : p ≡ p + 0 = omega arith in
    subst (λ q. ends_live_link links i q ≡ true) here (by_first (is_port_up x) (ends_live_link links i p) (ap is_port_up (same_Some x port at) ∙ up) first)
ports_linked links i p (x ∷ xs) all (suc n) port at up =
    let rest = (and_parts (not (is_port_up x) || ends_live_link links i p) (are_ports_linked links i (p + 1) xs) all).1 in
    subst (λ q. ends_live_link links i q ≡ true) (next_place p n) (ports_linked links i (p + 1) xs rest n port at up)

of_ports : (links : List DeclaredLink) (i p : ℕ) (ports : List BridgePort) → ((n : ℕ) (port : BridgePort) → slice_get ports n ≡ Some port → is_port_up port ≡ true → ends_live_link links i (p + n) ≡ true) → are_ports_linked links i p ports ≡ true
of_ports links i p [] f = refl
of_ports links i p (x ∷ xs) f =
    let here : p + 0 ≡ p = omega arith in
    both_true (not (is_port_up x) || ends_live_link links i p) (are_ports_linked links i (p + 1) xs)
    (from_first (is_port_up x) (ends_live_link links i p) (λ up. subst (λ q. ends_live_link links i q ≡ true) here (f zero x refl up)))
    (of_ports links i (p + 1) xs (λ n port at up. subst (λ q. ends_live_link links i q ≡ true) (sym (next_place p n)) (f (suc n) port at up)))

pub port_of : (ports : List BridgePort) (q : ℕ) → port_in ports (suc q) ≡ slice_get ports q
port_of ports q = ap (port_in ports) (sym (suc-is q)) ∙ port-next ports q

linked_of : (links : List DeclaredLink) (i : ℕ) (v : BridgeView) → are_ports_linked links i 1 v.ports ≡ true → (q : ℕ) → is_up_at v q ≡ true → ends_live_link links i q ≡ true
unfolding is_up_at
linked_of links i v all zero up = cc
linked_of links i v all (suc q) up = by (slice_get v.ports q) refl (sym (ap is_up_in (port_of v.ports q)) ∙ up)
  where
    by : (o : Option BridgePort) → slice_get v.ports q ≡ o → is_up_in o ≡ true → ends_live_link links i (suc q) ≡ true
    by None at is = cc
    by (Some port) at is =
        let one : 1 + q ≡ suc q = omega arith in
        subst (λ r. ends_live_link links i r ≡ true) one (ports_linked links i 1 v.ports all q port at is)

of_linked : (links : List DeclaredLink) (i : ℕ) (v : BridgeView) → ((q : ℕ) → is_up_at v q ≡ true → ends_live_link links i q ≡ true) → are_ports_linked links i 1 v.ports ≡ true
unfolding is_up_at
of_linked links i v f = of_ports links i 1 v.ports (λ n port at up. by n port at up)
  where
    by : (n : ℕ) (port : BridgePort) → slice_get v.ports n ≡ Some port → is_port_up port ≡ true → ends_live_link links i (1 + n) ≡ true
    by n port at up =
        let one : suc n ≡ 1 + n = omega arith in
        subst (λ r. ends_live_link links i r ≡ true) one (f (suc n) (ap is_up_in (port_of v.ports n ∙ at) ∙ up))

all_linked : (links : List DeclaredLink) (i : ℕ) (views : List BridgeView) → are_all_linked links i views ≡ true → (n : ℕ) (v : BridgeView) (p : ℕ) → slice_get views n ≡ Some v → is_up_at v p ≡ true → ends_live_link links (i + n) p ≡ true
all_linked links i [] all n v p at up = cc
all_linked links i (w ∷ ws) all zero v p at up =
    let first = (and_parts (are_ports_linked links i 1 w.ports) (are_all_linked links (i + 1) ws) all).0 in
    let here : i ≡ i + 0 = omega arith in
    subst (λ j. ends_live_link links j p ≡ true) here (linked_of links i w first p (ap (λ u. is_up_at u p) (same_Some w v at) ∙ up))
all_linked links i (w ∷ ws) all (suc n) v p at up =
    let rest = (and_parts (are_ports_linked links i 1 w.ports) (are_all_linked links (i + 1) ws) all).1 in
    subst (λ j. ends_live_link links j p ≡ true) (next_place i n) (all_linked links (i + 1) ws rest n v p at up)

of_all : (links : List DeclaredLink) (i : ℕ) (views : List BridgeView) → ((n : ℕ) (v : BridgeView) (p : ℕ) → slice_get views n ≡ Some v → is_up_at v p ≡ true → ends_live_link links (i + n) p ≡ true) → are_all_linked links i views ≡ true
of_all links i [] f = refl
of_all links i (w ∷ ws) f =
    let here : i + 0 ≡ i = omega arith in
    both_true (are_ports_linked links i 1 w.ports) (are_all_linked links (i + 1) ws)
    (of_linked links i w (λ p up. subst (λ j. ends_live_link links j p ≡ true) here (f zero w p refl up)))
    (of_all links (i + 1) ws (λ n v p at up. subst (λ j. ends_live_link links j p ≡ true) (sym (next_place i n)) (f (suc n) v p at up)))

from_start : (i : ℕ) → 0 + i ≡ i
from_start i = omega arith

pub met : (s : State) → holds_q1 s ≡ true → HaveMet s
unfolding holds_q1
met s h =
    let parts = and_parts (list_all (is_met s.views) (links_of s)) (are_all_linked (links_of s) 0 s.views) h in
    record {
      met = λ k dir l at live. met_of s.views l (each_of (is_met s.views) (links_of s) parts.0 k l at) live dir;
      others = λ i v p at up. subst (λ j. ends_live_link (links_of s) j p ≡ true) (from_start i) (all_linked (links_of s) 0 s.views parts.1 i v p at up);
    }

pub from_have_met : (s : State) → HaveMet s → holds_q1 s ≡ true
unfolding holds_q1
from_have_met s m =
    both_true (list_all (is_met s.views) (links_of s)) (are_all_linked (links_of s) 0 s.views)
    (all_of (is_met s.views) (links_of s) (λ k l at. of_met s.views l (λ live dir. m.met k dir l at live)))
    (of_all (links_of s) 0 s.views (λ i v p at up. subst (λ j. ends_live_link (links_of s) j p ≡ true) (sym (from_start i)) (m.others i v p at up)))

-- ---- q2

lanes_empty : (lanes : List LinkLanes) → list_all is_idle lanes ≡ true → (k : ℕ) (dir : Dir) → lane_of lanes k dir ≡ []
lanes_empty [] all k dir = refl
lanes_empty (x ∷ xs) all zero Ab =
    let idle = (and_parts (is_idle x) (list_all is_idle xs) all).0 in
    nil_of x.ab (and_parts (length x.ab == 0) (length x.ba == 0) idle).0
lanes_empty (x ∷ xs) all zero Ba =
    let idle = (and_parts (is_idle x) (list_all is_idle xs) all).0 in
    nil_of x.ba (and_parts (length x.ab == 0) (length x.ba == 0) idle).1
lanes_empty (x ∷ xs) all (suc k) dir = lanes_empty xs (and_parts (is_idle x) (list_all is_idle xs) all).1 k dir

of_empty : (lanes : List LinkLanes) → ((k : ℕ) (dir : Dir) → lane_of lanes k dir ≡ []) → list_all is_idle lanes ≡ true
of_empty [] f = refl
of_empty (x ∷ xs) f =
    both_true (is_idle x) (list_all is_idle xs)
    (both_true (length x.ab == 0) (length x.ba == 0) (of_nil x.ab (f zero Ab)) (of_nil x.ba (f zero Ba)))
    (of_empty xs (λ k dir. f (suc k) dir))

empty : (s : State) → holds_q2 s ≡ true → AreEmpty s
unfolding holds_q2
empty s h = lanes_empty s.lanes h

from_empty : (s : State) → AreEmpty s → holds_q2 s ≡ true
unfolding holds_q2
from_empty s f = of_empty s.lanes f

-- ---- q3

flags : (s : State) → holds_q3 s ≡ true → HaveNoFlags s
unfolding holds_q3
flags s h i v at = not-true (has_flags v) (each_of (λ w. not (has_flags w)) s.views h i v at)

from_flags : (s : State) → HaveNoFlags s → holds_q3 s ≡ true
unfolding holds_q3
from_flags s f = all_of (λ w. not (has_flags w)) s.views (λ i v at. ap not (f i v at))

-- ---- quiet

none_fails : (a b c : Bool) → unless_holds 1 a ++ unless_holds 2 b ++ unless_holds 3 c ≡ [] → (a ≡ true) × (b ≡ true) × (c ≡ true)
none_fails true true true h = (refl, refl, refl)
none_fails false b c h = cc
none_fails true false c h = cc
none_fails true true false h = cc

all_hold : (s : State) → IsQuiet s → (holds_q1 s ≡ true) × (holds_q2 s ≡ true) × (holds_q3 s ≡ true)
unfolding failing
all_hold s h = none_fails (holds_q1 s) (holds_q2 s) (holds_q3 s) h

of_all_hold : (s : State) → holds_q1 s ≡ true → holds_q2 s ≡ true → holds_q3 s ≡ true → IsQuiet s
unfolding failing
of_all_hold s a b c = λ i. unless_holds 1 (a i) ++ unless_holds 2 (b i) ++ unless_holds 3 (c i)

calm : (s : State) → IsQuiet s → IsCalm s
calm s quiet =
    let all = all_hold s quiet in
    record { met = met s all.0; empty = empty s all.1; flags = flags s all.2 }

from_calm : (s : State) → IsCalm s → IsQuiet s
from_calm s h = of_all_hold s (from_have_met s h.met) (from_empty s h.empty) (from_flags s h.flags)

pub quiet_says : QuietSays
quiet_says s = record {
  q1 = (met s, from_have_met s);
  q2 = (empty s, from_empty s);
  q3 = (flags s, from_flags s);
  quiet = (calm s, from_calm s);
}

-- In a sound network the states of the ports tell whether both ends of each link are Up with each other.
use Rattle.std.proofs.Common.{◌≡◌, ℕ, zero, suc, Bool, true, false, true≢false, ◌&&◌, List, Option, Some, None, slice_get, refl, sym, ap, ◌∙◌, arith}
use Rattle.std.specs.Option.{option_map_or, option_map, option_and_then}
use Rattle.std.proofs.lemmas.Bool.{and_parts}
use Rattle.std.proofs.lemmas.Option.{same_Some, slice_get_within}
use Rattle.spb_types.specs.declared.link.Dir.{Dir}
use Rattle.spb_types.specs.declared.link.Dir.TheVariants.{Ab, Ba}
use Rattle.adjacency.specs.declared.state.AdjState.{AdjState}
use Rattle.adjacency.specs.declared.state.AdjState.TheVariants.{Down, Initializing, Up}
use Rattle.adjacency.specs.declared.port.Adjacency.{Adjacency}
use Rattle.adjacency.specs.Hearing.{End}
use Rattle.adjacency.specs.Adjacency.{is_up, kept_in, neighbour_of}
use Rattle.bridge_api.specs.declared.port.BridgePort.{BridgePort}
use Rattle.bridge_api.specs.View.{BridgeView, IsPort, port_at, is_up_in, is_up_at, adjacency_at, neighbour_at, has_carrier_at}
use Rattle.bridge_api.specs.Laws.{IsSoundView}
use Rattle.spb_world.specs.declared.declaration.DeclaredLink.{DeclaredLink}
use Rattle.spb_world.specs.declared.declaration.LinkEnd.{LinkEnd}
use Rattle.network_model.specs.State.{State, links_of}
use Rattle.spb_world.specs.Links.{near_end, far_end}
use Rattle.network_model.specs.Sound.{ends_live_link, IsSoundState}
use Rattle.network_model.specs.Quiet.{holds_q1, IsUpTowards, HaveMet}
use Rattle.network_model.specs.Quieting.{is_end_up, is_link_up, are_links_up}
use Rattle.spb_world.proofs.BoxLemmas.{All-get}
use Rattle.network_model.proofs.SoundLaws.{without_carrier}
use Rattle.network_model.proofs.QuietLists.{both_true, by_first, from_first, each_of, all_of}
use Rattle.network_model.proofs.QuietLaws.{met, from_have_met, port_of}

-- a test that holds exactly where another does is that one
pub one_test : (b c : Bool) → (b ≡ true → c ≡ true) → (c ≡ true → b ≡ true) → b ≡ c
one_test true c f g = sym (f refl)
one_test false true f g = g refl
one_test false false f g = refl

pub up_by_adjacency : (v : BridgeView) (p : ℕ) (a : Adjacency) → Some a ≡ adjacency_at v p → is_up a.state ≡ is_up_at v p
unfolding adjacency_at is_up_at
up_by_adjacency v p a is = by (port_at v p) is
  where
    by : (o : Option BridgePort) → Some a ≡ option_map (λ port. port.adjacency) o → is_up a.state ≡ is_up_in o
    by None e = cc
    by (Some port) e = ap (λ (x : Adjacency). is_up x.state) (same_Some a port.adjacency e)

kept_up : (state : AdjState) (e : End) → is_up state ≡ true → kept_in state e ≡ Some e
kept_up Down e h = cc
kept_up Initializing e h = cc
kept_up Up e h = refl

neighbour_up : (v : BridgeView) (p : ℕ) → is_up_at v p ≡ true → (n : End) × (neighbour_at v p ≡ Some n)
unfolding is_up_at neighbour_at
neighbour_up v p up = by (port_at v p) up
  where
    by : (o : Option BridgePort) → is_up_in o ≡ true → (n : End) × (option_and_then (λ port. neighbour_of port.adjacency) o ≡ Some n)
    by None e = cc
    by (Some port) e =
        let n : End = (port.adjacency.neighbour, port.adjacency.circuit) in
        (n, kept_up port.adjacency.state n e)

up_is_port : (v : BridgeView) (p : ℕ) → is_up_at v p ≡ true → IsPort v p
unfolding is_up_at
up_is_port v zero up = cc
up_is_port v (suc q) up = by (slice_get v.ports q) refl (sym (ap is_up_in (port_of v.ports q)) ∙ up)
  where
    by : (o : Option BridgePort) → slice_get v.ports q ≡ o → is_up_in o ≡ true → IsPort v (suc q)
    by None at is = cc
    by (Some port) at is = record { low = omega arith; high = omega (arith, slice_get_within v.ports q port at) }

pub up_is_linked : (s : State) → IsSoundState s → (i : ℕ) (v : BridgeView) (p : ℕ) → slice_get s.views i ≡ Some v → is_up_at v p ≡ true → ends_live_link (links_of s) i p ≡ true
up_is_linked s sound i v p at up = sym (sound.carriers i v p at (up_is_port v p up)) ∙ by (has_carrier_at v p) refl
  where
    by : (b : Bool) → has_carrier_at v p ≡ b → b ≡ true
    by true is = refl
    by false is = absurd (true≢false (sym up ∙ (without_carrier v p (All-get IsSoundView s.views i v sound.views at) is).1))

end_view : (views : List BridgeView) (e : LinkEnd) → is_end_up views e ≡ true → (v : BridgeView) × (slice_get views e.bridge ≡ Some v) × (is_up_at v e.port ≡ true)
end_view views e h = by (slice_get views e.bridge) refl h
  where
    by : (o : Option BridgeView) → slice_get views e.bridge ≡ o → option_map_or (λ v. is_up_at v e.port) o false ≡ true → (v : BridgeView) × (slice_get views e.bridge ≡ Some v) × (is_up_at v e.port ≡ true)
    by None at is = cc
    by (Some v) at is = (v, at, is)

up_end : (views : List BridgeView) (a b : LinkEnd) → IsUpTowards views a b → is_end_up views a ≡ true
up_end views a b u = ap (λ o. option_map_or (λ v. is_up_at v a.port) o false) u.here ∙ u.up

link_ends : (views : List BridgeView) (l : DeclaredLink) → (is_end_up views l.a && is_end_up views l.b) ≡ true → (dir : Dir) → (is_end_up views (near_end dir l) ≡ true) × (is_end_up views (far_end dir l) ≡ true)
link_ends views l h Ab = and_parts (is_end_up views l.a) (is_end_up views l.b) h
link_ends views l h Ba = let parts = and_parts (is_end_up views l.a) (is_end_up views l.b) h in (parts.1, parts.0)

towards : (s : State) → IsSoundState s → (k : ℕ) (dir : Dir) (l : DeclaredLink) → slice_get (links_of s) k ≡ Some l → is_end_up s.views (near_end dir l) ≡ true → is_end_up s.views (far_end dir l) ≡ true → IsUpTowards s.views (near_end dir l) (far_end dir l)
towards s sound k dir l at near far =
    let a = near_end dir l in
    let b = far_end dir l in
    let v = end_view s.views a near in
    let w = end_view s.views b far in
    let n = neighbour_up v.0 a.port v.2 in
    let agree = sound.agree k dir l v.0 w.0 at v.1 w.1 in
    record {
      v = v.0;
      w = w.0;
      here = v.1;
      there = w.1;
      up = v.2;
      neighbour = n.1 ∙ ap (λ e. Some e) (agree.keeps n.0 n.1);
    }

up_where_met : (s : State) → HaveMet s → are_links_up s ≡ true
up_where_met s have =
    all_of (is_link_up s.views) (links_of s) (λ k l at. from_first l.live (is_end_up s.views l.a && is_end_up s.views l.b)
    (λ live. both_true (is_end_up s.views l.a) (is_end_up s.views l.b) (up_end s.views l.a l.b (have.met k Ab l at live)) (up_end s.views l.b l.a (have.met k Ba l at live))))

met_where_up : (s : State) → IsSoundState s → are_links_up s ≡ true → HaveMet s
met_where_up s sound up = record {
  met = λ k dir l at live.
      let ends = link_ends s.views l (by_first l.live (is_end_up s.views l.a && is_end_up s.views l.b) live (each_of (is_link_up s.views) (links_of s) up k l at)) dir in
      towards s sound k dir l at ends.0 ends.1;
  others = up_is_linked s sound;
}

pub met_by_states : (s : State) → IsSoundState s → holds_q1 s ≡ are_links_up s
met_by_states s sound =
    one_test (holds_q1 s) (are_links_up s) (λ h. up_where_met s (met s h)) (λ h. from_have_met s (met_where_up s sound h))

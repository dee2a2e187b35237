-- The ports towards the bridges that follow `me` on best paths, by their places.
use Rattle.std.specs.Prelude.{ℕ, zero, suc, ◌⊎◌, ◌≡◌, ◌≤◌, ◌<◌, List, [], ◌∷◌, length, map, Bool, true, false, Option, Some, None, option_map, option_and_then, unwrap_or, position, slice_get, if◌then◌else◌}
use Rattle.std.proofs.Common.{refl, sym, ap, ◌∙◌, subst, arith, get_or, inl, inr, true≢false, IsSome}
use Rattle.std.proofs.lemmas.Bool.{cases_lt}
use Rattle.std.proofs.lemmas.List.{length-map}
use Rattle.std.proofs.lemmas.Option.{same_Some, none-some}
use Rattle.spb_types.specs.Address.{same_system}
use Rattle.spb_types.specs.Ect.{mask_of}
use Rattle.spb_types.specs.Ports.{no_ports}
use Rattle.spb_types.specs.Graph.{IsAmong, IsBridge, IsValid, ArePorts, systems_of, port_between}
use Rattle.spb_types.specs.declared.address.SystemId.{SystemId}
use Rattle.spb_types.specs.declared.graph.Graph.{Graph}
use Rattle.spb_types.specs.declared.graph.GraphBridge.{GraphBridge}
use Rattle.spb_types.specs.declared.service.VidPlan.{VidPlan}
use Rattle.ect_trees.specs.Path.{IsPath}
use Rattle.ect_trees.specs.Best.{best_of}
use Rattle.ect_trees.specs.Arcs.{IsBridgeAt, place_in}
use Rattle.ect_trees.specs.Followers.{after_in, place_or_end, place_after, IsFollowerAt, NoneFollows}
use Rattle.ect_trees.proofs.Among.{same_self}
use Rattle.ect_trees.proofs.Exists.{best_of_some}
use Rattle.ect_trees.proofs.Places.{place_at, place_found, place_found_at}
use Rattle.ect_trees.proofs.Steps.{path_to_itself}
use Rattle.ect_trees.proofs.Walks.{path_bridges, path_end}
use Rattle.fdb_build.specs.Tables.{port_towards, unicast_row}
use Rattle.fdb_build.specs.Groups.{port_after}
use Rattle.fdb_build.specs.Making.{port_set, set_at, sets_from, source_at}
use Rattle.fdb_build.proofs.RowLemmas.{port_among-le, port_among-low}
use Rattle.fdb_build.proofs.SourceLemmas.{source_stands}

-- what is read at the place of a bridge
pub read_there : {A : Type 0} (f : SystemId → A) (d : A) (bs : List GraphBridge) (place : ℕ) (x : SystemId) → slice_get (systems_of bs) place ≡ Some x → get_or (map (λ (b : GraphBridge). f b.id.system) bs) place d ≡ f x
read_there f d [] place x h = absurd (none-some x h)
read_there f d (b ∷ bs) zero x h = ap f (same_Some b.id.system x h)
read_there f d (b ∷ bs) (suc place) x h = read_there f d bs place x h

-- and past the last
read_past : {A : Type 0} (f : GraphBridge → A) (d : A) (bs : List GraphBridge) (place : ℕ) → length bs ≤ place → get_or (map f bs) place d ≡ d
read_past f d [] place h = refl
read_past f d (b ∷ bs) zero h = absurd (omega (arith, h))
read_past f d (b ∷ bs) (suc place) h = read_past f d bs place (omega (arith, h))

-- what follows is on the list
after_among : (m y : SystemId) (p : List SystemId) → after_in m p ≡ Some y → IsAmong y p
after_among m y [] h = absurd (none-some y h)
after_among m y (x ∷ []) h = absurd (none-some y h)
after_among m y (x ∷ z ∷ p) h = by (same_system x m) h (after_among m y (z ∷ p))
  where
    by : (t : Bool) → (if t then Some z else after_in m (z ∷ p)) ≡ Some y → (after_in m (z ∷ p) ≡ Some y → IsAmong y (z ∷ p)) → IsAmong y (x ∷ z ∷ p)
    by true e ih = inr (inl (sym (same_Some z y e)))
    by false e ih = inr (ih e)

-- the ports of `me` by place
abbrev pub ports_in : Graph → SystemId → List (Option ℕ)
ports_in g me = map (λ b. port_between g me b.id.system) g.bridges

port_of_next : (g : Graph) (me : SystemId) (next : Option SystemId) → IsValid g → ((y : SystemId) → next ≡ Some y → IsBridge g y) → get_or (ports_in g me) (place_or_end g next) None ≡ option_and_then (λ y. port_between g me y) next
port_of_next g me None valid bridge = read_past (λ b. port_between g me b.id.system) None g.bridges (length g.bridges) (omega arith)
port_of_next g me (Some y) valid bridge =
    let at : IsBridgeAt g (place_in g.bridges y) y = place_at g.bridges y (bridge y refl) in
    let found = place_found_at g (place_in g.bridges y) y valid at in
    ap (λ o. get_or (ports_in g me) (unwrap_or o (length g.bridges)) None) found ∙ read_there (port_between g me) None g.bridges (place_in g.bridges y) y at

-- the port towards the bridge that follows `me` on a best path
pub port_of_follower : (g : Graph) (mask : ℕ) (me s x : SystemId) (ports : List (Option ℕ)) → IsValid g → ports ≡ ports_in g me → get_or ports (place_after g me (best_of g mask s x)) None ≡ port_after g mask s x me
port_of_follower g mask me s x ports valid e =
    ap (λ t. get_or t (place_after g me (best_of g mask s x)) None) e ∙
    port_of_next g me (option_and_then (after_in me) (best_of g mask s x)) valid (λ y h. bridge y (best_of g mask s x) refl h)
  where
    bridge : (y : SystemId) (o : Option (List SystemId)) → best_of g mask s x ≡ o → option_and_then (after_in me) o ≡ Some y → IsBridge g y
    bridge y None best h = absurd (none-some y h)
    bridge y (Some p) best h = path_bridges g s x y p ((best_of_some g mask s x p valid).0 best).path (after_among me y p h)

-- ---- sets

-- the set of the port towards the bridge that follows `me` on the way to the bridge at a place
pub set_of_follower : (g : Graph) (me : SystemId) (plan : VidPlan) (mask place source to next : ℕ) (a x : SystemId) (ports : List (Option ℕ)) → IsValid g → ports ≡ ports_in g me → mask ≡ mask_of plan.ect
    → IsBridgeAt g place me → IsBridgeAt g source a → IsBridgeAt g to x → IsFollowerAt g mask source place to next → port_set (get_or ports next None) ≡ set_at (sets_from g me plan a) to
set_of_follower g me plan mask place source to next a x ports valid e same here from at follows =
    let m : ℕ = mask_of plan.ect in
    let follower : next ≡ place_after g me (best_of g m a x) = subst (λ t. next ≡ place_after g me (best_of g t a x)) same (follows a me from here x at) in
    ap port_set (ap (λ n. get_or ports n None) follower ∙ port_of_follower g m me a x ports valid e) ∙
    sym (read_there (λ y. port_set (port_after g m a y me)) no_ports g.bridges to x at)

-- where no bridge follows `me` on the ways from a source, its sets are empty
pub none_behind : (g : Graph) (me : SystemId) (plan : VidPlan) (mask place source : ℕ) (a : SystemId) → IsValid g → mask ≡ mask_of plan.ect → IsBridgeAt g place me → IsBridgeAt g source a → NoneFollows g mask source place → (to : ℕ) → set_at (sets_from g me plan a) to ≡ no_ports
none_behind g me plan mask place source a valid same here from none to = by (cases_lt to (length g.bridges))
  where
    by : (to < length g.bridges) ⊎ (length g.bridges ≤ to) → set_at (sets_from g me plan a) to ≡ no_ports
    by (inl low) =
        sym (set_of_follower g me plan mask place source to (length g.bridges) a (source_at g to).id.system (ports_in g me) valid refl same here from (source_stands g to low) (none to))
        ∙ ap port_set (read_past (λ b. port_between g me b.id.system) None g.bridges (length g.bridges) (omega arith))
    by (inr high) = read_past (λ b. port_set (port_after g (mask_of plan.ect) a b.id.system me)) no_ports g.bridges to high

-- nothing follows on the way from a bridge to itself
pub none_to_itself : (g : Graph) (me : SystemId) (plan : VidPlan) (place : ℕ) (a : SystemId) → IsValid g → IsBridgeAt g place a → set_at (sets_from g me plan a) place ≡ no_ports
none_to_itself g me plan place a valid at =
    read_there (λ y. port_set (port_after g (mask_of plan.ect) a y me)) no_ports g.bridges place a at
    ∙ ap (λ next. port_set (option_and_then (λ y. port_between g me y) next)) (by (best_of g (mask_of plan.ect) a a) refl)
  where
    by : (o : Option (List SystemId)) → best_of g (mask_of plan.ect) a a ≡ o → option_and_then (after_in me) o ≡ None
    by None e = refl
    by (Some p) e = ap (after_in me) (path_to_itself g a p ((best_of_some g (mask_of plan.ect) a a p valid).0 e).path)

-- within the ports of `me` a bridge stands
pub within_ports : (g : Graph) (me : SystemId) (to : ℕ) (ports : List (Option ℕ)) → ports ≡ ports_in g me → to < length ports → to < length g.bridges
within_ports g me to ports e within =
    let long : length ports ≡ length g.bridges = ap length e ∙ length-map g.bridges (λ b. port_between g me b.id.system) in
    omega (arith, long, within)

-- a port that is read is one of a bridge
port_at_bridge : (g : Graph) (me : SystemId) (bs : List GraphBridge) (place p : ℕ) → get_or (map (λ (b : GraphBridge). port_between g me b.id.system) bs) place None ≡ Some p → (x : SystemId) × (port_between g me x ≡ Some p)
port_at_bridge g me [] place p h = absurd (none-some p h)
port_at_bridge g me (b ∷ bs) zero p h = (b.id.system, h)
port_at_bridge g me (b ∷ bs) (suc place) p h = port_at_bridge g me bs place p h

pub port_is_low : (g : Graph) (me : SystemId) (ports : List (Option ℕ)) (place p : ℕ) → ArePorts g.edges me → ports ≡ ports_in g me → get_or ports place None ≡ Some p → 1 ≤ p
port_is_low g me ports place p valid e h = let x = port_at_bridge g me g.bridges place p (ap (λ t. get_or t place None) (sym e) ∙ h) in port_among-low g.edges me x.0 p valid (sym x.1)

pub port_is_high : (g : Graph) (me : SystemId) (ports : List (Option ℕ)) (place p : ℕ) → ArePorts g.edges me → ports ≡ ports_in g me → get_or ports place None ≡ Some p → p ≤ 32
port_is_high g me ports place p valid e h = let x = port_at_bridge g me g.bridges place p (ap (λ t. get_or t place None) (sym e) ∙ h) in port_among-le g.edges me x.0 p valid (sym x.1)

-- ---- rows

-- what follows a bridge on a path from it is the second bridge
second_follows : (g : Graph) (me x : SystemId) (p : List SystemId) → IsPath g me x p → after_in me p ≡ slice_get p 1
second_follows g me x [] w = absurd w
second_follows g me x (z ∷ []) w = refl
second_follows g me x (z ∷ y ∷ p) w = ap (λ t. if same_system t me then Some y else after_in me (y ∷ p)) w.0 ∙ ap (λ t. if t then Some y else after_in me (y ∷ p)) (same_self me)

pub port_after_me : (g : Graph) (mask : ℕ) (me x : SystemId) → IsValid g → port_after g mask me x me ≡ port_towards g mask me x
port_after_me g mask me x valid = ap (option_and_then (λ y. port_between g me y)) (by (best_of g mask me x) refl)
  where
    by : (o : Option (List SystemId)) → best_of g mask me x ≡ o → option_and_then (after_in me) o ≡ option_and_then (λ path. slice_get path 1) o
    by None e = refl
    by (Some p) e = second_follows g me x p ((best_of_some g mask me x p valid).0 e).path

-- the port towards the bridge that follows on the way to the bridge at a place
pub port_by_follower : (g : Graph) (me x : SystemId) (plan : VidPlan) (mask place to next : ℕ) (ports : List (Option ℕ)) → IsValid g → ports ≡ ports_in g me → mask ≡ mask_of plan.ect
    → IsBridgeAt g place me → IsBridgeAt g to x → IsFollowerAt g mask place place to next → get_or ports next None ≡ port_towards g (mask_of plan.ect) me x
port_by_follower g me x plan mask place to next ports valid e same here at follows =
    let m : ℕ = mask_of plan.ect in
    let follower : next ≡ place_after g me (best_of g m me x) = subst (λ t. next ≡ place_after g me (best_of g t me x)) same (follows me me here here x at) in
    ap (λ n. get_or ports n None) follower ∙ (port_of_follower g m me me x ports valid e ∙ port_after_me g m me x valid)

-- there is no way to what isn't a bridge of the graph
pub no_port_towards : (g : Graph) (mask : ℕ) (me x : SystemId) → IsValid g → position (λ b. same_system b.id.system x) g.bridges ≡ None → port_towards g mask me x ≡ None
no_port_towards g mask me x valid none = by (best_of g mask me x) refl
  where
    by : (o : Option (List SystemId)) → best_of g mask me x ≡ o → option_and_then (λ next. port_between g me next) (option_and_then (λ path. slice_get path 1) (best_of g mask me x)) ≡ None
    by None e = ap (λ o. option_and_then (λ next. port_between g me next) (option_and_then (λ path. slice_get path 1) o)) e
    by (Some p) e =
        let path = ((best_of_some g mask me x p valid).0 e).path in
        let found = place_found g x (path_bridges g me x x p path (path_end g me x p path)) in
        absurd (true≢false (sym (subst (λ o. IsSome o) none found)))

-- the row with a port
pub row_of_port : (g : Graph) (me x : SystemId) (plan : VidPlan) (o : Option ℕ) → o ≡ port_towards g (mask_of plan.ect) me x → option_map (λ port. record { vid = plan.vid; mac = x.mac; port = port }) o ≡ unicast_row g me plan x
row_of_port g me x plan o e = ap (option_map (λ port. record { vid = plan.vid; mac = x.mac; port = port })) e

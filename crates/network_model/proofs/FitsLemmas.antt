-- The shape of a state: as many bridges as are declared, each with its ports, and lanes for each link. Every event keeps it.
use Rattle.std.proofs.Common.{◌≡◌, ℕ, zero, suc, ◌+◌, ◌<◌, List, [], ◌∷◌, map, length, Bool, true, false, Option, Some, None, slice_get, refl, sym, ap, ◌∙◌, subst, arith}
use Rattle.std.specs.Prelude.{if◌then◌else◌}
use Rattle.std.specs.Option.{option_map_or}
use Rattle.std.proofs.lemmas.List.{length-map}
use Rattle.link_model.specs.Lane.{Frame, pushed, after_lose, after_double}
use Rattle.spb_types.specs.declared.link.Dir.{Dir}
use Rattle.spb_types.specs.declared.link.Dir.TheVariants.{Ab, Ba}
use Rattle.bridge_api.specs.Step as comes
use Rattle.bridge_api.specs.Step.{Input, step, sent, left_by}
use Rattle.network_model.proofs.BridgeLaws.{steps_keep_bridge}
use Rattle.spb_world.specs.declared.declaration.DeclaredBridge.{DeclaredBridge}
use Rattle.spb_world.specs.declared.declaration.DeclaredLink.{DeclaredLink}
use Rattle.spb_world.specs.declared.declaration.LinkEnd.{LinkEnd}
use Rattle.link_model.specs.declared.lanes.LaneId.{LaneId}
use Rattle.spb_world.specs.World.{Bridges, Links, things_of, ports_at, IsEnd, IsLink, Sound}
use Rattle.link_model.specs.Lanes.{rest, first_full_from}
use Rattle.spb_types.specs.declared.link.Side.{Side}
use Rattle.spb_world.specs.Declaring.{switched, with_live, links_with_metric, with_end_metric}
use Rattle.spb_types.specs.Places.{changed_at}
use Rattle.network_model.specs.State.{State, links_of, lane_at, with_frames, Fits, IsPortAt}
use Rattle.spb_world.specs.Links.{is_live, near_end, far_end, lane_out}
use Rattle.network_model.specs.Events.{sent_over, sent_all, left_all, stepped, ticked, heard_over, delivered_front, delivered, lost, doubled, with_carrier_at_end, with_carrier_over, with_metric_at_end, flushed, switched_off, switched_on, ticked_from, delivered_times, lane_served, served_from, one_round, rounds, delivered_over, delivered_first, drained}
use Rattle.spb_world.proofs.BoxLemmas.{get-map, All-get}

-- two states of one shape
pub record IsAlike (s t : State) : Type 0 where
  pub bridges : t.world.bridges ≡ s.world.bridges
  pub links : length t.world.links ≡ length s.world.links
  pub ports : map (λ v. length v.ports) t.views ≡ map (λ v. length v.ports) s.views
  pub lanes : length t.lanes ≡ length s.lanes

pub alike_itself : (s : State) → IsAlike s s
alike_itself s = record { bridges = refl; links = refl; ports = refl; lanes = refl }

pub alike_then : (s t u : State) → IsAlike s t → IsAlike t u → IsAlike s u
alike_then s t u st tu = record {
  bridges = tu.bridges ∙ st.bridges;
  links = tu.links ∙ st.links;
  ports = tu.ports ∙ st.ports;
  lanes = tu.lanes ∙ st.lanes;
}

got_through : {X Y : Type 0} (f : X → Y) (xs : List X) (i : ℕ) (y : Y) → slice_get (map f xs) i ≡ Some y → (x : X) × (slice_get xs i ≡ Some x) × (f x ≡ y)
got_through f [] i y h = absurd cc
got_through f (x ∷ xs) zero y h = (x, refl, cc)
got_through f (x ∷ xs) (suc i) y h = got_through f xs i y h

-- a state of the same shape fits too
pub Fits-alike : (s t : State) → IsAlike s t → Fits s → Fits t
Fits-alike s t alike fits = record {
  bridges = sym (length-map t.views (λ v. length v.ports)) ∙ (ap length alike.ports ∙ (length-map s.views (λ v. length v.ports) ∙ (fits.bridges ∙ ap length (sym alike.bridges))));
  lanes = alike.lanes ∙ (fits.lanes ∙ sym alike.links);
  ports = λ i v b at declared.
      let was = got_through (λ v. length v.ports) s.views i (length v.ports) (subst (λ ports. slice_get ports i ≡ Some (length v.ports)) alike.ports (get-map (λ v. length v.ports) t.views i v at)) in
      record { ports = sym was.2 ∙ (fits.ports i was.0 b was.1 (subst (λ bs. slice_get (things_of bs) i ≡ Some b) alike.bridges declared)).ports };
}

map-changed : {X Y : Type 0} (g : X → Y) (f : X → X) (xs : List X) (i : ℕ) → ((x : X) → g (f x) ≡ g x) → map g (changed_at f xs i) ≡ map g xs
map-changed g f [] i h = refl
map-changed g f (x ∷ xs) zero h = ap (λ y. y ∷ map g xs) (h x)
map-changed g f (x ∷ xs) (suc i) h = ap (λ ys. g x ∷ ys) (map-changed g f xs i h)

pub length-changed : {X : Type 0} (f : X → X) (xs : List X) (i : ℕ) → length (changed_at f xs i) ≡ length xs
length-changed f [] i = refl
length-changed f (x ∷ xs) zero = refl
length-changed f (x ∷ xs) (suc i) = grind (arith, length-changed f xs i)

pub length-switched : (on : Bool) (ls : Links) (k : ℕ) → length (switched on ls k) ≡ length ls
length-switched on [] k = refl
length-switched on (l ∷ ls) zero = refl
length-switched on (l ∷ ls) (suc k) = grind (arith, length-switched on ls k)

-- ---- the parts of an event

pub alike_with_frames : (f : List Frame → List Frame) (s : State) (k : ℕ) (dir : Dir) → IsAlike s (with_frames f s k dir)
alike_with_frames f s k dir = record { bridges = refl; links = refl; ports = refl; lanes = length-changed _ s.lanes k }

pub alike_sent_over : (s : State) (lane : Option LaneId) (frame : Frame) → IsAlike s (sent_over s lane frame)
alike_sent_over s None frame = alike_itself s
alike_sent_over s (Some lane) frame = by (is_live (links_of s) lane.link)
  where
    by : (live : Bool) → IsAlike s (if live then with_frames (λ frames. pushed frames frame) s lane.link lane.dir else s)
    by true = alike_with_frames (λ frames. pushed frames frame) s lane.link lane.dir
    by false = alike_itself s

pub alike_sent_all : (s : State) (i : ℕ) (fs : List (ℕ × List ℕ)) → IsAlike s (sent_all s i fs)
alike_sent_all s i [] = alike_itself s
alike_sent_all s i (f ∷ fs) =
    let next : State = sent_over s (lane_out (links_of s) i f.0) f.1 in
    alike_then s next (sent_all next i fs) (alike_sent_over s (lane_out (links_of s) i f.0) f.1) (alike_sent_all next i fs)

alike_views : (input : Input) (s : State) (i : ℕ) → IsAlike s (record s { views = changed_at (step input) s.views i })
alike_views input s i = record { bridges = refl; links = refl; ports = map-changed (λ v. length v.ports) (step input) s.views i (λ v. (steps_keep_bridge input v).ports); lanes = refl }

alike_left_all : (s t : State) (i : ℕ) (fs : List (ℕ × List ℕ)) → IsAlike s t → IsAlike s (left_all t i fs)
alike_left_all s t i fs alike = record { bridges = alike.bridges; links = alike.links; ports = alike.ports; lanes = alike.lanes }

pub alike_stepped : (input : Input) (s : State) (i : ℕ) → IsAlike s (stepped input s i)
unfolding stepped
alike_stepped input s i =
    let next : State = record s { views = changed_at (step input) s.views i } in
    let fs : List (ℕ × List ℕ) = option_map_or (sent input) (slice_get s.views i) [] in
    alike_left_all s (sent_all next i fs) i (option_map_or (left_by input) (slice_get s.views i) []) (alike_then s next (sent_all next i fs) (alike_views input s i) (alike_sent_all next i fs))

pub alike_with_live : (on : Bool) (s : State) (k : ℕ) → IsAlike s (record s { world = with_live on s.world k })
unfolding with_live
alike_with_live on s k = record { bridges = refl; links = length-switched on s.world.links k; ports = refl; lanes = refl }

length-with_metric : (on : Side) (m : ℕ) (ls : Links) (k : ℕ) → length (links_with_metric on m ls k) ≡ length ls
length-with_metric on m [] k = refl
length-with_metric on m (l ∷ ls) zero = refl
length-with_metric on m (l ∷ ls) (suc k) = grind (arith, length-with_metric on m ls k)

pub Fits-with_end_metric : (on : Side) (m : ℕ) (s : State) (k : ℕ) → Fits s → Fits (record s { world = with_end_metric on m s.world k })
unfolding with_end_metric
Fits-with_end_metric on m s k fits = record { bridges = fits.bridges; lanes = fits.lanes ∙ sym (length-with_metric on m s.world.links k); ports = fits.ports }

pub alike_flushed : (s : State) (k : ℕ) → IsAlike s (flushed s k)
alike_flushed s k = record { bridges = refl; links = refl; ports = refl; lanes = length-changed _ s.lanes k }

-- ---- the events

pub alike_ticked : (s : State) (i : ℕ) → IsAlike s (ticked s i)
alike_ticked s i =
    let alike : IsAlike s (stepped comes.second s i) = alike_stepped comes.second s i in
    record { bridges = alike.bridges; links = alike.links; ports = alike.ports; lanes = alike.lanes }

pub alike_heard_over : (s : State) (dir : Dir) (bytes : Frame) (o : Option DeclaredLink) → IsAlike s (heard_over s dir bytes o)
alike_heard_over s dir bytes None = alike_itself s
alike_heard_over s dir bytes (Some l) = alike_stepped (comes.frame (far_end dir l).port bytes) s (far_end dir l).bridge

pub alike_delivered_front : (s : State) (k : ℕ) (dir : Dir) (o : Option Frame) → IsAlike s (delivered_front s k dir o)
alike_delivered_front s k dir None = alike_itself s
alike_delivered_front s k dir (Some bytes) =
    let next : State = with_frames rest s k dir in
    alike_then s next (heard_over next dir bytes (slice_get (links_of s) k)) (alike_with_frames rest s k dir) (alike_heard_over next dir bytes (slice_get (links_of s) k))

pub alike_delivered : (s : State) (k : ℕ) (dir : Dir) → IsAlike s (delivered s k dir)
unfolding delivered
alike_delivered s k dir = alike_delivered_front s k dir (slice_get (lane_at s k dir) 0)

pub alike_lost : (s : State) (k : ℕ) (dir : Dir) (place : ℕ) → IsAlike s (lost s k dir place)
alike_lost s k dir place = alike_with_frames (λ frames. after_lose frames place) s k dir

pub alike_doubled : (s : State) (k : ℕ) (dir : Dir) (place : ℕ) → IsAlike s (doubled s k dir place)
alike_doubled s k dir place = alike_with_frames (λ frames. after_double frames place (slice_get frames place)) s k dir

pub alike_with_carrier : (on : Bool) (s : State) (e : LinkEnd) → IsAlike s (with_carrier_at_end on s e)
alike_with_carrier on s e = alike_stepped (comes.carrier e.port on) s e.bridge

pub alike_with_carrier_over : (on : Bool) (s : State) (o : Option DeclaredLink) → IsAlike s (with_carrier_over on s o)
alike_with_carrier_over on s None = alike_itself s
alike_with_carrier_over on s (Some l) = alike_then s (with_carrier_at_end on s l.a) (with_carrier_at_end on (with_carrier_at_end on s l.a) l.b) (alike_with_carrier on s l.a) (alike_with_carrier on (with_carrier_at_end on s l.a) l.b)

pub alike_with_metric : (s : State) (e : LinkEnd) → IsAlike s (with_metric_at_end s e)
alike_with_metric s e = alike_stepped (comes.metric e.port e.metric) s e.bridge

pub alike_switched_off : (s : State) (k : ℕ) → IsAlike s (switched_off s k)
unfolding switched_off
alike_switched_off s k =
    let t : State = flushed s k in
    let u : State = record t { world = with_live false t.world k } in
    alike_then s t (switched_off s k) (alike_flushed s k)
    (alike_then t u (switched_off s k) (alike_with_live false t k) (alike_with_carrier_over false u (slice_get (links_of s) k)))

pub alike_switched_on : (s : State) (k : ℕ) → IsAlike s (switched_on s k)
unfolding switched_on
alike_switched_on s k =
    let t : State = record s { world = with_live true s.world k } in
    alike_then s t (switched_on s k) (alike_with_live true s k) (alike_with_carrier_over true t (slice_get (links_of s) k))

pub alike_ticked_from : (n i : ℕ) (s : State) → IsAlike s (ticked_from n i s)
alike_ticked_from zero i s = alike_itself s
alike_ticked_from (suc n) i s = alike_then s (ticked s i) (ticked_from (suc n) i s) (alike_ticked s i) (alike_ticked_from n (i + 1) (ticked s i))

pub alike_delivered_times : (n k : ℕ) (dir : Dir) (s : State) → IsAlike s (delivered_times n k dir s)
alike_delivered_times zero k dir s = alike_itself s
alike_delivered_times (suc n) k dir s = alike_then s (delivered s k dir) (delivered_times (suc n) k dir s) (alike_delivered s k dir) (alike_delivered_times n k dir (delivered s k dir))

pub alike_lane_served : (s : State) (k : ℕ) (dir : Dir) → IsAlike s (lane_served s k dir)
unfolding lane_served
alike_lane_served s k dir = alike_delivered_times (length (lane_at s k dir)) k dir s

pub alike_served_from : (n k : ℕ) (s : State) → IsAlike s (served_from n k s)
alike_served_from zero k s = alike_itself s
alike_served_from (suc n) k s =
    let t : State = lane_served s k Ab in
    let u : State = lane_served t k Ba in
    alike_then s t (served_from (suc n) k s) (alike_lane_served s k Ab)
    (alike_then t u (served_from (suc n) k s) (alike_lane_served t k Ba) (alike_served_from n (k + 1) u))

pub alike_one_round : (s : State) → IsAlike s (one_round s)
unfolding one_round
alike_one_round s =
    let t : State = ticked_from (length s.views) 0 s in
    alike_then s t (one_round s) (alike_ticked_from (length s.views) 0 s) (alike_served_from (length t.lanes) 0 t)

pub alike_rounds : (n : ℕ) (s : State) → IsAlike s (rounds n s)
alike_rounds zero s = alike_itself s
alike_rounds (suc n) s = alike_then s (one_round s) (rounds (suc n) s) (alike_one_round s) (alike_rounds n (one_round s))

pub alike_delivered_over : (s : State) (lane : Option LaneId) → IsAlike s (delivered_over s lane)
alike_delivered_over s None = alike_itself s
alike_delivered_over s (Some lane) = alike_delivered s lane.link lane.dir

pub alike_delivered_first : (s : State) → IsAlike s (delivered_first s)
unfolding delivered_first
alike_delivered_first s = alike_delivered_over s (first_full_from 0 s.lanes)

pub alike_drained : (n : ℕ) (s : State) → IsAlike s (drained n s)
alike_drained zero s = alike_itself s
alike_drained (suc n) s = alike_then s (delivered_first s) (drained (suc n) s) (alike_delivered_first s) (alike_drained n (delivered_first s))

-- ---- each keeps what fits

pub Fits-with_frames : (f : List Frame → List Frame) (s : State) (k : ℕ) (dir : Dir) → Fits s → Fits (with_frames f s k dir)
Fits-with_frames f s k dir fits = Fits-alike s (with_frames f s k dir) (alike_with_frames f s k dir) fits

pub Fits-sent_all : (s : State) (i : ℕ) (fs : List (ℕ × List ℕ)) → Fits s → Fits (sent_all s i fs)
Fits-sent_all s i fs fits = Fits-alike s (sent_all s i fs) (alike_sent_all s i fs) fits

pub Fits-stepped : (input : Input) (s : State) (i : ℕ) → Fits s → Fits (stepped input s i)
Fits-stepped input s i fits = Fits-alike s (stepped input s i) (alike_stepped input s i) fits

pub Fits-with_live : (on : Bool) (s : State) (k : ℕ) → Fits s → Fits (record s { world = with_live on s.world k })
Fits-with_live on s k fits = Fits-alike s (record s { world = with_live on s.world k }) (alike_with_live on s k) fits

pub Fits-flushed : (s : State) (k : ℕ) → Fits s → Fits (flushed s k)
Fits-flushed s k fits = Fits-alike s (flushed s k) (alike_flushed s k) fits

pub Fits-ticked : (s : State) (i : ℕ) → Fits s → Fits (ticked s i)
Fits-ticked s i fits = Fits-alike s (ticked s i) (alike_ticked s i) fits

pub Fits-delivered : (s : State) (k : ℕ) (dir : Dir) → Fits s → Fits (delivered s k dir)
Fits-delivered s k dir fits = Fits-alike s (delivered s k dir) (alike_delivered s k dir) fits

pub Fits-lost : (s : State) (k : ℕ) (dir : Dir) (place : ℕ) → Fits s → Fits (lost s k dir place)
Fits-lost s k dir place fits = Fits-alike s (lost s k dir place) (alike_lost s k dir place) fits

pub Fits-doubled : (s : State) (k : ℕ) (dir : Dir) (place : ℕ) → Fits s → Fits (doubled s k dir place)
Fits-doubled s k dir place fits = Fits-alike s (doubled s k dir place) (alike_doubled s k dir place) fits

pub Fits-carried : (on : Bool) (s : State) (e : LinkEnd) → Fits s → Fits (with_carrier_at_end on s e)
Fits-carried on s e fits = Fits-alike s (with_carrier_at_end on s e) (alike_with_carrier on s e) fits

pub Fits-switched_off : (s : State) (k : ℕ) → Fits s → Fits (switched_off s k)
Fits-switched_off s k fits = Fits-alike s (switched_off s k) (alike_switched_off s k) fits

pub Fits-switched_on : (s : State) (k : ℕ) → Fits s → Fits (switched_on s k)
Fits-switched_on s k fits = Fits-alike s (switched_on s k) (alike_switched_on s k) fits

pub Fits-ticked_from : (n i : ℕ) (s : State) → Fits s → Fits (ticked_from n i s)
Fits-ticked_from n i s fits = Fits-alike s (ticked_from n i s) (alike_ticked_from n i s) fits

pub Fits-delivered_times : (n k : ℕ) (dir : Dir) (s : State) → Fits s → Fits (delivered_times n k dir s)
Fits-delivered_times n k dir s fits = Fits-alike s (delivered_times n k dir s) (alike_delivered_times n k dir s) fits

pub Fits-lane_served : (s : State) (k : ℕ) (dir : Dir) → Fits s → Fits (lane_served s k dir)
Fits-lane_served s k dir fits = Fits-alike s (lane_served s k dir) (alike_lane_served s k dir) fits

pub Fits-served_from : (n k : ℕ) (s : State) → Fits s → Fits (served_from n k s)
Fits-served_from n k s fits = Fits-alike s (served_from n k s) (alike_served_from n k s) fits

pub Fits-one_round : (s : State) → Fits s → Fits (one_round s)
Fits-one_round s fits = Fits-alike s (one_round s) (alike_one_round s) fits

pub Fits-rounds : (n : ℕ) (s : State) → Fits s → Fits (rounds n s)
Fits-rounds n s fits = Fits-alike s (rounds n s) (alike_rounds n s) fits

pub Fits-delivered_first : (s : State) → Fits s → Fits (delivered_first s)
Fits-delivered_first s fits = Fits-alike s (delivered_first s) (alike_delivered_first s) fits

pub Fits-drained : (n : ℕ) (s : State) → Fits s → Fits (drained n s)
Fits-drained n s fits = Fits-alike s (drained n s) (alike_drained n s) fits

-- ---- each end of a link is a port of its bridge

bridge_there : (bs : Bridges) (i : ℕ) → i < length bs → (b : DeclaredBridge) × (slice_get (things_of bs) i ≡ Some b) × (ports_at bs i ≡ b.ports)
bridge_there [] i h = absurd (omega arith)
bridge_there (b ∷ bs) zero h = (b.1, refl, refl)
bridge_there (b ∷ bs) (suc i) h = bridge_there bs i (omega arith)

pub end_is_port : (s : State) (e : LinkEnd) → Fits s → IsEnd s.world.bridges e → IsPortAt s.views e.bridge e.port
end_is_port s e fits end v at =
    let there = bridge_there s.world.bridges e.bridge end.bridge in
    let has : length v.ports ≡ there.0.ports = (fits.ports e.bridge v there.0 at there.1).ports in
    record { low = end.port_low; high = omega (arith, end.port_high, there.2, has) }

pub link_there : (s : State) (k : ℕ) (l : DeclaredLink) → Sound s.world → slice_get (links_of s) k ≡ Some l → IsLink s.world.bridges l
link_there s k l sound at = All-get (IsLink s.world.bridges) (links_of s) k l sound.links at

pub a_is_port : (s : State) (k : ℕ) (l : DeclaredLink) → Sound s.world → Fits s → slice_get (links_of s) k ≡ Some l → IsPortAt s.views l.a.bridge l.a.port
a_is_port s k l sound fits at = end_is_port s l.a fits (link_there s k l sound at).a

pub b_is_port : (s : State) (k : ℕ) (l : DeclaredLink) → Sound s.world → Fits s → slice_get (links_of s) k ≡ Some l → IsPortAt s.views l.b.bridge l.b.port
b_is_port s k l sound fits at = end_is_port s l.b fits (link_there s k l sound at).b

pub far_is_port : (s : State) (k : ℕ) (l : DeclaredLink) (dir : Dir) → Sound s.world → Fits s → slice_get (links_of s) k ≡ Some l → IsPortAt s.views (far_end dir l).bridge (far_end dir l).port
far_is_port s k l Ab sound fits at = b_is_port s k l sound fits at
far_is_port s k l Ba sound fits at = a_is_port s k l sound fits at

pub near_is_port : (s : State) (k : ℕ) (l : DeclaredLink) (dir : Dir) → Sound s.world → Fits s → slice_get (links_of s) k ≡ Some l → IsPortAt s.views (near_end dir l).bridge (near_end dir l).port
near_is_port s k l Ab sound fits at = a_is_port s k l sound fits at
near_is_port s k l Ba sound fits at = b_is_port s k l sound fits at

use Rattle.std.proofs.Common.{Bool, Some, None, slice_get, ◌≡◌, ◌≢◌, ℕ, zero, suc, ◌<◌, ◌≤◌, false, true≢false, List, [], ◌∷◌, ◌++◌, length, refl, sym, ap, ◌∙◌, arith, ⊎_elim}
use Rattle.std.specs.List.{AllByRecursion}
use Rattle.std.specs.Str.{bytes_eq}
use Rattle.spb_types.specs.Graph.{IsAmong, systems_of}
use Rattle.spb_types.specs.Service.{AreVidsApart}
use Rattle.spb_types.specs.Address.{same_system}
use Rattle.spb_types.specs.declared.address.SystemId.{SystemId}
use Rattle.ect_trees.proofs.Among.{same_self, distinct_snoc}
use Rattle.spb_world.specs.declared.declaration.DeclaredBridge.{DeclaredBridge}
use Rattle.spb_world.specs.declared.declaration.DeclaredLink.{DeclaredLink}
use Rattle.spb_world.specs.declared.declaration.LinkEnd.{LinkEnd}
use Rattle.spb_types.specs.declared.service.Attachment.{Attachment}
use Rattle.spb_types.specs.declared.service.VidPlan.{VidPlan}
use Rattle.spb_tlvs.specs.Capability.{IsTree}
use Rattle.spb_types.specs.declared.link.Side.{Side}
use Rattle.spb_types.specs.declared.link.Side.TheVariants as side
use Rattle.bridge_api.specs.Config.{IsMetric}
use Rattle.spb_world.specs.Declaring.{with_vid, with_bridge, with_link, with_live, switched, end_on, link_with_metric, links_with_metric, with_end_metric}
use Rattle.indexmap.specs.Layout.{set_value_at}
use Rattle.spb_world.specs.World.{World, Bridges, Links, Services, things_of, graph_bridges, system_at, ports_at, IsEnd, IsLink, AreApart, AllApart, IsAttachedIn, Sound}
use Rattle.spb_world.proofs.ListLemmas.{All-map, All-push, things_of-push, length-push}
use Rattle.spb_world.proofs.ServiceLemmas.{services-with_vid}

pub ports_at-push : (bs : Bridges) (b : List ℕ × DeclaredBridge) (i : ℕ) → i < length bs → ports_at (bs ++ b ∷ []) i ≡ ports_at bs i
ports_at-push [] b i h = absurd (omega arith)
ports_at-push (c ∷ cs) b zero h = refl
ports_at-push (c ∷ cs) b (suc i) h = ports_at-push cs b i (omega arith)

pub system_at-push : (bs : Bridges) (b : List ℕ × DeclaredBridge) (i : ℕ) → i < length bs → system_at (bs ++ b ∷ []) i ≡ system_at bs i
system_at-push [] b i h = absurd (omega arith)
system_at-push (c ∷ cs) b zero h = refl
system_at-push (c ∷ cs) b (suc i) h = system_at-push cs b i (omega arith)

pub ports_at-within : (bs : Bridges) (i : ℕ) → 1 ≤ ports_at bs i → i < length bs
ports_at-within [] i h = absurd (omega arith)
ports_at-within (b ∷ bs) zero h = omega arith
ports_at-within (b ∷ bs) (suc i) h = omega (arith, ports_at-within bs i h)

IsEnd-push : (bs : Bridges) (b : List ℕ × DeclaredBridge) (e : LinkEnd) → IsEnd bs e → IsEnd (bs ++ b ∷ []) e
IsEnd-push bs b e h = record {
  bridge = omega (arith, length-push bs b, h.bridge);
  port_low = h.port_low;
  port_high = rw (ports_at-push bs b e.bridge h.bridge) h.port_high;
  metric_low = h.metric_low;
  metric_high = h.metric_high;
}

IsAttachedIn-push : (bs : Bridges) (services : Services) (b : List ℕ × DeclaredBridge) (x : ℕ × Attachment) → IsAttachedIn bs services x → IsAttachedIn (bs ++ b ∷ []) services x
IsAttachedIn-push bs services b x h = record { bridge = omega (arith, length-push bs b, h.bridge); port_low = h.port_low; port_high = h.port_high; service = h.service }

pub IsLink-push : (bs : Bridges) (b : List ℕ × DeclaredBridge) (l : DeclaredLink) → IsLink bs l → IsLink (bs ++ b ∷ []) l
IsLink-push bs b l h = record { a = IsEnd-push bs b l.a h.a; b = IsEnd-push bs b l.b h.b; apart = h.apart }

-- a system id that no bridge has isn't among theirs
new_among : (bs : Bridges) (x : SystemId) → AllByRecursion (λ b. bytes_eq b.bridge.id.system.mac.bytes x.mac.bytes ≡ false) (things_of bs) → IsAmong x (systems_of (graph_bridges bs)) → ⊥
new_among [] x none among = among
new_among (b ∷ bs) x none among =
    let here : x ≡ b.1.bridge.id.system → ⊥ = λ e. true≢false (sym (same_self x) ∙ ap (λ y. same_system y x) e ∙ none.0) in
    ⊎_elim here (new_among bs x none.1) among

systems-push : (bs : Bridges) (name : List ℕ) (b : DeclaredBridge) → systems_of (graph_bridges (bs ++ (name, b) ∷ [])) ≡ systems_of (graph_bridges bs) ++ b.bridge.id.system ∷ []
systems-push [] name b = refl
systems-push (c ∷ cs) name b = ap (λ l. c.1.bridge.id.system ∷ l) (systems-push cs name b)

AllApart-push : (ls : List DeclaredLink) (m : DeclaredLink) → AllApart ls → AllByRecursion (λ l. AreApart l m) ls → AllApart (ls ++ m ∷ [])
AllApart-push [] m apart new = (tt, tt)
AllApart-push (l ∷ ls) m apart new = (All-push (AreApart l) ls m apart.0 new.0, AllApart-push ls m apart.1 new.1)

-- what is asked of a bridge, so that it can be declared
pub record IsNewBridge (w : World) (b : DeclaredBridge) : Type 0 where
  pub room : length w.bridges < 96
  pub ports : b.ports ≤ 32
  pub system : AllByRecursion (λ c. bytes_eq c.bridge.id.system.mac.bytes b.bridge.id.system.mac.bytes ≡ false) (things_of w.bridges)

pub Sound-with_bridge : (w : World) (name : List ℕ) (b : DeclaredBridge) → Sound w → IsNewBridge w b → Sound (with_bridge w name b)
unfolding with_bridge
Sound-with_bridge w name b sound new = record {
  few = omega (arith, length-push w.bridges (name, b), new.room);
  ports = rw things_of-push (All-push (λ c. c.ports ≤ 32) (things_of w.bridges) b sound.ports new.ports);
  systems = rw systems-push (distinct_snoc (systems_of (graph_bridges w.bridges)) b.bridge.id.system sound.systems (new_among w.bridges b.bridge.id.system new.system));
  links = All-map (IsLink w.bridges) (IsLink (w.bridges ++ (name, b) ∷ [])) (things_of w.links) (IsLink-push w.bridges (name, b)) sound.links;
  links_apart = sound.links_apart;
  plans = sound.plans;
  few_vids = sound.few_vids;
  each_vid = sound.each_vid;
  services = sound.services;
  services_apart = sound.services_apart;
  attached = All-map (IsAttachedIn w.bridges w.services) (IsAttachedIn (w.bridges ++ (name, b) ∷ []) w.services) w.attached (IsAttachedIn-push w.bridges w.services (name, b)) sound.attached;
  attached_apart = sound.attached_apart;
}

-- what is asked of a link, so that it can be declared
pub record IsNewLink (w : World) (l : DeclaredLink) : Type 0 where
  pub link : IsLink w.bridges l
  pub apart : AllByRecursion (λ m. AreApart m l) (things_of w.links)

pub Sound-with_link : (w : World) (name : List ℕ) (l : DeclaredLink) → Sound w → IsNewLink w l → Sound (with_link w name l)
unfolding with_link
Sound-with_link w name l sound new = record {
  few = sound.few;
  ports = sound.ports;
  systems = sound.systems;
  links = rw things_of-push (All-push (IsLink w.bridges) (things_of w.links) l sound.links new.link);
  links_apart = rw things_of-push (AllApart-push (things_of w.links) l sound.links_apart new.apart);
  plans = sound.plans;
  few_vids = sound.few_vids;
  each_vid = sound.each_vid;
  services = sound.services;
  services_apart = sound.services_apart;
  attached = sound.attached;
  attached_apart = sound.attached_apart;
}

-- what is asked of a base VID, so that it can be declared
pub record IsNewPlan (w : World) (p : VidPlan) : Type 0 where
  pub room : length w.vids < 16
  pub apart : AllByRecursion (λ q. q.vid.value ≢ p.vid.value) w.vids
  pub tree : IsTree p

apart-push : (ps : List VidPlan) (p : VidPlan) → AreVidsApart ps → AllByRecursion (λ q. q.vid.value ≢ p.vid.value) ps → AreVidsApart (ps ++ p ∷ [])
apart-push [] p apart new = (tt, tt)
apart-push (q ∷ qs) p apart new = (All-push (λ r. q.vid.value ≢ r.vid.value) qs p apart.0 new.0, apart-push qs p apart.1 new.1)

pub Sound-with_vid : (w : World) (p : VidPlan) → Sound w → IsNewPlan w p → Sound (with_vid w p)
unfolding with_vid
Sound-with_vid w p sound new = record {
  few = sound.few;
  ports = sound.ports;
  systems = sound.systems;
  links = sound.links;
  links_apart = sound.links_apart;
  plans = record {
    ects = All-push (λ q. (1 ≤ q.ect) × (q.ect ≤ 16)) w.vids p sound.plans.ects (new.tree.ect_low, new.tree.ect_high);
    apart = apart-push w.vids p sound.plans.apart new.apart;
  };
  few_vids = omega (arith, length-push w.vids p, new.room);
  each_vid = All-push IsTree w.vids p sound.each_vid new.tree;
  services = services-with_vid w.vids p w.services sound.services;
  services_apart = sound.services_apart;
  attached = sound.attached;
  attached_apart = sound.attached_apart;
}

pub ports_at-le : (bs : Bridges) (i : ℕ) → AllByRecursion (λ b. b.ports ≤ 32) (things_of bs) → ports_at bs i ≤ 32
ports_at-le [] i h = omega arith
ports_at-le (b ∷ bs) zero h = h.0
ports_at-le (b ∷ bs) (suc i) h = ports_at-le bs i h.1

-- a link that comes up or goes down is the same link otherwise
switched-links : (on : Bool) (bs : Bridges) (ls : Links) (k : ℕ) → AllByRecursion (IsLink bs) (things_of ls) → AllByRecursion (IsLink bs) (things_of (switched on ls k))
switched-links on bs [] k h = h
switched-links on bs (l ∷ ls) zero h = (record { a = h.0.a; b = h.0.b; apart = h.0.apart }, h.1)
switched-links on bs (l ∷ ls) (suc k) h = (h.0, switched-links on bs ls k h.1)

switched-apart_from : (on : Bool) (m : DeclaredLink) (ls : Links) (k : ℕ) → AllByRecursion (AreApart m) (things_of ls) → AllByRecursion (AreApart m) (things_of (switched on ls k))
switched-apart_from on m [] k h = h
switched-apart_from on m (l ∷ ls) zero h = (record { bridges = h.0.bridges; port_a = h.0.port_a; port_b = h.0.port_b }, h.1)
switched-apart_from on m (l ∷ ls) (suc k) h = (h.0, switched-apart_from on m ls k h.1)

switched-apart : (on : Bool) (ls : Links) (k : ℕ) → AllApart (things_of ls) → AllApart (things_of (switched on ls k))
switched-apart on [] k h = h
switched-apart on (l ∷ ls) zero h = (All-map (AreApart l.1) (AreApart (record l.1 { live = on })) (things_of ls) (λ m a. record { bridges = a.bridges; port_a = a.port_a; port_b = a.port_b }) h.0, h.1)
switched-apart on (l ∷ ls) (suc k) h = (switched-apart_from on l.1 ls k h.0, switched-apart on ls k h.1)

pub Sound-with_live : (on : Bool) (w : World) (k : ℕ) → Sound w → Sound (with_live on w k)
unfolding with_live
Sound-with_live on w k sound = record {
  few = sound.few;
  ports = sound.ports;
  systems = sound.systems;
  links = switched-links on w.bridges w.links k sound.links;
  links_apart = switched-apart on w.links k sound.links_apart;
  plans = sound.plans;
  few_vids = sound.few_vids;
  each_vid = sound.each_vid;
  services = sound.services;
  services_apart = sound.services_apart;
  attached = sound.attached;
  attached_apart = sound.attached_apart;
}

some-is : {X : Type 0} (x y : X) → Some x ≡ Some y → x ≡ y
some-is x y h = cc

-- a write of the link at a place
pub switched-set : (on : Bool) (ls : Links) (k : ℕ) (l : DeclaredLink) → slice_get (things_of ls) k ≡ Some l → set_value_at ls k (record l { live = on }) ≡ switched on ls k
switched-set on [] k l h = cc
switched-set on (m ∷ ls) zero l h = ap (λ x. (m.0, record x { live = on }) ∷ ls) (sym (some-is m.1 l h))
switched-set on (m ∷ ls) (suc k) l h = ap (λ x. m ∷ x) (switched-set on ls k l h)

pub switched-none : (on : Bool) (ls : Links) (k : ℕ) → slice_get (things_of ls) k ≡ None → ls ≡ switched on ls k
switched-none on [] k h = refl
switched-none on (m ∷ ls) zero h = cc
switched-none on (m ∷ ls) (suc k) h = ap (λ x. m ∷ x) (switched-none on ls k h)

-- ---- an end of a link gets another metric, and is the same otherwise

with_metric-end : (bs : Bridges) (m : ℕ) (e : LinkEnd) → IsMetric m → IsEnd bs e → IsEnd bs (record e { metric = m })
with_metric-end bs m e is h = record { bridge = h.bridge; port_low = h.port_low; port_high = h.port_high; metric_low = is.low; metric_high = is.high }

with_metric-link : (on : Side) (bs : Bridges) (m : ℕ) (l : DeclaredLink) → IsMetric m → IsLink bs l → IsLink bs (link_with_metric on m l)
with_metric-link side.A bs m l is h = record { a = with_metric-end bs m l.a is h.a; b = h.b; apart = h.apart }
with_metric-link side.B bs m l is h = record { a = h.a; b = with_metric-end bs m l.b is h.b; apart = h.apart }

with_metric-links : (on : Side) (bs : Bridges) (m : ℕ) (ls : Links) (k : ℕ) → IsMetric m → AllByRecursion (IsLink bs) (things_of ls) → AllByRecursion (IsLink bs) (things_of (links_with_metric on m ls k))
with_metric-links on bs m [] k is h = h
with_metric-links on bs m (l ∷ ls) zero is h = (with_metric-link on bs m l.1 is h.0, h.1)
with_metric-links on bs m (l ∷ ls) (suc k) is h = (h.0, with_metric-links on bs m ls k is h.1)

with_metric-apart_to : (on : Side) (m : ℕ) (h l : DeclaredLink) → AreApart h l → AreApart h (link_with_metric on m l)
with_metric-apart_to side.A m h l a = record { bridges = a.bridges; port_a = a.port_a; port_b = a.port_b }
with_metric-apart_to side.B m h l a = record { bridges = a.bridges; port_a = a.port_a; port_b = a.port_b }

with_metric-apart_of : (on : Side) (m : ℕ) (h l : DeclaredLink) → AreApart h l → AreApart (link_with_metric on m h) l
with_metric-apart_of side.A m h l a = record { bridges = a.bridges; port_a = a.port_a; port_b = a.port_b }
with_metric-apart_of side.B m h l a = record { bridges = a.bridges; port_a = a.port_a; port_b = a.port_b }

with_metric-apart_from : (on : Side) (m : ℕ) (h : DeclaredLink) (ls : Links) (k : ℕ) → AllByRecursion (AreApart h) (things_of ls) → AllByRecursion (AreApart h) (things_of (links_with_metric on m ls k))
with_metric-apart_from on m h [] k a = a
with_metric-apart_from on m h (l ∷ ls) zero a = (with_metric-apart_to on m h l.1 a.0, a.1)
with_metric-apart_from on m h (l ∷ ls) (suc k) a = (a.0, with_metric-apart_from on m h ls k a.1)

with_metric-apart : (on : Side) (m : ℕ) (ls : Links) (k : ℕ) → AllApart (things_of ls) → AllApart (things_of (links_with_metric on m ls k))
with_metric-apart on m [] k a = a
with_metric-apart on m (l ∷ ls) zero a = (All-map (AreApart l.1) (AreApart (link_with_metric on m l.1)) (things_of ls) (λ h apart. with_metric-apart_of on m l.1 h apart) a.0, a.1)
with_metric-apart on m (l ∷ ls) (suc k) a = (with_metric-apart_from on m l.1 ls k a.0, with_metric-apart on m ls k a.1)

-- each end of a link is one
pub end_on-is : (on : Side) (bs : Bridges) (l : DeclaredLink) → IsLink bs l → IsEnd bs (end_on on l)
end_on-is side.A bs l is = is.a
end_on-is side.B bs l is = is.b

pub Sound-with_end_metric : (on : Side) (m : ℕ) (w : World) (k : ℕ) → IsMetric m → Sound w → Sound (with_end_metric on m w k)
unfolding with_end_metric
Sound-with_end_metric on m w k is sound = record {
  few = sound.few;
  ports = sound.ports;
  systems = sound.systems;
  links = with_metric-links on w.bridges m w.links k is sound.links;
  links_apart = with_metric-apart on m w.links k sound.links_apart;
  plans = sound.plans;
  few_vids = sound.few_vids;
  each_vid = sound.each_vid;
  services = sound.services;
  services_apart = sound.services_apart;
  attached = sound.attached;
  attached_apart = sound.attached_apart;
}

pub with_metric-set : (on : Side) (m : ℕ) (ls : Links) (k : ℕ) (l : DeclaredLink) → slice_get (things_of ls) k ≡ Some l → set_value_at ls k (link_with_metric on m l) ≡ links_with_metric on m ls k
with_metric-set on m [] k l h = cc
with_metric-set on m (n ∷ ls) zero l h = ap (λ x. (n.0, link_with_metric on m x) ∷ ls) (sym (some-is n.1 l h))
with_metric-set on m (n ∷ ls) (suc k) l h = ap (λ x. n ∷ x) (with_metric-set on m ls k l h)

pub with_metric-none : (on : Side) (m : ℕ) (ls : Links) (k : ℕ) → slice_get (things_of ls) k ≡ None → ls ≡ links_with_metric on m ls k
with_metric-none on m [] k h = refl
with_metric-none on m (n ∷ ls) zero h = cc
with_metric-none on m (n ∷ ls) (suc k) h = ap (λ x. n ∷ x) (with_metric-none on m ls k h)

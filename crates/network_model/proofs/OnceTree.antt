-- In a network at rest, the links over which the wired rows for a group address lead make a tree from its source.
use Rattle.std.proofs.Common.{◌≡◌, ◌≢◌, ◌<◌, ◌≤◌, ℕ, zero, suc, Bool, true, false, true≢false, ◌&&◌, ◌||◌, eqb, eqb-true, inl, inr, ◌⊎◌, List, [], ◌∷◌, length, Contains, find, refl, sym, ap, ◌∙◌, subst, Option, Some, None, slice_get, arith}
use Rattle.std.specs.Prelude.{nat_eq, ◌==◌, map}
use Rattle.std.specs.Option.{option_map}
use Rattle.std.specs.List.{AllByRecursion, list_any}
use Rattle.std.proofs.lemmas.Bool.{and_parts, cases_eq}
use Rattle.std.proofs.lemmas.List.{length-map}
use Rattle.std.proofs.lemmas.Option.{slice_get_within}
use Rattle.spb_types.specs.Graph.{joins, port_at, port_between}
use Rattle.spb_types.specs.Ports.{has}
use Rattle.spb_types.specs.Service.{receives, sends}
use Rattle.spb_types.specs.Tables.{unicast_in, group_in}
use Rattle.spb_types.specs.declared.address.SystemId.{SystemId}
use Rattle.spb_types.specs.declared.graph.Edge.{Edge}
use Rattle.spb_types.specs.declared.graph.Graph.{Graph}
use Rattle.spb_types.specs.declared.graph.GraphBridge.{GraphBridge}
use Rattle.spb_types.specs.declared.graph.Member.{Member}
use Rattle.spb_types.specs.declared.limits.TheConstants.{GREATEST_ISID, SOURCE_IDS}
use Rattle.spb_types.specs.declared.link.Dir.{Dir}
use Rattle.spb_types.specs.declared.service.Attachment.{Attachment}
use Rattle.spb_types.specs.declared.service.Isid.{Isid}
use Rattle.spb_types.specs.declared.service.SourceId.{SourceId}
use Rattle.spb_types.specs.declared.service.Vid.{Vid}
use Rattle.spb_types.specs.declared.service.VidPlan.{VidPlan}
use Rattle.ect_trees.specs.Laws.{IsReached}
use Rattle.ect_trees.proofs.Joining.{port_among_find}
use Rattle.spb_content.proofs.Members.{Has, all_has, contains_from_has, has_from_contains, map_has, weaker}
use Rattle.fdb_build.specs.Tables.{unicast_rows}
use Rattle.fdb_build.specs.Groups.{Sends, Receives, group_rows}
use Rattle.fdb_build.specs.GroupTrees.{AcceptsFrom, FollowsOnTree, group_ports}
use Rattle.fdb_build.specs.GroupTrees as trees
use Rattle.fdb_build.proofs.TreeLemmas.{followers_accept, receivers_are_on_tree, rows_lead_to_followers}
use Rattle.forwarding.specs.Ports.{attachment_of}
use Rattle.forwarding.specs.Receiving.{IsReceivingTo}
use Rattle.bridge_api.specs.View.{BridgeView}
use Rattle.bridge_api.specs.Config.{ArePairwise, vids_of}
use Rattle.bridge_api.specs.Laws.{IsSoundView}
use Rattle.spb_world.specs.declared.declaration.DeclaredBridge.{DeclaredBridge}
use Rattle.spb_world.specs.declared.declaration.DeclaredLink.{DeclaredLink}
use Rattle.spb_world.specs.declared.declaration.LinkEnd.{LinkEnd}
use Rattle.spb_world.specs.World.{World, AllApart, AreApart, IsAttachedIn, attached_at, is_between, system_at, things_of, vid_of_isid, wired_tables, world_graph}
use Rattle.network_model.specs.State.{State}
use Rattle.spb_world.specs.Links.{near_end, far_end}
use Rattle.network_model.specs.Sound.{IsSoundState}
use Rattle.network_model.specs.Truth.{IsAtRest, IsWalk}
use Rattle.network_model.specs.Once.{IsReceivingAt}
use Rattle.network_model.specs.UnderWay.{Journey, leads_over, LeadsDown, IsTree}
use Rattle.spb_world.proofs.BoxLemmas.{All-get}
use Rattle.network_model.proofs.Linked.{get_within}
use Rattle.network_model.proofs.QuietTruth.{quiet_is_true}
use Rattle.network_model.proofs.Reached.{shown_bridge, wired_bridge}
use Rattle.network_model.proofs.SoundLane.{some-is}
use Rattle.spb_world.proofs.SoundLaneIds.{turned, near-turned}
use Rattle.network_model.proofs.Spoken.{place_low, system_is}
use Rattle.network_model.proofs.QuietReadLinks.{port_is, systems_apart}
use Rattle.spb_world.proofs.AttachedLemmas.{all_at}
use Rattle.spb_world.proofs.MemberLemmas.{member_isid, port_receives, port_sends}
use Rattle.spb_world.proofs.ValidLemmas.{place_from, valid_for}
use Rattle.network_model.proofs.Wires.{IsLinkOf, between, edge_found, edge_sought, far_is, find_in, has_place, is_link, near_is, same_dir}
use Rattle.network_model.proofs.OnceStep.{far-turned}
use Rattle.network_model.proofs.OnceEntry.{journey_from}

-- ---- links between two bridges stand at one place

one_place : (ls : List DeclaredLink) (k n : ℕ) (d e : Dir) (l m : DeclaredLink) → AllApart ls → slice_get ls k ≡ Some l → slice_get ls n ≡ Some m → (near_end d l).bridge ≡ (near_end e m).bridge → (far_end d l).bridge ≡ (far_end e m).bridge → k ≡ n
one_place [] k n d e l m apart at_l at_m near far = absurd cc
one_place (h ∷ ls) zero zero d e l m apart at_l at_m near far = refl
one_place (h ∷ ls) zero (suc n) d e l m apart at_l at_m near far =
    let same : h ≡ l = cc in
    absurd (true≢false (sym (between d e l m near far) ∙ (ap (λ x. is_between x m.a.bridge m.b.bridge) (sym same) ∙ (All-get (AreApart h) ls n m apart.0 at_m).bridges)))
one_place (h ∷ ls) (suc k) zero d e l m apart at_l at_m near far =
    let same : h ≡ m = cc in
    absurd (true≢false (sym (between e d m l (sym near) (sym far)) ∙ (ap (λ x. is_between x l.a.bridge l.b.bridge) (sym same) ∙ (All-get (AreApart h) ls k l apart.0 at_l).bridges)))
one_place (h ∷ ls) (suc k) (suc n) d e l m apart at_l at_m near far = ap suc (one_place ls k n d e l m apart.1 at_l at_m near far)

-- ---- sources

not_source : (ds : List DeclaredBridge) (x : DeclaredBridge) (n : ℕ) → AllByRecursion (λ m. n ≢ m) (map (λ b. b.bridge.source.value) ds) → Has x ds → n ≡ x.bridge.source.value → ⊥
not_source [] x n all h same = h
not_source (d ∷ ds) x n all (inl here) same = all.0 (same ∙ ap (λ (b : DeclaredBridge). b.bridge.source.value) here)
not_source (d ∷ ds) x n all (inr later) same = not_source ds x n all.1 later same

one_source : (ds : List DeclaredBridge) (x y : DeclaredBridge) → ArePairwise (λ m n. m ≢ n) (map (λ b. b.bridge.source.value) ds) → Has x ds → Has y ds → x.bridge.source.value ≡ y.bridge.source.value → x ≡ y
one_source [] x y apart h k same = absurd h
one_source (d ∷ ds) x y apart (inl h) (inl k) same = h ∙ sym k
one_source (d ∷ ds) x y apart (inl h) (inr k) same = absurd (not_source ds y d.bridge.source.value apart.0 k (ap (λ (b : DeclaredBridge). b.bridge.source.value) (sym h) ∙ same))
one_source (d ∷ ds) x y apart (inr h) (inl k) same = absurd (not_source ds x d.bridge.source.value apart.0 h (ap (λ (b : DeclaredBridge). b.bridge.source.value) (sym k) ∙ sym same))
one_source (d ∷ ds) x y apart (inr h) (inr k) same = one_source ds x y apart.1 h k same

-- ---- a port that is attached

record IsReceiver (attached : List Attachment) (isid : Isid) : Type 0 where
  attachment : Attachment
  among : Has attachment attached
  service : attachment.isid ≡ isid
  takes : receives attachment.mode ≡ true

receiver : (attached : List Attachment) (q : ℕ) (isid : Isid) → IsReceivingTo attached q isid → IsReceiver attached isid
receiver [] q isid is = absurd is
receiver (a ∷ attached) q isid (inl here) = record { attachment = a; among = inl refl; service = here.1; takes = here.2 }
receiver (a ∷ attached) q isid (inr there) =
    let r = receiver attached q isid there in record { attachment = r.attachment; among = inr r.among; service = r.service; takes = r.takes }

-- the bridge is there, and the port is in the VID of the service
pub record IsAttachedThere (w : World) (c : ℕ) (a : Attachment) : Type 0 where
  pub low : c < length w.bridges
  pub vid : vid_of_isid w.services a.isid.value ≡ Some a.vid

pub attached_there : (s : State) (c : ℕ) (a : Attachment) → IsSoundState s → Has a (attached_at s.world c) → IsAttachedThere s.world c a
attached_there s c a sound h =
    let w : World = s.world in
    all_has (IsAttachedThere w c) a (attached_at w c)
    (all_at (IsAttachedThere w c) c w.attached
    (weaker (IsAttachedIn w.bridges w.services) (λ (x : ℕ × Attachment). x.0 ≡ c → IsAttachedThere w c x.1) w.attached (λ x is at. record { low = subst (λ (i : ℕ). i < length w.bridges) at is.bridge; vid = is.service }) sound.world.attached)) h

pub one_vid : (w : World) (a c : Attachment) → vid_of_isid w.services a.isid.value ≡ Some a.vid → vid_of_isid w.services c.isid.value ≡ Some c.vid → c.isid.value ≡ a.isid.value → c.vid ≡ a.vid
one_vid w a c here there same = let one : Some c.vid ≡ Some a.vid = sym there ∙ (ap (vid_of_isid w.services) same ∙ here) in cc

pub record IsPlanned (vids : List VidPlan) (vid : Vid) : Type 0 where
  pub plan : VidPlan
  pub among : Has plan vids
  pub is : plan.vid ≡ vid

pub planned_vid : (vid : Vid) (plans : List VidPlan) → list_any (nat_eq vid.value) (vids_of plans) ≡ true → IsPlanned plans vid
planned_vid vid [] is = absurd cc
planned_vid vid (plan ∷ plans) is = by (eqb vid.value plan.vid.value) refl is (λ any. planned_vid vid plans any)
  where
    by : (b : Bool) → eqb vid.value plan.vid.value ≡ b → (b || list_any (nat_eq vid.value) (vids_of plans)) ≡ true → (list_any (nat_eq vid.value) (vids_of plans) ≡ true → IsPlanned plans vid) → IsPlanned (plan ∷ plans) vid
    by true e any more = let same : vid.value ≡ plan.vid.value = eqb-true vid.value plan.vid.value e in record { plan = plan; among = inl refl; is = λ i. record { value = sym same i } }
    by false e any more = let r = more any in record { plan = r.plan; among = inr r.among; is = r.is }

-- ---- the tree

module _ (s : State) (b p : ℕ) (f : List ℕ) (v : BridgeView) (a : Attachment) (rest : IsAtRest s) (at : slice_get s.views b ≡ Some v) (found : attachment_of p v.attached ≡ Some a) (sending : sends a.mode ≡ true) (plan : VidPlan) (planned : Contains s.world.vids plan) (in_vid : plan.vid ≡ a.vid) where
  abbrev w : World
  w = s.world

  abbrev g : Graph
  g = world_graph s.world

  abbrev source : GraphBridge
  source = shown_bridge v

  abbrev j : Journey
  j = journey_from b p f v a

  sound : IsSoundState s
  sound = rest.sound

  abbrev sys : ℕ → SystemId
  sys i = system_at s.world.bridges i

  -- the port where it entered makes its bridge a sender
  source_sends : Sends g a.isid plan.vid v.id.system
  source_sends =
      let among : Has a (attached_at w b) = subst (λ (xs : List Attachment). Has a xs) (sound.attached b v at) (find_in (λ x. x.port == p) v.attached a found).0 in
      let is = port_sends w b a sound.world (place_low s b v sound at) among sending in
      record {
        member = is.member;
        there = is.there;
        of_system = is.of_system ∙ system_is s b v sound at;
        in_service = is.in_service;
        in_vid = is.in_vid ∙ sym in_vid;
        transmits = is.transmits;
      }

  -- and a port of the service that receives makes its bridge a receiver
  port_takes : (c : ℕ) (u : BridgeView) (x : Attachment) → slice_get s.views c ≡ Some u → Has x (attached_at w c) → receives x.mode ≡ true → x.isid ≡ a.isid → x.vid ≡ a.vid → Receives g a.isid plan.vid u.id.system
  port_takes c u x at_u among takes isid vid =
      let is = port_receives w c x sound.world (place_low s c u sound at_u) among takes in
      record {
        member = is.member;
        there = is.there;
        of_system = is.of_system ∙ system_is s c u sound at_u;
        in_service = is.in_service ∙ isid;
        in_vid = is.in_vid ∙ (vid ∙ sym in_vid);
        receives = is.receives;
      }

  service : trees.IsService g w.vids plan source a.isid
  service = record {
    valid = λ x is. valid_for w x sound.world;
    plans = sound.world.plans;
    planned = planned;
    bridge = contains_from_has source g.bridges (wired_bridge s b v sound at);
    sends = source_sends;
    apart = apart;
    sources = low_source;
    isids = low_isid;
  }
    where
      bridge_of : (x : GraphBridge) → Contains g.bridges x → (d : DeclaredBridge) × Has d (things_of w.bridges) × (d.bridge ≡ x)
      bridge_of x k = let r = map_has (λ (d : DeclaredBridge). d.bridge) x (things_of w.bridges) (has_from_contains x g.bridges k) in (r.0, r.1, sym r.2)

      apart : (x y : GraphBridge) → Contains g.bridges x → Contains g.bridges y → x.source.value ≡ y.source.value → x ≡ y
      apart x y k h same =
          let c = bridge_of x k in
          let d = bridge_of y h in
          let one : c.0 ≡ d.0 = one_source (things_of w.bridges) c.0 d.0 sound.distinct.sources c.1 d.1 (ap (λ (z : GraphBridge). z.source.value) c.2 ∙ (same ∙ ap (λ (z : GraphBridge). z.source.value) (sym d.2))) in
          sym c.2 ∙ (ap (λ (z : DeclaredBridge). z.bridge) one ∙ d.2)

      low_source : (x : GraphBridge) → Contains g.bridges x → x.source.value < SOURCE_IDS
      low_source x k =
          let d = bridge_of x k in
          let place = has_place d.0 (things_of w.bridges) d.1 in
          let view = get_within s.views place.0 (omega (arith, slice_get_within (things_of w.bridges) place.0 d.0 place.1, length-map w.bridges (λ e. e.1), sound.fits.bridges)) in
          let is = sound.shown place.0 view.0 d.0 view.1 place.1 in
          let sound_view : IsSoundView view.0 = All-get IsSoundView s.views place.0 view.0 sound.views view.1 in
          subst (λ (z : GraphBridge). z.source.value < SOURCE_IDS) d.2 (subst (λ (n : SourceId). n.value < SOURCE_IDS) is.source sound_view.config.source)

      low_isid : (m : Member) → Contains g.members m → m.isid.value ≤ GREATEST_ISID
      low_isid m k = member_isid w m sound.world (has_from_contains m g.members k)

  -- ---- links and ports

  abbrev over : (k : ℕ) (d : Dir) (l : DeclaredLink) → slice_get (things_of w.links) k ≡ Some l → l.live ≡ true → IsLinkOf w (sys (near_end d l).bridge) (sys (far_end d l).bridge)
  over k d l there live = record { place = k; dir = d; link = l; there = there; live = live; near = refl; far = refl }

  port_over : (x y : SystemId) (q : IsLinkOf w x y) → port_between g x y ≡ Some (near_end q.dir q.link).port
  port_over x y q =
      port_among_find g.edges x y
      ∙ (ap (option_map (λ (e : Edge). port_at e x)) (edge_found w x y sound.world q)
      ∙ ap Some (sym (port_is s x y q.dir q.link q.near q.far (systems_apart s x y sound q))))

  link_between : (x y : SystemId) (port : ℕ) → port_between g x y ≡ Some port → IsLinkOf w x y
  link_between x y port is = by (find (λ e. joins e x y) g.edges) refl (sym (port_among_find g.edges x y) ∙ is)
    where
      by : (o : Option Edge) → find (λ e. joins e x y) g.edges ≡ o → option_map (λ e. port_at e x) o ≡ Some port → IsLinkOf w x y
      by None none e = absurd cc
      by (Some edge) here e = (edge_sought w x y edge here).link

  -- the row of a bridge
  row_is : (i q : ℕ) → has (group_in (wired_tables w i).group a.vid j.to) q ≡ has (group_ports g w.vids plan source a.isid (sys i)) q
  unfolding wired_tables
  row_is i q = ap (λ (vid : Vid). has (group_in (group_rows g (sys i) w.vids) vid j.to) q) (sym in_vid)

  follows : (k : ℕ) (d : Dir) (l : DeclaredLink) → slice_get (things_of w.links) k ≡ Some l → leads_over w j d l ≡ true → FollowsOnTree g plan source a.isid (sys (near_end d l).bridge) (sys (far_end d l).bridge)
  follows k d l there leads =
      let both = and_parts l.live (has (group_in (wired_tables w (near_end d l).bridge).group a.vid j.to) (near_end d l).port) leads in
      (rows_lead_to_followers g w.vids plan source a.isid (sys (near_end d l).bridge) (sys (far_end d l).bridge) (near_end d l).port service (port_over _ _ (over k d l there both.0))).0
      (sym (row_is (near_end d l).bridge (near_end d l).port) ∙ both.1)

  accepts : (k : ℕ) (d : Dir) (l : DeclaredLink) → slice_get (things_of w.links) k ≡ Some l → leads_over w j d l ≡ true → AcceptsFrom g w.vids plan source a.isid (sys (near_end d l).bridge) (sys (far_end d l).bridge)
  accepts k d l there leads = followers_accept g w.vids plan source a.isid (sys (near_end d l).bridge) (sys (far_end d l).bridge) service (follows k d l there leads)

  only_one : (k n : ℕ) (d e : Dir) (l m : DeclaredLink) → slice_get (things_of w.links) k ≡ Some l → slice_get (things_of w.links) n ≡ Some m → leads_over w j d l ≡ true → leads_over w j e m ≡ true → (far_end d l).bridge ≡ (far_end e m).bridge → (k ≡ n) × (d ≡ e)
  only_one k n d e l m at_l at_m lead_l lead_m far =
      let follows_m : FollowsOnTree g plan source a.isid (sys (near_end e m).bridge) (sys (far_end d l).bridge) =
      subst (λ (i : ℕ). FollowsOnTree g plan source a.isid (sys (near_end e m).bridge) (sys i)) (sym far) (follows n e m at_m lead_m) in
      let system : sys (near_end e m).bridge ≡ sys (near_end d l).bridge = (accepts k d l at_l lead_l).alone (sys (near_end e m).bridge) follows_m in
      let link_l = is_link w sound.world k l at_l in
      let link_m = is_link w sound.world n m at_m in
      let near : (near_end d l).bridge ≡ (near_end e m).bridge = place_from w.bridges sound.world.systems _ _ (near_is w sound.world d l link_l) (near_is w sound.world e m link_m) (sym system) in
      let place : k ≡ n = one_place (things_of w.links) k n d e l m sound.world.links_apart at_l at_m near far in
      let same : l ≡ m = some-is l m (sym at_l ∙ (ap (slice_get (things_of w.links)) place ∙ at_m)) in
      (place, same_dir d e l link_l.apart (near ∙ ap (λ (x : DeclaredLink). (near_end e x).bridge) (sym same)))

  not_to_root : (k : ℕ) (d : Dir) (l : DeclaredLink) → slice_get (things_of w.links) k ≡ Some l → leads_over w j d l ≡ true → (far_end d l).bridge ≡ b → ⊥
  not_to_root k d l there leads far = (accepts k d l there leads).other (ap sys far ∙ system_is s b v sound at)

  -- the port back over a link
  back_port : (k : ℕ) (d : Dir) (l : DeclaredLink) → slice_get (things_of w.links) k ≡ Some l → l.live ≡ true → port_between g (sys (far_end d l).bridge) (sys (near_end d l).bridge) ≡ Some (near_end (turned d) l).port
  back_port k d l there live =
      port_over (sys (far_end d l).bridge) (sys (near_end d l).bridge)
      (record { place = k; dir = turned d; link = l; there = there; live = live; near = ap (λ (e : LinkEnd). sys e.bridge) (near-turned d l); far = ap (λ (e : LinkEnd). sys e.bridge) (far-turned d l) })

  takes_there : (k : ℕ) (d : Dir) (l : DeclaredLink) → slice_get (things_of w.links) k ≡ Some l → leads_over w j d l ≡ true → unicast_in (wired_tables w (far_end d l).bridge).unicast a.vid v.id.system.mac ≡ Some (far_end d l).port
  unfolding wired_tables
  takes_there k d l there leads =
      let live : l.live ≡ true = (and_parts l.live (has (group_in (wired_tables w (near_end d l).bridge).group a.vid j.to) (near_end d l).port) leads).0 in
      let takes = (accepts k d l there leads).takes in
      let port : Some takes.port ≡ Some (near_end (turned d) l).port = sym takes.towards ∙ back_port k d l there live in
      ap (λ (vid : Vid). unicast_in (unicast_rows g (sys (far_end d l).bridge) w.vids) vid v.id.system.mac) (sym in_vid)
      ∙ (takes.back ∙ (port ∙ ap (λ (e : LinkEnd). Some e.port) (near-turned d l)))

  -- ---- down to each member

  down_by : (m c : ℕ) (x y : SystemId) (way : List SystemId) → m < length w.bridges → c < length w.bridges → sys m ≡ x → sys c ≡ y → trees.LeadsDown g plan source a.isid x way y → (ks : List ℕ) × LeadsDown w j m ks c
  down_by m c x y [] low_m low_c at_m at_c down = ([], place_from w.bridges sound.world.systems m c low_m low_c (at_m ∙ (down ∙ sym at_c)))
  down_by m c x y (z ∷ way) low_m low_c at_m at_c down =
      let from = followers_accept g w.vids plan source a.isid x z service down.0 in
      let q : IsLinkOf w x z = link_between x z from.port from.towards in
      let l : DeclaredLink = q.link in
      let link = is_link w sound.world q.place l q.there in
      let near : (near_end q.dir l).bridge ≡ m = place_from w.bridges sound.world.systems _ _ (near_is w sound.world q.dir l link) low_m (q.near ∙ sym at_m) in
      let in_row : has (group_ports g w.vids plan source a.isid x) (near_end q.dir l).port ≡ true = (rows_lead_to_followers g w.vids plan source a.isid x z (near_end q.dir l).port service (port_over x z q)).1 down.0 in
      let has_port : has (group_in (wired_tables w (near_end q.dir l).bridge).group a.vid j.to) (near_end q.dir l).port ≡ true =
      row_is (near_end q.dir l).bridge (near_end q.dir l).port ∙ (ap (λ (i : SystemId). has (group_ports g w.vids plan source a.isid i) (near_end q.dir l).port) q.near ∙ in_row) in
      let k : ℕ = (far_end q.dir l).bridge in
      let more = down_by k c z y way (far_is w sound.world q.dir l link) low_c q.far at_c down.1 in
      (k ∷ more.0, (record { place = q.place; dir = q.dir; link = l; there = q.there; leads = (λ i. q.live i && has_port i); near = near; far = refl }, more.1))

  member_down : (c q : ℕ) (walk : List ℕ) → IsReceivingAt w c q a.isid → IsWalk (things_of w.links) b walk c → (ks : List ℕ) × LeadsDown w j b ks c
  member_down c q walk receiving joined = by (cases_eq c b)
    where
      port : IsReceiver (attached_at w c) a.isid
      port = receiver (attached_at w c) q a.isid receiving

      there : IsAttachedThere w c port.attachment
      there = attached_there s c port.attachment sound port.among

      own_vid : vid_of_isid w.services a.isid.value ≡ Some a.vid
      own_vid = (attached_there s b a sound (subst (λ (xs : List Attachment). Has a xs) (sound.attached b v at) (find_in (λ x. x.port == p) v.attached a found).0)).vid

      by : (c ≡ b) ⊎ (c ≢ b) → (ks : List ℕ) × LeadsDown w j b ks c
      by (inl same) = ([], sym same)
      by (inr apart) =
          let low_b : b < length w.bridges = place_low s b v sound at in
          let view = get_within s.views c (omega (arith, there.low, sound.fits.bridges)) in
          let u : BridgeView = view.0 in
          let sys_b : sys b ≡ v.id.system = system_is s b v sound at in
          let sys_c : sys c ≡ u.id.system = system_is s c u sound view.1 in
          let vid : port.attachment.vid ≡ a.vid = one_vid w a port.attachment own_vid there.vid (ap (λ (i : Isid). i.value) port.service) in
          let takes = port_takes c u port.attachment view.1 port.among port.takes port.service vid in
          let other : u.id.system ≢ v.id.system = λ same. apart (place_from w.bridges sound.world.systems c b there.low low_b (sys_c ∙ (same ∙ sym sys_b))) in
          let reached : IsReached g v.id.system u.id.system =
          ((quiet_is_true s b v rest at).reached u.id.system).1 (record { w = u; joined = record { from = b; to = c; here = at; there = view.1; walk = walk; leads = joined }; is = refl }) in
          let way = receivers_are_on_tree g w.vids plan source a.isid u.id.system service takes other reached in
          down_by b c v.id.system u.id.system way.0 low_b there.low sys_b sys_c way.1

  pub is_tree : IsTree w j
  is_tree = record { one = only_one; root = not_to_root; takes = takes_there; down = member_down }

-- What a script that is made declares is accepted.
use Rattle.std.proofs.Common.{◌≡◌, ℕ, suc, ◌+◌, ◌-◌, ◌/◌, ◌%◌, ◌≤◌, true, false, ◌&&◌, ◌==◌, List, [], ◌∷◌, ◌++◌, length, map, flat_map, None, refl, sym, ap, subst, arith}
use Rattle.spb_types.specs.declared.service.Attachment.{Attachment}
use Rattle.spb_types.specs.declared.service.Mode.TheVariants.{Both}
use Rattle.spb_types.specs.declared.service.Vid.{Vid}
use Rattle.bridge_api.specs.Services.{attachment_of}
use Rattle.scenario.specs.declared.command.Command.{Command}
use Rattle.scenario.specs.declared.command.Command.TheVariants as command
use Rattle.scenario_maker.specs.Made.{numbers, bridge_name, ring_name, chord_name, next_of, across, chord_start, chord_count, isid_of, vid_of, base_vids, bridge, bridges, ring_link, ring, nth_chord, chords, network, service, services, attach, members, attachments, declarations}
use Rattle.scenario_maker.proofs.Places.{members_are_apart, chords_lead_across}
use Rattle.spb_world.specs.declared.declaration.DeclaredLink.{DeclaredLink}
use Rattle.spb_world.specs.Reason.{reason_unless}
use Rattle.spb_world.specs.World.{World, Links}
use Rattle.spb_world.specs.Declaring.{is_vid_range, vid_refusal, plan_of, bridge_of, link_of, with_vid, with_bridge, with_link, with_live}
use Rattle.spb_world.specs.Services.{service_of, with_service}
use Rattle.spb_world.specs.Attaching.{with_one_at, with_attachment_at}
use Rattle.network_model.specs.State.{State}
use Rattle.network_model.specs.Refusing.{refusal_of}
use Rattle.network_model.specs.Play.{next_state}
use Rattle.made_runs.proofs.StandingSteps.{Stands, Goes, vid_goes, isid_goes, bridge_goes, link_goes, attach_goes}
use Rattle.made_runs.proofs.MadeRuns.{Runs, runs_one, runs_more, runs_each, runs_map}
use Rattle.made_runs.proofs.MadeBridges.{mac_of, source_of, AreBridged, new_bridge, bridged_more, bridge_place}
use Rattle.made_runs.proofs.MadeLinks.{AreWired, new_ring, new_chord, ring_more, chord_more, switched_last}
use Rattle.made_runs.proofs.MadeServices.{plans, AreServed, IsMember, AreJoined, new_service, served_more, new_member, own_free, behind_free, opposite_free, own_more, behind_more, opposite_more}

-- one command, or some, for each number from 1 on
pub runs_numbered : (P : ℕ → State → Type 0) (f : ℕ → Command) (k : ℕ) → ((j : ℕ) → 1 ≤ j → j ≤ k → Runs (P j) (f j ∷ []) (P (j + 1))) → Runs (P 1) (map f (numbers k)) (P (k + 1))
runs_numbered P f k each =
    let on : 1 + k ≡ k + 1 = omega arith in
    subst (λ e. Runs (P 1) (map f (numbers k)) (P e)) on (runs_map P f 1 k (λ j low high. each j low (omega arith)))

pub runs_all_numbered : (P : ℕ → State → Type 0) (f : ℕ → List Command) (k : ℕ) → ((j : ℕ) → 1 ≤ j → j ≤ k → Runs (P j) (f j) (P (j + 1))) → Runs (P 1) (flat_map f (numbers k)) (P (k + 1))
runs_all_numbered P f k each =
    let on : 1 + k ≡ k + 1 = omega arith in
    subst (λ e. Runs (P 1) (flat_map f (numbers k)) (P e)) on (runs_each P f 1 k (λ j low high. each j low (omega arith)))

-- what is declared so far: what is below each of these numbers
pub record IsDeclared (n b l c v x y z : ℕ) (w : World) : Type 0 where
  pub vids : w.vids ≡ plans
  pub bridges : AreBridged b w.bridges
  pub links : AreWired n l c w.links
  pub services : AreServed v w.services
  pub attached : AreJoined n x y z w.attached

-- a state in which so many boxes are left, and of whose world this holds
abbrev pub Stays : ℕ → ℕ → ℕ → (World → Type 0) → State → Type 0
Stays m r d Q s = Stands m r d s × Q s.world

-- a step that leads from one world to another
pub runs_step : (m r d m2 r2 d2 : ℕ) (Q R : World → Type 0) (c : Command) (f : World → World) → ((s : State) → Stands m r d s → Q s.world → Goes m2 r2 d2 s c (f s.world) × R (f s.world))
    → Runs (Stays m r d Q) (c ∷ []) (Stays m2 r2 d2 R)
runs_step m r d m2 r2 d2 Q R c f step = runs_one (Stays m r d Q) (Stays m2 r2 d2 R) c (λ s here.
    let x = step s here.0 here.1 in
    (x.0.0, (x.0.1, subst R (sym x.0.2) x.1)))

-- ---- the base VIDs

abbrev pub IsNothing : World → Type 0
IsNothing w = w ≡ record { vids = []; bridges = []; links = []; services = []; attached = [] }

first_vid : (w : World) → IsNothing w → (vid_refusal w 10 1 ≡ None) × (with_vid w (plan_of 10 1) ≡ record { vids = plan_of 10 1 ∷ []; bridges = []; links = []; services = []; attached = [] })
unfolding vid_refusal is_vid_range reason_unless with_vid
first_vid w is = (ap (λ (u : World). vid_refusal u 10 1) is, ap (λ (u : World). with_vid u (plan_of 10 1)) is)

second_vid : (w : World) → w ≡ record { vids = plan_of 10 1 ∷ []; bridges = []; links = []; services = []; attached = [] }
    → (vid_refusal w 20 2 ≡ None) × (with_vid w (plan_of 20 2) ≡ record { vids = plans; bridges = []; links = []; services = []; attached = [] })
unfolding vid_refusal is_vid_range reason_unless with_vid
second_vid w is = (ap (λ (u : World). vid_refusal u 20 2) is, ap (λ (u : World). with_vid u (plan_of 20 2)) is)

nothing_else : (n : ℕ) → IsDeclared n 1 1 1 1 1 1 1 (record { vids = plans; bridges = []; links = []; services = []; attached = [] })
nothing_else n = record {
  vids = refl;
  bridges = record { count = refl; all = tt; found = λ i low high. absurd (omega arith) };
  links = record { count = refl; all = tt; first = λ h. absurd (omega arith) };
  services = record { count = refl; all = tt; found = λ i low high. absurd (omega arith) };
  attached = record { all = tt; own = λ p h. absurd (omega arith) };
}

pub runs_vids : (m n : ℕ) → Runs (Stays m 0 0 IsNothing) base_vids (Stays m 0 0 (IsDeclared n 1 1 1 1 1 1 1))
runs_vids m n = runs_more (Stays m 0 0 IsNothing) (Stays m 0 0 One) (Stays m 0 0 (IsDeclared n 1 1 1 1 1 1 1)) (command.Vid 10 1 ∷ []) (command.Vid 20 2 ∷ [])
    (runs_step m 0 0 m 0 0 IsNothing One (command.Vid 10 1) (λ w. with_vid w (plan_of 10 1)) (λ s stands is. let x = first_vid s.world is in (vid_goes s 10 1 m 0 0 stands x.0, x.1)))
    (runs_step m 0 0 m 0 0 One (IsDeclared n 1 1 1 1 1 1 1) (command.Vid 20 2) (λ w. with_vid w (plan_of 20 2)) (λ s stands is. let x = second_vid s.world is in (vid_goes s 20 2 m 0 0 stands x.0, subst (IsDeclared n 1 1 1 1 1 1 1) (sym x.1) (nothing_else n))))
  where
    One : World → Type 0
    One w = w ≡ record { vids = plan_of 10 1 ∷ []; bridges = []; links = []; services = []; attached = [] }

-- ---- the bridges

declared_bridge : (n j : ℕ) (w : World) → 1 ≤ j → j ≤ 96 → IsDeclared n j 1 1 1 1 1 1 w → IsDeclared n (j + 1) 1 1 1 1 1 1 (with_bridge w (bridge_name j) (bridge_of 32768 (mac_of j) (source_of j) 3))
unfolding with_bridge
declared_bridge n j w some few so = record { vids = so.vids; bridges = bridged_more w.bridges j some few so.bridges; links = so.links; services = so.services; attached = so.attached }

runs_bridge : (n j m : ℕ) → n ≤ 96 → 1 ≤ j → j ≤ n → Runs (Stays (suc m) 0 0 (IsDeclared n j 1 1 1 1 1 1)) (bridge j ∷ []) (Stays m 0 0 (IsDeclared n (j + 1) 1 1 1 1 1 1))
runs_bridge n j m few some high =
    let low : j ≤ 96 = omega arith in
    runs_step (suc m) 0 0 m 0 0 (IsDeclared n j 1 1 1 1 1 1) (IsDeclared n (j + 1) 1 1 1 1 1 1) (bridge j) (λ w. with_bridge w (bridge_name j) (bridge_of 32768 (mac_of j) (source_of j) 3))
    (λ s stands so. (bridge_goes s (bridge_name j) 32768 (mac_of j) (source_of j) 3 m 0 0 stands (new_bridge s.world j low so.bridges), declared_bridge n j s.world some low so))

pub runs_bridges : (n : ℕ) → n ≤ 96 → Runs (Stays (n + 1) 0 0 (IsDeclared n 1 1 1 1 1 1 1)) (bridges n) (Stays 1 0 0 (IsDeclared n (n + 1) 1 1 1 1 1 1))
runs_bridges n few =
    let begin : n + 2 - 1 ≡ n + 1 = omega arith in
    let end : n + 2 - (n + 1) ≡ 1 = omega arith in
    subst (λ m. Runs (Stays m 0 0 (IsDeclared n 1 1 1 1 1 1 1)) (bridges n) (Stays 1 0 0 (IsDeclared n (n + 1) 1 1 1 1 1 1))) begin
    (subst (λ m. Runs (Stays (n + 2 - 1) 0 0 (IsDeclared n 1 1 1 1 1 1 1)) (bridges n) (Stays m 0 0 (IsDeclared n (n + 1) 1 1 1 1 1 1))) end
    (runs_numbered (λ j. Stays (n + 2 - j) 0 0 (IsDeclared n j 1 1 1 1 1 1)) bridge n each))
  where
    each : (j : ℕ) → 1 ≤ j → j ≤ n → Runs (Stays (n + 2 - j) 0 0 (IsDeclared n j 1 1 1 1 1 1)) (bridge j ∷ []) (Stays (n + 2 - (j + 1)) 0 0 (IsDeclared n (j + 1) 1 1 1 1 1 1))
    each j some high =
        let more : suc (n + 2 - (j + 1)) ≡ n + 2 - j = omega arith in
        subst (λ m. Runs (Stays m 0 0 (IsDeclared n j 1 1 1 1 1 1)) (bridge j ∷ []) (Stays (n + 2 - (j + 1)) 0 0 (IsDeclared n (j + 1) 1 1 1 1 1 1))) more (runs_bridge n j (n + 2 - (j + 1)) few some high)

-- ---- the links

declared_link : (n l c l2 c2 : ℕ) (w : World) (name : List ℕ) (k : DeclaredLink) → IsDeclared n (n + 1) l c 1 1 1 1 w → AreWired n l2 c2 (w.links ++ (name, record k { live = true }) ∷ [])
    → IsDeclared n (n + 1) l2 c2 1 1 1 1 (with_live true (with_link w name k) (length w.links))
unfolding with_live with_link
declared_link n l c l2 c2 w name k so wired = record {
  vids = so.vids;
  bridges = so.bridges;
  links = subst (λ (ls : Links). AreWired n l2 c2 ls) (sym (switched_last w.links name k)) wired;
  services = so.services;
  attached = so.attached;
}

runs_ring_link : (n j m : ℕ) → 4 ≤ n → n ≤ 96 → 1 ≤ j → j ≤ n → Runs (Stays m 0 0 (IsDeclared n (n + 1) j 1 1 1 1 1)) (ring_link n j ∷ []) (Stays m 0 0 (IsDeclared n (n + 1) (j + 1) 1 1 1 1 1))
runs_ring_link n j m least few some high =
    let a = members_are_apart n j least (some, high) in
    let x : ℕ = next_of n j in
    let x1 : 1 ≤ x = a.0.0 in let xn : x ≤ n = a.0.1 in
    let l : DeclaredLink = link_of (j - 1) 1 (x - 1) 2 (10 + j % 3) in
    runs_step m 0 0 m 0 0 (IsDeclared n (n + 1) j 1 1 1 1 1) (IsDeclared n (n + 1) (j + 1) 1 1 1 1 1) (ring_link n j) (λ w. with_live true (with_link w (ring_name j) l) (length w.links))
    (λ s stands so. (
      link_goes s (ring_name j) (bridge_name j) 1 (bridge_name x) 2 (10 + j % 3) (j - 1) (x - 1) m 0 0 stands
          (bridge_place s.world.bridges (n + 1) j so.bridges some (omega arith) (j - 1) (omega arith))
          (bridge_place s.world.bridges (n + 1) x so.bridges x1 (omega arith) (x - 1) (omega arith))
          (new_ring s.world n j least few some high so.bridges so.links),
      declared_link n j 1 (j + 1) 1 s.world (ring_name j) l so (ring_more s.world.links n j few some high so.links),
    ))

runs_chord : (n c m : ℕ) → 4 ≤ n → n ≤ 96 → 1 ≤ c → c ≤ chord_count n → Runs (Stays m 0 0 (IsDeclared n (n + 1) (n + 1) c 1 1 1 1)) (nth_chord n c ∷ []) (Stays m 0 0 (IsDeclared n (n + 1) (n + 1) (c + 1) 1 1 1 1))
runs_chord n c m least few some high =
    let a = chords_lead_across n c some high in
    let k : ℕ = chord_start c in
    let x : ℕ = across n k in
    let k1 : 1 ≤ k = a.0 in let kn : k ≤ n / 2 = a.1 in let far : x ≡ k + n / 2 = a.2 in
    let l : DeclaredLink = link_of (k - 1) 3 (x - 1) 3 25 in
    runs_step m 0 0 m 0 0 (IsDeclared n (n + 1) (n + 1) c 1 1 1 1) (IsDeclared n (n + 1) (n + 1) (c + 1) 1 1 1 1) (nth_chord n c) (λ w. with_live true (with_link w (chord_name k) l) (length w.links))
    (λ s stands so. (
      link_goes s (chord_name k) (bridge_name k) 3 (bridge_name x) 3 25 (k - 1) (x - 1) m 0 0 stands
          (bridge_place s.world.bridges (n + 1) k so.bridges k1 (omega arith) (k - 1) (omega arith))
          (bridge_place s.world.bridges (n + 1) x so.bridges (omega arith) (omega arith) (x - 1) (omega arith))
          (new_chord s.world n c least few some high so.bridges so.links),
      declared_link n (n + 1) c (n + 1) (c + 1) s.world (chord_name k) l so (chord_more s.world.links n c least some so.links),
    ))

pub runs_ring : (n m : ℕ) → 4 ≤ n → n ≤ 96 → Runs (Stays m 0 0 (IsDeclared n (n + 1) 1 1 1 1 1 1)) (ring n) (Stays m 0 0 (IsDeclared n (n + 1) (n + 1) 1 1 1 1 1))
runs_ring n m least few = runs_numbered (λ j. Stays m 0 0 (IsDeclared n (n + 1) j 1 1 1 1 1)) (ring_link n) n (λ j some high. runs_ring_link n j m least few some high)

pub runs_chords : (n m : ℕ) → 4 ≤ n → n ≤ 96 → Runs (Stays m 0 0 (IsDeclared n (n + 1) (n + 1) 1 1 1 1 1)) (chords n) (Stays m 0 0 (IsDeclared n (n + 1) (n + 1) (chord_count n + 1) 1 1 1 1))
runs_chords n m least few = runs_numbered (λ c. Stays m 0 0 (IsDeclared n (n + 1) (n + 1) c 1 1 1 1)) (nth_chord n) (chord_count n) (λ c some high. runs_chord n c m least few some high)

-- ---- the services

declared_service : (n c j : ℕ) (w : World) → 1 ≤ j → IsDeclared n (n + 1) (n + 1) c j 1 1 1 w → IsDeclared n (n + 1) (n + 1) c (j + 1) 1 1 1 (with_service w (service_of (isid_of j) (vid_of j)))
unfolding with_service
declared_service n c j w some so = record { vids = so.vids; bridges = so.bridges; links = so.links; services = served_more w.services j some so.services; attached = so.attached }

pub runs_services : (n c m : ℕ) → n ≤ 96 → Runs (Stays m 0 0 (IsDeclared n (n + 1) (n + 1) c 1 1 1 1)) (services n) (Stays m 0 0 (IsDeclared n (n + 1) (n + 1) c (n + 1) 1 1 1))
runs_services n c m few = runs_numbered (λ j. Stays m 0 0 (IsDeclared n (n + 1) (n + 1) c j 1 1 1)) service n
    (λ j some high. runs_step m 0 0 m 0 0 (IsDeclared n (n + 1) (n + 1) c j 1 1 1) (IsDeclared n (n + 1) (n + 1) c (j + 1) 1 1 1) (service j) (λ w. with_service w (service_of (isid_of j) (vid_of j)))
    (λ s stands so. (isid_goes s (isid_of j) (vid_of j) m 0 0 stands (new_service s.world j some (omega arith) so.vids so.services), declared_service n c j s.world some so)))

-- ---- what is attached

declared_member : (n c x y z x2 y2 z2 place : ℕ) (a : Attachment) (w : World) → IsDeclared n (n + 1) (n + 1) c (n + 1) x y z w → AreJoined n x2 y2 z2 (with_one_at place a w.attached)
    → IsDeclared n (n + 1) (n + 1) c (n + 1) x2 y2 z2 (with_attachment_at w place a)
unfolding with_attachment_at
declared_member n c x y z x2 y2 z2 place a w so joined = record { vids = so.vids; bridges = so.bridges; links = so.links; services = so.services; attached = joined }

-- one member of service j, at a port of bridge k
runs_member : (n c m x y z x2 y2 z2 j k port : ℕ) → 1 ≤ j → j ≤ n → 1 ≤ k → k ≤ n → 1 ≤ port → port ≤ 3
    → ((e : ℕ × Attachment) → IsMember n x y z e → ((e.0 == k - 1) && (e.1.port == port)) ≡ false)
    → ((w : World) (v : Vid) → AreJoined n x y z w.attached → AreJoined n x2 y2 z2 (with_one_at (k - 1) (attachment_of port (record { value = isid_of j }) v Both) w.attached))
    → Runs (Stays m 0 0 (IsDeclared n (n + 1) (n + 1) c (n + 1) x y z)) (attach k port j ∷ []) (Stays m 0 0 (IsDeclared n (n + 1) (n + 1) c (n + 1) x2 y2 z2))
runs_member n c m x y z x2 y2 z2 j k port some high k1 kn p1 p3 free more = runs_one (Stays m 0 0 (IsDeclared n (n + 1) (n + 1) c (n + 1) x y z)) (Stays m 0 0 (IsDeclared n (n + 1) (n + 1) c (n + 1) x2 y2 z2)) (attach k port j) step
  where
    step : (s : State) → Stays m 0 0 (IsDeclared n (n + 1) (n + 1) c (n + 1) x y z) s → (refusal_of s (attach k port j) ≡ None) × Stays m 0 0 (IsDeclared n (n + 1) (n + 1) c (n + 1) x2 y2 z2) (next_state s (attach k port j))
    step s here =
        let so = here.1 in
        let found = so.services.found j some (omega arith) in
        let apart = here.0.sound.world.attached_apart in
        let goes = attach_goes s (bridge_name k) port (isid_of j) Both (k - 1) found.0 m 0 0 here.0
        (bridge_place s.world.bridges (n + 1) k so.bridges k1 (omega arith) (k - 1) (omega arith)) found.1
        (new_member s.world n x y z (k - 1) port (isid_of j) found.0 apart so.attached.all found.1 p1 p3 free) in (
          goes.0,
          (
            goes.1,
            subst (IsDeclared n (n + 1) (n + 1) c (n + 1) x2 y2 z2) (sym goes.2)
                (declared_member n c x y z x2 y2 z2 (k - 1) (attachment_of port (record { value = isid_of j }) found.0 Both) s.world so (more s.world found.0 so.attached)),
          ),
        )

runs_members : (n c m j : ℕ) → 4 ≤ n → 1 ≤ j → j ≤ n → Runs (Stays m 0 0 (IsDeclared n (n + 1) (n + 1) c (n + 1) j j j)) (members n j) (Stays m 0 0 (IsDeclared n (n + 1) (n + 1) c (n + 1) (j + 1) (j + 1) (j + 1)))
runs_members n c m j least some high =
    let a = members_are_apart n j least (some, high) in
    let x1 : 1 ≤ next_of n j = a.0.0 in let y1 : 1 ≤ across n j = a.1.0 in
    runs_more (P j j j) (P (j + 1) j j) (P (j + 1) (j + 1) (j + 1)) (attach j 1 j ∷ []) (attach (next_of n j) 2 j ∷ attach (across n j) 3 j ∷ [])
    (runs_member n c m j j j (j + 1) j j j j 1 some high some high (omega arith) (omega arith) (λ e is. own_free n j e some is)
    (λ w v so. own_more w.attached n j (j - 1) (record { value = isid_of j }) v some (omega arith) so))
    (runs_more (P (j + 1) j j) (P (j + 1) (j + 1) j) (P (j + 1) (j + 1) (j + 1)) (attach (next_of n j) 2 j ∷ []) (attach (across n j) 3 j ∷ [])
    (runs_member n c m (j + 1) j j (j + 1) (j + 1) j j (next_of n j) 2 some high x1 a.0.1 (omega arith) (omega arith) (λ e is. behind_free n j e least some high is)
    (λ w v so. behind_more w.attached n j (next_of n j - 1) (record { value = isid_of j }) v some (omega arith) so))
    (runs_member n c m (j + 1) (j + 1) j (j + 1) (j + 1) (j + 1) j (across n j) 3 some high y1 a.1.1 (omega arith) (omega arith) (λ e is. opposite_free n j e least some high is)
    (λ w v so. opposite_more w.attached n j (across n j - 1) (record { value = isid_of j }) v some (omega arith) so)))
  where
    P : ℕ → ℕ → ℕ → State → Type 0
    P x y z = Stays m 0 0 (IsDeclared n (n + 1) (n + 1) c (n + 1) x y z)

pub runs_attachments : (n c m : ℕ) → 4 ≤ n → Runs (Stays m 0 0 (IsDeclared n (n + 1) (n + 1) c (n + 1) 1 1 1)) (attachments n) (Stays m 0 0 (IsDeclared n (n + 1) (n + 1) c (n + 1) (n + 1) (n + 1) (n + 1)))
runs_attachments n c m least = runs_all_numbered (λ j. Stays m 0 0 (IsDeclared n (n + 1) (n + 1) c (n + 1) j j j)) (members n) n (λ j some high. runs_members n c m j least some high)

-- ---- all of it

abbrev pub IsWhole : ℕ → World → Type 0
IsWhole n w = IsDeclared n (n + 1) (n + 1) (chord_count n + 1) (n + 1) (n + 1) (n + 1) (n + 1) w

pub runs_network : (n : ℕ) → 4 ≤ n → n ≤ 96 → Runs (Stays (n + 1) 0 0 IsNothing) (network n) (Stays 1 0 0 (IsDeclared n (n + 1) (n + 1) (chord_count n + 1) 1 1 1 1))
runs_network n least few =
    runs_more (Stays (n + 1) 0 0 IsNothing) (Stays 1 0 0 (IsDeclared n (n + 1) (n + 1) 1 1 1 1 1)) (Stays 1 0 0 (IsDeclared n (n + 1) (n + 1) (chord_count n + 1) 1 1 1 1)) (base_vids ++ bridges n ++ ring n) (chords n)
    (runs_more (Stays (n + 1) 0 0 IsNothing) (Stays 1 0 0 (IsDeclared n (n + 1) 1 1 1 1 1 1)) (Stays 1 0 0 (IsDeclared n (n + 1) (n + 1) 1 1 1 1 1)) (base_vids ++ bridges n) (ring n)
    (runs_more (Stays (n + 1) 0 0 IsNothing) (Stays (n + 1) 0 0 (IsDeclared n 1 1 1 1 1 1 1)) (Stays 1 0 0 (IsDeclared n (n + 1) 1 1 1 1 1 1)) base_vids (bridges n)
    (runs_vids (n + 1) n) (runs_bridges n few)) (runs_ring n 1 least few)) (runs_chords n 1 least few)

pub runs_declarations : (n : ℕ) → 4 ≤ n → n ≤ 96 → Runs (Stays (n + 1) 0 0 IsNothing) (declarations n) (Stays 1 0 0 (IsWhole n))
runs_declarations n least few =
    runs_more (Stays (n + 1) 0 0 IsNothing) (Stays 1 0 0 (IsDeclared n (n + 1) (n + 1) (chord_count n + 1) (n + 1) 1 1 1)) (Stays 1 0 0 (IsWhole n)) (network n ++ services n) (attachments n)
    (runs_more (Stays (n + 1) 0 0 IsNothing) (Stays 1 0 0 (IsDeclared n (n + 1) (n + 1) (chord_count n + 1) 1 1 1 1)) (Stays 1 0 0 (IsDeclared n (n + 1) (n + 1) (chord_count n + 1) (n + 1) 1 1 1)) (network n) (services n)
    (runs_network n least few) (runs_services n (chord_count n + 1) 1 few)) (runs_attachments n (chord_count n + 1) 1 least)

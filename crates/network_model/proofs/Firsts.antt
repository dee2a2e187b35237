-- The refusal of each command is that of a chain of tests, so the first reason is given.
use Rattle.std.proofs.Common.{◌≡◌, ℕ, ◌+◌, ◌<◌, ◌≤◌, Bool, not, ◌&&◌, nat_lt, nat_le, List, [], ◌∷◌, length, Option, Some, None, is_some, ◌⊎◌, inl, inr, ⊎_elim, refl, subst, arith}
use Rattle.std.specs.Prelude.{Decides}
use Rattle.std.proofs.lemmas.Bool.Decides.{Decides-like}
use Rattle.spb_types.specs.declared.address.Mac.{Mac}
use Rattle.spb_types.specs.declared.service.Mode.{Mode}
use Rattle.spb_types.specs.declared.service.SourceId.{SourceId}
use Rattle.scenario.specs.declared.command.Command.{Command}
use Rattle.scenario.specs.declared.command.Command.TheVariants as command
use Rattle.spb_types.specs.declared.link.Dir.{Dir}
use Rattle.spb_types.specs.declared.link.Side.{Side}
use Rattle.spb_world.specs.declared.reason.Reason.{Reason}
use Rattle.spb_world.specs.declared.reason.Reason.TheVariants.{NoSuchName, NameTaken, IdTaken, PortUse, Range, TooMany, AlreadyLinked, AlreadyUp, AlreadyDown, Attached, NotAttached, NoFrame, RackSpent, TooLate, ReceiveOnly}
use Rattle.spb_world.specs.Reason.{reason_number, reason_unless}
use Rattle.spb_world.specs.World.{World, things_of, place_of, attached_at}
use Rattle.spb_world.specs.Services.{is_new_isid, is_isid_range, has_service_room, isid_refusal}
use Rattle.spb_world.specs.Attaching.{is_declared_isid, is_customer_port, is_customer_frame, is_attached, is_sending, has_isid_room, attach_refusal, detach_refusal, entry_refusal}
use Rattle.spb_world.specs.Declaring.{has_vid, is_new_vid, is_vid_range, has_vid_room, is_before_bridges, is_new_name, is_new_system, is_new_source, is_bridge_range, has_bridge_room, is_free_port, is_link_range, has_link_room, is_unlinked, vid_refusal, bridge_refusal, link_refusal}
use Rattle.network_model.specs.State.{State, lane_at, kind_at}
use Rattle.spb_world.specs.Links.{is_live}
use Rattle.network_model.specs.Questions.{Question, question_of}
use Rattle.network_model.specs.Restarting.{box_at}
use Rattle.network_model.specs.Refusing.{box_for, asked_refusal, declared_refusal, frame_refusal, round_refusal, drain_refusal, restart_refusal, refusal_of}
use Rattle.spb_world.specs.Naming.{link_refusal_at_found, named_link_refusal, unnamed_refusal, refusal_at_found, down_refusal, up_refusal, metric_refusal, named_attach_refusal, named_detach_refusal, named_entry_refusal, are_declared, path_refusal}
use Rattle.network_model.specs.Holding.{IsNamed, HoldsAt, LacksBoxAt, AsksUnknown, Holds, TheFirstReasonIsGiven}
use Rattle.network_model.proofs.Chains.{chain_said, Said, lowest, refused_for_the_first}
use Rattle.network_model.proofs.Tested.{true-is, false-is, fails, opposes, not-lt, not-le, named, known, unknown, at-is, both-at, taken_vid, wrong_vid, full_of_vids, late, undeclared_vid, undeclared, taken_isid, wrong_isid, full_of_services, undeclared_isid, wrong_port, wrong_entry, full_of_isids, taken_customer_port, free_customer_port, mute_customer_port, taken_name, taken_id, wrong_bridge, full_of_bridges, spent_rack, taken_port, wrong_metric, wrong_link, full_of_links, joined, wrong_count}

-- ---- what names a bridge

unnamed : (H : Reason → Type 0) (w : World) (name : List ℕ) → (¬ IsNamed name w.bridges → H NoSuchName) → (H NoSuchName → ¬ IsNamed name w.bridges) → ((q : Reason) → H q → q ≡ NoSuchName) → Said H (unnamed_refusal w name)
unfolding unnamed_refusal
unnamed H w name from to covers =
    chain_said H 0 ((is_some (place_of name w.bridges), NoSuchName) ∷ [])
    (Decides-like (not (is_some (place_of name w.bridges))) from to (fails (is_some (place_of name w.bridges)) (named name w.bridges)), tt)
    (omega arith, tt) (λ q h. inl (covers q h))

asked : (H : Reason → Type 0) (w : World) (o : Option Question) → (AsksUnknown w o → H NoSuchName) → (H NoSuchName → AsksUnknown w o) → ((q : Reason) → H q → q ≡ NoSuchName) → Said H (asked_refusal w o)
asked H w None from to covers = λ q h. to (subst H (covers q h) h)
asked H w (Some question) from to covers = unnamed H w question.bridge from to covers

-- ---- what names a thing, for which one test is made at its place

placed : {T : Type 0} (H : Reason → Type 0) (entries : List (List ℕ × T)) (name : List ℕ) (test : ℕ → Bool) (r : Reason) → 2 < reason_number r → (¬ IsNamed name entries → H NoSuchName) → (H NoSuchName → ¬ IsNamed name entries) → ((k : ℕ) → place_of name entries ≡ Some k → Decides (not (test k)) (H r)) → ((q : Reason) → H q → (q ≡ NoSuchName) ⊎ (q ≡ r)) → (o : Option ℕ) → place_of name entries ≡ o → Said H (refusal_at_found (λ k. reason_unless (test k) r) o)
placed H entries name test r low from to d covers None at = (from (unknown name entries at), λ q h. lowest q)
placed H entries name test r low from to d covers (Some k) at =
    chain_said H 2 ((test k, r) ∷ []) (d k at, tt) (low, tt) (λ q h. ⊎_elim (λ e. absurd (to (subst H e h) (known name entries k at))) (λ e. inl e) (covers q h))

-- ---- the commands

vid_said : (s : State) (vid ect : ℕ) → Said (Holds s (command.Vid vid ect)) (vid_refusal s.world vid ect)
unfolding vid_refusal
vid_said s vid ect =
    chain_said (Holds s (command.Vid vid ect)) 0
    ((is_new_vid s.world.vids vid, NameTaken) ∷ (is_vid_range vid ect, Range) ∷ (has_vid_room s.world, TooMany) ∷ (is_before_bridges s.world, TooLate) ∷ [])
    (taken_vid s.world vid ect, (wrong_vid vid ect, (full_of_vids s.world, (late s.world, tt))))
    (omega arith, (omega arith, (omega arith, (omega arith, tt))))
    covers
  where
    covers : (q : Reason) → Holds s (command.Vid vid ect) q → (q ≡ NameTaken) ⊎ ((q ≡ Range) ⊎ ((q ≡ TooMany) ⊎ ((q ≡ TooLate) ⊎ ⊥)))
    covers NameTaken h = inl refl
    covers Range h = inr (inl refl)
    covers TooMany h = inr (inr (inl refl))
    covers TooLate h = inr (inr (inr (inl refl)))
    covers _ h = absurd h

isid_said : (s : State) (isid vid : ℕ) → Said (Holds s (command.Isid isid vid)) (isid_refusal s.world isid vid)
unfolding isid_refusal
isid_said s isid vid =
    chain_said (Holds s (command.Isid isid vid)) 0
    ((has_vid s.world.vids vid, NoSuchName) ∷ (is_new_isid s.world.services isid, NameTaken) ∷ (is_isid_range isid, Range) ∷ (has_service_room s.world, TooMany) ∷ [])
    (undeclared_vid s.world vid, (taken_isid s.world isid, (wrong_isid isid, (full_of_services s.world, tt))))
    (omega arith, (omega arith, (omega arith, (omega arith, tt))))
    covers
  where
    covers : (q : Reason) → Holds s (command.Isid isid vid) q → (q ≡ NoSuchName) ⊎ ((q ≡ NameTaken) ⊎ ((q ≡ Range) ⊎ ((q ≡ TooMany) ⊎ ⊥)))
    covers NoSuchName h = inl refl
    covers NameTaken h = inr (inl refl)
    covers Range h = inr (inr (inl refl))
    covers TooMany h = inr (inr (inr (inl refl)))
    covers _ h = absurd h

-- of a customer port, by the place that was found for the name
attach_said_at_found : (s : State) (name : List ℕ) (port isid : ℕ) (mode : Mode) (o : Option ℕ) → place_of name s.world.bridges ≡ o → Said (Holds s (command.Attach name port isid mode)) (refusal_at_found (λ i. attach_refusal s.world i port isid) o)
unfolding attach_refusal
attach_said_at_found s name port isid mode None at = (inl (unknown name s.world.bridges at), λ q h. lowest q)
attach_said_at_found s name port isid mode (Some i) at =
    let w : World = s.world in
    chain_said (Holds s (command.Attach name port isid mode)) 0
    ((is_declared_isid w.services isid, NoSuchName)
    ∷ (is_customer_port port, Range)
    ∷ (has_isid_room (attached_at w i) isid, TooMany)
    ∷ (not (is_attached w.attached i port), Attached)
    ∷ []) (
      Decides-like (not (is_declared_isid w.services isid)) (λ n. inr n) (λ h. ⊎_elim (λ n. absurd (n (known name w.bridges i at))) (λ n. n) h) (undeclared_isid w isid),
      (
        wrong_port port,
        (
          at-is name w.bridges _ i _ at (full_of_isids (attached_at w i) isid),
          (
            at-is name w.bridges _ i _ at (taken_customer_port w i port),
            tt,
          ),
        ),
      ),
    )
    (omega arith, (omega arith, (omega arith, (omega arith, tt))))
    covers
  where
    covers : (q : Reason) → Holds s (command.Attach name port isid mode) q → (q ≡ NoSuchName) ⊎ ((q ≡ Range) ⊎ ((q ≡ TooMany) ⊎ ((q ≡ Attached) ⊎ ⊥)))
    covers NoSuchName h = inl refl
    covers Range h = inr (inl refl)
    covers TooMany h = inr (inr (inl refl))
    covers Attached h = inr (inr (inr (inl refl)))
    covers _ h = absurd h

attach_said : (s : State) (name : List ℕ) (port isid : ℕ) (mode : Mode) → Said (Holds s (command.Attach name port isid mode)) (named_attach_refusal s.world name port isid)
unfolding named_attach_refusal
attach_said s name port isid mode = attach_said_at_found s name port isid mode (place_of name s.world.bridges) refl

detach_said_at_found : (s : State) (name : List ℕ) (port : ℕ) (o : Option ℕ) → place_of name s.world.bridges ≡ o → Said (Holds s (command.Detach name port)) (refusal_at_found (λ i. detach_refusal s.world i port) o)
unfolding detach_refusal
detach_said_at_found s name port None at = (unknown name s.world.bridges at, λ q h. lowest q)
detach_said_at_found s name port (Some i) at =
    chain_said (Holds s (command.Detach name port)) 0
    ((is_customer_port port, Range) ∷ (is_attached s.world.attached i port, NotAttached) ∷ [])
    (wrong_port port, (at-is name s.world.bridges _ i _ at (free_customer_port s.world i port), tt))
    (omega arith, (omega arith, tt))
    covers
  where
    covers : (q : Reason) → Holds s (command.Detach name port) q → (q ≡ Range) ⊎ ((q ≡ NotAttached) ⊎ ⊥)
    covers NoSuchName h = absurd (h (known name s.world.bridges i at))
    covers Range h = inl refl
    covers NotAttached h = inr (inl refl)
    covers _ h = absurd h

detach_said : (s : State) (name : List ℕ) (port : ℕ) → Said (Holds s (command.Detach name port)) (named_detach_refusal s.world name port)
unfolding named_detach_refusal
detach_said s name port = detach_said_at_found s name port (place_of name s.world.bridges) refl

enter_said_at_found : (s : State) (name : List ℕ) (port : ℕ) (bytes : List ℕ) (o : Option ℕ) → place_of name s.world.bridges ≡ o → Said (Holds s (command.Frame name port bytes)) (refusal_at_found (λ i. entry_refusal s.world i port bytes) o)
unfolding entry_refusal
enter_said_at_found s name port bytes None at = (unknown name s.world.bridges at, λ q h. lowest q)
enter_said_at_found s name port bytes (Some i) at =
    chain_said (Holds s (command.Frame name port bytes)) 0
    ((is_customer_port port && is_customer_frame bytes, Range)
    ∷ (is_attached s.world.attached i port, NotAttached)
    ∷ (is_sending s.world.attached i port, ReceiveOnly)
    ∷ []) (
      wrong_entry port bytes,
      (
        at-is name s.world.bridges _ i _ at (free_customer_port s.world i port),
        (
          at-is name s.world.bridges _ i _ at (mute_customer_port s.world i port),
          tt,
        ),
      ),
    )
    (omega arith, (omega arith, (omega arith, tt)))
    covers
  where
    covers : (q : Reason) → Holds s (command.Frame name port bytes) q → (q ≡ Range) ⊎ ((q ≡ NotAttached) ⊎ ((q ≡ ReceiveOnly) ⊎ ⊥))
    covers NoSuchName h = absurd (h (known name s.world.bridges i at))
    covers Range h = inl refl
    covers NotAttached h = inr (inl refl)
    covers ReceiveOnly h = inr (inr (inl refl))
    covers _ h = absurd h

enter_said : (s : State) (name : List ℕ) (port : ℕ) (bytes : List ℕ) → Said (Holds s (command.Frame name port bytes)) (named_entry_refusal s.world name port bytes)
unfolding named_entry_refusal
enter_said s name port bytes = enter_said_at_found s name port bytes (place_of name s.world.bridges) refl

bridge_said : (s : State) (name : List ℕ) (priority : ℕ) (system : Mac) (source : SourceId) (ports : ℕ) → Said (Holds s (command.Bridge name priority system source ports)) (declared_refusal s name priority system source ports)
unfolding declared_refusal bridge_refusal
bridge_said s name priority system source ports =
    chain_said (Holds s (command.Bridge name priority system source ports)) 0
    ((is_new_name name s.world.bridges, NameTaken)
    ∷ (is_new_system system s.world.bridges && is_new_source source s.world.bridges, IdTaken)
    ∷ (is_bridge_range priority system source ports, Range)
    ∷ (has_bridge_room s.world, TooMany)
    ∷ (is_some (box_for s), RackSpent)
    ∷ [])
    (taken_name name s.world.bridges, (taken_id s.world system source, (wrong_bridge priority system source ports, (full_of_bridges s.world, (spent_rack (kind_at s.rule (length s.world.bridges)) s.rack, tt)))))
    (omega arith, (omega arith, (omega arith, (omega arith, (omega arith, tt)))))
    covers
  where
    covers : (q : Reason) → Holds s (command.Bridge name priority system source ports) q → (q ≡ NameTaken) ⊎ ((q ≡ IdTaken) ⊎ ((q ≡ Range) ⊎ ((q ≡ TooMany) ⊎ ((q ≡ RackSpent) ⊎ ⊥))))
    covers NameTaken h = inl refl
    covers IdTaken h = inr (inl refl)
    covers Range h = inr (inr (inl refl))
    covers TooMany h = inr (inr (inr (inl refl)))
    covers RackSpent h = inr (inr (inr (inr (inl refl))))
    covers _ h = absurd h

restart_said : (s : State) (name : List ℕ) → Said (Holds s (command.Restart name)) (restart_refusal s name)
unfolding restart_refusal
restart_said s name =
    placed (Holds s (command.Restart name)) s.world.bridges name (λ i. is_some (box_at s i)) RackSpent (omega arith) (λ n. n) (λ n. n)
    (λ i at. at-is name s.world.bridges (λ j. LacksBoxAt s j) i (not (is_some (box_at s i))) at (spent_rack (kind_at s.rule i) s.rack)) covers (place_of name s.world.bridges) refl
  where
    covers : (q : Reason) → Holds s (command.Restart name) q → (q ≡ NoSuchName) ⊎ (q ≡ RackSpent)
    covers NoSuchName h = inl refl
    covers RackSpent h = inr refl
    covers _ h = absurd h

tick_said : (s : State) (name : List ℕ) → Said (Holds s (command.Tick name)) (unnamed_refusal s.world name)
tick_said s name = unnamed (Holds s (command.Tick name)) s.world name (λ n. n) (λ n. n) covers
  where
    covers : (q : Reason) → Holds s (command.Tick name) q → q ≡ NoSuchName
    covers NoSuchName h = refl
    covers _ h = absurd h

-- of a link, by the places that were found for the names
said_at_found : (s : State) (name a b : List ℕ) (port_a port_b cost : ℕ) (o p : Option ℕ) → place_of a s.world.bridges ≡ o → place_of b s.world.bridges ≡ p → Said (Holds s (command.Link name a port_a b port_b cost)) (link_refusal_at_found s.world name o port_a p port_b cost)
unfolding link_refusal
said_at_found s name a b port_a port_b cost None p at bt = (inl (unknown a s.world.bridges at), λ q h. lowest q)
said_at_found s name a b port_a port_b cost (Some i) None at bt = (inr (unknown b s.world.bridges bt), λ q h. lowest q)
said_at_found s name a b port_a port_b cost (Some i) (Some j) at bt =
    let w : World = s.world in
    chain_said (Holds s (command.Link name a port_a b port_b cost)) 0
    ((is_new_name name w.links, NameTaken)
    ∷ (is_free_port w.links i port_a && is_free_port w.links j port_b, PortUse)
    ∷ (is_link_range w.bridges i port_a j port_b cost, Range)
    ∷ (has_link_room w, TooMany)
    ∷ (is_unlinked w.links i j, AlreadyLinked)
    ∷ []) (
      taken_name name w.links,
      (
        both-at a b w.bridges _ i j _ at bt (taken_port w i port_a j port_b),
        (
          both-at a b w.bridges _ i j _ at bt (wrong_link w.bridges i port_a j port_b cost),
          (
            both-at a b w.bridges _ i j _ at bt (full_of_links w),
            (
              both-at a b w.bridges _ i j _ at bt (joined w i j),
              tt,
            ),
          ),
        ),
      ),
    )
    (omega arith, (omega arith, (omega arith, (omega arith, (omega arith, tt)))))
    covers
  where
    covers : (q : Reason) → Holds s (command.Link name a port_a b port_b cost) q → (q ≡ NameTaken) ⊎ ((q ≡ PortUse) ⊎ ((q ≡ Range) ⊎ ((q ≡ TooMany) ⊎ ((q ≡ AlreadyLinked) ⊎ ⊥))))
    covers NoSuchName h = absurd (⊎_elim (λ n. n (known a s.world.bridges i at)) (λ n. n (known b s.world.bridges j bt)) h)
    covers NameTaken h = inl refl
    covers PortUse h = inr (inl refl)
    covers Range h = inr (inr (inl refl))
    covers TooMany h = inr (inr (inr (inl refl)))
    covers AlreadyLinked h = inr (inr (inr (inr (inl refl))))
    covers _ h = absurd h

link_said : (s : State) (name a b : List ℕ) (port_a port_b cost : ℕ) → Said (Holds s (command.Link name a port_a b port_b cost)) (named_link_refusal s.world name a port_a b port_b cost)
unfolding named_link_refusal
link_said s name a b port_a port_b cost = said_at_found s name a b port_a port_b cost (place_of a s.world.bridges) (place_of b s.world.bridges) refl refl

metric_said : (s : State) (name : List ℕ) (side : Side) (m : ℕ) → Said (Holds s (command.Metric name side m)) (metric_refusal s.world name m)
unfolding metric_refusal
metric_said s name side m = placed (Holds s (command.Metric name side m)) s.world.links name (λ k. nat_le 1 m && nat_le m 16777214) Range (omega arith) (λ n. n) (λ n. n) (λ k at. wrong_metric m) covers (place_of name s.world.links) refl
  where
    covers : (q : Reason) → Holds s (command.Metric name side m) q → (q ≡ NoSuchName) ⊎ (q ≡ Range)
    covers NoSuchName h = inl refl
    covers Range h = inr refl
    covers _ h = absurd h

down_said : (s : State) (name : List ℕ) → Said (Holds s (command.Down name)) (down_refusal s.world name)
unfolding down_refusal
down_said s name = placed (Holds s (command.Down name)) s.world.links name (λ k. is_live (things_of s.world.links) k) AlreadyDown (omega arith) (λ n. n) (λ n. n) (λ k at. at-is name s.world.links _ k _ at (false-is (is_live (things_of s.world.links) k))) covers (place_of name s.world.links) refl
  where
    covers : (q : Reason) → Holds s (command.Down name) q → (q ≡ NoSuchName) ⊎ (q ≡ AlreadyDown)
    covers NoSuchName h = inl refl
    covers AlreadyDown h = inr refl
    covers _ h = absurd h

up_said : (s : State) (name : List ℕ) → Said (Holds s (command.Up name)) (up_refusal s.world name)
unfolding up_refusal
up_said s name = placed (Holds s (command.Up name)) s.world.links name (λ k. not (is_live (things_of s.world.links) k)) AlreadyUp (omega arith) (λ n. n) (λ n. n) (λ k at. at-is name s.world.links _ k _ at (opposes (is_live (things_of s.world.links) k) (true-is (is_live (things_of s.world.links) k)))) covers (place_of name s.world.links) refl
  where
    covers : (q : Reason) → Holds s (command.Up name) q → (q ≡ NoSuchName) ⊎ (q ≡ AlreadyUp)
    covers NoSuchName h = inl refl
    covers AlreadyUp h = inr refl
    covers _ h = absurd h

-- of what names a frame
frame_said : (H : Reason → Type 0) (s : State) (name : List ℕ) (dir : Dir) (place : ℕ) → (¬ IsNamed name s.world.links → H NoSuchName) → (H NoSuchName → ¬ IsNamed name s.world.links) → ((k : ℕ) → place_of name s.world.links ≡ Some k → Decides (not (nat_lt place (length (lane_at s k dir)))) (H NoFrame)) → ((q : Reason) → H q → (q ≡ NoSuchName) ⊎ (q ≡ NoFrame)) → Said H (frame_refusal s name dir place)
unfolding frame_refusal
frame_said H s name dir place from to d covers = placed H s.world.links name (λ k. nat_lt place (length (lane_at s k dir))) NoFrame (omega arith) from to d covers (place_of name s.world.links) refl

lacking : (s : State) (name : List ℕ) (dir : Dir) (place k : ℕ) → place_of name s.world.links ≡ Some k → Decides (not (nat_lt place (length (lane_at s k dir)))) (HoldsAt name s.world.links (λ j. length (lane_at s j dir) ≤ place))
lacking s name dir place k at = at-is name s.world.links _ k _ at (not-lt place (length (lane_at s k dir)))

deliver_said : (s : State) (name : List ℕ) (dir : Dir) → Said (Holds s (command.Deliver name dir)) (frame_refusal s name dir 0)
deliver_said s name dir = frame_said (Holds s (command.Deliver name dir)) s name dir 0 (λ n. n) (λ n. n) (λ k at. lacking s name dir 0 k at) covers
  where
    covers : (q : Reason) → Holds s (command.Deliver name dir) q → (q ≡ NoSuchName) ⊎ (q ≡ NoFrame)
    covers NoSuchName h = inl refl
    covers NoFrame h = inr refl
    covers _ h = absurd h

lose_said : (s : State) (name : List ℕ) (dir : Dir) (place : ℕ) → Said (Holds s (command.Lose name dir place)) (frame_refusal s name dir place)
lose_said s name dir place = frame_said (Holds s (command.Lose name dir place)) s name dir place (λ n. n) (λ n. n) (λ k at. lacking s name dir place k at) covers
  where
    covers : (q : Reason) → Holds s (command.Lose name dir place) q → (q ≡ NoSuchName) ⊎ (q ≡ NoFrame)
    covers NoSuchName h = inl refl
    covers NoFrame h = inr refl
    covers _ h = absurd h

double_said : (s : State) (name : List ℕ) (dir : Dir) (place : ℕ) → Said (Holds s (command.Double name dir place)) (frame_refusal s name dir place)
double_said s name dir place = frame_said (Holds s (command.Double name dir place)) s name dir place (λ n. n) (λ n. n) (λ k at. lacking s name dir place k at) covers
  where
    covers : (q : Reason) → Holds s (command.Double name dir place) q → (q ≡ NoSuchName) ⊎ (q ≡ NoFrame)
    covers NoSuchName h = inl refl
    covers NoFrame h = inr refl
    covers _ h = absurd h

round_said : (s : State) (n : ℕ) → Said (Holds s (command.Round n)) (round_refusal s n)
unfolding round_refusal
round_said s n =
    chain_said (Holds s (command.Round n)) 0
    ((nat_le 1 n && nat_le n 20000, Range) ∷ (nat_le (s.rounds + n) 20000, TooMany) ∷ [])
    (wrong_count n 20000, (not-le (s.rounds + n) 20000, tt)) (omega arith, (omega arith, tt)) covers
  where
    covers : (q : Reason) → Holds s (command.Round n) q → (q ≡ Range) ⊎ ((q ≡ TooMany) ⊎ ⊥)
    covers Range h = inl refl
    covers TooMany h = inr (inl refl)
    covers _ h = absurd h

drain_said : (s : State) (n : ℕ) → Said (Holds s (command.Drain n)) (drain_refusal s n)
unfolding drain_refusal
drain_said s n =
    chain_said (Holds s (command.Drain n)) 0
    ((nat_le 1 n && nat_le n 1000000, Range) ∷ (nat_le (s.drained + n) 100000000, TooMany) ∷ [])
    (wrong_count n 1000000, (not-le (s.drained + n) 100000000, tt)) (omega arith, (omega arith, tt)) covers
  where
    covers : (q : Reason) → Holds s (command.Drain n) q → (q ≡ Range) ⊎ ((q ≡ TooMany) ⊎ ⊥)
    covers Range h = inl refl
    covers TooMany h = inr (inl refl)
    covers _ h = absurd h

path_said : (s : State) (from to : List ℕ) (vid : ℕ) → Said (Holds s (command.Path from to vid)) (path_refusal s.world from to vid)
unfolding path_refusal
path_said s from to vid =
    chain_said (Holds s (command.Path from to vid)) 0 ((are_declared s.world from to vid, NoSuchName) ∷ [])
    (undeclared s.world from to vid, tt) (omega arith, tt) covers
  where
    covers : (q : Reason) → Holds s (command.Path from to vid) q → (q ≡ NoSuchName) ⊎ ⊥
    covers NoSuchName h = inl refl
    covers _ h = absurd h

said : (s : State) (c : Command) → Said (Holds s c) (refusal_of s c)
said s (command.Vid vid ect) = vid_said s vid ect
said s (command.Bridge name priority system source ports) = bridge_said s name priority system source ports
said s (command.Link name a port_a b port_b cost) = link_said s name a b port_a port_b cost
said s (command.Isid isid vid) = isid_said s isid vid
said s (command.Attach name port isid mode) = attach_said s name port isid mode
said s (command.Detach name port) = detach_said s name port
said s (command.Frame name port bytes) = enter_said s name port bytes
said s (command.Metric name side m) = metric_said s name side m
said s (command.Down name) = down_said s name
said s (command.Up name) = up_said s name
said s (command.Restart name) = restart_said s name
said s (command.Tick name) = tick_said s name
said s (command.Deliver name dir) = deliver_said s name dir
said s (command.Lose name dir place) = lose_said s name dir place
said s (command.Double name dir place) = double_said s name dir place
said s (command.Round n) = round_said s n
said s (command.Drain n) = drain_said s n
said s (command.Path from to vid) = path_said s from to vid
said s c = asked (Holds s c) s.world (question_of c) (λ h. h) (λ h. h) (λ q. elim q as (λ p. Holds s c p → p ≡ NoSuchName) [
  | NoSuchName ↦ λ h. refl
  | NameTaken ↦ λ h. absurd h
  | IdTaken ↦ λ h. absurd h
  | PortUse ↦ λ h. absurd h
  | Range ↦ λ h. absurd h
  | TooMany ↦ λ h. absurd h
  | AlreadyLinked ↦ λ h. absurd h
  | AlreadyUp ↦ λ h. absurd h
  | AlreadyDown ↦ λ h. absurd h
  | Attached ↦ λ h. absurd h
  | NotAttached ↦ λ h. absurd h
  | NoFrame ↦ λ h. absurd h
  | RackSpent ↦ λ h. absurd h
  | TooLate ↦ λ h. absurd h
  | ReceiveOnly ↦ λ h. absurd h
])

pub the_first_reason_is_given : TheFirstReasonIsGiven
the_first_reason_is_given s c = refused_for_the_first s c (said s c)

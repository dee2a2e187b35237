-- What the trees of all sources give is what leads on.
use Rattle.std.specs.Prelude.{ℕ, zero, suc, ◌≡◌, ◌≤◌, ◌==◌, Bool, true, ◌&&◌, List, [], ◌∷◌, ◌++◌, map, Option, Some, None, IsSome, slice_get, Result, Ok, Err, OnOk}
use Rattle.std.specs.List.{list_any}
use Rattle.std.specs.BTreeMap.{BTreeMap, IsOrdered}
use Rattle.std.proofs.Common.{refl, sym, ap, ◌∙◌, subst, inl, inr, true≢false, eq-eqb, eqb-true}
use Rattle.std.proofs.lemmas.Bool.{and_parts}
use Rattle.std.proofs.lemmas.Slice.Eq.{bytes_eq-Decides}
use Rattle.spb_types.specs.Address.{same_system, group_address}
use Rattle.spb_types.specs.Ect.{mask_of}
use Rattle.spb_types.specs.Graph.{IsAmong, IsBridge, IsValid, IsValidFor, ArePorts, systems_of}
use Rattle.spb_types.specs.Ports.{has}
use Rattle.spb_types.specs.declared.address.Mac.{Mac}
use Rattle.spb_types.specs.declared.address.SystemId.{SystemId}
use Rattle.spb_types.specs.declared.graph.Graph.{Graph}
use Rattle.spb_types.specs.declared.graph.GraphBridge.{GraphBridge}
use Rattle.spb_types.specs.declared.graph.Member.{Member}
use Rattle.spb_types.specs.declared.ports.PortSet.{PortSet}
use Rattle.spb_types.specs.declared.service.Isid.{Isid}
use Rattle.spb_types.specs.declared.service.Vid.{Vid}
use Rattle.spb_types.specs.declared.service.VidPlan.{VidPlan}
use Rattle.ect_trees.proofs.Among.{same_is, same_self}
use Rattle.ect_trees.proofs.Extended.{at_same}
use Rattle.ect_trees.proofs.Steps.{best_to_itself}
use Rattle.ect_trees.proofs.Members.{Has, has_from_contains, contains_from_has}
use Rattle.ect_trees.proofs.Places.{place_found, found_place}
use Rattle.ect_trees.proofs.Walks.{path_bridges, path_start}
use Rattle.spb_types.specs.declared.tables.GroupRow.{GroupRow}
use Rattle.fdb_build.specs.Tables.{mac_cmp}
use Rattle.fdb_build.specs.Groups.{Follows, LeadsOn, is_member, sends_in, leads_on, port_after, group_rows_of_vid}
use Rattle.fdb_build.specs.Making.{port_set, set_at, is_towards, isid_cmp, list_at, sent_by, same_isid, same_place, place_of, is_at, is_member_at, AreServicesOf, sets_from, same_mac, is_from, is_from_some, Grew, row_of}
use Rattle.fdb_build.specs.declared.services.Services.{Services}
use Rattle.fdb_build.proofs.AscendLemmas.{All-has}
use Rattle.fdb_build.proofs.GroupTests.{any_has, has_any, sends_is, is_sends, after_onward, onward_after, test_leads, leads_test, both}
use Rattle.fdb_build.proofs.PortSets.{same_truth}
use Rattle.fdb_build.proofs.RowLemmas.{port_among-le, port_among-low}
use Rattle.fdb_build.proofs.GrowLemmas.{grown, rows_are}
use Rattle.fdb_build.proofs.SetLemmas.{has_set, set_has}

-- the set at the place of a bridge
set_there : (f : SystemId → PortSet) (bs : List GraphBridge) (place : ℕ) (x : SystemId) → slice_get (systems_of bs) place ≡ Some x → set_at (map (λ (b : GraphBridge). f b.id.system) bs) place ≡ f x
set_there f [] place x h = cc
set_there f (b ∷ bs) zero x h = let same : b.id.system ≡ x = cc in ap f same
set_there f (b ∷ bs) (suc place) x h = set_there f bs place x h

-- nothing follows on the way from a bridge to itself
none_follows : (g : Graph) (mask : ℕ) (s m c : SystemId) → Follows g mask s s m c → ⊥
none_follows g mask s m c f = by f.before ((best_to_itself g mask s (f.before ++ m ∷ c ∷ f.after) start).0 f.best)
  where
    start : IsBridge g s
    start = path_bridges g s s s (f.before ++ m ∷ c ∷ f.after) f.best.path (path_start g s s (f.before ++ m ∷ c ∷ f.after) f.best.path)

    by : (l : List SystemId) → (l ++ m ∷ c ∷ f.after) ≡ (s ∷ []) → ⊥
    by [] e = cc
    by (x ∷ []) e = cc
    by (x ∷ y ∷ l) e = cc

at_is : (place : ℕ) (o : Option ℕ) → is_at place o ≡ true → o ≡ Some place
at_is place None h = absurd (true≢false (sym h))
at_is place (Some p) h = ap Some (eqb-true p place h)

-- a bridge's system is among those of the bridges
bridge_among : (bs : List GraphBridge) (b : GraphBridge) → Has b bs → IsAmong b.id.system (systems_of bs)
bridge_among [] b h = absurd h
bridge_among (c ∷ bs) b (inl e) = inl (ap (λ (t : GraphBridge). t.id.system) e)
bridge_among (c ∷ bs) b (inr h) = inr (bridge_among bs b h)

module _ (g : Graph) (me : SystemId) (plan : VidPlan) (s : Services) (valid : IsValid g) (ports : ArePorts g.edges me) (services : AreServicesOf g g.members plan.vid s) where
  range : (mask : ℕ) (x r : SystemId) (p : ℕ) → port_after g mask x r me ≡ Some p → (1 ≤ p) × (p ≤ 32)
  range mask x r p e =
      let on = after_onward g mask x r me p valid e in
      (port_among-low g.edges me on.next p ports (sym on.leads), port_among-le g.edges me on.next p ports (sym on.leads))

  -- a bridge of the graph stands at a place
  stands : (b : GraphBridge) → Has b g.bridges → (place : ℕ) × (place_of g b.id.system ≡ Some place)
  stands b h = by (place_of g b.id.system) refl (place_found g b.id.system (bridge_among g.bridges b h))
    where
      by : (o : Option ℕ) → place_of g b.id.system ≡ o → IsSome o → (place : ℕ) × (place_of g b.id.system ≡ Some place)
      by None e i = cc
      by (Some i) e k = (i, e)

  -- the list at its place has what it sends to
  sends_by : (x : SystemId) (place : ℕ) (isid : Isid) → place_of g x ≡ Some place → list_any (same_isid isid) (sent_by s (place_of g x)) ≡ sends_in g isid plan.vid x
  sends_by x place isid e = ap (λ o. list_any (same_isid isid) (sent_by s o)) e ∙ (services.sends isid place ∙ ap (λ (t : Member → Bool). list_any t g.members) (λ i m. each m i && m.transmit))
    where
      it : (m : Member) → is_at place (place_of g m.system) ≡ true → same_system m.system x ≡ true
      it m h = subst (λ t. same_system m.system t ≡ true) (at_same g place m.system x (found_place g m.system place (at_is place (place_of g m.system) h)) (found_place g x place e)) (same_self m.system)

      there : (m : Member) → same_system m.system x ≡ true → is_at place (place_of g m.system) ≡ true
      there m h = ap (is_at place) (ap (place_of g) (same_is m.system x h) ∙ e) ∙ eq-eqb place place refl

      each : (m : Member) → is_member_at g isid plan.vid place m ≡ is_member isid plan.vid x m
      each m = ap (λ t. t && ((m.isid.value == isid.value) && (m.vid.value == plan.vid.value))) (same_truth (is_at place (place_of g m.system)) (same_system m.system x) (it m) (there m))

  -- what a source sends to by way of a set
  record Found (b : GraphBridge) (isid : Isid) (p : ℕ) : Type 0 where
    member : Member
    here : Has member g.members
    service : member.isid.value ≡ isid.value
    base : member.vid.value ≡ plan.vid.value
    takes : member.receive ≡ true
    after : port_after g (mask_of plan.ect) b.id.system member.system me ≡ Some p

  towards_found : (b : GraphBridge) (isid : Isid) (p : ℕ) → is_towards (sets_from g me plan b.id.system) (list_at isid_cmp s.receivers isid) p ≡ true → Found b isid p
  towards_found b isid p h =
      let sets : List PortSet = sets_from g me plan b.id.system in
      let one = any_has (λ place. has (set_at sets place) p) (list_at isid_cmp s.receivers isid) h in
      let listed : list_any (same_place one.0) (list_at isid_cmp s.receivers isid) ≡ true = has_any (same_place one.0) one.0 (list_at isid_cmp s.receivers isid) one.1 (eq-eqb one.0 one.0 refl) in
      let m = any_has (λ n. is_member_at g isid plan.vid one.0 n && n.receive) g.members (sym (services.receives isid one.0) ∙ listed) in
      let member : Member = m.0 in
      let flagged = and_parts (is_member_at g isid plan.vid one.0 member) member.receive m.2 in
      let parts = and_parts (is_at one.0 (place_of g member.system)) _ flagged.0 in
      let names = and_parts (member.isid.value == isid.value) (member.vid.value == plan.vid.value) parts.1 in
      let f : SystemId → PortSet = λ r. port_set (port_after g (mask_of plan.ect) b.id.system r me) in
      let set : set_at sets one.0 ≡ f member.system = set_there f g.bridges one.0 member.system (found_place g member.system one.0 (at_is one.0 (place_of g member.system) parts.0)) in
      record {
        member = member;
        here = m.1;
        service = eqb-true member.isid.value isid.value names.0;
        base = eqb-true member.vid.value plan.vid.value names.1;
        takes = flagged.1;
        after = set_has (port_after g (mask_of plan.ect) b.id.system member.system me) p (range (mask_of plan.ect) b.id.system member.system) (ap (λ (t : PortSet). has t p) (sym set) ∙ one.2);
      }

  there : (q : Mac) (p : ℕ) → is_from_some g me plan s g.bridges q p ≡ true → LeadsOn g me plan q p
  there q p h =
      let source = any_has (λ b. is_from s b (sets_from g me plan b.id.system) (sent_by s (place_of g b.id.system)) q p) g.bridges h in
      let b : GraphBridge = source.0 in
      let service = any_has (λ isid. same_mac q (group_address b.source.value isid.value) && is_towards (sets_from g me plan b.id.system) (list_at isid_cmp s.receivers isid) p) (sent_by s (place_of g b.id.system)) source.2 in
      let isid : Isid = service.0 in
      let parts = and_parts (same_mac q (group_address b.source.value isid.value)) _ service.2 in
      let sends : sends_in g isid plan.vid b.id.system ≡ true = sym (sends_by b.id.system (stands b source.1).0 isid (stands b source.1).1) ∙ has_any (same_isid isid) isid (sent_by s (place_of g b.id.system)) service.1 (eq-eqb isid.value isid.value refl) in
      let f = towards_found b isid p parts.1 in
      let on = after_onward g (mask_of plan.ect) b.id.system f.member.system me p valid f.after in
      let bytes : q.bytes ≡ (group_address b.source.value isid.value).bytes = (bytes_eq-Decides _ _).0 parts.0 in
      record {
        source = b;
        isid = isid;
        next = on.next;
        bridge = contains_from_has g.bridges b source.1;
        address = λ i. record { bytes = bytes i };
        sends = sends_is g isid plan.vid b.id.system sends;
        serves = record {
          receiver = f.member.system;
          other = λ e. none_follows g (mask_of plan.ect) b.id.system me on.next (subst (λ r. Follows g (mask_of plan.ect) b.id.system r me on.next) e on.follows);
          takes = record {
            member = f.member;
            there = contains_from_has g.members f.member f.here;
            of_system = refl;
            in_service = λ i. record { value = f.service i };
            in_vid = λ i. record { value = f.base i };
            receives = f.takes;
          };
          follows = on.follows;
        };
        port_is = on.leads;
      }

  back : (q : Mac) (p : ℕ) → LeadsOn g me plan q p → is_from_some g me plan s g.bridges q p ≡ true
  back q p l =
      has_any (λ c. is_from s c (sets_from g me plan c.id.system) (sent_by s (place_of g c.id.system)) q p) b g.bridges (has_from_contains g.bridges b l.bridge)
      (has_any (λ isid. same_mac q (group_address b.source.value isid.value) && is_towards sets (list_at isid_cmp s.receivers isid) p) l.isid (sent_by s (place_of g x)) sent
      (both _ _ ((bytes_eq-Decides _ _).1 (ap (λ (a : Mac). a.bytes) l.address))
      (has_any (λ place. has (set_at sets place) p) place (list_at isid_cmp s.receivers l.isid) received
      (ap (λ (t : PortSet). has t p) set ∙ has_set (port_after g mask x r me) p after (range mask x r p after).0 (range mask x r p after).1))))
    where
      b : GraphBridge
      b = l.source

      x : SystemId
      x = l.source.id.system

      r : SystemId
      r = l.serves.receiver

      mask : ℕ
      mask = mask_of plan.ect

      sets : List PortSet
      sets = sets_from g me plan l.source.id.system

      after : port_after g (mask_of plan.ect) l.source.id.system l.serves.receiver me ≡ Some p
      after = onward_after g (mask_of plan.ect) l.source.id.system l.serves.receiver me p valid (record { next = l.next; follows = l.serves.follows; leads = l.port_is })

      here_is : Has l.source g.bridges
      here_is = has_from_contains g.bridges l.source l.bridge

      sent : Has l.isid (sent_by s (place_of g l.source.id.system))
      sent =
          let one = any_has (same_isid l.isid) (sent_by s (place_of g l.source.id.system)) (sends_by x (stands b here_is).0 l.isid (stands b here_is).1 ∙ is_sends g l.isid plan.vid l.source.id.system l.sends) in
          let value : one.0.value ≡ l.isid.value = eqb-true one.0.value l.isid.value one.2 in
          let same : one.0 ≡ l.isid = λ i. record { value = value i } in
          subst (λ i. Has i (sent_by s (place_of g l.source.id.system))) same one.1

      m : Member
      m = l.serves.takes.member

      here : Has m g.members
      here = has_from_contains g.members m l.serves.takes.there

      at : (place : ℕ) × (place_of g l.serves.receiver ≡ Some place)
      at = by (place_of g l.serves.receiver) refl (place_found g l.serves.receiver (subst (IsBridge g) l.serves.takes.of_system (All-has (λ (n : Member). IsBridge g n.system) g.members valid.members m here)))
        where
          by : (o : Option ℕ) → place_of g l.serves.receiver ≡ o → IsSome o → (place : ℕ) × (place_of g l.serves.receiver ≡ Some place)
          by None e h = cc
          by (Some i) e h = (i, e)

      place : ℕ
      place = at.0

      received : Has at.0 (list_at isid_cmp s.receivers l.isid)
      received =
          let service : m.isid.value ≡ l.isid.value = ap (λ (i : Isid). i.value) l.serves.takes.in_service in
          let base : m.vid.value ≡ plan.vid.value = ap (λ (v : Vid). v.value) l.serves.takes.in_vid in
          let stands : is_member_at g l.isid plan.vid at.0 m ≡ true = both _ _ (ap (is_at at.0) (ap (place_of g) l.serves.takes.of_system ∙ at.1) ∙ eq-eqb at.0 at.0 refl) (both _ _ (eq-eqb m.isid.value l.isid.value service) (eq-eqb m.vid.value plan.vid.value base)) in
          let one = any_has (same_place at.0) (list_at isid_cmp s.receivers l.isid) (services.receives l.isid at.0 ∙ has_any (λ n. is_member_at g l.isid plan.vid at.0 n && n.receive) m g.members here (both _ _ stands l.serves.takes.receives)) in
          subst (λ i. Has i (list_at isid_cmp s.receivers l.isid)) (eqb-true one.0 at.0 one.2) one.1

      set : set_at sets at.0 ≡ port_set (port_after g (mask_of plan.ect) l.source.id.system l.serves.receiver me)
      set = set_there (λ z. port_set (port_after g (mask_of plan.ect) l.source.id.system z me)) g.bridges at.0 l.serves.receiver (found_place g l.serves.receiver at.0 at.1)

  -- the same test
  pub from_same : (q : Mac) (p : ℕ) → is_from_some g me plan s g.bridges q p ≡ leads_on g me plan q p
  from_same q p = same_truth (is_from_some g me plan s g.bridges q p) (leads_on g me plan q p)
      (λ h. leads_test g me plan q p valid (there q p h))
      (λ h. back q p (test_leads g me plan q p valid h))

-- the rows of a VID, once they are put behind others
pub pushed : {T E : Type 0} (g : Graph) (me : SystemId) (plan : VidPlan) (s : Services) (none m : BTreeMap Mac PortSet) (old new : List GroupRow) (r : Result T E)
    → IsValidFor g me → AreServicesOf g g.members plan.vid s → none.entries ≡ [] → Grew none m (is_from_some g me plan s g.bridges)
    → OnOk r (new ≡ old ++ map (row_of plan.vid) m.entries) → OnOk r (IsOrdered mac_cmp m) → OnOk r (new ≡ old ++ group_rows_of_vid g me plan)
pushed g me plan s none m old new (Ok x) valid services empty grew rows ordered =
    let done = grown none m (is_from_some g me plan s g.bridges) empty grew in
    rows ∙ ap (λ t. old ++ t) (rows_are g me plan m valid.valid valid.ports ordered done.0 (λ q p. done.1 q p ∙ from_same g me plan s valid.valid valid.ports services q p))
pushed g me plan s none m old new (Err e) valid services empty grew rows ordered = rows

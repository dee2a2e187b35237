-- A bridge that the graph doesn't have has no rows, and where the graph has no members no bridge has group rows.
use Rattle.std.specs.Prelude.{ℕ, ◌≡◌, ◌==◌, length, true, List, [], ◌∷◌, ◌++◌, map, Option, Some, None, IsSome, option_map, option_and_then, slice_get, position}
use Rattle.std.specs.List.{filter_map, cons_option, flat_map}
use Rattle.std.proofs.Common.{refl, sym, ap, ◌∙◌, subst, inl, true≢false, eqb-true, arith}
use Rattle.spb_types.specs.Address.{same_system, group_address}
use Rattle.spb_types.specs.Ect.{mask_of}
use Rattle.spb_types.specs.Graph.{IsBridge, IsValid, systems_of, port_between}
use Rattle.spb_types.specs.declared.address.SystemId.{SystemId}
use Rattle.spb_types.specs.declared.graph.Graph.{Graph}
use Rattle.spb_types.specs.declared.graph.GraphBridge.{GraphBridge}
use Rattle.spb_types.specs.declared.graph.Member.{Member}
use Rattle.spb_types.specs.declared.service.VidPlan.{VidPlan}
use Rattle.ect_trees.specs.Best.{best_of}
use Rattle.ect_trees.proofs.Among.{among_right}
use Rattle.ect_trees.proofs.Exists.{best_of_some}
use Rattle.ect_trees.proofs.Members.{has_from_contains}
use Rattle.ect_trees.proofs.Places.{place_found}
use Rattle.ect_trees.proofs.Walks.{path_bridges, path_start}
use Rattle.fdb_build.specs.Tables.{unicast_row, rows_of_vid, unicast_rows, ascending_by, mac_cmp, system_cmp, vid_cmp}
use Rattle.fdb_build.specs.Groups.{ListPorts, each_once, group_row, group_rows_of_vid, group_rows}
use Rattle.fdb_build.specs.declared.layout.Planned.{Planned}
use Rattle.fdb_build.proofs.GroupLemmas.{IsPortIn, rows_one, vid_table}

filter_map_none : {X Y : Type 0} (h : X → Option Y) (xs : List X) → ((x : X) → h x ≡ None) → filter_map h xs ≡ []
filter_map_none h [] none = refl
filter_map_none h (x ∷ xs) none = ap (λ o. cons_option o (filter_map h xs)) (none x) ∙ filter_map_none h xs none

flat_map_none : {X Y : Type 0} (f : X → List Y) (xs : List X) → ((x : X) → f x ≡ []) → flat_map f xs ≡ []
flat_map_none f [] none = refl
flat_map_none f (x ∷ xs) none = ap (λ l. l ++ flat_map f xs) (none x) ∙ flat_map_none f xs none

-- a list that counts none
pub nothing : {X : Type 0} (xs : List X) → (length xs == 0) ≡ true → xs ≡ []
nothing [] e = refl
nothing (x ∷ xs) e = let long = eqb-true (length (x ∷ xs)) 0 e in absurd (omega (arith, long))

no_addresses : (members : List Member) (bs : List GraphBridge) → members ≡ [] → flat_map (λ (b : GraphBridge). map (λ (m : Member). group_address b.source.value m.isid.value) members) bs ≡ []
no_addresses members bs none = flat_map_none (λ (b : GraphBridge). map (λ (m : Member). group_address b.source.value m.isid.value) members) bs (λ b. ap (map (λ (m : Member). group_address b.source.value m.isid.value)) none)

pub no_member_rows : (g : Graph) (me : SystemId) (plans : List Planned) → g.members ≡ [] → flat_map (λ (p : Planned). group_rows_of_vid g me p.plan) plans ≡ []
no_member_rows g me plans none = flat_map_none (λ (p : Planned). group_rows_of_vid g me p.plan) plans (λ p. ap (λ l. filter_map (group_row g me p.plan) (each_once mac_cmp l)) (no_addresses g.members g.bridges none))

module _ (g : Graph) (me : SystemId) (valid : IsValid g) (none : position (λ b. same_system b.id.system me) g.bridges ≡ None) where
  no_bridge : IsBridge g me → ⊥
  no_bridge h = true≢false (sym (subst (λ o. IsSome o) none (place_found g me h)))

  no_row : (plan : VidPlan) (d : SystemId) → unicast_row g me plan d ≡ None
  no_row plan d = by (best_of g (mask_of plan.ect) me d) refl
    where
      by : (o : Option (List SystemId)) → best_of g (mask_of plan.ect) me d ≡ o → unicast_row g me plan d ≡ None
      by None e = ap (λ (o : Option (List SystemId)). option_map (λ (port : ℕ). record { vid = plan.vid; mac = d.mac; port = port }) (option_and_then (λ next. port_between g me next) (option_and_then (λ path. slice_get path 1) o))) e
      by (Some p) e =
          let path = ((best_of_some g (mask_of plan.ect) me d p valid).0 e).path in
          absurd (no_bridge (path_bridges g me d me p path (path_start g me d p path)))

  no_ports_listed : (plan : VidPlan) → ListPorts (IsPortIn g me plan) []
  no_ports_listed plan = record {
    ports = λ r c p. absurd (has_from_contains [] r c);
    some = λ r c. absurd (has_from_contains [] r c);
    all = λ vid mac p h. (let f = h.leads.serves.follows in absurd (no_bridge (path_bridges g h.leads.source.id.system h.leads.serves.receiver me (f.before ++ me ∷ h.leads.next ∷ f.after) f.best.path (among_right me f.before (me ∷ h.leads.next ∷ f.after) (inl refl)))));
    small = λ r c. absurd (has_from_contains [] r c);
    ascends = tt;
  }

  no_groups : (plan : VidPlan) → group_rows_of_vid g me plan ≡ []
  no_groups plan = sym (rows_one (IsPortIn g me plan) (IsPortIn g me plan) (λ vid mac p h. h) (λ vid mac p h. h) [] (group_rows_of_vid g me plan) (no_ports_listed plan) (vid_table g me plan valid))

  pub no_unicast_rows : (vids : List VidPlan) → [] ≡ unicast_rows g me vids
  unfolding unicast_rows
  no_unicast_rows vids = sym (flat_map_none (rows_of_vid g me) (ascending_by vid_cmp vids) (λ plan. filter_map_none (unicast_row g me plan) (ascending_by system_cmp (systems_of g.bridges)) (no_row plan)))

  pub no_group_rows : (vids : List VidPlan) → [] ≡ group_rows g me vids
  unfolding group_rows
  no_group_rows vids = sym (flat_map_none (group_rows_of_vid g me) (ascending_by vid_cmp vids) no_groups)

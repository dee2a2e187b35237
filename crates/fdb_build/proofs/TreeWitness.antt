-- A service in a line of three bridges: what the first sends passes the second on its way to the third.
use Rattle.std.specs.Prelude.{ℕ, ◌≡◌, ◌≢◌, ◌⊎◌, ◌≤◌, true, false, List, [], ◌∷◌, IsSome}
use Rattle.std.proofs.Common.{refl, sym, ap, ◌∙◌, subst, inl, inr, arith, get_or}
use Rattle.spb_types.specs.Graph.{IsBridge, IsValid, IsValidFor, cost_between}
use Rattle.spb_types.specs.declared.address.SystemId.{SystemId}
use Rattle.spb_types.specs.declared.graph.Edge.{Edge}
use Rattle.spb_types.specs.declared.graph.Graph.{Graph}
use Rattle.spb_types.specs.declared.graph.GraphBridge.{GraphBridge}
use Rattle.spb_types.specs.declared.graph.Member.{Member}
use Rattle.spb_types.specs.declared.limits.TheConstants.{GREATEST_ISID}
use Rattle.spb_types.specs.declared.service.Isid.{Isid}
use Rattle.spb_types.specs.declared.service.VidPlan.{VidPlan}
use Rattle.ect_trees.specs.Laws.{IsReached}
use Rattle.ect_trees.proofs.Members.{Has, has_from_contains, contains_from_has}
use Rattle.fdb_build.specs.Groups.{Receives}
use Rattle.fdb_build.specs.GroupTrees.{IsService, FollowsOnTree, LeadsDown, SomeServiceHasTransit}
use Rattle.fdb_build.proofs.OnePathLemmas.{path_joined}
use Rattle.fdb_build.proofs.TreeLemmas.{receivers_are_on_tree}

abbrev system : ℕ → SystemId
system n = record { mac = record { bytes = n ∷ [] } }

abbrev bridge : ℕ → GraphBridge
bridge n = record { id = record { priority = 0; system = system n }; source = record { value = n } }

abbrev link : ℕ → ℕ → ℕ → ℕ → Edge
link m p n q = record { a = system m; port_a = p; b = system n; port_b = q; cost = 10 }

abbrev service : Isid
service = record { value = 5 }

abbrev plan : VidPlan
plan = record { vid = record { value = 10 }; ect = 1 }

-- the first bridge of the line sends, and the third receives
abbrev sender : Member
sender = record { system = system 1; isid = service; vid = plan.vid; transmit = true; receive = false }

abbrev receiver : Member
receiver = record { system = system 3; isid = service; vid = plan.vid; transmit = false; receive = true }

abbrev line : Graph
line = record {
  bridges = bridge 1 ∷ bridge 2 ∷ bridge 3 ∷ [];
  edges = link 1 1 2 1 ∷ link 2 2 3 1 ∷ [];
  members = sender ∷ receiver ∷ [];
}

number : SystemId → ℕ
number x = get_or x.mac.bytes 0 0

apart : (m n : ℕ) → system m ≡ system n → m ≡ n
unfolding number
apart m n e = ap number e

line_valid : IsValid line
line_valid = record {
  few = omega arith;
  apart = (
    (λ i. elim i [ inl e ↦ absurd (omega (arith, apart 1 2 e)) | inr (inl e) ↦ absurd (omega (arith, apart 1 3 e)) | inr (inr k) ↦ k ]),
    ((λ i. elim i [ inl e ↦ absurd (omega (arith, apart 2 3 e)) | inr k ↦ k ]), ((λ i. i), tt)),
  );
  edges = (
    record { from = inl refl; to = inr (inl refl); apart = refl; low = omega arith; high = omega arith },
    (record { from = inr (inl refl); to = inr (inr (inl refl)); apart = refl; low = omega arith; high = omega arith }, tt),
  );
  one_edge = ((refl, tt), (tt, tt));
  members = (inl refl, (inr (inr (inl refl)), tt));
}

first_valid : IsValidFor line (system 1)
first_valid = record { valid = line_valid; ports = ((omega arith, omega arith), tt); ports_apart = (tt, tt) }

second_valid : IsValidFor line (system 2)
second_valid = record {
  valid = line_valid;
  ports = ((omega arith, omega arith), ((omega arith, omega arith), tt));
  ports_apart = (((λ e. absurd (omega (arith, e))), tt), (tt, tt));
}

third_valid : IsValidFor line (system 3)
third_valid = record { valid = line_valid; ports = ((omega arith, omega arith), tt); ports_apart = (tt, tt) }

valid_for : (x : SystemId) → IsBridge line x → IsValidFor line x
valid_for x (inl e) = subst (IsValidFor line) (sym e) first_valid
valid_for x (inr (inl e)) = subst (IsValidFor line) (sym e) second_valid
valid_for x (inr (inr (inl e))) = subst (IsValidFor line) (sym e) third_valid
valid_for x (inr (inr (inr k))) = absurd k

-- a bridge of the line is told by its source
by_source : (b : GraphBridge) → Has b line.bridges → (b ≡ bridge b.source.value) × (b.source.value ≤ 3)
by_source b (inl e) = (e ∙ ap (λ (c : GraphBridge). bridge c.source.value) (sym e), subst (λ (c : GraphBridge). c.source.value ≤ 3) (sym e) (omega arith))
by_source b (inr (inl e)) = (e ∙ ap (λ (c : GraphBridge). bridge c.source.value) (sym e), subst (λ (c : GraphBridge). c.source.value ≤ 3) (sym e) (omega arith))
by_source b (inr (inr (inl e))) = (e ∙ ap (λ (c : GraphBridge). bridge c.source.value) (sym e), subst (λ (c : GraphBridge). c.source.value ≤ 3) (sym e) (omega arith))
by_source b (inr (inr (inr k))) = absurd k

isid_there : (m : Member) → Has m line.members → m.isid.value ≤ GREATEST_ISID
isid_there m (inl e) = subst (λ (n : Member). n.isid.value ≤ GREATEST_ISID) (sym e) (omega arith)
isid_there m (inr (inl e)) = subst (λ (n : Member). n.isid.value ≤ GREATEST_ISID) (sym e) (omega arith)
isid_there m (inr (inr k)) = absurd k

line_serves : IsService line (plan ∷ []) plan (bridge 1) service
line_serves = record {
  valid = valid_for;
  plans = record { ects = ((omega arith, omega arith), tt); apart = (tt, tt) };
  planned = contains_from_has (plan ∷ []) plan (inl refl);
  bridge = contains_from_has line.bridges (bridge 1) (inl refl);
  sends = record { member = sender; there = contains_from_has line.members sender (inl refl); of_system = refl; in_service = refl; in_vid = refl; transmits = refl };
  apart = λ a b at there e. (let one = by_source a (has_from_contains line.bridges a at) in let other = by_source b (has_from_contains line.bridges b there) in one.0 ∙ (ap bridge e ∙ sym other.0));
  sources = λ b at. (let low : b.source.value ≤ 3 = (by_source b (has_from_contains line.bridges b at)).1 in omega (arith, low));
  isids = λ m at. isid_there m (has_from_contains line.members m at);
}

third_takes : Receives line service plan.vid (system 3)
third_takes = record { member = receiver; there = contains_from_has line.members receiver (inr (inl refl)); of_system = refl; in_service = refl; in_vid = refl; receives = refl }

third_other : system 3 ≢ system 1
third_other e = absurd (omega (arith, apart 3 1 e))

third_reached : IsReached line (system 1) (system 3)
third_reached = (system 2 ∷ system 3 ∷ [], (inl refl, refl, (inr (inl refl), refl, (inr (inr (inl refl)), refl))))

-- the last step down
last_step : (m c : SystemId) (way : List SystemId) → LeadsDown line plan (bridge 1) service m way c → (m ≡ c) ⊎ ((k : SystemId) × FollowsOnTree line plan (bridge 1) service k c)
last_step m c [] l = inl l
last_step m c (x ∷ xs) l = elim (last_step x c xs l.1) [
  | inl e ↦ inr (m, subst (FollowsOnTree line plan (bridge 1) service m) e l.0)
  | inr k ↦ inr k
]

none_joins : (k : SystemId) → FollowsOnTree line plan (bridge 1) service k (system 3) → k ≢ system 1
none_joins k f e =
    let joined : IsSome (cost_between line k (system 3)) = path_joined line (system 1) f.receiver k (system 3) f.follows.before f.follows.after f.follows.best.path in
    let at : IsSome (cost_between line (system 1) (system 3)) = subst (λ x. IsSome (cost_between line x (system 3))) e joined in
    cc

pub some_service_has_transit : SomeServiceHasTransit
some_service_has_transit =
    let way = receivers_are_on_tree line (plan ∷ []) plan (bridge 1) service (system 3) line_serves third_takes third_other third_reached in
    elim (last_step (system 1) (system 3) way.0 way.1) [
      | inl e ↦ absurd (third_other (sym e))
      | inr k ↦ (
        line,
        plan ∷ [],
        plan,
        bridge 1,
        service,
        record {
          service = line_serves;
          receiver = system 3;
          between = k.0;
          takes = third_takes;
          follows = k.1;
          other = none_joins k.0 k.1;
        },
      )
    ]

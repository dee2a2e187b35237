-- What is asked of the customer ports in the tests of modes, and what keeps them.
use Rattle.std.proofs.Common.{◌≡◌, ◌≤◌, ℕ, true, List, [], ◌∷◌, ◌++◌, length, map, refl, sym, ap, ◌∙◌, subst, arith}
use Rattle.std.specs.Prelude.{Contains}
use Rattle.std.specs.List.{AllByRecursion}
use Rattle.spb_types.specs.Service.{sends}
use Rattle.spb_types.specs.declared.service.Attachment.{Attachment}
use Rattle.spb_types.specs.declared.service.Mode.{Mode}
use Rattle.bridge_api.specs.View.{BridgeView}
use Rattle.bridge_api.specs.Config.{AgreesWith, IsAttachment, different, vids_of}
use Rattle.bridge_api.specs.Services.{IsAttachedPort, IsSendingPort, CanAttach}
use Rattle.bridge_api.specs.Step.{attach, customer, step}
use Rattle.bridge_api.proofs.Certified.{steps_keep_bridge}
use Rattle.bridge_tests.specs.Services.{IsServing}
use Rattle.bridge_tests.specs.TwoPorts.{in_100, HasPorts}

pub without_ports : (v : BridgeView) → IsServing 0 v → HasPorts [] v
without_ports v is = record { vids = is.vids; attached = is.attached }

-- ---- one more

is_second : (mode : Mode) → IsAttachment (10 ∷ []) (in_100 2 mode)
is_second mode = record {
  port_low = omega arith;
  port_high = omega arith;
  isid_low = omega arith;
  isid_high = omega arith;
  vid = refl;
}

apart : (m n : Mode) → AgreesWith (in_100 1 m) (in_100 2 n)
apart m n = record { ports = λ same. absurd (omega (arith, same)); vids = λ same. refl }

pub can_attach_second : (v : BridgeView) (m n : Mode) → HasPorts (in_100 1 m ∷ []) v → CanAttach v (in_100 2 n)
can_attach_second v m n is = record {
  attachment = subst (λ (vids : List ℕ). IsAttachment vids (in_100 2 n)) (sym is.vids) (is_second n);
  agrees = subst (AllByRecursion (λ other. AgreesWith other (in_100 2 n))) (sym is.attached) (apart m n, tt);
  few_isids = subst (λ (list : List Attachment). length (different (map (λ (a : Attachment). a.isid.value) (list ++ in_100 2 n ∷ []))) ≤ 960) (sym is.attached) (omega arith);
}

pub with_one_more : (list : List Attachment) (v w : BridgeView) (a : Attachment) → HasPorts list v → w ≡ step (attach a) v → HasPorts (list ++ a ∷ []) w
with_one_more list v w a was is =
    let bridge = steps_keep_bridge (attach a) v in
    subst (HasPorts (list ++ a ∷ [])) (sym is) (record {
      vids = ap vids_of bridge.vids ∙ was.vids;
      attached = bridge.attached ∙ ap (λ (xs : List Attachment). xs ++ a ∷ []) was.attached;
    })

-- ---- those that are there

pub still_there : (list : List Attachment) (v w : BridgeView) (port : ℕ) (bytes : List ℕ) → HasPorts list v → w ≡ step (customer port bytes) v → HasPorts list w
still_there list v w port bytes was is =
    let bridge = steps_keep_bridge (customer port bytes) v in
    subst (HasPorts list) (sym is) (record { vids = ap vids_of bridge.vids ∙ was.vids; attached = bridge.attached ∙ was.attached })

pub first_attached : (v : BridgeView) (m n : Mode) → HasPorts (in_100 1 m ∷ in_100 2 n ∷ []) v → IsAttachedPort v 1
first_attached v m n is =
    subst (λ (list : List Attachment). (a : Attachment) × Contains list a × (a.port ≡ 1)) (sym is.attached) (in_100 1 m, (0, omega arith, refl), refl)

pub first_sends : (v : BridgeView) (m n : Mode) → sends m ≡ true → HasPorts (in_100 1 m ∷ in_100 2 n ∷ []) v → IsSendingPort v 1
first_sends v m n does is =
    subst (λ (list : List Attachment). (a : Attachment) × Contains list a × (a.port ≡ 1) × (sends a.mode ≡ true)) (sym is.attached) (in_100 1 m, (0, omega arith, refl), refl, does)

pub second_sends : (v : BridgeView) (m n : Mode) → sends n ≡ true → HasPorts (in_100 1 m ∷ in_100 2 n ∷ []) v → IsSendingPort v 2
second_sends v m n does is =
    subst (λ (list : List Attachment). (a : Attachment) × Contains list a × (a.port ≡ 2) × (sends a.mode ≡ true)) (sym is.attached) (in_100 2 n, (1, omega arith, refl), refl, does)

-- The bridge says the same of itself without attachments that add nothing to what it says.
use Rattle.std.proofs.Common.{◌≡◌, inl, inr, ◌≤◌, Bool, true, false, List, [], ◌∷◌, length, map, refl, sym, subst}
use Rattle.std.specs.Prelude.{not, ◌||◌, ◌&&◌, ◌==◌, if◌then◌else◌}
use Rattle.std.proofs.lemmas.Bool.{eqb-true}
use Rattle.spb_types.specs.Service.{sends, receives}
use Rattle.spb_types.specs.declared.address.SystemId.{SystemId}
use Rattle.spb_types.specs.declared.graph.Member.{Member}
use Rattle.spb_types.specs.declared.limits.TheConstants.{MOST_ISIDS}
use Rattle.spb_types.specs.declared.service.Attachment.{Attachment}
use Rattle.spb_types.specs.declared.service.Isid.{Isid}
use Rattle.spb_types.specs.declared.service.Mode.{Mode}
use Rattle.forwarding.specs.Ports.{is_in}
use Rattle.spb_content.specs.Local.{IsLocal}
use Rattle.spb_content.proofs.AnyOrder.{isids_same}
use Rattle.spb_content.proofs.Covered.{AreCovered, covered_paired}
use Rattle.spb_content.proofs.Members.{Has}
use Rattle.spb_content.proofs.Pairs.{paired_attached, paired_one_vid}
use Rattle.bridge_api.specs.View.{BridgeView}
use Rattle.bridge_api.specs.Own.{member_of, local_of, bodies_of}
use Rattle.bridge_api.proofs.Changes.{attached_to}
use Rattle.bridge_control.specs.Repeats.{adds_nothing, left_behind, without_repeats}
use Rattle.bridge_control.proofs.Unsaid.{both, IsDoneBy, AreDoing, itself, members_covered, same_bodies}

-- ---- what is left

left_there : (a : Attachment) (bs : List Attachment) (x : Attachment) → Has x (left_behind a bs) → Has x bs
left_there a [] x h = h
left_there a (b ∷ bs) x h = at (adds_nothing a b) h (left_there a bs x) (left_there b bs x)
  where
    at : (t : Bool) → Has x (if t then left_behind a bs else b ∷ left_behind b bs) → (Has x (left_behind a bs) → Has x bs) → (Has x (left_behind b bs) → Has x bs) → Has x (b ∷ bs)
    at true h one other = inr (one h)
    at false (inl e) one other = inl e
    at false (inr h) one other = inr (other h)

left_of : (xs : List Attachment) (x : Attachment) → Has x (without_repeats xs) → Has x xs
left_of [] x h = h
left_of (a ∷ bs) x (inl e) = inl e
left_of (a ∷ bs) x (inr h) = inr (left_there a bs x h)

-- ---- they do what all did

done_too : (a b : Bool) → (a || not b) ≡ true → b ≡ true → a ≡ true
done_too true b e t = refl
done_too false true e t = absurd cc
done_too false false e t = absurd cc

nothing_more : (a b : Attachment) (xs : List Attachment) → adds_nothing a b ≡ true → Has a xs → AreDoing xs b
nothing_more a b xs e h =
    let parts = both (is_in a.isid b && (b.vid.value == a.vid.value)) ((sends a.mode || not (sends b.mode)) && (receives a.mode || not (receives b.mode))) e in
    let same = both (is_in a.isid b) (b.vid.value == a.vid.value) parts.0 in
    let does = both (sends a.mode || not (sends b.mode)) (receives a.mode || not (receives b.mode)) parts.1 in
    let isid = eqb-true b.isid.value a.isid.value same.0 in
    let vid = eqb-true b.vid.value a.vid.value same.1 in
    record {
      sends = λ t. record { by = a; has = h; isid = λ i. record { value = isid i }; vid = λ i. record { value = vid i }; done = done_too (sends a.mode) (sends b.mode) does.0 t };
      receives = λ t. record { by = a; has = h; isid = λ i. record { value = isid i }; vid = λ i. record { value = vid i }; done = done_too (receives a.mode) (receives b.mode) does.1 t };
    }

one_more : (does : Mode → Bool) (a x : Attachment) (xs : List Attachment) → IsDoneBy does x xs → IsDoneBy does x (a ∷ xs)
one_more does a x xs d = record { by = d.by; has = inr d.has; isid = d.isid; vid = d.vid; done = d.done }

done_behind : (a : Attachment) (bs : List Attachment) (x : Attachment) → Has x bs → AreDoing (a ∷ left_behind a bs) x
done_behind a [] x h = absurd h
done_behind a (b ∷ bs) x h = at (adds_nothing a b) refl h (done_behind a bs x) (done_behind b bs x)
  where
    at : (t : Bool) → adds_nothing a b ≡ t → Has x (b ∷ bs) → (Has x bs → AreDoing (a ∷ left_behind a bs) x) → (Has x bs → AreDoing (b ∷ left_behind b bs) x) → AreDoing (a ∷ (if t then left_behind a bs else b ∷ left_behind b bs)) x
    at true e (inl i) one other = subst (AreDoing (a ∷ left_behind a bs)) (sym i) (nothing_more a b (a ∷ left_behind a bs) e (inl refl))
    at true e (inr h) one other = one h
    at false e (inl i) one other = itself x (a ∷ b ∷ left_behind b bs) (inr (inl i))
    at false e (inr h) one other =
        let d : AreDoing (b ∷ left_behind b bs) x = other h in
        record { sends = λ t. one_more sends a x (b ∷ left_behind b bs) (d.sends t); receives = λ t. one_more receives a x (b ∷ left_behind b bs) (d.receives t) }

all_done : (xs : List Attachment) (x : Attachment) → Has x xs → AreDoing (without_repeats xs) x
all_done [] x h = absurd h
all_done (a ∷ bs) x (inl e) = itself x (a ∷ left_behind a bs) (inl e)
all_done (a ∷ bs) x (inr h) = done_behind a bs x h

none_new : (xs : List Attachment) (x : Attachment) → Has x (without_repeats xs) → AreDoing xs x
none_new xs x h = itself x xs (left_of xs x h)

-- ---- the bridge says the same

pub local_without : (v : BridgeView) → IsLocal (local_of v) → IsLocal (local_of (attached_to (without_repeats v.attached) v))
local_without v is =
    let s : SystemId = v.id.system in
    let few : List Attachment = without_repeats v.attached in
    let ms : List Member = map (member_of s) few in
    let ns : List Member = map (member_of s) v.attached in
    let to : AreCovered ms ns = members_covered s few v.attached (none_new v.attached) in
    let back : AreCovered ns ms = members_covered s v.attached few (all_done v.attached) in
    record {
      source = is.source;
      few_vids = is.few_vids;
      vids = is.vids;
      vids_apart = is.vids_apart;
      metrics = is.metrics;
      attached = paired_attached ms ns (covered_paired ms ns to) is.attached;
      one_vid = paired_one_vid ms ns (covered_paired ms ns to) is.one_vid;
      few_isids = subst (λ (isids : List Isid). length isids ≤ MOST_ISIDS) (isids_same ns ms (covered_paired ns ms back) (covered_paired ms ns to)) is.few_isids;
    }

pub bodies_without : (v : BridgeView) → IsLocal (local_of v) → bodies_of (attached_to (without_repeats v.attached) v) ≡ bodies_of v
bodies_without v is = same_bodies v (without_repeats v.attached) v.learned is (local_without v is) (none_new v.attached) (all_done v.attached)

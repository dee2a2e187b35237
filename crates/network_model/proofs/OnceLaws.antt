-- A group frame that enters a network at rest leaves where it has to, once.
use Rattle.std.proofs.Common.{append-nil, ◌≡◌, ◌<◌, ℕ, Bool, true, cond, eqb-true, eq-eqb, inl, inr, List, [], ◌∷◌, ◌++◌, length, refl, sym, ap, ◌∙◌, subst, Some, None, slice_get, arith}
use Rattle.std.specs.Prelude.{nat_eq, ◌==◌}
use Rattle.std.specs.List.{AllByRecursion, list_any}
use Rattle.std.proofs.lemmas.Bool.{ne_eqb}
use Rattle.scenario.specs.declared.command.Command.{Command}
use Rattle.scenario.specs.declared.command.Command.TheVariants as command
use Rattle.spb_types.specs.Service.{sends}
use Rattle.spb_types.specs.declared.service.Attachment.{Attachment}
use Rattle.spb_types.specs.declared.service.Vid.{Vid}
use Rattle.spb_types.specs.declared.service.VidPlan.{VidPlan}
use Rattle.spb_content.proofs.Members.{Has, all_has, contains_from_has, has_from_contains}
use Rattle.forwarding.specs.Laws.{IsAttachedTo}
use Rattle.forwarding.specs.Placed.{AreAttachedOnce}
use Rattle.forwarding.specs.Ports.{attachment_of, is_in}
use Rattle.forwarding.specs.Tenant.{is_group, to_of}
use Rattle.bridge_api.specs.View.{BridgeView}
use Rattle.bridge_api.specs.Config.{ArePairwise, AgreesWith, IsAttachment, vids_of}
use Rattle.bridge_api.specs.Customers.{IsCustomerFrame}
use Rattle.bridge_api.specs.Laws.{IsSoundView}
use Rattle.bridge_api.specs.Services.{IsSendingPort}
use Rattle.bridge_api.specs.Step.{customer}
use Rattle.network_model.specs.declared.answer.Out.{Out}
use Rattle.spb_world.specs.World.{attached_at, place_of, vid_of_isid}
use Rattle.spb_world.specs.Attaching.{entry_refusal}
use Rattle.network_model.specs.State.{State}
use Rattle.network_model.specs.Events.{stepped, frame_entered}
use Rattle.spb_world.specs.Naming.{refusal_at_found, named_entry_refusal}
use Rattle.network_model.specs.Play.{at_place, at_bridge, accepted_once, played, next_state, played_all, answer_of}
use Rattle.network_model.specs.Sound.{IsSoundState}
use Rattle.network_model.specs.SoundLaws.{opening_of, state_after}
use Rattle.network_model.specs.Truth.{IsAtRest}
use Rattle.network_model.specs.Isolation.{outs_in}
use Rattle.network_model.specs.Once.{IsOnce, IsPassage, LeavesOnce, ExactlyOnce, NetworksDeliverOnce, outs_of}
use Rattle.network_model.specs.UnderWay.{Journey}
use Rattle.network_model.proofs.ApartLeaving.{attached_to}
use Rattle.spb_world.proofs.AttachedLemmas.{all_at}
use Rattle.spb_world.proofs.BoxLemmas.{All-get}
use Rattle.network_model.proofs.CountedPlay.{networks_are_counted}
use Rattle.network_model.proofs.Linked.{get_within}
use Rattle.network_model.proofs.QuietPaths.{place_within}
use Rattle.network_model.proofs.QuietTruth.{quiet_is_true}
use Rattle.network_model.proofs.SoundAttaching.{in_service}
use Rattle.network_model.proofs.SoundEntering.{is_entry}
use Rattle.network_model.proofs.SoundPlay.{commands_keep_sound, networks_are_sound}
use Rattle.network_model.proofs.Spoken.{shown_at}
use Rattle.network_model.proofs.AtRest.{at_rest}
use Rattle.network_model.proofs.Wires.{find_in}
use Rattle.network_model.proofs.OnceBridge.{found_attached, group_has_isid, group_is_group, group_is_other, taken_again}
use Rattle.network_model.proofs.OnceStep.{IsJourney}
use Rattle.network_model.proofs.OnceEntry.{journey_from, served_by, sets_out}
use Rattle.network_model.proofs.OnceEnd.{attached_once, left_once}
use Rattle.network_model.proofs.OnceEvents.{IsOnTheWay, commands_stay, same_way}
use Rattle.network_model.proofs.OnceTree.{IsAttachedThere, IsPlanned, attached_there, is_tree, one_vid, planned_vid}

-- ---- the port where it enters

-- no two ports are attached alike, so what is attached there is found
is_found : (p : ℕ) (xs : List Attachment) (a : Attachment) → ArePairwise AgreesWith xs → Has a xs → a.port ≡ p → attachment_of p xs ≡ Some a
is_found p [] a apart h same = absurd h
is_found p (x ∷ xs) a apart (inl here) same = ap (λ (b : Bool). cond b (Some x) (attachment_of p xs)) (eq-eqb x.port p (ap (λ (y : Attachment). y.port) (sym here) ∙ same)) ∙ ap Some (sym here)
is_found p (x ∷ xs) a apart (inr later) same =
    ap (λ (b : Bool). cond b (Some x) (attachment_of p xs)) (ne_eqb x.port p (λ e. (all_has (AgreesWith x) a xs apart.0 later).ports (e ∙ sym same)))
    ∙ is_found p xs a apart.1 later same

weaker_all : {X : Type 0} (P Q : X → Type 0) (xs : List X) → ((x : X) → P x → Q x) → AllByRecursion P xs → AllByRecursion Q xs
weaker_all P Q [] more all = tt
weaker_all P Q (x ∷ xs) more all = (more x all.0, weaker_all P Q xs more all.1)

module _ (s : State) (b p : ℕ) (f : List ℕ) (v : BridgeView) (a : Attachment) (rest : IsAtRest s) (at : slice_get s.views b ≡ Some v) (found : attachment_of p v.attached ≡ Some a) (sending : sends a.mode ≡ true) (frame : IsCustomerFrame f) (octets : AllByRecursion (λ x. x < 256) f) (group : is_group (to_of f) ≡ true) where
  sound : IsSoundState s
  sound = rest.sound

  view : IsSoundView v
  view = All-get IsSoundView s.views b v sound.views at

  among : Has a v.attached
  among = (find_in (λ x. x.port == p) v.attached a found).0

  attachment : IsAttachment (vids_of v.vids) a
  attachment = found_attached (IsAttachment (vids_of v.vids)) p v.attached a found view.config.each_attachment

  plan : IsPlanned s.world.vids a.vid
  plan = planned_vid a.vid s.world.vids (subst (λ (plans : List VidPlan). list_any (nat_eq a.vid.value) (vids_of plans) ≡ true) (shown_at s b v sound at).1.vids attachment.vid)

  own : IsAttachedThere s.world b a
  own = attached_there s b a sound (subst (λ (xs : List Attachment). Has a xs) (sound.attached b v at) among)

  in_vid : (i : ℕ) → AllByRecursion (λ c. is_in a.isid c ≡ true → c.vid.value ≡ a.vid.value) (attached_at s.world i)
  in_vid i =
      weaker_all (λ c. vid_of_isid s.world.services c.isid.value ≡ Some c.vid) (λ c. is_in a.isid c ≡ true → c.vid.value ≡ a.vid.value) (attached_at s.world i)
      (λ c there same. ap (λ (vid : Vid). vid.value) (one_vid s.world a c own.vid there (eqb-true c.isid.value a.isid.value same)))
      (all_at (λ c. vid_of_isid s.world.services c.isid.value ≡ Some c.vid) i s.world.attached (in_service s.world s.world.attached sound.world.attached i))

  pub is_journey : IsJourney s (journey_from b p f v a)
  is_journey = record {
    tables = λ i u at_u. (quiet_is_true s i u rest at_u).tables;
    tree = is_tree s b p f v a rest at found sending plan.plan (contains_from_has plan.plan s.world.vids plan.among) plan.is;
    taken = taken_again v p f a v.source.value found frame octets view.config;
    isid = group_has_isid v.source.value a.isid.value attachment.isid_high;
    group = group_is_group v.source.value a.isid.value;
    customers = group;
    away = λ i u at_u. group_is_other v.source.value a.isid.value u.id.system.mac (All-get IsSoundView s.views i u sound.views at_u).config.system.individual;
    vids = in_vid;
    here = subst (λ (xs : List Attachment). IsAttachedTo xs p a.isid) (sound.attached b v at) (attached_to p v.attached a found);
  }

  single : AreAttachedOnce (attached_at s.world b)
  single = attached_once (attached_at s.world b) (subst (ArePairwise AgreesWith) (sound.attached b v at) view.config.attachments_apart)

  -- the frame enters, is delivered, and has left
  module _ (none : s.outs ≡ []) (name : List ℕ) (cs : List Command) (named : place_of name s.world.bridges ≡ Some b) (passage : IsPassage s name p f cs) where
    abbrev j : Journey
    j = journey_from b p f v a

    abbrev enters : Command
    enters = command.Frame name p f

    played_is : played s enters ≡ stepped (customer p f) s b
    unfolding at_bridge
    played_is = ap (at_place (λ t i. frame_entered t i p f) s) named

    set_out : IsOnTheWay s j (stepped (customer p f) s b) (stepped (customer p f) s b).outs
    set_out = record { served = served_by b; under = sets_out s b p f v a at found is_journey sound rest.calm.empty none }

    entered : IsOnTheWay s j (next_state s enters) (outs_in (answer_of s enters))
    unfolding next_state
    entered =
        let t : State = played s enters in
        same_way s j t (accepted_once t) t.outs refl refl refl (subst (λ (y : State). IsOnTheWay s j y y.outs) (sym played_is) set_out)

    nothing_left : (next_state s enters).outs ≡ []
    unfolding next_state
    nothing_left = refl

    way : IsOnTheWay s j (played_all (next_state s enters) cs) (outs_of s (enters ∷ cs))
    way =
        let before : List Out = outs_in (answer_of s enters) in
        let again : IsOnTheWay s j (next_state s enters) (before ++ (next_state s enters).outs) =
        subst (λ (outs : List Out). IsOnTheWay s j (next_state s enters) outs) (sym (append-nil before) ∙ ap (λ (outs : List Out). before ++ outs) (sym nothing_left)) entered in
        commands_stay s j is_journey cs (next_state s enters) before passage.onward passage.accepted.1
        (commands_keep_sound s enters sound passage.accepted.0) nothing_left again

    pub leaves_once : IsOnce s.world b p f (outs_of s (enters ∷ cs))
    leaves_once = left_once s j is_journey single way.served (played_all (next_state s enters) cs) (outs_of s (enters ∷ cs)) way.under passage.delivered

accepted_at : (s : State) (name : List ℕ) (b p : ℕ) (f : List ℕ) → place_of name s.world.bridges ≡ Some b → named_entry_refusal s.world name p f ≡ None → entry_refusal s.world b p f ≡ None
unfolding named_entry_refusal
accepted_at s name b p f named accepted = ap (refusal_at_found (λ i. entry_refusal s.world i p f)) (sym named) ∙ accepted

pub leaves_once_at_rest : (s : State) → IsAtRest s → s.outs ≡ [] → LeavesOnce s
leaves_once_at_rest s rest none name b p f cs named passage =
    let low : b < length s.world.bridges = place_within s.world.bridges name b named in
    let view = get_within s.views b (omega (arith, low, rest.sound.fits.bridges)) in
    let v : BridgeView = view.0 in
    let apart = (All-get IsSoundView s.views b v rest.sound.views view.1).config.attachments_apart in
    let input : IsSendingPort v p × IsCustomerFrame f = is_entry s b p f rest.sound (accepted_at s name b p f named passage.accepted.0) v view.1 in
    let port = input.0 in
    let found = is_found p v.attached port.0 apart (has_from_contains port.0 v.attached port.1) port.2 in
    leaves_once s b p f v port.0 rest view.1 found port.3 input.1 passage.octets passage.group none name cs named passage

pub exactly_once : ExactlyOnce
exactly_once s sound accepted_once quiet none = leaves_once_at_rest s (at_rest s sound accepted_once quiet) none

none_between : (cs : List Command) (s : State) → s.outs ≡ [] → (played_all s cs).outs ≡ []
unfolding next_state
none_between [] s none = none
none_between (c ∷ cs) s none = none_between cs (next_state s c) refl

pub networks_deliver_once : NetworksDeliverOnce
networks_deliver_once scene few quiet =
    exactly_once (state_after scene) (networks_are_sound scene) (networks_are_counted scene few) quiet
    (none_between scene.commands (opening_of scene) refl)

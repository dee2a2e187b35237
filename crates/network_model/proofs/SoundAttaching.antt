-- A customer port is attached, or detached.
use Rattle.std.proofs.Common.{◌≡◌, ◌≢◌, inl, inr, ◌≤◌, ◌<◌, ℕ, Bool, true, false, true≢false, not, ◌&&◌, ◌==◌, List, [], ◌∷◌, ◌++◌, length, map, Option, Some, None, slice_get, refl, sym, ap, ◌∙◌, subst, arith}
use Rattle.std.specs.Prelude.{nat_eq, Contains}
use Rattle.std.specs.List.{AllByRecursion, list_any, filter_map}
use Rattle.std.proofs.lemmas.Bool.{eqb-true, eq-eqb}
use Rattle.std.proofs.lemmas.List.Folds.{Any-from_list_any}
use Rattle.spb_types.specs.declared.limits.TheConstants.{MOST_CUSTOMER_PORTS, MOST_ISIDS}
use Rattle.spb_types.specs.declared.service.Attachment.{Attachment}
use Rattle.spb_types.specs.declared.service.Isid.{Isid}
use Rattle.spb_types.specs.declared.service.Mode.{Mode}
use Rattle.spb_types.specs.declared.service.Vid.{Vid}
use Rattle.spb_types.specs.declared.service.VidPlan.{VidPlan}
use Rattle.spb_types.specs.Places.{changed_at}
use Rattle.spb_types.specs.Service.{sends}
use Rattle.bridge_api.specs.View.{BridgeView}
use Rattle.bridge_api.specs.Config.{AgreesWith, different, vids_of}
use Rattle.bridge_api.specs.Services.{attachment_of, without_customer_port}
use Rattle.bridge_api.specs.Step as comes
use Rattle.bridge_api.specs.Step.{Input, step}
use Rattle.bridge_api.specs.Laws.{attached_after}
use Rattle.spb_world.specs.World.{World, Attachments, vid_of_isid, attachment_at, attached_at, IsService, IsAttachedIn, Sound}
use Rattle.spb_world.specs.Attaching.{is_customer_port, is_attached, is_sending, has_isid_room, isids_with, attach_refusal, detach_refusal, IsNewAttachment, with_attachment_at, without_attachment_at}
use Rattle.network_model.specs.State.{CanAttachAt, IsAttachedAt, IsSendingAt, State}
use Rattle.network_model.specs.Events.{stepped, with_attached_port, attached_in_found, port_attached, port_detached}
use Rattle.network_model.specs.Sound.{AreAttached, IsSoundState}
use Rattle.spb_world.proofs.ListLemmas.{All-map, All-none, and-left, and-right, not-true}
use Rattle.spb_world.proofs.ServiceLemmas.{service_found}
use Rattle.spb_world.proofs.AttachedLemmas.{any_at, all_at, pushed_here, pushed_away, fewer_here, fewer_away, isids_pushed, Sound-with_attachment, Sound-without_attachment}
use Rattle.network_model.proofs.BridgeLaws.{steps_keep_bridge}
use Rattle.network_model.proofs.FitsLemmas.{alike_itself}
use Rattle.spb_world.proofs.RefusalLemmas.{reason_unless-none, or-first, or-second, le-true}
use Rattle.network_model.proofs.SoundMoves.{IsCore}
use Rattle.network_model.proofs.SoundCarrier.{got_changed}
use Rattle.network_model.proofs.SoundSteps.{core_stepped}
use Rattle.network_model.proofs.SoundEvents.{core_of, sound_from, stepped_world, stepped_views, stepped_carriers, stepped_with_metric}
use Rattle.network_model.proofs.Spoken.{shown_at}

-- ---- what the tests say

pub record IsFreePort (w : World) (i port isid : ℕ) : Type 0 where
  pub port_low : 1 ≤ port
  pub port_high : port ≤ MOST_CUSTOMER_PORTS
  pub room : length (isids_with (attached_at w i) isid) ≤ MOST_ISIDS
  pub free : AllByRecursion (λ x. x.0 ≡ i → x.1.port ≢ port) w.attached

elsewhere : (i port : ℕ) (x : ℕ × Attachment) → ((x.0 == i) && (x.1.port == port)) ≡ false → x.0 ≡ i → x.1.port ≢ port
elsewhere i port x none here there = true≢false (sym (eq-eqb x.1.port port there) ∙ (sym (ap (λ (b : Bool). b && (x.1.port == port)) (eq-eqb x.0 i here)) ∙ none))

pub attach_refusal_none : (w : World) (i port isid : ℕ) → attach_refusal w i port isid ≡ None → IsFreePort w i port isid
unfolding attach_refusal is_customer_port has_isid_room
attach_refusal_none w i port isid h =
    let to_room = or-first _ _ h in
    let to_range = or-first _ _ to_room in
    let range = reason_unless-none (is_customer_port port) _ (or-second _ _ to_range) in
    let room = reason_unless-none (has_isid_room (attached_at w i) isid) _ (or-second _ _ to_room) in
    let free = reason_unless-none (not (is_attached w.attached i port)) _ (or-second _ _ h) in
    record {
      port_low = le-true 1 port (and-left _ _ range);
      port_high = le-true port MOST_CUSTOMER_PORTS (and-right _ _ range);
      room = le-true (length (isids_with (attached_at w i) isid)) MOST_ISIDS room;
      free = All-map (λ x. ((x.0 == i) && (x.1.port == port)) ≡ false) (λ x. x.0 ≡ i → x.1.port ≢ port) w.attached (elsewhere i port) (All-none (λ x. (x.0 == i) && (x.1.port == port)) w.attached (not-true _ free));
    }

pub record IsTakenPort (w : World) (i port : ℕ) : Type 0 where
  pub port_high : port ≤ MOST_CUSTOMER_PORTS
  pub taken : is_attached w.attached i port ≡ true

pub detach_refusal_none : (w : World) (i port : ℕ) → detach_refusal w i port ≡ None → IsTakenPort w i port
unfolding detach_refusal is_customer_port
detach_refusal_none w i port h =
    let range = reason_unless-none (is_customer_port port) _ (or-first _ _ h) in
    record {
      port_high = le-true port MOST_CUSTOMER_PORTS (and-right _ _ range);
      taken = reason_unless-none (is_attached w.attached i port) _ (or-second _ _ h);
    }

-- ---- what the world and the bridge ask for

some-is : {X : Type 0} (x y : X) → Some x ≡ Some y → x ≡ y
some-is x y h = cc

-- the service of an I-SID that was found is in range, and its VID is declared
pub new_attachment : (s : State) (i port isid : ℕ) (vid : Vid) (mode : Mode) → i < length s.world.bridges → attach_refusal s.world i port isid ≡ None → vid_of_isid s.world.services isid ≡ Some vid → IsNewAttachment s.world (i, attachment_of port (record { value = isid }) vid mode)
new_attachment s i port isid vid mode within none found =
    let is : IsFreePort s.world i port isid = attach_refusal_none s.world i port isid none in
    record {
      attached = record { bridge = within; port_low = is.port_low; port_high = is.port_high; service = found };
      apart = is.free;
    }

-- the I-SID of a service fits its number
pub found_high : (w : World) (isid : ℕ) (vid : Vid) → Sound w → vid_of_isid w.services isid ≡ Some vid → isid ≤ 16777215
found_high w isid vid sound found =
    let service = service_found (IsService w.vids) w.services isid vid sound.services found in
    omega (arith, service.1, service.2.isid_high)

both_all : {X : Type 0} (P Q R : X → Type 0) (xs : List X) → ((x : X) → P x → Q x → R x) → AllByRecursion P xs → AllByRecursion Q xs → AllByRecursion R xs
both_all P Q R [] f p q = tt
both_all P Q R (x ∷ xs) f p q = (f x p.0 q.0, both_all P Q R xs f p.1 q.1)

-- each thing that is attached is in its service
pub in_service : (w : World) (xs : Attachments) → AllByRecursion (IsAttachedIn w.bridges w.services) xs → (i : ℕ) → AllByRecursion (λ x. x.0 ≡ i → vid_of_isid w.services x.1.isid.value ≡ Some x.1.vid) xs
in_service w [] all i = tt
in_service w (x ∷ xs) all i = (λ e. all.0.service, in_service w xs all.1 i)

pub can_attach : (s : State) (i port isid : ℕ) (vid : Vid) (mode : Mode) → IsSoundState s → attach_refusal s.world i port isid ≡ None → vid_of_isid s.world.services isid ≡ Some vid → CanAttachAt s.views i (attachment_of port (record { value = isid }) vid mode)
can_attach s i port isid vid mode sound none found v at =
    record {
      attachment = record {
        port_low = is.port_low;
        port_high = is.port_high;
        isid_low = subst (λ (n : ℕ). 1 ≤ n) service.1 service.2.isid_low;
        isid_high = subst (λ (n : ℕ). n ≤ 16777215) service.1 service.2.isid_high;
        vid = subst (λ (plans : List VidPlan). list_any (nat_eq vid.value) (vids_of plans) ≡ true) (sym (shown_at s i v sound at).1.vids) service.2.vid;
      };
      agrees = subst (AllByRecursion (λ other. AgreesWith other a)) (sym same) (both_all (λ b. b.port ≢ port) (λ b. vid_of_isid s.world.services b.isid.value ≡ Some b.vid) (λ b. AgreesWith b a) (attached_at s.world i) agree (all_at (λ b. b.port ≢ port) i s.world.attached is.free) (all_at (λ b. vid_of_isid s.world.services b.isid.value ≡ Some b.vid) i s.world.attached (in_service s.world s.world.attached sound.world.attached i)));
      few_isids = subst (λ (attached : List Attachment). length (different (map (λ (x : Attachment). x.isid.value) (attached ++ a ∷ []))) ≤ MOST_ISIDS) (sym same) (subst (λ (n : ℕ). n ≤ MOST_ISIDS) (sym (isids_pushed (attached_at s.world i) a)) is.room);
    }
  where
    a : Attachment
    a = attachment_of port (record { value = isid }) vid mode

    is : IsFreePort s.world i port isid
    is = attach_refusal_none s.world i port isid none

    service : (j : Isid) × (j.value ≡ isid) × IsService s.world.vids (j, vid)
    service = service_found (IsService s.world.vids) s.world.services isid vid sound.world.services found

    same : v.attached ≡ attached_at s.world i
    same = sound.attached i v at

    agree : (b : Attachment) → b.port ≢ port → vid_of_isid s.world.services b.isid.value ≡ Some b.vid → AgreesWith b a
    agree b apart served = record {
      ports = apart;
      vids = λ e. ap (λ (x : Vid). x.value) (some-is b.vid vid (sym served ∙ (ap (vid_of_isid s.world.services) e ∙ found)));
    }

-- a port that is attached is found
port_found : (xs : Attachments) (i port : ℕ) → is_attached xs i port ≡ true → (a : Attachment) × Contains (filter_map (attachment_at i) xs) a × (a.port ≡ port)
port_found xs i port taken =
    let any = Any-from_list_any (λ (a : Attachment). a.port == port) (filter_map (attachment_at i) xs) (sym (any_at (λ a. a.port == port) i xs) ∙ taken) in
    (any.1, (any.0, any.2, any.3), eqb-true any.1.port port any.4)

pub is_attached_port : (s : State) (i port : ℕ) → IsSoundState s → detach_refusal s.world i port ≡ None → IsAttachedAt s.views i port
is_attached_port s i port sound none v at =
    subst (λ (attached : List Attachment). (a : Attachment) × Contains attached a × (a.port ≡ port)) (sym (sound.attached i v at)) (port_found s.world.attached i port (detach_refusal_none s.world i port none).taken)

-- and so is one that sends
sender_found : (xs : Attachments) (i port : ℕ) → is_sending xs i port ≡ true → (a : Attachment) × Contains (filter_map (attachment_at i) xs) a × (a.port ≡ port) × (sends a.mode ≡ true)
sender_found xs i port sending =
    let any = Any-from_list_any (λ (a : Attachment). (a.port == port) && sends a.mode) (filter_map (attachment_at i) xs) (sym (any_at (λ a. (a.port == port) && sends a.mode) i xs) ∙ sending) in
    (any.1, (any.0, any.2, any.3), eqb-true any.1.port port (and-left (any.1.port == port) (sends any.1.mode) any.4), and-right (any.1.port == port) (sends any.1.mode) any.4)

pub is_sending_port : (s : State) (i port : ℕ) → IsSoundState s → is_sending s.world.attached i port ≡ true → IsSendingAt s.views i port
is_sending_port s i port sound sending v at =
    subst (λ (attached : List Attachment). (a : Attachment) × Contains attached a × (a.port ≡ port) × (sends a.mode ≡ true)) (sym (sound.attached i v at)) (sender_found s.world.attached i port sending)

-- ---- what is attached afterwards

-- by what is attached to the one bridge, and to the others
attached_by : (x : Input) (w u : World) (views : List BridgeView) (i : ℕ) → ((v : BridgeView) → slice_get views i ≡ Some v → attached_after x v.attached ≡ attached_at u i) → ((j : ℕ) → j ≢ i → attached_at u j ≡ attached_at w j) → AreAttached w views → AreAttached u (changed_at (step x) views i)
attached_by x w u views i here away attached j v at =
    let was = got_changed (step x) views i j v at in
    elim was.is [
      | inl same ↦
          ap (λ (y : BridgeView). y.attached) same.1
          ∙ ((steps_keep_bridge x was.was).attached
          ∙ (here was.was (ap (slice_get views) (sym same.0) ∙ was.there) ∙ ap (attached_at u) (sym same.0)))
      | inr other ↦
          ap (λ (y : BridgeView). y.attached) other.1
          ∙ (attached j was.was was.there ∙ sym (away j other.0))
    ]

attached_attached : (s : State) (i : ℕ) (a : Attachment) → AreAttached s.world s.views → AreAttached (with_attachment_at s.world i a) (changed_at (step (comes.attach a)) s.views i)
unfolding with_attachment_at
attached_attached s i a attached =
    attached_by (comes.attach a) s.world (with_attachment_at s.world i a) s.views i
    (λ v at. ap (λ (l : List Attachment). l ++ a ∷ []) (attached i v at) ∙ sym (pushed_here i s.world.attached a))
    (λ j apart. pushed_away i j s.world.attached a apart) attached

attached_detached : (s : State) (i port : ℕ) → AreAttached s.world s.views → AreAttached (without_attachment_at s.world i port) (changed_at (step (comes.detach port)) s.views i)
unfolding without_attachment_at
attached_detached s i port attached =
    attached_by (comes.detach port) s.world (without_attachment_at s.world i port) s.views i
    (λ v at. ap (without_customer_port port) (attached i v at) ∙ sym (fewer_here i port s.world.attached))
    (λ j apart. fewer_away i j port s.world.attached apart) attached

-- ---- the network

pub core_with_attachment : (s : State) (i : ℕ) (a : Attachment) → IsNewAttachment s.world (i, a) → IsCore s → IsCore (record s { world = with_attachment_at s.world i a })
unfolding with_attachment_at
core_with_attachment s i a new core = record {
  world = Sound-with_attachment s.world i a core.world new;
  distinct = record { bridges = core.distinct.bridges; sources = core.distinct.sources; links = core.distinct.links };
  fits = record { bridges = core.fits.bridges; lanes = core.fits.lanes; ports = core.fits.ports };
  shown = core.shown;
  views = core.views;
  short = core.short;
  idle = core.idle;
  agree = core.agree;
}

pub core_without_attachment : (s : State) (i port : ℕ) → IsCore s → IsCore (record s { world = without_attachment_at s.world i port })
unfolding without_attachment_at
core_without_attachment s i port core = record {
  world = Sound-without_attachment s.world i port core.world;
  distinct = record { bridges = core.distinct.bridges; sources = core.distinct.sources; links = core.distinct.links };
  fits = record { bridges = core.fits.bridges; lanes = core.fits.lanes; ports = core.fits.ports };
  shown = core.shown;
  views = core.views;
  short = core.short;
  idle = core.idle;
  agree = core.agree;
}

attached_after_step : (x : Input) (t : State) (i : ℕ) → AreAttached t.world (changed_at (step x) t.views i) → AreAttached (stepped x t i).world (stepped x t i).views
attached_after_step x t i attached =
    subst (λ (w : World). AreAttached w (stepped x t i).views) (sym (stepped_world x t i))
    (subst (AreAttached t.world) (sym (stepped_views x t i)) attached)

pub Sound-with_attached_port : (s : State) (i : ℕ) (a : Attachment) → IsNewAttachment s.world (i, a) → CanAttachAt s.views i a → IsSoundState s → IsSoundState (with_attached_port s i a)
unfolding with_attachment_at
Sound-with_attached_port s i a new can sound =
    let t : State = record s { world = with_attachment_at s.world i a } in
    let x : Input = comes.attach a in
    sound_from (stepped x t i)
    (core_stepped x t t.lanes i can (core_with_attachment s i a new (core_of s sound)) (alike_itself t) sound.short (λ k dir f among. among) (λ p f is. absurd cc))
    (stepped_carriers x t i refl sound.carriers) (stepped_with_metric x t i refl sound.metrics)
    (attached_after_step x t i (attached_attached s i a sound.attached))

found_sound : (s : State) (i port isid : ℕ) (mode : Mode) (o : Option Vid) → vid_of_isid s.world.services isid ≡ o → i < length s.world.bridges → attach_refusal s.world i port isid ≡ None → IsSoundState s → IsSoundState (attached_in_found s i port isid mode o)
found_sound s i port isid mode None found within none sound = sound
found_sound s i port isid mode (Some vid) found within none sound =
    Sound-with_attached_port s i (attachment_of port (record { value = isid }) vid mode) (new_attachment s i port isid vid mode within none found) (can_attach s i port isid vid mode sound none found) sound

pub Sound-port_attached : (s : State) (i port isid : ℕ) (mode : Mode) → i < length s.world.bridges → attach_refusal s.world i port isid ≡ None → IsSoundState s → IsSoundState (port_attached s i port isid mode)
unfolding port_attached
Sound-port_attached s i port isid mode within none sound = found_sound s i port isid mode (vid_of_isid s.world.services isid) refl within none sound

pub Sound-port_detached : (s : State) (i port : ℕ) → detach_refusal s.world i port ≡ None → IsSoundState s → IsSoundState (port_detached s i port)
unfolding port_detached without_attachment_at
Sound-port_detached s i port none sound =
    let t : State = record s { world = without_attachment_at s.world i port } in
    let x : Input = comes.detach port in
    sound_from (stepped x t i)
    (core_stepped x t t.lanes i (is_attached_port s i port sound none) (core_without_attachment s i port (core_of s sound)) (alike_itself t) sound.short (λ k dir f among. among) (λ p f is. absurd cc))
    (stepped_carriers x t i refl sound.carriers) (stepped_with_metric x t i refl sound.metrics)
    (attached_after_step x t i (attached_detached s i port sound.attached))

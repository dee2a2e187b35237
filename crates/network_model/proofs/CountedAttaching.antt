-- A customer port that is attached or detached takes the numbers of its bridge one further.
use Rattle.std.proofs.Common.{◌≡◌, ◌<◌, ◌+◌, ℕ, length, Option, Some, None, refl, arith}
use Rattle.spb_types.specs.declared.service.Attachment.{Attachment}
use Rattle.spb_types.specs.declared.service.Mode.{Mode}
use Rattle.spb_types.specs.declared.service.Vid.{Vid}
use Rattle.flooding.specs.Own.{last_number}
use Rattle.bridge_api.specs.Services.{attachment_of}
use Rattle.bridge_api.specs.Step as comes
use Rattle.bridge_api.specs.Step.{Input}
use Rattle.spb_world.specs.World.{vid_of_isid}
use Rattle.spb_world.specs.Attaching.{attach_refusal, detach_refusal, IsNewAttachment, with_attachment_at, without_attachment_at}
use Rattle.network_model.specs.State.{CanAttachAt, IsAttachedAt, State}
use Rattle.network_model.specs.Events.{stepped, with_attached_port, attached_in_found, port_attached, port_detached}
use Rattle.network_model.specs.Sound.{IsSoundState}
use Rattle.network_model.specs.Counted.{IsCountedBy}
use Rattle.network_model.proofs.SoundMoves.{IsCore}
use Rattle.network_model.proofs.SoundEvents.{core_of}
use Rattle.network_model.proofs.SoundAttaching.{new_attachment, can_attach, is_attached_port, core_with_attachment, core_without_attachment}
use Rattle.network_model.proofs.CountedGains.{gain_at}
use Rattle.network_model.proofs.CountedLinks.{IsTracked, tracked_from, counted_tracked, tracked_stepped, gain_one, same_counted}
use Rattle.network_model.proofs.CountedRounds.{counted_more}

-- one bridge is told what else is attached
attach_counted : (t : State) (n i : ℕ) (a : Attachment) → CanAttachAt t.views i a → IsTracked (λ j. n) t → n < last_number → IsCountedBy (n + 2) (stepped (comes.attach a) t i)
attach_counted t n i a can tracked low =
    let x : Input = comes.attach a in
    counted_tracked (λ j. n + gain_at i x j) (n + 2) (stepped x t i) (tracked_stepped x t (λ j. n) i can tracked (λ j. low) refl (λ v at. tt) (λ p f is. absurd cc)) (λ j.
    let small = gain_one i j x (omega arith) in omega (arith, small))

detach_counted : (t : State) (n i port : ℕ) → IsAttachedAt t.views i port → IsTracked (λ j. n) t → n < last_number → IsCountedBy (n + 2) (stepped (comes.detach port) t i)
detach_counted t n i port is tracked low =
    let x : Input = comes.detach port in
    counted_tracked (λ j. n + gain_at i x j) (n + 2) (stepped x t i) (tracked_stepped x t (λ j. n) i is tracked (λ j. low) refl (λ v at. tt) (λ p f same. absurd cc)) (λ j.
    let small = gain_one i j x (omega arith) in omega (arith, small))

with_port_counted : (s : State) (n i : ℕ) (a : Attachment) → IsNewAttachment s.world (i, a) → CanAttachAt s.views i a → IsCore s → IsCountedBy n s → n < last_number → IsCountedBy (n + 2) (with_attached_port s i a)
unfolding with_attachment_at
with_port_counted s n i a new can core counted low =
    attach_counted (record s { world = with_attachment_at s.world i a }) n i a can
    (same_counted (λ j. n) s (with_attachment_at s.world i a) (core_with_attachment s i a new core) refl (λ j. refl) (tracked_from n s core counted)) low

found_counted : (s : State) (n i port isid : ℕ) (mode : Mode) (o : Option Vid) → vid_of_isid s.world.services isid ≡ o → i < length s.world.bridges → attach_refusal s.world i port isid ≡ None → IsSoundState s → IsCountedBy n s → n < last_number → IsCountedBy (n + 2) (attached_in_found s i port isid mode o)
found_counted s n i port isid mode None found within none sound counted low = counted_more n (n + 2) s (omega arith) counted
found_counted s n i port isid mode (Some vid) found within none sound counted low =
    with_port_counted s n i (attachment_of port (record { value = isid }) vid mode) (new_attachment s i port isid vid mode within none found) (can_attach s i port isid vid mode sound none found) (core_of s sound) counted low

pub Counted-attached : (s : State) (n i port isid : ℕ) (mode : Mode) → i < length s.world.bridges → attach_refusal s.world i port isid ≡ None → IsSoundState s → IsCountedBy n s → n < last_number → IsCountedBy (n + 2) (port_attached s i port isid mode)
unfolding port_attached
Counted-attached s n i port isid mode within none sound counted low = found_counted s n i port isid mode (vid_of_isid s.world.services isid) refl within none sound counted low

pub Counted-detached : (s : State) (n i port : ℕ) → detach_refusal s.world i port ≡ None → IsSoundState s → IsCountedBy n s → n < last_number → IsCountedBy (n + 2) (port_detached s i port)
unfolding port_detached without_attachment_at
Counted-detached s n i port none sound counted low =
    detach_counted (record s { world = without_attachment_at s.world i port }) n i port (is_attached_port s i port sound none)
    (same_counted (λ j. n) s (without_attachment_at s.world i port) (core_without_attachment s i port (core_of s sound)) refl (λ j. refl) (tracked_from n s (core_of s sound) counted)) low

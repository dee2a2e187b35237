-- A customer's frame that enters keeps what is sound of a network.
use Rattle.std.proofs.Common.{◌≡◌, ◌≤◌, ℕ, true, ◌&&◌, List, length, None, refl}
use Rattle.spb_types.specs.declared.limits.TheConstants.{MOST_CUSTOMER_PORTS}
use Rattle.bridge_api.specs.Step as comes
use Rattle.bridge_api.specs.Customers.{IsCustomerFrame}
use Rattle.spb_world.specs.World.{World}
use Rattle.spb_world.specs.Attaching.{is_customer_port, is_customer_frame, is_sending, entry_refusal}
use Rattle.network_model.specs.State.{State}
use Rattle.network_model.specs.Events.{frame_entered}
use Rattle.network_model.specs.Sound.{IsSoundState}
use Rattle.spb_world.proofs.ListLemmas.{and-left, and-right}
use Rattle.network_model.proofs.FitsLemmas.{alike_itself}
use Rattle.spb_world.proofs.RefusalLemmas.{reason_unless-none, or-first, or-second, le-true}
use Rattle.network_model.proofs.SoundSteps.{IsInputAt}
use Rattle.network_model.proofs.SoundEvents.{stays_stepped}
use Rattle.network_model.proofs.SoundAttaching.{is_sending_port}

-- what the tests say
pub record IsEntry (w : World) (i port : ℕ) (bytes : List ℕ) : Type 0 where
  pub port_high : port ≤ MOST_CUSTOMER_PORTS
  pub frame : IsCustomerFrame bytes
  pub sending : is_sending w.attached i port ≡ true

pub entry_refusal_none : (w : World) (i port : ℕ) (bytes : List ℕ) → entry_refusal w i port bytes ≡ None → IsEntry w i port bytes
unfolding entry_refusal is_customer_port is_customer_frame
entry_refusal_none w i port bytes h =
    let range = reason_unless-none (is_customer_port port && is_customer_frame bytes) _ (or-first _ _ (or-first _ _ h)) in
    let frame = and-right (is_customer_port port) (is_customer_frame bytes) range in
    record {
      port_high = le-true port MOST_CUSTOMER_PORTS (and-right _ _ (and-left (is_customer_port port) (is_customer_frame bytes) range));
      frame = record { low = le-true 14 (length bytes) (and-left _ _ frame); high = le-true (length bytes) 2000 (and-right _ _ frame) };
      sending = reason_unless-none (is_sending w.attached i port) _ (or-second _ _ h);
    }

-- so it is what can come to the bridge
pub is_entry : (s : State) (i port : ℕ) (bytes : List ℕ) → IsSoundState s → entry_refusal s.world i port bytes ≡ None → IsInputAt s.views i (comes.customer port bytes)
is_entry s i port bytes sound none v at =
    let is : IsEntry s.world i port bytes = entry_refusal_none s.world i port bytes none in
    (is_sending_port s i port sound is.sending v at, is.frame)

pub Sound-frame_entered : (s : State) (i port : ℕ) (bytes : List ℕ) → entry_refusal s.world i port bytes ≡ None → IsSoundState s → IsSoundState (frame_entered s i port bytes)
Sound-frame_entered s i port bytes none sound =
    stays_stepped (comes.customer port bytes) s s.lanes i (is_entry s i port bytes sound none) refl refl refl sound (alike_itself s) sound.short (λ k dir f among. among) (λ p f is. absurd cc)

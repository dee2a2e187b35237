-- Service instances don't mix, and frames leave where they are received.
use Rattle.std.proofs.Common.{◌≡◌, ◌≢◌, ℕ, Bool, true, false, not, ◌&&◌, cond, eqb, List, [], ◌∷◌, inl, inr, Option, Some, None, refl, sym, ap, subst, ◌∙◌, if◌then◌else◌}
use Rattle.std.specs.List.{AllByRecursion}
use Rattle.std.proofs.lemmas.Bool.{false≢true}
use Rattle.std.proofs.Common.{eqb-true, eq-eqb, ltb}
use Rattle.spb_types.specs.Ascending.{placed}
use Rattle.spb_types.specs.Service.{receives}
use Rattle.spb_types.specs.Tables.{unicast_in, group_in}
use Rattle.spb_types.specs.declared.address.Mac.{Mac}
use Rattle.spb_types.specs.declared.service.Attachment.{Attachment}
use Rattle.spb_types.specs.declared.service.Isid.{Isid}
use Rattle.spb_types.specs.declared.tables.Tables.{Tables}
use Rattle.itag_frames.specs.Backbone.{backbone_bytes}
use Rattle.customer_learning.specs.Known.{Addresses, place_in}
use Rattle.customer_learning.specs.declared.place.Place.{Place}
use Rattle.customer_learning.specs.declared.place.Place.TheVariants.{Local, Remote}
use Rattle.forwarding.specs.declared.going.Going.{Going}
use Rattle.forwarding.specs.declared.going.Going.TheVariants.{Everywhere, AtPort, Behind}
use Rattle.forwarding.specs.declared.tenant.Tenant.{Tenant}
use Rattle.forwarding.specs.Ports.{attachment_of, but_for, is_in, is_mute, is_way, ports_in, is_receiver, receiving_ports}
use Rattle.forwarding.specs.Tenant.{Carried, after_backbone, after_customer, after_delivery, delivered, delivered_going, each_with, entered, entered_by, entered_going, going_by, going_of, group_of_service, is_group, is_received, left_of, of_customer, sent_to, sent_towards, to_of, unless_mute}
use Rattle.forwarding.specs.Laws.{IsAttachedTo, HasPlaces, LeavesInItsService, SentInItsService, DeliveredInItsService, IngressFailureChangesNothing}
use Rattle.forwarding.specs.Placed.{AreAttachedOnce}
use Rattle.forwarding.proofs.Places.{not_attached}
use Rattle.forwarding.specs.Receiving.{IsReceivingTo, LeavesWhereItIsReceived, DeliveredWhereItIsReceived}

all_placed : (P : ℕ → Type 0) (x : ℕ) (ys : List ℕ) → P x → AllByRecursion P ys → AllByRecursion P (placed (λ p. p) x ys)
all_placed P x [] h all = (h, tt)
all_placed P x (y ∷ ys) h all = at (ltb x y) (eqb x y) (all_placed P x ys h all.1)
  where
    at : (b c : Bool) → AllByRecursion P (placed (λ p. p) x ys) → AllByRecursion P (cond b (x ∷ y ∷ ys) (cond c (y ∷ ys) (y ∷ placed (λ p. p) x ys)))
    at true c r = (h, all)
    at false true r = all
    at false false r = (all.0, r)

weaker : {X : Type 0} (P Q : X → Type 0) (xs : List X) → ((x : X) → P x → Q x) → AllByRecursion P xs → AllByRecursion Q xs
weaker P Q [] k all = tt
weaker P Q (x ∷ xs) k all = (k x all.0, weaker P Q xs k all.1)

same_isid : (isid : Isid) (a : Attachment) → is_in isid a ≡ true → a.isid ≡ isid
same_isid isid a h = let value : a.isid.value ≡ isid.value = eqb-true a.isid.value isid.value h in λ i. record { value = value i }

both_true : (b c : Bool) → (b && c) ≡ true → (b ≡ true) × (c ≡ true)
both_true true true h = (refl, refl)
both_true true false h = absurd (false≢true h)
both_true false c h = absurd (false≢true h)

-- the receiving ports of an I-SID are attached to it and receive
all_receiving : (isid : Isid) (attached : List Attachment) → AllByRecursion (λ p. IsReceivingTo attached p isid) (receiving_ports isid attached)
all_receiving isid [] = tt
all_receiving isid (a ∷ attached) =
    let rest = weaker (λ p. IsReceivingTo attached p isid) (λ p. IsReceivingTo (a ∷ attached) p isid) (receiving_ports isid attached) (λ p h. inr h) (all_receiving isid attached) in
    (elim (is_receiver isid a) as (λ b. is_receiver isid a ≡ b → AllByRecursion (λ p. IsReceivingTo (a ∷ attached) p isid) (receiving_ports isid (a ∷ attached))) [
      | true ↦ λ h. let both = both_true (is_in isid a) (receives a.mode) h in
          rw h (all_placed (λ p. IsReceivingTo (a ∷ attached) p isid) a.port (receiving_ports isid attached) (inl (refl, same_isid isid a both.0, both.1)) rest)
      | false ↦ λ h. rw h rest
    ]) refl

receiving_attached : (isid : Isid) (attached : List Attachment) (p : ℕ) → IsReceivingTo attached p isid → IsAttachedTo attached p isid
receiving_attached isid [] p h = h
receiving_attached isid (a ∷ attached) p (inl h) = inl (h.0, h.1)
receiving_attached isid (a ∷ attached) p (inr h) = inr (receiving_attached isid attached p h)

all_attached : (isid : Isid) (attached : List Attachment) → AllByRecursion (λ p. IsAttachedTo attached p isid) (receiving_ports isid attached)
all_attached isid attached = weaker _ _ (receiving_ports isid attached) (receiving_attached isid attached) (all_receiving isid attached)

-- ports but for one
others : (P : ℕ → Type 0) (port : ℕ) (ps : List ℕ) → AllByRecursion P ps → AllByRecursion (λ p. P p × (p ≢ port)) (but_for port ps)
others P port [] all = tt
others P port (p ∷ ps) all = (elim (eqb p port) as (λ b. eqb p port ≡ b → AllByRecursion (λ q. P q × (q ≢ port)) (but_for port (p ∷ ps))) [
  | true ↦ λ h. rw h (others P port ps all.1)
  | false ↦ λ h. rw h ((all.0, λ e. false≢true (sym h ∙ eq-eqb p port e)), others P port ps all.1)
]) refl

copies : (P : ℕ → Type 0) (Q : ℕ × List ℕ → Type 0) (frame : List ℕ) (ps : List ℕ) → ((p : ℕ) → P p → Q (p, frame)) → AllByRecursion P ps → AllByRecursion Q (each_with frame ps)
copies P Q frame [] k all = tt
copies P Q frame (p ∷ ps) k all = (k p all.0, copies P Q frame ps k all.1)

always : (P : ℕ → Type 0) (ps : List ℕ) → ((p : ℕ) → P p) → AllByRecursion P ps
always P [] k = tt
always P (p ∷ ps) k = (k p, always P ps k)

-- a frame goes to a port because its destination was learned there
going_local : (o : Option Place) (q : ℕ) → going_by o ≡ AtPort q → o ≡ Some (Local q)
going_local None q e = absurd cc
going_local (Some (Local p)) q e = let same : p ≡ q = cc in ap (λ (r : ℕ). Some (Local r)) same
going_local (Some (Remote m)) q e = absurd cc

going_place : (learned : Addresses) (isid : Isid) (da : Mac) (q : ℕ) (b : Bool) → (if b then Everywhere else going_by (place_in learned isid da)) ≡ AtPort q → place_in learned isid da ≡ Some (Local q)
going_place learned isid da q true e = absurd cc
going_place learned isid da q false e = going_local (place_in learned isid da) q e

found_port : (port : ℕ) (attached : List Attachment) (a : Attachment) → attachment_of port attached ≡ Some a → a.port ≡ port
found_port port [] a h = absurd cc
found_port port (b ∷ attached) a h = (elim (eqb b.port port) as (λ c. eqb b.port port ≡ c → a.port ≡ port) [
  | true ↦ λ t. let e = rw t at h in let same : b ≡ a = cc in subst (λ (x : Attachment). x.port ≡ port) same (eqb-true b.port port t)
  | false ↦ λ t. found_port port attached a (rw t at h)
]) refl

-- a port, unless it doesn't receive
unless_silent : (P : ℕ → Type 0) (t : Tenant) (q : ℕ) → (is_mute q t.attached ≡ false → P q) → AllByRecursion P (unless_mute t q)
unless_silent P t q k = by (is_mute q t.attached) refl
  where
    by : (b : Bool) → is_mute q t.attached ≡ b → AllByRecursion P (if b then [] else q ∷ [])
    by true h = tt
    by false h = (k h, tt)

not_false : (b : Bool) → not b ≡ false → b ≡ true
not_false true h = refl
not_false false h = absurd (false≢true (sym h))

-- the first attachment at a port, that receives
first_receives : (q : ℕ) (attached : List Attachment) (a : Attachment) → attachment_of q attached ≡ Some a → receives a.mode ≡ true → IsReceivingTo attached q a.isid
first_receives q [] a h r = absurd cc
first_receives q (b ∷ attached) a h r = (elim (eqb b.port q) as (λ c. eqb b.port q ≡ c → IsReceivingTo (b ∷ attached) q a.isid) [
  | true ↦ λ t. let e = rw t at h in let same : b ≡ a = cc in inl (eqb-true b.port q t, ap (λ (x : Attachment). x.isid) same, subst (λ (x : Attachment). receives x.mode ≡ true) (sym same) r)
  | false ↦ λ t. inr (first_receives q attached a (rw t at h) r)
]) refl

-- a port of an I-SID that isn't mute receives in it
not_mute : (attached : List Attachment) (q : ℕ) (isid : Isid) → AreAttachedOnce attached → IsAttachedTo attached q isid → is_mute q attached ≡ false → IsReceivingTo attached q isid
not_mute attached q isid once at quiet = by (attachment_of q attached) refl
  where
    by : (o : Option Attachment) → attachment_of q attached ≡ o → IsReceivingTo attached q isid
    by None e = absurd (not_attached q attached e isid at)
    by (Some a) e =
        let r : not (receives a.mode) ≡ false = rw e at quiet in
        let here = first_receives q attached a e (not_false (receives a.mode) r) in
        subst (λ (i : Isid). IsReceivingTo attached q i) (once q a.isid isid (receiving_attached a.isid attached q here) at) here

-- ---- a customer's frame

towards_left : (Q : ℕ × List ℕ → Type 0) (t : Tenant) (a : Attachment) (frame : List ℕ) (m : Mac) (o : Option ℕ) → AllByRecursion Q (sent_towards t a frame m o).left
towards_left Q t a frame m None = tt
towards_left Q t a frame m (Some p) = tt

-- it leaves as it came, at other ports, all of which are as its receiving ports are and the one where it was learned
leaves : (P : ℕ → Type 0) (t : Tenant) (tables : Tables) (a : Attachment) (frame : List ℕ) (g : Going) → AllByRecursion P (receiving_ports a.isid t.attached)
    → ((q : ℕ) → g ≡ AtPort q → AllByRecursion P (unless_mute t q))
    → AllByRecursion (λ s. P s.0 × (s.0 ≢ a.port) × (s.1 ≡ frame)) (entered_going t tables a frame g).left
leaves P t tables a frame Everywhere all one =
    copies (λ p. P p × (p ≢ a.port)) _ frame (but_for a.port (receiving_ports a.isid t.attached)) (λ p h. (h.0, h.1, refl)) (others P a.port (receiving_ports a.isid t.attached) all)
leaves P t tables a frame (AtPort q) all one =
    copies (λ p. P p × (p ≢ a.port)) _ frame (but_for a.port (unless_mute t q)) (λ p h. (h.0, h.1, refl)) (others P a.port (unless_mute t q) (one q refl))
leaves P t tables a frame (Behind m) all one = towards_left _ t a frame m (unicast_in tables.unicast a.vid m)

-- where it was learned is a port of its I-SID
learned_there : (t : Tenant) (isid : Isid) (frame : List ℕ) (q : ℕ) → HasPlaces t → going_of t.learned isid (to_of frame) ≡ AtPort q → IsAttachedTo t.attached q isid
learned_there t isid frame q places e = places isid (to_of frame) q (going_place t.learned isid (to_of frame) q (is_group (to_of frame)) e)

-- what leaves of a frame that entered, by what was found at its port
by_entry : (Q : ℕ × List ℕ → Type 0) (t : Tenant) (tables : Tables) (port : ℕ) (frame : List ℕ) (a : Attachment) → attachment_of port t.attached ≡ Some a
    → AllByRecursion Q (entered (after_customer t port frame) tables a frame).left → AllByRecursion Q (of_customer t tables port frame).left
by_entry Q t tables port frame a is all =
    subst (λ (o : Option Attachment). AllByRecursion Q (entered_by (after_customer t port frame) tables frame o).left) (sym is) all

pub leaves_in_its_service : LeavesInItsService
leaves_in_its_service t tables port frame a is places =
    let after : Tenant = after_customer t port frame in
    let all = leaves (λ p. IsAttachedTo t.attached p a.isid) after tables a frame (going_of after.learned a.isid (to_of frame)) (all_attached a.isid t.attached)
    (λ q e. unless_silent _ after q (λ quiet. learned_there after a.isid frame q places e)) in
    by_entry _ t tables port frame a is (subst (λ (p : ℕ). AllByRecursion (λ s. IsAttachedTo t.attached s.0 a.isid × (s.0 ≢ p) × (s.1 ≡ frame)) (entered after tables a frame).left) (found_port port t.attached a is) all)

pub leaves_where_it_is_received : LeavesWhereItIsReceived
leaves_where_it_is_received t tables port frame a is once places =
    let after : Tenant = after_customer t port frame in
    let all = leaves (λ p. IsReceivingTo t.attached p a.isid) after tables a frame (going_of after.learned a.isid (to_of frame)) (all_receiving a.isid t.attached)
    (λ q e. unless_silent _ after q (not_mute t.attached q a.isid once (learned_there after a.isid frame q places e))) in
    by_entry _ t tables port frame a is (weaker _ (λ s. IsReceivingTo t.attached s.0 a.isid) (entered after tables a frame).left (λ s h. h.0) all)

sent_all : (t : Tenant) (a : Attachment) (frame : List ℕ) (da : Mac) (ps : List ℕ) → AllByRecursion (λ s. (m : Mac) × (s.1 ≡ backbone_bytes m t.me a.vid a.isid frame)) (sent_to t a frame da ps)
sent_all t a frame da ps = copies (λ p. Unit {0}) _ (backbone_bytes da t.me a.vid a.isid frame) ps (λ p h. (da, refl)) (always (λ p. Unit {0}) ps (λ p. tt))

towards_sent : (t : Tenant) (a : Attachment) (frame : List ℕ) (m : Mac) (o : Option ℕ) → AllByRecursion (λ s. (da : Mac) × (s.1 ≡ backbone_bytes da t.me a.vid a.isid frame)) (sent_towards t a frame m o).wire
towards_sent t a frame m None = tt
towards_sent t a frame m (Some p) = ((m, refl), tt)

sends : (t : Tenant) (tables : Tables) (a : Attachment) (frame : List ℕ) (g : Going) → AllByRecursion (λ s. (da : Mac) × (s.1 ≡ backbone_bytes da t.me a.vid a.isid frame)) (entered_going t tables a frame g).wire
sends t tables a frame Everywhere = sent_all t a frame (group_of_service t a) (ports_in (group_in tables.group a.vid (group_of_service t a)))
sends t tables a frame (AtPort q) = tt
sends t tables a frame (Behind m) = towards_sent t a frame m (unicast_in tables.unicast a.vid m)

pub sent_in_its_service : SentInItsService
sent_in_its_service t tables port frame a is =
    let after : Tenant = after_customer t port frame in
    subst (λ (o : Option Attachment). AllByRecursion (λ s. (da : Mac) × (s.1 ≡ backbone_bytes da t.me a.vid a.isid frame)) (entered_by after tables frame o).wire) (sym is) (sends after tables a frame (going_of after.learned a.isid (to_of frame)))

-- ---- a backbone frame

delivers : (P : ℕ → Type 0) (t : Tenant) (f : Carried) (g : Going) → AllByRecursion P (receiving_ports f.isid t.attached)
    → ((q : ℕ) → g ≡ AtPort q → AllByRecursion P (unless_mute t q))
    → AllByRecursion (λ s. P s.0 × (s.1 ≡ f.customer)) (delivered_going t f g)
delivers P t f Everywhere all one = copies P _ f.customer (receiving_ports f.isid t.attached) (λ p h. (h, refl)) all
delivers P t f (AtPort q) all one = copies P _ f.customer (unless_mute t q) (λ p h. (h, refl)) (one q refl)
delivers P t f (Behind m) all one = tt

-- if it is taken up at all
if_taken : (Q : ℕ × List ℕ → Type 0) (t : Tenant) (f : Carried) (taken : Bool) → AllByRecursion Q (delivered (after_delivery taken t f) f) → AllByRecursion Q (left_of taken t f)
if_taken Q t f true all = all
if_taken Q t f false all = tt

pub delivered_in_its_service : DeliveredInItsService
delivered_in_its_service t tables port f whole places =
    let after : Tenant = after_backbone t tables port f in
    if_taken _ t f (is_received t tables port f) (delivers (λ p. IsAttachedTo t.attached p f.isid) after f (going_of after.learned f.isid (to_of f.customer)) (all_attached f.isid t.attached)
    (λ q e. unless_silent _ after q (λ quiet. learned_there after f.isid f.customer q places e)))

pub delivered_where_it_is_received : DeliveredWhereItIsReceived
delivered_where_it_is_received t tables port f whole once places =
    let after : Tenant = after_backbone t tables port f in
    let all = delivers (λ p. IsReceivingTo t.attached p f.isid) after f (going_of after.learned f.isid (to_of f.customer)) (all_receiving f.isid t.attached)
    (λ q e. unless_silent _ after q (not_mute t.attached q f.isid once (learned_there after f.isid f.customer q places e))) in
    if_taken _ t f (is_received t tables port f) (weaker _ (λ s. IsReceivingTo t.attached s.0 f.isid) (delivered after f) (λ s h. h.0) all)

no_way : (port : ℕ) (o : Option ℕ) → (o ≡ Some port → ⊥) → is_way port o ≡ false
no_way port None h = refl
no_way port (Some p) h = at (eqb p port) refl
  where
    at : (b : Bool) → eqb p port ≡ b → eqb p port ≡ false
    at false e = e
    at true e = absurd (h (ap (λ (q : ℕ). Some q) (eqb-true p port e)))

pub ingress_failure : IngressFailureChangesNothing
ingress_failure t tables port f whole fails =
    let none : is_way port (unicast_in tables.unicast f.vid f.sa) ≡ false = no_way port (unicast_in tables.unicast f.vid f.sa) fails in
    (rw none refl, rw none refl)

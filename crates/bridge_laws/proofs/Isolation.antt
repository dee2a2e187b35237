-- Service instances don't mix at a bridge.
use Rattle.std.proofs.Common.{◌≡◌, ◌≢◌, inl, inr, ℕ, ◌+◌, Bool, true, false, List, [], ◌∷◌, ◌++◌, map, Option, Some, None, refl, sym, ap, ◌∙◌, subst}
use Rattle.std.specs.Prelude.{if◌then◌else◌}
use Rattle.std.specs.List.{AllByRecursion}
use Rattle.std.specs.FinMap.{empty, get-empty}
use Rattle.std.proofs.lemmas.Bool.{true≢false}
use Rattle.spb_types.specs.declared.address.Mac.{Mac}
use Rattle.spb_types.specs.declared.address.SystemId.{SystemId}
use Rattle.spb_types.specs.declared.service.Attachment.{Attachment}
use Rattle.spb_types.specs.declared.service.Isid.{Isid}
use Rattle.spb_types.specs.declared.service.Vid.{Vid}
use Rattle.isis_pdu.specs.Pdu.{LspValue, CsnpValue, PsnpValue}
use Rattle.isis_pdu.specs.Spelling.{hello_bytes, lsp_bytes, csnp_bytes, psnp_bytes}
use Rattle.spb_tlvs.proofs.Numbers.{weaker}
use Rattle.itag_frames.specs.Backbone.{backbone_bytes}
use Rattle.customer_learning.specs.Known.{isid_cmp, Addresses, or_none, known_in}
use Rattle.customer_learning.specs.declared.place.Place.{Place}
use Rattle.lsdb.specs.Database.{Lsps}
use Rattle.flooding.specs.Sending.{lsps_to_send}
use Rattle.snp_sync.specs.Sending.{csnps_of, psnps_of}
use Rattle.spb_content.proofs.Members.{all_append}
use Rattle.forwarding.specs.declared.tenant.Tenant.{Tenant}
use Rattle.forwarding.specs.Ports.{attachment_of}
use Rattle.forwarding.specs.Tenant.{Carried, after_backbone, after_customer, entered_by, nothing, of_backbone, of_customer}
use Rattle.forwarding.specs.Laws.{IsAttachedTo}
use Rattle.forwarding.specs.Placed.{IsPlaceIn, ArePlaced, AreAttachedOnce}
use Rattle.forwarding.proofs.Apart.{leaves_in_its_service, delivered_in_its_service}
use Rattle.forwarding.proofs.Places.{placed_is_found, entry_keeps_places, delivery_keeps_places, attaching_keeps_places, detaching_keeps_places}
use Rattle.bridge_api.specs.declared.port.BridgePort.{BridgePort}
use Rattle.bridge_api.specs.View.{BridgeView, port_at, is_port_up}
use Rattle.bridge_api.specs.Tables.{own_tables}
use Rattle.bridge_api.specs.Config.{AgreesWith, ArePairwise, configured}
use Rattle.bridge_api.specs.Customers.{tenant_of, with_learned, carried_by, after_entry, moved_as, moved_at, moved_by_entry, moved_by_receive}
use Rattle.bridge_api.specs.Parsing.{Parsed, parsed, is_carrying}
use Rattle.bridge_api.specs.Parsing as parsing
use Rattle.bridge_api.specs.Hearing.{after_receive}
use Rattle.bridge_api.specs.Services.{with_port_forgotten}
use Rattle.bridge_api.specs.Ticking.{readied, hello_at, hello_frame, lsp_frame, csnp_frame, psnp_frame, hellos_at, summaries_at, lsps_at, requests_at, synced_at, sent_at, after_sending_at, sent_from, sent_in_tick}
use Rattle.bridge_api.specs.Step.{Input, second, frame, carrier, metric, attach, detach, customer}
use Rattle.bridge_api.specs.Laws.{IsSoundView}
use Rattle.bridge_laws.specs.Apart.{Brings, CarriesEntered, LeavesEntered, SentHasEntered, LeftHasEntered, ConfiguredIsPlaced, StepsKeepPlaces}
use Rattle.bridge_api.proofs.Attached.{with_attached_after}
use Rattle.bridge_api.proofs.Carried.{control_carries_none, encapsulated_is_taken}
use Rattle.bridge_api.proofs.Certified.{step_rest}
use Rattle.bridge_api.proofs.Changes.{frame_learns, nothing_new, from_customer}
use Rattle.bridge_api.proofs.Learned.{learned_first}
use Rattle.bridge_laws.proofs.Forwarded.{Relays, relays, Encapsulates, encapsulates}

-- ---- what is sent in a second carries no customer's frame

abbrev pub CarriesNone : List ℕ → Type 0
CarriesNone bytes = is_carrying (parsed bytes) ≡ false

hello_carries_none : (system : SystemId) (p : ℕ) (port : BridgePort) → CarriesNone (hello_frame system p port)
unfolding hello_frame
hello_carries_none system p port = control_carries_none system.mac (hello_bytes (hello_at system p port))

lsp_carries_none : (system : SystemId) (l : LspValue) → CarriesNone (lsp_frame system l)
unfolding lsp_frame
lsp_carries_none system l = control_carries_none system.mac (lsp_bytes l)

csnp_carries_none : (system : SystemId) (c : CsnpValue) → CarriesNone (csnp_frame system c)
unfolding csnp_frame
csnp_carries_none system c = control_carries_none system.mac (csnp_bytes c)

psnp_carries_none : (system : SystemId) (s : PsnpValue) → CarriesNone (psnp_frame system s)
unfolding psnp_frame
psnp_carries_none system s = control_carries_none system.mac (psnp_bytes s)

abbrev pub AllCarryNone : List (ℕ × List ℕ) → Type 0
AllCarryNone frames = AllByRecursion (λ s. CarriesNone s.1) frames

each_carries_none : {X : Type 0} (f : X → List ℕ) (k : ℕ) (xs : List X) → ((x : X) → CarriesNone (f x)) → AllCarryNone (map (λ x. (k, f x)) xs)
each_carries_none f k [] none = tt
each_carries_none f k (x ∷ xs) none = (none x, each_carries_none f k xs none)

none_where : (b : Bool) (frames : List (ℕ × List ℕ)) → AllCarryNone frames → AllCarryNone (if b then frames else [])
none_where true frames all = all
none_where false frames all = tt

none_in_both : (xs ys : List (ℕ × List ℕ)) → AllCarryNone xs → AllCarryNone ys → AllCarryNone (xs ++ ys)
none_in_both xs ys first next = all_append (λ s. CarriesNone s.1) xs ys first next

synced_carry_none : (system : SystemId) (p : ℕ) (port : BridgePort) (db : Lsps) → AllCarryNone (synced_at system p port db)
synced_carry_none system p port db =
    none_where (is_port_up port) (summaries_at system p port db ++ lsps_at system p db ++ requests_at system p db)
    (none_in_both (summaries_at system p port db ++ lsps_at system p db) (requests_at system p db)
    (none_in_both (summaries_at system p port db) (lsps_at system p db)
    (none_where port.csnp_due (map (λ c. (p, csnp_frame system c)) (csnps_of system db)) (each_carries_none (csnp_frame system) p (csnps_of system db) (csnp_carries_none system)))
    (each_carries_none (lsp_frame system) p (lsps_to_send db p) (lsp_carries_none system)))
    (each_carries_none (psnp_frame system) p (psnps_of system p db) (psnp_carries_none system)))

sent_from_carries_none : (system : SystemId) (p : ℕ) (ports : List BridgePort) (db : Lsps) → AllCarryNone (sent_from system p ports db)
sent_from_carries_none system p [] db = tt
sent_from_carries_none system p (port ∷ ports) db =
    none_in_both (sent_at system p port db) (sent_from system (p + 1) ports (after_sending_at p port db))
    (none_in_both (hellos_at system p port) (synced_at system p port db)
    (none_where port.adjacency.carrier ((p, hello_frame system p port) ∷ []) (hello_carries_none system p port, tt))
    (synced_carry_none system p port db))
    (sent_from_carries_none system (p + 1) ports (after_sending_at p port db))

pub second_carries_none : (v : BridgeView) → AllCarryNone (sent_in_tick v)
unfolding sent_in_tick
second_carries_none v = let r : BridgeView = readied v in sent_from_carries_none r.id.system 1 r.ports r.database

none_carried : (HasEntered : Isid → List ℕ → Type 0) (bytes : List ℕ) → CarriesNone bytes → CarriesEntered HasEntered bytes
none_carried HasEntered bytes none da sa vid isid f is = absurd (true≢false (sym (ap is_carrying is) ∙ none))

-- ---- what is sent

relayed_has_entered : (v : BridgeView) (q : ℕ) (bytes sent : List ℕ) → Relays bytes sent → CarriesEntered (Brings v (frame q bytes)) sent
relayed_has_entered v q bytes sent r da sa vid isid f is = record { to = da; from = sa; vid = vid; carried = ap parsed (sym r.same) ∙ is }

encapsulated_has_entered : (v : BridgeView) (q : ℕ) (bytes sent : List ℕ) → Encapsulates v q bytes sent → CarriesEntered (Brings v (customer q bytes)) sent
encapsulated_has_entered v q bytes sent e da sa vid isid f is =
    let me : Mac = v.id.system.mac in
    let a : Attachment = e.attachment in
    let taken : parsed (backbone_bytes e.da me a.vid a.isid bytes) ≡ parsing.customer da sa vid isid f = ap parsed (sym e.is) ∙ is in
    elim (encapsulated_is_taken e.da me a.vid a.isid bytes e.can) [
      | inl none ↦ let wrong = sym none ∙ taken in absurd cc
      | inr one ↦
          let same : parsing.customer e.da me a.vid a.isid bytes ≡ parsing.customer da sa vid isid f = sym one ∙ taken in
          record { attachment = a; attached = e.attached; service = cc; entered = cc }
    ]

pub sent_has_entered : SentHasEntered
sent_has_entered second v is was = weaker (λ s. CarriesNone s.1) (λ s. CarriesEntered (Brings v second) s.1) (sent_in_tick v) (λ s none. none_carried (Brings v second) s.1 none) (second_carries_none v)
sent_has_entered (frame q bytes) v is was =
    weaker (λ s. Relays bytes s.1) (λ s. CarriesEntered (Brings v (frame q bytes)) s.1) (moved_by_receive q bytes v).wire (λ s r. relayed_has_entered v q bytes s.1 r) (relays q bytes v)
sent_has_entered (carrier q on) v is was = tt
sent_has_entered (metric q m) v is was = tt
sent_has_entered (attach a) v is was = tt
sent_has_entered (detach p) v is was = tt
sent_has_entered (customer q bytes) v is was =
    weaker (λ s. Encapsulates v q bytes s.1) (λ s. CarriesEntered (Brings v (customer q bytes)) s.1) (moved_by_entry q bytes v).wire (λ s e. encapsulated_has_entered v q bytes s.1 e) (encapsulates q bytes v is.1 was)

-- ---- what leaves

module _ (q : ℕ) (bytes : List ℕ) (v : BridgeView) (placed : ArePlaced (tenant_of v)) where
  abbrev Leaves : Input → List (ℕ × List ℕ) → Type 0
  Leaves input frames = AllByRecursion (λ s. LeavesEntered (Brings v input) v s.0 s.1) frames

  delivered_entered : (da sa : Mac) (vid : Vid) (isid : Isid) (f : List ℕ) → parsed bytes ≡ parsing.customer da sa vid isid f
      → Leaves (frame q bytes) (of_backbone (tenant_of v) (own_tables v) q (carried_by da sa vid isid f) bytes).left
  delivered_entered da sa vid isid f is =
      let t : Tenant = tenant_of v in
      let c : Carried = carried_by da sa vid isid f in
      weaker (λ s. IsAttachedTo v.attached s.0 isid × (s.1 ≡ f)) (λ s. LeavesEntered (Brings v (frame q bytes)) v s.0 s.1) (of_backbone t (own_tables v) q c bytes).left
      (λ s h. record { isid = isid; attached = h.0; entered = record { to = da; from = sa; vid = vid; carried = is ∙ ap (λ (g : List ℕ). parsing.customer da sa vid isid g) (sym h.1) } })
      (delivered_in_its_service t (own_tables v) q c bytes (placed_is_found (after_backbone t (own_tables v) q c) (delivery_keeps_places t (own_tables v) q c placed)))

  left_as : (j : Parsed) → parsed bytes ≡ j → Leaves (frame q bytes) (moved_as j q bytes v).left
  left_as (parsing.dropped reason) is = tt
  left_as (parsing.hello h way) is = tt
  left_as (parsing.lsp l) is = tt
  left_as (parsing.csnp c) is = tt
  left_as (parsing.psnp s) is = tt
  left_as (parsing.customer da sa vid isid f) is = delivered_entered da sa vid isid f is

  left_if : (has_carrier : Bool) → Leaves (frame q bytes) (if has_carrier then moved_as (parsed bytes) q bytes v else nothing).left
  left_if true = left_as (parsed bytes) refl
  left_if false = tt

  left_at : (o : Option BridgePort) → Leaves (frame q bytes) (moved_at q bytes o v).left
  left_at None = tt
  left_at (Some port) = left_if port.adjacency.carrier

  frame_left : Leaves (frame q bytes) (moved_by_receive q bytes v).left
  unfolding moved_by_receive
  frame_left = left_at (port_at v q)

  entry_left_by : (o : Option Attachment) → attachment_of q v.attached ≡ o → Leaves (customer q bytes) (of_customer (tenant_of v) (own_tables v) q bytes).left
  entry_left_by None at =
      subst (λ (o : Option Attachment). Leaves (customer q bytes) (entered_by (after_customer (tenant_of v) q bytes) (own_tables v) bytes o).left) (sym at) tt
  entry_left_by (Some a) at =
      let t : Tenant = tenant_of v in
      weaker (λ s. IsAttachedTo v.attached s.0 a.isid × (s.0 ≢ q) × (s.1 ≡ bytes)) (λ s. LeavesEntered (Brings v (customer q bytes)) v s.0 s.1) (of_customer t (own_tables v) q bytes).left
      (λ s h. record { isid = a.isid; attached = h.0; entered = record { attachment = a; attached = at; service = refl; entered = sym h.2 } })
      (leaves_in_its_service t (own_tables v) q bytes a at (placed_is_found (after_customer t q bytes) (entry_keeps_places t q bytes placed)))

  entry_left : Leaves (customer q bytes) (moved_by_entry q bytes v).left
  unfolding moved_by_entry
  entry_left = entry_left_by (attachment_of q v.attached) refl

pub left_has_entered : LeftHasEntered
left_has_entered second v placed = tt
left_has_entered (frame q bytes) v placed = frame_left q bytes v placed
left_has_entered (carrier q on) v placed = tt
left_has_entered (metric q m) v placed = tt
left_has_entered (attach a) v placed = tt
left_has_entered (detach p) v placed = tt
left_has_entered (customer q bytes) v placed = entry_left q bytes v placed

-- ---- places

not_later : (a : Attachment) (attached : List Attachment) (port : ℕ) (isid : Isid) → AllByRecursion (AgreesWith a) attached → a.port ≡ port → IsAttachedTo attached port isid → ⊥
not_later a [] port isid all same at = at
not_later a (b ∷ attached) port isid all same (inl here) = all.0.ports (same ∙ sym here.0)
not_later a (b ∷ attached) port isid all same (inr later) = not_later a attached port isid all.1 same later

attached_once : (attached : List Attachment) → ArePairwise AgreesWith attached → AreAttachedOnce attached
attached_once [] apart port isid other at again = absurd at
attached_once (a ∷ attached) apart port isid other (inl here) (inl there) = sym here.1 ∙ there.1
attached_once (a ∷ attached) apart port isid other (inl here) (inr later) = absurd (not_later a attached port other apart.0 here.0 later)
attached_once (a ∷ attached) apart port isid other (inr later) (inl here) = absurd (not_later a attached port isid apart.0 here.0 later)
attached_once (a ∷ attached) apart port isid other (inr at) (inr again) = attached_once attached apart.1 port isid other at again

frame_placed : (q : ℕ) (bytes : List ℕ) (v : BridgeView) → ArePlaced (tenant_of v) → ArePlaced (tenant_of (with_learned (after_receive q bytes v).learned v))
frame_placed q bytes v placed =
    elim (frame_learns v q bytes) [
      | nothing_new e ↦ subst (λ (learned : Addresses). ArePlaced (tenant_of (with_learned learned v))) (sym e) placed
      | from_customer da sa vid isid f is e ↦
          subst (λ (learned : Addresses). ArePlaced (tenant_of (with_learned learned v))) (sym e) (delivery_keeps_places (tenant_of v) (own_tables v) q (carried_by da sa vid isid f) placed)
    ]

placed_after : (input : Input) (v : BridgeView) → IsSoundView v → ArePlaced (tenant_of v) → ArePlaced (tenant_of (with_attached_after input v))
unfolding after_entry with_port_forgotten
placed_after second v was placed = placed
placed_after (frame q bytes) v was placed = frame_placed q bytes v placed
placed_after (carrier q on) v was placed = placed
placed_after (metric q m) v was placed = placed
placed_after (attach a) v was placed = attaching_keeps_places (tenant_of v) a placed
placed_after (detach p) v was placed = detaching_keeps_places (tenant_of v) p (attached_once v.attached was.config.attachments_apart) placed
placed_after (customer p bytes) v was placed = entry_keeps_places (tenant_of v) p bytes placed

none_placed : (v : BridgeView) → v.learned ≡ empty → ArePlaced (tenant_of v)
none_placed v none isid =
    let known : known_in v.learned isid ≡ [] = ap (λ (learned : Addresses). known_in learned isid) none ∙ ap or_none (get-empty isid_cmp isid) in
    subst (λ (es : List (Mac × Place)). AllByRecursion (λ e. IsPlaceIn v.attached isid e.1) es) (sym known) tt

pub configured_is_placed : ConfiguredIsPlaced
configured_is_placed c = none_placed (configured c) (learned_first c)

pub steps_keep_places : StepsKeepPlaces
steps_keep_places input v was placed = subst (λ (u : BridgeView). ArePlaced (tenant_of u)) (sym (step_rest input v)) (placed_after input v was placed)

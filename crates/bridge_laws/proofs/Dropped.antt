-- A frame that is dropped raises one count, and nothing else raises another.
use Rattle.std.proofs.Common.{◌≡◌, inl, inr, ℕ, Bool, true, false, List, [], ◌∷◌, refl, sym, ap, ◌∙◌, subst, Option, Some, None, Result, Ok, Err, arith}
use Rattle.std.specs.Prelude.{◌++◌, if◌then◌else◌}
use Rattle.spb_types.specs.declared.address.Mac.{Mac}
use Rattle.spb_types.specs.declared.service.Attachment.{Attachment}
use Rattle.spb_types.specs.declared.tables.Tables.{Tables}
use Rattle.spb_types.specs.Tables.{unicast_in}
use Rattle.isis_pdu.specs.Pdu.{LspValue, CsnpValue}
use Rattle.spb_tlvs.specs.declared.error.TlvError.{TlvError}
use Rattle.spb_tlvs.specs.declared.entries.SnpEntry.{SnpEntry}
use Rattle.flooding.specs.Hearing.{claim_of, lsp_rule, hear_lsp_of, is_full_for_lsp}
use Rattle.flooding.proofs.Claimed.{full_stands}
use Rattle.snp_sync.specs.Reading.{entries_in}
use Rattle.snp_sync.specs.Hearing.{full_count}
use Rattle.adjacency.specs.declared.state.AdjacencyChange.{AdjacencyChange}
use Rattle.adjacency.specs.declared.state.AdjacencyChange.TheVariants as did
use Rattle.adjacency.specs.declared.port.Adjacency.{Adjacency}
use Rattle.adjacency.specs.Adjacency.{after_hello, change_by_hello, after_carrier, change_of, down}
use Rattle.spb_types.specs.declared.drop_reason.DropReason.{DropReason}
use Rattle.spb_types.specs.declared.drop_reason.DropReason.TheVariants as drop
use Rattle.forwarding.specs.declared.going.Going.{Going}
use Rattle.forwarding.specs.declared.going.Going.TheVariants as going
use Rattle.forwarding.specs.declared.moved.Moved.{Moved}
use Rattle.forwarding.specs.declared.step.Step.{Step}
use Rattle.forwarding.specs.declared.step.Step.TheVariants as steps
use Rattle.forwarding.specs.declared.tenant.Tenant.{Tenant}
use Rattle.forwarding.specs.Tenant.{Carried, nothing, dropped_by, step_of, relayed_at, each_with, is_delivered, is_taken, after_delivery, left_of, after_customer, entered_by, entered_going, going_of, to_of, sent_towards}
use Rattle.bridge_api.specs.declared.port.BridgePort.{BridgePort}
use Rattle.bridge_api.specs.Drops.{raised_at, raised_for}
use Rattle.bridge_api.specs.View.{BridgeView, port_in, port_at, with_port_at, with_drops, is_port_up, up_ports}
use Rattle.bridge_api.specs.Own.{holding_of, with_holding, originated_if_changed}
use Rattle.bridge_api.specs.Parsing.{Parsed, parsed}
use Rattle.bridge_api.specs.Parsing as parsing
use Rattle.bridge_api.specs.Tables.{own_tables}
use Rattle.bridge_api.specs.Customers.{tenant_of, with_learned, carried_by, after_entry, moved_by_entry, moved_as, moved_at, moved_by_receive}
use Rattle.bridge_api.specs.Hearing.{after_drop, with_full, with_adjacency, left_up, changed_at, heard_lsp, heard_csnp, heard_psnp, with_csnp, with_psnp, heard_as, heard_at, after_receive, with_port_metric}
use Rattle.bridge_api.specs.Services.{with_attached, with_port_forgotten, without_customer_port}
use Rattle.bridge_api.specs.Ticking.{counts_lowered, expired}
use Rattle.bridge_api.specs.Step.{second, frame, carrier, metric, attach, detach, customer}
use Rattle.bridge_api.specs.Laws.{IsSoundView, claims_or_none, with_first_carrier}
use Rattle.bridge_api.specs.Config.{configured}
use Rattle.bridge_laws.specs.Dropping.{reason_if_discarded, reason_if_unread, reason_as, reason_at, reason_for, DroppedFramesCountOnce, entries_said, HeardFramesCountEntries, EntriesWithoutWayCountOnce, OtherEntriesCountNothing, OtherStepsCountNothing, SomeDrops}
use Rattle.bridge_api.proofs.Changes.{originated_if_changed_is, refreshed_is, tick_is, carrier_step, metric_step, with_attached_is, attached_to}
use Rattle.bridge_api.proofs.Adjacent.{not_discarded}
use Rattle.bridge_api.proofs.OwnLspSteps.{lsp_settles_nothing}
use Rattle.bridge_api.proofs.Meeting.{Starts, with_carrier_starts, small, small_whole}
use Rattle.bridge_api.proofs.Sound.{configured_is_sound, steps_stay_sound}

-- ---- a frame that is dropped

-- what it makes of a bridge, and what is sent
record Counts (reason : DropReason) (v w : BridgeView) (m : Moved) : Type 0 where
  is : w ≡ after_drop reason v
  wire : m.wire ≡ []
  left : m.left ≡ []

counts_as : (reason other : DropReason) (v w : BridgeView) → w ≡ after_drop reason v → Some reason ≡ Some other → Counts other v w nothing
counts_as reason other v w is same =
    let e : reason ≡ other = cc in record { is = is ∙ ap (λ (r : DropReason). after_drop r v) e; wire = refl; left = refl }

changed_drops : (heard : AdjacencyChange) (p : ℕ) (port : BridgePort) (v : BridgeView) (reason : DropReason) → reason_if_discarded heard ≡ Some reason → Counts reason v (changed_at heard p port v) nothing
changed_drops did.Discarded p port v reason why = counts_as drop.Hello reason v _ refl why
changed_drops did.Kept p port v reason why = absurd cc
changed_drops did.LeftUp p port v reason why = absurd cc
changed_drops did.CameUp p port v reason why = absurd cc

-- what finds no place changes nothing
full_stays : (l : LspValue) (p : ℕ) (v : BridgeView) → is_full_for_lsp (up_ports v) p l (holding_of v) ≡ true → hear_lsp_of (up_ports v) p l (holding_of v) ≡ holding_of v
full_stays l p v full = full_stands (lsp_rule (up_ports v) p l) (up_ports v) (claim_of l) (holding_of v) full

full_drops : (l : LspValue) (p : ℕ) (v : BridgeView) → IsSoundView v → is_full_for_lsp (up_ports v) p l (holding_of v) ≡ true → originated_if_changed (heard_lsp l p v) ≡ after_drop drop.Full v
full_drops l p v was full =
    let heard : heard_lsp l p v ≡ after_drop drop.Full v = λ i. with_full (if full i then 1 else 0) (with_holding (full_stays l p v full i) v) in
    lsp_settles_nothing v l p was ∙ heard

lsp_drops : (up full : Bool) (l : LspValue) (p : ℕ) (v : BridgeView) (reason : DropReason) → IsSoundView v → is_full_for_lsp (up_ports v) p l (holding_of v) ≡ full
    → (if up then (if full then Some drop.Full else None) else Some drop.NotAdjacent) ≡ Some reason
    → Counts reason v (if up then originated_if_changed (heard_lsp l p v) else after_drop drop.NotAdjacent v) nothing
lsp_drops true true l p v reason was full why = counts_as drop.Full reason v _ (full_drops l p v was full) why
lsp_drops true false l p v reason was full why = absurd cc
lsp_drops false full l p v reason was is why = counts_as drop.NotAdjacent reason v _ refl why

csnp_drops : (up : Bool) (es : Result (List SnpEntry) TlvError) (c : CsnpValue) (p : ℕ) (v : BridgeView) (reason : DropReason)
    → (if up then reason_if_unread es else Some drop.NotAdjacent) ≡ Some reason → Counts reason v (if up then with_csnp c es p v else after_drop drop.NotAdjacent v) nothing
csnp_drops true (Err e) c p v reason why = counts_as drop.Tlv reason v _ refl why
csnp_drops true (Ok es) c p v reason why = absurd cc
csnp_drops false es c p v reason why = counts_as drop.NotAdjacent reason v _ refl why

psnp_drops : (up : Bool) (es : Result (List SnpEntry) TlvError) (p : ℕ) (v : BridgeView) (reason : DropReason)
    → (if up then reason_if_unread es else Some drop.NotAdjacent) ≡ Some reason → Counts reason v (if up then with_psnp es p v else after_drop drop.NotAdjacent v) nothing
psnp_drops true (Err e) p v reason why = counts_as drop.Tlv reason v _ refl why
psnp_drops true (Ok es) p v reason why = absurd cc
psnp_drops false es p v reason why = counts_as drop.NotAdjacent reason v _ refl why

-- a backbone frame of which this becomes
abbrev forwarded_so : Step → Carried → BridgeView → BridgeView
forwarded_so s f v = record v {
  learned = (after_delivery (is_taken (is_delivered s) (tenant_of v) f) (tenant_of v) f).learned;
  drops = raised_for (dropped_by s) v.drops;
}

abbrev moved_so : Step → ℕ → List ℕ → Carried → BridgeView → Moved
moved_so s p bytes f v = record {
  wire = each_with bytes (relayed_at p s);
  left = left_of (is_taken (is_delivered s) (tenant_of v) f) (tenant_of v) f;
  dropped = dropped_by s;
}

carried_drops : (s : Step) (p : ℕ) (bytes : List ℕ) (f : Carried) (v : BridgeView) (reason : DropReason) → dropped_by s ≡ Some reason → Counts reason v (forwarded_so s f v) (moved_so s p bytes f v)
carried_drops (steps.Stopped r) p bytes f v reason why =
    let e : r ≡ reason = cc in record { is = ap (λ (x : DropReason). after_drop x v) e; wire = refl; left = refl }
carried_drops steps.Here p bytes f v reason why = absurd cc
carried_drops (steps.Onward q) p bytes f v reason why = absurd cc
carried_drops (steps.Spread ports) p bytes f v reason why = absurd cc

dropped_as : (j : Parsed) (p : ℕ) (bytes : List ℕ) (port : BridgePort) (v : BridgeView) (reason : DropReason) → IsSoundView v → reason_as j p port v ≡ Some reason → Counts reason v (heard_as j p port v) (moved_as j p bytes v)
dropped_as (parsing.dropped r) p bytes port v reason was why = counts_as r reason v _ refl why
dropped_as (parsing.hello h way) p bytes port v reason was why =
    changed_drops (change_by_hello v.id.system p h way port.adjacency) p (with_adjacency (after_hello v.id.system p h way port.adjacency) port) v reason why
dropped_as (parsing.lsp l) p bytes port v reason was why = lsp_drops (is_port_up port) (is_full_for_lsp (up_ports v) p l (holding_of v)) l p v reason was refl why
dropped_as (parsing.csnp c) p bytes port v reason was why = csnp_drops (is_port_up port) (entries_in c.tlvs) c p v reason why
dropped_as (parsing.psnp s) p bytes port v reason was why = psnp_drops (is_port_up port) (entries_in s.tlvs) p v reason why
dropped_as (parsing.customer da sa vid isid f) p bytes port v reason was why =
    let carried : Carried = carried_by da sa vid isid f in
    carried_drops (step_of (tenant_of v) (own_tables v) p carried) p bytes carried v reason why

dropped_by_carrier : (has_carrier : Bool) (p : ℕ) (bytes : List ℕ) (port : BridgePort) (v : BridgeView) (reason : DropReason) → IsSoundView v
    → (if has_carrier then reason_as (parsed bytes) p port v else Some drop.NotAdjacent) ≡ Some reason
    → Counts reason v (if has_carrier then heard_as (parsed bytes) p port v else after_drop drop.NotAdjacent v) (if has_carrier then moved_as (parsed bytes) p bytes v else nothing)
dropped_by_carrier true p bytes port v reason was why = dropped_as (parsed bytes) p bytes port v reason was why
dropped_by_carrier false p bytes port v reason was why = counts_as drop.NotAdjacent reason v _ refl why

dropped_at : (o : Option BridgePort) (p : ℕ) (bytes : List ℕ) (v : BridgeView) (reason : DropReason) → IsSoundView v → reason_at p bytes o v ≡ Some reason → Counts reason v (heard_at p bytes o v) (moved_at p bytes o v)
dropped_at None p bytes v reason was why = absurd cc
dropped_at (Some port) p bytes v reason was why = dropped_by_carrier port.adjacency.carrier p bytes port v reason was why

pub dropped_frames_count_once : DroppedFramesCountOnce
unfolding after_receive moved_by_receive
dropped_frames_count_once p bytes reason v was why =
    let counts : Counts reason v (heard_at p bytes (port_at v p) v) (moved_at p bytes (port_at v p) v) = dropped_at (port_at v p) p bytes v reason was why in
    record { counts = counts.is; wire = counts.wire; left = counts.left }

-- ---- a frame that isn't

originated_counts : (v : BridgeView) → (originated_if_changed v).drops ≡ v.drops
originated_counts v = ap (λ (u : BridgeView). u.drops) (originated_if_changed_is v)

changed_counts : (heard : AdjacencyChange) (p : ℕ) (port : BridgePort) (v : BridgeView) → (heard ≡ did.Discarded → ⊥) → (changed_at heard p port v).drops ≡ v.drops
changed_counts did.Discarded p port v other = absurd (other refl)
changed_counts did.Kept p port v other = originated_counts (with_port_at p port v)
changed_counts did.LeftUp p port v other = originated_counts (left_up p port v)
changed_counts did.CameUp p port v other = originated_counts (left_up p port v)

lsp_counts : (up full : Bool) (l : LspValue) (p : ℕ) (v : BridgeView) → is_full_for_lsp (up_ports v) p l (holding_of v) ≡ full
    → (if up then (if full then Some drop.Full else None) else Some drop.NotAdjacent) ≡ None
    → (if up then originated_if_changed (heard_lsp l p v) else after_drop drop.NotAdjacent v).drops ≡ v.drops
lsp_counts true true l p v full why = absurd cc
lsp_counts true false l p v full why = originated_counts (heard_lsp l p v) ∙ ap (λ (b : Bool). raised_at drop.Full (if b then 1 else 0) v.drops) full
lsp_counts false full l p v is why = absurd cc

-- how many of the entries that were read find no place
abbrev full_in : Result (List SnpEntry) TlvError → ℕ → BridgeView → ℕ
full_in es p v = full_count (up_ports v) p (claims_or_none es) (holding_of v)

csnp_counts : (up : Bool) (es : Result (List SnpEntry) TlvError) (c : CsnpValue) (p : ℕ) (v : BridgeView) → (if up then reason_if_unread es else Some drop.NotAdjacent) ≡ None
    → (if up then with_csnp c es p v else after_drop drop.NotAdjacent v).drops ≡ raised_at drop.Full (full_in es p v) v.drops
csnp_counts true (Err e) c p v why = absurd cc
csnp_counts true (Ok es) c p v why = originated_counts (heard_csnp c es p v)
csnp_counts false es c p v why = absurd cc

psnp_counts : (up : Bool) (es : Result (List SnpEntry) TlvError) (p : ℕ) (v : BridgeView) → (if up then reason_if_unread es else Some drop.NotAdjacent) ≡ None
    → (if up then with_psnp es p v else after_drop drop.NotAdjacent v).drops ≡ raised_at drop.Full (full_in es p v) v.drops
psnp_counts true (Err e) p v why = absurd cc
psnp_counts true (Ok es) p v why = originated_counts (heard_psnp es p v)
psnp_counts false es p v why = absurd cc

not_dropped : (heard : AdjacencyChange) → reason_if_discarded heard ≡ None → heard ≡ did.Discarded → ⊥
not_dropped heard why is = let wrong : Some drop.Hello ≡ None = sym (ap reason_if_discarded is) ∙ why in absurd cc

counts_entries : (j : Parsed) (p : ℕ) (port : BridgePort) (v : BridgeView) → reason_as j p port v ≡ None → (heard_as j p port v).drops ≡ raised_at drop.Full (full_count (up_ports v) p (entries_said j) (holding_of v)) v.drops
counts_entries (parsing.dropped r) p port v why = absurd cc
counts_entries (parsing.hello h way) p port v why =
    let heard : AdjacencyChange = change_by_hello v.id.system p h way port.adjacency in
    changed_counts heard p (with_adjacency (after_hello v.id.system p h way port.adjacency) port) v (not_dropped heard why)
counts_entries (parsing.lsp l) p port v why = lsp_counts (is_port_up port) (is_full_for_lsp (up_ports v) p l (holding_of v)) l p v refl why
counts_entries (parsing.csnp c) p port v why = csnp_counts (is_port_up port) (entries_in c.tlvs) c p v why
counts_entries (parsing.psnp s) p port v why = psnp_counts (is_port_up port) (entries_in s.tlvs) p v why
counts_entries (parsing.customer da sa vid isid f) p port v why = ap (λ (o : Option DropReason). raised_for o v.drops) why

counts_by_carrier : (has_carrier : Bool) (p : ℕ) (bytes : List ℕ) (port : BridgePort) (v : BridgeView)
    → (if has_carrier then reason_as (parsed bytes) p port v else Some drop.NotAdjacent) ≡ None
    → (if has_carrier then heard_as (parsed bytes) p port v else after_drop drop.NotAdjacent v).drops ≡ raised_at drop.Full (full_count (up_ports v) p (entries_said (parsed bytes)) (holding_of v)) v.drops
counts_by_carrier true p bytes port v why = counts_entries (parsed bytes) p port v why
counts_by_carrier false p bytes port v why = absurd cc

pub heard_frames_count_entries : HeardFramesCountEntries
unfolding after_receive
heard_frames_count_entries p bytes port v there why =
    ap (λ (o : Option BridgePort). (heard_at p bytes o v).drops) there
    ∙ counts_by_carrier port.adjacency.carrier p bytes port v (sym (ap (λ (o : Option BridgePort). reason_at p bytes o v) there) ∙ why)

-- ---- a customer's frame

no_way_towards : (t : Tenant) (a : Attachment) (bytes : List ℕ) (m : Mac) (o : Option ℕ) (reason : DropReason) → (sent_towards t a bytes m o).dropped ≡ Some reason → reason ≡ drop.NoWay
no_way_towards t a bytes m None reason why = let e : drop.NoWay ≡ reason = cc in sym e
no_way_towards t a bytes m (Some p) reason why = absurd cc

no_way_going : (t : Tenant) (tables : Tables) (a : Attachment) (bytes : List ℕ) (g : Going) (reason : DropReason) → (entered_going t tables a bytes g).dropped ≡ Some reason → reason ≡ drop.NoWay
no_way_going t tables a bytes going.Everywhere reason why = absurd cc
no_way_going t tables a bytes (going.AtPort q) reason why = absurd cc
no_way_going t tables a bytes (going.Behind m) reason why = no_way_towards t a bytes m (unicast_in tables.unicast a.vid m) reason why

no_way_entering : (t : Tenant) (tables : Tables) (bytes : List ℕ) (o : Option Attachment) (reason : DropReason) → (entered_by t tables bytes o).dropped ≡ Some reason → reason ≡ drop.NoWay
no_way_entering t tables bytes None reason why = absurd cc
no_way_entering t tables bytes (Some a) reason why = no_way_going t tables a bytes (going_of t.learned a.isid (to_of bytes)) reason why

no_way : (p : ℕ) (bytes : List ℕ) (v : BridgeView) (reason : DropReason) → (moved_by_entry p bytes v).dropped ≡ Some reason → reason ≡ drop.NoWay
unfolding moved_by_entry
no_way p bytes v reason why = no_way_entering (after_customer (tenant_of v) p bytes) (own_tables v) bytes _ reason why

entry_counts : (p : ℕ) (bytes : List ℕ) (v : BridgeView) (o : Option DropReason) → (moved_by_entry p bytes v).dropped ≡ o → after_entry p bytes v ≡ with_drops (raised_for o v.drops) (with_learned (after_entry p bytes v).learned v)
unfolding after_entry
entry_counts p bytes v o is = ap (λ (x : Option DropReason). with_drops (raised_for x v.drops) (with_learned (after_customer (tenant_of v) p bytes).learned v)) is

pub entries_without_way_count_once : EntriesWithoutWayCountOnce
entries_without_way_count_once p bytes reason v why = (no_way p bytes v reason why, entry_counts p bytes v (Some reason) why)

pub other_entries_count_nothing : OtherEntriesCountNothing
other_entries_count_nothing p bytes v none = ap (λ (u : BridgeView). u.drops) (entry_counts p bytes v None none)

-- ---- what else comes to a bridge

attached_counts : (attached : List Attachment) (v : BridgeView) → (with_attached attached v).drops ≡ v.drops
attached_counts attached v = ap (λ (u : BridgeView). u.drops) (with_attached_is attached v) ∙ originated_counts (attached_to attached v)

pub other_steps_count_nothing : OtherStepsCountNothing
unfolding with_port_forgotten
other_steps_count_nothing second v none = ap (λ (u : BridgeView). u.drops) (tick_is v) ∙ ap (λ (u : BridgeView). u.drops) (refreshed_is (expired (counts_lowered v)))
other_steps_count_nothing (frame p bytes) v none = absurd (none tt)
other_steps_count_nothing (carrier p on) v none =
    elim (carrier_step v p on) [
      | inl e ↦ ap (λ (u : BridgeView). u.drops) e
      | inr g ↦
          let a : Adjacency = g.port.adjacency in
          ap (λ (u : BridgeView). u.drops) g.after
          ∙ changed_counts (change_of a (after_carrier on a)) p (with_adjacency (after_carrier on a) g.port) v (not_discarded a (after_carrier on a))
    ]
other_steps_count_nothing (metric p m) v none =
    elim (metric_step v p m) [
      | inl e ↦ ap (λ (u : BridgeView). u.drops) e
      | inr g ↦ ap (λ (u : BridgeView). u.drops) g.after ∙ originated_counts (with_port_at p (with_port_metric m g.port) v)
    ]
other_steps_count_nothing (attach a) v none = attached_counts (v.attached ++ a ∷ []) v
other_steps_count_nothing (detach p) v none = attached_counts (without_customer_port p v.attached) (with_port_forgotten p v)
other_steps_count_nothing (customer p bytes) v none = absurd (none tt)

-- ---- a bridge that drops an empty frame

empty_is_dropped : parsed [] ≡ parsing.dropped drop.Frame
unfolding parsed
empty_is_dropped = refl

drops_empty : (a : Adjacency) (v : BridgeView) → a ≡ down true → Starts v.id.system a v → reason_for 1 [] v ≡ Some drop.Frame
drops_empty a v is s =
    ap (λ (ports : List BridgePort). reason_at 1 [] (port_in ports 1) v) s.is
    ∙ (ap (λ (b : Adjacency). if b.carrier then reason_as (parsed []) 1 s.port v else Some drop.NotAdjacent) (s.adjacency ∙ is)
    ∙ ap (λ (j : Parsed). reason_as j 1 s.port v) empty_is_dropped)

pub some_drops : SomeDrops
some_drops =
    let v : BridgeView = with_first_carrier (small 1) in
    let starts : Starts (small 1).id.system (down true) v = with_carrier_starts (small 1) (omega arith) in
    record {
      bridge = v;
      port = 1;
      sound = steps_stay_sound (carrier 1 true) (configured (small 1)) tt (configured_is_sound (small 1) (small_whole 1 (omega arith)));
      bytes = [];
      reason = drop.Frame;
      dropped = drops_empty (down true) v refl (subst (λ (s : _). Starts s (down true) v) (sym starts.id) starts);
    }

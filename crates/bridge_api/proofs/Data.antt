-- The database of a bridge stays sound in each part of a step.
use Rattle.std.proofs.Common.{◌≡◌, ◌≢◌, ◌⊎◌, inl, inr, ◌≤◌, ◌<◌, ◌+◌, ◌-◌, ℕ, zero, suc, Bool, true, false, List, [], ◌∷◌, length, map, refl, sym, ap, ◌∙◌, subst, Option, Some, None, arith, ⊎_elim}
use Rattle.std.specs.Prelude.{nat_le, ◌&&◌, not, slice_get, slice_set, if◌then◌else◌}
use Rattle.std.specs.Option.{option_map}
use Rattle.std.specs.List.{AllByRecursion}
use Rattle.std.specs.FinMap.{get}
use Rattle.std.proofs.lemmas.Bool.{true≢false, false≢true, cases_eq, le-leb}
use Rattle.std.proofs.lemmas.List.{length-map, length-set}
use Rattle.std.proofs.lemmas.Option.{slice_get_within, slice_get-map}
use Rattle.spb_types.specs.declared.address.SystemId.{SystemId}
use Rattle.spb_types.specs.declared.address.LspId.{LspId}
use Rattle.spb_types.specs.declared.ports.PortSet.{PortSet}
use Rattle.spb_types.specs.Ports.{has, with_port, without_port}
use Rattle.spb_types.proofs.PortLemmas.{has_port, has-with_other, has-without_same, has-without_other}
use Rattle.isis_pdu.specs.Pdu.{LspValue, CsnpValue, lsp}
use Rattle.isis_pdu.specs.Grammar.{IsId, IsBytes, HasFields}
use Rattle.spb_tlvs.specs.declared.entries.SnpEntry.{SnpEntry}
use Rattle.lsdb.specs.declared.version.Version.{Version}
use Rattle.lsdb.specs.declared.version.Version.TheVariants.{Absent, Live, Dead}
use Rattle.lsdb.specs.Version.{IsAtMost, is_absent, leq}
use Rattle.lsdb.specs.Entry.{Entry, made, srm_set_at, flags_cleared_at, aged, aged_at}
use Rattle.lsdb.specs.Database.{Lsps, version_in, version_at, each}
use Rattle.lsdb.specs.Certificate.{Certificate}
use Rattle.lsdb.proofs.LookupLemmas.{get-each}
use Rattle.flooding.specs.Own.{own_numbers, own_number, own_id, body_in}
use Rattle.flooding.specs.Room.{most_others, others}
use Rattle.flooding.specs.Hearing.{Holding, HasFewOthers, claim_of, lsp_rule, hear_lsp_of}
use Rattle.flooding.specs.Settling.{Test, settled_by, says, is_new}
use Rattle.flooding.specs.Entries.{AllEntries, IsNumbered, IsSendable, HasFlagsAt, AreSendable, HaveFlagsAt, HaveOctets}
use Rattle.flooding.specs.Laws.{HasBodies, IsWhole, control}
use Rattle.flooding.specs.OctetLaws.{SaysOctets}
use Rattle.flooding.proofs.SendableEntries.{flags_sendable, lsp_keeps_sendable, ageing_keeps_sendable}
use Rattle.flooding.proofs.OwnBodies.{lsp_leaves_own_body}
use Rattle.flooding.proofs.FlagEntries.{lsp_keeps_flags}
use Rattle.flooding.proofs.Octets.{lsp_keeps_octets, settling_keeps_octets, ageing_keeps_octets}
use Rattle.flooding.proofs.Steps.{hearing_lsp}
use Rattle.flooding.proofs.Owns.{own_stands}
use Rattle.flooding.proofs.Few.{changing_keeps_others, hearing_keeps_few, settling_keeps_few}
use Rattle.flooding.proofs.Settled.{settling_is_certified, settling_leaves_own, settling_leaves_own_body, settling_keeps_sendable, settling_keeps_flags}
use Rattle.snp_sync.specs.SnpEntries.{has_ssn_at}
use Rattle.snp_sync.specs.Sending.{ssn_cleared as ssn_cleared_entry, all_ssn_cleared}
use Rattle.snp_sync.specs.Sized.{IsLspId, IsSized, IsSizedEntry, AreSized}
use Rattle.snp_sync.specs.Hearing.{claims_in, hear_entries_of, hear_csnp_of}
use Rattle.snp_sync.proofs.Fields.{flags_keep_sized, entries_keep_sized, csnp_keeps_sized, lsp_keeps_sized, settling_keeps_sized, ageing_keeps_sized}
use Rattle.snp_sync.proofs.Stays.{claims_are_numbered, entries_leave_own, entries_keep_sendable, csnp_keeps_sendable, entries_keep_flags, csnp_keeps_flags, entries_leave_own_body, csnp_leaves_own_body}
use Rattle.snp_sync.proofs.Heard.{entries_keep_few, csnp_keeps_few}
use Rattle.snp_sync.proofs.Octets.{entries_keep_octets, csnp_keeps_octets}
use Rattle.snp_sync.proofs.Served.{entries_are_certified, csnp_is_certified}
use Rattle.spb_content.proofs.Members.{Has}
use Rattle.bridge_api.specs.declared.port.BridgePort.{BridgePort}
use Rattle.bridge_api.specs.View.{BridgeView, port_in, port_at, with_port_at, is_port_up, is_up_in, up_from, up_ports}
use Rattle.bridge_api.specs.Own.{own_of, body_at, own_entry, holding_of, IsOwnLspCurrent, originated_if_changed}
use Rattle.bridge_api.specs.Config.{IsOwnMac}
use Rattle.bridge_api.specs.Hearing.{with_csnp_due, left_up, all_srm_set_at, heard_lsp, heard_csnp, heard_psnp}
use Rattle.bridge_api.specs.Ticking.{later, leaves, leaving_from, flags_cleared_at_all, counts_lowered, expired, refreshed, after_sending_at, after_sending_from, after_sending}
use Rattle.bridge_api.specs.Laws.{HasDatabase}
use Rattle.bridge_api.proofs.OwnPorts.{HasText, dead_text, own_text, mapped_text, texts_of}
use Rattle.bridge_api.proofs.Octets.{octets_behind}
use Rattle.bridge_api.proofs.Places.{got_at}
use Rattle.bridge_api.proofs.Present.{IsPresent, mapped_present, lsp_present, entries_present, csnp_present, settling_present}
use Rattle.bridge_api.proofs.UpPorts.{up_ports_from}
use Rattle.bridge_api.proofs.Changes.{settling, found, one_port}

-- ---- a sound database

-- of a system with this id, with these Up ports; of its own LSPs number 0 lists each neighbour at a port of its own, and
-- the others list none
pub record IsSoundData (up : PortSet) (system : SystemId) (db : Lsps) : Type 0 where
  pub sendable : AreSendable db
  pub sized : AreSized db
  pub octets : HaveOctets db
  pub flags : HaveFlagsAt up db
  pub own : is_absent (version_at db (own_id system)) ≡ false
  pub present : (number : ℕ) → number < own_numbers → IsPresent (get db (own_number system number))
  pub room : others system db ≤ most_others
  pub text : (number : ℕ) → number < own_numbers → HasText number (body_in (get db (own_number system number)))

-- the database of a bridge
abbrev pub Holds : BridgeView → Type 0
Holds v = IsSoundData (up_ports v) v.id.system v.database

pub lsps_of : (v : BridgeView) → HasDatabase v → IsOwnLspCurrent v → Holds v
lsps_of v held own = record {
  sendable = held.sendable;
  sized = held.sized;
  octets = held.octets;
  flags = held.flags;
  own = held.own;
  present = λ number below e is. held.present number e below is;
  room = held.room;
  text = texts_of v own;
}

pub has_lsps : (v : BridgeView) → Holds v → HasDatabase v
has_lsps v held = record {
  sendable = held.sendable;
  sized = held.sized;
  octets = held.octets;
  flags = held.flags;
  own = held.own;
  present = λ number e below is. held.present number below e is;
  room = held.room;
}

-- the own id, of six octets
pub own_named : (system : SystemId) → IsOwnMac system.mac → IsLspId (own_id system)
own_named system mac = record { system = mac.bytes; bytes = (mac.octets, omega arith, omega arith) }

-- a version that isn't absent doesn't fall to an absent one
pub risen : (a h : Version) → IsAtMost a h → is_absent a ≡ false → is_absent h ≡ false
unfolding leq
risen Absent h rises there = absurd cc
risen (Live n s) Absent rises there = absurd (false≢true rises)
risen (Live n s) (Live m t) rises there = refl
risen (Live n s) (Dead m) rises there = refl
risen (Dead n) Absent rises there = absurd (false≢true rises)
risen (Dead n) (Live m t) rises there = refl
risen (Dead n) (Dead m) rises there = refl

-- few others, of the system that it was
pub few_of : (system : SystemId) (h : Holding) → h.own.system ≡ system → HasFewOthers h → others system h.db ≤ most_others
few_of system h same few = subst (λ (s : SystemId). others s h.db ≤ most_others) same few

-- ---- own LSPs

-- a bridge that can write what it says, in octets, whose id is six octets, and whose neighbours are at different ports
pub record CanOriginate (v : BridgeView) : Type 0 where
  pub body : HasBodies (own_of v)
  pub octets : SaysOctets (own_of v)
  pub named : IsLspId (own_id v.id.system)
  pub text : (number : ℕ) (body : List ℕ) → body_at v number ≡ Some body → HasText number body

pub settling_keeps_data : (stands : Test) (v : BridgeView) → CanOriginate v → Holds v → Holds (settling stands v)
settling_keeps_data stands v can held =
    let up : PortSet = up_ports v in
    let h : Holding = holding_of v in
    let id : LspId = own_id v.id.system in
    let steps : Certificate 0 [] (control up h) (control up (settled_by stands up h)) = settling_is_certified stands up 0 [] h in
    record {
      sendable = settling_keeps_sendable stands up h can.body held.sendable;
      sized = settling_keeps_sized stands up h can.named held.sized;
      octets = settling_keeps_octets stands up h can.octets held.octets;
      flags = settling_keeps_flags stands up h held.flags;
      own = risen _ _ (steps.rises id) held.own;
      present = λ number below. settling_present stands up h (own_number v.id.system number) (held.present number below);
      room = few_of v.id.system (settled_by stands up h) (settling_leaves_own stands up h).0 (settling_keeps_few stands up h held.room);
      text = λ number below. own_text h.own (own_number v.id.system number) (own_entry v number) (get (settled_by stands up h).db (own_number v.id.system number)) (can.text number) (settling_leaves_own_body stands up h (own_number v.id.system number) refl) (held.text number below);
    }

pub originated_if_changed_keeps : (v : BridgeView) → CanOriginate v → Holds v → Holds (originated_if_changed v)
unfolding originated_if_changed
originated_if_changed_keeps v can held = settling_keeps_data says v can held

pub refreshed_keeps : (v : BridgeView) → CanOriginate v → Holds v → Holds (refreshed v)
unfolding refreshed
refreshed_keeps v can held = settling_keeps_data is_new v can held

-- ---- what is heard at an Up port

pub lsp_keeps : (l : LspValue) (p : ℕ) (v : BridgeView) → has (up_ports v) p ≡ true → IsWhole l → IsId l.id.system → HasFields (lsp l) → CanOriginate v → Holds v → Holds (heard_lsp l p v)
lsp_keeps l p v up whole id fields can held =
    let h : Holding = holding_of v in
    let steps : Certificate p (claim_of l ∷ []) (control (up_ports v) h) (control (up_ports v) (hear_lsp_of (up_ports v) p l h)) = hearing_lsp (up_ports v) p l h up in
    record {
      sendable = lsp_keeps_sendable (up_ports v) p l h whole can.body held.sendable;
      sized = lsp_keeps_sized (up_ports v) p l h id fields held.sized;
      octets = lsp_keeps_octets (up_ports v) p l h (octets_behind l.flags l.tlvs fields.4 fields.5) can.octets held.octets;
      flags = lsp_keeps_flags (up_ports v) p l h up held.flags;
      own = risen _ _ (steps.rises (own_id v.id.system)) held.own;
      present = λ number below. lsp_present (up_ports v) p l h (own_number v.id.system number) refl (held.present number below);
      room = few_of v.id.system (hear_lsp_of (up_ports v) p l h) (own_stands (lsp_rule (up_ports v) p l) (up_ports v) (claim_of l) h).0 (hearing_keeps_few (lsp_rule (up_ports v) p l) (up_ports v) (claim_of l) h held.room);
      text = λ number below. own_text h.own (own_number v.id.system number) (own_entry v number) (get (hear_lsp_of (up_ports v) p l h).db (own_number v.id.system number)) (can.text number) (lsp_leaves_own_body (up_ports v) p l h (own_number v.id.system number) refl) (held.text number below);
    }

all_numbered : (entries : List SnpEntry) → AllByRecursion (λ c. IsNumbered c.version) (claims_in entries)
all_numbered [] = tt
all_numbered (e ∷ entries) = (claims_are_numbered e, all_numbered entries)

pub csnp_keeps : (c : CsnpValue) (entries : List SnpEntry) (p : ℕ) (v : BridgeView) → has (up_ports v) p ≡ true → AllByRecursion IsSizedEntry entries → CanOriginate v → Holds v → Holds (heard_csnp c entries p v)
csnp_keeps c entries p v up listed can held =
    let h : Holding = holding_of v in
    let steps : Certificate p (claims_in entries) (control (up_ports v) h) (control (up_ports v) (hear_csnp_of (up_ports v) p c.start c.end (claims_in entries) h)) =
    csnp_is_certified (up_ports v) p c.start c.end (claims_in entries) h up in
    record {
      sendable = csnp_keeps_sendable (up_ports v) p c.start c.end (claims_in entries) h (all_numbered entries) can.body held.sendable;
      sized = csnp_keeps_sized (up_ports v) p c.start c.end entries h listed held.sized;
      octets = csnp_keeps_octets (up_ports v) p c.start c.end (claims_in entries) h can.octets held.octets;
      flags = csnp_keeps_flags (up_ports v) p c.start c.end (claims_in entries) h up held.flags;
      own = risen _ _ (steps.rises (own_id v.id.system)) held.own;
      present = λ number below. csnp_present (up_ports v) p c.start c.end (claims_in entries) h (own_number v.id.system number) refl (held.present number below);
      room = few_of v.id.system (hear_csnp_of (up_ports v) p c.start c.end (claims_in entries) h) (entries_leave_own (up_ports v) p (claims_in entries) h).0 (csnp_keeps_few (up_ports v) p c.start c.end (claims_in entries) h held.room);
      text = λ number below. own_text h.own (own_number v.id.system number) (own_entry v number) (get (hear_csnp_of (up_ports v) p c.start c.end (claims_in entries) h).db (own_number v.id.system number)) (can.text number) (csnp_leaves_own_body (up_ports v) p c.start c.end (claims_in entries) h (own_number v.id.system number) refl) (held.text number below);
    }

pub psnp_keeps : (entries : List SnpEntry) (p : ℕ) (v : BridgeView) → has (up_ports v) p ≡ true → AllByRecursion IsSizedEntry entries → CanOriginate v → Holds v → Holds (heard_psnp entries p v)
psnp_keeps entries p v up listed can held =
    let h : Holding = holding_of v in
    let steps : Certificate p (claims_in entries) (control (up_ports v) h) (control (up_ports v) (hear_entries_of (up_ports v) p (claims_in entries) h)) =
    entries_are_certified (up_ports v) p (claims_in entries) h up in
    record {
      sendable = entries_keep_sendable (up_ports v) p (claims_in entries) h (all_numbered entries) can.body held.sendable;
      sized = entries_keep_sized (up_ports v) p entries h listed held.sized;
      octets = entries_keep_octets (up_ports v) p (claims_in entries) h can.octets held.octets;
      flags = entries_keep_flags (up_ports v) p (claims_in entries) h up held.flags;
      own = risen _ _ (steps.rises (own_id v.id.system)) held.own;
      present = λ number below. entries_present (up_ports v) p (claims_in entries) h (own_number v.id.system number) refl (held.present number below);
      room = few_of v.id.system (hear_entries_of (up_ports v) p (claims_in entries) h) (entries_leave_own (up_ports v) p (claims_in entries) h).0 (entries_keep_few (up_ports v) p (claims_in entries) h held.room);
      text = λ number below. own_text h.own (own_number v.id.system number) (own_entry v number) (get (hear_entries_of (up_ports v) p (claims_in entries) h).db (own_number v.id.system number)) (can.text number) (entries_leave_own_body (up_ports v) p (claims_in entries) h (own_number v.id.system number) refl) (held.text number below);
    }

-- ---- every entry changed

each_from : (P Q : LspId → Entry → Type 0) (f : LspId → Entry → Entry) (db : Lsps) → AllEntries P db → ((x : LspId) (e : Entry) → P x e → Q x (f x e)) → AllEntries Q (each f db)
each_from P Q f db all keeps x n is = by_held (get db x) refl
  where
    by_held : (o : Option Entry) → get db x ≡ o → Q x n
    by_held None held = let no : None ≡ Some n = sym (get-each f db x ∙ ap (option_map (f x)) held) ∙ is in absurd (cc)
    by_held (Some e) held =
        let same : f x e ≡ n = let found : Some (f x e) ≡ Some n = sym (get-each f db x ∙ ap (option_map (f x)) held) ∙ is in cc in
        subst (λ (g : Entry). Q x g) same (keeps x e (all x e held))

-- an entry changed so that it is sound again, its flags at other Up ports, and not absent if it wasn't
pub record KeepsEntry (up next : PortSet) (f : LspId → Entry → Entry) : Type 0 where
  pub sendable : (x : LspId) (e : Entry) → IsSendable x e → IsSendable x (f x e)
  pub sized : (x : LspId) (e : Entry) → IsSized x e → IsSized x (f x e)
  pub octets : (x : LspId) (e : Entry) → IsBytes e.body → IsBytes (f x e).body
  pub flags : (x : LspId) (e : Entry) → HasFlagsAt up e → HasFlagsAt next (f x e)
  pub there : (x : LspId) (e : Entry) → is_absent e.version ≡ false → is_absent (f x e).version ≡ false
  pub text : (number : ℕ) (x : LspId) (e : Entry) → HasText number e.body → HasText number (f x e).body

there_at : (f : Entry → Entry) (o : Option Entry) → ((e : Entry) → is_absent e.version ≡ false → is_absent (f e).version ≡ false) → is_absent (version_in o) ≡ false → is_absent (version_in (option_map f o)) ≡ false
there_at f None keeps there = there
there_at f (Some e) keeps there = keeps e there

pub each_keeps : (up next : PortSet) (system : SystemId) (f : LspId → Entry → Entry) (db : Lsps) → KeepsEntry up next f → IsSoundData up system db → IsSoundData next system (each f db)
each_keeps up next system f db keeps held = record {
  sendable = each_from IsSendable IsSendable f db held.sendable keeps.sendable;
  sized = each_from IsSized IsSized f db held.sized keeps.sized;
  octets = each_from (λ id e. IsBytes e.body) (λ id e. IsBytes e.body) f db held.octets keeps.octets;
  flags = each_from (λ id e. HasFlagsAt up e) (λ id e. HasFlagsAt next e) f db held.flags keeps.flags;
  own =
      ap (λ o. is_absent (version_in o)) (get-each f db (own_id system))
      ∙ there_at (f (own_id system)) (get db (own_id system)) (keeps.there (own_id system)) held.own;
  present = λ number below.
      let id : LspId = own_number system number in
      subst IsPresent (sym (get-each f db id)) (mapped_present (f id) (get db id) (keeps.there id) (held.present number below));
  room = subst (λ n. n ≤ most_others) (sym (changing_keeps_others system f db)) held.room;
  text = λ number below.
      let id : LspId = own_number system number in
      subst (λ (o : Option Entry). HasText number (body_in o)) (sym (get-each f db id)) (mapped_text number (f id) (get db id) (keeps.text number id) (held.text number below));
}

-- ---- flags at other Up ports

-- each port that is up is up again
abbrev pub StayUp : PortSet → PortSet → Type 0
StayUp up next = (q : ℕ) → has up q ≡ true → has next q ≡ true

wider : (up next : PortSet) (e : Entry) → StayUp up next → HasFlagsAt up e → HasFlagsAt next e
wider up next e stay flags = record { srm = λ q on. stay q (flags.srm q on); ssn = λ q on. stay q (flags.ssn q on); absent = flags.absent }

pub wider_keeps : (up next : PortSet) (system : SystemId) (db : Lsps) → StayUp up next → IsSoundData up system db → IsSoundData next system db
wider_keeps up next system db stay held = record { sendable = held.sendable; sized = held.sized; octets = held.octets; flags = λ x e is. wider up next e stay (held.flags x e is); own = held.own; present = held.present; room = held.room; text = held.text }

module _ (up next : PortSet) (p : ℕ) (low : 1 ≤ p) (high : p ≤ 32) where
  module _ (stay : (q : ℕ) → q ≢ p → has up q ≡ true → has next q ≡ true) where
    -- flags without those of a port
    without_up : (set : PortSet) → StayUp set up → StayUp (without_port set p) next
    without_up set within q on = ⊎_elim
        (λ here. absurd (true≢false (sym on ∙ (ap (has (without_port set p)) here ∙ has-without_same set p low high))))
        (λ apart. stay q apart (within q (sym (has-without_other set p q low high apart) ∙ on)))
        (cases_eq q p)

    without_none : (set : PortSet) (q : ℕ) → has set q ≡ false → has (without_port set p) q ≡ false
    without_none set q none = ⊎_elim
        (λ here. ap (has (without_port set p)) here ∙ has-without_same set p low high)
        (λ apart. has-without_other set p q low high apart ∙ none)
        (cases_eq q p)

    flags_cleared_flags : (e : Entry) → HasFlagsAt up e → HasFlagsAt next (flags_cleared_at p e)
    flags_cleared_flags e flags = record { srm = without_up e.srm flags.srm; ssn = without_up e.ssn flags.ssn; absent = λ gone q. without_none e.srm q (flags.absent gone q) }

    flags_cleared_keeps : KeepsEntry up next (λ id e. flags_cleared_at p e)
    flags_cleared_keeps = record {
      sendable = λ x e s. flags_sendable (without_port e.srm p) (without_port e.ssn p) x e s;
      sized = λ x e s. flags_keep_sized (without_port e.srm p) (without_port e.ssn p) x e s;
      octets = λ x e was. was;
      flags = λ x e flags. flags_cleared_flags e flags;
      there = λ x e there. there;
      text = λ number x e was. was;
    }

  module _ (stay : StayUp up next) (up_here : has next p ≡ true) where
    with_here : (set : PortSet) → StayUp set up → StayUp (with_port set p) next
    with_here set within q on = ⊎_elim
        (λ here. ap (has next) here ∙ up_here)
        (λ apart. stay q (within q (sym (has-with_other set p q low high apart) ∙ on)))
        (cases_eq q p)

    srm_set_flags : (e : Entry) (b : Bool) → is_absent e.version ≡ b → HasFlagsAt up e → HasFlagsAt next (if b then e else record e { srm = with_port e.srm p })
    srm_set_flags e true gone flags = wider up next e stay flags
    srm_set_flags e false there flags = record { srm = with_here e.srm flags.srm; ssn = λ q on. stay q (flags.ssn q on); absent = λ gone q. absurd (true≢false (sym (ap is_absent gone) ∙ there)) }

    srm_set_sendable : (x : LspId) (e : Entry) (b : Bool) → IsSendable x e → IsSendable x (if b then e else record e { srm = with_port e.srm p })
    srm_set_sendable x e true s = s
    srm_set_sendable x e false s = flags_sendable (with_port e.srm p) e.ssn x e s

    srm_set_sized : (x : LspId) (e : Entry) (b : Bool) → IsSized x e → IsSized x (if b then e else record e { srm = with_port e.srm p })
    srm_set_sized x e true s = s
    srm_set_sized x e false s = flags_keep_sized (with_port e.srm p) e.ssn x e s

    srm_set_there : (e : Entry) (b : Bool) → is_absent e.version ≡ false → is_absent (if b then e else record e { srm = with_port e.srm p }).version ≡ false
    srm_set_there e true there = there
    srm_set_there e false there = there

    srm_set_body : (P : List ℕ → Type 0) (e : Entry) (b : Bool) → P e.body → P (if b then e else record e { srm = with_port e.srm p }).body
    srm_set_body P e true was = was
    srm_set_body P e false was = was

    srm_set_keeps : KeepsEntry up next (λ id e. srm_set_at p e)
    srm_set_keeps = record {
      sendable = λ x e s. srm_set_sendable x e (is_absent e.version) s;
      sized = λ x e s. srm_set_sized x e (is_absent e.version) s;
      octets = λ x e was. srm_set_body IsBytes e (is_absent e.version) was;
      flags = λ x e flags. srm_set_flags e (is_absent e.version) refl flags;
      there = λ x e there. srm_set_there e (is_absent e.version) there;
      text = λ number x e was. srm_set_body (HasText number) e (is_absent e.version) was;
    }

-- ---- the Up ports, where one port changes

pub up_at : (ports : List BridgePort) (p : ℕ) → length ports ≤ 32 → has (up_from 1 ports) p ≡ is_up_in (port_in ports p)
up_at ports p few = up_ports_from 1 ports p (omega arith) (omega (arith, few))

-- a port of a bridge with at most 32 ports has a number up to 32
pub port_range : (ports : List BridgePort) (p : ℕ) (port : BridgePort) → length ports ≤ 32 → port_in ports p ≡ Some port → (1 ≤ p) × (p ≤ 32)
port_range ports p port few there =
    let at = found ports p port there in
    let within = slice_get_within ports (p - 1) port at.1 in
    (at.0, omega (arith, within, few, at.0))

module _ (v : BridgeView) (p : ℕ) (old new : BridgePort) (few : length v.ports ≤ 32) (there : port_at v p ≡ Some old) where
  few_after : length (slice_set v.ports (p - 1) new) ≤ 32
  few_after = omega (arith, few, length-set v.ports (p - 1) new)

  others_stay : (q : ℕ) → q ≢ p → has (up_ports v) q ≡ true → has (up_ports (with_port_at p new v)) q ≡ true
  others_stay q apart up =
      let at = found v.ports p old there in
      up_at (slice_set v.ports (p - 1) new) q few_after
      ∙ elim (one_port v.ports p old new q at.0 at.1) [
        | inl here ↦ absurd (apart here.0)
        | inr same ↦ ap is_up_in same ∙ (sym (up_at v.ports q few) ∙ up)
      ]

  up_after : is_port_up new ≡ true → has (up_ports (with_port_at p new v)) p ≡ true
  up_after up =
      let at = found v.ports p old there in
      let got : port_in (slice_set v.ports (p - 1) new) p ≡ Some new = rw (le-leb 1 p at.0) (got_at v.ports (p - 1) new (slice_get_within v.ports (p - 1) old at.1)) in
      up_at (slice_set v.ports (p - 1) new) p few_after ∙ (ap is_up_in got ∙ up)

  all_stay : (is_port_up old ≡ true → is_port_up new ≡ true) → StayUp (up_ports v) (up_ports (with_port_at p new v))
  all_stay stays q up = ⊎_elim
      (λ here.
      let was : is_port_up old ≡ true = sym (ap is_up_in there) ∙ (sym (up_at v.ports p few) ∙ subst (λ k. has (up_ports v) k ≡ true) here up) in
      ap (has (up_ports (with_port_at p new v))) here ∙ up_after (stays was))
      (λ apart. others_stay q apart up)
      (cases_eq q p)

-- ---- a port changes

pub moved_keeps : (v : BridgeView) (p : ℕ) (old new : BridgePort) → length v.ports ≤ 32 → port_at v p ≡ Some old → (is_port_up old ≡ true → is_port_up new ≡ true) → Holds v → Holds (with_port_at p new v)
moved_keeps v p old new few there stays held =
    let w : BridgeView = with_port_at p new v in
    wider_keeps (up_ports v) (up_ports w) v.id.system v.database (all_stay v p old new few there stays) held

pub left_keeps : (v : BridgeView) (p : ℕ) (old new : BridgePort) → length v.ports ≤ 32 → port_at v p ≡ Some old → Holds v → Holds (left_up p new v)
left_keeps v p old new few there held =
    let w : BridgeView = left_up p new v in
    let range = port_range v.ports p old few there in
    each_keeps (up_ports v) (up_ports w) v.id.system (λ id e. flags_cleared_at p e) v.database
    (flags_cleared_keeps (up_ports v) (up_ports w) p range.0 range.1 (others_stay v p old (with_csnp_due false new) few there)) held

pub srm_set_at_keeps : (v : BridgeView) (p : ℕ) (old new : BridgePort) → length v.ports ≤ 32 → port_at v p ≡ Some old → is_port_up new ≡ true → Holds v → Holds (all_srm_set_at p new v)
srm_set_at_keeps v p old new few there up held =
    let w : BridgeView = all_srm_set_at p new v in
    let range = port_range v.ports p old few there in
    each_keeps (up_ports v) (up_ports w) v.id.system (λ id e. srm_set_at p e) v.database
    (srm_set_keeps (up_ports v) (up_ports w) p range.0 range.1 (all_stay v p old (with_csnp_due true new) few there (λ was. up)) (up_after v p old (with_csnp_due true new) few there up)) held

-- ---- a second passes

-- the lifetimes fall
aged_flags : (up : PortSet) (e : Entry) (a : Version) → e.version ≡ a → HasFlagsAt up e → HasFlagsAt up (aged_at up e a)
aged_flags up e Absent is flags = flags
aged_flags up e (Live seq sum) is flags = by_test (nat_le e.lifetime 1)
  where
    by_test : (b : Bool) → HasFlagsAt up (if b then made (Dead seq) 0 [] up e.ssn else record e { lifetime = e.lifetime - 1 })
    by_test true = record { srm = λ q on. on; ssn = flags.ssn; absent = λ gone q. absurd cc }
    by_test false = record { srm = flags.srm; ssn = flags.ssn; absent = flags.absent }
aged_flags up e (Dead seq) is flags = flags

aged_there : (up : PortSet) (e : Entry) (a : Version) → e.version ≡ a → is_absent e.version ≡ false → is_absent (aged_at up e a).version ≡ false
aged_there up e Absent is there = there
aged_there up e (Live seq sum) is there = by_test (nat_le e.lifetime 1)
  where
    by_test : (b : Bool) → is_absent (if b then made (Dead seq) 0 [] up e.ssn else record e { lifetime = e.lifetime - 1 }).version ≡ false
    by_test true = refl
    by_test false = there
aged_there up e (Dead seq) is there = there

aged_text : (number : ℕ) (up : PortSet) (e : Entry) (a : Version) → HasText number e.body → HasText number (aged_at up e a).body
aged_text number up e Absent was = was
aged_text number up e (Live seq sum) was = by_test (nat_le e.lifetime 1)
  where
    by_test : (b : Bool) → HasText number (if b then made (Dead seq) 0 [] up e.ssn else record e { lifetime = e.lifetime - 1 }).body
    by_test true = dead_text number
    by_test false = was
aged_text number up e (Dead seq) was = was

pub expired_keeps : (v : BridgeView) → Holds v → Holds (expired v)
expired_keeps v held =
    let keeps : KeepsEntry (up_ports v) (up_ports v) (λ id e. aged (up_ports v) e) = record {
      sendable = ageing_keeps_sendable (up_ports v);
      sized = ageing_keeps_sized (up_ports v);
      octets = λ x e was. ageing_keeps_octets (up_ports v) e was;
      flags = λ x e flags. aged_flags (up_ports v) e e.version refl flags;
      there = λ x e there. aged_there (up_ports v) e e.version refl there;
      text = λ number x e was. aged_text number (up_ports v) e e.version was;
    } in
    each_keeps (up_ports v) (up_ports v) v.id.system (λ id e. aged (up_ports v) e) v.database keeps held

-- the neighbours at some ports are lost
abbrev IsPortNumber : ℕ → Type 0
IsPortNumber p = (1 ≤ p) × (p ≤ 32)

all_flags_cleared_flags : (ps : List ℕ) (up next : PortSet) (e : Entry) → AllByRecursion IsPortNumber ps → ((q : ℕ) → has up q ≡ true → Has q ps ⊎ (has next q ≡ true)) → HasFlagsAt up e → HasFlagsAt next (flags_cleared_at_all ps e)
all_flags_cleared_flags [] up next e range stay flags = wider up next e (λ q on. elim (stay q on) [ inl h ↦ absurd h | inr up ↦ up ]) flags
all_flags_cleared_flags (p ∷ ps) up next e range stay flags =
    let low = range.0.0 in
    let high = range.0.1 in
    let mid : PortSet = without_port up p in
    let parts : HasFlagsAt mid (flags_cleared_at p e) = flags_cleared_flags up mid p low high (λ q apart on. has-without_other up p q low high apart ∙ on) e flags in
    all_flags_cleared_flags ps mid next (flags_cleared_at p e) range.1 (λ q on. ⊎_elim
    (λ here. absurd (true≢false (sym on ∙ (ap (has mid) here ∙ has-without_same up p low high))))
    (λ apart. elim (stay q (sym (has-without_other up p q low high apart) ∙ on)) [ inl h ↦ elim h [ inl here ↦ absurd (apart here) | inr among ↦ inl among ] | inr up ↦ inr up ])
    (cases_eq q p)) parts

all_flags_cleared_sendable : (ps : List ℕ) (x : LspId) (e : Entry) → IsSendable x e → IsSendable x (flags_cleared_at_all ps e)
all_flags_cleared_sendable [] x e s = s
all_flags_cleared_sendable (p ∷ ps) x e s = all_flags_cleared_sendable ps x (flags_cleared_at p e) (flags_sendable (without_port e.srm p) (without_port e.ssn p) x e s)

all_flags_cleared_sized : (ps : List ℕ) (x : LspId) (e : Entry) → IsSized x e → IsSized x (flags_cleared_at_all ps e)
all_flags_cleared_sized [] x e s = s
all_flags_cleared_sized (p ∷ ps) x e s = all_flags_cleared_sized ps x (flags_cleared_at p e) (flags_keep_sized (without_port e.srm p) (without_port e.ssn p) x e s)

all_flags_cleared_there : (ps : List ℕ) (e : Entry) → is_absent e.version ≡ false → is_absent (flags_cleared_at_all ps e).version ≡ false
all_flags_cleared_there [] e there = there
all_flags_cleared_there (p ∷ ps) e there = all_flags_cleared_there ps (flags_cleared_at p e) there

all_flags_cleared_body : (P : List ℕ → Type 0) (ps : List ℕ) (e : Entry) → P e.body → P (flags_cleared_at_all ps e).body
all_flags_cleared_body P [] e was = was
all_flags_cleared_body P (p ∷ ps) e was = all_flags_cleared_body P ps (flags_cleared_at p e) was

-- a port where the neighbour is lost is among those
later_has : (b : Bool) (q p : ℕ) (ports : List BridgePort) → Has q (leaving_from (p + 1) ports) → Has q (if b then p ∷ leaving_from (p + 1) ports else leaving_from (p + 1) ports)
later_has true q p ports h = inr h
later_has false q p ports h = h

first_has : (b : Bool) (p : ℕ) (ports : List BridgePort) → b ≡ true → Has p (if b then p ∷ leaving_from (p + 1) ports else leaving_from (p + 1) ports)
first_has true p ports is = inl refl
first_has false p ports is = absurd cc

pub has_leaving : (p k : ℕ) (ports : List BridgePort) (port : BridgePort) → slice_get ports k ≡ Some port → leaves port ≡ true → Has (p + k) (leaving_from p ports)
has_leaving p k [] port at lost = absurd cc
has_leaving p zero (x ∷ ports) port at lost =
    let same : x ≡ port = cc in
    let here : p + 0 ≡ p = omega arith in
    subst (λ q. Has q (leaving_from p (x ∷ ports))) (sym here) (first_has (leaves x) p ports (ap leaves same ∙ lost))
has_leaving p (suc k) (x ∷ ports) port at lost =
    let next : p + suc k ≡ p + 1 + k = omega arith in
    subst (λ q. Has q (leaving_from p (x ∷ ports))) (sym next) (later_has (leaves x) (p + 1 + k) p ports (has_leaving (p + 1) k ports port at lost))

leaving_more : (b : Bool) (p : ℕ) (ports : List BridgePort) → IsPortNumber p → AllByRecursion IsPortNumber (leaving_from (p + 1) ports) → AllByRecursion IsPortNumber (if b then p ∷ leaving_from (p + 1) ports else leaving_from (p + 1) ports)
leaving_more true p ports here rest = (here, rest)
leaving_more false p ports here rest = rest

pub leaving_range : (p : ℕ) (ports : List BridgePort) → 1 ≤ p → p + length ports ≤ 33 → AllByRecursion IsPortNumber (leaving_from p ports)
leaving_range p [] low few = tt
leaving_range p (port ∷ ports) low few = leaving_more (leaves port) p ports (low, omega (arith, few)) (leaving_range (p + 1) ports (omega (arith, low)) (omega (arith, few)))

-- a port that is Up loses its neighbour or is Up a second later
lost_or_up : (b : Bool) (port : BridgePort) → is_port_up port ≡ true → is_port_up (later port) ≡ b → (leaves port ≡ true) ⊎ (b ≡ true)
lost_or_up true port up is = inr refl
lost_or_up false port up is = inl ((λ i. up i && not (is i)))

stay_or_leave : (ports : List BridgePort) (q : ℕ) (o : Option BridgePort) → length ports ≤ 32 → port_in ports q ≡ o → is_up_in o ≡ true → Has q (leaving_from 1 ports) ⊎ (has (up_from 1 (map later ports)) q ≡ true)
stay_or_leave ports q None few there up = absurd (false≢true up)
stay_or_leave ports q (Some port) few there up =
    let at = found ports q port there in
    let number : 1 + (q - 1) ≡ q = omega (arith, at.0) in
    let next : port_in (map later ports) q ≡ Some (later port) = rw (le-leb 1 q at.0) (slice_get-map later ports (q - 1) ∙ ap (option_map later) at.1) in
    elim (lost_or_up (is_port_up (later port)) port up refl) [
      | inl lost ↦ inl (subst (λ k. Has k (leaving_from 1 ports)) number (has_leaving 1 (q - 1) ports port at.1 lost))
      | inr stays ↦ inr (up_at (map later ports) q (omega (arith, few, length-map ports later)) ∙ (ap is_up_in next ∙ stays))
    ]

pub counts_lowered_keeps : (v : BridgeView) → length v.ports ≤ 32 → Holds v → Holds (counts_lowered v)
counts_lowered_keeps v few held =
    let ps : List ℕ = leaving_from 1 v.ports in
    let w : BridgeView = counts_lowered v in
    let keeps : KeepsEntry (up_ports v) (up_ports w) (λ id e. flags_cleared_at_all ps e) = record {
      sendable = all_flags_cleared_sendable ps;
      sized = all_flags_cleared_sized ps;
      octets = λ x e was. all_flags_cleared_body IsBytes ps e was;
      flags = λ x e flags. all_flags_cleared_flags ps (up_ports v) (up_ports w) e (leaving_range 1 v.ports (omega arith) (omega (arith, few)))
          (λ q up. stay_or_leave v.ports q (port_in v.ports q) few refl (sym (up_at v.ports q few) ∙ up)) flags;
      there = λ x e there. all_flags_cleared_there ps e there;
      text = λ number x e was. all_flags_cleared_body (HasText number) ps e was;
    } in
    each_keeps (up_ports v) (up_ports w) v.id.system (λ id e. flags_cleared_at_all ps e) v.database keeps held

-- ---- what had SSN was sent

ssn_flags : (up : PortSet) (p : ℕ) (e : Entry) (b : Bool) → has_ssn_at p e ≡ b → HasFlagsAt up e → HasFlagsAt up (if b then record e { ssn = without_port e.ssn p } else e)
ssn_flags up p e true ssn flags =
    let range = has_port e.ssn p ssn in
    record {
      srm = flags.srm;
      ssn = λ q on. ⊎_elim
          (λ here. absurd (true≢false (sym on ∙ (ap (has (without_port e.ssn p)) here ∙ has-without_same e.ssn p range.0 range.1))))
          (λ apart. flags.ssn q (sym (has-without_other e.ssn p q range.0 range.1 apart) ∙ on))
          (cases_eq q p);
      absent = flags.absent;
    }
ssn_flags up p e false ssn flags = flags

ssn_sendable : (x : LspId) (p : ℕ) (e : Entry) (b : Bool) → IsSendable x e → IsSendable x (if b then record e { ssn = without_port e.ssn p } else e)
ssn_sendable x p e true s = flags_sendable e.srm (without_port e.ssn p) x e s
ssn_sendable x p e false s = s

ssn_sized : (x : LspId) (p : ℕ) (e : Entry) (b : Bool) → IsSized x e → IsSized x (if b then record e { ssn = without_port e.ssn p } else e)
ssn_sized x p e true s = flags_keep_sized e.srm (without_port e.ssn p) x e s
ssn_sized x p e false s = s

ssn_there : (p : ℕ) (e : Entry) (b : Bool) → is_absent e.version ≡ false → is_absent (if b then record e { ssn = without_port e.ssn p } else e).version ≡ false
ssn_there p e true there = there
ssn_there p e false there = there

ssn_body : (P : List ℕ → Type 0) (p : ℕ) (e : Entry) (b : Bool) → P e.body → P (if b then record e { ssn = without_port e.ssn p } else e).body
ssn_body P p e true was = was
ssn_body P p e false was = was

pub all_ssn_cleared_keeps : (up : PortSet) (system : SystemId) (p : ℕ) (db : Lsps) → IsSoundData up system db → IsSoundData up system (all_ssn_cleared p db)
all_ssn_cleared_keeps up system p db held =
    let keeps : KeepsEntry up up (λ id e. ssn_cleared_entry p e) = record {
      sendable = λ x e s. ssn_sendable x p e (has_ssn_at p e) s;
      sized = λ x e s. ssn_sized x p e (has_ssn_at p e) s;
      octets = λ x e was. ssn_body IsBytes p e (has_ssn_at p e) was;
      flags = λ x e flags. ssn_flags up p e (has_ssn_at p e) refl flags;
      there = λ x e there. ssn_there p e (has_ssn_at p e) there;
      text = λ number x e was. ssn_body (HasText number) p e (has_ssn_at p e) was;
    } in
    each_keeps up up system (λ id e. ssn_cleared_entry p e) db keeps held

after_sending_by : (b : Bool) (up : PortSet) (system : SystemId) (p : ℕ) (db : Lsps) → IsSoundData up system db → IsSoundData up system (if b then all_ssn_cleared p db else db)
after_sending_by true up system p db held = all_ssn_cleared_keeps up system p db held
after_sending_by false up system p db held = held

pub after_sending_at_keeps : (up : PortSet) (system : SystemId) (p : ℕ) (port : BridgePort) (db : Lsps) → IsSoundData up system db → IsSoundData up system (after_sending_at p port db)
after_sending_at_keeps up system p port db held = after_sending_by (is_port_up port) up system p db held

pub after_sending_from_keeps : (up : PortSet) (system : SystemId) (p : ℕ) (ports : List BridgePort) (db : Lsps) → IsSoundData up system db → IsSoundData up system (after_sending_from p ports db)
after_sending_from_keeps up system p [] db held = held
after_sending_from_keeps up system p (port ∷ ports) db held = after_sending_from_keeps up system (p + 1) ports (after_sending_at p port db) (after_sending_at_keeps up system p port db held)

-- CSNPs aren't due any more, and the Up ports are as before
same_up_at : (b : Bool) (s t : PortSet) (p : ℕ) → s ≡ t → (if b then with_port s p else s) ≡ (if b then with_port t p else t)
same_up_at b s t p e = ap (λ set. if b then with_port set p else set) e

pub undue_up : (p : ℕ) (ports : List BridgePort) → up_from p (map (with_csnp_due false) ports) ≡ up_from p ports
undue_up p [] = refl
undue_up p (port ∷ ports) = same_up_at (is_port_up port) _ _ p (undue_up (p + 1) ports)

pub after_sending_keeps : (v : BridgeView) → Holds v → Holds (after_sending v)
after_sending_keeps v held =
    subst (λ (up : PortSet). IsSoundData up v.id.system (after_sending_from 1 v.ports v.database)) (sym (undue_up 1 v.ports))
    (after_sending_from_keeps (up_ports v) v.id.system 1 v.ports v.database held)

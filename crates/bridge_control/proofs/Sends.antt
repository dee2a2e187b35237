-- What is sent at a port.
use Rattle.std.proofs.Common.{◌≡◌, ◌≤◌, ◌<◌, ◌+◌, ℕ, zero, suc, Bool, true, false, List, [], ◌∷◌, ◌++◌, map, length, take, get_or, refl, sym, ap, ◌∙◌, subst, Option, Some, None, arith, append_assoc, min, lit≤}
use Rattle.std.specs.Prelude.{◌==◌, if◌then◌else◌}
use Rattle.std.specs.List.{AllByRecursion}
use Rattle.std.specs.FinMap.{entries}
use Rattle.std.specs.Global.{Vec}
use Rattle.std.proofs.lemmas.List.{append-nil, nil_from_length}
use Rattle.spb_types.specs.declared.address.SystemId.{SystemId}
use Rattle.spb_types.specs.declared.address.LspId.{LspId}
use Rattle.spb_types.specs.declared.ports.PortSet.{PortSet}
use Rattle.spb_types.specs.Ports.{has}
use Rattle.spb_types.proofs.PortLemmas.{has-without_port}
use Rattle.isis_pdu.specs.Grammar.{IsId}
use Rattle.isis_pdu.specs.Pdu.{CsnpValue}
use Rattle.isis_pdu.specs.Spelling.{lsp_bytes, csnp_bytes}
use Rattle.spb_tlvs.specs.declared.entries.SnpEntry.{SnpEntry}
use Rattle.spb_tlvs.specs.RoundTrip.{IsEntry}
use Rattle.itag_frames.specs.Frame.{control_bytes}
use Rattle.lsdb.specs.Entry.{Entry, with_ssn}
use Rattle.lsdb.specs.Database.{Lsps, is_srm_at, is_ssn_at, AreFlagsAt}
use Rattle.lsdb.proofs.Flags.{none_to_send_at, none_to_ack_at, none_each}
use Rattle.flooding.specs.Entries.{IsSendable, AreSendable}
use Rattle.flooding.specs.Sending.{lsp_in}
use Rattle.flooding.proofs.SendableEntries.{flags_sendable}
use Rattle.snp_sync.specs.SnpEntries.{snp_entry_of}
use Rattle.snp_sync.specs.Chunks.{chunks}
use Rattle.snp_sync.specs.Sized.{IsSized, AreSized, HaveIds, IsLspId, IsSizedEntry}
use Rattle.snp_sync.specs.Sending.{CsnpChunk, bytes_in, csnp_for, psnp_for, csnp_chunks, csnps_of, ssn_cleared, all_ssn_cleared}
use Rattle.snp_sync.proofs.Cuts.{chunks_none, chunks_cut}
use Rattle.snp_sync.proofs.Fields.{flags_keep_sized}
use Rattle.snp_sync.proofs.Ranges.{csnp_chunks_are_short, csnp_chunks_end_at_ids}
use Rattle.snp_sync.proofs.Said.{csnp_entries_are_sized}
use Rattle.snp_sync.proofs.Silent.{none_cleared}
use Rattle.snp_sync.proofs.Stays.{all_each}
use Rattle.bridge_api.specs.declared.port.BridgePort.{BridgePort}
use Rattle.bridge_api.specs.declared.outbox.Outbox.{Outbox}
use Rattle.bridge_api.specs.View.{is_port_up}
use Rattle.bridge_api.specs.Step.{with_wire, Gains}
use Rattle.bridge_api.specs.Ticking.{hello_frame, lsp_frame, csnp_frame, psnp_frame, hellos_at, summaries_at, lsps_at, requests_at, synced_at, sent_at, sent_from, after_sending_at, after_sending_from}
use Rattle.bridge_control.proofs.Wire.{ports_next, after_sending_next, sent_none, sent_both, sent_as, gained_first}
use Rattle.bridge_api.proofs.Spelled.{lsp_short, csnp_short, chunk_short}
use Rattle.bridge_control.specs.Frames.{hello_sent, frames_of, psnps_sent, flagged_at}
use Rattle.bridge_control.specs.Machine.{kept_hello}
use Rattle.bridge_control.specs.Made.{AreMadeOf}
use Rattle.bridge_control.proofs.Copies.{after_sending_frames}
use Rattle.bridge_control.proofs.Standing.{after_sending_within}

-- ---- how long PDUs are

pub lsp_fits : (id : LspId) (e : Entry) → IsId id.system → IsSendable id e → length (lsp_bytes (lsp_in id e)) ≤ 1497
lsp_fits id e six s = omega (arith, lsp_short (lsp_in id e) six, s.written.short)

sized_entries : (entries_listed : List SnpEntry) → AllByRecursion IsSizedEntry entries_listed → AllByRecursion IsEntry entries_listed
sized_entries [] all = tt
sized_entries (entry ∷ entries_listed) all = (all.0.entry, sized_entries entries_listed all.1)

csnps_fit : (me : SystemId) (csnp_chunks : List CsnpChunk) → IsId me → AllByRecursion (λ chunk. length chunk.entries ≤ 90) csnp_chunks → AllByRecursion (λ chunk. IsLspId chunk.start × IsLspId chunk.end) csnp_chunks
    → AllByRecursion (λ chunk. AllByRecursion IsSizedEntry chunk.entries) csnp_chunks → AllByRecursion (λ b. length b ≤ 1497) (map csnp_bytes (map (csnp_for me) csnp_chunks))
csnps_fit me [] six short ends sized = tt
csnps_fit me (chunk ∷ csnp_chunks) six short ends sized =
    let size = csnp_short (csnp_for me chunk) six ends.0.0.system ends.0.1.system in
    (omega (arith, size, chunk_short chunk.entries (sized_entries chunk.entries sized.0) short.0), csnps_fit me csnp_chunks six short.1 ends.1 sized.1)

have_ids : (db : Lsps) → AreSized db → HaveIds db
have_ids db sized = λ id e held. (sized id e held).named

fit_bytes : (pdus : List (Vec ℕ)) → AllByRecursion (λ b. length b ≤ 1497) (bytes_in pdus) → AllByRecursion (λ pdu. length pdu.items ≤ 1497) pdus
fit_bytes [] all = tt
fit_bytes (pdu ∷ pdus) all = (all.0, fit_bytes pdus all.1)

pub fitting_csnps : (me : SystemId) (db : Lsps) (pdus got : List (Vec ℕ)) → IsId me → AreSized db → got ≡ pdus → bytes_in pdus ≡ map csnp_bytes (csnps_of me db) → AllByRecursion (λ pdu. length pdu.items ≤ 1497) got
fitting_csnps me db pdus got six sized same is =
    fit_bytes got (subst (AllByRecursion (λ (b : List ℕ). length b ≤ 1497)) (sym (ap bytes_in same ∙ is))
    (csnps_fit me (csnp_chunks db) six (csnp_chunks_are_short db) (csnp_chunks_end_at_ids db (have_ids db sized)) (csnp_entries_are_sized db sized)))

pub fits_at : (pdus : List (Vec ℕ)) (i : ℕ) (d : Vec ℕ) → AllByRecursion (λ pdu. length pdu.items ≤ 1497) pdus → i < length pdus → length (get_or pdus i d).items ≤ 1497
fits_at [] i d all within = absurd (omega arith)
fits_at (pdu ∷ pdus) zero d all within = all.0
fits_at (pdu ∷ pdus) (suc i) d all within = fits_at pdus i d all.1 (omega arith)

-- ---- their frames

csnps_framed : (me : SystemId) (p : ℕ) (cs : List CsnpValue) → frames_of me p (map csnp_bytes cs) ≡ map (λ c. (p, csnp_frame me c)) cs
unfolding csnp_frame
csnps_framed me p [] = refl
csnps_framed me p (c ∷ cs) = ap (λ (fs : List (ℕ × List ℕ)). (p, control_bytes me.mac (csnp_bytes c)) ∷ fs) (csnps_framed me p cs)

pub summaries_are : (me : SystemId) (p : ℕ) (port : BridgePort) (db : Lsps) (pdus got : List (Vec ℕ)) → port.csnp_due ≡ true → got ≡ pdus → bytes_in pdus ≡ map csnp_bytes (csnps_of me db) → frames_of me p (bytes_in got) ≡ summaries_at me p port db
summaries_are me p port db pdus got due same is =
    ap (λ (bs : List (List ℕ)). frames_of me p bs) (ap bytes_in same ∙ is)
    ∙ (csnps_framed me p (csnps_of me db) ∙ ap (λ (b : Bool). if b then map (λ c. (p, csnp_frame me c)) (csnps_of me db) else []) (sym due))

pub no_summaries : (me : SystemId) (p : ℕ) (port : BridgePort) (db : Lsps) → port.csnp_due ≡ false → [] ≡ summaries_at me p port db
no_summaries me p port db due = ap (λ (b : Bool). if b then map (λ c. (p, csnp_frame me c)) (csnps_of me db) else []) (sym due)

-- the PSNPs so far, of entries of which the rest is still to come
pub record Requested (me : SystemId) (p : ℕ) (entries rest : List SnpEntry) (o now : Outbox) : Type 0 where
  frames : List (ℕ × List ℕ)
  sent : now ≡ with_wire frames o
  all : frames ++ psnps_sent me p (chunks 90 rest) ≡ psnps_sent me p (chunks 90 entries)

pub requested_none : (me : SystemId) (p : ℕ) (entries rest : List SnpEntry) (o : Outbox) → rest ≡ entries
    → Requested me p entries rest o o
requested_none me p entries rest o is = record {
  frames = [];
  sent = sent_none o;
  all = ap (λ (es : List SnpEntry). psnps_sent me p (chunks 90 es)) is;
}

pub requested_more : (me : SystemId) (p : ℕ) (entries old chunk rest : List SnpEntry) (o mid new : Outbox)
    → Requested me p entries old o mid → old ≡ chunk ++ rest → length chunk ≡ min 90 (length old) → 1 ≤ length old
    → new ≡ with_wire ((p, psnp_frame me (psnp_for me chunk)) ∷ []) mid → Requested me p entries rest o new
requested_more me p entries old chunk rest o mid new so_far is size full sent =
    let frame : List (ℕ × List ℕ) = (p, psnp_frame me (psnp_for me chunk)) ∷ [] in
    record {
      frames = so_far.frames ++ frame;
      sent = sent_both so_far.frames frame o mid new so_far.sent sent;
      all = append_assoc so_far.frames frame (psnps_sent me p (chunks 90 rest))
          ∙ (ap (λ (ps : List (List SnpEntry)). so_far.frames ++ psnps_sent me p ps) (sym (chunks_cut 90 old chunk rest (lit≤ tt) is size full))
          ∙ so_far.all);
    }

pub requested_some : (me : SystemId) (p : ℕ) (entries rest : List SnpEntry) (o mid new : Outbox)
    → Requested me p entries rest o mid → new ≡ mid → Gains (psnps_sent me p (chunks 90 entries)) o new
requested_some me p entries rest o mid new so_far kept =
    gained_first so_far.frames (psnps_sent me p (chunks 90 rest)) _ o new (sym so_far.all) (kept ∙ so_far.sent)

pub requested_all : (me : SystemId) (p : ℕ) (entries rest : List SnpEntry) (o new : Outbox)
    → Requested me p entries rest o new → length rest ≡ 0 → new ≡ with_wire (psnps_sent me p (chunks 90 entries)) o
requested_all me p entries rest o new so_far none =
    let nothing : psnps_sent me p (chunks 90 rest) ≡ [] =
    ap (λ (es : List SnpEntry). psnps_sent me p (chunks 90 es)) (nil_from_length rest none) ∙ ap (psnps_sent me p) (chunks_none 90) in
    sent_as so_far.frames _ o new
    (sym (append-nil so_far.frames) ∙ (ap (λ (fs : List (ℕ × List ℕ)). so_far.frames ++ fs) (sym nothing) ∙ so_far.all))
    so_far.sent

-- ---- where no flags stand

pub no_lsps : (me : SystemId) (p : ℕ) (db : Lsps) → is_srm_at p db ≡ false → [] ≡ lsps_at me p db
no_lsps me p db none = sym (ap (λ (es : List (LspId × Entry)). map (λ l. (p, lsp_frame me l)) (map (λ e. lsp_in e.0 e.1) es)) (none_to_send_at db p none))

pub no_requests : (me : SystemId) (p : ℕ) (db : Lsps) → is_ssn_at p db ≡ false → [] ≡ requests_at me p db
no_requests me p db none =
    sym (ap (λ (es : List (LspId × Entry)). map (λ s. (p, psnp_frame me s)) (map (psnp_for me) (chunks 90 (map (λ e. snp_entry_of e.0 e.1) es)))) (none_to_ack_at db p none)
    ∙ ap (λ (ps : List (List SnpEntry)). map (λ s. (p, psnp_frame me s)) (map (psnp_for me) ps)) (chunks_none 90))

pub nothing_cleared : (p : ℕ) (db : Lsps) → is_ssn_at p db ≡ false → db ≡ all_ssn_cleared p db
nothing_cleared p db none = none_cleared p db (ap (map (λ (e : LspId × Entry). snp_entry_of e.0 e.1)) (none_to_ack_at db p none))

-- ---- a port

pub after_sending_up : (p : ℕ) (port : BridgePort) (db new : Lsps) → is_port_up port ≡ true → new ≡ all_ssn_cleared p db → new ≡ after_sending_at p port db
after_sending_up p port db new up is = is ∙ ap (λ (b : Bool). if b then all_ssn_cleared p db else db) (sym up)

pub after_sending_down : (p : ℕ) (port : BridgePort) (db : Lsps) → is_port_up port ≡ false → db ≡ after_sending_at p port db
after_sending_down p port db up = ap (λ (b : Bool). if b then all_ssn_cleared p db else db) (sym up)

pub sent_down : (me : SystemId) (p : ℕ) (port : BridgePort) (db : Lsps) → is_port_up port ≡ false → hellos_at me p port ≡ sent_at me p port db
sent_down me p port db up =
    sym (append-nil (hellos_at me p port))
    ∙ ap (λ (b : Bool). hellos_at me p port ++ (if b then summaries_at me p port db ++ lsps_at me p db ++ requests_at me p db else [])) (sym up)

-- nothing is sent at a port without carrier that isn't Up
pub sent_silent : (me : SystemId) (p : ℕ) (port : BridgePort) (db : Lsps) → port.adjacency.carrier ≡ false → is_port_up port ≡ false → [] ≡ sent_at me p port db
sent_silent me p port db none up =
    ap (λ (b : Bool). if b then (p, hello_frame me p port) ∷ [] else []) (sym none) ∙ sent_down me p port db up

-- at an Up port CSNPs come first
pub synced_up : (me : SystemId) (p : ℕ) (port : BridgePort) (db : Lsps) → is_port_up port ≡ true → synced_at me p port db ≡ summaries_at me p port db ++ flagged_at me p db
synced_up me p port db up =
    ap (λ (b : Bool). if b then summaries_at me p port db ++ lsps_at me p db ++ requests_at me p db else []) up
    ∙ append_assoc (summaries_at me p port db) (lsps_at me p db) (requests_at me p db)

-- a port at which a hello alone can be sent
synced_by : (up : Bool) (first second third : List (ℕ × List ℕ)) → (up ≡ true → [] ≡ first) → (up ≡ true → [] ≡ second) → (up ≡ true → [] ≡ third) → (if up then first ++ second ++ third else []) ≡ []
synced_by true first second third one two three = λ i. sym (one refl) i ++ sym (two refl) i ++ sym (three refl) i
synced_by false first second third one two three = refl

pub hello_alone : (me : SystemId) (p : ℕ) (port : BridgePort) (db : Lsps) → (is_port_up port ≡ true → port.csnp_due ≡ false) → (is_port_up port ≡ true → is_srm_at p db ≡ false) → (is_port_up port ≡ true → is_ssn_at p db ≡ false) → hellos_at me p port ≡ sent_at me p port db
hello_alone me p port db due srm ssn =
    sym (append-nil (hellos_at me p port))
    ∙ ap (λ (fs : List (ℕ × List ℕ)). hellos_at me p port ++ fs)
    (sym (synced_by (is_port_up port) (summaries_at me p port db) (lsps_at me p db) (requests_at me p db) (λ up. no_summaries me p port db (due up)) (λ up. no_lsps me p db (srm up)) (λ up. no_requests me p db (ssn up))))

cleared_if : (up : Bool) (db new : Lsps) → (up ≡ true → db ≡ new) → db ≡ (if up then new else db)
cleared_if true db new is = is refl
cleared_if false db new is = refl

pub none_cleared_at : (p : ℕ) (port : BridgePort) (db : Lsps) → (is_port_up port ≡ true → is_ssn_at p db ≡ false) → db ≡ after_sending_at p port db
none_cleared_at p port db ssn = cleared_if (is_port_up port) db (all_ssn_cleared p db) (λ up. nothing_cleared p db (ssn up))

-- the hello that is kept is sent
kept_sent : (p : ℕ) (hello : List ℕ) (carrier : Bool) → hello_sent p (if carrier then Some hello else None) ≡ (if carrier then (p, hello) ∷ [] else [])
kept_sent p hello true = refl
kept_sent p hello false = refl

pub said_hello : (me : SystemId) (p : ℕ) (port : BridgePort) (hello : Option (List ℕ)) (o new : Outbox) → hello ≡ kept_hello me p port → new ≡ with_wire (hello_sent p hello) o → new ≡ with_wire (hellos_at me p port) o
said_hello me p port hello o new is sent =
    sent ∙ (ap (λ (h : Option (List ℕ)). with_wire (hello_sent p h) o) is ∙ ap (λ (fs : List (ℕ × List ℕ)). with_wire fs o) (kept_sent p (hello_frame me p port) port.adjacency.carrier))

-- hellos alone come first
pub sent_hello : (me : SystemId) (p : ℕ) (port : BridgePort) (db : Lsps) → sent_at me p port db ≡ hellos_at me p port ++ synced_at me p port db
sent_hello me p port db = refl

-- ---- what stays so of a database

originated_if_changed_by : (P : Entry → Type 0) (b : Bool) (p : ℕ) (e : Entry) → P e → P (with_ssn p false e) → P (if b then with_ssn p false e else e)
originated_if_changed_by P true p e was after = after
originated_if_changed_by P false p e was after = was

after_sending_by : (P : Lsps → Type 0) (b : Bool) (p : ℕ) (db : Lsps) → P db → P (all_ssn_cleared p db) → P (if b then all_ssn_cleared p db else db)
after_sending_by P true p db was after = after
after_sending_by P false p db was after = was

pub after_sending_sendable : (p : ℕ) (port : BridgePort) (db : Lsps) → AreSendable db → AreSendable (after_sending_at p port db)
after_sending_sendable p port db all =
    after_sending_by AreSendable (is_port_up port) p db all (all_each IsSendable (λ id e. ssn_cleared p e) db all (λ id e s. originated_if_changed_by (IsSendable id) (has e.ssn p) p e s (flags_sendable e.srm (with_ssn p false e).ssn id e s)))

pub after_sending_sized : (p : ℕ) (port : BridgePort) (db : Lsps) → AreSized db → AreSized (after_sending_at p port db)
after_sending_sized p port db all =
    after_sending_by AreSized (is_port_up port) p db all (all_each IsSized (λ id e. ssn_cleared p e) db all (λ id e s. originated_if_changed_by (IsSized id) (has e.ssn p) p e s (flags_keep_sized e.srm (with_ssn p false e).ssn id e s)))

same_srm : (p q : ℕ) (e : Entry) → has e.srm q ≡ false → has (ssn_cleared p e).srm q ≡ false
same_srm p q e none = by_test (has e.ssn p)
  where
    by_test : (b : Bool) → has (if b then with_ssn p false e else e).srm q ≡ false
    by_test true = none
    by_test false = none

less_ssn : (p q : ℕ) → 1 ≤ p → p ≤ 32 → (e : Entry) → has e.ssn q ≡ false → has (ssn_cleared p e).ssn q ≡ false
less_ssn p q low high e none = by_test (has e.ssn p)
  where
    by_place : (s : Bool) → (if s then false else has e.ssn q) ≡ false
    by_place true = refl
    by_place false = none

    by_test : (b : Bool) → has (if b then with_ssn p false e else e).ssn q ≡ false
    by_test true = has-without_port e.ssn p q low high ∙ by_place (q == p)
    by_test false = none

pub after_sending_srm : (p : ℕ) (port : BridgePort) (db : Lsps) (q : ℕ) → is_srm_at q db ≡ false → is_srm_at q (after_sending_at p port db) ≡ false
after_sending_srm p port db q none =
    after_sending_by (λ (x : Lsps). is_srm_at q x ≡ false) (is_port_up port) p db none (none_each (λ e. has e.srm q) (ssn_cleared p) (same_srm p q) db none)

pub after_sending_ssn : (p : ℕ) (port : BridgePort) (db : Lsps) (q : ℕ) → 1 ≤ p → p ≤ 32 → is_ssn_at q db ≡ false → is_ssn_at q (after_sending_at p port db) ≡ false
after_sending_ssn p port db q low high none =
    after_sending_by (λ (x : Lsps). is_ssn_at q x ≡ false) (is_port_up port) p db none (none_each (λ e. has e.ssn q) (ssn_cleared p) (less_ssn p q low high) db none)

-- ---- the ports so far

pub record Sending (system : SystemId) (ports : List BridgePort) (db : Lsps) (o : Outbox) (i : ℕ) (srm ssn : PortSet) (ps : List ℕ) (frames : List (Option (List ℕ))) (now : Lsps) (new : Outbox) : Type 0 where
  pub sent : new ≡ with_wire (sent_from system 1 (take i ports) db) o
  pub after_sending : now ≡ after_sending_from 1 (take i ports) db
  pub sendable : AreSendable now
  pub sized : AreSized now
  pub no_srm : (q : ℕ) → has srm q ≡ false → is_srm_at q now ≡ false
  pub no_ssn : (q : ℕ) → has ssn q ≡ false → is_ssn_at q now ≡ false
  pub within : AreFlagsAt 0 ps (entries now)
  pub made : AreMadeOf system (entries now) ps frames

pub sending_next : (system : SystemId) (ports : List BridgePort) (db : Lsps) (o : Outbox) (i : ℕ) (d : BridgePort) (srm ssn : PortSet) (ps : List ℕ) (frames : List (Option (List ℕ))) (now then_db : Lsps) (mid new : Outbox) → length ports ≤ 32 → i < length ports → Sending system ports db o i srm ssn ps frames now mid
    → new ≡ with_wire (sent_at system (i + 1) (get_or ports i d) now) mid → then_db ≡ after_sending_at (i + 1) (get_or ports i d) now → Sending system ports db o (i + 1) srm ssn ps frames then_db new
sending_next system ports db o i d srm ssn ps frames now then_db mid new few within was sent after_sending = record {
  sent = ports_next system ports db now i d o mid new within was.sent was.after_sending sent;
  after_sending = after_sending_next ports db now then_db i d within was.after_sending after_sending;
  sendable = subst AreSendable (sym after_sending) (after_sending_sendable (i + 1) (get_or ports i d) now was.sendable);
  sized = subst AreSized (sym after_sending) (after_sending_sized (i + 1) (get_or ports i d) now was.sized);
  no_srm = λ q none. subst (λ (x : Lsps). is_srm_at q x ≡ false) (sym after_sending) (after_sending_srm (i + 1) (get_or ports i d) now q (was.no_srm q none));
  no_ssn = λ q none. subst (λ (x : Lsps). is_ssn_at q x ≡ false) (sym after_sending)
      (after_sending_ssn (i + 1) (get_or ports i d) now q (omega arith) (omega (arith, few, within)) (was.no_ssn q none));
  within = subst (λ (x : Lsps). AreFlagsAt 0 ps (entries x)) (sym after_sending) (after_sending_within ps (i + 1) (get_or ports i d) now was.within);
  made = subst (λ (x : Lsps). AreMadeOf system (entries x) ps frames) (sym after_sending) (after_sending_frames system (i + 1) (get_or ports i d) now ps frames was.made);
}

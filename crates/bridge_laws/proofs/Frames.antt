-- Each frame that a bridge sends is one of its hellos, or claims what the bridge holds.
use Rattle.std.proofs.Common.{◌≡◌, inl, inr, ◌≤◌, ◌+◌, ◌-◌, ℕ, suc, Bool, true, false, List, [], ◌∷◌, ◌++◌, length, map, filter, refl, sym, ap, ◌∙◌, subst, Option, Some, None, Result, Ok, arith}
use Rattle.std.specs.Prelude.{is_some, slice_get, nat_le, if◌then◌else◌}
use Rattle.std.specs.Option.{option_map}
use Rattle.std.specs.List.{AllByRecursion}
use Rattle.std.specs.FinMap.{get, entries}
use Rattle.std.proofs.lemmas.List.{length-map}
use Rattle.std.proofs.lemmas.Option.{slice_get-map, slice_get_within}
use Rattle.std.proofs.lemmas.Bool.{le-leb}
use Rattle.spb_types.specs.declared.address.Mac.{Mac}
use Rattle.spb_types.specs.declared.address.SystemId.{SystemId}
use Rattle.spb_types.specs.declared.address.LspId.{LspId}
use Rattle.spb_types.specs.declared.service.Attachment.{Attachment}
use Rattle.spb_types.specs.declared.service.Isid.{Isid}
use Rattle.spb_types.specs.declared.service.Vid.{Vid}
use Rattle.spb_types.specs.declared.ports.PortSet.{PortSet}
use Rattle.spb_types.specs.Ports.{has}
use Rattle.isis_pdu.specs.Pdu.{HelloValue, LspValue, CsnpValue, PsnpValue}
use Rattle.isis_pdu.specs.Grammar.{IsId}
use Rattle.spb_tlvs.specs.declared.error.TlvError.{TlvError}
use Rattle.spb_tlvs.specs.declared.entries.SnpEntry.{SnpEntry}
use Rattle.spb_tlvs.specs.declared.three_way.ThreeWay.{ThreeWay}
use Rattle.spb_tlvs.specs.RoundTrip.{IsNamed, IsEntry}
use Rattle.spb_tlvs.proofs.Numbers.{weaker}
use Rattle.itag_frames.specs.Backbone.{backbone_bytes, backbone_in}
use Rattle.itag_frames.specs.Classify.{content_in, ControlAgain}
use Rattle.itag_frames.specs.Frame.{Customer}
use Rattle.itag_frames.proofs.BackboneLaws.{encapsulated_again}
use Rattle.lsdb.specs.declared.version.Version.{Version}
use Rattle.lsdb.specs.Version.{IsAtMost}
use Rattle.lsdb.specs.Entry.{Entry, with_ssn}
use Rattle.lsdb.specs.Database.{Lsps, version_in, version_at}
use Rattle.lsdb.specs.Certificate.{Claim, IsClaimed}
use Rattle.lsdb.proofs.Order.{itself}
use Rattle.lsdb.proofs.LookupLemmas.{get-each}
use Rattle.flooding.specs.Hearing.{claim_of}
use Rattle.flooding.specs.Sending.{lsp_in, lsps_to_send}
use Rattle.flooding.specs.Entries.{IsSendable, AllEntries}
use Rattle.flooding.proofs.SendableEntries.{sent_is_held}
use Rattle.snp_sync.specs.SnpEntries.{has_ssn_at}
use Rattle.snp_sync.specs.Chunks.{entry_tlvs}
use Rattle.snp_sync.specs.Reading.{entries_in}
use Rattle.snp_sync.specs.Sized.{IsLspId, IsSizedEntry}
use Rattle.snp_sync.specs.Sending.{CsnpChunk, csnp_for, psnp_for, csnp_chunks, csnps_of, psnp_chunks, psnps_of, ssn_cleared, all_ssn_cleared}
use Rattle.snp_sync.specs.Hearing.{claims_in}
use Rattle.snp_sync.specs.SendingLaws.{ClaimsWhatIsHeld, IsEntryOfHeld}
use Rattle.snp_sync.proofs.Ranges.{of_entries, csnp_chunks_are_short, csnp_chunks_end_at_ids, psnp_chunks_are_short}
use Rattle.snp_sync.proofs.Said.{csnp_entries_are_read, csnp_entries_are_sized, csnp_chunks_claim_what_is_held, csnp_chunks_list_what_is_held, psnp_entries_are_read, psnp_entries_are_sized, psnp_chunks_claim_what_is_held, psnp_chunks_list_what_is_held}
use Rattle.adjacency.specs.Adjacency.{neighbour_of, said}
use Rattle.bridge_api.specs.declared.port.BridgePort.{BridgePort}
use Rattle.bridge_api.specs.View.{BridgeView, port_at, neighbour_at, is_port_up, up_ports}
use Rattle.bridge_api.specs.Parsing.{Parsed, hello_in, parsed, is_hello, is_octets, by_content}
use Rattle.bridge_api.specs.Parsing as parsing
use Rattle.spb_types.specs.declared.drop_reason.DropReason.{DropReason}
use Rattle.spb_types.specs.declared.drop_reason.DropReason.TheVariants as drop
use Rattle.bridge_api.specs.Customers.{moved_by_entry, moved_by_receive}
use Rattle.bridge_api.specs.Hearing.{with_csnp_due}
use Rattle.bridge_api.specs.Ticking.{later, readied, hello_at, hello_frame, lsp_frame, csnp_frame, psnp_frame, hellos_at, summaries_at, lsps_at, requests_at, synced_at, sent_at, after_sending_at, sent_from, after_sending_from, after_sending, after_tick, sent_in_tick}
use Rattle.bridge_api.specs.Step.{second, frame, carrier, metric, attach, detach, customer, step, sent}
use Rattle.bridge_api.specs.Laws.{IsSoundView, IsSent, IsHelloOf, IsWritten, writes_hello, writes_lsp, writes_csnp, writes_psnp, carries, IsHeldLsp, IsHeldAt, IsFrameOf, claims_or_none, claims_said, SentIsSound}
use Rattle.bridge_api.proofs.Carried.{IsTaken, is_opened, encapsulated_is_taken}
use Rattle.bridge_api.proofs.Changes.{readied_ports, readied_rest}
use Rattle.bridge_laws.proofs.Forwarded.{sent_is, Relays, relays, Encapsulates, encapsulates}
use Rattle.bridge_api.proofs.Spelled.{lsp_taken, csnp_taken, psnp_taken}
use Rattle.bridge_api.proofs.Data.{IsSoundData, after_sending_at_keeps}
use Rattle.bridge_api.proofs.DataSteps.{readied_holds}
use Rattle.bridge_api.proofs.Hellos.{hello_content, neighbour_found, hello_of, sent_either}

-- ---- lists

pub all_mapped : {X Y : Type 0} (f : X → Y) (P : Y → Type 0) (xs : List X) → AllByRecursion (λ x. P (f x)) xs → AllByRecursion P (map f xs)
all_mapped f P [] all = tt
all_mapped f P (x ∷ xs) all = (all.0, all_mapped f P xs all.1)

all_kept_at : {X : Type 0} (P : X → Type 0) (b : Bool) (x : X) (kept : List X) → P x → AllByRecursion P kept → AllByRecursion P (if b then x ∷ kept else kept)
all_kept_at P true x kept p all = (p, all)
all_kept_at P false x kept p all = all

pub all_kept : {X : Type 0} (P : X → Type 0) (test : X → Bool) (xs : List X) → AllByRecursion P xs → AllByRecursion P (filter test xs)
all_kept P test [] all = tt
all_kept P test (x ∷ xs) all = all_kept_at P (test x) x (filter test xs) all.0 (all_kept P test xs all.1)

-- ---- what a frame says

-- what a bridge may say by a frame at a port, by what the frame is taken for
record MaySay (w : BridgeView) (p : ℕ) (j : Parsed) : Type 0 where
  hello : (h : HelloValue) (way : ThreeWay) → j ≡ parsing.hello h way → IsHelloOf w p h way
  lsp : (l : LspValue) → j ≡ parsing.lsp l → IsHeldLsp w l
  claims : (id : LspId) (a : Version) → IsClaimed (claims_said j) id a → IsHeldAt w id a

say_nothing : (w : BridgeView) (p : ℕ) (reason : DropReason) → MaySay w p (parsing.dropped reason)
say_nothing w p reason = record { hello = λ h way e. absurd cc; lsp = λ l e. absurd cc; claims = λ id a claimed. absurd claimed }

parsed_at : (b : Bool) (w : BridgeView) (p : ℕ) (j : Parsed) → MaySay w p j → MaySay w p (if b then j else parsing.dropped drop.Frame)
parsed_at true w p j may = may
parsed_at false w p j may = say_nothing w p drop.Frame

-- a frame of octets is taken for what it contains, and any other for nothing
frame_of : (w : BridgeView) (p : ℕ) (bytes : List ℕ) (j : Parsed) → by_content (content_in bytes) ≡ j → IsWritten w.id.system.mac bytes → MaySay w p j → IsFrameOf w p bytes
unfolding parsed
frame_of w p bytes j is written may =
    let says : MaySay w p (if is_octets bytes then by_content (content_in bytes) else parsing.dropped drop.Frame) = parsed_at (is_octets bytes) w p (by_content (content_in bytes)) (subst (λ (k : Parsed). MaySay w p k) (sym is) may) in
    record { hello = says.hello; lsp = says.lsp; claims = says.claims; written = written }

-- a frame that is taken for a hello by nobody
not_hello_at : (b : Bool) (j : Parsed) → is_some (hello_in j) ≡ false → is_some (hello_in (if b then j else parsing.dropped drop.Frame)) ≡ false
not_hello_at true j silent = silent
not_hello_at false j silent = refl

not_hello : (bytes : List ℕ) (j : Parsed) → by_content (content_in bytes) ≡ j → is_some (hello_in j) ≡ false → is_hello bytes ≡ false
unfolding parsed
not_hello bytes j is silent = not_hello_at (is_octets bytes) (by_content (content_in bytes)) (ap (λ (k : Parsed). is_some (hello_in k)) is ∙ silent)

-- a frame of the bridge that is no hello
pub record IsOther (w : BridgeView) (p : ℕ) (bytes : List ℕ) : Type 0 where
  pub frame : IsFrameOf w p bytes
  pub silent : is_hello bytes ≡ false

other_of : (w : BridgeView) (p : ℕ) (bytes : List ℕ) (j : Parsed) → by_content (content_in bytes) ≡ j → is_some (hello_in j) ≡ false → IsWritten w.id.system.mac bytes → MaySay w p j → IsOther w p bytes
other_of w p bytes j is silent written may = record { frame = frame_of w p bytes j is written may; silent = not_hello bytes j is silent }

-- what is held is at most itself
held_least : (o : Option Entry) (e : Entry) (a : Version) → o ≡ Some e → a ≡ e.version → IsAtMost a (version_in o)
held_least o e a is same = subst (λ (h : Version). IsAtMost a h) (same ∙ sym (ap version_in is)) (itself a)

pub at_most_held : (w : BridgeView) (id : LspId) (a : Version) → IsHeldAt w id a → IsAtMost a (version_at w.database id)
at_most_held w id a held = held_least (get w.database id) held.0 a held.1 held.2

-- ---- what is held afterwards, of what is held when it is sent

-- another entry with the same LSP
pub record IsSameLsp (e d : Entry) : Type 0 where
  pub version : d.version ≡ e.version
  pub lifetime : d.lifetime ≡ e.lifetime
  pub body : d.body ≡ e.body

same_lsp : (id : LspId) (e d : Entry) → IsSameLsp e d → lsp_in id e ≡ lsp_in id d
same_lsp id e d same = λ i. lsp_in id (record { version = sym same.version i; lifetime = sym same.lifetime i; body = sym same.body i; srm = e.srm; ssn = e.ssn })

-- all that is held is held by the bridge too, but for its flags
abbrev pub IsHeldBy : Lsps → BridgeView → Type 0
IsHeldBy db w = (id : LspId) (e : Entry) → get db id ≡ Some e → (d : Entry) × (get w.database id ≡ Some d) × IsSameLsp e d

-- claims of what is held
entries_claimed : (db : Lsps) (w : BridgeView) (entries_listed : List SnpEntry) (id : LspId) (a : Version) → IsHeldBy db w → AllByRecursion (ClaimsWhatIsHeld db) entries_listed → AllByRecursion (IsEntryOfHeld db) entries_listed → IsClaimed (claims_in entries_listed) id a → IsHeldAt w id a
entries_claimed db w [] id a same all held claimed = absurd claimed
entries_claimed db w (entry ∷ entries_listed) id a same all held (inl here) =
    let found = same entry.id held.0.0 held.0.1 in
    let version : a ≡ found.0.version = sym here.1 ∙ (all.0 ∙ (ap version_in held.0.1 ∙ sym found.2.version)) in
    subst (λ (x : LspId). IsHeldAt w x a) here.0 (found.0, found.1, version)
entries_claimed db w (entry ∷ entries_listed) id a same all held (inr there) = entries_claimed db w entries_listed id a same all.1 held.1 there

-- the claims of a sequence numbers PDU whose entries are these lines
claims_of_entries : (w : BridgeView) (db : Lsps) (entries_listed : List SnpEntry) (read : Result (List SnpEntry) TlvError) → IsHeldBy db w → AllByRecursion (ClaimsWhatIsHeld db) entries_listed → AllByRecursion (IsEntryOfHeld db) entries_listed → read ≡ Ok entries_listed
    → (id : LspId) (a : Version) → IsClaimed (claims_or_none read) id a → IsHeldAt w id a
claims_of_entries w db entries_listed read same all held is id a claimed =
    entries_claimed db w entries_listed id a same all held (subst (λ (r : Result (List SnpEntry) TlvError). IsClaimed (claims_or_none r) id a) is claimed)

-- ---- LSPs, CSNPs and PSNPs

-- the frames of the bridge
lsp_written : (system : SystemId) (l : LspValue) → IsWritten system.mac (lsp_frame system l)
unfolding lsp_frame
lsp_written system l = writes_lsp l refl

csnp_written : (system : SystemId) (c : CsnpValue) → IsWritten system.mac (csnp_frame system c)
unfolding csnp_frame
csnp_written system c = writes_csnp c refl

psnp_written : (system : SystemId) (s : PsnpValue) → IsWritten system.mac (psnp_frame system s)
unfolding psnp_frame
psnp_written system s = writes_psnp s refl

hello_written : (system : SystemId) (p : ℕ) (port : BridgePort) → IsWritten system.mac (hello_frame system p port)
unfolding hello_frame
hello_written system p port = writes_hello (hello_at system p port) refl

module _ (again : ControlAgain) (w : BridgeView) (p : ℕ) (db : Lsps) (mine : IsId w.id.system) (same : IsHeldBy db w) where
  lsp_says : (id : LspId) (e : Entry) → IsId id.system → IsSendable id e → get db id ≡ Some e → IsOther w p (lsp_frame w.id.system (lsp_in id e))
  lsp_says id e named s held =
      let claim : claim_of (lsp_in id e) ≡ record { id = id; version = e.version } = sent_is_held id e s in
      let found = same id e held in
      other_of w p (lsp_frame w.id.system (lsp_in id e)) (parsing.lsp (lsp_in id e)) (lsp_taken again w.id.system id e mine named s) refl (lsp_written w.id.system (lsp_in id e)) (record {
        hello = λ h way no. absurd cc;
        lsp = λ l is. let this : lsp_in id e ≡ l = cc in subst (λ (k : LspValue). IsHeldLsp w k) this (found.0, found.1, same_lsp id e found.0 found.2);
        claims = λ x a claimed. elim claimed [
          | inl here ↦
              let version : a ≡ found.0.version = sym here.1 ∙ (ap (λ (c : Claim). c.version) claim ∙ sym found.2.version) in
              subst (λ (y : LspId). IsHeldAt w y a) here.0 (found.0, found.1, version)
          | inr none ↦ absurd none
        ];
      })

  csnp_says : (chunk : CsnpChunk) → (length chunk.entries ≤ 90) × (IsLspId chunk.start × IsLspId chunk.end) → AllByRecursion IsSizedEntry chunk.entries → entries_in (entry_tlvs chunk.entries) ≡ Ok chunk.entries → AllByRecursion (ClaimsWhatIsHeld db) chunk.entries → AllByRecursion (IsEntryOfHeld db) chunk.entries
      → IsOther w p (csnp_frame w.id.system (csnp_for w.id.system chunk))
  csnp_says chunk sides sized read claims held =
      let entries_listed : AllByRecursion IsEntry chunk.entries = weaker IsSizedEntry IsEntry chunk.entries (λ entry s. s.entry) sized in
      let c : CsnpValue = csnp_for w.id.system chunk in
      other_of w p (csnp_frame w.id.system c) (parsing.csnp c) (csnp_taken again w.id.system chunk mine sides.1.0 sides.1.1 entries_listed sides.0) refl (csnp_written w.id.system c) (record {
        hello = λ h way no. absurd cc;
        lsp = λ l no. absurd cc;
        claims = claims_of_entries w db chunk.entries (entries_in (entry_tlvs chunk.entries)) same claims held read;
      })

  psnp_says : (chunk : List SnpEntry) → length chunk ≤ 90 → AllByRecursion IsSizedEntry chunk → entries_in (entry_tlvs chunk) ≡ Ok chunk → AllByRecursion (ClaimsWhatIsHeld db) chunk → AllByRecursion (IsEntryOfHeld db) chunk
      → IsOther w p (psnp_frame w.id.system (psnp_for w.id.system chunk))
  psnp_says chunk few sized read claims held =
      let entries_listed : AllByRecursion IsEntry chunk = weaker IsSizedEntry IsEntry chunk (λ entry s. s.entry) sized in
      let s : PsnpValue = psnp_for w.id.system chunk in
      other_of w p (psnp_frame w.id.system s) (parsing.psnp s) (psnp_taken again w.id.system chunk mine entries_listed few) refl (psnp_written w.id.system s) (record {
        hello = λ h way no. absurd cc;
        lsp = λ l no. absurd cc;
        claims = claims_of_entries w db chunk (entries_in (entry_tlvs chunk)) same claims held read;
      })

-- ---- which frames are sent at a port

-- what is so of each frame is so of one that is sent
sent_one : {X : Type 0} (P : List ℕ → Type 0) (f : X → List ℕ) (k : ℕ) (xs : List X) (p : ℕ) (bytes : List ℕ) → AllByRecursion (λ x. P (f x)) xs → IsSent (map (λ x. (k, f x)) xs) p bytes → P bytes
sent_one P f k [] p bytes all some = absurd some
sent_one P f k (x ∷ xs) p bytes all (inl here) = subst P here.1 all.0
sent_one P f k (x ∷ xs) p bytes all (inr there) = sent_one P f k xs p bytes all.1 there

-- a database as what is sent needs it: sound, and held by the bridge afterwards
pub record CanTell (w : BridgeView) (db : Lsps) : Type 0 where
  pub up : PortSet
  pub sound : IsSoundData up w.id.system db
  pub same : IsHeldBy db w
  pub mine : IsId w.id.system

lsps_say : ControlAgain → (w : BridgeView) (p k : ℕ) (db : Lsps) (bytes : List ℕ) → CanTell w db → IsSent (lsps_at w.id.system k db) p bytes → IsOther w p bytes
lsps_say again w p k db bytes can some =
    let each_one : AllEntries (λ id e. IsOther w p (lsp_frame w.id.system (lsp_in id e))) db = λ id e at.
    lsp_says again w p db can.mine can.same id e (can.sound.sized id e at).named.system (can.sound.sendable id e at) at in
    sent_one (IsOther w p) (lsp_frame w.id.system) k (lsps_to_send db k) p bytes
    (all_mapped (λ (e : LspId × Entry). lsp_in e.0 e.1) (λ (l : LspValue). IsOther w p (lsp_frame w.id.system l)) (filter (λ (e : LspId × Entry). has e.1.srm k) (entries db))
    (all_kept (λ (e : LspId × Entry). IsOther w p (lsp_frame w.id.system (lsp_in e.0 e.1))) (λ (e : LspId × Entry). has e.1.srm k) (entries db) (of_entries (λ id e. IsOther w p (lsp_frame w.id.system (lsp_in id e))) db each_one)))
    some

-- a chunk, and a part, of which all is so that makes it one of the bridge
record IsCsnpChunkOf (db : Lsps) (chunk : CsnpChunk) : Type 0 where
  sides : (length chunk.entries ≤ 90) × (IsLspId chunk.start × IsLspId chunk.end)
  sized : AllByRecursion IsSizedEntry chunk.entries
  read : entries_in (entry_tlvs chunk.entries) ≡ Ok chunk.entries
  claims : AllByRecursion (ClaimsWhatIsHeld db) chunk.entries
  held : AllByRecursion (IsEntryOfHeld db) chunk.entries

are_csnp_chunks : (db : Lsps) (csnp_chunks : List CsnpChunk) → AllByRecursion (λ (chunk : CsnpChunk). length chunk.entries ≤ 90) csnp_chunks → AllByRecursion (λ (chunk : CsnpChunk). IsLspId chunk.start × IsLspId chunk.end) csnp_chunks → AllByRecursion (λ (chunk : CsnpChunk). AllByRecursion IsSizedEntry chunk.entries) csnp_chunks
    → AllByRecursion (λ (chunk : CsnpChunk). entries_in (entry_tlvs chunk.entries) ≡ Ok chunk.entries) csnp_chunks → AllByRecursion (λ (chunk : CsnpChunk). AllByRecursion (ClaimsWhatIsHeld db) chunk.entries) csnp_chunks → AllByRecursion (λ (chunk : CsnpChunk). AllByRecursion (IsEntryOfHeld db) chunk.entries) csnp_chunks
    → AllByRecursion (IsCsnpChunkOf db) csnp_chunks
are_csnp_chunks db [] few ends sized read claims held = tt
are_csnp_chunks db (chunk ∷ csnp_chunks) few ends sized read claims held =
    (record { sides = (few.0, ends.0); sized = sized.0; read = read.0; claims = claims.0; held = held.0 }, are_csnp_chunks db csnp_chunks few.1 ends.1 sized.1 read.1 claims.1 held.1)

csnps_say : ControlAgain → (w : BridgeView) (p k : ℕ) (db : Lsps) (bytes : List ℕ) → CanTell w db → IsSent (map (λ c. (k, csnp_frame w.id.system c)) (csnps_of w.id.system db)) p bytes → IsOther w p bytes
csnps_say again w p k db bytes can some =
    let csnp_chunks : List CsnpChunk = csnp_chunks db in
    let all : AllByRecursion (IsCsnpChunkOf db) csnp_chunks =
    are_csnp_chunks db csnp_chunks (csnp_chunks_are_short db) (csnp_chunks_end_at_ids db (λ id e at. (can.sound.sized id e at).named)) (csnp_entries_are_sized db can.sound.sized) (csnp_entries_are_read db can.sound.sized)
    (csnp_chunks_claim_what_is_held db can.sound.sendable) (csnp_chunks_list_what_is_held db) in
    sent_one (IsOther w p) (csnp_frame w.id.system) k (csnps_of w.id.system db) p bytes
    (all_mapped (csnp_for w.id.system) (λ (c : CsnpValue). IsOther w p (csnp_frame w.id.system c)) csnp_chunks
    (weaker (IsCsnpChunkOf db) (λ (chunk : CsnpChunk). IsOther w p (csnp_frame w.id.system (csnp_for w.id.system chunk))) csnp_chunks (λ chunk h. csnp_says again w p db can.mine can.same chunk h.sides h.sized h.read h.claims h.held) all))
    some

record IsPartOf (db : Lsps) (chunk : List SnpEntry) : Type 0 where
  few : (1 ≤ length chunk) × (length chunk ≤ 90)
  sized : AllByRecursion IsSizedEntry chunk
  read : entries_in (entry_tlvs chunk) ≡ Ok chunk
  claims : AllByRecursion (ClaimsWhatIsHeld db) chunk
  held : AllByRecursion (IsEntryOfHeld db) chunk

are_psnp_chunks : (db : Lsps) (ps : List (List SnpEntry)) → AllByRecursion (λ (chunk : List SnpEntry). (1 ≤ length chunk) × (length chunk ≤ 90)) ps → AllByRecursion (AllByRecursion IsSizedEntry) ps → AllByRecursion (λ (chunk : List SnpEntry). entries_in (entry_tlvs chunk) ≡ Ok chunk) ps
    → AllByRecursion (AllByRecursion (ClaimsWhatIsHeld db)) ps → AllByRecursion (AllByRecursion (IsEntryOfHeld db)) ps → AllByRecursion (IsPartOf db) ps
are_psnp_chunks db [] few sized read claims held = tt
are_psnp_chunks db (chunk ∷ ps) few sized read claims held =
    (record { few = few.0; sized = sized.0; read = read.0; claims = claims.0; held = held.0 }, are_psnp_chunks db ps few.1 sized.1 read.1 claims.1 held.1)

psnps_say : ControlAgain → (w : BridgeView) (p k : ℕ) (db : Lsps) (bytes : List ℕ) → CanTell w db → IsSent (requests_at w.id.system k db) p bytes → IsOther w p bytes
psnps_say again w p k db bytes can some =
    let ps : List (List SnpEntry) = psnp_chunks k db in
    let all : AllByRecursion (IsPartOf db) ps =
    are_psnp_chunks db ps (psnp_chunks_are_short k db) (psnp_entries_are_sized k db can.sound.sized) (psnp_entries_are_read k db can.sound.sized) (psnp_chunks_claim_what_is_held k db can.sound.sendable) (psnp_chunks_list_what_is_held k db) in
    sent_one (IsOther w p) (psnp_frame w.id.system) k (psnps_of w.id.system k db) p bytes
    (all_mapped (psnp_for w.id.system) (λ (s : PsnpValue). IsOther w p (psnp_frame w.id.system s)) ps
    (weaker (IsPartOf db) (λ (chunk : List SnpEntry). IsOther w p (psnp_frame w.id.system (psnp_for w.id.system chunk))) ps (λ chunk h. psnp_says again w p db can.mine can.same chunk h.few.1 h.sized h.read h.claims h.held) all))
    some

where_so : (b : Bool) (w : BridgeView) (p : ℕ) (bytes : List ℕ) (frames : List (ℕ × List ℕ)) → (IsSent frames p bytes → IsOther w p bytes) → IsSent (if b then frames else []) p bytes → IsOther w p bytes
where_so true w p bytes frames says some = says some
where_so false w p bytes frames says some = absurd some

-- at a port that is Up
pub synced_say : ControlAgain → (w : BridgeView) (p k : ℕ) (port : BridgePort) (db : Lsps) (bytes : List ℕ) → CanTell w db → IsSent (synced_at w.id.system k port db) p bytes → IsOther w p bytes
synced_say again w p k port db bytes can some =
    where_so (is_port_up port) w p bytes (summaries_at w.id.system k port db ++ lsps_at w.id.system k db ++ requests_at w.id.system k db)
    (λ any. elim (sent_either (summaries_at w.id.system k port db ++ lsps_at w.id.system k db) (requests_at w.id.system k db) p bytes any) [
      | inl first ↦
          elim (sent_either (summaries_at w.id.system k port db) (lsps_at w.id.system k db) p bytes first) [
            | inl csnp ↦ where_so port.csnp_due w p bytes (map (λ c. (k, csnp_frame w.id.system c)) (csnps_of w.id.system db)) (csnps_say again w p k db bytes can) csnp
            | inr lsp ↦ lsps_say again w p k db bytes can lsp
          ]
      | inr psnp ↦ psnps_say again w p k db bytes can psnp
    ])
    some

-- ---- after what was sent at a port nothing has SSN there

originated_if_changed_same : (b : Bool) (p : ℕ) (e : Entry) → IsSameLsp e (if b then with_ssn p false e else e)
originated_if_changed_same true p e = record { version = refl; lifetime = refl; body = refl }
originated_if_changed_same false p e = record { version = refl; lifetime = refl; body = refl }

after_sending_by : (b : Bool) (p : ℕ) (db : Lsps) (id : LspId) (e : Entry) → get db id ≡ Some e → (d : Entry) × (get (if b then all_ssn_cleared p db else db) id ≡ Some d) × IsSameLsp e d
after_sending_by true p db id e at = (ssn_cleared p e, get-each (λ (x : LspId) (e : Entry). ssn_cleared p e) db id ∙ ap (option_map (ssn_cleared p)) at, originated_if_changed_same (has_ssn_at p e) p e)
after_sending_by false p db id e at = (e, at, record { version = refl; lifetime = refl; body = refl })

through_same : (e d c : Entry) → IsSameLsp e d → IsSameLsp d c → IsSameLsp e c
through_same e d c first next = record { version = next.version ∙ first.version; lifetime = next.lifetime ∙ first.lifetime; body = next.body ∙ first.body }

back_same : (e d : Entry) → IsSameLsp e d → IsSameLsp d e
back_same e d same = record { version = sym same.version; lifetime = sym same.lifetime; body = sym same.body }

-- what is held stays so until all is sent
after_sending_held : (k : ℕ) (ports : List BridgePort) (db : Lsps) (id : LspId) (e : Entry) → get db id ≡ Some e → (d : Entry) × (get (after_sending_from k ports db) id ≡ Some d) × IsSameLsp e d
after_sending_held k [] db id e at = (e, at, record { version = refl; lifetime = refl; body = refl })
after_sending_held k (port ∷ ports) db id e at =
    let first = after_sending_by (is_port_up port) k db id e at in
    let next = after_sending_held (k + 1) ports (after_sending_at k port db) id first.0 first.1 in
    (next.0, next.1, through_same e first.0 next.0 first.2 next.2)

-- and nothing else is held then
after_sending_was : (b : Bool) (p : ℕ) (db : Lsps) (id : LspId) (d : Entry) → get (if b then all_ssn_cleared p db else db) id ≡ Some d → (e : Entry) × (get db id ≡ Some e) × IsSameLsp d e
after_sending_was true p db id d at = by_held (get db id) refl
  where
    by_held : (o : Option Entry) → get db id ≡ o → (e : Entry) × (get db id ≡ Some e) × IsSameLsp d e
    by_held None held = let no : None ≡ Some d = sym (get-each (λ (x : LspId) (e : Entry). ssn_cleared p e) db id ∙ ap (option_map (ssn_cleared p)) held) ∙ at in absurd cc
    by_held (Some e) held =
        let found : Some (ssn_cleared p e) ≡ Some d = sym (get-each (λ (x : LspId) (e : Entry). ssn_cleared p e) db id ∙ ap (option_map (ssn_cleared p)) held) ∙ at in
        let same : ssn_cleared p e ≡ d = cc in
        (e, held, subst (λ (c : Entry). IsSameLsp c e) same (back_same e (ssn_cleared p e) (originated_if_changed_same (has_ssn_at p e) p e)))
after_sending_was false p db id d at = (d, at, record { version = refl; lifetime = refl; body = refl })

pub after_sending_can : (w : BridgeView) (k : ℕ) (port : BridgePort) (db : Lsps) → CanTell w db → CanTell w (after_sending_at k port db)
after_sending_can w k port db can = record {
  up = can.up;
  sound = after_sending_at_keeps can.up w.id.system k port db can.sound;
  same = λ id d at.
      let was = after_sending_was (is_port_up port) k db id d at in
      let found = can.same id was.0 was.1 in
      (found.0, found.1, through_same d was.0 found.0 was.2 found.2);
  mine = can.mine;
}

-- ---- all that is sent

hello_sent : (has_carrier : Bool) (k : ℕ) (bytes : List ℕ) (p : ℕ) (sent : List ℕ) → IsSent (if has_carrier then (k, sent) ∷ [] else []) p bytes → (p ≡ k) × (sent ≡ bytes)
hello_sent true k bytes p sent (inl here) = (sym here.0, here.1)
hello_sent true k bytes p sent (inr none) = absurd none
hello_sent false k bytes p sent none = absurd none

-- from these ports, of which the first has number k, if their hellos are those of the bridge
sent_says : ControlAgain → (w : BridgeView) (p : ℕ) (bytes : List ℕ) (k : ℕ) (ports : List BridgePort) (db : Lsps) → CanTell w db
    → ((i : ℕ) (port : BridgePort) → slice_get ports i ≡ Some port → p ≡ k + i → IsFrameOf w p (hello_frame w.id.system p port))
    → IsSent (sent_from w.id.system k ports db) p bytes → IsFrameOf w p bytes
sent_says again w p bytes k [] db can hellos some = absurd some
sent_says again w p bytes k (port ∷ ports) db can hellos some =
    elim (sent_either (sent_at w.id.system k port db) (sent_from w.id.system (k + 1) ports (after_sending_at k port db)) p bytes some) [
      | inr later ↦ sent_says again w p bytes (k + 1) ports (after_sending_at k port db) (after_sending_can w k port db can) (λ i next is same. hellos (suc i) next is (omega (arith, same))) later
      | inl here ↦
          elim (sent_either (hellos_at w.id.system k port) (synced_at w.id.system k port db) p bytes here) [
            | inl hello_from ↦
                let is = hello_sent port.adjacency.carrier k bytes p (hello_frame w.id.system k port) hello_from in
                let frame_is : hello_frame w.id.system p port ≡ bytes = ap (λ (n : ℕ). hello_frame w.id.system n port) is.0 ∙ is.1 in
                subst (IsFrameOf w p) frame_is (hellos 0 port refl (omega (arith, is.0)))
            | inr synced ↦ (synced_say again w p k port db bytes can synced).frame
          ]
    ]

-- a hello is one of the bridge
hello_says : ControlAgain → (w : BridgeView) (p : ℕ) (port there : BridgePort) → IsId w.id.system → p ≤ 32 → IsNamed (neighbour_at w p) → port_at w p ≡ Some there → there.adjacency ≡ port.adjacency
    → IsFrameOf w p (hello_frame w.id.system p port)
hello_says again w p port there mine low named at same =
    let h : HelloValue = hello_at w.id.system p port in
    let way : ThreeWay = said p port.adjacency in
    let kept : neighbour_at w p ≡ neighbour_of port.adjacency = neighbour_found w p there at ∙ ap neighbour_of same in
    let own : IsHelloOf w p h way = hello_of w p port there at same in
    frame_of w p (hello_frame w.id.system p port) (parsing.hello h way) (hello_content again w.id.system p port mine low (subst IsNamed kept named)) (hello_written w.id.system p port) (record {
      hello = λ other name e.
          let same_hello : h ≡ other = cc in
          let same_name : way ≡ name = cc in
          subst (λ (g : HelloValue). IsHelloOf w p g name) same_hello (subst (λ (n : ThreeWay). IsHelloOf w p h n) same_name own);
      lsp = λ l no. absurd cc;
      claims = λ id a none. absurd none;
    })

-- the port that sends is that afterwards, but for what is due
kept_after_sending : (r : BridgeView) (p i : ℕ) (port : BridgePort) → slice_get r.ports i ≡ Some port → p ≡ 1 + i → port_at (after_sending r) p ≡ Some (with_csnp_due false port)
kept_after_sending r p i port is same =
    let place : p - 1 ≡ i = omega (arith, same) in
    let low : nat_le 1 p ≡ true = le-leb 1 p (omega (arith, same)) in
    rw (low, place) (slice_get-map (with_csnp_due false) r.ports i ∙ ap (λ (o : Option BridgePort). option_map (with_csnp_due false) o) is)

-- the bridge that sends can tell what it will hold
pub readied_can : (v : BridgeView) → IsSoundView v → CanTell (after_sending (readied v)) (readied v).database
readied_can v was =
    let r : BridgeView = readied v in
    record {
      up = up_ports r;
      sound = readied_holds v was;
      same = after_sending_held 1 r.ports r.database;
      mine = ap (λ (u : BridgeView). length u.id.system.mac.bytes) (readied_rest v) ∙ was.config.system.bytes;
    }

second_says : ControlAgain → (v : BridgeView) (p : ℕ) (bytes : List ℕ) → IsSoundView v → IsNamed (neighbour_at (step second v) p) → IsSent (sent second v) p bytes → IsFrameOf (step second v) p bytes
unfolding after_tick sent_in_tick
second_says again v p bytes was named some =
    let r : BridgeView = readied v in
    let w : BridgeView = after_sending r in
    let can : CanTell w r.database = readied_can v was in
    let many : length r.ports ≡ length v.ports = ap length (readied_ports v) ∙ length-map v.ports later in
    sent_says again w p bytes 1 r.ports r.database can
    (λ i port is same.
    let within = slice_get_within r.ports i port is in
    hello_says again w p port (with_csnp_due false port) can.mine (omega (arith, within, many, was.few, same)) named (kept_after_sending r p i port is same) refl)
    some

-- ---- frames that carry a customer's

say_carried : (w : BridgeView) (p : ℕ) (da sa : Mac) (vid : Vid) (isid : Isid) (f : List ℕ) → MaySay w p (parsing.customer da sa vid isid f)
say_carried w p da sa vid isid f = record { hello = λ h way e. absurd cc; lsp = λ l e. absurd cc; claims = λ id a claimed. absurd claimed }

carried_says : (w : BridgeView) (p : ℕ) (bytes : List ℕ) (da sa : Mac) (vid : Vid) (isid : Isid) (f : List ℕ) → backbone_in bytes ≡ Ok (Customer da sa vid isid f) → IsTaken bytes da sa vid isid f → IsFrameOf w p bytes
carried_says w p bytes da sa vid isid f opened taken =
    let says : MaySay w p (parsed bytes) = elim taken [
      | inl is ↦ subst (λ (j : Parsed). MaySay w p j) (sym is) (say_nothing w p drop.Frame)
      | inr is ↦ subst (λ (j : Parsed). MaySay w p j) (sym is) (say_carried w p da sa vid isid f)
    ] in
    record { hello = says.hello; lsp = says.lsp; claims = says.claims; written = carries da sa vid isid f opened }

relayed_says : (w : BridgeView) (p : ℕ) (bytes sent : List ℕ) → Relays bytes sent → IsFrameOf w p sent
relayed_says w p bytes sent r =
    subst (IsFrameOf w p) (sym r.same) (carried_says w p bytes r.da r.sa r.vid r.isid r.payload (is_opened bytes r.da r.sa r.vid r.isid r.payload r.taken).opened (inr r.taken))

encapsulated_says : (w v : BridgeView) (p q : ℕ) (bytes sent : List ℕ) → Encapsulates v q bytes sent → IsFrameOf w p sent
encapsulated_says w v p q bytes sent e =
    let me : Mac = v.id.system.mac in
    let a : Attachment = e.attachment in
    subst (IsFrameOf w p) (sym e.is)
    (carried_says w p (backbone_bytes e.da me a.vid a.isid bytes) e.da me a.vid a.isid bytes (encapsulated_again e.da me a.vid a.isid bytes e.can) (encapsulated_is_taken e.da me a.vid a.isid bytes e.can))

pub sent_is_sound : ControlAgain → SentIsSound
sent_is_sound again second v p bytes is was named some = second_says again v p bytes was named some
sent_is_sound again (frame q f) v p bytes is was named some = relayed_says (step (frame q f) v) p f bytes (sent_is (Relays f) (moved_by_receive q f v).wire p bytes (relays q f v) some)
sent_is_sound again (carrier q on) v p bytes is was named some = absurd some
sent_is_sound again (metric q m) v p bytes is was named some = absurd some
sent_is_sound again (attach a) v p bytes is was named some = absurd some
sent_is_sound again (detach q) v p bytes is was named some = absurd some
sent_is_sound again (customer q f) v p bytes is was named some =
    encapsulated_says (step (customer q f) v) v p q f bytes (sent_is (Encapsulates v q f) (moved_by_entry q f v).wire p bytes (encapsulates q f v is.1 was) some)

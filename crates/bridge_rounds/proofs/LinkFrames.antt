-- What comes over a link in a round tells of each LSP what its sender holds, and has to send or to acknowledge.
use Rattle.std.proofs.Common.{◌≡◌, ◌≢◌, inl, inr, ◌-◌, ℕ, suc, Bool, true, false, List, [], ◌∷◌, map, refl, sym, ap, ◌∙◌, subst, Option, Some, None, Result, Ok, arith}
use Rattle.std.specs.Prelude.{◌==◌, nat_le, slice_get, flat_map, Contains, if◌then◌else◌}
use Rattle.std.specs.List.{AllByRecursion}
use Rattle.std.specs.Option.{option_map}
use Rattle.std.specs.FinMap.{get, entries}
use Rattle.std.proofs.lemmas.Bool.{true≢false, eq-eqb, eqb-true}
use Rattle.std.proofs.lemmas.Option.{slice_get-map}
use Rattle.spb_types.specs.declared.address.LspId.{LspId}
use Rattle.spb_types.specs.Ports.{has}
use Rattle.spb_types.proofs.PortLemmas.{has-no_ports}
use Rattle.isis_pdu.specs.Pdu.{LspValue, PsnpValue}
use Rattle.spb_tlvs.specs.declared.entries.SnpEntry.{SnpEntry}
use Rattle.spb_tlvs.specs.declared.error.TlvError.{TlvError}
use Rattle.itag_frames.specs.Classify.{ControlAgain}
use Rattle.lsdb.specs.declared.version.Version.{Version}
use Rattle.lsdb.specs.Calm.{lowered}
use Rattle.lsdb.specs.Entry.{Entry}
use Rattle.lsdb.specs.Database.{Lsps, version_in, srm_in, ssn_in, version_at}
use Rattle.lsdb.specs.Certificate.{Claim, IsClaimed}
use Rattle.flooding.specs.Sending.{lsp_in}
use Rattle.snp_sync.specs.Chunks.{entry_tlvs}
use Rattle.snp_sync.specs.Reading.{entries_in}
use Rattle.snp_sync.specs.Hearing.{claim_in, claims_in}
use Rattle.snp_sync.specs.SnpEntries.{snp_entry_of, snp_entries_where, has_ssn_at}
use Rattle.snp_sync.specs.Sending.{psnp_for, psnp_chunks, psnps_of}
use Rattle.snp_sync.proofs.Ranges.{psnp_chunks_are_whole}
use Rattle.snp_sync.proofs.Said.{psnp_entries_are_read, entry_claims_what_is_held}
use Rattle.spb_content.proofs.Members.{Has, all_has, has_map, has_filter, flat_map_has}
use Rattle.bridge_api.specs.declared.port.BridgePort.{BridgePort}
use Rattle.bridge_api.specs.View.{BridgeView, port_in, port_at, is_up_in, is_up_at}
use Rattle.bridge_api.specs.Parsing.{Parsed, parsed}
use Rattle.bridge_api.specs.Parsing as parsing
use Rattle.bridge_api.specs.Hearing.{with_csnp_due}
use Rattle.bridge_api.specs.Ticking.{readied, lsp_frame, psnp_frame, after_tick}
use Rattle.bridge_api.specs.Step.{second, step, sent, frames_at}
use Rattle.bridge_api.specs.Laws.{IsSoundView, IsSent, IsHeldAt, claims_said, claims_or_none}
use Rattle.bridge_api.specs.Duties.{but_for_ssn}
use Rattle.bridge_api.proofs.DataSteps.{readied_holds}
use Rattle.bridge_api.proofs.GraphRead.{get_has}
use Rattle.bridge_api.proofs.SentHeard.{lsps_are_heard, requests_are_heard}
use Rattle.bridge_api.proofs.Serving.{seconds_serve, seconds_leave_nothing_due}
use Rattle.bridge_laws.proofs.Frames.{sent_is_sound}
use Rattle.bridge_rounds.specs.Inbox.{Inbox, claims_at}
use Rattle.bridge_rounds.specs.Seconds.{IsCalmSecond}
use Rattle.bridge_rounds.specs.FlagLaws.{HasNoSrm}
use Rattle.bridge_rounds.specs.LinkFlags.{StandsStill, HasLspOf, IsSentOver}
use Rattle.bridge_rounds.specs.LinkFrames.{IsToldAt, SsnIsTold, ComesOver, FramesTell}
use Rattle.bridge_rounds.proofs.Folds.{claim_at, claim_comes}
use Rattle.bridge_rounds.proofs.FlaggedLsps.{same_srm, lsps_are_flagged}

-- ---- what has SSN is told

claimed_among : (x : SnpEntry) (xs : List SnpEntry) → Has x xs → IsClaimed (claims_in xs) (claim_in x).id (claim_in x).version
claimed_among x [] none = absurd none
claimed_among x (y ∷ ys) (inl same) = inl (ap (λ (e : SnpEntry). (claim_in e).id) (sym same), ap (λ (e : SnpEntry). (claim_in e).version) (sym same))
claimed_among x (y ∷ ys) (inr more) = inr (claimed_among x ys more)

-- the chunk in which an entry stands
record IsChunkWith (db : Lsps) (p : ℕ) (x : SnpEntry) : Type 0 where
  chunk : List SnpEntry
  among : Has chunk (psnp_chunks p db)
  stands : Has x chunk

chunk_with : (db : Lsps) (p : ℕ) (id : LspId) (e : Entry) → get db id ≡ Some e → has e.ssn p ≡ true → IsChunkWith db p (snp_entry_of id e)
chunk_with db p id e held set =
    let listed : Has (snp_entry_of id e) (snp_entries_where (has_ssn_at p) db) =
    has_map (λ (d : LspId × Entry). snp_entry_of d.0 d.1) (id, e) _ (has_filter (λ (d : LspId × Entry). has_ssn_at p d.1) (id, e) (entries db) (get_has db id e held) set) in
    let found = flat_map_has (λ (chunk : List SnpEntry). chunk) (snp_entry_of id e) (psnp_chunks p db) (subst (Has (snp_entry_of id e)) (sym (psnp_chunks_are_whole p db)) listed) in
    record { chunk = found.0; among = found.1; stands = found.2 }

pub ssn_is_told : ControlAgain → SsnIsTold
ssn_is_told again v p id e was up held set =
    let r : BridgeView = readied v in
    let holds = readied_holds v was in
    let at = chunk_with r.database p id e held set in
    let s : PsnpValue = psnp_for r.id.system at.chunk in
    let bytes : List ℕ = psnp_frame r.id.system s in
    let among : Has s (psnps_of r.id.system p r.database) = has_map (psnp_for r.id.system) at.chunk (psnp_chunks p r.database) at.among in
    let heard : parsed bytes ≡ parsing.psnp s = all_has (λ (t : PsnpValue). parsed (psnp_frame r.id.system t) ≡ parsing.psnp t) s (psnps_of r.id.system p r.database) (requests_are_heard again v p was) among in
    let read : entries_in (entry_tlvs at.chunk) ≡ Ok at.chunk = all_has (λ (chunk : List SnpEntry). entries_in (entry_tlvs chunk) ≡ Ok chunk) at.chunk (psnp_chunks p r.database) (psnp_entries_are_read p r.database holds.sized) at.among in
    let claim : claim_in (snp_entry_of id e) ≡ record { id = id; version = e.version } = entry_claims_what_is_held id e (holds.sendable id e held).numbered (holds.sendable id e held).clean in
    let listed : IsClaimed (claims_in at.chunk) id e.version = subst (λ (c : Claim). IsClaimed (claims_in at.chunk) c.id c.version) claim (claimed_among (snp_entry_of id e) at.chunk at.stands) in
    record {
      bytes = bytes;
      sent = all_has (λ (t : PsnpValue). IsSent (sent second v) p (psnp_frame r.id.system t)) s (psnps_of r.id.system p r.database) (seconds_serve v p was up).requests among;
      claimed = subst (λ (j : Parsed). IsClaimed (claims_said j) id e.version) (sym heard) (subst (λ (es : Result (List SnpEntry) TlvError). IsClaimed (claims_or_none es) id e.version) (sym read) listed);
    }

-- ---- a second that changes lifetimes alone

lowered_version : (o : Option Entry) → version_in (option_map lowered o) ≡ version_in o
lowered_version None = refl
lowered_version (Some e) = refl

lowered_srm : (o : Option Entry) (p : ℕ) → has (srm_in (option_map lowered o)) p ≡ has (srm_in o) p
lowered_srm None p = refl
lowered_srm (Some e) p = refl

but_version : (o : Option Entry) → version_in (but_for_ssn o) ≡ version_in o
but_version None = refl
but_version (Some e) = refl

ready_version : (v : BridgeView) (id : LspId) → IsCalmSecond v → version_at (readied v).database id ≡ version_at v.database id
ready_version v id calm = ap version_in (calm.held id) ∙ lowered_version (get v.database id)

ready_srm : (v : BridgeView) (id : LspId) (p : ℕ) → IsCalmSecond v → has (srm_in (get (readied v).database id)) p ≡ has (srm_in (get v.database id)) p
ready_srm v id p calm = ap (λ (o : Option Entry). has (srm_in o) p) (calm.held id) ∙ lowered_srm (get v.database id) p

pub calm_stands : (v : BridgeView) (id : LspId) → IsSoundView v → IsCalmSecond v → StandsStill id v
calm_stands v id was calm =
    let held = (seconds_leave_nothing_due v was).held id in
    record {
      version = sym (but_version (get (step second v).database id)) ∙ (ap version_in held ∙ (but_version (get (readied v).database id) ∙ ready_version v id calm));
      srm = λ p. same_srm p (get (readied v).database id) (get (step second v).database id) held ∙ ready_srm v id p calm;
    }

-- a port that is Up stays so until the bridge sends
pub due_up : (o : Option BridgePort) → is_up_in (option_map (with_csnp_due false) o) ≡ is_up_in o
due_up None = refl
due_up (Some port) = refl

port_map_by : (b : Bool) (f : BridgePort → BridgePort) (k : ℕ) (ports : List BridgePort) → (if b then slice_get (map f ports) k else None) ≡ option_map f (if b then slice_get ports k else None)
port_map_by true f k ports = slice_get-map f ports k
port_map_by false f k ports = refl

pub port_map : (f : BridgePort → BridgePort) (k : ℕ) (ports : List BridgePort) → port_in (map f ports) k ≡ option_map f (port_in ports k)
port_map f k ports = port_map_by (nat_le 1 k) f (k - 1) ports

-- ---- frames at a port

first_contains : (b : Bool) (bytes : List ℕ) (frames : List (List ℕ)) → b ≡ true → Contains (if b then bytes ∷ frames else frames) bytes
first_contains true bytes frames is = (0, omega arith, refl)
first_contains false bytes frames is = absurd cc

later_contains : (b : Bool) (f : List ℕ) (frames : List (List ℕ)) (bytes : List ℕ) → Contains frames bytes → Contains (if b then f ∷ frames else frames) bytes
later_contains true f frames bytes (k, low, is) = (suc k, omega (arith, low), is)
later_contains false f frames bytes there = there

sent_contains : (ss : Inbox) (q : ℕ) (bytes : List ℕ) → IsSent ss q bytes → Contains (frames_at q ss) bytes
sent_contains [] q bytes none = absurd none
sent_contains (s ∷ ss) q bytes (inl here) =
    subst (λ (b : List ℕ). Contains (frames_at q (s ∷ ss)) b) here.1 (first_contains (s.0 == q) s.1 (frames_at q ss) (eq-eqb s.0 q here.0))
sent_contains (s ∷ ss) q bytes (inr there) = later_contains (s.0 == q) s.1 (frames_at q ss) bytes (sent_contains ss q bytes there)

pub all_at : (P : List ℕ → Type 0) (q : ℕ) (ss : Inbox) → ((bytes : List ℕ) → IsSent ss q bytes → P bytes) → AllByRecursion P (frames_at q ss)
all_at P q [] each_one = tt
all_at P q (s ∷ ss) each_one = by (s.0 == q) refl (all_at P q ss (λ bytes some. each_one bytes (inr some)))
  where
    by : (b : Bool) → (s.0 == q) ≡ b → AllByRecursion P (frames_at q ss) → AllByRecursion P (if b then s.1 ∷ frames_at q ss else frames_at q ss)
    by true is rest = (each_one s.1 (inl (eqb-true s.0 q is, refl)), rest)
    by false is rest = rest

-- ---- over a link

module _ (again : ControlAgain) (u v : BridgeView) (q p : ℕ) (fs : Inbox) (id : LspId) (over : ComesOver u q v p fs) where
  ready_up : is_up_at (readied u) q ≡ true
  unfolding is_up_at after_tick
  ready_up = sym (ap is_up_in (port_map (with_csnp_due false) q (readied u).ports) ∙ due_up (port_at (readied u) q)) ∙ (over.calm.up q ∙ over.up)

  -- what comes is sent
  comes : (bytes : List ℕ) → IsSent (sent second u) q bytes → Contains (frames_at p fs) bytes
  comes bytes some = subst (λ (list : List (List ℕ)). Contains list bytes) (sym over.frames) (sent_contains (sent second u) q bytes some)

  claims_same : claims_at p fs ≡ claims_at q (sent second u)
  claims_same = ap (λ (frames : List (List ℕ)). flat_map (λ bytes. claims_said (parsed bytes)) frames) over.frames

  held_there : (b : Version) → IsHeldAt (step second u) id b → b ≡ version_at u.database id
  held_there b at = at.2 ∙ (ap version_in (sym at.1) ∙ (calm_stands u id over.sender over.calm).version)

  claims_told : (b : Version) → IsClaimed (claims_at p fs) id b → b ≡ version_at u.database id
  claims_told b claimed =
      let found = claim_comes (sent second u) q id b (subst (λ (list : List Claim). IsClaimed list id b) claims_same claimed) in
      held_there b ((sent_is_sound again second u q found.bytes tt over.sender over.named found.sent).claims id b found.claimed)

  lsp_in_by : (o : Option Entry) → get u.database id ≡ o → has (srm_in o) q ≡ true → HasLspOf id p fs
  lsp_in_by None held set = absurd (true≢false (sym set ∙ has-no_ports q))
  lsp_in_by (Some e) held set =
      let ready : get (readied u).database id ≡ Some (lowered e) = over.calm.held id ∙ ap (option_map lowered) held in
      let bytes : List ℕ = lsp_frame (readied u).id.system (lsp_in id (lowered e)) in
      record {
        bytes = bytes;
        lsp = lsp_in id (lowered e);
        comes = comes bytes ((seconds_serve u q over.sender ready_up).lsps id (lowered e) ready set);
        is = lsps_are_heard again u id (lowered e) over.sender ready;
        named = refl;
      }

  unsent_as : HasNoSrm u id q → (bytes : List ℕ) → IsSent (sent second u) q bytes → (l : LspValue) → parsed bytes ≡ parsing.lsp l → l.id ≢ id
  unsent_as off bytes some l is here =
      let set : has (srm_in (get (readied u).database id)) q ≡ true = subst (λ (x : LspId). has (srm_in (get (readied u).database x)) q ≡ true) here (lsps_are_flagged again u q bytes l over.sender some is) in
      true≢false (sym set ∙ (ready_srm u id q over.calm ∙ off))

  told_by : (o : Option Entry) → get u.database id ≡ o → has (ssn_in o) q ≡ true → IsClaimed (claims_at p fs) id (version_in o)
  told_by None held set = absurd (true≢false (sym set ∙ has-no_ports q))
  told_by (Some e) held set =
      let ready : get (readied u).database id ≡ Some (lowered e) = over.calm.held id ∙ ap (option_map lowered) held in
      let told : IsToldAt u q id (lowered e) = ssn_is_told again u q id (lowered e) over.sender ready_up ready set in
      subst (λ (list : List Claim). IsClaimed list id e.version) (sym claims_same) (claim_at (sent second u) q told.bytes id e.version told.sent told.claimed)

  tells : IsSentOver id u q v p fs
  tells = record {
    sound = over.receiver;
    still = calm_stands v id over.receiver over.calm_there;
    neighbour = over.neighbour;
    hears = over.hears;
    claims = claims_told;
    no_csnp = over.no_csnp;
    sent = λ set. lsp_in_by (get u.database id) refl set;
    unsent = λ off. subst (AllByRecursion (λ bytes. (l : LspValue) → parsed bytes ≡ parsing.lsp l → l.id ≢ id)) (sym over.frames)
        (all_at (λ bytes. (l : LspValue) → parsed bytes ≡ parsing.lsp l → l.id ≢ id) q (sent second u) (unsent_as off));
    told = λ set. told_by (get u.database id) refl set;
  }

pub frames_tell : ControlAgain → FramesTell
frames_tell again u v q p fs id over = tells again u v q p fs id over

-- What is sent is read again, and claims what is held; and afterwards nothing has SSN.
use Rattle.std.specs.Prelude.{◌≡◌, ℕ, ◌≤◌, Bool, true, false, ◌&&◌, not, ◌==◌, List, [], ◌∷◌, ◌++◌, map, Option, Some, None, Ok, if◌then◌else◌}
use Rattle.std.proofs.Common.{refl, sym, ap, subst, ◌∙◌, lit≤, ⊎_elim}
use Rattle.std.specs.List.{AllByRecursion, flat_map}
use Rattle.std.specs.FinMap.{entries, get}
use Rattle.std.specs.Option.{option_map}
use Rattle.std.proofs.lemmas.Bool.{cases_Bool, eqb-true}
use Rattle.spb_types.specs.declared.address.LspId.{LspId}
use Rattle.spb_types.specs.declared.ports.PortSet.{PortSet}
use Rattle.spb_types.specs.Ports.{has}
use Rattle.isis_pdu.specs.Pdu.{csnp, psnp}
use Rattle.isis_pdu.proofs.FormatLaws.{written_again}
use Rattle.spb_tlvs.specs.declared.entries.SnpEntry.{SnpEntry}
use Rattle.spb_tlvs.specs.RoundTrip.{IsEntry}
use Rattle.spb_tlvs.specs.Tlv.{tlv, values_with}
use Rattle.spb_tlvs.specs.Piece.{pieces, pieces_within}
use Rattle.spb_tlvs.specs.Entry.{entries_value}
use Rattle.spb_tlvs.proofs.EntryLaws.{entries_again}
use Rattle.spb_tlvs.proofs.TlvLaws.{tlv_here}
use Rattle.spb_tlvs.proofs.Numbers.{weaker}
use Rattle.lsdb.specs.declared.version.Version.{Version}
use Rattle.lsdb.specs.Version.{IsAtMost}
use Rattle.lsdb.specs.Entry.{Entry, with_ssn}
use Rattle.lsdb.specs.Database.{Lsps, version_in}
use Rattle.lsdb.specs.Certificate.{Claim, is_flagged, is_as_before, EntryCertificate}
use Rattle.lsdb.proofs.Order.{itself}
use Rattle.lsdb.proofs.Certified.{changing_each}
use Rattle.lsdb.proofs.LookupLemmas.{get-each}
use Rattle.flooding.specs.Entries.{AllEntries, AreSendable}
use Rattle.flooding.proofs.Flags.{has-without}
use Rattle.flooding.proofs.SendableEntries.{claimed_again}
use Rattle.snp_sync.specs.SnpEntries.{snp_entry_of, snp_entries_where, is_listed, has_ssn_at}
use Rattle.snp_sync.specs.Chunks.{chunks, chunks_or_one, entry_tlvs}
use Rattle.snp_sync.specs.Ids.{successor, first_id}
use Rattle.snp_sync.specs.Sending.{CsnpChunk, end_of, csnp_chunks_from, csnp_for, psnp_for, csnp_chunks, psnp_chunks, ssn_cleared}
use Rattle.snp_sync.specs.Reading.{before_others, entries_in_all, entries_in}
use Rattle.snp_sync.specs.Sized.{IsSizedEntry}
use Rattle.snp_sync.specs.SendingLaws.{EntryClaimsWhatIsHeld, ClaimsWhatIsHeld, IsEntryOfHeld, CsnpChunksClaimWhatIsHeld, CsnpChunksListWhatIsHeld, CsnpIsRead, EntriesAreRead, CsnpEntriesAreRead, CsnpEntriesAreSized, PsnpChunksClaimWhatIsHeld, PsnpChunksListWhatIsHeld, PsnpIsRead, PsnpEntriesAreRead, PsnpEntriesAreSized, IsSsnClearedEntry, IsSsnClearedUnder, SsnIsCleared, ClearingSsnIsCertified}
use Rattle.snp_sync.proofs.Gathered.{gathered}
use Rattle.snp_sync.proofs.Cuts.{tlvs_whole}
use Rattle.snp_sync.proofs.Ranges.{joined, joined_chunks, joined_or_one, of_entries}

-- ---- what is so of all entries is so of those of each chunk

pub all_both : {A : Type 0} (P : A → Type 0) (xs ys : List A) → AllByRecursion P (xs ++ ys) → AllByRecursion P xs × AllByRecursion P ys
all_both P [] ys all = (tt, all)
all_both P (x ∷ xs) ys all = let rest = all_both P xs ys all.1 in ((all.0, rest.0), rest.1)

of_joined : (P : SnpEntry → Type 0) (ps : List (List SnpEntry)) → AllByRecursion P (joined ps) → AllByRecursion (AllByRecursion P) ps
of_joined P [] all = tt
of_joined P (p ∷ ps) all = let both = all_both P p (joined ps) all in (both.0, of_joined P ps both.1)

pub of_psnp_chunks : (P : SnpEntry → Type 0) (n : ℕ) (entries : List SnpEntry) → 1 ≤ n → AllByRecursion P entries → AllByRecursion (AllByRecursion P) (chunks n entries)
of_psnp_chunks P n entries some all = of_joined P (chunks n entries) (subst (λ (ls : List SnpEntry). AllByRecursion P ls) (sym (joined_chunks n entries some)) all)

of_csnp_chunks : (P : SnpEntry → Type 0) (start : LspId) (ps : List (List SnpEntry)) → AllByRecursion (AllByRecursion P) ps → AllByRecursion (λ chunk. AllByRecursion P chunk.entries) (csnp_chunks_from start ps)
of_csnp_chunks P start [] all = tt
of_csnp_chunks P start (p ∷ []) all = (all.0, tt)
of_csnp_chunks P start (p ∷ q ∷ more) all = (all.0, of_csnp_chunks P (successor (end_of start p)) (q ∷ more) all.1)

of_gathered : (P : SnpEntry → Type 0) (test : Entry → Bool) (es : List (LspId × Entry)) → AllByRecursion (λ e. P (snp_entry_of e.0 e.1)) es → AllByRecursion P (gathered test es)
of_gathered P test [] all = tt
of_gathered P test (e ∷ es) all = by_test (test e.1) refl (of_gathered P test es all.1)
  where
    by_test : (b : Bool) → test e.1 ≡ b → AllByRecursion P (gathered test es) → AllByRecursion P (gathered test (e ∷ es))
    by_test true t rest = rw t (all.0, rest)
    by_test false t rest = rw t rest

-- what is so of what is said of each LSP is so of the entries
of_snp_entries : (P : SnpEntry → Type 0) (test : Entry → Bool) (db : Lsps) → AllEntries (λ id e. P (snp_entry_of id e)) db → AllByRecursion P (snp_entries_where test db)
of_snp_entries P test db all = of_gathered P test (entries db) (of_entries (λ id e. P (snp_entry_of id e)) db all)

of_csnps : (P : SnpEntry → Type 0) (db : Lsps) → AllEntries (λ id e. P (snp_entry_of id e)) db → AllByRecursion (λ chunk. AllByRecursion P chunk.entries) (csnp_chunks db)
of_csnps P db all =
    let entries = snp_entries_where is_listed db in
    of_csnp_chunks P first_id (chunks_or_one 90 entries) (of_joined P (chunks_or_one 90 entries) (subst (λ (ls : List SnpEntry). AllByRecursion P ls) (sym (joined_or_one entries)) (of_snp_entries P is_listed db all)))

of_psnps : (P : SnpEntry → Type 0) (port : ℕ) (db : Lsps) → AllEntries (λ id e. P (snp_entry_of id e)) db → AllByRecursion (AllByRecursion P) (psnp_chunks port db)
of_psnps P port db all = of_psnp_chunks P 90 (snp_entries_where (has_ssn_at port) db) (lit≤ tt) (of_snp_entries P (has_ssn_at port) db all)

-- ---- what is written is read

no_values : values_with 9 [] ≡ []
unfolding pieces pieces_within
no_values = refl

entry_values : (ps : List (List SnpEntry)) → values_with 9 (flat_map (λ p. tlv 9 (entries_value p)) ps) ≡ map entries_value ps
entry_values [] = no_values
entry_values (p ∷ ps) =
    tlv_here 9 (entries_value p) (flat_map (λ q. tlv 9 (entries_value q)) ps) ∙ ap (λ vs. entries_value p ∷ vs) (entry_values ps)

read_all : (ps : List (List SnpEntry)) → AllByRecursion (AllByRecursion IsEntry) ps → entries_in_all (map entries_value ps) ≡ Ok (joined ps)
read_all [] all = refl
read_all (p ∷ ps) all = λ i. before_others (entries_again p all.0 i) (read_all ps all.1 i)

pub entries_are_read : EntriesAreRead
unfolding entry_tlvs
entries_are_read entries all =
    ap entries_in_all (entry_values (chunks 15 entries)) ∙ read_all (chunks 15 entries) (of_psnp_chunks IsEntry 15 entries (lit≤ tt) all) ∙ ap (λ (ls : List SnpEntry). Ok ls) (joined_chunks 15 entries (lit≤ tt))

pub csnp_entries_are_read : CsnpEntriesAreRead
csnp_entries_are_read db all =
    weaker (λ (chunk : CsnpChunk). AllByRecursion IsEntry chunk.entries) (λ chunk. entries_in (entry_tlvs chunk.entries) ≡ Ok chunk.entries) (csnp_chunks db) (λ chunk h. entries_are_read chunk.entries h)
    (of_csnps IsEntry db (λ id e at. (all id e at).entry))

pub psnp_entries_are_read : PsnpEntriesAreRead
psnp_entries_are_read port db all =
    weaker (AllByRecursion IsEntry) (λ chunk. entries_in (entry_tlvs chunk) ≡ Ok chunk) (psnp_chunks port db) (λ chunk h. entries_are_read chunk h) (of_psnps IsEntry port db (λ id e at. (all id e at).entry))

pub csnp_entries_are_sized : CsnpEntriesAreSized
csnp_entries_are_sized db all = of_csnps IsSizedEntry db (λ id e at. let sized = all id e at in record { named = sized.named; entry = sized.entry })

pub psnp_entries_are_sized : PsnpEntriesAreSized
psnp_entries_are_sized port db all = of_psnps IsSizedEntry port db (λ id e at. let sized = all id e at in record { named = sized.named; entry = sized.entry })

pub csnp_is_read : CsnpIsRead
csnp_is_read me chunk mine start end =
    written_again (csnp (csnp_for me chunk)) (record { ids = (mine, start.system, end.system); whole = tlvs_whole chunk.entries })

pub psnp_is_read : PsnpIsRead
psnp_is_read me chunk mine = written_again (psnp (psnp_for me chunk)) (record { ids = mine; whole = tlvs_whole chunk })

-- ---- an entry claims what is held

pub entry_claims_what_is_held : EntryClaimsWhatIsHeld
entry_claims_what_is_held id e numbered clean = ap (λ (v : Version). record { id = id; version = v }) (claimed_again e.version e.lifetime e.body numbered clean)

claims_held : (db : Lsps) → AreSendable db → AllEntries (λ id e. ClaimsWhatIsHeld db (snp_entry_of id e)) db
claims_held db all id e at =
    claimed_again e.version e.lifetime e.body (all id e at).numbered (all id e at).clean ∙ sym (ap version_in at)

pub csnp_chunks_claim_what_is_held : CsnpChunksClaimWhatIsHeld
csnp_chunks_claim_what_is_held db all = of_csnps (ClaimsWhatIsHeld db) db (claims_held db all)

pub psnp_chunks_claim_what_is_held : PsnpChunksClaimWhatIsHeld
psnp_chunks_claim_what_is_held port db all = of_psnps (ClaimsWhatIsHeld db) port db (claims_held db all)

-- ---- each entry is one of what is held

entries_held : (db : Lsps) → AllEntries (λ id e. IsEntryOfHeld db (snp_entry_of id e)) db
entries_held db id e at = (e, at, refl)

pub csnp_chunks_list_what_is_held : CsnpChunksListWhatIsHeld
csnp_chunks_list_what_is_held db = of_csnps (IsEntryOfHeld db) db (entries_held db)

pub psnp_chunks_list_what_is_held : PsnpChunksListWhatIsHeld
psnp_chunks_list_what_is_held port db = of_psnps (IsEntryOfHeld db) port db (entries_held db)

-- ---- what was sent has no SSN

and_here : (port q : ℕ) (set : PortSet) → has set port ≡ false → has set q ≡ (has set q && not (q == port))
and_here port q set none = by_test (q == port) refl
  where
    and_true : (b : Bool) → b ≡ (b && true)
    and_true true = refl
    and_true false = refl

    and_false : (b : Bool) → b ≡ false → b ≡ (b && false)
    and_false true e = e
    and_false false e = refl

    by_test : (b : Bool) → (q == port) ≡ b → has set q ≡ (has set q && not b)
    by_test true t = and_false (has set q) (ap (λ p. has set p) (eqb-true q port t) ∙ none)
    by_test false t = and_true (has set q)

ssn_cleared_is : (port : ℕ) (e : Entry) → 1 ≤ port → port ≤ 32 → (q : ℕ) → has (ssn_cleared port e).ssn q ≡ (has e.ssn q && not (q == port))
ssn_cleared_is port e low high q =
    ⊎_elim
    (λ entries_with_ssn. ap (λ b. has (if b then with_ssn port false e else e).ssn q) entries_with_ssn ∙ has-without e.ssn port q low high)
    (λ none. ap (λ b. has (if b then with_ssn port false e else e).ssn q) none ∙ and_here port q e.ssn none)
    (cases_Bool (has e.ssn port))

-- what is so of an entry with the flag cleared is so of the cleared one
ssn_cleared_keeps : {A : Type 0} (f : Entry → A) (port : ℕ) (e : Entry) (b : Bool) → f (with_ssn port false e) ≡ f e → f (if b then with_ssn port false e else e) ≡ f e
ssn_cleared_keeps f port e true same = same
ssn_cleared_keeps f port e false same = refl

ssn_cleared_entry : (port : ℕ) (e : Entry) → 1 ≤ port → port ≤ 32 → IsSsnClearedEntry port e (ssn_cleared port e)
ssn_cleared_entry port e low high = record {
  version = ssn_cleared_keeps (λ x. x.version) port e (has e.ssn port) refl;
  lifetime = ssn_cleared_keeps (λ x. x.lifetime) port e (has e.ssn port) refl;
  body = ssn_cleared_keeps (λ x. x.body) port e (has e.ssn port) refl;
  srm = ssn_cleared_keeps (λ x. x.srm) port e (has e.ssn port) refl;
  ssn = ssn_cleared_is port e low high;
}

ssn_cleared_under : (port : ℕ) (o : Option Entry) → 1 ≤ port → port ≤ 32 → IsSsnClearedUnder port o (option_map (ssn_cleared port) o)
ssn_cleared_under port None low high = refl
ssn_cleared_under port (Some e) low high = ssn_cleared_entry port e low high

pub ssn_is_cleared : SsnIsCleared
ssn_is_cleared port db low high id =
    subst (λ (new : Option Entry). IsSsnClearedUnder port (get db id) new) (sym (get-each (λ (x : LspId) (e : Entry). ssn_cleared port e) db id)) (ssn_cleared_under port (get db id) low high)

-- the version and SRM stand
pub same_srm : (up : PortSet) (at : ℕ) (claims : List Claim) (id : LspId) (e n : Entry) → n.version ≡ e.version → n.srm ≡ e.srm → EntryCertificate at claims up up id (Some e) (Some n)
same_srm up at claims id e n v s = record {
  rises = subst (λ (a : Version). IsAtMost e.version a) (sym v) (itself e.version);
  kept = λ p u. ⊎_elim
      (λ t. is_flagged t)
      (λ f. is_as_before u (sym (ap (λ (t : PortSet). has t p) s) ∙ f) v)
      (cases_Bool (has n.srm p));
}

pub clearing_ssn_is_certified : ClearingSsnIsCertified
clearing_ssn_is_certified up port at claims db =
    changing_each at claims up up db (λ id e. ssn_cleared port e) (λ id e. by_test id e (has e.ssn port))
  where
    by_test : (id : LspId) (e : Entry) (b : Bool) → EntryCertificate at claims up up id (Some e) (Some (if b then with_ssn port false e else e))
    by_test id e true = same_srm up at claims id e (with_ssn port false e) refl refl
    by_test id e false = same_srm up at claims id e e refl refl

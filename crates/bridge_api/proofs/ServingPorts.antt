-- What telling at one port changes: the SSN flags there, and nothing of what is sent at another port.
use Rattle.std.proofs.Common.{◌≡◌, ◌≢◌, ◌≤◌, ℕ, Bool, true, false, List, [], ◌∷◌, ◌++◌, map, filter, cond, refl, sym, ap, ◌∙◌, subst, Option, Some, None}
use Rattle.std.specs.Prelude.{◌&&◌, not, ◌==◌, T, if◌then◌else◌}
use Rattle.std.specs.Option.{option_map}
use Rattle.std.specs.Ordering.{is_lt}
use Rattle.std.specs.FinMap.{is_sorted, get, entries, entries_sorted, entries-from_sorted}
use Rattle.std.specs.FinMap.Entries.{below_all}
use Rattle.spb_types.specs.declared.address.SystemId.{SystemId}
use Rattle.spb_types.specs.declared.address.LspId.{LspId}
use Rattle.spb_types.specs.declared.ports.PortSet.{PortSet}
use Rattle.spb_types.specs.Ports.{has}
use Rattle.spb_types.proofs.PortLemmas.{has-no_ports, has-without_same, has-without_other}
use Rattle.spb_tlvs.specs.declared.entries.SnpEntry.{SnpEntry}
use Rattle.lsdb.specs.Entry.{Entry, with_ssn}
use Rattle.lsdb.specs.Database.{Lsps, id_cmp, ssn_in, each}
use Rattle.lsdb.proofs.LookupLemmas.{get-each}
use Rattle.flooding.specs.Sending.{lsp_in, lsps_to_send}
use Rattle.flooding.proofs.Flags.{has-without}
use Rattle.snp_sync.specs.SnpEntries.{snp_entry_of, snp_entries_where, is_listed, has_ssn_at}
use Rattle.snp_sync.specs.Chunks.{chunks, chunks_or_one}
use Rattle.snp_sync.specs.Ids.{first_id}
use Rattle.snp_sync.specs.Sending.{csnp_for, psnp_for, csnp_chunks_from, csnps_of, psnps_of, ssn_cleared as ssn_cleared_entry, all_ssn_cleared}
use Rattle.bridge_api.specs.declared.port.BridgePort.{BridgePort}
use Rattle.bridge_api.specs.View.{is_port_up}
use Rattle.bridge_api.specs.Ticking.{lsp_frame, csnp_frame, psnp_frame, synced_at, after_sending_at}
use Rattle.bridge_api.specs.Duties.{but_for_ssn}

-- ---- every entry changed in its place

abbrev pub moved : (LspId → Entry → Entry) → LspId × Entry → LspId × Entry
moved f e = (e.0, f e.0 e.1)

below_moved : (f : LspId → Entry → Entry) (x : LspId) (es : List (LspId × Entry)) → below_all id_cmp x (map (moved f) es) ≡ below_all id_cmp x es
below_moved f x [] = refl
below_moved f x (e ∷ es) = ap (λ b. is_lt (id_cmp x e.0) && b) (below_moved f x es)

sorted_moved : (f : LspId → Entry → Entry) (es : List (LspId × Entry)) → is_sorted id_cmp (map (moved f) es) ≡ is_sorted id_cmp es
sorted_moved f [] = refl
sorted_moved f (e ∷ es) = λ i. below_moved f e.0 es i && sorted_moved f es i

pub entries-each : (f : LspId → Entry → Entry) (db : Lsps) → entries (each f db) ≡ map (moved f) (entries db)
unfolding each
entries-each f db = entries-from_sorted id_cmp (map (moved f) (entries db)) (subst T (sym (sorted_moved f (entries db))) (entries_sorted db))

-- what is picked and seen of the entries is the same, where the test and what is seen of each are
picked : {Y : Type 0} (test : LspId × Entry → Bool) (g : LspId × Entry → Y) (f : LspId → Entry → Entry) → ((e : LspId × Entry) → test (moved f e) ≡ test e) → ((e : LspId × Entry) → g (moved f e) ≡ g e)
    → (es : List (LspId × Entry)) → map g (filter test (map (moved f) es)) ≡ map g (filter test es)
picked test g f passes seen [] = refl
picked test g f passes seen (e ∷ es) =
    ap (λ b. map g (cond b (moved f e ∷ filter test (map (moved f) es)) (filter test (map (moved f) es)))) (passes e) ∙ by (test e) (picked test g f passes seen es)
  where
    by : (b : Bool) → map g (filter test (map (moved f) es)) ≡ map g (filter test es) → map g (cond b (moved f e ∷ filter test (map (moved f) es)) (filter test (map (moved f) es))) ≡ map g (cond b (e ∷ filter test es) (filter test es))
    by true rest = λ i. seen e i ∷ rest i
    by false rest = rest

-- ---- an entry that was sent at a port

after_sending_lsp : (q : ℕ) (x : LspId) (e : Entry) (b : Bool) → lsp_in x (if b then with_ssn q false e else e) ≡ lsp_in x e
after_sending_lsp q x e true = refl
after_sending_lsp q x e false = refl

sending_entry : (q : ℕ) (x : LspId) (e : Entry) (b : Bool) → snp_entry_of x (if b then with_ssn q false e else e) ≡ snp_entry_of x e
sending_entry q x e true = refl
sending_entry q x e false = refl

after_sending_srm : (q : ℕ) (e : Entry) (b : Bool) → (if b then with_ssn q false e else e).srm ≡ e.srm
after_sending_srm q e true = refl
after_sending_srm q e false = refl

after_sending_listed : (q : ℕ) (e : Entry) (b : Bool) → is_listed (if b then with_ssn q false e else e) ≡ is_listed e
after_sending_listed q e true = refl
after_sending_listed q e false = refl

sending_ssn : (q p : ℕ) (e : Entry) (b : Bool) → 1 ≤ q → q ≤ 32 → p ≢ q → has_ssn_at p (if b then with_ssn q false e else e) ≡ has_ssn_at p e
sending_ssn q p e true low high apart = has-without_other e.ssn q p low high apart
sending_ssn q p e false low high apart = refl

-- ---- what is sent at another port

module _ (system : SystemId) (p q : ℕ) (low : 1 ≤ q) (high : q ≤ 32) (apart : p ≢ q) (db : Lsps) where
  same_lsps : lsps_to_send (all_ssn_cleared q db) p ≡ lsps_to_send db p
  same_lsps =
      ap (λ (es : List (LspId × Entry)). map (λ e. lsp_in e.0 e.1) (filter (λ e. has e.1.srm p) es)) (entries-each (λ x e. ssn_cleared_entry q e) db)
      ∙ picked (λ e. has e.1.srm p) (λ e. lsp_in e.0 e.1) (λ x e. ssn_cleared_entry q e) (λ e. ap (λ (set : PortSet). has set p) (after_sending_srm q e.1 (has_ssn_at q e.1))) (λ e. after_sending_lsp q e.0 e.1 (has_ssn_at q e.1)) (entries db)

  same_entries : (test : Entry → Bool) → ((e : Entry) → test (ssn_cleared_entry q e) ≡ test e) → snp_entries_where test (all_ssn_cleared q db) ≡ snp_entries_where test db
  same_entries test passes =
      ap (λ (es : List (LspId × Entry)). map (λ e. snp_entry_of e.0 e.1) (filter (λ e. test e.1) es)) (entries-each (λ x e. ssn_cleared_entry q e) db)
      ∙ picked (λ e. test e.1) (λ e. snp_entry_of e.0 e.1) (λ x e. ssn_cleared_entry q e) (λ e. passes e.1) (λ e. sending_entry q e.0 e.1 (has_ssn_at q e.1)) (entries db)

  same_csnps : csnps_of system (all_ssn_cleared q db) ≡ csnps_of system db
  same_csnps = ap (λ (entries_listed : List SnpEntry). map (csnp_for system) (csnp_chunks_from first_id (chunks_or_one 90 entries_listed))) (same_entries is_listed (λ e. after_sending_listed q e (has_ssn_at q e)))

  same_psnps : psnps_of system p (all_ssn_cleared q db) ≡ psnps_of system p db
  same_psnps = ap (λ (entries_listed : List SnpEntry). map (psnp_for system) (chunks 90 entries_listed)) (same_entries (has_ssn_at p) (λ e. sending_ssn q p e (has_ssn_at q e) low high apart))

  same_synced : (port : BridgePort) → synced_at system p port (all_ssn_cleared q db) ≡ synced_at system p port db
  same_synced port = λ i.
      if is_port_up port
      then (if port.csnp_due then map (λ c. (p, csnp_frame system c)) (same_csnps i) else []) ++ map (λ l. (p, lsp_frame system l)) (same_lsps i) ++ map (λ s. (p, psnp_frame system s)) (same_psnps i)
      else []

  synced_by : (b : Bool) (port : BridgePort) → synced_at system p port (if b then all_ssn_cleared q db else db) ≡ synced_at system p port db
  synced_by true port = same_synced port
  synced_by false port = refl

  pub still_synced : (x port : BridgePort) → synced_at system p port (after_sending_at q x db) ≡ synced_at system p port db
  still_synced x port = synced_by (is_port_up x) port

-- ---- what has SSN

after_sending_clear : (q : ℕ) (e : Entry) (b : Bool) → has_ssn_at q e ≡ b → 1 ≤ q → q ≤ 32 → has (if b then with_ssn q false e else e).ssn q ≡ false
after_sending_clear q e true ssn low high = has-without_same e.ssn q low high
after_sending_clear q e false ssn low high = ssn

clear_in : (q : ℕ) (o : Option Entry) → 1 ≤ q → q ≤ 32 → has (ssn_in (option_map (ssn_cleared_entry q) o)) q ≡ false
clear_in q None low high = has-no_ports q
clear_in q (Some e) low high = after_sending_clear q e (has_ssn_at q e) refl low high

after_sending_stays : (q p : ℕ) (e : Entry) (b : Bool) → 1 ≤ q → q ≤ 32 → has e.ssn p ≡ false → has (if b then with_ssn q false e else e).ssn p ≡ false
after_sending_stays q p e true low high off = has-without e.ssn q p low high ∙ ap (λ b. b && not (p == q)) off
after_sending_stays q p e false low high off = off

stays_in : (q p : ℕ) (o : Option Entry) → 1 ≤ q → q ≤ 32 → has (ssn_in o) p ≡ false → has (ssn_in (option_map (ssn_cleared_entry q) o)) p ≡ false
stays_in q p None low high off = off
stays_in q p (Some e) low high off = after_sending_stays q p e (has_ssn_at q e) low high off

stays_by : (b : Bool) (q p : ℕ) (db : Lsps) (id : LspId) → 1 ≤ q → q ≤ 32 → has (ssn_in (get db id)) p ≡ false → has (ssn_in (get (if b then all_ssn_cleared q db else db) id)) p ≡ false
stays_by true q p db id low high off = ap (λ (o : Option Entry). has (ssn_in o) p) (get-each (λ x e. ssn_cleared_entry q e) db id) ∙ stays_in q p (get db id) low high off
stays_by false q p db id low high off = off

-- nothing has SSN at a port where nothing had
pub stays_clear : (q p : ℕ) (x : BridgePort) (db : Lsps) (id : LspId) → 1 ≤ q → q ≤ 32 → has (ssn_in (get db id)) p ≡ false → has (ssn_in (get (after_sending_at q x db) id)) p ≡ false
stays_clear q p x db id low high off = stays_by (is_port_up x) q p db id low high off

clears_by : (b : Bool) (q : ℕ) (db : Lsps) (id : LspId) → b ≡ true → 1 ≤ q → q ≤ 32 → has (ssn_in (get (if b then all_ssn_cleared q db else db) id)) q ≡ false
clears_by true q db id up low high = ap (λ (o : Option Entry). has (ssn_in o) q) (get-each (λ x e. ssn_cleared_entry q e) db id) ∙ clear_in q (get db id) low high
clears_by false q db id up low high = absurd cc

-- nor at the port at which it was sent, if it is Up
pub after_sending_clears : (q : ℕ) (x : BridgePort) (db : Lsps) (id : LspId) → is_port_up x ≡ true → 1 ≤ q → q ≤ 32 → has (ssn_in (get (after_sending_at q x db) id)) q ≡ false
after_sending_clears q x db id up low high = clears_by (is_port_up x) q db id up low high

-- ---- and else all is held as it was

after_sending_but : (q : ℕ) (e : Entry) (b : Bool) → but_for_ssn (Some (if b then with_ssn q false e else e)) ≡ but_for_ssn (Some e)
after_sending_but q e true = refl
after_sending_but q e false = refl

held_in : (q : ℕ) (o : Option Entry) → but_for_ssn (option_map (ssn_cleared_entry q) o) ≡ but_for_ssn o
held_in q None = refl
held_in q (Some e) = after_sending_but q e (has_ssn_at q e)

held_by : (b : Bool) (q : ℕ) (db : Lsps) (id : LspId) → but_for_ssn (get (if b then all_ssn_cleared q db else db) id) ≡ but_for_ssn (get db id)
held_by true q db id = ap but_for_ssn (get-each (λ x e. ssn_cleared_entry q e) db id) ∙ held_in q (get db id)
held_by false q db id = refl

pub after_sending_holds : (q : ℕ) (x : BridgePort) (db : Lsps) (id : LspId) → but_for_ssn (get (after_sending_at q x db) id) ≡ but_for_ssn (get db id)
after_sending_holds q x db id = held_by (is_port_up x) q db id

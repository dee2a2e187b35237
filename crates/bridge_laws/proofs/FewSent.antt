-- How many frames a bridge sends in a second.
use Rattle.std.proofs.Common.{◌≡◌, ◌≤◌, ◌+◌, ◌*◌, ℕ, zero, suc, Bool, true, false, List, [], ◌∷◌, ◌++◌, map, filter, cond, length, refl, sym, ap, ◌∙◌, subst, length-append, mul-suc, arith}
use Rattle.std.specs.Prelude.{drop, if◌then◌else◌}
use Rattle.std.specs.FinMap.{entries, len, len-entries}
use Rattle.std.proofs.lemmas.List.{length-map}
use Rattle.spb_types.specs.declared.address.SystemId.{SystemId}
use Rattle.spb_types.specs.declared.address.LspId.{LspId}
use Rattle.spb_types.specs.Ports.{has}
use Rattle.spb_tlvs.specs.declared.entries.SnpEntry.{SnpEntry}
use Rattle.isis_pdu.specs.Pdu.{LspValue, CsnpValue, PsnpValue}
use Rattle.lsdb.specs.Entry.{Entry}
use Rattle.lsdb.specs.Database.{Lsps}
use Rattle.flooding.specs.Own.{own_numbers}
use Rattle.flooding.specs.Sending.{lsp_in, lsps_to_send}
use Rattle.snp_sync.specs.SnpEntries.{snp_entry_of, snp_entries_where, is_listed, has_ssn_at}
use Rattle.snp_sync.specs.Chunks.{chunks_within, chunks, chunks_or_one}
use Rattle.snp_sync.specs.Ids.{first_id, successor}
use Rattle.snp_sync.specs.Sending.{csnp_for, psnp_for, end_of, csnp_chunks_from, csnp_chunks, csnps_of, psnp_chunks, psnps_of, all_ssn_cleared}
use Rattle.bridge_api.specs.declared.port.BridgePort.{BridgePort}
use Rattle.bridge_api.specs.View.{BridgeView, is_port_up}
use Rattle.bridge_api.specs.Ticking.{later, readied, hello_frame, lsp_frame, csnp_frame, psnp_frame, hellos_at, summaries_at, lsps_at, requests_at, synced_at, sent_at, after_sending_at, sent_from, sent_in_tick}
use Rattle.bridge_api.specs.Step.{second, sent}
use Rattle.bridge_laws.specs.Few.{SecondsSendFew, SecondsSendOwn}
use Rattle.bridge_api.proofs.Changes.{readied_ports}
use Rattle.bridge_laws.proofs.FewHeld.{len-each, few_readied, more_readied, alone_few}

-- ---- lists

pub length_if : {X : Type 0} (b : Bool) (xs : List X) → length (if b then xs else []) ≤ length xs
length_if true xs = omega arith
length_if false xs = omega arith

kept_if : {X : Type 0} (b : Bool) (x : X) (rest xs : List X) → length rest ≤ length xs → length (cond b (x ∷ rest) rest) ≤ length (x ∷ xs)
kept_if true x rest xs few = omega (arith, few)
kept_if false x rest xs few = omega (arith, few)

length_kept : {X : Type 0} (p : X → Bool) (xs : List X) → length (filter p xs) ≤ length xs
length_kept p [] = omega arith
length_kept p (x ∷ xs) = kept_if (p x) x (filter p xs) xs (length_kept p xs)

most_chunks : {A : Type 0} (most n : ℕ) (xs : List A) → length (chunks_within most n xs) ≤ most
unfolding chunks_within
most_chunks zero n xs = omega arith
most_chunks (suc most) n [] = omega arith
most_chunks (suc most) n (x ∷ xs) = omega (arith, most_chunks most n (drop n (x ∷ xs)))

few_chunks : {A : Type 0} (n : ℕ) (xs : List A) → length (chunks n xs) ≤ length xs
unfolding chunks
few_chunks n xs = most_chunks (length xs) n xs

chunks_one : {A : Type 0} (n : ℕ) (xs : List A) → length (chunks_or_one n xs) ≤ length xs + 1
chunks_one n [] = omega arith
chunks_one n (x ∷ xs) = omega (arith, few_chunks n (x ∷ xs))

pub length_csnp_chunks : (start : LspId) (ps : List (List SnpEntry)) → length (csnp_chunks_from start ps) ≡ length ps
length_csnp_chunks start [] = refl
length_csnp_chunks start (part ∷ []) = refl
length_csnp_chunks start (part ∷ next ∷ more) = ap suc (length_csnp_chunks (successor (end_of start part)) (next ∷ more))

-- ---- what is sent at a port

module _ (system : SystemId) (p : ℕ) (port : BridgePort) (db : Lsps) where
  pub entries_few : (test : Entry → Bool) → length (snp_entries_where test db) ≤ len db
  entries_few test =
      omega (arith, length-map (filter (λ (e : LspId × Entry). test e.1) (entries db)) (λ (e : LspId × Entry). snp_entry_of e.0 e.1), length_kept (λ (e : LspId × Entry). test e.1) (entries db), len-entries db)

  summaries_few : length (summaries_at system p port db) ≤ len db + 1
  summaries_few =
      omega (arith, length_if {X = ℕ × List ℕ} port.csnp_due (map (λ (c : CsnpValue). (p, csnp_frame system c)) (csnps_of system db)), length-map {B = ℕ × List ℕ} (csnps_of system db) (λ (c : CsnpValue). (p, csnp_frame system c)), length-map (csnp_chunks db) (csnp_for system), length_csnp_chunks first_id (chunks_or_one 90 (snp_entries_where is_listed db)), chunks_one 90 (snp_entries_where is_listed db), entries_few is_listed)

  pub lsps_few : length (lsps_at system p db) ≤ len db
  lsps_few =
      omega (arith, length-map {B = ℕ × List ℕ} (lsps_to_send db p) (λ (l : LspValue). (p, lsp_frame system l)), length-map (filter (λ (e : LspId × Entry). has e.1.srm p) (entries db)) (λ (e : LspId × Entry). lsp_in e.0 e.1), length_kept (λ (e : LspId × Entry). has e.1.srm p) (entries db), len-entries db)

  requests_few : length (requests_at system p db) ≤ len db
  requests_few =
      omega (arith, length-map {B = ℕ × List ℕ} (psnps_of system p db) (λ (s : PsnpValue). (p, psnp_frame system s)), length-map (psnp_chunks p db) (psnp_for system), few_chunks 90 (snp_entries_where (has_ssn_at p) db), entries_few (has_ssn_at p))

  synced_few : length (synced_at system p port db) ≤ 3 * len db + 1
  synced_few =
      let all : List (ℕ × List ℕ) = summaries_at system p port db ++ lsps_at system p db ++ requests_at system p db in
      omega (arith, length_if (is_port_up port) all, length-append (summaries_at system p port db ++ lsps_at system p db) (requests_at system p db), length-append (summaries_at system p port db) (lsps_at system p db), summaries_few, lsps_few, requests_few)

  port_few : (k : ℕ) → len db ≤ k → length (sent_at system p port db) ≤ 3 * k + 2
  port_few k held =
      omega (arith, length-append (hellos_at system p port) (synced_at system p port db), length_if {X = ℕ × List ℕ} port.adjacency.carrier ((p, hello_frame system p port) ∷ []), synced_few, held)

-- ---- and at all ports

pub after_sending_few : (b : Bool) (p : ℕ) (db : Lsps) → len (if b then all_ssn_cleared p db else db) ≡ len db
after_sending_few true p db = len-each _ db
after_sending_few false p db = refl

ports_few : (k : ℕ) (system : SystemId) (q : ℕ) (ports : List BridgePort) (db : Lsps) → len db ≤ k → length (sent_from system q ports db) ≤ (3 * k + 2) * length ports
ports_few k system q [] db held = omega arith
ports_few k system q (port ∷ ports) db held =
    let next : Lsps = after_sending_at q port db in
    let rest = ports_few k system (q + 1) ports next (subst (λ (n : ℕ). n ≤ k) (sym (after_sending_few (is_port_up port) q db)) held) in
    omega (arith, length-append (sent_at system q port db) (sent_from system (q + 1) ports next), port_few system q port db k held, rest, mul-suc (3 * k + 2) (length ports))

-- as many as are held when it sends
second_few : (k : ℕ) (v : BridgeView) → len (readied v).database ≤ k → length (sent second v) ≤ (3 * k + 2) * length v.ports
unfolding sent_in_tick
second_few k v held =
    let u : BridgeView = readied v in
    let ports : length u.ports ≡ length v.ports = ap length (readied_ports v) ∙ length-map v.ports later in
    subst (λ (n : ℕ). length (sent_from u.id.system 1 u.ports u.database) ≤ (3 * k + 2) * n) ports (ports_few k u.id.system 1 u.ports u.database held)

pub seconds_send_few : SecondsSendFew
seconds_send_few v = second_few (len v.database + own_numbers) v (more_readied v)

pub seconds_send_own : SecondsSendOwn
seconds_send_own k v low few = second_few own_numbers v (alone_few (readied v).id.system (readied v).database (few_readied k v low few).alone)

-- How many frames a bridge sends at one port in a second.
use Rattle.std.proofs.Common.{◌≡◌, ◌≢◌, inl, inr, ◌≤◌, ◌<◌, ◌+◌, ◌*◌, ℕ, zero, suc, Bool, true, false, List, [], ◌∷◌, ◌++◌, map, length, refl, sym, ap, ◌∙◌, subst, length-append, arith}
use Rattle.std.specs.Prelude.{drop, ◌==◌, if◌then◌else◌}
use Rattle.std.specs.FinMap.{len}
use Rattle.std.proofs.Math.Nat.{le-div_iff_mul-le}
use Rattle.std.proofs.lemmas.Bool.{eqb-true, cases_eq}
use Rattle.std.proofs.lemmas.List.{length-map, length-drop}
use Rattle.spb_types.specs.declared.address.SystemId.{SystemId}
use Rattle.isis_pdu.specs.Pdu.{CsnpValue, PsnpValue}
use Rattle.lsdb.specs.Database.{Lsps}
use Rattle.snp_sync.specs.SnpEntries.{snp_entries_where, is_listed, has_ssn_at}
use Rattle.snp_sync.specs.Chunks.{chunks_within, chunks, chunks_or_one}
use Rattle.snp_sync.specs.Ids.{first_id}
use Rattle.snp_sync.specs.Sending.{csnp_for, psnp_for, csnp_chunks, csnps_of, psnp_chunks, psnps_of}
use Rattle.bridge_api.specs.declared.port.BridgePort.{BridgePort}
use Rattle.bridge_api.specs.View.{BridgeView, is_port_up}
use Rattle.bridge_api.specs.Ticking.{readied, hello_frame, csnp_frame, psnp_frame, hellos_at, summaries_at, lsps_at, requests_at, synced_at, sent_at, after_sending_at, sent_from, after_sending_from, sent_in_tick}
use Rattle.bridge_api.specs.Step.{second, step, frames_at}
use Rattle.bridge_api.specs.Laws.{IsSent}
use Rattle.bridge_api.proofs.Changes.{tick_is}
use Rattle.bridge_api.proofs.Hellos.{at_port, sent_where}
use Rattle.bridge_laws.proofs.FewSent.{length_if, length_csnp_chunks, entries_few, lsps_few, after_sending_few}
use Rattle.bridge_rounds.specs.Seconds.{snps_for, SecondsSendAtPort}

-- ---- those of a list of frames that are sent at a port

none_by : (b : Bool) (s : ℕ × List ℕ) (ss : List (ℕ × List ℕ)) (p : ℕ) → (s.0 == p) ≡ b → ((bytes : List ℕ) → IsSent (s ∷ ss) p bytes → ⊥) → frames_at p ss ≡ [] → (if b then s.1 ∷ frames_at p ss else frames_at p ss) ≡ []
none_by true s ss p here none rest = absurd (none s.1 (inl (eqb-true s.0 p here, refl)))
none_by false s ss p apart none rest = rest

pub none_at : (frames : List (ℕ × List ℕ)) (p : ℕ) → ((bytes : List ℕ) → IsSent frames p bytes → ⊥) → frames_at p frames ≡ []
none_at [] p none = refl
none_at (s ∷ ss) p none = none_by (s.0 == p) s ss p refl none (none_at ss p (λ bytes some. none bytes (inr some)))

few_by : (b : Bool) (s : ℕ × List ℕ) (ss : List (ℕ × List ℕ)) (p : ℕ) → length (frames_at p ss) ≤ length ss → length (if b then s.1 ∷ frames_at p ss else frames_at p ss) ≤ length (s ∷ ss)
few_by true s ss p few = omega (arith, few)
few_by false s ss p few = omega (arith, few)

few_at : (frames : List (ℕ × List ℕ)) (p : ℕ) → length (frames_at p frames) ≤ length frames
few_at [] p = omega arith
few_at (s ∷ ss) p = few_by (s.0 == p) s ss p (few_at ss p)

both_by : (b : Bool) (s : ℕ × List ℕ) (xs ys : List (ℕ × List ℕ)) (p : ℕ) → frames_at p (xs ++ ys) ≡ frames_at p xs ++ frames_at p ys
    → (if b then s.1 ∷ frames_at p (xs ++ ys) else frames_at p (xs ++ ys)) ≡ (if b then s.1 ∷ frames_at p xs else frames_at p xs) ++ frames_at p ys
both_by true s xs ys p rest = ap (λ (fs : List (List ℕ)). s.1 ∷ fs) rest
both_by false s xs ys p rest = rest

pub at_both : (xs ys : List (ℕ × List ℕ)) (p : ℕ) → frames_at p (xs ++ ys) ≡ frames_at p xs ++ frames_at p ys
at_both [] ys p = refl
at_both (s ∷ xs) ys p = both_by (s.0 == p) s xs ys p (at_both xs ys p)

-- ---- chunks of 90

chunks_ninety : {A : Type 0} (most : ℕ) (xs : List A) → length (chunks_within most 90 xs) * 90 ≤ length xs + 89
unfolding chunks_within
chunks_ninety zero xs = omega arith
chunks_ninety (suc most) [] = omega arith
chunks_ninety (suc most) (x ∷ xs) =
    let rest = chunks_ninety most (drop 90 (x ∷ xs)) in
    omega (arith, rest, length-drop 90 (x ∷ xs))

within : (count n most : ℕ) → count * 90 ≤ n + 89 → n ≤ most → count ≤ snps_for most
within count n most all few = (le-div_iff_mul-le (omega arith)).1 (omega (arith, all, few))

chunks_few : {A : Type 0} (most : ℕ) (xs : List A) → length xs ≤ most → length (chunks 90 xs) ≤ snps_for most
unfolding chunks
chunks_few most xs few = within (length (chunks_within (length xs) 90 xs)) (length xs) most (chunks_ninety (length xs) xs) few

chunks_or_one_few : {A : Type 0} (most : ℕ) (xs : List A) → 1 ≤ most → length xs ≤ most → length (chunks_or_one 90 xs) ≤ snps_for most
chunks_or_one_few most [] some few = within 1 1 most (omega arith) some
chunks_or_one_few most (x ∷ xs) some few = chunks_few most (x ∷ xs) few

-- ---- what is sent at a port

abbrev most_at : ℕ → ℕ
most_at most = 1 + snps_for most + most + snps_for most

module _ (system : SystemId) (q : ℕ) (port : BridgePort) (db : Lsps) (most : ℕ) (some : 1 ≤ most) (held : len db ≤ most) where
  summaries_few : length (summaries_at system q port db) ≤ snps_for most
  summaries_few =
      let listed : length (snp_entries_where is_listed db) ≤ most = omega (arith, entries_few system q port db is_listed, held) in
      omega (arith, length_if {X = ℕ × List ℕ} port.csnp_due (map (λ (c : CsnpValue). (q, csnp_frame system c)) (csnps_of system db)), length-map {B = ℕ × List ℕ} (csnps_of system db) (λ (c : CsnpValue). (q, csnp_frame system c)), length-map (csnp_chunks db) (csnp_for system), length_csnp_chunks first_id (chunks_or_one 90 (snp_entries_where is_listed db)), chunks_or_one_few most (snp_entries_where is_listed db) some listed)

  requests_few : length (requests_at system q db) ≤ snps_for most
  requests_few =
      let flagged : length (snp_entries_where (has_ssn_at q) db) ≤ most = omega (arith, entries_few system q port db (has_ssn_at q), held) in
      omega (arith, length-map {B = ℕ × List ℕ} (psnps_of system q db) (λ (s : PsnpValue). (q, psnp_frame system s)), length-map (psnp_chunks q db) (psnp_for system), chunks_few most (snp_entries_where (has_ssn_at q) db) flagged)

  synced_few : length (synced_at system q port db) ≤ snps_for most + most + snps_for most
  synced_few =
      let all : List (ℕ × List ℕ) = summaries_at system q port db ++ lsps_at system q db ++ requests_at system q db in
      omega (arith, length_if (is_port_up port) all, length-append (summaries_at system q port db ++ lsps_at system q db) (requests_at system q db), length-append (summaries_at system q port db) (lsps_at system q db), summaries_few, lsps_few system q port db, requests_few, held)

  port_few : length (sent_at system q port db) ≤ most_at most
  port_few =
      omega (arith, length-append (hellos_at system q port) (synced_at system q port db), length_if {X = ℕ × List ℕ} port.adjacency.carrier ((q, hello_frame system q port) ∷ []), synced_few)

-- ---- and of all ports, from number q on

pub none_before : (system : SystemId) (q : ℕ) (ports : List BridgePort) (db : Lsps) (p : ℕ) → p < q → frames_at p (sent_from system q ports db) ≡ []
none_before system q ports db p low = none_at (sent_from system q ports db) p (λ bytes is. let at = sent_where system q ports db p bytes is in absurd (omega (arith, at.number, low)))

pub none_beside : (system : SystemId) (q : ℕ) (port : BridgePort) (db : Lsps) (p : ℕ) → q ≢ p → frames_at p (sent_at system q port db) ≡ []
none_beside system q port db p apart = none_at (sent_at system q port db) p (λ bytes is. apart (at_port system q port db p bytes is).0)

ports_few : (most : ℕ) (system : SystemId) (p q : ℕ) (ports : List BridgePort) (db : Lsps) → 1 ≤ most → len db ≤ most → length (frames_at p (sent_from system q ports db)) ≤ most_at most
ports_few most system p q [] db some held = omega arith
ports_few most system p q (port ∷ ports) db some held =
    let next : Lsps = after_sending_at q port db in
    let here : List (ℕ × List ℕ) = sent_at system q port db in
    let there : List (ℕ × List ℕ) = sent_from system (q + 1) ports next in
    let both : length (frames_at p (here ++ there)) ≡ length (frames_at p here) + length (frames_at p there) = ap length (at_both here there p) ∙ length-append (frames_at p here) (frames_at p there) in
    elim (cases_eq q p) [
      | inl same ↦ omega (arith, both, few_at here p, port_few system q port db most some held, ap length (none_before system (q + 1) ports next p (omega (arith, same))))
      | inr apart ↦
          omega (arith, both, ap length (none_beside system q port db p apart), ports_few most system p (q + 1) ports next some (subst (λ (n : ℕ). n ≤ most) (sym (after_sending_few (is_port_up port) q db)) held))
    ]

len_after : (q : ℕ) (ports : List BridgePort) (db : Lsps) → len (after_sending_from q ports db) ≡ len db
len_after q [] db = refl
len_after q (port ∷ ports) db = len_after (q + 1) ports (after_sending_at q port db) ∙ after_sending_few (is_port_up port) q db

pub seconds_send_at_port : SecondsSendAtPort
unfolding sent_in_tick
seconds_send_at_port v p most was some held =
    let u : BridgeView = readied v in
    let same : len (step second v).database ≡ len u.database = ap (λ (w : BridgeView). len w.database) (tick_is v) ∙ len_after 1 u.ports u.database in
    ports_few most u.id.system p 1 u.ports u.database some (subst (λ (n : ℕ). n ≤ most) same held)

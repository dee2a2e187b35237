-- Frames that are put into the outbox, one after another.
use Rattle.std.proofs.Common.{◌≡◌, ◌≤◌, ◌<◌, ◌+◌, ℕ, zero, suc, List, [], ◌∷◌, ◌++◌, map, length, take, drop, get_or, refl, sym, ap, ◌∙◌, subst, Some, Result, Ok, Err, arith, append_assoc, add-one, add-zero}
use Rattle.std.specs.Prelude.{Bool, true, false, filter, slice_get, cond, OnOk, OnErr}
use Rattle.std.specs.FinMap.{entries}
use Rattle.std.specs.Global.{Vec}
use Rattle.std.proofs.lemmas.List.{append-nil, take-append-drop}
use Rattle.std.proofs.Math.Seq.{take-append_seam}
use Rattle.spb_types.specs.declared.address.SystemId.{SystemId}
use Rattle.spb_types.specs.declared.address.LspId.{LspId}
use Rattle.isis_pdu.specs.Pdu.{HelloValue}
use Rattle.isis_pdu.specs.Spelling.{hello_bytes}
use Rattle.itag_frames.specs.Frame.{control_bytes}
use Rattle.spb_types.specs.Ports.{has}
use Rattle.lsdb.specs.Entry.{Entry}
use Rattle.lsdb.specs.Database.{Lsps}
use Rattle.flooding.specs.Sending.{lsp_in}
use Rattle.snp_sync.specs.Sending.{bytes_in}
use Rattle.bridge_api.specs.declared.port.BridgePort.{BridgePort}
use Rattle.bridge_api.specs.declared.outbox.Outbox.{Outbox}
use Rattle.bridge_api.specs.Ticking.{lsp_frame, lsps_at, sent_at, sent_from, after_sending_at, after_sending_from}
use Rattle.bridge_api.specs.Step.{with_wire, Gains}
use Rattle.bridge_api.proofs.Hellos.{hello_short}
use Rattle.bridge_control.specs.Frames.{frames_of, frames_held}

-- a hello with so few TLVs fits into a frame
pub pdu_short : (pdu : List ℕ) (h : HelloValue) → pdu ≡ hello_bytes h → length h.source.mac.bytes ≡ 6 → length h.tlvs ≤ 26 → length pdu ≤ 1497
pdu_short pdu h is six few = omega (arith, ap length is, hello_short h six, few)

-- ---- an outbox that gains frames

-- frames that are sent after others
pub sent_after : (first then : List (ℕ × List ℕ)) (o : Outbox) → with_wire then (with_wire first o) ≡ with_wire (first ++ then) o
sent_after first then o = λ i. record o { wire = append_assoc o.wire first then i }

pub sent_both : (first then : List (ℕ × List ℕ)) (o mid new : Outbox) → mid ≡ with_wire first o → new ≡ with_wire then mid → new ≡ with_wire (first ++ then) o
sent_both first then o mid new before after = after ∙ (ap (with_wire then) before ∙ sent_after first then o)

pub sent_none : (o : Outbox) → o ≡ with_wire [] o
sent_none o = λ i. record o { wire = sym (append-nil o.wire) i }

pub sent_as : (first then : List (ℕ × List ℕ)) (o new : Outbox) → first ≡ then → new ≡ with_wire first o → new ≡ with_wire then o
sent_as first then o new same is = is ∙ ap (λ (fs : List (ℕ × List ℕ)). with_wire fs o) same

-- the first of all frames
pub gained_first : (some rest all : List (ℕ × List ℕ)) (o new : Outbox) → all ≡ some ++ rest → new ≡ with_wire some o → Gains all o new
gained_first some rest all o new split is =
    let first : take (length some) all ≡ some = ap (take (length some)) split ∙ take-append_seam some rest in
    record { count = length some; gained = is ∙ ap (λ (fs : List (ℕ × List ℕ)). with_wire fs o) (sym first) }

pub gained_none : (all : List (ℕ × List ℕ)) (o new : Outbox) → new ≡ o → Gains all o new
gained_none all o new is = gained_first [] all all o new refl (is ∙ sent_none o)

-- some frames, and then the first of others
pub gained_further : (some more rest all : List (ℕ × List ℕ)) (o mid new : Outbox) → all ≡ some ++ (more ++ rest) → mid ≡ with_wire some o → Gains more mid new → Gains all o new
gained_further some more rest all o mid new split before g =
    let part : List (ℕ × List ℕ) = take g.count more in
    let left : List (ℕ × List ℕ) = drop g.count more in
    let parts : all ≡ (some ++ part) ++ (left ++ rest) =
    split
    ∙ (ap (λ (ms : List (ℕ × List ℕ)). some ++ (ms ++ rest)) (sym (take-append-drop g.count more))
    ∙ (ap (λ (ms : List (ℕ × List ℕ)). some ++ ms) (append_assoc part left rest)
    ∙ sym (append_assoc some part (left ++ rest)))) in
    gained_first (some ++ part) (left ++ rest) all o new parts (sent_both some part o mid new before g.gained)

pub gained_as : (all others : List (ℕ × List ℕ)) (o new : Outbox) → all ≡ others → Gains all o new → Gains others o new
gained_as all others o new same g = subst (λ (fs : List (ℕ × List ℕ)). Gains fs o new) same g

pub on_err : {T E P : Type 0} (r : Result T E) → P → OnErr r P
on_err (Ok x) p = tt
on_err (Err e) p = p

pub on_ok : {T E P : Type 0} (r : Result T E) → P → OnOk r P
on_ok (Ok x) p = p
on_ok (Err e) p = tt

-- ---- PDUs

frames_suc : (system : SystemId) (p : ℕ) (pdus : List (Vec ℕ)) (i : ℕ) (d : Vec ℕ) → i < length pdus
    → frames_of system p (bytes_in (take (suc i) pdus)) ≡ frames_of system p (bytes_in (take i pdus)) ++ (p, control_bytes system.mac (get_or pdus i d).items) ∷ []
frames_suc system p [] i d within = absurd (omega arith)
frames_suc system p (x ∷ pdus) zero d within = refl
frames_suc system p (x ∷ pdus) (suc i) d within = ap (λ (fs : List (ℕ × List ℕ)). (p, control_bytes system.mac x.items) ∷ fs) (frames_suc system p pdus i d (omega arith))

pub frames_next : (system : SystemId) (p : ℕ) (pdus : List (Vec ℕ)) (i : ℕ) (d : Vec ℕ) (o mid new : Outbox) → i < length pdus → mid ≡ with_wire (frames_of system p (bytes_in (take i pdus))) o
    → new ≡ with_wire ((p, control_bytes system.mac (get_or pdus i d).items) ∷ []) mid → new ≡ with_wire (frames_of system p (bytes_in (take (i + 1) pdus))) o
frames_next system p pdus i d o mid new within before after =
    sent_as _ _ o new (sym (rw add-one (frames_suc system p pdus i d within))) (sent_both (frames_of system p (bytes_in (take i pdus))) _ o mid new before after)

frames_split : (system : SystemId) (p : ℕ) (pdus : List (Vec ℕ)) (i : ℕ) → frames_of system p (bytes_in pdus) ≡ frames_of system p (bytes_in (take i pdus)) ++ frames_of system p (bytes_in (drop i pdus))
frames_split system p [] zero = refl
frames_split system p [] (suc i) = refl
frames_split system p (x ∷ pdus) zero = refl
frames_split system p (x ∷ pdus) (suc i) = ap (λ (fs : List (ℕ × List ℕ)). (p, control_bytes system.mac x.items) ∷ fs) (frames_split system p pdus i)

pub frames_some : (system : SystemId) (p : ℕ) (pdus : List (Vec ℕ)) (i : ℕ) (o new : Outbox) → new ≡ with_wire (frames_of system p (bytes_in (take i pdus))) o → Gains (frames_of system p (bytes_in pdus)) o new
frames_some system p pdus i o new is = gained_first (frames_of system p (bytes_in (take i pdus))) (frames_of system p (bytes_in (drop i pdus))) _ o new (frames_split system p pdus i) is

-- ---- LSPs by their places

abbrev pub frames_among : SystemId → ℕ → List (LspId × Entry) → List (ℕ × List ℕ)
frames_among system p [] = []
frames_among system p (e ∷ es) = frames_held system p (Some e) ++ frames_among system p es

among_suc : (system : SystemId) (p : ℕ) (es : List (LspId × Entry)) (i : ℕ) → frames_among system p (take (suc i) es) ≡ frames_among system p (take i es) ++ frames_held system p (slice_get es i)
among_suc system p [] zero = refl
among_suc system p [] (suc i) = refl
among_suc system p (e ∷ es) zero = append-nil (frames_held system p (Some e))
among_suc system p (e ∷ es) (suc i) =
    ap (λ (fs : List (ℕ × List ℕ)). frames_held system p (Some e) ++ fs) (among_suc system p es i)
    ∙ sym (append_assoc (frames_held system p (Some e)) (frames_among system p (take i es)) (frames_held system p (slice_get es i)))

pub among_next : (system : SystemId) (p : ℕ) (es : List (LspId × Entry)) (i : ℕ) (o mid new : Outbox) → mid ≡ with_wire (frames_among system p (take i es)) o
    → new ≡ with_wire (frames_held system p (slice_get es i)) mid → new ≡ with_wire (frames_among system p (take (i + 1) es)) o
among_next system p es i o mid new before after =
    sent_as _ _ o new (sym (rw add-one (among_suc system p es i))) (sent_both (frames_among system p (take i es)) _ o mid new before after)

pub among_split : (system : SystemId) (p : ℕ) (es : List (LspId × Entry)) (i : ℕ) → frames_among system p es ≡ frames_among system p (take i es) ++ frames_among system p (drop i es)
among_split system p [] zero = refl
among_split system p [] (suc i) = refl
among_split system p (e ∷ es) zero = refl
among_split system p (e ∷ es) (suc i) =
    ap (λ (fs : List (ℕ × List ℕ)). frames_held system p (Some e) ++ fs) (among_split system p es i)
    ∙ sym (append_assoc (frames_held system p (Some e)) (frames_among system p (take i es)) (frames_among system p (drop i es)))

-- they are those that are to be sent
among_all : (system : SystemId) (p : ℕ) (es : List (LspId × Entry)) → frames_among system p es ≡ map (λ l. (p, lsp_frame system l)) (map (λ e. lsp_in e.0 e.1) (filter (λ e. has e.1.srm p) es))
among_all system p [] = refl
among_all system p (e ∷ es) = by_test (has e.1.srm p) (among_all system p es)
  where
    sent : List (LspId × Entry) → List (ℕ × List ℕ)
    sent ds = map (λ l. (p, lsp_frame system l)) (map (λ d. lsp_in d.0 d.1) ds)

    by_test : (b : Bool) → frames_among system p es ≡ sent (filter (λ d. has d.1.srm p) es)
        → cond b ((p, lsp_frame system (lsp_in e.0 e.1)) ∷ []) [] ++ frames_among system p es ≡ sent (cond b (e ∷ filter (λ d. has d.1.srm p) es) (filter (λ d. has d.1.srm p) es))
    by_test true rest = ap (λ (fs : List (ℕ × List ℕ)). (p, lsp_frame system (lsp_in e.0 e.1)) ∷ fs) rest
    by_test false rest = rest

pub among_sent : (system : SystemId) (p : ℕ) (db : Lsps) → frames_among system p (entries db) ≡ lsps_at system p db
among_sent system p db = among_all system p (entries db)

pub among_some : (system : SystemId) (p : ℕ) (db : Lsps) (i : ℕ) (o new : Outbox) → new ≡ with_wire (frames_among system p (take i (entries db))) o → Gains (lsps_at system p db) o new
among_some system p db i o new is =
    gained_first (frames_among system p (take i (entries db))) (frames_among system p (drop i (entries db))) _ o new
    (sym (among_sent system p db) ∙ among_split system p (entries db) i) is

-- ---- ports

pub drop_at : {X : Type 0} (xs : List X) (i : ℕ) (d : X) → i < length xs → drop i xs ≡ get_or xs i d ∷ drop (suc i) xs
drop_at [] i d within = absurd (omega arith)
drop_at (x ∷ xs) zero d within = refl
drop_at (x ∷ xs) (suc i) d within = drop_at xs i d (omega arith)

ports_suc : (system : SystemId) (q : ℕ) (ports : List BridgePort) (db : Lsps) (i : ℕ) (d : BridgePort) → i < length ports
    → sent_from system q (take (suc i) ports) db ≡ sent_from system q (take i ports) db ++ sent_at system (q + i) (get_or ports i d) (after_sending_from q (take i ports) db)
ports_suc system q [] db i d within = absurd (omega arith)
ports_suc system q (port ∷ ports) db zero d within = rw add-zero (append-nil (sent_at system q port db))
ports_suc system q (port ∷ ports) db (suc i) d within =
    let number : (q + 1) + i ≡ q + suc i = omega arith in
    let next : Lsps = after_sending_at q port db in
    ap (λ (fs : List (ℕ × List ℕ)). sent_at system q port db ++ fs)
    (ports_suc system (q + 1) ports next i d (omega arith)
    ∙ ap (λ (k : ℕ). sent_from system (q + 1) (take i ports) next ++ sent_at system k (get_or ports i d) (after_sending_from (q + 1) (take i ports) next)) number)
    ∙ sym (append_assoc (sent_at system q port db) (sent_from system (q + 1) (take i ports) next) (sent_at system (q + suc i) (get_or ports i d) (after_sending_from (q + 1) (take i ports) next)))

after_sending_suc : (q : ℕ) (ports : List BridgePort) (db : Lsps) (i : ℕ) (d : BridgePort) → i < length ports → after_sending_from q (take (suc i) ports) db ≡ after_sending_at (q + i) (get_or ports i d) (after_sending_from q (take i ports) db)
after_sending_suc q [] db i d within = absurd (omega arith)
after_sending_suc q (port ∷ ports) db zero d within = rw add-zero refl
after_sending_suc q (port ∷ ports) db (suc i) d within =
    let number : (q + 1) + i ≡ q + suc i = omega arith in
    after_sending_suc (q + 1) ports (after_sending_at q port db) i d (omega arith) ∙ ap (λ (k : ℕ). after_sending_at k (get_or ports i d) (after_sending_from (q + 1) (take i ports) (after_sending_at q port db))) number

-- the next port's frames come behind those of the ports before it
pub ports_next : (system : SystemId) (ports : List BridgePort) (db now : Lsps) (i : ℕ) (d : BridgePort) (o mid new : Outbox) → i < length ports → mid ≡ with_wire (sent_from system 1 (take i ports) db) o → now ≡ after_sending_from 1 (take i ports) db
    → new ≡ with_wire (sent_at system (i + 1) (get_or ports i d) now) mid → new ≡ with_wire (sent_from system 1 (take (i + 1) ports) db) o
ports_next system ports db now i d o mid new within before after_sending after =
    let number : 1 + i ≡ i + 1 = omega arith in
    let some : List (ℕ × List ℕ) = sent_from system 1 (take i ports) db in
    sent_as _ _ o new
    (ap (λ (x : Lsps). some ++ sent_at system (i + 1) (get_or ports i d) x) after_sending
    ∙ (ap (λ (k : ℕ). some ++ sent_at system k (get_or ports i d) (after_sending_from 1 (take i ports) db)) (sym number)
    ∙ sym (rw add-one (ports_suc system 1 ports db i d within))))
    (sent_both some (sent_at system (i + 1) (get_or ports i d) now) o mid new before after)

pub after_sending_next : (ports : List BridgePort) (db now new : Lsps) (i : ℕ) (d : BridgePort) → i < length ports → now ≡ after_sending_from 1 (take i ports) db → new ≡ after_sending_at (i + 1) (get_or ports i d) now → new ≡ after_sending_from 1 (take (i + 1) ports) db
after_sending_next ports db now new i d within after_sending after =
    let number : 1 + i ≡ i + 1 = omega arith in
    after ∙ (ap (after_sending_at (i + 1) (get_or ports i d)) after_sending ∙ (ap (λ (k : ℕ). after_sending_at k (get_or ports i d) (after_sending_from 1 (take i ports) db)) (sym number) ∙ sym (rw add-one (after_sending_suc 1 ports db i d within))))

ports_split : (system : SystemId) (q : ℕ) (ports : List BridgePort) (db : Lsps) (i : ℕ) → sent_from system q ports db ≡ sent_from system q (take i ports) db ++ sent_from system (q + i) (drop i ports) (after_sending_from q (take i ports) db)
ports_split system q [] db zero = refl
ports_split system q [] db (suc i) = refl
ports_split system q (port ∷ ports) db zero = rw add-zero refl
ports_split system q (port ∷ ports) db (suc i) =
    let number : (q + 1) + i ≡ q + suc i = omega arith in
    let next : Lsps = after_sending_at q port db in
    ap (λ (fs : List (ℕ × List ℕ)). sent_at system q port db ++ fs)
    (ports_split system (q + 1) ports next i ∙ ap (λ (k : ℕ). sent_from system (q + 1) (take i ports) next ++ sent_from system k (drop i ports) (after_sending_from (q + 1) (take i ports) next)) number)
    ∙ sym (append_assoc (sent_at system q port db) (sent_from system (q + 1) (take i ports) next) (sent_from system (q + suc i) (drop i ports) (after_sending_from (q + 1) (take i ports) next)))

-- some ports' frames, and then the first of those of the next port
pub ports_some : (system : SystemId) (ports : List BridgePort) (db now : Lsps) (i : ℕ) (d : BridgePort) (o mid new : Outbox) → i < length ports → mid ≡ with_wire (sent_from system 1 (take i ports) db) o → now ≡ after_sending_from 1 (take i ports) db
    → Gains (sent_at system (i + 1) (get_or ports i d) now) mid new → Gains (sent_from system 1 ports db) o new
ports_some system ports db now i d o mid new within before after_sending g =
    let number : 1 + i ≡ i + 1 = omega arith in
    let then : Lsps = after_sending_from 1 (take i ports) db in
    let here : List (ℕ × List ℕ) = sent_at system (i + 1) (get_or ports i d) then in
    let rest : List (ℕ × List ℕ) = sent_from system ((i + 1) + 1) (drop (suc i) ports) (after_sending_at (i + 1) (get_or ports i d) then) in
    gained_further (sent_from system 1 (take i ports) db) here rest _ o mid new
    (ports_split system 1 ports db i
    ∙ (ap (λ (k : ℕ). sent_from system 1 (take i ports) db ++ sent_from system k (drop i ports) then) number
    ∙ ap (λ (ps : List BridgePort). sent_from system 1 (take i ports) db ++ sent_from system (i + 1) ps then) (drop_at ports i d within)))
    before
    (gained_as (sent_at system (i + 1) (get_or ports i d) now) here mid new (ap (sent_at system (i + 1) (get_or ports i d)) after_sending) g)

-- what stands behind nothing
pub behind_none : {X : Type 0} (first then : List X) → length first ≡ 0 → then ≡ first ++ then
behind_none [] then empty = refl
behind_none (x ∷ first) then empty = absurd (omega (arith, empty))

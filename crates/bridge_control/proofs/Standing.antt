-- Places but at which no flags stand: nothing is sent of any other, and so it stays.
use Rattle.std.specs.Prelude.{◌≡◌, ℕ, ◌+◌, ◌<◌, ◌≤◌, slice_get, Some, Bool, true, false, ◌||◌, List, [], ◌∷◌, ◌++◌, map, length, take, drop, zero, suc, if◌then◌else◌}
use Rattle.std.proofs.Common.{refl, sym, ap, subst, ◌∙◌, arith, add-one, get_or}
use Rattle.std.proofs.Math.ListN.{drop_of_length-le}
use Rattle.std.proofs.lemmas.List.{append-nil, take_all}
use Rattle.std.specs.List.{list_any, AllByRecursion}
use Rattle.std.specs.FinMap.{entries}
use Rattle.spb_types.specs.declared.address.LspId.{LspId}
use Rattle.spb_types.specs.declared.address.SystemId.{SystemId}
use Rattle.spb_types.specs.declared.ports.PortSet.{PortSet}
use Rattle.spb_types.specs.Ports.{has}
use Rattle.lsdb.specs.Entry.{Entry, has_ports, has_flags, with_ssn}
use Rattle.lsdb.specs.Database.{Lsps, AreFlagsAt}
use Rattle.lsdb.proofs.FlaggedPlaces.{flags_mapped_at}
use Rattle.lsdb.proofs.Flags.{none_in}
use Rattle.lsdb.proofs.LookupLemmas.{entries-each}
use Rattle.flooding.specs.Sending.{lsp_in}
use Rattle.snp_sync.specs.Sending.{ssn_cleared, all_ssn_cleared}
use Rattle.bridge_api.specs.declared.port.BridgePort.{BridgePort}
use Rattle.bridge_api.specs.declared.outbox.Outbox.{Outbox}
use Rattle.bridge_api.specs.View.{is_port_up}
use Rattle.bridge_api.specs.Step.{with_wire, Gains}
use Rattle.bridge_control.specs.Frames.{frames_held}
use Rattle.bridge_api.specs.Ticking.{lsp_frame, lsps_at, after_sending_at}
use Rattle.bridge_control.proofs.Wire.{drop_at, frames_among, among_next, among_some, among_split, among_sent, sent_as, sent_none}

or_parts : (a b : Bool) → (a || b) ≡ false → (a ≡ false) × (b ≡ false)
or_parts true b e = cc
or_parts false b e = (refl, e)

-- no flags stand in these
abbrev AreIdle : List (LspId × Entry) → Type 0
AreIdle es = list_any (λ (e : LspId × Entry). has_flags e.1) es ≡ false

idle_first : (e : LspId × Entry) (es : List (LspId × Entry)) → AreIdle (e ∷ es) → (has_flags e.1 ≡ false) × AreIdle es
idle_first e es none = or_parts (has_flags e.1) (list_any (λ (d : LspId × Entry). has_flags d.1) es) none

-- ---- sending clears SSN at most

still_idle : (p : ℕ) (e : Entry) → has_flags e ≡ false → has_flags (ssn_cleared p e) ≡ false
still_idle p e none = ap (λ b. has_flags (if b then with_ssn p false e else e)) (none_in e.ssn (or_parts (has_ports e.srm) (has_ports e.ssn) none).1 p) ∙ none

pub after_sending_within : (ps : List ℕ) (p : ℕ) (port : BridgePort) (db : Lsps) → AreFlagsAt 0 ps (entries db) → AreFlagsAt 0 ps (entries (after_sending_at p port db))
after_sending_within ps p port db flags = by_test (is_port_up port)
  where
    by_test : (b : Bool) → AreFlagsAt 0 ps (entries (if b then all_ssn_cleared p db else db))
    by_test true =
        subst (λ (es : List (LspId × Entry)). AreFlagsAt 0 ps es) (sym (entries-each (λ id e. ssn_cleared p e) db))
        (flags_mapped_at (λ (e : LspId × Entry). (e.0, ssn_cleared p e.1)) (λ e none. still_idle p e.1 none) 0 ps (entries db) flags)
    by_test false = flags

-- ---- ports of the LSPs at these places are all

-- a port isn't in this set of the LSP at a place, if there is one
abbrev pub IsUnmarked : (Entry → PortSet) → List (LspId × Entry) → ℕ → ℕ → Type 0
IsUnmarked f es p q = (e : LspId × Entry) → slice_get es q ≡ Some e → has (f e.1) p ≡ false

pub all_next : (P : ℕ → Type 0) (ps : List ℕ) (k d : ℕ) → k < length ps → AllByRecursion P (take k ps) → P (get_or ps k d) → AllByRecursion P (take (suc k) ps)
all_next P [] k d within all next = absurd (omega arith)
all_next P (p ∷ ps) zero d within all next = (next, tt)
all_next P (p ∷ ps) (suc k) d within all next = (all.0, all_next P ps k d (omega arith) all.1 next)

or_false : (a b : Bool) → a ≡ false → b ≡ false → (a || b) ≡ false
or_false a b e f = ap (λ c. c || b) e ∙ f

-- a set that has a port only where flags stand
abbrev pub IsFlag : (Entry → PortSet) → ℕ → Type 0
IsFlag f p = (e : Entry) → has_flags e ≡ false → has (f e) p ≡ false

pub srm_is_flag : (p : ℕ) → IsFlag (λ e. e.srm) p
srm_is_flag p e none = none_in e.srm (or_parts (has_ports e.srm) (has_ports e.ssn) none).0 p

pub ssn_is_flag : (p : ℕ) → IsFlag (λ e. e.ssn) p
ssn_is_flag p e none = none_in e.ssn (or_parts (has_ports e.srm) (has_ports e.ssn) none).1 p

idle_unmarked : (f : Entry → PortSet) (p : ℕ) → IsFlag f p → (es : List (LspId × Entry)) → AreIdle es → list_any (λ (e : LspId × Entry). has (f e.1) p) es ≡ false
idle_unmarked f p flag [] none = refl
idle_unmarked f p flag (e ∷ es) none =
    let parts = idle_first e es none in
    or_false (has (f e.1) p) (list_any (λ (d : LspId × Entry). has (f d.1) p) es) (flag e.1 parts.0) (idle_unmarked f p flag es parts.1)

unmarked_past : (f : Entry → PortSet) (p : ℕ) → IsFlag f p → (n q : ℕ) (es : List (LspId × Entry)) → n ≤ q → AreIdle (drop n (take q es)) → IsUnmarked f es p q
    → list_any (λ (e : LspId × Entry). has (f e.1) p) (drop (suc q) es) ≡ false → list_any (λ (e : LspId × Entry). has (f e.1) p) (drop n es) ≡ false
unmarked_past f p flag zero zero [] le gap here rest = refl
unmarked_past f p flag zero (suc q) [] le gap here rest = refl
unmarked_past f p flag (suc n) zero [] le gap here rest = refl
unmarked_past f p flag (suc n) (suc q) [] le gap here rest = refl
unmarked_past f p flag zero zero (e ∷ es) le gap here rest = or_false (has (f e.1) p) _ (here e refl) rest
unmarked_past f p flag zero (suc q) (e ∷ es) le gap here rest =
    let parts = idle_first e (take q es) gap in
    or_false (has (f e.1) p) _ (flag e.1 parts.0) (unmarked_past f p flag zero q es (omega arith) parts.1 here rest)
unmarked_past f p flag (suc n) zero (e ∷ es) le gap here rest = absurd (omega arith)
unmarked_past f p flag (suc n) (suc q) (e ∷ es) le gap here rest = unmarked_past f p flag n q es (omega arith) gap here rest

unmarked_from : (f : Entry → PortSet) (p : ℕ) → IsFlag f p → (n : ℕ) (ps : List ℕ) (es : List (LspId × Entry)) → AreFlagsAt n ps es → AllByRecursion (IsUnmarked f es p) ps
    → list_any (λ (e : LspId × Entry). has (f e.1) p) (drop n es) ≡ false
unmarked_from f p flag n [] es flags all = idle_unmarked f p flag (drop n es) flags
unmarked_from f p flag n (q ∷ ps) es flags all = unmarked_past f p flag n q es flags.0 flags.2 all.0 (unmarked_from f p flag (suc q) ps es flags.3 all.1)

-- a port that is in the set of no LSP at these places is in that of no LSP at all
pub unmarked_all : (f : Entry → PortSet) (p k : ℕ) (ps : List ℕ) (es : List (LspId × Entry)) → IsFlag f p → length ps ≤ k → AreFlagsAt 0 ps es → AllByRecursion (IsUnmarked f es p) (take k ps)
    → list_any (λ (e : LspId × Entry). has (f e.1) p) es ≡ false
unmarked_all f p k ps es flag past flags all = unmarked_from f p flag 0 ps es flags (subst (AllByRecursion (IsUnmarked f es p)) (take_all k ps past) all)

-- the LSP at one place more
pub unmarked_next : (f : Entry → PortSet) (p k d : ℕ) (ps : List ℕ) (es : List (LspId × Entry)) (was at now : PortSet) → k < length ps → (has was p ≡ false → AllByRecursion (IsUnmarked f es p) (take k ps))
    → ((e : LspId × Entry) → slice_get es (get_or ps k d) ≡ Some e → at ≡ f e.1) → has now p ≡ (has was p || has at p) → has now p ≡ false → AllByRecursion (IsUnmarked f es p) (take (k + 1) ps)
unmarked_next f p k d ps es was at now within before here both none =
    let parts = or_parts (has was p) (has at p) (sym both ∙ none) in
    subst (λ n. AllByRecursion (IsUnmarked f es p) (take n ps)) (sym (add-one k))
    (all_next (IsUnmarked f es p) ps k d within (before parts.0) (λ e is. sym (ap (λ (s : PortSet). has s p) (here e is)) ∙ parts.1))

-- ---- LSPs are sent where flags stand

none_among : (system : SystemId) (p : ℕ) (es : List (LspId × Entry)) → AreIdle es → frames_among system p es ≡ []
none_among system p [] none = refl
none_among system p (e ∷ es) none =
    let parts = idle_first e es none in
    ap (λ b. (if b then (p, lsp_frame system (lsp_in e.0 e.1)) ∷ [] else []) ++ frames_among system p es) (none_in e.1.srm (or_parts (has_ports e.1.srm) (has_ports e.1.ssn) parts.0).0 p)
    ∙ none_among system p es parts.1

-- between two places
among_past : (system : SystemId) (p n q : ℕ) (es : List (LspId × Entry)) → n ≤ q → AreIdle (drop n (take q es)) → frames_among system p (take n es) ≡ frames_among system p (take q es)
among_past system p zero zero [] le none = refl
among_past system p zero (suc q) [] le none = refl
among_past system p (suc n) zero [] le none = refl
among_past system p (suc n) (suc q) [] le none = refl
among_past system p zero zero (e ∷ es) le none = refl
among_past system p zero (suc q) (e ∷ es) le none = sym (none_among system p (e ∷ take q es) none)
among_past system p (suc n) zero (e ∷ es) le none = absurd (omega (arith, le))
among_past system p (suc n) (suc q) (e ∷ es) le none = ap (λ (fs : List (ℕ × List ℕ)). frames_held system p (Some e) ++ fs) (among_past system p n q es (omega (arith, le)) none)

-- what was sent before these places
pub record Sends (system : SystemId) (p : ℕ) (ps : List ℕ) (es : List (LspId × Entry)) (o new : Outbox) : Type 0 where
  pub place : ℕ
  pub flags : AreFlagsAt place ps es
  pub sent : new ≡ with_wire (frames_among system p (take place es)) o

pub sends_none : (system : SystemId) (p : ℕ) (ps : List ℕ) (es : List (LspId × Entry)) (o : Outbox) → AreFlagsAt 0 ps es → Sends system p ps es o o
sends_none system p ps es o flags = record { place = 0; flags = flags; sent = sent_none o }

-- the LSP at the next place
pub sends_next : (system : SystemId) (p q : ℕ) (ps : List ℕ) (es : List (LspId × Entry)) (o mid new : Outbox) → Sends system p (q ∷ ps) es o mid → new ≡ with_wire (frames_held system p (slice_get es q)) mid → Sends system p ps es o new
sends_next system p q ps es o mid new was is = record {
  place = suc q;
  flags = was.flags.3;
  sent = subst (λ n. new ≡ with_wire (frames_among system p (take n es)) o) (add-one q)
      (among_next system p es q o mid new (sent_as _ _ o mid (among_past system p was.place q es was.flags.0 was.flags.2) was.sent) is);
}

pub sends_all : (system : SystemId) (p : ℕ) (db : Lsps) (o new : Outbox) → Sends system p [] (entries db) o new → new ≡ with_wire (lsps_at system p db) o
sends_all system p db o new h =
    let es = entries db in
    let some = frames_among system p (take h.place es) in
    sent_as some (lsps_at system p db) o new
    (sym (append-nil some)
    ∙ (ap (λ (fs : List (ℕ × List ℕ)). some ++ fs) (sym (none_among system p (drop h.place es) h.flags))
    ∙ (sym (among_split system p es h.place) ∙ among_sent system p db)))
    h.sent

pub sends_some : (system : SystemId) (p : ℕ) (ps : List ℕ) (db : Lsps) (o mid new : Outbox) → Sends system p ps (entries db) o mid → new ≡ mid → Gains (lsps_at system p db) o new
sends_some system p ps db o mid new h kept = among_some system p db h.place o new (kept ∙ h.sent)

-- ---- the places that are left

pub next_place : (ps : List ℕ) (k d : ℕ) → k < length ps → drop k ps ≡ get_or ps k d ∷ drop (k + 1) ps
next_place ps k d within = drop_at ps k d within ∙ ap (λ n. get_or ps k d ∷ drop n ps) (sym (add-one k))

pub no_place : (ps : List ℕ) (k : ℕ) → length ps ≤ k → drop k ps ≡ []
no_place ps k past = drop_of_length-le ps past
